-- What the last pass of a chain does is what the executable does.
use Rattle.std.proofs.Common.{◌≡◌, ℕ, ◌-◌, ◌<◌, ◌≤◌, ℤ, pos, negsuc, ◌-ℤ◌, ◌≤ℤ◌, Bool, true, false, cond, if◌then◌else◌, nat_lt, List, [], length, Result, Ok, Err, slice_index, slice_set, refl, sym, ap, arith}
use Rattle.std.proofs.lemmas.Int.{ints}
use Rattle.std.proofs.lemmas.List.{length-append, get_or-set_same}
use Rattle.closed_walks.specs.Graph.{to}
use Rattle.op_table.specs.declared.Trap.{Trap}
use Rattle.op_table.specs.Operators.{which_of_three, picked}
use Rattle.op_table.specs.Trips.{at_least_zero}
use Rattle.f77_tree.specs.declared.programs.ExecKind.{ExecKind}
use Rattle.f77_tree.specs.declared.programs.Program.{Program}
use Rattle.f77_tree.specs.Control.{successors}
use Rattle.f77_tree.specs.Execution.{Memory, Outcome, Goes, Stops, Ends, outcome, assigned, printed, branched, do_begun, do_incremented}
use Rattle.f77_tree.specs.Value.{and_then}
use Rattle.cfg_build.specs.Joined.{FlowGraph}
use Rattle.cfg_build.specs.Passes.{Passed, Along, Traps, Done, acted, branched as taken, pass_of}
use Rattle.cfg_build.specs.Chains.{has_test}
use Rattle.cfg_build.specs.Routes.{last_kind}

-- ---- which edge a selector takes

pub sign_below : (z : ℤ) → at_least_zero (which_of_three z) < 3
sign_below h = grind arith

at_least_zero-le : (z : ℤ) (n : ℕ) → z ≤ℤ pos n → at_least_zero z ≤ n
at_least_zero-le (pos k) n le = omega (arith, ints, le)
at_least_zero-le (negsuc k) n le = omega arith

pub picked-le : (v : ℤ) (n : ℕ) → at_least_zero (picked v (pos n)) ≤ n
picked-le v n = grind (arith, pos 1, pos n, pos, at_least_zero-le (v -ℤ pos 1) n, ints)

module _ (f : FlowGraph) (entry : ℕ → ℕ) where
  -- the pass goes on to where the outcome goes on, in the same memory after the same text, or traps or ends as it does
  abbrev pub Fits : Passed → Outcome → Type 0
  Fits (Along edge memory text) (Goes next new written) = (to f.graph edge ≡ entry next) × (memory ≡ new) × (text ≡ written)
  Fits (Traps trap) (Stops other) = trap ≡ other
  Fits Done Ends = Unit {0}
  Fits _ _ = ⊥

  assigned_fits : (m : Memory) (next words edge : ℕ) (a : Result ℕ Trap) (b : Result ℤ Trap) → to f.graph edge ≡ entry next → Fits (acted edge (assigned m next words a b)) (assigned m next words a b)
  assigned_fits m next words edge h b leads = grind arith

  printed_fits : (m : Memory) (next edge : ℕ) (line : Result (List ℕ) Trap) → to f.graph edge ≡ entry next → Fits (acted edge (printed m next line)) (printed m next line)
  printed_fits m next edge (Err trap) leads = refl
  printed_fits m next edge (Ok line) leads = (leads, refl, refl)

  two_lead : (out : ℕ → ℕ) (b : Bool) (body' exit' : ℕ) → to f.graph (out 0) ≡ entry body' → to f.graph (out 1) ≡ entry exit' → to f.graph (out (cond b 0 1)) ≡ entry (cond b body' exit')
  two_lead out true body' exit' first second = first
  two_lead out false body' exit' first second = second

  branch_fits : (m : Memory) (out next_at : ℕ → ℕ) (index : ℤ → ℕ) (next_of : ℤ → ℕ) (r : Result ℤ Trap) → ((z : ℤ) → to f.graph (out (index z)) ≡ entry (next_of z)) → Fits (taken m out (and_then (λ z. Ok (index z)) r)) (branched m next_of r)
  branch_fits m out next_at index next_of (Err trap) leads = refl
  branch_fits m out next_at index next_of (Ok z) leads = (leads z, refl, refl)

  -- the last pass of an executable that is one part
  pub last_fits : (p : Program) (input : List ℤ) (m : Memory) (out : ℕ → ℕ) (kind : ExecKind) → has_test kind ≡ false → ((i : ℕ) → i < length (successors kind) → to f.graph (out i) ≡ entry (slice_index (successors kind) i)) → Fits (pass_of p input m out (last_kind kind) kind) (outcome p.names input m kind)
  last_fits p input m out h h2 leads = search (assigned_fits, printed_fits, branch_fits, two_lead, sign_below, pos, picked-le, length-append, arith)

-- ---- a DO that begins or is incremented

-- it goes on as the new count says, without a text, or traps
abbrev pub Tested : (loop_no body exit : ℕ) → Outcome → Type 0
Tested loop_no body exit (Goes next m text) = (text ≡ []) × (next ≡ (if nat_lt 0 (slice_index m.counts loop_no) then body else exit))
Tested loop_no body exit (Stops trap) = Unit {0}
Tested loop_no body exit Ends = ⊥

next_by : (counts : List ℕ) (loop_no count body exit : ℕ) → loop_no < length counts → (if nat_lt 0 count then body else exit) ≡ (if nat_lt 0 (slice_index (slice_set counts loop_no count) loop_no) then body else exit)
next_by counts loop_no count body exit few = ap (λ n. cond (nat_lt 0 n) body exit) (sym (get_or-set_same counts loop_no count 0 few))

pub start_tested : (m : Memory) (loop_no word body exit : ℕ) (a b c : Result ℤ Trap) → loop_no < length m.counts → Tested loop_no body exit (do_begun m loop_no word body exit a b c)
start_tested m loop_no word body exit h b c few = grind (arith, pos, next_by)

pub next_tested : (m : Memory) (loop_no word body exit : ℕ) → loop_no < length m.counts → Tested loop_no body exit (do_incremented m loop_no word body exit)
next_tested m loop_no word body exit few = (refl, next_by m.counts loop_no (slice_index m.counts loop_no - 1) body exit few)
