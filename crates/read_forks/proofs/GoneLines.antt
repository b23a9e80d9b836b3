-- Where lines stand after the firing of a node that has let them pass.
use Rattle.std.proofs.Common.{◌≡◌, ◌<◌, ℕ, zero, suc, ◌==◌, ◌&&◌, Bool, true, false, not, if◌then◌else◌, List, [], ◌∷◌, length, Option, Some, None, is_some, Result, Ok, Err, slice_get, slice_index, slice_set, refl, sym, ap, ◌∙◌, subst, eqb-true, arith}
use Rattle.std.proofs.lemmas.Bool.{and_parts}
use Rattle.std.specs.List.{list_all}
use Rattle.list_laws.specs.Member.{Member}
use Rattle.op_table.specs.declared.Trap.{Trap}
use Rattle.closed_walks.specs.Graph.{to}
use Rattle.cfg_build.specs.Passes.{out}
use Rattle.firing.specs.declared.system.NodeName.TheVariants.{Op}
use Rattle.net_board.specs.Nodes.{graph_in}
use Rattle.net_board.specs.Tokens.{edge_of, is_before, joined, led_from, leads_to}
use Rattle.net_board.proofs.ListPlaces.{all_pass, put, with_all_other, with_all_same}
use Rattle.net_board.proofs.NodeLaws.{get_some}
use Rattle.op_board.specs.Effects.{Effect}
use Rattle.op_board.specs.Operations.{Operation}
use Rattle.op_board.specs.OperationNets.{OperationNet, last_needed, needed, needing_before, operation_at}
use Rattle.op_board.specs.OperationTokens.{OperationTokens, has_room, is_given, operated, operated_on, passed_after, passed_by, ready_as, replaced, stands_before, stopped_by, value_at, zero_effect}
use Rattle.op_board.specs.SoundOperationNets.{IsOperationMarking}
use Rattle.op_board.proofs.NeededLines.{last_has, needed_has}
use Rattle.op_board.proofs.ReplacedItems.{index_is, replaced_same}
use Rattle.read_forks.specs.LedLines.{HasPassed}

first_of_four : (a b c d : Bool) → (a && b && c && d) ≡ true → a ≡ true
first_of_four true b c d is = refl
first_of_four false b c d is = absurd cc

leads_on : (x : OperationNet) (piece edge : ℕ) (o : Option ℕ) → o ≡ Some edge → leads_to (graph_in x.net) piece o ≡ true → to (graph_in x.net) edge ≡ piece
leads_on x piece edge o is leads = eqb-true (to (graph_in x.net) edge) piece (sym (ap (leads_to (graph_in x.net) piece) is) ∙ leads)

-- what is put where something stood
put_there : (xs ys : Option ℕ) (n old : ℕ) → xs ≡ put n ys → ys ≡ Some old → xs ≡ Some n
put_there xs ys n old is there = is ∙ ap (put n) there

vanished : {P : Type 0} (o : Option (Option ℕ)) (edge : ℕ) → joined (put None o) ≡ Some edge → P
vanished None edge is = absurd cc
vanished (Some old) edge is = absurd cc

-- a line that is set down to have passed nothing
pub passed_none : (passed : List ℕ) (line : ℕ) → line < length passed → slice_index (slice_set passed line 0) line ≡ 0
passed_none [] line low = absurd (omega (arith, low))
passed_none (n ∷ passed) zero low = refl
passed_none (n ∷ passed) (suc line) low = passed_none passed line (omega (arith, low))

module _ (x : OperationNet) (m : OperationTokens) (marking : IsOperationMarking x m) (k piece i line : ℕ) (ready : ready_as x m k (Op piece i) ≡ true) (among : Member (needed x piece i) line) where
  abbrev op : Operation
  op = operation_at x piece i

  stood : stands_before x m piece i line ≡ true
  stood = all_pass (stands_before x m piece i) (needed x piece i) line
      (first_of_four (list_all (stands_before x m piece i) (needed x piece i)) (list_all (is_given x m piece) op.operands) (not (is_some (value_at m k))) (has_room x m piece op.work) ready)
      among

  -- the operation has let the line pass
  worked : (e : Effect) (edge : ℕ) → edge_of (operated_on x m k piece i op e).tokens line ≡ Some edge → HasPassed x (operated_on x m k piece i op e) piece i line edge
  worked e edge stands = record {
    within = λ more. leads_on x piece edge (edge_of m.tokens line)
        (sym (ap joined (with_all_other m.tokens.lines (last_needed x piece i) (led_from x.net (out (graph_in x.net) piece e.choice)) line
        (λ last. let f : true ≡ false = sym ((last_has x piece i line last).2) ∙ more in absurd cc))) ∙ stands)
        (and_parts (is_before x.net m.tokens piece line) (passed_by m line == needing_before x piece i line) stood).0;
    after = λ more. passed ∙ ap (λ b. if b then 0 else suc (passed_by m line)) more
        ∙ ap suc (eqb-true (passed_by m line) (needing_before x piece i line) (and_parts (is_before x.net m.tokens piece line) (passed_by m line == needing_before x piece i line) stood).1);
    left = λ last. passed ∙ ap (λ b. if b then 0 else suc (passed_by m line)) last;
  }
    where
      low : line < length m.passed
      low = let e = (needed_has x piece i line among).0 in subst (λ n. line < n) (sym marking.passed) e

      passed : passed_by (operated_on x m k piece i op e) line ≡ passed_after x m piece i line
      passed =
          let old = get_some x.net m.passed line low in
          index_is (replaced m.passed (needed x piece i) (passed_after x m piece i)) line (passed_after x m piece i line)
          (put_there (slice_get (replaced m.passed (needed x piece i) (passed_after x m piece i)) line) (slice_get m.passed line) (passed_after x m piece i line) old.0
          (replaced_same m.passed (needed x piece i) (passed_after x m piece i) line among) old.1)

  pub passed_on : (r : Result Effect Trap) (edge : ℕ) → edge_of (operated x m k piece i op r).tokens line ≡ Some edge → HasPassed x (operated x m k piece i op r) piece i line edge
  passed_on (Ok e) edge stands = worked e edge stands
  passed_on (Err trap) edge stands = by (x.needs piece i 0) stands
    where
      stopped : edge_of (stopped_by x m piece i op trap).tokens line ≡ Some edge → HasPassed x (stopped_by x m piece i op trap) piece i line edge
      stopped stands = vanished (slice_get m.tokens.lines line) edge (sym (ap joined (with_all_same m.tokens.lines (needed x piece i) (λ l. None) line among)) ∙ stands)

      by : (b : Bool) → edge_of (if b then stopped_by x m piece i op trap else operated_on x m k piece i op (zero_effect m op.work)).tokens line ≡ Some edge
          → HasPassed x (if b then stopped_by x m piece i op trap else operated_on x m k piece i op (zero_effect m op.work)) piece i line edge
      by true stands = stopped stands
      by false stands = worked (zero_effect m op.work) edge stands
