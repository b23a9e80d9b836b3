-- An executable keeps the number of the counts.
use Rattle.std.proofs.Common.{◌≡◌, ℕ, ℤ, List, length, Result, Ok, Err, slice_index, refl}
use Rattle.std.proofs.lemmas.List.{length-set}
use Rattle.op_table.specs.declared.Trap.{Trap}
use Rattle.f77_tree.specs.declared.programs.ExecKind.{ExecKind}
use Rattle.f77_tree.specs.declared.programs.NameInfo.{NameInfo}
use Rattle.f77_tree.specs.Execution.{Memory, Outcome, outcome, assigned, printed, branched, do_begun}
use Rattle.f77_tree.specs.Steps.{IfGoes}
use Rattle.std.proofs.Common.{arith}

abbrev Keeps : Memory → Outcome → Type 0
Keeps m o = IfGoes o (λ next new text. length new.counts ≡ length m.counts)

assigned_keeps : (m : Memory) (next words : ℕ) (a : Result ℕ Trap) (b : Result ℤ Trap) → Keeps m (assigned m next words a b)
assigned_keeps m next words h b = grind arith

printed_keeps : (m : Memory) (next : ℕ) (line : Result (List ℕ) Trap) → Keeps m (printed m next line)
printed_keeps m next (Err trap) = tt
printed_keeps m next (Ok line) = refl

branched_keeps : (m : Memory) (next_of : ℤ → ℕ) (r : Result ℤ Trap) → Keeps m (branched m next_of r)
branched_keeps m next_of (Err trap) = tt
branched_keeps m next_of (Ok z) = refl

begun_keeps : (m : Memory) (loop_no word body exit : ℕ) (a b c : Result ℤ Trap) → Keeps m (do_begun m loop_no word body exit a b c)
begun_keeps m loop_no word body exit h b c = grind (arith, length-set)

pub counts_kept : (names : List NameInfo) (input : List ℤ) (m : Memory) (kind : ExecKind) → IfGoes (outcome names input m kind) (λ next new text. length new.counts ≡ length m.counts)
counts_kept names input m h = grind (arith, assigned_keeps, printed_keeps, branched_keeps, begun_keeps, length-set, slice_index)
