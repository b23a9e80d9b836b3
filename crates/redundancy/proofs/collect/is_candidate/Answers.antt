use Rattle.std.proofs.Common.{◌≡◌, ◌⊎◌, true, false, sym, ◌∙◌, inl, inr}
use Rattle.std.specs.List.{list_any}
use Rattle.std.proofs.lemmas.Bool.{false≢true}
use Rattle.redundancy.specs.Candidates.{is_scalar}
use Rattle.redundancy.specs.Collected.{all_plain}
use Rattle.redundancy.proofs.Operands.{told_yes, told_no}
use Rattle.redundancy.proofs.collect.is_candidate.Goals as goal
use Rattle.redundancy.proofs.collect.is_candidate.Goals.{then-are_plain, else-are_plain}

pub returns-then-has_scalar : goal.returns-then-has_scalar
returns-then-has_scalar c =
    let plain : all_plain c.args.args.now ≡ true = elim c.if-are_plain.branch [ then-are_plain w ↦ sym c.are_plain.ensures ∙ w.if-are_plain.true | else-are_plain w ↦ absurd (false≢true (sym w.if-are_plain.false ∙ sym w.value-is ∙ c.if-has_scalar.true)) ] in
    let scalar : list_any is_scalar c.args.args.now ≡ true = elim c.if-are_plain.branch [ then-are_plain w ↦ sym w.has_scalar.ensures ∙ sym w.value-is ∙ c.if-has_scalar.true | else-are_plain w ↦ absurd (false≢true (sym w.if-are_plain.false ∙ sym w.value-is ∙ c.if-has_scalar.true)) ] in
    told_yes c.args.op c.args.args.now c.args.values.now c.may_trap.result c.requires.known plain scalar c.may_trap.ensures

pub returns-else-has_scalar : goal.returns-else-has_scalar
returns-else-has_scalar c =
    let why : (all_plain c.args.args.now ≡ false) ⊎ (list_any is_scalar c.args.args.now ≡ false) = elim c.if-are_plain.branch [ then-are_plain w ↦ inr (sym w.has_scalar.ensures ∙ sym w.value-is ∙ c.if-has_scalar.false) | else-are_plain w ↦ inl (sym c.are_plain.ensures ∙ w.if-are_plain.false) ] in
    told_no c.args.op c.args.args.now c.if-are_plain.value c.if-has_scalar.false why
