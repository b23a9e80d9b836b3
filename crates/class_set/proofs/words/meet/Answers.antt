use Rattle.std.proofs.Common.{arith, refl, ◌<◌, ◌≤◌, ◌/◌, ⊎_elim}
use Rattle.std.proofs.lemmas.Bool.{cases_lt, false≢true}
use Rattle.class_set.proofs.Bits.{common_bit, no_common, no_common_past, Common}
use Rattle.class_set.proofs.words.meet.Goals as goal

pub returns-then-words-i-ne0 : goal.returns-then-words-i-ne0
returns-then-words-i-ne0 c =
    let found : Common c.args.words.now c.args.others.now = common_bit c.args.words.now c.args.others.now c.loop-i.i c.if-words-i-ne0.true (omega (arith, c.type_inv.words c.loop-i.i)) (omega (arith, c.type_inv.others c.loop-i.i)) in
    (λ _. (found.number, found.first, found.second), λ _. refl)

pub returns : goal.returns
returns c = (
  λ h. absurd (false≢true h),
  λ (k, first, second).
      ⊎_elim
      (λ (h : k / 64 < c.loop-i.i). absurd (no_common c.args.words.now c.args.others.now k (c.loop-i.invariant (k / 64) h) first second))
      (λ (h : c.loop-i.i ≤ k / 64). absurd (no_common_past c.args.words.now k (omega arith) first))
      (cases_lt (k / 64) c.loop-i.i),
)
