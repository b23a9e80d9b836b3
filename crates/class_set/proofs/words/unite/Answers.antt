use Rattle.std.proofs.Common.{arith, ⊎_elim, ◌<◌, ◌≤◌, ◌/◌, ◌∙◌}
use Rattle.std.proofs.lemmas.Bool.{cases_lt}
use Rattle.class_set.proofs.Bits.{bit_of-or, or_past}
use Rattle.class_set.proofs.words.unite.Goals as goal

pub returns : goal.returns
returns c = λ k. bit_of-or c.args.words.now c.args.others.now c.loop-i.words k
    (⊎_elim
    (λ (h : k / 64 < c.loop-i.i). c.loop-i.invariant.done (k / 64) h)
    (λ (h : c.loop-i.i ≤ k / 64). c.loop-i.invariant.rest (k / 64) h ∙ or_past c.args.words.now c.args.others.now (k / 64) (omega arith) (omega arith))
    (cases_lt (k / 64) c.loop-i.i))
