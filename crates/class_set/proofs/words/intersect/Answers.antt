use Rattle.std.proofs.Common.{arith, ⊎_elim, ◌<◌, ◌≤◌, ◌/◌}
use Rattle.std.proofs.lemmas.Bool.{cases_lt}
use Rattle.class_set.specs.Members.{bit_of}
use Rattle.class_set.proofs.Bits.{bit_of-and, bit_of-kept}
use Rattle.class_set.proofs.words.intersect.Goals as goal

pub returns : goal.returns
returns c = λ k. ⊎_elim
    (λ (h : k / 64 < c.loop-i.i). bit_of-and c.args.words.now c.args.others.now c.loop-i.words k (c.loop-i.invariant.done (k / 64) h))
    (λ (h : c.loop-i.i ≤ k / 64). bit_of-kept c.args.words.now c.loop-i.words k (bit_of c.args.others.now k) (omega arith) (c.loop-i.invariant.rest (k / 64) h))
    (cases_lt (k / 64) c.loop-i.i)
