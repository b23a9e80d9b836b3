use Rattle.std.proofs.Common.{◌<◌, sym, ◌∙◌, arith}
use Rattle.std.proofs.lemmas.Bool.{false≢true}
use Rattle.redundancy.proofs.Bits.{zero_bit}
use Rattle.redundancy.proofs.Meetings.{told_meet, told_skip, told-end}
use Rattle.redundancy.proofs.rows.meeting.Goals as goal
use Rattle.redundancy.proofs.rows.meeting.Goals.{then-meets, else-meets}

pub loop-k-init : goal.loop-k-init
loop-k-init g c = record { told = λ j d less. absurd (omega (arith, less)); blank = λ j from. zero_bit j }

pub loop-k-preserved : goal.loop-k-preserved
loop-k-preserved g c =
    let few : c.loop-k.k < 64 = omega (arith, c.loop-k-test.true, c.requires.few) in
    elim c.if-meets.branch [
      | then-meets w ↦ told_meet c.args.sets.now c.args.set.now c.index-sets-k.result c.loop-k.k c.loop-k.word few c.loop-k-test.true c.index-sets-k.is c.loop-k.invariant c.if-meets.word w.word-is (c.meets.ensures.0 w.if-meets.true)
      | else-meets w ↦ told_skip c.args.sets.now c.args.set.now c.index-sets-k.result c.loop-k.k c.loop-k.word few c.loop-k-test.true c.index-sets-k.is c.loop-k.invariant c.if-meets.word w.word-is (λ m. false≢true (sym w.if-meets.false ∙ c.meets.ensures.1 m))
    ]

pub returns : goal.returns
returns g c = told-end c.args.sets.now c.args.set.now c.loop-k.k c.loop-k.word c.loop-k-test.false c.loop-k.invariant
