use Rattle.std.proofs.Common.{◌<◌, arith}
use Rattle.redundancy.proofs.UserWords.{users_more}
use Rattle.redundancy.proofs.users.users_of.Goals as goal

pub loop-k-preserved : goal.loop-k-preserved
loop-k-preserved g c =
    let few : c.loop-k.k < 64 = omega (arith, c.loop-k-test.true, c.requires.few) in
    users_more c.args.sets.now c.index-sets-k.result c.loop-k.k c.loop-k.users c.note.new.users few c.loop-k-test.true c.index-sets-k.is c.loop-k.invariant c.note.ensures.noted c.note.ensures.kept c.note.ensures.all
