use Rattle.std.proofs.Common.{arith}
use Rattle.firing.proofs.CountLemmas.{block_few}
use Rattle.firing.proofs.WordLemmas.{length_seen, place_short, member_at}
use Rattle.firing.proofs.ready_set.ReadySet.at.Goals as goal

pub index-word-requires : goal.index-word-requires
index-word-requires c =
    grind (arith, block_few c.args.self.now 64 c.args.place c.word-b.result.0 c.word-b.result.1 c.requires c.word-b.ensures, length_seen)

pub set_digit-digit-requires : goal.set_digit-digit-requires
set_digit-digit-requires c = search (place_short, arith)

pub overflow_mul-result : goal.overflow_mul-result
overflow_mul-result c =
    grind (arith, block_few c.args.self.now 64 c.args.place c.word-b.result.0 c.word-b.result.1 c.requires c.word-b.ensures, length_seen)

pub overflow_cast-result : goal.overflow_cast-result
overflow_cast-result c =
    grind (arith, block_few c.args.self.now 64 c.args.place c.word-b.result.0 c.word-b.result.1 c.requires c.word-b.ensures, length_seen)

pub overflow_add-result : goal.overflow_add-result
overflow_add-result c =
    let s = c.self.inside in
    let member = member_at s.words.items s.room c.args.self.now c.self.invariant.0 c.self.view_is c.args.place c.word-b.result.0 c.word-b.result.1 c.index-word.result.now c.set_digit-digit.result c.requires c.word-b.ensures c.index-word.ensures c.set_digit-digit.ensures in
    let inside = member.inside in
    let room = length_seen s.words.items s.room c.args.self.now c.self.view_is in
    let fits = c.self.invariant.0.room_fits in
    omega (arith, inside, room, fits)

pub returns : goal.returns
returns c = search (member_at, arith)
