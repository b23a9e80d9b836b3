use Rattle.std.proofs.Common.{ap, arith}
use Rattle.firing.specs.BlockCounts.{flags_of, shifted}
use Rattle.firing.proofs.CountLemmas.{all_put, low_shifts, mid_shifts, high_shifts, total_fits, total_some}
use Rattle.firing.proofs.PutLemmas.{changes, puts, stays, word_within}
use Rattle.firing.proofs.WordLemmas.{length_flags}
use Rattle.firing.proofs.ready_set.ReadySet.put.Goals as goal

pub index-word-requires : goal.index-word-requires
index-word-requires c = grind (arith, word_within)

pub index_mut-requires : goal.index_mut-requires
index_mut-requires c = grind (arith, word_within)

pub returns-then-word-digit : goal.returns-then-word-digit
returns-then-word-digit c = grind (arith, stays)

pub shift_blocks-requires-clause-low : goal.shift_blocks-requires-clause-low
shift_blocks-requires-clause-low c =
    let s = c.self.inside in
    let flags = flags_of s.words.items s.room in
    let change = changes s.words.items s.room c.args.self.now c.self.invariant.0 c.self.view_is c.args.k c.index-word.result.now c.requires c.index-word.ensures c.args.ready c.if-word-digit.false in
    low_shifts flags s.low.items s.mid.items s.high.items s.total s.room c.self.invariant.1 (length_flags s.words.items s.room) c.args.k c.args.ready change.inside change.differs

pub shift_blocks-requires-clause-mid : goal.shift_blocks-requires-clause-mid
shift_blocks-requires-clause-mid c =
    let s = c.self.inside in
    let flags = flags_of s.words.items s.room in
    let change = changes s.words.items s.room c.args.self.now c.self.invariant.0 c.self.view_is c.args.k c.index-word.result.now c.requires c.index-word.ensures c.args.ready c.if-word-digit.false in
    mid_shifts flags s.low.items s.mid.items s.high.items s.total s.room c.self.invariant.1 (length_flags s.words.items s.room) c.args.k c.args.ready change.inside change.differs

pub shift_blocks-requires-clause-high : goal.shift_blocks-requires-clause-high
shift_blocks-requires-clause-high c =
    let s = c.self.inside in
    let flags = flags_of s.words.items s.room in
    let change = changes s.words.items s.room c.args.self.now c.self.invariant.0 c.self.view_is c.args.k c.index-word.result.now c.requires c.index-word.ensures c.args.ready c.if-word-digit.false in
    high_shifts flags s.low.items s.mid.items s.high.items s.total s.room c.self.invariant.1 (length_flags s.words.items s.room) c.args.k c.args.ready change.inside change.differs

pub overflow_add-self : goal.overflow_add-self
overflow_add-self c =
    let s = c.self.inside in
    let flags = flags_of s.words.items s.room in
    let change = changes s.words.items s.room c.args.self.now c.self.invariant.0 c.self.view_is c.args.k c.index-word.result.now c.requires c.index-word.ensures c.args.ready c.if-word-digit.false in
    let bound = total_fits flags c.args.k c.args.ready change.inside change.differs c.if-ready.true in
    let room = length_flags s.words.items s.room in
    let most = c.self.invariant.0.room_fits in
    let all = c.self.invariant.1.all in
    omega (arith, bound, room, most, all)

pub overflow_sub-self : goal.overflow_sub-self
overflow_sub-self c =
    let s = c.self.inside in
    let flags = flags_of s.words.items s.room in
    let change = changes s.words.items s.room c.args.self.now c.self.invariant.0 c.self.view_is c.args.k c.index-word.result.now c.requires c.index-word.ensures c.args.ready c.if-word-digit.false in
    let bound = total_some flags c.args.k c.args.ready change.inside change.differs c.if-ready.false in
    let room = length_flags s.words.items s.room in
    let most = c.self.invariant.0.room_fits in
    let all = c.self.invariant.1.all in
    omega (arith, bound, room, most, all)

pub invariant_of-self : goal.invariant_of-self
invariant_of-self c =
    let s = c.self.inside in
    let flags = flags_of s.words.items s.room in
    let change = changes s.words.items s.room c.args.self.now c.self.invariant.0 c.self.view_is c.args.k c.index-word.result.now c.requires c.index-word.ensures c.args.ready c.if-word-digit.false in
    let after = puts s.words.items s.room c.args.self.now c.self.invariant.0 c.self.view_is c.args.k c.index-word.result.now c.requires c.index-word.ensures c.args.ready change in
    let did = c.shift_blocks.ensures in
    let counted = all_put flags s.low.items s.mid.items s.high.items s.total s.room c.self.invariant.1 (length_flags s.words.items s.room) c.args.k c.args.ready change.inside change.differs c.shift_blocks.new.low.items c.shift_blocks.new.mid.items c.shift_blocks.new.high.items did.low did.mid did.high in
    let total = ap (shifted s.total) c.if-ready.true in
    (after.new_words, rw after.flags (rw total at counted))

pub invariant_of-self-else-ready : goal.invariant_of-self-else-ready
invariant_of-self-else-ready c =
    let s = c.self.inside in
    let flags = flags_of s.words.items s.room in
    let change = changes s.words.items s.room c.args.self.now c.self.invariant.0 c.self.view_is c.args.k c.index-word.result.now c.requires c.index-word.ensures c.args.ready c.if-word-digit.false in
    let after = puts s.words.items s.room c.args.self.now c.self.invariant.0 c.self.view_is c.args.k c.index-word.result.now c.requires c.index-word.ensures c.args.ready change in
    let did = c.shift_blocks.ensures in
    let counted = all_put flags s.low.items s.mid.items s.high.items s.total s.room c.self.invariant.1 (length_flags s.words.items s.room) c.args.k c.args.ready change.inside change.differs c.shift_blocks.new.low.items c.shift_blocks.new.mid.items c.shift_blocks.new.high.items did.low did.mid did.high in
    let total = ap (shifted s.total) c.if-ready.false in
    (after.new_words, rw after.flags (rw total at counted))

pub returns-then-ready : goal.returns-then-ready
returns-then-ready c =
    let s = c.self.inside in
    let change = changes s.words.items s.room c.args.self.now c.self.invariant.0 c.self.view_is c.args.k c.index-word.result.now c.requires c.index-word.ensures c.args.ready c.if-word-digit.false in
    (puts s.words.items s.room c.args.self.now c.self.invariant.0 c.self.view_is c.args.k c.index-word.result.now c.requires c.index-word.ensures c.args.ready change).is

pub returns-else-ready : goal.returns-else-ready
returns-else-ready c =
    let s = c.self.inside in
    let change = changes s.words.items s.room c.args.self.now c.self.invariant.0 c.self.view_is c.args.k c.index-word.result.now c.requires c.index-word.ensures c.args.ready c.if-word-digit.false in
    (puts s.words.items s.room c.args.self.now c.self.invariant.0 c.self.view_is c.args.k c.index-word.result.now c.requires c.index-word.ensures c.args.ready change).is
