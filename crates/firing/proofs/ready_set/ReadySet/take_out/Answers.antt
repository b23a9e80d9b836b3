use Rattle.std.proofs.Common.{false, arith}
use Rattle.firing.specs.BlockCounts.{flags_of}
use Rattle.firing.proofs.CountLemmas.{all_put, low_shifts, mid_shifts, high_shifts, total_some}
use Rattle.firing.proofs.PutLemmas.{goes, puts, word_within}
use Rattle.firing.proofs.WordLemmas.{length_flags}
use Rattle.firing.proofs.ready_set.ReadySet.take_out.Goals as goal

pub index-word-requires : goal.index-word-requires
index-word-requires c = grind (arith, word_within)

pub index_mut-requires : goal.index_mut-requires
index_mut-requires c = grind (arith, word_within)

pub shift_blocks-requires-clause-low : goal.shift_blocks-requires-clause-low
shift_blocks-requires-clause-low c =
    let s = c.self.inside in
    let flags = flags_of s.words.items s.room in
    let change = goes s.words.items s.room c.args.self.now c.self.invariant.0 c.self.view_is c.args.k c.index-word.result.now c.requires.inside c.index-word.ensures c.requires.member in
    low_shifts flags s.low.items s.mid.items s.high.items s.total s.room c.self.invariant.1 (length_flags s.words.items s.room) c.args.k false change.inside change.differs

pub shift_blocks-requires-clause-mid : goal.shift_blocks-requires-clause-mid
shift_blocks-requires-clause-mid c =
    let s = c.self.inside in
    let flags = flags_of s.words.items s.room in
    let change = goes s.words.items s.room c.args.self.now c.self.invariant.0 c.self.view_is c.args.k c.index-word.result.now c.requires.inside c.index-word.ensures c.requires.member in
    mid_shifts flags s.low.items s.mid.items s.high.items s.total s.room c.self.invariant.1 (length_flags s.words.items s.room) c.args.k false change.inside change.differs

pub shift_blocks-requires-clause-high : goal.shift_blocks-requires-clause-high
shift_blocks-requires-clause-high c =
    let s = c.self.inside in
    let flags = flags_of s.words.items s.room in
    let change = goes s.words.items s.room c.args.self.now c.self.invariant.0 c.self.view_is c.args.k c.index-word.result.now c.requires.inside c.index-word.ensures c.requires.member in
    high_shifts flags s.low.items s.mid.items s.high.items s.total s.room c.self.invariant.1 (length_flags s.words.items s.room) c.args.k false change.inside change.differs

pub overflow_sub-self : goal.overflow_sub-self
overflow_sub-self c = grind (arith, goes, total_some, length_flags)

pub invariant_of-self : goal.invariant_of-self
invariant_of-self c =
    let s = c.self.inside in
    let flags = flags_of s.words.items s.room in
    let change = goes s.words.items s.room c.args.self.now c.self.invariant.0 c.self.view_is c.args.k c.index-word.result.now c.requires.inside c.index-word.ensures c.requires.member in
    let after = puts s.words.items s.room c.args.self.now c.self.invariant.0 c.self.view_is c.args.k c.index-word.result.now c.requires.inside c.index-word.ensures false change in
    let did = c.shift_blocks.ensures in
    let counted = all_put flags s.low.items s.mid.items s.high.items s.total s.room c.self.invariant.1 (length_flags s.words.items s.room) c.args.k false change.inside change.differs c.shift_blocks.new.low.items c.shift_blocks.new.mid.items c.shift_blocks.new.high.items did.low did.mid did.high in
    (after.new_words, rw after.flags counted)

pub returns : goal.returns
returns c =
    let s = c.self.inside in
    let change = goes s.words.items s.room c.args.self.now c.self.invariant.0 c.self.view_is c.args.k c.index-word.result.now c.requires.inside c.index-word.ensures c.requires.member in
    (puts s.words.items s.room c.args.self.now c.self.invariant.0 c.self.view_is c.args.k c.index-word.result.now c.requires.inside c.index-word.ensures false change).is
