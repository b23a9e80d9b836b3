use Rattle.std.proofs.Common.{true, arith}
use Rattle.firing.specs.BlockCounts.{flags_of}
use Rattle.firing.proofs.CountLemmas.{all_put, low_shifts, mid_shifts, high_shifts, total_fits}
use Rattle.firing.proofs.PutLemmas.{comes, puts_in, word_within}
use Rattle.firing.proofs.WordLemmas.{length_flags}
use Rattle.firing.proofs.ready_set.ReadySet.put_in.Goals as goal

pub index-word-requires : goal.index-word-requires
index-word-requires c = grind (arith, word_within)

pub index_mut-requires : goal.index_mut-requires
index_mut-requires c = grind (arith, word_within)

pub shift_blocks-requires-clause-low : goal.shift_blocks-requires-clause-low
shift_blocks-requires-clause-low c =
    let s = c.self.inside in
    let flags = flags_of s.words.items s.room in
    let change = comes s.words.items s.room c.args.self.now c.self.invariant.0 c.self.view_is c.args.k c.index-word.result.now c.requires.inside c.index-word.ensures c.requires.out in
    low_shifts flags s.low.items s.mid.items s.high.items s.total s.room c.self.invariant.1 (length_flags s.words.items s.room) c.args.k true change.inside change.differs

pub shift_blocks-requires-clause-mid : goal.shift_blocks-requires-clause-mid
shift_blocks-requires-clause-mid c =
    let s = c.self.inside in
    let flags = flags_of s.words.items s.room in
    let change = comes s.words.items s.room c.args.self.now c.self.invariant.0 c.self.view_is c.args.k c.index-word.result.now c.requires.inside c.index-word.ensures c.requires.out in
    mid_shifts flags s.low.items s.mid.items s.high.items s.total s.room c.self.invariant.1 (length_flags s.words.items s.room) c.args.k true change.inside change.differs

pub shift_blocks-requires-clause-high : goal.shift_blocks-requires-clause-high
shift_blocks-requires-clause-high c =
    let s = c.self.inside in
    let flags = flags_of s.words.items s.room in
    let change = comes s.words.items s.room c.args.self.now c.self.invariant.0 c.self.view_is c.args.k c.index-word.result.now c.requires.inside c.index-word.ensures c.requires.out in
    high_shifts flags s.low.items s.mid.items s.high.items s.total s.room c.self.invariant.1 (length_flags s.words.items s.room) c.args.k true change.inside change.differs

pub overflow_add-self : goal.overflow_add-self
overflow_add-self c = grind (arith, comes, total_fits, length_flags)

pub invariant_of-self : goal.invariant_of-self
invariant_of-self c =
    let s = c.self.inside in
    let flags = flags_of s.words.items s.room in
    let change = comes s.words.items s.room c.args.self.now c.self.invariant.0 c.self.view_is c.args.k c.index-word.result.now c.requires.inside c.index-word.ensures c.requires.out in
    let after = puts_in s.words.items s.room c.args.self.now c.self.invariant.0 c.self.view_is c.args.k c.index-word.result.now c.requires.inside c.index-word.ensures c.requires.out in
    let did = c.shift_blocks.ensures in
    let counted = all_put flags s.low.items s.mid.items s.high.items s.total s.room c.self.invariant.1 (length_flags s.words.items s.room) c.args.k true change.inside change.differs c.shift_blocks.new.low.items c.shift_blocks.new.mid.items c.shift_blocks.new.high.items did.low did.mid did.high in
    (after.new_words, rw after.flags counted)

pub returns : goal.returns
returns c =
    let s = c.self.inside in
    let change = comes s.words.items s.room c.args.self.now c.self.invariant.0 c.self.view_is c.args.k c.index-word.result.now c.requires.inside c.index-word.ensures c.requires.out in
    (puts_in s.words.items s.room c.args.self.now c.self.invariant.0 c.self.view_is c.args.k c.index-word.result.now c.requires.inside c.index-word.ensures c.requires.out).is
