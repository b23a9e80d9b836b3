use Rattle.std.proofs.Common.{◌∙◌, arith}
use Rattle.firing.specs.BlockCounts.{flags_of}
use Rattle.firing.proofs.CountLemmas.{counts_of, block_few, starts, found}
use Rattle.firing.proofs.WordLemmas.{large_seen, length_seen}
use Rattle.firing.proofs.ready_set.ReadySet.mid_block.Goals as goal

pub overflow_mul-b : goal.overflow_mul-b
overflow_mul-b c =
    grind (arith, block_few c.args.self.now 1048576 c.args.place c.high_block-b.result.0 c.high_block-b.result.1 c.requires.place c.high_block-b.ensures, length_seen)

pub scan-requires-clause-inside : goal.scan-requires-clause-inside
scan-requires-clause-inside c =
    let s = c.self.inside in
    let set = c.args.self.now in
    let are = counts_of 32768 c.deref.result.now s.mid.items (flags_of s.words.items s.room) set c.deref.ensures.value c.self.view_is (c.self.invariant.1.mid_counts (large_seen 32768 s.words.items s.room set c.self.view_is c.requires.many)) in
    (starts 32768 c.deref.result.now set are c.args.place c.requires.place 32 c.high_block-b.result.0 c.high_block-b.result.1 c.high_block-b.ensures).inside

pub scan-requires-clause-some : goal.scan-requires-clause-some
scan-requires-clause-some c =
    let s = c.self.inside in
    let set = c.args.self.now in
    let are = counts_of 32768 c.deref.result.now s.mid.items (flags_of s.words.items s.room) set c.deref.ensures.value c.self.view_is (c.self.invariant.1.mid_counts (large_seen 32768 s.words.items s.room set c.self.view_is c.requires.many)) in
    (starts 32768 c.deref.result.now set are c.args.place c.requires.place 32 c.high_block-b.result.0 c.high_block-b.result.1 c.high_block-b.ensures).some

pub returns : goal.returns
returns c =
    let s = c.self.inside in
    let set = c.args.self.now in
    let are = counts_of 32768 c.deref.result.now s.mid.items (flags_of s.words.items s.room) set c.deref.ensures.value c.self.view_is (c.self.invariant.1.mid_counts (large_seen 32768 s.words.items s.room set c.self.view_is c.requires.many)) in
    let start = starts 32768 c.deref.result.now set are c.args.place c.requires.place 32 c.high_block-b.result.0 c.high_block-b.result.1 c.high_block-b.ensures in
    found 32768 c.deref.result.now set are c.args.place c.requires.place c.scan.result.0 c.scan.result.1 c.scan.ensures.within (c.scan.ensures.same ∙ start.same) c.scan.ensures.short
