use Rattle.std.proofs.Common.{◌∙◌, arith}
use Rattle.firing.specs.BlockCounts.{flags_of}
use Rattle.firing.proofs.CountLemmas.{counts_of, block_few, starts, starts_first, found}
use Rattle.firing.proofs.WordLemmas.{large_seen, length_seen}
use Rattle.firing.proofs.ready_set.ReadySet.low_block.Goals as goal
use Rattle.std.proofs.lemmas.Grind.{elements}

pub scan-requires-clause-some : goal.scan-requires-clause-some
scan-requires-clause-some c = grind (arith, elements, counts_of, large_seen, starts_first)

pub returns-then-self-le-MID : goal.returns-then-self-le-MID
returns-then-self-le-MID c =
    let s = c.self.inside in
    let set = c.args.self.now in
    let are = counts_of 1024 c.deref.result.now s.low.items (flags_of s.words.items s.room) set c.deref.ensures.value c.self.view_is (c.self.invariant.1.low_counts (large_seen 1024 s.words.items s.room set c.self.view_is c.requires.many)) in
    found 1024 c.deref.result.now set are c.args.place c.requires.place c.scan.result.0 c.scan.result.1 c.scan.ensures.within (omega (arith, c.scan.ensures.same)) c.scan.ensures.short

pub mid_block-b-requires-clause-many : goal.mid_block-b-requires-clause-many
mid_block-b-requires-clause-many c = grind (arith, length_seen)

pub overflow_mul-b : goal.overflow_mul-b
overflow_mul-b c =
    grind (arith, block_few c.args.self.now 32768 c.args.place c.mid_block-b.result.0 c.mid_block-b.result.1 c.requires.place c.mid_block-b.ensures, length_seen)

pub returns : goal.returns
returns c =
    let s = c.self.inside in
    let set = c.args.self.now in
    let are = counts_of 1024 c.deref-2.result.now s.low.items (flags_of s.words.items s.room) set c.deref-2.ensures.value c.self.view_is (c.self.invariant.1.low_counts (large_seen 1024 s.words.items s.room set c.self.view_is c.requires.many)) in
    let start = starts 1024 c.deref-2.result.now set are c.args.place c.requires.place 32 c.mid_block-b.result.0 c.mid_block-b.result.1 c.mid_block-b.ensures in
    found 1024 c.deref-2.result.now set are c.args.place c.requires.place c.scan-2.result.0 c.scan-2.result.1 c.scan-2.ensures.within (c.scan-2.ensures.same ∙ start.same) c.scan-2.ensures.short

pub scan-requires-2-clause-inside : goal.scan-requires-2-clause-inside
scan-requires-2-clause-inside c =
    let s = c.self.inside in
    let set = c.args.self.now in
    let are = counts_of 1024 c.deref-2.result.now s.low.items (flags_of s.words.items s.room) set c.deref-2.ensures.value c.self.view_is (c.self.invariant.1.low_counts (large_seen 1024 s.words.items s.room set c.self.view_is c.requires.many)) in
    (starts 1024 c.deref-2.result.now set are c.args.place c.requires.place 32 c.mid_block-b.result.0 c.mid_block-b.result.1 c.mid_block-b.ensures).inside

pub scan-requires-2-clause-some : goal.scan-requires-2-clause-some
scan-requires-2-clause-some c =
    let s = c.self.inside in
    let set = c.args.self.now in
    let are = counts_of 1024 c.deref-2.result.now s.low.items (flags_of s.words.items s.room) set c.deref-2.ensures.value c.self.view_is (c.self.invariant.1.low_counts (large_seen 1024 s.words.items s.room set c.self.view_is c.requires.many)) in
    (starts 1024 c.deref-2.result.now set are c.args.place c.requires.place 32 c.mid_block-b.result.0 c.mid_block-b.result.1 c.mid_block-b.ensures).some
