use Rattle.std.proofs.Common.{arith}
use Rattle.firing.specs.BlockCounts.{flags_of}
use Rattle.firing.proofs.CountLemmas.{counts_of, starts_first, found}
use Rattle.firing.proofs.WordLemmas.{large_seen}
use Rattle.firing.proofs.ready_set.ReadySet.high_block.Goals as goal
use Rattle.std.proofs.lemmas.Grind.{elements}

pub scan-requires-clause-some : goal.scan-requires-clause-some
scan-requires-clause-some c = grind (arith, elements, counts_of, large_seen, starts_first)

pub returns : goal.returns
returns c =
    let s = c.self.inside in
    let set = c.args.self.now in
    let are = counts_of 1048576 c.deref.result.now s.high.items (flags_of s.words.items s.room) set c.deref.ensures.value c.self.view_is (c.self.invariant.1.high_counts (large_seen 32768 s.words.items s.room set c.self.view_is c.requires.many)) in
    found 1048576 c.deref.result.now set are c.args.place c.requires.place c.scan.result.0 c.scan.result.1 c.scan.ensures.within (omega (arith, c.scan.ensures.same)) c.scan.ensures.short
