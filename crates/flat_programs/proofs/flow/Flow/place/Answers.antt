use Rattle.std.proofs.Common.{arith}
use Rattle.flat_programs.proofs.FlowLemmas.{mark_within}
use Rattle.flat_programs.proofs.flow.Flow.place.Goals as goal

pub returns-then-index-len-clause-within : goal.returns-then-index-len-clause-within
returns-then-index-len-clause-within c =
    let within = mark_within c.args.flat.now c.args.self.now.marks.items c.saturating_sub-index.result c.index.result.now c.requires.marks (omega arith) c.index.ensures in
    omega (arith, within)

pub returns-then-index-len-clause-exists : goal.returns-then-index-len-clause-exists
returns-then-index-len-clause-exists c = λ some. mark_within c.args.flat.now c.args.self.now.marks.items c.saturating_sub-index.result c.index.result.now c.requires.marks (omega arith) c.index.ensures
