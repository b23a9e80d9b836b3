use Rattle.std.proofs.Common.{false}
use Rattle.control_structure.proofs.EndsMet.{ends-le}
use Rattle.control_structure.proofs.blocks.Blocks.end_of_block.Goals as goal

pub returns-clause-within : goal.returns-clause-within
returns-clause-within c = ends-le false c.args.stmts.now c.args.self.now.block_ends.items c.args.place c.index.result.now c.requires.blocks.block_ends c.requires.place c.index.ensures
