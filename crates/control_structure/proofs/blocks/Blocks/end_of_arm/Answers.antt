use Rattle.std.proofs.Common.{true}
use Rattle.control_structure.proofs.EndsMet.{ends-le}
use Rattle.control_structure.proofs.blocks.Blocks.end_of_arm.Goals as goal

pub returns-clause-within : goal.returns-clause-within
returns-clause-within c = ends-le true c.args.stmts.now c.args.self.now.arm_ends.items c.args.place c.index.result.now c.requires.blocks.arm_ends c.requires.place c.index.ensures
