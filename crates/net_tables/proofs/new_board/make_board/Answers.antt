use Rattle.std.proofs.Common.{sym, subst, arith}
use Rattle.net_board.specs.Nodes.{NetOf}
use Rattle.net_board.specs.Simulation.{HasExecs}
use Rattle.net_tables.proofs.new_board.make_board.Goals as goal

pub make_tables-requires : goal.make_tables-requires
make_tables-requires g c = let parts = c.requires.parts in (omega arith, subst (λ (x : NetOf). HasExecs x) (sym c.in_ok-plan.ensures) parts.program.execs)

pub returns : goal.returns
returns g c = c.in_ok-plan.ensures
