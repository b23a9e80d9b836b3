use Rattle.std.proofs.Common.{ℕ, Some, sym, subst}
use Rattle.op_net.specs.NetView.{net_of}
use Rattle.operation_tables.specs.Waits.{IsNodeBefore}
use Rattle.op_net.proofs.net.OpNet.node_at.Goals as goal

pub returns-then-passed-eq0 : goal.returns-then-passed-eq0
returns-then-passed-eq0 g c = subst (λ (n : ℕ). IsNodeBefore (net_of c.args.self.now) c.args.line (Some c.args.edge) n c.node_before.result) (sym c.if-passed-eq0.true) c.node_before.ensures.before

pub returns-then-is_needed : goal.returns-then-is_needed
returns-then-is_needed g c = c.node_numbered.ensures c.args.edge c.head-piece.ensures.piece

pub returns-else-is_needed : goal.returns-else-is_needed
returns-else-is_needed g c = c.turn_of.ensures.before c.args.edge c.args.passed c.head-piece.ensures.piece
