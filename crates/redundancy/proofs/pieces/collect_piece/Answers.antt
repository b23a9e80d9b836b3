use Rattle.std.proofs.Common.{sym, subst, List}
use Rattle.f77_tree.specs.declared.expressions.Expr.{Expr}
use Rattle.redundancy.specs.Collected.{IsGrown}
use Rattle.redundancy.proofs.Growing.{grown-none}
use Rattle.redundancy.proofs.PieceKinds.{nothing_of_none, nothing_of_others}
use Rattle.redundancy.proofs.pieces.collect_piece.Goals as goal

pub returns-in_default : goal.returns-in_default
returns-in_default c =
    let found = c.args.found.now.items in
    subst (λ (z : List Expr). IsGrown c.args.p.now.names z found found) (sym (nothing_of_none c.args.p.now.execs c.args.piece c.in_default.ensures.exec)) (grown-none c.args.p.now.names found)

pub returns-in_default-kind : goal.returns-in_default-kind
returns-in_default-kind c =
    let found = c.args.found.now.items in
    subst (λ (z : List Expr). IsGrown c.args.p.now.names z found found) (sym (nothing_of_others c.args.p.now.execs c.args.piece c.in_default-kind.not-Act c.in_default-kind.not-Branch)) (grown-none c.args.p.now.names found)
