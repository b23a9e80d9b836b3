use Rattle.std.proofs.lemmas.Result.{on_ok_weaker}
use Rattle.f77_expr.proofs.PrintedForms.{printed_is_read}
use Rattle.f77_expr.proofs.ShortForms.{printed_is_shortest}
use Rattle.f77_expr.proofs.print.print_expr.Goals as goal

pub returns-clause-read : goal.returns-clause-read
returns-clause-read c = λ are.
    on_ok_weaker c.print_at.result (λ small. printed_is_read c.args.p.now.names are c.args.e.now c.requires small) c.print_at.ensures.constants

pub returns-clause-shortest : goal.returns-clause-shortest
returns-clause-shortest c =
    on_ok_weaker c.print_at.result (λ small. printed_is_shortest c.args.p.now.names c.args.e.now c.requires small) c.print_at.ensures.constants
