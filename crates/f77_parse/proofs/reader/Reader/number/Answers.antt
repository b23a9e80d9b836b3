use Rattle.std.proofs.Common.{ap, ◌∙◌}
use Rattle.std.specs.List.{list_all}
use Rattle.f77_tree.specs.Name.{is_figure}
use Rattle.f77_expr.proofs.Prefixes.{run_of_kind}
use Rattle.f77_parse.proofs.reader.Reader.number.Goals as goal

pub bounded_number-requires : goal.bounded_number-requires
bounded_number-requires c = ap (list_all is_figure) c.digits_of-digits.ensures.digits ∙ run_of_kind is_figure c.args.self.now.rest.now
