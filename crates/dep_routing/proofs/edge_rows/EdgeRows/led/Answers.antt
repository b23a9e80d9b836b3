use Rattle.std.proofs.Common.{◌≡◌, ◌∙◌, ℕ, Option, None, Some, get_or, sym, subst}
use Rattle.std.proofs.lemmas.List.{get_or_default}
use Rattle.shared_rows.specs.Table.{row_at}
use Rattle.dep_routing.proofs.EdgeRowSteps.{led-row}
use Rattle.dep_routing.proofs.edge_rows.EdgeRows.led.Goals as goal

pub get-requires-clause-row : goal.get-requires-clause-row
get-requires-clause-row c =
    c.requires.there c.args.edge c.in-Some.row (sym (get_or_default c.args.self.now.row_of.items c.args.edge c.index.result.now None c.requires.edge) ∙ sym c.index.ensures ∙ c.in-Some.is)

pub returns-in-Some : goal.returns-in-Some
returns-in-Some c =
    c.get.ensures.number ∙ get_or_default (row_at c.args.self.now.table c.in-Some.row) c.args.line 0 c.args.edge c.get.ensures.within
    ∙ sym (led-row c.args.self.now.table c.args.self.now.row_of.items c.args.line c.args.edge (Some c.in-Some.row) c.requires.edge
    (subst (λ (n : Option ℕ). n ≡ get_or c.args.self.now.row_of.items c.args.edge n) c.in-Some.is c.index.ensures))
