use Rattle.std.proofs.Common.{◌≡◌, ℕ, List, Option, Some, ap, sym, subst, ◌∙◌}
use Rattle.std.specs.Prelude.{IfOk, IfSome, slice_get}
use Rattle.std.specs.Option.{option_map}
use Rattle.std.proofs.lemmas.Option.{slice_get-map}
use Rattle.f77_tree.specs.declared.programs.NameInfo.{NameInfo}
use Rattle.symbol_table.specs.declared.names.Symbol.{Symbol}
use Rattle.symbol_table.specs.NameTable.{info_of}
use Rattle.symbol_table.proofs.names.Names.placed.Goals as goal

pub returns : goal.returns
returns c =
    let entries = c.self.inside.table.entries in
    let entry : List ℕ × Symbol = (c.in-Some.name.now, c.in-Some.symbol.now) in
    let at : slice_get c.args.self.now c.args.k ≡ Some (info_of entry) =
    ap (λ (names : List NameInfo). slice_get names c.args.k) (sym c.self.view_is) ∙ slice_get-map info_of entries c.args.k ∙ ap (option_map info_of) (sym c.in-Some.ensures.entry)
    in
    subst (λ (line : Option NameInfo). IfOk c.line.result (λ placed. IfSome line (λ info. placed ≡ record info { place = c.args.place }))) (sym at) c.line.ensures
