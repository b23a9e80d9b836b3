use Rattle.std.proofs.Common.{◌∙◌, sym, ap, length}
use Rattle.std.specs.Map.{keys_of}
use Rattle.std.proofs.lemmas.List.{length-map}
use Rattle.symbol_table.specs.NameTable.{info_of}
use Rattle.std.specs.Prelude.{bytes_eq}
use Rattle.f77_tree.specs.Declarations.{index_of}
use Rattle.symbol_table.proofs.NameEntries.{index-entries, position-some, position-none}
use Rattle.symbol_table.proofs.names.Names.index.Goals as goal

pub returns-in-Some : goal.returns-in-Some
returns-in-Some c =
    position-some (bytes_eq c.args.name.now) (keys_of c.self.inside.table.entries) c.in-Some.k c.in-Some.ensures.index
    ∙ sym (index-entries c.self.inside.table.entries c.args.name.now)
    ∙ ap (λ names. index_of names c.args.name.now) c.self.view_is

pub returns-in-None : goal.returns-in-None
returns-in-None c =
    let entries = c.self.inside.table.entries in
    c.len.ensures ∙ ap length (sym c.self.view_is) ∙ length-map entries info_of ∙ sym (length-map entries (λ e. e.0))
    ∙ position-none (bytes_eq c.args.name.now) (keys_of entries) c.in-None.ensures.index
    ∙ sym (index-entries entries c.args.name.now)
    ∙ ap (λ names. index_of names c.args.name.now) c.self.view_is
