use Rattle.std.proofs.Common.{◌∙◌, sym, ap}
use Rattle.std.specs.Prelude.{bytes_eq}
use Rattle.std.specs.List.{list_any}
use Rattle.symbol_table.proofs.NameEntries.{has-entries}
use Rattle.symbol_table.proofs.names.Names.has.Goals as goal

pub returns : goal.returns
returns c =
    c.contains_key.ensures ∙ sym (has-entries c.self.inside.table.entries c.args.name.now) ∙ ap (list_any (λ info. bytes_eq c.args.name.now info.name)) c.self.view_is
