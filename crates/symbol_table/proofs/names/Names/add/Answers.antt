use Rattle.std.proofs.Common.{◌≡◌, ℕ, true, List, ◌++◌, [], ◌∷◌, ◌∙◌, ap, map, arith}
use Rattle.std.specs.Prelude.{bytes_eq}
use Rattle.std.specs.List.{list_all, list_any}
use Rattle.std.specs.Map.{keys_of}
use Rattle.std.proofs.lemmas.List.{length-map}
use Rattle.indexmap.proofs.CallerLemmas.{insert_entry-new}
use Rattle.f77_tree.specs.Name.{is_name}
use Rattle.symbol_table.specs.declared.names.Symbol.{Symbol}
use Rattle.symbol_table.specs.NameTable.{info_of}
use Rattle.symbol_table.proofs.NameEntries.{absent-entries, info-append}
use Rattle.symbol_table.proofs.FewNames.{few-names, names-push}
use Rattle.symbol_table.proofs.names.Names.add.Goals as goal

pub returns : goal.returns
returns c =
    let table = c.self.inside.table in
    let entry : List ℕ × Symbol = (c.args.name, c.args.symbol) in
    let absent = ap (list_any (λ info. bytes_eq c.args.name info.name)) c.self.view_is ∙ c.requires in
    ap (map info_of) (c.in_ok-insert.ensures.entries ∙ insert_entry-new bytes_eq table c.args.name c.args.symbol (absent-entries table.entries c.args.name absent))
    ∙ info-append table.entries entry
    ∙ ap (λ names. names ++ info_of entry ∷ []) c.self.view_is

pub invariant_of-self-2 : goal.invariant_of-self-2
invariant_of-self-2 c =
    let table = c.self.inside.table in
    let new = c.insert.new.self.entries in
    let entry : List ℕ × Symbol = (c.args.name, c.args.symbol) in
    let absent = ap (list_any (λ info. bytes_eq c.args.name info.name)) c.self.view_is ∙ c.requires in
    let more : new ≡ table.entries ++ entry ∷ [] = c.in_ok-insert.ensures.entries ∙ insert_entry-new bytes_eq table c.args.name c.args.symbol (absent-entries table.entries c.args.name absent) in
    let all : list_all is_name (keys_of new) ≡ true = ap (λ (es : List (List ℕ × Symbol)). list_all is_name (keys_of es)) more ∙ names-push table.entries entry c.self.invariant.1 c.is_symbolic.ensures in
    let few = few-names (keys_of new) all c.insert.ensures.unique in
    let long = length-map new (λ e. e.0) in
    (c.insert.ensures.unique, all, omega (arith, few, long))
