use Rattle.std.proofs.Common.{◌≡◌, List, Some, rules, sym, ap, subst, ◌∙◌}
use Rattle.std.specs.Prelude.{slice_get}
use Rattle.f77_tree.specs.declared.programs.NameInfo.{NameInfo}
use Rattle.f77_tree.specs.Value.{ArePlaced, IsAccess}
use Rattle.graph_texts.proofs.ClassesOfNames.{name_set_is}
use Rattle.graph_texts.proofs.graph_lines.name_set.Goals as goal

pub hits-requires : goal.hits-requires
hits-requires c = (search rules, (search rules, subst (λ (names : List NameInfo). IsAccess names c.in_ok-anywhere.anywhere) (sym c.requires.classes.names) c.in_ok-anywhere.ensures.access))

pub returns : goal.returns
returns c = λ info at.
    let p = c.args.p.now in
    let table = c.args.c.now in
    let access = c.in_ok-anywhere.anywhere in
    let same = c.requires.classes.names in
    let placed = subst (λ (names : List NameInfo). ArePlaced names p.words) (sym same) (c.well_formed_programs_can_run.ensures p c.requires.program).placed in
    let fits = subst (λ (names : List NameInfo). IsAccess names access) (sym same) c.in_ok-anywhere.ensures.access in
    let here : slice_get table.names access.name ≡ Some info = ap (slice_get table.names) c.in_ok-anywhere.ensures.name ∙ ap (λ (names : List NameInfo). slice_get names c.args.name) same ∙ at in
    name_set_is table p.words access info c.hits.result placed fits c.in_ok-anywhere.ensures.unknown here c.hits.ensures
