use Rattle.std.proofs.Common.{◌++◌, [], List, map, length, refl, sym, ap, subst}
use Rattle.std.specs.Prelude.{flat_map}
use Rattle.std.specs.List.{range_with_len}
use Rattle.flat_programs.specs.Declarations.{commons, group_statement, init_statement, typed_name}
use Rattle.flat_programs.specs.Lines.{Typeset}
use Rattle.flat_programs.specs.Pages.{IsPage}
use Rattle.flat_programs.specs.Text.{typeset_at, unlabelled}
use Rattle.flat_programs.proofs.PageLemmas.{declared_parts}
use Rattle.flat_programs.proofs.page.page_of.Goals as goal

pub returns : goal.returns
returns c =
    let p = c.args.p.now in
    let flat = c.args.flat.now in
    let a = map unlabelled (map typed_name p.names) in
    let b = map unlabelled (commons p.commons) in
    let d = map unlabelled (map group_statement p.groups) in
    let e = map unlabelled (map init_statement p.inits) in
    let f = flat_map (typeset_at p.names flat) (range_with_len 0 (length flat)) in
    let first = c.in_ok-put_names.ensures [] (record { bytes = c.new.ensures.items; is_long = refl }) in
    let last : IsPage c.put_statements.new.page (a ++ b ++ d ++ e ++ f) = c.in_ok-put_statements.ensures (a ++ b ++ d ++ e) (c.in_ok-put_inits.ensures (a ++ b ++ d) (c.in_ok-put_groups.ensures (a ++ b) (c.in_ok-put_commons.ensures a first))) in
    subst (λ (ts : List Typeset). IsPage c.put_statements.new.page ts) (ap (λ ts. ts ++ f) (sym (declared_parts p))) last
