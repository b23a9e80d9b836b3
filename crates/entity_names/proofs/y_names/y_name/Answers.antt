use Rattle.std.proofs.Common.{rules, ◌≡◌, false, true, ap, ◌∙◌, arith}
use Rattle.f77_tree.specs.Name.{is_name}
use Rattle.program_units.specs.Names.{y_text}
use Rattle.entity_names.proofs.NumberedNames.{y-text-named}
use Rattle.entity_names.proofs.y_names.y_name.Goals as goal

pub unreachable-requires : goal.unreachable-requires
unreachable-requires c =
    let made : c.deref.result.now ≡ y_text c.args.n = search rules in
    let named : is_name c.deref.result.now ≡ true = ap is_name made ∙ y-text-named c.args.n (omega arith) (omega arith) in
    let none : false ≡ true = c.in-None.ensures.some.1 named in
    cc
