use Rattle.std.proofs.Common.{◌≡◌, true, refl, subst}
use Rattle.f77_tree.specs.declared.statements.Stmt.{Stmt}
use Rattle.layout_rules.specs.Appearances.{appearing}
use Rattle.layout_rules.specs.Declarations.{is_array}
use Rattle.program_units.specs.NamedEntities.{HaveNames}
use Rattle.program_units.specs.Refusals.{is_of_storage}
use Rattle.program_units.specs.Units.{unit_at}
use Rattle.f77_subs.proofs.merged_storage.put_data.Goals as goal

pub changed_parts-requires-clause-named : goal.changed_parts-requires-clause-named
changed_parts-requires-clause-named c =
    let us = c.args.new.now.text.now.us.now in
    let k = c.args.k in
    subst (λ (stmt : Stmt). is_of_storage stmt ≡ true → HaveNames us k (appearing (is_array (unit_at us k)) stmt)) c.in-Init.is c.requires.named refl
