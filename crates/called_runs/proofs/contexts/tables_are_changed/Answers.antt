use Rattle.std.proofs.Common.{subst}
use Rattle.f77_tree.specs.declared.programs.Program.{Program}
use Rattle.layout_rules.specs.Layout.{program}
use Rattle.copied_values.specs.ChangedTables.{AreChangedTables}
use Rattle.program_units.specs.Copies.{change_in}
use Rattle.program_units.specs.Expansion.{whole_list}
use Rattle.program_units.specs.Layouts.{own_program}
use Rattle.program_units.specs.Storage.{placed}
use Rattle.program_units.specs.Units.{standing_in, unit_at, units}
use Rattle.called_runs.proofs.ChangedNames.{changed-tables}
use Rattle.called_runs.proofs.PlacedProgram.{laid-program}
use Rattle.called_runs.proofs.contexts.tables_are_changed.Goals as goal

pub returns : goal.returns
returns c = λ stmts checked p is spot k arguments depth base.
    let us = units stmts in
    let u = unit_at us k in
    let list = whole_list us in
    let frame = placed us spot k arguments (own_program u checked).names in
    let subs = c.lists_declare.ensures.subs stmts checked is.text is.accepted in
    subst (λ (q : Program). AreChangedTables frame q.names (change_in us depth k base arguments)) (laid-program list checked p is.laid)
    (changed-tables us frame (program list checked).names k arguments depth base (λ x. (c.stand_ins_are_declared_alike.ensures u x).dims) (c.places_decide_no_trees.ensures.frames us spot k arguments (standing_in u) checked) (c.places_decide_no_trees.ensures.programs list checked) (c.names_keep_their_declarations.ensures.main_dims us subs))
