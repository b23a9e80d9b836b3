use Rattle.std.proofs.Common.{◌≡◌, ◌≢◌, Bool, List, Result, Ok, Err, IfOk, IfErr, refl, subst}
use Rattle.f77_tree.specs.declared.programs.Program.{Program}
use Rattle.layout_rules.specs.declared.layout_end.LayoutEnd.{LayoutEnd}
use Rattle.layout_rules.specs.declared.layout_end.LayoutEnd.TheVariants.{NoMemory}
use Rattle.f77_tree.specs.declared.statements.Labelled.{Labelled}
use Rattle.f77_tree.specs.Operations.{HasFewOperations}
use Rattle.f77_tree.specs.WellFormed.{IsWellFormed}
use Rattle.f77_layout.specs.Answers.{IsLaidAs}
use Rattle.layout_rules.specs.Layout.{layout}
use Rattle.layout_rules.specs.Source.{IsSource}
use Rattle.f77_layout.proofs.WellFormedPrograms.{laid-few_operations, laid-well_formed}
use Rattle.f77_layout.proofs.assembly.assemble.Goals as goal
use Rattle.f77_layout.proofs.assembly.assemble.Goals.{After-with_names}

laid_accepted : (laid result : Result Program LayoutEnd) → IsLaidAs laid result → IfOk result (λ program. laid ≡ Ok program)
laid_accepted laid (Ok program) is = is
laid_accepted laid (Err end) is = tt

refused_by : (laid : Result Program LayoutEnd) (end : LayoutEnd) → IsLaidAs laid (Err end) → end ≢ NoMemory → laid ≡ Err end
refused_by laid NoMemory is other = absurd (other refl)
refused_by laid _ is other = is

laid_refused : (laid result : Result Program LayoutEnd) → IsLaidAs laid result → IfErr result (λ end. end ≢ NoMemory → laid ≡ Err end)
laid_refused laid (Ok program) is = tt
laid_refused laid (Err end) is = refused_by laid end is

laid_well_formed : (stmts : List Labelled) (checked : Bool) (result : Result Program LayoutEnd) → IsSource stmts → IsLaidAs (layout stmts checked) result → IfOk result (λ program. IsWellFormed program)
laid_well_formed stmts checked (Ok p) source is = laid-well_formed stmts checked source p is
laid_well_formed stmts checked (Err end) source is = tt

laid_modest : (stmts : List Labelled) (checked : Bool) (result : Result Program LayoutEnd) → IsSource stmts → IsLaidAs (layout stmts checked) result → IfOk result (λ program. HasFewOperations program)
laid_modest stmts checked (Ok p) source is = laid-few_operations stmts checked source p is
laid_modest stmts checked (Err end) source is = tt

laid_as : (c : After-with_names) → IsLaidAs (layout c.args.stmts.now c.args.checked) c.with_names.result
laid_as c = subst (λ stmts. IsLaidAs (layout stmts c.args.checked) c.with_names.result) c.as_slice-stmts.ensures.items c.with_names.ensures

pub returns-in-Ok-clause-accepted : goal.returns-in-Ok-clause-accepted
returns-in-Ok-clause-accepted c = laid_accepted _ c.with_names.result (laid_as (goal.at.returns-in-Ok-clause-accepted c).After-with_names)

pub returns-in-Ok-clause-well_formed : goal.returns-in-Ok-clause-well_formed
returns-in-Ok-clause-well_formed c = laid_well_formed c.args.stmts.now c.args.checked c.with_names.result c.requires.source (laid_as (goal.at.returns-in-Ok-clause-well_formed c).After-with_names)

pub returns-in-Ok-clause-modest : goal.returns-in-Ok-clause-modest
returns-in-Ok-clause-modest c = laid_modest c.args.stmts.now c.args.checked c.with_names.result c.requires.source (laid_as (goal.at.returns-in-Ok-clause-modest c).After-with_names)

pub returns-in-Ok-clause-refused : goal.returns-in-Ok-clause-refused
returns-in-Ok-clause-refused c = laid_refused _ c.with_names.result (laid_as (goal.at.returns-in-Ok-clause-refused c).After-with_names)
