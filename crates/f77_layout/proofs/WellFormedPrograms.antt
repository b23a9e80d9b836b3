-- What statements make that no refusal meets is a well-formed program.
use Rattle.std.proofs.Common.{◌≡◌, Bool, List, Ok, subst}
use Rattle.f77_tree.specs.declared.programs.Program.{Program}
use Rattle.f77_tree.specs.declared.statements.Labelled.{Labelled}
use Rattle.f77_tree.specs.Operations.{HasFewOperations}
use Rattle.f77_tree.specs.WellFormed.{AreExecs, IsWellFormed}
use Rattle.layout_rules.specs.Layout.{names_of, layout, program}
use Rattle.layout_rules.specs.Source.{IsSource}
use Rattle.storage_laws.proofs.DeclaredData.{program-AreInitial, program-initial_count, program-word_count}
use Rattle.storage_laws.proofs.DeclaredPrograms.{program-AreDeclarations}
use Rattle.control_laws.proofs.EndLaws.{ends_with_end}
use Rattle.control_laws.proofs.LoopsOfProgram.{AreLoops-source}
use Rattle.storage_laws.proofs.PlacedDeclared.{program-ArePlaces}
use Rattle.form_laws.proofs.ProperPrograms.{program-HasFewOperations, program-count, program-each, program-target_count}
use Rattle.f77_layout.proofs.LaidFacts.{AreFaultless, laid-faultless, laid-program}
use Rattle.control_laws.proofs.SuccessorLaws.{successors_exist}

module _ (stmts : List Labelled) (checked : Bool) (source : IsSource stmts) where
  -- ---- statements without faults

  module _ (none : AreFaultless stmts checked) where
    are-execs : AreExecs (program stmts checked).names (program stmts checked).execs (program stmts checked).loops
    are-execs = record {
      end = ends_with_end stmts source none.once none.nested (names_of stmts) checked none.ordered none.borne;
      successors = successors_exist stmts source none.once none.borne none.nested (names_of stmts) checked;
      each = program-each stmts checked source none.kinds;
      loops_nest = AreLoops-source (names_of stmts) checked stmts source none.once none.borne none.nested none.stays;
      count = program-count stmts checked none.modest source none.once;
      target_count = program-target_count stmts checked none.modest;
    }

    is-well_formed : IsWellFormed (program stmts checked)
    is-well_formed = record {
      execs = are-execs;
      declarations = program-AreDeclarations stmts checked source none.stored;
      word_count = program-word_count stmts checked none.fits;
      initial_count = program-initial_count stmts checked;
      places = program-ArePlaces stmts source none.stored checked;
      initial = program-AreInitial stmts checked;
    }

  -- ---- statements that are laid out

  module _ (p : Program) (laid : layout stmts checked ≡ Ok p) where
    none : AreFaultless stmts checked
    none = laid-faultless stmts checked p laid

    pub laid-well_formed : IsWellFormed p
    laid-well_formed = subst IsWellFormed (laid-program stmts checked p laid) (is-well_formed none)

    pub laid-few_operations : HasFewOperations p
    laid-few_operations = subst HasFewOperations (laid-program stmts checked p laid) (program-HasFewOperations stmts checked none.modest)
