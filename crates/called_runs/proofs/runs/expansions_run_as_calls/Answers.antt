use Rattle.std.proofs.Common.{◌≡◌, refl, ℕ, ℤ, pos, Bool, List, Option, ap}
use Rattle.std.specs.Prelude.{unwrap_or}
use Rattle.f77_tree.specs.declared.programs.Program.{Program}
use Rattle.f77_tree.specs.declared.statements.Labelled.{Labelled}
use Rattle.f77_tree.specs.Value.{word_at}
use Rattle.f77_tree.specs.WellFormed.{IsWellFormed}
use Rattle.program_units.specs.declared.entity.Entity.{Entity}
use Rattle.program_units.specs.Expansion.{whole_list}
use Rattle.program_units.specs.Storage.{IsStorage}
use Rattle.program_units.specs.Units.{units}
use Rattle.called_runs.specs.Expanded.{IsExpanded}
use Rattle.called_runs.proofs.RunGrounded.{run-grounds}
use Rattle.called_runs.proofs.RunGrounds.{AreRunGrounds}
use Rattle.called_runs.proofs.RunsBegun.{run-alike, run-paced}
use Rattle.called_runs.proofs.RunTies.{Paired, ties-frame, ties-inside, ties-pairing, ties-tables}
use Rattle.called_runs.proofs.runs.expansions_run_as_calls.Goals as goal

module _ (c : goal.After-well_formed_programs_can_run) (stmts : List Labelled) (checked : Bool) (p : Program) (is : IsExpanded stmts checked p) (spot : Entity → ℕ) (words : ℕ) (opening : List ℤ) (storage : IsStorage (units stmts) checked spot words opening) where
  formed : IsWellFormed p
  formed = c.programs_are_well_formed.ensures.well_formed (whole_list (units stmts)) checked p is.source is.laid

  grounds : AreRunGrounds (units stmts) checked spot p words (Paired stmts checked p is spot)
  grounds = run-grounds stmts checked p is spot words (Paired stmts checked p is spot)
      (ties-tables stmts checked p is spot c.tables_are_changed.ensures)
      (ties-frame stmts checked p is spot words opening storage c.tables_are_placed.ensures.frames)
      (λ d at reached place s there does. c.names_are_tied.ensures.tied stmts checked p is spot d at reached place s there does)
      (λ d place s there. c.names_are_tied.ensures.kinded stmts checked is.accepted spot d.unit d.arguments place s there)
      (ties-pairing stmts checked p is spot words opening storage c.tables_are_placed.ensures.paired)
      (ties-inside stmts checked p is spot words opening storage c.opening_words_are_initial.ensures.room formed)
      (c.tables_are_placed.ensures.program stmts checked p is)

  begins : (v w : ℕ) → Paired stmts checked p is spot v w → word_at opening v ≡ word_at p.initial w
  begins v w pair = ap (λ (o : Option ℤ). unwrap_or o (pos 0)) (c.opening_words_are_initial.ensures.words stmts checked p is spot words opening storage v w pair)

pub returns-clause-alike : goal.returns-clause-alike
returns-clause-alike c = λ stmts checked p is spot words opening input storage.
    run-alike (units stmts) checked spot input opening p words (Paired stmts checked p is spot) (grounds c stmts checked p is spot words opening storage)
    (c.well_formed_programs_can_run.ensures p (formed c stmts checked p is spot words opening storage)) storage.as_many (begins c stmts checked p is spot words opening storage)

pub returns-clause-paced : goal.returns-clause-paced
returns-clause-paced c = λ stmts checked p is spot words opening input storage n.
    let s = run-paced (units stmts) checked spot input opening p words (Paired stmts checked p is spot) (grounds c stmts checked p is spot words opening storage)
    (c.well_formed_programs_can_run.ensures p (formed c stmts checked p is spot words opening storage)) storage.as_many (begins c stmts checked p is spot words opening storage) n in
    record {
      steps = s.steps;
      few = s.few;
      outs = s.outs;
      marks = s.marks;
      words = λ e offset shown inside. s.kept _ _ (record { entity = e; shown = shown; offset = offset; inside = inside; first = refl; second = refl });
    }
