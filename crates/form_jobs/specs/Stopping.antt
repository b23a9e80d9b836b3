-- Runs of programs that are made step after step, with what is written of them.
use Rattle.std.specs.Prelude.{◌≡◌, ℕ, ℤ, List, [], Option}
use Rattle.std.specs.Io.KnownBytes.{Appends}
use Rattle.df_io.specs.Write.{AppendsPrefix}
use Rattle.f77_meaning.specs.declared.stepper.Stepper.{Stepper}
use Rattle.f77_meaning.specs.Stepper.{input_of, program_of, state_of}
use Rattle.f77_tree.specs.declared.programs.Program.{Program}
use Rattle.f77_tree.specs.Run as runs
use Rattle.f77_tree.specs.Run.{Mark, out, source, start}
use Rattle.form_jobs.specs.declared.run.RunEnd.{RunEnd}
use Rattle.form_jobs.specs.declared.run.RunEnd.TheVariants.{Ended, Trapped, Limit}
use Rattle.form_jobs.specs.DueForms.{MakesSteps}

-- a run of the program over these data, at its beginning
pub record IsAtStart (p : Program) (input : List ℤ) (run : Stepper) : Type 0 where
  pub program : program_of run ≡ p
  pub words : input_of run ≡ input
  pub state : state_of run [] ≡ start p

-- how a run has stopped that has this mark after its last step
abbrev pub end_by : Mark → RunEnd
end_by runs.Running = Limit
end_by runs.Ended = Ended
end_by (runs.Trapped trap line) = Trapped trap

-- A run was made to its end, a trap or the limit, and all of its output was written.
pub record IsWritten (p : Program) (input : List ℤ) (limit : ℕ) (end : RunEnd) (old new : Option (List ℕ)) : Type 0 where
  pub steps : ℕ
  pub made : MakesSteps p input limit steps
  pub ended : end ≡ end_by (source p input steps).mark
  pub written : Appends old new (out p input steps)

-- some of its output was written, from the beginning
pub record IsBrokenOff (p : Program) (input : List ℤ) (limit : ℕ) (old new : Option (List ℕ)) : Type 0 where
  pub steps : ℕ
  pub made : MakesSteps p input limit steps
  pub prefix : AppendsPrefix old new (out p input steps)
