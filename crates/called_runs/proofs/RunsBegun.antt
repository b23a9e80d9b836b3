-- The runs begin in step, and so they are alike, and the program keeps pace.
use Rattle.std.proofs.Common.{◌≡◌, ℕ, ℤ, pos, Bool, List, [], length, replicate, refl, subst}
use Rattle.std.proofs.lemmas.List.{length-replicate}
use Rattle.f77_tree.specs.declared.programs.Program.{Program}
use Rattle.f77_tree.specs.declared.statements.Labelled.{Labelled}
use Rattle.f77_tree.specs.CanRun.{CanRun}
use Rattle.f77_tree.specs.Run.{State, source}
use Rattle.f77_tree.specs.Value.{word_at}
use Rattle.f77_tree.proofs.RunInvariants.{first-memory}
use Rattle.program_units.specs.declared.entity.Entity.{Entity}
use Rattle.program_units.specs.Calls.{CallState, RunsAlike, called}
use Rattle.program_units.specs.Contexts.{main}
use Rattle.program_units.specs.Expansion.{main_context, whole_list}
use Rattle.program_units.specs.Layouts.{own_program}
use Rattle.program_units.specs.ListedCopies.{main_place}
use Rattle.program_units.specs.Units.{unit_at}
use Rattle.called_runs.specs.CopiedPositions.{Stands}
use Rattle.called_runs.specs.FramesInStep.{AreInStep, innermost, nobody}
use Rattle.called_runs.proofs.AlikeRuns.{HasPace, Matches, run-paces, runs-alike}
use Rattle.called_runs.proofs.LiveLoops.{none-first}
use Rattle.called_runs.proofs.RunGrounds.{AreRunGrounds}
use Rattle.called_runs.proofs.StandingBegins.{stands-begin}
use Rattle.called_runs.proofs.StepTable.{follows}

module _ (us : List (List Labelled)) (checked : Bool) (spot : Entity → ℕ) (input opening : List ℤ) (p : Program) (words : ℕ) (Paired : ℕ → ℕ → Type 0) (g : AreRunGrounds us checked spot p words Paired)
    (can : CanRun p) (long : length opening ≡ words) (initial : (v w : ℕ) → Paired v w → word_at opening v ≡ word_at p.initial w) where
  abbrev InStep : CallState → State → Type 0
  InStep = AreInStep us checked p input words Paired

  abbrev own : Program
  own = own_program (unit_at us 0) checked

  begun : InStep (called us checked spot input opening 0) (source p input 0)
  begun = record {
    going = refl;
    other_going = refl;
    context = main_context us;
    at = main_place us;
    position = 0;
    counts = replicate own.loops 0;
    steps = replicate own.loops (pos 0);
    rest = [];
    frames = refl;
    stands = subst (λ (n : ℕ). Stands us (whole_list us) (main_context us) (main_place us) 0 n) g.begins (stands-begin us (whole_list us) g.laid (main_context us) (main_place us) (g.laid.copied (main_context us) (main_place us) main));
    counted = record {
      room = length-replicate own.loops 0;
      step_room = length-replicate own.loops (pos 0);
      same = λ i j live. absurd (none-first own.execs i live.held);
      same_steps = λ i j live. absurd (none-first own.execs i live.held);
    };
    waits = nobody;
    room = long;
    other_room = first-memory p input can;
    store = initial;
    taken = refl;
    out = refl;
  }

  matches : Matches us checked spot input opening p innermost Paired InStep
  matches = record {
    begin = begun;
    runs = λ x y s. s.going;
    other_runs = λ x y s. s.other_going;
    same = λ x y s. s.out;
    store = λ x y s. s.store;
    follows = λ x y s. follows us checked spot input opening p words Paired g x y s;
  }

  pub run-alike : RunsAlike (called us checked spot input opening) (source p input)
  run-alike = runs-alike us checked spot input opening p innermost Paired InStep matches

  pub run-paced : (n : ℕ) → HasPace us checked spot input opening p innermost Paired InStep n
  run-paced = run-paces us checked spot input opening p innermost Paired InStep matches
