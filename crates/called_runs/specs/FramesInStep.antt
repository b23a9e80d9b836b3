-- A run of units and a run of the program of the list that they come to, in step.
use Rattle.std.specs.Prelude.{◌≡◌, ℕ, ◌+◌, ℤ, Bool, List, [], ◌∷◌, length, Some, slice_get, slice_index}
use Rattle.f77_tree.specs.declared.programs.Program.{Program}
use Rattle.f77_tree.specs.declared.statements.Labelled.{Labelled}
use Rattle.f77_tree.specs.Execution.{Memory}
use Rattle.f77_tree.specs.Loops.{InRange}
use Rattle.f77_tree.specs.Run.{Running, State}
use Rattle.f77_tree.specs.Steps.{IsMemoryOf}
use Rattle.f77_tree.specs.Value.{word_at}
use Rattle.layout_rules.specs.Executables.{beyond}
use Rattle.program_units.specs.Calls.{CallState, Frame}
use Rattle.program_units.specs.Copies.{Context}
use Rattle.program_units.specs.Expansion.{main_context, whole_list}
use Rattle.program_units.specs.Layouts.{own_program}
use Rattle.program_units.specs.ListedCopies.{called_context, copied_place, lines_before, main_place}
use Rattle.program_units.specs.Units.{Call, call_in, guard_of, unit_at}
use Rattle.called_runs.specs.CopiedPositions.{AreCopiedLoops, Stands}

-- a frame of a context's unit, whose dummies stand for the context's arguments
abbrev pub frame_in : Context → (position : ℕ) → (counts : List ℕ) → (steps : List ℤ) → Frame
frame_in c position counts steps = record { unit = c.unit; arguments = c.arguments; position = position; counts = counts; steps = steps }

abbrev pub position_of : List Frame → ℕ
position_of [] = 0
position_of (f ∷ rest) = f.position

-- the position of the innermost frame
abbrev pub innermost : CallState → ℕ
innermost x = position_of x.frames

-- the context of the CALL at this place, and where its copy stands
abbrev pub inside : List (List Labelled) → Context → (place : ℕ) → Call → Context
inside us c place call = called_context us c place call

abbrev pub inside_at : List (List Labelled) → Context → (at : ℕ → ℕ) → (place : ℕ) → Labelled → Call → (ℕ → ℕ)
inside_at us c at place s call = copied_place us (inside us c place call) (at place + lines_before (guard_of s.stmt))

module _ (us : List (List Labelled)) (checked : Bool) where
  -- The DOs of a context, by their numbers in the unit and in the list, whose ranges hold this position. (A DO's count says nothing
  -- where its range isn't being executed.)
  pub record AreLive (c : Context) (at : ℕ → ℕ) (position i j : ℕ) : Type 0 where
    pub loops : AreCopiedLoops us (whole_list us) c at i j
    pub held : InRange (own_program (unit_at us c.unit) checked).execs i position

  -- the counts and steps of these DOs in a frame are those in the memory of the program
  pub record CountAlike (c : Context) (at : ℕ → ℕ) (position : ℕ) (counts : List ℕ) (steps : List ℤ) (m : Memory) : Type 0 where
    pub room : length counts ≡ (own_program (unit_at us c.unit) checked).loops
    pub step_room : length steps ≡ (own_program (unit_at us c.unit) checked).loops
    pub same : (i j : ℕ) → AreLive c at position i j → slice_index counts i ≡ slice_index m.counts j
    pub same_steps : (i j : ℕ) → AreLive c at position i j → word_at steps i ≡ word_at m.steps j

  -- The frames that wait while one of a context runs: none where it is the main program's, else first that of the CALL by which the
  -- context was come to, whose next executable is the one behind this CALL.
  pub data Wait (m : Memory) : Context → (ℕ → ℕ) → List Frame → Type 0 where
    nobody : Wait m (main_context us) (main_place us) []
    behind : {c : Context} {at : ℕ → ℕ} {rest : List Frame} (place : ℕ) (s : Labelled) (call : Call) (counts : List ℕ) (steps : List ℤ)
        → slice_get (unit_at us c.unit) place ≡ Some s
        → call_in s.stmt ≡ Some call
        → CountAlike c at (beyond (unit_at us c.unit) place s) counts steps m
        → Wait m c at rest
        → Wait m (inside us c place call) (inside_at us c at place s call) (frame_in c (beyond (unit_at us c.unit) place s) counts steps ∷ rest)

  module _ (p : Program) (input : List ℤ) (words : ℕ) (Paired : ℕ → ℕ → Type 0) where
    -- Both go on. The innermost frame is at a position for which the program's executable stands in the frame's context, and its
    -- counts are those of the copies; so are those of the frames that wait. Paired words are the same; as much data is taken, and
    -- the same was written.
    pub record AreInStep (x : CallState) (y : State) : Type 0 where
      pub going : x.mark ≡ Running
      pub other_going : y.mark ≡ Running
      pub context : Context
      pub at : ℕ → ℕ
      pub position : ℕ
      pub counts : List ℕ
      pub steps : List ℤ
      pub rest : List Frame
      pub frames : x.frames ≡ frame_in context position counts steps ∷ rest
      pub stands : Stands us (whole_list us) context at position y.position
      pub counted : CountAlike context at position counts steps y.memory
      pub waits : Wait y.memory context at rest
      pub room : length x.store ≡ words
      pub other_room : IsMemoryOf p input y.memory
      pub store : (v w : ℕ) → Paired v w → word_at x.store v ≡ word_at y.memory.store w
      pub taken : x.taken ≡ y.memory.taken
      pub out : x.out ≡ y.out

-- the second context is come to from the first by CALLs
pub data IsInside (us : List (List Labelled)) : Context → (ℕ → ℕ) → Context → (ℕ → ℕ) → Type 0 where
  directly : {c : Context} {at : ℕ → ℕ} (place : ℕ) (s : Labelled) (call : Call)
      → slice_get (unit_at us c.unit) place ≡ Some s
      → call_in s.stmt ≡ Some call
      → IsInside us c at (inside us c place call) (inside_at us c at place s call)
  further : {c d : Context} {at there : ℕ → ℕ} (place : ℕ) (s : Labelled) (call : Call)
      → slice_get (unit_at us c.unit) place ≡ Some s
      → call_in s.stmt ≡ Some call
      → IsInside us (inside us c place call) (inside_at us c at place s call) d there
      → IsInside us c at d there
