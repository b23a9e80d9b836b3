-- The contexts of the whole list.
use Rattle.std.specs.Prelude.{◌≡◌, ℕ, ◌+◌, ◌≤◌, List, Some, slice_get}
use Rattle.f77_tree.specs.declared.statements.Labelled.{Labelled}
use Rattle.program_units.specs.Units.{Call, call_in, guard_of, unit_at}
use Rattle.program_units.specs.Copies.{Context}
use Rattle.program_units.specs.CopiedLoops.{HasItsLoops}
use Rattle.program_units.specs.Expansion.{main_context, whole_list}
use Rattle.program_units.specs.Heights.{height}
use Rattle.program_units.specs.ListedCopies.{StandsIn, called_context, copied_place, lines_before, main_place}

-- the main program's, and that of each CALL in one of them, with the places where what stands for their statements begins
pub data IsReached (us : List (List Labelled)) : Context → (ℕ → ℕ) → Type 0 where
  main : IsReached us (main_context us) (main_place us)
  called : {c : Context} {at : ℕ → ℕ} (place : ℕ) (s : Labelled) (call : Call) → IsReached us c at → slice_get (unit_at us c.unit) place ≡ Some s → call_in s.stmt ≡ Some call
      → IsReached us (called_context us c place call) (copied_place us (called_context us c place call) (at place + lines_before (guard_of s.stmt)))

-- a context in its place: its statements and its loops stand there, and it is deep enough for the copies in it
pub record IsInPlace (us : List (List Labelled)) (c : Context) (at : ℕ → ℕ) : Type 0 where
  pub stands : StandsIn us (whole_list us) c at
  pub loops : HasItsLoops us (whole_list us) c at
  pub deep : height us c.unit ≤ c.depth
