-- A program as it was given, and in the language of `dfc`.
use Rattle.std.specs.Prelude.{◌≤◌, ℕ, Bool, true, false, List, length, Option, Some, None}
use Rattle.f77_lower.specs.Lowering.{IsAsItWas, IsLineMap, IsProgram}
use Rattle.f77_lower.specs.declared.lowering.Lowered.{Lowered}
use Rattle.source_maps.specs.Places.{Map, no_map}
use Rattle.view_jobs.specs.declared.given.Given as read_given

-- its text, that in the language of `dfc`, and what in the first became lines and names of the second
pub record Given : Type 0 where
  pub source : List ℕ
  pub text : List ℕ
  pub map : Map

abbrev pub map_lowered : Lowered → Map
map_lowered lowered = record { lines = lowered.lines.items; names = lowered.renamed.items }

-- a source as it is, or what it was lowered to
abbrev pub given_as : (source : List ℕ) → Option Lowered → Given
given_as source None = record { source = source; text = source; map = no_map }
given_as source (Some lowered) = record { source = source; text = lowered.text.items; map = map_lowered lowered }

abbrev pub given_meant : read_given.Given → Given
given_meant given = given_as given.source.items given.lowered

-- A source was lowered to a program, and is that program where it is one.
pub record Lowers (source : List ℕ) (lowered : Lowered) : Type 0 where
  pub program : IsProgram lowered.text.items
  pub same : IsProgram source → IsAsItWas source lowered
  pub lines : IsLineMap source lowered.text.items lowered.lines.items

-- everyday Fortran is lowered, and another program is not
abbrev pub IsLoweredTo : (is_wide : Bool) → (source : List ℕ) → Option Lowered → Type 0
IsLoweredTo true source (Some lowered) = Lowers source lowered
IsLoweredTo false source None = Unit {0}
IsLoweredTo _ source _ = ⊥

-- This is so of the program of a source.
pub record OfGiven (is_wide : Bool) (source : List ℕ) (Holds : Given → Type 0) : Type 0 where
  pub lowered : Option Lowered
  pub is : IsLoweredTo is_wide source lowered
  pub holds : Holds (given_as source lowered)

-- neither text has more than 4,194,304 bytes
abbrev pub IsWithin : Given → Type 0
IsWithin given = (length given.source ≤ 4194304) × (length given.text ≤ 4194304)
