-- What a program that a text with subroutines comes to has to do: what the text's units do, with a frame for each CALL.
use Rattle.std.specs.Prelude.{◌≡◌, ℕ, ◌+◌, ◌*◌, ◌≤◌, ℤ, pos, ◌<ℤ◌, Bool, List}
use Rattle.f77_tree.specs.declared.programs.NameInfo.{NameInfo}
use Rattle.f77_tree.specs.declared.programs.Program.{Program}
use Rattle.f77_tree.specs.declared.statements.Labelled.{Labelled}
use Rattle.f77_tree.specs.Run.{State, source}
use Rattle.f77_tree.specs.Value.{word_at}
use Rattle.program_units.specs.declared.entity.Entity.{Entity}
use Rattle.program_units.specs.Calls.{CallState, RunsAlike, called}
use Rattle.program_units.specs.Storage.{IsStorage, size_in}
use Rattle.program_units.specs.Units.{units}
use Rattle.called_runs.specs.PairedWords.{IsShown, listed_spot}

-- Wherever the words of locals and blocks lie, over any data: a run of the units and a run of the program write the same, end alike
-- with the same whole output, and trap alike, at one line.
abbrev pub RunsAsCalled : List Labelled → (checked : Bool) → Program → Type 0
RunsAsCalled stmts checked p =
    (spot : Entity → ℕ) (words : ℕ) (opening input : List ℤ) → IsStorage (units stmts) checked spot words opening
    → RunsAlike (called (units stmts) checked spot input opening) (source p input)

-- Each word of an entity is the word that its name has in the store of the program, where the program has the name.
abbrev pub HoldsByName : List (List Labelled) → List NameInfo → (spot : Entity → ℕ) → (store other : List ℤ) → Type 0
HoldsByName us names spot store other =
    (e : Entity) (offset : ℕ) → IsShown us names e → pos offset <ℤ size_in us e → word_at store (spot e + offset) ≡ word_at other (listed_spot us names e + offset)

-- After at most four steps of the program for each of the units, both have written the same, have the same mark and hold the same words
-- by name. (The four are those of a CALL whose condition is false: a label, the test, END IF and a label.)
pub record KeepsPace (us : List (List Labelled)) (names : List NameInfo) (spot : Entity → ℕ) (a : ℕ → CallState) (b : ℕ → State) (n : ℕ) : Type 0 where
  pub steps : ℕ
  pub few : steps ≤ 4 * n
  pub outs : (a n).out ≡ (b steps).out
  pub marks : (a n).mark ≡ (b steps).mark
  pub words : HoldsByName us names spot (a n).store (b steps).memory.store

-- So it is after any number of steps of the units, over any storage and data.
abbrev pub KeepsPaceWithCalls : List Labelled → (checked : Bool) → Program → Type 0
KeepsPaceWithCalls stmts checked p =
    (spot : Entity → ℕ) (words : ℕ) (opening input : List ℤ) → IsStorage (units stmts) checked spot words opening
    → (n : ℕ) → KeepsPace (units stmts) p.names spot (called (units stmts) checked spot input opening) (source p input) n
