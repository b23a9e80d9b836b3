-- The runs of a text: those of the program that it is, or of its units by a stack of frames.
use Rattle.std.specs.Prelude.{◌≡◌, ◌↔◌, ◌≤◌, ◌*◌, ℕ, ℤ, Bool, true, false, List}
use Rattle.op_table.specs.declared.Trap.{Trap}
use Rattle.f77_tree.specs.declared.programs.Program.{Program}
use Rattle.f77_tree.specs.declared.statements.Labelled.{Labelled}
use Rattle.f77_tree.specs.Run.{Mark, Ended, EndsIn, Trapped, source}
use Rattle.program_units.specs.declared.entity.Entity.{Entity}
use Rattle.program_units.specs.Calls.{CallState, HasMark, ReachesText, called}
use Rattle.program_units.specs.Storage.{IsStorage}
use Rattle.program_units.specs.Units.{units}
use Rattle.called_runs.specs.RunsAsCalled.{HoldsByName}
use Rattle.f77_source.specs.Listed.{is_one_unit}
use Rattle.f77_source.specs.Reading.{HasStatements}

-- What is seen of a run: what was written in so many steps, and whether it then goes on, has ended or has trapped, at which line.
pub record SourceRun : Type 0 where
  pub out : (steps : ℕ) → List ℕ
  pub mark : (steps : ℕ) → Mark

-- a run over each list of data
abbrev pub SourceRuns : Type 0
SourceRuns = (input : List ℤ) → SourceRun

-- that of a program
abbrev pub run_of : Program → SourceRuns
run_of p input = record { out = λ n. (source p input n).out; mark = λ n. (source p input n).mark }

-- that of units, where a CALL puts a frame on a stack and RETURN takes it away, over a storage of words for locals and blocks
abbrev pub run_of_units : List (List Labelled) → (checked : Bool) → (spot : Entity → ℕ) → (opening : List ℤ) → SourceRuns
run_of_units us checked spot opening input =
    let run = called us checked spot input opening in
    record { out = λ n. (run n).out; mark = λ n. (run n).mark }

-- The runs of a text that is this program: of one unit without subroutines those of the program; of several those of the units, over
-- any storage that obeys their declarations.
pub data AreRunsOf (bytes : List ℕ) (checked : Bool) (p : Program) : SourceRuns → Type 0 where
  of_one_unit : (stmts : List Labelled) → HasStatements bytes stmts → is_one_unit stmts ≡ true → AreRunsOf bytes checked p (run_of p)
  of_units : (stmts : List Labelled) → HasStatements bytes stmts → is_one_unit stmts ≡ false
      → (spot : Entity → ℕ) (words : ℕ) (opening : List ℤ) → IsStorage (units stmts) checked spot words opening
      → AreRunsOf bytes checked p (run_of_units (units stmts) checked spot opening)

pub record HasRuns (bytes : List ℕ) (checked : Bool) (p : Program) : Type 0 where
  pub runs : SourceRuns
  pub are : AreRunsOf bytes checked p runs

-- ---- what a run comes to

-- what the run writes begins with this text
abbrev pub Writes : SourceRun → (text : List ℕ) → Type 0
Writes run text = ReachesText run.out text

-- the run stops with this mark, and the text is all that it writes
abbrev pub Stops : SourceRun → Mark → (text : List ℕ) → Type 0
Stops run mark text = HasMark run.mark run.out mark text

-- it traps at some line
pub record StopsByTrap (run : SourceRun) (trap : Trap) (text : List ℕ) : Type 0 where
  pub line : ℕ
  pub stops : Stops run (Trapped trap line) text

-- ---- two runs

-- After some steps of the second, at most four for each of the first, both have written the same, and have the same mark.
pub record KeepsUp (a b : SourceRun) (n : ℕ) : Type 0 where
  pub steps : ℕ
  pub few : steps ≤ 4 * n
  pub outs : a.out n ≡ b.out steps
  pub marks : a.mark n ≡ b.mark steps

-- What either has written the other writes too; one ends exactly where the other ends, and one traps exactly where the other traps,
-- with the same trap, line and whole output. The second keeps up with the first.
pub record AreAlike (a b : SourceRun) : Type 0 where
  pub front : (n : ℕ) → Writes b (a.out n)
  pub back : (n : ℕ) → Writes a (b.out n)
  pub ends : (text : List ℕ) → Stops a Ended text ↔ Stops b Ended text
  pub traps : (trap : Trap) (line : ℕ) (text : List ℕ) → Stops a (Trapped trap line) text ↔ Stops b (Trapped trap line) text
  pub keeps_up : (n : ℕ) → KeepsUp a b n

-- the same, whatever the steps, of programs with lines of their own: a trap may come at another line
pub record PrintTheSame (a b : SourceRun) : Type 0 where
  pub front : (n : ℕ) → Writes b (a.out n)
  pub back : (n : ℕ) → Writes a (b.out n)
  pub ends : (text : List ℕ) → Stops a Ended text ↔ Stops b Ended text
  pub traps : (trap : Trap) (text : List ℕ) → StopsByTrap a trap text ↔ StopsByTrap b trap text

-- Where the run of units comes to this state by n steps and ends, the program ends in at most four times as many, and holds the words of
-- each entity under its name.
pub record EndsByName (us : List (List Labelled)) (spot : Entity → ℕ) (x : CallState) (p : Program) (input : List ℤ) (n : ℕ) : Type 0 where
  pub steps : ℕ
  pub few : steps ≤ 4 * n
  pub ends : EndsIn p input steps
  pub words : HoldsByName us p.names spot x.store (source p input steps).memory.store

-- so it is of the units of these statements, over any storage and data
abbrev pub UnitsEndByName : List Labelled → (checked : Bool) → Program → Type 0
UnitsEndByName stmts checked p =
    (spot : Entity → ℕ) (words : ℕ) (opening input : List ℤ) (n : ℕ) → IsStorage (units stmts) checked spot words opening
    → (called (units stmts) checked spot input opening n).mark ≡ Ended → EndsByName (units stmts) spot (called (units stmts) checked spot input opening n) p input n

-- The text has runs, and any runs of it are alike with those of the program. Where several units end, so does the program, with the words
-- of entities under their names.
pub record RunsAs (bytes : List ℕ) (checked : Bool) (p : Program) : Type 0 where
  pub has : HasRuns bytes checked p
  pub alike : (runs : SourceRuns) → AreRunsOf bytes checked p runs → (input : List ℤ) → AreAlike (runs input) (run_of p input)
  pub ends : (stmts : List Labelled) → HasStatements bytes stmts → is_one_unit stmts ≡ false → UnitsEndByName stmts checked p
