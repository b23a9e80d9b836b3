-- The run of program units: a stack of frames over the words of locals and blocks.
use Rattle.std.specs.Prelude.{◌≡◌, ℕ, zero, suc, ◌==◌, if◌then◌else◌, ℤ, pos, ◌↔◌, Bool, List, [], ◌∷◌, ◌++◌, map, find, replicate, Option, Some, None, slice_get}
use Rattle.op_table.specs.declared.Trap.{Trap}
use Rattle.f77_tree.specs.declared.programs.Exec.{Exec}
use Rattle.f77_tree.specs.declared.programs.ExecKind.{ExecKind}
use Rattle.f77_tree.specs.declared.programs.ExecKind.TheVariants.{Pass, End}
use Rattle.f77_tree.specs.declared.statements.Labelled.{Labelled}
use Rattle.f77_tree.specs.declared.statements.Stmt.{Stmt}
use Rattle.f77_tree.specs.declared.statements.Stmt.TheVariants.{Stop, CallTo, Back}
use Rattle.f77_tree.specs.Execution.{Memory, Outcome, Goes, Stops, Ends, outcome}
use Rattle.f77_tree.specs.Run.{Mark, Running, Ended, Trapped, State}
use Rattle.program_units.specs.Units.{inner, unit_at, unit_of}
use Rattle.program_units.specs.Layouts.{own_program}
use Rattle.program_units.specs.Entities.{Entity, stands_for}
use Rattle.program_units.specs.Storage.{placed}

pub record Frame : Type 0 where
  pub unit : ℕ
  pub arguments : List Entity
  pub position : ℕ
  pub counts : List ℕ
  pub steps : List ℤ

pub record CallState : Type 0 where
  pub frames : List Frame
  pub store : List ℤ
  pub taken : ℕ
  pub out : List ℕ
  pub mark : Mark

pub data Act : Type 0 where
  Calls : (name : List ℕ) (arguments : List (List ℕ)) (next : ℕ) → Act
  Returns : Act
  Halts : Act
  Does : Act

abbrev pub act_of_pass : (next : ℕ) → Stmt → Act
act_of_pass next (CallTo name arguments) = Calls name arguments next
act_of_pass next Back = Returns
act_of_pass next Stop = Halts
act_of_pass next _ = Does

abbrev pub pass_on : (next : ℕ) → Option Labelled → Act
pass_on next None = Does
pass_on next (Some s) = act_of_pass next (inner s.stmt)

abbrev pub act : List (List Labelled) → ℕ → Exec → Act
act us k exec = by_kind exec.kind
  where
    by_kind : ExecKind → Act
    by_kind (Pass next) = pass_on next (find (λ s. s.line == exec.line) (unit_at us k))
    by_kind End = if k == 0 then Halts else Returns
    by_kind _ = Does

module _ (us : List (List Labelled)) (checked : Bool) (spot : Entity → ℕ) (input : List ℤ) where
  abbrev pub frame_of : ℕ → List Entity → Frame
  frame_of k arguments = record { unit = k; arguments = arguments; position = 0; counts = replicate (own_program (unit_at us k) checked).loops 0; steps = replicate (own_program (unit_at us k) checked).loops (pos 0) }

  abbrev pub memory_of : CallState → Frame → Memory
  memory_of x f = record { store = x.store; counts = f.counts; steps = f.steps; taken = x.taken }

  abbrev pub after : CallState → Frame → List Frame → (line : ℕ) → Outcome → CallState
  after x f rest line (Goes next m text) = record x { frames = record f { position = next; counts = m.counts; steps = m.steps } ∷ rest; store = m.store; taken = m.taken; out = x.out ++ text }
  after x f rest line (Stops trap) = record x { mark = Trapped trap line }
  after x f rest line Ends = record x { mark = Ended }

  abbrev pub acted : CallState → Frame → List Frame → Exec → Act → CallState
  acted x f rest exec (Calls name arguments next) = record x { frames = frame_of (unit_of us name) (map (stands_for us f.unit f.arguments) arguments) ∷ record f { position = next } ∷ rest }
  acted x f rest exec Returns = record x { frames = rest }
  acted x f rest exec Halts = record x { mark = Ended }
  acted x f rest exec Does = after x f rest exec.line (outcome (placed us spot f.unit f.arguments (own_program (unit_at us f.unit) checked).names) input (memory_of x f) exec.kind)

  abbrev pub executed : CallState → Frame → List Frame → Option Exec → CallState
  executed x f rest None = x
  executed x f rest (Some exec) = acted x f rest exec (act us f.unit exec)

  abbrev pub on_top : CallState → List Frame → CallState
  on_top x [] = x
  on_top x (f ∷ rest) = executed x f rest (slice_get (own_program (unit_at us f.unit) checked).execs f.position)

  abbrev pub step_from : CallState → Mark → CallState
  step_from x Running = on_top x x.frames
  step_from x Ended = x
  step_from x (Trapped trap line) = x

  abbrev pub called : (opening : List ℤ) → ℕ → CallState
  called opening zero = record { frames = frame_of 0 [] ∷ []; store = opening; taken = 0; out = []; mark = Running }
  called opening (suc n) = step_from (called opening n) (called opening n).mark

-- ---- two runs

pub record ReachesText (run : ℕ → List ℕ) (text : List ℕ) : Type 0 where
  pub steps : ℕ
  pub rest : List ℕ
  pub is : run steps ≡ text ++ rest

pub record HasMark (mark : ℕ → Mark) (out : ℕ → List ℕ) (which : Mark) (text : List ℕ) : Type 0 where
  pub steps : ℕ
  pub is : mark steps ≡ which
  pub whole : out steps ≡ text

-- they write the same, end alike with the same whole output, and trap alike, at one line
pub record RunsAlike (a : ℕ → CallState) (b : ℕ → State) : Type 0 where
  pub front : (n : ℕ) → ReachesText (λ m. (b m).out) (a n).out
  pub back : (n : ℕ) → ReachesText (λ m. (a m).out) (b n).out
  pub ends : (text : List ℕ) → HasMark (λ n. (a n).mark) (λ n. (a n).out) Ended text ↔ HasMark (λ n. (b n).mark) (λ n. (b n).out) Ended text
  pub traps : (trap : Trap) (line : ℕ) (text : List ℕ) → HasMark (λ n. (a n).mark) (λ n. (a n).out) (Trapped trap line) text ↔ HasMark (λ n. (b n).mark) (λ n. (b n).out) (Trapped trap line) text
