-- What a run of a program does over its data: one executable at each step.
use Rattle.std.specs.Prelude.{◌≡◌, ℕ, zero, suc, ◌<◌, ◌↔◌, ℤ, pos, List, [], ◌++◌, replicate, Option, Some, None, slice_get}
use Rattle.op_table.specs.declared.Trap.{Trap}
use Rattle.f77_tree.specs.declared.programs.Exec.{Exec}
use Rattle.f77_tree.specs.declared.programs.Program.{Program}
use Rattle.f77_tree.specs.Execution.{Memory, Outcome, Goes, Stops, Ends, outcome}

-- whether a run goes on, has ended, or has trapped, at which line
pub data Mark : Type 0 where
  Running : Mark
  Ended : Mark
  Trapped : (trap : Trap) (line : ℕ) → Mark

-- where a run is: the executable that comes next, what executables read and change, what was written, and the mark
pub record State : Type 0 where
  pub position : ℕ
  pub memory : Memory
  pub out : List ℕ
  pub mark : Mark

-- the state after an executable of this line
abbrev pub after : State → (line : ℕ) → Outcome → State
after x line (Goes next memory text) = record x { position = next; memory = memory; out = x.out ++ text }
after x line (Stops trap) = record x { mark = Trapped trap line }
after x line Ends = record x { mark = Ended }

abbrev pub executed_at : Program → List ℤ → State → Option Exec → State
executed_at p input x None = x
executed_at p input x (Some exec) = after x exec.line (outcome p.names input x.memory exec.kind)

abbrev pub step_from : Program → List ℤ → State → Mark → State
step_from p input x Running = executed_at p input x (slice_get p.execs x.position)
step_from p input x Ended = x
step_from p input x (Trapped trap line) = x

-- a step; a run that has ended or trapped stays as it is
abbrev pub step : Program → List ℤ → State → State
step p input x = step_from p input x x.mark

-- the initial words, each count and step 0, and no data taken
abbrev pub first_memory : Program → Memory
first_memory p = record { store = p.initial; counts = replicate p.loops 0; steps = replicate p.loops (pos 0); taken = 0 }

-- where a run begins: at the first executable, with nothing written
abbrev pub start : Program → State
start p = record { position = 0; memory = first_memory p; out = []; mark = Running }

-- the state after n steps
abbrev pub source : Program → List ℤ → ℕ → State
source p input zero = start p
source p input (suc n) = step p input (source p input n)

-- what was written in n steps
abbrev pub out : Program → List ℤ → ℕ → List ℕ
out p input n = (source p input n).out

-- the run has this mark after n steps, and goes on before
pub record StopsFirst (p : Program) (input : List ℤ) (n : ℕ) (mark : Mark) : Type 0 where
  pub reached : (source p input n).mark ≡ mark
  pub before : (m : ℕ) → m < n → (source p input m).mark ≡ Running

-- the run ends in n steps, and not before
abbrev pub EndsIn : Program → List ℤ → ℕ → Type 0
EndsIn p input n = StopsFirst p input n Ended

-- the run traps at step n, and not before, at this line
abbrev pub TrapsAt : Program → List ℤ → ℕ → Trap → ℕ → Type 0
TrapsAt p input n trap line = StopsFirst p input n (Trapped trap line)

-- ---- two runs

-- what was written at some time begins with this text
pub record Reaches (run : ℕ → State) (text : List ℕ) : Type 0 where
  pub steps : ℕ
  pub rest : List ℕ
  pub is : (run steps).out ≡ text ++ rest

-- the run ends
pub record HasEnded (run : ℕ → State) : Type 0 where
  pub steps : ℕ
  pub ended : (run steps).mark ≡ Ended

-- the run traps, at any line, and this text is its whole output
pub record HasTrapped (run : ℕ → State) (trap : Trap) (text : List ℕ) : Type 0 where
  pub steps : ℕ
  pub line : ℕ
  pub trapped : (run steps).mark ≡ Trapped trap line
  pub whole : (run steps).out ≡ text

-- two runs print the same: what either has written is a prefix of what the other reaches; one ends exactly where the
-- other ends, and traps exactly where the other traps, with the same kind and the same whole output
pub record PrintAlike (a b : ℕ → State) : Type 0 where
  pub prefix : (n : ℕ) → Reaches b (a n).out
  pub back : (n : ℕ) → Reaches a (b n).out
  pub ends : HasEnded a ↔ HasEnded b
  pub traps : (trap : Trap) (text : List ℕ) → HasTrapped a trap text ↔ HasTrapped b trap text
