-- DO loops: each begins at one executable and is incremented at a later one, and nothing but its beginning leads into
-- its range (ANSI X3.9-1978, section 11.10).
use Rattle.std.specs.Prelude.{◌≡◌, ℕ, suc, ◌<◌, ◌≤◌, ◌⊎◌, Bool, false, ◌==◌, List, Option, Some, None, slice_get}
use Rattle.std.specs.List.{position_or_len}
use Rattle.f77_tree.specs.declared.programs.ExecKind.{ExecKind}
use Rattle.f77_tree.specs.declared.programs.ExecKind.TheVariants.{DoStart, DoNext}
use Rattle.f77_tree.specs.declared.programs.Exec.{Exec}
use Rattle.f77_tree.specs.Control.{LeadsTo}

-- a DO as an executable names it: its number, its variable, the first executable of its range, and where control goes
-- after the last iteration
pub record Loop : Type 0 where
  pub number : ℕ
  pub variable : ℕ
  pub body : ℕ
  pub exit : ℕ

-- the DO that an executable begins
abbrev pub begun : ExecKind → Option Loop
begun (DoStart loop_no var first last step body exit) = Some (record { number = loop_no; variable = var; body = body; exit = exit })
begun _ = None

-- the DO that an executable increments
abbrev pub incremented : ExecKind → Option Loop
incremented (DoNext loop_no var body exit) = Some (record { number = loop_no; variable = var; body = body; exit = exit })
incremented _ = None

abbrev pub begun_in : Option Exec → Option Loop
begun_in None = None
begun_in (Some exec) = begun exec.kind

abbrev pub incremented_in : Option Exec → Option Loop
incremented_in None = None
incremented_in (Some exec) = incremented exec.kind

abbrev pub begun_at : List Exec → ℕ → Option Loop
begun_at execs k = begun_in (slice_get execs k)

abbrev pub incremented_at : List Exec → ℕ → Option Loop
incremented_at execs k = incremented_in (slice_get execs k)

abbrev pub is_number : ℕ → Option Loop → Bool
is_number n None = false
is_number n (Some loop) = loop.number == n

-- the executable that begins the DO n, the first of them if there were more
abbrev pub do_start : List Exec → ℕ → ℕ
do_start execs n = position_or_len (λ exec. is_number n (begun exec.kind)) execs

-- the executable that increments the DO n, the first of them if there were more
abbrev pub do_next : List Exec → ℕ → ℕ
do_next execs n = position_or_len (λ exec. is_number n (incremented exec.kind)) execs

-- the executable k lies in the range of the DO n: after its DoStart, up to and with its DoNext
pub record InRange (execs : List Exec) (n k : ℕ) : Type 0 where
  pub after_start : do_start execs n < k
  pub up_to_next : k ≤ do_next execs n

-- the DO n has one DoStart and, later, one DoNext, which name the same variable, body and exit
pub record IsLoop (execs : List Exec) (n : ℕ) : Type 0 where
  pub loop : Loop
  pub begins : begun_at execs (do_start execs n) ≡ Some loop
  pub increments : incremented_at execs (do_next execs n) ≡ Some loop
  pub number : loop.number ≡ n
  pub later : do_start execs n < do_next execs n
  pub one_start : (k : ℕ) (other : Loop) → begun_at execs k ≡ Some other → other.number ≡ n → k ≡ do_start execs n
  pub one_next : (k : ℕ) (other : Loop) → incremented_at execs k ≡ Some other → other.number ≡ n → k ≡ do_next execs n
  -- the body is the executable after the DoStart
  pub body : loop.body ≡ suc (do_start execs n)
  -- the exit doesn't lie in the range
  pub exit : InRange execs n loop.exit → ⊥

-- the only successor that leads into the range from outside is the body of the DoStart
abbrev pub IsEnteredAtStart : List Exec → ℕ → Type 0
IsEnteredAtStart execs n = (k s : ℕ) → (InRange execs n k → ⊥) → LeadsTo execs k s → InRange execs n s → (k ≡ do_start execs n) × (s ≡ suc (do_start execs n))

-- the range of the DO m holds that of the DO n
abbrev pub Holds : List Exec → ℕ → ℕ → Type 0
Holds execs m n = (k : ℕ) → InRange execs n k → InRange execs m k

-- the ranges of two DOs share no executable
abbrev pub ShareNone : List Exec → ℕ → ℕ → Type 0
ShareNone execs m n = (k : ℕ) → InRange execs m k → InRange execs n k → ⊥

-- the DOs are numbered below a count, in the order in which they begin, and their ranges are nested or share nothing
pub record AreLoops (execs : List Exec) (count : ℕ) : Type 0 where
  pub each : (n : ℕ) → n < count → IsLoop execs n
  pub starts : (k : ℕ) (loop : Loop) → begun_at execs k ≡ Some loop → loop.number < count
  pub nexts : (k : ℕ) (loop : Loop) → incremented_at execs k ≡ Some loop → loop.number < count
  pub rising : (m n : ℕ) → m < n → n < count → do_start execs m < do_start execs n
  pub entered : (n : ℕ) → n < count → IsEnteredAtStart execs n
  pub nested : (m n : ℕ) → m < count → n < count → Holds execs m n ⊎ (Holds execs n m ⊎ ShareNone execs m n)
