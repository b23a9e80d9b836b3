-- Frames beside a state of the program: in step but for where control is, of which anything is said.
use Rattle.std.proofs.Common.{◌≡◌, ℕ, ℤ, Bool, List, ◌∷◌, length, Some, slice_get, refl, ap, ◌∙◌, append-nil}
use Rattle.f77_tree.specs.declared.programs.ExecKind.TheVariants.{Pass}
use Rattle.f77_tree.specs.declared.programs.Program.{Program}
use Rattle.f77_tree.specs.declared.statements.Labelled.{Labelled}
use Rattle.f77_tree.specs.Run.{Running, State, step}
use Rattle.f77_tree.specs.Steps.{IsMemoryOf}
use Rattle.f77_tree.specs.Value.{word_at}
use Rattle.f77_tree.proofs.RunLaws.{step-running}
use Rattle.program_units.specs.Calls.{CallState, Frame}
use Rattle.program_units.specs.Copies.{Context}
use Rattle.program_units.specs.Expansion.{whole_list}
use Rattle.called_runs.specs.CopiedPositions.{Stands}
use Rattle.called_runs.specs.FramesInStep.{AreInStep, CountAlike, Wait, frame_in}

-- the same state, with control at another executable
abbrev pub moved : State → ℕ → State
moved y n = record y { position = n }

-- what goes on without doing anything only moves
pub passes : (p : Program) (input : List ℤ) (y : State) (line next : ℕ) → y.mark ≡ Running → slice_get p.execs y.position ≡ Some (record { line = line; kind = Pass next }) → step p input y ≡ moved y next
passes p input y line next going found = step-running p input y (record { line = line; kind = Pass next }) going found ∙ ap (λ (xs : List ℕ). let z : State = record y { position = next; out = xs } in z) (append-nil y.out)

module _ (us : List (List Labelled)) (checked : Bool) (p : Program) (input : List ℤ) (words : ℕ) (Paired : ℕ → ℕ → Type 0) where
  pub record Beside (c : Context) (at : ℕ → ℕ) (N : ℕ → ℕ → Type 0) (x : CallState) (y : State) : Type 0 where
    pub going : x.mark ≡ Running
    pub other_going : y.mark ≡ Running
    pub position : ℕ
    pub counts : List ℕ
    pub steps : List ℤ
    pub rest : List Frame
    pub frames : x.frames ≡ frame_in c position counts steps ∷ rest
    pub follows : N position y.position
    pub counted : CountAlike us checked c at position counts steps y.memory
    pub waits : Wait us checked y.memory c at rest
    pub room : length x.store ≡ words
    pub other_room : IsMemoryOf p input y.memory
    pub store : (v w : ℕ) → Paired v w → word_at x.store v ≡ word_at y.memory.store w
    pub taken : x.taken ≡ y.memory.taken
    pub out : x.out ≡ y.out

  pub stand : (c : Context) (at : ℕ → ℕ) (x : CallState) (y : State) → Beside c at (Stands us (whole_list us) c at) x y → AreInStep us checked p input words Paired x y
  stand c at x y b = record {
    going = b.going;
    other_going = b.other_going;
    context = c;
    at = at;
    position = b.position;
    counts = b.counts;
    steps = b.steps;
    rest = b.rest;
    frames = b.frames;
    stands = b.follows;
    counted = b.counted;
    waits = b.waits;
    room = b.room;
    other_room = b.other_room;
    store = b.store;
    taken = b.taken;
    out = b.out;
  }

  -- the program moves on
  abbrev pub move : (c : Context) (at : ℕ → ℕ) (N K : ℕ → ℕ → Type 0) (x : CallState) (y : State) (n : ℕ) (b : Beside c at N x y) → K b.position n → Beside c at K x (moved y n)
  move c at N K x y n b there = record {
    going = b.going;
    other_going = b.other_going;
    position = b.position;
    counts = b.counts;
    steps = b.steps;
    rest = b.rest;
    frames = b.frames;
    follows = there;
    counted = b.counted;
    waits = b.waits;
    room = b.room;
    other_room = b.other_room;
    store = b.store;
    taken = b.taken;
    out = b.out;
  }

  -- another frame is the innermost one
  pub enter : (c d : Context) (at there : ℕ → ℕ) (N K : ℕ → ℕ → Type 0) (x : CallState) (y : State) (position n : ℕ) (counts : List ℕ) (steps : List ℤ) (rest : List Frame) → Beside c at N x y → K position n
      → CountAlike us checked d there position counts steps y.memory → Wait us checked y.memory d there rest → Beside d there K (record x { frames = frame_in d position counts steps ∷ rest }) (moved y n)
  enter c d at there N K x y position n counts steps rest b follows counted waits = record {
    going = b.going;
    other_going = b.other_going;
    position = position;
    counts = counts;
    steps = steps;
    rest = rest;
    frames = refl;
    follows = follows;
    counted = counted;
    waits = waits;
    room = b.room;
    other_room = b.other_room;
    store = b.store;
    taken = b.taken;
    out = b.out;
  }
