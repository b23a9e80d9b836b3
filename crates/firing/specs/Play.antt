-- Runs of a step system, firing by firing: which node fires each time, what is shown, and why a run ends.
use Rattle.std.specs.Prelude.{◌≡◌, ◌≤◌, ◌<◌, ◌%◌, ℕ, zero, suc, List, [], ◌++◌, length, take, slice_index, Option, Some, None}
use Rattle.std.specs.Io.KnownBytes.{Appends}
use Rattle.df_io.specs.Write.{AppendsPrefix}
use Rattle.firing.specs.declared.playing.PlayEnd.{PlayEnd}
use Rattle.firing.specs.declared.playing.PlayEnd.TheVariants.{Rest, Trapped, Limit, WriteFault}
use Rattle.firing.specs.declared.playing.Show.{Show}
use Rattle.firing.specs.declared.playing.Show.TheVariants.{Output, Nodes, Nothing}
use Rattle.firing.specs.declared.system.Fired.{Fired}
use Rattle.firing.specs.Choice.{chosen}
use Rattle.firing.specs.Control.{Course, due_node, steered}
use Rattle.firing.specs.Moves.{Moves, CanFire, line_after, line_bytes}
use Rattle.firing.specs.NameLine.{name_line}
use Rattle.firing.specs.Orders.{IsOrder, IsOver, after, written as written_by}

-- a marking, and the control beside it
pub record Moment (M P : Type 0) : Type 0 where
  pub marking : M
  pub control : Option P

abbrev pub moment : {M P : Type 0} → M → Option P → Moment M P
moment m c = record { marking = m; control = c }

-- A way of playing: what firings do, and which node the firing of this number is of.
pub record Way (M P : Type 0) : Type 0 where
  pub moves : Moves M
  pub course : Course M P
  pub choice : ℕ → Moment M P → ℕ

-- ---- which node fires

-- the picks choose, over and over
abbrev pub by_picks : {M P : Type 0} → Moves M → Course M P → List ℕ → Way M P
by_picks s course picks = record { moves = s; course = course; choice = λ i now. chosen s now.marking (slice_index picks (i % length picks)) }

-- the node, if there is one
abbrev pub node_of : Option ℕ → ℕ
node_of None = 0
node_of (Some k) = k

-- the node that is due fires
abbrev pub by_order : {M P : Type 0} → Moves M → Course M P → Way M P
by_order s course = record { moves = s; course = course; choice = λ i now. node_of (due_node s course now.marking now.control) }

-- ---- runs

-- the moment after a firing
abbrev pub next : {M P : Type 0} → Way M P → Moment M P → ℕ → Moment M P
next w now k = moment (w.moves.fired now.marking k) (steered w.course now.marking now.control k)

-- the moment after n firings
abbrev pub played : {M P : Type 0} → Way M P → Moment M P → ℕ → Moment M P
played w start zero = start
played w start (suc n) = next w (played w start n) (w.choice n (played w start n))

-- the node of the firing number n
abbrev pub node_at : {M P : Type 0} → Way M P → Moment M P → ℕ → ℕ
node_at w start n = w.choice n (played w start n)

-- what is shown of a firing
abbrev pub shown_of : {M : Type 0} → Moves M → Show → M → ℕ → List ℕ
shown_of s Output m k = line_bytes (s.line m k)
shown_of s Nodes m k = name_line k (s.name k)
shown_of s Nothing m k = []

-- what is shown of firings of which only the last one can have written a line, by its node and answer and the newest line
abbrev pub told : {M : Type 0} → Moves M → Show → ℕ → Fired → List ℕ → List ℕ
told s Output k fired newest = line_after fired newest
told s Nodes k fired newest = name_line k (s.name k)
told s Nothing k fired newest = []

-- what is shown of the firing number n
abbrev pub shown_at : {M P : Type 0} → Way M P → Show → Moment M P → ℕ → List ℕ
shown_at w show start n = shown_of w.moves show (played w start n).marking (node_at w start n)

-- what is shown of n firings
abbrev pub shown : {M P : Type 0} → Way M P → Show → Moment M P → ℕ → List ℕ
shown w show start zero = []
shown w show start (suc n) = shown w show start n ++ shown_at w show start n

-- ---- ends

-- why a run ends after n firings
abbrev pub EndsBy : {M P : Type 0} → Way M P → Moment M P → (limit n : ℕ) → PlayEnd → Type 0
EndsBy w start limit n (Rest count) = (count ≡ n) × (w.moves.trap (played w start n).marking ≡ None) × IsOver w.moves (played w start n).marking
EndsBy w start limit n (Trapped trap line) = w.moves.trap (played w start n).marking ≡ Some (trap, line)
EndsBy w start limit n Limit = (n ≡ limit) × CanFire w.moves (played w start n).marking (node_at w start n)
EndsBy w start limit n (WriteFault count) = count ≡ n

-- What is shown of all firings but the last was written, and of the last one a prefix.
pub record BreaksOff {M P : Type 0} (w : Way M P) (show : Show) (start : Moment M P) (n : ℕ) (old new : Option (List ℕ)) : Type 0 where
  pub last : ℕ
  pub is : n ≡ suc last
  pub count : ℕ
  pub within : count ≤ length (shown_at w show start last)
  pub written : Appends old new (shown w show start last ++ take count (shown_at w show start last))

-- what was written of n firings
abbrev pub Writes : {M P : Type 0} → Way M P → Show → Moment M P → ℕ → (old new : Option (List ℕ)) → PlayEnd → Type 0
Writes w show start n old new (WriteFault count) = BreaksOff w show start n old new
Writes w show start n old new _ = Appends old new (shown w show start n)

-- A run up to a stop or the limit.
pub record Plays {M P : Type 0} (w : Way M P) (start : Moment M P) (limit : ℕ) (show : Show) (end : Moment M P) (old new : Option (List ℕ)) (result : PlayEnd) : Type 0 where
  pub firings : ℕ
  pub leads : end ≡ played w start firings
  -- each node could fire in its turn, so that there was no stop before
  pub going : (n : ℕ) → n < firings → CanFire w.moves (played w start n).marking (node_at w start n)
  pub bounded : firings ≤ limit
  pub ends : EndsBy w start limit firings result
  pub writes : Writes w show start firings old new result

-- ---- the order that a run makes

-- Where lines are shown, what was added to the output was written, or after a fault a prefix of it.
abbrev pub WritesOutput : Show → List ℕ → (old new : Option (List ℕ)) → PlayEnd → Type 0
WritesOutput Output added old new (WriteFault count) = AppendsPrefix old new added
WritesOutput Output added old new _ = Appends old new added
WritesOutput _ added old new _ = Unit {0}

-- how many firings an answer tells
abbrev pub Counts : (limit made : ℕ) → PlayEnd → Type 0
Counts limit made (Rest n) = made ≡ n
Counts limit made (Trapped trap line) = made ≤ limit
Counts limit made Limit = made ≡ limit
Counts limit made (WriteFault n) = made ≡ n

-- The nodes that fired are an order, and what is written as output is what it adds to the output.
pub record MakesOrder {M : Type 0} (s : Moves M) (start : M) (limit : ℕ) (show : Show) (end : M) (old new : Option (List ℕ)) (result : PlayEnd) : Type 0 where
  pub nodes : List ℕ
  pub count : Counts limit (length nodes) result
  pub order : IsOrder s start nodes
  pub leads : after s start nodes ≡ end
  pub written : WritesOutput show (written_by s start nodes) old new result
