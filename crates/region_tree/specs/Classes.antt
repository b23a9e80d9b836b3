-- The next edge of the same class in a list of edges. No public clause cites this module.
use Rattle.std.specs.Prelude.{ℕ, ◌==◌, if◌then◌else◌, List, [], ◌∷◌, Option, Some, None, slice_index}

-- the first of the edges that is of the class
abbrev pub first_of : List ℕ → (class : ℕ) → List ℕ → Option ℕ
first_of classes class [] = None
first_of classes class (e ∷ edges) = if slice_index classes e == class then Some e else first_of classes class edges

-- the first edge after e that is of the same class
abbrev pub next_of : List ℕ → (e : ℕ) → List ℕ → Option ℕ
next_of classes e [] = None
next_of classes e (f ∷ edges) = if f == e then first_of classes (slice_index classes f) edges else next_of classes e edges
