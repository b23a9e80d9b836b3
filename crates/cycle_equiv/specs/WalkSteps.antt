-- How many steps the walk takes.
use Rattle.std.specs.Prelude.{ℕ, zero, suc, ◌+◌, ◌*◌, ◌≤◌, Bool, ◌==◌, ◌&&◌, not, nat_lt, if◌then◌else◌}
use Rattle.closed_walks.specs.Graph.{Graph}
use Rattle.cycle_equiv.specs.Walking.{Trail, earlier}
use Rattle.cycle_equiv.specs.TrailReaches.{Reaches}

-- the sum of a function over the numbers below n
abbrev pub sum_to : (ℕ → ℕ) → ℕ → ℕ
sum_to f zero = 0
sum_to f (suc n) = sum_to f n + f n

-- how many of the numbers below n pass a test
abbrev pub how_many : (ℕ → Bool) → ℕ → ℕ
how_many test n = sum_to (λ x. if test x then 1 else 0) n

-- At the node the edge was taken by which it was found.
abbrev pub goes_back : Graph → Trail → ℕ → Bool
goes_back g w x = not (x == w.tree.root) && nat_lt (earlier g x (w.tree.parent_edge x)) (w.taken x)

-- The node was left, and has a capping bracket.
abbrev pub has_cap : Trail → Reaches → ℕ → Bool
has_cap w r x = w.left x && nat_lt (r.second x) (w.tree.preorder x)

-- The node was left, and its parent wasn't.
abbrev pub left_alone : Trail → ℕ → Bool
left_alone w x = w.left x && not (w.left (w.tree.parent x))

-- A node with a capping bracket has two children at least.
pub record HasFewCaps (n : ℕ) (w : Trail) (r : Reaches) : Type 0 where
  pub caps : 2 * how_many (has_cap w r) n + how_many (left_alone w) n ≤ how_many w.left n

-- Two for each end of an edge that was taken, four for each node that was left, and two for each capping bracket: so much would
-- be spent, if each edge were in a list,
abbrev pub spent : ℕ → Trail → Reaches → ℕ
spent n w r = 2 * sum_to w.taken n + 4 * how_many w.left n + 2 * how_many (has_cap w r) n

-- and this of it is saved: one for each end of an edge by which a node was found, that of the parent and that of the node
abbrev pub saved : Graph → Trail → ℕ
saved g w = w.count + how_many (goes_back g w) g.nodes
