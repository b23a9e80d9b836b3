-- What is noted of the candidates that pieces compute. No public clause cites this module.
use Rattle.std.specs.Prelude.{◌≡◌, ℕ, ◌+◌, ◌*◌, ◌<◌, ◌≤◌, ◌↔◌, true, false, ◌==◌, ◌&&◌, ◌||◌, List, [], map, length, Contains, Some, slice_get, slice_index_or}
use Rattle.f77_tree.specs.declared.expressions.Expr.{Expr}
use Rattle.redundancy.specs.Available.{has_mark}
use Rattle.redundancy.specs.Computed.{StandsBefore}

-- a row of so many words for each 64 of so many candidates
pub record AreRows (nodes count : ℕ) (rows : List (List ℕ)) : Type 0 where
  pub each : (r : ℕ) → r < length rows → length (slice_index_or rows r []) ≡ nodes
  pub covers : count ≤ 64 * length rows
  pub needed : 64 * length rows < count + 64

-- one mark more
abbrev pub IsMarked : (k node : ℕ) → (old new : List (List ℕ)) → Type 0
IsMarked k node old new = (j v : ℕ) → has_mark new j v ≡ (has_mark old j v || ((j == k) && (v == node)))

-- the expressions of a list, each once, in the order in which they first stand there
pub record AreFirst (all firsts : List Expr) : Type 0 where
  pub sound : (k : ℕ) (e : Expr) → slice_get firsts k ≡ Some e → Contains all e
  pub whole : (e : Expr) → Contains all e → Contains firsts e
  pub ordered : (i j : ℕ) (e d : Expr) → i < j → slice_get firsts i ≡ Some e → slice_get firsts j ≡ Some d → StandsBefore all e d

abbrev pub at_node : ℕ → Expr → ℕ × Expr
at_node node e = (node, e)

-- where pieces compute which candidates, in order; the candidates; and the marks where they are computed
pub record IsNoted (nodes : ℕ) (computed : List (ℕ × Expr)) (candidates : List Expr) (rows : List (List ℕ)) : Type 0 where
  pub firsts : AreFirst (map (λ at. at.1) computed) candidates
  pub are_rows : AreRows nodes (length candidates) rows
  pub marks : (k v : ℕ) (e : Expr) → slice_get candidates k ≡ Some e → (has_mark rows k v ≡ true) ↔ Contains computed (v, e)
  pub blank : (k v : ℕ) → length candidates ≤ k → has_mark rows k v ≡ false
