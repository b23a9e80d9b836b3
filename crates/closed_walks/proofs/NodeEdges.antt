-- The edges from one node that aren't avoided.
use Rattle.std.proofs.Common.{◌≡◌, ℕ, zero, suc, ◌+◌, ◌<◌, ◌≤◌, ◌⊎◌, Bool, List, [], ◌∷◌, ◌++◌, length, get_or, drop, arith, append_assoc, length-append}
use Rattle.std.proofs.lemmas.List.{append-nil}
use Rattle.closed_walks.specs.Graph.{Graph, edge_count, from, to, touching_below, edges_at}
use Rattle.closed_walks.specs.Walk.{Holds}
use Rattle.closed_walks.specs.Component.{IsFree, Adds}
use Rattle.closed_walks.proofs.Walks.{Holds-append, Holds-left, Holds-right}
use Rattle.closed_walks.proofs.Touching.{Holds-edges_at-from, Holds-drop, Holds-drop_end}

few_touching : (g : Graph) (node k : ℕ) → length (touching_below g node k) ≤ k
few_touching g node zero = omega arith
few_touching g node (suc k) = grind (arith, few_touching g node k, length-append (touching_below g node k))

few_at : (g : Graph) (node : ℕ) → length (edges_at g node) ≤ edge_count g
unfolding edges_at
few_at g node = few_touching g node (edge_count g)

module _ (g : Graph) (avoided : ℕ → Bool) (node : ℕ) where
  -- the first k edges of the list have been looked at, and those that begin at the node and aren't avoided were put at the end
  pub record IsAdding (edges : List ℕ) (k : ℕ) (old new : List ℕ) : Type 0 where
    pub added : List ℕ
    pub parts : new ≡ old ++ added
    pub few : length added ≤ k
    pub sound : (e : ℕ) → Holds added e → IsFree g avoided e × (from g e ≡ node)
    pub whole : (e : ℕ) → IsFree g avoided e → from g e ≡ node → Holds added e ⊎ Holds (drop k edges) e

  pub IsAdding-begin : (old : List ℕ) → IsAdding (edges_at g node) 0 old old
  IsAdding-begin old = grind (arith, append-nil old, Holds-edges_at-from g node)

  module _ (edges : List ℕ) (k : ℕ) (within : k < length edges) (old new : List ℕ) (a : IsAdding edges k old new) where
    pub IsAdding-add : IsFree g avoided (get_or edges k 0) → from g (get_or edges k 0) ≡ node → IsAdding edges (k + 1) old (new ++ get_or edges k 0 ∷ [])
    IsAdding-add free begins = search (append_assoc, length-append, Holds-append, Holds-left, Holds-right, Holds-drop, arith)

    pub IsAdding-skip : (IsFree g avoided (get_or edges k 0) → from g (get_or edges k 0) ≡ node → ⊥) → IsAdding edges (k + 1) old new
    IsAdding-skip none = grind (arith, Holds-drop)

  pub IsAdding-end : (edges : List ℕ) (k : ℕ) (old new : List ℕ) → edges ≡ edges_at g node → length edges ≤ k → k ≤ length edges → IsAdding edges k old new → Adds g avoided node old new
  IsAdding-end edges k old new is end most a = grind (arith, few_at g node, Holds-drop_end edges k)

  -- no loop at the node is among the first k edges
  pub record HasNoLoop (edges : List ℕ) (k : ℕ) : Type 0 where
    pub later : (e : ℕ) → IsFree g avoided e → from g e ≡ node → to g e ≡ node → Holds (drop k edges) e

  pub HasNoLoop-begin : HasNoLoop (edges_at g node) 0
  HasNoLoop-begin = record { later = λ e free begins ends. Holds-edges_at-from g node e free.exists begins }
