-- What a `Digraph` keeps, at its beginning and as edges are added.
use Rattle.std.proofs.Common.{◌≡◌, ◌≢◌, ℕ, zero, suc, ◌+◌, ◌<◌, ◌≤◌, ◌^◌, ◌⊎◌, ◌==◌, ◌||◌, if◌then◌else◌, List, [], ◌∷◌, ◌++◌, length, get_or, set, refl, ap, ◌∙◌, ⊎_elim, arith, lit<, length-append, get_or-set_same}
use Rattle.std.proofs.lemmas.Bool.{cases_order}
use Rattle.std.proofs.lemmas.List.{get_or_append_left, get_or_default, get_or_past, get_or_push, set-set, set-get_or}
use Rattle.closed_walks.specs.Graph.{Graph, IsGraph, edge_count, from, to, with_edge, touching_below, edges_at}
use Rattle.closed_walks.specs.Digraph.{Keeps}
use Rattle.std.proofs.lemmas.Grind.{elements}

-- an edge that is there already keeps its ends
pub from-old : (g : Graph) (u v e : ℕ) → e < edge_count g → from (with_edge g u v) e ≡ from g e
unfolding from
from-old g u v e edge = ap (λ p. p.0) (get_or_append_left g.edges ((u, v) ∷ []) (0, 0) e edge)

pub to-old : (g : Graph) (u v e : ℕ) → e < edge_count g → to (with_edge g u v) e ≡ to g e
unfolding to
to-old g u v e edge = ap (λ p. p.1) (get_or_append_left g.edges ((u, v) ∷ []) (0, 0) e edge)

pub from-new : (g : Graph) (u v : ℕ) → from (with_edge g u v) (edge_count g) ≡ u
unfolding from
from-new g u v = ap (λ p. p.0) (get_or_push g.edges (u, v) (0, 0) (edge_count g) refl)

pub to-new : (g : Graph) (u v : ℕ) → to (with_edge g u v) (edge_count g) ≡ v
unfolding to
to-new g u v = ap (λ p. p.1) (get_or_push g.edges (u, v) (0, 0) (edge_count g) refl)

pub edge_count-with : (g : Graph) (u v : ℕ) → edge_count (with_edge g u v) ≡ suc (edge_count g)
edge_count-with g u v = omega (arith, length-append g.edges ((u, v) ∷ []))

-- an edge of the larger graph is an old one or the new one
pub cases_edge : (g : Graph) (u v e : ℕ) → e < edge_count (with_edge g u v) → (e < edge_count g) ⊎ (e ≡ edge_count g)
cases_edge g u v e edge = grind (arith, edge_count-with g u v, cases_order e (edge_count g))

pub IsGraph-with : (g : Graph) (u v : ℕ) → IsGraph g → u < g.nodes → v < g.nodes → IsGraph (with_edge g u v)
IsGraph-with g u v sound begins ends = record {
  begins = λ e edge. ⊎_elim
      (λ (old : e < edge_count g). rw (from-old g u v e old) (sound.begins e old))
      (λ (new : e ≡ edge_count g). rw (new, from-new g u v) begins)
      (cases_edge g u v e edge);
  ends = λ e edge. ⊎_elim
      (λ (old : e < edge_count g). rw (to-old g u v e old) (sound.ends e old))
      (λ (new : e ≡ edge_count g). rw (new, to-new g u v) ends)
      (cases_edge g u v e edge);
}

touching_below-with : (g : Graph) (u v node k : ℕ) → k ≤ edge_count g → touching_below (with_edge g u v) node k ≡ touching_below g node k
touching_below-with g u v node zero few = refl
touching_below-with g u v node (suc k) few = rw (touching_below-with g u v node k (omega arith), from-old g u v k few, to-old g u v k few) refl

pub edges_at-with : (g : Graph) (u v node : ℕ) → edges_at (with_edge g u v) node ≡ edges_at g node ++ (if (u == node) || (v == node) then edge_count g ∷ [] else [])
unfolding edges_at
edges_at-with g u v node = grind (arith, edge_count-with g u v, touching_below-with g u v node (edge_count g), from-new g u v, to-new g u v)

pub Keeps-new : (nodes : ℕ) (edges : List (ℕ × ℕ)) (lists : List (List ℕ)) → nodes < 2 ^ 32 → edges ≡ [] → length lists ≡ nodes → ((node : ℕ) → get_or lists node [] ≡ []) → Keeps (record { nodes = nodes; edges = edges }) lists
unfolding edges_at
Keeps-new nodes edges lists few none len blank = grind (arith, lit<)

pub Keeps-with : (g : Graph) (u v : ℕ) (lists new : List (List ℕ)) → Keeps g lists → u < g.nodes → v < g.nodes → edge_count g + 1 < 2 ^ 31 → length new ≡ length lists → ((node : ℕ) → get_or new node [] ≡ get_or lists node [] ++ (if (u == node) || (v == node) then edge_count g ∷ [] else [])) → Keeps (with_edge g u v) new
Keeps-with g u v lists new kept begins ends few len more = grind (arith, elements, edge_count-with, IsGraph-with, edges_at-with)

-- an edge that was put into the one list, and not into the other, is taken out again
pub set-undone : (lists : List (List ℕ)) (u v e : ℕ) (pushed same prefix : List ℕ) → u ≢ v → u < length lists → pushed ≡ get_or lists u [] ++ e ∷ [] → same ≡ get_or (set lists u pushed) v [] → ((xs : List ℕ) → get_or (set (set lists u pushed) v same) u [] ≡ xs ++ e ∷ [] → prefix ≡ xs) → set (set (set lists u pushed) v same) u prefix ≡ lists
set-undone lists u v e pushed same prefix apart within push unchanged undo = grind (arith, elements, set-get_or, get_or-set_same, set-set)

-- the ends that were read at an edge's place are its own
pub from-read : (g : Graph) (e : ℕ) (p : ℕ × ℕ) → e < edge_count g → p ≡ get_or g.edges e p → p.0 ≡ from g e
unfolding from
from-read g e p edge read = ap (λ q. q.0) (read ∙ get_or_default g.edges e p (0, 0) edge)

pub to-read : (g : Graph) (e : ℕ) (p : ℕ × ℕ) → e < edge_count g → p ≡ get_or g.edges e p → p.1 ≡ to g e
unfolding to
to-read g e p edge read = ap (λ q. q.1) (read ∙ get_or_default g.edges e p (0, 0) edge)

-- the blank lists of the nodes, and one more
pub blank-push : (lists : List (List ℕ)) → ((node : ℕ) → get_or lists node [] ≡ []) → (node : ℕ) → get_or (lists ++ [] ∷ []) node [] ≡ []
blank-push lists blank node = grind (arith, get_or_append_left, get_or_push, get_or_past, length-append)
