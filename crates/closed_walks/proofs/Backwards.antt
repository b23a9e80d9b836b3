-- Marks of the nodes from which a node is reached.
use Rattle.std.proofs.Common.{◌≡◌, ℕ, ◌<◌, ◌⊎◌, ◌↔◌, Bool, true, false, List, [], ◌∷◌, length, set, subst, inl, inr, ⊎_elim, arith, get_or-set_same, length-set}
use Rattle.std.proofs.lemmas.Bool.{cases_Bool}
use Rattle.closed_walks.specs.Graph.{Graph, edge_count, from, to}
use Rattle.closed_walks.specs.Walk.{Reach, no_edge}
use Rattle.closed_walks.specs.Search.{is_visited, Leads, IsOpen, Nothing}
use Rattle.closed_walks.specs.Reversed.{turned}
use Rattle.closed_walks.proofs.Reaching.{stay, along_first, along_last, kept}
use Rattle.closed_walks.proofs.Searches.{visited-old, visited-cases, visited-not}
use Rattle.closed_walks.proofs.Turning.{from-turned, to-turned, edge_count-turned, nodes-turned, Reach-to_turned, Reach-from_turned}

-- where a node is marked, each from which an edge leads to it is marked
abbrev pub IsClosedBack : Graph → List Bool → Type 0
IsClosedBack g marks = (e : ℕ) → e < edge_count g → is_visited marks (to g e) ≡ true → is_visited marks (from g e) ≡ true

-- the marked nodes are closed but for the frontier, and each is reached back from the node, or was marked before
pub record IsMarking (g : Graph) (node : ℕ) (before marks : List Bool) (frontier : List ℕ) : Type 0 where
  pub leaves : IsOpen (turned g) (edge_count g) marks frontier Nothing
  pub begun : is_visited marks node ≡ true
  pub kept_on : (v : ℕ) → is_visited before v ≡ true → is_visited marks v ≡ true
  pub reached : (v : ℕ) → is_visited marks v ≡ true → (is_visited before v ≡ true) ⊎ Reach (turned g) no_edge node v
  pub size : length marks ≡ length before

module _ (g : Graph) (node : ℕ) where
  -- where the node is marked, so is each from which it is reached
  pub marked_back : (marks : List Bool) → IsClosedBack g marks → is_visited marks node ≡ true → (v : ℕ) → Reach g no_edge v node → is_visited marks v ≡ true
  marked_back marks closed here v way = kept (turned g) no_edge (λ n. is_visited marks n ≡ true)
      (λ e edge free h. rw (to-turned g e) (closed e (omega (arith, edge, edge_count-turned g)) (subst (λ n. is_visited marks n ≡ true) (from-turned g e) h)))
      node v (Reach-to_turned g v node way) here

  pub marked_already : (marks : List Bool) → IsClosedBack g marks → is_visited marks node ≡ true → (v : ℕ) → (is_visited marks v ≡ true) ↔ ((is_visited marks v ≡ true) ⊎ Reach g no_edge v node)
  marked_already marks closed here v = (λ h. inl h, ⊎_elim (λ h. h) (λ way. marked_back marks closed here v way))

  module _ (before : List Bool) (size : length before ≡ g.nodes) (closed : IsClosedBack g before) (exists : node < g.nodes) where
    pub IsMarking-begin : IsMarking g node before (set before node true) (node ∷ [])
    IsMarking-begin =
        grind (arith, length-set, nodes-turned, get_or-set_same, visited-not, to-turned, edge_count-turned, from-turned, visited-cases, visited-old, stay)

  -- a node of the frontier was gone through
  pub IsMarking-step : (before marks after : List Bool) (frontier next : List ℕ) (u : ℕ) → IsClosedBack g before → IsMarking g node before marks frontier → is_visited marks u ≡ true → IsOpen (turned g) (edge_count g) after next Nothing → ((v : ℕ) → is_visited after v ≡ true → (is_visited marks v ≡ true) ⊎ Leads (turned g) (edge_count g) u v) → ((v : ℕ) → is_visited marks v ≡ true → is_visited after v ≡ true) → length after ≡ length marks → IsMarking g node before after next
  IsMarking-step before marks after frontier next u closed m here leaves grown kept_now size =
      grind (arith, to-turned, edge_count-turned, from-turned, along_last)

  -- with nothing on the frontier the marked nodes are those that were, and those from which the node is reached
  pub IsMarking-end : (before marks : List Bool) → IsMarking g node before marks [] → (v : ℕ) → (is_visited marks v ≡ true) ↔ ((is_visited before v ≡ true) ⊎ Reach g no_edge v node)
  IsMarking-end before marks m v = (
    λ now. ⊎_elim (λ old. inl old) (λ way. inr (Reach-from_turned g node v way)) (m.reached v now),
    ⊎_elim (λ old. m.kept_on v old) (λ way. kept (turned g) no_edge (λ n. is_visited marks n ≡ true)
        (λ e edge free tail. ⊎_elim
        (λ (h : is_visited marks (to (turned g) e) ≡ true). h)
        (λ (h : is_visited marks (to (turned g) e) ≡ false). absurd (⊎_elim (λ none. none) (λ none. none) (m.leaves.leaving e edge (λ same. let count = edge_count-turned g in absurd (omega arith)) tail h)))
        (cases_Bool (is_visited marks (to (turned g) e))))
        node v (Reach-to_turned g v node way) m.begun),
  )

  -- so they are closed again
  pub closed_again : (before marks : List Bool) → IsClosedBack g before → ((v : ℕ) → (is_visited marks v ≡ true) ↔ ((is_visited before v ≡ true) ⊎ Reach g no_edge v node)) → IsClosedBack g marks
  closed_again before marks closed are e edge tail = grind (arith, along_first)
