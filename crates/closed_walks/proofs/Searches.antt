-- The steps of a search.
use Rattle.std.proofs.Common.{◌≡◌, ◌≢◌, ℕ, zero, suc, ◌+◌, ◌*◌, ◌<◌, ◌≤◌, ◌⊎◌, Bool, true, false, List, [], ◌∷◌, ◌++◌, length, get_or, set, drop, refl, sym, ◌∙◌, inl, inr, ⊎_elim, arith, get_or-set_same, get_or-set_other, length-set, length-append}
use Rattle.std.proofs.lemmas.Bool.{cases_Bool, eqb-false, ne_eqb, false≢true}
use Rattle.std.proofs.lemmas.List.{get_or_past, get_or_default}
use Rattle.closed_walks.specs.Graph.{Graph, edge_count, from, to, edges_at}
use Rattle.closed_walks.specs.Walk.{Holds, Reach, only}
use Rattle.closed_walks.specs.Search.{is_visited, blanks, Leads, IsOpen, Nothing}
use Rattle.closed_walks.proofs.Walks.{Holds-left, Holds-right, Holds-append}
use Rattle.closed_walks.proofs.Reaching.{along_last, kept}
use Rattle.closed_walks.proofs.Touching.{Holds-edges_at-from, Holds-drop}

-- ---- marks

-- a mark that was missing leaves one blank less
pub blanks-set : (visited : List Bool) (v : ℕ) → v < length visited → is_visited visited v ≡ false → blanks (set visited v true) + 1 ≡ blanks visited
blanks-set [] v within blank = absurd (omega (arith, within))
blanks-set (true ∷ visited) zero within blank = absurd (false≢true (sym blank))
blanks-set (false ∷ visited) zero within blank = refl
blanks-set (true ∷ visited) (suc v) within blank = blanks-set visited v (omega arith) blank
blanks-set (false ∷ visited) (suc v) within blank = let rest = blanks-set visited v (omega arith) blank in omega (arith, rest)

-- what was visited stays so, and nothing else but the new node is
pub visited-old : (visited : List Bool) (n v : ℕ) → n < length visited → is_visited visited v ≡ true → is_visited (set visited n true) v ≡ true
visited-old visited n v within old = grind (arith, get_or-set_same visited, get_or-set_other visited)

pub visited-cases : (visited : List Bool) (n v : ℕ) → is_visited (set visited n true) v ≡ true → (v ≡ n) ⊎ (is_visited visited v ≡ true)
visited-cases visited n v now = grind (arith, get_or-set_other visited)

pub visited-not : (visited : List Bool) (n v : ℕ) → n < length visited → is_visited (set visited n true) v ≡ false → (v ≢ n) × (is_visited visited v ≡ false)
visited-not visited n v within none = grind (arith, get_or-set_same visited, get_or-set_other visited)

-- ---- the edges of one node

-- the edge begins at the node, and stands in the list
abbrev pub RestOf : Graph → ℕ → List ℕ → ℕ → Type 0
RestOf g node edges e = (from g e ≡ node) × Holds edges e

module _ (g : Graph) (without node : ℕ) (visited : List Bool) (frontier : List ℕ) where
  pub IsOpen-edges : IsOpen g without visited frontier (λ e. from g e ≡ node) → IsOpen g without visited frontier (RestOf g node (edges_at g node))
  IsOpen-edges o = grind (arith, Holds-edges_at-from)

  module _ (edges : List ℕ) (k : ℕ) (within : k < length edges) (o : IsOpen g without visited frontier (RestOf g node (drop k edges))) where
    -- an edge that leads nowhere new
    pub IsOpen-skip : (from g (get_or edges k 0) ≡ node → get_or edges k 0 ≢ without → is_visited visited (to g (get_or edges k 0)) ≡ false → ⊥) → IsOpen g without visited frontier (RestOf g node (drop (k + 1) edges))
    IsOpen-skip none = grind (arith, Holds-drop)

    -- an edge that leads to a node that isn't visited
    pub IsOpen-visit : (n : ℕ) → n ≡ to g (get_or edges k 0) → n < length visited → IsOpen g without (set visited n true) (frontier ++ n ∷ []) (RestOf g node (drop (k + 1) edges))
    IsOpen-visit n leads inside =
        grind (arith, length-set, visited-old, get_or-set_same, Holds-append, visited-not, Holds-right, Holds-left, Holds-drop, visited-cases)

-- What has been done for the node after its first k edges, since the marks and the frontier were as before.
pub record IsVisiting (g : Graph) (without node : ℕ) (edges : List ℕ) (k : ℕ) (before : List Bool) (first : List ℕ) (visited : List Bool) (frontier : List ℕ) : Type 0 where
  pub leaves : IsOpen g without visited frontier (RestOf g node (drop k edges))
  pub grown : (v : ℕ) → is_visited visited v ≡ true → (is_visited before v ≡ true) ⊎ Leads g without node v
  pub kept : (v : ℕ) → is_visited before v ≡ true → is_visited visited v ≡ true
  pub work : 2 * blanks visited + length frontier ≤ 2 * blanks before + length first

module _ (g : Graph) (without node : ℕ) (before : List Bool) (first : List ℕ) where
  pub IsVisiting-begin : IsOpen g without before first (λ e. from g e ≡ node) → IsVisiting g without node (edges_at g node) 0 before first before first
  IsVisiting-begin o = grind (arith, IsOpen-edges g without node before first o, kept)

  module _ (edges : List ℕ) (k : ℕ) (within : k < length edges) (visited : List Bool) (frontier : List ℕ) (s : IsVisiting g without node edges k before first visited frontier) where
    pub IsVisiting-skip : (from g (get_or edges k 0) ≡ node → get_or edges k 0 ≢ without → is_visited visited (to g (get_or edges k 0)) ≡ false → ⊥) → IsVisiting g without node edges (k + 1) before first visited frontier
    IsVisiting-skip none = record { leaves = IsOpen-skip g without node visited frontier edges k within s.leaves none; grown = s.grown; kept = s.kept; work = s.work }

    pub IsVisiting-visit : (n : ℕ) → get_or edges k 0 < edge_count g → from g (get_or edges k 0) ≡ node → get_or edges k 0 ≢ without → n ≡ to g (get_or edges k 0) → n < length visited → is_visited visited n ≡ false → IsVisiting g without node edges (k + 1) before first (set visited n true) (frontier ++ n ∷ [])
    IsVisiting-visit n edge begins other ends inside blank = record {
      leaves = IsOpen-visit g without node visited frontier edges k within s.leaves n ends inside;
      grown = λ v now. ⊎_elim
          (λ (same : v ≡ n). inr (record { edge = get_or edges k 0; exists = edge; other = other; begins = begins; ends = sym ends ∙ sym same }))
          (λ (old : is_visited visited v ≡ true). s.grown v old)
          (visited-cases visited n v now);
      kept = λ v old. visited-old visited n v inside (s.kept v old);
      work = omega (arith, s.work, blanks-set visited n inside blank, length-append frontier (n ∷ []));
    }

-- ---- the whole search

module _ (g : Graph) (without : ℕ) (visited : List Bool) where
  -- a node was taken off the frontier
  pub IsOpen-pop : (all frontier : List ℕ) (u : ℕ) → all ≡ frontier ++ u ∷ [] → IsOpen g without visited all Nothing → IsOpen g without visited frontier (λ e. from g e ≡ u)
  IsOpen-pop all frontier u parts o = grind (arith, Holds-left, Holds-append)

  pub popped_visited : (all frontier : List ℕ) (u : ℕ) → all ≡ frontier ++ u ∷ [] → IsOpen g without visited all Nothing → is_visited visited u ≡ true
  popped_visited all frontier u parts o = o.waiting u (rw parts (Holds-right frontier (u ∷ []) u (inl refl)))

  pub visited_exists : (rest : ℕ → Type 0) (frontier : List ℕ) (u : ℕ) → IsOpen g without visited frontier rest → is_visited visited u ≡ true → u < g.nodes
  visited_exists rest frontier u o now = grind (arith, get_or_past)

  -- with nothing on the frontier all that is reached is visited
  pub visited-Reach : (start v : ℕ) → IsOpen g without visited [] Nothing → is_visited visited start ≡ true → Reach g (only without) start v → is_visited visited v ≡ true
  visited-Reach start v o begun r = kept g (only without) (λ n. is_visited visited n ≡ true)
      (λ e edge free tail. ⊎_elim
      (λ (h : is_visited visited (to g e) ≡ true). h)
      (λ (h : is_visited visited (to g e) ≡ false). absurd (⊎_elim (λ none. none) (λ none. none) (o.leaving e edge (eqb-false e without free) tail h)))
      (cases_Bool (is_visited visited (to g e))))
      start v r begun

-- what was visited by an edge of a node that is reached is reached
pub Reach-grown : (g : Graph) (without start u : ℕ) (before visited : List Bool) → ((v : ℕ) → is_visited before v ≡ true → Reach g (only without) start v) → is_visited before u ≡ true → ((v : ℕ) → is_visited visited v ≡ true → (is_visited before v ≡ true) ⊎ Leads g without u v) → (v : ℕ) → is_visited visited v ≡ true → Reach g (only without) start v
Reach-grown g without start u before visited reached here grown v now = grind (arith, along_last, ne_eqb)

-- a mark that was read, whatever the default
pub is_visited-read : (visited : List Bool) (v : ℕ) (mark : Bool) → v < length visited → mark ≡ get_or visited v mark → is_visited visited v ≡ mark
is_visited-read visited v mark within read = get_or_default visited v false mark within ∙ sym read

pub nothing-left : (xs : List ℕ) → length xs ≡ 0 → xs ≡ []
nothing-left [] none = refl
nothing-left (x ∷ xs) none = absurd (omega (arith, none))
