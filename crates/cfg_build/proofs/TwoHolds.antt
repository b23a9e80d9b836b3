-- No two pieces of which one leads only to the other are both held.
use Rattle.std.proofs.Common.{◌≡◌, ◌≢◌, ℕ, zero, suc, ◌+◌, ◌<◌, ◌≤◌, ◌⊎◌, List, [], ◌∷◌, length, sym, ◌∙◌, subst, ⊎_elim, arith}
use Rattle.std.proofs.lemmas.Bool.{cases_order}
use Rattle.closed_walks.specs.Graph.{Graph, IsGraph, edge_count, from, to}
use Rattle.closed_walks.specs.Walk.{Walk}
use Rattle.cfg_build.specs.declared.parts.Part.{Part}
use Rattle.cfg_build.specs.Parts.{start_part}
use Rattle.cfg_build.specs.Joined.{width}
use Rattle.cfg_build.proofs.Places.{begins_before}
use Rattle.cfg_build.proofs.ReachedNodes.{IsTold, Reaches, stay, along_last, by_walk}
use Rattle.cfg_build.proofs.JoinedGraph.{row_graph, heads_at, edge_zero, row_edge}
use Rattle.cfg_build.proofs.Lowest.{IsOnCycle}
use Rattle.cfg_build.proofs.PieceNumbers.{part_at, first_piece, own_piece, joins, width_is}

-- all edges from u lead to v
abbrev pub LeadsOnlyTo : Graph → ℕ → ℕ → Type 0
LeadsOnlyTo g u v = (e : ℕ) → e < edge_count g → from g e ≡ u → to g e ≡ v

module _ (told : IsTold) (g : Graph) (sound : IsGraph g) (x : ℕ) (cycle : IsOnCycle told g sound x) where
  round : (u v : ℕ) (w : List ℕ) → LeadsOnlyTo g u v → u ≡ x → Walk g x w (from g cycle.edge) → Reaches g v x
  round u v [] only is leads = stay g v x (sym (only cycle.edge cycle.exists (sym leads ∙ sym is)) ∙ cycle.ends)
  round u v (e ∷ w) only is leads = grind (arith, along_last g v (from g cycle.edge) x, by_walk g v (from g cycle.edge) w)

  forced_walk : (u v : ℕ) (w : List ℕ) → LeadsOnlyTo g u v → Walk g u w x → Reaches g v x
  forced_walk u v [] only leads = round u v cycle.returns.walk only leads cycle.returns.leads
  forced_walk u v (e ∷ w) only leads = by_walk g v x w (subst (λ n. Walk g n w x) (only e leads.0 leads.1) leads.2)

  -- what leads only to v comes to x by v, even from x
  pub forced : (u v : ℕ) → LeadsOnlyTo g u v → Reaches g u x → Reaches g v x
  forced u v only r = forced_walk u v r.walk only r.leads

module _ (ps : List Part) (end : ℕ) where
  pub only_head : (u v : ℕ) → u ≢ end → heads_at ps u ≡ v ∷ [] → LeadsOnlyTo (row_graph ps end) u v
  only_head u v other heads zero edge begins = absurd (other (sym begins ∙ (edge_zero ps end).0))
  only_head u v other heads (suc e) edge begins = grind (arith, row_edge ps end e edge, heads_at, heads_at ps)

-- ---- pieces of parts

abbrev pub IsOf : List Part → ℕ → ℕ → Type 0
IsOf ps j x = (x ≡ first_piece ps j) ⊎ (x ≡ own_piece ps j)

of_within : (ps : List Part) (j x : ℕ) → IsOf ps j x → (first_piece ps j ≤ x) × (x < first_piece ps j + width ps (part_at ps j))
of_within ps j x of = grind (arith, part_at, joins, width_is)

pub parts_share_none : (ps : List Part) (i j x : ℕ) → i < length ps → j < length ps → i ≢ j → IsOf ps i x → IsOf ps j x → ⊥
parts_share_none ps i j x some other differ of_i of_j =
    let a = of_within ps i x of_i in
    let b = of_within ps j x of_j in
    ⊎_elim
    (λ (h : i ≡ j). differ h)
    (⊎_elim
    (λ (h : i < j). let l : first_piece ps i + width ps (part_at ps i) ≤ first_piece ps j = begins_before (width ps) ps i j start_part h (omega (arith, other)) in omega (arith, a.1, b.0, l))
    (λ (h : j < i). let l : first_piece ps j + width ps (part_at ps j) ≤ first_piece ps i = begins_before (width ps) ps j i start_part h (omega (arith, some)) in omega (arith, a.0, b.1, l)))
    (cases_order i j)
