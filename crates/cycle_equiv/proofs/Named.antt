-- The names of edges, as the walk goes on.
use Rattle.std.proofs.Common.{◌≡◌, ◌≢◌, ℕ, ◌<◌, ◌≤◌, ◌⊎◌, true, false, List, length, Option, Some, refl, sym, ap, ◌∙◌, subst, inl, inr, ⊎_elim, arith}
use Rattle.std.proofs.lemmas.Bool.{cases_eq}
use Rattle.closed_walks.specs.Graph.{Graph, edge_count, touches}
use Rattle.cycle_equiv.specs.DepthFirst.{Joins}
use Rattle.cycle_equiv.specs.BracketLists.{top}
use Rattle.cycle_equiv.specs.Walking.{Trail, IsTaken, IsTrail, earlier, put, taking, finding, leaving}
use Rattle.cycle_equiv.specs.Pending.{AreNamed}
use Rattle.cycle_equiv.proofs.Steps.{put_same, put_other, joins_one, joins_back, two_ends, taken_elsewhere, taken_here}
use Rattle.cycle_equiv.proofs.OpenPath.{one_edge}
use Rattle.cycle_equiv.proofs.Finding.{known, place_old, found_was, found_still, edge_old, edge_new, taken_was, taken_back, root_apart, new_open}

-- ---- an edge was taken to a node that was found before

module _ (g : Graph) (w : Trail) (u : ℕ) (walk : IsTrail g w u) (e v : ℕ) (edge : e < edge_count g) (touched : touches g u e ≡ true)
    (next : earlier g u e ≡ w.taken u) (ends : Joins g e u v) (final : ℕ → List ℕ) (tops : ℕ → Option ℕ) (sizes : ℕ → ℕ) (named : AreNamed g w final tops sizes) where
  -- this edge, or one that was taken before
  which : (x z d : ℕ) → IsTaken g (taking w u) x d → Joins g d x z → ((d ≡ e) × (x ≡ u) × (z ≡ v)) ⊎ IsTaken g w x d
  which x z d taken joins = ⊎_elim
      (λ (same : x ≡ u). ⊎_elim
      (λ (this : d ≡ e). inl (this, same, joins_one g e u v z ends (subst (λ n. Joins g e n z) same (subst (λ n. Joins g n x z) this joins))))
      (λ (old : IsTaken g w u d). inr (subst (λ n. IsTaken g w n d) (sym same) old))
      (taken_here g w u e edge touched next d (subst (λ n. IsTaken g (taking w u) n d) same taken)))
      (λ (apart : x ≢ u). inr (taken_elsewhere g w u x d apart taken))
      (cases_eq x u)

  -- It gets no name where it leads further from the root, or a node was found by it.
  pub take_named : (w.tree.preorder v ≤ w.tree.preorder u → ((y : ℕ) → w.found y ≡ true → y ≢ w.tree.root → w.tree.parent_edge y ≢ e) → ⊥) → AreNamed g (taking w u) final tops sizes
  take_named no_back = record {
    back_edge = λ d x z found taken joins order none. ⊎_elim
        (λ (now : (d ≡ e) × (x ≡ u) × (z ≡ v)).
        let px = ap w.tree.preorder now.1 in
        let pz = ap w.tree.preorder now.2 in
        absurd (no_back (omega (arith, px, pz, order)) (subst (λ n. (y : ℕ) → w.found y ≡ true → y ≢ w.tree.root → w.tree.parent_edge y ≢ n) now.0 none)))
        (λ (old : IsTaken g w x d). named.back_edge d x z found old joins order none)
        (which x z d taken joins);
    tree_edge = named.tree_edge;
  }

  -- An edge by which no node was found gets its own name.
  pub put_named : ((y : ℕ) → w.found y ≡ true → y ≢ w.tree.root → w.tree.parent_edge y ≢ e) → AreNamed g (taking w u) final (put tops e (Some e)) (put sizes e 1)
  put_named no_tree = record {
    back_edge = λ d x z found taken joins order none. ⊎_elim
        (λ (this : d ≡ e). (put_same tops e (Some e) d this ∙ ap (λ n. Some n) (sym this), put_same sizes e 1 d this))
        (λ (other : d ≢ e).
        let old : IsTaken g w x d = ⊎_elim (λ (now : (d ≡ e) × (x ≡ u) × (z ≡ v)). absurd (other now.0)) (λ (was : IsTaken g w x d). was) (which x z d taken joins) in
        let name = named.back_edge d x z found old joins order none in
        (put_other tops e (Some e) d other ∙ name.0, put_other sizes e 1 d other ∙ name.1))
        (cases_eq d e);
    tree_edge = λ y left other.
        let apart = no_tree y (walk.left_found y left) other in
        let name = named.tree_edge y left other in
        (put_other tops e (Some e) (w.tree.parent_edge y) apart ∙ name.0, put_other sizes e 1 (w.tree.parent_edge y) apart ∙ name.1);
  }

  -- no node was found by the edge, but for the node at which the walk is
  pub not_found_by : ((u ≢ w.tree.root) → w.tree.parent_edge u ≢ e) → (y : ℕ) → w.found y ≡ true → y ≢ w.tree.root → w.tree.parent_edge y ≢ e
  not_found_by not_here y found other same = grind (arith, joins_one g e, joins_back g e u, joins_back g e, two_ends g e)

-- ---- a node was found

module _ (g : Graph) (w : Trail) (u : ℕ) (walk : IsTrail g w u) (e v : ℕ) (edge : e < edge_count g) (touched : touches g u e ≡ true)
    (next : earlier g u e ≡ w.taken u) (ends : Joins g e u v) (node : v < g.nodes) (hidden : w.found v ≡ false) where
  pub find_named : (final : ℕ → List ℕ) (tops : ℕ → Option ℕ) (sizes : ℕ → ℕ) → AreNamed g w final tops sizes → AreNamed g (finding w u e v) final tops sizes
  find_named final tops sizes named = record {
    back_edge = λ d x z found taken joins order none. ⊎_elim
        (λ (now : (x ≡ u) × (d ≡ e)).
        absurd (none v (new_open g w u walk e v edge touched next ends node hidden).found (root_apart g w u walk e v edge touched next ends node hidden)
        (edge_new g w u walk e v edge touched next ends node hidden v refl ∙ sym now.1)))
        (λ (old : IsTaken g w x d).
        let x_found : w.found x ≡ true = ⊎_elim
        (λ (new : x ≡ v). absurd ((taken_back g w u walk e v edge touched next ends node hidden x d taken).0 new))
        (λ (was : w.found x ≡ true). was)
        (found_was g w u walk e v edge touched next ends node hidden x found) in
        let z_found = walk.ends_found x z d x_found old joins in
        let px = place_old g w u walk e v edge touched next ends node hidden x x_found in
        let pz = place_old g w u walk e v edge touched next ends node hidden z z_found in
        named.back_edge d x z x_found old joins (omega (arith, px, pz, order))
        (λ y y_found other same. none y (found_still g w u walk e v edge touched next ends node hidden y y_found) other
        (edge_old g w u walk e v edge touched next ends node hidden y (known g w u walk e v edge touched next ends node hidden y y_found) ∙ same)))
        (taken_was g w u walk e v edge touched next ends node hidden x d taken);
    tree_edge = λ y left other.
        let by = edge_old g w u walk e v edge touched next ends node hidden y (known g w u walk e v edge touched next ends node hidden y (walk.left_found y left)) in
        let name = named.tree_edge y left other in
        (ap tops by ∙ name.0, ap sizes by ∙ name.1);
  }

-- ---- a node was left

module _ (g : Graph) (w : Trail) (u : ℕ) (walk : IsTrail g w u) (not_root : u ≢ w.tree.root) where
  pub leave_named : (final : ℕ → List ℕ) (tops : ℕ → Option ℕ) (sizes : ℕ → ℕ) (ys : List ℕ) → AreNamed g w final tops sizes
      → AreNamed g (leaving w u) (put final u ys) (put tops (w.tree.parent_edge u) (top ys)) (put sizes (w.tree.parent_edge u) (length ys))
  leave_named final tops sizes ys named = record {
    back_edge = λ d x z found taken joins order none.
        let apart : d ≢ w.tree.parent_edge u = λ same. none u walk.here.found not_root (sym same) in
        let name = named.back_edge d x z found (record { edge = taken.edge; touched = taken.touched; early = taken.early }) joins order none in
        (put_other tops (w.tree.parent_edge u) (top ys) d apart ∙ name.0, put_other sizes (w.tree.parent_edge u) (length ys) d apart ∙ name.1);
    tree_edge = λ y left other. ⊎_elim
        (λ (same : y ≡ u).
        let by = ap w.tree.parent_edge same in
        let list = put_same final u ys y same in (
          put_same tops (w.tree.parent_edge u) (top ys) (w.tree.parent_edge y) by ∙ ap top (sym list),
          put_same sizes (w.tree.parent_edge u) (length ys) (w.tree.parent_edge y) by ∙ ap length (sym list),
        ))
        (λ (apart : y ≢ u).
        let was : w.left y ≡ true = sym (put_other w.left u true y apart) ∙ left in
        let name = named.tree_edge y was other in
        let by : w.tree.parent_edge y ≢ w.tree.parent_edge u = λ same. apart (one_edge g w u walk y u (walk.left_found y was) walk.here.found other not_root same) in
        let list = put_other final u ys y apart in (
          put_other tops (w.tree.parent_edge u) (top ys) (w.tree.parent_edge y) by ∙ name.0 ∙ ap top (sym list),
          put_other sizes (w.tree.parent_edge u) (length ys) (w.tree.parent_edge y) by ∙ name.1 ∙ ap length (sym list),
        ))
        (cases_eq y u);
  }
