-- Regions of different classes: their nodes are apart, or those of the one are among those of the other.
use Rattle.std.proofs.Common.{◌≡◌, ◌≢◌, ℕ, ◌<◌, ◌⊎◌, Bool, true, false, not, ◌==◌, ◌&&◌, ◌||◌, refl, sym, ◌∙◌, subst, inl, inr, ⊎_elim}
use Rattle.std.proofs.lemmas.Bool.{cases_Bool, cases_eq, eqb-true, eqb-false, or_from, false≢true}
use Rattle.closed_walks.specs.Graph.{Graph, edge_count, from, to}
use Rattle.closed_walks.specs.Walk.{Reach, no_edge, only, either, IsCycleEquivalent}
use Rattle.closed_walks.specs.Region.{IsFlowGraph, IsInside, IsEntered, IsRegion, AreApart, IsWithin}
use Rattle.closed_walks.proofs.Reaching.{IsMet, first_of, kept}
use Rattle.closed_walks.proofs.Decided.{cases_Reach}
use Rattle.closed_walks.proofs.Classes.{first_closed, second_closed, equivalent_back, equivalent_on, equivalent_same, IsCycleEquivalent-closed}
use Rattle.closed_walks.proofs.Cuts.{without_first, without_second, side}
use Rattle.closed_walks.proofs.Orders.{start_node, side_inside, inside_side, side_false, pair_entered, not_start}
use Rattle.closed_walks.proofs.Regions.{class_apart}
use Rattle.std.proofs.Common.{arith}

from_implied : (x y : Bool) → (not x || y) ≡ true → x ≡ true → y ≡ true
from_implied true y h is = h
from_implied false y h is = absurd (false≢true is)

module _ (g : Graph) (flow : IsFlowGraph g) where
  -- whether two edges are of one class
  pub cases_class : (a b : ℕ) → a < edge_count g → b < edge_count g → IsCycleEquivalent g a b ⊎ (IsCycleEquivalent g a b → ⊥)
  cases_class a b a_edge b_edge = ⊎_elim
      (λ (same : a ≡ b). inl (equivalent_same g a b same))
      (λ (apart : a ≢ b). ⊎_elim
      (λ (way : Reach g (only b) (to g a) (from g a)). inr (λ c. first_closed g a b a_edge apart c way))
      (λ no_way. ⊎_elim
      (λ (back : Reach g (only a) (to g b) (from g b)). inr (λ c. second_closed g a b b_edge apart c back))
      (λ no_back. inl (IsCycleEquivalent-closed g a b no_way no_back))
      (cases_Reach g (only a) flow.sound (to g b) (from g b)))
      (cases_Reach g (only b) flow.sound (to g a) (from g a)))
      (cases_eq a b)

  -- what lies between two edges is a node
  inside_node : (a b node : ℕ) → a < edge_count g → IsInside g a b node → node < g.nodes
  inside_node a b node a_edge inside = kept g (only b) (λ n. n < g.nodes) (λ e edge free h. flow.sound.ends e edge) (to g a) node inside (flow.sound.ends a a_edge)

  module _ (i j : ℕ → Bool) (a b c d : ℕ) (inner : IsEntered g i a b) (outer : IsEntered g j c d)
      (a_edge : a < edge_count g) (b_edge : b < edge_count g) (c_edge : c < edge_count g) (d_edge : d < edge_count g)
      (ac : a ≢ c) (ad : a ≢ d) (bc : b ≢ c) (bd : b ≢ d) where
    -- A test of both marks of a node that each of the four edges keeps goes from each node to each. The marks of the one set at
    -- both ends of the edges of the other are x at a, y at b, z at c and w at d.
    pair_kept : (t : Bool → Bool → Bool) (x y z w : Bool) → j (from g a) ≡ x → j (from g b) ≡ y → i (from g c) ≡ z → i (from g d) ≡ w
        → (not (t false x) || t true x) ≡ true → (not (t true y) || t false y) ≡ true → (not (t z false) || t z true) ≡ true → (not (t w true) || t w false) ≡ true
        → (u v : ℕ) → u < g.nodes → v < g.nodes → (p q r s : Bool) → i u ≡ p → j u ≡ q → i v ≡ r → j v ≡ s → t p q ≡ true → t r s ≡ true
    pair_kept t x y z w at_a at_b at_c at_d over_a over_b over_c over_d u v u_node v_node p q r s iu ju iv jv here =
        let turn : (k l m n : Bool) → k ≡ l → m ≡ n → t k m ≡ true → t l n ≡ true = λ k l m n first second h. subst (λ z. t z n ≡ true) first (subst (λ z. t k z ≡ true) second h) in
        let step : (e : ℕ) → e < edge_count g → no_edge e ≡ false → t (i (from g e)) (j (from g e)) ≡ true → t (i (to g e)) (j (to g e)) ≡ true = λ e edge free h. ⊎_elim
        (λ (same : e ≡ a).
        let old : t (i (from g a)) (j (from g a)) ≡ true = subst (λ f. t (i (from g f)) (j (from g f)) ≡ true) same h in
        subst (λ f. t (i (to g f)) (j (to g f)) ≡ true) (sym same)
        (turn true (i (to g a)) x (j (to g a)) (sym inner.head) (sym at_a ∙ outer.others a a_edge ac ad)
        (from_implied (t false x) (t true x) over_a (turn (i (from g a)) false (j (from g a)) x inner.tail at_a old))))
        (λ not_a. ⊎_elim
        (λ (same : e ≡ b).
        let old : t (i (from g b)) (j (from g b)) ≡ true = subst (λ f. t (i (from g f)) (j (from g f)) ≡ true) same h in
        subst (λ f. t (i (to g f)) (j (to g f)) ≡ true) (sym same)
        (turn false (i (to g b)) y (j (to g b)) (sym inner.exit_head) (sym at_b ∙ outer.others b b_edge bc bd)
        (from_implied (t true y) (t false y) over_b (turn (i (from g b)) true (j (from g b)) y inner.exit_tail at_b old))))
        (λ not_b. ⊎_elim
        (λ (same : e ≡ c).
        let old : t (i (from g c)) (j (from g c)) ≡ true = subst (λ f. t (i (from g f)) (j (from g f)) ≡ true) same h in
        subst (λ f. t (i (to g f)) (j (to g f)) ≡ true) (sym same)
        (turn z (i (to g c)) true (j (to g c)) (sym at_c ∙ inner.others c c_edge (λ f. ac (sym f)) (λ f. bc (sym f))) (sym outer.head)
        (from_implied (t z false) (t z true) over_c (turn (i (from g c)) z (j (from g c)) false at_c outer.tail old))))
        (λ not_c. ⊎_elim
        (λ (same : e ≡ d).
        let old : t (i (from g d)) (j (from g d)) ≡ true = subst (λ f. t (i (from g f)) (j (from g f)) ≡ true) same h in
        subst (λ f. t (i (to g f)) (j (to g f)) ≡ true) (sym same)
        (turn w (i (to g d)) false (j (to g d)) (sym at_d ∙ inner.others d d_edge (λ f. ad (sym f)) (λ f. bd (sym f))) (sym outer.exit_head)
        (from_implied (t w true) (t w false) over_d (turn (i (from g d)) w (j (from g d)) true at_d outer.exit_tail old))))
        (λ not_d. turn (i (from g e)) (i (to g e)) (j (from g e)) (j (to g e)) (inner.others e edge not_a not_b) (outer.others e edge not_c not_d) h)
        (cases_eq e d))
        (cases_eq e c))
        (cases_eq e b))
        (cases_eq e a) in
        turn (i v) r (j v) s iv jv (kept g no_edge (λ n. t (i n) (j n) ≡ true) step u v (flow.strong u v u_node v_node) (turn p (i u) q (j u) (sym iu) (sym ju) here))

    -- the marks at an edge of the other set
    mark_to : (k : ℕ → Bool) (e x y : ℕ) (w : Bool) → IsEntered g k x y → e < edge_count g → e ≢ x → e ≢ y → k (from g e) ≡ w → k (to g e) ≡ w
    mark_to k e x y w set edge not_x not_y at = sym (set.others e edge not_x not_y) ∙ at

    -- where a and b are on one side of the other set, so are c and d
    not_split : i 0 ≡ false → j 0 ≡ false → (x z w : Bool) → j (from g a) ≡ x → j (from g b) ≡ x → i (from g c) ≡ z → i (from g d) ≡ w → z ≢ w → ⊥
    not_split i0 j0 x true true at_a at_b at_c at_d split = split refl
    not_split i0 j0 x false false at_a at_b at_c at_d split = split refl
    not_split i0 j0 false true false at_a at_b at_c at_d split = false≢true
        (pair_kept (λ p q. p && q) false false true false at_a at_b at_c at_d refl refl refl refl (to g c) 0 (flow.sound.ends c c_edge) (start_node g flow)
        true true false false (mark_to i c a b true inner c_edge (λ f. ac (sym f)) (λ f. bc (sym f)) at_c) outer.head i0 j0 refl)
    not_split i0 j0 false false true at_a at_b at_c at_d split = false≢true
        (pair_kept (λ p q. not p && q) false false false true at_a at_b at_c at_d refl refl refl refl (to g c) 0 (flow.sound.ends c c_edge) (start_node g flow)
        false true false false (mark_to i c a b false inner c_edge (λ f. ac (sym f)) (λ f. bc (sym f)) at_c) outer.head i0 j0 refl)
    not_split i0 j0 true true false at_a at_b at_c at_d split = false≢true
        (pair_kept (λ p q. not p && not q) true true true false at_a at_b at_c at_d refl refl refl refl 0 (to g c) (start_node g flow) (flow.sound.ends c c_edge)
        false false true true i0 j0 (mark_to i c a b true inner c_edge (λ f. ac (sym f)) (λ f. bc (sym f)) at_c) outer.head refl)
    not_split i0 j0 true false true at_a at_b at_c at_d split = false≢true
        (pair_kept (λ p q. p && not q) true true false true at_a at_b at_c at_d refl refl refl refl (to g d) 0 (flow.sound.ends d d_edge) (start_node g flow)
        true false false false (mark_to i d a b true inner d_edge (λ f. ad (sym f)) (λ f. bd (sym f)) at_d) outer.exit_head i0 j0 refl)

    -- where each edge of the one is on the same side as the other edge, no node has the marks of a fourth kind
    agreed : i 0 ≡ false → j 0 ≡ false → (x z : Bool) → j (from g a) ≡ x → j (from g b) ≡ x → i (from g c) ≡ z → i (from g d) ≡ z
        → ((n : ℕ) → n < g.nodes → i n ≡ true → j n ≡ true → ⊥) ⊎ (((n : ℕ) → n < g.nodes → i n ≡ true → j n ≡ true) ⊎ ((n : ℕ) → n < g.nodes → j n ≡ true → i n ≡ true))
    agreed i0 j0 false false at_a at_b at_c at_d = inl (λ n node is js. false≢true
        (pair_kept (λ p q. not (p && q)) false false false false at_a at_b at_c at_d refl refl refl refl 0 n (start_node g flow) node false false true true i0 j0 is js refl))
    agreed i0 j0 true false at_a at_b at_c at_d = inr (inl (λ n node is. ⊎_elim
        (λ (h : j n ≡ true). h)
        (λ (h : j n ≡ false). absurd (false≢true
        (pair_kept (λ p q. not p || q) true true false false at_a at_b at_c at_d refl refl refl refl 0 n (start_node g flow) node false false true false i0 j0 is h refl)))
        (cases_Bool (j n))))
    agreed i0 j0 false true at_a at_b at_c at_d = inr (inr (λ n node js. ⊎_elim
        (λ (h : i n ≡ true). h)
        (λ (h : i n ≡ false). absurd (false≢true
        (pair_kept (λ p q. p || not q) false false true true at_a at_b at_c at_d refl refl refl refl 0 n (start_node g flow) node false false false true i0 j0 h js refl)))
        (cases_Bool (i n))))
    agreed i0 j0 true true at_a at_b at_c at_d = absurd (false≢true
        (pair_kept (λ p q. not p && not q) true true true true at_a at_b at_c at_d refl refl refl refl 0 (to g a) (start_node g flow) (flow.sound.ends a a_edge)
        false false true true i0 j0 inner.head (mark_to j a c d true outer a_edge ac ad at_a) refl))

  -- ---- where the two edges of the one are on two sides of the other

  module _ (j : ℕ → Bool) (a b c d : ℕ) (outer : IsEntered g j c d) (b_edge : b < edge_count g) (a_edge : a < edge_count g)
      (ac : a ≢ c) (ad : a ≢ d) (bc : b ≢ c) (bd : b ≢ d) where
    stays_out : (u v : ℕ) → Reach g (only c) u v → j u ≡ false → j v ≡ false
    stays_out u v way out = kept g (only c) (λ n. j n ≡ false)
        (λ e edge free h. ⊎_elim
        (λ (same : e ≡ d). subst (λ x. j (to g x) ≡ false) (sym same) outer.exit_head)
        (λ (apart : e ≢ d). sym (outer.others e edge (eqb-false e c free) apart) ∙ h)
        (cases_eq e d))
        u v way out

    not_back : (x y : Bool) → j (from g a) ≡ x → j (from g b) ≡ y → x ≢ y → Reach g (only c) (to g a) (from g b) → Reach g (only c) (to g b) (from g a) → ⊥
    not_back true true at_a at_b split there back = split refl
    not_back false false at_a at_b split there back = split refl
    not_back true false at_a at_b split there back = grind (arith, stays_out (to g b) (from g a) back)
    not_back false true at_a at_b split there back = grind (arith, stays_out (to g a) (from g b) there)

    no_way_without : (Reach g (only b) (to g a) (from g a) → ⊥) → j (from g a) ≢ j (from g b) → Reach g (only c) (to g a) (from g a) → ⊥
    no_way_without no_way split way = ⊎_elim
        (λ (none : Reach g (either b c) (to g a) (from g a)). no_way (without_first g b c (to g a) (from g a) none))
        (λ (m : IsMet g (only b) (either b c) (only c) (to g a) (from g a)).
        let same : m.edge ≡ b = eqb-true m.edge b m.among in
        not_back (j (from g a)) (j (from g b)) refl refl split
        (without_second g b c (to g a) (from g b) (subst (λ x. Reach g (either b c) (to g a) (from g x)) same m.before))
        (subst (λ x. Reach g (only c) (to g x) (from g a)) same m.after))
        (first_of g (only b) (only c) (either b c) (λ e not_b not_c. or_from (e == b) (e == c) not_b not_c) (to g a) (from g a) way)

  -- ---- regions

  cases_same : (x y : Bool) → (x ≡ y) ⊎ (x ≢ y)
  cases_same h h2 = grind arith

  module _ (a b c d : ℕ) (r : IsRegion g a b) (s : IsRegion g c d) (differ : IsCycleEquivalent g a c → ⊥) where
    ac : a ≢ c
    ac same = differ (equivalent_same g a c same)

    ad : a ≢ d
    ad same = differ (equivalent_on g a d c (equivalent_same g a d same) (equivalent_back g c d s.pair.same))

    bc : b ≢ c
    bc same = differ (equivalent_on g a b c r.pair.same (equivalent_same g b c same))

    bd : b ≢ d
    bd same = differ (equivalent_on g a b c r.pair.same (equivalent_on g b d c (equivalent_same g b d same) (equivalent_back g c d s.pair.same)))

    inner : IsEntered g (side g a b) a b
    inner = pair_entered g flow a b r.pair

    outer : IsEntered g (side g c d) c d
    outer = pair_entered g flow c d s.pair

    -- the start is in neither
    i0 : side g a b 0 ≡ false
    i0 = side_false g flow a b 0 (not_start g flow a b r.pair r.before)

    j0 : side g c d 0 ≡ false
    j0 = side_false g flow c d 0 (not_start g flow c d s.pair s.before)

    nest_agreed : side g c d (from g a) ≡ side g c d (from g b) → side g a b (from g c) ≡ side g a b (from g d) → AreApart g a b c d ⊎ (IsWithin g a b c d ⊎ IsWithin g c d a b)
    nest_agreed x z = ⊎_elim
        (λ none. inl (λ n first second. none n (inside_node a b n r.pair.first first) (inside_side g flow a b n first) (inside_side g flow c d n second)))
        (λ more. inr (⊎_elim
        (λ within. inl (λ n first. side_inside g flow c d n (within n (inside_node a b n r.pair.first first) (inside_side g flow a b n first))))
        (λ around. inr (λ n second. side_inside g flow a b n (around n (inside_node c d n s.pair.first second) (inside_side g flow c d n second))))
        more))
        (agreed (side g a b) (side g c d) a b c d inner outer r.pair.first r.pair.second s.pair.first s.pair.second ac ad bc bd i0 j0
        (side g c d (from g a)) (side g a b (from g c)) refl (sym x) refl (sym z))

    nest : AreApart g a b c d ⊎ (IsWithin g a b c d ⊎ IsWithin g c d a b)
    nest = ⊎_elim
        (λ (x : side g c d (from g a) ≡ side g c d (from g b)). ⊎_elim
        (λ (z : side g a b (from g c) ≡ side g a b (from g d)). nest_agreed x z)
        (λ (split : side g a b (from g c) ≢ side g a b (from g d)). absurd
        (not_split (side g a b) (side g c d) a b c d inner outer r.pair.first r.pair.second s.pair.first s.pair.second ac ad bc bd i0 j0
        (side g c d (from g a)) (side g a b (from g c)) (side g a b (from g d)) refl (sym x) refl refl split))
        (cases_same (side g a b (from g c)) (side g a b (from g d))))
        (λ (split : side g c d (from g a) ≢ side g c d (from g b)). ⊎_elim
        (λ (z : side g a b (from g c) ≡ side g a b (from g d)). absurd
        (not_split (side g c d) (side g a b) c d a b outer inner s.pair.first s.pair.second r.pair.first r.pair.second
        (λ h. ac (sym h)) (λ h. bc (sym h)) (λ h. ad (sym h)) (λ h. bd (sym h)) j0 i0
        (side g a b (from g c)) (side g c d (from g a)) (side g c d (from g b)) refl (sym z) refl refl split))
        (λ (cross : side g a b (from g c) ≢ side g a b (from g d)). absurd (differ (IsCycleEquivalent-closed g a c
        (no_way_without (side g c d) a b c d outer r.pair.second r.pair.first ac ad bc bd (first_closed g a b r.pair.first r.pair.apart r.pair.same) split)
        (no_way_without (side g a b) c d a b inner s.pair.second s.pair.first (λ h. ac (sym h)) (λ h. bc (sym h)) (λ h. ad (sym h)) (λ h. bd (sym h))
        (first_closed g c d s.pair.first s.pair.apart s.pair.same) cross))))
        (cases_same (side g a b (from g c)) (side g a b (from g d))))
        (cases_same (side g c d (from g a)) (side g c d (from g b)))

  -- Two regions with different entries are apart, or the one lies within the other.
  pub regions_nest : (a b c d : ℕ) → IsRegion g a b → IsRegion g c d → a ≢ c → AreApart g a b c d ⊎ (IsWithin g a b c d ⊎ IsWithin g c d a b)
  regions_nest a b c d r s apart = ⊎_elim
      (λ (same : IsCycleEquivalent g a c). inl (class_apart g flow a b c d r s (record { first = r.pair.first; second = s.pair.first; apart = apart; same = same })))
      (λ differ. nest a b c d r s differ)
      (cases_class a c r.pair.first s.pair.first)
