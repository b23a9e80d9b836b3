-- Which pieces get a hold, piece after piece.
use Rattle.std.proofs.Common.{◌≡◌, ◌↔◌, ℕ, zero, suc, ◌+◌, ◌<◌, ◌≤◌, ◌⊎◌, Bool, true, false, cond, not, ◌&&◌, ◌==◌, nat_le, List, [], ◌∷◌, ◌++◌, length, get_or, filter, Result, Ok, Err, OnOk, refl, sym, ap, ◌∙◌, subst, inl, inr, ⊎_elim, arith}
use Rattle.std.proofs.lemmas.Bool.{cases_Bool, cases_lt, and_parts, and_from, not-true, not_from_false, eq-eqb, le-leb}
use Rattle.std.proofs.lemmas.List.{append-nil, get_or_append_left, get_or_push, length_push}
use Rattle.std.proofs.lemmas.List.Elements.{filter-append}
use Rattle.std.specs.List.{range_with_len}
use Rattle.closed_walks.specs.Graph.{Graph, IsGraph, edge_count, from, to}
use Rattle.closed_walks.specs.Reaching.{reaches}
use Rattle.cfg_build.specs.Holds.{is_on_cycle, reaches_lower_cycle, is_held}
use Rattle.cfg_build.specs.Tables.{is_entered_from_above, ReachesOne, Leaves, AreHeldBelow}
use Rattle.list_laws.proofs.Members.{at_of, Member-at, Member-filter, Member-filtered, Member-range, Member-in_range, list_any_member, IsPassed, member_of_list_any}
use Rattle.cfg_build.proofs.Lowest.{is_on_cycle_from, IsHeldBy, held_says}
use Rattle.cfg_build.proofs.ReachedNodes.{IsTold, Reaches, stay, join, along, along_last, kept}
use Rattle.list_laws.proofs.Ranges.{range_last}
use Rattle.std.proofs.lemmas.Grind.{elements}

-- two tests that pass alike are the same
pub same_Bool : (a b : Bool) → (a ≡ true → b ≡ true) → (b ≡ true → a ≡ true) → a ≡ b
same_Bool h b forth back = grind arith

-- what follows of what holds without an error
pub then_on_ok : {A E P Q : Type 0} (result : Result A E) → (P → Q) → OnOk result P → OnOk result Q
then_on_ok (Ok x) next holds = next holds
then_on_ok (Err error) next holds = tt

module _ (told : IsTold) (g : Graph) (sound : IsGraph g) (finish : ℕ) (finish_below : finish < g.nodes) where
  -- ---- the last edge of a way

  record IsLast (x v : ℕ) : Type 0 where
    pub edge : ℕ
    pub exists : edge < edge_count g
    pub ends : to g edge ≡ v
    pub reached : Reaches g x (from g edge)

  last_edge : (x v : ℕ) → Reaches g x v → (v ≡ x) ⊎ IsLast x v
  last_edge x v r =
      (kept g (λ n. Reaches g x n × ((n ≡ x) ⊎ IsLast x n))
      (λ e l here. (along_last g x (from g e) (to g e) here.0 (record { number = e; exists = l; begins = refl; ends = refl }), inr (record { edge = e; exists = l; ends = refl; reached = here.0 })))
      x v r (stay g x x refl, inl refl)).1

  -- ---- pieces on cycles

  abbrev pub below : ℕ → List ℕ
  below x = filter (is_held g finish) (range_with_len 0 x)

  one_of : (x y z : ℕ) → z < x → is_held g finish z ≡ true → Reaches g y z → ReachesOne g (below x) y
  one_of x y z less held r = grind (arith, Member-filter (is_held g finish) (range_with_len 0 x) z, Member-range 0 x z, at_of (below x) z)

  -- what one of the nodes below reaches leaves, each node that reaches it does
  leaves_before : (x y z : ℕ) → Reaches g y z → Leaves g finish (below x) z → Leaves g finish (below x) y
  leaves_before x y z r (inl end) = inl (join g y z finish r end)
  leaves_before x y z r (inr one) = inr (record { place = one.place; exists = one.exists; reach = join g y z (get_or (below x) one.place 0) r one.reach })

  record IsLowerCycle (x : ℕ) : Type 0 where
    pub low : ℕ
    pub less : low < x
    pub cycle : is_on_cycle g low ≡ true
    pub reached : Reaches g x low

  lower_of : (x : ℕ) → x < g.nodes → reaches_lower_cycle g x ≡ true → IsLowerCycle x
  lower_of x node h =
      let r : IsPassed (λ lower. is_on_cycle g lower && reaches g x lower) (range_with_len 0 x) = member_of_list_any (λ lower. is_on_cycle g lower && reaches g x lower) (range_with_len 0 x) h in
      let parts = and_parts (is_on_cycle g r.one) (reaches g x r.one) r.passes in
      let within = Member-in_range 0 x r.one r.among in
      record { low = r.one; less = omega (arith, within.1); cycle = parts.0; reached = (told g x r.one sound node).0 parts.1 }

  -- the definition, part by part
  held_from : (x : ℕ) → is_on_cycle g x ≡ true → reaches g x finish ≡ false → reaches_lower_cycle g x ≡ false → is_held g finish x ≡ true
  held_from x cycle end lower = cc

  -- a piece on a cycle reaches the end, or one that is held and isn't higher
  cycle_leaves : (most y x : ℕ) → y < most → y < x → x < g.nodes → is_on_cycle g y ≡ true → Leaves g finish (below x) y
  cycle_leaves zero y x l less node cycle = absurd (omega (arith, l))
  cycle_leaves (suc most) y x l less node cycle =
      let y_node : y < g.nodes = omega (arith, less, node) in
      ⊎_elim
      (λ (end : reaches g y finish ≡ true). inl ((told g y finish sound y_node).0 end))
      (λ (end : reaches g y finish ≡ false). ⊎_elim
      (λ (lower : reaches_lower_cycle g y ≡ true).
      let low : IsLowerCycle y = lower_of y y_node lower in
      leaves_before x y low.low low.reached (cycle_leaves most low.low x (omega (arith, low.less, l)) (omega (arith, low.less, less)) node low.cycle))
      (λ (lower : reaches_lower_cycle g y ≡ false). inr (one_of x y y less (held_from y cycle end lower) (stay g y y refl)))
      (cases_Bool (reaches_lower_cycle g y)))
      (cases_Bool (reaches g y finish))

  -- a piece that doesn't leave, and is on a cycle, is held
  pub stays_held : (x : ℕ) → x < g.nodes → (Leaves g finish (below x) x → ⊥) → is_on_cycle g x ≡ true → is_held g finish x ≡ true
  stays_held x node stays cycle =
      held_from x cycle
      (⊎_elim (λ (h : reaches g x finish ≡ true). absurd (stays (inl ((told g x finish sound node).0 h)))) (λ h. h) (cases_Bool (reaches g x finish)))
      (⊎_elim
      (λ (h : reaches_lower_cycle g x ≡ true).
      let low : IsLowerCycle x = lower_of x node h in
      absurd (stays (leaves_before x x low.low low.reached (cycle_leaves (suc low.low) low.low x (omega arith) low.less node low.cycle))))
      (λ h. h)
      (cases_Bool (reaches_lower_cycle g x)))

  -- a held piece doesn't leave
  held_stays : (x : ℕ) → x < g.nodes → is_held g finish x ≡ true → Leaves g finish (below x) x → ⊥
  held_stays x node held (inl end) = (held_says told g sound finish x node held).stuck end
  held_stays x node held (inr one) =
      grind (arith, held_says told g sound finish x node held, Member-filtered (is_held g finish) (range_with_len 0 x), Member-at (below x) one.place 0 one.exists, Member-in_range 0 x, held_says told g sound finish)

  -- an edge from a node that isn't lower comes to a held piece
  held_entered : (x : ℕ) → x < g.nodes → is_held g finish x ≡ true → is_entered_from_above g x ≡ true
  unfolding from to
  held_entered x node held =
      let says : IsHeldBy told g sound finish x = held_says told g sound finish x node held in
      let e : ℕ = says.cycle.edge in
      let l : e < edge_count g = says.cycle.exists in
      let high : x ≤ from g e = ⊎_elim
      (λ (less : from g e < x). absurd (⊎_elim
      (λ (same : from g e ≡ x). omega (arith, same, less))
      (λ (last : IsLast x (from g e)).
      let back : Reaches g (from g e) (from g last.edge) = join g (from g e) x (from g last.edge) (along g (from g e) x (record { number = e; exists = l; begins = refl; ends = says.cycle.ends })) last.reached in
      says.lowest (from g e) less (is_on_cycle_from told g sound (from g e) last.edge last.exists last.ends back) says.cycle.returns)
      (last_edge x (from g e) says.cycle.returns)))
      (λ (h : x ≤ from g e). h)
      (cases_lt (from g e) x) in
      list_any_member (λ (f : ℕ × ℕ). (f.1 == x) && nat_le x f.0) g.edges (get_or g.edges e (0, 0)) (Member-at g.edges e (0, 0) l)
      (and_from (to g e == x) (nat_le x (from g e)) (eq-eqb (to g e) x says.cycle.ends) (le-leb x (from g e) high))

  -- what the code tests tells whether a piece is held
  pub stays_is_held : (x : ℕ) (mark : Bool) → x < g.nodes → (mark ≡ true) ↔ Leaves g finish (below x) x → (not mark && (is_entered_from_above g x && is_on_cycle g x)) ≡ is_held g finish x
  stays_is_held x mark node marked = search (same_Bool, stays_held, not-true, and_from, not_from_false, held_stays, held_entered, held_says, arith)

  -- ---- one piece more

  filter_more : (x : ℕ) → below (x + 1) ≡ below x ++ cond (is_held g finish x) (x ∷ []) []
  filter_more x =
      let next : x + 1 ≡ suc x = omega arith in
      let at : 0 + x ≡ x = omega arith in
      ap below next ∙ ap (filter (is_held g finish)) (range_last 0 x ∙ ap (λ n. range_with_len 0 x ++ n ∷ []) at) ∙ filter-append (is_held g finish) (range_with_len 0 x) (x ∷ [])

  pub none_more : (x : ℕ) (held : List ℕ) (marks : List Bool) → is_held g finish x ≡ false → AreHeldBelow g finish x held marks → AreHeldBelow g finish (x + 1) held marks
  none_more x held marks not_held before = grind (arith, append-nil (below x), filter_more x)

  one_with : (held : List ℕ) (x y : ℕ) → Reaches g y x → ReachesOne g (held ++ x ∷ []) y
  one_with held x y r = record { place = length held; exists = omega (arith, length_push held x); reach = subst (λ n. Reaches g y n) (sym (get_or_push held x 0 (length held) refl)) r }

  one_without : (held : List ℕ) (x y : ℕ) → ReachesOne g held y → ReachesOne g (held ++ x ∷ []) y
  one_without held x y one = record { place = one.place; exists = omega (arith, one.exists, length_push held x); reach = subst (λ n. Reaches g y n) (sym (get_or_append_left held (x ∷ []) 0 one.place one.exists)) one.reach }

  one_back : (held : List ℕ) (x y : ℕ) → ReachesOne g (held ++ x ∷ []) y → ReachesOne g held y ⊎ Reaches g y x
  one_back held x y one = grind (arith, elements, get_or_push, length_push)

  pub one_more : (x : ℕ) (held : List ℕ) (marks new : List Bool) → is_held g finish x ≡ true → AreHeldBelow g finish x held marks
      → ((v : ℕ) → (get_or new v false ≡ true) ↔ ((get_or marks v false ≡ true) ⊎ Reaches g v x)) → AreHeldBelow g finish (x + 1) (held ++ x ∷ []) new
  one_more x held marks new is_one before marked = record {
    pieces = ap (λ (xs : List ℕ). xs ++ x ∷ []) before.pieces ∙ sym (ap (λ b. below x ++ cond b (x ∷ []) []) is_one) ∙ sym (filter_more x);
    leaving = λ y. (
      λ h. ⊎_elim
          (λ old. ⊎_elim (λ end. inl end) (λ (one : ReachesOne g held y). inr (one_without held x y one)) ((before.leaving y).0 old))
          (λ (r : Reaches g y x). inr (one_with held x y r))
          ((marked y).0 h),
      λ leaves. (marked y).1 (⊎_elim
          (λ end. inl ((before.leaving y).1 (inl end)))
          (λ (one : ReachesOne g (held ++ x ∷ []) y). ⊎_elim (λ (old : ReachesOne g held y). inl ((before.leaving y).1 (inr old))) (λ r. inr r) (one_back held x y one))
          leaves),
    );
  }

  -- what the code tests, with the pieces held so far
  pub test_is_held : (x : ℕ) (held : List ℕ) (marks : List Bool) → x < g.nodes → AreHeldBelow g finish x held marks → (not (get_or marks x false) && (is_entered_from_above g x && is_on_cycle g x)) ≡ is_held g finish x
  test_is_held x held marks node before = grind (arith, stays_is_held x (get_or marks x false) node, before.leaving x)
