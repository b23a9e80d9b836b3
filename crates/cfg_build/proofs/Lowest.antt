-- What doesn't come to the end comes to a piece that gets a hold.
use Rattle.std.proofs.Common.{◌≡◌, ℕ, zero, suc, ◌+◌, ◌<◌, ◌≤◌, ◌⊎◌, Bool, true, false, not, ◌&&◌, ◌==◌, get_or, refl, sym, ap, ◌∙◌, subst, inl, inr, ⊎_elim, arith}
use Rattle.std.proofs.lemmas.Bool.{cases_Bool, cases_order, and_parts, and_from, not-true, not_from_false, eqb-true, eq-eqb, false≢true}
use Rattle.std.specs.List.{range_with_len}
use Rattle.closed_walks.specs.Graph.{Graph, IsGraph, edge_count, from, to}
use Rattle.closed_walks.specs.Endless.{GoesOn, MeetsCycle}
use Rattle.closed_walks.specs.Reaching.{reaches}
use Rattle.cfg_build.specs.Holds.{is_on_cycle, reaches_lower_cycle, is_held}
use Rattle.list_laws.proofs.Members.{IsAt, at_of, Member-at, Member-range, Member-in_range, list_any_member, IsPassed, member_of_list_any}
use Rattle.cfg_build.proofs.ReachedNodes.{IsTold, Reaches, join, kept}

-- what the law on ways that go on says
abbrev pub IsMet : Type 0
IsMet = (g : Graph) (u : ℕ) → IsGraph g → u < g.nodes → GoesOn g u → MeetsCycle g u

-- the least number that passes a test
pub record IsLeast (test : ℕ → Bool) : Type 0 where
  pub least : ℕ
  pub passes : test least ≡ true
  pub below : (k : ℕ) → k < least → test k ≡ false

least_below : (test : ℕ → Bool) (n : ℕ) → ((k : ℕ) → k < n → test k ≡ false) ⊎ IsLeast test
least_below test zero = inl (λ k less. absurd (omega (arith, less)))
least_below test (suc n) = ⊎_elim
    (λ (none : (k : ℕ) → k < n → test k ≡ false). ⊎_elim
    (λ (h : test n ≡ true). inr (record { least = n; passes = h; below = none }))
    (λ (h : test n ≡ false). inl (λ k less. ⊎_elim
    (λ (is : k ≡ n). ap test is ∙ h)
    (⊎_elim (λ (l : k < n). none k l) (λ (l : n < k). absurd (omega (arith, less, l))))
    (cases_order k n)))
    (cases_Bool (test n)))
    (λ l. inr l)
    (least_below test n)

pub least_of : (test : ℕ → Bool) (n : ℕ) → test n ≡ true → IsLeast test
least_of test n h = ⊎_elim
    (λ (none : (k : ℕ) → k < suc n → test k ≡ false). absurd (false≢true (sym (none n (omega arith)) ∙ h)))
    (λ (l : IsLeast test). l)
    (least_below test (suc n))

module _ (told : IsTold) (g : Graph) (sound : IsGraph g) where
  pub reached_below : (u v : ℕ) → u < g.nodes → Reaches g u v → v < g.nodes
  reached_below u v node r = kept g (λ x. x < g.nodes) (λ e edge here. sound.ends e edge) u v r node

  -- an edge leads to the node from one that it reaches
  pub record IsOnCycle (x : ℕ) : Type 0 where
    pub edge : ℕ
    pub exists : edge < edge_count g
    pub ends : to g edge ≡ x
    pub returns : Reaches g x (from g edge)

  pub cycle_of : (x : ℕ) → x < g.nodes → is_on_cycle g x ≡ true → IsOnCycle x
  unfolding from to
  cycle_of x node h =
      let r : IsPassed (λ (e : ℕ × ℕ). (e.1 == x) && reaches g x e.0) g.edges = member_of_list_any (λ (e : ℕ × ℕ). (e.1 == x) && reaches g x e.0) g.edges h in
      let parts = and_parts (r.one.1 == x) (reaches g x r.one.0) r.passes in
      let at : IsAt g.edges r.one = at_of g.edges r.one r.among in
      let is : get_or g.edges at.place (0, 0) ≡ r.one = at.is (0, 0) in
      record {
        edge = at.place;
        exists = at.exists;
        ends = ap (λ (e : ℕ × ℕ). e.1) is ∙ eqb-true r.one.1 x parts.0;
        returns = subst (λ n. Reaches g x n) (sym (ap (λ (e : ℕ × ℕ). e.0) is)) ((told g x r.one.0 sound node).0 parts.1);
      }

  pub is_on_cycle_from : (x e : ℕ) → e < edge_count g → to g e ≡ x → Reaches g x (from g e) → is_on_cycle g x ≡ true
  unfolding from to
  is_on_cycle_from x e edge ends returns = grind (arith, list_any_member, Member-at g.edges, and_from, eq-eqb)

  module _ (finish : ℕ) where
    -- what it says of a piece that it gets a hold
    pub record IsHeldBy (x : ℕ) : Type 0 where
      pub on_cycle : is_on_cycle g x ≡ true
      pub cycle : IsOnCycle x
      pub stuck : Reaches g x finish → ⊥
      pub lowest : (low : ℕ) → low < x → is_on_cycle g low ≡ true → Reaches g x low → ⊥

    pub held_says : (x : ℕ) → x < g.nodes → is_held g finish x ≡ true → IsHeldBy x
    held_says x node h =
        let outer = and_parts (is_on_cycle g x && not (reaches g x finish)) (not (reaches_lower_cycle g x)) h in
        let inner = and_parts (is_on_cycle g x) (not (reaches g x finish)) outer.0 in
        record {
          on_cycle = inner.0;
          cycle = cycle_of x node inner.0;
          lowest = λ low less cycle r. false≢true
              (sym (not-true (reaches_lower_cycle g x) outer.1)
              ∙ list_any_member (λ lower. is_on_cycle g lower && reaches g x lower) (range_with_len 0 x) low (Member-range 0 x low (omega arith) (omega (arith, less)))
              (and_from (is_on_cycle g low) (reaches g x low) cycle ((told g x low sound node).1 r)));
          stuck = λ r. false≢true (sym (not-true (reaches g x finish) inner.1) ∙ (told g x finish sound node).1 r);
        }

    -- a held piece that u reaches
    pub record ReachesHeld (u : ℕ) : Type 0 where
      pub piece : ℕ
      pub node : piece < g.nodes
      pub held : is_held g finish piece ≡ true
      pub reached : Reaches g u piece

    abbrev is_cycle_of : (u x : ℕ) → Bool
    is_cycle_of u x = is_on_cycle g x && reaches g u x

    lowest_held : (u : ℕ) → u < g.nodes → (Reaches g u finish → ⊥) → IsLeast (is_cycle_of u) → ReachesHeld u
    lowest_held u node stuck l =
        let x : ℕ = l.least in
        let parts = and_parts (is_on_cycle g x) (reaches g u x) l.passes in
        let reached : Reaches g u x = (told g u x sound node).0 parts.1 in
        let x_node : x < g.nodes = reached_below u x node reached in
        let not_end : reaches g x finish ≡ false = ⊎_elim
        (λ (h : reaches g x finish ≡ true). absurd (stuck (join g u x finish reached ((told g x finish sound x_node).0 h))))
        (λ h. h)
        (cases_Bool (reaches g x finish)) in
        let not_lower : reaches_lower_cycle g x ≡ false = ⊎_elim
        (λ (h : reaches_lower_cycle g x ≡ true).
        let r : IsPassed (λ lower. is_on_cycle g lower && reaches g x lower) (range_with_len 0 x) = member_of_list_any (λ lower. is_on_cycle g lower && reaches g x lower) (range_with_len 0 x) h in
        let low : (0 ≤ r.one) × (r.one < 0 + x) = Member-in_range 0 x r.one r.among in
        let both = and_parts (is_on_cycle g r.one) (reaches g x r.one) r.passes in
        let on : Reaches g u r.one = join g u x r.one reached ((told g x r.one sound x_node).0 both.1) in
        let passes : is_cycle_of u r.one ≡ true = and_from (is_on_cycle g r.one) (reaches g u r.one) both.0 ((told g u r.one sound node).1 on) in
        absurd (false≢true (sym (l.below r.one (omega (arith, low.1))) ∙ passes)))
        (λ h. h)
        (cases_Bool (reaches_lower_cycle g x)) in
        record {
          piece = x;
          node = x_node;
          held = and_from (is_on_cycle g x && not (reaches g x finish)) (not (reaches_lower_cycle g x))
              (and_from (is_on_cycle g x) (not (reaches g x finish)) parts.0 (not_from_false (reaches g x finish) not_end))
              (not_from_false (reaches_lower_cycle g x) not_lower);
          reached = reached;
        }

    pub reaches_held : IsMet → (u : ℕ) → u < g.nodes → (Reaches g u finish → ⊥) → GoesOn g u → ReachesHeld u
    reaches_held met u node stuck on =
        let m : MeetsCycle g u = met g u sound node on in
        let x : ℕ = to g m.edge in
        let cycle : is_on_cycle g x ≡ true = is_on_cycle_from x m.edge m.exists refl m.returns in
        let passes : is_cycle_of u x ≡ true = and_from (is_on_cycle g x) (reaches g u x) cycle ((told g u x sound node).1 m.leads) in
        lowest_held u node stuck (least_of (is_cycle_of u) x passes)
