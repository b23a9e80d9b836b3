-- What is reached after holds on some edges, and which pieces on cycles still can't come to the end.
use Rattle.std.proofs.Common.{◌≡◌, ◌≢◌, ℕ, zero, suc, ◌+◌, ◌-◌, ◌<◌, ◌≤◌, ◌⊎◌, true, false, not, List, length, get_or, refl, sym, ap, ◌∙◌, subst, inl, inr, ⊎_elim, arith}
use Rattle.std.proofs.lemmas.Bool.{cases_Bool, cases_lt, cases_eq, and_parts, and_from, not-true, not_from_false}
use Rattle.closed_walks.specs.Graph.{Graph, IsGraph, edge_count, from, to}
use Rattle.closed_walks.specs.Reaching.{reaches}
use Rattle.cfg_build.specs.Holds.{is_on_cycle}
use Rattle.cfg_build.specs.Rounds.{is_stuck}
use Rattle.cfg_build.specs.Tables.{Leaves}
use Rattle.cfg_build.proofs.AfterHolds.{AfterHolds}
use Rattle.cfg_build.proofs.FlowEdges.{halves}
use Rattle.cfg_build.proofs.HeldEdges.{IsHoldEdge}
use Rattle.cfg_build.proofs.Lowest.{IsOnCycle, cycle_of, is_on_cycle_from}
use Rattle.cfg_build.proofs.ReachedNodes.{IsTold, Reaches, stay, join, along_last, kept}

module _ (g : Graph) (sound : IsGraph g) (finish : ℕ) (edge_of : ℕ → ℕ) (hs : List ℕ) (f : Graph) (h : AfterHolds g finish edge_of hs (length hs) f) where
  abbrev Left : ℕ → Type 0
  Left u = Leaves g finish hs u

  -- ---- which edges there are

  cases_last : (q n : ℕ) → q < suc n → (q < n) ⊎ (n ≡ q)
  cases_last q n less = grind arith

  pub cases_held : (k n : ℕ) → ((q : ℕ) × (q < n) × (edge_of (get_or hs q 0) ≡ k)) ⊎ ((q : ℕ) → q < n → edge_of (get_or hs q 0) ≢ k)
  cases_held k zero = inr (λ q less. absurd (omega (arith, less)))
  cases_held k (suc n) = ⊎_elim
      (λ (r : (q : ℕ) × (q < n) × (edge_of (get_or hs q 0) ≡ k)). inl (r.0, omega (arith, r.1), r.2))
      (λ (none : (q : ℕ) → q < n → edge_of (get_or hs q 0) ≢ k). ⊎_elim
      (λ (is : edge_of (get_or hs n 0) ≡ k). inl (n, omega arith, is))
      (λ (other : edge_of (get_or hs n 0) ≡ k → ⊥). inr (λ q less. ⊎_elim
      (λ (l : q < n). none q l)
      (λ (s : n ≡ q). λ (is : edge_of (get_or hs q 0) ≡ k). other (ap (λ x. edge_of (get_or hs x 0)) s ∙ is))
      (cases_last q n less)))
      (cases_eq (edge_of (get_or hs n 0)) k))
      (cases_held k n)

  -- an edge that was there leads where it led, or to its hold; each other one leaves a hold, for where its edge led or for the end
  data IsNow (k : ℕ) : Type 0 where
    Free : (old : k < edge_count g) (leads : to f k ≡ to g k) → IsNow k
    Held : (old : k < edge_count g) (q : ℕ) (few : q < length hs) (on : edge_of (get_or hs q 0) ≡ k) (leads : to f k ≡ g.nodes + q) → IsNow k
    Stays : (q : ℕ) (few : q < length hs) (begins : from f k ≡ g.nodes + q) (leads : to f k ≡ to g (edge_of (get_or hs q 0))) → IsNow k
    Ends : (q : ℕ) (few : q < length hs) (begins : from f k ≡ g.nodes + q) (leads : to f k ≡ finish) → IsNow k

  held_now : (k q : ℕ) → k < edge_count g → q < length hs → edge_of (get_or hs q 0) ≡ k → IsNow k
  held_now k q old few on = Held old q few on (subst (λ e. to f e ≡ g.nodes + q) on (h.held q few))

  stays_now : (k q : ℕ) → q < length hs → k ≡ edge_count g + (q + q) → IsNow k
  stays_now k q few is =
      Stays q few
      (subst (λ n. from f n ≡ g.nodes + q) (sym is) (h.from_stay q few))
      (subst (λ n. to f n ≡ to g (edge_of (get_or hs q 0))) (sym is) (h.to_stay q few))

  ends_now : (k q : ℕ) → q < length hs → k ≡ edge_count g + (q + q) + 1 → IsNow k
  ends_now k q few is =
      Ends q few
      (subst (λ n. from f n ≡ g.nodes + q) (sym is) (h.from_leave q few))
      (subst (λ n. to f n ≡ finish) (sym is) (h.to_leave q few))

  new_now : (k q : ℕ) → q < length hs → (k ≡ edge_count g + (q + q)) ⊎ (k ≡ edge_count g + (q + q) + 1) → IsNow k
  new_now k q few (inl is) = stays_now k q few is
  new_now k q few (inr is) = ends_now k q few is

  old_now : (k : ℕ) → k < edge_count g → ((q : ℕ) × (q < length hs) × (edge_of (get_or hs q 0) ≡ k)) ⊎ ((q : ℕ) → q < length hs → edge_of (get_or hs q 0) ≢ k) → IsNow k
  old_now k old (inl one) = held_now k one.0 old one.1 one.2
  old_now k old (inr none) = Free old (h.free k old none)

  edge_now : (k : ℕ) → k < edge_count f → IsNow k
  edge_now k exists = ⊎_elim
      (λ (old : k < edge_count g). old_now k old (cases_held k (length hs)))
      (λ (new : edge_count g ≤ k).
      let r = halves (edge_count g) (k - edge_count g) (length hs) (omega (arith, new, exists, h.edges)) k (omega (arith, new)) in
      new_now k r.0 r.1 r.2)
      (cases_lt k (edge_count g))

  module _ (edges : (q : ℕ) → q < length hs → IsHoldEdge g (get_or hs q 0) (edge_of (get_or hs q 0))) (there : (q : ℕ) → q < length hs → Reaches g (from g (edge_of (get_or hs q 0))) (get_or hs q 0)) where
    -- what is reached without leaving, in the graph without holds
    record IsFrom (u w : ℕ) : Type 0 where
      old : w < g.nodes → Reaches g u w
      new : (q : ℕ) → q < length hs → w ≡ g.nodes + q → Reaches g u (from g (edge_of (get_or hs q 0)))

    from_old : (u k : ℕ) → k < edge_count g → IsFrom u (from f k) → Reaches g u (from g k)
    from_old u k old here = grind arith

    one_on : (u k : ℕ) → k < edge_count g → Reaches g u (from g k) → Reaches g u (to g k)
    one_on u k old r = along_last g u (from g k) (to g k) r (record { number = k; exists = old; begins = refl; ends = refl })

    go_on : (u k : ℕ) → IsNow k → IsFrom u (from f k) → Left u ⊎ IsFrom u (to f k)
    go_on u k (Free old leads) here = grind (arith, one_on u k old (from_old u k old here), from_old u k old here)
    go_on u k (Held old q few on leads) here = grind (arith, from_old u k old here)
    go_on u k (Stays q few begins leads) here = grind (arith, one_on u (edge_of (get_or hs q 0)), here.new q few begins)
    go_on u k (Ends q few begins leads) here = inl (inr (record { place = q; exists = few; reach = join g u (from g (edge_of (get_or hs q 0))) (get_or hs q 0) (here.new q few begins) (there q few) }))

    go_edge : (u k : ℕ) → k < edge_count f → Left u ⊎ IsFrom u (from f k) → Left u ⊎ IsFrom u (to f k)
    go_edge u k exists (inl left) = inl left
    go_edge u k exists (inr here) = go_on u k (edge_now k exists) here

    follow : (u w : ℕ) → u < g.nodes → Reaches f u w → Left u ⊎ IsFrom u w
    follow u w node r =
        kept f (λ n. Left u ⊎ IsFrom u n) (λ k exists here. go_edge u k exists here) u w r
        (inr (record { old = λ l. stay g u u refl; new = λ q few s. absurd (omega (arith, s, node)) }))

    module _ (told : IsTold) (end_below : finish < g.nodes) (f_sound : IsGraph f) (g_kept : (u v : ℕ) → Reaches g u v → Reaches f u v) (lead : (q : ℕ) → q < length hs → Reaches f (get_or hs q 0) finish) where
      left_reaches : (u : ℕ) → Left u → Reaches f u finish
      left_reaches u (inl end) = g_kept u finish end
      left_reaches u (inr one) = join f u (get_or hs one.place 0) finish (g_kept u (get_or hs one.place 0) one.reach) (lead one.place one.exists)

      -- a piece that comes to the end isn't stuck
      pub stuck_no_way : (x : ℕ) → x < f.nodes → is_stuck f finish x ≡ true → Reaches f x finish → ⊥
      stuck_no_way x node stuck r = grind (arith, not-true (reaches f x finish))

      cycle_back : (x k : ℕ) → x < g.nodes → to f k ≡ x → (Reaches f x finish → ⊥) → IsFrom x (from f k) → IsNow k → is_on_cycle g x ≡ true
      cycle_back x k node ends no_way here (Free old leads) = is_on_cycle_from told g sound x k old (sym leads ∙ ends) (from_old x k old here)
      cycle_back x k node ends no_way here (Held old q few on leads) = absurd (omega (arith, leads, ends, node))
      cycle_back x k node ends no_way here (Stays q few begins leads) = is_on_cycle_from told g sound x (edge_of (get_or hs q 0)) (edges q few).exists (sym leads ∙ ends) (here.new q few begins)
      cycle_back x k node ends no_way here (Ends q few begins leads) = absurd (no_way (stay f x finish (sym ends ∙ leads)))

      -- a stuck piece was on a cycle before, and doesn't leave
      pub record WasStuck (x : ℕ) : Type 0 where
        pub cycle : is_on_cycle g x ≡ true
        pub stays : Leaves g finish hs x → ⊥

      old_below : (x : ℕ) → x < g.nodes → x < f.nodes
      old_below x node = omega (arith, node, h.nodes)

      pub was_stuck : (x : ℕ) → x < g.nodes → is_stuck f finish x ≡ true → WasStuck x
      was_stuck x node stuck =
          let parts = and_parts (is_on_cycle f x) (not (reaches f x finish)) stuck in
          let no_way : Reaches f x finish → ⊥ = λ (r : Reaches f x finish). stuck_no_way x (old_below x node) stuck r in
          let c : IsOnCycle told f f_sound x = cycle_of told f f_sound x (old_below x node) parts.0 in
          record {
            cycle = ⊎_elim
                (λ (left : Left x). absurd (no_way (left_reaches x left)))
                (λ (here : IsFrom x (from f c.edge)). cycle_back x c.edge node c.ends no_way here (edge_now c.edge c.exists))
                (follow x (from f c.edge) node c.returns);
            stays = λ left. no_way (left_reaches x left);
          }

      still_cycle : (x : ℕ) → IsOnCycle told g sound x → is_on_cycle f x ≡ true
      still_cycle x c =
          let below : c.edge < edge_count f = omega (arith, c.exists, h.edges) in
          let tail : from f c.edge ≡ from g c.edge = h.tails c.edge c.exists in
          let back : Reaches f x (from g c.edge) = g_kept x (from g c.edge) c.returns in
          ⊎_elim
          (λ (r : (q : ℕ) × (q < length hs) × (edge_of (get_or hs q 0) ≡ c.edge)).
          let on : Reaches f x (g.nodes + r.0) = along_last f x (from g c.edge) (g.nodes + r.0) back (record { number = c.edge; exists = below; begins = tail; ends = ap (λ e. to f e) (sym r.2) ∙ h.held r.0 r.1 }) in
          is_on_cycle_from told f f_sound x (edge_count g + (r.0 + r.0)) (omega (arith, r.1, h.edges)) (h.to_stay r.0 r.1 ∙ ap (λ e. to g e) r.2 ∙ c.ends)
          (subst (λ n. Reaches f x n) (sym (h.from_stay r.0 r.1)) on))
          (λ (none : (q : ℕ) → q < length hs → edge_of (get_or hs q 0) ≢ c.edge).
          is_on_cycle_from told f f_sound x c.edge below (h.free c.edge c.exists none ∙ c.ends) (subst (λ n. Reaches f x n) (sym tail) back))
          (cases_held c.edge (length hs))

      -- a piece on a cycle that doesn't leave is stuck
      pub still_stuck : (x : ℕ) → x < g.nodes → is_on_cycle g x ≡ true → (Leaves g finish hs x → ⊥) → is_stuck f finish x ≡ true
      still_stuck x node cycle stays =
          let none : reaches f x finish ≡ false = ⊎_elim
          (λ (way : reaches f x finish ≡ true). ⊎_elim
          (λ (left : Left x). absurd (stays left))
          (λ (here : IsFrom x finish). absurd (stays (inl (here.old end_below))))
          (follow x finish node ((told f x finish f_sound (old_below x node)).0 way)))
          (λ no. no)
          (cases_Bool (reaches f x finish)) in
          and_from (is_on_cycle f x) (not (reaches f x finish)) (still_cycle x (cycle_of told g sound x node cycle)) (not_from_false (reaches f x finish) none)
