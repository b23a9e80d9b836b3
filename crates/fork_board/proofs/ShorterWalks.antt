-- Where a line is led, the start is nearer: from behind a region walks back to the start are shorter than from before it.
use Rattle.std.proofs.Common.{◌≡◌, ◌≤◌, ◌⊎◌, inl, inr, ⊎_elim, ℕ, zero, suc, Bool, true, false, List, [], ◌∷◌, length, sym, ◌∙◌, subst, arith}
use Rattle.std.proofs.lemmas.Bool.{cases_Bool}
use Rattle.closed_walks.specs.Graph.{Graph, from, to}
use Rattle.closed_walks.specs.Region.{IsEntered}
use Rattle.closed_walks.specs.Walk.{Walk}
use Rattle.region_tree.specs.Laws.{HasBorders}
use Rattle.region_tree.specs.Tree.{Tree, IsIn, IsNumber, entry_of, exit_of}
use Rattle.dep_routing.specs.Next.{Hops, IsHop, Next}
use Rattle.net_board.proofs.ListPlaces.{same_or_not}

module _ (g : Graph) where
  -- a walk back to the start, of so many edges at most
  pub record IsBack (node most : ℕ) : Type 0 where
    pub walk : List ℕ
    pub leads : Walk g node walk 0
    pub few : length walk ≤ most

  both_ways : {P : Type 0} (b : Bool) → b ≡ true → b ≡ false → P
  both_ways b yes' no' = let e : true ≡ false = sym yes' ∙ no' in absurd cc

  -- a walk that leaves a region takes its exit
  through : (inside : ℕ → Bool) (a b : ℕ) → IsEntered g inside a b → inside 0 ≡ false → (node : ℕ) (walk : List ℕ) → Walk g node walk 0 → inside node ≡ true → IsBack (to g b) (length walk)
  through inside a b borders start node [] leads first = both_ways (inside 0) (subst (λ k. inside k ≡ true) leads first) start
  through inside a b borders start node (e ∷ walk) leads first = by (cases_Bool (inside (to g e)))
      (λ in_there. let r : IsBack (to g b) (length walk) = through inside a b borders start (to g e) walk leads.2 in_there in let few = r.few in record { walk = r.walk; leads = r.leads; few = omega (arith, few) })
    where
      here : inside (from g e) ≡ true
      here = subst (λ k. inside k ≡ true) (sym leads.1) first

      not_entry : inside (to g e) ≡ false → (e ≡ b → ⊥) → e ≡ a → IsBack (to g b) (suc (length walk))
      not_entry out not_exit is = both_ways (inside (from g e)) here (subst (λ k. inside (from g k) ≡ false) (sym is) borders.tail)

      crosses : inside (to g e) ≡ false → (e ≡ b → ⊥) → (e ≡ a → ⊥) → IsBack (to g b) (suc (length walk))
      crosses out not_exit not_entry = both_ways (inside (to g e)) (sym (borders.others e leads.0 not_entry not_exit) ∙ here) out

      by : (inside (to g e) ≡ true) ⊎ (inside (to g e) ≡ false) → (inside (to g e) ≡ true → IsBack (to g b) (suc (length walk))) → IsBack (to g b) (suc (length walk))
      by (inl in_there) rest = rest in_there
      by (inr out) rest = ⊎_elim
          (λ (is : e ≡ b). record { walk = walk; leads = subst (λ k. Walk g (to g k) walk 0) is leads.2; few = omega arith })
          (λ not_exit. ⊎_elim (λ is. not_entry out not_exit is) (λ not_entry. crosses out not_exit not_entry) (same_or_not e a))
          (same_or_not e b)

  module _ (t : Tree) (touches : ℕ → ℕ → Bool) (line : ℕ) (borders : (r : ℕ) → IsNumber t r → HasBorders g t r) (start : (r : ℕ) → IsNumber t r → IsIn g t r 0 → ⊥) where
    over : (e f : ℕ) → IsHop g t touches line e f → (walk : List ℕ) → Walk g (to g e) walk 0 → IsBack (to g f) (length walk)
    over e f hop walk leads =
        let b = borders hop.region hop.quiet.number in
        let outside : b.0 0 ≡ false = ⊎_elim (λ (is : b.0 0 ≡ true). absurd (start hop.region hop.quiet.number ((b.1 0).0 is))) (λ not. not) (cases_Bool (b.0 0)) in
        subst (λ k. IsBack (to g k) (length walk)) hop.exit
        (through b.0 (entry_of t hop.region) (exit_of t hop.region) b.2 outside (to g (entry_of t hop.region)) walk (subst (λ k. Walk g (to g k) walk 0) (sym hop.entry) leads) b.2.head)

    over_all : (count e f : ℕ) → Hops g t touches line count e f → (walk : List ℕ) → Walk g (to g e) walk 0 → IsBack (to g f) (length walk)
    over_all zero e f hops walk leads = record { walk = walk; leads = subst (λ k. Walk g (to g k) walk 0) hops leads; few = omega arith }
    over_all (suc count) e f hops walk leads =
        let r : IsBack (to g hops.0) (length walk) = over e hops.0 hops.1 walk leads in
        let rest : IsBack (to g f) (length r.walk) = over_all count hops.0 f hops.2 r.walk r.leads in
        let few = r.few in
        let fewer = rest.few in
        record { walk = rest.walk; leads = rest.leads; few = omega (arith, few, fewer) }

    pub led_back : (e f : ℕ) → Next g t touches line e f → (walk : List ℕ) → Walk g (to g e) walk 0 → IsBack (to g f) (length walk)
    led_back e f next walk leads = over_all next.count e f next.hops walk leads

  -- ---- nearer and nearer

  -- from the second node the start is nearer
  abbrev pub IsNearer : (u v : ℕ) → Type 0
  IsNearer u v = (walk : List ℕ) → Walk g u walk 0 → (n : ℕ) × (suc n ≤ length walk) × IsBack v n

  pub nearer_still : (u v w : ℕ) → IsNearer u v → IsNearer v w → IsNearer u w
  nearer_still u v w first second walk leads =
      let r = first walk leads in
      let low = r.1 in
      let few = r.2.few in
      let s = second r.2.walk r.2.leads in
      let lower = s.1 in
      (s.0, omega (arith, low, few, lower), s.2)

  descends : (n u : ℕ) → IsNearer u u → (walk : List ℕ) → Walk g u walk 0 → length walk ≤ n → ⊥
  descends zero u nearer walk leads few = let r = nearer walk leads in let low = r.1 in absurd (omega (arith, low, few))
  descends (suc n) u nearer walk leads few =
      let r = nearer walk leads in
      let low = r.1 in
      let short = r.2.few in
      descends n u nearer r.2.walk r.2.leads (omega (arith, low, short, few))

  pub never_nearer : (u : ℕ) (walk : List ℕ) → Walk g u walk 0 → IsNearer u u → ⊥
  never_nearer u walk leads nearer = descends (length walk) u nearer walk leads (omega arith)
