-- The steps that make the rows of edges.
use Rattle.std.proofs.Common.{◌≡◌, ◌≢◌, ℕ, zero, suc, ◌+◌, ◌<◌, ◌⊎◌, ◌↔◌, Bool, true, false, if◌then◌else◌, ◌==◌, List, [], ◌∷◌, length, take, get_or, refl, sym, ap, ◌∙◌, subst, inl, inr, ⊎_elim, arith}
use Rattle.std.proofs.lemmas.Bool.{cases_eq, cases_Bool, ne_eqb}
use Rattle.std.proofs.lemmas.List.{take_more}
use Rattle.closed_walks.specs.Graph.{Graph}
use Rattle.closed_walks.specs.Walk.{Holds}
use Rattle.region_tree.specs.Tree.{Tree, entry_of, exit_of, innermost_of, IsNumber}
use Rattle.dep_routing.specs.Facts.{TreeFacts}
use Rattle.dep_routing.specs.Quiet.{IsQuiet, IsFree}
use Rattle.dep_routing.specs.Next.{IsHop, IsLast, Next}
use Rattle.dep_routing.specs.Noise.{AreNoisy}
use Rattle.dep_routing.specs.Order.{IsOrder, is_marked}
use Rattle.dep_routing.specs.Rows.{is_noisy}
use Rattle.closed_walks.proofs.Held.{Holds-append, Holds-at, Holds-left, Holds-right}
use Rattle.dep_routing.proofs.Hopping.{region_or_none, Next-hop, Next-last}
use Rattle.dep_routing.proofs.Noises.{innermost_within}
use Rattle.dep_routing.proofs.Quietness.{not_both, quiet_innermost, innermost_quiet}

-- The first k regions of the order have their answers, and from an edge that enters none of them the line is led to no other.
pub record IsLed (g : Graph) (t : Tree) (touches : ℕ → ℕ → Bool) (line : ℕ) (order : List ℕ) (k : ℕ) (next : ℕ → ℕ) : Type 0 where
  pub rest : (e : ℕ) → ((r : ℕ) → Holds (take k order) r → entry_of t r ≡ e → ⊥) → next e ≡ e
  pub done : (r : ℕ) → Holds (take k order) r → Next g t touches line (entry_of t r) (next (entry_of t r))

Holds-taken : (k : ℕ) (xs : List ℕ) (e : ℕ) → Holds (take k xs) e → Holds xs e
Holds-taken zero xs e h = absurd h
Holds-taken (suc k) [] e h = absurd h
Holds-taken (suc k) (x ∷ xs) e (inl same) = inl same
Holds-taken (suc k) (x ∷ xs) e (inr h) = inr (Holds-taken k xs e h)

module _ (g : Graph) (t : Tree) (f : TreeFacts g t) (touches : ℕ → ℕ → Bool) (line : ℕ) (order : List ℕ) where
  module _ (o : IsOrder t order) where
    -- an edge has its answer once the region that it enters has one
    answered : (k : ℕ) (next : ℕ → ℕ) → IsLed g t touches line order k next → (e : ℕ) → ((r : ℕ) → IsNumber t r → entry_of t r ≡ e → Holds (take k order) r) → Next g t touches line e (next e)
    answered k next l e all = ⊎_elim
        (λ (some : (r : ℕ) × IsNumber t r × (entry_of t r ≡ e)). subst (λ x. Next g t touches line x (next x)) some.2 (l.done some.0 (all some.0 some.1 some.2)))
        (λ (none : (r : ℕ) → IsNumber t r → entry_of t r ≡ e → ⊥).
        let last : IsLast g t touches line e = λ x (hop : IsHop g t touches line e x). none hop.region hop.quiet.number hop.entry in
        let stays : next e ≡ e = l.rest e (λ r h is. none r (o.numbers r (Holds-taken k order r h)) is) in
        subst (λ y. Next g t touches line e y) (sym stays) (Next-last g t f touches line e last))
        (region_or_none g t f e)

    pub IsLed-end : (k : ℕ) (next : ℕ → ℕ) → take k order ≡ order → IsLed g t touches line order k next → (e : ℕ) → Next g t touches line e (next e)
    IsLed-end k next all l e = answered k next l e (λ r number is. subst (λ xs. Holds xs r) (sym all) (o.all r number))

    module _ (marks : List Bool) (n : AreNoisy g t touches line marks) (k : ℕ) (within : k < length order) (next next' : ℕ → ℕ) (l : IsLed g t touches line order k next) where
      abbrev pub region : ℕ
      region = get_or order k 0

      abbrev pub entry : ℕ
      entry = entry_of t region

      number : IsNumber t region
      number = o.numbers region (Holds-at order k within)

      held_more : (r : ℕ) → Holds (take (k + 1) order) r → Holds (take k order) r ⊎ (region ≡ r)
      held_more r h = ⊎_elim
          (λ l. inl l)
          (⊎_elim (λ same. inr same) (λ none. absurd none))
          (Holds-append (take k order) (region ∷ []) r (subst (λ xs. Holds xs r) (take_more order k 0 within) h))

      held_before : (r : ℕ) → Holds (take k order) r → Holds (take (k + 1) order) r
      held_before r h = subst (λ xs. Holds xs r) (sym (take_more order k 0 within)) (Holds-left (take k order) (region ∷ []) r h)

      held_last : Holds (take (k + 1) order) region
      held_last = subst (λ xs. Holds xs region) (sym (take_more order k 0 within)) (Holds-right (take k order) (region ∷ []) region (inl refl))

      answer : next' entry ≡ (if is_marked marks region then entry else next (exit_of t region)) → Next g t touches line entry (next' entry)
      answer here = ⊎_elim
          (λ (marked : is_marked marks region ≡ true).
          let is : next' entry ≡ entry = here ∙ rw marked refl in
          let last : IsLast g t touches line entry = λ x (hop : IsHop g t touches line entry x).
          not_both g t f touches line region (subst (λ q. IsQuiet g t touches line q) (f.one_entry hop.region region hop.quiet.number number hop.entry) hop.quiet) (n.noisy region number marked) in
          subst (λ y. Next g t touches line entry y) (sym is) (Next-last g t f touches line entry last))
          (λ (blank : is_marked marks region ≡ false).
          let is : next' entry ≡ next (exit_of t region) = here ∙ rw blank refl in
          let hop : IsHop g t touches line entry (exit_of t region) = record { region = region; quiet = n.quiet region number blank; entry = refl; exit = refl } in
          let after : Next g t touches line (exit_of t region) (next (exit_of t region)) = answered k next l (exit_of t region) (λ q other same. o.after k q within other same) in
          subst (λ y. Next g t touches line entry y) (sym is) (Next-hop g t f touches line entry (exit_of t region) (next (exit_of t region)) hop after))
          (cases_Bool (is_marked marks region))

      pub IsLed-more : next' entry ≡ (if is_marked marks region then entry else next (exit_of t region)) → ((e : ℕ) → e ≢ entry → next' e ≡ next e) → IsLed g t touches line order (k + 1) next'
      IsLed-more here other = record {
        rest = λ e none. other e (λ same. none region held_last (sym same)) ∙ l.rest e (λ r h is. none r (held_before r h) is);
        done = λ r h. ⊎_elim
            (λ (same : entry_of t r ≡ entry). subst (λ e. Next g t touches line e (next' e)) (sym same) (answer here))
            (λ (apart : entry_of t r ≢ entry). ⊎_elim
            (λ (old : Holds (take k order) r). subst (λ y. Next g t touches line (entry_of t r) y) (sym (other (entry_of t r) apart)) (l.done r old))
            (λ (same : region ≡ r). absurd (apart (ap (entry_of t) (sym same))))
            (held_more r h))
            (cases_eq (entry_of t r) entry);
      }

-- ---- wires

module _ (g : Graph) (t : Tree) (f : TreeFacts g t) (touches : ℕ → ℕ → Bool) (line : ℕ) (marks : List Bool) (n : AreNoisy g t touches line marks) (node : ℕ) (exists : node < g.nodes) where
  noisy_free : is_noisy marks (innermost_of t node) ≡ true → IsFree g t touches line node
  noisy_free h i =
      let quiet : IsQuiet g t touches line (innermost_of t node) = quiet_innermost g t f touches line node exists i in
      let some = quiet.number.0 in
      let apart : (innermost_of t node == 0) ≡ false = ne_eqb (innermost_of t node) 0 (λ none. omega (arith, none, some)) in
      not_both g t f touches line (innermost_of t node) quiet (n.noisy (innermost_of t node) quiet.number (rw apart at h))

  free_noisy : IsFree g t touches line node → is_noisy marks (innermost_of t node) ≡ true
  free_noisy free = ⊎_elim
      (λ (none : innermost_of t node ≡ 0). rw none refl)
      (λ (some : innermost_of t node ≢ 0). ⊎_elim
      (λ (marked : is_marked marks (innermost_of t node) ≡ true). rw (ne_eqb (innermost_of t node) 0 some) marked)
      (λ (blank : is_marked marks (innermost_of t node) ≡ false).
      let number : IsNumber t (innermost_of t node) = (omega (arith, some), innermost_within g t f node exists) in
      absurd (free (innermost_quiet g t f touches line node exists (n.quiet (innermost_of t node) number blank))))
      (cases_Bool (is_marked marks (innermost_of t node))))
      (cases_eq (innermost_of t node) 0)

  pub free_told : (is_noisy marks (innermost_of t node) ≡ true) ↔ IsFree g t touches line node
  free_told = (noisy_free, free_noisy)
