-- Swings keep the laws of firing.
use Rattle.std.proofs.Common.{◌≡◌, ◌≢◌, ◌+◌, ◌-◌, ◌*◌, ◌/◌, ◌%◌, ◌<◌, ◌&&◌, ℕ, Bool, true, false, not, nat_le, nat_eq, if◌then◌else◌, List, [], ◌∷◌, get_or, refl, sym, ap, subst, ◌∙◌, ⊎_elim, arith, length-set}
use Rattle.std.proofs.lemmas.Bool.{eqb-true, eq-eqb, cases_Bool, cases_eq}
use Rattle.std.proofs.lemmas.List.{set_comm, get_or-set_other}
use Rattle.firing.specs.Laws.{IsLawful}
use Rattle.firing.specs.Marks.{Wakes}
use Rattle.bench_firing.specs.Swinging.{Pairs, has_token, is_ready, after_node, other_node, swing_moves, has_pairs}
use Rattle.std.proofs.lemmas.Bool.{and_parts}

-- the two nodes of a pair don't both have the token
not_both : (even a b : Bool) → a ≢ b → (if a then even else not even) ≡ true → (if b then even else not even) ≡ true → ⊥
not_both even true true differ first second = differ refl
not_both true true false differ first second = absurd cc
not_both false true false differ first second = absurd cc
not_both true false true differ first second = absurd cc
not_both false false true differ first second = absurd cc
not_both even false false differ first second = differ refl

same_parity : (j k : ℕ) → nat_eq (j % 2) 0 ≡ nat_eq (k % 2) 0 → j % 2 ≡ k % 2
same_parity j k is = ⊎_elim
    (λ (zero_j : j % 2 ≡ 0). let e : k % 2 ≡ 0 = eqb-true (k % 2) 0 (sym is ∙ eq-eqb (j % 2) 0 zero_j) in zero_j ∙ sym e)
    (λ other_j. ⊎_elim
    (λ (zero_k : k % 2 ≡ 0). absurd (other_j (eqb-true (j % 2) 0 (is ∙ eq-eqb (k % 2) 0 zero_k))))
    (λ other_k. omega (arith, other_j, other_k))
    (cases_eq (k % 2) 0))
    (cases_eq (j % 2) 0)

module _ (pairs : Pairs) where
  apart : (m : List Bool) (j k : ℕ) → j ≢ k → is_ready pairs m j ≡ true → is_ready pairs m k ≡ true → j / 2 ≢ k / 2
  apart m j k differ first second same =
      let token_j = (and_parts (nat_le pairs.first (j / 2)) (has_token (get_or m (j / 2) false) j) first).1 in
      let token_k = (and_parts (nat_le pairs.first (k / 2)) (has_token (get_or m (k / 2) false) k) second).1 in
      let here : has_token (get_or m (k / 2) false) j ≡ true = ap (λ h. has_token (get_or m h false) j) (sym same) ∙ token_j in
      not_both (get_or m (k / 2) false) (nat_eq (j % 2) 0) (nat_eq (k % 2) 0) (λ e. let p = same_parity j k e in differ (omega (arith, same, p))) here token_k

  -- a node of another pair
  as_before : (m : List Bool) (j k : ℕ) → k / 2 ≢ j / 2 → is_ready pairs (after_node m j) k ≡ is_ready pairs m k
  as_before m j k other = ap (λ even. nat_le pairs.first (k / 2) && has_token even k) (get_or-set_other m (j / 2) (k / 2) (nat_eq (j % 2) 1) false other)

  pub swing_laws : IsLawful (has_pairs pairs) (swing_moves pairs)
  swing_laws = record {
    either_order = λ m j k both. set_comm m (j / 2) (k / 2) (nat_eq (j % 2) 1) (nat_eq (k % 2) 1) (apart m j k both.differ both.first.ready both.second.ready);
    stays_ready = λ m j k both. as_before m j k (λ e. apart m j k both.differ both.first.ready both.second.ready (sym e)) ∙ both.second.ready;
    one_serial = λ m j k both serial. absurd cc;
    same_line = λ m j k both none. refl;
    same_trap = λ m j k both none. refl;
    silent = λ m k small can is. record { line = refl; trap = refl };
    stays_sound = λ m k small can. length-set m (k / 2) (nat_eq (k % 2) 1) ∙ small;
  }

  -- only the other node of the pair becomes ready
  other_of : (j k : ℕ) → j ≢ k → j / 2 ≡ k / 2 → other_node k ≡ j
  other_of j k differ same = ⊎_elim
      (λ (even : k % 2 ≡ 0). let e : k + 1 ≡ j = omega (arith, differ, same, even) in ap (λ b. if b then k + 1 else k - 1) (eq-eqb (k % 2) 0 even) ∙ e)
      (λ odd. let e : k - 1 ≡ j = omega (arith, differ, same, odd) in ap (λ b. if b then k + 1 else k - 1) (⊎_elim (λ is. absurd (odd (eqb-true (k % 2) 0 is))) (λ is. is) (cases_Bool (nat_eq (k % 2) 0))) ∙ e)
      (cases_eq (k % 2) 0)

  pub wakes_other : (m : List Bool) (k : ℕ) → k < 2 * pairs.count → Wakes (swing_moves pairs) m k (other_node k ∷ [])
  wakes_other m k node = record {
    are_nodes = λ i d lt. let e : 0 ≡ i = omega (arith, lt) in subst (λ n. get_or (other_node k ∷ []) n d < 2 * pairs.count) e inside;
    all = λ none j inside_j differ before later. ⊎_elim
        (λ (same : j / 2 ≡ k / 2). (0, omega arith, other_of j k differ same))
        (λ other. let e = as_before m k j other in absurd cc)
        (cases_eq (j / 2) (k / 2));
  }
    where
      inside : other_node k < 2 * pairs.count
      inside = ⊎_elim
          (λ (even : k % 2 ≡ 0). subst (λ n. n < 2 * pairs.count) (sym (ap (λ b. if b then k + 1 else k - 1) (eq-eqb (k % 2) 0 even))) (omega (arith, node, even)))
          (λ odd. subst (λ n. n < 2 * pairs.count) (sym (ap (λ b. if b then k + 1 else k - 1) (⊎_elim (λ is. absurd (odd (eqb-true (k % 2) 0 is))) (λ is. is) (cases_Bool (nat_eq (k % 2) 0))))) (omega (arith, node)))
          (cases_eq (k % 2) 0)
