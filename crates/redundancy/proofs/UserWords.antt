-- Words that tell which sets have a number.
use Rattle.std.proofs.Common.{◌≡◌, ◌≢◌, ℕ, ◌+◌, ◌*◌, ◌<◌, Bool, true, false, ◌==◌, ◌||◌, List, length, get_or, refl, sym, ap, ◌∙◌, subst, ⊎_elim, arith}
use Rattle.std.specs.Prelude.{◌↔◌}
use Rattle.std.proofs.lemmas.Bool.{cases_Bool, cases_eq, eq-eqb, eqb-true, ne_eqb}
use Rattle.std.proofs.lemmas.List.{get_or_default}
use Rattle.class_set.specs.declared.ClassSet.{ClassSet}
use Rattle.class_set.specs.ClassSet.{holds}
use Rattle.redundancy.specs.Available.{has_bit}
use Rattle.redundancy.specs.Killing.{AreUsers, IsOnly, Meet}
use Rattle.redundancy.specs.Numbers.{with_bit}
use Rattle.redundancy.proofs.Marking.{with_bit_tells}

or_here : (a b : Bool) → b ≡ true → (a || b) ≡ true
or_here true b is = refl
or_here false b is = is

or_there : (a b : Bool) → b ≡ false → (a || b) ≡ a
or_there true b is = refl
or_there false b is = is

module _ {W : ℕ} where
  -- ---- the sets that have a number

  module _ (sets : List (ClassSet W)) (item : ClassSet W) (i : ℕ) (old new : List ℕ) (few : i < 64) (within : i < length sets) (at : item ≡ get_or sets i item) (are : AreUsers sets i old) where
    here_is : (k : ℕ) (d : ClassSet W) → k ≡ i → get_or sets k d ≡ item
    here_is k d same = ap (λ x. get_or sets x d) same ∙ get_or_default sets i d item within ∙ sym at

    -- the bits of a number that the set has
    bit_new : (n k : ℕ) → get_or new n 0 ≡ with_bit (get_or old n 0) i → has_bit (get_or new n 0) k ≡ (has_bit (get_or old n 0) k || (k == i))
    bit_new n k is = ap (λ w. has_bit w k) is ∙ with_bit_tells (get_or old n 0) i k few

    module _ (noted : (n : ℕ) → n < 64 * W → holds item n ≡ true → get_or new n 0 ≡ with_bit (get_or old n 0) i) (kept : (n : ℕ) → holds item n ≡ false → get_or new n 0 ≡ get_or old n 0) where
      others : (n k : ℕ) → n < 64 * W → k ≢ i → has_bit (get_or new n 0) k ≡ has_bit (get_or old n 0) k
      others n k inside apart = ⊎_elim
          (λ (has : holds item n ≡ true). bit_new n k (noted n inside has) ∙ or_there (has_bit (get_or old n 0) k) (k == i) (ne_eqb k i apart))
          (λ (none : holds item n ≡ false). ap (λ w. has_bit w k) (kept n none))
          (cases_Bool (holds item n))

      own : (n k : ℕ) → n < 64 * W → k ≡ i → has_bit (get_or new n 0) k ≡ holds item n
      own n k inside same = ⊎_elim
          (λ (has : holds item n ≡ true). bit_new n k (noted n inside has) ∙ or_here (has_bit (get_or old n 0) k) (k == i) (eq-eqb k i same) ∙ sym has)
          (λ (none : holds item n ≡ false). ap (λ w. has_bit w k) (kept n none) ∙ are.blank n k inside (omega (arith, same)) ∙ sym none)
          (cases_Bool (holds item n))

      pub users_more : length new ≡ 64 * W → AreUsers sets (i + 1) new
      users_more all = record {
        all = all;
        told = λ n k d inside less. ⊎_elim
            (λ (same : k ≡ i). own n k inside same ∙ sym (ap (λ (s : ClassSet W). holds s n) (here_is k d same)))
            (λ (apart : k ≢ i). others n k inside apart ∙ are.told n k d inside (omega (arith, less, apart)))
            (cases_eq k i);
        blank = λ n k inside from. let apart : k ≢ i = omega (arith, from) in others n k inside apart ∙ are.blank n k inside (omega (arith, from));
      }

  -- a set with one member meets those that have it
  pub met_by_one : (sets : List (ClassSet W)) (users : List ℕ) (set : ClassSet W) (n word : ℕ) → AreUsers sets (length sets) users → IsOnly set n → word ≡ get_or users n 0 → (k : ℕ) (d : ClassSet W) → k < length sets → (has_bit word k ≡ true) ↔ Meet (get_or sets k d) set
  met_by_one sets users set n word are one is k d less =
      let told : has_bit word k ≡ holds (get_or sets k d) n = ap (λ w. has_bit w k) is ∙ are.told n k d one.within less in (
        λ has. (n, sym told ∙ has, one.only n ∙ eq-eqb n n refl),
        λ m. told ∙ subst (λ j. holds (get_or sets k d) j ≡ true) (eqb-true m.0 n (sym (one.only m.0) ∙ m.2)) m.1,
      )
