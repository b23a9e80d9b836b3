-- Numbers below a bound that pass a test, and which of them a number is.
use Rattle.std.proofs.Common.{◌≡◌, ℕ, zero, suc, ◌+◌, ◌<◌, Bool, true, false, cond, List, [], ◌∷◌, ◌++◌, length, filter, refl, sym, ap, ◌∙◌, subst, ⊎_elim, arith, append-nil}
use Rattle.std.specs.Prelude.{slice_index}
use Rattle.std.specs.List.{range_with_len}
use Rattle.std.proofs.lemmas.Bool.{cases_eq}
use Rattle.std.proofs.lemmas.List.{get_or_append_left, get_or_push, length_push}
use Rattle.std.proofs.lemmas.List.Elements.{filter-append}
use Rattle.list_laws.proofs.Ranges.{range_more}

module _ (p : ℕ → Bool) where
  -- those below n
  abbrev pub below : ℕ → List ℕ
  below n = filter p (range_with_len 0 n)

  below_more : (n : ℕ) → below (n + 1) ≡ below n ++ cond (p n) (n ∷ []) []
  below_more n = ap (filter p) (range_more n) ∙ filter-append p (range_with_len 0 n) (n ∷ [])

  pub below_in : (n : ℕ) → p n ≡ true → below (n + 1) ≡ below n ++ n ∷ []
  below_in n is = below_more n ∙ ap (λ (b : Bool). below n ++ cond b (n ∷ []) []) is

  pub below_out : (n : ℕ) → p n ≡ false → below (n + 1) ≡ below n
  below_out n is = below_more n ∙ ap (λ (b : Bool). below n ++ cond b (n ∷ []) []) is ∙ append-nil (below n)

  -- the one with an index among them
  pub record IsOne (n j k : ℕ) : Type 0 where
    pub is : slice_index (below n) j ≡ k
    pub within : k < n
    pub passes : p k ≡ true
    pub index : length (below k) ≡ j

  one_more : (n j : ℕ) → ((i : ℕ) → i < length (below n) → IsOne n i (slice_index (below n) i)) → j < length (below (n + 1)) → (b : Bool) → p n ≡ b → IsOne (n + 1) j (slice_index (below (n + 1)) j)
  one_more n j more less false is =
      let same = below_out n is in
      let r = more j (subst (λ (xs : List ℕ). j < length xs) same less) in
      let k = slice_index (below n) j in
      let e : slice_index (below (n + 1)) j ≡ k = ap (λ (xs : List ℕ). slice_index xs j) same in
      subst (λ (i : ℕ). IsOne (n + 1) j i) (sym e) (record { is = e; within = omega (arith, r.within); passes = r.passes; index = r.index })
  one_more n j more less true is =
      let same = below_in n is in
      let size : length (below (n + 1)) ≡ length (below n) + 1 = ap length same ∙ length_push (below n) n in
      ⊎_elim
      (λ (e : j ≡ length (below n)).
      let at : slice_index (below (n + 1)) j ≡ n = ap (λ (xs : List ℕ). slice_index xs j) same ∙ ap (slice_index (below n ++ n ∷ [])) e ∙ get_or_push (below n) n 0 (length (below n)) refl in
      subst (λ (i : ℕ). IsOne (n + 1) j i) (sym at) (record { is = at; within = omega arith; passes = is; index = sym e }))
      (λ ne.
      let lt : j < length (below n) = omega (arith, less, size, ne) in
      let r = more j lt in
      let k = slice_index (below n) j in
      let at : slice_index (below (n + 1)) j ≡ k = ap (λ (xs : List ℕ). slice_index xs j) same ∙ get_or_append_left (below n) (n ∷ []) 0 j lt in
      subst (λ (i : ℕ). IsOne (n + 1) j i) (sym at) (record { is = at; within = omega (arith, r.within); passes = r.passes; index = r.index }))
      (cases_eq j (length (below n)))

  pub one : (n j : ℕ) → j < length (below n) → IsOne n j (slice_index (below n) j)
  one zero j less = absurd (omega (arith, less))
  one (suc n) j less =
      let add : n + 1 ≡ suc n = omega arith in
      subst (λ (m : ℕ). IsOne m j (slice_index (below m) j)) add (one_more n j (one n) (subst (λ (m : ℕ). j < length (below m)) (sym add) less) (p n) refl)
