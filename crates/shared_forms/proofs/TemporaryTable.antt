-- Where the table with temporaries has the temporary of a shared candidate.
use Rattle.std.proofs.Common.{◌≡◌, ℕ, zero, suc, ◌+◌, ◌-◌, ◌<◌, ◌≤◌, Bool, true, List, [], ◌∷◌, ◌++◌, length, filter, Option, Some, refl, sym, ap, subst, ◌∙◌, arith}
use Rattle.std.specs.Prelude.{flat_map, slice_get, if◌then◌else◌}
use Rattle.std.specs.List.{count_by, range_with_len}
use Rattle.std.proofs.lemmas.List.{length-append}
use Rattle.std.proofs.lemmas.List.Sums.{length-filter}
use Rattle.std.proofs.lemmas.Option.{slice_get_within, slice_get-get_or}
use Rattle.f77_tree.specs.declared.programs.NameInfo.{NameInfo}
use Rattle.f77_tree.specs.declared.programs.Program.{Program}
use Rattle.f77_tree.specs.Line.{kind_of_expression}
use Rattle.f77_tree.specs.Value.{kind_in, kind_of, dims_in, dims_of}
use Rattle.redundancy.specs.Available.{Availability}
use Rattle.shared_forms.specs.Numbered.{number_of, IsSharedNumber}
use Rattle.shared_forms.specs.Shared.{candidate, is_shared, shared, temporaries, temporary, temporary_at, temporary_info}
use Rattle.shared_forms.proofs.LongerTableLemmas.{infos-more, numbers-more}

module _ {X : Type 0} where
  pub slice_get-left : (xs ys : List X) (k : ℕ) → k < length xs → slice_get (xs ++ ys) k ≡ slice_get xs k
  slice_get-left [] ys k less = absurd (omega (arith, less))
  slice_get-left (x ∷ xs) ys zero less = refl
  slice_get-left (x ∷ xs) ys (suc k) less = slice_get-left xs ys k (omega (arith, less))

  pub slice_get-right : (xs ys : List X) (j : ℕ) → slice_get (xs ++ ys) (length xs + j) ≡ slice_get ys j
  slice_get-right [] ys j = let e : 0 + j ≡ j = omega arith in ap (slice_get ys) e
  slice_get-right (x ∷ xs) ys j = let e : suc (length xs) + j ≡ suc (length xs + j) = omega arith in ap (slice_get (x ∷ (xs ++ ys))) e ∙ slice_get-right xs ys j

  -- what stands at the end of a front stands there in the whole
  pub slice_get-kept : (xs ys : List X) (k : ℕ) (x : X) → slice_get xs k ≡ Some x → slice_get (xs ++ ys) k ≡ Some x
  slice_get-kept xs ys k x is = slice_get-left xs ys k (slice_get_within xs k x is) ∙ is

  pub slice_get-last : (xs : List X) (k : ℕ) (x : X) → length xs ≡ k → slice_get (xs ++ x ∷ []) k ≡ Some x
  slice_get-last xs k x size = let e : k ≡ length xs + 0 = omega (arith, size) in ap (slice_get (xs ++ x ∷ [])) e ∙ slice_get-right xs (x ∷ []) 0

-- ---- the place of a number among those that pass a test

module _ (p : ℕ → Bool) where
  more-kept : (m k x : ℕ) → slice_get (filter p (range_with_len 0 m)) k ≡ Some x → slice_get (filter p (range_with_len 0 (m + 1))) k ≡ Some x
  more-kept m k x is =
      let e : filter p (range_with_len 0 (m + 1)) ≡ filter p (range_with_len 0 m) ++ (if p m then (m ∷ []) else []) = sym (numbers-more p m (p m) (filter p (range_with_len 0 m)) (filter p (range_with_len 0 m) ++ (if p m then (m ∷ []) else [])) refl refl refl) in
      ap (λ (xs : List ℕ). slice_get xs k) e ∙ slice_get-kept (filter p (range_with_len 0 m)) (if p m then (m ∷ []) else []) k x is

  up-kept : (i m k x : ℕ) → slice_get (filter p (range_with_len 0 m)) k ≡ Some x → slice_get (filter p (range_with_len 0 (m + i))) k ≡ Some x
  up-kept zero m k x is = let e : m ≡ m + 0 = omega arith in subst (λ n. slice_get (filter p (range_with_len 0 n)) k ≡ Some x) e is
  up-kept (suc i) m k x is = let e : m + i + 1 ≡ m + suc i = omega arith in subst (λ n. slice_get (filter p (range_with_len 0 n)) k ≡ Some x) e (more-kept (m + i) k x (up-kept i m k x is))

  here : (n : ℕ) → p n ≡ true → slice_get (filter p (range_with_len 0 (n + 1))) (count_by p (range_with_len 0 n)) ≡ Some n
  here n passes =
      let old = filter p (range_with_len 0 n) in
      let e : filter p (range_with_len 0 (n + 1)) ≡ old ++ n ∷ [] = sym (numbers-more p n true old (old ++ n ∷ []) (sym passes) refl refl) in
      ap (λ (xs : List ℕ). slice_get xs (count_by p (range_with_len 0 n))) e ∙ slice_get-last old (count_by p (range_with_len 0 n)) n (length-filter p (range_with_len 0 n))

  pub place-passed : (n m : ℕ) → n < m → p n ≡ true → slice_get (filter p (range_with_len 0 m)) (count_by p (range_with_len 0 n)) ≡ Some n
  place-passed n m less passes =
      let e : n + 1 + (m - (n + 1)) ≡ m = omega (arith, less) in
      subst (λ x. slice_get (filter p (range_with_len 0 x)) (count_by p (range_with_len 0 n)) ≡ Some n) e (up-kept (m - (n + 1)) (n + 1) (count_by p (range_with_len 0 n)) n (here n passes))

-- ---- temporaries

module _ (q : Program) (a : Availability) where
  abbrev info_at : (j : ℕ) → List NameInfo
  info_at j = temporary_at q a (number_of a) j (slice_get (shared q a (number_of a)) j)

  abbrev infos_to : (m : ℕ) → List NameInfo
  infos_to m = flat_map info_at (range_with_len 0 m)

  one-info : (j : ℕ) → j < length (shared q a (number_of a)) → length (info_at j) ≡ 1
  one-info j less = ap (λ (o : Option ℕ). length (temporary_at q a (number_of a) j o)) (slice_get-get_or (shared q a (number_of a)) j 0 less)

  infos-length : (m : ℕ) → m ≤ length (shared q a (number_of a)) → length (infos_to m) ≡ m
  infos-length zero few = refl
  infos-length (suc m) few =
      let e : m + 1 ≡ suc m = omega arith in
      let more = ap length (infos-more info_at m) ∙ length-append (infos_to m) (info_at m) in
      let one = one-info m (omega (arith, few)) in
      let rest = infos-length m (omega (arith, few)) in
      subst (λ x. length (infos_to x) ≡ x) e (omega (arith, more, one, rest))

  infos-kept : (i m k : ℕ) (info : NameInfo) → slice_get (infos_to m) k ≡ Some info → slice_get (infos_to (m + i)) k ≡ Some info
  infos-kept zero m k info is = let e : m ≡ m + 0 = omega arith in subst (λ n. slice_get (infos_to n) k ≡ Some info) e is
  infos-kept (suc i) m k info is =
      let e : m + i + 1 ≡ m + suc i = omega arith in
      subst (λ n. slice_get (infos_to n) k ≡ Some info) e
      (ap (λ (xs : List NameInfo). slice_get xs k) (infos-more info_at (m + i)) ∙ slice_get-kept (infos_to (m + i)) (info_at (m + i)) k info (infos-kept i m k info is))

  pub temporaries-length : length (temporaries q a (number_of a)) ≡ length (shared q a (number_of a))
  temporaries-length = infos-length (length (shared q a (number_of a))) (omega arith)

  pub info-there : (j n : ℕ) → slice_get (shared q a (number_of a)) j ≡ Some n → slice_get (temporaries q a (number_of a)) j ≡ Some (temporary_info q a (number_of a) j n)
  info-there j n at =
      let m = length (shared q a (number_of a)) in
      let less = slice_get_within (shared q a (number_of a)) j n at in
      let e : j + 1 + (m - (j + 1)) ≡ m = omega (arith, less) in
      let one : infos_to (j + 1) ≡ infos_to j ++ temporary_info q a (number_of a) j n ∷ [] = infos-more info_at j ∙ ap (λ (o : Option ℕ). infos_to j ++ temporary_at q a (number_of a) j o) at in
      let last = ap (λ (xs : List NameInfo). slice_get xs j) one ∙ slice_get-last (infos_to j) j (temporary_info q a (number_of a) j n) (infos-length j (omega (arith, less))) in
      subst (λ x. slice_get (infos_to x) j ≡ Some (temporary_info q a (number_of a) j n)) e (infos-kept (m - (j + 1)) (j + 1) j (temporary_info q a (number_of a) j n) last)

  -- the entry of the temporary of a shared candidate
  pub entry_of : (n : ℕ) → IsSharedNumber q a n → slice_get (q.names ++ temporaries q a (number_of a)) (temporary q a (number_of a) n) ≡ Some (temporary_info q a (number_of a) (count_by (is_shared q a (number_of a)) (range_with_len 0 n)) n)
  entry_of n is =
      let j = count_by (is_shared q a (number_of a)) (range_with_len 0 n) in
      slice_get-right q.names (temporaries q a (number_of a)) j ∙ info-there j n (place-passed (is_shared q a (number_of a)) n (length a.candidates) is.within is.shared)

  pub temporary-known : (n : ℕ) → IsSharedNumber q a n → temporary q a (number_of a) n < length (q.names ++ temporaries q a (number_of a))
  temporary-known n is = slice_get_within (q.names ++ temporaries q a (number_of a)) (temporary q a (number_of a) n) _ (entry_of n is)

  pub temporary-kind : (n : ℕ) → IsSharedNumber q a n → kind_of (q.names ++ temporaries q a (number_of a)) (temporary q a (number_of a) n) ≡ kind_of_expression q.names (candidate q a (number_of a) n)
  temporary-kind n is = ap kind_in (entry_of n is)

  pub temporary-dims : (n : ℕ) → IsSharedNumber q a n → dims_of (q.names ++ temporaries q a (number_of a)) (temporary q a (number_of a) n) ≡ []
  temporary-dims n is = ap dims_in (entry_of n is)
