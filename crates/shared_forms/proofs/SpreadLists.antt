-- Lists that are put together from parts, one for each number below a bound, where each part is some elements and then one of its own.
use Rattle.std.proofs.Common.{◌≡◌, ℕ, zero, suc, ◌+◌, ◌-◌, ◌<◌, ◌≤◌, Bool, true, false, List, [], ◌∷◌, ◌++◌, length, map, filter, Some, None, refl, sym, ap, subst, ◌∙◌, ⊎_elim, arith, append-nil}
use Rattle.std.specs.Prelude.{flat_map, slice_get, if◌then◌else◌}
use Rattle.std.specs.List.{range_with_len}
use Rattle.std.proofs.lemmas.Bool.{cases_lt}
use Rattle.std.proofs.lemmas.Grind.{flat_map-append}
use Rattle.std.proofs.lemmas.List.{length-append, map-append}
use Rattle.list_laws.proofs.Ranges.{range_more}
use Rattle.shared_forms.proofs.LongerTableLemmas.{numbers-more}
use Rattle.shared_forms.proofs.TemporaryTable.{slice_get-kept, slice_get-left, slice_get-right}

-- an element
pub item_at : {X : Type 0} (xs : List X) (k : ℕ) → k < length xs → (x : X) × (slice_get xs k ≡ Some x)
item_at [] k less = absurd (omega (arith, less))
item_at (x ∷ xs) zero less = (x, refl)
item_at (x ∷ xs) (suc k) less = item_at xs k (omega (arith, less))

-- ---- a part for each number

module _ {X : Type 0} (part : ℕ → List X) where
  abbrev pub joined : (n : ℕ) → List X
  joined n = flat_map part (range_with_len 0 n)

  -- where a part begins
  abbrev pub begins : (n : ℕ) → ℕ
  begins n = length (joined n)

  pub joined-more : (n : ℕ) → joined (n + 1) ≡ joined n ++ part n
  joined-more n = ap (flat_map part) (range_more n) ∙ flat_map-append part (range_with_len 0 n) (n ∷ []) ∙ ap (λ (xs : List X). joined n ++ xs) (append-nil (part n))

  pub begins-more : (n : ℕ) → begins (n + 1) ≡ begins n + length (part n)
  begins-more n = ap length (joined-more n) ∙ length-append (joined n) (part n)

  begins-up : (n d : ℕ) → begins n ≤ begins (n + d)
  begins-up n zero = let same : n + 0 ≡ n = omega arith in let e = ap begins same in omega (arith, e)
  begins-up n (suc d) =
      let same : n + d + 1 ≡ n + suc d = omega arith in
      let e = ap begins same in
      let more = begins-more (n + d) in
      let rest = begins-up n d in
      omega (arith, e, more, rest)

  -- a part ends where a later one begins, or before
  pub begins-rises : (j k : ℕ) → j < k → begins j + length (part j) ≤ begins k
  begins-rises j k less =
      let same : j + 1 + (k - (j + 1)) ≡ k = omega (arith, less) in
      let e = ap begins same in
      let up = begins-up (j + 1) (k - (j + 1)) in
      let more = begins-more j in
      omega (arith, e, up, more)

  -- ---- what stands in a part stands in the whole

  there-up : (n d place : ℕ) (x : X) → slice_get (joined n) place ≡ Some x → slice_get (joined (n + d)) place ≡ Some x
  there-up n zero place x is = let same : n ≡ n + 0 = omega arith in subst (λ m. slice_get (joined m) place ≡ Some x) same is
  there-up n (suc d) place x is =
      let same : n + d + 1 ≡ n + suc d = omega arith in
      subst (λ m. slice_get (joined m) place ≡ Some x) same
      (ap (λ (xs : List X). slice_get xs place) (joined-more (n + d)) ∙ slice_get-kept (joined (n + d)) (part (n + d)) place x (there-up n d place x is))

  pub part-there : (n k i : ℕ) (x : X) → k < n → slice_get (part k) i ≡ Some x → slice_get (joined n) (begins k + i) ≡ Some x
  part-there n k i x less is =
      let same : k + 1 + (n - (k + 1)) ≡ n = omega (arith, less) in
      let here : slice_get (joined (k + 1)) (begins k + i) ≡ Some x = ap (λ (xs : List X). slice_get xs (begins k + i)) (joined-more k) ∙ slice_get-right (joined k) (part k) i ∙ is in
      subst (λ m. slice_get (joined m) (begins k + i) ≡ Some x) same (there-up (k + 1) (n - (k + 1)) (begins k + i) x here)

  -- the part in which an element stands
  pub record IsInPart (n place : ℕ) (x : X) : Type 0 where
    pub number : ℕ
    pub below : number < n
    pub index : ℕ
    pub is : slice_get (part number) index ≡ Some x
    pub stands : place ≡ begins number + index

  part-by : (n place : ℕ) (x : X) → (slice_get (joined n) place ≡ Some x → IsInPart n place x) → slice_get (joined n ++ part n) place ≡ Some x → IsInPart (n + 1) place x
  part-by n place x earlier is = ⊎_elim
      (λ (less : place < begins n).
      let r = earlier (sym (slice_get-left (joined n) (part n) place less) ∙ is) in
      record { number = r.number; below = omega (arith, r.below); index = r.index; is = r.is; stands = r.stands })
      (λ (past : begins n ≤ place).
      let same : begins n + (place - begins n) ≡ place = omega (arith, past) in
      record { number = n; below = omega arith; index = place - begins n; is = sym (slice_get-right (joined n) (part n) (place - begins n)) ∙ ap (slice_get (joined n ++ part n)) same ∙ is; stands = sym same })
      (cases_lt place (begins n))

  pub part-of : (n place : ℕ) (x : X) → slice_get (joined n) place ≡ Some x → IsInPart n place x
  part-of zero place x is = let e : None ≡ Some x = is in absurd cc
  part-of (suc n) place x is =
      let same : n + 1 ≡ suc n = omega arith in
      subst (λ (m : ℕ). IsInPart m place x) same (part-by n place x (part-of n place x) (ap (λ (xs : List X). slice_get xs place) (sym (joined-more n)) ∙ ap (λ (m : ℕ). slice_get (joined m) place) same ∙ is))

-- ---- numbers that pass a test

-- numbers that don't pass can be left out at the end
pub none-more : (p : ℕ → Bool) (n d : ℕ) → ((i : ℕ) → i < d → p (n + i) ≡ false) → filter p (range_with_len 0 (n + d)) ≡ filter p (range_with_len 0 n)
none-more p n zero none = let same : n + 0 ≡ n = omega arith in ap (λ m. filter p (range_with_len 0 m)) same
none-more p n (suc d) none =
    let same : n + suc d ≡ n + d + 1 = omega arith in
    let old = filter p (range_with_len 0 (n + d)) in
    ap (λ m. filter p (range_with_len 0 m)) same
    ∙ sym (numbers-more p (n + d) false old old (sym (none d (omega arith))) refl (sym (append-nil old)))
    ∙ none-more p n d (λ i less. none i (omega (arith, less)))

one-more : (p : ℕ → Bool) (n : ℕ) → filter p (range_with_len 0 (n + 1)) ≡ filter p (range_with_len 0 n) ++ (if p n then (n ∷ []) else [])
one-more p n = let old = filter p (range_with_len 0 n) in sym (numbers-more p n (p n) old (old ++ (if p n then (n ∷ []) else [])) refl refl refl)

one-mapped : (f : ℕ → ℕ) (n : ℕ) (b : Bool) → map f (if b then (n ∷ []) else []) ≡ (if b then (f n ∷ []) else [])
one-mapped f n true = refl
one-mapped f n false = refl

-- Numbers up to a bound that pass a test are the images of those that pass another one, where between the images none passes.
module _ (p r : ℕ → Bool) (starts at : ℕ → ℕ) (bound : ℕ) (first : starts 0 ≡ 0) (next : (k : ℕ) → k < bound → starts (k + 1) ≡ at k + 1) (later : (k : ℕ) → k < bound → starts k ≤ at k) (between : (k i : ℕ) → k < bound → i < at k - starts k → p (starts k + i) ≡ false) (same : (k : ℕ) → k < bound → p (at k) ≡ r k) where
  pub images : (n : ℕ) → n ≤ bound → filter p (range_with_len 0 (starts n)) ≡ map at (filter r (range_with_len 0 n))
  images zero most = ap (λ m. filter p (range_with_len 0 m)) first
  images (suc n) most =
      let less : n < bound = omega (arith, most) in
      let e : suc n ≡ n + 1 = omega arith in
      let low = later n less in
      let reach : at n ≡ starts n + (at n - starts n) = omega (arith, low) in
      let rest = images n (omega (arith, most)) in
      ap (λ m. filter p (range_with_len 0 (starts m))) e
      ∙ ap (λ m. filter p (range_with_len 0 m)) (next n less)
      ∙ one-more p (at n)
      ∙ ap (λ b. filter p (range_with_len 0 (at n)) ++ (if b then (at n ∷ []) else [])) (same n less)
      ∙ ap (λ m. filter p (range_with_len 0 m) ++ (if r n then (at n ∷ []) else [])) reach
      ∙ ap (λ (xs : List ℕ). xs ++ (if r n then (at n ∷ []) else [])) (none-more p (starts n) (at n - starts n) (λ i within. between n i less within) ∙ rest)
      ∙ ap (λ (xs : List ℕ). map at (filter r (range_with_len 0 n)) ++ xs) (sym (one-mapped at n (r n)))
      ∙ sym (map-append at (filter r (range_with_len 0 n)) (if r n then (n ∷ []) else []))
      ∙ ap (map at) (sym (one-more r n))
      ∙ ap (λ m. map at (filter r (range_with_len 0 m))) (sym e)
