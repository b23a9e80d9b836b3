-- Where the names of a text have at most six characters, and no number of more than five digits is taken, each entity gets a name.
use Rattle.std.proofs.Common.{◌≡◌, ℕ, zero, suc, ◌+◌, ◌-◌, ◌/◌, ◌%◌, ◌<◌, ◌≤◌, ◌^◌, Bool, true, false, not, ◌||◌, ◌==◌, cond, List, [], ◌∷◌, ◌++◌, length, filter, get_or, take, Some, None, if◌then◌else◌, ⊎_elim, refl, ap, subst, ◌∙◌, arith}
use Rattle.std.specs.Prelude.{bytes_eq, codes, nat_le, nat_lt}
use Rattle.std.specs.Fmt.{decimal, digits, digits_onto, digit_glyph}
use Rattle.std.specs.List.{list_all, list_any, position_or_len, slice_get, range_with_len}
use Rattle.std.proofs.lemmas.Bool.{and_parts, cases_lt, eqb-true}
use Rattle.std.proofs.lemmas.Bool.Decides.{nat_tests}
use Rattle.std.proofs.lemmas.List.{length-append}
use Rattle.std.proofs.lemmas.List.Elements.{filter-append}
use Rattle.std.proofs.lemmas.Option.{slice_get-get_or}
use Rattle.std.proofs.lemmas.Slice.Eq.{bytes_eq-Decides}
use Rattle.f77_tree.specs.declared.statements.Labelled.{Labelled}
use Rattle.program_units.specs.declared.entity.Entity.{Entity}
use Rattle.program_units.specs.Names.{free_numbers, name_for, same_entity, used_names, y_entities, y_or, y_text, zeros}
use Rattle.program_units.specs.Refusals.{has_great_name}
use Rattle.unit_laws.proofs.FreeNumbers.{enough, is_free}
use Rattle.unit_laws.proofs.OwnNames.{HasNumber, apart-by, enough-for, free-by, own-name, texts-apart}
use Rattle.program_units.proofs.Counting.{first-inside}

-- ---- great numbers have many digits

grows : (k n : ℕ) (acc : List ℕ) → length acc ≤ length (digits_onto k 10 false n acc)
grows zero n acc = omega arith
grows (suc k) n acc = by (n / 10 == 0) (grows k (n / 10) (digit_glyph false (n % 10) ∷ acc))
  where
    by : (b : Bool) → suc (length acc) ≤ length (digits_onto k 10 false (n / 10) (digit_glyph false (n % 10) ∷ acc)) → length acc ≤ length (if b then digit_glyph false (n % 10) ∷ acc else digits_onto k 10 false (n / 10) (digit_glyph false (n % 10) ∷ acc))
    by true more = omega arith
    by false more = omega (arith, more)

long : (j k n : ℕ) (acc : List ℕ) → 10 ^ j ≤ n → j < k → suc j + length acc ≤ length (digits_onto k 10 false n acc)
long j zero n acc great less = absurd (omega (arith, less))
long zero (suc k) n acc great less = by (n / 10 == 0)
  where
    more : suc (length acc) ≤ length (digits_onto k 10 false (n / 10) (digit_glyph false (n % 10) ∷ acc))
    more = grows k (n / 10) (digit_glyph false (n % 10) ∷ acc)

    by : (b : Bool) → 1 + length acc ≤ length (if b then digit_glyph false (n % 10) ∷ acc else digits_onto k 10 false (n / 10) (digit_glyph false (n % 10) ∷ acc))
    by true = omega arith
    by false = omega (arith, more)
long (suc j) (suc k) n acc great less = by (n / 10 == 0) refl (long j k (n / 10) (digit_glyph false (n % 10) ∷ acc) (tenth j n great) (omega (arith, less)))
  where
    tenth : (j n : ℕ) → 10 ^ suc j ≤ n → 10 ^ j ≤ n / 10
    tenth j n great = omega (arith, great)

    some : (m : ℕ) → 1 ≤ 10 ^ m
    some zero = omega arith
    some (suc m) = let h = some m in omega (arith, h)

    by : (b : Bool) → (n / 10 == 0) ≡ b → suc j + suc (length acc) ≤ length (digits_onto k 10 false (n / 10) (digit_glyph false (n % 10) ∷ acc)) → suc (suc j) + length acc ≤ length (if b then digit_glyph false (n % 10) ∷ acc else digits_onto k 10 false (n / 10) (digit_glyph false (n % 10) ∷ acc))
    by true is more = let s = some j in let t = tenth j n great in absurd (omega (arith, s, t, eqb-true (n / 10) 0 is))
    by false is more = omega (arith, more)

-- over any power of ten
long-name : (n : ℕ) → 10 ^ 5 ≤ n → 6 < length (y_text n)
unfolding digits
long-name n great =
    let a = long 5 64 n [] great (omega arith) in
    let b = length-append (codes "Y" ++ zeros n) (decimal n) in
    let c = length-append (codes "Y") (zeros n) in
    omega (arith, a, b, c)

-- ---- so they are free

module _ (used : List (List ℕ)) (short : list_all (λ x. nat_le (length x) 6) used ≡ true) where
  pub far-free : (n : ℕ) → 10 ^ 5 ≤ n → list_any (bytes_eq (y_text n)) used ≡ false
  far-free n great = by used short
    where
      by : (xs : List (List ℕ)) → list_all (λ x. nat_le (length x) 6) xs ≡ true → list_any (bytes_eq (y_text n)) xs ≡ false
      by [] all = refl
      by (x ∷ xs) all =
          let parts = and_parts (nat_le (length x) 6) (list_all (λ x. nat_le (length x) 6) xs) all in
          ap (λ (b : Bool). b || list_any (bytes_eq (y_text n)) xs) (one (bytes_eq (y_text n) x) refl) ∙ by xs parts.1
        where
          one : (b : Bool) → bytes_eq (y_text n) x ≡ b → b ≡ false
          one true is =
              let same : length (y_text n) ≡ length x = ap length ((bytes_eq-Decides (y_text n) x).0 is) in
              let parts = and_parts (nat_le (length x) 6) (list_all (λ x. nat_le (length x) 6) xs) all in
              let few : length x ≤ 6 = below (length x) parts.0 in
              let many = long-name n great in
              absurd (omega (arith, same, few, many))
            where
              below : (m : ℕ) → nat_le m 6 ≡ true → m ≤ 6
              below m is = grind (arith, nat_tests)
          one false is = refl

  abbrev free : ℕ → Bool
  free = is_free y_text (2 ^ 64) texts-apart used

  all-far : (a n : ℕ) → 10 ^ 5 ≤ a → n ≤ length (filter free (range_with_len a n))
  all-far a zero great = omega arith
  all-far a (suc n) great = by (free a) (ap not (far-free a great)) (all-far (a + 1) n (further a great))
    where
      further : (a : ℕ) → 10 ^ 5 ≤ a → 10 ^ 5 ≤ a + 1
      further a great = omega (arith, great)

      by : (b : Bool) → b ≡ true → n ≤ length (filter free (range_with_len (a + 1) n)) → suc n ≤ length (cond b (a ∷ filter free (range_with_len (a + 1) n)) (filter free (range_with_len (a + 1) n)))
      by true is more = omega (arith, more)
      by false is more = let e : false ≡ true = is in absurd cc

  range-split : (a m n : ℕ) → range_with_len a (m + n) ≡ range_with_len a m ++ range_with_len (a + m) n
  range-split a zero n =
      let here : 0 + n ≡ n = omega arith in
      let there : a ≡ a + 0 = omega arith in
      ap (range_with_len a) here ∙ ap (λ (k : ℕ). range_with_len k n) there
  range-split a (suc m) n =
      let e : a + 1 + m ≡ a + suc m = omega arith in
      let next : suc m + n ≡ suc (m + n) = omega arith in
      ap (range_with_len a) next
      ∙ ap (λ (xs : List ℕ). a ∷ xs) (range-split (a + 1) m n ∙ ap (λ (k : ℕ). range_with_len (a + 1) m ++ range_with_len k n) e)

  -- over any bound beyond which all are free
  enough-of : (top n : ℕ) → top < 2 ^ 64 → ((a k : ℕ) → top ≤ a → k ≤ length (filter free (range_with_len a k))) → n ≤ length (filter free (range_with_len 1 n)) + length used
  enough-of top n low beyond = ⊎_elim
      (λ (less : n < top). enough y_text (2 ^ 64) texts-apart used 1 n (fits n top (2 ^ 64) less low))
      (λ (more : top ≤ n).
      let split : range_with_len 1 n ≡ range_with_len 1 top ++ range_with_len (1 + top) (n - top) = ap (range_with_len 1) (parts n top more) ∙ range-split 1 top (n - top) in
      let first = enough y_text (2 ^ 64) texts-apart used 1 top (next top (2 ^ 64) low) in
      let second = beyond (1 + top) (n - top) (omega arith) in
      let whole : length (filter free (range_with_len 1 n)) ≡ length (filter free (range_with_len 1 top)) + length (filter free (range_with_len (1 + top) (n - top))) =
      ap (λ (xs : List ℕ). length (filter free xs)) split ∙ ap length (filter-append free (range_with_len 1 top) (range_with_len (1 + top) (n - top))) ∙ length-append (filter free (range_with_len 1 top)) (filter free (range_with_len (1 + top) (n - top))) in
      omega (arith, first, second, whole, more))
      (cases_lt n top)
    where
      fits : (n top bound : ℕ) → n < top → top < bound → 1 + n ≤ bound
      fits n top bound a b = omega (arith, a, b)

      next : (top bound : ℕ) → top < bound → 1 + top ≤ bound
      next top bound a = omega (arith, a)

      parts : (n top : ℕ) → top ≤ n → n ≡ top + (n - top)
      parts n top more = omega (arith, more)

  pub enough-short : (n : ℕ) → n ≤ length (filter free (range_with_len 1 n)) + length used
  enough-short n = enough-of (10 ^ 5) n (omega arith) all-far

-- ---- numbers that are taken

pub none-passes : (p : ℕ → Bool) (xs : List ℕ) (i x : ℕ) → list_any p xs ≡ false → slice_get xs i ≡ Some x → p x ≡ false
none-passes p [] i x none is = let e : None ≡ Some x = is in absurd cc
none-passes p (y ∷ xs) i x none is = by (p y) refl none i is (λ later j there. none-passes p xs j x later there)
  where
    by : (b : Bool) → p y ≡ b → (b || list_any p xs) ≡ false → (i : ℕ) → slice_get (y ∷ xs) i ≡ Some x → (list_any p xs ≡ false → (j : ℕ) → slice_get xs j ≡ Some x → p x ≡ false) → p x ≡ false
    by true passes h i there rest = let e : true ≡ false = h in absurd cc
    by false fails h zero there rest = let e : Some y ≡ Some x = there in let same : y ≡ x = cc in subst (λ (z : ℕ). p z ≡ false) same fails
    by false fails h (suc i) there rest = rest h i there

pub taken-at : (xs : List ℕ) (n i : ℕ) → i < n → slice_get (take n xs) i ≡ slice_get xs i
taken-at xs zero i less = absurd (omega (arith, less))
taken-at [] (suc n) i less = refl
taken-at (x ∷ xs) (suc n) zero less = refl
taken-at (x ∷ xs) (suc n) (suc i) less = taken-at xs n i (omega (arith, less))

module _ (us : List (List Labelled)) (short : list_all (λ x. nat_le (length x) 6) (used_names us) ≡ true) (few : has_great_name us ≡ false) where
  pub numbered-short : (e : Entity) → list_any (same_entity e) (y_entities us) ≡ true → HasNumber us e
  numbered-short e is =
      let count = length (y_entities us) in
      let numbers = free_numbers us count in
      let place = position_or_len (same_entity e) (y_entities us) in
      let inside : place < count = first-inside (same_entity e) (y_entities us) is in
      let plenty : count + length (used_names us) ≤ length numbers + length (used_names us) = enough-short (used_names us) short (count + length (used_names us)) in
      let there : slice_get numbers place ≡ Some (get_or numbers place 0) = slice_get-get_or numbers place 0 (enough-for place count (length numbers) (length (used_names us)) inside plenty) in
      let small : nat_lt 99999 (get_or numbers place 0) ≡ false = none-passes (nat_lt 99999) (take count numbers) place (get_or numbers place 0) few (taken-at numbers count place inside ∙ there) in
      record { number = get_or numbers place 0; stands = there; below = under 99999 (get_or numbers place 0) (2 ^ 64) small (omega arith); names = own-name us e is ∙ ap y_or there }
    where
      under : (most n bound : ℕ) → nat_lt most n ≡ false → most < bound → n < bound
      under most n bound small low = grind (arith, nat_tests)

  pub short-free : (e : Entity) → list_any (same_entity e) (y_entities us) ≡ true → list_any (bytes_eq (name_for us e)) (used_names us) ≡ false
  short-free = free-by us numbered-short

  pub short-apart : (e f : Entity) → list_any (same_entity e) (y_entities us) ≡ true → list_any (same_entity f) (y_entities us) ≡ true → name_for us e ≡ name_for us f → e ≡ f
  short-apart = apart-by us numbered-short
