-- Free names, found number by number.
use Rattle.std.proofs.Common.{◌≡◌, ℕ, zero, suc, ◌+◌, ◌-◌, ◌<◌, ◌≤◌, ◌^◌, Bool, true, false, not, cond, List, [], ◌∷◌, ◌++◌, length, take, map, filter, nat_lt, if◌then◌else◌, ⊎_elim, refl, sym, ap, ◌∙◌, arith, length-append}
use Rattle.std.specs.Prelude.{bytes_eq}
use Rattle.std.specs.List.{list_any, range_with_len}
use Rattle.std.proofs.lemmas.Bool.{cases_Bool, ltb-true, ltb-false}
use Rattle.std.proofs.lemmas.List.{map-append, length-map, take_all, append-nil, take-append-le}
use Rattle.std.proofs.lemmas.List.Elements.{filter-append}
use mathlib.Core.Path.{fun_ext}
use Rattle.f77_tree.specs.declared.statements.Labelled.{Labelled}
use Rattle.layout_rules.specs.Appearances.{each_once}
use Rattle.program_units.specs.Names.{used_names, y_entities, y_text}
use Rattle.program_units.specs.NewNames.{AreFree, is_free_of, own_texts}
use Rattle.unit_laws.proofs.FreeNumbers.{enough}
use Rattle.program_units.proofs.Counting.{range-push}
use Rattle.unit_laws.proofs.OwnNames.{texts-apart}
use Rattle.program_units.proofs.StoredNames.{told-all}

abbrev free_to : (used : List (List ℕ)) → ℕ → List ℕ
free_to used n = filter (is_free_of used) (range_with_len 1 n)

range-append : (a m n : ℕ) → range_with_len a (m + n) ≡ range_with_len a m ++ range_with_len (a + m) n
range-append a zero n =
    let none : 0 + n ≡ n = omega arith in
    let e : a ≡ a + 0 = omega arith in
    ap (range_with_len a) none ∙ ap (λ (b : ℕ). range_with_len b n) e
range-append a (suc m) n =
    let sum : suc m + n ≡ suc (m + n) = omega arith in
    let e : a + 1 + m ≡ a + suc m = omega arith in
    ap (range_with_len a) sum ∙ ap (λ (xs : List ℕ). a ∷ xs) (range-append (a + 1) m n ∙ ap (λ (b : ℕ). range_with_len (a + 1) m ++ range_with_len b n) e)

one-free : (used : List (List ℕ)) (n : ℕ) → map y_text (filter (is_free_of used) (n ∷ [])) ≡ (if is_free_of used n then y_text n ∷ [] else [])
one-free used n = by_test (is_free_of used n)
  where
    by_test : (b : Bool) → map y_text (cond b (n ∷ []) []) ≡ (if b then y_text n ∷ [] else [])
    by_test true = refl
    by_test false = refl

pub free-more : (used : List (List ℕ)) (n : ℕ) (old new : List (List ℕ)) → 1 ≤ n → old ≡ map y_text (filter (is_free_of used) (range_with_len 1 (n - 1))) → new ≡ old ++ (if is_free_of used n then y_text n ∷ [] else [])
    → new ≡ map y_text (filter (is_free_of used) (range_with_len 1 (n + 1 - 1)))
free-more used zero old new some before is = absurd (omega (arith, some))
free-more used (suc n) old new some before is =
    let e : suc n + 1 - 1 ≡ suc n = omega arith in
    let less : suc n - 1 ≡ n = omega arith in
    let one : suc n ≡ 1 + n = omega arith in
    is
    ∙ ap (λ (names : List (List ℕ)). names ++ (if is_free_of used (suc n) then y_text (suc n) ∷ [] else [])) (before ∙ ap (λ (m : ℕ). map y_text (free_to used m)) less)
    ∙ ap (λ (names : List (List ℕ)). map y_text (free_to used n) ++ names) (sym (one-free used (suc n)) ∙ ap (λ (m : ℕ). map y_text (filter (is_free_of used) (m ∷ []))) one)
    ∙ sym (map-append y_text (free_to used n) (filter (is_free_of used) ((1 + n) ∷ [])))
    ∙ ap (map y_text) (sym (ap (filter (is_free_of used)) (range-push 1 n) ∙ filter-append (is_free_of used) (range_with_len 1 n) ((1 + n) ∷ [])))
    ∙ ap (λ (m : ℕ). map y_text (free_to used m)) (sym e)

-- ---- enough of them

taken-front : {X : Type 0} (xs ys : List X) (n : ℕ) → length xs ≡ n → take n (xs ++ ys) ≡ xs
taken-front xs ys n long = take-append-le n xs ys (omega (arith, long)) ∙ take_all n xs (omega (arith, long))

no-more : {X : Type 0} (ys : List X) → length ys ≡ 0 → ys ≡ []
no-more [] none = refl
no-more (y ∷ ys) none = absurd (omega (arith, none))

below-top : (n m top : ℕ) → n < m → m < top → 1 + n ≤ top
below-top n m top less few = omega (arith, less, few)

split-free : (used : List (List ℕ)) (m n : ℕ) → free_to used (m + n) ≡ free_to used m ++ filter (is_free_of used) (range_with_len (1 + m) n)
split-free used m n = ap (filter (is_free_of used)) (range-append 1 m n) ∙ filter-append (is_free_of used) (range_with_len 1 m) (range_with_len (1 + m) n)

same-front : (used : List (List ℕ)) (count tried : ℕ) → tried < 2 ^ 64 → length (free_to used tried) ≡ count → take count (free_to used (count + length used)) ≡ free_to used tried
same-front used count tried few long = ⊎_elim
    (λ (less : nat_lt (count + length used) tried ≡ true).
    let n = count + length used in
    let under : n < tried = ltb-true n tried less in
    let rest = filter (is_free_of used) (range_with_len (1 + n) (tried - n)) in
    let sum : n + (tried - n) ≡ tried = omega (arith, under) in
    let split : free_to used tried ≡ free_to used n ++ rest = ap (free_to used) (sym sum) ∙ split-free used n (tried - n) in
    let plenty = enough y_text (2 ^ 64) texts-apart used 1 n (below-top n tried (2 ^ 64) under few) in
    let parts : length (free_to used tried) ≡ length (free_to used n) + length rest = ap length split ∙ length-append (free_to used n) rest in
    let none : length rest ≡ 0 = by-sums (length (free_to used n)) (length rest) (length used) count (sym parts ∙ long) plenty in
    let all : length (free_to used n) ≡ count = (let p : length (free_to used n) + length rest ≡ count = sym parts ∙ long in no-rest (length (free_to used n)) (length rest) count p none) in
    take_all count (free_to used n) (at-most (length (free_to used n)) count all) ∙ sym (split ∙ ap (λ (xs : List ℕ). free_to used n ++ xs) (no-more rest none) ∙ append-nil (free_to used n)))
    (λ (less : nat_lt (count + length used) tried ≡ false).
    let n = count + length used in
    let over : tried ≤ n = ltb-false n tried less in
    let sum : tried + (n - tried) ≡ n = omega (arith, over) in
    ap (λ (m : ℕ). take count (free_to used m)) (sym sum) ∙ ap (take count) (split-free used tried (n - tried)) ∙ taken-front (free_to used tried) (filter (is_free_of used) (range_with_len (1 + tried) (n - tried))) count long)
    (cases_Bool (nat_lt (count + length used) tried))
  where
    by-sums : (a b u count : ℕ) → a + b ≡ count → count + u ≤ a + u → b ≡ 0
    by-sums a b u count sum plenty = omega (arith, sum, plenty)

    no-rest : (a b count : ℕ) → a + b ≡ count → b ≡ 0 → a ≡ count
    no-rest a b count sum none = omega (arith, sum, none)

    at-most : (a count : ℕ) → a ≡ count → a ≤ count
    at-most a count same = omega (arith, same)

pub more-by-one : (old new : List (List ℕ)) (free : Bool) (n : ℕ) → new ≡ old ++ (if free then y_text n ∷ [] else []) → length new ≤ length old + 1
more-by-one old new true n is = let long = ap length is ∙ length-append old (y_text n ∷ []) in omega (arith, long)
more-by-one old new false n is = let long = ap length is ∙ length-append old [] in omega (arith, long)

pub free-names : (us : List (List Labelled)) (used : List (List ℕ)) (names : List (List ℕ)) → used ≡ each_once (used_names us) → AreFree used (length (y_entities us)) names → names ≡ own_texts us
free-names us used names is are =
    let count = length (y_entities us) in
    let all = used_names us in
    let free : is_free_of used ≡ is_free_of all = fun_ext (λ n. ap (λ (xs : List (List ℕ)). not (list_any (bytes_eq (y_text n)) xs)) is ∙ ap not (told-all (y_text n) [] all)) in
    let same : free_to used are.tried ≡ free_to all are.tried = ap (λ (p : ℕ → Bool). filter p (range_with_len 1 are.tried)) free in
    let long : length (free_to all are.tried) ≡ count = sym (ap length (are.free ∙ ap (map y_text) same) ∙ length-map (free_to all are.tried) y_text) ∙ are.as_many in
    are.free ∙ ap (map y_text) (same ∙ sym (same-front all count are.tried are.few long))
