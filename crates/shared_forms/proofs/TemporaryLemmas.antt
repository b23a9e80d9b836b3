-- Names of temporaries and their numbers.
use Rattle.std.proofs.Common.{◌≡◌, ℕ, zero, suc, ◌+◌, ◌*◌, ◌/◌, ◌%◌, ◌<◌, ◌≤◌, Bool, true, false, not, ◌||◌, List, [], ◌∷◌, ◌++◌, length, get_or, set, take, refl, sym, ap, subst, ◌∙◌, ⊎_elim, arith}
use Rattle.std.specs.Prelude.{bytes_eq, cond, if◌then◌else◌}
use Rattle.std.proofs.lemmas.Bool.{cases_eq, cases_Bool}
use Rattle.std.proofs.lemmas.List.{get_or-set_same, get_or-set_other, length-append, length-take, take-append-le, take_all}
use Rattle.std.proofs.lemmas.Slice.Eq.{bytes_eq-Decides}
use Rattle.std.proofs.lemmas.List.FromFn.{filter_of_map_range_with_len_more}
use Rattle.std.proofs.lemmas.List.Folds.{list_any_more}
use native.Mathlib.Nat.{div-div-eq-div-mul}
use Rattle.simplified_forms.specs.Plans.{answer}
use Rattle.f77_tree.specs.declared.programs.NameInfo.{NameInfo}
use Rattle.shared_forms.specs.Temporaries.{free_up_to, is_in_use, last_number, temporary_name}

pub last_number-is : last_number ≡ 99999
unfolding last_number
last_number-is = refl

or_false : (b : Bool) → (b || false) ≡ b
or_false true = refl
or_false false = refl

or_true : (b : Bool) → (b || true) ≡ true
or_true true = refl
or_true false = refl

-- ---- figures

tens : (n : ℕ) → n / 10 * 10 + n % 10 ≡ n
tens n = omega arith

hundreds : (n : ℕ) → n / 10 / 10 ≡ n / 100
hundreds n = div-div-eq-div-mul n 10 10

thousands : (n : ℕ) → n / 100 / 10 ≡ n / 1000
thousands n = div-div-eq-div-mul n 100 10

ten_thousands : (n : ℕ) → n / 1000 / 10 ≡ n / 10000
ten_thousands n = div-div-eq-div-mul n 1000 10

-- a number of figures, each of which is left of the number before it
from_figures : (n n1 n2 n3 n4 d0 d1 d2 d3 d4 : ℕ) → n1 * 10 + d0 ≡ n → n2 * 10 + d1 ≡ n1 → n3 * 10 + d2 ≡ n2 → n4 * 10 + d3 ≡ n3 → d4 ≡ n4 → d4 * 10000 + d3 * 1000 + d2 * 100 + d1 * 10 + d0 ≡ n
from_figures n n1 n2 n3 n4 d0 d1 d2 d3 d4 a b c d e = omega (arith, a, b, c, d, e)

last_figure : (n : ℕ) → n < 100000 → n / 10000 % 10 ≡ n / 10000
last_figure n less = let few : n / 10000 < 10 = omega (arith, less) in omega (arith, few)

-- the number that its five figures make
pub figures_make : (n a b c d e : ℕ) → n < 100000 → a ≡ n / 10000 % 10 → b ≡ n / 1000 % 10 → c ≡ n / 100 % 10 → d ≡ n / 10 % 10 → e ≡ n / 1 % 10 → a * 10000 + b * 1000 + c * 100 + d * 10 + e ≡ n
figures_make n a b c d e less is_a is_b is_c is_d is_e =
    let one : n / 1 ≡ n = omega arith in
    let e_is : e ≡ n % 10 = is_e ∙ ap (λ x. x % 10) one in
    from_figures n (n / 10) (n / 100) (n / 1000) (n / 10000) e d c b a
    (ap (λ x. n / 10 * 10 + x) e_is ∙ tens n)
    (ap (λ x. x * 10 + d) (sym (hundreds n)) ∙ ap (λ x. n / 10 / 10 * 10 + x) is_d ∙ tens (n / 10))
    (ap (λ x. x * 10 + c) (sym (thousands n)) ∙ ap (λ x. n / 100 / 10 * 10 + x) is_c ∙ tens (n / 100))
    (ap (λ x. x * 10 + b) (sym (ten_thousands n)) ∙ ap (λ x. n / 1000 / 10 * 10 + x) is_b ∙ tens (n / 1000))
    (is_a ∙ last_figure n less)

-- ---- notes

other-name : (name : List ℕ) (m : ℕ) → (bytes_eq name (temporary_name m) ≡ true → ⊥) → bytes_eq name (temporary_name m) ≡ false
other-name name m h = ⊎_elim (λ (is : bytes_eq name (temporary_name m) ≡ true). absurd (h is)) (λ (is : bytes_eq name (temporary_name m) ≡ false). is) (cases_Bool (bytes_eq name (temporary_name m)))

-- a name with this number is noted
pub noted-name : (name : List ℕ) (n m : ℕ) (old : List Bool) → n < length old → bytes_eq name (temporary_name n) ≡ true → (bytes_eq name (temporary_name m) ≡ true → n ≡ m) → answer (set old n true) m ≡ (answer old m || bytes_eq name (temporary_name m))
noted-name name n m old less is one =
    ⊎_elim
    (λ (here : n ≡ m).
    ap (answer (set old n true)) (sym here)
    ∙ get_or-set_same old n true false less
    ∙ sym (or_true (answer old m))
    ∙ ap (λ b. answer old m || b) (sym (ap (λ x. bytes_eq name (temporary_name x)) (sym here) ∙ is)))
    (λ other.
    get_or-set_other old n m true false (λ h. other (sym h))
    ∙ sym (or_false (answer old m))
    ∙ ap (λ b. answer old m || b) (sym (other-name name m (λ h. other (one h)))))
    (cases_eq n m)

-- a name that isn't the one with a number isn't noted there
noted-none : (name : List ℕ) (m : ℕ) (old : List Bool) → (bytes_eq name (temporary_name m) ≡ true → ⊥) → answer old m ≡ (answer old m || bytes_eq name (temporary_name m))
noted-none name m old none = sym (or_false (answer old m)) ∙ ap (λ b. answer old m || b) (sym (other-name name m none))

-- a name whose figures make the number of another one
pub noted-other : (name : List ℕ) (n m : ℕ) (old : List Bool) → bytes_eq name (temporary_name n) ≡ false → (bytes_eq name (temporary_name m) ≡ true → n ≡ m) → answer old m ≡ (answer old m || bytes_eq name (temporary_name m))
noted-other name n m old is_not one = noted-none name m old (λ is. let e : true ≡ false = sym is ∙ ap (λ x. bytes_eq name (temporary_name x)) (sym (one is)) ∙ is_not in absurd cc)

-- a name whose figures make a number past the end
pub noted-past : (name : List ℕ) (n m : ℕ) (old : List Bool) → length old ≤ n → m < length old → (bytes_eq name (temporary_name m) ≡ true → n ≡ m) → answer old m ≡ (answer old m || bytes_eq name (temporary_name m))
noted-past name n m old past less one = noted-none name m old (λ is. omega (arith, one is, past, less))

-- what is told of a name by its number
pub number_told : (name : List ℕ) (n m : ℕ) → ((k : ℕ) → k < 100000 → name ≡ temporary_name k → n ≡ k) → m < 100000 → bytes_eq name (temporary_name m) ≡ true → n ≡ m
number_told name n m told less is = told m less ((bytes_eq-Decides name (temporary_name m)).0 is)

-- one name more of a table
pub in_use-more : (infos : List NameInfo) (i : ℕ) (info : NameInfo) (name : List ℕ) → i < length infos → info ≡ get_or infos i info → is_in_use (take (i + 1) infos) name ≡ (is_in_use (take i infos) name || bytes_eq info.name name)
in_use-more infos i info name less at =
    list_any_more (λ (x : NameInfo). bytes_eq x.name name) infos i info less
    ∙ ap (λ (x : NameInfo). is_in_use (take i infos) name || bytes_eq x.name name) (sym at)

-- ---- free names

-- the names up to one more
pub free_more : (names : List NameInfo) (k : ℕ) (old new : List (List ℕ)) (used : Bool) → used ≡ is_in_use names (temporary_name (k + 1)) → old ≡ free_up_to names k → new ≡ old ++ (if used then [] else (temporary_name (k + 1) ∷ [])) → new ≡ free_up_to names (k + 1)
free_more names k old new used is so_far made =
    made
    ∙ ap (λ (xs : List (List ℕ)). xs ++ (if used then [] else (temporary_name (k + 1) ∷ []))) so_far
    ∙ ap (λ (xs : List (List ℕ)). free_up_to names k ++ xs) (turned used (temporary_name (k + 1)) ∙ ap (λ b. cond (not b) (temporary_name (k + 1) ∷ []) []) is)
    ∙ sym (filter_of_map_range_with_len_more (λ (name : List ℕ). not (is_in_use names name)) temporary_name 1 k (k + 1) (omega arith))
  where
    turned : (b : Bool) (name : List ℕ) → (if b then [] else (name ∷ [])) ≡ cond (not b) (name ∷ []) []
    turned true name = refl
    turned false name = refl

-- the names up to a number are the first ones
pub free-front : (names : List NameInfo) (k j : ℕ) → take (length (free_up_to names k)) (free_up_to names (k + j)) ≡ free_up_to names k
free-front names k zero =
    let e : k ≡ k + 0 = omega arith in
    ap (λ n. take (length (free_up_to names k)) (free_up_to names n)) (sym e) ∙ take_all (length (free_up_to names k)) (free_up_to names k) (omega arith)
free-front names k (suc j) =
    let front = free_up_to names k in
    let so_far = free_up_to names (k + j) in
    let used = is_in_use names (temporary_name (k + j + 1)) in
    let more : List (List ℕ) = if used then [] else (temporary_name (k + j + 1) ∷ []) in
    let e : k + j + 1 ≡ k + suc j = omega arith in
    let rest = free-front names k j in
    let size = ap length rest in
    let cut = length-take (length front) so_far in
    let grown = sym (free_more names (k + j) so_far (so_far ++ more) used refl refl refl) in
    subst (λ n. take (length front) (free_up_to names n) ≡ front) e (ap (take (length front)) grown ∙ take-append-le (length front) so_far more (omega (arith, size, cut)) ∙ rest)

-- so many names as there are up to a number are those
pub free-first : (names : List NameInfo) (free : List (List ℕ)) (k j count : ℕ) → free ≡ free_up_to names k → length free ≡ count → free ≡ take count (free_up_to names (k + j))
free-first names free k j count is size = is ∙ sym (free-front names k j) ∙ ap (λ n. take n (free_up_to names (k + j))) (sym (ap length is) ∙ size)

pub few-more : (used : Bool) (old new : List (List ℕ)) (name : List ℕ) → new ≡ old ++ (if used then [] else (name ∷ [])) → length new ≤ length old + 1
few-more true old new name is = let size = ap length is ∙ length-append old [] in omega (arith, size)
few-more false old new name is = let size = ap length is ∙ length-append old (name ∷ []) in omega (arith, size)
