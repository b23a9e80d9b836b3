-- The names that entities get in the expansion: none is a name of the text, and two entities get different ones.
use Rattle.std.proofs.Common.{◌≡◌, ℕ, ◌+◌, ◌*◌, ◌-◌, ◌/◌, ◌%◌, ◌<◌, ◌≤◌, ◌^◌, Bool, true, false, not, ◌&&◌, ◌==◌, cond, List, [], ◌∷◌, ◌++◌, length, drop, filter, flat_map, fold, get_or, map, Option, Some, None, if◌then◌else◌, refl, sym, ap, ◌∙◌, arith}
use Rattle.std.specs.Prelude.{bytes_eq, codes, nat_lt}
use Rattle.std.specs.Fmt.{decimal}
use Rattle.std.specs.List.{list_all, list_any, position_or_len, slice_get, range_with_len}
use Rattle.std.proofs.lemmas.Bool.{and_parts, and_from, eqb-true}
use Rattle.std.proofs.lemmas.Fmt.{decimal_by_steps}
use Rattle.std.proofs.lemmas.List.Folds.{list_all-append}
use Rattle.std.proofs.lemmas.List.Sums.{passes_at_first}
use Rattle.std.proofs.lemmas.Option.{slice_get-get_or}
use Rattle.std.proofs.lemmas.Slice.Eq.{bytes_eq-Decides}
use Rattle.f77_tree.specs.Grammar.{decimal_after, number_of}
use Rattle.f77_tree.specs.Places.{same_block}
use Rattle.f77_tree.specs.declared.statements.Labelled.{Labelled}
use Rattle.program_units.specs.declared.entity.Entity.{Entity}
use Rattle.program_units.specs.declared.entity.Entity.TheVariants.{Local, InBlock}
use Rattle.program_units.specs.Entities.{entity_of}
use Rattle.program_units.specs.Names.{free_numbers, is_main, main_name, name_for, own_names, same_entity, used_names, with_entity, y_entities, y_name, y_or, y_text, zeros}
use Rattle.unit_laws.proofs.FreeNumbers.{enough, is_free, one-place, passing, within}
use Rattle.program_units.proofs.Counting.{first-inside}
use Rattle.unit_laws.proofs.SettledCopies.{pass_at}

-- ---- a number is told by its name

written-append : (n : ℕ) (xs ys : List ℕ) → decimal_after n (xs ++ ys) ≡ decimal_after (decimal_after n xs) ys
written-append n [] ys = refl
written-append n (x ∷ xs) ys = written-append (10 * n + (x - 48)) xs ys

Writes : ℕ → List ℕ → Type 0
Writes n digits = number_of digits ≡ n

one_digit : (n : ℕ) → n < 10 → Writes n ((48 + n) ∷ [])
unfolding Writes
one_digit n lt = omega arith

digit_more : (n : ℕ) (digits : List ℕ) → 10 ≤ n → Writes (n / 10) digits → Writes n (digits ++ ((48 + n % 10) ∷ []))
unfolding Writes
digit_more n digits le prefix = written-append 0 digits ((48 + n % 10) ∷ []) ∙ ap (λ m. 10 * m + (48 + n % 10 - 48)) prefix ∙ omega arith

writes : (n : ℕ) → n < 2 ^ 64 → number_of (decimal n) ≡ n
unfolding Writes
writes n below = decimal_by_steps Writes one_digit digit_more n below

with-zeros : (n : ℕ) (digits : List ℕ) → number_of (zeros n ++ digits) ≡ number_of digits
with-zeros n digits = by_tests (nat_lt n 10) (nat_lt n 100) (nat_lt n 1000) (nat_lt n 10000)
  where
    by_tests : (a b c d : Bool) → number_of ((if a then codes "0000" else if b then codes "000" else if c then codes "00" else if d then codes "0" else []) ++ digits) ≡ number_of digits
    by_tests true b c d = refl
    by_tests false true c d = refl
    by_tests false false true d = refl
    by_tests false false false true = refl
    by_tests false false false false = refl

number-of-name : (n : ℕ) → n < 2 ^ 64 → number_of (drop 1 (y_text n)) ≡ n
number-of-name n below = with-zeros n (decimal n) ∙ writes n below

pub texts-apart : (m n : ℕ) → m < 2 ^ 64 → n < 2 ^ 64 → y_text m ≡ y_text n → m ≡ n
texts-apart m n low high same = sym (number-of-name m low) ∙ ap (λ (text : List ℕ). number_of (drop 1 text)) same ∙ number-of-name n high

-- ---- entities

pub blocks-same : (a b : Option (List ℕ)) → same_block a b ≡ true → a ≡ b
blocks-same None None is = refl
blocks-same None (Some b) is = let e : false ≡ true = is in absurd cc
blocks-same (Some a) None is = let e : false ≡ true = is in absurd cc
blocks-same (Some a) (Some b) is = ap (λ (x : List ℕ). Some x) ((bytes_eq-Decides a b).0 is)

pub entities-same : (e f : Entity) → same_entity e f ≡ true → e ≡ f
entities-same (Local j x) (Local k y) is =
    let parts = and_parts (j == k) (bytes_eq x y) is in
    let unit : j ≡ k = eqb-true j k parts.0 in
    let name : x ≡ y = (bytes_eq-Decides x y).0 parts.1 in
    cc
entities-same (Local j x) (InBlock b i) is = let e : false ≡ true = is in absurd cc
entities-same (InBlock a i) (Local k y) is = let e : false ≡ true = is in absurd cc
entities-same (InBlock a i) (InBlock b j) is =
    let parts = and_parts (same_block a b) (i == j) is in
    let block : a ≡ b = blocks-same a b parts.0 in
    let place : i ≡ j = eqb-true i j parts.1 in
    cc

-- what holds of all entities that are noted holds of those that were
pub all-noted : (q : Entity → Bool) (seen found : List Entity) → list_all q seen ≡ true → list_all q found ≡ true → list_all q (fold with_entity seen found) ≡ true
all-noted q seen [] before all = before
all-noted q seen (e ∷ found) before all =
    let parts = and_parts (q e) (list_all q found) all in
    all-noted q (with_entity seen e) found (by_test (list_any (same_entity e) seen) parts.0) parts.1
  where
    by_test : (b : Bool) → q e ≡ true → list_all q (if b then seen else seen ++ e ∷ []) ≡ true
    by_test true is = before
    by_test false is = list_all-append q seen (e ∷ []) ∙ and_from (list_all q seen) (q e && true) before (and_from (q e) true is refl)

pub all-kept : (q : Entity → Bool) (found : List Entity) → list_all q (filter q found) ≡ true
all-kept q [] = refl
all-kept q (e ∷ found) = by_test (q e) refl (all-kept q found)
  where
    by_test : (b : Bool) → q e ≡ b → list_all q (filter q found) ≡ true → list_all q (cond b (e ∷ filter q found) (filter q found)) ≡ true
    by_test true is more = and_from (q e) (list_all q (filter q found)) is more
    by_test false is more = more

-- ---- arithmetic over any bound

pub next-fits : (n top : ℕ) → n < top → 1 + n ≤ top
next-fits n top below = omega (arith, below)

pub in-reach : (m n top : ℕ) → m < 1 + n → n < top → m < top
in-reach m n top below fits = omega (arith, below, fits)

pub enough-for : (i count free used : ℕ) → i < count → count + used ≤ free + used → i < free
enough-for i count free used below plenty = omega (arith, below, plenty)

pub negated : (b : Bool) → not b ≡ true → b ≡ false
negated true is = let e : false ≡ true = is in absurd cc
negated false is = refl

-- ---- names

module _ (us : List (List Labelled)) where
  abbrev pub those : List Entity
  those = y_entities us

  pub not-main : list_all (λ e. not (is_main us e)) those ≡ true
  not-main = all-noted (λ e. not (is_main us e)) [] (filter (λ e. not (is_main us e)) (flat_map (λ k. map (entity_of us k) (own_names us k)) (range_with_len 1 (length us)))) refl (all-kept (λ e. not (is_main us e)) (flat_map (λ k. map (entity_of us k) (own_names us k)) (range_with_len 1 (length us))))

  abbrev pub place : Entity → ℕ
  place e = position_or_len (same_entity e) those

  pub found : (e : Entity) → list_any (same_entity e) those ≡ true → e ≡ get_or those (place e) e
  found e is = entities-same e (get_or those (place e) e) (passes_at_first (same_entity e) those e (first-inside (same_entity e) those is))

  pub own-name : (e : Entity) → list_any (same_entity e) those ≡ true → name_for us e ≡ y_name us e
  own-name e is =
      let at : slice_get those (place e) ≡ Some (get_or those (place e) e) = slice_get-get_or those (place e) e (first-inside (same_entity e) those is) in
      let mine : slice_get those (place e) ≡ Some e = at ∙ ap (λ (x : Entity). Some x) (sym (found e is)) in
      by_main (is_main us e) (pass_at (λ (x : Entity). not (is_main us x)) those (place e) e not-main mine)
    where
      by_main : (b : Bool) → not b ≡ true → (if b then main_name us e else y_name us e) ≡ y_name us e
      by_main true is = let e : false ≡ true = is in absurd cc
      by_main false is = refl

  -- an entity has the text of one of the numbers that are taken
  pub record HasNumber (e : Entity) : Type 0 where
    pub number : ℕ
    pub stands : slice_get (free_numbers us (length (y_entities us))) (position_or_len (same_entity e) (y_entities us)) ≡ Some number
    pub below : number < 2 ^ 64
    pub names : name_for us e ≡ y_text number

  -- where each has
  module _ (numbered : (e : Entity) → list_any (same_entity e) (y_entities us) ≡ true → HasNumber e) where
    pub free-by : (e : Entity) → list_any (same_entity e) (y_entities us) ≡ true → list_any (bytes_eq (name_for us e)) (used_names us) ≡ false
    free-by e is =
        let n = numbered e is in
        ap (λ (name : List ℕ). list_any (bytes_eq name) (used_names us)) n.names
        ∙ negated (list_any (bytes_eq (y_text n.number)) (used_names us)) (passing (is_free y_text (2 ^ 64) texts-apart (used_names us)) (range_with_len 1 (length those + length (used_names us))) (place e) n.number n.stands)

    pub apart-by : (e f : Entity) → list_any (same_entity e) (y_entities us) ≡ true → list_any (same_entity f) (y_entities us) ≡ true → name_for us e ≡ name_for us f → e ≡ f
    apart-by e f is other same =
        let m = numbered e is in
        let n = numbered f other in
        let number : m.number ≡ n.number = texts-apart m.number n.number m.below n.below (sym m.names ∙ same ∙ n.names) in
        let one : place e ≡ place f = one-place (is_free y_text (2 ^ 64) texts-apart (used_names us)) 1 (length those + length (used_names us)) (place e) (place f) n.number (m.stands ∙ ap (λ (k : ℕ). Some k) number) n.stands in
        let first : slice_get those (place e) ≡ Some e = slice_get-get_or those (place e) e (first-inside (same_entity e) those is) ∙ ap (λ (x : Entity). Some x) (sym (found e is)) in
        let second : slice_get those (place f) ≡ Some f = slice_get-get_or those (place f) f (first-inside (same_entity f) those other) ∙ ap (λ (x : Entity). Some x) (sym (found f other)) in
        let both : Some e ≡ Some f = sym first ∙ ap (λ (k : ℕ). slice_get those k) one ∙ second in
        cc

  module _ (few : length (y_entities us) + length (used_names us) < 2 ^ 64) where
    abbrev numbers : List ℕ
    numbers = free_numbers us (length those)

    numbered : (e : Entity) → list_any (same_entity e) those ≡ true → HasNumber e
    numbered e is =
        let inside : place e < length those = first-inside (same_entity e) those is in
        let plenty : length those + length (used_names us) ≤ length numbers + length (used_names us) = enough y_text (2 ^ 64) texts-apart (used_names us) 1 (length those + length (used_names us)) (next-fits (length those + length (used_names us)) (2 ^ 64) few) in
        let there : slice_get numbers (place e) ≡ Some (get_or numbers (place e) 0) = slice_get-get_or numbers (place e) 0 (enough-for (place e) (length those) (length numbers) (length (used_names us)) inside plenty) in
        let range = within (is_free y_text (2 ^ 64) texts-apart (used_names us)) 1 (length those + length (used_names us)) (place e) (get_or numbers (place e) 0) there in
        record { number = get_or numbers (place e) 0; stands = there; below = in-reach (get_or numbers (place e) 0) (length those + length (used_names us)) (2 ^ 64) range.below few; names = own-name e is ∙ ap y_or there }

    pub names-free : (e : Entity) → list_any (same_entity e) (y_entities us) ≡ true → list_any (bytes_eq (name_for us e)) (used_names us) ≡ false
    names-free = free-by numbered

    pub names-apart : (e f : Entity) → list_any (same_entity e) (y_entities us) ≡ true → list_any (same_entity f) (y_entities us) ≡ true → name_for us e ≡ name_for us f → e ≡ f
    names-apart = apart-by numbered
