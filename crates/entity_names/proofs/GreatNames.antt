-- The first free numbers: whether one of them is great.
use Rattle.std.proofs.Common.{◌≡◌, ℕ, zero, suc, ◌+◌, ◌<◌, ◌≤◌, ◌^◌, Bool, true, false, not, cond, List, [], ◌∷◌, filter, length, nat_lt, take, refl, sym, ap, ◌∙◌, arith}
use Rattle.std.specs.List.{list_any, range_with_len}
use Rattle.std.proofs.lemmas.Bool.{le-ltb, ltb-false}
use mathlib.Core.Path.{fun_ext}
use Rattle.layout_rules.specs.Appearances.{each_once}
use Rattle.program_units.specs.Names.{y_text}
use Rattle.program_units.specs.NamedEntities.{are_short}
use Rattle.program_units.specs.NewNames.{is_free_of}
use Rattle.unit_laws.proofs.FreeNumbers.{enough}
use Rattle.unit_laws.proofs.GreatNumbers.{great, longer}
use Rattle.unit_laws.proofs.OwnNames.{texts-apart}
use Rattle.unit_laws.proofs.ShortNames.{enough-short}
use Rattle.program_units.proofs.StoredNames.{told-all}

fits-in : (n top : ℕ) → n < top → 1 + n ≤ top
fits-in n top below = omega (arith, below)

enough-in : (count free used : ℕ) → count + used ≤ free + used → count ≤ free
enough-in count free used plenty = omega (arith, plenty)

module _ (all : List (List ℕ)) (count : ℕ) (few : count + length (each_once all) < 2 ^ 64) where
  abbrev once : List (List ℕ)
  once = each_once all

  abbrev free : (n : ℕ) → List ℕ
  free n = filter (is_free_of once) (range_with_len 1 n)

  plenty : count ≤ length (free (count + length once))
  plenty = enough-in count (length (free (count + length once))) (length once) (enough y_text (2 ^ 64) texts-apart once 1 (count + length once) (fits-in (count + length once) (2 ^ 64) few))

  pub none-great : (most : ℕ) → count + length once ≤ most → nat_lt (length (free most)) count ≡ false
  none-great most less =
      let a = plenty in
      let b = longer (is_free_of once) 0 1 (count + length once) most less in
      le-ltb (length (free most)) count (omega (arith, a, b))

-- where names are short, so it is of any count
module _ (all : List (List ℕ)) (short : are_short all ≡ true) (count : ℕ) where
  abbrev free_of_all : (n : ℕ) → List ℕ
  free_of_all n = filter (is_free_of all) (range_with_len 1 n)

  pub great-short : (most : ℕ) → list_any (nat_lt most) (take count (filter (is_free_of all) (range_with_len 1 (count + length all)))) ≡ nat_lt (length (free_of_all most)) count
  great-short most =
      let plenty = enough-short all short (count + length all) in
      great (is_free_of all) most most 1 (count + length all) count (omega arith) (enough-in count (length (free_of_all (count + length all))) (length all) plenty)

  -- as many as are asked for have at most five digits
  pub enough-small : list_any (nat_lt 99999) (take count (filter (is_free_of all) (range_with_len 1 (count + length all)))) ≡ false → count ≤ length (free_of_all 99999)
  enough-small none = ltb-false (length (free_of_all 99999)) count (sym (great-short 99999) ∙ none)

-- a name is free of these where it is free of them, each once
pub same-free : (all : List (List ℕ)) → is_free_of (each_once all) ≡ is_free_of all
same-free all = fun_ext (λ n. ap not (told-all (y_text n) [] all))

abbrev one_of : Bool → ℕ
one_of b = cond b 1 0

counted : (test : ℕ → Bool) (a n : ℕ) → length (filter test (range_with_len a (suc n))) ≡ length (filter test (range_with_len a n)) + cond (test (a + n)) 1 0
counted test a zero =
    let at : a ≡ a + 0 = omega arith in
    let one : length (filter test (range_with_len a 1)) ≡ cond (test a) 1 0 = by (test a) in
    let here : cond (test a) 1 0 ≡ cond (test (a + 0)) 1 0 = ap (λ (k : ℕ). one_of (test k)) at in
    let none : length (filter test (range_with_len a 0)) ≡ 0 = refl in
    omega (arith, one, here, none)
  where
    by : (b : Bool) → length (cond b (a ∷ []) []) ≡ cond b 1 0
    by true = refl
    by false = refl
counted test a (suc n) =
    by (test a) (counted test (a + 1) n ∙ ap (λ (k : ℕ). length (filter test (range_with_len (a + 1) n)) + cond (test k) 1 0) (let e : (a + 1) + n ≡ a + suc n = omega arith in e))
  where
    by : (b : Bool) → length (filter test (range_with_len (a + 1) (suc n))) ≡ length (filter test (range_with_len (a + 1) n)) + cond (test (a + suc n)) 1 0
        → length (cond b (a ∷ filter test (range_with_len (a + 1) (suc n))) (filter test (range_with_len (a + 1) (suc n)))) ≡ length (cond b (a ∷ filter test (range_with_len (a + 1) n)) (filter test (range_with_len (a + 1) n))) + cond (test (a + suc n)) 1 0
    by true more = omega (arith, more)
    by false more = more

pub counted-more : (test : ℕ → Bool) (n : ℕ) (count : ℕ) → count ≡ length (filter test (range_with_len 1 n)) → count + cond (test (n + 1)) 1 0 ≡ length (filter test (range_with_len 1 (n + 1)))
counted-more test n count is =
    let at : n + 1 ≡ 1 + n = omega arith in
    let next : suc n ≡ n + 1 = omega arith in
    ap (λ (k : ℕ). k + cond (test (n + 1)) 1 0) is
    ∙ ap (λ (k : ℕ). length (filter test (range_with_len 1 n)) + cond (test k) 1 0) at
    ∙ sym (counted test 1 n)
    ∙ ap (λ (k : ℕ). length (filter test (range_with_len 1 k))) next
