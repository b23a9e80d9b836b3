-- Tables that are made from the end of a list, of the first places whose elements pass tests.
use Rattle.std.proofs.Common.{◌≡◌, ◌≢◌, ℕ, ◌+◌, ◌-◌, ◌<◌, Bool, true, false, not, List, length, get_or, drop, replicate, Some, sym, ap, ◌∙◌, ⊎_elim, arith}
use Rattle.std.specs.Prelude.{slice_get, slice_index, slice_set}
use Rattle.std.specs.List.{position_or_len, range_with_len}
use Rattle.std.proofs.lemmas.Bool.{cases_eq}
use Rattle.std.proofs.lemmas.Grind.{get_or-set_at}
use Rattle.std.proofs.lemmas.List.{get_or-set_other, get_or-replicate, length-replicate, length-set}
use Rattle.std.proofs.lemmas.List.FromFn.{get_or-range_with_len, length-range_with_len}
use Rattle.std.proofs.lemmas.List.Sums.{prefix_len-drop_all, prefix_len-drop_no, prefix_len-drop_yes}
use Rattle.std.proofs.lemmas.Option.{slice_get_within, slice_get-get_or, get_or_from_slice_get}
use Rattle.simplified_forms.specs.Tables.{IsTable}

module _ {X : Type 0} (p : X → Bool) (xs : List X) where
  -- the first place from i on whose element passes, or the length
  abbrev pub first_from : (i : ℕ) → ℕ
  first_from i = i + position_or_len p (drop i xs)

  pub first-here : (i : ℕ) (x : X) → slice_get xs i ≡ Some x → p x ≡ true → first_from i ≡ i
  first-here i x at is =
      let less = slice_get_within xs i x at in
      let read : get_or xs i x ≡ x = get_or_from_slice_get xs i x x at in
      let none = prefix_len-drop_no (λ y. not (p y)) xs i x less (ap (λ y. not (p y)) read ∙ ap not is) in
      omega (arith, none)

  pub first-later : (i : ℕ) (x : X) → slice_get xs i ≡ Some x → p x ≡ false → first_from i ≡ first_from (i + 1)
  first-later i x at is =
      let less = slice_get_within xs i x at in
      let read : get_or xs i x ≡ x = get_or_from_slice_get xs i x x at in
      let more = prefix_len-drop_yes (λ y. not (p y)) xs i x less (ap (λ y. not (p y)) read ∙ ap not is) in
      omega (arith, more)

-- for each k below n the first place from i on whose element passes the test k
module _ {X : Type 0} (p : ℕ → X → Bool) (xs : List X) (n : ℕ) where
  abbrev pub IsFrom : (i : ℕ) → List ℕ → Type 0
  IsFrom i table = IsTable (λ k. first_from (p k) xs i) n table

  -- the element before passes one test alone
  pub from-set : (i j : ℕ) (x : X) (table : List ℕ) → 0 < i → IsFrom i table → slice_get xs (i - 1) ≡ Some x → p j x ≡ true → ((k : ℕ) → k ≢ j → p k x ≡ false) → IsFrom (i - 1) (slice_set table j (i - 1))
  from-set i j x table some are at is others =
      let back : i - 1 + 1 ≡ i = omega (arith, some) in
      record {
        size = length-set table j (i - 1) ∙ are.size;
        entry = λ k less.
            ⊎_elim
            (λ (e : k ≡ j).
            get_or-set_at table j k (i - 1) 0 e (omega (arith, less, e, are.size)) ∙ sym (first-here (p k) xs (i - 1) x at (ap (λ m. p m x) e ∙ is)))
            (λ ne.
            get_or-set_other table j k (i - 1) 0 ne ∙ are.entry k less ∙ ap (first_from (p k) xs) (sym back) ∙ sym (first-later (p k) xs (i - 1) x at (others k ne)))
            (cases_eq k j);
      }

  -- the element before passes none
  pub from-same : (i : ℕ) (x : X) (table : List ℕ) → 0 < i → IsFrom i table → slice_get xs (i - 1) ≡ Some x → ((k : ℕ) → k < n → p k x ≡ false) → IsFrom (i - 1) table
  from-same i x table some are at none =
      let back : i - 1 + 1 ≡ i = omega (arith, some) in
      record {
        size = are.size;
        entry = λ k less. are.entry k less ∙ ap (first_from (p k) xs) (sym back) ∙ sym (first-later (p k) xs (i - 1) x at (none k less));
      }

-- ---- numbers below n, one after another

pub range-at : (n i : ℕ) → i < n → slice_get (range_with_len 0 n) i ≡ Some i
range-at n i less =
    let inside : i < length (range_with_len 0 n) = omega (arith, less, length-range_with_len 0 n) in
    let at = get_or-range_with_len 0 n i 0 less in
    let is : get_or (range_with_len 0 n) i 0 ≡ i = omega (arith, at) in
    slice_get-get_or (range_with_len 0 n) i 0 inside ∙ ap (λ k. Some k) is

first-end : (p : ℕ → Bool) (n e : ℕ) → e ≡ n → first_from p (range_with_len 0 n) e ≡ n
first-end p n e is =
    let size = length-range_with_len 0 n in
    let none = prefix_len-drop_all (λ k. not (p k)) (range_with_len 0 n) e (omega (arith, size, is)) in
    omega (arith, none, is)

-- at the end of the numbers the table tells how many there are
pub from-end : (p : ℕ → ℕ → Bool) (n m e a b : ℕ) (table : List ℕ) → table ≡ replicate b a → a ≡ n → b ≡ m → e ≡ n → IsFrom p (range_with_len 0 n) m e table
from-end p n m e a b table are count size end =
    record {
      size = ap length are ∙ length-replicate b a ∙ size;
      entry = λ k less. ap (λ (t : List ℕ). slice_index t k) are ∙ get_or-replicate b k a 0 (omega (arith, less, size)) ∙ count ∙ sym (first-end (p k) n e end);
    }
