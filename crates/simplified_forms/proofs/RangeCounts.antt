-- How many numbers below one pass a test, and tables of numbers.
use Rattle.std.proofs.Common.{◌≡◌, ℕ, ◌+◌, ◌<◌, ◌≤◌, Bool, true, false, List, [], ◌∷◌, ◌++◌, get_or, refl, sym, ap, ◌∙◌, ⊎_elim, arith}
use mir.Val.{bool_byte}
use Rattle.std.specs.List.{count_by, range_with_len}
use Rattle.std.proofs.lemmas.List.FromFn.{length-range_with_len}
use Rattle.std.proofs.lemmas.List.Sums.{count_by-le-length}
use Rattle.std.proofs.lemmas.List.{get_or_read, get_or_push, get_or_append_left, length_push}
use Rattle.std.proofs.lemmas.Bool.{cases_eq}
use Rattle.list_laws.proofs.Counts.{bit, count-append, count-cons, count_same}
use Rattle.list_laws.proofs.Members.{Member-in_range}
use Rattle.list_laws.proofs.Ranges.{range_more}
use Rattle.simplified_forms.specs.Tables.{IsTable, AreAnswers}

pub bit-most : (b : Bool) → bit b ≤ 1
bit-most true = omega arith
bit-most false = omega arith

-- a truth as a number
pub byte-bit : (b : Bool) → bool_byte b ≡ bit b
byte-bit true = refl
byte-bit false = refl

-- what is read in a table
pub entry_read : (f : ℕ → ℕ) (n k v : ℕ) (table : List ℕ) → IsTable f n table → k < n → v ≡ get_or table k v → v ≡ f k
entry_read f n k v table is less read = get_or_read table k v (omega (arith, less, is.size)) read 0 ∙ is.entry k less

-- one more in a table
pub table-push : (f : ℕ → ℕ) (k v : ℕ) (table : List ℕ) → IsTable f k table → v ≡ f k → IsTable f (k + 1) (table ++ v ∷ [])
table-push f k v table are is =
    let size = length_push table v in
    record {
      size = omega (arith, size, are.size);
      entry = λ j less.
          ⊎_elim
          (λ (here : j ≡ k). get_or_push table v 0 j (are.size ∙ sym here) ∙ is ∙ sym (ap f here))
          (λ other. get_or_append_left table (v ∷ []) 0 j (omega (arith, less, other, are.size)) ∙ are.entry j (omega (arith, less, other)))
          (cases_eq j k);
    }

pub answers-push : (f : ℕ → Bool) (k : ℕ) (v : Bool) (table : List Bool) → AreAnswers f k table → v ≡ f k → AreAnswers f (k + 1) (table ++ v ∷ [])
answers-push f k v table are is =
    let size = length_push table v in
    record {
      size = omega (arith, size, are.size);
      entry = λ j less.
          ⊎_elim
          (λ (here : j ≡ k). get_or_push table v false j (are.size ∙ sym here) ∙ is ∙ sym (ap f here))
          (λ other. get_or_append_left table (v ∷ []) false j (omega (arith, less, other, are.size)) ∙ are.entry j (omega (arith, less, other)))
          (cases_eq j k);
    }

module _ (p : ℕ → Bool) where
  pub count-range-more : (k : ℕ) → count_by p (range_with_len 0 (k + 1)) ≡ count_by p (range_with_len 0 k) + bit (p k)
  count-range-more k =
      let one : count_by p (k ∷ []) ≡ bit (p k) = omega (arith, count-cons p k []) in
      ap (count_by p) (range_more k) ∙ count-append p (range_with_len 0 k) (k ∷ []) ∙ ap (λ n. count_by p (range_with_len 0 k) + n) one

  pub count-range-most : (k : ℕ) → count_by p (range_with_len 0 k) ≤ k
  count-range-most k = let most = count_by-le-length p (range_with_len 0 k) in omega (arith, most, length-range_with_len 0 k)

-- two tests that agree below a number
pub count-range-same : (p q : ℕ → Bool) (k : ℕ) → ((j : ℕ) → j < k → p j ≡ q j) → count_by p (range_with_len 0 k) ≡ count_by q (range_with_len 0 k)
count-range-same p q k same = count_same p q (range_with_len 0 k) (λ j m. let inside = Member-in_range 0 k j m in same j (omega (arith, inside.1)))
