-- Marks in rows of words.
use Rattle.std.proofs.Common.{◌≡◌, ◌≢◌, ℕ, zero, ◌+◌, ◌/◌, ◌%◌, ◌<◌, ◌≤◌, Bool, true, false, ◌==◌, ◌&&◌, ◌||◌, List, [], ◌∷◌, ◌++◌, length, get_or, set, replicate, refl, sym, ap, ◌∙◌, subst, ⊎_elim, arith, get_or-set_same, get_or-set_other, length-append}
use Rattle.std.proofs.lemmas.Nat.Bits.{bit_at_set_same, bit_at_set_other}
use Rattle.std.proofs.lemmas.Bool.{cases_eq, cases_lt, eq-eqb, ne_eqb}
use Rattle.std.proofs.lemmas.Bool.Decides.{nat_tests}
use Rattle.std.proofs.lemmas.List.{get_or_past, get_or-replicate, length-replicate, get_or_append_left, get_or_push, get_or_default}
use Rattle.std.specs.Int.{bit_at, w64}
use Rattle.redundancy.specs.Available.{has_bit, has_mark}
use Rattle.redundancy.specs.Noted.{IsMarked}
use Rattle.redundancy.specs.Numbers.{with_bit}

pub with_bit_tells : (word n k : ℕ) → n < 64 → has_bit (with_bit word n) k ≡ (has_bit word k || (k == n))
with_bit_tells word n k within = ⊎_elim
    (λ (h : k ≡ n). let e : bit_at (with_bit word n) k ≡ 1 = rw h (bit_at_set_same w64 word n within) in grind (arith, nat_tests))
    (λ (h : k ≢ n). let e : bit_at (with_bit word n) k ≡ bit_at word k = bit_at_set_other w64 word n within k h in grind (arith, nat_tests))
    (cases_eq k n)

or_false : (a : Bool) → (a || false) ≡ a
or_false true = refl
or_false false = refl

and_true : (a b : Bool) → b ≡ true → (a && b) ≡ a
and_true true b is = is
and_true false b is = refl

and_false : (a b : Bool) → b ≡ false → (a && b) ≡ false
and_false true b is = is
and_false false b is = refl

false_and : (a b : Bool) → a ≡ false → (a && b) ≡ false
false_and true b is = let e : true ≡ false = is in absurd cc
false_and false b is = refl

zero_word : (n v : ℕ) → get_or (replicate n zero) v 0 ≡ 0
zero_word n v = ⊎_elim
    (λ (h : v < n). get_or-replicate n v zero 0 h)
    (λ (h : n ≤ v). get_or_past (replicate n zero) v 0 (rw length-replicate h))
    (cases_lt v n)

same_place : (j k : ℕ) → j / 64 ≡ k / 64 → (j % 64 == k % 64) ≡ (j == k)
same_place j k h = grind (arith, nat_tests)

-- a bit more in a word of a row
pub marked_row : (rows : List (List ℕ)) (k node : ℕ) (row : List ℕ) → k / 64 < length rows → row ≡ get_or rows (k / 64) [] → node < length row → IsMarked k node rows (set rows (k / 64) (set row node (with_bit (get_or row node 0) (k % 64))))
marked_row rows k node row within is inside j v =
    let word = with_bit (get_or row node 0) (k % 64) in
    let new = set rows (k / 64) (set row node word) in
    let low : k % 64 < 64 = omega arith in
    ⊎_elim
    (λ (same_row : j / 64 ≡ k / 64). ⊎_elim
    (λ (same_node : v ≡ node).
    let row_is : get_or new (j / 64) [] ≡ set row node word = ap (λ x. get_or new x []) same_row ∙ get_or-set_same rows (k / 64) (set row node word) [] within in
    let word_is : get_or (get_or new (j / 64) []) v 0 ≡ word = ap (λ (r : List ℕ). get_or r v 0) row_is ∙ ap (λ x. get_or (set row node word) x 0) same_node ∙ get_or-set_same row node word 0 inside in
    let old_is : get_or row node 0 ≡ get_or (get_or rows (j / 64) []) v 0 = ap (λ (r : List ℕ). get_or r node 0) (is ∙ ap (λ x. get_or rows x []) (sym same_row)) ∙ ap (λ x. get_or (get_or rows (j / 64) []) x 0) (sym same_node) in
    ap (λ w. has_bit w (j % 64)) word_is ∙ with_bit_tells (get_or row node 0) (k % 64) (j % 64) low ∙ ap (λ w. has_bit w (j % 64) || (j % 64 == k % 64)) old_is ∙ ap (λ b. has_mark rows j v || b) (same_place j k same_row ∙ sym (and_true (j == k) (v == node) (eq-eqb v node same_node))))
    (λ (other_node : v ≢ node).
    let row_is : get_or new (j / 64) [] ≡ set row node word = ap (λ x. get_or new x []) same_row ∙ get_or-set_same rows (k / 64) (set row node word) [] within in
    let word_is : get_or (get_or new (j / 64) []) v 0 ≡ get_or (get_or rows (j / 64) []) v 0 = ap (λ (r : List ℕ). get_or r v 0) row_is ∙ get_or-set_other row node v word 0 other_node ∙ ap (λ (r : List ℕ). get_or r v 0) (is ∙ ap (λ x. get_or rows x []) (sym same_row)) in
    ap (λ w. has_bit w (j % 64)) word_is ∙ sym (or_false (has_mark rows j v)) ∙ ap (λ b. has_mark rows j v || b) (sym (and_false (j == k) (v == node) (ne_eqb v node other_node))))
    (cases_eq v node))
    (λ (other_row : j / 64 ≢ k / 64).
    let row_is : get_or new (j / 64) [] ≡ get_or rows (j / 64) [] = get_or-set_other rows (k / 64) (j / 64) (set row node word) [] other_row in
    let differ : j ≢ k = λ e. other_row (ap (λ x. x / 64) e) in
    ap (λ (r : List ℕ). has_bit (get_or r v 0) (j % 64)) row_is ∙ sym (or_false (has_mark rows j v)) ∙ ap (λ b. has_mark rows j v || b) (sym (false_and (j == k) (v == node) (ne_eqb j k differ))))
    (cases_eq (j / 64) (k / 64))

-- a row without marks after the rows adds none
pub blank_row : (rows : List (List ℕ)) (n j v : ℕ) → has_mark (rows ++ replicate n zero ∷ []) j v ≡ has_mark rows j v
blank_row rows n j v = ⊎_elim
    (λ (l : j / 64 < length rows). ap (λ (r : List ℕ). has_bit (get_or r v 0) (j % 64)) (get_or_append_left rows (replicate n zero ∷ []) [] (j / 64) l))
    (λ (m : length rows ≤ j / 64).
    let old : get_or (get_or rows (j / 64) []) v 0 ≡ 0 = ap (λ (r : List ℕ). get_or r v 0) (get_or_past rows (j / 64) [] m) in
    let new : get_or (get_or (rows ++ replicate n zero ∷ []) (j / 64) []) v 0 ≡ 0 = ⊎_elim
    (λ (last : j / 64 ≡ length rows). ap (λ (r : List ℕ). get_or r v 0) (get_or_push rows (replicate n zero) [] (j / 64) (sym last)) ∙ zero_word n v)
    (λ (beyond : j / 64 ≢ length rows). let more = length-append rows (replicate n zero ∷ []) in ap (λ (r : List ℕ). get_or r v 0) (get_or_past (rows ++ replicate n zero ∷ []) (j / 64) [] (omega (arith, more, m, beyond))))
    (cases_eq (j / 64) (length rows))
    in
    ap (λ w. has_bit w (j % 64)) (new ∙ sym old))
    (cases_lt (j / 64) (length rows))

-- there is a row for the candidate
pub record IsRoomy (rows new : List (List ℕ)) (k nodes : ℕ) : Type 0 where
  pub within : k / 64 < length new
  pub same : (j v : ℕ) → has_mark new j v ≡ has_mark rows j v
  pub size : length (get_or new (k / 64) []) ≡ nodes

pub roomy_new : (rows new : List (List ℕ)) (row : List ℕ) (k nodes : ℕ) → k / 64 ≡ length rows → row ≡ replicate nodes zero → new ≡ rows ++ row ∷ [] → IsRoomy rows new k nodes
roomy_new rows new row k nodes at blank is =
    let more = length-append rows (row ∷ []) in
    let longer : length new ≡ length rows + 1 = ap length is ∙ more in
    record {
      within = omega (arith, at, longer);
      same = λ j v. ap (λ (z : List (List ℕ)). has_mark z j v) (is ∙ ap (λ (r : List ℕ). rows ++ r ∷ []) blank) ∙ blank_row rows nodes j v;
      size = ap (λ (z : List (List ℕ)). length (get_or z (k / 64) [])) is ∙ ap length (get_or_push rows row [] (k / 64) (sym at)) ∙ ap length blank ∙ length-replicate nodes zero;
    }

pub roomy_old : (rows new : List (List ℕ)) (k nodes : ℕ) → k / 64 < length rows → ((r : ℕ) → r < length rows → length (get_or rows r []) ≡ nodes) → new ≡ rows → IsRoomy rows new k nodes
roomy_old rows new k nodes within each is = record {
  within = subst (λ (z : List (List ℕ)). k / 64 < length z) (sym is) within;
  same = λ j v. ap (λ (z : List (List ℕ)). has_mark z j v) is;
  size = ap (λ (z : List (List ℕ)). length (get_or z (k / 64) [])) is ∙ each (k / 64) within;
}

pub marked_in : (rows new : List (List ℕ)) (k nodes node : ℕ) (row set_row : List ℕ) → IsRoomy rows new k nodes → node < nodes → row ≡ get_or new (k / 64) row → set_row ≡ set row node (with_bit (get_or row node 0) (k % 64)) → IsMarked k node rows (set new (k / 64) set_row)
marked_in rows new k nodes node row set_row roomy less read is j v =
    let row_is : row ≡ get_or new (k / 64) [] = read ∙ sym (get_or_default new (k / 64) [] row roomy.within) in
    let size = ap length row_is ∙ roomy.size in
    let inside : node < length row = omega (arith, size, less) in
    ap (λ (r : List ℕ). has_mark (set new (k / 64) r) j v) is ∙ marked_row new k node row roomy.within row_is inside j v ∙ ap (λ b. b || ((j == k) && (v == node))) (roomy.same j v)
