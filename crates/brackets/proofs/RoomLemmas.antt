-- Lists that are empty, and a slab that is full.
use Rattle.std.proofs.Common.{◌≡◌, ℕ, zero, suc, ◌+◌, ◌*◌, ◌<◌, ◌≤◌, ◌^◌, List, [], ◌∷◌, length, replicate, count_by, slice_index_or, IsSome, is_some, cond, Option, Some, None, refl, sym, subst, ◌∙◌, arith}
use Rattle.std.proofs.lemmas.List.Sums.{sum_by-cons}
use Rattle.std.proofs.lemmas.List.{get_or-replicate, get_or_past, length-replicate}
use Rattle.brackets.specs.Brackets.{AreApart, IsOnce, Stands, list_at}
use Rattle.brackets.specs.Kept.{AreKept, IsKept, lists_of, no_ends}
use Rattle.brackets.specs.declared.lists.Cell.{Cell}
use Rattle.brackets.proofs.KeptLemmas.{Link, are_kept, lists_are}

-- ---- as many values as places below a number

one_more : (cell : Cell) (slots : List (Option Cell)) → count_by is_some (Some cell ∷ slots) ≡ 1 + count_by is_some slots
one_more cell slots = sum_by-cons (λ slot. cond (is_some slot) 1 0) (Some cell) slots

few_filled : (slots : List (Option Cell)) (n : ℕ) → ((x : ℕ) → IsSome (slice_index_or slots x None) → x < n) → count_by is_some slots ≤ n
few_filled [] n below = omega arith
few_filled (None ∷ slots) zero below = few_filled slots zero (λ x some. let lt = below (suc x) some in absurd (omega (arith, lt)))
few_filled (None ∷ slots) (suc n) below = let rest = few_filled slots n (λ x some. let lt = below (suc x) some in omega (arith, lt)) in omega (arith, rest)
few_filled (Some cell ∷ slots) zero below = let lt = below 0 refl in absurd (omega (arith, lt))
few_filled (Some cell ∷ slots) (suc n) below =
    let rest = few_filled slots n (λ x some. let lt = below (suc x) some in omega (arith, lt)) in
    let more = one_more cell slots in
    omega (arith, rest, more)

pub all_filled : (slots : List (Option Cell)) (n x : ℕ) → count_by is_some slots ≡ n → ((y : ℕ) → IsSome (slice_index_or slots y None) → y < n) → x < n → IsSome (slice_index_or slots x None)
all_filled [] n x count below lt = absurd (omega (arith, count, lt))
all_filled (slot ∷ slots) zero x count below lt = absurd (omega (arith, lt))
all_filled (None ∷ slots) (suc n) x count below lt =
    let rest = few_filled slots n (λ y some. let less = below (suc y) some in omega (arith, less)) in
    absurd (omega (arith, rest, count))
all_filled (Some cell ∷ slots) (suc n) zero count below lt = refl
all_filled (Some cell ∷ slots) (suc n) (suc x) count below lt = all_filled slots n x (let more = one_more cell slots in omega (arith, count, more)) (λ y some. let less = below (suc y) some in omega (arith, less)) (omega (arith, lt))

-- ---- lists without brackets

pub none_at : (n l : ℕ) → list_at (replicate n []) l ≡ []
none_at zero l = get_or_past (replicate zero []) l [] (omega arith)
none_at (suc n) zero = refl
none_at (suc n) (suc l) = none_at n l

none_apart : (n : ℕ) → AreApart (replicate n [])
none_apart n = record {
  in_range = λ l x stands. absurd (subst (λ xs. Stands xs x) (none_at n l) stands);
  once = λ l. subst IsOnce (sym (none_at n l)) tt;
  one_list = λ l m x stands other. absurd (subst (λ xs. Stands xs x) (none_at n l) stands);
}

module _ (cells : List (Option Cell)) (n capacity : ℕ) (few : n < 2 ^ 31) (enough : 2 * n ≤ capacity) (count : count_by is_some cells ≡ capacity) (below : (x : ℕ) → IsSome (slice_index_or cells x None) → x < capacity) where
  room_links : Link cells (replicate n no_ends) (replicate n [])
  room_links = record {
    same_length = length-replicate n [] ∙ sym (length-replicate n no_ends);
    few = let many : length (replicate n no_ends) ≡ n = length-replicate n no_ends in omega (arith, few, many);
    has_cell = λ x lt. all_filled cells capacity x count below (let many : length (replicate n no_ends) ≡ n = length-replicate n no_ends in omega (arith, lt, many, enough));
    kept = λ l lt. subst (λ e. IsKept cells e (list_at (replicate n []) l)) (sym (get_or-replicate n l no_ends no_ends (subst (λ m. l < m) (length-replicate n no_ends) lt)))
        (subst (IsKept cells no_ends) (sym (none_at n l)) (record { chain = tt; top = refl; bottom = refl; size = refl }));
  }

  pub room_are : AreKept cells (replicate n no_ends)
  room_are = are_kept cells (replicate n no_ends) (replicate n []) room_links (none_apart n)

  pub room_seen : lists_of cells (replicate n no_ends) ≡ replicate n []
  room_seen = lists_are cells (replicate n no_ends) (replicate n []) room_links
