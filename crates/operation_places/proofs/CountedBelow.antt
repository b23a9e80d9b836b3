-- Counts and marks of the nodes below one.
use Rattle.std.proofs.Common.{◌≡◌, ◌<◌, ◌+◌, ◌==◌, ◌⊎◌, inl, inr, ℕ, Bool, List, [], ◌∷◌, ◌++◌, length, set, map, sym, ap, ◌∙◌, arith}
use Rattle.std.specs.List.{range_with_len}
use Rattle.std.proofs.lemmas.Bool.{cases_eq}
use Rattle.std.proofs.lemmas.List.{length-set, get_or-set_same, get_or-set_other}
use Rattle.std.proofs.lemmas.List.FromFn.{map-range_with_len_more}
use Rattle.firing.specs.ReadySet.{has}
use Rattle.operation_places.specs.Counts.{AreCounts}

-- the nodes below k of n are counted
pub record CountedBelow (n k : ℕ) (count : ℕ → ℕ) (numbers : List ℕ) (flags : List Bool) : Type 0 where
  pub counts : numbers ≡ map count (range_with_len 0 k)
  pub room : length flags ≡ n
  pub right : (j : ℕ) → j < k → has flags j ≡ (count j == 0)

pub none_counted : (n : ℕ) (count : ℕ → ℕ) (numbers : List ℕ) (flags : List Bool) → numbers ≡ [] → length flags ≡ n → CountedBelow n 0 count numbers flags
none_counted n count numbers flags none room = record { counts = none; room = room; right = λ j low. absurd (omega (arith, low)) }

pub next_counted : (n k : ℕ) (count : ℕ → ℕ) (numbers more : List ℕ) (flags marks : List Bool) → CountedBelow n k count numbers flags → k < n → more ≡ numbers ++ count k ∷ [] → marks ≡ set flags k (count k == 0) → CountedBelow n (k + 1) count more marks
next_counted n k count numbers more flags marks below node is_more is_marks = record {
  counts = is_more ∙ ap (λ xs. xs ++ count k ∷ []) below.counts ∙ sym (map-range_with_len_more count 0 k k (omega arith));
  room = ap length is_marks ∙ length-set flags k (count k == 0) ∙ below.room;
  right = λ j low. at j low (cases_eq j k);
}
  where
    inside : k < length flags
    inside = let room = below.room in omega (arith, room, node)

    at : (j : ℕ) → j < k + 1 → (j ≡ k) ⊎ (j ≡ k → ⊥) → has marks j ≡ (count j == 0)
    at j low (inl e) = ap (has marks) e ∙ ap (λ xs. has xs k) is_marks ∙ get_or-set_same flags k (count k == 0) Rattle.std.proofs.Common.false inside ∙ ap (λ i. count i == 0) (sym e)
    at j low (inr differ) = ap (λ xs. has xs j) is_marks ∙ get_or-set_other flags k j (count k == 0) Rattle.std.proofs.Common.false differ ∙ below.right j (omega (arith, low, differ))

pub all_counted : (n k : ℕ) (count : ℕ → ℕ) (but : ℕ → Bool) (numbers : List ℕ) (flags : List Bool) → k ≡ n → CountedBelow n k count numbers flags → AreCounts n count but numbers flags
all_counted n k count but numbers flags all below = record {
  counts = below.counts ∙ ap (λ m. map count (range_with_len 0 m)) all;
  marks = record { room = below.room; right = λ j low free. below.right j (omega (arith, low, all)) };
}
