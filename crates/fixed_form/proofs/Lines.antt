-- The lines of a text, one after another.
use Rattle.std.proofs.Common.{◌≡◌, ◌==◌, nat_lt, Some, None, ℕ, suc, ◌+◌, ◌<◌, ◌≤◌, Bool, true, false, not, cond, List, [], ◌∷◌, length, take, drop, refl, sym, ap, ◌∙◌, subst, arith}
use Rattle.std.proofs.lemmas.List.Splits.{slice_split_first, length-slice_split}
use Rattle.std.proofs.lemmas.List.Sums.{prefix_len-le-length}
use Rattle.std.proofs.lemmas.Bool.{cond-false, ne_eqb, ltb-true, ltb-false}
use Rattle.std.proofs.lemmas.Option.{cond_some}
use Rattle.std.specs.List.{slice_split, onto_first, position_or_len, position}
use Rattle.std.specs.Str.Lines.{lines, lines_of_parts, strip_carriage_return}

abbrev is_break : ℕ → Bool
is_break c = c == 10

lines_of_parts-cons : (x : List ℕ) (parts : List (List ℕ)) → 0 < length parts → lines_of_parts (x ∷ parts) ≡ strip_carriage_return x ∷ lines_of_parts parts
lines_of_parts-cons x [] h = absurd (omega arith)
lines_of_parts-cons x (y ∷ more) h = refl

not_some : (b : Bool) (n : ℕ) → cond b (Some n) None ≡ None → b ≡ false
not_some true n e = absurd cc
not_some false n e = refl

lines_split : (xs : List ℕ) (n : ℕ) → n ≡ position_or_len is_break xs → n < length xs → lines xs ≡ strip_carriage_return (take n xs) ∷ lines (drop (n + 1) xs)
lines_split xs n is lt =
    let at : position_or_len is_break xs < length xs = omega arith in
    let P : ℕ → Type 0 = λ m. lines xs ≡ strip_carriage_return (take m xs) ∷ lines (drop (m + 1) xs) in
    let rest = drop (position_or_len is_break xs + 1) xs in
    let some : 0 < length (slice_split is_break rest) = omega (arith, length-slice_split is_break rest) in
    subst P (sym is) (ap lines_of_parts (slice_split_first is_break xs 0 at) ∙ lines_of_parts-cons (take (position_or_len is_break xs) xs) (slice_split is_break rest) some)

whole : (xs : List ℕ) → position_or_len is_break xs ≡ length xs → slice_split is_break xs ≡ xs ∷ []
whole [] e = refl
whole (x ∷ xs) e =
    elim (is_break x) as (λ b. cond (not b) (1 + position_or_len is_break xs) 0 ≡ suc (length xs) → cond b ([] ∷ slice_split is_break xs) (onto_first x (slice_split is_break xs)) ≡ (x ∷ xs) ∷ [])
    [ true ↦ λ h. absurd (omega (arith, h)) | false ↦ λ h. ap (onto_first x) (whole xs (omega (arith, h))) ] e

lines_last : (xs : List ℕ) (n : ℕ) → n ≡ position_or_len is_break xs → length xs ≤ n → 0 < length xs → lines xs ≡ xs ∷ lines []
lines_last xs n is le some =
    let e : position_or_len is_break xs ≡ length xs = omega (arith, prefix_len-le-length (λ c. not (is_break c)) xs) in
    ap lines_of_parts (whole xs e) ∙ cond-false (length xs == 0) [] (xs ∷ []) (ne_eqb (length xs) 0 (λ z. omega (arith, z)))

-- the first line ends in a break
pub lines_broken : (xs : List ℕ) (n : ℕ) → position (λ c. c == 10) xs ≡ Some n → lines xs ≡ strip_carriage_return (take n xs) ∷ lines (drop (n + 1) xs)
lines_broken xs n e =
    let at = cond_some (nat_lt (position_or_len is_break xs) (length xs)) (position_or_len is_break xs) n e in
    lines_split xs n (sym at.1) (omega (arith, ltb-true (position_or_len is_break xs) (length xs) at.0))

-- the last line has no break
pub lines_whole : (xs : List ℕ) → position (λ c. c == 10) xs ≡ None → 0 < length xs → lines xs ≡ xs ∷ lines []
lines_whole xs e some =
    let past : length xs ≤ position_or_len is_break xs = ltb-false (position_or_len is_break xs) (length xs) (not_some (nat_lt (position_or_len is_break xs) (length xs)) (position_or_len is_break xs) e) in
    lines_last xs (position_or_len is_break xs) refl past some
