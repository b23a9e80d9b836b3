-- The lines of a printed statement are without fault, and give its text.
use Rattle.std.proofs.Common.{◌≡◌, ◌==◌, ℕ, zero, suc, ◌+◌, ◌*◌, ◌≤◌, Bool, true, false, List, [], ◌∷◌, ◌++◌, length, map, take, drop, replicate, refl, sym, ap, ◌∙◌, arith}
use Rattle.std.specs.Prelude.{codes}
use Rattle.std.specs.List.{list_all, range_with_len, fold}
use Rattle.std.proofs.lemmas.Bool.{and_parts}
use Rattle.std.proofs.lemmas.List.{drop-append-le, drop-drop}
use Rattle.fixed_form.specs.Columns.{card, is_character, statement_field}
use Rattle.fixed_form.specs.SourceLine.{numbered, numbered_from}
use Rattle.fixed_form.specs.Statement.{joined, inside_after, text}
use Rattle.read_back.proofs.FoldedTexts.{text_padded}
use Rattle.read_back.proofs.LabelColumns.{TellsLabel}
use Rattle.read_back.proofs.LineBlocks.{Block, IsBlock, AreContinuations, block_statement}
use Rattle.read_back.proofs.PrintedCards.{field, field_padded, next_margin, next_kind, next_field, next_unlabelled, next_characters, first_field, first_label, first_labelled, first_characters, first_kind, all_taken}

-- ---- texts in pieces

take_nothing : (n : ℕ) → take {A = ℕ} n [] ≡ []
take_nothing zero = refl
take_nothing (suc n) = refl

take_sum : (a b : ℕ) (xs : List ℕ) → take (a + b) xs ≡ take a xs ++ take b (drop a xs)
take_sum zero b xs = ap (λ n. take n xs) (omega arith)
take_sum (suc a) b [] = take_nothing (suc a + b) ∙ sym (take_nothing b)
take_sum (suc a) b (x ∷ xs) =
    let e : suc a + b ≡ suc (a + b) = omega arith in
    ap (λ n. take n (x ∷ xs)) e ∙ ap (λ ys. x ∷ ys) (take_sum a b xs)

pub all_dropped : (p : ℕ → Bool) (n : ℕ) (xs : List ℕ) → list_all p xs ≡ true → list_all p (drop n xs) ≡ true
all_dropped p zero xs h = h
all_dropped p (suc n) [] h = refl
all_dropped p (suc n) (x ∷ xs) h = all_dropped p n xs (and_parts (p x) (list_all p xs) h).1

-- ---- continuation lines

-- what a line has of a text, if the first line is 0
abbrev pub piece : List ℕ → ℕ → List ℕ
piece xs k = take 66 (drop (66 * k) xs)

abbrev pub next_line : List ℕ → ℕ → List ℕ
next_line xs k = next_margin ++ piece xs k

-- n continuation lines, of which the first is the line k of the statement
abbrev pub next_lines : List ℕ → (k n : ℕ) → List (List ℕ)
next_lines xs k n = map (next_line xs) (range_with_len k n)

next_fine : (xs : List ℕ) (k n number : ℕ) → list_all is_character xs ≡ true → AreContinuations (numbered_from number (next_lines xs k n))
next_fine xs k zero number all = tt
next_fine xs k (suc n) number all =
    grind (arith, all_taken is_character 66 (drop (66 * k) xs) (all_dropped is_character (66 * k) xs all), all_dropped is_character (66 * k) xs all, next_kind, next_characters, next_unlabelled, next_fine xs (k + 1) n (number + 1) all)

next_count : (xs : List ℕ) (k n number : ℕ) → length (numbered_from number (next_lines xs k n)) ≡ n
next_count xs k zero number = refl
next_count xs k (suc n) number = ap suc (next_count xs (k + 1) n (number + 1))

-- a piece as its line has it, where so many blanks follow the text
piece_padded : (xs : List ℕ) (k blanks : ℕ) → 66 * k ≤ length xs → 66 ≤ blanks → field (piece xs k) ≡ piece (xs ++ replicate blanks 32) k
piece_padded xs k blanks inside le = grind (arith, field_padded (drop (66 * k) xs) blanks le, drop-append-le (66 * k) xs (replicate blanks 32) inside)

next_joined : (xs : List ℕ) (k n number blanks : ℕ) → 66 ≤ blanks → 66 * (k + n) ≤ length xs + 66 → joined (numbered_from number (next_lines xs k n)) ≡ take (66 * n) (drop (66 * k) (xs ++ replicate blanks 32))
next_joined xs k zero number blanks le inside = refl
next_joined xs k (suc n) number blanks le inside =
    let whole = xs ++ replicate blanks 32 in
    let first : statement_field (card (next_line xs k)) ≡ piece whole k = next_field (piece xs k) ∙ piece_padded xs k blanks (omega (arith, inside)) le in
    let rest = next_joined xs (k + 1) n (number + 1) blanks le (omega (arith, inside)) in
    let at : 66 * k + 66 ≡ 66 * (k + 1) = omega arith in
    let count : 66 + 66 * n ≡ 66 * suc n = omega arith in
    ap (λ t. t ++ joined (numbered_from (number + 1) (next_lines xs (k + 1) n))) first
    ∙ ap (λ t. piece whole k ++ t) (rest ∙ ap (λ d. take (66 * n) (drop d whole)) (sym at) ∙ ap (take (66 * n)) (sym (drop-drop 66 (66 * k) whole)))
    ∙ sym (take_sum 66 (66 * n) (drop (66 * k) whole))
    ∙ ap (λ m. take m (drop (66 * k) whole)) count

-- ---- statements

-- the lines of a statement with n continuation lines, after five columns for its label
abbrev pub statement_lines : (columns xs : List ℕ) → (n : ℕ) → List (List ℕ)
statement_lines columns xs n = ((columns ++ codes " ") ++ take 66 xs) ∷ next_lines xs 1 n

abbrev pub block_of : (columns xs : List ℕ) → (number n : ℕ) → Block
block_of columns xs number n = record { initial = numbered number ((columns ++ codes " ") ++ take 66 xs); more = numbered_from (number + 1) (next_lines xs 1 n) }

pub block_fine : (label : ℕ) (columns : List ℕ) (c : ℕ) (xs : List ℕ) (number n : ℕ) → TellsLabel label columns → (c == 32) ≡ false → list_all is_character (c ∷ xs) ≡ true → n ≤ 19 → IsBlock (block_of columns (c ∷ xs) number n)
block_fine label columns c xs number n tells visible all few =
    grind (arith, all_taken is_character 66 (c ∷ xs) all, next_count (c ∷ xs) 1 n (number + 1), first_kind columns tells.five c, first_characters columns tells.five, first_labelled columns tells.five, next_fine (c ∷ xs) 1 n (number + 1) all)

block_text : (columns xs : List ℕ) (number n : ℕ) → length columns ≡ 5 → 66 * n ≤ length xs → length xs ≤ 66 * suc n → fold inside_after false xs ≡ false → text (joined (numbered_from number (statement_lines columns xs n))) ≡ text xs
block_text columns xs number n five least most closed =
    let blanks = 66 * suc n in
    let whole = xs ++ replicate blanks 32 in
    let first : statement_field (card ((columns ++ codes " ") ++ take 66 xs)) ≡ take 66 whole = first_field columns five (take 66 xs) ∙ field_padded xs blanks (omega arith) in
    let count : 66 + 66 * n ≡ 66 * suc n = omega arith in
    ap text (ap (λ t. t ++ joined (numbered_from (number + 1) (next_lines xs 1 n))) first
    ∙ ap (λ t. take 66 whole ++ t) (next_joined xs 1 n (number + 1) blanks (omega arith) (omega (arith, least)))
    ∙ sym (take_sum 66 (66 * n) whole)
    ∙ ap (λ m. take m whole) count)
    ∙ text_padded xs (66 * suc n) blanks most (omega arith) closed

-- the statement that they make
pub block_reads : (label : ℕ) (columns xs : List ℕ) (number n : ℕ) → TellsLabel label columns → 66 * n ≤ length xs → length xs ≤ 66 * suc n → fold inside_after false xs ≡ false → block_statement (block_of columns xs number n) ≡ record { label = label; line = number; text = text xs }
block_reads label columns xs number n tells least most closed =
    grind (arith, block_text columns xs number n tells.five least most closed, first_label columns tells.five (take 66 xs))
