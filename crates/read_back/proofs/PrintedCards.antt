-- The cards of printed lines: their first six columns, and what they have of the text after them.
use Rattle.std.proofs.Common.{◌≡◌, ℕ, zero, suc, ◌+◌, ◌≤◌, Bool, true, false, cond, leb, ◌&&◌, ◌||◌, ◌==◌, List, [], ◌∷◌, ◌++◌, length, get_or, take, replicate, refl, sym, ap, ◌∙◌, arith, append_assoc, length-append}
use Rattle.std.specs.Prelude.{codes}
use Rattle.std.specs.Char.{is_ascii_digit}
use Rattle.std.specs.List.{list_all, list_any, filter}
use Rattle.std.proofs.Math.Seq.{take-append-add}
use Rattle.std.proofs.lemmas.Bool.{and_from, eqb-true, ne_eqb, leb-true}
use Rattle.std.proofs.lemmas.List.{take-replicate, take_at, drop_at, get_or_at, get_or_append_left}
use Rattle.std.proofs.lemmas.List.Folds.{list_all-append}
use Rattle.std.proofs.lemmas.List.Sums.{AllPass-from_list_all}
use Rattle.fixed_form.specs.Columns.{card, column, kind, is_blank, marks_comment, is_character, is_label_character, label_field, statement_field, label, number, has_bad_label, has_bad_byte}
use Rattle.read_back.proofs.LineBlocks.{initial_card, continuation_card}
use Rattle.std.proofs.lemmas.Grind.{elements}

-- ---- columns 7 to 72

-- columns 7 to 72 of a line whose first six columns these characters follow
unfoldable pub field : List ℕ → List ℕ
field characters = take 66 (characters ++ replicate 72 32)

pad_same : (n a b : ℕ) (ys : List ℕ) → n ≤ a → n ≤ b → take n (ys ++ replicate a 32) ≡ take n (ys ++ replicate b 32)
pad_same zero a b ys p q = refl
pad_same (suc n) a b [] p q = take-replicate (suc n) a 32 p ∙ sym (take-replicate (suc n) b 32 q)
pad_same (suc n) a b (y ∷ ys) p q = ap (λ zs. y ∷ zs) (pad_same n a b ys (omega (arith, p)) (omega (arith, q)))

pad_taken : (n : ℕ) (ys rest : List ℕ) → take n (take n ys ++ rest) ≡ take n (ys ++ rest)
pad_taken zero ys rest = refl
pad_taken (suc n) [] rest = refl
pad_taken (suc n) (y ∷ ys) rest = ap (λ zs. y ∷ zs) (pad_taken n ys rest)

-- what a line has of a text, where so many blanks follow the text
pub field_padded : (ys : List ℕ) (blanks : ℕ) → 66 ≤ blanks → field (take 66 ys) ≡ take 66 (ys ++ replicate blanks 32)
unfolding field
field_padded ys blanks le = pad_taken 66 ys (replicate 72 32) ∙ pad_same 66 72 blanks ys (omega arith) le

pub all_taken : (p : ℕ → Bool) (n : ℕ) (xs : List ℕ) → list_all p xs ≡ true → list_all p (take n xs) ≡ true
all_taken p zero xs h = refl
all_taken p (suc n) [] h = refl
all_taken p (suc n) (x ∷ xs) h = grind (arith, and_from (p x) (list_all p (take n xs)), all_taken p n xs)

all_blanks : (p : ℕ → Bool) (n : ℕ) → p 32 ≡ true → list_all p (replicate n 32) ≡ true
all_blanks p zero h = refl
all_blanks p (suc n) h = and_from (p 32) (list_all p (replicate n 32)) h (all_blanks p n h)

all_padded : (p : ℕ → Bool) (k n : ℕ) (xs : List ℕ) → p 32 ≡ true → list_all p xs ≡ true → list_all p (take k (xs ++ replicate n 32)) ≡ true
all_padded p k n xs blank h = grind (arith, elements, all_taken, list_all-append, and_from, all_blanks)

field_characters : (xs : List ℕ) → list_all is_character xs ≡ true → list_all is_character (field xs) ≡ true
unfolding field
field_characters xs h = all_padded is_character 66 72 xs refl h

-- it begins with the first character
pub field_begins : (c : ℕ) (xs : List ℕ) → (rest : List ℕ) × (field (c ∷ xs) ≡ c ∷ rest)
unfolding field
field_begins c xs = (take 65 (xs ++ replicate 72 32), refl)

-- ---- cards

padded : (n k : ℕ) (margin xs : List ℕ) → length margin + k ≡ n → take n ((margin ++ xs) ++ replicate n 32) ≡ margin ++ take k (xs ++ replicate n 32)
padded n k margin xs e = grind (arith, append_assoc margin xs (replicate n 32), take-append-add margin (xs ++ replicate n 32) k)

card_is : (margin xs : List ℕ) → length margin ≡ 6 → card (margin ++ xs) ≡ margin ++ field xs
unfolding card field
card_is margin xs six = padded 72 66 margin xs (omega (arith, six))

-- ---- continuation lines

abbrev pub next_margin : List ℕ
next_margin = codes "     &"

next_card : (xs : List ℕ) → card (next_margin ++ xs) ≡ next_margin ++ field xs
next_card xs = card_is next_margin xs refl

pub next_kind : (xs : List ℕ) → kind (card (next_margin ++ xs)) ≡ kind continuation_card
next_kind xs = ap kind (next_card xs)

pub next_field : (xs : List ℕ) → statement_field (card (next_margin ++ xs)) ≡ field xs
next_field xs = ap statement_field (next_card xs)

pub next_unlabelled : (xs : List ℕ) → is_blank (label_field (card (next_margin ++ xs))) ≡ true
next_unlabelled xs = ap (λ c. is_blank (label_field c)) (next_card xs)

pub next_characters : (xs : List ℕ) → list_all is_character xs ≡ true → has_bad_byte (card (next_margin ++ xs)) ≡ false
next_characters xs h = grind (arith, next_card xs, list_all-append is_character next_margin (field xs), field_characters xs h)

-- ---- initial lines

label_not_comment : (c : ℕ) → is_label_character c ≡ true → marks_comment c ≡ false
label_not_comment c h = grind (arith, eqb-true, ne_eqb, leb-true 48, leb 48, leb, leb-true)

-- five columns for a label, and a text that begins with another character than a blank
module _ (columns : List ℕ) (five : length columns ≡ 5) where
  abbrev margin : List ℕ
  margin = columns ++ codes " "

  first_card : (xs : List ℕ) → card (margin ++ xs) ≡ columns ++ 32 ∷ field xs
  first_card xs = grind (arith, card_is margin xs, length-append columns (codes " "), append_assoc columns (codes " ") (field xs))

  pub first_field : (xs : List ℕ) → statement_field (card (margin ++ xs)) ≡ field xs
  first_field xs =
      ap statement_field (first_card xs ∙ sym (append_assoc columns (codes " ") (field xs))) ∙ drop_at margin (field xs) 6 (length-append columns (codes " ") ∙ ap (λ n. n + 1) five)

  first_columns : (xs : List ℕ) → label_field (card (margin ++ xs)) ≡ columns
  first_columns xs = ap label_field (first_card xs) ∙ take_at columns (32 ∷ field xs) 5 five

  pub first_label : (xs : List ℕ) → label (card (margin ++ xs)) ≡ number (filter is_ascii_digit columns)
  first_label xs = ap (λ cs. number (filter is_ascii_digit cs)) (first_columns xs)

  pub first_labelled : (xs : List ℕ) → list_all is_label_character columns ≡ true → (list_any is_ascii_digit columns && (number (filter is_ascii_digit columns) == 0)) ≡ false → has_bad_label (card (margin ++ xs)) ≡ false
  first_labelled xs all none = grind (arith, first_columns xs)

  pub first_characters : (xs : List ℕ) → list_all is_character columns ≡ true → list_all is_character xs ≡ true → has_bad_byte (card (margin ++ xs)) ≡ false
  first_characters xs all h =
      grind (arith, first_card xs, list_all-append is_character columns (32 ∷ field xs), and_from (list_all is_character columns) (list_all is_character (field xs)) all (field_characters xs h), field_characters xs h)

  first_column : (c : ℕ) (rest : List ℕ) → list_all is_label_character columns ≡ true → marks_comment (column 1 (columns ++ rest)) ≡ false
  first_column c rest all =
      grind (arith, get_or_append_left columns rest 0 0, label_not_comment (get_or columns 0 0), AllPass-from_list_all is_label_character columns all 0 0)

  not_blank : (c : ℕ) (rest : List ℕ) → (c == 32) ≡ false → is_blank (columns ++ 32 ∷ c ∷ rest) ≡ false
  not_blank c rest other = grind (arith, list_all-append)

  pub first_kind : (c : ℕ) (xs : List ℕ) → list_all is_label_character columns ≡ true → (c == 32) ≡ false → kind (card (margin ++ c ∷ xs)) ≡ kind initial_card
  first_kind c xs all other =
      let begun = field_begins c xs in
      let is : card (margin ++ c ∷ xs) ≡ columns ++ 32 ∷ c ∷ begun.0 = first_card (c ∷ xs) ∙ ap (λ f. columns ++ 32 ∷ f) begun.1 in
      let six : column 6 (columns ++ 32 ∷ c ∷ begun.0) ≡ 32 = get_or_at columns 32 (c ∷ begun.0) 0 5 five in
      ap kind is
      ∙ chosen (marks_comment (column 1 (columns ++ 32 ∷ c ∷ begun.0))) (is_blank (columns ++ 32 ∷ c ∷ begun.0)) (column 6 (columns ++ 32 ∷ c ∷ begun.0) == 32) _ _ _ _ (first_column c (32 ∷ c ∷ begun.0) all) (not_blank c begun.0 other) (ap (λ n. n == 32) six)
    where
      chosen : {A : Type 0} (a b c d : Bool) (x y z : A) → a ≡ false → b ≡ false → c ≡ true → cond (a || b) x (cond (c || d) y z) ≡ y
      chosen true b c d x y z p q r = absurd cc
      chosen false true c d x y z p q r = absurd cc
      chosen false false false d x y z p q r = absurd cc
      chosen false false true d x y z p q r = refl
