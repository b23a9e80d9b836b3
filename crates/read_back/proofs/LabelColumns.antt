-- The five columns of a label: its digits on the right, or blanks.
use Rattle.std.proofs.Common.{◌≡◌, ℕ, zero, suc, ◌+◌, ◌-◌, ◌/◌, ◌%◌, ◌^◌, ◌<◌, ◌≤◌, Bool, true, false, cond, leb, ◌&&◌, ◌==◌, List, [], ◌∷◌, ◌++◌, length, replicate, refl, arith, length-append}
use Rattle.std.specs.Prelude.{decimal}
use Rattle.std.specs.Char.{is_ascii_digit}
use Rattle.std.specs.List.{list_all, list_any, filter}
use Rattle.std.proofs.lemmas.Bool.{and_from, le-leb, leb-true, eqb-true}
use Rattle.std.proofs.lemmas.Fmt.{decimal_by_steps, length-decimal-le}
use Rattle.std.proofs.lemmas.List.{length-replicate}
use Rattle.std.proofs.lemmas.List.Elements.{filter-append}
use Rattle.std.proofs.lemmas.List.Folds.{list_all-append}
use Rattle.std.proofs.lemmas.List.Sums.{fold-append}
use Rattle.fixed_form.specs.Columns.{is_character, is_label_character, number}
use Rattle.std.proofs.lemmas.Grind.{elements}

-- digits that write a number
record Writes (n : ℕ) (digits : List ℕ) : Type 0 where
  figures : list_all is_ascii_digit digits ≡ true
  is : number digits ≡ n

digit : (d : ℕ) → d < 10 → is_ascii_digit (48 + d) ≡ true
digit d lt = and_from (leb 48 (48 + d)) (leb (48 + d) 57) (le-leb 48 (48 + d) (omega arith)) (le-leb (48 + d) 57 (omega arith))

one_digit : (n : ℕ) → n < 10 → Writes n ((48 + n) ∷ [])
one_digit n lt = grind (arith, and_from (is_ascii_digit (48 + n)) true (digit n lt), digit n lt)

digit_more : (n : ℕ) (digits : List ℕ) → 10 ≤ n → Writes (n / 10) digits → Writes n (digits ++ ((48 + n % 10) ∷ []))
digit_more n digits le before =
    grind (arith, list_all-append is_ascii_digit digits ((48 + n % 10) ∷ []), and_from (list_all is_ascii_digit digits) (is_ascii_digit (48 + n % 10) && true) before.figures, and_from (is_ascii_digit (48 + n % 10)) true, digit (n % 10), fold-append)

writes_decimal : (n : ℕ) → n < 2 ^ 64 → Writes n (decimal n)
writes_decimal n lt = decimal_by_steps Writes one_digit digit_more n lt

-- ---- digits on the right

all_weaker : (p q : ℕ → Bool) → ((c : ℕ) → p c ≡ true → q c ≡ true) → (xs : List ℕ) → list_all p xs ≡ true → list_all q xs ≡ true
all_weaker p q each [] h = refl
all_weaker p q each (x ∷ xs) h = grind (arith, and_from (q x) (list_all q xs), all_weaker p q each xs)

all_blanks : (p : ℕ → Bool) (n : ℕ) → p 32 ≡ true → list_all p (replicate n 32) ≡ true
all_blanks p zero h = refl
all_blanks p (suc n) h = and_from (p 32) (list_all p (replicate n 32)) h (all_blanks p n h)

none_kept : (n : ℕ) → filter is_ascii_digit (replicate n 32) ≡ []
none_kept zero = refl
none_kept (suc n) = none_kept n

all_kept : (p : ℕ → Bool) (xs : List ℕ) → list_all p xs ≡ true → filter p xs ≡ xs
all_kept p [] h = refl
all_kept p (x ∷ xs) h = grind (arith, all_kept p xs)

module _ (digits : List ℕ) (short : length digits ≤ 5) (figures : list_all is_ascii_digit digits ≡ true) where
  abbrev columns : List ℕ
  columns = replicate (5 - length digits) 32 ++ digits

  right_length : length columns ≡ 5
  right_length = omega (arith, length-append (replicate (5 - length digits) 32) digits, length-replicate {A = ℕ} (5 - length digits) 32, short)

  right_all : (p : ℕ → Bool) → p 32 ≡ true → ((c : ℕ) → is_ascii_digit c ≡ true → p c ≡ true) → list_all p columns ≡ true
  right_all p blank each = grind (arith, elements, list_all-append, and_from, all_blanks, all_weaker)

  right_number : number (filter is_ascii_digit columns) ≡ number digits
  right_number = grind (arith, elements, filter-append, none_kept, all_kept)

digit_labels : (c : ℕ) → is_ascii_digit c ≡ true → is_label_character c ≡ true
digit_labels c h = grind arith

digit_character : (c : ℕ) → is_ascii_digit c ≡ true → is_character c ≡ true
digit_character c h =
    grind (arith, leb 48 c, leb c 57, leb-true 48 c, leb-true c 57, and_from (leb 32 c) (leb c 126), leb 32 c, leb c 126, le-leb 32 c, le-leb c 126)

-- five columns that tell a label, which is 0 where there is none
pub record TellsLabel (label : ℕ) (columns : List ℕ) : Type 0 where
  pub five : length columns ≡ 5
  pub labels : list_all is_label_character columns ≡ true
  pub characters : list_all is_character columns ≡ true
  pub is : number (filter is_ascii_digit columns) ≡ label
  pub good : (list_any is_ascii_digit columns && (number (filter is_ascii_digit columns) == 0)) ≡ false

-- as they are printed
abbrev pub columns_of : ℕ → List ℕ
columns_of label = replicate (5 - length (cond (label == 0) [] (decimal label))) 32 ++ cond (label == 0) [] (decimal label)

and_none : (b c : Bool) → c ≡ false → (b && c) ≡ false
and_none true c h = h
and_none false c h = refl

tells_some : (label : ℕ) (digits : List ℕ) → length digits ≤ 5 → Writes label digits → (label == 0) ≡ false → TellsLabel label (replicate (5 - length digits) 32 ++ digits)
tells_some label digits short writes some =
    grind (arith, right_number digits short writes.figures, right_length digits short writes.figures, right_all digits short writes.figures is_label_character, digit_labels, right_all digits short writes.figures is_character, digit_character, and_none)

tells_by : (label : ℕ) (none : Bool) → label < 10 ^ 5 → label < 2 ^ 64 → (label == 0) ≡ none → TellsLabel label (replicate (5 - length (cond none [] (decimal label))) 32 ++ cond none [] (decimal label))
tells_by label true small fits is = grind (arith, eqb-true label 0 is)
tells_by label false small fits is = tells_some label (decimal label) (length-decimal-le 5 label (omega arith) small fits) (writes_decimal label fits) is

pub tells_label : (label : ℕ) → label ≤ 99999 → TellsLabel label (columns_of label)
tells_label label most = tells_by label (label == 0) (omega (arith, most)) (omega (arith, most)) refl
