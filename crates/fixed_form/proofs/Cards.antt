-- What a card has where the line is short.
use Rattle.std.proofs.Common.{◌≡◌, ◌==◌, ℕ, zero, suc, ◌+◌, ◌-◌, ◌<◌, ◌≤◌, Bool, true, false, cond, not, ◌&&◌, ◌||◌, List, [], ◌∷◌, ◌++◌, length, get_or, take, drop, replicate, refl, sym, ap, ◌∙◌, subst, ⊎_elim, arith, length-append}
use Rattle.std.proofs.Math.Seq.{take-append-add, drop-append-add}
use Rattle.std.proofs.lemmas.Bool.{cases_lt}
use Rattle.std.proofs.lemmas.List.{length-drop, length-replicate, take-append-le, take-take, length-take-le, take-replicate, drop-replicate, drop-append-le, drop_all, take_all, append-nil, get_or_append_left, get_or-append_right, get_or-replicate}
use Rattle.std.proofs.lemmas.List.Elements.{All-replicate, filter-append}
use Rattle.std.proofs.lemmas.List.Folds.{list_all-append, list_any-append}
use Rattle.std.proofs.lemmas.List.Sums.{list_all-from_AllPass}
use Rattle.std.specs.Char.{is_ascii_digit}
use Rattle.std.specs.List.{list_all, list_any, filter}
use Rattle.fixed_form.specs.Columns.{card, is_blank, is_label_character, is_bad_label_field, has_bad_label, label, number}

filled : (n : ℕ) (xs : List ℕ) → length xs ≤ n → take n (xs ++ replicate n 32) ≡ xs ++ replicate (n - length xs) 32
filled n xs h =
    let e : length xs + (n - length xs) ≡ n = omega arith in
    let P : ℕ → Type 0 = λ m. take m (xs ++ replicate n 32) ≡ xs ++ replicate (n - length xs) 32 in
    subst P e (take-append-add xs (replicate n 32) (n - length xs) ∙ ap (λ ys. xs ++ ys) (take-replicate (n - length xs) n 32 (omega arith)))

prefix : (n : ℕ) (xs ys : List ℕ) → n ≤ length xs → take n (take n xs ++ ys) ≡ take n (xs ++ ys)
prefix n xs ys h =
    let long : n ≤ length (take n xs) = omega (arith, length-take-le n xs h) in
    take-append-le n (take n xs) ys long ∙ take-take n n xs (omega arith) ∙ sym (take-append-le n xs ys h)

pub card-short : (xs : List ℕ) → length xs ≤ 72 → card xs ≡ xs ++ replicate (72 - length xs) 32
unfolding card
card-short xs h = filled 72 xs h

pub card-take : (xs : List ℕ) → 72 ≤ length xs → card (take 72 xs) ≡ card xs
unfolding card
card-take xs h = prefix 72 xs (replicate 72 32) h

and-true : (b : Bool) → (b && true) ≡ b
and-true true = refl
and-true false = refl

list_all-blanks : (p : ℕ → Bool) → p 32 ≡ true → (n : ℕ) → list_all p (replicate n 32) ≡ true
list_all-blanks p h n = list_all-from_AllPass p (replicate n 32) (All-replicate (λ x. p x ≡ true) n 32 h)

pub list_all-filled : (p : ℕ → Bool) → p 32 ≡ true → (xs : List ℕ) (n : ℕ) → list_all p (xs ++ replicate n 32) ≡ list_all p xs
list_all-filled p h xs n =
    list_all-append p xs (replicate n 32) ∙ ap (λ b. list_all p xs && b) (list_all-blanks p h n) ∙ and-true (list_all p xs)

pub list_all-card : (p : ℕ → Bool) → p 32 ≡ true → (xs : List ℕ) → length xs ≤ 72 → list_all p (card xs) ≡ list_all p xs
list_all-card p h xs short = ap (list_all p) (card-short xs short) ∙ list_all-filled p h xs (72 - length xs)

pub blank_card : (xs : List ℕ) → length xs ≤ 72 → is_blank (card xs) ≡ is_blank xs
blank_card xs short = list_all-card (λ c. c == 32) refl xs short

pub get_or-card_inside : (xs : List ℕ) (k : ℕ) → length xs ≤ 72 → k < length xs → get_or xs k 0 ≡ get_or (card xs) k 0
get_or-card_inside xs k short inside =
    sym (ap (λ ys. get_or ys k 0) (card-short xs short) ∙ get_or_append_left xs (replicate (72 - length xs) 32) 0 k inside)

pub get_or-card_past : (xs : List ℕ) (k : ℕ) → length xs ≤ 72 → length xs ≤ k → k < 72 → 32 ≡ get_or (card xs) k 0
get_or-card_past xs k short past lt =
    sym (ap (λ ys. get_or ys k 0) (card-short xs short) ∙ get_or-append_right xs (replicate (72 - length xs) 32) (length xs) k 0 refl past ∙ get_or-replicate (72 - length xs) (k - length xs) 32 0 (omega arith))

take-filled : (n m : ℕ) (xs : List ℕ) → n ≤ length xs + m → take n (xs ++ replicate m 32) ≡ take n xs ++ replicate (n - length xs) 32
take-filled n m xs h =
    ⊎_elim
    (λ (lt : n < length xs).
    let e : n - length xs ≡ 0 = omega arith in
    take-append-le n xs (replicate m 32) (omega arith) ∙ sym (append-nil (take n xs)) ∙ ap (λ k. take n xs ++ replicate k 32) (sym e))
    (λ (le : length xs ≤ n).
    let e : length xs + (n - length xs) ≡ n = omega arith in
    let P : ℕ → Type 0 = λ k. take k (xs ++ replicate m 32) ≡ take n xs ++ replicate (n - length xs) 32 in
    subst P e (take-append-add xs (replicate m 32) (n - length xs) ∙ ap (λ ys. xs ++ ys) (take-replicate (n - length xs) m 32 (omega arith)) ∙ ap (λ ys. ys ++ replicate (n - length xs) 32) (sym (take_all n xs le))))
    (cases_lt n (length xs))

drop-filled : (n m : ℕ) (xs : List ℕ) → drop n (xs ++ replicate m 32) ≡ drop n xs ++ replicate (m - (n - length xs)) 32
drop-filled n m xs =
    ⊎_elim
    (λ (lt : n < length xs).
    let e : m ≡ m - (n - length xs) = omega arith in
    drop-append-le n xs (replicate m 32) (omega arith) ∙ ap (λ k. drop n xs ++ replicate k 32) e)
    (λ (le : length xs ≤ n).
    let e : length xs + (n - length xs) ≡ n = omega arith in
    let P : ℕ → Type 0 = λ k. drop k (xs ++ replicate m 32) ≡ drop n xs ++ replicate (m - (n - length xs)) 32 in
    subst P e (drop-append-add xs (replicate m 32) (n - length xs) ∙ drop-replicate (n - length xs) m 32 ∙ ap (λ ys. ys ++ replicate (m - (n - length xs)) 32) (sym (drop_all n xs le))))
    (cases_lt n (length xs))

pub take-card : (n : ℕ) (xs : List ℕ) → length xs ≤ 72 → n ≤ 72 → take n (card xs) ≡ take n xs ++ replicate (n - length xs) 32
take-card n xs short le = ap (take n) (card-short xs short) ∙ take-filled n (72 - length xs) xs (omega arith)

pub drop-card : (n : ℕ) (xs : List ℕ) (m : ℕ) → length xs ≤ 72 → m ≡ (72 - length xs) - (n - length xs) → drop n (card xs) ≡ drop n xs ++ replicate m 32
drop-card n xs m short e = ap (drop n) (card-short xs short) ∙ drop-filled n (72 - length xs) xs ∙ ap (λ k. drop n xs ++ replicate k 32) (sym e)

list_any-blanks : (p : ℕ → Bool) → p 32 ≡ false → (n : ℕ) → list_any p (replicate n 32) ≡ false
list_any-blanks p h zero = refl
list_any-blanks p h (suc n) = ap (λ b. b || list_any p (replicate n 32)) h ∙ list_any-blanks p h n

filter-blanks : (p : ℕ → Bool) → p 32 ≡ false → (n : ℕ) → filter p (replicate n 32) ≡ []
filter-blanks p h zero = refl
filter-blanks p h (suc n) = ap (λ b. cond b (32 ∷ filter p (replicate n 32)) (filter p (replicate n 32))) h ∙ filter-blanks p h n

or-false : (b : Bool) → (b || false) ≡ b
or-false true = refl
or-false false = refl

list_any-filled : (p : ℕ → Bool) → p 32 ≡ false → (xs : List ℕ) (n : ℕ) → list_any p (xs ++ replicate n 32) ≡ list_any p xs
list_any-filled p h xs n =
    list_any-append p xs (replicate n 32) ∙ ap (λ b. list_any p xs || b) (list_any-blanks p h n) ∙ or-false (list_any p xs)

filter-filled : (p : ℕ → Bool) → p 32 ≡ false → (xs : List ℕ) (n : ℕ) → filter p (xs ++ replicate n 32) ≡ filter p xs
filter-filled p h xs n =
    filter-append p xs (replicate n 32) ∙ ap (λ ys. filter p xs ++ ys) (filter-blanks p h n) ∙ append-nil (filter p xs)

digits_card : (xs : List ℕ) → length xs ≤ 72 → filter is_ascii_digit (take 5 (card xs)) ≡ filter is_ascii_digit (take 5 xs)
digits_card xs short =
    ap (filter is_ascii_digit) (take-card 5 xs short (omega arith)) ∙ filter-filled is_ascii_digit refl (take 5 xs) (5 - length xs)

pub label_card : (xs : List ℕ) → length xs ≤ 72 → label (card xs) ≡ number (filter is_ascii_digit (take 5 xs))
label_card xs short = ap number (digits_card xs short)

pub bad_label_card : (xs : List ℕ) → length xs ≤ 72 → has_bad_label (card xs) ≡ is_bad_label_field (take 5 xs)
bad_label_card xs short =
    let field : take 5 (card xs) ≡ take 5 xs ++ replicate (5 - length xs) 32 = take-card 5 xs short (omega arith) in
    let all : list_all is_label_character (take 5 (card xs)) ≡ list_all is_label_character (take 5 xs) = ap (list_all is_label_character) field ∙ list_all-filled is_label_character refl (take 5 xs) (5 - length xs) in
    let any : list_any is_ascii_digit (take 5 (card xs)) ≡ list_any is_ascii_digit (take 5 xs) = ap (list_any is_ascii_digit) field ∙ list_any-filled is_ascii_digit refl (take 5 xs) (5 - length xs) in
    ap (λ b. not b || (list_any is_ascii_digit (take 5 (card xs)) && number (filter is_ascii_digit (take 5 (card xs))) == 0)) all
    ∙ ap (λ b. not (list_all is_label_character (take 5 xs)) || (b && number (filter is_ascii_digit (take 5 (card xs))) == 0)) any
    ∙ ap (λ ds. not (list_all is_label_character (take 5 xs)) || (list_any is_ascii_digit (take 5 xs) && number ds == 0)) (digits_card xs short)

pub length-card : (xs : List ℕ) → length (card xs) ≡ 72
unfolding card
length-card xs =
    length-take-le 72 (xs ++ replicate 72 32) (omega (arith, length-append xs (replicate 72 32), length-replicate {A = ℕ} 72 32))

pub length-statement_field : (xs : List ℕ) → length (drop 6 (card xs)) ≡ 66
length-statement_field xs = omega (arith, length-drop 6 (card xs), length-card xs)

pub blank_field_card : (xs : List ℕ) → length xs ≤ 72 → is_blank (take 5 (card xs)) ≡ is_blank (take 5 xs)
blank_field_card xs short =
    ap is_blank (take-card 5 xs short (omega arith)) ∙ list_all-filled (λ c. c == 32) refl (take 5 xs) (5 - length xs)
