-- What is left of a text after parts of it were read.
use Rattle.std.proofs.Common.{◌≡◌, ℕ, ◌+◌, ◌*◌, ◌/◌, ◌%◌, ◌^◌, ◌<◌, ◌≤◌, List, [], ◌∷◌, ◌++◌, length, ap, sym, ◌∙◌, append_assoc, append-nil, add-zero, flat_map, arith, length-append}
use Rattle.std.specs.Fmt.{decimal}
use Rattle.std.proofs.lemmas.Fmt.{decimal_digit, decimal_step}
use Rattle.std.proofs.lemmas.List.{flat_map_more}
use Rattle.printed_graphs.specs.Words.{lines_from}

-- two parts, one after the other
pub joined : (a b text middle rest : List ℕ) → text ≡ a ++ middle → middle ≡ b ++ rest → text ≡ (a ++ b) ++ rest
joined a b text middle rest first second = first ∙ ap (λ r. a ++ r) second ∙ sym (append_assoc a b rest)

-- two parts after a part
pub two_joined : (a b c text middle rest : List ℕ) → text ≡ a ++ middle → middle ≡ b ++ c ++ rest → text ≡ (a ++ b ++ c) ++ rest
two_joined a b c text middle rest first second = joined a (b ++ c) text middle rest first second ∙ ap (λ r. r ++ rest) (sym (append_assoc a b c))

-- six parts, one after another
pub six_parts : (a b c d e f r0 r1 r2 r3 r4 r5 r6 : List ℕ) → r0 ≡ a ++ r1 → r1 ≡ b ++ r2 → r2 ≡ c ++ r3 → r3 ≡ d ++ r4 → r4 ≡ e ++ r5 → r5 ≡ f ++ r6 → r0 ≡ (a ++ b ++ c ++ d ++ e ++ f) ++ r6
six_parts a b c d e f r0 r1 r2 r3 r4 r5 r6 first second third fourth fifth sixth =
    let two = joined a b r0 r1 r2 first second in
    let three = joined (a ++ b) c r0 r2 r3 two third in
    let four = joined (a ++ b ++ c) d r0 r3 r4 three fourth in
    let five = joined (a ++ b ++ c ++ d) e r0 r4 r5 four fifth in
    joined (a ++ b ++ c ++ d ++ e) f r0 r5 r6 five sixth

-- one line more
pub lines_from-more : {A : Type 0} (line : ℕ → A → List ℕ) (k : ℕ) (xs : List A) (x : A) → lines_from line k (xs ++ x ∷ []) ≡ lines_from line k xs ++ line (k + length xs) x
lines_from-more line k [] x = append-nil (line k x) ∙ ap (λ n. line n x) (sym (add-zero k))
lines_from-more line k (y ∷ ys) x =
    let same : (k + 1) + length ys ≡ k + length (y ∷ ys) = omega arith in
    ap (λ r. line k y ++ r) (lines_from-more line (k + 1) ys x)
    ∙ sym (append_assoc (line k y) (lines_from line (k + 1) ys) (line ((k + 1) + length ys) x))
    ∙ ap (λ n. (line k y ++ lines_from line (k + 1) ys) ++ line n x) same

-- the lines so far, and the next one
pub next_line : {A : Type 0} (line : ℕ → A → List ℕ) (k : ℕ) (xs : List A) (x : A) (text middle rest : List ℕ) → length xs ≡ k → text ≡ lines_from line 0 xs ++ middle → middle ≡ line k x ++ rest → text ≡ lines_from line 0 (xs ++ x ∷ []) ++ rest
next_line line k xs x text middle rest count first second =
    let same : 0 + length xs ≡ k = omega arith in
    joined (lines_from line 0 xs) (line k x) text middle rest first second
    ∙ ap (λ r. r ++ rest) (ap (λ n. lines_from line 0 xs ++ line n x) (sym same) ∙ sym (lines_from-more line 0 xs x))

-- a list with one line more
pub lines_step : {A : Type 0} (line : ℕ → A → List ℕ) (k : ℕ) (xs : List A) (x : A) (ys : List A) (text middle rest : List ℕ) → ys ≡ xs ++ x ∷ [] → length xs ≡ k → text ≡ lines_from line 0 xs ++ middle → middle ≡ line k x ++ rest → (text ≡ lines_from line 0 ys ++ rest) × (length ys ≡ k + 1)
lines_step line k xs x ys text middle rest longer count first second =
    let one : length (xs ++ x ∷ []) ≡ length xs + 1 = length-append xs (x ∷ []) in
    let same : length ys ≡ length (xs ++ x ∷ []) = ap length longer in
    (next_line line k xs x text middle rest count first second ∙ ap (λ zs. lines_from line 0 zs ++ rest) (sym longer), omega arith)

-- the parts so far, and the next one
pub next_part : {A : Type 0} (part : A → List ℕ) (xs : List A) (x : A) (text middle rest : List ℕ) → text ≡ flat_map part xs ++ middle → middle ≡ part x ++ rest → text ≡ flat_map part (xs ++ x ∷ []) ++ rest
next_part part xs x text middle rest first second =
    joined (flat_map part xs) (part x) text middle rest first second
    ∙ ap (λ r. r ++ rest) (flat_map_more part [] xs x)

-- a number and one digit more
pub digit_more : (n d : ℕ) → 0 < n → d < 10 → n * 10 + d < 2 ^ 64 → decimal (n * 10 + d) ≡ decimal n ++ ((48 + d) ∷ [])
digit_more n d some digit fits =
    let ten : 10 ≤ n * 10 + d = omega arith in
    let front : (n * 10 + d) / 10 ≡ n = omega arith in
    let last : (n * 10 + d) % 10 ≡ d = omega arith in
    decimal_step (n * 10 + d) ten fits ∙ ap (λ m. decimal m ++ ((48 + (n * 10 + d) % 10) ∷ [])) front ∙ ap (λ m. decimal n ++ ((48 + m) ∷ [])) last

-- the first digit of a number
pub first_digit : (d n : ℕ) (text rest : List ℕ) → n ≡ d → d < 10 → text ≡ (48 + d) ∷ rest → text ≡ decimal n ++ rest
first_digit d n text rest same small first = first ∙ ap (λ r. r ++ rest) (sym (ap decimal same ∙ decimal_digit d small))

-- the digits so far, and the next one
pub next_digit : (n d m : ℕ) (text middle rest : List ℕ) → 0 < n → d < 10 → m ≡ n * 10 + d → m < 2 ^ 64 → text ≡ decimal n ++ middle → middle ≡ (48 + d) ∷ rest → text ≡ decimal m ++ rest
next_digit n d m text middle rest some digit total fits first second =
    let within : n * 10 + d < 2 ^ 64 = omega arith in
    joined (decimal n) ((48 + d) ∷ []) text middle rest first second
    ∙ ap (λ r. r ++ rest) (sym (ap decimal total ∙ digit_more n d some digit within))
