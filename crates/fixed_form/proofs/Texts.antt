-- The text of characters, one after another.
use Rattle.std.proofs.Common.{◌≡◌, ◌==◌, ℕ, zero, suc, ◌+◌, ◌-◌, ◌<◌, ◌≤◌, Bool, true, false, List, [], ◌∷◌, ◌++◌, length, get_or, drop, replicate, refl, sym, ap, ◌∙◌, arith, length-append, append_assoc}
use Rattle.std.proofs.lemmas.List.{length-drop, append-nil, drop_more, drop_all}
use Rattle.std.proofs.lemmas.List.Sums.{fold-append}
use Rattle.std.proofs.lemmas.Bool.{cond_both}
use Rattle.std.specs.Char.{to_ascii_uppercase}
use Rattle.std.specs.List.{fold}
use Rattle.fixed_form.specs.declared.open_stmt.OpenStmt.{OpenStmt}
use Rattle.fixed_form.specs.Statement.{kept, inside_after, text_from}
use Rattle.fixed_form.specs.Columns.{card}
use Rattle.fixed_form.proofs.Cards.{drop-card}
use Rattle.fixed_form.specs.OpenStmt.{with_characters}

pub text_from-append : (inside : Bool) (xs ys : List ℕ) → text_from inside (xs ++ ys) ≡ text_from inside xs ++ text_from (fold inside_after inside xs) ys
text_from-append inside [] ys = refl
text_from-append inside (x ∷ xs) ys =
    ap (λ zs. kept inside x ++ zs) (text_from-append (inside_after inside x) xs ys) ∙ sym (append_assoc (kept inside x) (text_from (inside_after inside x) xs) (text_from (fold inside_after (inside_after inside x) xs) ys))

pub put-append : (stmt : OpenStmt) (xs ys : List ℕ) → with_characters stmt (xs ++ ys) ≡ with_characters (with_characters stmt xs) ys
put-append stmt xs ys =
    let inside = stmt.is_inside in
    let text : stmt.text ++ text_from inside (xs ++ ys) ≡ (stmt.text ++ text_from inside xs) ++ text_from (fold inside_after inside xs) ys = ap (λ zs. stmt.text ++ zs) (text_from-append inside xs ys) ∙ sym (append_assoc stmt.text (text_from inside xs) (text_from (fold inside_after inside xs) ys)) in
    ap (λ t. record stmt { text = t; is_inside = fold inside_after inside (xs ++ ys) }) text
    ∙ ap (λ b. record stmt { text = (stmt.text ++ text_from inside xs) ++ text_from (fold inside_after inside xs) ys; is_inside = b }) (fold-append inside_after inside xs ys)

pub put_last : (stmt : OpenStmt) (xs : List ℕ) (n : ℕ) → length xs ≤ n → with_characters stmt (drop n xs) ≡ stmt
put_last stmt xs n h = ap (with_characters stmt) (drop_all n xs h) ∙ ap (λ t. record stmt { text = t }) (append-nil stmt.text)

pub put_next : (stmt : OpenStmt) (xs : List ℕ) (n : ℕ) → n < length xs → with_characters (with_characters stmt (get_or xs n 0 ∷ [])) (drop (n + 1) xs) ≡ with_characters stmt (drop n xs)
put_next stmt xs n h =
    sym (put-append stmt (get_or xs n 0 ∷ []) (drop (n + 1) xs)) ∙ ap (with_characters stmt) (sym (drop_more xs n 0 h))

kept_length : (inside : Bool) (c : ℕ) → length (kept inside c) ≤ 1
kept_length true c = omega arith
kept_length false c = cond_both (c == 32) [] (to_ascii_uppercase c ∷ []) (λ cs. length cs ≤ 1) (λ _. omega arith) (λ _. omega arith)

text_length : (inside : Bool) (xs : List ℕ) → length (text_from inside xs) ≤ length xs
text_length inside [] = omega arith
text_length inside (x ∷ xs) =
    omega (arith, length-append (kept inside x) (text_from (inside_after inside x) xs), kept_length inside x, text_length (inside_after inside x) xs)

pub put_length : (stmt : OpenStmt) (xs : List ℕ) → length (with_characters stmt xs).text ≤ length stmt.text + length xs
put_length stmt xs = omega (arith, length-append stmt.text (text_from stmt.is_inside xs), text_length stmt.is_inside xs)

-- one blank of n
pub blank_next : (stmt : OpenStmt) (n i : ℕ) → i < n → with_characters (with_characters stmt (32 ∷ [])) (replicate (n - (i + 1)) 32) ≡ with_characters stmt (replicate (n - i) 32)
blank_next stmt n i h =
    let e : n - i ≡ suc (n - (i + 1)) = omega arith in
    sym (put-append stmt (32 ∷ []) (replicate (n - (i + 1)) 32)) ∙ ap (λ k. with_characters stmt (replicate k 32)) (sym e)

pub put_none : (stmt : OpenStmt) → with_characters stmt [] ≡ stmt
put_none stmt = ap (λ t. record stmt { text = t }) (append-nil stmt.text)

-- outside of a character constant blanks give nothing, and open none
blanks_text : (n : ℕ) → text_from false (replicate n 32) ≡ []
blanks_text zero = refl
blanks_text (suc n) = blanks_text n

blanks_inside : (n : ℕ) → fold inside_after false (replicate n 32) ≡ false
blanks_inside zero = refl
blanks_inside (suc n) = blanks_inside n

pub put_nothing : (stmt : OpenStmt) (n : ℕ) → stmt.is_inside ≡ false → with_characters stmt (replicate n 32) ≡ stmt
put_nothing stmt n outside =
    let text : stmt.text ++ text_from stmt.is_inside (replicate n 32) ≡ stmt.text = ap (λ b. stmt.text ++ text_from b (replicate n 32)) outside ∙ ap (λ t. stmt.text ++ t) (blanks_text n) ∙ append-nil stmt.text in
    let inside : fold inside_after stmt.is_inside (replicate n 32) ≡ stmt.is_inside = ap (λ b. fold inside_after b (replicate n 32)) outside ∙ blanks_inside n ∙ sym outside in
    ap (λ t. record stmt { text = t; is_inside = fold inside_after stmt.is_inside (replicate n 32) }) text ∙ ap (λ b. record stmt { is_inside = b }) inside

-- what a line has in columns 7 to 72, and then its fill
pub put_card : (stmt : OpenStmt) (xs : List ℕ) → length xs ≤ 72 → with_characters (with_characters stmt (drop 6 xs)) (replicate (66 - length (drop 6 xs)) 32) ≡ with_characters stmt (drop 6 (card xs))
put_card stmt xs short =
    sym (put-append stmt (drop 6 xs) (replicate (66 - length (drop 6 xs)) 32)) ∙ ap (with_characters stmt) (sym (drop-card 6 xs (66 - length (drop 6 xs)) short (omega (arith, length-drop 6 xs))))
