-- Texts without what is dropped and folded: one after another, and with blanks behind.
use Rattle.std.proofs.Common.{◌≡◌, ℕ, zero, suc, ◌+◌, ◌-◌, ◌≤◌, Bool, false, List, [], ◌∷◌, ◌++◌, length, take, replicate, refl, ap, ◌∙◌, subst, arith, append_assoc, append-nil}
use Rattle.std.specs.List.{fold}
use Rattle.std.proofs.Math.Seq.{take-append-add}
use Rattle.std.proofs.lemmas.List.{take-replicate}
use Rattle.fixed_form.specs.Statement.{kept, inside_after, text, text_from}

pub text_from-append : (inside : Bool) (xs ys : List ℕ) → text_from inside (xs ++ ys) ≡ text_from inside xs ++ text_from (fold inside_after inside xs) ys
text_from-append inside [] ys = refl
text_from-append inside (x ∷ xs) ys =
    grind (arith, text_from-append (inside_after inside x) xs ys, append_assoc (kept inside x) (text_from (inside_after inside x) xs) (text_from (fold inside_after (inside_after inside x) xs) ys))

text_of_blanks : (n : ℕ) → text (replicate n 32) ≡ []
text_of_blanks zero = refl
text_of_blanks (suc n) = text_of_blanks n

-- blanks behind a text that closes its constants
pub text_padded : (xs : List ℕ) (n blanks : ℕ) → length xs ≤ n → n ≤ blanks → fold inside_after false xs ≡ false → text (take n (xs ++ replicate blanks 32)) ≡ text xs
text_padded xs n blanks short most closed =
    let left = n - length xs in
    let e : length xs + left ≡ n = omega (arith, short) in
    let P : ℕ → Type 0 = λ m. take m (xs ++ replicate blanks 32) ≡ xs ++ take left (replicate blanks 32) in
    ap text (subst P e (take-append-add xs (replicate blanks 32) left) ∙ ap (λ ys. xs ++ ys) (take-replicate left blanks 32 (omega (arith, most))))
    ∙ text_from-append false xs (replicate left 32)
    ∙ ap (λ b. text xs ++ text_from b (replicate left 32)) closed
    ∙ ap (λ t. text xs ++ t) (text_of_blanks left)
    ∙ append-nil (text xs)
