-- Brackets are as deep in a text as in what is read of it.
use Rattle.std.proofs.Common.{◌≡◌, ◌==◌, ℕ, suc, ◌-◌, ◌<◌, ◌≤◌, max, Bool, true, false, not, cond, nat_lt, List, [], ◌∷◌, ◌++◌, refl, sym, ap, ◌∙◌, arith}
use Rattle.std.specs.Char.{to_ascii_uppercase}
use Rattle.std.proofs.lemmas.Bool.{cond_both, eqb-true, ne_eqb, ltb-false}
use Rattle.f77_expr.specs.Piece.{Open, nothing_open, open_after, deepest_from, bracket_depth}
use Rattle.fixed_form.specs.Statement.{kept, inside_after, text, text_from}

-- a letter in upper case is no bracket and no apostrophe, and neither is the letter
upper_same : (k c : ℕ) → k < 65 → (to_ascii_uppercase c == k) ≡ (c == k)
upper_same k c small =
    grind (arith, cond_both (nat_lt c 97) c (cond (nat_lt c 123) (c - 32) c), cond_both (nat_lt c 123) (c - 32) c, ltb-false c 97, ne_eqb (c - 32) k, ne_eqb c k)

-- what is open after a character, by tests of it
abbrev opened : Open → (quote left right : Bool) → Open
opened o quote left right =
    cond quote (record { quoted = not o.quoted; brackets = o.brackets }) (cond o.quoted o (cond left (record { quoted = false; brackets = suc o.brackets }) (cond right (record { quoted = false; brackets = o.brackets - 1 }) o)))

upper_opens : (o : Open) (c : ℕ) → open_after o (to_ascii_uppercase c) ≡ open_after o c
upper_opens o c = grind (arith, upper_same 39 c, upper_same 40 c, upper_same 41 c)

quoted_by : (quoted : Bool) (brackets : ℕ) (quote left right : Bool) → (opened (record { quoted = quoted; brackets = brackets }) quote left right).quoted ≡ cond quote (not quoted) quoted
quoted_by quoted brackets h left right = grind arith

quoted_after : (o : Open) (c : ℕ) → (open_after o c).quoted ≡ inside_after o.quoted c
quoted_after o c = quoted_by o.quoted o.brackets (c == 39) (c == 40) (c == 41)

deepest_least : (o : Open) (xs : List ℕ) → o.brackets ≤ deepest_from o xs
deepest_least o [] = omega arith
deepest_least o (c ∷ xs) = omega arith

-- what is kept of a character, and a text after it
kept_depth : (quoted : Bool) (brackets c : ℕ) (rest : List ℕ) → deepest_from (record { quoted = quoted; brackets = brackets }) (kept quoted c ++ rest) ≡ max brackets (deepest_from (open_after (record { quoted = quoted; brackets = brackets }) c) rest)
kept_depth true brackets c rest = refl
kept_depth false brackets c rest = grind (arith, deepest_least, upper_opens, eqb-true)

folded_from : (o : Open) (xs : List ℕ) → deepest_from o (text_from o.quoted xs) ≡ deepest_from o xs
folded_from o [] = refl
folded_from o (c ∷ xs) =
    let next = open_after o c in
    kept_depth o.quoted o.brackets c (text_from (inside_after o.quoted c) xs)
    ∙ ap (λ inside. max o.brackets (deepest_from next (text_from inside xs))) (sym (quoted_after o c))
    ∙ ap (λ d. max o.brackets d) (folded_from next xs)

pub folded_depth : (xs : List ℕ) → bracket_depth (text xs) ≡ bracket_depth xs
folded_depth xs = folded_from nothing_open xs
