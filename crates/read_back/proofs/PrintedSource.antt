-- The lines of a printed text, one after another.
use Rattle.std.proofs.Common.{◌≡◌, ◌==◌, ℕ, ◌+◌, ◌<◌, ◌≤◌, true, false, leb, List, [], ◌∷◌, ◌++◌, length, get_or, refl, arith, append_assoc}
use Rattle.std.specs.Prelude.{flat_map}
use Rattle.std.specs.List.{list_all, All}
use Rattle.std.specs.Str.Lines.{lines, lines_of_parts, strip_carriage_return}
use Rattle.std.proofs.lemmas.Bool.{and_parts, leb-true, ne_eqb, cond-false}
use Rattle.std.proofs.lemmas.List.Splits.{slice_split_at, length-slice_split}
use Rattle.std.proofs.lemmas.List.Sums.{AllPass-from_list_all}
use Rattle.fixed_form.specs.Columns.{is_character}
use Rattle.fixed_form.specs.SourceLine.{numbered_from}
use Rattle.std.proofs.lemmas.Grind.{elements}

character_least : (c : ℕ) → is_character c ≡ true → 32 ≤ c
character_least c h = leb-true 32 c (and_parts (leb 32 c) (leb c 126) h).0

no_return : (line : List ℕ) → list_all is_character line ≡ true → strip_carriage_return line ≡ line
no_return [] h = refl
no_return (c ∷ cs) h = grind (arith, character_least, AllPass-from_list_all is_character (c ∷ cs) h, cond-false, ne_eqb)

no_break : (line : List ℕ) → list_all is_character line ≡ true → All (λ c. (c == 10) ≡ false) line
no_break line h k d inside =
    grind (arith, character_least (get_or line k d) (AllPass-from_list_all is_character line h k d inside), AllPass-from_list_all is_character line h k d inside, ne_eqb (get_or line k d) 10)

parts_more : (line : List ℕ) (parts : List (List ℕ)) → 0 < length parts → lines_of_parts (line ∷ parts) ≡ strip_carriage_return line ∷ lines_of_parts parts
parts_more line [] some = absurd (omega (arith, some))
parts_more line (next ∷ more) some = refl

line_more : (line rest : List ℕ) → list_all is_character line ≡ true → lines (line ++ 10 ∷ rest) ≡ line ∷ lines rest
line_more line rest h = grind (arith, slice_split_at, no_break line h, parts_more line, length-slice_split, no_return line h)

-- lines, with the end of each
abbrev pub ended : List ℕ → List ℕ
ended line = line ++ 10 ∷ []

abbrev pub AreLines : List (List ℕ) → Type 0
AreLines [] = Unit {0}
AreLines (line ∷ more) = (list_all is_character line ≡ true) × AreLines more

pub both_lines : (first second : List (List ℕ)) → AreLines first → AreLines second → AreLines (first ++ second)
both_lines [] second a b = b
both_lines (line ∷ more) second a b = (a.0, both_lines more second a.1 b)

pub lines_again : (all : List (List ℕ)) → AreLines all → lines (flat_map ended all) ≡ all
lines_again [] are = refl
lines_again (line ∷ more) are = grind (arith, elements, append_assoc, line_more, lines_again more are.1)

pub numbered-append : (n : ℕ) (xs ys : List (List ℕ)) → numbered_from n (xs ++ ys) ≡ numbered_from n xs ++ numbered_from (n + length xs) ys
numbered-append n [] ys = grind arith
numbered-append n (x ∷ xs) ys = grind (arith, numbered-append (n + 1) xs ys)
