-- The lines of a map, and texts one after another.
use Rattle.std.proofs.Common.{◌≡◌, ℕ, suc, ◌+◌, ◌<◌, List, [], ◌∷◌, ◌++◌, Option, get_or, length, take, sym, ap, subst, ◌∙◌, append-nil, append_assoc, arith}
use Rattle.std.proofs.lemmas.List.{length-take-le, take_more}
use Rattle.view_jobs.specs.Lowered.{line_text, lines_text}
use Rattle.view_output.specs.Told.{Adds}
use Rattle.view_output.proofs.Pieces.{and_then}

lines_append : (line : ℕ) (sources : List ℕ) (source : ℕ) → lines_text line (sources ++ source ∷ []) ≡ lines_text line sources ++ line_text (length sources + line) source
lines_append line [] source =
    let same : line ≡ 0 + line = omega arith in
    append-nil (line_text line source) ∙ ap (λ n. line_text n source) same
lines_append line (s ∷ sources) source =
    let next : length sources + suc line ≡ suc (length sources) + line = omega arith in
    ap (λ t. line_text line s ++ t) (lines_append (suc line) sources source ∙ ap (λ n. lines_text (suc line) sources ++ line_text n source) next)
    ∙ sym (append_assoc (line_text line s) (lines_text (suc line) sources) (line_text (suc (length sources) + line) source))

lines_more : (sources : List ℕ) (i : ℕ) → i < length sources → lines_text 1 (take (i + 1) sources) ≡ lines_text 1 (take i sources) ++ line_text (i + 1) (get_or sources i 0)
lines_more sources i inside =
    let count : length (take i sources) ≡ i = length-take-le i sources (omega (arith, inside)) in
    ap (lines_text 1) (take_more sources i 0 inside)
    ∙ lines_append 1 (take i sources) (get_or sources i 0)
    ∙ ap (λ n. lines_text 1 (take i sources) ++ line_text (n + 1) (get_or sources i 0)) count

-- one line more
pub told_line : (sources : List ℕ) (i : ℕ) (a b c : Option (List ℕ)) → i < length sources → Adds a b (lines_text 1 (take i sources)) → Adds b c (line_text (i + 1) (get_or sources i 0)) → Adds a c (lines_text 1 (take (i + 1) sources))
told_line sources i a b c inside before one = subst (Adds a c) (sym (lines_more sources i inside)) (and_then before one)
