-- The lines of a text, and their numbers.
use Rattle.std.proofs.Common.{◌≡◌, ◌∙◌, ℕ, zero, suc, ◌+◌, ◌<◌, ◌≤◌, ◌==◌, List, [], ◌∷◌, ◌++◌, length, All, ap, sym, add-one, arith, length-append}
use Rattle.std.specs.List.{range_with_len}
use Rattle.std.proofs.lemmas.Grind.{elements}
use Rattle.std.proofs.lemmas.List.Elements.{All-append, All-cons, All-nil}
use Rattle.std.proofs.lemmas.List.Sums.{count_by-le-length}
use Rattle.f77_lower.specs.Lowering.{number_of_lines, IsLineOf}

-- a text has at most one line more than it has bytes
pub few_lines : (text : List ℕ) → number_of_lines text ≤ length text + 1
few_lines text = omega (arith, count_by-le-length (λ byte. byte == 10) text)

numbers_next : (first n : ℕ) → range_with_len first (suc n) ≡ range_with_len first n ++ (n + first) ∷ []
numbers_next first zero = grind (arith)
numbers_next first (suc n) = grind (arith, elements, numbers_next (first + 1) n)

-- the lines so far, with one more
pub numbers_pushed : (source old new : List ℕ) (n : ℕ) → new ≡ old ++ (n + 1) ∷ [] → n < number_of_lines source → (old ≡ range_with_len 1 n) × (length old ≡ n) × All (IsLineOf source) old → (new ≡ range_with_len 1 (n + 1)) × (length new ≡ n + 1) × All (IsLineOf source) new
numbers_pushed source old new n all low kept =
    let next : range_with_len 1 (n + 1) ≡ range_with_len 1 n ++ (n + 1) ∷ [] = ap (range_with_len 1) (add-one n) ∙ numbers_next 1 n in
    let line : IsLineOf source (n + 1) = (omega arith, omega arith) in
    (all ∙ (ap (λ numbers. numbers ++ (n + 1) ∷ []) kept.0 ∙ sym next), rw all (omega (arith, length-append old ((n + 1) ∷ []), kept.1)), rw all (All-append (IsLineOf source) old ((n + 1) ∷ []) kept.2 (All-cons (IsLineOf source) (n + 1) [] line (All-nil (IsLineOf source)))))
