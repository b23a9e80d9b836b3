use Rattle.std.proofs.Common.{◌≡◌, ◌≢◌, ℕ, List, [], ◌∷◌, ◌++◌, None, Some, arith, sym, ◌∙◌}
use Rattle.std.specs.Fmt.{decimal}
use Rattle.std.proofs.lemmas.Bool.Decides.{Decides-eqb}
use Rattle.std.proofs.lemmas.Slice.Eq.{strip_suffix_is}
use Rattle.source_maps.specs.Outputs.{after_blank}
use Rattle.source_maps.proofs.LastWords.{digits_of_trap, word_of_trap}
use Rattle.source_maps.proofs.output.last_number.Goals as goal

pub returns-in-Some : goal.returns-in-Some
returns-in-Some c = λ front line small ends.
    let word : after_blank c.args.text.now c.args.text.now ≡ c.in-Some.digits.now ++ 10 ∷ [] = sym c.last_word.ensures ∙ strip_suffix_is Decides-eqb c.last_word.result.now (10 ∷ []) (Some c.in-Some.digits) c.in-Some.ensures.cases in
    c.number_of.ensures line small (digits_of_trap c.args.text.now c.in-Some.digits.now front line (omega (arith, small)) ends word)

pub returns-in-None : goal.returns-in-None
returns-in-None c = λ front line small ends.
    let word : c.last_word.result.now ≡ decimal line ++ 10 ∷ [] = c.last_word.ensures ∙ word_of_trap c.args.text.now front line (omega (arith, small)) ends in
    let none : (front : List ℕ) → c.last_word.result.now ≢ front ++ 10 ∷ [] = strip_suffix_is Decides-eqb c.last_word.result.now (10 ∷ []) None c.in-None.ensures.cases in
    absurd (none (decimal line) word)
