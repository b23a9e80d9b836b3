use Rattle.std.proofs.Common.{◌≡◌, ◌≢◌, ℕ, List, ◌++◌, None, Some, ap, sym, ◌∙◌}
use Rattle.std.proofs.lemmas.Bool.Decides.{Decides-eqb}
use Rattle.std.proofs.lemmas.Slice.Eq.{strip_suffix_is}
use Rattle.source_maps.specs.Outputs.{line_words}
use Rattle.source_maps.proofs.output.trap_at_end.Goals as goal

pub returns-in-Some-clause-trap : goal.returns-in-Some-clause-trap
returns-in-Some-clause-trap c =
    let front = c.in-Some.front.now in
    let ends : c.args.text.now ≡ front ++ c.as_bytes.result.now = strip_suffix_is Decides-eqb c.args.text.now c.as_bytes.result.now (Some c.in-Some.front) c.in-Some.ensures.cases in
    ends ∙ ap (λ words. front ++ words) (c.as_bytes.ensures.value ∙ c.in_ok-words.ensures.ok)

pub returns-clause-none : goal.returns-clause-none
returns-clause-none c = λ front line small ends.
    let words : c.as_bytes.result.now ≡ line_words line = c.as_bytes.ensures.value ∙ c.in_ok-words.ensures.ok ∙ ap line_words (c.last_number-line.ensures front line small ends) in
    let none : (front : List ℕ) → c.args.text.now ≢ front ++ c.as_bytes.result.now = strip_suffix_is Decides-eqb c.args.text.now c.as_bytes.result.now None c.in-None.ensures.cases in
    none front (ends ∙ ap (λ ws. front ++ ws) (sym words))
