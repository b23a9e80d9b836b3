use Rattle.std.proofs.Common.{◌≡◌, ◌+◌, ◌≤◌, ℕ, Bool, List, false, filter, length, nat_lt, sym, ap, ◌∙◌, arith}
use Rattle.std.specs.List.{range_with_len}
use Rattle.std.proofs.lemmas.Bool.{ltb-false}
use Rattle.layout_rules.specs.Appearances.{each_once}
use Rattle.program_units.specs.NewNames.{is_free_of}
use Rattle.entity_names.proofs.GreatNames.{great-short, none-great, same-free}
use Rattle.f77_subs.proofs.great_names.has_number_above.Goals as goal

pub returns-then-not-is_over : goal.returns-then-not-is_over
returns-then-not-is_over c = λ all is short.
    let count = c.args.count in
    let most = c.args.most in
    let long : c.len.result ≡ length (each_once all) = c.len.ensures ∙ ap length is in
    let over : nat_lt most (count + length (each_once all)) ≡ false = ap (λ (n : ℕ). nat_lt most (count + n)) (sym long) ∙ sym c.is_over.ensures ∙ c.if-not-is_over.true in
    let within : count + length (each_once all) ≤ most = ltb-false most (count + length (each_once all)) over in
    sym (great-short all short count most ∙ ap (λ (test : ℕ → Bool). nat_lt (length (filter test (range_with_len 1 most))) count) (sym (same-free all)) ∙ none-great all count (omega (arith, within, c.requires)) most within)

pub returns : goal.returns
returns c = λ all is short.
    let count = c.args.count in
    let most = c.args.most in
    c.is_less.ensures
    ∙ ap (λ n. nat_lt n count) c.in_ok-free.ensures
    ∙ ap (λ (names : List (List ℕ)). nat_lt (length (filter (is_free_of names) (range_with_len 1 most))) count) is
    ∙ ap (λ (test : ℕ → Bool). nat_lt (length (filter test (range_with_len 1 most))) count) (same-free all)
    ∙ sym (great-short all short count most)
