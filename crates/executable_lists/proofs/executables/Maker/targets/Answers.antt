use Rattle.std.proofs.Common.{rules, ◌≡◌, ℕ, ◌∷◌, ◌++◌, [], List, get_or, sym, ap, ◌∙◌}
use Rattle.std.proofs.lemmas.List.{map_more}
use Rattle.layout_rules.specs.Executables.{labelled}
use Rattle.executable_lists.proofs.executables.Maker.targets.Goals as goal

pub loop-label-preserved : goal.loop-label-preserved
loop-label-preserved c =
    let f : ℕ → ℕ = λ l. labelled c.args.self.now.stmts.now l in
    let xs = c.as_slice-label-items.result.now in
    let i = c.loop-label.label-index in
    let label = get_or xs i 0 in
    let pushed : c.push.new.self ≡ c.loop-label.list ++ c.labelled.result ∷ [] = search rules in
    let is : c.labelled.result ≡ f label = c.labelled.ensures in
    pushed
    ∙ ap (λ x. c.loop-label.list ++ x ∷ []) is
    ∙ ap (λ (ys : List ℕ). ys ++ f label ∷ []) c.loop-label.invariant
    ∙ sym (map_more f xs i 0 c.loop-label-test.true)
