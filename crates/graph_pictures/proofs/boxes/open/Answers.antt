use Rattle.std.proofs.Common.{◌∙◌, ◌-◌, ◌++◌, ◌∷◌, [], ap, append_assoc, get_or, length, List, map, reverse, sym, take}
use Rattle.std.proofs.lemmas.List.{map-append}
use Rattle.graph_pictures.specs.declared.boxes.Step.{Step}
use Rattle.graph_pictures.specs.declared.boxes.Step.TheVariants as step
use Rattle.graph_pictures.proofs.Backwards.{next_last}
use Rattle.graph_pictures.proofs.boxes.open.Goals as goal

pub loop-k-preserved : goal.loop-k-preserved
loop-k-preserved c =
    let rs = c.args.regions.now in
    let k = c.loop-k.k in
    let v = get_or rs (length rs - 1 - k) 0 in
    c.in_ok-push.ensures.items
    ∙ ap (λ (l : List Step). l ++ step.Open v ∷ []) c.loop-k.invariant
    ∙ append_assoc c.args.waiting.now.items (map step.Open (take k (reverse rs))) (step.Open v ∷ [])
    ∙ ap (λ (l : List Step). c.args.waiting.now.items ++ l) (sym (ap (map step.Open) (next_last rs k c.loop-k-test.true) ∙ map-append step.Open (take k (reverse rs)) (v ∷ [])))
