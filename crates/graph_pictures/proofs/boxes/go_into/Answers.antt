use Rattle.std.proofs.Common.{◌∙◌, ◌++◌, ◌∷◌, [], ap, ℕ, List, map, reverse, sym}
use Rattle.graph_pictures.specs.FlowDot.{within}
use Rattle.graph_pictures.specs.Groups.{members_in}
use Rattle.graph_pictures.specs.declared.boxes.Step.{Step}
use Rattle.graph_pictures.specs.declared.boxes.Step.TheVariants as step
use Rattle.graph_pictures.proofs.Steps.{opened}
use Rattle.graph_pictures.proofs.boxes.go_into.Goals as goal

pub returns-in_ok-open-in-Open : goal.returns-in_ok-open-in-Open
returns-in_ok-open-in-Open c =
    let old = c.args.waiting.now.items in
    let regions = members_in c.args.inner.now in
    c.in_ok-open-in-Open.ensures
    ∙ ap (λ (l : List Step). l ++ map step.Open (reverse c.places.result.now)) c.in_ok-push-in-Open.ensures.items
    ∙ ap (λ (ps : List ℕ). (old ++ step.Close ∷ []) ++ map step.Open (reverse ps)) c.places.ensures
    ∙ opened regions c.in-Open.region old
    ∙ ap (λ (s : Step). old ++ reverse (within regions s)) (sym c.in-Open.is)
