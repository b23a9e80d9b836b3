use Rattle.std.proofs.Common.{◌≡◌, ◌∙◌, ℕ, List, ◌∷◌, [], ◌++◌, length, map, ap, arith}
use Rattle.read_forks.specs.StepRows.{row_at}
use Rattle.read_forks.specs.declared.steps.Step.{Step}
use Rattle.read_forks.proofs.PushedSteps.{steps_pushed}
use Rattle.read_forks.proofs.steps.Steps.push.Goals as goal

pub returns-in-Ok : goal.returns-in-Ok
returns-in-Ok c =
    let rows = c.self.inside.rows.items in
    let numbers = c.self.inside.numbers.items in
    let last : c.len-number.result ≡ length rows = omega (arith, c.len-number.ensures, c.self.inside.rows.ok.0) in
    ap (λ (rs : List Step). map (row_at rs) c.push-2.new.self.items) c.in_ok-push.ensures.items
    ∙ ap (λ (ns : List ℕ). map (row_at (rows ++ c.args.step ∷ [])) ns) c.in-Ok.ensures.items
    ∙ steps_pushed rows numbers c.args.step c.len-number.result c.self.invariant.exist last
    ∙ ap (λ (ss : List Step). ss ++ c.args.step ∷ []) c.self.view_is
