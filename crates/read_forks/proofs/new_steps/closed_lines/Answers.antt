use Rattle.std.proofs.Common.{◌∙◌, [], map, refl, ap, arith}
use Rattle.std.proofs.lemmas.List.{take_all}
use Rattle.read_forks.specs.declared.steps.Step.{Step}
use Rattle.read_forks.proofs.MadeTables.{mapped_more}
use Rattle.read_forks.proofs.new_steps.closed_lines.Goals as goal

pub loop-k-preserved : goal.loop-k-preserved
loop-k-preserved c =
    let steps = c.args.steps.now in
    mapped_more (λ (step : Step). step.count) [] c.loop-k.closed.items c.push.new.self.items steps c.loop-k.k c.at.result c.at.result.count c.at.ensures refl c.loop-k.invariant c.in_ok-push.ensures.items

pub returns : goal.returns
returns c =
    let over = c.loop-k-test.false in
    let end = c.loop-k.auto.k-end in
    let long = c.len.ensures in
    c.loop-k.invariant ∙ ap (map (λ (step : Step). step.count)) (take_all c.loop-k.k c.args.steps.now (omega (arith, over, end, long)))
