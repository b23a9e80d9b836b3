use Rattle.std.proofs.Common.{ap, ◌∙◌, ◌-◌}
use Rattle.cfg_build.specs.declared.parts.Target.TheVariants.{First}
use Rattle.cfg_build.specs.Tables.{number_in}
use Rattle.cfg_build.proofs.DrawableParts.{are_parts}
use Rattle.cfg_build.proofs.FlowDrawn.{finish_told, drawn_is}
use Rattle.cfg_build.proofs.flow.joined.Goals as goal
use Rattle.std.proofs.Common.{arith}

pub ways-requires : goal.ways-requires
ways-requires c = grind (arith, are_parts c.reaching_is_told.ensures c.args.p.now.names)

pub numbers-requires-clause-parts : goal.numbers-requires-clause-parts
numbers-requires-clause-parts c = grind (arith, are_parts c.reaching_is_told.ensures c.args.p.now.names)

pub drawn-requires-clause-parts : goal.drawn-requires-clause-parts
drawn-requires-clause-parts c = grind (arith, are_parts c.reaching_is_told.ensures c.args.p.now.names)

pub returns : goal.returns
returns c =
    let execs = c.args.p.now.execs in
    let table = c.in_ok-numbers.numbers in
    let end = c.get-finish.ensures ∙ ap (λ n. number_in table (First (n - 1))) c.len-execs.ensures ∙ finish_told execs table c.deref-3.result.now (c.deref-3.ensures.value ∙ c.in_ok-parts.ensures) c.in_ok-numbers.ensures.numbers in
    drawn_is execs c.drawn.result c.deref-4.result.now c.get-finish.result (c.deref-4.ensures.value ∙ c.in_ok-parts.ensures) end c.drawn.ensures.pieces c.drawn.ensures.edges
