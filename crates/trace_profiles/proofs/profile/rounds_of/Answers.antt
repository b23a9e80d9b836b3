use Rattle.std.proofs.Common.{◌≡◌, ◌+◌, ◌-◌, ◌^◌, get_or, min, rules, arith}
use Rattle.printed_graphs.specs.declared.trace.Firing.{Firing}
use Rattle.printed_graphs.specs.declared.trace.NodeName.TheVariants as name
use Rattle.trace_profiles.specs.RunRounds.{Fires}
use Rattle.trace_profiles.proofs.Gathered.{fired_inside, one_more_firing, other_firing}
use Rattle.trace_profiles.proofs.profile.rounds_of.Goals as goal

pub returns-then-not-is_node-clause-firing : goal.returns-then-not-is_node-clause-firing
returns-then-not-is_node-clause-firing c = λ line same.
    let told : c.saturating_add-line.result ≡ line = cc in
    let d : Firing = record { node = 0; name = name.Operation 0 0 } in
    let none : Fires c.args.graph.now.nodes.items (get_or c.args.firings.now c.loop-firing.firing-index d) → ⊥ = λ fires. grind (arith, fires, c.is_node.ensures, c.if-not-is_node.true, c.as_slice.ensures.value) in
    let one : line ≡ min (c.loop-firing.line + 1) (2 ^ 64 - 1) = grind (arith, told, c.saturating_add-line.ensures) in
    other_firing c.args.graph.now c.args.loads c.args.firings.now c.loop-firing.rounds c.loop-firing.all.items c.loop-firing.firing-index c.args.before c.loop-firing.line line d c.loop-firing.invariant c.loop-firing-test.true none one

pub next-requires : goal.next-requires
next-requires c = grind (arith, fired_inside c.args.graph.now.nodes.items, c.loop-firing.invariant.graph)

pub loop-firing-preserved : goal.loop-firing-preserved
loop-firing-preserved c =
    search (rules, one_more_firing c.args.graph.now c.args.loads c.args.firings.now c.loop-firing.rounds c.next.new.self c.loop-firing.all.items c.loop-firing.firing-index c.args.before c.loop-firing.line c.saturating_add-line.result c.next.result)

pub returns-clause-nodes : goal.returns-clause-nodes
returns-clause-nodes c = λ k d low. c.loop-firing.invariant.nodes k d (omega (arith, low, c.loop-firing-test.false))
