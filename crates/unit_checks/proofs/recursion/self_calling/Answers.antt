use Rattle.std.proofs.Common.{◌≡◌, ℕ, ◌<◌, ◌↔◌, Bool, true, false, List, length, ap, ◌∙◌, slice_index_or}
use Rattle.std.proofs.lemmas.Result.{IfOk-weaker}
use Rattle.closed_walks.specs.Cycling.{IsOnCycle}
use Rattle.program_units.specs.Units.{reaches}
use Rattle.unit_checks.proofs.CallCycles.{marks-tell, not_marked}
use Rattle.unit_checks.proofs.recursion.self_calling.Goals as goal

pub returns-clause-told : goal.returns-clause-told
returns-clause-told c =
    let us = c.args.us.now in
    let g = c.in_ok-graph.graph in
    let avoided : ℕ → Bool = λ e. slice_index_or c.deref.result.now e false in
    let none : (e : ℕ) → avoided e ≡ false = λ e. ap (λ (marks : List Bool). slice_index_or marks e false) (c.deref.ensures.value ∙ c.in_ok-none.ensures) ∙ not_marked c.edges.result e in
    IfOk-weaker c.on_cycles.result
    (λ marks. (node : ℕ) → node < g.nodes → (slice_index_or marks.items node false ≡ true) ↔ IsOnCycle g avoided node)
    (λ marks. (k : ℕ) → k < length us → slice_index_or marks.items k false ≡ reaches us (length us) k k)
    (λ marks told. marks-tell us marks.items avoided g c.in_ok-graph.ensures none told)
    c.on_cycles.ensures.cycle
