use Rattle.std.proofs.Common.{◌≡◌, ℕ, ◌<◌, ◌↔◌, true, false, length, slice_index_or}
use Rattle.std.proofs.lemmas.Result.{IfOk-weaker}
use Rattle.closed_walks.specs.Walk.{Reach, no_edge}
use Rattle.program_units.specs.Units.{runs}
use Rattle.unit_checks.proofs.RunningUnits.{running-told}
use Rattle.unit_checks.proofs.running_units.running.Goals as goal

pub returns-clause-told : goal.returns-clause-told
returns-clause-told c =
    let us = c.args.us.now in
    let g = c.in_ok-graph.graph in
    IfOk-weaker c.reached_from.result
    (λ marks. (v : ℕ) → (slice_index_or marks.items v false ≡ true) ↔ Reach g no_edge 0 v)
    (λ marks. (k : ℕ) → k < length us → slice_index_or marks.items k false ≡ runs us k)
    (λ marks told. running-told us marks.items g c.in_ok-graph.ensures told)
    c.reached_from.ensures.reached
