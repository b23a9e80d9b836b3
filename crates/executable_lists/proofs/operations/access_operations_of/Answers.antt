use Rattle.std.proofs.Common.{◌≡◌, ◌+◌, ◌*◌, length, map, sym, ap, ◌∙◌, arith}
use Rattle.std.specs.Prelude.{sum_by}
use Rattle.std.proofs.lemmas.List.{length-map}
use Rattle.f77_tree.specs.Declarations.{index_of}
use Rattle.f77_tree.specs.Operations.{operations, access_operations}
use Rattle.control_structure.specs.Counted.{counted}
use Rattle.layout_rules.specs.Resolved.{resolved, access_of}
use Rattle.executable_lists.proofs.CountedOperations.{operations-access, counted-sum}
use Rattle.executable_lists.proofs.ResolvedRows.{access_of-Call}
use Rattle.executable_lists.proofs.operations.access_operations_of.Goals as goal

pub returns-in-Call : goal.returns-in-Call
returns-in-Call c checked =
    let names = c.args.names.now in
    let args = map (resolved names checked) c.in-Call.args in
    let is = ap (access_of names checked) c.in-Call.is ∙ access_of-Call names checked c.in-Call.field-0 c.in-Call.args in
    let same = ap access_operations is in
    let counts = operations-access (record { name = index_of names c.in-Call.field-0; subs = args }) in
    let steps = length-map c.in-Call.args (resolved names checked) in
    let extra : c.access_steps.result ≡ counted (1 + 2 * length args) = c.access_steps.ensures ∙ ap (λ n. counted (1 + 2 * n)) (c.len.ensures ∙ sym steps) in
    counted-sum c.saturating_add.result c.count_in_row.result c.access_steps.result (sum_by operations args) (1 + 2 * length args) _ c.saturating_add.ensures (c.count_in_row.ensures checked) extra (omega (arith, same, counts))
