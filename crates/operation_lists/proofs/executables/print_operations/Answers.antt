use Rattle.std.proofs.Common.{◌≡◌, ◌≤◌, ◌+◌, ℕ, List, [], ◌∷◌, length, ap, arith}
use Rattle.std.specs.Prelude.{sum_by}
use Rattle.f77_tree.specs.declared.programs.Item.{Item}
use Rattle.f77_tree.specs.Operations.{item_operations}
use Rattle.operation_lists.proofs.executables.print_operations.Goals as goal

-- no items have no operations, and some have fewer than are counted
fewer : (items : List Item) (done old : ℕ) → old ≡ 0 → done + length items ≤ old + sum_by item_operations items → sum_by item_operations items ≤ 500 → done + 1 ≤ 500
fewer [] done old none few most = omega (arith, none, few)
fewer (item ∷ items) done old none few most = omega (arith, none, few, most)

pub returns-clause-few : goal.returns-clause-few
returns-clause-few c =
    let most = fewer c.args.items.now (length c.compile_items.new.done.items) (length c.new-done.result.items) (ap length c.new-done.ensures.items) c.in_ok-operands.ensures.few c.requires.modest in
    let one = c.in_ok-end_with.ensures.few in
    omega (arith, most, one)
