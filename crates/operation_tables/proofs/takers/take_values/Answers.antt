use Rattle.std.proofs.Common.{◌≡◌, ◌<◌, ℕ, List, length, get_or, slice_index, sym, ap, ◌∙◌, subst, arith, set}
use Rattle.std.proofs.lemmas.List.{get_or-set_same, get_or-set_other, length-set}
use Rattle.operation_lists.specs.declared.operations.Operand.{Operand}
use Rattle.operation_lists.specs.declared.operations.Operand.TheVariants.{Node}
use Rattle.operation_tables.proofs.TakerLemmas.{known_more, node_more, node_takes}
use Rattle.operation_tables.proofs.takers.take_values.Goals as goal
use Rattle.operation_tables.proofs.takers.take_values.Goals.{in-Node, in-Known}

-- the operand in the slice is one of the list
own : (xs ys : List Operand) (k : ℕ) (d o : Operand) → xs ≡ ys → get_or xs k d ≡ o → get_or ys k d ≡ o
own xs ys k d o same is = ap (λ (zs : List Operand). get_or zs k d) (sym same) ∙ is

pub index_mut-requires : goal.index_mut-requires
index_mut-requires c =
    let items = c.args.operands.now.items in
    let k = c.loop-operand.operand-index in
    let same = c.as_slice-operand-items.ensures in
    let low : k < length items = subst (λ (xs : List Operand). k < length xs) same c.loop-operand-test.true in
    let inside = c.requires c.in-Node.number (node_takes items k (Node 0) low c.in-Node.number (own c.as_slice-operand-items.result.now items k (Node 0) (Node c.in-Node.number) same c.in-Node.is)) in
    let all = c.loop-operand.invariant.all in
    let size = c.loop-operand.takers.ok.0 in
    omega (arith, inside, all, size)

pub loop-operand-preserved : goal.loop-operand-preserved
loop-operand-preserved c =
    let slice = c.as_slice-operand-items.result.now in
    let items = c.args.operands.now.items in
    let k = c.loop-operand.operand-index in
    let same = c.as_slice-operand-items.ensures in
    let low : k < length items = subst (λ (xs : List Operand). k < length xs) same c.loop-operand-test.true in
    let takers = c.loop-operand.takers.items in
    let inv = c.loop-operand.invariant in
    elim c.match-operand.branch [
      | in-Node w ↦
          (let number = w.in-Node.number in
          let at = own slice items k (Node 0) (Node number) same w.in-Node.is in
          let exists = c.requires number (node_takes items k (Node 0) low number at) in
          let inside : number < length takers = let all = inv.all in omega (arith, exists, all) in
          rw w.takers-is (record {
            all = length-set takers number c.args.i ∙ inv.all;
            takers = node_more items k (Node 0) low c.args.i (λ n. slice_index c.args.takers.now.items n) (λ n. slice_index takers n) (λ n. slice_index (set takers number c.args.i) n) inv.takers number at
                (get_or-set_same takers number c.args.i 0 inside)
                (λ n apart. get_or-set_other takers number n c.args.i 0 apart);
          }))
      | in-Known w ↦
          (rw w.takers-is (record {
            all = inv.all;
            takers = known_more items k (Node 0) low c.args.i (λ n. slice_index c.args.takers.now.items n) (λ n. slice_index takers n) (λ n. slice_index takers n) inv.takers w.in-Known.field-0
                (own slice items k (Node 0) (Rattle.operation_lists.specs.declared.operations.Operand.TheVariants.Known w.in-Known.field-0) same w.in-Known.is);
          }))
    ]
