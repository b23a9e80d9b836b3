use Rattle.std.proofs.Common.{◌≤◌, ℕ, List, length, arith, sym, subst}
use Rattle.inlined_copies.specs.Changes.{changes_of}
use Rattle.inlined_copies.proofs.ChangedRows.{map-few}
use Rattle.inlined_copies.proofs.changed_stmts.changed_labels.Goals as goal

pub push-requires : goal.push-requires
push-requires c =
    let few : length c.loop-label.made ≤ c.loop-label.label-index = subst (λ (row : List ℕ). length row ≤ c.loop-label.label-index) (sym c.loop-label.invariant) (map-few (changes_of c.args.c.now).jump c.as_slice-label-items.result.now c.loop-label.label-index) in
    let room = c.as_slice-label-items.ensures.len in
    omega (arith, few, room)
