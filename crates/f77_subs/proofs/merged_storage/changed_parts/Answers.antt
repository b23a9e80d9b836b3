use Rattle.std.proofs.Common.{◌≤◌, List, length, arith, sym, subst}
use Rattle.f77_tree.specs.declared.declarations.InitPart.{InitPart}
use Rattle.program_units.specs.Expansion.{init_for}
use Rattle.inlined_copies.proofs.ChangedRows.{map-few}
use Rattle.f77_subs.proofs.MemberNames.{member_names, part-named}
use Rattle.f77_subs.proofs.merged_storage.changed_parts.Goals as goal

pub changed_part-requires-clause-named : goal.changed_part-requires-clause-named
changed_part-requires-clause-named c =
    part-named c.args.new.now.text.now.us.now c.args.k (λ (part : InitPart). member_names part.items) c.args.parts.now c.as_slice-part-items.result.now c.loop-part.part-index c.part-item.result c.as_slice-part-items.ensures.items c.requires.named c.loop-part-test.true c.part-item.is

pub push-requires : goal.push-requires
push-requires c =
    let few : length c.loop-part.made ≤ c.loop-part.part-index = subst (λ (row : List InitPart). length row ≤ c.loop-part.part-index) (sym c.loop-part.invariant) (map-few (init_for c.args.new.now.text.now.us.now c.args.k) c.as_slice-part-items.result.now c.loop-part.part-index) in
    let room = c.as_slice-part-items.ensures.len in
    omega (arith, few, room)
