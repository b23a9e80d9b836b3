use Rattle.std.proofs.Common.{◌≤◌, List, length, arith, sym, subst}
use Rattle.f77_tree.specs.declared.declarations.Member.{Member}
use Rattle.program_units.specs.Expansion.{members_for}
use Rattle.inlined_copies.proofs.ChangedRows.{map-few}
use Rattle.f77_subs.proofs.MemberNames.{member_names, part-named}
use Rattle.f77_subs.proofs.merged_storage.changed_groups.Goals as goal

pub changed_members-requires-clause-named : goal.changed_members-requires-clause-named
changed_members-requires-clause-named c =
    part-named c.args.new.now.text.now.us.now c.args.k member_names c.args.groups.now c.as_slice-group-items.result.now c.loop-group.group-index c.group-item.result c.as_slice-group-items.ensures.items c.requires.named c.loop-group-test.true c.group-item.is

pub push-requires : goal.push-requires
push-requires c =
    let few : length c.loop-group.made ≤ c.loop-group.group-index = subst (λ (row : List (List Member)). length row ≤ c.loop-group.group-index) (sym c.loop-group.invariant) (map-few (members_for c.args.new.now.text.now.us.now c.args.k) c.as_slice-group-items.result.now c.loop-group.group-index) in
    let room = c.as_slice-group-items.ensures.len in
    omega (arith, few, room)
