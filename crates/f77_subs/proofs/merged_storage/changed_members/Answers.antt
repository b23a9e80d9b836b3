use Rattle.std.proofs.Common.{◌≤◌, List, length, arith, sym, subst}
use Rattle.f77_tree.specs.declared.declarations.Member.{Member}
use Rattle.program_units.specs.Expansion.{member_for}
use Rattle.inlined_copies.proofs.ChangedRows.{map-few}
use Rattle.f77_subs.proofs.MemberNames.{member-named}
use Rattle.f77_subs.proofs.merged_storage.changed_members.Goals as goal

pub changed_member-requires-clause-named : goal.changed_member-requires-clause-named
changed_member-requires-clause-named c =
    member-named c.args.new.now.text.now.us.now c.args.k c.args.members.now c.as_slice-member-items.result.now c.loop-member.member-index c.member-item.result c.as_slice-member-items.ensures.items c.requires.named c.loop-member-test.true c.member-item.is

pub push-requires : goal.push-requires
push-requires c =
    let few : length c.loop-member.made ≤ c.loop-member.member-index = subst (λ (row : List Member). length row ≤ c.loop-member.member-index) (sym c.loop-member.invariant) (map-few (member_for c.args.new.now.text.now.us.now c.args.k) c.as_slice-member-items.result.now c.loop-member.member-index) in
    let room = c.as_slice-member-items.ensures.len in
    omega (arith, few, room)
