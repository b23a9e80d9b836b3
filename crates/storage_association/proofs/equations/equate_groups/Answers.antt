use Rattle.std.proofs.Common.{◌<◌, List, All, length, sym, subst}
use Rattle.f77_tree.specs.declared.declarations.Member.{Member}
use Rattle.f77_tree.specs.Declarations.{member_index}
use Rattle.layout_rules.specs.Storage.{group_equations}
use Rattle.storage_association.specs.CommonStorages.{Links}
use Rattle.storage_association.proofs.Coming.{links-flat, some-next}
use Rattle.storage_association.proofs.equations.equate_groups.Goals as goal

pub equate_group-requires-clause-known : goal.equate_group-requires-clause-known
equate_group-requires-clause-known c =
    let names = c.args.names.now in
    let known : All (λ member. member_index names member < length names) c.group-item.result = subst (λ (g : List Member). All (λ member. member_index names member < length names) g) (sym c.group-item.is) (c.requires.known c.loop-group.group-index c.group-item.result c.loop-group-test.true) in
    subst (λ (g : List Member). All (λ member. member_index names member < length names) g) (sym c.as_slice.ensures.items) known

pub loop-group-preserved : goal.loop-group-preserved
loop-group-preserved c =
    let names = c.args.names.now in
    let inv = c.loop-group.invariant in
    let links : Links (length names) c.loop-group.storages c.equate_group.new.storages (group_equations names c.group-item.result) = subst (λ (g : List Member). Links (length names) c.loop-group.storages c.equate_group.new.storages (group_equations names g)) c.as_slice.ensures.items c.equate_group.ensures.links in
    let next = some-next (length names) c.loop-group.storages c.equate_group.new.storages _ inv.some inv.same links in
    record {
      some = next.0;
      same = next.1;
      came = links-flat (group_equations names) (length names) c.args.storages.now c.loop-group.storages c.equate_group.new.storages c.args.groups.now c.loop-group.group-index _ _ c.loop-group-test.true c.group-item.is inv.came links;
    }
