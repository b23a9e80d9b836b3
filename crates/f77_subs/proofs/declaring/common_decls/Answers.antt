use Rattle.std.proofs.Common.{◌≡◌, length, ap, ◌∙◌, arith}
use Rattle.std.proofs.lemmas.List.FromFn.{length-map-range_with_len}
use Rattle.program_units.specs.Expansion.{common_decl}
use Rattle.entity_names.proofs.FewPlaces.{places-few}
use Rattle.entity_names.proofs.PutDecls.{commons-more}
use Rattle.f77_subs.proofs.declaring.common_decls.Goals as goal

pub push-requires : goal.push-requires
push-requires c =
    let new = c.args.put.now.new.now in
    let us = new.text.now.us.now in
    let many : length c.loop-i.decls ≡ c.loop-i.i = ap length c.loop-i.invariant ∙ length-map-range_with_len (common_decl us c.args.block.now) 0 c.loop-i.i in
    let few = places-few us c.args.block.now new.named c.requires in
    let size = c.block_size-i-end.ensures in
    let names = new.few in
    let as_many = new.as_many in
    omega (arith, many, few, size, names, as_many)

pub loop-i-preserved : goal.loop-i-preserved
loop-i-preserved c =
    commons-more c.args.put.now.new.now.text.now.us.now c.args.block.now c.loop-i.i c.in_ok-common_decl.field-0 c.loop-i.decls c.push.new.self c.loop-i.invariant c.in_ok-common_decl.ensures c.in_ok-push.ensures.ok
