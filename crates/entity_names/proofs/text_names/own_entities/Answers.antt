use Rattle.std.proofs.Common.{◌<◌, inl, inr, fold, length, refl, ap, ◌∙◌, arith}
use Rattle.std.proofs.lemmas.Option.{slice_get_read}
use Rattle.program_units.specs.Names.{with_entity}
use Rattle.entity_names.proofs.OwnEntities.{noted-all, noted-next, own-is}
use Rattle.entity_names.proofs.text_names.own_entities.Goals as goal

pub loop-k-init : goal.loop-k-init
loop-k-init c = record { some = omega arith; most = inr refl; own = c.new-own.ensures }

pub loop-k-preserved : goal.loop-k-preserved
loop-k-preserved c =
    let us = c.args.us.now in
    let k = c.loop-k.k in
    let table = c.args.kept.now in
    let kept = c.index-kept-k.result in
    let count = c.requires.kept.count in
    let some = c.loop-k.invariant.some in
    let inside : k < length us = omega arith in
    let there = slice_get_read table (length table) k kept refl (omega (arith, count, inside)) c.index-kept-k.is in
    let are = c.requires.kept.each k kept there in
    record {
      some = omega (arith, some);
      most = inl (omega (arith, inside));
      own = noted-next us k c.loop-k.own c.add_own.new.own some c.loop-k.invariant.own (c.in_ok-add_own.ensures ∙ ap (fold with_entity c.loop-k.own) (own-is us c.args.main.now c.requires.main kept k are));
    }

pub returns : goal.returns
returns c = noted-all c.args.us.now c.loop-k.k c.loop-k.own c.loop-k.invariant.some (omega arith) c.loop-k.invariant.most c.loop-k.invariant.own
