use Rattle.entity_names.proofs.OwnEntities.{own-more}
use Rattle.entity_names.proofs.text_names.add_own.Goals as goal

pub loop-i-preserved : goal.loop-i-preserved
loop-i-preserved c =
    own-more c.args.main.now c.args.kept.now c.args.k c.args.kept.now.names c.loop-i.i c.name.result.now c.args.own.now c.loop-i.own c.add_entity.new.own c.name.ensures c.loop-i.invariant c.in_ok-add_entity.ensures
