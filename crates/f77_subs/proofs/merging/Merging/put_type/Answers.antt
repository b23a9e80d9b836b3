use Rattle.entity_names.proofs.NamedEntities.{local-inside}
use Rattle.f77_subs.proofs.merging.Merging.put_type.Goals as goal

pub is_running-requires-clause-unit : goal.is_running-requires-clause-unit
is_running-requires-clause-unit c = local-inside c.args.self.now.new.now.text.now.us.now c.args.entity.now c.requires.declared
