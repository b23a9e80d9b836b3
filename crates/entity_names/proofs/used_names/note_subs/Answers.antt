use Rattle.layout_rules.specs.Appearances.{with_name}
use Rattle.program_units.specs.Names.{option_names}
use Rattle.program_units.specs.Units.{sub_name}
use Rattle.entity_names.proofs.PutLists.{fold-more}
use Rattle.entity_names.proofs.used_names.note_subs.Goals as goal

pub loop-s-preserved : goal.loop-s-preserved
loop-s-preserved c =
    fold-more with_name (λ s. option_names (sub_name s.stmt)) c.args.unit.now c.loop-s.s-index c.s-item.result c.args.used.now c.loop-s.used c.note_sub.new.used c.loop-s-test.true c.s-item.is c.loop-s.invariant c.in_ok-note_sub.ensures
