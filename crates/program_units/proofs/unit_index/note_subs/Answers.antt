use Rattle.std.specs.Prelude.{bytes_eq}
use Rattle.indexmap.specs.IndexMap.{get}
use Rattle.program_units.specs.Units.{is_sub_of}
use Rattle.program_units.proofs.NamedUnits.{note-more}
use Rattle.program_units.proofs.unit_index.note_subs.Goals as goal

pub loop-s-preserved : goal.loop-s-preserved
loop-s-preserved c = λ name.
    note-more (is_sub_of name) c.args.unit.now c.loop-s.s-index c.args.k c.s-item.result (get bytes_eq c.args.index.now name) (get bytes_eq c.loop-s.index name) (get bytes_eq c.note_sub.new.index name)
    c.loop-s-test.true c.s-item.is (c.loop-s.invariant name) (c.in_ok-note_sub.ensures name)
