use Rattle.std.proofs.Common.{◌<◌, length, arith}
use Rattle.std.specs.Prelude.{bytes_eq}
use Rattle.indexmap.specs.IndexMap.{get}
use Rattle.program_units.proofs.NamedUnits.{named-next}
use Rattle.program_units.proofs.unit_index.sub_index.Goals as goal

pub loop-k-preserved : goal.loop-k-preserved
loop-k-preserved c = λ name.
    let inside : c.loop-k.k < length c.args.us.now = omega arith in
    named-next c.args.us.now c.loop-k.k c.at.result.now name (get bytes_eq c.loop-k.index name) (get bytes_eq c.note_subs.new.index name)
    inside c.at.ensures.unit (c.loop-k.invariant name) (c.in_ok-note_subs.ensures name)
