use Rattle.entity_names.proofs.PutLists.{note-more}
use Rattle.entity_names.proofs.used_names.note_all.Goals as goal

pub loop-i-preserved : goal.loop-i-preserved
loop-i-preserved c =
    note-more c.args.names.now c.loop-i.i c.name.result.now c.args.used.now c.loop-i.used c.note.new.self c.name.ensures c.loop-i.invariant c.in_ok-note.ensures
