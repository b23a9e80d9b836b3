use Rattle.printed_graphs.proofs.Loops.{begins_as_taken}
use Rattle.printed_graphs.proofs.cursor.Cursor.is_at.Goals as goal

pub returns : goal.returns
returns c = begins_as_taken c.takes.result c.args.word.now c.args.self.now.rest.now c.takes.new.self.rest.now c.takes.ensures.after
