use Rattle.std.proofs.Common.{map}
use Rattle.f77_tree.specs.Line.{item_text}
use Rattle.token_net.proofs.RunLemmas.{line_some}
use Rattle.token_net.proofs.pieces_run.act.Goals as goal

pub returns-in-Ok-clause-line : goal.returns-in-Ok-clause-line
returns-in-Ok-clause-line c = λ empty. line_some (map (item_text c.args.p.now.names c.args.storage.now.store.items) c.in-Print.items) c.write_line.new.line.items c.in-Ok.ensures.line empty
