use Rattle.std.proofs.Common.{◌≡◌, ◌<◌, ◌∙◌, Some, slice_get, length, refl, ap, arith}
use Rattle.std.proofs.lemmas.Option.{slice_get_read}
use Rattle.net_board.specs.Tokens.{joined}
use Rattle.op_net.proofs.net.OpNet.edge_of.Goals as goal

pub returns-clause-exists : goal.returns-clause-exists
returns-clause-exists g c =
    let own = c.args.self.now.own_places in
    let lines = c.args.self.now.places.lines.items in
    let inside : c.args.line < length lines = omega (arith, own.lines, c.requires) in
    let read : slice_get lines c.args.line ≡ Some c.index.result.now = slice_get_read lines (length lines) c.args.line c.index.result.now refl inside c.index.ensures in
    λ edge is. own.stand c.args.line edge (ap joined read ∙ is)
