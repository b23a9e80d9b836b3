use Rattle.std.proofs.Common.{rules, ◌≡◌, length}
use Rattle.cfg_build.proofs.PutHolds.{put_one}
use Rattle.cfg_build.proofs.holds.put_hold.Goals as goal

pub returns : goal.returns
returns c =
    let old = c.args.drawing.now in
    let hold : c.len-hold.result ≡ length old.pieces.items = search rules in
    put_one old.pieces.items c.push.new.self.items old.edges.items c.push-2.new.self.items c.push-3.new.self.items c.args.x c.args.edge c.args.finish c.len-hold.result c.index.result.now c.index-piece.result.now
    c.requires.piece c.requires.edge hold c.index.ensures c.index-piece.ensures c.in_ok-push.ensures.items c.in_ok-push-2.ensures.items c.in_ok-push-3.ensures.items
