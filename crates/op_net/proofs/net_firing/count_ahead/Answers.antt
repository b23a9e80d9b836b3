use Rattle.std.proofs.Common.{◌<◌, ◌^◌, arith}
use Rattle.operation_tables.specs.BoardView.{operation_net_on}
use Rattle.operation_places.proofs.CountedAhead.{anew_ahead, anew_apart, anew_few, anew_marks, anew_right}
use Rattle.op_net.proofs.PlacesKept.{same_kept}
use Rattle.op_net.proofs.net_firing.count_ahead.Goals as goal

pub wait_anew-requires : goal.wait_anew-requires
wait_anew-requires g c =
    let x = operation_net_on c.args.board.now in
    let s = c.args.places.now in
    let k = c.args.k in
    let more = c.args.more in
    let low : more < 2 ^ 34 = omega arith in
    record {
      few = λ inside. anew_few x s c.requires.counted k more c.waits_are_few.ensures low inside;
      apart = λ inside. anew_apart x s c.requires.counted k more inside;
      right = λ inside none. anew_right x s c.requires.counted k more inside none;
      marks = anew_marks x s c.requires.counted k more;
    }

pub returns-clause-ahead : goal.returns-clause-ahead
returns-clause-ahead g c =
    let x = operation_net_on c.args.board.now in
    let s = c.args.places.now in
    let t = c.wait_anew.new.self in
    anew_ahead x s c.requires.counted c.args.k c.args.more t c.wait_anew.ensures.kept.counted c.wait_anew.ensures.kept.apart c.wait_anew.ensures.standing c.wait_anew.ensures.none c.wait_anew.ensures.counts c.wait_anew.ensures.leads

pub returns-clause-places : goal.returns-clause-places
returns-clause-places g c = same_kept c.args.board.now c.args.places.now c.wait_anew.new.self c.requires.places c.wait_anew.ensures.kept c.wait_anew.ensures.standing
