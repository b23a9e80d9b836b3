use Rattle.std.proofs.Common.{ap, arith}
use Rattle.f77_meaning.specs.Storage.{memory_of}
use Rattle.op_board.specs.OperationTokens.{OperationTokens}
use Rattle.op_net.proofs.PlacesKept.{put_kept}
use Rattle.op_net.proofs.net.OpNet.put_between.Goals as goal

pub put_line-requires : goal.put_line-requires
put_line-requires g c =
    let s = c.args.self.now in
    let own = s.own_places in
    let lines = own.lines in
    let passed = own.passed in
    let line = c.requires.line in
    (omega arith, (line, (omega (arith, line, lines), (omega (arith, line, passed), (own.marks, (s.counted, ((λ counted. c.requires.from), (λ counted. c.requires.to))))))))

pub returns-clause-marking : goal.returns-clause-marking
returns-clause-marking g c = ap (λ (m : OperationTokens). record m { tokens = record m.tokens { memory = memory_of c.args.self.now.storage; trap = c.args.self.now.trapped } }) c.put_line.ensures.standing

pub invariant_of-self : goal.invariant_of-self
invariant_of-self g c =
    let s = c.args.self.now in
    record {
      own_places = put_kept s.board s.places c.put_line.new.self s.own_places c.put_line.ensures.kept c.args.line c.args.edge c.args.passed c.requires.edge c.put_line.ensures.standing;
      counted = c.put_line.ensures.counted;
      «data» = s.data;
      text_room = s.text_room;
      draft_room = s.draft_room;
      args_room = s.args_room;
      values_room = s.values_room;
      placed = s.placed;
    }
