use Rattle.std.proofs.Common.{◌≡◌, ℕ, ◌<◌, List, [], ◌∷◌, Bool, true, false, length, length-append, get_or, ap, sym, subst, ◌∙◌, rules, arith}
use Rattle.std.specs.Prelude.{◌↔◌}
use Rattle.closed_walks.specs.Cycling.{IsOnCycle}
use Rattle.closed_walks.specs.Graph.{Graph}
use Rattle.cfg_build.specs.Joined.{FlowGraph}
use Rattle.dep_routing.specs.PieceLines.{RunsExecutable}
use Rattle.dep_routing.specs.Touches.{IsFlagged}
use Rattle.dep_routing.proofs.PieceTouches.{piece-runs, on-round, set-tells, one-more}
use Rattle.dep_routing.proofs.touching.touches_by.Goals as goal

pub piece_lines-requires : goal.piece_lines-requires
piece_lines-requires g c =
    let p = c.args.p.now in
    let test = c.loop-node-test.true in
    let nodes = c.pieces-node-end.ensures.nodes in
    let lt : c.loop-node.node < c.args.f.now.graph.nodes = omega (arith, test, nodes) in
    let runs : RunsExecutable p c.piece-piece.result = piece-runs p c.args.f.now c.loop-node.node c.piece-piece.result c.requires.flow c.piece-piece.ensures lt
    (λ below. c.pieces_run_executables.ensures.acts p.names p.execs p.loops c.loop-node.node c.requires.program.execs below)
    (λ below. c.pieces_run_executables.ensures.branches p.names p.execs p.loops c.loop-node.node c.requires.program.execs below) in
    let told = c.requires.input c.piece-piece.result.exec in
    let flagged = c.is_flagged-may.ensures in
    search (rules, runs, told, flagged)

pub loop-node-preserved : goal.loop-node-preserved
loop-node-preserved g c =
    let p = c.args.p.now in
    let node = c.loop-node.node in
    let kept = c.loop-node.invariant in
    let test = c.loop-node-test.true in
    let nodes = c.pieces-node-end.ensures.nodes in
    let lt : node < c.graph.result.now.nodes = subst (λ (x : Graph). node < x.nodes) (sym c.graph.ensures) (omega (arith, test, nodes)) in
    let g = c.graph.result.now in
    let rounds = c.in_ok-rounds.rounds.items in
    let marks = subst (λ (xs : List Bool). (k : ℕ) → k < g.nodes → (get_or rounds k false ≡ true) ↔ IsOnCycle g (λ e. get_or xs e false) k) c.deref.ensures.value c.in_ok-rounds.ensures.cycle in
    let on = on-round p g c.in_ok-ends.ends.items rounds node c.index.result.now (c.graph.ensures ∙ ap (λ (x : FlowGraph). x.graph) c.requires.flow) c.in_ok-ends.ensures.each marks c.in_ok-rounds.ensures.count lt c.index.ensures in
    let flagged : (c.is_flagged-may.result ≡ true) ↔ IsFlagged c.args.may_trap.now c.piece-piece.result.exec = (λ h. sym c.is_flagged-may.ensures ∙ h, λ h. c.is_flagged-may.ensures ∙ h) in
    let tells = set-tells p c.args.f.now node c.piece-piece.result c.requires.flow c.piece-piece.ensures c.args.c.now (IsFlagged c.args.may_trap.now) (c.is_flagged-may.result ≡ true) flagged c.index.result.now c.piece_lines.result on c.piece_lines.ensures in
    record {
      count = let grown = ap length c.in_ok-push.ensures.ok in let count = kept.count in omega (arith, grown, count, length-append c.loop-node.list (c.piece_lines.result ∷ []));
      tell = one-more p c.args.c.now (IsFlagged c.args.may_trap.now) c.loop-node.list c.push.new.self c.piece_lines.result node kept.count c.in_ok-push.ensures.ok kept.tell tells;
    }
