use Rattle.std.proofs.Common.{arith}
use Rattle.std.proofs.lemmas.Result.{on_ok_weaker}
use Rattle.cfg_build.proofs.BuildingParts.{next_number}
use Rattle.cfg_build.proofs.parts.push_parts.Goals as goal

pub bounds-starts-loop_no : goal.bounds-starts-loop_no
bounds-starts-loop_no c =
    let w = c.in-DoNext in
    let below = next_number c.args.p.now.execs c.args.p.now.loops c.requires.well_formed.execs.loops_nest c.args.k w.loop_no w.var w.body w.exit c.at-exec.result.now c.at-exec.ensures.item w.is in
    omega (arith, below, c.requires.count)

pub returns-in_ok-outs-in-DoNext : goal.returns-in_ok-outs-in-DoNext
returns-in_ok-outs-in-DoNext c = search (next_number, on_ok_weaker, arith)
