use Rattle.std.proofs.Common.{◌∙◌, sym, arith, length-set}
use Rattle.cfg_build.proofs.BuildingParts.{begun_number, start_exists, Known-begun, Known-other}
use Rattle.cfg_build.proofs.parts.loop_starts.Goals as goal
use Rattle.cfg_build.proofs.parts.loop_starts.Goals.{in-Some, in_default}

pub index_mut-requires : goal.index_mut-requires
index_mut-requires c = grind (arith, begun_number c.args.p.now.execs c.args.p.now.loops c.requires.execs.loops_nest c.loop-k.k c.in-Some.n)

pub loop-k-preserved : goal.loop-k-preserved
loop-k-preserved c =
    let execs = c.args.p.now.execs in
    let loops = c.args.p.now.loops in
    let are = c.requires.execs.loops_nest in
    let k = c.loop-k.k in
    elim c.match-loop_begun.branch [
      | in-Some w ↦ record {
        count = rw w.starts-is (length-set c.loop-k.starts.items w.in-Some.n k ∙ c.loop-k.invariant.count);
        starts = rw w.starts-is (Known-begun execs loops are c.loop-k.starts.items k w.in-Some.n c.at.result.now c.loop-k.invariant.count c.at.ensures.item (sym c.loop_begun.ensures ∙ w.in-Some.is) c.loop-k.invariant.starts);
      }
      | in_default w ↦ record {
        count = rw w.starts-is c.loop-k.invariant.count;
        starts = rw w.starts-is (Known-other execs loops are c.loop-k.starts.items k c.at.result.now c.at.ensures.item (sym c.loop_begun.ensures ∙ w.in_default.is) c.loop-k.invariant.starts);
      }
    ]

pub returns-clause-starts : goal.returns-clause-starts
returns-clause-starts c n below =
    grind (arith, start_exists c.args.p.now.execs c.args.p.now.loops c.requires.execs.loops_nest n below, c.loop-k.invariant.starts n below)
