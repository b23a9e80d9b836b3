use Rattle.view_output.specs.Told.{told}
use Rattle.view_jobs.proofs.Told.{told_line}
use Rattle.view_jobs.proofs.lowered.write_lines.Goals as goal

pub loop-k-preserved : goal.loop-k-preserved
loop-k-preserved g c =
    let got = g.K.Sink.got in
    told_line c.args.lines.now c.loop-k.k (told got c.args.output.now) (told got c.loop-k.output) (told got c.write_line.new.output) c.loop-k-test.true c.loop-k.invariant c.in_ok-write_line.ensures
