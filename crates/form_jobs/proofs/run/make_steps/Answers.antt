use Rattle.std.proofs.Common.{refl}
use Rattle.f77_meaning.specs.declared.stepper.Stepped.TheVariants as told
use Rattle.f77_meaning.specs.Stepper.{input_of, program_of}
use Rattle.form_jobs.specs.declared.run.RunEnd.TheVariants as end
use Rattle.form_jobs.proofs.RunsMade.{fault_at_line, line_on, moved_on, next_step, stopped_here}
use Rattle.graph_texts.proofs.Texts.{on_error}
use Rattle.form_jobs.proofs.run.make_steps.Goals as goal
use Rattle.form_jobs.proofs.run.make_steps.Goals.{in-Moved, in-Line+in_ok-write_all-in-Line}

pub returns-in_err-write_all-in-Line-clause-begun : goal.returns-in_err-write_all-in-Line-clause-begun
returns-in_err-write_all-in-Line-clause-begun g c =
    let p = program_of c.args.run.now in
    let input = input_of c.args.run.now in
    let here = c.loop-made in
    let old = g.K.Sink.got c.args.sink.now in
    let mid = g.K.Sink.got here.sink in
    let new = g.K.Sink.got c.write_all.new.sink in
    let t = c.step.new.self in
    let is = next_step p input here.made here.run t told.Line here.invariant.program here.invariant.words here.invariant.state c.in-Line.ensures.state c.in-Line.ensures.mark in
    on_error c.from_residual.result
    (fault_at_line p input c.args.limit here.made here.run old mid _ _ here.invariant c.loop-made-test.true t told.Line c.line.result.now new is c.line.ensures (c.stopped_runs_stay.ensures.text p input) c.in_err-write_all-in-Line.ensures.prefix)

pub returns-in-Ended-clause-told : goal.returns-in-Ended-clause-told
returns-in-Ended-clause-told g c =
    let p = program_of c.args.run.now in
    let input = input_of c.args.run.now in
    let here = c.loop-made in
    let t = c.step.new.self in
    let is = next_step p input here.made here.run t told.Ended here.invariant.program here.invariant.words here.invariant.state c.in-Ended.ensures.state c.in-Ended.ensures.mark in
    stopped_here p input c.args.limit here.made here.run (g.K.Sink.got c.args.sink.now) (g.K.Sink.got here.sink) _ _ here.invariant c.loop-made-test.true t told.Ended end.Ended is (λ e. absurd cc) refl refl

pub returns-in-Trapped-clause-told : goal.returns-in-Trapped-clause-told
returns-in-Trapped-clause-told g c =
    let p = program_of c.args.run.now in
    let input = input_of c.args.run.now in
    let here = c.loop-made in
    let t = c.step.new.self in
    let told = told.Trapped c.in-Trapped.trap c.in-Trapped.field-1 in
    let is = next_step p input here.made here.run t told here.invariant.program here.invariant.words here.invariant.state c.in-Trapped.ensures.state c.in-Trapped.ensures.mark in
    stopped_here p input c.args.limit here.made here.run (g.K.Sink.got c.args.sink.now) (g.K.Sink.got here.sink) _ _ here.invariant c.loop-made-test.true t told (end.Trapped c.in-Trapped.trap) is (λ e. absurd cc) refl refl

pub loop-made-preserved : goal.loop-made-preserved
loop-made-preserved g c =
    let p = program_of c.args.run.now in
    let input = input_of c.args.run.now in
    let here = c.loop-made in
    let old = g.K.Sink.got c.args.sink.now in
    let mid = g.K.Sink.got here.sink in
    let t = c.step.new.self in
    elim c.match-step.branch [
      | in-Moved w ↦
          let is = next_step p input here.made here.run t told.Moved here.invariant.program here.invariant.words here.invariant.state w.in-Moved.ensures.state w.in-Moved.ensures.mark in
          rw w.sink-is (moved_on p input c.args.limit here.made here.run old mid _ _ here.invariant c.loop-made-test.true t told.Moved is refl refl w.in-Moved.ensures.program w.in-Moved.ensures.data)
      | in-Line+in_ok-write_all-in-Line w ↦
          let is = next_step p input here.made here.run t told.Line here.invariant.program here.invariant.words here.invariant.state w.in-Line.ensures.state w.in-Line.ensures.mark in
          rw w.sink-is (line_on p input c.args.limit here.made here.run old mid _ _ here.invariant c.loop-made-test.true t told.Line w.line.result.now (g.K.Sink.got w.write_all.new.sink) is w.line.ensures _ refl w.in-Line.ensures.program w.in-Line.ensures.data w.in_ok-write_all-in-Line.ensures.all w.write_all.ensures.later)
    ]
