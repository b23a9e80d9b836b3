use Rattle.std.proofs.Common.{subst, sym}
use Rattle.f77_tree.specs.CanRun.{CanRun}
use Rattle.sample_jobs.proofs.sample.with_form.Goals as goal

pub with_run-requires-clause-can : goal.with_run-requires-clause-can
with_run-requires-clause-can g c = subst CanRun (sym c.in-Ok.ensures.program) (c.well_formed_programs_can_run.ensures c.args.form.now c.requires.form)
