use Rattle.job_laws.proofs.TextRuns.{runs_as}
use Rattle.job_laws.proofs.texts.texts_run_as_programs.Goals as goal

pub returns : goal.returns
returns c =
    λ bytes checked p is. runs_as (record {
      sources = c.expansions_are_sources.ensures;
      expanded = c.laid_expansions_are_expanded.ensures;
      runs = c.expansions_run_as_calls.ensures.alike;
      paced = c.expansions_run_as_calls.ensures.paced;
      storage = c.programs_have_storage.ensures;
      first = c.runs_stop_first.ensures;
      stays = c.stopped_runs_stay.ensures.ended;
    })
    bytes checked p is
