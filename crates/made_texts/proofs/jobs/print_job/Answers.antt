use Rattle.std.proofs.Common.{◌≡◌, ◌≢◌, ◌<◌, ℕ, arith}
use Rattle.df_io.specs.Faults.{Rose}
use Rattle.job_terms.specs.Answers.{Blames}
use Rattle.made_texts.proofs.jobs.print_job.Goals as goal

-- a source that never fails is never blamed
no_fault : (a b code : ℕ) → Blames 0 0 a b code → code ≢ 5
no_fault a b code blames is = absurd (let fault : Rose 0 0 = blames.source_fault is in grind (arith, fault))

-- where the sink is blamed, it failed
failed : (a b code : ℕ) → Blames 0 0 a b code → code ≡ 6 → 0 < b
failed a b code blames is = let fault : Rose a b = blames.sink_fault is in grind (arith, fault)

pub refusal-requires : goal.refusal-requires
refusal-requires c = failed c.args.sink.now.faults c.dfc_main.new.sink.faults c.dfc_main.result c.dfc_main.ensures.blames (omega arith)

pub returns-clause-bound : goal.returns-clause-bound
returns-clause-bound c =
    let other = no_fault c.args.sink.now.faults c.dfc_main.new.sink.faults c.dfc_main.result c.dfc_main.ensures.blames in
    grind (arith, other, c.dfc_main.ensures.bound)
