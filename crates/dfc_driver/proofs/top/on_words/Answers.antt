use Rattle.job_terms.specs.Reading.{IsOwnProgram, reading}
use Rattle.job_laws.specs.Headline.{MeansRead}
use Rattle.dfc_driver.specs.Meant.{task_meant}
use Rattle.dfc_driver.proofs.TopAnswers.{promised}
use Rattle.dfc_driver.proofs.WordsMean.{task_words}
use Rattle.dfc_driver.proofs.top.on_words.Goals as goal

pub returns-clause-means : goal.returns-clause-means
returns-clause-means g c = λ all.
    let task = task_meant c.args.words in
    let checked = c.args.checked in
    promised (g.S.Source.left c.args.source.now) (λ bytes. IsOwnProgram bytes checked) (λ bytes. MeansRead task checked bytes (reading checked bytes))
    (λ bytes own. c.texts_mean.ensures task checked bytes own (task_words c.args.words c.requires)) (c.do_task.ensures.own all)
