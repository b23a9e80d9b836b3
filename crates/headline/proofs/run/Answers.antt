use Rattle.job_terms.specs.Tasks.{Run}
use Rattle.headline.proofs.Saying.{said}
use Rattle.headline.proofs.run.Goals as goal

pub returns-clause-says : goal.returns-clause-says
returns-clause-says g c =
    let task = Run c.args.limit c.args.input.now.items in
    said task c.args.checked (g.S.Source.left c.args.source.now) (g.K.Sink.got c.args.sink.now) (g.K.Sink.got c.do_task.new.sink) c.do_task.result
    c.do_task.ensures.due c.do_task.ensures.own (c.texts_mean.ensures task c.args.checked) c.words_are_words.ensures
