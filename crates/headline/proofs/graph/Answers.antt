use Rattle.job_terms.specs.Tasks.{Graph}
use Rattle.headline.proofs.Saying.{said}
use Rattle.headline.proofs.graph.Goals as goal

pub returns-clause-says : goal.returns-clause-says
returns-clause-says g c =
    let task = Graph in
    said task c.args.checked (g.S.Source.left c.args.source.now) (g.K.Sink.got c.args.sink.now) (g.K.Sink.got c.do_task.new.sink) c.do_task.result
    c.do_task.ensures.due c.do_task.ensures.own (c.texts_mean.ensures task c.args.checked) tt
