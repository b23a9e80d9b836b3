use Rattle.std.proofs.Common.{map}
use Rattle.std.specs.Io.Buffered.{writer_contents}
use Rattle.std.specs.String.{string_bytes}
use Rattle.dfc_driver.specs.Words.{job_of}
use Rattle.dfc_streams.proofs.Ending.{output_after, reads_after}
use Rattle.dfc_streams.proofs.dfc_on_streams.Goals as goal

pub returns-clause-output : goal.returns-clause-output
returns-clause-output g c =
    let answers = c.dfc_main-status in
    let ended = c.finish-writer in
    let text = g.R.Read.remaining c.new-source.result.inner in
    let old = writer_contents g.W.Write.contents c.new-sink.result.inner in
    let handed = writer_contents g.W.Write.contents answers.new.sink.inner in
    let new = g.W.Write.contents ended.result.0 in
    rw (← c.new-source.ensures.inner, ← c.new-sink.ensures.inner)
    (output_after (map string_bytes c.args.words.now.items) text old handed new answers.result c.status_after.result ended.result.1
    c.status_after.ensures.status c.status_after.ensures.flushed answers.ensures.due answers.ensures.words answers.ensures.unwritten ended.ensures.first ended.ensures.all)

pub returns-clause-takes : goal.returns-clause-takes
returns-clause-takes g c =
    let answers = c.dfc_main-status in
    let job = job_of (map string_bytes c.args.words.now.items) in
    rw (← c.new-source.ensures.inner, c.into_inner.ensures)
    (reads_after g.R.Read.remaining job c.new-source.result answers.new.source answers.result c.status_after.result c.status_after.ensures.status answers.ensures.takes)
