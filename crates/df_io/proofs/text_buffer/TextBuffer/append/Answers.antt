use Rattle.df_io.proofs.LongTexts.{written_whole, fault_after}
use Rattle.df_io.proofs.text_buffer.TextBuffer.append.Goals as goal

pub returns-clause-text : goal.returns-clause-text
returns-clause-text g c =
    written_whole c.write_all.result (g.K.Sink.got c.args.sink.now) (g.K.Sink.got c.write_out.new.sink) (g.K.Sink.got c.write_all.new.sink) c.args.self.now c.args.bytes.now c.write_out.new.self c.in_ok-write_out.ensures.empty c.in_ok-write_out.ensures.all c.write_all.ensures.all

pub returns-clause-prefix : goal.returns-clause-prefix
returns-clause-prefix g c =
    fault_after c.write_all.result (g.K.Sink.got c.args.sink.now) (g.K.Sink.got c.write_out.new.sink) (g.K.Sink.got c.write_all.new.sink) c.args.self.now c.args.bytes.now c.in_ok-write_out.ensures.all c.write_all.ensures.prefix
