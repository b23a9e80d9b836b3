use Rattle.std.proofs.Common.{rules}
use Rattle.df_io.proofs.Transfers.{Appends-more}
use Rattle.df_io.proofs.write.write_all.Goals as goal

pub loop-at-preserved : goal.loop-at-preserved
loop-at-preserved g c =
    let added = Appends-more (g.K.Sink.got c.args.sink.now) (g.K.Sink.got c.loop-at.sink) (g.K.Sink.got c.write.new.self) c.args.bytes.now c.loop-at.at c.in_ok-at.field-0 c.loop-at.invariant.added c.in_ok-at.ensures.bytes in
    search rules
