use Rattle.std.proofs.KnownBytes.{Appends-nil}
use Rattle.view_output.specs.Told.{told}
use Rattle.copied_names.proofs.WrittenLists.{line-more}
use Rattle.copied_names.proofs.written.write_names.Goals as goal

pub loop-name-init : goal.loop-name-init
loop-name-init g c = record { known = Appends-nil (told g.K.Sink.got c.args.output.now) }

pub loop-name-preserved : goal.loop-name-preserved
loop-name-preserved g c =
    let got = g.K.Sink.got in
    line-more c.args.names.now c.loop-name.name-index c.name-item.result (told got c.args.output.now) (told got c.loop-name.output) (told got c.write_name.new.output) c.loop-name-test.true c.name-item.is c.loop-name.invariant c.in_ok-write_name.ensures
