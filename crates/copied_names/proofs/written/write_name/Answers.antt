use Rattle.view_output.specs.Told.{told}
use Rattle.copied_names.proofs.WrittenLists.{line-last}
use Rattle.copied_names.proofs.written.write_name.Goals as goal

pub returns : goal.returns
returns g c =
    let got = g.K.Sink.got in
    line-last c.args.name.now (told got c.args.output.now) (told got c.write_word.new.output) (told got c.write_word-2.new.output) (told got c.write_new.new.output) c.write_new.result c.in_ok-write_word.ensures c.in_ok-write_word-2.ensures c.write_new.ensures
