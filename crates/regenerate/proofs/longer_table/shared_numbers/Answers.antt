use Rattle.std.proofs.Common.{◌<◌, false, length, get_or, arith}
use Rattle.shared_forms.specs.Numbered.{number_of}
use Rattle.shared_forms.specs.Shared.{is_shared}
use Rattle.shared_forms.proofs.LongerTableLemmas.{numbers-more}
use Rattle.regenerate.proofs.longer_table.shared_numbers.Goals as goal

pub loop-n-preserved : goal.loop-n-preserved
loop-n-preserved c =
    let q = c.args.q.now in
    let a = c.args.a.now in
    let n = c.loop-n.n in
    let shared = c.args.shared.now in
    let less : n < length a.candidates = omega arith in
    record {
      numbers = numbers-more (is_shared q a (number_of a)) n (get_or shared n false) c.loop-n.numbers.items c.append_one.new.numbers.items (c.requires.entry n less) c.loop-n.invariant.numbers c.in_ok-append_one.ensures;
    }
