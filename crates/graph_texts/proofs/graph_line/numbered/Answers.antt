use Rattle.std.proofs.Common.{◌≡◌, ◌-◌, ◌∙◌, length, drop, arith, rules}
use Rattle.std.proofs.lemmas.Fmt.{length-decimal-le}
use Rattle.std.proofs.lemmas.List.{length-drop, length-take-le}
use Rattle.graph_texts.proofs.graph_line.numbered.Goals as goal

pub write_digits-digits-requires : goal.write_digits-digits-requires
write_digits-digits-requires c =
    let long = length-decimal-le 10 c.from.result (omega arith) (omega arith) (omega arith) in
    (omega (arith, long), omega arith)

pub overflow_sub-start : goal.overflow_sub-start
overflow_sub-start c =
    let long = length-decimal-le 10 c.from.result (omega arith) (omega arith) (omega arith) in
    omega (arith, long, c.write_digits-digits.ensures.start, c.requires)

pub copy_from_slice-requires : goal.copy_from_slice-requires
copy_from_slice-requires c =
    let long = length-decimal-le 10 c.from.result (omega arith) (omega arith) (omega arith) in
    let end = c.write_digits-digits.result in
    let word = length c.args.word.now in
    let start = c.write_digits-digits.ensures.start in
    let array : length c.write_digits-digits.new.buf ≡ 24 = search rules in
    let left : length (drop (end - word) c.write_digits-digits.new.buf) ≡ length c.write_digits-digits.new.buf - (end - word) = length-drop (end - word) c.write_digits-digits.new.buf in
    let count : end - (end - word) ≡ word = omega (arith, long, start, c.requires) in
    length-take-le (end - (end - word)) (drop (end - word) c.write_digits-digits.new.buf) (omega (arith, long, start, array, left, c.requires)) ∙ count
