use Rattle.std.proofs.Common.{◌<◌, ℕ, get_or, length, arith, length-take}
use Rattle.std.proofs.lemmas.List.Elements.{All-get_or}
use Rattle.const_prop.proofs.Counting.{counts-more, count_fits}
use Rattle.const_prop.proofs.setting.words_of_classes.Goals as goal

pub overflow_add-index_mut : goal.overflow_add-index_mut
overflow_add-index_mut g c =
    let numbers = c.args.c.now.numbers in
    let word : c.loop-word.word < length numbers = omega (arith, c.loop-word-test.true, c.requires.words) in
    let below : get_or numbers c.loop-word.word 0 < c.args.lines = All-get_or (λ (n : ℕ). n < c.args.lines) numbers c.loop-word.word 0 word c.requires.lines in
    let class : c.of_word.result < c.args.lines = omega (arith, below, c.of_word.ensures) in
    let fits = count_fits numbers c.loop-word.counts.items c.args.lines c.loop-word.word c.of_word.result c.index_mut.result.now c.loop-word.invariant (omega (arith, c.loop-word-test.true, c.ranges.words.fits)) class c.index_mut.ensures.value in
    omega (arith, fits, length-take c.loop-word.word numbers, word, c.loop-word-test.true, c.ranges.words.fits)

pub loop-word-preserved : goal.loop-word-preserved
loop-word-preserved g c =
    let numbers = c.args.c.now.numbers in
    let word : c.loop-word.word < length numbers = omega (arith, c.loop-word-test.true, c.requires.words) in
    let below : get_or numbers c.loop-word.word 0 < c.args.lines = All-get_or (λ (n : ℕ). n < c.args.lines) numbers c.loop-word.word 0 word c.requires.lines in
    counts-more numbers c.loop-word.counts.items c.args.lines c.loop-word.word c.of_word.result c.index_mut.result.now c.loop-word.invariant word c.of_word.ensures (omega (arith, below, c.of_word.ensures)) c.index_mut.ensures.value
