use Rattle.std.proofs.Common.{◌≡◌, [], ◌∷◌, not, get_or, sym, ap, ◌∙◌, arith, length-append}
use Rattle.std.proofs.lemmas.Bool.{eq-eqb}
use Rattle.std.proofs.lemmas.List.{get_or_read}
use Rattle.const_prop.specs.Closed.{is_one_word}
use Rattle.const_prop.proofs.Counting.{answers-more, one_word-zero, one_word-some}
use Rattle.const_prop.proofs.setting.one_word_classes.Goals as goal
use Rattle.const_prop.proofs.setting.one_word_classes.Goals.{then-line-ne0, else-line-ne0}

pub loop-line-preserved : goal.loop-line-preserved
loop-line-preserved g c =
    let line = c.loop-line.line in
    let counts = c.in_ok-counts.counts.items in
    let here : c.if-line-ne0.push ≡ is_one_word c.args.c.now line =
    elim c.if-line-ne0.branch [
      | then-line-ne0 w ↦
          let read : w.index.result.now ≡ get_or counts line 0 = get_or_read counts line w.index.result.now (omega (arith, c.loop-line-test.true, c.in_ok-counts.ensures.size)) w.index.ensures 0 in
          w.push-is ∙ one_word-some c.args.c.now line w.index.result.now w.if-line-ne0.true (read ∙ c.in_ok-counts.ensures.counts line c.loop-line-test.true)
      | else-line-ne0 w ↦
          w.push-is ∙ ap not (eq-eqb line 0 w.if-line-ne0.false) ∙ sym (one_word-zero c.args.c.now line w.if-line-ne0.false)
    ] in
    rw c.in_ok-push.ensures.items (record {
      size = omega (arith, length-append c.loop-line.one_word.items (c.if-line-ne0.push ∷ []), c.loop-line.invariant.size);
      tells = answers-more c.loop-line.one_word.items (is_one_word c.args.c.now) line c.if-line-ne0.push c.loop-line.invariant.size c.loop-line.invariant.tells here;
    })
