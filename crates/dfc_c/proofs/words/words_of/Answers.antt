use Rattle.std.proofs.Common.{rules, ◌≡◌, map, ◌+◌, ◌<◌, ◌≤◌, length, [], ◌∷◌, ◌++◌, drop, get_or, refl, sym, ap, ◌∙◌, arith}
use Rattle.std.specs.String.{string_bytes}
use Rattle.std.proofs.lemmas.Bool.{ne_eqb}
use Rattle.std.proofs.lemmas.Result.{err_from_is_err_and}
use Rattle.std.proofs.Math.ListN.{drop_of_length-le}
use Rattle.dfc_c.specs.Words.{words_in}
use Rattle.dfc_c.proofs.WordLists.{with_rest, at_place, words_blank, words_other, words_end, utf8_at_blank, utf8_at_end, one_more_word}
use Rattle.dfc_c.proofs.words.words_of.Goals as goal
use Rattle.dfc_c.proofs.words.words_of.Goals.{then-c-eq32+in_ok-ended+in_ok-push, else-c-eq32+in_ok-push-2}

pub returns-in_err-ended-clause-fault : goal.returns-in_err-ended-clause-fault
returns-in_err-ended-clause-fault c =
    let text = c.args.text.now in
    let i = c.loop-c.c-index in
    let words = map string_bytes c.loop-c.words.items in
    let p = err_from_is_err_and c.from_residual.result c.from_residual.ensures.1 in
    let so_far = at_place words c.loop-c.word.items text i 32 (words_in text) c.loop-c-test.true c.if-c-eq32.true c.loop-c.invariant in
    rw (p.1, p.2) (λ no all. c.in_err-ended.ensures.fault.1 (utf8_at_blank words c.loop-c.word.items (drop (i + 1) text) (words_in text) so_far all))

pub loop-c-preserved : goal.loop-c-preserved
loop-c-preserved c =
    let text = c.args.text.now in
    let i = c.loop-c.c-index in
    let rest = drop (i + 1) text in
    let words = map string_bytes c.loop-c.words.items in
    let begun = c.loop-c.word.items in
    let more : i < length text = c.loop-c-test.true in
    elim c.if-c-eq32.branch [
      | then-c-eq32+in_ok-ended+in_ok-push w ↦
          let so_far = at_place words begun text i 32 (words_in text) more w.if-c-eq32.true c.loop-c.invariant in
          let longer : w.push.new.self.items ≡ c.loop-c.words.items ++ w.in_ok-ended.field-0 ∷ [] = search rules in
          let told = ap (map string_bytes) longer ∙ one_more_word string_bytes c.loop-c.words.items w.in_ok-ended.field-0 begun w.in_ok-ended.ensures.word in
          let none : w.new-word-then-c-eq32.result.items ≡ [] = search rules in
          rw (w.words-is, w.word-is, told, none) (words_blank words begun rest (words_in text) so_far)
      | else-c-eq32+in_ok-push-2 w ↦
          let x = get_or text i 0 in
          let so_far = at_place words begun text i x (words_in text) more refl c.loop-c.invariant in
          let longer : w.push-else-c-eq32.new.self.items ≡ begun ++ x ∷ [] = search rules in
          rw (w.words-is, w.word-is, longer) (words_other words begun x rest (words_in text) (ne_eqb x 32 w.if-c-eq32.false) so_far)
    ]

pub returns-in_err-ended-2-clause-fault : goal.returns-in_err-ended-2-clause-fault
returns-in_err-ended-2-clause-fault c =
    let text = c.args.text.now in
    let words = map string_bytes c.loop-c.words.items in
    let past : length text ≤ c.loop-c.c-index = omega arith in
    let end : with_rest words c.loop-c.word.items [] ≡ words_in text = ap (with_rest words c.loop-c.word.items) (sym (drop_of_length-le text past)) ∙ c.loop-c.invariant in
    let p = err_from_is_err_and c.from_residual-in_err-ended-2.result c.from_residual-in_err-ended-2.ensures.1 in
    rw (p.1, p.2) (λ no all. c.in_err-ended-2.ensures.fault.1 (utf8_at_end words c.loop-c.word.items (words_in text) end all))

pub returns-clause-words : goal.returns-clause-words
returns-clause-words c =
    let text = c.args.text.now in
    let words = map string_bytes c.loop-c.words.items in
    let past : length text ≤ c.loop-c.c-index = omega arith in
    let end : with_rest words c.loop-c.word.items [] ≡ words_in text = ap (with_rest words c.loop-c.word.items) (sym (drop_of_length-le text past)) ∙ c.loop-c.invariant in
    let longer : c.push-2.new.self.items ≡ c.loop-c.words.items ++ c.in_ok-ended-2.field-0 ∷ [] = search rules in
    ap (map string_bytes) longer ∙ one_more_word string_bytes c.loop-c.words.items c.in_ok-ended-2.field-0 c.loop-c.word.items c.in_ok-ended-2.ensures.word ∙ words_end words c.loop-c.word.items (words_in text) end
