use Rattle.std.proofs.Common.{◌<◌, length, arith, ◌∙◌, subst}
use Rattle.std.proofs.lemmas.List.{get_or_read}
use Rattle.alias_classes.specs.Spans.{Holds}
use Rattle.alias_classes.specs.Walk.{key_of, IsMarked}
use Rattle.alias_classes.proofs.Walked.{walked-step, walked-past, marked-length}
use Rattle.alias_classes.proofs.walk.walk_name.Goals as goal

pub loop-word-preserved : goal.loop-word-preserved
loop-word-preserved c =
    let spans = c.args.spans.now in
    let marks = c.args.marks.now in
    let k = c.args.k in
    let word = c.loop-word.word in
    let kept = c.loop-word.invariant in
    let known = c.requires.known in
    let end = get_or_read spans.ends.items k c.index-end.result.now (let many = c.requires.spans.as_many in omega (arith, known, many)) c.index-end.ensures 0 in
    let test = c.loop-word-test.true in
    let begun = kept.begun in
    let inside = c.requires.spans.inside k known in
    let has : Holds spans.begins.items spans.ends.items k word = record { known = known; from = begun; below = omega (arith, test, end) } in
    let in_words : word < length c.loop-word.walk.numbers.items = let each = kept.each in omega (arith, test, end, inside, each) in
    let marked : IsMarked word (key_of marks.words marks.forth.items marks.back.items word) c.loop-word.walk.numbers.items c.loop-word.walk.keys.keys c.mark.new.numbers.items c.mark.new.keys.keys = subst (λ key. IsMarked word key c.loop-word.walk.numbers.items c.loop-word.walk.keys.keys c.mark.new.numbers.items c.mark.new.keys.keys) c.key.ensures c.in_ok-mark.ensures in
    let later = c.skip-word.ensures.later in
    record {
      begun = omega (arith, begun, later);
      each = marked-length word (key_of marks.words marks.forth.items marks.back.items word) c.loop-word.walk.numbers.items c.mark.new.numbers.items c.loop-word.walk.keys.keys c.mark.new.keys.keys marked ∙ kept.each;
      skips = c.skip-word.ensures.skips;
      walked = walked-step (Holds spans.begins.items spans.ends.items) (key_of marks.words marks.forth.items marks.back.items) k word c.skip-word.result c.loop-word.walk.numbers.items c.mark.new.numbers.items c.loop-word.walk.keys.keys c.mark.new.keys.keys kept.walked has in_words marked later c.skip-word.ensures.met;
    }

pub returns-clause-walked : goal.returns-clause-walked
returns-clause-walked c =
    let spans = c.args.spans.now in
    let k = c.args.k in
    let end = get_or_read spans.ends.items k c.index-end.result.now (let known = c.requires.known in let many = c.requires.spans.as_many in omega (arith, known, many)) c.index-end.ensures 0 in
    let past = c.loop-word-test.false in
    walked-past (Holds spans.begins.items spans.ends.items) (key_of c.args.marks.now.words c.args.marks.now.forth.items c.args.marks.now.back.items) k c.loop-word.word c.loop-word.walk.numbers.items c.loop-word.walk.keys.keys c.loop-word.invariant.walked (λ x has. let below = has.below in omega (arith, below, end, past))
