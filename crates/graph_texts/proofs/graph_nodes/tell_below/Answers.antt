use Rattle.std.proofs.Common.{◌∷◌, ◌++◌, ◌+◌, sym, ap, arith}
use Rattle.std.specs.Fmt.{decimal}
use Rattle.class_set.specs.ClassSet.{holds}
use Rattle.class_set.specs.Members.{first_above}
use Rattle.graph_texts.specs.GraphText.{numbers_text}
use Rattle.graph_texts.proofs.SetNumbers.{members, members_all, numbers_after, numbers_left, numbers_next}
use Rattle.graph_texts.proofs.Telling.{begun, begun_fault, fault_before, fault_more, told_more}
use Rattle.graph_texts.proofs.Texts.{on_error}
use Rattle.graph_texts.proofs.graph_nodes.tell_below.Goals as goal

pub returns-in_err-tell_number-clause-prefix : goal.returns-in_err-tell_number-clause-prefix
returns-in_err-tell_number-clause-prefix g c =
    let first = c.args.buffer.now in
    let test = holds c.args.set.now in
    let end = c.args.end in
    let n = c.in-Some.n in
    let text = numbers_text (members test (first_above c.loop-n.before)) in
    let one = 32 ∷ decimal n in
    let left = numbers_left test n end in
    let s0 = g.K.Sink.got c.args.sink.now in
    let s1 = g.K.Sink.got c.loop-n.sink in
    let s2 = g.K.Sink.got c.tell_number.new.sink in
    let prefix = fault_more s0 s1 s2 first c.loop-n.buffer text one c.loop-n.invariant.written c.in_err-tell_number.ensures.prefix in
    on_error c.from_residual.result
    (begun_fault s0 s2 first ((text ++ one) ++ left) (numbers_text (members test end)) (sym (numbers_after test c.loop-n.before end n c.in-Some.ensures)) (fault_before s0 s2 first (text ++ one) left prefix))

pub loop-n-preserved : goal.loop-n-preserved
loop-n-preserved g c =
    let first = c.args.buffer.now in
    let test = holds c.args.set.now in
    let end = c.args.end in
    let n = c.in-Some.n in
    let below = c.in-Some.ensures.below in
    let text = numbers_text (members test (first_above c.loop-n.before)) in
    let one = 32 ∷ decimal n in
    let s0 = g.K.Sink.got c.args.sink.now in
    let s1 = g.K.Sink.got c.loop-n.sink in
    let s2 = g.K.Sink.got c.tell_number.new.sink in
    record {
      written = begun s0 s2 first c.tell_number.new.buffer (text ++ one) (numbers_text (members test (n + 1))) (sym (numbers_next test c.loop-n.before end n c.in-Some.ensures))
          (told_more s0 s1 s2 first c.loop-n.buffer c.tell_number.new.buffer text one c.loop-n.invariant.written c.in_ok-tell_number.ensures.text);
      later = omega (arith, c.loop-n.invariant.later, c.tell_number.ensures.later);
      within = omega (arith, below);
    }

pub returns-clause-text : goal.returns-clause-text
returns-clause-text g c =
    let test = holds c.args.set.now in
    let same = ap numbers_text (members_all test c.loop-n.before c.args.end c.loop-n.invariant.within c.in_default.ensures) in
    begun (g.K.Sink.got c.args.sink.now) (g.K.Sink.got c.loop-n.sink) c.args.buffer.now c.loop-n.buffer (numbers_text (members test (first_above c.loop-n.before))) (numbers_text (members test c.args.end)) (sym same) c.loop-n.invariant.written
