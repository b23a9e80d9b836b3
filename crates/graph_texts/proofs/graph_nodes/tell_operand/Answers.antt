use Rattle.std.proofs.Common.{◌≡◌, ◌++◌, ◌∙◌, ℤ, codes, of_z, to_z, w32, rules, ap, sym}
use mir.Val.{SFits}
use Rattle.std.proofs.lemmas.Int.{to_z-of_z}
use Rattle.std.specs.Fmt.{signed_decimal}
use Rattle.graph_texts.specs.GivenText.{given_text}
use Rattle.graph_texts.proofs.Telling.{begun, begun_fault, fault_before, fault_more, told_more}
use Rattle.graph_texts.proofs.Texts.{on_error, then_on_error, then_on_ok}
use Rattle.graph_texts.proofs.graph_nodes.tell_operand.Goals as goal

pub returns-in_err-append-in-Known-clause-prefix : goal.returns-in_err-append-in-Known-clause-prefix
returns-in_err-append-in-Known-clause-prefix g c =
    let first = c.args.buffer.now in
    let mark = codes " =" in
    let fits : SFits w32 c.in-Known.z = search rules in
    let digits = signed_decimal (to_z w32 (of_z w32 c.in-Known.z)) in
    let s0 = g.K.Sink.got c.args.sink.now in
    let s1 = g.K.Sink.got c.append.new.sink in
    let same : mark ++ digits ≡ given_text c.args.operand = ap (λ (z : ℤ). mark ++ signed_decimal z) (to_z-of_z w32 c.in-Known.z fits) ∙ sym (ap given_text c.in-Known.is) in
    on_error c.from_residual.result (begun_fault s0 s1 first (mark ++ digits) (given_text c.args.operand) same (fault_before s0 s1 first mark digits c.in_err-append-in-Known.ensures.prefix))

pub returns-in_ok-append-in-Known-clause-text : goal.returns-in_ok-append-in-Known-clause-text
returns-in_ok-append-in-Known-clause-text g c =
    let first = c.args.buffer.now in
    let mark = codes " =" in
    let fits : SFits w32 c.in-Known.z = search rules in
    let digits = signed_decimal (to_z w32 (of_z w32 c.in-Known.z)) in
    let s0 = g.K.Sink.got c.args.sink.now in
    let s1 = g.K.Sink.got c.append.new.sink in
    let s2 = g.K.Sink.got c.append_signed.new.sink in
    let same : mark ++ digits ≡ given_text c.args.operand = ap (λ (z : ℤ). mark ++ signed_decimal z) (to_z-of_z w32 c.in-Known.z fits) ∙ sym (ap given_text c.in-Known.is) in
    then_on_ok c.append_signed.result
    (λ now. begun s0 s2 first c.append_signed.new.self (mark ++ digits) (given_text c.args.operand) same (told_more s0 s1 s2 first c.append.new.self c.append_signed.new.self mark digits c.in_ok-append-in-Known.ensures.text now))
    c.append_signed.ensures.text

pub returns-in_ok-append-in-Known-clause-prefix : goal.returns-in_ok-append-in-Known-clause-prefix
returns-in_ok-append-in-Known-clause-prefix g c =
    let first = c.args.buffer.now in
    let mark = codes " =" in
    let fits : SFits w32 c.in-Known.z = search rules in
    let digits = signed_decimal (to_z w32 (of_z w32 c.in-Known.z)) in
    let s0 = g.K.Sink.got c.args.sink.now in
    let s1 = g.K.Sink.got c.append.new.sink in
    let s2 = g.K.Sink.got c.append_signed.new.sink in
    let same : mark ++ digits ≡ given_text c.args.operand = ap (λ (z : ℤ). mark ++ signed_decimal z) (to_z-of_z w32 c.in-Known.z fits) ∙ sym (ap given_text c.in-Known.is) in
    then_on_error c.append_signed.result
    (λ now. begun_fault s0 s2 first (mark ++ digits) (given_text c.args.operand) same (fault_more s0 s1 s2 first c.append.new.self mark digits c.in_ok-append-in-Known.ensures.text now))
    c.append_signed.ensures.prefix
