use Rattle.std.proofs.Common.{◌≡◌, ℕ, List, true, [], ◌∷◌, ◌++◌, ap, refl, arith}
use Rattle.class_set.specs.ClassSet.{holds}
use Rattle.df_io.specs.TextBuffer.{IsWrittenBut}
use Rattle.df_io.specs.Write.{AppendsPrefix}
use Rattle.graph_texts.proofs.Telling.{told, told_fault, told_more, fault_more, fault_before}
use Rattle.graph_texts.proofs.Texts.{on_error, then_on_error, then_on_ok}
use Rattle.graph_texts.proofs.graph_lines.tell_name.Goals as goal

pub returns-in_err-append-clause-prefix : goal.returns-in_err-append-clause-prefix
returns-in_err-append-clause-prefix g c =
    let s0 = g.K.Sink.got c.args.sink.now in
    let s1 = g.K.Sink.got c.append.new.sink in
    let name = c.args.info.now.name in
    let has : holds c.args.set.now c.args.class ≡ true = grind (arith, c.holds.ensures.member, c.if-not-holds.false) in
    on_error c.from_residual.result
    (told_fault (holds c.args.set.now c.args.class) s0 s1 c.args.buffer.now (32 ∷ name) (32 ∷ name) has refl (fault_before s0 s1 c.args.buffer.now (32 ∷ []) name c.in_err-append.ensures.prefix))

pub returns-clause-text : goal.returns-clause-text
returns-clause-text g c =
    let s0 = g.K.Sink.got c.args.sink.now in
    let s1 = g.K.Sink.got c.append.new.sink in
    let s2 = g.K.Sink.got c.append-2.new.sink in
    let name = c.as_bytes.result.now in
    let is = ap (λ (bytes : List ℕ). 32 ∷ bytes) c.as_bytes.ensures in
    let has : holds c.args.set.now c.args.class ≡ true = grind (arith, c.holds.ensures.member, c.if-not-holds.false) in
    then_on_ok c.append-2.result
    (λ (now : IsWrittenBut c.append-2.new.self s1 s2 (c.append.new.self ++ name)).
    told (holds c.args.set.now c.args.class) s0 s2 c.args.buffer.now c.append-2.new.self (32 ∷ name) (32 ∷ c.args.info.now.name) has is
    (told_more s0 s1 s2 c.args.buffer.now c.append.new.self c.append-2.new.self (32 ∷ []) name c.in_ok-append.ensures.text now))
    c.append-2.ensures.text

pub returns-clause-prefix : goal.returns-clause-prefix
returns-clause-prefix g c =
    let s0 = g.K.Sink.got c.args.sink.now in
    let s1 = g.K.Sink.got c.append.new.sink in
    let s2 = g.K.Sink.got c.append-2.new.sink in
    let name = c.as_bytes.result.now in
    let is = ap (λ (bytes : List ℕ). 32 ∷ bytes) c.as_bytes.ensures in
    let has : holds c.args.set.now c.args.class ≡ true = grind (arith, c.holds.ensures.member, c.if-not-holds.false) in
    then_on_error c.append-2.result
    (λ (prefix : AppendsPrefix s1 s2 (c.append.new.self ++ name)).
    told_fault (holds c.args.set.now c.args.class) s0 s2 c.args.buffer.now (32 ∷ name) (32 ∷ c.args.info.now.name) has is
    (fault_more s0 s1 s2 c.args.buffer.now c.append.new.self (32 ∷ []) name c.in_ok-append.ensures.text prefix))
    c.append-2.ensures.prefix
