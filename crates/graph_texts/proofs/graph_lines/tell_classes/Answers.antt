use Rattle.std.proofs.Common.{◌≡◌, ◌+◌, ◌-◌, ℕ, List, [], ◌∷◌, ◌++◌, ap, subst, ◌∙◌, arith}
use Rattle.std.specs.Prelude.{codes}
use Rattle.std.specs.Fmt.{decimal}
use Rattle.df_io.specs.TextBuffer.{IsWrittenBut}
use Rattle.graph_texts.specs.GraphText.{class_line}
use Rattle.graph_texts.specs.NameSets.{held_names}
use Rattle.graph_texts.proofs.LinesTold.{class_line_is}
use Rattle.graph_texts.proofs.Texts.{line_told, lines, fault_at_line, on_error}
use Rattle.graph_texts.proofs.graph_lines.tell_classes.Goals as goal

pub returns-in_err-tell_class-clause-prefix : goal.returns-in_err-tell_class-clause-prefix
returns-in_err-tell_class-clause-prefix g c =
    let names = c.args.p.now.names in
    let sets = c.args.name_sets.now in
    let class = c.loop-class.class in
    let part = codes "L " ++ decimal class ++ held_names names sets class ++ 10 ∷ [] in
    let told = class_line_is names c.args.c.now sets class c.requires.sets in
    let line : ℕ → List ℕ = class_line c.args.p.now.names c.args.c.now in
    let k = c.loop-class.class - 1 in
    let here : c.loop-class.class ≡ 1 + k = omega (arith, c.loop-class.invariant.1) in
    on_error c.from_residual.result
    (fault_at_line line 1 k c.args.c.now.word_classes c.args.buffer.now c.loop-class.buffer part
    (g.K.Sink.got c.args.sink.now) (g.K.Sink.got c.loop-class.sink) (g.K.Sink.got c.tell_class.new.sink)
    (omega (arith, c.loop-class-test.true, c.count.ensures.count, c.requires.classes.loops, c.loop-class.invariant.1)) (told ∙ ap line here) c.loop-class.invariant.0.written c.in_err-tell_class.ensures.prefix)

pub loop-class-preserved : goal.loop-class-preserved
loop-class-preserved g c =
    let names = c.args.p.now.names in
    let sets = c.args.name_sets.now in
    let class = c.loop-class.class in
    let part = codes "L " ++ decimal class ++ held_names names sets class ++ 10 ∷ [] in
    let told = class_line_is names c.args.c.now sets class c.requires.sets in
    let line : ℕ → List ℕ = class_line c.args.p.now.names c.args.c.now in
    let k = c.loop-class.class - 1 in
    let here : c.loop-class.class ≡ 1 + k = omega (arith, c.loop-class.invariant.1) in
    let next : k + 1 ≡ c.loop-class.class + 1 - 1 = omega (arith, c.loop-class.invariant.1) in
    let all = line_told line 1 k c.args.buffer.now c.loop-class.buffer c.tell_class.new.buffer part
    (g.K.Sink.got c.args.sink.now) (g.K.Sink.got c.loop-class.sink) (g.K.Sink.got c.tell_class.new.sink) (told ∙ ap line here) c.loop-class.invariant.0.written c.in_ok-tell_class.ensures.text in (
      record {
        written = subst (λ n. IsWrittenBut c.tell_class.new.buffer (g.K.Sink.got c.args.sink.now) (g.K.Sink.got c.tell_class.new.sink) (c.args.buffer.now ++ lines line 1 n)) next all;
        later = omega (arith, c.loop-class.invariant.0.later, c.tell_class.ensures.later);
      },
      omega (arith, c.loop-class.invariant.1),
    )
