use Rattle.std.proofs.Common.{◌<◌, ◌≤◌, List, ◌++◌, length, sym, ap, subst, ◌∙◌, refl, arith}
use Rattle.std.proofs.lemmas.List.{take_all}
use Rattle.std.specs.Prelude.{flat_map}
use Rattle.df_io.specs.TextBuffer.{IsWrittenBut}
use Rattle.f77_tree.specs.declared.programs.Exec.{Exec}
use Rattle.f77_tree.specs.Loops.{begun_in}
use Rattle.graph_texts.proofs.LinesTold.{loop_text}
use Rattle.graph_texts.proofs.Telling.{item_told, fault_at_item}
use Rattle.graph_texts.proofs.Texts.{on_error}
use Rattle.graph_texts.proofs.graph_lines.tell_loops.Goals as goal

pub tell_loop-requires : goal.tell_loop-requires
tell_loop-requires g c = λ loop begins.
    subst (λ count. loop.number < count) (sym c.requires.classes.loops) (c.requires.program.execs.loops_nest.starts c.loop-k.k loop (ap begun_in c.at.ensures.item ∙ begins))

pub returns-in_err-tell_loop-clause-prefix : goal.returns-in_err-tell_loop-clause-prefix
returns-in_err-tell_loop-clause-prefix g c =
    let exec = c.at.result.now in
    on_error c.from_residual.result
    (fault_at_item (loop_text c.args.c.now) c.args.p.now.execs c.loop-k.k exec c.args.buffer.now c.loop-k.buffer (loop_text c.args.c.now exec)
    (g.K.Sink.got c.args.sink.now) (g.K.Sink.got c.loop-k.sink) (g.K.Sink.got c.tell_loop.new.sink)
    c.at.ensures.item refl c.loop-k.invariant.written c.in_err-tell_loop.ensures.prefix)

pub loop-k-preserved : goal.loop-k-preserved
loop-k-preserved g c =
    let exec = c.at.result.now in
    record {
      written = item_told (loop_text c.args.c.now) c.args.p.now.execs c.loop-k.k exec c.args.buffer.now c.loop-k.buffer c.tell_loop.new.buffer (loop_text c.args.c.now exec)
          (g.K.Sink.got c.args.sink.now) (g.K.Sink.got c.loop-k.sink) (g.K.Sink.got c.tell_loop.new.sink)
          c.at.ensures.item refl c.loop-k.invariant.written c.in_ok-tell_loop.ensures.text;
      later = omega (arith, c.loop-k.invariant.later, c.tell_loop.ensures.later);
    }

pub returns-clause-text : goal.returns-clause-text
returns-clause-text g c =
    let end : length c.args.p.now.execs ≤ c.loop-k.k = omega (arith, c.loop-k-test.false, c.len-k-end.ensures) in
    subst (λ (execs : List Exec). IsWrittenBut c.loop-k.buffer (g.K.Sink.got c.args.sink.now) (g.K.Sink.got c.loop-k.sink) (c.args.buffer.now ++ flat_map (loop_text c.args.c.now) execs)) (take_all c.loop-k.k c.args.p.now.execs end) c.loop-k.invariant.written
