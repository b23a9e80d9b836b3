use Rattle.std.proofs.Common.{◌≡◌, ℕ, [], slice_get, inl, inr, sym, ap, subst, ◌∙◌}
use Rattle.f77_tree.specs.declared.programs.ExecKind.{ExecKind}
use Rattle.cfg_build.specs.declared.pieces.PieceKind.{PieceKind}
use Rattle.cfg_build.specs.Flow.{piece_at}
use Rattle.cfg_build.specs.Passes.{kind_in}
use Rattle.alias_classes.specs.Writes.{ExecWritesOrCounts}
use Rattle.const_prop.specs.Closed.{KindWrites, WritesAfter, words_on, written, exec_after}
use Rattle.const_prop.specs.Table.{knowns}
use Rattle.const_prop.proofs.Sending.{false_true}
use Rattle.const_prop.proofs.work.Work.left_by_act.Goals as goal

pub returns-then-writes : goal.returns-then-writes
returns-then-writes g c =
    let f = c.args.s.now.flow.now in
    let p = c.args.s.now.program.now in
    let exec : c.exec-exec.result.now ≡ exec_after p f c.args.edge = c.exec-exec.ensures ∙ ap (λ (n : ℕ). kind_in (slice_get p.execs (piece_at f.pieces n).exec)) c.head.ensures.node in
    let is : WritesAfter p f c.args.s.now.classes.now c.args.edge c.args.line =
    subst (λ (k : PieceKind). KindWrites c.args.s.now.classes.now k (exec_after p f c.args.edge) c.args.line) (sym c.requires.act) (subst (λ (x : ExecKind). ExecWritesOrCounts c.args.s.now.classes.now x c.args.line) exec (c.writes.ensures.0 c.if-writes.true)) in
    inl (
      is,
      c.written.ensures
          ∙ ap (λ (x : ExecKind). written p.names c.args.s.now.classes.now (words_on c.args.s.now.classes.now (knowns c.args.self.now.known []) c.args.edge) x c.args.line) exec,
    )

pub returns-else-writes : goal.returns-else-writes
returns-else-writes g c =
    let f = c.args.s.now.flow.now in
    let p = c.args.s.now.program.now in
    let exec : c.exec-exec.result.now ≡ exec_after p f c.args.edge = c.exec-exec.ensures ∙ ap (λ (n : ℕ). kind_in (slice_get p.execs (piece_at f.pieces n).exec)) c.head.ensures.node in
    let is_not : WritesAfter p f c.args.s.now.classes.now c.args.edge c.args.line → ⊥ =
    λ is. false_true c.writes.result (c.writes.ensures.1 (subst (λ (x : ExecKind). ExecWritesOrCounts c.args.s.now.classes.now x c.args.line) (sym exec) (subst (λ (k : PieceKind). KindWrites c.args.s.now.classes.now k (exec_after p f c.args.edge) c.args.line) c.requires.act is))) c.if-writes.false in
    inr (is_not, c.get.ensures)
