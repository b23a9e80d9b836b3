use Rattle.std.proofs.Common.{◌≡◌, ◌<◌, ℕ, [], length, slice_get, rules, sym, ap, subst, ◌∙◌}
use Rattle.f77_tree.specs.CanRun.{CanExecute}
use Rattle.f77_tree.specs.Control.{targets_of}
use Rattle.f77_tree.specs.declared.programs.ExecKind.{ExecKind}
use Rattle.cfg_build.specs.declared.pieces.PieceKind.TheVariants.{Branch}
use Rattle.cfg_build.specs.Flow.{piece_at}
use Rattle.cfg_build.specs.Passes.{kind_in}
use Rattle.cfg_build.specs.Shape.{kind_at}
use Rattle.const_prop.specs.Closed.{is_switch, selected, words_on, kind_after, exec_after}
use Rattle.const_prop.specs.Table.{knowns}
use Rattle.const_prop.proofs.Uses.{switch-branch, branch-can, branch-few, decided-branch}
use Rattle.const_prop.proofs.work.Work.decided.Goals as goal

pub selected-requires : goal.selected-requires
selected-requires g c =
    let f = c.args.s.now.flow.now in
    let here : kind_at f c.head-node.result ≡ kind_after f c.args.edge = ap (kind_at f) c.head-node.ensures.node in
    let branch : kind_at f c.head-node.result ≡ Branch = switch-branch (kind_at f c.head-node.result) (ap is_switch here ∙ c.requires.switch) (λ is. c.in_default.not-Hold (c.kind.ensures ∙ is)) in
    let can = branch-can c.args.s.now.program.now f c.requires.setting.program c.head-node.result c.head-node.ensures.exists branch in
    let few = branch-few c.args.s.now.program.now f c.requires.setting.program c.head-node.result c.head-node.ensures.exists branch in
    (search rules, (search rules, (c.requires.setting, (c.requires.sized.lines_are, (c.requires.sized.edges_are, (c.requires.edge, (subst (CanExecute c.args.s.now.program.now) (sym c.exec.ensures) can, subst (λ (x : ExecKind). length (targets_of x) < 2147483648) (sym c.exec.ensures) few)))))))

pub returns-in_default : goal.returns-in_default
returns-in_default g c =
    let f = c.args.s.now.flow.now in
    let p = c.args.s.now.program.now in
    let here : kind_at f c.head-node.result ≡ kind_after f c.args.edge = ap (kind_at f) c.head-node.ensures.node in
    let branch : kind_after f c.args.edge ≡ Branch = switch-branch (kind_after f c.args.edge) c.requires.switch (λ is. c.in_default.not-Hold (c.kind.ensures ∙ here ∙ is)) in
    let words = words_on c.args.s.now.classes.now (knowns c.args.self.now.known []) c.args.edge in
    c.selected.ensures
    ∙ ap (selected p.names words) (c.exec.ensures ∙ ap (λ (n : ℕ). kind_in (slice_get p.execs (piece_at f.pieces n).exec)) c.head-node.ensures.node)
    ∙ sym (decided-branch p.names words (kind_after f c.args.edge) (exec_after p f c.args.edge) branch)
