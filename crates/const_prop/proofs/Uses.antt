-- What lemmas take of a setting.
use Rattle.std.proofs.Common.{◌≡◌, ◌<◌, ℕ, zero, suc, Bool, true, false, List, length, get_or, refl, sym, ap, subst, ◌∙◌, arith}
use Rattle.std.proofs.lemmas.Bool.{false_from_ne_true}
use Rattle.class_set.specs.declared.ClassSet.{ClassSet}
use Rattle.closed_walks.specs.Graph.{IsGraph, edge_count, to}
use Rattle.f77_tree.specs.declared.programs.Program.{Program}
use Rattle.alias_classes.specs.Classes.{ClassTable}
use Rattle.cfg_build.specs.Joined.{FlowGraph}
use Rattle.cfg_build.specs.Flow.{flow}
use Rattle.dep_routing.specs.Routing.{Routing}
use Rattle.dep_routing.specs.Touch.{touches_in}
use Rattle.dep_routing.specs.Touches.{AreTouches, Touches, KindNeeds, KindNeedsOut, exec_kind}
use Rattle.std.proofs.Common.{Option, ℤ, slice_get}
use Rattle.std.proofs.lemmas.Option.{slice_get_within, get_or_from_slice_get}
use Rattle.std.proofs.lemmas.List.Sums.{get_or-le-sum_by}
use Rattle.f77_tree.specs.CanRun.{CanExecute}
use Rattle.f77_tree.specs.Control.{targets_of}
use Rattle.f77_tree.specs.declared.programs.Exec.{Exec}
use Rattle.f77_tree.specs.declared.programs.ExecKind.{ExecKind}
use Rattle.f77_tree.specs.declared.programs.NameInfo.{NameInfo}
use Rattle.cfg_build.specs.declared.pieces.PieceKind.{PieceKind}
use Rattle.cfg_build.specs.declared.pieces.PieceKind.TheVariants.{Start, Act, Pass, Branch, Join, Hold, End}
use Rattle.cfg_build.specs.Flow.{piece_at}
use Rattle.cfg_build.specs.Passes.{kind_in}
use Rattle.cfg_build.specs.Runs.{is_act, is_branch, IsPartOf}
use Rattle.cfg_build.specs.Shape.{kind_at}
use Rattle.const_prop.specs.Closed.{is_switch, is_merge, kind_after, decided, selected, KindWrites}
use Rattle.const_prop.specs.Setting.{IsProgram, AreLines}
use Rattle.const_prop.proofs.Under.{AreCovered}

pub setting-covered : {W : ℕ} (p : Program) (f : FlowGraph) (c : ClassTable) (touch : List (ClassSet W)) (r : Routing) → IsProgram p f → AreLines p f c touch r → AreCovered p f c (touches_in touch) r.lines
setting-covered p f c touch r program lines = record {
  classes = lines.classes;
  lines_are = lines.lines;
  is = program.flow;
  sound = program.sound;
  needs = λ node n inside needs. (lines.touches node (suc n) inside).1 needs;
}

module _ (p : Program) (f : FlowGraph) (program : IsProgram p f) where
  part-kind : (node : ℕ) (fits : ExecKind → Bool) (part : IsPartOf f p.execs node fits) → kind_in (slice_get p.execs (piece_at f.pieces node).exec) ≡ part.exec.kind
  part-kind node fits part = ap kind_in part.found

  part-can : (node : ℕ) (fits : ExecKind → Bool) → IsPartOf f p.execs node fits → CanExecute p (kind_in (slice_get p.execs (piece_at f.pieces node).exec))
  part-can node fits part = subst (CanExecute p) (sym (part-kind node fits part)) (program.can_run.executes (piece_at f.pieces node).exec part.exec part.found)

  part-few : (node : ℕ) (fits : ExecKind → Bool) → IsPartOf f p.execs node fits → length (targets_of (kind_in (slice_get p.execs (piece_at f.pieces node).exec))) < 2147483648
  part-few node fits part =
      let k = (piece_at f.pieces node).exec in
      let count = λ (x : Exec). length (targets_of x.kind) in
      let inside : k < length p.execs = slice_get_within p.execs k part.exec part.found in
      let least = get_or-le-sum_by count p.execs k part.exec inside in
      let is : get_or p.execs k part.exec ≡ part.exec = get_or_from_slice_get p.execs k part.exec part.exec part.found in
      let same : length (targets_of (kind_in (slice_get p.execs k))) ≡ count (get_or p.execs k part.exec) = ap (λ (x : ExecKind). length (targets_of x)) (part-kind node fits part) ∙ sym (ap count is) in
      omega (arith, least, same, program.well_formed.execs.target_count)

  -- the executable of an act or a branch can run, and has few targets
  pub act-can : (node : ℕ) → node < f.graph.nodes → kind_at f node ≡ Act → CanExecute p (kind_in (slice_get p.execs (piece_at f.pieces node).exec))
  act-can node inside act = part-can node is_act (program.acts node inside act)

  pub branch-can : (node : ℕ) → node < f.graph.nodes → kind_at f node ≡ Branch → CanExecute p (kind_in (slice_get p.execs (piece_at f.pieces node).exec))
  branch-can node inside branch = part-can node is_branch (program.branches node inside branch)

  pub branch-few : (node : ℕ) → node < f.graph.nodes → kind_at f node ≡ Branch → length (targets_of (kind_in (slice_get p.execs (piece_at f.pieces node).exec))) < 2147483648
  branch-few node inside branch = part-few node is_branch (program.branches node inside branch)

pub switch-branch : (kind : PieceKind) → is_switch kind ≡ true → (kind ≡ Hold → ⊥) → kind ≡ Branch
switch-branch Branch s n = refl
switch-branch Hold s n = absurd (n refl)
switch-branch Start s n = absurd cc
switch-branch Act s n = absurd cc
switch-branch Pass s n = absurd cc
switch-branch Join s n = absurd cc
switch-branch End s n = absurd cc

pub decided-branch : (names : List NameInfo) (words : ℕ → Option ℤ) (kind : PieceKind) (x : ExecKind) → kind ≡ Branch → decided names words kind x ≡ selected names words x
decided-branch names words kind x is = ap (λ (k : PieceKind). decided names words k x) is

pub not_act-writes : (c : ClassTable) (kind : PieceKind) (x : ExecKind) (line : ℕ) → (kind ≡ Act → ⊥) → KindWrites c kind x line → ⊥
not_act-writes c Act x line n is = n refl
not_act-writes c Start x line n is = is
not_act-writes c Pass x line n is = is
not_act-writes c Branch x line n is = is
not_act-writes c Hold x line n is = is
not_act-writes c Join x line n is = is
not_act-writes c End x line n is = is

no_out : (p : Program) (c : ClassTable) (node : ℕ) (kind : PieceKind) (x : ExecKind) → is_merge kind ≡ true → KindNeedsOut p c node kind x → ⊥
no_out p c node Join x m is = is
no_out p c node End x m is = is
no_out p c node Start x m is = is
no_out p c node Pass x m is = is
no_out p c node Act x m is = absurd cc
no_out p c node Branch x m is = absurd cc
no_out p c node Hold x m is = absurd cc

no_needs : (c : ClassTable) (kind : PieceKind) (x : ExecKind) (n : ℕ) → is_merge kind ≡ true → KindNeeds c kind x n → ⊥
no_needs c Join x n m is = is
no_needs c End x n m is = is
no_needs c Start x n m is = is
no_needs c Pass x n m is = is
no_needs c Hold x n m is = is
no_needs c Act x n m is = absurd cc
no_needs c Branch x n m is = absurd cc

untouched-kind : (p : Program) (c : ClassTable) (touches : ℕ → ℕ → Bool) (node : ℕ) → is_merge (kind_at (flow p.execs) node) ≡ true → (line : ℕ) → Touches p c node line → ⊥
untouched-kind p c touches node merge zero is = no_out p c node (kind_at (flow p.execs) node) (exec_kind p node) merge is
untouched-kind p c touches node merge (suc n) is = no_needs c (kind_at (flow p.execs) node) (exec_kind p node) (suc n) merge is

pub merges-untouched : (p : Program) (f : FlowGraph) (c : ClassTable) (touches : ℕ → ℕ → Bool) → IsProgram p f → AreTouches p c touches → (e line : ℕ) → e < edge_count f.graph → is_merge (kind_after f e) ≡ true → touches (to f.graph e) line ≡ false
merges-untouched p f c touches program are =
    let P : FlowGraph → Type 0 = λ g. IsGraph g.graph → (e line : ℕ) → e < edge_count g.graph → is_merge (kind_after g e) ≡ true → touches (to g.graph e) line ≡ false in
    let at : P (flow p.execs) = λ sound e line l merge. false_from_ne_true (touches (to (flow p.execs).graph e) line) (λ is. untouched-kind p c touches (to (flow p.execs).graph e) merge line ((are (to (flow p.execs).graph e) line (sound.ends e l)).0 is)) in
    subst P (sym program.flow) at program.sound
