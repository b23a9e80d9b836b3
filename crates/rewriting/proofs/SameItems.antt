-- Tables that decide the same keep the same executables.
use Rattle.std.proofs.Common.{◌≡◌, ℕ, ◌<◌, ◌↔◌, Bool, true, false, List, [], ◌∷◌, refl, sym, ap, ◌∙◌}
use Rattle.std.specs.Prelude.{◌&&◌}
use mathlib.Core.Path.{fun_ext}
use Rattle.closed_walks.specs.Graph.{Graph, IsGraph, edge_count, from, to}
use Rattle.closed_walks.specs.Walk.{Walk, Avoids}
use Rattle.f77_tree.specs.declared.programs.ExecKind.{ExecKind}
use Rattle.f77_tree.specs.declared.programs.ExecKind.TheVariants.{Assign, Print, Pass, Test, Sign, Pick, DoStart, DoNext, End}
use Rattle.f77_tree.specs.declared.programs.Program.{Program}
use Rattle.cfg_build.specs.Flow.{flow}
use Rattle.dep_routing.specs.Touches.{piece_kind}
use Rattle.const_prop.specs.Closed.{is_switch}
use Rattle.const_prop.specs.Known.{one_of}
use Rattle.const_prop.specs.Live.{is_excluded, is_other, IsLive}
use Rattle.const_prop.specs.Table.{Knowns}
use Rattle.simplified_forms.specs.Items.{AreItems, IsEnteredPiece, IsItem, IsKeptKind}

-- the tables decide the same at each piece
abbrev pub DecideAlike : Program → (t u : Knowns) → Type 0
DecideAlike p t u = (piece : ℕ) → piece < (flow p.execs).graph.nodes → t.decision piece ≡ u.decision piece

pub same_test : (A B : Type 0) (a b : Bool) → (a ≡ true) ↔ A → (b ≡ true) ↔ B → (A → B) → (B → A) → a ≡ b
same_test A B true b left right there back = sym (right.1 (there (left.0 refl)))
same_test A B false true left right there back = left.1 (back (right.0 refl))
same_test A B false false left right there back = refl

module _ (p : Program) (t u : Knowns) (sound : IsGraph (flow p.execs).graph) (alike : DecideAlike p t u) where
  abbrev g : Graph
  g = (flow p.execs).graph

  same_excluded : (e : ℕ) → e < edge_count g → is_excluded p t e ≡ is_excluded p u e
  same_excluded e less = ap (λ d. is_switch (piece_kind p (from g e)) && is_other p u (from g e) e (one_of d)) (alike (from g e) (sound.begins e less))

  same_walk : (walk : List ℕ) (a b : ℕ) → Walk g a walk b → Avoids (is_excluded p t) walk → Avoids (is_excluded p u) walk
  same_walk [] a b leads avoids = tt
  same_walk (e ∷ walk) a b leads avoids = (sym (same_excluded e leads.0) ∙ avoids.0, same_walk walk (to g e) b leads.2 avoids.1)

  same_live : (e : ℕ) → IsLive p t e → IsLive p u e
  same_live e live = record {
    edge = live.edge;
    reached = record { walk = live.reached.walk; leads = live.reached.leads; avoids = same_walk live.reached.walk 0 (from g e) live.reached.leads live.reached.avoids };
    kept = sym (same_excluded e live.edge) ∙ live.kept;
  }

  same_entered : (piece : ℕ) → IsEnteredPiece p t piece → IsEnteredPiece p u piece
  same_entered piece by = record { edge = by.edge; live = same_live by.edge by.live; ends = by.ends }

  same_kept : (k : ℕ) (kind : ExecKind) → IsKeptKind p t k kind → IsKeptKind p u k kind
  same_kept k (Assign target value next) kept = same_entered _ kept
  same_kept k (Print items next) kept = same_entered _ kept
  same_kept k (Pass next) kept = same_entered _ kept
  same_kept k (Test cond if_true if_false) kept = same_entered _ kept
  same_kept k (Sign value below at above) kept = same_entered _ kept
  same_kept k (Pick value targets other) kept = same_entered _ kept
  same_kept k (DoStart loop_no var first last step body exit) kept = same_entered _ kept
  same_kept k (DoNext loop_no var body exit) kept = same_entered _ kept
  same_kept k End kept = tt

  pub same_item : (k : ℕ) → IsItem p t k → IsItem p u k
  same_item k item = record { exec = item.exec; found = item.found; kept = same_kept k item.exec.kind item.kept }

pub same_items : (p : Program) (t u : Knowns) (is_item other : ℕ → Bool) → IsGraph (flow p.execs).graph → DecideAlike p t u → AreItems p t is_item → AreItems p u other → is_item ≡ other
same_items p t u is_item other sound alike are too = fun_ext (λ k. same_test (IsItem p t k) (IsItem p u k) (is_item k) (other k) (are k) (too k) (same_item p t u sound alike k) (same_item p u t sound (λ piece less. sym (alike piece less)) k))
