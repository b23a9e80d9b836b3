-- What a closed table tells is so in runs.
use Rattle.std.proofs.Common.{◌≡◌, ℕ, zero, suc, ℤ, Bool, true, List, [], Some, None, refl, sym, ap, subst, ◌∙◌}
use Rattle.std.proofs.lemmas.List.{append-nil}
use Rattle.op_table.specs.Trips.{at_least_zero}
use Rattle.f77_tree.specs.declared.expressions.Expr.{Expr}
use Rattle.f77_tree.specs.declared.programs.Program.{Program}
use Rattle.f77_tree.specs.KnownWith.{known_with}
use Rattle.f77_tree.specs.Run.{Running}
use Rattle.f77_tree.specs.Value.{word_at}
use Rattle.alias_classes.specs.Classes.{ClassTable, class_of_word}
use Rattle.cfg_build.specs.declared.pieces.PieceKind.{PieceKind}
use Rattle.cfg_build.specs.declared.pieces.PieceKind.TheVariants.{Start, Act, Pass, Branch, Join, Hold, End}
use Rattle.cfg_build.specs.Flow.{flow}
use Rattle.cfg_build.specs.Passes.{Along, PassState, out, pass, passes}
use Rattle.region_tree.specs.Tree.{Tree}
use Rattle.dep_routing.specs.Quiet.{IsFree}
use Rattle.dep_routing.specs.Routing.{Routing, next_at}
use Rattle.dep_routing.specs.Sound.{comes_to}
use Rattle.dep_routing.specs.Touches.{piece_kind, exec_kind}
use Rattle.const_prop.specs.declared.known.Known.{Known}
use Rattle.const_prop.specs.declared.known.Known.TheVariants.{One}
use Rattle.const_prop.specs.Closed.{IsClosed, KindAllows, is_action, is_switch, words_on}
use Rattle.constant_laws.specs.Facts.{PlaceFacts, WordFacts, RunFacts}
use Rattle.const_prop.specs.Known.{AtMost}
use Rattle.const_prop.specs.Right.{AreRouted, IsRightAt, IsDecidedAt, TouchesNeeded, HasValue, TakesQuietly}
use Rattle.const_prop.specs.Setting.{IsProgram}
use Rattle.const_prop.specs.Table.{Knowns}
use Rattle.constant_laws.proofs.Choosing.{decided_out, known_out_goes}
use Rattle.constant_laws.proofs.Coming.{met-ready, met-start, met-decided}
use Rattle.constant_laws.proofs.Passing.{ran_before, passed_at, pass-memory, went_along}
use Rattle.constant_laws.proofs.Rightness.{IsHeld, IsTaken, class_in, one_word-known, taken, held-on, touched-value, after-value, decision-told}
use Rattle.const_prop.proofs.Under.{AreCovered}

pub switch-action : (k : PieceKind) → is_switch k ≡ true → is_action k ≡ true
switch-action Branch s = refl
switch-action Hold s = refl
switch-action Start s = absurd cc
switch-action Act s = absurd cc
switch-action Pass s = absurd cc
switch-action Join s = absurd cc
switch-action End s = absurd cc

-- one out-edge is decided
allowed-place : (k : PieceKind) (v : ℤ) (i : ℕ) → is_switch k ≡ true → KindAllows k (One v) i → i ≡ at_least_zero v
allowed-place Branch v i s allowed = ap at_least_zero (sym allowed)
allowed-place Hold v i s allowed = ap at_least_zero (sym allowed)
allowed-place Start v i s allowed = absurd cc
allowed-place Act v i s allowed = absurd cc
allowed-place Pass v i s allowed = absurd cc
allowed-place Join v i s allowed = absurd cc
allowed-place End v i s allowed = absurd cc

module _ (p : Program) (c : ClassTable) (touches : ℕ → ℕ → Bool) (tree : Tree) (r : Routing) (t : Knowns) (routed : AreRouted p c touches tree r) (closed : IsClosed p (flow p.execs) c touches r t) (program : IsProgram p (flow p.execs)) (facts : PlaceFacts (flow p.execs).graph tree touches r) where
  covered : AreCovered p (flow p.execs) c touches r.lines
  covered = record { classes = routed.classes; lines_are = routed.routing.count; is = refl; sound = program.sound; needs = routed.needs }

  module _ (input : List ℤ) (laws : WordFacts p c input) (runs : RunFacts p input) where
    abbrev Held : ℕ → Type 0
    Held n = IsHeld p (flow p.execs) c touches r tree program covered facts routed.actions t closed input laws (passes p input n).edge (passes p input n).memory

    held-first : Held 0
    held-first = record {
      met = met-start p (flow p.execs) c touches r tree program routed.classes facts routed.actions t closed 1 (runs.edges 0) runs.start;
      word = λ word h v inside at is.
          let line = class_of_word c word in
          let one = one_word-known p (flow p.execs) c touches r tree program covered facts routed.actions t closed input laws line h v (class_in p (flow p.execs) c touches r tree program covered facts routed.actions t closed input laws word) (facts.exists line 1 h (runs.edges 0) at) is in
          let place : h ≡ next_at r line 1 = facts.departs line 1 h (class_in p (flow p.execs) c touches r tree program covered facts routed.actions t closed input laws word) (runs.edges 0) (subst (λ n. IsFree (flow p.execs).graph tree touches line n) (sym runs.start) (facts.start line)) at in
          subst (λ (k : Known). AtMost (One (word_at p.initial word)) k) (ap (t.value line) (sym place) ∙ is) (closed.initial word inside one);
    }

    held-all : (n : ℕ) → (passes p input n).mark ≡ Running → Held n
    held-all zero run = held-first
    held-all (suc n) run =
        let ran = ran_before p input n run in
        held-on p (flow p.execs) c touches r tree program covered facts routed.actions t closed input laws (passes p input n).edge (passes p input (suc n)).edge (passes p input n).memory (passes p input (suc n)).memory
        (runs.edges n) (runs.edges (suc n)) (runs.leads_on n run) (held-all n ran) (pass-memory p input n program.can_run ran) (passed_at p input n run) (λ same. runs.returns n ran (sym same))

    pub right : (n : ℕ) → (passes p input n).mark ≡ Running → IsRightAt p c touches tree r.lines t (passes p input n)
    right n run = let held = held-all n run in record { something = held.met; word = λ word h v inside l at is. held.word word h v inside at is }

    pub decided : (n : ℕ) → (passes p input n).mark ≡ Running → is_switch (piece_kind p (comes_to p input n)) ≡ true → IsDecidedAt p input t n
    decided n run s =
        let held = held-all n run in
        record {
          something = met-decided p (flow p.execs) c touches r tree program routed.classes facts routed.actions t closed (passes p input n).edge
              (met-ready p (flow p.execs) c touches r tree program routed.classes facts routed.actions t closed (passes p input n).edge held.met (runs.edges n) (switch-action (piece_kind p (comes_to p input n)) s)) s;
          takes = λ v is on.
              let way : IsTaken p (flow p.execs) c touches r tree program covered facts routed.actions t closed input laws (passes p input n).edge (passes p input (suc n)).edge =
              taken p (flow p.execs) c touches r tree program covered facts routed.actions t closed input laws (passes p input n).edge (passes p input (suc n)).edge (passes p input n).memory (passes p input (suc n)).memory
              (runs.edges n) (runs.edges (suc n)) (runs.leads_on n on) held (passed_at p input n on) in
              way.is ∙ ap (out (flow p.execs).graph (comes_to p input n)) (allowed-place (piece_kind p (comes_to p input n)) v way.place s (subst (λ (k : Known). KindAllows (piece_kind p (comes_to p input n)) k way.place) is way.way.allowed));
        }

    -- what is known of an expression is its value
    pub known_value : (n : ℕ) (e : Expr) (z : ℤ) → (passes p input n).mark ≡ Running → TouchesNeeded c touches (comes_to p input n) e → known_with p.names (words_on c t (passes p input n).edge) e ≡ Some z → HasValue p.names (passes p input n).memory e z
    known_value n e z run touched is = λ next.
        touched-value p (flow p.execs) c touches r tree program covered facts routed.actions t closed input laws (passes p input n).edge (passes p input n).memory (held-all n run) (runs.edges n) next e
        (λ word z needs told. touched (class_of_word c word) needs) z is

    -- a piece at which one out-edge is decided takes it
    pub decided_goes : (n : ℕ) (v : ℤ) → (passes p input n).mark ≡ Running → is_switch (piece_kind p (comes_to p input n)) ≡ true → t.decision (comes_to p input n) ≡ One v → TakesQuietly p input n v
    decided_goes n v run s is =
        let held = held-all n run in
        let e = (passes p input n).edge in
        let m = (passes p input n).memory in
        let ready = met-ready p (flow p.execs) c touches r tree program routed.classes facts routed.actions t closed e held.met (runs.edges n) (switch-action (piece_kind p (comes_to p input n)) s) in
        let told = decision-told p (flow p.execs) c touches r t closed e v ready s is in
        let known = decided_out p.names (words_on c t e) (piece_kind p (comes_to p input n)) (exec_kind p (comes_to p input n)) v s told in
        let along : pass p input e m ≡ Along (out (flow p.execs).graph (comes_to p input n) (at_least_zero v)) m [] = known_out_goes p input c (words_on c t e) m (out (flow p.execs).graph (comes_to p input n)) (piece_kind p (comes_to p input n)) (exec_kind p (comes_to p input n)) v
        (λ x needs. after-value p (flow p.execs) c touches r tree program covered facts routed.actions t closed input laws e m held (runs.edges n) None x needs) known
        in
        let went = went_along p input n (out (flow p.execs).graph (comes_to p input n) (at_least_zero v)) m [] run along in
        record {
          goes_on = ap (λ (x : PassState). x.mark) went ∙ run;
          edge = ap (λ (x : PassState). x.edge) went;
          memory = ap (λ (x : PassState). x.memory) went;
          text = ap (λ (x : PassState). x.out) went ∙ append-nil (passes p input n).out;
        }
