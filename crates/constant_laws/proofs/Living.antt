-- Something is known of each line on live edges, and runs take live edges alone.
use Rattle.std.proofs.Common.{◌≡◌, ◌≢◌, ℕ, zero, suc, ◌<◌, ◌==◌, ℤ, pos, Bool, true, false, not, ◌&&◌, List, [], ◌∷◌, ◌++◌, Option, Some, None, refl, sym, ap, subst, ◌∙◌, ⊎_elim}
use Rattle.std.proofs.lemmas.Bool.{cases_Bool, cases_eq, eqb-true, eq-eqb}
use Rattle.op_table.specs.Trips.{at_least_zero}
use Rattle.closed_walks.specs.Graph.{Graph, edge_count, from, to}
use Rattle.closed_walks.specs.Walk.{Walk, Avoids}
use Rattle.f77_tree.specs.declared.programs.ExecKind.{ExecKind}
use Rattle.f77_tree.specs.declared.programs.ExecKind.TheVariants as exec
use Rattle.f77_tree.specs.declared.programs.NameInfo.{NameInfo}
use Rattle.f77_tree.specs.declared.programs.Program.{Program}
use Rattle.f77_tree.specs.KnownWith.{known_with}
use Rattle.f77_tree.specs.Run.{Running}
use Rattle.alias_classes.specs.Classes.{ClassTable}
use Rattle.cfg_build.specs.declared.pieces.PieceKind.{PieceKind}
use Rattle.cfg_build.specs.declared.pieces.PieceKind.TheVariants.{Start, Act, Pass, Branch, Join, Hold, End}
use Rattle.cfg_build.specs.Flow.{flow}
use Rattle.cfg_build.specs.Passes.{out, passes}
use Rattle.region_tree.specs.Tree.{Tree}
use Rattle.dep_routing.specs.Routing.{Routing}
use Rattle.dep_routing.specs.Sound.{comes_to}
use Rattle.dep_routing.specs.Touches.{piece_kind, exec_kind}
use Rattle.const_prop.specs.declared.known.Known.{Known}
use Rattle.const_prop.specs.declared.known.Known.TheVariants.{Nothing, One, Any}
use Rattle.const_prop.specs.Closed.{IsClosed, IsWay, KindAllows, decided, decided_after, selected, is_switch, words_on}
use Rattle.constant_laws.specs.Facts.{PlaceFacts, RunFacts}
use Rattle.const_prop.specs.Known.{IsSomething, one_of, as_index}
use Rattle.const_prop.specs.Live.{IsLive, is_excluded, is_other, IsKnownOutAfter}
use Rattle.const_prop.specs.Right.{AreRouted, IsDecidedAt}
use Rattle.const_prop.specs.Setting.{IsProgram}
use Rattle.const_prop.specs.Table.{Knowns}
use Rattle.constant_laws.proofs.Choosing.{decided_out}
use Rattle.constant_laws.proofs.Coming.{IsMet, met-ready, met-start, met-on, met-decided}
use Rattle.constant_laws.proofs.Passing.{ran_before}
use Rattle.constant_laws.proofs.Rightness.{decision-told}
use Rattle.constant_laws.proofs.Runs.{switch-action}
use Rattle.constant_laws.proofs.Ways.{IsOut, out_of, out_exists}

-- ---- what is decided is the place of an out-edge

index-place : (g : ℤ → ℕ) (o : Option ℤ) (v : ℤ) → as_index g o ≡ One v → v ≡ pos (at_least_zero v)
index-place g None v is = let clash : Any ≡ One v = is in absurd cc
index-place g (Some z) v is = let same : pos (g z) ≡ v = cc in subst (λ x. x ≡ pos (at_least_zero x)) same refl

any-place : (v : ℤ) → Any ≡ One v → v ≡ pos (at_least_zero v)
any-place v is = absurd cc

selected-place : (names : List NameInfo) (words : ℕ → Option ℤ) (x : ExecKind) (v : ℤ) → selected names words x ≡ One v → v ≡ pos (at_least_zero v)
selected-place names words (exec.Test e a b) v is = index-place _ (known_with names words e) v is
selected-place names words (exec.Sign e a b d) v is = index-place _ (known_with names words e) v is
selected-place names words (exec.Pick e targets other) v is = index-place _ (known_with names words e) v is
selected-place names words (exec.Assign target e next) v is = any-place v is
selected-place names words (exec.DoStart loop_no var first last step body exit) v is = any-place v is
selected-place names words (exec.DoNext loop_no var body exit) v is = any-place v is
selected-place names words (exec.Print items next) v is = any-place v is
selected-place names words (exec.Pass next) v is = any-place v is
selected-place names words exec.End v is = any-place v is

decided-place : (names : List NameInfo) (words : ℕ → Option ℤ) (k : PieceKind) (x : ExecKind) (v : ℤ) → decided names words k x ≡ One v → v ≡ pos (at_least_zero v)
decided-place names words Hold x v is = let same : pos 0 ≡ v = cc in subst (λ y. y ≡ pos (at_least_zero y)) same refl
decided-place names words Start x v is = selected-place names words x v is
decided-place names words Act x v is = selected-place names words x v is
decided-place names words Pass x v is = selected-place names words x v is
decided-place names words Branch x v is = selected-place names words x v is
decided-place names words Join x v is = selected-place names words x v is
decided-place names words End x v is = selected-place names words x v is

any-allows : (k : PieceKind) (i : ℕ) → KindAllows k Any i
any-allows Branch i = tt
any-allows Hold i = tt
any-allows Start i = tt
any-allows Act i = tt
any-allows Pass i = tt
any-allows Join i = tt
any-allows End i = tt

other-allows : (k : PieceKind) (decision : Known) (i : ℕ) → is_switch k ≡ false → KindAllows k decision i
other-allows Branch decision i s = absurd cc
other-allows Hold decision i s = absurd cc
other-allows Start decision i s = tt
other-allows Act decision i s = tt
other-allows Pass decision i s = tt
other-allows Join decision i s = tt
other-allows End decision i s = tt

place-allows : (k : PieceKind) (v : ℤ) (i : ℕ) → v ≡ pos i → KindAllows k (One v) i
place-allows Branch v i is = is
place-allows Hold v i is = is
place-allows Start v i is = tt
place-allows Act v i is = tt
place-allows Pass v i is = tt
place-allows Join v i is = tt
place-allows End v i is = tt

switch-end : (k : PieceKind) → is_switch k ≡ true → k ≡ End → ⊥
switch-end k s is = let clash : true ≡ false = sym s ∙ ap is_switch is in absurd cc

not_false : (b : Bool) → not b ≡ false → b ≡ true
not_false true is = refl
not_false false is = absurd cc

-- ---- walks

module _ (g : Graph) (excluded : ℕ → Bool) (IsFine : ℕ → Type 0) where
  -- each edge that leaves the node and isn't excluded is fine
  abbrev pub AllFine : ℕ → Type 0
  AllFine node = (d : ℕ) → d < edge_count g → from g d ≡ node → excluded d ≡ false → IsFine d

  pub fine_along : ((e : ℕ) → e < edge_count g → IsFine e → AllFine (to g e)) → (u v : ℕ) (w : List ℕ) → Walk g u w v → Avoids excluded w → AllFine u → AllFine v
  fine_along on u v [] leads avoids fine d edge begins kept = fine d edge (begins ∙ sym leads) kept
  fine_along on u v (e ∷ w) leads avoids fine d edge begins kept = fine_along on (to g e) v w leads.2 avoids.1 (on e leads.0 (fine e leads.0 leads.1 avoids.0)) d edge begins kept

  pub walk-more : (u e : ℕ) (w : List ℕ) → e < edge_count g → excluded e ≡ false → Walk g u w (from g e) → Avoids excluded w → Walk g u (w ++ e ∷ []) (to g e) × Avoids excluded (w ++ e ∷ [])
  walk-more u e [] edge kept leads avoids = ((edge, sym leads, refl), (kept, tt))
  walk-more u e (d ∷ w) edge kept leads avoids = let rest = walk-more (to g d) e w edge kept leads.2 avoids.1 in ((leads.0, leads.1, rest.0), (avoids.0, rest.1))

module _ (p : Program) (c : ClassTable) (touches : ℕ → ℕ → Bool) (tree : Tree) (r : Routing) (t : Knowns) (routed : AreRouted p c touches tree r) (closed : IsClosed p (flow p.execs) c touches r t) (program : IsProgram p (flow p.execs)) (facts : PlaceFacts (flow p.execs).graph tree touches r) where
  abbrev Met : ℕ → Type 0
  Met e = IsMet p (flow p.execs) c touches r tree program routed.classes facts routed.actions t closed e

  -- the out-edge is one that control may take
  record IsFound (e d : ℕ) : Type 0 where
    place : ℕ
    way : IsWay (flow p.execs) t e place
    is : d ≡ out (flow p.execs).graph (to (flow p.execs).graph e) place

  met-found : (e d : ℕ) → e < edge_count (flow p.execs).graph → d < edge_count (flow p.execs).graph → from (flow p.execs).graph d ≡ to (flow p.execs).graph e → is_excluded p t d ≡ false → Met e → IsFound e d
  met-found e d edge next_edge begins kept met = ⊎_elim
      (λ (s : is_switch (piece_kind p node) ≡ true). by_decision s (t.decision node) refl)
      (λ (s : is_switch (piece_kind p node) ≡ false). any_place (λ i. other-allows (piece_kind p node) (t.decision node) i s))
      (cases_Bool (is_switch (piece_kind p node)))
    where
      node : ℕ
      node = to (flow p.execs).graph e

      any_place : ((i : ℕ) → KindAllows (piece_kind p node) (t.decision node) i) → IsFound e d
      any_place allowed =
          let at : IsOut (flow p.execs).graph node d = out_of (flow p.execs).graph node d next_edge begins in
          record { place = at.place; way = record { edge = edge; exists = at.exists; allowed = allowed at.place }; is = at.is }

      by_decision : is_switch (piece_kind p node) ≡ true → (k : Known) → t.decision node ≡ k → IsFound e d
      by_decision s k is = by k is
        where
          ready : Rattle.const_prop.specs.Closed.IsReady (flow p.execs) touches r.lines t e
          ready = met-ready p (flow p.execs) c touches r tree program routed.classes facts routed.actions t closed e met edge (switch-action (piece_kind p node) s)

          by : (k : Known) → t.decision node ≡ k → IsFound e d
          by Nothing is = absurd (subst IsSomething is (met-decided p (flow p.execs) c touches r tree program routed.classes facts routed.actions t closed e ready s))
          by Any is = any_place (λ i. subst (λ (k : Known). KindAllows (piece_kind p node) k i) (sym is) (any-allows (piece_kind p node) i))
          by (One v) is =
              let told : decided_after p (flow p.execs) c t e ≡ One v = decision-told p (flow p.execs) c touches r t closed e v ready s is in
              let index : v ≡ pos (at_least_zero v) = decided-place p.names (words_on c t e) (piece_kind p node) (exec_kind p node) v told in
              let chosen : (is_switch (piece_kind p node) && is_other p t node d (one_of (t.decision node))) ≡ false = ap (λ n. is_switch (piece_kind p n) && is_other p t n d (one_of (t.decision n))) (sym begins) ∙ kept in
              let one : (true && not (out (flow p.execs).graph node (at_least_zero v) == d)) ≡ false = ap (λ b. b && not (out (flow p.execs).graph node (at_least_zero v) == d)) (sym s) ∙ ap (λ (k : Known). is_switch (piece_kind p node) && is_other p t node d (one_of k)) (sym is) ∙ chosen in
              let same : out (flow p.execs).graph node (at_least_zero v) ≡ d = eqb-true (out (flow p.execs).graph node (at_least_zero v)) d (not_false (out (flow p.execs).graph node (at_least_zero v) == d) one) in
              record {
                place = at_least_zero v;
                way = record {
                  edge = edge;
                  exists = out_exists p (flow p.execs) program node (at_least_zero v) (program.sound.ends e edge) (switch-end (piece_kind p node) s) (ap (λ x. from (flow p.execs).graph x) same ∙ begins);
                  allowed = subst (λ (k : Known). KindAllows (piece_kind p node) k (at_least_zero v)) (sym is) (place-allows (piece_kind p node) v (at_least_zero v) index);
                };
                is = sym same;
              }

  met-next : (e : ℕ) → e < edge_count (flow p.execs).graph → Met e → AllFine (flow p.execs).graph (is_excluded p t) Met (to (flow p.execs).graph e)
  met-next e edge met d next_edge begins kept = ⊎_elim
      (λ (start : to (flow p.execs).graph e ≡ 0). met-start p (flow p.execs) c touches r tree program routed.classes facts routed.actions t closed d next_edge (begins ∙ start))
      (λ (later : to (flow p.execs).graph e ≢ 0).
      let found : IsFound e d = met-found e d edge next_edge begins kept met in
      met-on p (flow p.execs) c touches r tree program routed.classes facts routed.actions t closed e found.place d met found.way (λ same. later (sym same)) next_edge found.is begins)
      (cases_eq (to (flow p.execs).graph e) 0)

  -- something is known where each line stands on a live edge
  pub live-met : (e : ℕ) → IsLive p t e → Met e
  live-met e live =
      fine_along (flow p.execs).graph (is_excluded p t) Met met-next 0 (from (flow p.execs).graph e) live.reached.walk live.reached.leads live.reached.avoids
      (λ d edge begins kept. met-start p (flow p.execs) c touches r tree program routed.classes facts routed.actions t closed d edge begins)
      e live.edge refl live.kept

  pub live-decided : (e : ℕ) → IsLive p t e → is_switch (piece_kind p (to (flow p.execs).graph e)) ≡ true → IsSomething (t.decision (to (flow p.execs).graph e))
  live-decided e live s = met-decided p (flow p.execs) c touches r tree program routed.classes facts routed.actions t closed e
      (met-ready p (flow p.execs) c touches r tree program routed.classes facts routed.actions t closed e (live-met e live) live.edge (switch-action (piece_kind p (to (flow p.execs).graph e)) s)) s

  -- one out-edge that is decided there is known
  pub live-out : (e : ℕ) (v : ℤ) → IsLive p t e → is_switch (piece_kind p (to (flow p.execs).graph e)) ≡ true → t.decision (to (flow p.execs).graph e) ≡ One v → IsKnownOutAfter p c t e v
  live-out e v live s is =
      let node = to (flow p.execs).graph e in
      let ready = met-ready p (flow p.execs) c touches r tree program routed.classes facts routed.actions t closed e (live-met e live) live.edge (switch-action (piece_kind p node) s) in
      decided_out p.names (words_on c t e) (piece_kind p node) (exec_kind p node) v s (decision-told p (flow p.execs) c touches r t closed e v ready s is)

-- ---- runs

module _ (p : Program) (t : Knowns) (input : List ℤ) (program : IsProgram p (flow p.execs)) (runs : RunFacts p input) (decided : (n : ℕ) → (passes p input n).mark ≡ Running → is_switch (piece_kind p (comes_to p input n)) ≡ true → IsDecidedAt p input t n) where
  -- the start decides nothing
  kept-first : is_excluded p t (passes p input 0).edge ≡ false
  kept-first =
      let start : piece_kind p (from (flow p.execs).graph (passes p input 0).edge) ≡ Start = (program.shape.start (from (flow p.execs).graph (passes p input 0).edge) (program.sound.begins (passes p input 0).edge (runs.edges 0))).1 runs.start in
      ap (λ (k : PieceKind). is_switch k && is_other p t (from (flow p.execs).graph (passes p input 0).edge) (passes p input 0).edge (one_of (t.decision (from (flow p.execs).graph (passes p input 0).edge)))) start

  taken-kept : (n d : ℕ) → d ≡ (passes p input (suc n)).edge → (passes p input (suc n)).mark ≡ Running → (passes p input n).mark ≡ Running → (k : Known) → t.decision (comes_to p input n) ≡ k → (is_switch (piece_kind p (comes_to p input n)) && is_other p t (comes_to p input n) d (one_of k)) ≡ false
  taken-kept n d same run ran Nothing is = and-false (is_switch (piece_kind p (comes_to p input n)))
    where
      and-false : (b : Bool) → (b && false) ≡ false
      and-false true = refl
      and-false false = refl
  taken-kept n d same run ran Any is = and-false (is_switch (piece_kind p (comes_to p input n)))
    where
      and-false : (b : Bool) → (b && false) ≡ false
      and-false true = refl
      and-false false = refl
  taken-kept n d same run ran (One v) is = ⊎_elim
      (λ (s : is_switch (piece_kind p (comes_to p input n)) ≡ true).
      let taken = (decided n ran s).takes v is run in
      let equal : (out (flow p.execs).graph (comes_to p input n) (at_least_zero v) == d) ≡ true = eq-eqb (out (flow p.execs).graph (comes_to p input n) (at_least_zero v)) d (sym taken ∙ sym same) in
      ap (λ b. b && not (out (flow p.execs).graph (comes_to p input n) (at_least_zero v) == d)) s ∙ ap not equal)
      (λ (s : is_switch (piece_kind p (comes_to p input n)) ≡ false). ap (λ b. b && not (out (flow p.execs).graph (comes_to p input n) (at_least_zero v) == d)) s)
      (cases_Bool (is_switch (piece_kind p (comes_to p input n))))

  -- a run takes live edges alone
  pub runs_live : (n : ℕ) → (passes p input n).mark ≡ Running → IsLive p t (passes p input n).edge
  runs_live zero run = record { edge = runs.edges 0; reached = record { walk = []; leads = sym runs.start; avoids = tt }; kept = kept-first }
  runs_live (suc n) run =
      let ran = ran_before p input n run in
      let before : IsLive p t (passes p input n).edge = runs_live n ran in
      let begins = runs.leads_on n run in
      let more = walk-more (flow p.execs).graph (is_excluded p t) (λ e. Unit {0}) 0 (passes p input n).edge before.reached.walk before.edge before.kept before.reached.leads before.reached.avoids in
      let next = (passes p input (suc n)).edge in
      record {
        edge = runs.edges (suc n);
        reached = record { walk = before.reached.walk ++ (passes p input n).edge ∷ []; leads = subst (λ v. Walk (flow p.execs).graph 0 (before.reached.walk ++ (passes p input n).edge ∷ []) v) (sym begins) more.0; avoids = more.1 };
        kept = ap (λ node. is_switch (piece_kind p node) && is_other p t node next (one_of (t.decision node))) begins ∙ taken-kept n next refl run ran (t.decision (comes_to p input n)) refl;
      }
