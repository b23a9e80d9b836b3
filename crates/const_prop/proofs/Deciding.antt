-- A piece decides anew.
use Rattle.std.proofs.Common.{◌≡◌, ◌≢◌, ◌<◌, ◌≤◌, ◌+◌, ℕ, Bool, true, false, ◌==◌, ◌&&◌, ◌||◌, List, length, refl, sym, ap, subst, ◌∙◌, inl, inr, ⊎_elim, arith, length-set}
use Rattle.std.specs.Vec.{with_item}
use Rattle.std.proofs.lemmas.Bool.{cases_eq, cases_Bool, and_parts, eq-eqb, eqb-true, or_cases, or_left, or_right}
use Rattle.std.proofs.lemmas.Grind.{get_or-set_at}
use Rattle.std.proofs.lemmas.List.{get_or-set_other}
use Rattle.std.proofs.lemmas.List.Sums.{sum_by-set}
use Rattle.class_set.specs.ClassSet.{holds}
use Rattle.class_set.specs.declared.ClassSet.{ClassSet}
use Rattle.closed_walks.specs.Graph.{edge_count, to}
use Rattle.f77_tree.specs.declared.programs.Program.{Program}
use Rattle.alias_classes.specs.Classes.{ClassTable}
use Rattle.cfg_build.specs.Joined.{FlowGraph}
use Rattle.dep_routing.specs.Routing.{Routing, wire_at}
use Rattle.const_prop.specs.declared.known.Known.{Known}
use Rattle.const_prop.specs.declared.known.Known.TheVariants.{Nothing}
use Rattle.const_prop.specs.declared.work.Work.{Work}
use Rattle.const_prop.specs.Closed.{IsClosed, IsReady, IsWay, KindAllows, is_switch, kind_after, decided_after}
use Rattle.const_prop.specs.Known.{AtMost}
use Rattle.const_prop.specs.Table.{Knowns}
use Rattle.const_prop.specs.EdgeSet.{edge_holds}
use Rattle.const_prop.specs.SparseSets.{Sets, keys_of, set_holds}
use Rattle.const_prop.specs.Rise.{room, IsRise}
use Rattle.const_prop.specs.Work.{so_far, is_pending, is_waiting, work_left, IsSized, IsFound, IsPassedOn, IsSeen, IsSettling, all_lines, this_piece, no_line}
use Rattle.const_prop.proofs.Order.{at_most-trans, something-more}
use Rattle.const_prop.proofs.Rising.{waits-more}
use Rattle.const_prop.proofs.Under.{IsUnder, AreCovered, decided-less}

module _ (p : Program) (f : FlowGraph) (c : ClassTable) (touches : ℕ → ℕ → Bool) (r : Routing) where
  -- what a ready piece decides is due
  pub decided-due : AreCovered p f c touches r.lines → (t b : Knowns) (e : ℕ) → IsFound p f c touches r t → IsClosed p f c touches r b → IsReady f touches r.lines t e → is_switch (kind_after f e) ≡ true → AtMost (decided_after p f c t e) (b.decision (to f.graph e))
  decided-due a t b e found closed ready s =
      let below = found.below b closed in
      let there : IsReady f touches r.lines b e = record { edge = ready.edge; action = ready.action; each = λ line l x. something-more (t.value line e) (b.value line e) (below.value line e l ready.edge) (ready.each line l x) } in
      let under : IsUnder c f touches r.lines t b e = record { under = λ line l x. below.value line e l ready.edge; some = ready.each; one = λ line l several. closed.words line e l ready.edge several } in
      at_most-trans (decided_after p f c t e) (decided_after p f c b e) (b.decision (to f.graph e)) (decided-less p f c touches r.lines a t b e ready.edge under s) (closed.decisions e there s)

module _ {W : ℕ} (p : Program) (f : FlowGraph) (c : ClassTable) (touches : ℕ → ℕ → Bool) (r : Routing) where
  abbrev at : Work W → Knowns
  at w = so_far w

  module _ (old : Work W) (e node : ℕ) (comes known : Known) (edge : e < edge_count f.graph) (is : node ≡ to f.graph e) (inside : node < f.graph.nodes) (alone : (k : ℕ) → k < edge_count f.graph → to f.graph k ≡ node → k ≡ e) (sized : IsSized f r.lines old) (rise : IsRise ((at old).decision node) comes known) where
    abbrev pub decided_work : Work W
    decided_work = record { known = old.known; decisions = with_item old.decisions node known; pending = old.pending; waits = old.waits }

    node_in : node < length old.decisions.items
    node_in = omega (arith, inside, sized.decisions)

    pub decision-here : (at decided_work).decision node ≡ known
    decision-here = get_or-set_at old.decisions.items node node known Nothing refl node_in

    decision-other : (k : ℕ) → k ≢ node → (at decided_work).decision k ≡ (at old).decision k
    decision-other k differ = get_or-set_other old.decisions.items node k known Nothing differ

    elsewhere : (k : ℕ) → k < edge_count f.graph → k ≢ e → (at decided_work).decision (to f.graph k) ≡ (at old).decision (to f.graph k)
    elsewhere k l differ = decision-other (to f.graph k) (λ same. differ (alone k l same))

    way-elsewhere : (k i : ℕ) → k ≢ e → IsWay f (at decided_work) k i → IsWay f (at old) k i
    way-elsewhere k i differ way = record { edge = way.edge; exists = way.exists; allowed = subst (λ (d : Known). KindAllows (kind_after f k) d i) (elsewhere k way.edge differ) way.allowed }

    pub decided-found : IsFound p f c touches r (at old) → ((b : Knowns) → IsClosed p f c touches r b → AtMost comes (b.decision node)) → IsFound p f c touches r (at decided_work)
    decided-found found due = record {
      words = found.words;
      below = λ b closed. let was = found.below b closed in record {
        value = was.value;
        decision = λ k l. ⊎_elim
            (λ (same : k ≡ node). subst (λ (n : ℕ). AtMost ((at decided_work).decision n) (b.decision n)) (sym same) (subst (λ (d : Known). AtMost d (b.decision node)) (sym decision-here) (rise.least (b.decision node) (was.decision node inside) (due b closed))))
            (λ (differ : k ≢ node). subst (λ (d : Known). AtMost d (b.decision k)) (sym (decision-other k differ)) (was.decision k l))
            (cases_eq k node);
      };
    }

    pub decided-settling : IsFound p f c touches r (at decided_work) → IsSettling p f c touches r no_line (this_piece e) old → IsSettling p f c touches r (all_lines e) (this_piece e) decided_work
    decided-settling found s = record {
      sized = record { lines_are = s.sized.lines_are; edges_are = s.sized.edges_are; decisions = length-set old.decisions.items node known ∙ s.sized.decisions; pending = s.sized.pending; waits = s.sized.waits };
      found = found;
      opened = record { initial = s.opened.initial; others = s.opened.others };
      lines = λ l k in_l in_k t. ⊎_elim
          (λ (same : k ≡ e). inl same)
          (λ (differ : k ≢ e). ⊎_elim
          (λ (no' : ⊥). absurd no')
          (λ h. inr (⊎_elim
          (λ (pending : is_pending old l k ≡ true). inl pending)
          (λ (passed : IsPassedOn p f c touches r (at old) l k). inr (λ i way kind wire. passed i (way-elsewhere k i differ way) kind wire))
          h))
          (s.lines l k in_l in_k t))
          (cases_eq k e);
      pieces = λ k in_k. ⊎_elim
          (λ (same : k ≡ e). inl same)
          (λ (differ : k ≢ e). ⊎_elim
          (λ (open' : k ≡ e). inl open')
          (λ h. inr (⊎_elim
          (λ (waits : is_waiting old k ≡ true). inl waits)
          (λ (seen : IsSeen p f c touches r (at old) k). inr (record {
            decision = λ ready x. subst (λ (d : Known). AtMost (decided_after p f c (at old) k) d) (sym (elsewhere k in_k differ)) (seen.decision (record { edge = ready.edge; action = ready.action; each = ready.each }) x);
            left = λ line i ready way l x m. let was = seen.left line i (record { edge = ready.edge; action = ready.action; each = ready.each }) (way-elsewhere k i differ way) l x m in record { writes = was.writes; reads = was.reads };
          }))
          h))
          (s.pieces k in_k))
          (cases_eq k e);
      waits = s.waits;
    }

    pub decided-left : work_left f r.lines decided_work + 1 ≤ work_left f r.lines old
    decided-left =
        let e' = sum_by-set room old.decisions.items node known Nothing node_in in
        omega (arith, e', rise.rises)

  -- the lines that stand on the edge are to be passed on again, and it waits
  abbrev pub woken : Work W → (pending : Sets W) → (waits : List (ClassSet 1)) → Work W
  woken w pending waits = record { known = w.known; decisions = w.decisions; pending = pending; waits = waits }

  module _ (w : Work W) (e : ℕ) (pending : Sets W) (waits : List (ClassSet 1)) (standing : ClassSet W) (size : keys_of pending ≡ keys_of w.pending) (room : length waits ≡ length w.waits) (waited : (k : ℕ) → edge_holds waits k ≡ ((k == e) || is_waiting w k)) (stand : (line : ℕ) → line < r.lines → holds standing line ≡ wire_at r line e) (more : (d k : ℕ) → set_holds pending d k ≡ (((d == e) && holds standing k) || is_pending w k d)) where
    woken-here : (k : ℕ) → k ≡ e → is_waiting (woken w pending waits) k ≡ true
    woken-here k is = waited k ∙ or_left (k == e) (is_waiting w k) (eq-eqb k e is)

    woken-on : (k : ℕ) → is_waiting w k ≡ true → is_waiting (woken w pending waits) k ≡ true
    woken-on k was = waited k ∙ or_right (k == e) (is_waiting w k) was

    pub woken-settling : IsSettling p f c touches r (all_lines e) (this_piece e) w → IsSettling p f c touches r no_line (this_piece e) (woken w pending waits)
    woken-settling s = record {
      sized = record { lines_are = s.sized.lines_are; edges_are = s.sized.edges_are; decisions = s.sized.decisions; pending = size ∙ s.sized.pending; waits = (let most = s.sized.waits in omega (arith, most, room)) };
      found = s.found;
      opened = record { initial = s.opened.initial; others = s.opened.others };
      lines = λ l k in_l in_k t. inr (⊎_elim
          (λ (is : k ≡ e). ⊎_elim
          (λ (on : holds standing l ≡ true).
          let here : (k == e) ≡ true = eq-eqb k e is in
          inl (more k l ∙ or_left ((k == e) && holds standing l) (is_pending w l k) (rw (here, on) refl)))
          (λ (off : holds standing l ≡ false). inr (λ i way kind wire.
          let clash : true ≡ false = sym (ap (wire_at r l) (sym is) ∙ wire) ∙ sym (stand l in_l) ∙ off in absurd cc))
          (cases_Bool (holds standing l)))
          (λ h. ⊎_elim
          (λ (was : is_pending w l k ≡ true). inl (more k l ∙ or_right ((k == e) && holds standing l) (is_pending w l k) was))
          (λ (passed : IsPassedOn p f c touches r (at w) l k). inr passed)
          h)
          (s.lines l k in_l in_k t));
      pieces = λ k in_k. ⊎_elim
          (λ (open' : k ≡ e). inl open')
          (λ h. inr (⊎_elim (λ (waits : is_waiting w k ≡ true). inl (woken-on k waits)) (λ (seen : IsSeen p f c touches r (at w) k). inr seen) h))
          (s.pieces k in_k);
      waits = λ l k h. ⊎_elim
          (λ (here : ((k == e) && holds standing l) ≡ true). woken-here k (eqb-true k e (and_parts (k == e) (holds standing l) here).0))
          (λ (was : is_pending w l k ≡ true). woken-on k (s.waits l k was))
          (or_cases ((k == e) && holds standing l) (is_pending w l k) (sym (more k l) ∙ h));
    }

    pub woken-left : work_left f r.lines (woken w pending waits) ≤ work_left f r.lines w + 1
    woken-left = let most = waits-more (is_waiting w) (is_waiting (woken w pending waits)) (edge_count f.graph) e waited in omega (arith, most)
