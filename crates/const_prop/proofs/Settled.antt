-- An edge is visited, and where no edge waits the table is closed.
use Rattle.std.proofs.Common.{◌≡◌, ◌≢◌, ◌<◌, ◌+◌, ◌≤◌, ℕ, Bool, true, false, ◌==◌, ◌&&◌, not, List, length, refl, sym, ap, ◌∙◌, inl, inr, ⊎_elim, arith}
use Rattle.std.proofs.lemmas.Bool.{cases_eq, or_left, or_right, and_parts, eq-eqb, eqb-true, false_from_ne_true}
use Rattle.class_set.specs.ClassSet.{holds}
use Rattle.class_set.specs.declared.ClassSet.{ClassSet}
use Rattle.closed_walks.specs.Graph.{edge_count, to}
use Rattle.f77_tree.specs.declared.programs.Program.{Program}
use Rattle.alias_classes.specs.Classes.{ClassTable}
use Rattle.cfg_build.specs.Joined.{FlowGraph}
use Rattle.dep_routing.specs.Routing.{Routing}
use Rattle.const_prop.specs.declared.work.Work.{Work}
use Rattle.const_prop.specs.Closed.{IsConstants, is_switch, is_merge, kind_after}
use Rattle.const_prop.specs.EdgeSet.{edge_holds}
use Rattle.const_prop.specs.SparseSets.{Sets, keys_of, set_holds}
use Rattle.const_prop.specs.Table.{Knowns}
use Rattle.const_prop.specs.Work.{so_far, is_pending, is_waiting, work_left, IsPassedOn, IsSeen, IsSettling, no_line, no_piece, these_lines, this_piece}
use Rattle.const_prop.proofs.Rising.{waits-less}

module _ {W : ℕ} (p : Program) (f : FlowGraph) (c : ClassTable) (touches : ℕ → ℕ → Bool) (r : Routing) where
  abbrev at : Work W → Knowns
  at w = so_far w

  -- the lines that were pending on the edge are taken, and it waits no more
  abbrev pub visited : Work W → (pending : Sets W) → (waits : List (ClassSet 1)) → Work W
  visited w pending waits = record { known = w.known; decisions = w.decisions; pending = pending; waits = waits }

  module _ (w : Work W) (e : ℕ) (pending : Sets W) (waits : List (ClassSet 1)) (fresh : ClassSet W) (edge : e < edge_count f.graph) (size : keys_of pending ≡ keys_of w.pending) (room : length waits ≡ length w.waits) (waited : (k : ℕ) → edge_holds waits k ≡ (not (k == e) && is_waiting w k)) (taken : (k : ℕ) → holds fresh k ≡ is_pending w k e) (rest : (d k : ℕ) → set_holds pending d k ≡ (not (d == e) && is_pending w k d)) where
    differs : (k : ℕ) → k ≢ e → (k == e) ≡ false
    differs k differ = false_from_ne_true (k == e) (λ same. differ (eqb-true k e same))

    other : (k : ℕ) → k ≢ e → is_waiting (visited w pending waits) k ≡ is_waiting w k
    other k differ = waited k ∙ kept (k == e) (is_waiting w k) (differs k differ)
      where
        kept : (a b : Bool) → a ≡ false → (not a && b) ≡ b
        kept a b is = rw is refl

    pub visited-settling : IsSettling p f c touches r no_line no_piece w → IsSettling p f c touches r (these_lines fresh e) (this_piece e) (visited w pending waits)
    visited-settling s = record {
      sized = record { lines_are = s.sized.lines_are; edges_are = s.sized.edges_are; decisions = s.sized.decisions; pending = size ∙ s.sized.pending; waits = (let most = s.sized.waits in omega (arith, most, room)) };
      found = s.found;
      opened = record { initial = s.opened.initial; others = s.opened.others };
      lines = λ l k in_l in_k t. ⊎_elim
          (λ (no' : ⊥). absurd no')
          (λ h. ⊎_elim
          (λ (was : is_pending w l k ≡ true). ⊎_elim
          (λ (is : k ≡ e). inl (is, taken l ∙ ap (is_pending w l) (sym is) ∙ was))
          (λ (differ : k ≢ e).
          let apart : (k == e) ≡ false = differs k differ in
          inr (inl (rest k l ∙ rw (apart, was) refl)))
          (cases_eq k e))
          (λ (passed : IsPassedOn p f c touches r (at w) l k). inr (inr passed))
          h)
          (s.lines l k in_l in_k t);
      pieces = λ k in_k. ⊎_elim
          (λ (is : k ≡ e). inl is)
          (λ (differ : k ≢ e). ⊎_elim
          (λ (no' : ⊥). absurd no')
          (λ h. inr (⊎_elim (λ (waits : is_waiting w k ≡ true). inl (other k differ ∙ waits)) (λ (seen : IsSeen p f c touches r (at w) k). inr seen) h))
          (s.pieces k in_k))
          (cases_eq k e);
      waits = λ l k h.
          let both = and_parts (not (k == e)) (is_pending w l k) (sym (rest k l) ∙ h) in
          ⊎_elim
          (λ (is : k ≡ e). let same : (k == e) ≡ true = eq-eqb k e is in let clash : false ≡ true = sym (ap not same) ∙ both.0 in absurd cc)
          (λ (differ : k ≢ e). other k differ ∙ s.waits l k both.1)
          (cases_eq k e);
    }

    pub visited-less : is_waiting w e ≡ true → work_left f r.lines (visited w pending waits) + 1 ≤ work_left f r.lines w
    visited-less is = let less = waits-less (is_waiting w) (is_waiting (visited w pending waits)) (edge_count f.graph) e waited edge is in omega (arith, less)

  -- where no edge waits the table is closed
  pub settled-constants : (w : Work W) → ((e line : ℕ) → e < edge_count f.graph → is_merge (kind_after f e) ≡ true → touches (to f.graph e) line ≡ false) → IsSettling p f c touches r no_line no_piece w → ((e : ℕ) → e < edge_count f.graph → is_waiting w e ≡ false) → IsConstants p f c touches r (at w)
  settled-constants w merges s rests =
      let none : (e : ℕ) → e < edge_count f.graph → is_waiting w e ≡ true → ⊥ = λ e k waits. let clash : true ≡ false = sym waits ∙ rests e k in absurd cc in
      let seen : (e : ℕ) → e < edge_count f.graph → IsSeen p f c touches r (at w) e = λ e k. ⊎_elim
      (λ (no' : ⊥). absurd no')
      (λ h. ⊎_elim (λ (waits : is_waiting w e ≡ true). absurd (none e k waits)) (λ (seen : IsSeen p f c touches r (at w) e). seen) h)
      (s.pieces e k) in
      let passed : (line e : ℕ) → line < r.lines → e < edge_count f.graph → touches (to f.graph e) line ≡ false → IsPassedOn p f c touches r (at w) line e = λ line e l k t. ⊎_elim
      (λ (no' : ⊥). absurd no')
      (λ h. ⊎_elim (λ (pending : is_pending w line e ≡ true). absurd (none e k (s.waits line e pending))) (λ (passed : IsPassedOn p f c touches r (at w) line e). passed) h)
      (s.lines line e l k t) in
      record {
        closed = record {
          words = s.found.words;
          initial = λ word l one. s.opened.initial word l l one;
          others = λ line l one. s.opened.others line l l one;
          decisions = λ e ready x. (seen e ready.edge).decision ready x;
          writes = λ e line i ready way l t is. ((seen e ready.edge).left line i ready way l t tt).writes is;
          reads = λ e line i ready way l t is_not. ((seen e ready.edge).left line i ready way l t tt).reads is_not;
          switches = λ e line i way x l t wire. passed line e l way.edge t i way (or_left (is_switch (kind_after f e)) (is_merge (kind_after f e)) x) wire;
          merges = λ e line i way x l wire. passed line e l way.edge (merges e line way.edge x) i way (or_right (is_switch (kind_after f e)) (is_merge (kind_after f e)) x) wire;
        };
        least = s.found.below;
      }
