-- Rules hold on as more is known, but for what waits.
use Rattle.std.proofs.Common.{◌≡◌, ◌⊎◌, ◌<◌, ◌||◌, ℕ, Bool, true, false, List, get_or, sym, subst, ◌∙◌, inl, inr, ⊎_elim}
use Rattle.std.proofs.lemmas.Bool.{cases_Bool, or_cases}
use Rattle.closed_walks.specs.Graph.{edge_count, to}
use Rattle.class_set.specs.ClassSet.{holds}
use Rattle.class_set.specs.declared.ClassSet.{ClassSet}
use Rattle.f77_tree.specs.declared.programs.Program.{Program}
use Rattle.f77_tree.specs.Value.{word_at}
use Rattle.alias_classes.specs.Classes.{ClassTable, class_of_word}
use Rattle.cfg_build.specs.Joined.{FlowGraph}
use Rattle.cfg_build.specs.Passes.{outs}
use Rattle.dep_routing.specs.Routing.{Routing, next_at, wire_at}
use Rattle.const_prop.specs.declared.known.Known.{Known}
use Rattle.const_prop.specs.declared.known.Known.TheVariants.{Nothing, One, Any}
use Rattle.const_prop.specs.declared.work.Work.{Work}
use Rattle.const_prop.specs.Closed.{IsClosed, IsReady, IsWay, KindAllows, is_switch, is_merge, kind_after, led_to, written_after, decided_after}
use Rattle.const_prop.specs.Known.{AtMost, IsSomething}
use Rattle.const_prop.specs.Table.{Knowns}
use Rattle.const_prop.specs.Work.{so_far, is_pending, is_waiting, Rises, IsFound, IsOpenedFor, IsPassedOn, IsSeenFor, IsSeen, IsSettlingFrom, IsSettling, no_line, no_piece, these_lines, this_piece}
use Rattle.const_prop.proofs.Order.{at_most-is, at_most-trans, kind_allows-more}
use Rattle.const_prop.proofs.Rows.{outs-edge}
use Rattle.const_prop.proofs.Under.{IsUnder, AreCovered, class_below, decided-less, written-less}

module _ (f : FlowGraph) (r : Routing) (next : (line e : ℕ) → line < r.lines → e < edge_count f.graph → next_at r line e < edge_count f.graph) where
  pub led_inside : (t : Knowns) (e line i : ℕ) → IsWay f t e i → line < r.lines → led_to f r e line i < edge_count f.graph
  led_inside t e line i way l = next line (get_or (outs f.graph (to f.graph e)) i 0) l (outs-edge f.graph (to f.graph e) i way.exists).0

module _ {W : ℕ} (p : Program) (f : FlowGraph) (c : ClassTable) (touches : ℕ → ℕ → Bool) (r : Routing) (a : AreCovered p f c touches r.lines) (two : 1 < edge_count f.graph) (next : (line e : ℕ) → line < r.lines → e < edge_count f.graph → next_at r line e < edge_count f.graph) where
  abbrev at : Work W → Knowns
  at w = so_far w

  module _ (old new : Work W) (rises : Rises f r.lines old new) (found : IsFound p f c touches r (at new)) where
    grows : (line e : ℕ) → line < r.lines → e < edge_count f.graph → AtMost ((at old).value line e) ((at new).value line e)
    grows = rises.grows

    pub same_way : (e i : ℕ) → IsWay f (at new) e i → IsWay f (at old) e i
    same_way e i way = record { edge = way.edge; exists = way.exists; allowed = subst (λ (ds : List Known). KindAllows (kind_after f e) (get_or ds (to f.graph e) Nothing) i) rises.decisions way.allowed }

    opened-on : (words lines : ℕ) → IsOpenedFor p f c touches r words lines (at old) → IsOpenedFor p f c touches r words lines (at new)
    opened-on words lines o = record {
      initial = λ word l m one.
          let line = class_of_word c word in
          let in_l : line < r.lines = class_below p f c touches r.lines a word in
          at_most-trans (One (word_at p.initial word)) ((at old).value line (next_at r line 1)) ((at new).value line (next_at r line 1)) (o.initial word l m one) (grows line (next_at r line 1) in_l (next line 1 in_l two));
      others = λ line l m one. at_most-trans Any ((at old).value line (next_at r line 1)) ((at new).value line (next_at r line 1)) (o.others line l m one) (grows line (next_at r line 1) l (next line 1 l two));
    }

    passed-on : (line e : ℕ) → line < r.lines → e < edge_count f.graph → (at new).value line e ≡ (at old).value line e → IsPassedOn p f c touches r (at old) line e → IsPassedOn p f c touches r (at new) line e
    passed-on line e l k same passed i way kind wire =
        subst (λ (x : Known). AtMost x ((at new).value line (led_to f r e line i))) (sym same)
        (at_most-trans ((at old).value line e) ((at old).value line (led_to f r e line i)) ((at new).value line (led_to f r e line i)) (passed i (same_way e i way) kind wire) (grows line (led_to f r e line i) l (led_inside f r next (at new) e line i way l)))

    module _ (e : ℕ) (k : e < edge_count f.graph) (same : (line : ℕ) → line < r.lines → touches (to f.graph e) line ≡ true → (at new).value line e ≡ (at old).value line e) (old_found : IsFound p f c touches r (at old)) where
      pub ready-back : IsReady f touches r.lines (at new) e → IsReady f touches r.lines (at old) e
      ready-back ready = record { edge = ready.edge; action = ready.action; each = λ line l t. subst IsSomething (same line l t) (ready.each line l t) }

      under : IsReady f touches r.lines (at new) e → IsUnder c f touches r.lines (at new) (at old) e
      under ready = record {
        under = λ line l t. at_most-is ((at new).value line e) ((at old).value line e) (same line l t);
        some = ready.each;
        one = λ line l several. old_found.words line e l k several;
      }

      pub seen-on : (among : ℕ → Type 0) → IsSeenFor p f c touches r among (at old) e → IsSeenFor p f c touches r among (at new) e
      seen-on among seen = record {
        decision = λ ready s.
            at_most-trans (decided_after p f c (at new) e) (decided_after p f c (at old) e) ((at new).decision (to f.graph e)) (decided-less p f c touches r.lines a (at new) (at old) e k (under ready) s)
            (subst (λ (ds : List Known). AtMost (decided_after p f c (at old) e) (get_or ds (to f.graph e) Nothing)) (sym rises.decisions) (seen.decision (ready-back ready) s));
        left = λ line i ready way l t m.
            let was = seen.left line i (ready-back ready) (same_way e i way) l t m in
            let led = led_to f r e line i in
            let inside = led_inside f r next (at new) e line i way l in
            record {
              writes = λ is. at_most-trans (written_after p f c (at new) e line) (written_after p f c (at old) e line) ((at new).value line led) (written-less p f c touches r.lines a (at new) (at old) e k (under ready) line is)
                  (at_most-trans (written_after p f c (at old) e line) ((at old).value line led) ((at new).value line led) (was.writes is) (grows line led l inside));
              reads = λ is_not. subst (λ (x : Known). AtMost x ((at new).value line led)) (sym (same line l t)) (at_most-trans ((at old).value line e) ((at old).value line led) ((at new).value line led) (was.reads is_not) (grows line led l inside));
            };
      }

    -- edges with pending lines wait on
    waits-on : ((line e : ℕ) → is_pending old line e ≡ true → is_waiting old e ≡ true) → (line e : ℕ) → is_pending new line e ≡ true → is_waiting new e ≡ true
    waits-on waited line e pending = ⊎_elim
        (λ (was : is_pending old line e ≡ true). rises.waiting e (waited line e was))
        (λ (waits : is_waiting new e ≡ true). waits)
        (rises.woken line e pending)

    -- the touched lines on an edge stay, or it waits
    pub stays_or_waits : ((line e : ℕ) → is_pending old line e ≡ true → is_waiting old e ≡ true) → (e : ℕ) → e < edge_count f.graph → (is_waiting new e ≡ true) ⊎ ((line : ℕ) → line < r.lines → touches (to f.graph e) line ≡ true → (at new).value line e ≡ (at old).value line e)
    stays_or_waits waited e k = ⊎_elim
        (λ (waits : is_waiting new e ≡ true). inl waits)
        (λ (free : is_waiting new e ≡ false). inr (λ line l t. ⊎_elim
        (λ (pending : is_pending new line e ≡ true). let clash : true ≡ false = sym (waits-on waited line e pending) ∙ free in absurd cc)
        (λ (same : (at new).value line e ≡ (at old).value line e). same)
        (rises.moved line e l k)))
        (cases_Bool (is_waiting new e))

    pub settling-rises-from : (words lines : ℕ) (open_lines : ℕ → ℕ → Type 0) (open_edges : ℕ → Type 0) → IsSettlingFrom p f c touches r words lines open_lines open_edges old → IsSettlingFrom p f c touches r words lines open_lines open_edges new
    settling-rises-from words lines open_lines open_edges s = record {
      sized = rises.sized;
      found = found;
      opened = opened-on words lines s.opened;
      lines = λ line e l k t. ⊎_elim
          (λ open'. inl open')
          (λ h. ⊎_elim
          (λ (pending : is_pending old line e ≡ true). inr (inl (rises.kept line e pending)))
          (λ (passed : IsPassedOn p f c touches r (at old) line e). inr (⊎_elim (λ (pending : is_pending new line e ≡ true). inl pending) (λ (same : (at new).value line e ≡ (at old).value line e). inr (passed-on line e l k same passed)) (rises.moved line e l k)))
          h)
          (s.lines line e l k t);
      pieces = λ e k. ⊎_elim
          (λ open'. inl open')
          (λ h. ⊎_elim
          (λ (waits : is_waiting old e ≡ true). inr (inl (rises.waiting e waits)))
          (λ (seen : IsSeen p f c touches r (at old) e). inr (⊎_elim (λ (waits : is_waiting new e ≡ true). inl waits) (λ (same : (line : ℕ) → line < r.lines → touches (to f.graph e) line ≡ true → (at new).value line e ≡ (at old).value line e). inr (seen-on e k same s.found (λ line. Unit {0}) seen)) (stays_or_waits s.waits e k)))
          h)
          (s.pieces e k);
      waits = waits-on s.waits;
    }

    pub settling-rises : (open_lines : ℕ → ℕ → Type 0) (open_edges : ℕ → Type 0) → IsSettling p f c touches r open_lines open_edges old → IsSettling p f c touches r open_lines open_edges new
    settling-rises open_lines open_edges s = settling-rises-from p.words r.lines open_lines open_edges s

  -- the open lines are passed on
  pub lines-closed : (w : Work W) (set : ClassSet W) (e : ℕ) (open_edges : ℕ → Type 0) → IsSettling p f c touches r (these_lines set e) open_edges w → ((line : ℕ) → line < r.lines → e < edge_count f.graph → touches (to f.graph e) line ≡ false → holds set line ≡ true → (is_pending w line e ≡ true) ⊎ IsPassedOn p f c touches r (at w) line e) → IsSettling p f c touches r no_line open_edges w
  lines-closed w set e open_edges s done = record {
    sized = s.sized;
    found = s.found;
    opened = s.opened;
    lines = λ l k in_l in_k t. ⊎_elim
        (λ (is : (k ≡ e) × (holds set l ≡ true)). inr (subst (λ (n : ℕ). (is_pending w l n ≡ true) ⊎ IsPassedOn p f c touches r (at w) l n) (sym is.0) (done l in_l (subst (λ (n : ℕ). n < edge_count f.graph) is.0 in_k) (subst (λ (n : ℕ). touches (to f.graph n) l ≡ false) is.0 t) is.1)))
        (λ h. inr h)
        (s.lines l k in_l in_k t);
    pieces = s.pieces;
    waits = s.waits;
  }

  -- the open piece has seen its lines, or waits again
  pub piece-closed : (w : Work W) (e : ℕ) (open_lines : ℕ → ℕ → Type 0) → IsSettling p f c touches r open_lines (this_piece e) w → (is_waiting w e ≡ true) ⊎ IsSeen p f c touches r (at w) e → IsSettling p f c touches r open_lines no_piece w
  piece-closed w e open_lines s done = record {
    sized = s.sized;
    found = s.found;
    opened = s.opened;
    lines = s.lines;
    pieces = λ k in_k. ⊎_elim
        (λ (is : k ≡ e). inr (subst (λ (n : ℕ). (is_waiting w n ≡ true) ⊎ IsSeen p f c touches r (at w) n) (sym is) done))
        (λ h. inr h)
        (s.pieces k in_k);
    waits = s.waits;
  }

  -- a line that was sent on is passed on, or waits again
  pub sent-past : (old new : Work W) (line e : ℕ) → Rises f r.lines old new → line < r.lines → e < edge_count f.graph
      → ((i : ℕ) → IsWay f (at old) e i → (is_switch (kind_after f e) || is_merge (kind_after f e)) ≡ true → wire_at r line e ≡ true → AtMost ((at old).value line e) ((at new).value line (led_to f r e line i)))
      → (is_pending new line e ≡ true) ⊎ IsPassedOn p f c touches r (at new) line e
  sent-past old new line e rises l k sent = ⊎_elim
      (λ (pending : is_pending new line e ≡ true). inl pending)
      (λ (same : (at new).value line e ≡ (at old).value line e). inr (λ i way kind wire.
      let before : IsWay f (at old) e i = record { edge = way.edge; exists = way.exists; allowed = subst (λ (ds : List Known). KindAllows (kind_after f e) (get_or ds (to f.graph e) Nothing) i) rises.decisions way.allowed } in
      subst (λ (x : Known). AtMost x ((at new).value line (led_to f r e line i))) (sym same) (sent i before kind wire)))
      (rises.moved line e l k)

-- what is due to a line that goes past a piece, in each closed table
module _ (p : Program) (f : FlowGraph) (c : ClassTable) (touches : ℕ → ℕ → Bool) (r : Routing) where
  way-more : (t b : Knowns) (e i : ℕ) → AtMost (t.decision (to f.graph e)) (b.decision (to f.graph e)) → IsWay f t e i → IsWay f b e i
  way-more t b e i more way = record { edge = way.edge; exists = way.exists; allowed = kind_allows-more (kind_after f e) (t.decision (to f.graph e)) (b.decision (to f.graph e)) i more way.allowed }

  pub due-past : (t b : Knowns) (line e i : ℕ) → to f.graph e < f.graph.nodes → IsFound p f c touches r t → IsClosed p f c touches r b → line < r.lines → touches (to f.graph e) line ≡ false → (is_switch (kind_after f e) || is_merge (kind_after f e)) ≡ true → wire_at r line e ≡ true → IsWay f t e i → AtMost (b.value line e) (b.value line (led_to f r e line i))
  due-past t b line e i node found closed l untouched kind wire way =
      let below = found.below b closed in
      let there = way-more t b e i (below.decision (to f.graph e) node) way in
      ⊎_elim
      (λ (s : is_switch (kind_after f e) ≡ true). closed.switches e line i there s l untouched wire)
      (λ (m : is_merge (kind_after f e) ≡ true). closed.merges e line i there m l wire)
      (or_cases (is_switch (kind_after f e)) (is_merge (kind_after f e)) kind)
