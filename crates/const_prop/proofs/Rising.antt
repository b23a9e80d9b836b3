-- How a table in the making rises.
use Rattle.std.proofs.Common.{◌≡◌, ◌≢◌, ◌⊎◌, ◌<◌, ◌≤◌, ◌+◌, ℕ, Bool, true, false, ◌==◌, ◌&&◌, ◌||◌, not, List, length, get_or, sum_by, refl, sym, ap, subst, ◌∙◌, inl, inr, ⊎_elim, arith}
use Rattle.std.proofs.lemmas.Bool.{cases_eq, cases_Bool, and_parts, eqb-true, eq-eqb, false_from_ne_true, or_cases, or_left, or_right}
use Rattle.closed_walks.specs.Graph.{edge_count}
use Rattle.f77_tree.specs.declared.programs.Program.{Program}
use Rattle.alias_classes.specs.Classes.{ClassTable}
use Rattle.cfg_build.specs.Joined.{FlowGraph}
use Rattle.dep_routing.specs.Routing.{Routing}
use Rattle.const_prop.specs.declared.known.Known.{Known}
use Rattle.const_prop.specs.declared.known.Known.TheVariants.{Nothing}
use Rattle.const_prop.specs.declared.work.Work.{Work}
use Rattle.const_prop.specs.Closed.{IsClosed, is_one_word}
use Rattle.const_prop.specs.Known.{AtMost, IsNotOne}
use Rattle.const_prop.specs.KnownRows.{edges_of}
use Rattle.const_prop.specs.Rise.{room}
use Rattle.const_prop.specs.SparseSets.{keys_of}
use Rattle.const_prop.specs.Table.{Knowns}
use Rattle.const_prop.specs.Work.{sum_below, so_far, is_pending, is_waiting, one_if, IsSized, Rises, IsFound}
use Rattle.const_prop.proofs.Order.{at_most-is, at_most-trans}
use Rattle.const_prop.proofs.Rooms.{rooms-less, sum-less, sum-one_more}
use Rattle.std.proofs.lemmas.Bool.{and_from}

or_other : (a b : Bool) → a ≡ false → (a || b) ≡ b
or_other a b is = rw is refl

and_other : (a b : Bool) → a ≡ false → (not a && b) ≡ b
and_other a b is = rw is refl

and_off : (a b : Bool) → a ≡ true → (not a && b) ≡ false
and_off a b is = rw is refl

differs : (e edge : ℕ) → e ≢ edge → (e == edge) ≡ false
differs e edge differ = false_from_ne_true (e == edge) (λ same. differ (eqb-true e edge same))

one_if-most : (b : Bool) → one_if b ≤ 1
one_if-most true = omega arith
one_if-most false = omega arith

one_if-same : (b d : Bool) → b ≡ d → one_if b ≤ one_if d
one_if-same b d same = let e = ap one_if same in omega (arith, e)

-- one edge more may wait
pub waits-more : (old new : ℕ → Bool) (edges edge : ℕ) → ((e : ℕ) → new e ≡ ((e == edge) || old e)) → sum_below (λ e. one_if (new e)) edges ≤ sum_below (λ e. one_if (old e)) edges + 1
waits-more old new edges edge is =
    let most = one_if-most (new edge) in
    sum-one_more (λ e. one_if (new e)) (λ e. one_if (old e)) edges edge
    (λ e l differ. one_if-same (new e) (old e) (is e ∙ or_other (e == edge) (old e) (differs e edge differ)))
    (omega (arith, most))

-- one edge that waited waits no more
pub waits-less : (old new : ℕ → Bool) (edges edge : ℕ) → ((e : ℕ) → new e ≡ (not (e == edge) && old e)) → edge < edges → old edge ≡ true → sum_below (λ e. one_if (new e)) edges + 1 ≤ sum_below (λ e. one_if (old e)) edges
waits-less old new edges edge is inside waits =
    let off : new edge ≡ false = is edge ∙ and_off (edge == edge) (old edge) (eq-eqb edge edge refl) in
    let none : one_if (new edge) ≡ 0 = ap one_if off in
    let one : one_if (old edge) ≡ 1 = ap one_if waits in
    sum-less (λ e. one_if (new e)) (λ e. one_if (old e)) edges edge
    (λ e l. ⊎_elim
    (λ (same : e ≡ edge). let e' : one_if (new e) ≡ 0 = ap (λ n. one_if (new n)) same ∙ none in omega (arith, e'))
    (λ (differ : e ≢ edge). one_if-same (new e) (old e) (is e ∙ and_other (e == edge) (old e) (differs e edge differ)))
    (cases_eq e edge))
    inside (omega (arith, none, one))

module _ {W : ℕ} (f : FlowGraph) (lines : ℕ) where
  abbrev pub at : Work W → ℕ → ℕ → Known
  at w line e = (so_far w).value line e

  pub rises-trans : (u v w : Work W) → Rises f lines u v → Rises f lines v w → Rises f lines u w
  rises-trans u v w a b = record {
    sized = b.sized;
    decisions = b.decisions ∙ a.decisions;
    grows = λ line e l k. at_most-trans (at u line e) (at v line e) (at w line e) (a.grows line e l k) (b.grows line e l k);
    moved = λ line e l k. ⊎_elim (λ h. inl h) (λ (same : at w line e ≡ at v line e). ⊎_elim (λ h. inl (b.kept line e h)) (λ (was : at v line e ≡ at u line e). inr (same ∙ was)) (a.moved line e l k)) (b.moved line e l k);
    kept = λ line e h. b.kept line e (a.kept line e h);
    waiting = λ e h. b.waiting e (a.waiting e h);
    woken = λ line e h. ⊎_elim (λ (h : is_pending v line e ≡ true). ⊎_elim (λ h. inl h) (λ h. inr (b.waiting e h)) (a.woken line e h)) (λ h. inr h) (b.woken line e h);
    bounded = omega (arith, a.bounded, b.bounded);
  }

  -- On one edge the lines of a set rise, of which there is one.
  pub record IsRaised (old new : Work W) (edge : ℕ) (rose : ℕ → Bool) : Type 0 where
    pub edge_in : edge < edge_count f.graph
    pub sized : IsSized f lines old
    pub lines_are : new.known.lines ≡ old.known.lines
    pub edges_are : edges_of new.known ≡ edges_of old.known
    pub grows : (line : ℕ) → line < lines → rose line ≡ true → AtMost (at old line edge) (at new line edge)
    pub others : (line e : ℕ) → line < lines → e < edge_count f.graph → ((e ≡ edge) × (rose line ≡ true) → ⊥) → at new line e ≡ at old line e
    pub first : ℕ
    pub first_in : first < lines
    pub first_rises : room (at new first edge) < room (at old first edge)
    pub decisions : new.decisions.items ≡ old.decisions.items
    pub pending_size : keys_of new.pending ≡ keys_of old.pending
    pub pending : (line e : ℕ) → is_pending new line e ≡ (((e == edge) && rose line) || is_pending old line e)
    pub waits_size : length new.waits ≡ length old.waits
    pub waits : (e : ℕ) → is_waiting new e ≡ ((e == edge) || is_waiting old e)

  module _ (old new : Work W) (edge : ℕ) (rose : ℕ → Bool) (r : IsRaised old new edge rose) where
    -- the line rose on this edge, or it or the edge is another
    pub here_or_not : (line e : ℕ) → ((e ≡ edge) × (rose line ≡ true)) ⊎ ((e ≡ edge) × (rose line ≡ true) → ⊥)
    here_or_not line e = ⊎_elim
        (λ (is : e ≡ edge). ⊎_elim
        (λ (yes' : rose line ≡ true). inl (is, yes'))
        (λ (no' : rose line ≡ false). inr (λ both. let clash : true ≡ false = sym both.1 ∙ no' in absurd cc))
        (cases_Bool (rose line)))
        (λ (differ : e ≢ edge). inr (λ both. differ both.0))
        (cases_eq e edge)

    pub raised-grows : (line e : ℕ) → line < lines → e < edge_count f.graph → AtMost (at old line e) (at new line e)
    raised-grows line e in_l in_e = ⊎_elim
        (λ (here : (e ≡ edge) × (rose line ≡ true)). subst (λ (n : ℕ). AtMost (at old line n) (at new line n)) (sym here.0) (r.grows line in_l here.1))
        (λ (other : (e ≡ edge) × (rose line ≡ true) → ⊥). at_most-is (at old line e) (at new line e) (sym (r.others line e in_l in_e other)))
        (here_or_not line e)

    waits_at : (e : ℕ) → e ≡ edge → is_waiting new e ≡ true
    waits_at e is = r.waits e ∙ or_left (e == edge) (is_waiting old e) (eq-eqb e edge is)

    pub raised-rises : Rises f lines old new
    raised-rises = record {
      sized = record {
        lines_are = r.lines_are ∙ r.sized.lines_are;
        edges_are = r.edges_are ∙ r.sized.edges_are;
        decisions = ap length r.decisions ∙ r.sized.decisions;
        pending = r.pending_size ∙ r.sized.pending;
        waits = (let size = r.sized.waits in let same = r.waits_size in omega (arith, size, same));
      };
      decisions = r.decisions;
      grows = raised-grows;
      moved = λ line e in_l in_e. ⊎_elim
          (λ (here : (e ≡ edge) × (rose line ≡ true)). inl (r.pending line e ∙ or_left ((e == edge) && rose line) (is_pending old line e) (and_from (e == edge) (rose line) (eq-eqb e edge here.0) here.1)))
          (λ (other : (e ≡ edge) × (rose line ≡ true) → ⊥). inr (r.others line e in_l in_e other))
          (here_or_not line e);
      kept = λ line e h. r.pending line e ∙ or_right ((e == edge) && rose line) (is_pending old line e) h;
      waiting = λ e h. r.waits e ∙ or_right (e == edge) (is_waiting old e) h;
      woken = λ line e h. ⊎_elim
          (λ (here : ((e == edge) && rose line) ≡ true). inr (waits_at e (eqb-true e edge (and_parts (e == edge) (rose line) here).0)))
          (λ (was : is_pending old line e ≡ true). inl was)
          (or_cases ((e == edge) && rose line) (is_pending old line e) (sym (r.pending line e) ∙ h));
      bounded =
          let room' = rooms-less (at old) (at new) lines (edge_count f.graph) r.first edge raised-grows r.first_in r.edge_in r.first_rises in
          let d = ap (sum_by room) r.decisions in
          let more = waits-more (is_waiting old) (is_waiting new) (edge_count f.graph) edge r.waits in
          omega (arith, room', d, more);
    }

module _ {W : ℕ} (p : Program) (f : FlowGraph) (c : ClassTable) (touches : ℕ → ℕ → Bool) (r : Routing) where
  -- what has risen is due, and no more than is known of lines of several words
  pub found-raised : (old new : Work W) (edge : ℕ) (rose : ℕ → Bool) → IsRaised f r.lines old new edge rose → IsFound p f c touches r (so_far old)
      → ((b : Knowns) (line : ℕ) → IsClosed p f c touches r b → line < r.lines → rose line ≡ true → AtMost (at f r.lines new line edge) (b.value line edge))
      → ((line : ℕ) → line < r.lines → rose line ≡ true → is_one_word c line ≡ false → IsNotOne (at f r.lines new line edge))
      → IsFound p f c touches r (so_far new)
  found-raised old new edge rose raised found due one = record {
    words = λ l e in_l in_e several. ⊎_elim
        (λ (here : (e ≡ edge) × (rose l ≡ true)). subst (λ (n : ℕ). IsNotOne (at f r.lines new l n)) (sym here.0) (one l in_l here.1 several))
        (λ (other : (e ≡ edge) × (rose l ≡ true) → ⊥). subst IsNotOne (sym (raised.others l e in_l in_e other)) (found.words l e in_l in_e several))
        (here_or_not f r.lines old new edge rose raised l e);
    below = λ b closed. let was = found.below b closed in record {
      value = λ l e in_l in_e. ⊎_elim
          (λ (here : (e ≡ edge) × (rose l ≡ true)). subst (λ (n : ℕ). AtMost (at f r.lines new l n) (b.value l n)) (sym here.0) (due b l closed in_l here.1))
          (λ (other : (e ≡ edge) × (rose l ≡ true) → ⊥). subst (λ (k : Known). AtMost k (b.value l e)) (sym (raised.others l e in_l in_e other)) (was.value l e in_l in_e))
          (here_or_not f r.lines old new edge rose raised l e);
      decision = λ piece inside. subst (λ (xs : List Known). AtMost (get_or xs piece Nothing) (b.decision piece)) (sym raised.decisions) (was.decision piece inside);
    };
  }
