-- One line rises on an edge, or many lines to any value.
use Rattle.std.proofs.Common.{◌≡◌, ◌<◌, ℕ, Bool, true, false, ◌==◌, ◌&&◌, ◌||◌, not, if◌then◌else◌, length, refl, sym, subst, ◌∙◌, arith}
use Rattle.std.proofs.lemmas.Bool.{and_parts, eqb-true, eq-eqb, false_from_ne_true}
use Rattle.closed_walks.specs.Graph.{edge_count}
use Rattle.f77_tree.specs.declared.programs.Program.{Program}
use Rattle.alias_classes.specs.Classes.{ClassTable}
use Rattle.cfg_build.specs.Joined.{FlowGraph}
use Rattle.dep_routing.specs.Routing.{Routing}
use Rattle.const_prop.specs.declared.known.Known.{Known}
use Rattle.const_prop.specs.declared.known.Known.TheVariants.{Nothing, One, Any}
use Rattle.const_prop.specs.declared.work.Work.{Work}
use Rattle.const_prop.specs.Closed.{IsClosed, is_one_word}
use Rattle.const_prop.specs.Known.{AtMost, IsNotOne}
use Rattle.const_prop.specs.KnownRows.{edges_of, is_any}
use Rattle.const_prop.specs.SparseSets.{keys_of, set_holds}
use Rattle.const_prop.specs.Rise.{room, IsRise}
use Rattle.const_prop.specs.Table.{Knowns}
use Rattle.const_prop.specs.Work.{so_far, is_waiting, IsSized, IsFound}
use Rattle.const_prop.proofs.Order.{at_most-any}
use Rattle.const_prop.proofs.Rising.{at, IsRaised, found-raised}
use Rattle.std.proofs.lemmas.Bool.{and_from}

any-room : (k : Known) → is_any k ≡ false → room Any < room k
any-room Nothing is = omega arith
any-room (One v) is = omega arith
any-room Any is = let clash : true ≡ false = is in absurd cc

if_true : (b : Bool) (x y : Known) → b ≡ true → (if b then x else y) ≡ x
if_true b x y is = rw is refl

if_false : (b : Bool) (x y : Known) → b ≡ false → (if b then x else y) ≡ y
if_false b x y is = rw is refl

-- what was written besides what is known
pub record IsWoken {W : ℕ} (old new : Work W) (edge : ℕ) (rose : ℕ → Bool) : Type 0 where
  pub lines_are : new.known.lines ≡ old.known.lines
  pub edges_are : edges_of new.known ≡ edges_of old.known
  pub decisions : new.decisions.items ≡ old.decisions.items
  pub pending_size : keys_of new.pending ≡ keys_of old.pending
  pub pending : (e k : ℕ) → set_holds new.pending e k ≡ (((e == edge) && rose k) || set_holds old.pending e k)
  pub waits_size : length new.waits ≡ length old.waits
  pub waits : (e : ℕ) → is_waiting new e ≡ ((e == edge) || is_waiting old e)

module _ {W : ℕ} (f : FlowGraph) (lines : ℕ) (old new : Work W) (edge : ℕ) (edge_in : edge < edge_count f.graph) (sized : IsSized f lines old) where
  -- one line rose
  pub raised-one : (line : ℕ) (comes : Known) → line < lines → IsWoken old new edge (λ k. k == line) → IsRise (at f lines old line edge) comes (at f lines new line edge)
      → ((l e : ℕ) → e < edges_of old.known → ((l ≡ line) × (e ≡ edge) → ⊥) → at f lines new l e ≡ at f lines old l e)
      → IsRaised f lines old new edge (λ k. k == line)
  raised-one line comes in_l woken rise others = record {
    edge_in = edge_in;
    sized = sized;
    lines_are = woken.lines_are;
    edges_are = woken.edges_are;
    grows = λ l m is. subst (λ (n : ℕ). AtMost (at f lines old n edge) (at f lines new n edge)) (sym (eqb-true l line is)) rise.grows;
    others = λ l e m n other. others l e (let size = sized.edges_are in omega (arith, n, size)) (λ both. other (both.1, eq-eqb l line both.0));
    first = line;
    first_in = in_l;
    first_rises = rise.rises;
    decisions = woken.decisions;
    pending_size = woken.pending_size;
    pending = λ l e. woken.pending e l;
    waits_size = woken.waits_size;
    waits = woken.waits;
  }

  module _ (rose : ℕ → Bool) (values : (l e : ℕ) → at f lines new l e ≡ (if ((e == edge) && rose l) then Any else at f lines old l e)) where
    -- on the lines that rose any value may come
    pub any-here : (line : ℕ) → rose line ≡ true → at f lines new line edge ≡ Any
    any-here line is = values line edge ∙ if_true ((edge == edge) && rose line) Any (at f lines old line edge) (and_from (edge == edge) (rose line) (eq-eqb edge edge refl) is)

    -- the lines of a set rose, of which there is one
    pub raised-any : IsWoken old new edge rose → ((line : ℕ) → rose line ≡ true → is_any (at f lines old line edge) ≡ false) → (first : ℕ) → first < lines → rose first ≡ true → IsRaised f lines old new edge rose
    raised-any woken lower first first_in is = record {
      edge_in = edge_in;
      sized = sized;
      lines_are = woken.lines_are;
      edges_are = woken.edges_are;
      grows = λ l m up. subst (AtMost (at f lines old l edge)) (sym (any-here l up)) (at_most-any (at f lines old l edge));
      others = λ l e m n other. values l e ∙ if_false ((e == edge) && rose l) Any (at f lines old l e) (not_both l e other);
      first = first;
      first_in = first_in;
      first_rises = subst (λ (k : Known). room k < room (at f lines old first edge)) (sym (any-here first is)) (any-room (at f lines old first edge) (lower first is));
      decisions = woken.decisions;
      pending_size = woken.pending_size;
      pending = λ l e. woken.pending e l;
      waits_size = woken.waits_size;
      waits = woken.waits;
    }
      where
        not_both : (l e : ℕ) → ((e ≡ edge) × (rose l ≡ true) → ⊥) → ((e == edge) && rose l) ≡ false
        not_both l e other = false_from_ne_true ((e == edge) && rose l) (λ both. let parts = and_parts (e == edge) (rose l) both in other (eqb-true e edge parts.0, parts.1))

module _ {W : ℕ} (p : Program) (f : FlowGraph) (c : ClassTable) (touches : ℕ → ℕ → Bool) (r : Routing) (old new : Work W) (edge : ℕ) (edge_in : edge < edge_count f.graph) (found : IsFound p f c touches r (so_far old)) where
  -- what came was due, so the one line is right
  pub found-one : (line : ℕ) (comes : Known) → line < r.lines → IsRaised f r.lines old new edge (λ k. k == line) → IsRise (at f r.lines old line edge) comes (at f r.lines new line edge)
      → ((b : Knowns) → IsClosed p f c touches r b → AtMost comes (b.value line edge)) → (is_one_word c line ≡ false → IsNotOne comes)
      → IsFound p f c touches r (so_far new)
  found-one line comes in_l raised rise due one =
      found-raised p f c touches r old new edge (λ k. k == line) raised found
      (λ b l closed m is. subst (λ (n : ℕ). AtMost (at f r.lines new n edge) (b.value n edge)) (sym (eqb-true l line is))
      (rise.least (b.value line edge) ((found.below b closed).value line edge in_l edge_in) (due b closed)))
      (λ l m is several. subst (λ (n : ℕ). IsNotOne (at f r.lines new n edge)) (sym (eqb-true l line is))
      (let here : is_one_word c line ≡ false = subst (λ (n : ℕ). is_one_word c n ≡ false) (eqb-true l line is) several in
      rise.one (found.words line edge in_l edge_in here) (one here)))

  -- any value was due on each of the lines
  pub found-any : (rose : ℕ → Bool) → IsRaised f r.lines old new edge rose → ((line : ℕ) → rose line ≡ true → at f r.lines new line edge ≡ Any)
      → ((b : Knowns) (line : ℕ) → IsClosed p f c touches r b → rose line ≡ true → AtMost Any (b.value line edge))
      → IsFound p f c touches r (so_far new)
  found-any rose raised here due =
      found-raised p f c touches r old new edge rose raised found
      (λ b l closed m is. subst (λ (k : Known). AtMost k (b.value l edge)) (sym (here l is)) (due b l closed is))
      (λ l m is several. subst IsNotOne (sym (here l is)) tt)

pub true_of_not : (b : Bool) → not b ≡ true → b ≡ false
true_of_not false is = refl
true_of_not true is = let clash : false ≡ true = is in absurd cc
