-- What a closed table tells is so at each pass of a run.
use Rattle.std.proofs.Common.{◌≡◌, ◌≢◌, ℕ, zero, suc, ◌<◌, ℤ, pos, Bool, true, false, List, Option, Some, None, Ok, refl, sym, ap, subst, ◌∙◌, ⊎_elim, arith}
use Rattle.std.specs.Ordering.{int_eq}
use Rattle.std.proofs.lemmas.Bool.{cases_Bool, false≢true, false_from_ne_true}
use Rattle.std.proofs.lemmas.Bool.Decides.{Decides-int_eq}
use Rattle.closed_walks.specs.Graph.{edge_count, from, to}
use Rattle.f77_tree.specs.declared.expressions.Expr.{Expr}
use Rattle.f77_tree.specs.declared.programs.Program.{Program}
use Rattle.f77_tree.specs.CanRun.{CanExecute}
use Rattle.f77_tree.specs.Execution.{Memory}
use Rattle.f77_tree.specs.KnownWith.{known_with}
use Rattle.f77_tree.specs.Steps.{IsMemoryOf}
use Rattle.f77_tree.specs.Value.{value, word_at}
use Rattle.alias_classes.specs.Classes.{ClassTable, class_of_word}
use Rattle.alias_classes.specs.Needs.{ExprNeeds, ExecNeeds}
use Rattle.cfg_build.specs.declared.pieces.PieceKind.{PieceKind}
use Rattle.cfg_build.specs.declared.pieces.PieceKind.TheVariants.{Start, Act, Pass, Branch, Join, Hold, End}
use Rattle.cfg_build.specs.Joined.{FlowGraph}
use Rattle.cfg_build.specs.Passes.{out}
use Rattle.cfg_build.specs.Shape.{kind_at}
use Rattle.region_tree.specs.Tree.{Tree}
use Rattle.dep_routing.specs.Place.{Place}
use Rattle.dep_routing.specs.Quiet.{IsFree}
use Rattle.dep_routing.specs.Routing.{Routing, next_at, wire_at}
use Rattle.dep_routing.specs.Touches.{KindNeeds}
use Rattle.const_prop.specs.declared.known.Known.{Known}
use Rattle.const_prop.specs.declared.known.Known.TheVariants.{Nothing, One, Any}
use Rattle.const_prop.specs.Closed.{IsClosed, IsReady, IsWay, KindAllows, KindWrites, WritesAfter, written_after, decided, decided_after, is_action, is_switch, is_merge, is_one_word, kind_after, exec_after, words_on, led_to}
use Rattle.constant_laws.specs.Facts.{PlaceFacts, WordFacts}
use Rattle.const_prop.specs.Known.{AtMost, IsSomething, IsNotOne, one_of}
use Rattle.const_prop.specs.Setting.{IsProgram}
use Rattle.const_prop.specs.Table.{Knowns}
use Rattle.constant_laws.proofs.Choosing.{needed_value, selected_allows}
use Rattle.constant_laws.proofs.Coming.{IsMet, met-ready, met-on, free_kind, decided-something}
use Rattle.const_prop.proofs.Counting.{one_word-zero, one_word-inside}
use Rattle.const_prop.proofs.Order.{allows-more}
use Rattle.constant_laws.proofs.Passing.{PassedBy}
use Rattle.const_prop.proofs.Under.{AreCovered, needed-touched}
use Rattle.const_prop.proofs.Uses.{act-can}
use Rattle.constant_laws.proofs.Ways.{out_exists}
use Rattle.constant_laws.proofs.Writing.{unchanged, unwritten, written-right}

-- ---- one value

pub at_most-one : (k : Known) (v : ℤ) → AtMost k (One v) → IsSomething k → k ≡ One v
at_most-one Nothing v below some = absurd some
at_most-one (One w) v below some = ap One below
at_most-one Any v below some = absurd below

told-one : (k : Known) (z : ℤ) → one_of k ≡ Some z → k ≡ One z
told-one Nothing z is = let clash : None ≡ Some z = is in absurd cc
told-one (One v) z is = let same : v ≡ z = cc in ap One same
told-one Any z is = let clash : None ≡ Some z = is in absurd cc

-- a ready piece at which one out-edge is decided decides for it by what is known there
pub decision-told : (p : Program) (f : FlowGraph) (c : ClassTable) (touches : ℕ → ℕ → Bool) (r : Routing) (t : Knowns) → IsClosed p f c touches r t → (e : ℕ) (v : ℤ) → IsReady f touches r.lines t e → is_switch (kind_after f e) ≡ true → t.decision (to f.graph e) ≡ One v → decided_after p f c t e ≡ One v
decision-told p f c touches r t closed e v ready s is =
    at_most-one (decided_after p f c t e) v (subst (λ (k : Known). AtMost (decided_after p f c t e) k) is (closed.decisions e ready s)) (decided-something p.names (words_on c t e) (kind_after f e) (exec_after p f e))

-- an equation of numbers that isn't refuted holds
stable : (x y : ℤ) → ((x ≡ y → ⊥) → ⊥) → x ≡ y
stable x y not_not = ⊎_elim
    (λ (yes' : int_eq x y ≡ true). (Decides-int_eq x y).0 yes')
    (λ (no' : int_eq x y ≡ false). absurd (not_not (λ is. false≢true (sym no' ∙ (Decides-int_eq x y).1 is))))
    (cases_Bool (int_eq x y))

-- ---- along an edge

module _ (p : Program) (f : FlowGraph) (c : ClassTable) (touches : ℕ → ℕ → Bool) (r : Routing) (tree : Tree) (program : IsProgram p f) (covered : AreCovered p f c touches r.lines) (facts : PlaceFacts f.graph tree touches r)
    (actions : (node line : ℕ) → node < f.graph.nodes → touches node line ≡ true → is_action (kind_at f node) ≡ true) (t : Knowns) (closed : IsClosed p f c touches r t) (input : List ℤ) (laws : WordFacts p c input) where
  pub class_in : (word : ℕ) → class_of_word c word < r.lines
  class_in word = let most = covered.classes.numbering.most word in let is = covered.lines_are in omega (arith, most, is)

  pub one_word-known : (line e : ℕ) (v : ℤ) → line < r.lines → e < edge_count f.graph → t.value line e ≡ One v → is_one_word c line ≡ true
  one_word-known line e v l edge is = ⊎_elim
      (λ (one : is_one_word c line ≡ true). one)
      (λ (several : is_one_word c line ≡ false). absurd (subst IsNotOne is (closed.words line e l edge several)))
      (cases_Bool (is_one_word c line))

  -- a class that a piece needs, and of whose word something is known, is touched
  needed-known : (e word : ℕ) (z : ℤ) → e < edge_count f.graph → KindNeeds c (kind_after f e) (exec_after p f e) (class_of_word c word) → words_on c t e word ≡ Some z → touches (to f.graph e) (class_of_word c word) ≡ true
  needed-known e word z edge needs is = by (class_of_word c word) refl
    where
      one : is_one_word c (class_of_word c word) ≡ true
      one = one_word-known (class_of_word c word) e z (class_in word) edge (told-one (t.value (class_of_word c word) e) z is)

      by : (n : ℕ) → class_of_word c word ≡ n → touches (to f.graph e) (class_of_word c word) ≡ true
      by zero same = let clash : true ≡ false = sym one ∙ one_word-zero c (class_of_word c word) same in absurd cc
      by (suc n) same = subst (λ k. touches (to f.graph e) k ≡ true) (sym same) (needed-touched p f c touches r.lines covered e n edge (subst (λ k. KindNeeds c (kind_after f e) (exec_after p f e) k) same needs))

  -- What is told of the words of a memory is so where control has come along an edge.
  pub record IsHeld (e : ℕ) (m : Memory) : Type 0 where
    pub met : IsMet p f c touches r tree program covered.classes facts actions t closed e
    pub word : (word h : ℕ) (v : ℤ) → word < p.words → Place f.graph tree touches (class_of_word c word) e h → t.value (class_of_word c word) h ≡ One v → word_at m.store word ≡ v

  word_in : (word e : ℕ) (z : ℤ) → e < edge_count f.graph → t.value (class_of_word c word) e ≡ One z → word < p.words
  word_in word e z edge is =
      let one = one_word-known (class_of_word c word) e z (class_in word) edge is in
      one_word-inside c word p.words covered.classes.numbering.each one

  -- what is known of an expression is its value, where the piece touches the classes of the known words that it needs
  pub touched-value : (e : ℕ) (m : Memory) → IsHeld e m → e < edge_count f.graph → (next : Option ℤ) (x : Expr) → ((word : ℕ) (z : ℤ) → ExprNeeds c x (class_of_word c word) → words_on c t e word ≡ Some z → touches (to f.graph e) (class_of_word c word) ≡ true) → (z : ℤ) → known_with p.names (words_on c t e) x ≡ Some z → value p.names m.store next x ≡ Ok z
  touched-value e m held edge next x all_touched z is =
      needed_value p.names c covered.classes.names (words_on c t e) m.store (touches (to f.graph e)) laws.values
      (λ word z touched told.
      let one : t.value (class_of_word c word) e ≡ One z = told-one (t.value (class_of_word c word) e) z told in
      held.word word e z (word_in word e z edge one) (facts.arrives (class_of_word c word) e edge (facts.touching (class_of_word c word) (to f.graph e) touched)) one)
      next x all_touched z is

  -- what is known of what the piece evaluates is its value
  pub after-value : (e : ℕ) (m : Memory) → IsHeld e m → e < edge_count f.graph → (next : Option ℤ) (x : Expr) → ((n : ℕ) → ExprNeeds c x n → KindNeeds c (kind_after f e) (exec_after p f e) n) → (z : ℤ) → known_with p.names (words_on c t e) x ≡ Some z → value p.names m.store next x ≡ Ok z
  after-value e m held edge next x needs z is = touched-value e m held edge next x (λ word z need told. needed-known e word z edge (needs (class_of_word c word) need) told) z is

  -- ---- one pass

  -- the out-edge is one that control may take
  pub record IsTaken (e d : ℕ) : Type 0 where
    pub place : ℕ
    pub way : IsWay f t e place
    pub is : d ≡ out f.graph (to f.graph e) place

  module _ (e d : ℕ) (m new : Memory) (edge : e < edge_count f.graph) (next_edge : d < edge_count f.graph) (begins : from f.graph d ≡ to f.graph e) (held : IsHeld e m) where
    node_in : to f.graph e < f.graph.nodes
    node_in = program.sound.ends e edge

    -- the rules of a piece that decides
    decision-least : (k : PieceKind) → kind_after f e ≡ k → is_switch k ≡ true → is_action k ≡ true → AtMost (decided p.names (words_on c t e) k (exec_after p f e)) (t.decision (to f.graph e))
    decision-least k is s a =
        subst (λ (k : PieceKind). AtMost (decided p.names (words_on c t e) k (exec_after p f e)) (t.decision (to f.graph e))) is
        (closed.decisions e (met-ready p f c touches r tree program covered.classes facts actions t closed e held.met edge (ap is_action is ∙ a)) (ap is_switch is ∙ s))

    pub taken : PassedBy p.names input m (out f.graph (to f.graph e)) (kind_after f e) (exec_after p f e) d new → IsTaken e d
    taken passed = by (kind_after f e) refl passed
      where
        made : (i : ℕ) → (kind_after f e ≡ End → ⊥) → KindAllows (kind_after f e) (t.decision (to f.graph e)) i → d ≡ out f.graph (to f.graph e) i → IsTaken e d
        made i other allowed is = record { place = i; way = record { edge = edge; exists = out_exists p f program (to f.graph e) i node_in other (ap (λ x. from f.graph x) (sym is) ∙ begins); allowed = allowed }; is = is }

        by : (k : PieceKind) → kind_after f e ≡ k → PassedBy p.names input m (out f.graph (to f.graph e)) k (exec_after p f e) d new → IsTaken e d
        by Act is x = made 0 (λ ends. let clash : Act ≡ End = sym is ∙ ends in absurd cc) (subst (λ (k : PieceKind). KindAllows k (t.decision (to f.graph e)) 0) (sym is) tt) x.0
        by Start is x = made 0 (λ ends. let clash : Start ≡ End = sym is ∙ ends in absurd cc) (subst (λ (k : PieceKind). KindAllows k (t.decision (to f.graph e)) 0) (sym is) tt) x.0
        by Pass is x = made 0 (λ ends. let clash : Pass ≡ End = sym is ∙ ends in absurd cc) (subst (λ (k : PieceKind). KindAllows k (t.decision (to f.graph e)) 0) (sym is) tt) x.0
        by Join is x = made 0 (λ ends. let clash : Join ≡ End = sym is ∙ ends in absurd cc) (subst (λ (k : PieceKind). KindAllows k (t.decision (to f.graph e)) 0) (sym is) tt) x.0
        by Hold is x =
            made 0 (λ ends. let clash : Hold ≡ End = sym is ∙ ends in absurd cc)
            (subst (λ (k : PieceKind). KindAllows k (t.decision (to f.graph e)) 0) (sym is) (allows-more (One (pos 0)) (t.decision (to f.graph e)) 0 (decision-least Hold is refl refl) refl)) x.0
        by Branch is x =
            made x.place (λ ends. let clash : Branch ≡ End = sym is ∙ ends in absurd cc)
            (subst (λ (k : PieceKind). KindAllows k (t.decision (to f.graph e)) x.place) (sym is)
            (allows-more (decided p.names (words_on c t e) Branch (exec_after p f e)) (t.decision (to f.graph e)) x.place (decision-least Branch is refl refl)
            (selected_allows p.names c (words_on c t e) m (exec_after p f e) x.place
            (λ y needs. after-value e m held edge None y (λ n need. subst (λ (k : PieceKind). KindNeeds c k (exec_after p f e) n) (sym is) (needs n need)))
            x.chosen))) x.is
        by End is x = absurd x

    -- ---- words

    -- an act of the program
    can_act : kind_after f e ≡ Act → CanExecute p (exec_after p f e)
    can_act is = act-can p f program (to f.graph e) node_in is

    -- what isn't touched is kept
    kept-aside : (word : ℕ) → is_one_word c (class_of_word c word) ≡ true → touches (to f.graph e) (class_of_word c word) ≡ false → PassedBy p.names input m (out f.graph (to f.graph e)) (kind_after f e) (exec_after p f e) d new → word_at new.store word ≡ word_at m.store word
    kept-aside word one untouched passed = by (kind_after f e) refl passed
      where
        kept : new ≡ m → word_at new.store word ≡ word_at m.store word
        kept same = ap (λ (n : Memory). word_at n.store word) same

        needs_not : kind_after f e ≡ Act → ExecNeeds c (exec_after p f e) (class_of_word c word) → ⊥
        needs_not is needs = from_class (class_of_word c word) refl
          where
            from_class : (n : ℕ) → class_of_word c word ≡ n → ⊥
            from_class zero same = let clash : true ≡ false = sym one ∙ one_word-zero c (class_of_word c word) same in absurd cc
            from_class (suc n) same =
                let need : KindNeeds c (kind_after f e) (exec_after p f e) (suc n) = subst (λ (k : PieceKind). KindNeeds c k (exec_after p f e) (suc n)) (sym is) (subst (λ k. ExecNeeds c (exec_after p f e) k) same needs) in
                let clash : true ≡ false = sym (needed-touched p f c touches r.lines covered e n edge need) ∙ ap (touches (to f.graph e)) (sym same) ∙ untouched in
                absurd cc

        by : (k : PieceKind) → kind_after f e ≡ k → PassedBy p.names input m (out f.graph (to f.graph e)) k (exec_after p f e) d new → word_at new.store word ≡ word_at m.store word
        by Act is x = unchanged p c input covered.classes laws.rest laws.changes laws.hits m new (exec_after p f e) word x.1 (λ changed. needs_not is (laws.changed m (exec_after p f e) word (can_act is) changed))
        by Start is x = kept x.1
        by Pass is x = kept x.1
        by Join is x = kept x.1
        by Hold is x = kept x.1
        by Branch is x = kept x.same
        by End is x = absurd x

    -- what isn't written is kept
    kept-unwritten : (word : ℕ) → (WritesAfter p f c e (class_of_word c word) → ⊥) → PassedBy p.names input m (out f.graph (to f.graph e)) (kind_after f e) (exec_after p f e) d new → word_at new.store word ≡ word_at m.store word
    kept-unwritten word unwritten' passed = by (kind_after f e) refl passed
      where
        kept : new ≡ m → word_at new.store word ≡ word_at m.store word
        kept same = ap (λ (n : Memory). word_at n.store word) same

        by : (k : PieceKind) → kind_after f e ≡ k → PassedBy p.names input m (out f.graph (to f.graph e)) k (exec_after p f e) d new → word_at new.store word ≡ word_at m.store word
        by Act is x = unwritten p c input covered.classes laws.rest laws.changes laws.hits m new (exec_after p f e) word (can_act is) x.1 (λ w. unwritten' (subst (λ (k : PieceKind). KindWrites c k (exec_after p f e) (class_of_word c word)) (sym is) w))
        by Start is x = kept x.1
        by Pass is x = kept x.1
        by Join is x = kept x.1
        by Hold is x = kept x.1
        by Branch is x = kept x.same
        by End is x = absurd x

    module _ (size : IsMemoryOf p input m) (passed : PassedBy p.names input m (out f.graph (to f.graph e)) (kind_after f e) (exec_after p f e) d new) where
      -- the one value that is written is the word
      written-word : (word : ℕ) (v : ℤ) → word < p.words → is_one_word c (class_of_word c word) ≡ true → WritesAfter p f c e (class_of_word c word) → AtMost (written_after p f c t e (class_of_word c word)) (One v) → word_at new.store word ≡ v
      written-word word v inside one writes below = by (kind_after f e) refl passed writes
        where
          by : (k : PieceKind) → kind_after f e ≡ k → PassedBy p.names input m (out f.graph (to f.graph e)) k (exec_after p f e) d new → KindWrites c k (exec_after p f e) (class_of_word c word) → word_at new.store word ≡ v
          by Act is x w =
              written-right p c input covered.classes laws.rest laws.changes laws.hits m new size (words_on c t e) word v inside one (exec_after p f e) (can_act is) x.1
              (λ next y needs. after-value e m held edge next y (λ n need. subst (λ (k : PieceKind). KindNeeds c k (exec_after p f e) n) (sym is) (needs n need)))
              w below
          by Start is x w = absurd w
          by Pass is x w = absurd w
          by Join is x w = absurd w
          by Hold is x w = absurd w
          by Branch is x w = absurd w
          by End is x w = absurd w

      -- where a line is free at the piece, it is led on
      led-word : (word i : ℕ) (v : ℤ) → 0 ≢ to f.graph e → word < p.words → IsWay f t e i → IsFree f.graph tree touches (class_of_word c word) (to f.graph e) → is_one_word c (class_of_word c word) ≡ true → t.value (class_of_word c word) (led_to f r e (class_of_word c word) i) ≡ One v → word_at new.store word ≡ v
      led-word word i v later inside way free one is = ⊎_elim
          (λ (x : touches (to f.graph e) line ≡ true). touched x)
          (λ (x : touches (to f.graph e) line ≡ false). ⊎_elim
          (λ (s : is_switch (kind_after f e) ≡ true). kept-aside word one x passed ∙ was (closed.switches e line i way s (class_in word) x wire))
          (λ (s : is_merge (kind_after f e) ≡ true). kept-aside word one x passed ∙ was (closed.merges e line i way s (class_in word) wire))
          (free_kind p f c touches r tree program covered.classes facts actions line e d edge next_edge later begins free x))
          (cases_Bool (touches (to f.graph e) line))
        where
          line : ℕ
          line = class_of_word c word

          wire : wire_at r line e ≡ true
          wire = facts.wire line e (class_in word) edge free

          here : IsSomething (t.value line e)
          here = held.met line e (class_in word) (facts.arrives line e edge free)

          -- what is passed on was known before
          was : AtMost (t.value line e) (t.value line (led_to f r e line i)) → word_at m.store word ≡ v
          was below = held.word word e v inside (facts.arrives line e edge free) (at_most-one (t.value line e) v (subst (λ (k : Known). AtMost (t.value line e) k) is below) here)

          touched : touches (to f.graph e) line ≡ true → word_at new.store word ≡ v
          touched x =
              let ready = met-ready p f c touches r tree program covered.classes facts actions t closed e held.met edge (actions (to f.graph e) line node_in x) in
              stable (word_at new.store word) v (λ not_it.
              let unwritten' : WritesAfter p f c e line → ⊥ = λ w. not_it (written-word word v inside one w (subst (λ (k : Known). AtMost (written_after p f c t e line) k) is (closed.writes e line i ready way (class_in word) x w))) in
              not_it (kept-unwritten word unwritten' passed ∙ was (closed.reads e line i ready way (class_in word) x unwritten')))

      -- what is told of the words is so after the piece
      pub held-on : 0 ≢ to f.graph e → IsHeld d new
      held-on later = record {
        met = met-on p f c touches r tree program covered.classes facts actions t closed e (taken passed).place d held.met (taken passed).way later next_edge (taken passed).is begins;
        word = λ word h v inside at is.
            let line = class_of_word c word in
            let one = one_word-known line h v (class_in word) (facts.exists line d h next_edge at) is in
            ⊎_elim
            (λ (free : IsFree f.graph tree touches line (to f.graph e)).
            let place : h ≡ next_at r line d = facts.departs line d h (class_in word) next_edge (subst (λ n. IsFree f.graph tree touches line n) (sym begins) free) at in
            led-word word (taken passed).place v later inside (taken passed).way free one (ap (t.value line) (sym (place ∙ ap (next_at r line) (taken passed).is)) ∙ is))
            (λ (aside : IsFree f.graph tree touches line (to f.graph e) → ⊥).
            let untouched : touches (to f.graph e) line ≡ false = false_from_ne_true (touches (to f.graph e) line) (λ x. aside (facts.touching line (to f.graph e) x)) in
            kept-aside word one untouched passed ∙ held.word word h v inside (facts.stays line e d h edge next_edge begins aside at) is)
            (facts.cases line (to f.graph e) node_in);
      }
