-- Nodes that are due one after another, by their numbers, as several firings at once.
use Rattle.std.proofs.Common.{◌≡◌, ◌<◌, ◌≤◌, ⊎_elim, ℕ, zero, suc, ◌+◌, List, [], ◌∷◌, ◌++◌, Option, Some, None, refl, sym, ap, ◌∙◌, subst, arith}
use Rattle.std.proofs.lemmas.Bool.{cases_eq}
use Rattle.std.specs.List.{range_with_len}
use Rattle.firing.specs.Control.{Course}
use Rattle.firing.specs.Moves.{Moves, CanFire, FiredIs, IsSilent, newest}
use Rattle.firing.specs.Orders.{IsOrder, after}
use Rattle.firing.specs.Play.{Moment, Way, by_order, moment, next, node_at, node_of, played}
use Rattle.firing.specs.SourceOrder.{FiresTo, IsDueOrder, newest_after}
use Rattle.firing.proofs.ControlLemmas.{moves_on}
use Rattle.firing.proofs.PlayLemmas.{same_moment}
use Rattle.net_board.proofs.DueLockstep.{place_after}
use Rattle.net_board.proofs.OrderJoins.{range_more}
use Rattle.op_board.specs.WholePieces.{answer_of}
use Rattle.op_board.proofs.DueOperations.{place_join}
use Rattle.op_board.proofs.RangeOrders.{after_more, order_less}

-- ---- what a firing answers, by the line that it writes

answers : {M : Type 0} (s : Moves M) (m : M) (k : ℕ) (line : Option (List ℕ)) → s.line m k ≡ line → s.trap (s.fired m k) ≡ None → FiredIs s m k (answer_of line)
answers s m k None is going = record { line = is; trap = going }
answers s m k (Some text) is going = (λ silent. let clash : Some text ≡ None = sym is ∙ silent in absurd cc, going)

module _ {M P : Type 0} (s : Moves M) (course : Course M P) where
  due_parts : (m : M) (p : P) (ks js : List ℕ) → IsDueOrder s course m p (ks ++ js) → IsDueOrder s course m p ks × IsDueOrder s course (after s m ks) (place_after s course m p ks) js
  due_parts m p [] js due = (tt, due)
  due_parts m p (k ∷ ks) js due = let rest = due_parts (s.fired m k) (course.moved m p) ks js due.1 in ((due.0, rest.0), rest.1)

  module _ (m : M) (p : P) (a : ℕ) where
    -- the marking and the place after so many of them
    abbrev pub marking_after : (i : ℕ) → M
    marking_after i = after s m (range_with_len a i)

    abbrev pub control_at : (i : ℕ) → P
    control_at i = place_after s course m p (range_with_len a i)

    abbrev way : Way M P
    way = by_order s course

    abbrev start : Moment M P
    start = moment m (Some p)

    control_more : (i : ℕ) → control_at (suc i) ≡ course.moved (marking_after i) (control_at i)
    control_more i = ap (place_after s course m p) (range_more a i) ∙ place_join s course m p (range_with_len a i) ((a + i) ∷ [])

    -- the last firing that is due, and those before
    due_less : (i : ℕ) → IsDueOrder s course m p (range_with_len a (suc i)) → IsDueOrder s course m p (range_with_len a i) × (course.due (marking_after i) (control_at i) ≡ Some (a + i))
    due_less i due =
        let parts = due_parts m p (range_with_len a i) ((a + i) ∷ []) (subst (λ (ks : List ℕ). IsDueOrder s course m p ks) (range_more a i) due) in
        (parts.0, parts.1.0)

    pub due_first : (count i : ℕ) → i ≤ count → IsDueOrder s course m p (range_with_len a count) → IsDueOrder s course m p (range_with_len a i)
    due_first zero i few due = let none : 0 ≡ i = omega (arith, few) in subst (λ (j : ℕ). IsDueOrder s course m p (range_with_len a j)) none due
    due_first (suc count) i few due = ⊎_elim
        (λ (same : suc count ≡ i). subst (λ (j : ℕ). IsDueOrder s course m p (range_with_len a j)) same due)
        (λ differ. due_first count i (omega (arith, few, differ)) (due_less count due).0)
        (cases_eq (suc count) i)

    pub order_first : (count i : ℕ) → i ≤ count → IsOrder s m (range_with_len a count) → IsOrder s m (range_with_len a i)
    order_first zero i few order = let none : 0 ≡ i = omega (arith, few) in subst (λ (j : ℕ). IsOrder s m (range_with_len a j)) none order
    order_first (suc count) i few order = ⊎_elim
        (λ (same : suc count ≡ i). subst (λ (j : ℕ). IsOrder s m (range_with_len a j)) same order)
        (λ differ. order_first count i (omega (arith, few, differ)) (order_less s m a count order).0)
        (cases_eq (suc count) i)

    -- ---- moments

    stands_at : (i : ℕ) → IsDueOrder s course m p (range_with_len a i) → played way start i ≡ moment (marking_after i) (Some (control_at i))
    stands_at zero due = refl
    stands_at (suc i) due =
        let less = due_less i due in
        ap (λ (now : Moment M P). next way now (way.choice i now)) (stands_at i less.0)
        ∙ ap (λ (k : Option ℕ). next way (moment (marking_after i) (Some (control_at i))) (node_of k)) less.1
        ∙ same_moment (sym (after_more s m a i)) (moves_on course (marking_after i) (control_at i) (a + i) less.1 ∙ ap (λ (q : P). Some q) (sym (control_more i)))

    node_is : (i : ℕ) → IsDueOrder s course m p (range_with_len a (suc i)) → node_at way start i ≡ a + i
    node_is i due = let less = due_less i due in ap (way.choice i) (stands_at i less.0) ∙ ap node_of less.1

    module _ (count : ℕ) (due : IsDueOrder s course m p (range_with_len a count)) where
      -- what holds of a firing of the order holds of that of the run
      at_firing : (T : M → ℕ → Type 0) (i : ℕ) → i < count → T (marking_after i) (a + i) → T (played way start i).marking (node_at way start i)
      at_firing T i low is =
          subst (λ (k : ℕ). T (played way start i).marking k) (sym (node_is i (due_first count (suc i) (omega (arith, low)) due)))
          (subst (λ (now : Moment M P). T now.marking (a + i)) (sym (stands_at i (due_first count i (omega (arith, low)) due))) is)

      module _ (order : IsOrder s m (range_with_len a count)) (going : s.trap (marking_after count) ≡ None) where
        pub can_fire : (i : ℕ) → i < count → CanFire s (marking_after i) (a + i)
        can_fire i low = (order_less s m a i (order_first count (suc i) (omega (arith, low)) order)).1

        pub goes : (i : ℕ) → i < count → s.trap (marking_after i) ≡ None
        goes i low = let can : CanFire s (marking_after i) (a + i) = can_fire i low in can.going

        goes_on : (i : ℕ) → i < count → s.trap (s.fired (marking_after i) (a + i)) ≡ None
        goes_on i low = ap s.trap (sym (after_more s m a i)) ∙ ⊎_elim
            (λ (same : suc i ≡ count). subst (λ (j : ℕ). s.trap (marking_after j) ≡ None) (sym same) going)
            (λ differ. goes (suc i) (omega (arith, low, differ)))
            (cases_eq (suc i) count)

        module _ (line : Option (List ℕ)) (silent : (i : ℕ) → suc i < count → s.line (marking_after i) (a + i) ≡ None) (writes : (i : ℕ) → suc i ≡ count → s.line (marking_after i) (a + i) ≡ line) where
          pub fires_range : 0 < count → FiresTo way start count count (answer_of line) (moment (marking_after count) (Some (control_at count)))
          fires_range some = record {
            some = some;
            bounded = omega arith;
            leads = sym (stands_at count due);
            going = λ i low. at_firing (CanFire s) i low (can_fire i low);
            silent = λ i low. at_firing (IsSilent s) i (omega (arith, low)) (record { line = silent i low; trap = goes_on i (omega (arith, low)) });
            last = λ i is. at_firing (λ (t : M) (k : ℕ). FiredIs s t k (answer_of line)) i (omega (arith, is)) (answers s (marking_after i) (a + i) line (writes i is) (goes_on i (omega (arith, is))));
          }

          quiet : (old : List ℕ) (i : ℕ) → i < count → newest_after way start i old ≡ old
          quiet old zero low = refl
          quiet old (suc i) low =
              ap (λ (o : Option (List ℕ)). newest o (newest_after way start i old)) (at_firing (λ (t : M) (k : ℕ). s.line t k ≡ None) i (omega (arith, low)) (silent i low))
              ∙ quiet old i (omega (arith, low))

          -- the newest line after them
          pub newest_line : (old : List ℕ) (last : ℕ) → suc last ≡ count → newest_after way start count old ≡ newest line old
          newest_line old last is =
              ap (λ (i : ℕ). newest_after way start i old) (sym is)
              ∙ ap (λ (o : Option (List ℕ)). newest o (newest_after way start last old)) (at_firing (λ (t : M) (k : ℕ). s.line t k ≡ line) last (omega (arith, is)) (writes last is))
              ∙ ap (newest line) (quiet old last (omega (arith, is)))
