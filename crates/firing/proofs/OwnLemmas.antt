-- The source's own order as a run, with control and without.
use Rattle.std.proofs.Common.{◌≡◌, ℕ, zero, suc, ◌%◌, ◌≤◌, ◌++◌, List, [], ◌∷◌, length, slice_index, Option, Some, None, refl, ap, subst, ◌∙◌, arith}
use Rattle.std.proofs.Math.Nat.{zero-mod}
use Rattle.firing.specs.declared.playing.PlayEnd.{PlayEnd}
use Rattle.firing.specs.declared.playing.PlayEnd.TheVariants.{Limit}
use Rattle.firing.specs.declared.playing.Show.{Show}
use Rattle.firing.specs.Control.{Course, steered}
use Rattle.firing.specs.Moves.{Moves, CanFire}
use Rattle.firing.specs.Orders.{IsOver, after}
use Rattle.firing.specs.Play.{Moment, Way, moment, next, node_of, by_order, by_picks, played, node_at, shown_of, shown_at, shown, BreaksOff, EndsBy, Writes, Plays}
use Rattle.firing.specs.Runs.{IsRun}
use Rattle.firing.specs.SourceOrder.{IsDueOrder}
use Rattle.firing.proofs.ControlLemmas.{moves_on}
use Rattle.std.proofs.lemmas.Grind.{elements}

-- ---- with control

module _ {M P : Type 0} (s : Moves M) (course : Course M P) where
  abbrev own : Way M P
  own = by_order s course

  -- the node that is due fires, and then the others
  played_on : (m : M) (p : P) (k n : ℕ) → course.due m p ≡ Some k → played own (moment m (Some p)) (suc n) ≡ played own (moment (s.fired m k) (Some (course.moved m p))) n
  played_on m p k zero is = ap (λ j. next own (moment m (Some p)) (node_of j)) is ∙ ap (moment (s.fired m k)) (moves_on course m p k is)
  played_on m p k (suc n) is = ap (λ (x : Moment M P). next own x (own.choice n x)) (played_on m p k n is)

  -- after as many firings as nodes that are due in their turn
  reached : (m : M) (p : P) (ks : List ℕ) → IsDueOrder s course m p ks → (played own (moment m (Some p)) (length ks)).marking ≡ after s m ks
  reached m p [] order = refl
  reached m p (k ∷ ks) (is, order) = ap (λ (x : Moment M P). x.marking) (played_on m p k (length ks) is) ∙ reached (s.fired m k) (course.moved m p) ks order

  -- a run that the nodes that are due end in time doesn't stop at the limit
  pub not_limit : (m : M) (c : Option P) (p : P) (ks : List ℕ) → c ≡ Some p → IsDueOrder s course m p ks → IsOver s (after s m ks) → (limit : ℕ) → length ks ≤ limit → {show : Show} {end : Moment M P} {old new : Option (List ℕ)} → Plays own (moment m c) limit show end old new Limit → ⊥
  not_limit m c p ks at order over limit le plays = grind (arith, reached m p ks order)

  pub not_stopped : (m : M) (p : P) (ks : List ℕ) → IsDueOrder s course m p ks → IsOver s (after s m ks) → (limit n : ℕ) (end : PlayEnd) → length ks ≤ limit → IsRun own (moment m (Some p)) limit n end → end ≡ Limit → ⊥
  not_stopped m p ks order over limit n end le run is = grind (arith, reached m p ks order)

  -- ---- without control

  -- the pick 0, over and over
  abbrev by_lowest : Way M P
  by_lowest = by_picks s course (0 ∷ [])

  first_place : (n : ℕ) → slice_index (0 ∷ []) (n % 1) ≡ 0
  first_place n = let e : n % 1 ≡ 0 = omega arith in ap (slice_index (0 ∷ [])) e

  same_choice : (n : ℕ) (x : Moment M P) → x.control ≡ None → by_lowest.choice n x ≡ own.choice n x
  same_choice n x lost = grind (arith, elements, first_place, zero-mod)

  module _ (m : M) where
    abbrev lost : Moment M P
    lost = moment m None

    stays_lost : (n : ℕ) → (played own lost n).control ≡ None
    stays_lost zero = refl
    stays_lost (suc n) = ap (λ c. steered course (played own lost n).marking c (node_at own lost n)) (stays_lost n)

    same_played : (n : ℕ) → played by_lowest lost n ≡ played own lost n
    same_played zero = refl
    same_played (suc n) = ap (λ (x : Moment M P). next own x (by_lowest.choice n x)) (same_played n) ∙ ap (next own (played own lost n)) (same_choice n (played own lost n) (stays_lost n))

    same_node : (n : ℕ) → node_at by_lowest lost n ≡ node_at own lost n
    same_node n = ap (by_lowest.choice n) (same_played n) ∙ same_choice n (played own lost n) (stays_lost n)

    same_at : (show : Show) (n : ℕ) → shown_at by_lowest show lost n ≡ shown_at own show lost n
    same_at show n = ap (λ (x : Moment M P). shown_of s show x.marking (node_at by_lowest lost n)) (same_played n) ∙ ap (shown_of s show (played own lost n).marking) (same_node n)

    same_shown : (show : Show) (n : ℕ) → shown by_lowest show lost n ≡ shown own show lost n
    same_shown show zero = refl
    same_shown show (suc n) = ap (λ bytes. bytes ++ shown_at by_lowest show lost n) (same_shown show n) ∙ ap (λ bytes. shown own show lost n ++ bytes) (same_at show n)

    fires_same : (n : ℕ) → CanFire s (played by_lowest lost n).marking (node_at by_lowest lost n) → CanFire s (played own lost n).marking (node_at own lost n)
    fires_same n can = subst (CanFire s (played own lost n).marking) (same_node n) (subst (λ (x : Moment M P). CanFire s x.marking (node_at by_lowest lost n)) (same_played n) can)

    ends_same : (limit n : ℕ) (result : PlayEnd) → EndsBy by_lowest lost limit n result → EndsBy own lost limit n result
    ends_same limit n h is = grind (arith, same_played, fires_same)

    module _ (show : Show) (old new : Option (List ℕ)) where
      broken_same : (n : ℕ) → BreaksOff by_lowest show lost n old new → BreaksOff own show lost n old new
      broken_same n b = grind (arith, same_shown show, same_at show)

      writes_same : (n : ℕ) (result : PlayEnd) → Writes by_lowest show lost n old new result → Writes own show lost n old new result
      writes_same n h writes = grind (arith, broken_same, same_shown)

  -- Without control the run of the pick 0 is that of the nodes that are due.
  pub lowest_due : (m : M) (c : Option P) → c ≡ None → {limit : ℕ} {show : Show} {end : Moment M P} {old new : Option (List ℕ)} {result : PlayEnd} → Plays by_lowest (moment m c) limit show end old new result → Plays own (moment m c) limit show end old new result
  lowest_due m (Some p) is plays = absurd cc
  lowest_due m None is {limit} {show} {end} {old} {new} {result} plays =
      grind (arith, same_played m plays.firings, fires_same m, ends_same m limit plays.firings result plays.ends, writes_same m show old new plays.firings result plays.writes)
