-- A game in the source's own order shows all that the nodes write that are due, where it is not stopped before.
use Rattle.std.proofs.Common.{◌≡◌, ℕ, zero, suc, ◌+◌, ◌-◌, ◌<◌, ◌≤◌, List, [], ◌∷◌, ◌++◌, length, Option, Some, None, refl, sym, ap, subst, ◌∙◌, append_assoc, append-nil, arith, ⊎_elim}
use Rattle.std.proofs.lemmas.Bool.{cases_lt}
use Rattle.op_table.specs.declared.Trap.{Trap}
use Rattle.f77_tree.specs.Prefixes.{IsPrefix}
use Rattle.f77_tree.proofs.RunLaws.{grows_not, grows_on}
use Rattle.firing.specs.declared.playing.PlayEnd.{PlayEnd}
use Rattle.firing.specs.declared.playing.PlayEnd.TheVariants.{Rest, Trapped, Limit, WriteFault}
use Rattle.firing.specs.declared.playing.Show.TheVariants.{Output}
use Rattle.firing.specs.Control.{Course}
use Rattle.firing.specs.Moves.{Moves, CanFire, line_bytes}
use Rattle.firing.specs.Orders.{IsOrder, written}
use Rattle.firing.specs.Play.{Moment, Way, by_order, moment, next, node_at, node_of, played, shown, shown_at, shown_of}
use Rattle.firing.specs.Runs.{IsRun}
use Rattle.firing.specs.SourceOrder.{IsDueOrder}
use Rattle.firing.proofs.ControlLemmas.{moves_on}
use Rattle.program_nets.specs.Playing.{Game, opening}

-- what is shown grows
shown_longer : {M P : Type 0} (w : Way M P) (start : Moment M P) (n d : ℕ) → IsPrefix (shown w Output start n) (shown w Output start (d + n))
shown_longer w start n zero = let e : n ≡ zero + n = omega arith in subst (λ k. IsPrefix (shown w Output start n) (shown w Output start k)) e (grows_not (shown w Output start n))
shown_longer w start n (suc d) =
    let e : suc (d + n) ≡ suc d + n = omega arith in
    subst (λ k. IsPrefix (shown w Output start n) (shown w Output start k)) e
    (grows_on _ _ _ (shown_longer w start n d) (record { more = shown_at w Output start (d + n); is = refl }))

module _ {M P : Type 0} (s : Moves M) (course : Course M P) where
  abbrev own : Way M P
  own = by_order s course

  -- the node that is due fires, and then the others
  played_on : (m : M) (p : P) (k n : ℕ) → course.due m p ≡ Some k → played own (moment m (Some p)) (suc n) ≡ played own (moment (s.fired m k) (Some (course.moved m p))) n
  played_on m p k zero is = ap (λ j. next own (moment m (Some p)) (node_of j)) is ∙ ap (moment (s.fired m k)) (moves_on course m p k is)
  played_on m p k (suc n) is = ap (λ (x : Moment M P). next own x (own.choice n x)) (played_on m p k n is)

  shown_on : (m : M) (p : P) (k n : ℕ) → course.due m p ≡ Some k → shown own Output (moment m (Some p)) (suc n) ≡ line_bytes (s.line m k) ++ shown own Output (moment (s.fired m k) (Some (course.moved m p))) n
  shown_on m p k zero is = ap (λ j. line_bytes (s.line m (node_of j))) is ∙ sym (append-nil (line_bytes (s.line m k)))
  shown_on m p k (suc n) is =
      let start = moment m (Some p) in
      let rest = moment (s.fired m k) (Some (course.moved m p)) in
      let line = line_bytes (s.line m k) in
      ap (λ bytes. bytes ++ shown_at own Output start (suc n)) (shown_on m p k n is)
      ∙ ap (λ (x : Moment M P). (line ++ shown own Output rest n) ++ shown_of s Output x.marking (own.choice n x)) (played_on m p k n is)
      ∙ append_assoc line (shown own Output rest n) (shown_at own Output rest n)

  -- after as many firings as nodes that are due in their turn, what these write is shown
  shown_due : (m : M) (p : P) (ks : List ℕ) → IsDueOrder s course m p ks → shown own Output (moment m (Some p)) (length ks) ≡ written s m ks
  shown_due m p [] due = refl
  shown_due m p (k ∷ ks) (is, due) = shown_on m p k (length ks) is ∙ ap (λ bytes. line_bytes (s.line m k) ++ bytes) (shown_due (s.fired m k) (course.moved m p) ks due)

  -- each of them can fire in its turn
  fires : (m : M) (p : P) (ks : List ℕ) → IsDueOrder s course m p ks → IsOrder s m ks → (i : ℕ) → i < length ks → CanFire s (played own (moment m (Some p)) i).marking (node_at own (moment m (Some p)) i)
  fires m p [] due order i lt = absurd (omega (arith, lt))
  fires m p (k ∷ ks) (is, due) (can, order) zero lt = subst (λ j. CanFire s m (node_of j)) (sym is) can
  fires m p (k ∷ ks) (is, due) (can, order) (suc i) lt =
      subst (λ (x : Moment M P). CanFire s x.marking (own.choice i x)) (sym (played_on m p k i is)) (fires (s.fired m k) (course.moved m p) ks due order i (omega (arith, lt)))

module _ {M P : Type 0} (game : Game M P) (ks : List ℕ) (limit firings : ℕ) (due : IsDueOrder game.moves game.course game.start game.control ks) (order : IsOrder game.moves game.start ks) (within : length ks ≤ limit) where
  abbrev w : Way M P
  w = by_order game.moves game.course

  no_trap : (t : Option (Trap × ℕ)) (x : Trap × ℕ) → t ≡ None → t ≡ Some x → ⊥
  no_trap t x none some = cc

  -- the game isn't stopped before
  not_before : (end : PlayEnd) → IsRun w (opening game) limit firings end → firings < length ks → ⊥
  not_before (Rest n) run lt = run.ends.2 (node_at w (opening game) firings) (fires game.moves game.course game.start game.control ks due order firings lt)
  not_before (Trapped trap line) run lt =
      let can = fires game.moves game.course game.start game.control ks due order firings lt in
      no_trap (game.moves.trap (played w (opening game) firings).marking) (trap, line) can.going run.ends
  not_before Limit run lt = let all = run.ends.0 in omega (arith, all, lt, within)
  not_before (WriteFault n) run lt = run.own

  pub all_shown : (end : PlayEnd) → IsRun w (opening game) limit firings end → IsPrefix (written game.moves game.start ks) (shown w Output (opening game) firings)
  all_shown end run = ⊎_elim
      (λ (lt : firings < length ks). absurd (not_before end run lt))
      (λ (le : length ks ≤ firings).
      let sum : firings - length ks + length ks ≡ firings = omega (arith, le) in
      subst (λ bytes. IsPrefix bytes (shown w Output (opening game) firings)) (shown_due game.moves game.course game.start game.control ks due)
      (subst (λ n. IsPrefix (shown w Output (opening game) (length ks)) (shown w Output (opening game) n)) sum (shown_longer w (opening game) (length ks) (firings - length ks))))
      (cases_lt firings (length ks))
