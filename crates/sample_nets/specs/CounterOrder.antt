-- The counters' own order is a source's order, and control stays in step with it.
use Rattle.std.proofs.Common.{◌≡◌, ◌<◌, ◌≤◌, ◌&&◌, ℕ, zero, suc, Bool, true, false, nat_lt, nat_eq, if◌then◌else◌, Some, None, refl, sym, ap, subst, ◌∙◌, arith}
use Rattle.std.proofs.lemmas.Bool.{lt-ltb, ltb-false, eq-eqb, and_from}
use Rattle.sample_nets.specs.declared.counts.Counts.{Counts}
use Rattle.sample_nets.specs.declared.turn.Turn.{Turn}
use Rattle.sample_nets.specs.declared.turn.Turn.TheVariants.{Feed, Write, Count}
use Rattle.firing.specs.Control.{KeepsStep}
use Rattle.firing.specs.Moves.{CanFire}
use Rattle.firing.specs.Orders.{IsOver}
use Rattle.firing.specs.SourceOrder.{IsSourceOrder}
use Rattle.sample_nets.specs.Counting.{AreSmall, counter_moves, is_ready, after_node}
use Rattle.sample_nets.specs.Turns.{AreLeft, counter_course, due_in, in_turn, turn_after}

-- what is due by a test
if_some : (P : ℕ → Type 0) (b : Bool) (i n : ℕ) → (b ≡ true → P i) → (if b then Some i else None) ≡ Some n → P n
if_some P true i n there is = let e : i ≡ n = cc in subst P e (there refl)
if_some P false i n there is = absurd cc

if_none : (b : Bool) (i : ℕ) → (if b then Some i else None) ≡ None → b ≡ false
if_none true i is = absurd cc
if_none false i is = refl

if_other : (P : ℕ → Type 0) (b : Bool) (i j n : ℕ) → (b ≡ true → P i) → (b ≡ false → P j) → (if b then Some i else Some j) ≡ Some n → P n
if_other P true i j n here there is = let e : i ≡ n = cc in subst P e (here refl)
if_other P false i j n here there is = let e : j ≡ n = cc in subst P e (there refl)

not_none : (b : Bool) (i j : ℕ) → (if b then Some i else Some j) ≡ None → ⊥
not_none true i j is = absurd cc
not_none false i j is = absurd cc

some_left : (n : ℕ) → n ≡ 1 → nat_lt 0 n ≡ true
some_left n is = lt-ltb 0 n (omega (arith, is))

none_left : (n : ℕ) → n ≡ 0 → nat_lt 0 n ≡ false
none_left n is = ap (nat_lt 0) is

no_more : (n : ℕ) → nat_lt 0 n ≡ false → nat_eq n 0 ≡ true
no_more n is = let none : n ≤ 0 = ltb-false 0 n is in eq-eqb n 0 (omega (arith, none))

nothing_to_write : (n : ℕ) (b : Bool) → n ≡ 0 → (nat_lt 0 n && b) ≡ true → ⊥
nothing_to_write n b none ready = let e : (false && b) ≡ true = ap (λ a. a && b) (sym (none_left n none)) ∙ ready in absurd cc

module _ (m : Counts) (none : counter_moves.trap m ≡ None) where
  can : (k : ℕ) → k < 4 → is_ready m k ≡ true → CanFire counter_moves m k
  can k node ready = record { going = none; node = node; ready = ready }

  fires_in : (turn : Turn) (k : ℕ) → in_turn m turn → due_in m turn ≡ Some k → CanFire counter_moves m k
  fires_in Feed k left is = if_some (CanFire counter_moves m) (nat_lt 0 m.supply) 0 k (can 0 (omega arith)) is
  fires_in Write k left is =
      let some = some_left m.right left.writer_has in
      if_other (CanFire counter_moves m) (nat_lt 0 m.lines) 2 3 k
      (λ more. can 2 (omega arith) (and_from (nat_lt 0 m.right) (nat_lt 0 m.lines) some more))
      (λ no. can 3 (omega arith) (and_from (nat_lt 0 m.right) (nat_eq m.lines 0) some (no_more m.lines no)))
      is
  fires_in Count k left is = let e : 1 ≡ k = cc in subst (CanFire counter_moves m) e (can 1 (omega arith) (some_left m.left left.counter_has))

  over_in : (turn : Turn) → in_turn m turn → due_in m turn ≡ None → IsOver counter_moves m
  over_in Feed left is zero fires = let ready : nat_lt 0 m.supply ≡ true = fires.ready in let not = if_none (nat_lt 0 m.supply) 0 is in absurd cc
  over_in Feed left is (suc zero) fires = let ready : nat_lt 0 m.left ≡ true = fires.ready in let not = none_left m.left left.counter_has in absurd cc
  over_in Feed left is (suc (suc zero)) fires = nothing_to_write m.right (nat_lt 0 m.lines) left.writer_has fires.ready
  over_in Feed left is (suc (suc (suc k))) fires = nothing_to_write m.right (nat_eq m.lines 0) left.writer_has fires.ready
  over_in Write left is k fires = not_none (nat_lt 0 m.lines) 2 3 is
  over_in Count left is k fires = absurd cc

pub counter_order : IsSourceOrder AreSmall counter_moves counter_course in_turn
counter_order = record {
  fires = λ m turn k small left none is. fires_in m none turn k left is;
  over = λ m turn small left none is. over_in m none turn left is;
}

-- ---- control

fed : (m : Counts) → AreLeft m 0 0 → AreLeft (after_node m 0) 1 1
fed m left = let first = left.counter_has in let second = left.writer_has in record { counter_has = omega (arith, first); writer_has = omega (arith, second) }

written_one : (m : Counts) → AreLeft m 1 1 → AreLeft (after_node m 2) 1 0
written_one m left = let second = left.writer_has in record { counter_has = left.counter_has; writer_has = omega (arith, second) }

counted_one : (m : Counts) → AreLeft m 1 0 → AreLeft (after_node m 1) 0 0
counted_one m left = let first = left.counter_has in record { counter_has = omega (arith, first); writer_has = left.writer_has }

stays_in : (m : Counts) (turn : Turn) (k : ℕ) → in_turn m turn → due_in m turn ≡ Some k → counter_moves.trap (after_node m k) ≡ None → in_turn (after_node m k) (turn_after turn)
stays_in m Feed k left is quiet = if_some (λ i. AreLeft (after_node m i) 1 1) (nat_lt 0 m.supply) 0 k (λ more. fed m left) is
stays_in m Write k left is quiet = if_other (λ i. counter_moves.trap (after_node m i) ≡ None → AreLeft (after_node m i) 1 0) (nat_lt 0 m.lines) 2 3 k (λ more none. written_one m left) (λ no none. absurd cc) is quiet
stays_in m Count k left is quiet = let e : 1 ≡ k = cc in subst (λ i. AreLeft (after_node m i) 0 0) e (counted_one m left)

pub counter_control : KeepsStep AreSmall counter_moves counter_course in_turn
counter_control = record { kept = λ m turn k small left fires is quiet. stays_in m turn k left is quiet }
