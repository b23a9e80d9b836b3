-- The counters keep the laws of firing.
use Rattle.std.proofs.Common.{◌≡◌, ◌+◌, ◌-◌, ◌<◌, ◌&&◌, ℕ, zero, suc, true, false, nat_lt, nat_eq, None, refl, sym, ap, arith}
use Rattle.std.proofs.lemmas.Bool.{ltb-true, lt-ltb, eqb-true, and_from}
use Rattle.sample_nets.specs.declared.counts.Counts.{Counts}
use Rattle.firing.specs.Laws.{IsLawful, AreReady}
use Rattle.firing.specs.Moves.{CanFire, IsSilent}
use Rattle.sample_nets.specs.Counting.{AreSmall, counter_moves, is_ready, after_node, is_serial, line_of, trap_of}
use Rattle.std.proofs.lemmas.Bool.{and_parts}

abbrev Both : Counts → ℕ → ℕ → Type 0
Both m j k = AreReady AreSmall counter_moves m j k

-- the writer and the trap are never both ready
apart : (a b : ℕ) → (nat_lt 0 a && nat_lt 0 b) ≡ true → (nat_lt 0 a && nat_eq b 0) ≡ true → ⊥
apart a b first second =
    let some : 0 < b = ltb-true 0 b ((and_parts (nat_lt 0 a) (nat_lt 0 b) first).1) in
    let none : b ≡ 0 = eqb-true b 0 ((and_parts (nat_lt 0 a) (nat_eq b 0) second).1) in
    omega (arith, some, none)

same_node : {P : Type 0} (m : Counts) (i j : ℕ) → Both m (suc (suc (suc i))) (suc (suc (suc j))) → P
same_node m i j both = let first = both.first.node in let second = both.second.node in absurd (both.differ (omega (arith, first, second)))

-- both of the writer and the trap
never : {P : Type 0} (m : Counts) → is_ready m 2 ≡ true → is_ready m 3 ≡ true → P
never m first second = absurd (apart m.right m.lines first second)

feed_count : (m : Counts) → is_ready m 1 ≡ true → after_node (after_node m 0) 1 ≡ after_node (after_node m 1) 0
feed_count m ready =
    let some : 0 < m.left = ltb-true 0 m.left ready in
    let same : (m.left + 1) - 1 ≡ (m.left - 1) + 1 = omega (arith, some) in
    ap (λ (n : ℕ). record m { supply = m.supply - 1; left = n; right = m.right + 1; counted = m.counted + 1 }) same

feed_write : (m : Counts) → is_ready m 2 ≡ true → after_node (after_node m 0) 2 ≡ after_node (after_node m 2) 0
feed_write m ready =
    let some : 0 < m.right = ltb-true 0 m.right ((and_parts (nat_lt 0 m.right) (nat_lt 0 m.lines) ready).0) in
    let same : (m.right + 1) - 1 ≡ (m.right - 1) + 1 = omega (arith, some) in
    ap (λ (n : ℕ). record m { supply = m.supply - 1; left = m.left + 1; right = n; lines = m.lines - 1; written = m.written + 1 }) same

either : (m : Counts) (j k : ℕ) → Both m j k → after_node (after_node m j) k ≡ after_node (after_node m k) j
either m zero zero both = absurd (both.differ refl)
either m zero (suc zero) both = feed_count m both.second.ready
either m zero (suc (suc zero)) both = feed_write m both.second.ready
either m zero (suc (suc (suc j))) both = refl
either m (suc zero) zero both = sym (feed_count m both.first.ready)
either m (suc zero) (suc zero) both = absurd (both.differ refl)
either m (suc zero) (suc (suc zero)) both = refl
either m (suc zero) (suc (suc (suc j))) both = refl
either m (suc (suc zero)) zero both = sym (feed_write m both.first.ready)
either m (suc (suc zero)) (suc zero) both = refl
either m (suc (suc zero)) (suc (suc zero)) both = absurd (both.differ refl)
either m (suc (suc zero)) (suc (suc (suc j))) both = never m both.first.ready both.second.ready
either m (suc (suc (suc i))) zero both = refl
either m (suc (suc (suc i))) (suc zero) both = refl
either m (suc (suc (suc i))) (suc (suc zero)) both = never m both.second.ready both.first.ready
either m (suc (suc (suc i))) (suc (suc (suc j))) both = same_node m i j both

more : (n : ℕ) → nat_lt 0 (n + 1) ≡ true
more n = lt-ltb 0 (n + 1) (omega arith)

stays : (m : Counts) (j k : ℕ) → Both m j k → is_ready (after_node m j) k ≡ true
stays m zero zero both = absurd (both.differ refl)
stays m zero (suc zero) both = more m.left
stays m zero (suc (suc zero)) both = and_from (nat_lt 0 (m.right + 1)) (nat_lt 0 m.lines) (more m.right) ((and_parts (nat_lt 0 m.right) (nat_lt 0 m.lines) both.second.ready).1)
stays m zero (suc (suc (suc j))) both = and_from (nat_lt 0 (m.right + 1)) (nat_eq m.lines 0) (more m.right) ((and_parts (nat_lt 0 m.right) (nat_eq m.lines 0) both.second.ready).1)
stays m (suc zero) zero both = both.second.ready
stays m (suc zero) (suc zero) both = absurd (both.differ refl)
stays m (suc zero) (suc (suc zero)) both = both.second.ready
stays m (suc zero) (suc (suc (suc j))) both = both.second.ready
stays m (suc (suc zero)) zero both = both.second.ready
stays m (suc (suc zero)) (suc zero) both = both.second.ready
stays m (suc (suc zero)) (suc (suc zero)) both = absurd (both.differ refl)
stays m (suc (suc zero)) (suc (suc (suc j))) both = never m both.first.ready both.second.ready
stays m (suc (suc (suc i))) zero both = both.second.ready
stays m (suc (suc (suc i))) (suc zero) both = both.second.ready
stays m (suc (suc (suc i))) (suc (suc zero)) both = both.second.ready
stays m (suc (suc (suc i))) (suc (suc (suc j))) both = both.second.ready

one : (m : Counts) (j k : ℕ) → Both m j k → is_serial j ≡ true → is_serial k ≡ false
one m zero k both serial = absurd cc
one m (suc zero) k both serial = absurd cc
one m (suc (suc zero)) zero both serial = refl
one m (suc (suc zero)) (suc zero) both serial = refl
one m (suc (suc zero)) (suc (suc zero)) both serial = absurd (both.differ refl)
one m (suc (suc zero)) (suc (suc (suc j))) both serial = never m both.first.ready both.second.ready
one m (suc (suc (suc i))) zero both serial = refl
one m (suc (suc (suc i))) (suc zero) both serial = refl
one m (suc (suc (suc i))) (suc (suc zero)) both serial = never m both.second.ready both.first.ready
one m (suc (suc (suc i))) (suc (suc (suc j))) both serial = same_node m i j both

same_line_of : (m : Counts) (j k : ℕ) → Both m j k → line_of (after_node m j) k ≡ line_of m k
same_line_of m j zero both = refl
same_line_of m j (suc zero) both = refl
same_line_of m zero (suc (suc zero)) both = refl
same_line_of m (suc zero) (suc (suc zero)) both = refl
same_line_of m (suc (suc zero)) (suc (suc zero)) both = absurd (both.differ refl)
same_line_of m (suc (suc (suc i))) (suc (suc zero)) both = refl
same_line_of m j (suc (suc (suc k))) both = refl

same_trap_of : (m : Counts) (j k : ℕ) → Both m j k → trap_of (after_node m j).trapped ≡ None → trap_of (after_node (after_node m j) k).trapped ≡ trap_of (after_node m k).trapped
same_trap_of m zero zero both none = refl
same_trap_of m zero (suc zero) both none = refl
same_trap_of m zero (suc (suc zero)) both none = refl
same_trap_of m zero (suc (suc (suc j))) both none = refl
same_trap_of m (suc zero) zero both none = refl
same_trap_of m (suc zero) (suc zero) both none = refl
same_trap_of m (suc zero) (suc (suc zero)) both none = refl
same_trap_of m (suc zero) (suc (suc (suc j))) both none = refl
same_trap_of m (suc (suc zero)) zero both none = refl
same_trap_of m (suc (suc zero)) (suc zero) both none = refl
same_trap_of m (suc (suc zero)) (suc (suc zero)) both none = refl
same_trap_of m (suc (suc zero)) (suc (suc (suc j))) both none = refl
same_trap_of m (suc (suc (suc i))) k both none = absurd cc

quiet : (m : Counts) (k : ℕ) → CanFire counter_moves m k → is_serial k ≡ false → IsSilent counter_moves m k
quiet m zero can not = record { line = refl; trap = can.going }
quiet m (suc zero) can not = record { line = refl; trap = can.going }
quiet m (suc (suc k)) can not = absurd cc

pub stays_small : (m : Counts) (k : ℕ) → AreSmall m → CanFire counter_moves m k → AreSmall (after_node m k)
stays_small m zero small can =
    let some : 0 < m.supply = ltb-true 0 m.supply can.ready in
    let first = small.counter_side in
    let second = small.writer_side in
    record { counter_side = omega (arith, some, first); writer_side = omega (arith, some, second) }
stays_small m (suc zero) small can =
    let some : 0 < m.left = ltb-true 0 m.left can.ready in
    let first = small.counter_side in
    record { counter_side = omega (arith, some, first); writer_side = small.writer_side }
stays_small m (suc (suc zero)) small can =
    let some : 0 < m.right = ltb-true 0 m.right ((and_parts (nat_lt 0 m.right) (nat_lt 0 m.lines) can.ready).0) in
    let second = small.writer_side in
    record { counter_side = small.counter_side; writer_side = omega (arith, some, second) }
stays_small m (suc (suc (suc k))) small can = record { counter_side = small.counter_side; writer_side = small.writer_side }

pub counter_laws : IsLawful AreSmall counter_moves
counter_laws = record {
  either_order = either;
  stays_ready = stays;
  one_serial = one;
  same_line = λ m j k both none. same_line_of m j k both;
  same_trap = same_trap_of;
  silent = λ m k small can not. quiet m k can not;
  stays_sound = λ m k small can. stays_small m k small can;
}
