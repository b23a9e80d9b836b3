-- What the firings of the counters wake, and the set of their ready nodes.
use Rattle.std.proofs.Common.{◌≡◌, ◌≢◌, ◌<◌, ℕ, zero, suc, true, false, List, [], All, Contains, None, refl, sym, ◌∙◌, arith}
use Rattle.firing.specs.Marks.{AreMarks}
use Rattle.firing.specs.Moves.{CanFire}
use Rattle.firing.proofs.ChosenLemmas.{woken_differ}
use Rattle.sample_nets.specs.declared.counts.Counts.{Counts}
use Rattle.sample_nets.specs.Counting.{AreSmall, counter_moves, is_ready, after_node, woken_by}
use Rattle.sample_nets.specs.CounterLaws.{counter_laws}

both_ways : {P : Type 0} (b : _) → b ≡ false → b ≡ true → P
both_ways b no' yes' = let e : false ≡ true = sym no' ∙ yes' in absurd cc

are_nodes : (k : ℕ) → All (λ j. j < 4) (woken_by k)
are_nodes zero = search arith
are_nodes (suc zero) = search arith
are_nodes (suc (suc zero)) = search arith
are_nodes (suc (suc (suc k))) = search arith

wakes_all : (m : Counts) (k : ℕ) → counter_moves.trap (after_node m k) ≡ None → (j : ℕ) → j < 4 → j ≢ k → is_ready m j ≡ false → is_ready (after_node m k) j ≡ true → Contains (woken_by k) j
wakes_all m zero none zero node differ was is = absurd (differ refl)
wakes_all m zero none (suc zero) node differ was is = (0, omega arith, refl)
wakes_all m zero none (suc (suc zero)) node differ was is = (1, omega arith, refl)
wakes_all m zero none (suc (suc (suc zero))) node differ was is = (2, omega arith, refl)
wakes_all m zero none (suc (suc (suc (suc j)))) node differ was is = absurd (omega (arith, node))
wakes_all m (suc zero) none zero node differ was is = both_ways (is_ready m 0) was is
wakes_all m (suc zero) none (suc zero) node differ was is = absurd (differ refl)
wakes_all m (suc zero) none (suc (suc zero)) node differ was is = both_ways (is_ready m 2) was is
wakes_all m (suc zero) none (suc (suc (suc j))) node differ was is = both_ways (is_ready m 3) was is
wakes_all m (suc (suc zero)) none zero node differ was is = both_ways (is_ready m 0) was is
wakes_all m (suc (suc zero)) none (suc zero) node differ was is = both_ways (is_ready m 1) was is
wakes_all m (suc (suc zero)) none (suc (suc zero)) node differ was is = absurd (differ refl)
wakes_all m (suc (suc zero)) none (suc (suc (suc zero))) node differ was is = (0, omega arith, refl)
wakes_all m (suc (suc zero)) none (suc (suc (suc (suc j)))) node differ was is = absurd (omega (arith, node))
wakes_all m (suc (suc (suc k))) none j node differ was is = absurd cc

-- the marks after a firing, where they were tested again
pub marks_next : (m : Counts) (k : ℕ) → AreSmall m → CanFire counter_moves m k → counter_moves.trap (after_node m k) ≡ None → (old new : List _) → AreMarks 4 (is_ready m) old
    → ((before : ℕ → _) → AreMarks 4 before old → Rattle.firing.specs.Marks.DifferAt 4 k (woken_by k) before (is_ready (after_node m k)) → AreMarks 4 (is_ready (after_node m k)) new)
    → AreMarks 4 (is_ready (after_node m k)) new
marks_next m k small can none old new are tested =
    tested (is_ready m) are (woken_differ AreSmall counter_moves counter_laws m small k can none (woken_by k) (record { are_nodes = are_nodes k; all = λ quiet. wakes_all m k quiet }))
