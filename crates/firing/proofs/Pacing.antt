-- Where one order stays in lockstep with a source, every order follows it.
use Rattle.std.proofs.Common.{◌≡◌, ◌≢◌, ◌⊎◌, inl, inr, ℕ, suc, ◌≤◌, Bool, true, false, List, [], ◌∷◌, length, Some, None, refl, sym, ap, subst, ◌∙◌, arith}
use Rattle.op_table.specs.declared.Trap.{Trap}
use Rattle.firing.specs.Laws.{IsLawful}
use Rattle.firing.specs.Moves.{Moves}
use Rattle.firing.specs.Orders.{IsOrder, IsOver, IsWhole, IsPrefix, WritesPrefixOf, Settles, Traps, after, counted, serial_count, written}
use Rattle.firing.specs.Pacing.{Stage, Going, Done, Failed, StandsAt, IsBusy, IsSimulation, WritesPrefix, EndsWith, TrapsWith, FollowsSource}
use Rattle.firing.proofs.Counting.{writes_prefix}
use Rattle.firing.proofs.Resting.{settles}
use Rattle.firing.proofs.Trapping.{some_traps, traps}

module _ {M : Type 0} (s : Moves M) where
  counted_once : (serial : Bool) → counted serial ≤ 1
  counted_once true = omega arith
  counted_once false = omega arith

  serials_at_most : (ks : List ℕ) → serial_count s ks ≤ length ks
  serials_at_most [] = omega arith
  serials_at_most (k ∷ ks) = let here = counted_once (s.serial k) in let later = serials_at_most ks in omega (arith, here, later)

  -- nothing fires after a trap
  over_trap : (m : M) (trap : Trap × ℕ) → s.trap m ≡ Some trap → IsOver s m
  over_trap m trap is k can = some_traps s (s.trap m) trap is can.going

-- a source's stage is one of three
pub data IsStage (stage : Stage) : Type 0 where
  IsGoing : stage ≡ Going → IsStage stage
  IsDone : stage ≡ Done → IsStage stage
  IsFailed : (trap : Trap × ℕ) → stage ≡ Failed trap → IsStage stage

same_some : (a b : Trap × ℕ) → Some a ≡ Some b → a ≡ b
same_some a b e = cc

is_stage : (stage : Stage) → IsStage stage
is_stage Going = IsGoing refl
is_stage Done = IsDone refl
is_stage (Failed trap) = IsFailed trap refl

module _ {M : Type 0} (sound : M → Type 0) (s : Moves M) (lawful : IsLawful sound s) (start : M) (text : ℕ → List ℕ) (stage : ℕ → Stage) (own : ℕ → List ℕ) (is_sound : sound start) (simulated : IsSimulation s start text stage own) where
  quiet : (n : ℕ) → stage n ≡ Going → s.trap (after s start (own n)) ≡ None
  quiet n is = subst (StandsAt s (after s start (own n))) is (simulated.stands n)

  done : (n : ℕ) → stage n ≡ Done → (s.trap (after s start (own n)) ≡ None) × IsOver s (after s start (own n))
  done n is = subst (StandsAt s (after s start (own n))) is (simulated.stands n)

  failed : (n : ℕ) (trap : Trap × ℕ) → stage n ≡ Failed trap → s.trap (after s start (own n)) ≡ Some trap
  failed n trap is = subst (StandsAt s (after s start (own n))) is (simulated.stands n)

  whole_own : (n : ℕ) → (s.trap (after s start (own n)) ≡ None) × IsOver s (after s start (own n)) → IsWhole s start (own n)
  whole_own n (none, over) = record { order = simulated.order n; over = over }

  none_own : (n : ℕ) → (s.trap (after s start (own n)) ≡ None) × IsOver s (after s start (own n)) → s.trap (after s start (own n)) ≡ None
  none_own n (none, over) = none

  settled : (n : ℕ) → stage n ≡ Done → Settles s start (length (own n)) (after s start (own n))
  settled n is = settles sound s lawful start (own n) is_sound (whole_own n (done n is)) (none_own n (done n is))

  trapped : (n : ℕ) (trap : Trap × ℕ) → stage n ≡ Failed trap → Traps s start trap
  trapped n trap is = traps sound s lawful trap start (own n) is_sound (simulated.order n) (failed n trap is)

  own_output : (n : ℕ) (trap : Trap × ℕ) (is : stage n ≡ Failed trap) → (trapped n trap is).output ≡ written s start (own n)
  own_output n trap is = grind (arith, over_trap s (after s start (own n)) trap (failed n trap is), failed n trap is, trapped n trap is)

  -- an order that makes no fewer serial firings than these
  caught_up : (n count : ℕ) → stage n ≡ Going → (stage n ≢ Going) ⊎ (count ≤ serial_count s (own n)) → count ≤ serial_count s (own n)
  caught_up n count is (inl stopped) = absurd (stopped is)
  caught_up n count is (inr enough) = enough

  ahead : (n : ℕ) (ks : List ℕ) → IsOrder s start ks → stage n ≡ Going → serial_count s ks ≤ serial_count s (own n) → WritesPrefixOf s start ks (own n)
  ahead n ks order is fewer = writes_prefix sound s lawful start ks (own n) is_sound order (simulated.order n) (quiet n is) fewer

  prefix-by : (ks : List ℕ) → IsOrder s start ks → (b : IsBusy s own stage (serial_count s ks)) → IsStage (stage b.at) → WritesPrefix text (written s start ks)
  prefix-by ks order b (IsGoing is) = record { steps = b.at; prefix = subst (λ bytes. IsPrefix (written s start ks) bytes) (simulated.lines b.at) (ahead b.at ks order is (caught_up b.at (serial_count s ks) is b.enough)).prefix }
  prefix-by ks order b (IsDone is) = record { steps = b.at; prefix = subst (λ bytes. IsPrefix (written s start ks) bytes) (sym ((settled b.at is).same_output (own b.at) (simulated.order b.at) refl) ∙ simulated.lines b.at) ((settled b.at is).prefix ks order) }
  prefix-by ks order b (IsFailed trap is) = record { steps = b.at; prefix = subst (λ bytes. IsPrefix (written s start ks) bytes) (own_output b.at trap is ∙ simulated.lines b.at) ((trapped b.at trap is).prefix ks order) }

  rests-by : (ks : List ℕ) → IsWhole s start ks → s.trap (after s start ks) ≡ None → (b : IsBusy s own stage (suc (length ks))) → IsStage (stage b.at) → EndsWith s start text stage own ks
  rests-by ks whole none b (IsGoing is) = grind (arith, settles sound s lawful start ks is_sound whole none, caught_up, serials_at_most s)
  rests-by ks whole none b (IsDone is) =
      let all = settled b.at is in
      let count = all.whole ks whole in
      record { steps = b.at; done = is; count = count; is = all.same_end ks whole.order count; lines = all.same_output ks whole.order count ∙ sym (all.same_output (own b.at) (simulated.order b.at) refl) ∙ simulated.lines b.at }
  rests-by ks whole none b (IsFailed trap is) = absurd (some_traps s (s.trap (after s start ks)) trap ((trapped b.at trap is).same_trap ks whole) none)

  traps-by : (ks : List ℕ) (trap : Trap × ℕ) → IsOrder s start ks → s.trap (after s start ks) ≡ Some trap → (b : IsBusy s own stage (serial_count s ks)) → IsStage (stage b.at) → TrapsWith text stage trap (written s start ks)
  traps-by ks trap order is_trap b (IsGoing is) = absurd (some_traps s (s.trap (after s start ks)) trap is_trap (ahead b.at ks order is (caught_up b.at (serial_count s ks) is b.enough)).no_trap)
  traps-by ks trap order is_trap b (IsDone is) = absurd (some_traps s (s.trap (after s start ks)) trap is_trap ((settled b.at is).no_trap ks order))
  traps-by ks trap order is_trap b (IsFailed other is) =
      let whole : IsWhole s start ks = record { order = order; over = over_trap s (after s start ks) trap is_trap } in
      let all = trapped b.at other is in
      let same : other ≡ trap = same_some other trap (sym (all.same_trap ks whole) ∙ is_trap) in
      record { steps = b.at; failed = is ∙ ap Failed same; lines = all.same_output ks whole ∙ own_output b.at other is ∙ simulated.lines b.at }

  pub follows : FollowsSource s start text stage own
  follows = record {
    prefix = λ ks order. let b = simulated.busy (serial_count s ks) in prefix-by ks order b (is_stage (stage b.at));
    rests = λ ks order over none. let b = simulated.busy (suc (length ks)) in rests-by ks (record { order = order; over = over }) none b (is_stage (stage b.at));
    traps = λ ks trap order is. let b = simulated.busy (serial_count s ks) in traps-by ks trap order is b (is_stage (stage b.at));
    ends = settled;
    fails = trapped;
  }
