-- Nodes that touch different parts of a marking, or share parts, keep the laws of firing.
use Rattle.std.proofs.Common.{◌≡◌, ◌⊎◌, inl, inr, ℕ, Bool, true, false, sym, ◌∙◌, ⊎_elim}
use Rattle.std.proofs.lemmas.Bool.{cases_Bool}
use Rattle.firing.specs.Footprints.{IsReadyAt, LooksSame, HasFootprints, IsUpdated, LooksShared, SharesFootprints}
use Rattle.firing.specs.Laws.{IsLawful, AreReady}
use Rattle.firing.specs.Moves.{Moves}
use Rattle.std.proofs.Common.{arith}

module _ {M Part : Type 0} {V : Part → Type 0} (sound : M → Type 0) (s : Moves M) (at : M → (part : Part) → V part) (foot shares : ℕ → Part → Bool) (update : ℕ → (part : Part) → V part → V part) (has : SharesFootprints sound s at foot shares update) where
  turned : (m : M) (j k : ℕ) → AreReady sound s m j k → AreReady sound s m k j
  turned m j k both = record { is_sound = both.is_sound; differ = λ e. both.differ (sym e); first = both.second; second = both.first }

  ready_at : (m : M) (j k : ℕ) → AreReady sound s m j k → IsReadyAt sound s m k
  ready_at m j k both = record { is_sound = both.is_sound; node = both.second.node; ready = both.second.ready }

  -- what a node sees at a part after another one fired
  seen : (m : M) (j k : ℕ) → AreReady sound s m j k → (part : Part) → foot k part ≡ true → (at (s.fired m j) part ≡ at m part) ⊎ IsUpdated sound s at shares update m (s.fired m j) k part
  seen m j k both part mine = grind (arith, turned m, ready_at m k)

  looks : (m : M) (j k : ℕ) → AreReady sound s m j k → LooksShared sound s at foot shares update m (s.fired m j) k
  looks m j k both = grind (arith, ready_at m j k both, seen m j k both)

  stays : (m : M) (j k : ℕ) → AreReady sound s m j k → s.ready (s.fired m j) k ≡ true
  stays m j k both = has.ready m (s.fired m j) k (looks m j k both)

  -- a node that is ready after another one fired
  still : (m : M) (j k : ℕ) → AreReady sound s m j k → IsReadyAt sound s (s.fired m j) k
  still m j k both = record { is_sound = has.stays_sound m j both.is_sound both.first; node = both.second.node; ready = stays m j k both }

  -- a part that the second node doesn't have
  only_first : (m : M) (j k : ℕ) → AreReady sound s m j k → (part : Part) → foot k part ≡ false → at (s.fired (s.fired m j) k) part ≡ at (s.fired m j) part
  only_first m j k both part not = has.outside (s.fired m j) k (still m j k both) part not

  -- a part that the first one doesn't have
  only_second : (m : M) (j k : ℕ) → AreReady sound s m j k → (part : Part) → foot j part ≡ false → foot k part ≡ true → at (s.fired (s.fired m j) k) part ≡ at (s.fired m k) part
  only_second m j k both part not mine = search (still, ready_at, turned, looks, arith)

  -- a part that both have
  in_both : (m : M) (j k : ℕ) → AreReady sound s m j k → (part : Part) → shares j part ≡ true → shares k part ≡ true → at (s.fired (s.fired m j) k) part ≡ update k part (update j part (at m part))
  in_both m j k both part first second = grind (arith, still m j k both, ready_at m k j (turned m j k both), turned m j k both)

  each_part : (m : M) (j k : ℕ) → AreReady sound s m j k → (part : Part) → at (s.fired (s.fired m j) k) part ≡ at (s.fired (s.fired m k) j) part
  each_part m j k both part = ⊎_elim
      (λ (theirs : foot j part ≡ true). ⊎_elim
      (λ (mine : foot k part ≡ true).
      let first = has.apart m k j (turned m j k both) part mine theirs in
      let second = has.apart m j k both part theirs mine in
      in_both m j k both part first second
      ∙ sym (has.commute m j k both part first second)
      ∙ sym (in_both m k j (turned m j k both) part second first))
      (λ not. only_first m j k both part not ∙ sym (only_second m k j (turned m j k both) part not theirs))
      (cases_Bool (foot k part)))
      (λ not. ⊎_elim
      (λ (mine : foot k part ≡ true). only_second m j k both part not mine ∙ sym (only_first m k j (turned m j k both) part not))
      (λ neither.
      only_first m j k both part neither
      ∙ has.outside m j (ready_at m k j (turned m j k both)) part not
      ∙ sym (has.outside m k (ready_at m j k both) part neither)
      ∙ sym (only_first m k j (turned m j k both) part not))
      (cases_Bool (foot k part)))
      (cases_Bool (foot j part))

  one : (m : M) (j k : ℕ) → AreReady sound s m j k → s.serial j ≡ true → s.serial k ≡ false
  one m j k both serial = grind arith

  pub shared_lawful : IsLawful sound s
  shared_lawful = record {
    either_order = λ m j k both. has.equal (s.fired (s.fired m j) k) (s.fired (s.fired m k) j) (each_part m j k both);
    stays_ready = stays;
    one_serial = one;
    same_line = λ m j k both none. has.line m (s.fired m j) k (looks m j k both);
    same_trap = λ m j k both none. has.trap m (s.fired m j) k (looks m j k both) both.second.going none;
    silent = has.silent;
    stays_sound = has.stays_sound;
  }

-- nothing is shared
abbrev none_shared : {Part : Type 0} → ℕ → Part → Bool
none_shared k part = false

abbrev as_was : {Part : Type 0} (V : Part → Type 0) → ℕ → (part : Part) → V part → V part
as_was V k part v = v

module _ {M Part : Type 0} {V : Part → Type 0} (sound : M → Type 0) (s : Moves M) (at : M → (part : Part) → V part) (foot : ℕ → Part → Bool) (has : HasFootprints sound s at foot) where
  agrees : (m n : M) (k : ℕ) (part : Part) → (at n part ≡ at m part) ⊎ IsUpdated sound s at none_shared (as_was V) m n k part → at n part ≡ at m part
  agrees m n k part (inl is) = is
  agrees m n k part (inr updated) = let e : false ≡ true = updated.shares_too in absurd cc

  alike : (m n : M) (k : ℕ) → LooksShared sound s at foot none_shared (as_was V) m n k → LooksSame sound s at foot m n k
  alike m n k looks = record { first = looks.first; second = looks.second; agree = λ part mine. agrees m n k part (looks.agree part mine) }

  no_part : {P : Type 0} (m : M) (j k : ℕ) → AreReady sound s m j k → (part : Part) → foot j part ≡ true → foot k part ≡ true → P
  no_part m j k both part theirs mine = let not = has.apart m j k both part theirs in let e : true ≡ false = sym mine ∙ not in absurd cc

  shares : SharesFootprints sound s at foot none_shared (as_was V)
  shares = grind (arith, alike, no_part)

  pub lawful : IsLawful sound s
  lawful = shared_lawful sound s at foot none_shared (as_was V) shares
