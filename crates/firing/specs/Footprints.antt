-- Footprints: the parts of a marking that the firings of a node depend on and change. Where two ready nodes have no part in
-- common, or have only such in common as they change in either order alike, the firings commute (the diamond property).
use Rattle.std.specs.Prelude.{◌≡◌, ◌<◌, ◌⊎◌, ℕ, Bool, true, false, None}
use Rattle.firing.specs.Laws.{AreReady}
use Rattle.firing.specs.Moves.{Moves, CanFire, IsSilent}

-- a ready node at a marking that can come, where something may have trapped
pub record IsReadyAt {M : Type 0} (sound : M → Type 0) (s : Moves M) (m : M) (k : ℕ) : Type 0 where
  pub is_sound : sound m
  pub node : k < s.nodes
  pub ready : s.ready m k ≡ true

-- ---- apart

-- two markings that a node can't tell apart: they agree on its footprint
pub record LooksSame {M Part : Type 0} {V : Part → Type 0} (sound : M → Type 0) (s : Moves M) (at : M → (part : Part) → V part) (foot : ℕ → Part → Bool) (m n : M) (k : ℕ) : Type 0 where
  pub first : IsReadyAt sound s m k
  pub second : sound n
  pub agree : (part : Part) → foot k part ≡ true → at n part ≡ at m part

-- Each node has a footprint, and no two ready nodes have a part in common.
pub record HasFootprints {M Part : Type 0} {V : Part → Type 0} (sound : M → Type 0) (s : Moves M) (at : M → (part : Part) → V part) (foot : ℕ → Part → Bool) : Type 0 where
  -- markings that have equal parts are equal
  pub equal : (m n : M) → ((part : Part) → at m part ≡ at n part) → m ≡ n
  -- a firing leaves the parts outside the footprint
  pub outside : (m : M) (k : ℕ) → IsReadyAt sound s m k → (part : Part) → foot k part ≡ false → at (s.fired m k) part ≡ at m part
  -- on the footprint alone depend readiness, the line, a trap, and what a firing makes of the parts in it
  pub ready : (m n : M) (k : ℕ) → LooksSame sound s at foot m n k → s.ready n k ≡ true
  pub line : (m n : M) (k : ℕ) → LooksSame sound s at foot m n k → s.line n k ≡ s.line m k
  pub trap : (m n : M) (k : ℕ) → LooksSame sound s at foot m n k → s.trap m ≡ None → s.trap n ≡ None → s.trap (s.fired n k) ≡ s.trap (s.fired m k)
  pub inside : (m n : M) (k : ℕ) → LooksSame sound s at foot m n k → (part : Part) → foot k part ≡ true → at (s.fired n k) part ≡ at (s.fired m k) part
  -- two nodes that may both fire have no part in common
  pub apart : (m : M) (j k : ℕ) → AreReady sound s m j k → (part : Part) → foot j part ≡ true → foot k part ≡ false
  -- each serial node has this part, the line of output
  pub output : Part
  pub serial : (k : ℕ) → s.serial k ≡ true → foot k output ≡ true
  -- only serial nodes write or trap
  pub silent : (m : M) (k : ℕ) → sound m → CanFire s m k → s.serial k ≡ false → IsSilent s m k
  -- the marking after a firing can come too
  pub stays_sound : (m : M) (k : ℕ) → sound m → CanFire s m k → sound (s.fired m k)

-- ---- shared

-- Two nodes that may both fire share a part, and the second marking has there what the other node makes of it.
pub record IsUpdated {M Part : Type 0} {V : Part → Type 0} (sound : M → Type 0) (s : Moves M) (at : M → (part : Part) → V part) (shares : ℕ → Part → Bool) (update : ℕ → (part : Part) → V part → V part) (m n : M) (k : ℕ) (part : Part) : Type 0 where
  pub other : ℕ
  pub both : AreReady sound s m other k
  pub other_shares : shares other part ≡ true
  pub shares_too : shares k part ≡ true
  pub is : at n part ≡ update other part (at m part)

-- Two markings that agree on a node's footprint, but for what another node made of parts that both share.
pub record LooksShared {M Part : Type 0} {V : Part → Type 0} (sound : M → Type 0) (s : Moves M) (at : M → (part : Part) → V part) (foot shares : ℕ → Part → Bool) (update : ℕ → (part : Part) → V part → V part) (m n : M) (k : ℕ) : Type 0 where
  pub first : IsReadyAt sound s m k
  pub second : sound n
  pub agree : (part : Part) → foot k part ≡ true → (at n part ≡ at m part) ⊎ IsUpdated sound s at shares update m n k part

-- Each node has a footprint, and ready nodes may share parts of it, of which each makes something, whoever comes first.
pub record SharesFootprints {M Part : Type 0} {V : Part → Type 0} (sound : M → Type 0) (s : Moves M) (at : M → (part : Part) → V part) (foot shares : ℕ → Part → Bool) (update : ℕ → (part : Part) → V part → V part) : Type 0 where
  -- markings that have equal parts are equal
  pub equal : (m n : M) → ((part : Part) → at m part ≡ at n part) → m ≡ n
  -- a firing leaves the parts outside the footprint
  pub outside : (m : M) (k : ℕ) → IsReadyAt sound s m k → (part : Part) → foot k part ≡ false → at (s.fired m k) part ≡ at m part
  -- what it makes of a part that it shares depends on that part alone
  pub updates : (m : M) (k : ℕ) → IsReadyAt sound s m k → (part : Part) → shares k part ≡ true → at (s.fired m k) part ≡ update k part (at m part)
  -- on the footprint alone depend readiness, the line, a trap, and what a firing makes of the other parts in it; what another
  -- node makes of a shared part changes none of these
  pub ready : (m n : M) (k : ℕ) → LooksShared sound s at foot shares update m n k → s.ready n k ≡ true
  pub line : (m n : M) (k : ℕ) → LooksShared sound s at foot shares update m n k → s.line n k ≡ s.line m k
  pub trap : (m n : M) (k : ℕ) → LooksShared sound s at foot shares update m n k → s.trap m ≡ None → s.trap n ≡ None → s.trap (s.fired n k) ≡ s.trap (s.fired m k)
  pub inside : (m n : M) (k : ℕ) → LooksShared sound s at foot shares update m n k → (part : Part) → foot k part ≡ true → shares k part ≡ false → at (s.fired n k) part ≡ at (s.fired m k) part
  -- two nodes that may both fire have only parts in common that they share, and their updates of those commute
  pub apart : (m : M) (j k : ℕ) → AreReady sound s m j k → (part : Part) → foot j part ≡ true → foot k part ≡ true → shares k part ≡ true
  pub commute : (m : M) (j k : ℕ) → AreReady sound s m j k → (part : Part) → shares j part ≡ true → shares k part ≡ true → update j part (update k part (at m part)) ≡ update k part (update j part (at m part))
  -- each serial node has this part, the line of output, and doesn't share it
  pub output : Part
  pub serial : (k : ℕ) → s.serial k ≡ true → foot k output ≡ true
  pub alone : (k : ℕ) → s.serial k ≡ true → shares k output ≡ false
  -- only serial nodes write or trap
  pub silent : (m : M) (k : ℕ) → sound m → CanFire s m k → s.serial k ≡ false → IsSilent s m k
  -- the marking after a firing can come too
  pub stays_sound : (m : M) (k : ℕ) → sound m → CanFire s m k → sound (s.fired m k)
