-- A node that may fire can as well fire first.
use Rattle.std.proofs.Common.{◌≡◌, ◌≢◌, ◌⊎◌, inl, inr, ℕ, suc, ◌+◌, true, arith, ◌++◌, List, [], ◌∷◌, length, Option, None, refl, sym, ap, subst, ◌∙◌, append-nil, append_assoc, ⊎_elim}
use Rattle.std.proofs.lemmas.Bool.{cases_eq}
use Rattle.firing.specs.Laws.{IsLawful, AreReady}
use Rattle.firing.specs.Moves.{Moves, CanFire, IsSilent, line_bytes}
use Rattle.firing.specs.Orders.{IsOrder, after, counted, serial_count, written}

-- k fires in this order: with k first, the rest is an order that leads to the same marking
pub record FiresIn {M : Type 0} (s : Moves M) (m : M) (k : ℕ) (ks : List ℕ) : Type 0 where
  pub rest : List ℕ
  pub order : IsOrder s (s.fired m k) rest
  pub count : length ks ≡ suc (length rest)
  pub is : after s (s.fired m k) rest ≡ after s m ks
  pub serials : serial_count s ks ≡ counted (s.serial k) + serial_count s rest
  pub lines : written s m (k ∷ rest) ≡ written s m ks

-- k doesn't fire in this order: it may fire before it, or after it, with the same trap and output
pub record FiresBeside {M : Type 0} (s : Moves M) (m : M) (k : ℕ) (ks : List ℕ) : Type 0 where
  pub order : IsOrder s (s.fired m k) ks
  pub is : after s (s.fired m k) ks ≡ s.fired (after s m ks) k
  pub can : s.trap (after s m ks) ≡ None → CanFire s (after s m ks) k
  pub same_trap : s.trap (after s (s.fired m k) ks) ≡ s.trap (after s m ks)
  pub same_lines : written s (s.fired m k) ks ≡ written s m ks
  -- its line can stand before theirs or after them
  pub swap : line_bytes (s.line m k) ++ written s m ks ≡ written s m ks ++ line_bytes (s.line m k)
  pub same_line : s.trap (after s m ks) ≡ None → s.line (after s m ks) k ≡ s.line m k
  pub quiet : s.trap (after s m ks) ≢ None → s.line m k ≡ None
  pub alone : s.serial k ≡ true → serial_count s ks ≡ 0

module _ {M : Type 0} (sound : M → Type 0) (s : Moves M) (lawful : IsLawful sound s) where
  pub are_ready : (m : M) (j k : ℕ) → sound m → j ≢ k → CanFire s m j → CanFire s m k → AreReady sound s m j k
  are_ready m j k is_sound differ first second = record { is_sound = is_sound; differ = differ; first = first; second = second }

  -- a node stays ready while another fires
  pub still : (m : M) (j k : ℕ) → AreReady sound s m j k → s.trap (s.fired m j) ≡ None → CanFire s (s.fired m j) k
  still m j k both none = record { going = none; node = both.second.node; ready = lawful.stays_ready m j k both }

  pub swapped : (m : M) (j k : ℕ) → AreReady sound s m j k → AreReady sound s m k j
  swapped m j k both = record { is_sound = both.is_sound; differ = λ e. both.differ (sym e); first = both.second; second = both.first }

  -- beside a firing that traps the other nodes are silent
  pub beside_trap : (m : M) (j k : ℕ) → AreReady sound s m j k → s.trap (s.fired m j) ≢ None → IsSilent s m k
  beside_trap m j k both traps = grind arith

  -- of two nodes one is silent, so their lines can be swapped
  one_line : (a b : List ℕ) (line : Option (List ℕ)) → line ≡ None → a ++ (line_bytes line ++ b) ≡ line_bytes line ++ (a ++ b)
  one_line a b line none = ap (λ l. a ++ (line_bytes l ++ b)) none ∙ sym (ap (λ l. line_bytes l ++ (a ++ b)) none)

  swap_lines : (m : M) (j k : ℕ) (more : List ℕ) → AreReady sound s m j k → line_bytes (s.line m j) ++ (line_bytes (s.line m k) ++ more) ≡ line_bytes (s.line m k) ++ (line_bytes (s.line m j) ++ more)
  swap_lines m j k more both =
      grind (arith, one_line (line_bytes (s.line m j)) more (s.line m k), one_line (line_bytes (s.line m k)) more (s.line m j))

  -- what k, j and then others write, is what j, k and then those write
  swap_written : (m : M) (j k : ℕ) (rest : List ℕ) → AreReady sound s m j k → s.trap (s.fired m j) ≡ None → s.trap (s.fired m k) ≡ None → written s m (k ∷ j ∷ rest) ≡ written s m (j ∷ k ∷ rest)
  swap_written m j k rest both none_j none_k = grind (arith, swapped m j k both, swap_lines m j k)

  -- ---- one firing more first

  in-first : (m : M) (k : ℕ) (ks : List ℕ) → IsOrder s m (k ∷ ks) → FiresIn s m k (k ∷ ks)
  in-first m k ks (can, order) = record { rest = ks; order = order; count = refl; is = refl; serials = refl; lines = refl }

  in-later : (m : M) (j k : ℕ) (ks : List ℕ) → AreReady sound s m j k → s.trap (s.fired m j) ≡ None → s.trap (s.fired m k) ≡ None → FiresIn s (s.fired m j) k ks → FiresIn s m k (j ∷ ks)
  in-later m j k ks both none_j none fires = record {
    rest = j ∷ fires.rest;
    order = (still m k j (swapped m j k both) none, subst (λ x. IsOrder s x fires.rest) (lawful.either_order m j k both) fires.order);
    count = ap suc fires.count;
    is = ap (λ x. after s x fires.rest) (sym (lawful.either_order m j k both)) ∙ fires.is;
    serials = omega (arith, fires.serials);
    lines = swap_written m j k fires.rest both none_j none ∙ ap (λ bytes. line_bytes (s.line m j) ++ bytes) fires.lines;
  }

  beside-none : (m : M) (k : ℕ) → CanFire s m k → s.trap (s.fired m k) ≡ None → FiresBeside s m k []
  beside-none m k can none = grind (arith, append-nil (line_bytes (s.line m k)))

  swap_one : (m : M) (j k : ℕ) → AreReady sound s m j k → line_bytes (s.line m k) ++ written s m (j ∷ []) ≡ written s m (j ∷ []) ++ line_bytes (s.line m k)
  swap_one m j k both = grind (arith, swap_lines m j k, append-nil (line_bytes (s.line m k)), append-nil (line_bytes (s.line m j)))

  beside-one : (m : M) (j k : ℕ) → AreReady sound s m j k → s.trap (s.fired m k) ≡ None → FiresBeside s m k (j ∷ [])
  beside-one m j k both none =
      grind (arith, still m k j (swapped m j k both) none, swapped m j k both, still m j k both, swap_one m j k both, beside_trap m j k both)

  beside-later : (m : M) (j k : ℕ) (ks : List ℕ) → AreReady sound s m j k → s.trap (s.fired m j) ≡ None → s.trap (s.fired m k) ≡ None → FiresBeside s (s.fired m j) k ks → FiresBeside s m k (j ∷ ks)
  beside-later m j k ks both none_j none fires =
      grind (arith, still m k j (swapped m j k both) none, swapped m j k both, swap_lines m j k, append_assoc)

  pulled-on : (m : M) (j k : ℕ) (ks : List ℕ) → AreReady sound s m j k → s.trap (s.fired m k) ≡ None → IsOrder s (s.fired m j) ks → (CanFire s (s.fired m j) k → s.trap (s.fired (s.fired m j) k) ≡ None → FiresIn s (s.fired m j) k ks ⊎ FiresBeside s (s.fired m j) k ks) → FiresIn s m k (j ∷ ks) ⊎ FiresBeside s m k (j ∷ ks)
  pulled-on m j k [] both none order further = inr (beside-one m j k both none)
  pulled-on m j k (i ∷ ks) both none (next, order) further =
      grind (arith, in-later m j k (i ∷ ks) both next.going none, beside-later m j k (i ∷ ks) both next.going none, still m j k both next.going)

  -- A node that may fire and doesn't trap can as well fire before the firings of an order, or beside them.
  pub pulled : (m : M) (k : ℕ) (ks : List ℕ) → sound m → CanFire s m k → s.trap (s.fired m k) ≡ None → IsOrder s m ks → FiresIn s m k ks ⊎ FiresBeside s m k ks
  pulled m k [] is_sound can none order = inr (beside-none m k can none)
  pulled m k (j ∷ ks) is_sound can none (first, order) = ⊎_elim
      (λ (same : j ≡ k). inl (subst (λ i. FiresIn s m i (j ∷ ks)) same (in-first m j ks (first, order))))
      (λ differ. pulled-on m j k ks (are_ready m j k is_sound differ first can) none order (λ still_can still_none. pulled (s.fired m j) k ks (lawful.stays_sound m j is_sound first) still_can still_none order))
      (cases_eq j k)
