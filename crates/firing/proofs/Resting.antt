-- Where one order comes to rest, each does.
use Rattle.std.proofs.Common.{◌≡◌, ℕ, suc, ◌+◌, ◌++◌, List, [], ◌∷◌, length, None, refl, sym, ap, subst, ◌∙◌, append_assoc, append-nil, ⊎_elim, arith}
use Rattle.firing.specs.Laws.{IsLawful}
use Rattle.firing.specs.Moves.{Moves, line_bytes}
use Rattle.firing.specs.Orders.{IsOrder, IsOver, IsWhole, Settles, after, written}
use Rattle.firing.proofs.Pulling.{FiresIn, FiresBeside, pulled}

-- firings that lead on to this marking, so many with those before, with this output where that was written before
pub record Remains {M : Type 0} (s : Moves M) (m : M) (before n : ℕ) (end : M) (prefix output : List ℕ) : Type 0 where
  pub rest : List ℕ
  pub order : IsOrder s m rest
  pub count : before + length rest ≡ n
  pub is : after s m rest ≡ end
  pub lines : prefix ++ written s m rest ≡ output

module _ {M : Type 0} (s : Moves M) where
  -- nothing has trapped before the end of an order that ends without a trap
  pub none_before : (m : M) (ks : List ℕ) → IsOrder s m ks → s.trap (after s m ks) ≡ None → s.trap m ≡ None
  none_before m [] order none = none
  none_before m (k ∷ ks) (can, order) none = can.going

  pub nothing_left : (m : M) (ks : List ℕ) → IsOver s m → IsOrder s m ks → ks ≡ []
  nothing_left m [] over order = refl
  nothing_left m (k ∷ ks) over (can, order) = absurd (over k can)

  no_more : (m end : M) (rest : List ℕ) → length rest ≡ 0 → after s m rest ≡ end → m ≡ end
  no_more m end [] none is = is
  no_more m end (k ∷ rest) none is = absurd (omega (arith, none))

module _ {M : Type 0} (sound : M → Type 0) (s : Moves M) (lawful : IsLawful sound s) where
  no_more_lines : (m : M) (rest prefix output : List ℕ) → length rest ≡ 0 → prefix ++ written s m rest ≡ output → prefix ≡ output
  no_more_lines m [] prefix output none is = sym (append-nil prefix) ∙ is
  no_more_lines m (k ∷ rest) prefix output none is = absurd (omega (arith, none))

  remains-none : (m end : M) (ks : List ℕ) → m ≡ end → ks ≡ [] → Remains s (after s m ks) (length ks) 0 end (written s m ks) []
  remains-none m end [] is none = record { rest = []; order = tt; count = refl; is = is; lines = refl }
  remains-none m end (k ∷ ks) is none = absurd cc

  -- the order holds the first firing of the other one
  remains-in : (m : M) (k n : ℕ) (ks : List ℕ) (end : M) (output : List ℕ) (fires : FiresIn s m k ks) → Remains s (after s (s.fired m k) fires.rest) (length fires.rest) n end (written s (s.fired m k) fires.rest) output → Remains s (after s m ks) (length ks) (suc n) end (written s m ks) (line_bytes (s.line m k) ++ output)
  remains-in m k n ks end output fires r =
      grind (arith, append_assoc (line_bytes (s.line m k)) (written s (s.fired m k) fires.rest) (written s (after s (s.fired m k) fires.rest) r.rest))

  -- k's line after those of an order beside it, and more
  pub lines-beside : (m : M) (k : ℕ) (ks more : List ℕ) (output : List ℕ) (fires : FiresBeside s m k ks) → s.trap (after s m ks) ≡ None → written s (s.fired m k) ks ++ written s (after s (s.fired m k) ks) more ≡ output → written s m ks ++ written s (after s m ks) (k ∷ more) ≡ line_bytes (s.line m k) ++ output
  lines-beside m k ks more output fires none is = grind (arith, fires.same_line none, append_assoc (written s m ks), append_assoc)

  -- the first firing of the other order comes after all of this one
  remains-beside : (m : M) (k n : ℕ) (ks : List ℕ) (end : M) (output : List ℕ) → FiresBeside s m k ks → s.trap end ≡ None → Remains s (after s (s.fired m k) ks) (length ks) n end (written s (s.fired m k) ks) output → Remains s (after s m ks) (length ks) (suc n) end (written s m ks) (line_bytes (s.line m k) ++ output)
  remains-beside m k n ks end output fires none r =
      let there : s.trap (after s (s.fired m k) ks) ≡ None = none_before s (after s (s.fired m k) ks) r.rest r.order (ap s.trap r.is ∙ none) in
      record {
        rest = k ∷ r.rest;
        order = (fires.can (sym fires.same_trap ∙ there), subst (λ x. IsOrder s x r.rest) fires.is r.order);
        count = omega (arith, r.count);
        is = ap (λ x. after s x r.rest) (sym fires.is) ∙ r.is;
        lines = lines-beside m k ks r.rest output fires (sym fires.same_trap ∙ there) r.lines;
      }

  -- Whatever has fired, the rest of an order that comes to rest can.
  pub remains : (m : M) (whole ks : List ℕ) → sound m → IsOrder s m whole → IsOver s (after s m whole) → s.trap (after s m whole) ≡ None → IsOrder s m ks → Remains s (after s m ks) (length ks) (length whole) (after s m whole) (written s m ks) (written s m whole)
  remains m [] ks is_sound order over none other = remains-none m m ks refl (nothing_left s m ks over other)
  remains m (k ∷ whole) ks is_sound (can, order) over none other =
      let next = lawful.stays_sound m k is_sound can in
      let end = after s (s.fired m k) whole in
      ⊎_elim
      (λ (fires : FiresIn s m k ks). remains-in m k (length whole) ks end (written s (s.fired m k) whole) fires (remains (s.fired m k) whole fires.rest next order over none fires.order))
      (λ (fires : FiresBeside s m k ks). remains-beside m k (length whole) ks end (written s (s.fired m k) whole) fires none (remains (s.fired m k) whole ks next order over none fires.order))
      (pulled sound s lawful m k ks is_sound can (none_before s (s.fired m k) whole order none) other)

  -- ---- what follows

  pub settles : (m : M) (whole : List ℕ) → sound m → IsWhole s m whole → s.trap (after s m whole) ≡ None → Settles s m (length whole) (after s m whole)
  settles m whole is_sound all none =
      let left = λ (ks : List ℕ) (order : IsOrder s m ks). remains m whole ks is_sound all.order all.over none order in
      let end = after s m whole in
      record {
        at_most = λ ks order. let r = left ks order in omega (arith, r.count);
        no_trap = λ ks order. let r = left ks order in none_before s (after s m ks) r.rest r.order (ap s.trap r.is ∙ none);
        output = written s m whole;
        prefix = λ ks order. let r = left ks order in record { more = written s (after s m ks) r.rest; is = sym r.lines };
        same_output = λ ks order count. let r = left ks order in no_more_lines (after s m ks) r.rest (written s m ks) (written s m whole) (omega (arith, r.count, count)) r.lines;
        whole = λ ks full. let r = left ks full.order in let empty : length r.rest ≡ 0 = ap length (nothing_left s (after s m ks) r.rest full.over r.order) in omega (arith, r.count, empty);
        same_end = λ ks order count. let r = left ks order in no_more s (after s m ks) end r.rest (omega (arith, r.count, count)) r.is;
        goes_on = λ ks order k count. let r = left ks order in record { rest = r.rest; order = r.order; count = omega (arith, r.count, count); is = r.is };
      }
