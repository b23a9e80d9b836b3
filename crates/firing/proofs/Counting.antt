-- An order with no more serial firings than another one has written no more.
use Rattle.std.proofs.Common.{◌≡◌, ◌≢◌, ℕ, ◌+◌, ◌++◌, ◌≤◌, true, false, List, [], ◌∷◌, None, refl, sym, ap, ◌∙◌, append_assoc, ⊎_elim, arith}
use Rattle.std.proofs.lemmas.Bool.{cases_eq, cases_Bool}
use Rattle.firing.specs.Laws.{IsLawful}
use Rattle.firing.specs.Moves.{Moves, CanFire, line_bytes}
use Rattle.firing.specs.Orders.{IsOrder, IsPrefix, WritesPrefixOf, after, counted, serial_count, written}
use Rattle.firing.proofs.Pulling.{FiresIn, FiresBeside, are_ready, still, swapped, beside_trap, pulled}
use Rattle.firing.proofs.Resting.{none_before}
use Rattle.firing.proofs.Trapping.{cases_trap}

module _ {M : Type 0} (sound : M → Type 0) (s : Moves M) (lawful : IsLawful sound s) where
  -- beside a ready node whose firing traps no serial node fires
  no_serial : (m : M) (k : ℕ) (ks : List ℕ) → sound m → CanFire s m k → s.trap (s.fired m k) ≢ None → IsOrder s m ks → s.trap (after s m ks) ≡ None → serial_count s ks ≡ 0
  no_serial m k [] is_sound can traps order none = refl
  no_serial m k (j ∷ ks) is_sound can traps (first, order) none = ⊎_elim
      (λ (same : j ≡ k).
      let there : s.trap (s.fired m j) ≢ None = λ e. traps (ap (λ i. s.trap (s.fired m i)) (sym same) ∙ e) in
      absurd (there (none_before s (s.fired m j) ks order none)))
      (λ differ.
      let both = are_ready sound s lawful m j k is_sound differ first can in
      let apart = swapped sound s lawful m j k both in
      let silent = beside_trap sound s lawful m k j apart traps in
      let next = no_serial (s.fired m j) k ks (lawful.stays_sound m j is_sound first) (still sound s lawful m j k both silent.trap) (λ e. traps (sym (lawful.same_trap m j k both silent.trap) ∙ e)) order none in
      not_serial j k ks next (λ serial. traps (lawful.silent m k is_sound can (lawful.one_serial m j k both serial)).trap))
      (cases_eq j k)
    where
      not_serial : (j k : ℕ) (ks : List ℕ) → serial_count s ks ≡ 0 → s.serial j ≢ true → serial_count s (j ∷ ks) ≡ 0
      not_serial j k ks next not = ⊎_elim
          (λ (serial : s.serial j ≡ true). absurd (not serial))
          (λ (serial : s.serial j ≡ false). let here : counted (s.serial j) ≡ 0 = ap counted serial in omega (arith, here, next))
          (cases_Bool (s.serial j))

  -- a line more before both
  prefix_after : (line a b c : List ℕ) → line ++ b ≡ c → IsPrefix a b → IsPrefix (line ++ a) c
  prefix_after line a b c is p = record { more = p.more; is = sym is ∙ ap (λ bytes. line ++ bytes) p.is ∙ sym (append_assoc line a p.more) }

  is_serial : (k : ℕ) (n : ℕ) → counted (s.serial k) + n ≤ 0 → s.serial k ≡ false
  is_serial k n le = grind arith

  -- the other order holds the first firing
  after-in : (m : M) (k : ℕ) (ks others : List ℕ) (fires : FiresIn s m k others) → WritesPrefixOf s (s.fired m k) ks fires.rest → WritesPrefixOf s m (k ∷ ks) others
  after-in m k ks others fires b = record { no_trap = b.no_trap; prefix = prefix_after (line_bytes (s.line m k)) (written s (s.fired m k) ks) (written s (s.fired m k) fires.rest) (written s m others) fires.lines b.prefix }

  -- it doesn't, and the first firing isn't serial
  after-beside : (m : M) (k : ℕ) (ks others : List ℕ) → sound m → CanFire s m k → s.serial k ≡ false → FiresBeside s m k others → WritesPrefixOf s (s.fired m k) ks others → WritesPrefixOf s m (k ∷ ks) others
  after-beside m k ks others is_sound can not fires b =
      grind (arith, prefix_after (line_bytes (s.line m k)) (written s (s.fired m k) ks) (written s (s.fired m k) others) (written s m others))

  pub writes_prefix : (m : M) (ks others : List ℕ) → sound m → IsOrder s m ks → IsOrder s m others → s.trap (after s m others) ≡ None → serial_count s ks ≤ serial_count s others → WritesPrefixOf s m ks others
  writes_prefix m [] others is_sound order other none le = record { no_trap = none_before s m others other none; prefix = record { more = written s m others; is = refl } }
  writes_prefix m (k ∷ ks) others is_sound (can, order) other none le = ⊎_elim (goes_on (λ apart mine there fewer. writes_prefix (s.fired m k) ks apart next order mine there fewer)) blocked (cases_trap s (s.trap (s.fired m k)))
    where
      next : sound (s.fired m k)
      next = lawful.stays_sound m k is_sound can

      goes_on : ((apart : List ℕ) → IsOrder s (s.fired m k) apart → s.trap (after s (s.fired m k) apart) ≡ None → serial_count s ks ≤ serial_count s apart → WritesPrefixOf s (s.fired m k) ks apart) → s.trap (s.fired m k) ≡ None → WritesPrefixOf s m (k ∷ ks) others
      goes_on further quiet = ⊎_elim
          (λ (fires : FiresIn s m k others). after-in m k ks others fires (further fires.rest fires.order (ap s.trap fires.is ∙ none) (omega (arith, le, fires.serials))))
          (λ (fires : FiresBeside s m k others).
          let not : s.serial k ≡ false = ⊎_elim
          (λ (serial : s.serial k ≡ true). let zero_others = fires.alone serial in is_serial k (serial_count s ks) (omega (arith, le, zero_others)))
          (λ (no : s.serial k ≡ false). no)
          (cases_Bool (s.serial k)) in
          after-beside m k ks others is_sound can not fires (further others fires.order (fires.same_trap ∙ none) (omega (arith, le))))
          (pulled sound s lawful m k others is_sound can quiet other)

      blocked : s.trap (s.fired m k) ≢ None → WritesPrefixOf s m (k ∷ ks) others
      blocked traps =
          let zero_others = no_serial m k others is_sound can traps other none in
          let not = is_serial k (serial_count s ks) (omega (arith, le, zero_others)) in
          absurd (traps (lawful.silent m k is_sound can not).trap)
