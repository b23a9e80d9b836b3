-- Where one order traps, each that ends traps so.
use Rattle.std.proofs.Common.{◌≡◌, ◌≢◌, ◌⊎◌, inl, inr, ℕ, ◌++◌, List, [], ◌∷◌, append-nil, Option, Some, None, refl, sym, ap, subst, ◌∙◌, append_assoc, ⊎_elim}
use Rattle.std.proofs.lemmas.Bool.{cases_eq}
use Rattle.op_table.specs.declared.Trap.{Trap}
use Rattle.firing.specs.Laws.{IsLawful, AreReady}
use Rattle.firing.specs.Moves.{Moves, CanFire, line_bytes}
use Rattle.firing.specs.Orders.{IsOrder, IsWhole, Fails, Traps, after, written}
use Rattle.firing.proofs.Pulling.{FiresIn, FiresBeside, are_ready, still, swapped, beside_trap, pulled}
use Rattle.firing.proofs.Resting.{nothing_left, lines-beside}
use Rattle.std.proofs.Common.{arith}

module _ {M : Type 0} (s : Moves M) where
  -- nothing fires after a trap
  pub stopped : (m : M) (ks : List ℕ) → s.trap m ≢ None → IsOrder s m ks → ks ≡ []
  stopped m [] traps order = refl
  stopped m (k ∷ ks) traps (can, order) = absurd (traps can.going)

  pub cases_trap : (trap : Option (Trap × ℕ)) → (trap ≡ None) ⊎ (trap ≢ None)
  cases_trap None = inl refl
  cases_trap (Some trap) = inr (λ e. absurd cc)

  pub some_traps : (trap : Option (Trap × ℕ)) (t : Trap × ℕ) → trap ≡ Some t → trap ≢ None
  some_traps None t is = absurd cc
  some_traps (Some trap) t is = λ e. absurd cc

  -- what can still fail, at the same marking and with the same output before
  fails_at : (m there : M) (trap : Trap × ℕ) (before prefix output : List ℕ) → m ≡ there → before ≡ prefix → Fails s m trap before output → Fails s there trap prefix output
  fails_at m there trap before prefix output is same fails = subst (λ x. Fails s x trap prefix output) is (subst (λ bytes. Fails s m trap bytes output) same fails)

  -- the same with a line before it
  fails_after : (m : M) (trap : Trap × ℕ) (line before output : List ℕ) → Fails s m trap before output → Fails s m trap (line ++ before) (line ++ output)
  fails_after m trap line before output fails = grind (arith, append_assoc line before (written s m fails.rest))

  no_more : (m : M) (rest before output : List ℕ) → rest ≡ [] → before ++ written s m rest ≡ output → before ≡ output
  no_more m rest before output none is = sym (append-nil before) ∙ ap (λ ks. before ++ written s m ks) (sym none) ∙ is

module _ {M : Type 0} (sound : M → Type 0) (s : Moves M) (lawful : IsLawful sound s) (trap : Trap × ℕ) where
  -- ---- a ready node whose firing traps

  -- It has fired, or it may fire and traps in the same way.
  blocked : (m : M) (k : ℕ) (ks : List ℕ) → sound m → CanFire s m k → s.trap (s.fired m k) ≡ Some trap → IsOrder s m ks → Fails s (after s m ks) trap (written s m ks) (written s m (k ∷ []))
  blocked m k [] is_sound can traps order = record { rest = k ∷ []; order = (can, tt); trapped = traps; lines = refl }
  blocked m k (j ∷ ks) is_sound can traps (first, order) = ⊎_elim
      (λ (same : j ≡ k). fired_it same)
      (λ differ. other_first (are_ready sound s lawful m j k is_sound differ first can) (λ still_can still_traps. blocked (s.fired m j) k ks (lawful.stays_sound m j is_sound first) still_can still_traps order))
      (cases_eq j k)
    where
      fired_it : j ≡ k → Fails s (after s m (j ∷ ks)) trap (written s m (j ∷ ks)) (written s m (k ∷ []))
      fired_it same =
          let there : s.trap (s.fired m j) ≡ Some trap = ap (λ i. s.trap (s.fired m i)) same ∙ traps in
          let none = stopped s (s.fired m j) ks (some_traps s (s.trap (s.fired m j)) trap there) order in
          let is : after s (s.fired m j) ks ≡ s.fired m j = ap (after s (s.fired m j)) none in
          record { rest = []; order = tt; trapped = ap s.trap is ∙ there; lines = append-nil (written s m (j ∷ ks)) ∙ ap (λ is_none. written s m (j ∷ is_none)) none ∙ ap (λ i. written s m (i ∷ [])) same }

      other_first : AreReady sound s m j k → (CanFire s (s.fired m j) k → s.trap (s.fired (s.fired m j) k) ≡ Some trap → Fails s (after s (s.fired m j) ks) trap (written s (s.fired m j) ks) (written s (s.fired m j) (k ∷ []))) → Fails s (after s m (j ∷ ks)) trap (written s m (j ∷ ks)) (written s m (k ∷ []))
      other_first both further =
          let apart = swapped sound s lawful m j k both in
          let silent = beside_trap sound s lawful m k j apart (some_traps s (s.trap (s.fired m k)) trap traps) in
          let fails = further (still sound s lawful m j k both silent.trap) (lawful.same_trap m j k both silent.trap ∙ traps) in
          let before : written s (s.fired m j) ks ≡ written s m (j ∷ ks) = ap (λ l. line_bytes l ++ written s (s.fired m j) ks) (sym silent.line) in
          subst (λ output. Fails s (after s m (j ∷ ks)) trap (written s m (j ∷ ks)) output) (ap (λ l. line_bytes l ++ []) (lawful.same_line m j k both silent.trap)) (subst (λ bytes. Fails s (after s m (j ∷ ks)) trap bytes (written s (s.fired m j) (k ∷ []))) before fails)

  -- ---- a trap that other firings lead to

  fails-beside : (m : M) (k : ℕ) (ks : List ℕ) (output : List ℕ) → FiresBeside s m k ks → Fails s (after s (s.fired m k) ks) trap (written s (s.fired m k) ks) output → Fails s (after s m ks) trap (written s m ks) (line_bytes (s.line m k) ++ output)
  fails-beside m k ks output fires fails = ⊎_elim
      (λ (none : s.trap (after s m ks) ≡ None). record {
        rest = k ∷ fails.rest;
        order = (fires.can none, subst (λ x. IsOrder s x fails.rest) fires.is fails.order);
        trapped = ap (λ x. s.trap (after s x fails.rest)) (sym fires.is) ∙ fails.trapped;
        lines = lines-beside sound s lawful m k ks fails.rest output fires none fails.lines;
      })
      (λ traps.
      let empty = stopped s (after s (s.fired m k) ks) fails.rest (λ none. traps (sym fires.same_trap ∙ none)) fails.order in
      let is : after s (after s (s.fired m k) ks) fails.rest ≡ after s (s.fired m k) ks = ap (after s (after s (s.fired m k) ks)) empty in
      record {
        rest = [];
        order = tt;
        trapped = sym fires.same_trap ∙ ap s.trap (sym is) ∙ fails.trapped;
        lines = append-nil (written s m ks)
            ∙ sym fires.same_lines
            ∙ no_more s (after s (s.fired m k) ks) fails.rest (written s (s.fired m k) ks) output empty fails.lines
            ∙ ap (λ l. line_bytes l ++ output) (sym (fires.quiet traps));
      })
      (cases_trap s (s.trap (after s m ks)))

  -- Whatever has fired, the trap of another order can still come, with its output.
  pub fails : (m : M) (other ks : List ℕ) → sound m → IsOrder s m other → s.trap (after s m other) ≡ Some trap → IsOrder s m ks → Fails s (after s m ks) trap (written s m ks) (written s m other)
  fails m [] ks is_sound order traps mine =
      grind (arith, stopped s m ks (some_traps s (s.trap m) trap traps) mine, some_traps s (s.trap m) trap traps, fails_at s m (after s m ks) trap)
  fails m (k ∷ other) ks is_sound (can, order) traps mine = ⊎_elim (goes_on (λ apart first. fails (s.fired m k) other apart next order traps first)) ends (cases_trap s (s.trap (s.fired m k)))
    where
      output : List ℕ
      output = written s (s.fired m k) other

      next : sound (s.fired m k)
      next = lawful.stays_sound m k is_sound can

      goes_on : ((apart : List ℕ) → IsOrder s (s.fired m k) apart → Fails s (after s (s.fired m k) apart) trap (written s (s.fired m k) apart) output) → s.trap (s.fired m k) ≡ None → Fails s (after s m ks) trap (written s m ks) (line_bytes (s.line m k) ++ output)
      goes_on further none = ⊎_elim
          (λ (fires : FiresIn s m k ks). fails_at s (after s (s.fired m k) fires.rest) (after s m ks) trap (written s m (k ∷ fires.rest)) (written s m ks) (line_bytes (s.line m k) ++ output) fires.is fires.lines (fails_after s (after s (s.fired m k) fires.rest) trap (line_bytes (s.line m k)) (written s (s.fired m k) fires.rest) output (further fires.rest fires.order)))
          (λ (fires : FiresBeside s m k ks). fails-beside m k ks output fires (further ks fires.order))
          (pulled sound s lawful m k ks is_sound can none mine)

      ends : s.trap (s.fired m k) ≢ None → Fails s (after s m ks) trap (written s m ks) (line_bytes (s.line m k) ++ output)
      ends trapped =
          let none = stopped s (s.fired m k) other trapped order in
          let is : after s (s.fired m k) other ≡ s.fired m k = ap (after s (s.fired m k)) none in
          subst (λ (bytes : List ℕ). Fails s (after s m ks) trap (written s m ks) bytes) (ap (λ more. line_bytes (s.line m k) ++ written s (s.fired m k) more) (sym none)) (blocked m k ks is_sound can (ap s.trap (sym is) ∙ traps) mine)

  -- ---- what follows

  pub traps : (m : M) (other : List ℕ) → sound m → IsOrder s m other → s.trap (after s m other) ≡ Some trap → Traps s m trap
  traps m other is_sound order trapped =
      let left = λ (ks : List ℕ) (mine : IsOrder s m ks). fails m other ks is_sound order trapped mine in
      let gone = λ (ks : List ℕ) (full : IsWhole s m ks). nothing_left s (after s m ks) (left ks full.order).rest full.over (left ks full.order).order in
      let still_there = λ (ks : List ℕ) (full : IsWhole s m ks). ap (after s (after s m ks)) (gone ks full) in
      record {
        same_trap = λ ks full. ap s.trap (sym (still_there ks full)) ∙ (left ks full.order).trapped;
        output = written s m other;
        same_output = λ ks full. no_more s (after s m ks) (left ks full.order).rest (written s m ks) (written s m other) (gone ks full) (left ks full.order).lines;
        prefix = λ ks mine. let f = left ks mine in record { more = written s (after s m ks) f.rest; is = sym f.lines };
        goes_on = left;
      }
