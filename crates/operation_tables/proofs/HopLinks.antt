-- Lines that differ, as they are linked one after another.
use Rattle.std.proofs.Common.{◌≡◌, ◌≢◌, ⊎_elim, ℕ, suc, ◌+◌, ◌<◌, ◌==◌, ◌||◌, Bool, true, false, if◌then◌else◌, List, [], ◌∷◌, length, map, take, set, get_or, Option, refl, sym, ap, ◌∙◌, eq-eqb, arith}
use Rattle.std.specs.List.{list_any}
use Rattle.std.specs.List.Sorted.{IsStrictlyIncreasing}
use Rattle.std.proofs.Math.Bool.{or-false}
use Rattle.std.proofs.lemmas.Bool.{cases_eq, ne_eqb, or_from}
use Rattle.std.proofs.lemmas.List.{get_or-map, get_or-take, length-map, length-take-le, take_more}
use Rattle.std.proofs.lemmas.List.Folds.{list_any-append}
use Rattle.std.proofs.lemmas.List.Kept.{AllPairs-from_increasing}
use Rattle.operation_tables.specs.declared.hops.Hop.{Hop}
use Rattle.operation_tables.specs.declared.hops.Scratch.{Scratch}
use Rattle.operation_tables.specs.ScratchLines.{first_at, linked}
use Rattle.operation_tables.proofs.HopFronts.{front_at, front_mapped, front_next}

no_any : {X : Type 0} (p : X → Bool) (xs : List X) → ((k : ℕ) (d : X) → k < length xs → p (get_or xs k d) ≡ false) → list_any p xs ≡ false
no_any p [] none = refl
no_any p (x ∷ xs) none = or_from (p x) (list_any p xs) (none 0 x (omega arith)) (no_any p xs (λ k d low. none (suc k) d (omega (arith, low))))

abbrev pub line_of : Hop → ℕ
line_of hop = hop.line

abbrev pub has_line : (line : ℕ) → Hop → Bool
has_line line hop = hop.line == line

module _ (xs : List Hop) (j : ℕ) (d : Hop) (low : j < length xs) where
  -- no line before the next one is the same
  pub lines_apart : IsStrictlyIncreasing (map line_of xs) → list_any (has_line (line_of (get_or xs j d))) (take j xs) ≡ false
  lines_apart rising = no_any (has_line (line_of (get_or xs j d))) (take j xs) by
    where
      by : (k : ℕ) (e : Hop) → k < length (take j xs) → has_line (line_of (get_or xs j d)) (get_or (take j xs) k e) ≡ false
      by k e inside =
          let size = length-take-le j xs (omega (arith, low)) in
          let before : k < j = omega (arith, inside, size) in
          let all : length (map line_of xs) ≡ length xs = length-map xs line_of in
          let less = AllPairs-from_increasing (map line_of xs) rising k j 0 before (omega (arith, low, all)) in
          let one = get_or-map line_of xs k e 0 (omega (arith, low, before)) in
          let other = get_or-map line_of xs j d 0 low in
          let taken = get_or-take j xs k e before in
          rw taken (ne_eqb (line_of (get_or xs k e)) (line_of (get_or xs j d)) (λ same. omega (arith, less, one, other, same)))

  any_more : (line : ℕ) → list_any (has_line line) (take (j + 1) xs) ≡ (list_any (has_line line) (take j xs) || has_line line (get_or xs j d))
  any_more line = ap (list_any (has_line line)) (take_more xs j d low) ∙ list_any-append (has_line line) (take j xs) (get_or xs j d ∷ []) ∙ ap (λ b. list_any (has_line line) (take j xs) || b) (or-false (has_line line (get_or xs j d)))

  -- the line of the next hop is told, and others are as they were
  pub firsts_more : {T : Type 0} (told : T) (old mid new : ℕ → T) → ((line : ℕ) → mid line ≡ if list_any (has_line line) (take j xs) then told else old line) → new (line_of (get_or xs j d)) ≡ told → ((line : ℕ) → line ≢ line_of (get_or xs j d) → new line ≡ mid line) → (line : ℕ) → new line ≡ if list_any (has_line line) (take (j + 1) xs) then told else old line
  firsts_more told old mid new was here others line = ⊎_elim
      (λ (same : line ≡ line_of (get_or xs j d)).
      let hit : has_line line (get_or xs j d) ≡ true = eq-eqb (line_of (get_or xs j d)) line (sym same) in
      ap new same ∙ here ∙ sym (ap (λ b. if b then told else old line) (any_more line ∙ ap (λ b. list_any (has_line line) (take j xs) || b) hit ∙ or_true (list_any (has_line line) (take j xs)))))
      (λ (apart : line ≢ line_of (get_or xs j d)).
      let miss : has_line line (get_or xs j d) ≡ false = ne_eqb (line_of (get_or xs j d)) line (λ same. apart (sym same)) in
      others line apart ∙ was line ∙ sym (ap (λ b. if b then told else old line) (any_more line ∙ ap (λ b. list_any (has_line line) (take j xs) || b) miss ∙ or-false (list_any (has_line line) (take j xs)))))
      (cases_eq line (line_of (get_or xs j d)))
    where
      or_true : (b : Bool) → (b || true) ≡ true
      or_true true = refl
      or_true false = refl

-- ---- a hop that is linked

module _ (s : Scratch) (old hops : List Hop) (j : ℕ) (front : hops ≡ front_mapped (linked s) j old) where
  pub next_hop : (hop : Hop) → hop ≡ get_or hops j hop → hop ≡ get_or old j hop
  next_hop hop is = is ∙ ap (λ (xs : List Hop). get_or xs j hop) front ∙ front_at (linked s) j old hop

  pub next_linked : (hop : Hop) (next : Option ℕ) → j < length old → hop ≡ get_or hops j hop → next ≡ first_at s hop.line → set hops j (record hop { next = next }) ≡ front_mapped (linked s) (j + 1) old
  next_linked hop next low is next_is =
      ap (λ (xs : List Hop). set xs j (record hop { next = next })) front
      ∙ ap (λ (h : Hop). set (front_mapped (linked s) j old) j h) (ap (λ (n : Option ℕ). record hop { next = n }) next_is ∙ ap (linked s) (next_hop hop is))
      ∙ front_next (linked s) j old hop low
