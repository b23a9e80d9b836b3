-- Where the token lines stand after so many operations of a piece, and how many operations they have passed.
use Rattle.std.proofs.Common.{◌≡◌, ◌<◌, ◌≤◌, ◌⊎◌, ℕ, suc, ◌==◌, Bool, true, false, if◌then◌else◌, List, replicate, Option, Some, slice_get, slice_index, refl, sym, ap, ◌∙◌, inl, inr, eqb-true, eq-eqb, arith}
use Rattle.std.proofs.lemmas.Bool.{cases_Bool}
use Rattle.net_board.specs.Tokens.{led_from, with_all}
use Rattle.net_board.proofs.ListPlaces.{put, with_all_other, with_all_same}
use Rattle.op_board.specs.OperationNets.{OperationNet, is_last_at, last_needed, needed, needing_before, operation_count}
use Rattle.op_board.specs.OperationTokens.{replaced}
use Rattle.op_board.proofs.NeededLines.{amid_passed, amid_state, last_has, last_in, line_state, needed_has, needed_in, one_more, passed_state, passing_more, passing_some, through_passed, through_state}
use Rattle.op_board.proofs.ReplacedItems.{get_replicate, index_is, replaced_other, replaced_same}

pub low_or_high : (a b : ℕ) → (a < b) ⊎ (b ≤ a)
low_or_high a b = grind arith

-- a line that has passed n operations passes one more
led_more : {X : Type 0} (n all : ℕ) (led : X) (old : Option X) (last : Bool) → (all == suc n) ≡ last → n < all → (if last then put led old else old) ≡ line_state (suc n) all led old
led_more n all led old true is low = let e = eqb-true all (suc n) is in sym (through_state (suc n) all led old (sym e) (omega arith))
led_more n all led old false is low = sym (amid_state (suc n) all led old (less (all == suc n) refl is))
  where
    less : (b : Bool) → (all == suc n) ≡ b → b ≡ false → suc n < all
    less b same not_so = by (low_or_high (suc n) all)
      where
        by : (suc n < all) ⊎ (all ≤ suc n) → suc n < all
        by (inl h) = h
        by (inr h) =
            let e : all ≡ suc n = omega (arith, h, low) in
            let clash : true ≡ false = sym (eq-eqb all (suc n) e) ∙ is in
            absurd cc

passed_more : (n all : ℕ) (last : Bool) → (all == suc n) ≡ last → n < all → (if last then 0 else suc n) ≡ passed_state (suc n) all
passed_more n all true is low = let e = eqb-true all (suc n) is in sym (through_passed (suc n) all (sym e))
passed_more n all false is low = sym (amid_passed (suc n) all (less (low_or_high (suc n) all)))
  where
    less : (suc n < all) ⊎ (all ≤ suc n) → suc n < all
    less (inl h) = h
    less (inr h) =
        let e : all ≡ suc n = omega (arith, h, low) in
        let clash : true ≡ false = sym (eq-eqb all (suc n) e) ∙ is in
        absurd cc

abbrev no_more : ℕ
no_more = 0

none_passed : (b : Bool) → (if b then no_more else no_more) ≡ no_more
none_passed true = refl
none_passed false = refl

module _ (x : OperationNet) (piece : ℕ) where
  -- so many of the operations before this one need the line, of so many in all
  abbrev pub before_it : (i line : ℕ) → ℕ
  before_it i line = needing_before x piece i line

  abbrev pub in_all : (line : ℕ) → ℕ
  in_all line = needing_before x piece (operation_count x piece) line

  needs_more : (i line : ℕ) → x.needs piece i line ≡ true → before_it (suc i) line ≡ suc (before_it i line)
  needs_more i line is = passing_more (λ j. x.needs piece j line) i ∙ ap (λ (b : Bool). one_more b (before_it i line)) is

  needs_no_more : (i line : ℕ) → x.needs piece i line ≡ false → before_it (suc i) line ≡ before_it i line
  needs_no_more i line is = passing_more (λ j. x.needs piece j line) i ∙ ap (λ (b : Bool). one_more b (before_it i line)) is

  pub needs_low : (i line : ℕ) → i < operation_count x piece → x.needs piece i line ≡ true → before_it i line < in_all line
  needs_low i line low is = passing_some (λ j. x.needs piece j line) i (operation_count x piece) low is

  -- ---- lines

  module _ (old : List (Option ℕ)) (exit : ℕ) where
    pub record AreLines (i : ℕ) (lines : List (Option ℕ)) : Type 0 where
      pub inside : (line : ℕ) → line < x.net.routing.lines → slice_get lines line ≡ line_state (before_it i line) (in_all line) (led_from x.net exit line) (slice_get old line)
      pub outside : (line : ℕ) → x.net.routing.lines ≤ line → slice_get lines line ≡ slice_get old line

    pub first_lines : AreLines 0 old
    first_lines = record { inside = λ line low. refl; outside = λ line high. refl }

    pub next_lines : (i : ℕ) (lines : List (Option ℕ)) (edge : ℕ) → i < operation_count x piece → ((line : ℕ) → x.needs piece i line ≡ true → is_last_at x piece i line ≡ true → edge ≡ exit) → AreLines i lines → AreLines (suc i) (with_all lines (last_needed x piece i) (led_from x.net edge))
    next_lines i lines edge low same are = record {
      inside = λ line line_low. by line line_low (cases_Bool (x.needs piece i line));
      outside = λ line high. with_all_other lines (last_needed x piece i) (led_from x.net edge) line (λ m. let h = (last_has x piece i line m).0 in omega (arith, h, high)) ∙ are.outside line high;
    }
      where
        by : (line : ℕ) → line < x.net.routing.lines → (x.needs piece i line ≡ true) ⊎ (x.needs piece i line ≡ false) → slice_get (with_all lines (last_needed x piece i) (led_from x.net edge)) line ≡ line_state (before_it (suc i) line) (in_all line) (led_from x.net exit line) (slice_get old line)
        by line line_low (inr no_need) =
            with_all_other lines (last_needed x piece i) (led_from x.net edge) line (λ m. let h : true ≡ false = sym ((last_has x piece i line m).1) ∙ no_need in absurd cc)
            ∙ are.inside line line_low
            ∙ ap (λ (n : ℕ). line_state n (in_all line) (led_from x.net exit line) (slice_get old line)) (sym (needs_no_more i line no_need))
        by line line_low (inl need) =
            let less = needs_low i line low need in
            let stands : slice_get lines line ≡ slice_get old line = are.inside line line_low ∙ amid_state (before_it i line) (in_all line) (led_from x.net exit line) (slice_get old line) less in
            moved (is_last_at x piece i line) refl stands
            ∙ led_more (before_it i line) (in_all line) (led_from x.net exit line) (slice_get old line) (is_last_at x piece i line) refl less
            ∙ ap (λ (n : ℕ). line_state n (in_all line) (led_from x.net exit line) (slice_get old line)) (sym (needs_more i line need))
          where
            moved : (last : Bool) → is_last_at x piece i line ≡ last → slice_get lines line ≡ slice_get old line → slice_get (with_all lines (last_needed x piece i) (led_from x.net edge)) line ≡ (if last then put (led_from x.net exit line) (slice_get old line) else slice_get old line)
            moved true is stands =
                with_all_same lines (last_needed x piece i) (led_from x.net edge) line (last_in x piece i line line_low need is)
                ∙ ap (λ (d : ℕ). put (led_from x.net d line) (slice_get lines line)) (same line need is)
                ∙ ap (put (led_from x.net exit line)) stands
            moved false is stands = with_all_other lines (last_needed x piece i) (led_from x.net edge) line (λ m. let h : true ≡ false = sym ((last_has x piece i line m).2) ∙ is in absurd cc) ∙ stands

  -- ---- how many operations a line has passed

  pub record ArePassed (i : ℕ) (passed : List ℕ) : Type 0 where
    pub inside : (line : ℕ) → line < x.net.routing.lines → slice_get passed line ≡ Some (passed_state (before_it i line) (in_all line))
    pub outside : (line : ℕ) → x.net.routing.lines ≤ line → slice_get passed line ≡ slice_get (replicate x.net.routing.lines 0) line

  pub first_passed : ArePassed 0 (replicate x.net.routing.lines 0)
  first_passed = record { inside = λ line low. get_replicate x.net.routing.lines line 0 low ∙ ap (λ (n : ℕ). Some n) (sym (none_passed (0 == in_all line))); outside = λ line high. refl }

  pub next_passed : (i : ℕ) (passed : List ℕ) → i < operation_count x piece → ArePassed i passed → ArePassed (suc i) (replaced passed (needed x piece i) (λ line. if is_last_at x piece i line then 0 else suc (slice_index passed line)))
  next_passed i passed low are = record {
    inside = λ line line_low. by line line_low (cases_Bool (x.needs piece i line));
    outside = λ line high. replaced_other passed (needed x piece i) (λ l. if is_last_at x piece i l then 0 else suc (slice_index passed l)) line (λ m. let h = (needed_has x piece i line m).0 in omega (arith, h, high)) ∙ are.outside line high;
  }
    where
      by : (line : ℕ) → line < x.net.routing.lines → (x.needs piece i line ≡ true) ⊎ (x.needs piece i line ≡ false) → slice_get (replaced passed (needed x piece i) (λ l. if is_last_at x piece i l then 0 else suc (slice_index passed l))) line ≡ Some (passed_state (before_it (suc i) line) (in_all line))
      by line line_low (inr no_need) =
          replaced_other passed (needed x piece i) (λ l. if is_last_at x piece i l then 0 else suc (slice_index passed l)) line (λ m. let h : true ≡ false = sym ((needed_has x piece i line m).1) ∙ no_need in absurd cc)
          ∙ are.inside line line_low
          ∙ ap (λ (n : ℕ). Some (passed_state n (in_all line))) (sym (needs_no_more i line no_need))
      by line line_low (inl need) =
          let less = needs_low i line low need in
          let stands : slice_get passed line ≡ Some (before_it i line) = are.inside line line_low ∙ ap (λ (n : ℕ). Some n) (amid_passed (before_it i line) (in_all line) less) in
          replaced_same passed (needed x piece i) (λ l. if is_last_at x piece i l then 0 else suc (slice_index passed l)) line (needed_in x piece i line line_low need)
          ∙ ap (λ o. put (if is_last_at x piece i line then 0 else suc (slice_index passed line)) o) stands
          ∙ ap (λ (n : ℕ). Some (if is_last_at x piece i line then 0 else suc n)) (index_is passed line (before_it i line) stands)
          ∙ ap (λ (n : ℕ). Some n) (passed_more (before_it i line) (in_all line) (is_last_at x piece i line) refl less)
          ∙ ap (λ (n : ℕ). Some (passed_state n (in_all line))) (sym (needs_more i line need))
