-- What holds of the lines of statements holds of the line at which their layout is refused, and want of memory refuses none.
use Rattle.std.proofs.Common.{◌≢◌, ℕ, ◌-◌, ◌<◌, Bool, true, false, if◌then◌else◌, List, [], ◌∷◌, ◌++◌, length, Option, Some, None, arith}
use Rattle.std.specs.Prelude.{IfSome, nat_lt}
use Rattle.std.specs.List.{AllByRecursion}
use Rattle.f77_tree.specs.declared.statements.Labelled.{Labelled}
use Rattle.layout_rules.specs.declared.layout_end.LayoutEnd.{LayoutEnd}
use Rattle.layout_rules.specs.declared.layout_end.LayoutEnd.TheVariants.{OutOfOrder, RealName, TypeWrong, LayoutWrong, LabelTwice, LabelMissing, BadNesting, JumpInto, TooManyWords, TooManyOps, NoMemory}
use Rattle.layout_rules.specs.declared.nesting.Opened.{Opened}
use Rattle.layout_rules.specs.Appearances.{has_real_name}
use Rattle.layout_rules.specs.Counts.{is_too_great}
use Rattle.layout_rules.specs.Faults.{first_after, first_line}
use Rattle.layout_rules.specs.Jumps.{jumps_into}
use Rattle.layout_rules.specs.Labels.{is_labelled_twice, lacks_label}
use Rattle.layout_rules.specs.Layout.{at_line, last_line, line_of_words, line_or_none, names_of, placed_names, refusal, refusals, word_count}
use Rattle.layout_rules.specs.LowestLines.{lower_or, lower_line, lowest_after, lowest_line}
use Rattle.layout_rules.specs.Nesting.{first_unnested, line_or, open_after}
use Rattle.layout_rules.specs.Order.{is_out_of_order}
use Rattle.layout_rules.specs.StorageLines.{storage_line}
use Rattle.layout_rules.specs.TypeFaults.{has_wrong_type}
use Rattle.f77_source.specs.Reading.{layout_refusal}
use Rattle.refusal_laws.proofs.Elements.{any-answer, each-found, either-answer}

module _ (P : ℕ → Type 0) where
  -- a refusal at such a line, and none for want of memory
  abbrev pub LaidAt : LayoutEnd → Type 0
  LaidAt end = (end ≢ NoMemory) × P (layout_refusal end).line

  -- statements at such lines
  abbrev pub Stand : List Labelled → Type 0
  Stand stmts = AllByRecursion (λ s. P s.line) stmts

  pub last-stands : (stmts : List Labelled) → 0 < length stmts → Stand stmts → P (last_line stmts)
  last-stands stmts some all = each-found (λ s. P s.line) (λ o. P (line_or_none o)) (λ s at. at) stmts (length stmts - 1) (omega (arith, some)) all

  -- ---- lines of faults

  if-line : (b : Bool) (line : ℕ) (other : Option ℕ) → P line → IfSome other P → IfSome (if b then Some line else other) P
  if-line true line other here more = here
  if-line false line other here more = more

  first-after : (fault : List Labelled → Labelled → Bool) (above stmts : List Labelled) → Stand stmts → IfSome (first_after fault above stmts) P
  first-after fault above [] all = tt
  first-after fault above (s ∷ rest) all = if-line (fault above s) s.line (first_after fault (above ++ s ∷ []) rest) all.0 (first-after fault (above ++ s ∷ []) rest all.1)

  pub first-stands : (fault : List Labelled → Labelled → Bool) (stmts : List Labelled) → Stand stmts → IfSome (first_line fault stmts) P
  first-stands fault stmts all = first-after fault [] stmts all

  lower : (line : ℕ) (o : Option ℕ) → P line → IfSome o P → P (lower_or line o)
  lower line None here more = here
  lower line (Some other) here more = grind (arith, here, more)

  either-line : (a b : Option ℕ) → IfSome a P → IfSome b P → IfSome (lower_line a b) P
  either-line None b first second = second
  either-line (Some line) b first second = lower line b first second

  lowest-stands : (fault : List Labelled → Labelled → Bool) (above stmts : List Labelled) → Stand stmts → IfSome (lowest_after fault above stmts) P
  lowest-stands fault above [] all = tt
  lowest-stands fault above (s ∷ rest) all =
      let more = lowest-stands fault (above ++ s ∷ []) rest all.1 in
      if-line (fault above s) (lower_or s.line (lowest_after fault (above ++ s ∷ []) rest)) (lowest_after fault (above ++ s ∷ []) rest)
      (lower s.line (lowest_after fault (above ++ s ∷ []) rest) all.0 more) more

  unnested-stands : (stack : List Opened) (stmts : List Labelled) → Stand stmts → IfSome (first_unnested stack stmts) P
  unnested-stands stack [] all = tt
  unnested-stands stack (s ∷ rest) all = by (open_after s stack) (λ beyond. unnested-stands beyond rest all.1)
    where
      by : (o : Option (List Opened)) → ((beyond : List Opened) → IfSome (first_unnested beyond rest) P) → IfSome (line_or s.line o (λ beyond. first_unnested beyond rest)) P
      by None more = all.0
      by (Some beyond) more = more beyond

  -- ---- the refusals in order

  row : (c : ℕ → LayoutEnd) → ((line : ℕ) → P line → LaidAt (c line)) → (o : Option ℕ) → IfSome o P → IfSome (at_line c o) LaidAt
  row c told None at = tt
  row c told (Some line) at = told line at

  module _ (stmts : List Labelled) (checked : Bool) (all : Stand stmts) (end : P (last_line stmts)) where
    storage-stands : IfSome (storage_line (names_of stmts) (placed_names stmts) stmts) P
    storage-stands = search (either-answer P, either-line, first-stands, lowest-stands, all)

    words-stand : IfSome (line_of_words stmts) P
    words-stand = if-line (nat_lt 262144 (word_count stmts)) (last_line stmts) None end tt

    pub laid-stands : IfSome (refusal stmts checked) LaidAt
    laid-stands = any-answer LaidAt (λ r. IfSome r LaidAt) (λ r. r) (λ r at. at) (refusals stmts checked) (
      row OutOfOrder (λ n at. (λ e. cc, at)) (first_line is_out_of_order stmts) (first-stands is_out_of_order stmts all),
      (
        row RealName (λ n at. (λ e. cc, at)) (first_line (has_real_name stmts) stmts) (first-stands (has_real_name stmts) stmts all),
        (
          row TypeWrong (λ n at. (λ e. cc, at)) (first_line (has_wrong_type (names_of stmts)) stmts) (first-stands (has_wrong_type (names_of stmts)) stmts all),
          (
            row LayoutWrong (λ n at. (λ e. cc, at)) (storage_line (names_of stmts) (placed_names stmts) stmts) storage-stands,
            (
              row LabelTwice (λ n at. (λ e. cc, at)) (first_line is_labelled_twice stmts) (first-stands is_labelled_twice stmts all),
              (
                row LabelMissing (λ n at. (λ e. cc, at)) (first_line (lacks_label stmts) stmts) (first-stands (lacks_label stmts) stmts all),
                (
                  row BadNesting (λ n at. (λ e. cc, at)) (first_unnested [] stmts) (unnested-stands [] stmts all),
                  (
                    row JumpInto (λ n at. (λ e. cc, at)) (first_line (jumps_into stmts) stmts) (first-stands (jumps_into stmts) stmts all),
                    (
                      row TooManyWords (λ n at. (λ e. cc, at)) (line_of_words stmts) words-stand,
                      (
                        row TooManyOps (λ n at. (λ e. cc, at)) (lowest_line (is_too_great (names_of stmts) checked stmts) stmts) (lowest-stands (is_too_great (names_of stmts) checked stmts) [] stmts all),
                        tt,
                      ),
                    ),
                  ),
                ),
              ),
            ),
          ),
        ),
      ),
    )
