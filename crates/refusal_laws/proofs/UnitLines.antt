-- What holds of the lines of a text holds of the line at which its units are refused, and want of memory refuses none.
use Rattle.std.proofs.Common.{◌≢◌, ℕ, zero, suc, ◌<◌, Bool, true, false, List, [], ◌∷◌, length, Option, Some, None, arith}
use Rattle.std.specs.Prelude.{IfSome, nat_lt}
use Rattle.std.specs.List.{AllByRecursion, list_any, range_with_len}
use Rattle.f77_tree.specs.declared.statements.Labelled.{Labelled}
use Rattle.layout_rules.specs.declared.layout_end.LayoutEnd.{LayoutEnd}
use Rattle.layout_rules.specs.declared.layout_end.LayoutEnd.TheVariants.{NoMemory as LayoutNoMemory}
use Rattle.layout_rules.specs.Declarations.{all_commons}
use Rattle.layout_rules.specs.Faults.{first_answer, first_line}
use Rattle.layout_rules.specs.Layout.{last_line, line_or_none, refusal}
use Rattle.program_units.specs.declared.sub_end.SubEnd.{SubEnd}
use Rattle.program_units.specs.declared.sub_end.SubEnd.TheVariants.{UnitOrder, Layout, SubTwice, NoSub, BadCall, BadBlock, Recursion, TooManyStatements, TooManyNames, NoMemory}
use Rattle.program_units.specs.Expansion.{total_width}
use Rattle.program_units.specs.Refusals.{bad_block, end_at, first_line_if, has_bad_call, has_great_name, is_mismatched_part, is_out_of_unit, is_sub_again, lacks_sub, layout_end, layout_end_of, main_line_if, recursion, unit_refusal, unit_refusals}
use Rattle.program_units.specs.Units.{in_first, reaches, stand_in, standing_in, unit_at, unit_or_none, units}
use Rattle.f77_source.specs.Reading.{sub_refusal}
use Rattle.refusal_laws.proofs.Elements.{any-answer, each-found, each-map, each-range}
use Rattle.refusal_laws.proofs.LaidLines.{LaidAt, Stand, first-stands, laid-stands, last-stands}

module _ (P : ℕ → Type 0) where
  -- a refusal at such a line, and none for want of memory
  abbrev pub UnitAt : SubEnd → Type 0
  UnitAt end = (end ≢ NoMemory) × (end ≢ Layout LayoutNoMemory) × P (sub_refusal end).line

  -- ---- units

  -- a unit at such lines
  abbrev pub IsUnitAt : List Labelled → Type 0
  IsUnitAt u = (0 < length u) × Stand P u

  abbrev At : Labelled → Type 0
  At s = P s.line

  in-first : (s : Labelled) (us : List (List Labelled)) → P s.line → AllByRecursion IsUnitAt us → AllByRecursion IsUnitAt (in_first s us)
  in-first s [] at all = ((omega arith, (at, tt)), tt)
  in-first s (u ∷ us) at all = ((omega arith, (at, all.0.1)), all.1)

  pub units-stand : (stmts : List Labelled) → Stand P stmts → AllByRecursion IsUnitAt (units stmts)
  units-stand [] all = tt
  units-stand (s ∷ rest) all = grind (arith, in-first s (units rest), units-stand rest, all)

  -- a unit, or none
  pub stands-there : (us : List (List Labelled)) → AllByRecursion IsUnitAt us → (k : ℕ) → Stand P (unit_at us k)
  stands-there [] all k = tt
  stands-there (u ∷ us) all zero = all.0.1
  stands-there (u ∷ us) all (suc k) = stands-there us all.1 k

  -- ---- refusals

  row : (c : ℕ → SubEnd) → ((line : ℕ) → P line → UnitAt (c line)) → (o : Option ℕ) → IfSome o P → IfSome (end_at c o) UnitAt
  row c told None at = tt
  row c told (Some line) at = told line at

  laid-row : (o : Option LayoutEnd) → IfSome o (LaidAt P) → IfSome (layout_end_of o) UnitAt
  laid-row None at = tt
  laid-row (Some end) at = (λ e. cc, λ e. at.0 cc, at.1)

  some-standing : (u : List Labelled) → 0 < length u → 0 < length (standing_in u)
  some-standing [] some = some
  some-standing (s ∷ rest) some = omega arith

  laid-unit : (checked : Bool) (u : List Labelled) → IsUnitAt u → IfSome (layout_end u checked) UnitAt
  laid-unit checked u unit =
      let all : Stand P (standing_in u) = each-map At At (λ (s : Labelled). record s { stmt = stand_in s.stmt }) (λ s at. at) u unit.1 in
      laid-row (refusal (standing_in u) checked) (laid-stands P (standing_in u) checked all (last-stands P (standing_in u) (some-standing u unit.0) all))

  if-first : (b : Bool) (u : List Labelled) → IsUnitAt u → IfSome (first_line_if b u) P
  if-first true u unit = each-found At (λ o. P (line_or_none o)) (λ s at. at) u 0 unit.0 unit.1
  if-first false u unit = tt

  if-main : (us : List (List Labelled)) (b : Bool) → P (last_line (unit_at us 0)) → IfSome (main_line_if us b) P
  if-main us true end = end
  if-main us false end = tt

  module _ (stmts : List Labelled) (checked : Bool) (all : Stand P stmts) (end : P (last_line (unit_at (units stmts) 0))) where
    abbrev us : List (List Labelled)
    us = units stmts

    stood : AllByRecursion IsUnitAt us
    stood = units-stand stmts all

    blocks-stand : IfSome (first_answer (bad_block us) us) P
    blocks-stand = any-answer P IsUnitAt (bad_block us) (λ u unit. if-first (list_any (is_mismatched_part us u) (all_commons u)) u unit) us stood

    calls-stand : IfSome (first_answer (recursion us) (range_with_len 0 (length us))) P
    calls-stand = any-answer P (λ k. k < length us) (recursion us)
        (λ k within. if-first (reaches us (length us) k k) (unit_at us k) (each-found IsUnitAt (λ o. IsUnitAt (unit_or_none o)) (λ u unit. unit) us k within stood))
        (range_with_len 0 (length us)) (each-range (λ k. k < length us) 0 (length us) (λ k within. omega (arith, within)))

    layouts-stand : IfSome (first_answer (λ u. layout_end u checked) us) UnitAt
    layouts-stand = any-answer UnitAt IsUnitAt (λ u. layout_end u checked) (laid-unit checked) us stood

    pub unit-stands : IfSome (unit_refusal stmts checked) UnitAt
    unit-stands = any-answer UnitAt (λ r. IfSome r UnitAt) (λ r. r) (λ r at. at) (unit_refusals stmts us checked) (
      row UnitOrder (λ n at. (λ e. cc, λ e. cc, at)) (first_line is_out_of_unit stmts) (first-stands P is_out_of_unit stmts all),
      (
        layouts-stand,
        (
          row SubTwice (λ n at. (λ e. cc, λ e. cc, at)) (first_line is_sub_again stmts) (first-stands P is_sub_again stmts all),
          (
            row NoSub (λ n at. (λ e. cc, λ e. cc, at)) (first_line (lacks_sub stmts) stmts) (first-stands P (lacks_sub stmts) stmts all),
            (
              row BadCall (λ n at. (λ e. cc, λ e. cc, at)) (first_line (has_bad_call us) stmts) (first-stands P (has_bad_call us) stmts all),
              (
                row BadBlock (λ n at. (λ e. cc, λ e. cc, at)) (first_answer (bad_block us) us) blocks-stand,
                (
                  row Recursion (λ n at. (λ e. cc, λ e. cc, at)) (first_answer (recursion us) (range_with_len 0 (length us))) calls-stand,
                  (
                    row TooManyStatements (λ n at. (λ e. cc, λ e. cc, at)) (main_line_if us (nat_lt 4000 (total_width us))) (if-main us (nat_lt 4000 (total_width us)) end),
                    (
                      row TooManyNames (λ n at. (λ e. cc, λ e. cc, at)) (main_line_if us (has_great_name us)) (if-main us (has_great_name us) end),
                      tt,
                    ),
                  ),
                ),
              ),
            ),
          ),
        ),
      ),
    )
