-- Where a unit begins, its copy does.
use Rattle.std.proofs.Common.{◌≡◌, ℕ, ◌+◌, ◌<◌, Bool, true, false, nat_lt, List, [], ◌∷◌, length, drop, Some, length-append, if◌then◌else◌, refl, sym, ap, subst, ◌∙◌, arith}
use Rattle.std.proofs.lemmas.Bool.{and_parts}
use Rattle.std.specs.List.{slice_get}
use Rattle.f77_tree.specs.declared.statements.Labelled.{Labelled}
use Rattle.f77_tree.specs.declared.statements.Stmt.{Stmt}
use Rattle.f77_tree.specs.declared.statements.Stmt.TheVariants.{ElseIf, Else}
use Rattle.layout_rules.specs.Executables.{first_of, met, own_executables}
use Rattle.layout_rules.specs.Jumps.{end_of_block, is_block_if, is_end_if}
use Rattle.layout_rules.specs.Labels.{is_arm, is_executable}
use Rattle.program_units.specs.Units.{unit_at}
use Rattle.program_units.specs.Copies.{Context}
use Rattle.program_units.specs.OpenBlocks.{are_closed}
use Rattle.copied_control.specs.Landings.{landing_after}
use Rattle.unit_laws.proofs.BlockRoles.{does_nothing}
use Rattle.copied_control.proofs.MappedArms.{first_here, rest_here}
use Rattle.copied_control.proofs.MappedLandings.{met-is}
use Rattle.copied_control.proofs.SealedCopies.{turned, turned-neutral}
use Rattle.called_runs.specs.CopiedPositions.{Stands}
use Rattle.called_runs.proofs.Grounds.{AreLaid, IsCopied}
use Rattle.called_runs.proofs.ListedExecutables.{own-none}
use Rattle.called_runs.proofs.StandingPlaces.{HasEnd, end-from, end-later, none-has, stands-met, unit-next}

-- no ELSE IF or ELSE stands where no block is open
pub arm-open : (t : Stmt) (next : ℕ → Bool) → is_arm t ≡ true → turned (is_block_if t) (is_end_if t) (is_arm t) 0 next ≡ true → ⊥
arm-open (ElseIf a) next arm closed = let e : false ≡ true = (and_parts (nat_lt 0 0) (next 0) closed).0 in cc
arm-open Else next arm closed = let e : false ≡ true = (and_parts (nat_lt 0 0) (next 0) closed).0 in cc
arm-open _ next arm closed = let e : false ≡ true = arm in cc

module _ (us : List (List Labelled)) (list : List Labelled) (laid : AreLaid us list) (c : Context) (at : ℕ → ℕ) (held : IsCopied us list c at) where
  abbrev unit : List Labelled
  unit = unit_at us c.unit

  first-lands : (xs : List Labelled) (place : ℕ) → drop place unit ≡ xs → are_closed 0 xs ≡ true → HasEnd xs → first_of unit (landing_after unit xs place) ≡ first_of unit place
  first-lands [] place is closed has = absurd (none-has has)
  first-lands (s ∷ rest) place is closed has = by_tests (is_arm s.stmt) refl (is_executable s.stmt) refl (λ none onward. first-lands rest (place + 1) (rest_here unit place s rest is) onward (end-later s rest none has))
    where
      here : slice_get unit place ≡ Some s
      here = first_here unit place s rest is

      by_tests : (arm : Bool) → is_arm s.stmt ≡ arm → (does : Bool) → is_executable s.stmt ≡ does → (own_executables s.stmt ≡ 0 → are_closed 0 rest ≡ true → first_of unit (landing_after unit rest (place + 1)) ≡ first_of unit (place + 1))
          → first_of unit (if arm then end_of_block unit place else if does then place else landing_after unit rest (place + 1)) ≡ first_of unit place
      by_tests true arm does does_is later = absurd (arm-open s.stmt (λ d. are_closed d rest) arm closed)
      by_tests false arm true does later = refl
      by_tests false arm false does later =
          let none = own-none s.stmt does in
          later none (sym (turned-neutral s.stmt (does_nothing s.stmt does) 0 (λ d. are_closed d rest)) ∙ closed) ∙ unit-next us list laid c at held place s here none

  pub some-statement : 0 < length unit
  some-statement = let e = held.ended in let long : length unit ≡ length e.front + 1 = ap length e.is ∙ length-append e.front (e.last ∷ []) in omega (arith, long)

  pub stands-begin : Stands us list c at 0 (met list (at 0))
  stands-begin =
      let first : met unit 0 ≡ 0 = met-is unit 0 ∙ first-lands unit 0 refl (laid.closed c.unit) (end-from unit 0 held.ended some-statement) in
      subst (λ (n : ℕ). Stands us list c at n (met list (at 0))) first (stands-met us list laid c at held 0 some-statement)
