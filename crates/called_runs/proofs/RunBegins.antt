-- Where the run of the list begins, and where it ends.
use Rattle.std.proofs.Common.{◌≡◌, ℕ, ◌+◌, Bool, true, false, nat_lt, List, [], ◌∷◌, ◌++◌, length, drop, take, Some, if◌then◌else◌, refl, sym, ap, ◌∙◌, arith}
use Rattle.std.specs.List.{slice_get}
use Rattle.std.proofs.lemmas.Bool.{ltb-false}
use Rattle.std.proofs.lemmas.List.{append_assoc}
use Rattle.f77_tree.specs.declared.statements.Labelled.{Labelled}
use Rattle.layout_rules.specs.Executables.{first_of, loops_to, met, own_executables}
use Rattle.layout_rules.specs.Jumps.{end_of_block}
use Rattle.layout_rules.specs.Labels.{is_arm, is_executable}
use Rattle.program_units.specs.Units.{unit_at}
use Rattle.program_units.specs.Widths.{labels_before}
use Rattle.program_units.specs.Contexts.{main}
use Rattle.program_units.specs.Copies.{Context}
use Rattle.program_units.specs.Expansion.{declared_first, main_context, main_pieces, merged, whole_list}
use Rattle.program_units.specs.ListedCopies.{HasAt, main_place, width_before}
use Rattle.program_units.specs.OpenBlocks.{are_closed}
use Rattle.copied_control.specs.Landings.{landing_after}
use Rattle.unit_laws.proofs.BlockRoles.{does_nothing, call_neutral}
use Rattle.unit_laws.proofs.Having.{alike, has_all, has_first}
use Rattle.unit_laws.proofs.MergedDeclared.{merged-declared}
use Rattle.copied_control.proofs.MappedArms.{first_here, rest_here}
use Rattle.copied_control.proofs.MappedLandings.{landings-mapped, met-is}
use Rattle.copied_control.proofs.SealedCopies.{turned-neutral}
use Rattle.copied_control.proofs.WhichPieces.{Which, left_out, calling, single, which}
use Rattle.called_runs.proofs.Grounds.{AreLaid, IsCopied}
use Rattle.called_runs.proofs.ListedExecutables.{declared-first, own-none}
use Rattle.called_runs.proofs.StandingBegins.{arm-open, some-statement}
use Rattle.called_runs.proofs.StandingPlaces.{HasEnd, end-from, end-later, left-next, none-has, plain-next, unless-own}

module _ (us : List (List Labelled)) (list : List Labelled) (laid : AreLaid us list) (c : Context) (at : ℕ → ℕ) (held : IsCopied us list c at) where
  abbrev unit : List Labelled
  unit = unit_at us c.unit

  -- what stands for a declaration has no executable
  passed : (place : ℕ) (s : Labelled) → slice_get unit place ≡ Some s → is_executable s.stmt ≡ false → Which us c place s → first_of list (at (place + 1)) ≡ first_of list (at place)
  passed place s is nothing (left_out none) = left-next us list laid c at held place s is none
  passed place s is nothing (calling call calls) = let both : true ≡ false = sym (call_neutral s.stmt call calls).does ∙ nothing in absurd cc
  passed place s is nothing (single plain) =
      let next = plain-next us list laid c at held place s is plain in
      let own = own-none s.stmt nothing in
      let none : length (loops_to unit s.label) ≡ 0 = ap (λ (xs : List ℕ). length xs) (unless-own us list laid c at held place s is own) in
      omega (arith, next, own, none)

  lands-first : (xs : List Labelled) (place : ℕ) → drop place unit ≡ xs → are_closed 0 xs ≡ true → HasEnd xs → first_of list (at (landing_after unit xs place)) ≡ first_of list (at place)
  lands-first [] place is closed has = absurd (none-has has)
  lands-first (s ∷ rest) place is closed has = by_tests (is_arm s.stmt) refl (is_executable s.stmt) refl (λ none onward. lands-first rest (place + 1) (rest_here unit place s rest is) onward (end-later s rest none has))
    where
      here : slice_get unit place ≡ Some s
      here = first_here unit place s rest is

      by_tests : (arm : Bool) → is_arm s.stmt ≡ arm → (does : Bool) → is_executable s.stmt ≡ does → (own_executables s.stmt ≡ 0 → are_closed 0 rest ≡ true → first_of list (at (landing_after unit rest (place + 1))) ≡ first_of list (at (place + 1)))
          → first_of list (at (if arm then end_of_block unit place else if does then place else landing_after unit rest (place + 1))) ≡ first_of list (at place)
      by_tests true arm does does_is later = absurd (arm-open s.stmt (λ d. are_closed d rest) arm closed)
      by_tests false arm true does later = refl
      by_tests false arm false does later =
          later (own-none s.stmt does) (sym (turned-neutral s.stmt (does_nothing s.stmt does) 0 (λ d. are_closed d rest)) ∙ closed) ∙ passed place s here does (which us c place s)

  -- control comes to the first executable of what stands for the unit
  pub met-first : met list (at 0) ≡ first_of list (at 0)
  met-first =
      let inside = some-statement us list laid c at held in
      met-is list (at 0)
      ∙ ap (λ (n : ℕ). first_of list n) (landings-mapped us laid.closed list c at held.stands held.ended 0 inside)
      ∙ lands-first unit 0 refl (laid.closed c.unit) (end-from unit 0 held.ended inside)

module _ (us : List (List Labelled)) (laid : AreLaid us (whole_list us)) where
  front-none : first_of (whole_list us) (main_place us 0) ≡ 0
  front-none = by_test (nat_lt 0 (declared_first (unit_at us 0))) refl
    where
      by_test : (b : Bool) → nat_lt 0 (declared_first (unit_at us 0)) ≡ b → first_of (whole_list us) (main_place us 0) ≡ 0
      by_test true is = ap (λ (b : Bool). first_of (whole_list us) (width_before us (length us) 0 0 + (if b then 0 else length (merged us)))) is
      by_test false is =
          let p = declared_first (unit_at us 0) in
          let least = ltb-false 0 p is in
          let none : p ≡ 0 = omega (arith, least) in
          let late = main_pieces us (labels_before us (length us) 0 p) (drop p (unit_at us 0)) in
          let early : main_pieces us 0 (take p (unit_at us 0)) ≡ [] = ap (λ (n : ℕ). main_pieces us 0 (take n (unit_at us 0))) none in
          let whole : whole_list us ≡ merged us ++ late = append_assoc (main_pieces us 0 (take p (unit_at us 0))) (merged us) late ∙ ap (λ (xs : List Labelled). xs ++ (merged us ++ late)) early in
          let has : HasAt (whole_list us) 0 (merged us) = has_first (whole_list us) (merged us) late 0 (alike (whole_list us) (whole_list us) (merged us ++ late) 0 whole (has_all (whole_list us))) in
          ap (λ (b : Bool). first_of (whole_list us) (width_before us (length us) 0 0 + (if b then 0 else length (merged us)))) is
          ∙ declared-first (whole_list us) laid.execs laid.leads (merged us) 0 has (merged-declared us)

  -- the run of the list begins at the main program
  pub run-begins : met (whole_list us) (main_place us 0) ≡ 0
  run-begins = met-first us (whole_list us) laid (main_context us) (main_place us) (laid.copied (main_context us) (main_place us) main) ∙ front-none
