-- The last statement that stands for one: the DOs end at it.
use Rattle.std.proofs.Common.{◌≡◌, ℕ, ◌+◌, ◌<◌, Bool, true, false, ◌==◌, List, [], ◌∷◌, ◌++◌, length, map, Option, Some, if◌then◌else◌, refl, sym, ap, ◌∙◌, arith, length-append}
use Rattle.std.specs.List.{slice_get}
use Rattle.std.proofs.lemmas.Bool.{ne_eqb}
use Rattle.f77_tree.specs.declared.statements.Labelled.{Labelled}
use Rattle.f77_tree.specs.declared.statements.Stmt.TheVariants.{Continue}
use Rattle.layout_rules.specs.Executables.{loops_to, own_executables}
use Rattle.layout_rules.specs.Labels.{statement_of}
use Rattle.program_units.specs.Units.{Call, call_in, guard_of, unit_at, unit_of}
use Rattle.program_units.specs.Entities.{stands_for}
use Rattle.program_units.specs.Widths.{is_kept, body_labels}
use Rattle.program_units.specs.Copies.{Context, bare, changes, copy, end_by, number_at}
use Rattle.program_units.specs.ListedCopies.{HasAt, piece_at}
use Rattle.unit_laws.proofs.Having.{alike, got, has_second}
use Rattle.copied_control.proofs.LabelPlaces.{around-last, last-leads}
use Rattle.copied_control.proofs.WhichPieces.{IsPlain, Which, left_out, calling, single, which, piece-around}
use Rattle.called_runs.specs.CopiedPositions.{last_place, own_of_last, copy_of}
use Rattle.called_runs.proofs.CopiedEnds.{call-loops, plain-loops}
use Rattle.called_runs.proofs.ControlRoles.{own-changed}
use Rattle.called_runs.proofs.Grounds.{AreLaid, IsCopied}
use Rattle.called_runs.proofs.StandingJumps.{number-leads}
use Rattle.called_runs.proofs.StandingNexts.{plain-last, plain-some}
use Rattle.called_runs.proofs.StandingPlaces.{copy-at}

module _ (us : List (List Labelled)) (list : List Labelled) (laid : AreLaid us list) (c : Context) (at : ℕ → ℕ) (held : IsCopied us list c at) where
  abbrev unit : List Labelled
  unit = unit_at us c.unit

  abbrev number : ℕ → ℕ
  number place = number_at us c.depth c.unit c.base place

  pub record IsLast (place : ℕ) (s : Labelled) : Type 0 where
    pub last : Labelled
    pub stands : slice_get list (last_place us c at place s) ≡ Some last
    pub some : 0 < length (piece_at us c place s)
    pub loops : loops_to list last.label ≡ map at (loops_to unit s.label)
    pub own : own_executables last.stmt ≡ own_of_last (own_executables s.stmt) (call_in s.stmt)
    pub line : last.line ≡ s.line
    pub label : 0 < s.label → last.label ≡ end_by us c.depth (call_in s.stmt) (number place)
    pub leads : 0 < s.label → statement_of list last.label ≡ last_place us c at place s

  of-plain : (place : ℕ) (s : Labelled) → slice_get unit place ≡ Some s → IsPlain us c place s → IsLast place s
  of-plain place s is plain =
      let here = plain-last us list laid c at held place s plain in
      let label : 0 < s.label → (if s.label == 0 then 0 else number place) ≡ number place = λ some. ap (λ (b : Bool). if b then 0 else number place) (ne_eqb s.label 0 (λ (e : s.label ≡ 0). omega (arith, e, some))) in
      record {
        last = copy_of us c place s;
        stands = ap (λ (n : ℕ). slice_get list n) here ∙ copy-at us list laid c at held place s is plain;
        some = plain-some us list laid c at held place s plain;
        loops = plain-loops us list laid c at held place s is plain.kept plain.none;
        own = own-changed (changes us c) s.stmt ∙ ap (λ (o : Option Call). own_of_last (own_executables s.stmt) o) (sym plain.none);
        line = refl;
        label = λ some. label some ∙ ap (λ (o : Option Call). end_by us c.depth o (number place)) (sym plain.none);
        leads = λ some. ap (λ (n : ℕ). statement_of list n) (label some) ∙ number-leads us list laid c at held place s is plain.kept some ∙ sym here;
      }

  of-call : (place : ℕ) (s : Labelled) (call : Call) → slice_get unit place ≡ Some s → is_kept c.unit s.stmt ≡ true → call_in s.stmt ≡ Some call → IsLast place s
  of-call place s call is kept calls =
      let g = unit_of us call.name in
      let b = number place + body_labels us c.depth g + 1 in
      let item = bare b s.line Continue in
      let parts = around-last us list c at laid.count held.stands laid.rows (changes us c) (number place) b s.line (guard_of s.stmt) (copy us c.depth g (map (stands_for us c.unit c.arguments) call.arguments) (number place)) in
      let whole = piece-around us c place s call calls ∙ parts.1 in
      let has : HasAt list (at place + length parts.0) (item ∷ []) = has_second list parts.0 (item ∷ []) (at place) (alike list (piece_at us c place s) (parts.0 ++ item ∷ []) (at place) whole (held.stands.pieces place s is)) in
      let long : length (piece_at us c place s) ≡ length parts.0 + 1 = ap length whole ∙ length-append parts.0 (item ∷ []) in
      let here : last_place us c at place s ≡ at place + length parts.0 + 0 = omega (arith, long) in
      let leads = last-leads us list c at laid.count held.stands laid.rows place s call is calls in
      record {
        last = item;
        stands = ap (λ (n : ℕ). slice_get list n) here ∙ got list (item ∷ []) (at place + length parts.0) 0 item has refl;
        some = omega (arith, long);
        loops = call-loops us list laid c at held place s call is kept calls;
        own = ap (λ (o : Option Call). own_of_last (own_executables s.stmt) o) (sym calls);
        line = refl;
        label = λ some. ap (λ (o : Option Call). end_by us c.depth o (number place)) (sym calls);
        leads = λ some. (let e : statement_of list b ≡ last_place us c at place s = omega (arith, leads) in e);
      }

  pub last-one : (place : ℕ) (s : Labelled) → slice_get unit place ≡ Some s → is_kept c.unit s.stmt ≡ true → IsLast place s
  last-one place s is kept = by_which (which us c place s)
    where
      by_which : Which us c place s → IsLast place s
      by_which (left_out none) = let both : true ≡ false = sym kept ∙ none in absurd cc
      by_which (calling call calls) = of-call place s call is kept calls
      by_which (single plain) = of-plain place s is plain
