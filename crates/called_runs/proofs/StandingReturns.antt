-- Where control goes behind a copy, and where a condition before a CALL is false.
use Rattle.std.proofs.Common.{◌≡◌, ℕ, zero, suc, ◌+◌, ◌-◌, ◌<◌, Bool, true, false, List, [], ◌∷◌, ◌++◌, length, map, sum_by, Option, Some, None, if◌then◌else◌, refl, sym, ap, ◌∙◌, arith, length-append}
use Rattle.std.specs.List.{slice_get}
use Rattle.std.proofs.lemmas.List.{append_assoc, take_all}
use Rattle.f77_tree.specs.declared.statements.Labelled.{Labelled}
use Rattle.f77_tree.specs.declared.statements.RawExpr.{RawExpr}
use Rattle.f77_tree.specs.declared.statements.Stmt.{Stmt}
use Rattle.f77_tree.specs.declared.statements.Stmt.TheVariants.{Continue, BlockIf, EndIf, End}
use Rattle.layout_rules.specs.Executables.{beyond, first_of, is_else_at, labelled, met, own_executables, when_false}
use Rattle.layout_rules.specs.Labels.{is_arm, is_executable, statement_of}
use Rattle.program_units.specs.Units.{Call, call_in, guard_of, is_end, unit_at, unit_of}
use Rattle.program_units.specs.Entities.{stands_for}
use Rattle.program_units.specs.Widths.{body_labels, body_width, is_kept, labels}
use Rattle.program_units.specs.Copies.{Context, around, bare, changed, changes, copy, number_at}
use Rattle.program_units.specs.ListedCopies.{HasAt, IsClosedAt, called_context, closing, piece_at}
use Rattle.unit_laws.proofs.BlockRoles.{unkept_end_kept}
use Rattle.unit_laws.proofs.CopyWidths.{copy_length}
use Rattle.unit_laws.proofs.Having.{got}
use Rattle.copied_control.proofs.LabelPlaces.{closed-leads, last-leads}
use Rattle.copied_control.proofs.MappedArms.{inserted-ends}
use Rattle.copied_control.proofs.WhichPieces.{nothing_stands, piece-around}
use Rattle.called_runs.specs.CopiedPositions.{Stands, last_place, own_of_last}
use Rattle.called_runs.proofs.CopiedEnds.{call-loops}
use Rattle.called_runs.proofs.Grounds.{AreLaid, IsCopied}
use Rattle.called_runs.proofs.LastPieces.{last-one}
use Rattle.called_runs.proofs.StandingCalls.{call-kept, has-around, met-here}
use Rattle.called_runs.proofs.StandingJumps.{end-last}
use Rattle.called_runs.proofs.StandingNexts.{gone_on, stands-beyond}

call-no-end : (s : Stmt) (call : Call) → call_in s ≡ Some call → is_end s ≡ false
call-no-end End call calls = let e : None ≡ Some call = calls in absurd cc
call-no-end _ call calls = refl

get-behind : (xs ys : List Labelled) (j : ℕ) → slice_get (xs ++ ys) (length xs + j) ≡ slice_get ys j
get-behind [] ys j = ap (λ (n : ℕ). slice_get ys n) (let e : 0 + j ≡ j = omega arith in e)
get-behind (x ∷ xs) ys j = ap (λ (n : ℕ). slice_get (x ∷ (xs ++ ys)) n) (let e : suc (length xs) + j ≡ suc (length xs + j) = omega arith in e) ∙ get-behind xs ys j

-- behind a copy control comes to the label that closes it, at once or by an END IF
pub data FallsOut (list : List Labelled) (place label : ℕ) : Type 0 where
  at_once : first_of list place ≡ labelled list label → FallsOut list place label
  by_end_if : (line : ℕ) → slice_get list place ≡ Some (bare 0 line EndIf) → beyond list place (bare 0 line EndIf) ≡ labelled list label → FallsOut list place label

module _ (us : List (List Labelled)) (list : List Labelled) (laid : AreLaid us list) (c : Context) (at : ℕ → ℕ) (held : IsCopied us list c at) where
  abbrev unit : List Labelled
  unit = unit_at us c.unit

  abbrev number : ℕ → ℕ
  number place = number_at us c.depth c.unit c.base place

  -- from an END IF that was put in control goes to the label behind it
  end-if-goes : (place line : ℕ) (s : Labelled) → slice_get list (place + 1) ≡ Some s → s.stmt ≡ Continue → beyond list place (bare 0 line EndIf) ≡ first_of list (place + 1)
  end-if-goes place line s is goes =
      ap (λ (xs : List ℕ). gone_on (length xs) 1 (first_of list place) (met list (place + 1))) laid.nought
      ∙ met-here list (place + 1) s is (ap is_arm goes) (ap is_executable goes)

  -- ---- END of a subroutine

  pub falls-out : (place : ℕ) (s : Labelled) → slice_get unit place ≡ Some s → is_kept c.unit s.stmt ≡ false → is_end s.stmt ≡ true → FallsOut list (at place) (changes us c).back
  falls-out place s is none ends = by_guard closed.guarded closed.line closed.stand (closed-leads list laid.count (at (length unit)) (number (length unit)) laid.rows (omega arith) closed)
    where
      no_end : is_kept c.unit End ≡ false
      no_end = unkept_end_kept c.unit s.stmt none

      closed : IsClosedAt list (at (length unit)) (number (length unit))
      closed = held.stands.closed no_end

      begins : at (length unit) ≡ at place
      begins = ap at (end-last us list laid c at held place s is ends) ∙ held.stands.tight no_end place s is ∙ ap (λ (xs : List Labelled). at place + length xs) (nothing_stands us c place s none) ∙ (let e : at place + 0 ≡ at place = omega arith in e)

      by_guard : (guarded : Bool) (line : ℕ) → HasAt list (at (length unit)) (closing guarded (number (length unit)) line) → statement_of list (number (length unit)) + 1 ≡ at (length unit) + length (closing guarded (number (length unit)) line) → FallsOut list (at place) (changes us c).back
      by_guard false line has leads = at_once (ap (λ (n : ℕ). first_of list n) (let e : at place ≡ statement_of list (number (length unit)) = omega (arith, leads, begins) in e))
      by_guard true line has leads =
          let first = got list (closing true (number (length unit)) line) (at (length unit)) 0 (bare 0 line EndIf) has refl in
          let second = got list (closing true (number (length unit)) line) (at (length unit)) 1 (bare (number (length unit)) line Continue) has refl in
          let there : slice_get list (at place + 1) ≡ Some (bare (number (length unit)) line Continue) = ap (λ (n : ℕ). slice_get list n) (let e : at place + 1 ≡ at (length unit) + 1 = omega (arith, begins) in e) ∙ second in
          by_end_if line (ap (λ (n : ℕ). slice_get list n) (let e : at place ≡ at (length unit) + 0 = omega (arith, begins) in e) ∙ first)
          (end-if-goes (at place) line (bare (number (length unit)) line Continue) there refl ∙ ap (λ (n : ℕ). first_of list n) (let e : at place + 1 ≡ statement_of list (number (length unit)) = omega (arith, leads, begins) in e))

  -- ---- a CALL

  module _ (place : ℕ) (s : Labelled) (call : Call) (is : slice_get unit place ≡ Some s) (calls : call_in s.stmt ≡ Some call) where
    abbrev inside : Context
    inside = called_context us c place call

    abbrev b : ℕ
    b = number place + body_labels us c.depth (unit_of us call.name) + 1

    abbrev last : ℕ
    last = last_place us c at place s

    abbrev body : List Labelled
    body = copy us c.depth (unit_of us call.name) (map (stands_for us c.unit c.arguments) call.arguments) (number place)

    kept : is_kept c.unit s.stmt ≡ true
    kept = call-kept us list laid c at held place s call is calls

    some : 0 < length (piece_at us c place s)
    some = (last-one us list laid c at held place s is kept).some

    last-is : statement_of list b ≡ last
    last-is = let e = last-leads us list c at laid.count held.stands laid.rows place s call is calls in omega (arith, e)

    counted : (d k base place : ℕ) → 0 < d → number_at us (d - 1) k base (length (unit_at us k)) ≡ base + body_labels us d k + 1
    counted zero k base place deep = absurd (omega (arith, deep))
    counted (suc d) k base place deep =
        let same : suc d - 1 ≡ d = omega arith in
        ap (λ (n : ℕ). number_at us n k base (length (unit_at us k))) same
        ∙ ap (λ (xs : List Labelled). base + sum_by (labels (body_labels us d) us k) xs + 1) (take_all (length (unit_at us k)) (unit_at us k) (omega arith))

    -- RETURN and END of what it calls lead to the label behind the copy
    pub back-leads : labelled list (changes us inside).back ≡ first_of list last
    back-leads = ap (λ (n : ℕ). labelled list n) (counted c.depth (unit_of us call.name) (number place) place held.deep) ∙ ap (λ (n : ℕ). first_of list n) last-is

    -- that label
    pub record HasLabel : Type 0 where
      pub stands : slice_get list last ≡ Some (bare b s.line Continue)
      -- from it control goes on as behind the CALL
      pub goes : Stands us list c at (beyond unit place s) (beyond list last (bare b s.line Continue))

    around-long : (guard : Option RawExpr) → guard_of s.stmt ≡ guard → (front : List Labelled) × (around (changes us c) (number place) b s.line guard body ≡ front ++ bare b s.line Continue ∷ [])
    around-long None none = (bare (number place) s.line Continue ∷ body, refl)
    around-long (Some condition) guarded = (bare (number place) s.line Continue ∷ bare 0 s.line (BlockIf (changed (changes us c) condition)) ∷ (body ++ bare 0 s.line EndIf ∷ []), ap (λ (xs : List Labelled). bare (number place) s.line Continue ∷ bare 0 s.line (BlockIf (changed (changes us c) condition)) ∷ xs) (sym (append_assoc body (bare 0 s.line EndIf ∷ []) (bare b s.line Continue ∷ []))))

    label-stands : slice_get list last ≡ Some (bare b s.line Continue)
    label-stands =
        let parts = around-long (guard_of s.stmt) refl in
        let has = has-around us list laid c at held place s call is calls (guard_of s.stmt) refl in
        let whole : length (piece_at us c place s) ≡ length parts.0 + 1 = ap length (piece-around us c place s call calls ∙ parts.1) ∙ length-append parts.0 (bare b s.line Continue ∷ []) in
        ap (λ (n : ℕ). slice_get list n) (let e : last ≡ at place + (length parts.0 + 0) = omega (arith, whole) in e)
        ∙ got list (around (changes us c) (number place) b s.line (guard_of s.stmt) body) (at place) (length parts.0 + 0) (bare b s.line Continue) has (ap (λ (xs : List Labelled). slice_get xs (length parts.0 + 0)) parts.1 ∙ get-behind parts.0 (bare b s.line Continue ∷ []) 0)

    pub has-label : HasLabel
    has-label = record {
      stands = label-stands;
      goes = stands-beyond us list laid c at held place s b 1 is kept (call-no-end s.stmt call calls) some (call-loops us list laid c at held place s call is kept calls) (ap (λ (o : Option Call). own_of_last (own_executables s.stmt) o) (sym calls));
    }

    -- ---- where the condition is false

    module _ (condition : RawExpr) (guarded : guard_of s.stmt ≡ Some condition) where
      abbrev pub e : ℕ
      e = at place + 2 + body_width us c.depth (unit_of us call.name)

      long : length body ≡ body_width us c.depth (unit_of us call.name)
      long = copy_length us c.depth (unit_of us call.name) (map (stands_for us c.unit c.arguments) call.arguments) (number place)

      pub end-if-at : slice_get list e ≡ Some (bare 0 s.line EndIf)
      end-if-at =
          let front = bare (number place) s.line Continue ∷ bare 0 s.line (BlockIf (changed (changes us c) condition)) ∷ body in
          let behind = bare 0 s.line EndIf ∷ bare b s.line Continue ∷ [] in
          let same = long in
          let there : e ≡ at place + (length front + 0) = (let z : at place + 2 + body_width us c.depth (unit_of us call.name) ≡ at place + (suc (suc (length body)) + 0) = omega (arith, same) in z) in
          ap (λ (n : ℕ). slice_get list n) there
          ∙ got list (front ++ behind) (at place) (length front + 0) (bare 0 s.line EndIf) (has-around us list laid c at held place s call is calls (Some condition) guarded) (get-behind front behind 0)

      pub false-goes : when_false list (at place + 1) ≡ first_of list e
      false-goes =
          let ends = inserted-ends us laid.closed list c at held.stands true place s call condition is calls guarded in
          ap (λ (n : ℕ). if is_else_at (slice_get list n) then met list (n + 1) else first_of list n) ends
          ∙ ap (λ (o : Option Labelled). if is_else_at o then met list (e + 1) else first_of list e) end-if-at

      pub end-if-leads : beyond list e (bare 0 s.line EndIf) ≡ first_of list last
      end-if-leads =
          let same = long in
          let wide : length (piece_at us c place s) ≡ length body + 4 = ap length (piece-around us c place s call calls ∙ ap (λ (g : Option RawExpr). around (changes us c) (number place) b s.line g body) guarded) ∙ (let z = length-append body (bare 0 s.line EndIf ∷ bare b s.line Continue ∷ []) in let y : suc (suc (length (body ++ bare 0 s.line EndIf ∷ bare b s.line Continue ∷ []))) ≡ length body + 4 = omega (arith, z) in y) in
          let next : e + 1 ≡ last = omega (arith, same, wide) in
          end-if-goes e s.line (bare b s.line Continue) (ap (λ (n : ℕ). slice_get list n) next ∙ label-stands) refl ∙ ap (λ (n : ℕ). first_of list n) next
