-- Where control goes at a CALL: into the copy of what it calls, and behind it.
use Rattle.std.proofs.Common.{◌≡◌, ℕ, ◌+◌, ⊎_elim, Bool, true, false, List, length, map, drop, Option, Some, None, if◌then◌else◌, refl, sym, ap, subst, ◌∙◌, arith}
use Rattle.std.specs.List.{slice_get}
use Rattle.f77_tree.specs.declared.statements.Labelled.{Labelled}
use Rattle.f77_tree.specs.declared.statements.RawExpr.{RawExpr}
use Rattle.f77_tree.specs.declared.statements.Stmt.TheVariants.{Continue, BlockIf}
use Rattle.layout_rules.specs.Executables.{beyond, first_of, met, met_after}
use Rattle.layout_rules.specs.Jumps.{end_of_block}
use Rattle.layout_rules.specs.Labels.{is_arm, is_executable}
use Rattle.program_units.specs.Units.{Call, call_in, guard_of, unit_at, unit_of}
use Rattle.program_units.specs.Entities.{stands_for}
use Rattle.program_units.specs.Widths.{body_labels, is_kept}
use Rattle.program_units.specs.Copies.{Context, around, bare, changed, changes, copy, number_at}
use Rattle.program_units.specs.ListedCopies.{HasAt, called_context, copied_place, lines_before, piece_at}
use Rattle.unit_laws.proofs.Having.{alike, got}
use Rattle.copied_control.proofs.LoopsTo.{first-loops}
use Rattle.copied_control.proofs.MappedArms.{drop_here}
use Rattle.copied_control.proofs.WhichPieces.{piece-around}
use Rattle.called_runs.specs.CopiedPositions.{Stands}
use Rattle.called_runs.proofs.Grounds.{AreLaid, IsCopied}
use Rattle.called_runs.proofs.StandingNexts.{gone_on}
use Rattle.unit_laws.proofs.Kept.{kept_or_none}
use Rattle.called_runs.proofs.StandingBegins.{stands-begin}

-- control stops at a statement that does something and begins no arm
pub met-here : (stmts : List Labelled) (place : ℕ) (s : Labelled) → slice_get stmts place ≡ Some s → is_arm s.stmt ≡ false → is_executable s.stmt ≡ true → met stmts place ≡ first_of stmts place
met-here stmts place s is no_arm does =
    ap (λ (xs : List Labelled). met_after stmts xs place) (drop_here stmts place s is)
    ∙ ap (λ (arm : Bool). if arm then first_of stmts (end_of_block stmts place) else if is_executable s.stmt then first_of stmts place else met_after stmts (drop (place + 1) stmts) (place + 1)) no_arm
    ∙ ap (λ (does : Bool). if does then first_of stmts place else met_after stmts (drop (place + 1) stmts) (place + 1)) does

module _ (us : List (List Labelled)) (list : List Labelled) (laid : AreLaid us list) (c : Context) (at : ℕ → ℕ) (held : IsCopied us list c at) where
  abbrev unit : List Labelled
  unit = unit_at us c.unit

  abbrev number : ℕ → ℕ
  number place = number_at us c.depth c.unit c.base place

  module _ (place : ℕ) (s : Labelled) (call : Call) (is : slice_get unit place ≡ Some s) (calls : call_in s.stmt ≡ Some call) where
    abbrev pub inside : Context
    inside = called_context us c place call

    abbrev pub inside_at : ℕ → ℕ
    inside_at = copied_place us inside (at place + lines_before (guard_of s.stmt))

    abbrev a : Labelled
    a = bare (number place) s.line Continue

    -- the label behind the copy
    abbrev pub b : ℕ
    b = number place + body_labels us c.depth (unit_of us call.name) + 1

    abbrev body : List Labelled
    body = copy us c.depth (unit_of us call.name) (map (stands_for us c.unit c.arguments) call.arguments) (number place)

    pub has-around : (guard : Option RawExpr) → guard_of s.stmt ≡ guard → HasAt list (at place) (around (changes us c) (number place) b s.line guard body)
    has-around guard guard_is = alike list (piece_at us c place s) (around (changes us c) (number place) b s.line guard body) (at place) (piece-around us c place s call calls ∙ ap (λ (g : Option RawExpr). around (changes us c) (number place) b s.line g body) guard_is) (held.stands.pieces place s is)

    pub call-kept : is_kept c.unit s.stmt ≡ true
    call-kept = ⊎_elim (λ (kept : is_kept c.unit s.stmt ≡ true). kept) (λ (none : call_in s.stmt ≡ None). let e : None ≡ Some call = sym none ∙ calls in absurd cc) (kept_or_none c.unit s.stmt)

    -- ---- the label before the copy

    pub label-at : slice_get list (at place) ≡ Some a
    label-at = ap (λ (n : ℕ). slice_get list n) (let e : at place ≡ at place + 0 = omega arith in e) ∙ by_guard (guard_of s.stmt) refl
      where
        by_guard : (guard : Option RawExpr) → guard_of s.stmt ≡ guard → slice_get list (at place + 0) ≡ Some a
        by_guard None none = got list (around (changes us c) (number place) b s.line None body) (at place) 0 a (has-around None none) refl
        by_guard (Some e) some = got list (around (changes us c) (number place) b s.line (Some e) body) (at place) 0 a (has-around (Some e) some) refl

    pub label-goes : beyond list (at place) a ≡ met list (at place + 1)
    label-goes = ap (λ (xs : List ℕ). gone_on (length xs) 1 (first_of list (at place)) (met list (at place + 1))) (first-loops us laid.have list c at held.loops place s call is calls)

    begins-at : (n : ℕ) → lines_before (guard_of s.stmt) ≡ n → inside_at 0 ≡ at place + n
    begins-at n lines = ap (λ (m : ℕ). at place + m + 0) lines ∙ (let e : at place + n + 0 ≡ at place + n = omega arith in e)

    module _ (inner : IsCopied us list inside inside_at) where
      -- a CALL alone
      pub enters : guard_of s.stmt ≡ None → Stands us list inside inside_at 0 (beyond list (at place) a)
      enters none =
          let there : met list (inside_at 0) ≡ beyond list (at place) a = ap (λ (n : ℕ). met list n) (begins-at 1 (ap lines_before none)) ∙ sym label-goes in
          subst (λ (n : ℕ). Stands us list inside inside_at 0 n) there (stands-begin us list laid inside inside_at inner)

      -- one behind a condition
      module _ (condition : RawExpr) (guarded : guard_of s.stmt ≡ Some condition) where
        abbrev pub test : Labelled
        test = bare 0 s.line (BlockIf (changed (changes us c) condition))

        pub test-at : slice_get list (at place + 1) ≡ Some test
        test-at = got list (around (changes us c) (number place) b s.line (Some condition) body) (at place) 1 test (has-around (Some condition) guarded) refl

        pub label-tests : beyond list (at place) a ≡ first_of list (at place + 1)
        label-tests = label-goes ∙ met-here list (at place + 1) test test-at refl refl

        pub enters-true : Stands us list inside inside_at 0 (met list (at place + 1 + 1))
        enters-true =
            let there : met list (inside_at 0) ≡ met list (at place + 1 + 1) = ap (λ (n : ℕ). met list n) (begins-at 2 (ap lines_before guarded) ∙ (let e : at place + 2 ≡ at place + 1 + 1 = omega arith in e)) in
            subst (λ (n : ℕ). Stands us list inside inside_at 0 n) there (stands-begin us list laid inside inside_at inner)
