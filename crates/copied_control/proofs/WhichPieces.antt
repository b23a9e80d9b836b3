-- What stands for a statement: nothing, a copied statement, or a copy between labels.
use Rattle.std.proofs.Common.{◌≡◌, ℕ, ◌+◌, ◌==◌, ⊎_elim, Bool, true, false, List, [], ◌∷◌, map, Option, Some, None, if◌then◌else◌, refl, sym, ap, ◌∙◌}
use Rattle.f77_tree.specs.declared.statements.Labelled.{Labelled}
use Rattle.program_units.specs.Units.{Call, call_in, guard_of, unit_of}
use Rattle.program_units.specs.Entities.{stands_for}
use Rattle.program_units.specs.Widths.{is_kept, labels, body_labels}
use Rattle.program_units.specs.Copies.{Context, bare, changes, changed_stmt, around, piece_by, number_at, copy}
use Rattle.program_units.specs.ListedCopies.{piece_at}
use Rattle.unit_laws.proofs.Kept.{kept_or_none}
use Rattle.std.proofs.Common.{arith}

module _ (us : List (List Labelled)) (c : Context) where
  -- one statement stands for this one
  pub record IsPlain (place : ℕ) (s : Labelled) : Type 0 where
    pub kept : is_kept c.unit s.stmt ≡ true
    pub none : call_in s.stmt ≡ None

  pub plain-piece : (place : ℕ) (s : Labelled) → IsPlain place s → piece_at us c place s ≡ bare (if s.label == 0 then 0 else number_at us c.depth c.unit c.base place) s.line (changed_stmt (changes us c) s.stmt) ∷ []
  plain-piece place s plain = cc

  -- which of the three a statement is
  pub data Which (place : ℕ) (s : Labelled) : Type 0 where
    left_out : is_kept c.unit s.stmt ≡ false → Which place s
    calling : (call : Call) → call_in s.stmt ≡ Some call → Which place s
    single : IsPlain place s → Which place s

  pub which : (place : ℕ) (s : Labelled) → Which place s
  which place s = by_kept (is_kept c.unit s.stmt) refl (call_in s.stmt) refl
    where
      by_kept : (kept : Bool) → is_kept c.unit s.stmt ≡ kept → (call : Option Call) → call_in s.stmt ≡ call → Which place s
      by_kept false is call calls = left_out is
      by_kept true is None calls = single (record { kept = is; none = calls })
      by_kept true is (Some call) calls = calling call calls

  pub nothing_stands : (place : ℕ) (s : Labelled) → is_kept c.unit s.stmt ≡ false → piece_at us c place s ≡ []
  nothing_stands place s is = ap (λ (kept : Bool). if kept then piece_by (copy us c.depth) us c (number_at us c.depth c.unit c.base place) s (call_in s.stmt) else []) is

  is_call : (s : Labelled) (call : Call) → call_in s.stmt ≡ Some call → is_kept c.unit s.stmt ≡ true
  is_call s call calls = ⊎_elim (λ (kept : is_kept c.unit s.stmt ≡ true). kept) (λ (none : call_in s.stmt ≡ None). let e : None ≡ Some call = sym none ∙ calls in absurd cc) (kept_or_none c.unit s.stmt)

  pub piece-around : (place : ℕ) (s : Labelled) (call : Call) → call_in s.stmt ≡ Some call
      → piece_at us c place s ≡ around (changes us c) (number_at us c.depth c.unit c.base place) (number_at us c.depth c.unit c.base place + body_labels us c.depth (unit_of us call.name) + 1) s.line (guard_of s.stmt) (copy us c.depth (unit_of us call.name) (map (stands_for us c.unit c.arguments) call.arguments) (number_at us c.depth c.unit c.base place))
  piece-around place s call calls = grind (arith, is_call s call calls)

  pub call-count : (s : Labelled) (call : Call) → call_in s.stmt ≡ Some call → labels (body_labels us c.depth) us c.unit s ≡ 2 + body_labels us c.depth (unit_of us call.name)
  call-count s call calls = grind (arith, is_call s call calls)
