-- What is counted round by round are the widths of copies, each at most the limit.
use Rattle.std.proofs.Common.{◌≡◌, ℕ, ◌+◌, ◌≤◌, ◌⊎◌, Bool, true, false, if◌then◌else◌, min, List, [], ◌∷◌, length, get_or, sum_by, Option, Some, None, inl, inr, refl, ap, arith}
use Rattle.std.proofs.lemmas.List.Sums.{sum_by-cons}
use Rattle.f77_tree.specs.declared.statements.Labelled.{Labelled}
use Rattle.f77_tree.specs.declared.statements.RawExpr.{RawExpr}
use Rattle.program_units.specs.Units.{Call, call_in, guard_of, unit_at, unit_of}
use Rattle.program_units.specs.Widths.{is_kept, lines_around, width, width_by, body_width}
use Rattle.program_units.specs.CallTable.{AreSettled, own_by, own_width, callee_of, call_rows}
use Rattle.program_units.specs.Heights.{IsHeight}
use Rattle.inlined_copies.proofs.CountedRounds.{settled-all}
use Rattle.unit_laws.proofs.Kept.{kept_or_none}

module _ (us : List (List Labelled)) where
  width-parts : (body : ℕ → ℕ) (kept : Bool) (guard : Option RawExpr) (call : Option Call) → (kept ≡ true) ⊎ (call ≡ None)
      → (if kept then width_by body us guard call else 0) ≡ (if kept then own_by guard call else 0) + sum_by body (callee_of us call)
  width-parts body true guard None either = omega arith
  width-parts body true guard (Some call) either = ap (λ (n : ℕ). lines_around guard + n) (let e = sum_by-cons body (unit_of us call.name) [] in let sum : body (unit_of us call.name) ≡ sum_by body (unit_of us call.name ∷ []) = omega (arith, e) in sum)
  width-parts body false guard None either = omega arith
  width-parts body false guard (Some call) (inl is) = let h : false ≡ true = is in absurd cc
  width-parts body false guard (Some call) (inr is) = let h : Some call ≡ None = is in absurd cc

  abbrev own : ℕ → Labelled → ℕ
  own k s = own_width k s.stmt

  width-split : (body : ℕ → ℕ) (k : ℕ) (s : Labelled) → width body us k s ≡ own k s + sum_by body (callee_of us (call_in s.stmt))
  width-split body k s = width-parts body (is_kept k s.stmt) (guard_of s.stmt) (call_in s.stmt) (kept_or_none k s.stmt)

  -- where no unit calls itself, they are the widths of copies
  pub counted-main : (limit : ℕ) (height : ℕ → ℕ) → IsHeight us height → ((k : ℕ) → height k ≤ length us) → (widths : List ℕ) → AreSettled limit (call_rows limit us) widths → get_or widths 0 0 ≡ min (sum_by (width (body_width us (length us)) us 0) (unit_at us 0)) limit
  counted-main limit height is few widths settled = settled-all us own (λ body. width body us) width-split (body_width us) (λ k. refl) (λ d k. refl) limit height is widths settled few 0
