-- What is counted for copies is the same at each depth above a unit's height.
use Rattle.std.proofs.Common.{◌≡◌, ℕ, zero, suc, ◌+◌, ◌<◌, Bool, true, List, [], ◌∷◌, Option, Some, None, if◌then◌else◌, sum_by, refl, sym, ap, ◌∙◌, arith}
use Rattle.std.specs.List.{list_all}
use Rattle.std.proofs.lemmas.Bool.{and_parts, ltb-true}
use Rattle.std.proofs.lemmas.List.Sums.{sum_by-cons}
use Rattle.f77_tree.specs.declared.statements.Labelled.{Labelled}
use Rattle.f77_tree.specs.declared.statements.RawExpr.{RawExpr}
use Rattle.program_units.specs.Units.{Call, call_in, guard_of, unit_at, unit_of}
use Rattle.program_units.specs.Heights.{calls_below, IsHeight}
use Rattle.program_units.specs.Widths.{is_kept, lines_around, width_by, width, body_width, labels_by, labels, body_labels}

pub sums_alike : {X : Type 0} (p : X → Bool) (f g : X → ℕ) → ((x : X) → p x ≡ true → f x ≡ g x) → (xs : List X) → list_all p xs ≡ true → sum_by f xs ≡ sum_by g xs
sums_alike p f g same [] all = refl
sums_alike p f g same (x ∷ xs) all =
    let both : (p x ≡ true) × (list_all p xs ≡ true) = and_parts (p x) (list_all p xs) all in
    sum_by-cons f x xs
    ∙ ap (λ (n : ℕ). n + sum_by f xs) (same x both.0)
    ∙ ap (λ (n : ℕ). g x + n) (sums_alike p f g same xs both.1)
    ∙ sym (sum_by-cons g x xs)

module _ (us : List (List Labelled)) (height : ℕ → ℕ) (is : IsHeight us height) where
  abbrev lower : ℕ → Labelled → Bool
  lower k s = calls_below height us k (call_in s.stmt)

  -- two counts that agree on what the unit k can call
  pub record Agree (v w : ℕ → ℕ) (k : ℕ) : Type 0 where
    pub at : (g : ℕ) → height g < height k → v g ≡ w g

  call_width : (v w : ℕ → ℕ) (k : ℕ) → Agree v w k → (guard : Option RawExpr) (call : Option Call) → calls_below height us k call ≡ true → width_by v us guard call ≡ width_by w us guard call
  call_width v w k agree guard None below = refl
  call_width v w k agree guard (Some call) below = ap (λ (n : ℕ). lines_around guard + n) (agree.at (unit_of us call.name) (ltb-true (height (unit_of us call.name)) (height k) below))

  width_alike : (v w : ℕ → ℕ) (k : ℕ) → Agree v w k → (s : Labelled) → lower k s ≡ true → width v us k s ≡ width w us k s
  width_alike v w k agree s below = ap (λ (n : ℕ). if is_kept k s.stmt then n else 0) (call_width v w k agree (guard_of s.stmt) (call_in s.stmt) below)

  pub widths_settle : (d e k : ℕ) → height k < d → height k < e → body_width us d k ≡ body_width us e k
  widths_settle zero e k deep deeper = absurd (omega arith)
  widths_settle (suc d) zero k deep deeper = absurd (omega arith)
  widths_settle (suc d) (suc e) k deep deeper =
      let agree : Agree (body_width us d) (body_width us e) k = record { at = λ g below. widths_settle d e g (omega arith) (omega arith) } in
      sums_alike (lower k) (width (body_width us d) us k) (width (body_width us e) us k) (width_alike (body_width us d) (body_width us e) k agree) (unit_at us k) (is k)

  call_labels : (v w : ℕ → ℕ) (k : ℕ) → Agree v w k → (label : ℕ) (call : Option Call) → calls_below height us k call ≡ true → labels_by v us label call ≡ labels_by w us label call
  call_labels v w k agree label None below = refl
  call_labels v w k agree label (Some call) below = ap (λ (n : ℕ). 2 + n) (agree.at (unit_of us call.name) (ltb-true (height (unit_of us call.name)) (height k) below))

  pub labels_alike : (v w : ℕ → ℕ) (k : ℕ) → Agree v w k → (s : Labelled) → lower k s ≡ true → labels v us k s ≡ labels w us k s
  labels_alike v w k agree s below = ap (λ (n : ℕ). if is_kept k s.stmt then n else 0) (call_labels v w k agree s.label (call_in s.stmt) below)

  pub labels_settle : (d e k : ℕ) → height k < d → height k < e → body_labels us d k ≡ body_labels us e k
  labels_settle zero e k deep deeper = absurd (omega arith)
  labels_settle (suc d) zero k deep deeper = absurd (omega arith)
  labels_settle (suc d) (suc e) k deep deeper =
      let agree : Agree (body_labels us d) (body_labels us e) k = record { at = λ g below. labels_settle d e g (omega arith) (omega arith) } in
      sums_alike (lower k) (labels (body_labels us d) us k) (labels (body_labels us e) us k) (labels_alike (body_labels us d) (body_labels us e) k agree) (unit_at us k) (is k)
