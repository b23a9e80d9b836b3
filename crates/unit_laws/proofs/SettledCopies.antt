-- A copy is the same at each depth above its unit's height.
use Rattle.std.proofs.Common.{◌≡◌, ℕ, zero, suc, ◌+◌, ◌<◌, ◌≤◌, ◌==◌, Bool, true, List, [], ◌∷◌, ◌++◌, map, length, take, Option, Some, None, if◌then◌else◌, refl, ap, subst, ◌∙◌, arith}
use Rattle.std.specs.List.{list_all, slice_get}
use Rattle.std.proofs.lemmas.Bool.{and_parts, and_from, ltb-true}
use mathlib.Core.Path.{fun_ext}
use Rattle.f77_tree.specs.declared.statements.Labelled.{Labelled}
use Rattle.layout_rules.specs.Labels.{statement_of}
use Rattle.program_units.specs.Units.{Call, call_in, guard_of, unit_at, unit_of}
use Rattle.program_units.specs.declared.entity.Entity.{Entity}
use Rattle.program_units.specs.Entities.{stands_for}
use Rattle.program_units.specs.Heights.{calls_below, IsHeight}
use Rattle.program_units.specs.Widths.{is_kept, labels, body_labels, labels_before}
use Rattle.program_units.specs.Copies.{Change, Context, bare, changed_stmt, change_in, call_at, end_by, number_at, around, piece_by, piece, pieces, copy}
use Rattle.unit_laws.proofs.Settled.{Agree, sums_alike, labels_alike, labels_settle}

pub pass_take : {X : Type 0} (p : X → Bool) (xs : List X) (n : ℕ) → list_all p xs ≡ true → list_all p (take n xs) ≡ true
pass_take p xs zero all = refl
pass_take p [] (suc n) all = refl
pass_take p (x ∷ xs) (suc n) all =
    let both : (p x ≡ true) × (list_all p xs ≡ true) = and_parts (p x) (list_all p xs) all in
    and_from (p x) (list_all p (take n xs)) both.0 (pass_take p xs n both.1)

pub pass_at : {X : Type 0} (p : X → Bool) (xs : List X) (i : ℕ) (x : X) → list_all p xs ≡ true → slice_get xs i ≡ Some x → p x ≡ true
pass_at p [] i x all e = let h : None ≡ Some x = e in absurd cc
pass_at p (y ∷ ys) zero x all e =
    let h : Some y ≡ Some x = e in
    let same : y ≡ x = cc in
    let both : (p y ≡ true) × (list_all p ys ≡ true) = and_parts (p y) (list_all p ys) all in
    subst (λ z. p z ≡ true) same both.0
pass_at p (y ∷ ys) (suc i) x all e = pass_at p ys i x (and_parts (p y) (list_all p ys) all).1 e

module _ (us : List (List Labelled)) (height : ℕ → ℕ) (is : IsHeight us height) (d e k : ℕ) (deep : height k ≤ d) (deeper : height k ≤ e) where
  abbrev lower : Labelled → Bool
  lower s = calls_below height us k (call_in s.stmt)

  agree : Agree us height is (body_labels us d) (body_labels us e) k
  agree = record { at = λ g below. labels_settle us height is d e g (omega arith) (omega arith) }

  here_alike : (s : Labelled) → lower s ≡ true → labels (body_labels us d) us k s ≡ labels (body_labels us e) us k s
  here_alike = labels_alike us height is (body_labels us d) (body_labels us e) k agree

  before_alike : (place : ℕ) → labels_before us d k place ≡ labels_before us e k place
  before_alike place = sums_alike lower (labels (body_labels us d) us k) (labels (body_labels us e) us k) here_alike (take place (unit_at us k)) (pass_take lower (unit_at us k) place (is k))

  number_alike : (base place : ℕ) → number_at us d k base place ≡ number_at us e k base place
  number_alike base place = ap (λ (n : ℕ). base + n + 1) (before_alike place)

  end_alike : (call : Option Call) → calls_below height us k call ≡ true → (n m : ℕ) → n ≡ m → end_by us d call n ≡ end_by us e call m
  end_alike None below n m same = same
  end_alike (Some call) below n m same =
      let g = unit_of us call.name in
      ap (λ (x : ℕ). x + body_labels us d g + 1) same ∙ ap (λ (x : ℕ). m + x + 1) (agree.at g (ltb-true (height g) (height k) below))

  found_below : (place : ℕ) (found : Option Labelled) → slice_get (unit_at us k) place ≡ found → calls_below height us k (call_at found) ≡ true
  found_below place None e = refl
  found_below place (Some s) e = pass_at lower (unit_at us k) place s (is k) e

  change_alike : (base : ℕ) (arguments : List Entity) → change_in us d k base arguments ≡ change_in us e k base arguments
  change_alike base arguments =
      let u = unit_at us k in
      let before = change_in us d k base arguments in
      let behind = change_in us e k base arguments in
      let jump : before.jump ≡ behind.jump = fun_ext (λ (l : ℕ). number_alike base (statement_of u l)) in
      let end : before.end ≡ behind.end = fun_ext (λ (l : ℕ). end_alike (call_at (slice_get u (statement_of u l))) (found_below (statement_of u l) (slice_get u (statement_of u l)) refl) (number_at us d k base (statement_of u l)) (number_at us e k base (statement_of u l)) (number_alike base (statement_of u l))) in
      let back : before.back ≡ behind.back = number_alike base (length u) in
      ap (λ (f : ℕ → ℕ). record before { jump = f }) jump
      ∙ ap (λ (f : ℕ → ℕ). record before { jump = behind.jump; end = f }) end
      ∙ ap (λ (n : ℕ). record before { jump = behind.jump; end = behind.end; back = n }) back

  -- copies of what the unit can call
  pub record CopyAlike : Type 0 where
    pub at : (g : ℕ) (arguments : List Entity) (base : ℕ) → height g < height k → copy us d g arguments base ≡ copy us e g arguments base

  module _ (alike : CopyAlike) (arguments : List Entity) (base : ℕ) where
    abbrev context : ℕ → Context
    context depth = record { depth = depth; unit = k; arguments = arguments; base = base }

    piece_by_alike : (m : ℕ) (s : Labelled) (call : Option Call) → calls_below height us k call ≡ true → piece_by (copy us d) us (context d) m s call ≡ piece_by (copy us e) us (context e) m s call
    piece_by_alike m s None below = ap (λ (c : Change). bare (if s.label == 0 then 0 else m) s.line (changed_stmt c s.stmt) ∷ []) (change_alike base arguments)
    piece_by_alike m s (Some call) below =
        let g = unit_of us call.name in
        let passed = map (stands_for us k arguments) call.arguments in
        let under : height g < height k = ltb-true (height g) (height k) below in
        ap (λ (c : Change). around c m (m + body_labels us d g + 1) s.line (guard_of s.stmt) (copy us d g passed m)) (change_alike base arguments)
        ∙ ap (λ (n : ℕ). around (change_in us e k base arguments) m (m + n + 1) s.line (guard_of s.stmt) (copy us d g passed m)) (agree.at g under)
        ∙ ap (λ (body : List Labelled). around (change_in us e k base arguments) m (m + body_labels us e g + 1) s.line (guard_of s.stmt) body) (alike.at g passed m under)

    piece_alike : (m : ℕ) (s : Labelled) → lower s ≡ true → piece (copy us d) us (context d) m s ≡ piece (copy us e) us (context e) m s
    piece_alike m s below = ap (λ (stood : List Labelled). if is_kept k s.stmt then stood else []) (piece_by_alike m s (call_in s.stmt) below)

    pieces_alike : (before : ℕ) (stmts : List Labelled) → list_all lower stmts ≡ true → pieces (copy us d) us (context d) before stmts ≡ pieces (copy us e) us (context e) before stmts
    pieces_alike before [] all = refl
    pieces_alike before (s ∷ rest) all =
        let both : (lower s ≡ true) × (list_all lower rest ≡ true) = and_parts (lower s) (list_all lower rest) all in
        let m = base + before + 1 in
        ap (λ (stood : List Labelled). stood ++ pieces (copy us d) us (context d) (before + labels (body_labels us d) us k s) rest) (piece_alike m s both.0)
        ∙ ap (λ (n : ℕ). piece (copy us e) us (context e) m s ++ pieces (copy us d) us (context d) (before + n) rest) (here_alike s both.0)
        ∙ ap (λ (stood : List Labelled). piece (copy us e) us (context e) m s ++ stood) (pieces_alike (before + labels (body_labels us e) us k s) rest both.1)

pub copies_settle : (us : List (List Labelled)) (height : ℕ → ℕ) → IsHeight us height → (d e k : ℕ) (arguments : List Entity) (base : ℕ) → height k < d → height k < e → copy us d k arguments base ≡ copy us e k arguments base
copies_settle us height is zero e k arguments base deep deeper = absurd (omega arith)
copies_settle us height is (suc d) zero k arguments base deep deeper = absurd (omega arith)
copies_settle us height is (suc d) (suc e) k arguments base deep deeper =
    let under : height k ≤ d = omega arith in
    let below : height k ≤ e = omega arith in
    let alike : CopyAlike us height is d e k under below = record { at = λ g passed start less. copies_settle us height is d e g passed start (omega arith) (omega arith) } in
    pieces_alike us height is d e k under below alike arguments base 0 (unit_at us k) (is k)
