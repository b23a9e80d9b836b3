-- The labels of a copy stand in a row.
use Rattle.std.proofs.Common.{◌≡◌, ℕ, zero, suc, ◌+◌, ◌<◌, ◌==◌, Bool, true, false, List, [], ◌∷◌, ◌++◌, map, Option, Some, None, if◌then◌else◌, sum_by, refl, sym, ap, ◌∙◌, arith}
use Rattle.std.specs.List.{range_with_len}
use Rattle.std.proofs.lemmas.Bool.{ne_eqb}
use Rattle.std.proofs.lemmas.List.Sums.{sum_by-cons}
use Rattle.f77_tree.specs.declared.statements.Labelled.{Labelled}
use Rattle.f77_tree.specs.declared.statements.RawExpr.{RawExpr}
use Rattle.f77_tree.specs.declared.statements.Stmt.{Stmt}
use Rattle.f77_tree.specs.declared.statements.Stmt.TheVariants.{Continue, EndIf, BlockIf}
use Rattle.program_units.specs.Units.{Call, call_in, guard_of, unit_at, unit_of}
use Rattle.program_units.specs.declared.entity.Entity.{Entity}
use Rattle.program_units.specs.Entities.{stands_for}
use Rattle.program_units.specs.Widths.{is_kept, labels_by, labels, body_labels, labels_written}
use Rattle.program_units.specs.Copies.{Change, Copying, Context, bare, changes, changed, changed_stmt, around, piece_by, piece, pieces, copy}

-- ---- numbers in a row

pub row_split : (a n k : ℕ) → range_with_len a (n + k) ≡ range_with_len a n ++ range_with_len (a + n) k
row_split a zero k =
    let left : 0 + k ≡ k = omega arith in
    let right : a ≡ a + 0 = omega arith in
    ap (λ (m : ℕ). range_with_len a m) left ∙ ap (λ (m : ℕ). range_with_len m k) right
row_split a (suc n) k =
    let left : suc n + k ≡ suc (n + k) = omega arith in
    let right : a + 1 + n ≡ a + suc n = omega arith in
    ap (λ (m : ℕ). range_with_len a m) left ∙ ap (λ (xs : List ℕ). a ∷ xs) (row_split (a + 1) n k ∙ ap (λ (m : ℕ). range_with_len (a + 1) n ++ range_with_len m k) right)

-- a number, n more, and one behind them
row_around : (m n : ℕ) → m ∷ (range_with_len (m + 1) n ++ (m + n + 1) ∷ []) ≡ range_with_len m (2 + n)
row_around m n =
    let more : suc (n + 1) ≡ 2 + n = omega arith in
    let last : m + n + 1 ≡ m + 1 + n = omega arith in
    ap (λ (l : ℕ). m ∷ (range_with_len (m + 1) n ++ l ∷ [])) last
    ∙ ap (λ (xs : List ℕ). m ∷ xs) (sym (row_split (m + 1) n 1))
    ∙ ap (λ (count : ℕ). range_with_len m count) more

-- ---- labels of lists

written-step : (blank : Bool) (label : ℕ) (xs ys all : List ℕ) → all ≡ xs ++ ys → (if blank then all else label ∷ all) ≡ (if blank then xs else label ∷ xs) ++ ys
written-step true label xs ys all same = same
written-step false label xs ys all same = ap (λ (ls : List ℕ). label ∷ ls) same

pub written-append : (xs ys : List Labelled) → labels_written (xs ++ ys) ≡ labels_written xs ++ labels_written ys
written-append [] ys = refl
written-append (s ∷ xs) ys = written-step (s.label == 0) s.label (labels_written xs) (labels_written ys) (labels_written (xs ++ ys)) (written-append xs ys)

written-some : (label line : ℕ) (stmt : Stmt) (rest : List Labelled) → 0 < label → labels_written (bare label line stmt ∷ rest) ≡ label ∷ labels_written rest
written-some label line stmt rest some =
    let is_not : (label == 0) ≡ false = ne_eqb label 0 (λ (e : label ≡ 0). omega arith) in
    ap (λ (blank : Bool). if blank then labels_written rest else label ∷ labels_written rest) is_not

around_labels : (c : Change) (a b line : ℕ) (guard : Option RawExpr) (inside : List Labelled) → 0 < a → 0 < b → labels_written (around c a b line guard inside) ≡ a ∷ (labels_written inside ++ b ∷ [])
around_labels c a b line None inside has_a has_b =
    written-some a line Continue (inside ++ bare b line Continue ∷ []) has_a
    ∙ ap (λ (ls : List ℕ). a ∷ ls) (written-append inside (bare b line Continue ∷ []) ∙ ap (λ (ls : List ℕ). labels_written inside ++ ls) (written-some b line Continue [] has_b))
around_labels c a b line (Some condition) inside has_a has_b =
    written-some a line Continue (bare 0 line (BlockIf (changed c condition)) ∷ (inside ++ bare 0 line EndIf ∷ bare b line Continue ∷ [])) has_a
    ∙ ap (λ (ls : List ℕ). a ∷ ls) (written-append inside (bare 0 line EndIf ∷ bare b line Continue ∷ []) ∙ ap (λ (ls : List ℕ). labels_written inside ++ ls) (written-some b line Continue [] has_b))

-- ---- copies

module _ (us : List (List Labelled)) (body : Copying) (c : Context) (has : (k : ℕ) (arguments : List Entity) (base : ℕ) → labels_written (body k arguments base) ≡ range_with_len (base + 1) (body_labels us c.depth k)) where
  abbrev count : ℕ → ℕ
  count = body_labels us c.depth

  lone_label : (blank : Bool) (m line : ℕ) (stmt : Stmt) → 0 < m → labels_written (bare (if blank then 0 else m) line stmt ∷ []) ≡ range_with_len m (if blank then 0 else 1)
  lone_label true m line stmt some = refl
  lone_label false m line stmt some = written-some m line stmt [] some

  piece_by_labels : (m : ℕ) (s : Labelled) (call : Option Call) → 0 < m → labels_written (piece_by body us c m s call) ≡ range_with_len m (labels_by count us s.label call)
  piece_by_labels m s None some = lone_label (s.label == 0) m s.line (changed_stmt (changes us c) s.stmt) some
  piece_by_labels m s (Some call) some =
      let g = unit_of us call.name in
      let arguments = map (stands_for us c.unit c.arguments) call.arguments in
      let behind : 0 < m + count g + 1 = omega arith in
      around_labels (changes us c) m (m + count g + 1) s.line (guard_of s.stmt) (body g arguments m) some behind
      ∙ ap (λ (ls : List ℕ). m ∷ (ls ++ (m + count g + 1) ∷ [])) (has g arguments m)
      ∙ row_around m (count g)

  if_labels : (kept : Bool) (stood : List Labelled) (m n : ℕ) → labels_written stood ≡ range_with_len m n → labels_written (if kept then stood else []) ≡ range_with_len m (if kept then n else 0)
  if_labels true stood m n same = same
  if_labels false stood m n same = refl

  pub piece_labels : (m : ℕ) (s : Labelled) → 0 < m → labels_written (piece body us c m s) ≡ range_with_len m (labels count us c.unit s)
  piece_labels m s some = if_labels (is_kept c.unit s.stmt) (piece_by body us c m s (call_in s.stmt)) m (labels_by count us s.label (call_in s.stmt)) (piece_by_labels m s (call_in s.stmt) some)

  pub pieces_labels : (before : ℕ) (stmts : List Labelled) → labels_written (pieces body us c before stmts) ≡ range_with_len (c.base + before + 1) (sum_by (labels count us c.unit) stmts)
  pieces_labels before [] = refl
  pieces_labels before (s ∷ rest) =
      let m = c.base + before + 1 in
      let here = labels count us c.unit s in
      let left = sum_by (labels count us c.unit) rest in
      let some : 0 < m = omega arith in
      let next : c.base + (before + here) + 1 ≡ m + here = omega arith in
      written-append (piece body us c m s) (pieces body us c (before + here) rest)
      ∙ ap (λ (ls : List ℕ). ls ++ labels_written (pieces body us c (before + here) rest)) (piece_labels m s some)
      ∙ ap (λ (ls : List ℕ). range_with_len m here ++ ls) (pieces_labels (before + here) rest ∙ ap (λ (n : ℕ). range_with_len n left) next)
      ∙ sym (row_split m here left)
      ∙ ap (λ (n : ℕ). range_with_len m n) (sym (sum_by-cons (labels count us c.unit) s rest))

pub copy_labels : (us : List (List Labelled)) (depth k : ℕ) (arguments : List Entity) (base : ℕ) → labels_written (copy us depth k arguments base) ≡ range_with_len (base + 1) (body_labels us depth k)
copy_labels us zero k arguments base = refl
copy_labels us (suc depth) k arguments base =
    let c : Context = record { depth = depth; unit = k; arguments = arguments; base = base } in
    let begin : base + 0 + 1 ≡ base + 1 = omega arith in
    pieces_labels us (copy us depth) c (copy_labels us depth) 0 (unit_at us k) ∙ ap (λ (n : ℕ). range_with_len n (body_labels us (suc depth) k)) begin
