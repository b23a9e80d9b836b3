-- A copy has as many statements as are counted for it, and so has the whole list.
use Rattle.std.proofs.Common.{◌≡◌, ℕ, zero, suc, ◌+◌, Bool, true, false, List, [], ◌∷◌, ◌++◌, length, map, take, drop, Option, Some, None, if◌then◌else◌, sum_by, refl, sym, ap, ◌∙◌, arith, length-append}
use Rattle.std.proofs.lemmas.List.Sums.{sum_by-cons, sum_by-take-drop}
use Rattle.f77_tree.specs.declared.statements.Labelled.{Labelled}
use Rattle.f77_tree.specs.declared.statements.RawExpr.{RawExpr}
use Rattle.f77_tree.specs.declared.statements.Stmt.TheVariants.{Continue, EndIf}
use Rattle.program_units.specs.Units.{Call, call_in, guard_of, unit_at, unit_of}
use Rattle.program_units.specs.declared.entity.Entity.{Entity}
use Rattle.program_units.specs.Entities.{stands_for}
use Rattle.program_units.specs.Widths.{is_kept, lines_around, width_by, width, body_width, labels, body_labels, labels_before}
use Rattle.program_units.specs.Copies.{Change, Copying, Context, bare, changes, around, piece_by, piece, pieces, copy}
use Rattle.program_units.specs.Expansion.{merged, declared_first, main_context, main_pieces, whole_list, total_width}

around_length : (c : Change) (a b line : ℕ) (guard : Option RawExpr) (inside : List Labelled) → length (around c a b line guard inside) ≡ lines_around guard + length inside
around_length c a b line None inside = let e = length-append inside (bare b line Continue ∷ []) in omega (arith, e)
around_length c a b line (Some condition) inside = let e = length-append inside (bare 0 line EndIf ∷ bare b line Continue ∷ []) in omega (arith, e)

module _ (us : List (List Labelled)) (body : Copying) (wide : ℕ → ℕ) (has : (k : ℕ) (arguments : List Entity) (base : ℕ) → length (body k arguments base) ≡ wide k) (c : Context) where
  piece_by_length : (m : ℕ) (s : Labelled) (call : Option Call) → length (piece_by body us c m s call) ≡ width_by wide us (guard_of s.stmt) call
  piece_by_length m s None = refl
  piece_by_length m s (Some call) =
      let g = unit_of us call.name in
      let arguments = map (stands_for us c.unit c.arguments) call.arguments in
      around_length (changes us c) m (m + body_labels us c.depth g + 1) s.line (guard_of s.stmt) (body g arguments m)
      ∙ ap (λ (n : ℕ). lines_around (guard_of s.stmt) + n) (has g arguments m)

  if_length : (kept : Bool) (stood : List Labelled) (n : ℕ) → length stood ≡ n → length (if kept then stood else []) ≡ (if kept then n else 0)
  if_length true stood n same = same
  if_length false stood n same = refl

  pub piece_length : (m : ℕ) (s : Labelled) → length (piece body us c m s) ≡ width wide us c.unit s
  piece_length m s = if_length (is_kept c.unit s.stmt) (piece_by body us c m s (call_in s.stmt)) (width_by wide us (guard_of s.stmt) (call_in s.stmt)) (piece_by_length m s (call_in s.stmt))

  pub pieces_length : (before : ℕ) (stmts : List Labelled) → length (pieces body us c before stmts) ≡ sum_by (width wide us c.unit) stmts
  pieces_length before [] = refl
  pieces_length before (s ∷ rest) =
      let m = c.base + before + 1 in
      let next = before + labels (body_labels us c.depth) us c.unit s in
      length-append (piece body us c m s) (pieces body us c next rest)
      ∙ ap (λ (n : ℕ). n + length (pieces body us c next rest)) (piece_length m s)
      ∙ ap (λ (n : ℕ). width wide us c.unit s + n) (pieces_length next rest)
      ∙ sym (sum_by-cons (width wide us c.unit) s rest)

pub copy_length : (us : List (List Labelled)) (depth k : ℕ) (arguments : List Entity) (base : ℕ) → length (copy us depth k arguments base) ≡ body_width us depth k
copy_length us zero k arguments base = refl
copy_length us (suc depth) k arguments base = pieces_length us (copy us depth) (body_width us depth) (copy_length us depth) (record { depth = depth; unit = k; arguments = arguments; base = base }) 0 (unit_at us k)

pub whole_length : (us : List (List Labelled)) → length (whole_list us) ≡ total_width us
whole_length us =
    let main = unit_at us 0 in
    let p = declared_first main in
    let n = length us in
    let wide = width (body_width us n) us 0 in
    let early = main_pieces us 0 (take p main) in
    let later = labels_before us n 0 p in
    let late = main_pieces us later (drop p main) in
    let first : length early ≡ sum_by wide (take p main) = pieces_length us (copy us n) (body_width us n) (copy_length us n) (main_context us) 0 (take p main) in
    let last : length late ≡ sum_by wide (drop p main) = pieces_length us (copy us n) (body_width us n) (copy_length us n) (main_context us) later (drop p main) in
    let all : sum_by wide (take p main) + sum_by wide (drop p main) ≡ sum_by wide main = sum_by-take-drop wide main p in
    let outer : length ((early ++ merged us) ++ late) ≡ length (early ++ merged us) + length late = length-append (early ++ merged us) late in
    let front : length (early ++ merged us) ≡ length early + length (merged us) = length-append early (merged us) in
    outer ∙ (let e : length (early ++ merged us) + length late ≡ sum_by wide main + length (merged us) = omega (arith, first, last, all, front) in e)
