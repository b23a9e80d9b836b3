-- DOs of different copies are different DOs of the list.
use Rattle.std.proofs.Common.{◌≡◌, ℕ, zero, suc, ◌+◌, ◌-◌, ◌<◌, ◌≤◌, ⊎_elim, Bool, true, false, cond, List, [], ◌∷◌, length, filter, take, sum_by, Option, Some, None, if◌then◌else◌, refl, sym, ap, ◌∙◌, arith}
use Rattle.std.specs.List.{slice_get}
use Rattle.std.proofs.lemmas.Bool.{cases_order}
use Rattle.std.proofs.lemmas.List.Sums.{sum_by-take-le}
use Rattle.std.proofs.lemmas.Option.{slice_get_within}
use Rattle.f77_tree.specs.declared.statements.Labelled.{Labelled}
use Rattle.f77_tree.specs.declared.statements.RawExpr.{RawExpr}
use Rattle.f77_tree.specs.declared.statements.Stmt.{Stmt}
use Rattle.f77_tree.specs.declared.statements.Stmt.TheVariants.{Do}
use Rattle.layout_rules.specs.Executables.{is_do, loop_number}
use Rattle.program_units.specs.Units.{Call, call_in, guard_of, unit_at, unit_of}
use Rattle.program_units.specs.Widths.{body_width, is_kept, lines_around, width, width_by}
use Rattle.program_units.specs.Copies.{Context, copy, number_at}
use Rattle.program_units.specs.ListedCopies.{called_context, copied_place, lines_before, piece_at, width_before}
use Rattle.unit_laws.proofs.CopyWidths.{copy_length, piece_length}
use Rattle.unit_laws.proofs.Having.{sum-next}
use Rattle.unit_laws.proofs.Kept.{kept_or_none}
use Rattle.called_runs.proofs.Grounds.{AreLaid, IsCopied}
use Rattle.called_runs.proofs.LastPieces.{last-one}
use Rattle.called_runs.proofs.RisingPlaces.{at-next, at-rises}

-- ---- numbers

more-dos : (b : Bool) (x : Labelled) (xs ys : List Labelled) → length (filter (λ s. is_do s.stmt) xs) < length (filter (λ s. is_do s.stmt) ys) → length (cond b (x ∷ filter (λ s. is_do s.stmt) xs) (filter (λ s. is_do s.stmt) xs)) < length (cond b (x ∷ filter (λ s. is_do s.stmt) ys) (filter (λ s. is_do s.stmt) ys))
more-dos true x xs ys less = omega (arith, less)
more-dos false x xs ys less = less

-- a DO has a number below those behind it
pub number-rises : (stmts : List Labelled) (d e : ℕ) (s : Labelled) → slice_get stmts d ≡ Some s → is_do s.stmt ≡ true → d < e → loop_number stmts d < loop_number stmts e
number-rises [] d e s is does below = let h : None ≡ Some s = is in absurd cc
number-rises (x ∷ xs) d zero s is does below = absurd (omega (arith, below))
number-rises (x ∷ xs) zero (suc e) s is does below =
    let h : Some x ≡ Some s = is in
    let same : x ≡ s = cc in
    let one : length (filter (λ t. is_do t.stmt) (x ∷ take e xs)) ≡ suc (length (filter (λ t. is_do t.stmt) (take e xs))) = ap (λ (b : Bool). length (cond b (x ∷ filter (λ t. is_do t.stmt) (take e xs)) (filter (λ t. is_do t.stmt) (take e xs)))) (ap (λ (t : Labelled). is_do t.stmt) same ∙ does) in
    omega (arith, one)
number-rises (x ∷ xs) (suc d) (suc e) s is does below = more-dos (is_do x.stmt) x (take d xs) (take e xs) (number-rises xs d e s is does (omega (arith, below)))

pub numbers-apart : (stmts : List Labelled) (d e : ℕ) (s t : Labelled) → slice_get stmts d ≡ Some s → is_do s.stmt ≡ true → slice_get stmts e ≡ Some t → is_do t.stmt ≡ true → loop_number stmts d ≡ loop_number stmts e → d ≡ e
numbers-apart stmts d e s t is does there does_too same =
    ⊎_elim (λ (one : d ≡ e). one) (λ o. ⊎_elim
    (λ (below : d < e). let less = number-rises stmts d e s is does below in absurd (omega (arith, less, same)))
    (λ (above : e < d). let less = number-rises stmts e d t there does_too above in absurd (omega (arith, less, same)))
    o) (cases_order d e)

-- ---- places

module _ (us : List (List Labelled)) where
  -- what stands for the statements of a context stands between two places
  pub record LiesIn (c : Context) (at : ℕ → ℕ) (from to : ℕ) : Type 0 where
    pub low : (i : ℕ) (s : Labelled) → slice_get (unit_at us c.unit) i ≡ Some s → from ≤ at i
    pub high : (i : ℕ) (s : Labelled) → slice_get (unit_at us c.unit) i ≡ Some s → at i + length (piece_at us c i s) ≤ to

  by-depth : (d g i : ℕ) (t : Labelled) (inner : Context) → 0 < d → inner.depth ≡ d - 1 → inner.unit ≡ g → slice_get (unit_at us g) i ≡ Some t → width_before us (d - 1) g i + length (piece_at us inner i t) ≤ body_width us d g
  by-depth zero g i t inner deep depth unit is = absurd (omega (arith, deep))
  by-depth (suc d) g i t inner deep depth unit is =
      let same : suc d - 1 ≡ d = omega arith in
      let wide : Labelled → ℕ = width (body_width us d) us g in
      let one : length (piece_at us inner i t) ≡ wide t = piece_length us (copy us inner.depth) (body_width us inner.depth) (copy_length us inner.depth) inner (number_at us inner.depth inner.unit inner.base i) t
      ∙ ap (λ (n : ℕ). width (body_width us n) us inner.unit t) (depth ∙ same)
      ∙ ap (λ (n : ℕ). width (body_width us d) us n t) unit in
      let before : width_before us (suc d - 1) g i ≡ sum_by wide (take i (unit_at us g)) = ap (λ (n : ℕ). width_before us n g i) same in
      let next = sum-next wide (unit_at us g) i t is in
      let most : sum_by wide (take (i + 1) (unit_at us g)) ≤ sum_by wide (unit_at us g) = sum_by-take-le wide (unit_at us g) (i + 1) in
      omega (arith, one, before, next, most)

  lines : (guard : Option RawExpr) → lines_before guard ≤ lines_around guard
  lines None = omega arith
  lines (Some e) = omega arith

  module _ (c : Context) (at : ℕ → ℕ) (place : ℕ) (s : Labelled) (call : Call) (is : slice_get (unit_at us c.unit) place ≡ Some s) (calls : call_in s.stmt ≡ Some call) (deep : 0 < c.depth) where
    abbrev inside : Context
    inside = called_context us c place call

    abbrev inside_at : ℕ → ℕ
    inside_at = copied_place us inside (at place + lines_before (guard_of s.stmt))

    piece-long : length (piece_at us c place s) ≡ lines_around (guard_of s.stmt) + body_width us c.depth (unit_of us call.name)
    piece-long =
        let kept : is_kept c.unit s.stmt ≡ true = ⊎_elim (λ (k : is_kept c.unit s.stmt ≡ true). k) (λ (none : call_in s.stmt ≡ None). let e : None ≡ Some call = sym none ∙ calls in absurd cc) (kept_or_none c.unit s.stmt) in
        piece_length us (copy us c.depth) (body_width us c.depth) (copy_length us c.depth) c (number_at us c.depth c.unit c.base place) s
        ∙ ap (λ (k : Bool). if k then width_by (body_width us c.depth) us (guard_of s.stmt) (call_in s.stmt) else 0) kept
        ∙ ap (λ (o : Option Call). width_by (body_width us c.depth) us (guard_of s.stmt) o) calls

    -- the context of a CALL lies in what stands for the CALL
    pub lies-called : LiesIn inside inside_at (at place) (at place + length (piece_at us c place s))
    lies-called = record {
      low = λ i t there. omega arith;
      high = λ i t there.
          let most = by-depth c.depth (unit_of us call.name) i t inside deep refl refl there in
          let few = lines (guard_of s.stmt) in
          let long = piece-long in
          omega (arith, most, few, long);
    }

    -- and where its context lies
    pub lies-deeper : (from to : ℕ) → LiesIn c at from to → LiesIn inside inside_at from to
    lies-deeper from to lies =
        let own = lies-called in
        let least = lies.low place s is in
        let most = lies.high place s is in
        record {
          low = λ i t there. let low = own.low i t there in omega (arith, low, least);
          high = λ i t there. let high = own.high i t there in omega (arith, high, most);
        }

-- ---- DOs

pub do-no-call : (t : Stmt) → is_do t ≡ true → call_in t ≡ None
do-no-call (Do a b c d e) does = refl
do-no-call _ does = let h : false ≡ true = does in absurd cc

pub do-kept : (k : ℕ) (t : Stmt) → is_do t ≡ true → is_kept k t ≡ true
do-kept zero t does = refl
do-kept (suc k) (Do a b c d e) does = refl
do-kept (suc k) _ does = let h : false ≡ true = does in absurd cc

module _ (us : List (List Labelled)) (list : List Labelled) (laid : AreLaid us list) (c : Context) (at : ℕ → ℕ) (held : IsCopied us list c at) (inner : Context) (there : ℕ → ℕ) (inner_held : IsCopied us list inner there) where
  rises-to : (i j : ℕ) → i ≤ j → j ≤ length (unit_at us c.unit) → at i ≤ at j
  rises-to i j below within = let e = at-rises us list laid c at held (j - i) i (omega (arith, below, within)) in let same : at (i + (j - i)) ≡ at j = ap at (let z : i + (j - i) ≡ j = omega (arith, below) in z) in omega (arith, e, same)

  -- a DO of a context isn't one of a context inside a CALL of it
  pub dos-apart : (place : ℕ) (s : Labelled) (call : Call) → slice_get (unit_at us c.unit) place ≡ Some s → call_in s.stmt ≡ Some call → LiesIn us inner there (at place) (at place + length (piece_at us c place s))
      → (d e : ℕ) (t u : Labelled) → slice_get (unit_at us c.unit) d ≡ Some t → is_do t.stmt ≡ true → slice_get (unit_at us inner.unit) e ≡ Some u → is_do u.stmt ≡ true → at d ≡ there e → ⊥
  dos-apart place s call is calls lies d e t u at_d does at_e does_too same =
      let low = lies.low e u at_e in
      let high = lies.high e u at_e in
      let some = (last-one us list laid inner there inner_held e u at_e (do-kept inner.unit u.stmt does_too)).some in
      let within = slice_get_within (unit_at us c.unit) d t at_d in
      let within_too = slice_get_within (unit_at us c.unit) place s is in
      ⊎_elim
      (λ (one : d ≡ place).
      let found : Some t ≡ Some s = sym at_d ∙ ap (λ (n : ℕ). slice_get (unit_at us c.unit) n) one ∙ is in
      let same_s : t ≡ s = cc in
      let both : None ≡ Some call = sym (do-no-call t.stmt does) ∙ ap (λ (x : Labelled). call_in x.stmt) same_s ∙ calls in
      cc)
      (λ o. ⊎_elim
      (λ (below : d < place).
      let next = at-next us list laid c at held d t at_d in
      let mine = (last-one us list laid c at held d t at_d (do-kept c.unit t.stmt does)).some in
      let rest = rises-to (d + 1) place (omega (arith, below)) (omega (arith, within_too)) in
      omega (arith, next, mine, rest, low, same))
      (λ (above : place < d).
      let next = at-next us list laid c at held place s is in
      let rest = rises-to (place + 1) d (omega (arith, above)) (omega (arith, within)) in
      omega (arith, next, rest, high, some, same))
      o) (cases_order d place)
