-- Copies are sealed: their blocks of IF end in them.
use Rattle.std.proofs.Common.{◌≡◌, ℕ, zero, suc, ◌+◌, ◌-◌, Bool, true, false, ◌&&◌, ◌||◌, ◌==◌, nat_lt, List, [], ◌∷◌, ◌++◌, length, Option, Some, None, if◌then◌else◌, refl, sym, ap, ◌∙◌, arith}
use Rattle.std.proofs.lemmas.Bool.{lt-ltb, ltb-true, eqb-true, ne_eqb}
use Rattle.std.proofs.lemmas.List.{append-nil}
use mathlib.Core.Path.{fun_ext}
use Rattle.f77_tree.specs.declared.statements.Labelled.{Labelled}
use Rattle.f77_tree.specs.declared.statements.RawExpr.{RawExpr}
use Rattle.f77_tree.specs.declared.statements.Stmt.{Stmt}
use Rattle.f77_tree.specs.declared.statements.Stmt.TheVariants.{Continue, EndIf}
use Rattle.layout_rules.specs.Labels.{is_arm}
use Rattle.layout_rules.specs.Jumps.{is_block_if, is_end_if, end_after}
use Rattle.program_units.specs.Units.{Call, call_in}
use Rattle.program_units.specs.declared.entity.Entity.{Entity}
use Rattle.program_units.specs.Widths.{is_kept, labels, body_labels}
use Rattle.program_units.specs.Copies.{Change, Copying, Context, bare, changes, changed_stmt, around, piece_by, number_at, pieces, copy}
use Rattle.program_units.specs.ListedCopies.{piece_at}
use Rattle.program_units.specs.OpenBlocks.{are_closed, AreClosedUnits}
use Rattle.unit_laws.proofs.BlockRoles.{Alike, IsNeutral, changed-alike, unkept_neutral, call_neutral}
use Rattle.std.proofs.lemmas.Grind.{elements}

-- ---- one statement

-- what a statement does to the blocks that are open, by its tests
abbrev pub turned : (begins ends arm : Bool) → (opened : ℕ) → (next : ℕ → Bool) → Bool
turned begins ends arm opened next = if begins then next (opened + 1) else if ends then nat_lt 0 opened && next (opened - 1) else if arm then nat_lt 0 opened && next opened else next opened

pub turned-neutral : (s : Stmt) → IsNeutral s → (opened : ℕ) (next : ℕ → Bool) → turned (is_block_if s) (is_end_if s) (is_arm s) opened next ≡ next opened
turned-neutral s is opened next = cc

pub turned-alike : (s t : Stmt) → Alike s t → (opened : ℕ) (next : ℕ → Bool) → turned (is_block_if s) (is_end_if s) (is_arm s) opened next ≡ turned (is_block_if t) (is_end_if t) (is_arm t) opened next
turned-alike s t is opened next = cc

turned-next : (begins ends arm : Bool) (opened : ℕ) (f g : ℕ → Bool) → ((d : ℕ) → f d ≡ g d) → turned begins ends arm opened f ≡ turned begins ends arm opened g
turned-next begins ends arm opened f g same = ap (λ (next : ℕ → Bool). turned begins ends arm opened next) (fun_ext same)

-- ---- closed statements are passed over

-- blocks that were open before stay open
closed_step : (begins ends arm : Bool) (opened inside : ℕ) (more next : ℕ → Bool) (end : Bool) → turned begins ends arm inside more ≡ true → ((d : ℕ) → more d ≡ true → next (opened + d) ≡ end) → turned begins ends arm (opened + inside) next ≡ end
closed_step h ends arm opened inside more next end is later = grind (arith, ltb-true, lt-ltb)

pub closed-append : (xs ys : List Labelled) (opened inside : ℕ) → are_closed inside xs ≡ true → are_closed (opened + inside) (xs ++ ys) ≡ are_closed opened ys
closed-append [] ys opened inside is = let none : inside ≡ 0 = eqb-true inside 0 is in ap (λ (n : ℕ). are_closed n ys) (let e : opened + inside ≡ opened = omega (arith, none) in e)
closed-append (s ∷ xs) ys opened inside is = grind (arith, elements, closed_step, closed-append xs ys opened)

closed-behind : (xs ys : List Labelled) (opened : ℕ) → are_closed 0 xs ≡ true → are_closed opened (xs ++ ys) ≡ are_closed opened ys
closed-behind xs ys opened is = ap (λ (n : ℕ). are_closed n (xs ++ ys)) (let e : opened ≡ opened + 0 = omega arith in e) ∙ closed-append xs ys opened 0 is

pub and_none : (b arms : Bool) → (b && (false || (arms && false))) ≡ false
and_none h arms = grind arith

-- the end behind a statement, by its tests
abbrev pub gone : (begins ends arm arms : Bool) → (inner place : ℕ) → (next : ℕ → ℕ) → ℕ
gone begins ends arm arms inner place next = if begins then next (inner + 1) else if (inner == 0) && (ends || (arms && arm)) then place else if ends then next (inner - 1) else next inner

ended_step : (begins ends arm arms : Bool) (inner inside place end : ℕ) (more : ℕ → Bool) (next : ℕ → ℕ) → turned begins ends arm inside more ≡ true → ((d : ℕ) → more d ≡ true → next (inner + d) ≡ end) → gone begins ends arm arms (inner + inside) place next ≡ end
ended_step h ends arm arms inner inside place end more next is later = grind (arith, ltb-true, ne_eqb, and_none)

passed_from : (arms : Bool) (xs ys : List Labelled) (inner inside place : ℕ) → are_closed inside xs ≡ true → end_after arms (inner + inside) (xs ++ ys) place ≡ end_after arms inner ys (place + length xs)
passed_from arms [] ys inner inside place is = grind (arith, eqb-true inside 0 is)
passed_from arms (s ∷ xs) ys inner inside place is =
    ended_step (is_block_if s.stmt) (is_end_if s.stmt) (is_arm s.stmt) arms inner inside place (end_after arms inner ys (place + 1 + length xs)) (λ d. are_closed d xs) (λ d. end_after arms d (xs ++ ys) (place + 1)) is (λ d more. passed_from arms xs ys inner d (place + 1) more)
    ∙ ap (λ (n : ℕ). end_after arms inner ys n) (let e : place + 1 + length xs ≡ place + suc (length xs) = omega arith in e)

-- the search for an end of what begins before them finds none in them
pub passed-over : (arms : Bool) (xs ys : List Labelled) (inner place : ℕ) → are_closed 0 xs ≡ true → end_after arms inner (xs ++ ys) place ≡ end_after arms inner ys (place + length xs)
passed-over arms xs ys inner place is = ap (λ (n : ℕ). end_after arms n (xs ++ ys) place) (let e : inner ≡ inner + 0 = omega arith in e) ∙ passed_from arms xs ys inner 0 place is

-- ---- copies

around-closed : (x : Change) (a b line : ℕ) (guard : Option RawExpr) (inside : List Labelled) → are_closed 0 inside ≡ true → are_closed 0 (around x a b line guard inside) ≡ true
around-closed x a b line None inside is = closed-behind inside (bare b line Continue ∷ []) 0 is
around-closed x a b line (Some condition) inside is = closed-behind inside (bare 0 line EndIf ∷ bare b line Continue ∷ []) 1 is

module _ (us : List (List Labelled)) (body : Copying) (closed : (k : ℕ) (arguments : List Entity) (base : ℕ) → are_closed 0 (body k arguments base) ≡ true) (c : Context) where
  abbrev after : Stmt → (opened : ℕ) → (next : ℕ → Bool) → Bool
  after s opened next = turned (is_block_if s) (is_end_if s) (is_arm s) opened next

  by_call : (m : ℕ) (s : Labelled) (call : Option Call) → call_in s.stmt ≡ call → (tail : List Labelled) (opened : ℕ) → are_closed opened (piece_by body us c m s call ++ tail) ≡ after s.stmt opened (λ d. are_closed d tail)
  by_call m s None is tail opened = turned-alike (changed_stmt (changes us c) s.stmt) s.stmt (changed-alike (changes us c) s.stmt) opened (λ d. are_closed d tail)
  by_call m s (Some call) is tail opened =
      grind (arith, closed-behind, around-closed (changes us c) m, turned-neutral s.stmt (call_neutral s.stmt call is).neutral opened, call_neutral s.stmt call is)

  by_kept : (m : ℕ) (s : Labelled) (kept : Bool) → is_kept c.unit s.stmt ≡ kept → (tail : List Labelled) (opened : ℕ) → are_closed opened ((if kept then piece_by body us c m s (call_in s.stmt) else []) ++ tail) ≡ after s.stmt opened (λ d. are_closed d tail)
  by_kept m s true is tail opened = by_call m s (call_in s.stmt) refl tail opened
  by_kept m s false is tail opened = sym (turned-neutral s.stmt (unkept_neutral c.unit s.stmt is) opened (λ d. are_closed d tail))

  pieces-closed : (before opened : ℕ) (stmts : List Labelled) → are_closed opened (pieces body us c before stmts) ≡ are_closed opened stmts
  pieces-closed before opened [] = refl
  pieces-closed before opened (s ∷ rest) =
      let next = before + labels (body_labels us c.depth) us c.unit s in
      by_kept (c.base + before + 1) s (is_kept c.unit s.stmt) refl (pieces body us c next rest) opened
      ∙ turned-next (is_block_if s.stmt) (is_end_if s.stmt) (is_arm s.stmt) opened (λ d. are_closed d (pieces body us c next rest)) (λ d. are_closed d rest) (λ d. pieces-closed next d rest)

pub copy-closed : (us : List (List Labelled)) → AreClosedUnits us → (depth k : ℕ) (arguments : List Entity) (base : ℕ) → are_closed 0 (copy us depth k arguments base) ≡ true
copy-closed us units zero k arguments base = refl
copy-closed us units (suc depth) k arguments base = grind (arith, elements, pieces-closed, copy-closed us units depth)

-- what stands for a CALL, with the block after a condition
pub call-closed : (us : List (List Labelled)) → AreClosedUnits us → (c : Context) (place : ℕ) (s : Labelled) (call : Call) → call_in s.stmt ≡ Some call → are_closed 0 (piece_at us c place s) ≡ true
call-closed us units c place s call is =
    grind (arith, append-nil (piece_at us c place s), by_kept us (copy us c.depth) (copy-closed us units c.depth) c (number_at us c.depth c.unit c.base place) s (is_kept c.unit s.stmt), copy-closed us units c.depth, turned-neutral s.stmt (call_neutral s.stmt call is).neutral 0, call_neutral s.stmt call is)
