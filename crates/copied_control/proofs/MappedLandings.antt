-- Where control falls in the list, it comes to what stands for the statement that it comes to in the unit.
use Rattle.std.proofs.Common.{◌≡◌, ℕ, zero, suc, ◌+◌, ◌<◌, Bool, true, false, not, List, [], ◌∷◌, ◌++◌, length, drop, Option, Some, None, if◌then◌else◌, refl, sym, ap, ◌∙◌, arith, length-append}
use Rattle.std.specs.List.{slice_get, list_all, list_any}
use Rattle.std.proofs.lemmas.Bool.{or_left, or_right, not-true}
use Rattle.std.proofs.lemmas.List.Folds.{list_any-append}
use Rattle.std.proofs.lemmas.List.{drop-append-le}
use Rattle.f77_tree.specs.declared.statements.Labelled.{Labelled}
use Rattle.f77_tree.specs.declared.statements.RawExpr.{RawExpr}
use Rattle.layout_rules.specs.Labels.{is_executable, is_arm}
use Rattle.layout_rules.specs.Jumps.{is_block_if, end_of_block}
use Rattle.layout_rules.specs.Executables.{first_of, met, met_after}
use Rattle.program_units.specs.Units.{Call, call_in, is_end, unit_at}
use Rattle.program_units.specs.Widths.{is_kept}
use Rattle.program_units.specs.Copies.{Change, Context, bare, changes, changed_stmt, around}
use Rattle.copied_control.specs.Landings.{landing, landing_after}
use Rattle.program_units.specs.ListedCopies.{StandsIn, piece_at, closing}
use Rattle.program_units.specs.OpenBlocks.{AreClosedUnits, IsEnded}
use Rattle.unit_laws.proofs.BlockRoles.{changed-alike, does_nothing, unkept_is_end, unkept_end_kept, end-no-arm, end-does, call_neutral}
use Rattle.unit_laws.proofs.Having.{alike}
use Rattle.copied_control.proofs.MappedArms.{first_here, rest_here, plain-stands, blocks-mapped}
use Rattle.copied_control.proofs.WhichPieces.{IsPlain, Which, left_out, calling, single, which, nothing_stands, piece-around}

-- ---- what control meets is what it lands on

pub met-lands : (whole stmts : List Labelled) (place : ℕ) → met_after whole stmts place ≡ first_of whole (landing_after whole stmts place)
met-lands whole [] place = refl
met-lands whole (s ∷ rest) place = grind (arith, met-lands whole rest (place + 1))

pub met-is : (stmts : List Labelled) (place : ℕ) → met stmts place ≡ first_of stmts (landing stmts place)
met-is stmts place = met-lands stmts (drop place stmts) place

-- ---- single statements

pub lands-passed : (whole rest : List Labelled) (s : Labelled) (place : ℕ) → is_executable s.stmt ≡ false → landing_after whole (s ∷ rest) place ≡ landing_after whole rest (place + 1)
lands-passed whole rest s place nothing = grind (arith, does_nothing s.stmt nothing)

pub lands-here : (whole rest : List Labelled) (s : Labelled) (place : ℕ) → is_arm s.stmt ≡ false → is_executable s.stmt ≡ true → landing_after whole (s ∷ rest) place ≡ place
lands-here whole rest s place no_arm does = cc

pub lands-arm : (whole rest : List Labelled) (s : Labelled) (place : ℕ) → is_arm s.stmt ≡ true → landing_after whole (s ∷ rest) place ≡ end_of_block whole place
lands-arm whole rest s place arm = ap (λ (b : Bool). if b then end_of_block whole place else if is_executable s.stmt then place else landing_after whole rest (place + 1)) arm

pub lands-behind : (whole xs ys : List Labelled) (place : ℕ) → list_all (λ s. not (is_executable s.stmt)) xs ≡ true → landing_after whole (xs ++ ys) place ≡ landing_after whole ys (place + length xs)
lands-behind whole [] ys place all = ap (λ (n : ℕ). landing_after whole ys n) (let e : place ≡ place + 0 = omega arith in e)
lands-behind whole (s ∷ xs) ys place all = grind (arith, lands-passed whole (xs ++ ys), not-true, lands-behind whole xs ys (place + 1))

pub closing-lands : (whole rest : List Labelled) (guarded : Bool) (b line place : ℕ) → landing_after whole (closing guarded b line ++ rest) place ≡ place
closing-lands whole rest true b line place = refl
closing-lands whole rest false b line place = refl

pub around-lands : (whole rest : List Labelled) (x : Change) (a b line : ℕ) (guard : Option RawExpr) (inside : List Labelled) (place : ℕ) → landing_after whole (around x a b line guard inside ++ rest) place ≡ place
around-lands whole rest x a b line None inside place = refl
around-lands whole rest x a b line (Some condition) inside place = refl

-- ---- END

-- a statement that is END is the last one
pub last-is : (front : List Labelled) (last s : Labelled) (i : ℕ) → list_any (λ t. is_end t.stmt) front ≡ false → slice_get (front ++ last ∷ []) i ≡ Some s → is_end s.stmt ≡ true → i ≡ length front
last-is [] last s zero none is ended = refl
last-is [] last s (suc i) none is ended = let e : None ≡ Some s = is in absurd cc
last-is (x ∷ front) last s zero none is ended = cc
last-is (x ∷ front) last s (suc i) none is ended = grind (arith, last-is front last s i)

-- END is among these
pub HasEnd : List Labelled → Type 0
HasEnd xs = list_any (λ s. is_end s.stmt) xs ≡ true

pub no_end_in_none : HasEnd [] → ⊥
unfolding HasEnd
no_end_in_none has = let e : false ≡ true = has in cc

pub end-later : (s : Labelled) (rest : List Labelled) → is_executable s.stmt ≡ false → HasEnd (s ∷ rest) → HasEnd rest
unfolding HasEnd
end-later s rest nothing has = grind (arith, end-does s.stmt)

pub end-from : (unit : List Labelled) (place : ℕ) → IsEnded unit → place < length unit → HasEnd (drop place unit)
unfolding HasEnd
end-from unit place ended inside =
    grind (arith, length-append ended.front (ended.last ∷ []), drop-append-le place ended.front (ended.last ∷ []), list_any-append, or_right, or_left (is_end ended.last.stmt) false ended.ended)

module _ (us : List (List Labelled)) (units : AreClosedUnits us) (list : List Labelled) (c : Context) (at : ℕ → ℕ) (stands : StandsIn us list c at) (ended : IsEnded (unit_at us c.unit)) where
  abbrev pub unit : List Labelled
  unit = unit_at us c.unit

  abbrev pub behind : ℕ → Labelled → ℕ
  behind place s = at place + length (piece_at us c place s)

  abbrev pub Lands : ℕ → List Labelled → Type 0
  Lands place xs = landing_after list (drop (at place) list) (at place) ≡ at (landing_after unit xs place)

  pub lands-next : (place : ℕ) (s : Labelled) → slice_get unit place ≡ Some s → landing_after list (drop (behind place s) list) (behind place s) ≡ landing_after list (drop (at (place + 1)) list) (at (place + 1))
  lands-next place s is = grind (arith, lands-behind list)

  -- a CALL
  pub lands-call : (place : ℕ) (s : Labelled) (rest : List Labelled) (call : Call) → slice_get unit place ≡ Some s → call_in s.stmt ≡ Some call → Lands place (s ∷ rest)
  lands-call place s rest call is calls =
      grind (arith, alike list (piece_at us c place s), piece-around us c place s call calls, around-lands list, lands-here unit rest s place (call_neutral s.stmt call calls).neutral.arm (call_neutral s.stmt call calls).does, call_neutral s.stmt call calls)

  -- a statement that has one copy
  pub lands-plain : (place : ℕ) (s : Labelled) (rest : List Labelled) → slice_get unit place ≡ Some s → IsPlain us c place s → (is_executable s.stmt ≡ false → Lands (place + 1) rest) → Lands place (s ∷ rest)
  lands-plain place s rest is plain later =
      let one = plain-stands us units list c at stands place s is plain in
      by_tests_of place s rest is one.label later (ap (λ (xs : List Labelled). landing_after list xs (at place)) one.is) one.long (is_arm s.stmt) (is_executable s.stmt) refl refl
    where
      by_tests_of : (place : ℕ) (s : Labelled) (rest : List Labelled) → slice_get unit place ≡ Some s → (label : ℕ) → (is_executable s.stmt ≡ false → Lands (place + 1) rest)
          → landing_after list (drop (at place) list) (at place) ≡ landing_after list (bare label s.line (changed_stmt (changes us c) s.stmt) ∷ drop (at place + 1) list) (at place)
          → length (piece_at us c place s) ≡ 1
          → (arm does : Bool) → is_arm s.stmt ≡ arm → is_executable s.stmt ≡ does → Lands place (s ∷ rest)
      by_tests_of place s rest is label later start long true does arm_is does_is =
          let copied = bare label s.line (changed_stmt (changes us c) s.stmt) in
          start
          ∙ lands-arm list (drop (at place + 1) list) copied (at place) ((changed-alike (changes us c) s.stmt).arm ∙ arm_is)
          ∙ blocks-mapped us units list c at stands place s is (or_right (is_block_if s.stmt) (is_arm s.stmt) arm_is)
          ∙ ap at (sym (lands-arm unit rest s place arm_is))
      by_tests_of place s rest is label later start long false true arm_is does_is =
          let copied = bare label s.line (changed_stmt (changes us c) s.stmt) in
          start
          ∙ lands-here list (drop (at place + 1) list) copied (at place) ((changed-alike (changes us c) s.stmt).arm ∙ arm_is) ((changed-alike (changes us c) s.stmt).does ∙ does_is)
          ∙ ap at (sym (lands-here unit rest s place arm_is does_is))
      by_tests_of place s rest is label later start long false false arm_is does_is =
          let copied = bare label s.line (changed_stmt (changes us c) s.stmt) in
          start
          ∙ lands-passed list (drop (at place + 1) list) copied (at place) ((changed-alike (changes us c) s.stmt).does ∙ does_is)
          ∙ ap (λ (n : ℕ). landing_after list (drop (at place + n) list) (at place + n)) (sym long)
          ∙ lands-next place s is
          ∙ later does_is
          ∙ ap at (sym (lands-passed unit rest s place does_is))

  -- END that has no copy: the copy's end stands there
  pub lands-end : (place : ℕ) (s : Labelled) (rest : List Labelled) → slice_get unit place ≡ Some s → is_kept c.unit s.stmt ≡ false → is_executable s.stmt ≡ true → Lands place (s ∷ rest)
  lands-end place s rest is none does =
      grind (arith, unkept_is_end c.unit s.stmt none does, unkept_end_kept c.unit s.stmt none, last-is ended.front ended.last s place ended.none, length-append ended.front (ended.last ∷ []), nothing_stands us c place s none, closing-lands list, lands-here unit rest s place, end-no-arm s.stmt)

  pub lands-left_out : (place : ℕ) (s : Labelled) (rest : List Labelled) → slice_get unit place ≡ Some s → is_kept c.unit s.stmt ≡ false → (does : Bool) → is_executable s.stmt ≡ does → Lands (place + 1) rest → Lands place (s ∷ rest)
  lands-left_out place s rest is none true does later = lands-end place s rest is none does
  lands-left_out place s rest is none false does later =
      grind (arith, nothing_stands us c place s none, lands-next place s is, lands-passed unit rest s place does)

  -- from here on a statement stands that control stops at
  pub lands : (xs : List Labelled) (place : ℕ) → drop place unit ≡ xs → HasEnd xs → Lands place xs
  lands [] place is has = absurd (no_end_in_none has)
  lands (s ∷ rest) place is has = by_which (which us c place s) (is_executable s.stmt) refl (λ nothing. lands rest (place + 1) (rest_here unit place s rest is) (end-later s rest nothing has))
    where
      here : slice_get unit place ≡ Some s
      here = first_here unit place s rest is

      by_which : Which us c place s → (does : Bool) → is_executable s.stmt ≡ does → (is_executable s.stmt ≡ false → Lands (place + 1) rest) → Lands place (s ∷ rest)
      by_which (calling call calls) does does_is later = lands-call place s rest call here calls
      by_which (single plain) does does_is later = lands-plain place s rest here plain later
      by_which (left_out none) true does_is later = lands-end place s rest here none does_is
      by_which (left_out none) false does_is later = lands-left_out place s rest here none false does_is (later does_is)

  pub landings-mapped : (place : ℕ) → place < length unit → landing list (at place) ≡ at (landing unit place)
  landings-mapped place inside = lands (drop place unit) place refl (end-from unit place ended inside)
