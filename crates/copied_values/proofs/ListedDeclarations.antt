-- The declarations of the list of the expansion.
use Rattle.std.proofs.Common.{◌≡◌, ℕ, zero, suc, ◌+◌, ◌-◌, ◌<◌, ◌==◌, Bool, true, false, not, ◌&&◌, ◌||◌, if◌then◌else◌, List, [], ◌∷◌, ◌++◌, length, map, take, drop, take-append-drop, Option, Some, None, append_assoc, refl, sym, ap, ◌∙◌, arith}
use Rattle.std.specs.List.{list_all, list_any, slice_get}
use Rattle.std.specs.Option.{is_some}
use Rattle.std.proofs.lemmas.Bool.{and_from, and_parts}
use Rattle.std.proofs.lemmas.Bool.Decides.{nat_tests}
use Rattle.std.proofs.lemmas.List.Folds.{list_any-append}
use Rattle.f77_tree.specs.declared.statements.Labelled.{Labelled}
use Rattle.f77_tree.specs.declared.statements.RawExpr.{RawExpr}
use Rattle.f77_tree.specs.declared.statements.Stmt.{Stmt}
use Rattle.layout_rules.specs.Faults.{first_after, first_line}
use Rattle.layout_rules.specs.Labels.{is_executable}
use Rattle.program_units.specs.declared.sub_end.SubEnd.TheVariants.{UnitOrder}
use Rattle.program_units.specs.Copies.{Change, Context, Copying, around, bare, changed_stmt, changes, copy, piece, piece_by, pieces}
use Rattle.program_units.specs.declared.entity.Entity.{Entity}
use Rattle.program_units.specs.Entities.{stands_for}
use Rattle.program_units.specs.Expansion.{declared_first, main_context, main_pieces, merged, whole_list}
use Rattle.copied_values.specs.ListedDeclarations.{declarations, unless_executable}
use Rattle.program_units.specs.Refusals.{differ, is_end_at, is_out_of_unit, unit_refusal}
use Rattle.program_units.specs.Texts.{IsText}
use Rattle.program_units.specs.Units.{Call, call_in, guard_of, in_first, inner, is_end, is_return, is_sub_of, sub_name, unit_at, unit_of, unit_or_none, units}
use Rattle.program_units.specs.Widths.{body_labels, is_kept, labels, labels_before}
use Rattle.unit_laws.proofs.BlockRoles.{call_neutral, changed-alike}
use Rattle.unit_laws.proofs.NoAnswer.{no-end, none-at}
use Rattle.unit_laws.proofs.Kept.{kept-by}
use Rattle.unit_laws.proofs.MergedDeclared.{merged-declared}
use Rattle.unit_laws.proofs.ReachedUnits.{some-unit}

-- ---- declarations of lists

pub declarations-append : (xs ys : List Labelled) → declarations (xs ++ ys) ≡ declarations xs ++ declarations ys
declarations-append [] ys = refl
declarations-append (s ∷ xs) ys = grind (arith, declarations-append xs ys)

all-declared : (xs : List Labelled) → list_all (λ s. not (is_executable s.stmt)) xs ≡ true → declarations xs ≡ map (λ s. s.stmt) xs
all-declared [] all = refl
all-declared (s ∷ xs) all = grind (arith, all-declared xs)

alone : (label line : ℕ) (s : Stmt) → is_executable s ≡ true → declarations (bare label line s ∷ []) ≡ []
alone label line s is = ap (λ (b : Bool). unless_executable b s []) is

unchanged : (x : Change) (s : Stmt) → is_executable s ≡ false → changed_stmt x s ≡ s
unchanged x h is = grind arith

-- ---- copies

around-none : (x : Change) (a b line : ℕ) (guard : Option RawExpr) (body : List Labelled) → declarations body ≡ [] → declarations (around x a b line guard body) ≡ []
around-none x a b line None body none = declarations-append body _ ∙ ap (λ (ts : List Stmt). ts ++ []) none
around-none x a b line (Some condition) body none = declarations-append body _ ∙ ap (λ (ts : List Stmt). ts ++ []) none

module _ (us : List (List Labelled)) (subs : (name : List ℕ) → 0 < unit_of us name) where
  abbrev NoneIn : Copying → Type 0
  NoneIn body = (g : ℕ) (arguments : List Entity) (base : ℕ) → 0 < g → declarations (body g arguments base) ≡ []

  some-positive : (k : ℕ) → 0 < k → (k == 0) ≡ false
  some-positive zero some = absurd (omega (arith, some))
  some-positive (suc k) some = grind (arith, nat_tests)

  call-piece : (body : Copying) → NoneIn body → (c : Context) (m : ℕ) (s : Labelled) (call : Call) → declarations (piece_by body us c m s (Some call)) ≡ []
  call-piece body none c m s call = around-none (changes us c) m (m + body_labels us c.depth (unit_of us call.name) + 1) s.line (guard_of s.stmt) (body (unit_of us call.name) (map (stands_for us c.unit c.arguments) call.arguments) m) (none (unit_of us call.name) (map (stands_for us c.unit c.arguments) call.arguments) m (subs call.name))

  -- a subroutine's statements
  sub-piece : (body : Copying) → NoneIn body → (c : Context) (m : ℕ) (s : Labelled) → 0 < c.unit → declarations (piece body us c m s) ≡ []
  sub-piece body none c m s some = by (is_kept c.unit s.stmt) refl
    where
      by_call : is_executable s.stmt ≡ true → (call : Option Call) → declarations (piece_by body us c m s call) ≡ []
      by_call does None = alone (if s.label == 0 then 0 else m) s.line (changed_stmt (changes us c) s.stmt) ((changed-alike (changes us c) s.stmt).does ∙ does)
      by_call does (Some call) = call-piece body none c m s call

      by : (b : Bool) → is_kept c.unit s.stmt ≡ b → declarations (if b then piece_by body us c m s (call_in s.stmt) else []) ≡ []
      by true is = by_call (and_parts (not (is_end s.stmt)) (is_executable s.stmt) (sym (kept-by c.unit s.stmt (some-positive c.unit some)) ∙ is)).1 (call_in s.stmt)
      by false is = refl

  sub-pieces : (body : Copying) → NoneIn body → (c : Context) (before : ℕ) (stmts : List Labelled) → 0 < c.unit → declarations (pieces body us c before stmts) ≡ []
  sub-pieces body none c before [] some = refl
  sub-pieces body none c before (s ∷ rest) some =
      grind (arith, declarations-append (piece body us c (c.base + before + 1) s) (pieces body us c (before + labels (body_labels us c.depth) us c.unit s) rest), sub-piece body none c (c.base + before + 1) s some, sub-pieces body none c (before + labels (body_labels us c.depth) us c.unit s) rest some)

  copies-none : (depth : ℕ) → NoneIn (copy us depth)
  copies-none zero g arguments base some = refl
  copies-none (suc depth) g arguments base some = sub-pieces (copy us depth) (copies-none depth) (record { depth = depth; unit = g; arguments = arguments; base = base }) 0 (unit_at us g) some

  -- ---- the main program

  main-piece : (m : ℕ) (s : Labelled) (rest : List Stmt) → declarations (piece (copy us (length us)) us (main_context us) m s) ++ rest ≡ unless_executable (is_executable s.stmt) s.stmt rest
  main-piece m s rest = by_call (call_in s.stmt) refl
    where
      plain : (b : Bool) → is_executable s.stmt ≡ b → declarations (bare (if s.label == 0 then 0 else m) s.line (changed_stmt (changes us (main_context us)) s.stmt) ∷ []) ++ rest ≡ unless_executable b s.stmt rest
      plain true is = ap (λ (ts : List Stmt). ts ++ rest) (alone (if s.label == 0 then 0 else m) s.line (changed_stmt (changes us (main_context us)) s.stmt) ((changed-alike (changes us (main_context us)) s.stmt).does ∙ is))
      plain false is =
          ap (λ (t : Stmt). declarations (bare (if s.label == 0 then 0 else m) s.line t ∷ []) ++ rest) (unchanged (changes us (main_context us)) s.stmt is)
          ∙ ap (λ (b : Bool). unless_executable b s.stmt [] ++ rest) is

      by_call : (call : Option Call) → call_in s.stmt ≡ call → declarations (piece_by (copy us (length us)) us (main_context us) m s call) ++ rest ≡ unless_executable (is_executable s.stmt) s.stmt rest
      by_call None is = plain (is_executable s.stmt) refl
      by_call (Some call) is =
          ap (λ (ts : List Stmt). ts ++ rest) (call-piece (copy us (length us)) (copies-none (length us)) (main_context us) m s call)
          ∙ sym (ap (λ (b : Bool). unless_executable b s.stmt rest) (call_neutral s.stmt call is).does)

  main-same : (before : ℕ) (stmts : List Labelled) → declarations (main_pieces us before stmts) ≡ declarations stmts
  main-same before [] = refl
  main-same before (s ∷ rest) =
      let next = before + labels (body_labels us (length us)) us 0 s in
      declarations-append (piece (copy us (length us)) us (main_context us) (0 + before + 1) s) (main_pieces us next rest)
      ∙ ap (λ (ts : List Stmt). declarations (piece (copy us (length us)) us (main_context us) (0 + before + 1) s) ++ ts) (main-same next rest)
      ∙ main-piece (0 + before + 1) s (declarations rest)

  pub list-declares : declarations (whole_list us) ≡ declarations (take (declared_first (unit_at us 0)) (unit_at us 0)) ++ (map (λ s. s.stmt) (merged us) ++ declarations (drop (declared_first (unit_at us 0)) (unit_at us 0)))
  list-declares =
      grind (arith, declarations-append, append_assoc, main-same 0 (take (declared_first (unit_at us 0)) (unit_at us 0)), all-declared (merged us) (merged-declared us), merged-declared us, main-same (labels_before us (length us) 0 (declared_first (unit_at us 0))) (drop (declared_first (unit_at us 0)) (unit_at us 0)))

pub main-declares : (us : List (List Labelled)) → declarations (unit_at us 0) ≡ declarations (take (declared_first (unit_at us 0)) (unit_at us 0)) ++ declarations (drop (declared_first (unit_at us 0)) (unit_at us 0))
main-declares us =
    let n = declared_first (unit_at us 0) in
    ap declarations (sym (take-append-drop n (unit_at us 0))) ∙ declarations-append (take n (unit_at us 0)) (drop n (unit_at us 0))

-- ---- no SUBROUTINE stands in the main program

none-ends : (above : List Labelled) (n : ℕ) → list_any (λ a. is_end a.stmt) above ≡ false → is_end_at (slice_get above n) ≡ false
none-ends [] n none = refl
none-ends (a ∷ above) zero none = grind arith
none-ends (a ∷ above) (suc n) none = grind (arith, none-ends above n)

more-none : (above : List Labelled) (s : Labelled) → list_any (λ a. is_end a.stmt) above ≡ false → is_end s.stmt ≡ false → list_any (λ a. is_end a.stmt) (above ++ s ∷ []) ≡ false
more-none above s none is = list_any-append (λ a. is_end a.stmt) above (s ∷ []) ∙ ap (λ (b : Bool). b || (is_end s.stmt || false)) none ∙ ap (λ (b : Bool). b || false) is

abbrev no_sub : Labelled → Bool
no_sub s = not (is_some (sub_name s.stmt))

abbrev first_of_units : List (List Labelled) → List Labelled
first_of_units vs = unit_or_none (slice_get vs 0)

no-subs : (above stmts : List Labelled) → list_any (λ a. is_end a.stmt) above ≡ false → first_after is_out_of_unit above stmts ≡ None → list_all no_sub (first_of_units (units stmts)) ≡ true
no-subs above [] none right = refl
no-subs above (s ∷ rest) none right = by_test (is_out_of_unit above s) refl right (λ no_end lines. no-subs (above ++ s ∷ []) rest (more-none above s none no_end) lines)
  where
    here : is_out_of_unit above s ≡ false → no_sub s ≡ true
    here is = by (is_some (sub_name s.stmt)) (sym (ap (λ (b : Bool). differ b (is_some (sub_name s.stmt)) || (not (list_any (λ a. is_end a.stmt) above) && is_return (inner s.stmt))) (none-ends above (length above - 1) none)) ∙ is)
      where
        by : (b : Bool) → (b || (not (list_any (λ a. is_end a.stmt) above) && is_return (inner s.stmt))) ≡ false → not b ≡ true
        by true h = let e : true ≡ false = h in absurd cc
        by false h = refl

    lead : (vs : List (List Labelled)) → no_sub s ≡ true → list_all no_sub (first_of_units vs) ≡ true → list_all no_sub (first_of_units (in_first s vs)) ≡ true
    lead [] first later = and_from (no_sub s) true first refl
    lead (v ∷ vs) first later = and_from (no_sub s) (list_all no_sub v) first later

    by_end : (b : Bool) → is_end s.stmt ≡ b → no_sub s ≡ true → (is_end s.stmt ≡ false → list_all no_sub (first_of_units (units rest)) ≡ true) → list_all no_sub (first_of_units (if b then (s ∷ []) ∷ units rest else in_first s (units rest))) ≡ true
    by_end true is first later = and_from (no_sub s) true first refl
    by_end false is first later = lead (units rest) first (later is)

    by_test : (b : Bool) → is_out_of_unit above s ≡ b → (if b then Some s.line else first_after is_out_of_unit (above ++ s ∷ []) rest) ≡ None → (is_end s.stmt ≡ false → first_after is_out_of_unit (above ++ s ∷ []) rest ≡ None → list_all no_sub (first_of_units (units rest)) ≡ true) → list_all no_sub (first_of_units (units (s ∷ rest))) ≡ true
    by_test true is lines later = let e : Some s.line ≡ None = lines in absurd cc
    by_test false is lines later = by_end (is_end s.stmt) refl (here is) (λ no_end. later no_end lines)

none-named : (name : List ℕ) (u : List Labelled) → list_all no_sub u ≡ true → list_any (is_sub_of name) u ≡ false
none-named name [] all = refl
none-named name (s ∷ u) all = grind (arith, none-named name u)

past-first : (name : List ℕ) (vs : List (List Labelled)) → 0 < length vs → list_any (is_sub_of name) (first_of_units vs) ≡ false → 0 < unit_of vs name
past-first name [] some none = absurd (omega (arith, some))
past-first name (v ∷ vs) some none = grind arith

pub subs-behind : (stmts : List Labelled) (checked : Bool) → IsText stmts → unit_refusal stmts checked ≡ None → (name : List ℕ) → 0 < unit_of (units stmts) name
subs-behind stmts checked text accepted name =
    grind (arith, no-end UnitOrder (first_line is_out_of_unit stmts), none-at, past-first name, some-unit stmts checked text accepted, none-named name, no-subs)
