-- What holds of each statement of the list of a text, piece by piece.
pub use Rattle.unit_laws.proofs.UnitNames.{IsInUnit}
use Rattle.std.proofs.Common.{◌≡◌, ℕ, zero, suc, ◌+◌, Bool, true, false, List, [], ◌∷◌, ◌++◌, map, flat_map, take, drop, length, Option, Some, None, if◌then◌else◌, refl, sym, ap, subst, ◌∙◌, arith}
use Rattle.std.specs.List.{list_all, slice_get}
use Rattle.std.proofs.lemmas.Bool.{and_parts}
use Rattle.std.proofs.lemmas.List.{take-append-drop}
use Rattle.f77_tree.specs.declared.statements.Labelled.{Labelled}
use Rattle.f77_tree.specs.declared.statements.RawExpr.{RawExpr}
use Rattle.f77_tree.specs.declared.statements.Stmt.{Stmt}
use Rattle.f77_tree.specs.declared.statements.Stmt.TheVariants.{BlockIf, Continue, EndIf}
use Rattle.program_units.specs.Copies.{Context, around, bare, changed, changed_stmt, changes, copy, number_at, piece, piece_by, pieces}
use Rattle.program_units.specs.declared.entity.Entity.{Entity}
use Rattle.program_units.specs.Entities.{stands_for}
use Rattle.program_units.specs.Expansion.{declared_first, main_context, main_pieces, merged, whole_list}
use Rattle.program_units.specs.Units.{Call, call_in, guard_of, unit_at, unit_of}
use Rattle.program_units.specs.Widths.{body_labels, is_kept, labels, labels_before}
use Rattle.unit_laws.proofs.Having.{get-drop, get-front, sum-next}
use Rattle.unit_laws.proofs.UnitSources.{Each}

module _ (Q : Stmt → Type 0) where
  abbrev pub Whole : List Labelled → Type 0
  Whole [] = Unit {0}
  Whole (s ∷ rest) = Q s.stmt × Whole rest

  pub whole-append : (xs ys : List Labelled) → Whole xs → Whole ys → Whole (xs ++ ys)
  whole-append [] ys first second = second
  whole-append (x ∷ xs) ys first second = (first.0, whole-append xs ys first.1 second)

  -- of items that pass a test
  pub whole-map-all : {X : Type 0} (test : X → Bool) (f : X → Labelled) → ((x : X) → test x ≡ true → Q (f x).stmt) → (xs : List X) → list_all test xs ≡ true → Whole (map f xs)
  whole-map-all test f holds [] all = tt
  whole-map-all test f holds (x ∷ xs) all = let parts = and_parts (test x) (list_all test xs) all in (holds x parts.0, whole-map-all test f holds xs parts.1)

  pub whole-flat-all : {X : Type 0} (test : X → Bool) (f : X → List Labelled) → ((x : X) → test x ≡ true → Whole (f x)) → (xs : List X) → list_all test xs ≡ true → Whole (flat_map f xs)
  whole-flat-all test f holds [] all = tt
  whole-flat-all test f holds (x ∷ xs) all = let parts = and_parts (test x) (list_all test xs) all in whole-append (f x) (flat_map f xs) (holds x parts.0) (whole-flat-all test f holds xs parts.1)

  -- of the items of a list
  pub whole-flat-each : (f : Labelled → List Labelled) (xs : List Labelled) → Each (λ s. Whole (f s)) xs → Whole (flat_map f xs)
  whole-flat-each f [] each = tt
  whole-flat-each f (x ∷ xs) each = whole-append (f x) (flat_map f xs) (each 0 x refl) (whole-flat-each f xs (λ j s here. each (suc j) s here))

  pub whole-map : {X : Type 0} (f : X → Labelled) → ((x : X) → Q (f x).stmt) → (xs : List X) → Whole (map f xs)
  whole-map f holds [] = tt
  whole-map f holds (x ∷ xs) = (holds x, whole-map f holds xs)

  pub whole-flat : {X : Type 0} (f : X → List Labelled) → ((x : X) → Whole (f x)) → (xs : List X) → Whole (flat_map f xs)
  whole-flat f holds [] = tt
  whole-flat f holds (x ∷ xs) = whole-append (f x) (flat_map f xs) (holds x) (whole-flat f holds xs)

  pub whole-each : (xs : List Labelled) → Whole xs → Each (λ s. Q s.stmt) xs
  whole-each [] all j s here = let e : None ≡ Some s = here in absurd cc
  whole-each (x ∷ xs) all zero s here = let e : Some x ≡ Some s = here in let same : x ≡ s = cc in subst (λ (t : Labelled). Q t.stmt) same all.0
  whole-each (x ∷ xs) all (suc j) s here = whole-each xs all.1 j s here

-- the context in which a unit is copied at a depth can come; at depth 0 nothing is copied
abbrev pub CanCome : (Context → Type 0) → (depth k : ℕ) → List Entity → (base : ℕ) → Type 0
CanCome R zero k arguments base = Unit {0}
CanCome R (suc depth) k arguments base = R (record { depth = depth; unit = k; arguments = arguments; base = base })

pub all-come : (R : Context → Type 0) → ((c : Context) → R c) → (depth k : ℕ) (arguments : List Entity) (base : ℕ) → CanCome R depth k arguments base
all-come R all zero k arguments base = tt
all-come R all (suc depth) k arguments base = all (record { depth = depth; unit = k; arguments = arguments; base = base })

-- It holds of labels and ends of blocks, and in a context that can come, of what a statement is changed into and of the head of
-- the block at a guarded CALL. The contexts of its CALLs can come then.
pub record Holds (us : List (List Labelled)) (Q : Stmt → Type 0) (R : Context → Type 0) : Type 0 where
  pub labels_too : Q Continue
  pub ends : Q EndIf
  pub statements : (c : Context) (s : Labelled) → R c → IsInUnit us c.unit s → is_kept c.unit s.stmt ≡ true → call_in s.stmt ≡ None → Q (changed_stmt (changes us c) s.stmt)
  pub heads : (c : Context) (s : Labelled) (condition : RawExpr) → R c → IsInUnit us c.unit s → guard_of s.stmt ≡ Some condition → Q (BlockIf (changed (changes us c) condition))
  pub calls : (c : Context) (place : ℕ) (s : Labelled) (call : Call) → R c → slice_get (unit_at us c.unit) place ≡ Some s → is_kept c.unit s.stmt ≡ true → call_in s.stmt ≡ Some call
      → CanCome R c.depth (unit_of us call.name) (map (stands_for us c.unit c.arguments) call.arguments) (number_at us c.depth c.unit c.base place)

module _ (us : List (List Labelled)) (Q : Stmt → Type 0) (R : Context → Type 0) (holds : Holds us Q R) where
  -- of copies of units at a depth
  abbrev Bodies : ℕ → Type 0
  Bodies depth = (k : ℕ) (arguments : List Entity) (base : ℕ) → CanCome R depth k arguments base → Whole Q (copy us depth k arguments base)

  module _ (c : Context) (can : R c) (bodies : Bodies c.depth) where
    abbrev unit : List Labelled
    unit = unit_at us c.unit

    -- these are the statements of the unit from a place on
    abbrev StandFrom : ℕ → List Labelled → Type 0
    StandFrom place stmts = (j : ℕ) (s : Labelled) → slice_get stmts j ≡ Some s → slice_get unit (place + j) ≡ Some s

    around-holds : (s : Labelled) (a b : ℕ) (copied : List Labelled) → IsInUnit us c.unit s → Whole Q copied → (guard : Option RawExpr) → guard_of s.stmt ≡ guard → Whole Q (around (changes us c) a b s.line guard copied)
    around-holds s a b copied inside all None is = (holds.labels_too, whole-append Q copied (bare b s.line Continue ∷ []) all (holds.labels_too, tt))
    around-holds s a b copied inside all (Some condition) is =
        (holds.labels_too, (holds.heads c s condition can inside is, whole-append Q copied (bare 0 s.line EndIf ∷ bare b s.line Continue ∷ []) all (holds.ends, (holds.labels_too, tt))))

    called-holds : (place m : ℕ) (s : Labelled) → m ≡ number_at us c.depth c.unit c.base place → slice_get unit place ≡ Some s → is_kept c.unit s.stmt ≡ true → (call : Option Call) → call_in s.stmt ≡ call → Whole Q (piece_by (copy us c.depth) us c m s call)
    called-holds place m s number here kept None is = (holds.statements c s can (record { place = place; here = here }) kept is, tt)
    called-holds place m s number here kept (Some call) is =
        let g : ℕ = unit_of us call.name in
        let passed : List Entity = map (stands_for us c.unit c.arguments) call.arguments in
        let comes = subst (λ (base : ℕ). CanCome R c.depth g passed base) (sym number) (holds.calls c place s call can here kept is) in
        around-holds s m (m + body_labels us c.depth g + 1) (copy us c.depth g passed m) (record { place = place; here = here }) (bodies g passed m comes) (guard_of s.stmt) refl

    piece-holds : (place m : ℕ) (s : Labelled) → m ≡ number_at us c.depth c.unit c.base place → slice_get unit place ≡ Some s → Whole Q (piece (copy us c.depth) us c m s)
    piece-holds place m s number here = by (is_kept c.unit s.stmt) refl
      where
        by : (b : Bool) → is_kept c.unit s.stmt ≡ b → Whole Q (if b then piece_by (copy us c.depth) us c m s (call_in s.stmt) else [])
        by true is = called-holds place m s number here is (call_in s.stmt) refl
        by false is = tt

    pieces-hold : (place before : ℕ) (stmts : List Labelled) → before ≡ labels_before us c.depth c.unit place → StandFrom place stmts → Whole Q (pieces (copy us c.depth) us c before stmts)
    pieces-hold place before [] counted stand = tt
    pieces-hold place before (s ∷ rest) counted stand =
        let here : slice_get unit place ≡ Some s = ap (slice_get unit) (let e : place ≡ place + 0 = omega arith in e) ∙ stand 0 s refl in
        let count : ℕ = labels (body_labels us c.depth) us c.unit s in
        let next : before + count ≡ labels_before us c.depth c.unit (place + 1) = ap (λ (n : ℕ). n + count) counted ∙ sym (sum-next (labels (body_labels us c.depth) us c.unit) unit place s here) in
        whole-append Q (piece (copy us c.depth) us c (c.base + before + 1) s) (pieces (copy us c.depth) us c (before + count) rest)
        (piece-holds place (c.base + before + 1) s (ap (λ (n : ℕ). c.base + n + 1) counted) here)
        (pieces-hold (place + 1) (before + count) rest next (λ j t there. ap (slice_get unit) (let e : place + 1 + j ≡ place + suc j = omega arith in e) ∙ stand (suc j) t there))

  copies-hold : (depth : ℕ) → Bodies depth
  copies-hold zero k arguments base can = tt
  copies-hold (suc depth) k arguments base can =
      pieces-hold (record { depth = depth; unit = k; arguments = arguments; base = base }) can (copies-hold depth) 0 0 (unit_at us k) refl (λ j s there. ap (slice_get (unit_at us k)) (let e : 0 + j ≡ j = omega arith in e) ∙ there)

  -- ---- the list

  abbrev main : List Labelled
  main = unit_at us 0

  front : (p j : ℕ) (s : Labelled) → slice_get (take p main) j ≡ Some s → slice_get main (0 + j) ≡ Some s
  front p j s there =
      ap (slice_get main) (let e : 0 + j ≡ j = omega arith in e)
      ∙ ap (λ (xs : List Labelled). slice_get xs j) (sym (take-append-drop p main))
      ∙ get-front (take p main) (drop p main) j s there

  pub list-holds : R (main_context us) → Whole Q (merged us) → Whole Q (whole_list us)
  list-holds can put =
      let p = declared_first main in
      let before = labels_before us (length us) 0 p in
      let first = main_pieces us 0 (take p main) in
      let second = main_pieces us before (drop p main) in
      let all = pieces-hold (main_context us) can (copies-hold (length us)) in
      whole-append Q (first ++ merged us) second (whole-append Q first (merged us) (all 0 0 (take p main) refl (front p)) put) (all p before (drop p main) refl (λ j s there. sym (get-drop main p j) ∙ there))
