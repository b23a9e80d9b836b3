-- The ends of arms and blocks of a unit's statements stand in the list where the unit's do.
use Rattle.std.proofs.Common.{◌≡◌, ℕ, zero, suc, ◌+◌, ◌-◌, ◌<◌, Bool, true, false, not, ◌||◌, ◌==◌, nat_lt, List, [], ◌∷◌, ◌++◌, length, map, drop, Option, Some, None, refl, sym, ap, subst, ◌∙◌, arith}
use Rattle.std.specs.List.{slice_get, list_all}
use Rattle.std.proofs.lemmas.Bool.{and_parts, not-true, ltb-true, eqb-true}
use Rattle.std.proofs.lemmas.List.{append_assoc}
use Rattle.f77_tree.specs.declared.statements.Labelled.{Labelled}
use Rattle.f77_tree.specs.declared.statements.RawExpr.{RawExpr}
use Rattle.f77_tree.specs.declared.statements.Stmt.{Stmt}
use Rattle.f77_tree.specs.declared.statements.Stmt.TheVariants.{Continue, BlockIf}
use Rattle.layout_rules.specs.Labels.{is_executable, is_arm}
use Rattle.layout_rules.specs.Jumps.{is_block_if, is_end_if, end_after, end_of_arm, end_of_block}
use Rattle.program_units.specs.Units.{Call, call_in, guard_of, unit_at, unit_of}
use Rattle.program_units.specs.Entities.{stands_for}
use Rattle.program_units.specs.Widths.{body_width, body_labels}
use Rattle.program_units.specs.Copies.{Context, bare, changes, changed, changed_stmt, around, number_at, copy}
use Rattle.program_units.specs.ListedCopies.{StandsIn, piece_at, closing}
use Rattle.program_units.specs.OpenBlocks.{are_closed, AreClosedUnits}
use Rattle.unit_laws.proofs.BlockRoles.{Alike, IsNeutral, changed-alike, does_nothing, unkept_neutral, call_neutral, arm-no-end}
use Rattle.unit_laws.proofs.CopyWidths.{copy_length}
use Rattle.unit_laws.proofs.Having.{alike, has_second}
use Rattle.copied_control.proofs.SealedCopies.{turned, turned-neutral, gone, and_none, passed-over, copy-closed, call-closed}
use Rattle.copied_control.proofs.WhichPieces.{IsPlain, Which, left_out, calling, single, which, plain-piece, nothing_stands, piece-around}

-- ---- lists

pub drop_here : (xs : List Labelled) (i : ℕ) (s : Labelled) → slice_get xs i ≡ Some s → drop i xs ≡ s ∷ drop (i + 1) xs
drop_here [] i s is = let e : None ≡ Some s = is in absurd cc
drop_here (x ∷ xs) zero s is = let e : Some x ≡ Some s = is in let same : x ≡ s = cc in ap (λ (y : Labelled). y ∷ xs) same
drop_here (x ∷ xs) (suc i) s is = drop_here xs i s is ∙ ap (λ (n : ℕ). s ∷ drop n (x ∷ xs)) (let e : suc (i + 1) ≡ suc i + 1 = omega arith in e)

pub first_here : (xs : List Labelled) (i : ℕ) (s : Labelled) (rest : List Labelled) → drop i xs ≡ s ∷ rest → slice_get xs i ≡ Some s
first_here [] zero s rest is = let e : [] ≡ s ∷ rest = is in absurd cc
first_here [] (suc i) s rest is = let e : [] ≡ s ∷ rest = is in absurd cc
first_here (x ∷ xs) zero s rest is = let e : x ∷ xs ≡ s ∷ rest = is in cc
first_here (x ∷ xs) (suc i) s rest is = first_here xs i s rest is

pub rest_here : (xs : List Labelled) (i : ℕ) (s : Labelled) (rest : List Labelled) → drop i xs ≡ s ∷ rest → drop (i + 1) xs ≡ rest
rest_here xs i s rest is = let e : s ∷ drop (i + 1) xs ≡ s ∷ rest = sym (drop_here xs i s (first_here xs i s rest is)) ∙ is in cc

pub declared-closed : (xs : List Labelled) (n : ℕ) → list_all (λ s. not (is_executable s.stmt)) xs ≡ true → are_closed n xs ≡ (n == 0)
declared-closed [] n all = refl
declared-closed (s ∷ xs) n all = grind (arith, turned-neutral, does_nothing, not-true, declared-closed xs n)

-- ---- one statement on both sides

positive : (n : ℕ) → (n == 0) ≡ false → 0 < n
positive zero is = let e : true ≡ false = is in absurd cc
positive (suc n) is = omega arith

not_neutral : (s : Stmt) → IsNeutral s → (is_block_if s || is_arm s) ≡ true → ⊥
not_neutral s is opens = let e : false ≡ true = sym (ap (λ (b : Bool). b || is_arm s) is.begins ∙ is.arm) ∙ opens in absurd cc

-- the end behind a statement stands where the unit's does
ended_alike : (begins ends arm arms : Bool) (inner extra place mine : ℕ) (at : ℕ → ℕ) (more : ℕ → Bool) (here there : ℕ → ℕ) → turned begins ends arm (inner + 1 + extra) more ≡ true → mine ≡ at place → ((d : ℕ) → more (d + 1 + extra) ≡ true → here d ≡ at (there d)) → gone begins ends arm arms inner mine here ≡ at (gone begins ends arm arms inner place there)
ended_alike h ends arm arms inner extra place mine = search (positive, arith)

gone-alike : (s t : Stmt) → Alike s t → (arms : Bool) (inner place : ℕ) (next : ℕ → ℕ) → gone (is_block_if s) (is_end_if s) (is_arm s) arms inner place next ≡ gone (is_block_if t) (is_end_if t) (is_arm t) arms inner place next
gone-alike s t is arms inner place next = cc

gone-neutral : (s : Stmt) → IsNeutral s → (arms : Bool) (inner place : ℕ) (next : ℕ → ℕ) → gone (is_block_if s) (is_end_if s) (is_arm s) arms inner place next ≡ next inner
gone-neutral s is arms inner place next = grind (arith, gone, gone false, gone false false, and_none (inner == 0) arms)

-- ---- contexts

module _ (us : List (List Labelled)) (units : AreClosedUnits us) (list : List Labelled) (c : Context) (at : ℕ → ℕ) (stands : StandsIn us list c at) where
  abbrev unit : List Labelled
  unit = unit_at us c.unit

  abbrev behind : ℕ → Labelled → ℕ
  behind place s = at place + length (piece_at us c place s)

  -- from what stands for a statement to what stands for the next one
  over-declared : (arms : Bool) (place : ℕ) (s : Labelled) → slice_get unit place ≡ Some s → (inner : ℕ) → end_after arms inner (drop (behind place s) list) (behind place s) ≡ end_after arms inner (drop (at (place + 1)) list) (at (place + 1))
  over-declared arms place s is inner = grind (arith, passed-over arms, declared-closed)

  over-closed : (arms : Bool) (place : ℕ) (s : Labelled) → slice_get unit place ≡ Some s → are_closed 0 (piece_at us c place s) ≡ true → (inner : ℕ) → end_after arms inner (drop (at place) list) (at place) ≡ end_after arms inner (drop (at (place + 1)) list) (at (place + 1))
  over-closed arms place s is closed inner =
      grind (arith, passed-over arms (piece_at us c place s) (drop (behind place s) list) inner, over-declared arms place s is inner)

  pub record StandsPlain (place : ℕ) (s : Labelled) : Type 0 where
    pub label : ℕ
    pub is : drop (at place) list ≡ bare label s.line (changed_stmt (changes us c) s.stmt) ∷ drop (at place + 1) list
    pub long : length (piece_at us c place s) ≡ 1

  pub plain-stands : (place : ℕ) (s : Labelled) → slice_get unit place ≡ Some s → IsPlain us c place s → StandsPlain place s
  plain-stands place s is plain = grind (arith, alike list (piece_at us c place s), plain-piece us c place s plain)

  over-plain : (arms : Bool) (place : ℕ) (s : Labelled) → slice_get unit place ≡ Some s → StandsPlain place s → (inner : ℕ) → end_after arms inner (drop (at place + 1) list) (at place + 1) ≡ end_after arms inner (drop (at (place + 1)) list) (at (place + 1))
  over-plain arms place s is plain inner = ap (λ (n : ℕ). end_after arms inner (drop (at place + n) list) (at place + n)) (sym plain.long) ∙ over-declared arms place s is inner

  module _ (arms : Bool) where
    -- a statement that leaves the blocks as they are
    abbrev Scanned : ℕ → ℕ → List Labelled → Type 0
    Scanned place inner xs = end_after arms inner (drop (at place) list) (at place) ≡ at (end_after arms inner xs place)

    scan_neutral : (place inner extra : ℕ) (s : Labelled) (rest : List Labelled) → slice_get unit place ≡ Some s → IsNeutral s.stmt → are_closed 0 (piece_at us c place s) ≡ true → are_closed (inner + 1 + extra) (s ∷ rest) ≡ true
        → (are_closed (inner + 1 + extra) rest ≡ true → Scanned (place + 1) inner rest) → Scanned place inner (s ∷ rest)
    scan_neutral place inner extra s rest is neutral closed more later =
        grind (arith, over-closed arms place s is closed inner, turned-neutral s.stmt neutral (inner + 1 + extra), gone-neutral s.stmt neutral arms inner place)

    scan_plain : (place inner extra : ℕ) (s : Labelled) (rest : List Labelled) → slice_get unit place ≡ Some s → IsPlain us c place s → are_closed (inner + 1 + extra) (s ∷ rest) ≡ true
        → ((d : ℕ) → are_closed (d + 1 + extra) rest ≡ true → Scanned (place + 1) d rest) → Scanned place inner (s ∷ rest)
    scan_plain place inner extra s rest is plain more later =
        let one = plain-stands place s is plain in
        let t = changed_stmt (changes us c) s.stmt in
        ap (λ (xs : List Labelled). end_after arms inner xs (at place)) one.is
        ∙ gone-alike t s.stmt (changed-alike (changes us c) s.stmt) arms inner (at place) (λ d. end_after arms d (drop (at place + 1) list) (at place + 1))
        ∙ ended_alike (is_block_if s.stmt) (is_end_if s.stmt) (is_arm s.stmt) arms inner extra place (at place) at (λ d. are_closed d rest) (λ d. end_after arms d (drop (at place + 1) list) (at place + 1)) (λ d. end_after arms d rest (place + 1)) more refl
        (λ d closed. over-plain arms place s is one d ∙ later d closed)

    scan : (xs : List Labelled) (place inner extra : ℕ) → drop place unit ≡ xs → are_closed (inner + 1 + extra) xs ≡ true → Scanned place inner xs
    scan [] place inner extra is more = let none : inner + 1 + extra ≡ 0 = eqb-true (inner + 1 + extra) 0 more in absurd (omega (arith, none))
    scan (s ∷ rest) place inner extra is more = by_which (which us c place s) (λ d closed. scan rest (place + 1) d extra (rest_here unit place s rest is) closed)
      where
        here : slice_get unit place ≡ Some s
        here = first_here unit place s rest is

        by_which : Which us c place s → ((d : ℕ) → are_closed (d + 1 + extra) rest ≡ true → Scanned (place + 1) d rest) → Scanned place inner (s ∷ rest)
        by_which (left_out none) later = scan_neutral place inner extra s rest here (unkept_neutral c.unit s.stmt none) (ap (λ (xs : List Labelled). are_closed 0 xs) (nothing_stands us c place s none)) more (later inner)
        by_which (calling call calls) later = scan_neutral place inner extra s rest here (call_neutral s.stmt call calls).neutral (call-closed us units c place s call calls) more (later inner)
        by_which (single plain) later = scan_plain place inner extra s rest here plain more later

    -- ---- what is open at a place

    pub record OpensAt (rest : List Labelled) : Type 0 where
      pub extra : ℕ
      pub closed : are_closed (0 + 1 + extra) rest ≡ true

    opened-at : (xs : List Labelled) (i n : ℕ) (s : Labelled) → are_closed n xs ≡ true → slice_get xs i ≡ Some s → (d : ℕ) × (are_closed d (s ∷ drop (i + 1) xs) ≡ true)
    opened-at xs i n s closed is = by_place xs i n closed is
      where
        turn : (begins ends arm : Bool) (n : ℕ) (next : ℕ → Bool) → turned begins ends arm n next ≡ true → (d : ℕ) × (next d ≡ true)
        turn true ends arm n next is = (n + 1, is)
        turn false true arm n next is = (n - 1, (and_parts (nat_lt 0 n) (next (n - 1)) is).1)
        turn false false true n next is = (n, (and_parts (nat_lt 0 n) (next n) is).1)
        turn false false false n next is = (n, is)

        by_place : (xs : List Labelled) (i n : ℕ) → are_closed n xs ≡ true → slice_get xs i ≡ Some s → (d : ℕ) × (are_closed d (s ∷ drop (i + 1) xs) ≡ true)
        by_place [] i n closed is = let e : None ≡ Some s = is in absurd cc
        by_place (x ∷ xs) zero n closed is =
            let e : Some x ≡ Some s = is in
            let same : x ≡ s = cc in
            (n, subst (λ (y : Labelled). are_closed n (y ∷ xs) ≡ true) same closed)
        by_place (x ∷ xs) (suc i) n closed is =
            let inner = turn (is_block_if x.stmt) (is_end_if x.stmt) (is_arm x.stmt) n (λ d. are_closed d xs) closed in
            let more = by_place xs i inner.0 inner.1 is in
            (more.0, subst (λ (m : ℕ). are_closed more.0 (s ∷ drop m (x ∷ xs)) ≡ true) (let e : suc (i + 1) ≡ suc i + 1 = omega arith in e) more.1)

    opens-after : (begins ends arm : Bool) (n : ℕ) (rest : List Labelled) → (begins || arm) ≡ true → (begins ≡ false → arm ≡ true → ends ≡ false) → turned begins ends arm n (λ d. are_closed d rest) ≡ true → OpensAt rest
    opens-after true ends arm n rest opens apart is = record { extra = n; closed = subst (λ (m : ℕ). are_closed m rest ≡ true) (let e : n + 1 ≡ 0 + 1 + n = omega arith in e) is }
    opens-after false true arm n rest opens apart is = let e : true ≡ false = apart refl opens in absurd cc
    opens-after false false true n rest opens apart is =
        let both = and_parts (nat_lt 0 n) (are_closed n rest) is in
        let some : 0 < n = ltb-true 0 n both.0 in
        record { extra = n - 1; closed = subst (λ (m : ℕ). are_closed m rest ≡ true) (let e : n ≡ 0 + 1 + (n - 1) = omega (arith, some) in e) both.1 }
    opens-after false false false n rest opens apart is = let e : false ≡ true = opens in absurd cc

    opens-plain : (place : ℕ) (s : Labelled) → (is_block_if s.stmt || is_arm s.stmt) ≡ true → Which us c place s → IsPlain us c place s
    opens-plain place s opens h = grind (arith, not_neutral, unkept_neutral, call_neutral)

    pub ends-mapped : (place : ℕ) (s : Labelled) → slice_get unit place ≡ Some s → (is_block_if s.stmt || is_arm s.stmt) ≡ true → end_after arms 0 (drop (at place + 1) list) (at place + 1) ≡ at (end_after arms 0 (drop (place + 1) unit) (place + 1))
    ends-mapped place s is opens =
        let plain = plain-stands place s is (opens-plain place s opens (which us c place s)) in
        let inside = opened-at unit place 0 s (units c.unit) is in
        let after : OpensAt (drop (place + 1) unit) = opens-after (is_block_if s.stmt) (is_end_if s.stmt) (is_arm s.stmt) inside.0 (drop (place + 1) unit) opens (arm-no-end s.stmt) inside.1 in
        over-plain arms place s is plain 0
        ∙ scan (drop (place + 1) unit) (place + 1) 0 after.extra refl after.closed

  pub arms-mapped : (place : ℕ) (s : Labelled) → slice_get unit place ≡ Some s → (is_block_if s.stmt || is_arm s.stmt) ≡ true → end_of_arm list (at place) ≡ at (end_of_arm unit place)
  arms-mapped = ends-mapped true

  pub blocks-mapped : (place : ℕ) (s : Labelled) → slice_get unit place ≡ Some s → (is_block_if s.stmt || is_arm s.stmt) ≡ true → end_of_block list (at place) ≡ at (end_of_block unit place)
  blocks-mapped = ends-mapped false

  -- the block that was put in after a condition
  pub inserted-ends : (arms : Bool) (place : ℕ) (s : Labelled) (call : Call) (condition : RawExpr) → slice_get unit place ≡ Some s → call_in s.stmt ≡ Some call → guard_of s.stmt ≡ Some condition → end_after arms 0 (drop (at place + 1 + 1) list) (at place + 1 + 1) ≡ at place + 2 + body_width us c.depth (unit_of us call.name)
  inserted-ends arms place s call condition is calls guarded =
      let m = number_at us c.depth c.unit c.base place in
      let g = unit_of us call.name in
      let b = m + body_labels us c.depth g + 1 in
      let inside = copy us c.depth g (map (stands_for us c.unit c.arguments) call.arguments) m in
      let stood = around (changes us c) m b s.line (Some condition) inside in
      let has = alike list (piece_at us c place s) stood (at place) (piece-around us c place s call calls ∙ ap (λ (guard : Option RawExpr). around (changes us c) m b s.line guard inside) guarded) (stands.pieces place s is) in
      let rest = has_second list (bare m s.line Continue ∷ bare 0 s.line (BlockIf (changed (changes us c) condition)) ∷ []) (inside ++ closing true b s.line) (at place) has in
      let two : at place + 1 + 1 ≡ at place + 2 = omega arith in
      let long : length inside ≡ body_width us c.depth g = copy_length us c.depth g (map (stands_for us c.unit c.arguments) call.arguments) m in
      let behind_all = drop (at place + 2 + length (inside ++ closing true b s.line)) list in
      ap (λ (n : ℕ). end_after arms 0 (drop n list) n) two
      ∙ ap (λ (xs : List Labelled). end_after arms 0 xs (at place + 2)) (rest.is ∙ append_assoc inside (closing true b s.line) behind_all)
      ∙ passed-over arms inside (closing true b s.line ++ behind_all) 0 (at place + 2) (copy-closed us units c.depth g (map (stands_for us c.unit c.arguments) call.arguments) m)
      ∙ ap (λ (n : ℕ). at place + 2 + n) long
