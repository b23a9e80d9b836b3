-- One piece at most runs an executable.
use Rattle.std.proofs.Common.{◌≡◌, ◌≢◌, ℕ, ◌+◌, ◌<◌, ◌≤◌, Bool, true, false, ◌==◌, ◌&&◌, List, [], ◌∷◌, ◌++◌, ◌⊎◌, inl, inr, length, get_or, map, flat_map, fold, Option, Some, None, refl, sym, ap, subst, ◌∙◌, ⊎_elim, arith}
use Rattle.std.specs.Prelude.{if◌then◌else◌, slice_get, sum_by}
use Rattle.std.specs.List.{count_by, list_any, range_with_len}
use Rattle.std.proofs.lemmas.Bool.{cases_eq, cases_Bool, eq-eqb}
use Rattle.std.proofs.lemmas.List.FromFn.{get_or-range_with_len, length-range_with_len}
use Rattle.std.proofs.lemmas.List.Folds.{list_any_at}
use Rattle.std.proofs.lemmas.Option.{slice_get_cases, slice_get-get_or, slice_get_within}
use Rattle.list_laws.proofs.Counts.{bit, bit_false, count-cons, count-append, count-map, count-flat_map, count_some, count_unique, sum_same, sum_at}
use Rattle.list_laws.proofs.KeyPlaces.{absent, found}
use Rattle.f77_tree.specs.declared.programs.Exec.{Exec}
use Rattle.f77_tree.specs.declared.programs.ExecKind.{ExecKind}
use Rattle.f77_tree.specs.declared.programs.ExecKind.TheVariants.{Assign, Print, Pass, Test, Sign, Pick, DoStart, DoNext, End}
use Rattle.f77_tree.specs.declared.programs.Program.{Program}
use Rattle.f77_tree.specs.Control.{EndsWithEnd}
use Rattle.f77_tree.specs.Loops.{do_start}
use Rattle.cfg_build.specs.declared.parts.Part.{Part}
use Rattle.cfg_build.specs.declared.parts.Target.TheVariants as to
use Rattle.cfg_build.specs.declared.pieces.Piece.{Piece}
use Rattle.cfg_build.specs.declared.pieces.PieceKind.TheVariants as piece
use Rattle.cfg_build.specs.Control.{is_reached}
use Rattle.cfg_build.specs.Flow.{flow, with_hold_for, held, piece_at, piece_in}
use Rattle.cfg_build.specs.Joined.{FlowGraph, Row, is_joined, join_row, part_row, rows_of, rows, joined}
use Rattle.cfg_build.specs.Parts.{part, parts, parts_of, parts_in, reached_parts, start_part, end_part, last_of, first_kind}
use Rattle.cfg_build.specs.Passes.{kind_in}
use Rattle.cfg_build.specs.Steps.{own_node, HasOwnPiece}
use Rattle.simplified_forms.specs.Items.{kind_at, is_own, is_piece_of, own_piece}
use Rattle.simplified_forms.proofs.PieceLemmas.{not-equal}
use Rattle.simplified_forms.proofs.RangeCounts.{bit-most}

and-false : (b : Bool) → (b && false) ≡ false
and-false true = refl
and-false false = refl

-- ---- the parts of an executable

module _ (execs : List Exec) (k line : ℕ) where
  -- a piece that runs the executable, of which the kind is told
  abbrev runs : ExecKind → Piece → Bool
  runs kind x = (x.exec == k) && is_own x.kind kind

  one-part : (test : Part → Bool) (x : Part) → count_by test (x ∷ []) ≤ 1
  one-part test x = let one = count-cons test x [] in omega (arith, one, bit-most (test x))

  two-parts : (test : Part → Bool) (x y : Part) → test y ≡ false → count_by test (x ∷ y ∷ []) ≤ 1
  two-parts test x y none =
      let first = count-cons test x (y ∷ []) in
      let second = count-cons test y [] in
      let zero = bit_false (test y) none in
      omega (arith, first, second, zero, bit-most (test x))

  own-parts : (kind : ExecKind) → count_by (λ (x : Part). runs kind x.piece) (parts_of execs k line kind) ≤ 1
  own-parts (Assign target value next) = one-part (λ (x : Part). runs (Assign target value next) x.piece) (part (to.First k) piece.Act line k (to.First next ∷ []))
  own-parts (Print items next) = one-part (λ (x : Part). runs (Print items next) x.piece) (part (to.First k) piece.Act line k (to.First next ∷ []))
  own-parts (Pass next) = one-part (λ (x : Part). runs (Pass next) x.piece) (part (to.First k) piece.Pass line k (to.First next ∷ []))
  own-parts (Test c if_true if_false) = one-part (λ (x : Part). runs (Test c if_true if_false) x.piece) (part (to.First k) piece.Branch line k (to.First if_true ∷ to.First if_false ∷ []))
  own-parts (Sign value below at above) = one-part (λ (x : Part). runs (Sign value below at above) x.piece) (part (to.First k) piece.Branch line k (to.First below ∷ to.First at ∷ to.First above ∷ []))
  own-parts (Pick value targets other) = one-part (λ (x : Part). runs (Pick value targets other) x.piece) (part (to.First k) piece.Branch line k (map to.First (targets ++ other ∷ [])))
  own-parts (DoStart loop_no var first last step body exit) =
      two-parts (λ (x : Part). runs (DoStart loop_no var first last step body exit) x.piece) (part (to.First k) piece.Act line k (to.Test k ∷ [])) (part (to.Test k) piece.Branch line k (to.First body ∷ to.First exit ∷ []))
      (and-false (k == k))
  own-parts (DoNext loop_no var body exit) = one-part (λ (x : Part). runs (DoNext loop_no var body exit) x.piece) (part (to.First k) piece.Act line k (to.Test (do_start execs loop_no) ∷ []))
  own-parts End = omega arith

-- the parts of another executable run none
other-parts : (execs : List Exec) (j k line : ℕ) (own kind : ExecKind) → (j == k) ≡ false → count_by (λ (x : Part). (x.piece.exec == k) && is_own x.piece.kind own) (parts_of execs j line kind) ≡ 0
other-parts execs j k line own (Assign target value next) none = rw none refl
other-parts execs j k line own (Print items next) none = rw none refl
other-parts execs j k line own (Pass next) none = rw none refl
other-parts execs j k line own (Test c if_true if_false) none = rw none refl
other-parts execs j k line own (Sign value below at above) none = rw none refl
other-parts execs j k line own (Pick value targets other) none = rw none refl
other-parts execs j k line own (DoStart loop_no var first last step body exit) none = rw none refl
other-parts execs j k line own (DoNext loop_no var body exit) none = rw none refl
other-parts execs j k line own End none = refl

module _ (p : Program) (k : ℕ) where
  abbrev execs : List Exec
  execs = p.execs

  abbrev test : Piece → Bool
  test = is_piece_of p k

  -- ---- holds and joins run no executable

  held-count : (xs : List ℕ) (f : FlowGraph) → count_by test (fold (with_hold_for execs) f xs).pieces ≡ count_by test f.pieces
  held-count [] f = refl
  held-count (x ∷ xs) f =
      let held : Piece = piece_at (joined execs).pieces x in
      let hold : Piece = record { kind = piece.Hold; line = held.line; exec = held.exec } in
      let none : test hold ≡ false = and-false (held.exec == k) in
      let one : count_by test (hold ∷ []) ≡ 0 = omega (arith, count-cons test hold [], bit_false (test hold) none) in
      let added = count-append test f.pieces (hold ∷ []) in
      held-count xs (with_hold_for execs f x) ∙ omega (arith, added, one)

  row-count-by : (ps : List Part) (x : Part) (b : Bool) → is_joined ps x ≡ b → count_by (λ (r : Row). test r.piece) (rows_of ps x) ≡ bit (test x.piece)
  row-count-by ps x true is =
      let none : test (join_row ps x).piece ≡ false = and-false (x.piece.exec == k) in
      let first = count-cons (λ (r : Row). test r.piece) (join_row ps x) (part_row ps x ∷ []) in
      let second = count-cons (λ (r : Row). test r.piece) (part_row ps x) [] in
      let zero = bit_false (test (join_row ps x).piece) none in
      rw is (omega (arith, first, second, zero))
  row-count-by ps x false is = let one = count-cons (λ (r : Row). test r.piece) (part_row ps x) [] in rw is (omega (arith, one))

  row-count : (ps : List Part) (x : Part) → count_by (λ (r : Row). test r.piece) (rows_of ps x) ≡ bit (test x.piece)
  row-count ps x = row-count-by ps x (is_joined ps x) refl

  joined-count : count_by test (joined execs).pieces ≡ count_by (λ (x : Part). test x.piece) (parts execs)
  joined-count =
      count-map test (λ (r : Row). r.piece) (rows (parts execs))
      ∙ count-flat_map (λ (r : Row). test r.piece) (rows_of (parts execs)) (parts execs)
      ∙ sum_same (λ x. count_by (λ (r : Row). test r.piece) (rows_of (parts execs) x)) (λ (x : Part). bit (test x.piece)) (parts execs) (λ x m. row-count (parts execs) x)

  -- ---- parts

  abbrev part_test : Part → Bool
  part_test x = test x.piece

  reached-none : (j : ℕ) → j ≢ k → count_by part_test (reached_parts execs j) ≡ 0
  reached-none j ne = by (is_reached execs j) (slice_get execs j)
    where
      by : (b : Bool) (o : Option Exec) → count_by part_test (if b then parts_in execs j o else []) ≡ 0
      by false o = refl
      by true None = refl
      by true (Some exec) = other-parts execs j k exec.line (kind_at p k) exec.kind (not-equal j k (λ e. ne (sym e)))

  -- how many parts of the executable itself run it
  reached-most : (exec : Exec) → slice_get execs k ≡ Some exec → count_by part_test (reached_parts execs k) ≤ 1
  reached-most exec is = let same = ap (λ o. count_by part_test (if is_reached execs k then parts_in execs k o else [])) is in omega (arith, same, by (is_reached execs k))
    where
      kind : kind_at p k ≡ exec.kind
      kind = ap kind_in is

      by : (b : Bool) → count_by part_test (if b then parts_in execs k (Some exec) else []) ≤ 1
      by false = omega arith
      by true = subst (λ (own : ExecKind). count_by (λ (x : Part). (x.piece.exec == k) && is_own x.piece.kind own) (parts_of execs k exec.line exec.kind) ≤ 1) (sym kind) (own-parts execs k exec.line exec.kind)

  reached-end : (exec : Exec) → slice_get execs k ≡ Some exec → exec.kind ≡ End → count_by part_test (reached_parts execs k) ≡ 0
  reached-end exec is end = ap (λ o. count_by part_test (if is_reached execs k then parts_in execs k o else [])) is ∙ by (is_reached execs k)
    where
      by : (b : Bool) → count_by part_test (if b then parts_in execs k (Some exec) else []) ≡ 0
      by false = refl
      by true = ap (λ (kind : ExecKind). count_by part_test (parts_of execs k exec.line kind)) end

  -- the pieces that run the executable are those of its parts, and the end
  pub pieces-count : (exec : Exec) → slice_get execs k ≡ Some exec → count_by test (flow execs).pieces ≡ count_by part_test (reached_parts execs k) + bit (part_test (end_part execs))
  pieces-count exec is =
      let n = length execs in
      let less : k < n = slice_get_within execs k exec is in
      let all : count_by test (flow execs).pieces ≡ count_by part_test (parts execs) = held-count (held execs) (joined execs) ∙ joined-count in
      let own : ℕ → ℕ = λ j. count_by part_test (reached_parts execs j) in
      let middle = flat_map (reached_parts execs) (range_with_len 0 n) in
      let first = count-append part_test (start_part ∷ middle) (end_part execs ∷ []) in
      let second = count-cons part_test start_part middle in
      let start = bit_false (part_test start_part) (and-false (0 == k)) in
      let third = count-cons part_test (end_part execs) [] in
      let fourth = count-flat_map part_test (reached_parts execs) (range_with_len 0 n) in
      let size = length-range_with_len 0 n in
      let place : (i : ℕ) → i < n → get_or (range_with_len 0 n) i 0 ≡ i = λ i below. get_or-range_with_len 0 n i 0 below ∙ omega arith in
      let sum : sum_by own (range_with_len 0 n) ≡ own k =
      sum_at own (range_with_len 0 n) k 0 (omega (arith, less, size)) (λ i below ne. ap own (place i (omega (arith, below, size))) ∙ reached-none i ne) ∙ ap own (place k less)
      in
      omega (arith, all, first, second, start, third, fourth, sum)

  -- END alone is run by the end
  end-runs : (exec : Exec) → EndsWithEnd execs → slice_get execs k ≡ Some exec → (exec.kind ≡ End) ⊎ (bit (part_test (end_part execs)) ≡ 0)
  end-runs exec ends is =
      let less = slice_get_within execs k exec is in
      ⊎_elim
      (λ (last : last_of execs ≡ k). inl ((ends.last k exec is).1 (omega (arith, last, less))))
      (λ (other : last_of execs ≢ k). inr (bit_false (part_test (end_part execs)) (ap (λ b. b && true) (not-equal (last_of execs) k (λ e. other (sym e))))))
      (cases_eq (last_of execs) k)

  -- one piece at most runs the executable
  pieces-most : (exec : Exec) → EndsWithEnd execs → slice_get execs k ≡ Some exec → count_by test (flow execs).pieces ≤ 1
  pieces-most exec ends is =
      let count = pieces-count exec is in
      ⊎_elim
      (λ end. let none = reached-end exec is end in let bits = bit-most (part_test (end_part execs)) in omega (arith, count, none, bits))
      (λ none. let most = reached-most exec is in omega (arith, count, none, most))
      (end-runs exec ends is)

  -- control can come to an executable that some piece runs, but for END
  pub piece-reached : (exec : Exec) → EndsWithEnd execs → slice_get execs k ≡ Some exec → (exec.kind ≡ End → ⊥) → own_piece p k < length (flow execs).pieces → is_reached execs k ≡ true
  piece-reached exec ends is other less =
      let pieces : List Piece = (flow execs).pieces in
      let none : Piece = start_part.piece in
      let any : list_any test pieces ≡ true = ⊎_elim
      (λ (yes_any : list_any test pieces ≡ true). yes_any)
      (λ (no_any : list_any test pieces ≡ false). let last = (absent (λ (a b : Piece). test b) none none pieces no_any).last in absurd (omega (arith, last, less)))
      (cases_Bool (list_any test pieces))
      in
      let first = found (λ (a b : Piece). test b) none none pieces any in
      let some : 1 ≤ count_by test pieces = count_some test pieces (own_piece p k) none first.within first.equal in
      let count = pieces-count exec is in
      ⊎_elim
      (λ end. absurd (other end))
      (λ zero.
      ⊎_elim
      (λ (told : is_reached execs k ≡ true). told)
      (λ (not_told : is_reached execs k ≡ false).
      let empty : count_by part_test (reached_parts execs k) ≡ 0 = ap (λ (b : Bool). count_by part_test (if b then parts_in execs k (slice_get execs k) else [])) not_told in
      absurd (omega (arith, some, count, zero, empty)))
      (cases_Bool (is_reached execs k)))
      (end-runs exec ends is)

-- a piece that runs an executable is its own piece
pub one-piece : (p : Program) (k node : ℕ) (exec : Exec) → EndsWithEnd p.execs → slice_get p.execs k ≡ Some exec → is_piece_of p k (piece_at (flow p.execs).pieces node) ≡ true → own_piece p k ≡ node
one-piece p k node exec ends is passes =
    let pieces : List Piece = (flow p.execs).pieces in
    let none : Piece = start_part.piece in
    ⊎_elim
    (λ inside.
    let same : piece_at pieces node ≡ get_or pieces node none = ap piece_in (slice_get-get_or pieces node none inside.1) in
    let here : is_piece_of p k (get_or pieces node none) ≡ true = ap (is_piece_of p k) (sym same) ∙ passes in
    let any = list_any_at (is_piece_of p k) pieces node none inside.1 here in
    let first = found (λ (a b : Piece). is_piece_of p k b) none none pieces any in
    count_unique (is_piece_of p k) pieces (own_piece p k) node none (pieces-most p k exec ends is) first.within inside.1 first.equal here)
    (λ past. let no : false ≡ true = sym (and-false (0 == k)) ∙ ap (λ o. is_piece_of p k (piece_in o)) (sym past.1) ∙ passes in absurd cc)
    (slice_get_cases pieces node).1

-- the first piece of an executable runs it
first-own : (kind : ExecKind) → is_own (first_kind kind) kind ≡ true
first-own (Assign target value next) = refl
first-own (Print items next) = refl
first-own (Pass next) = refl
first-own (Test c if_true if_false) = refl
first-own (Sign value below at above) = refl
first-own (Pick value targets other) = refl
first-own (DoStart loop_no var first last step body exit) = refl
first-own (DoNext loop_no var body exit) = refl
first-own End = refl

pub own-node : (p : Program) (k : ℕ) (exec : Exec) → EndsWithEnd p.execs → slice_get p.execs k ≡ Some exec → HasOwnPiece p.execs k exec.kind → own_piece p k ≡ own_node p.execs k
own-node p k exec ends is has =
    let node = own_node p.execs k in
    let x = piece_at (flow p.execs).pieces node in
    let runs : is_own x.kind (kind_at p k) ≡ true = ap (λ kind. is_own kind (kind_at p k)) has.made.kind_is ∙ ap (λ kind. is_own (first_kind exec.kind) kind) (ap kind_in is) ∙ first-own exec.kind in
    one-piece p k node exec ends is (ap (λ b. b && is_own x.kind (kind_at p k)) (eq-eqb x.exec k has.made.exec_is) ∙ runs)
