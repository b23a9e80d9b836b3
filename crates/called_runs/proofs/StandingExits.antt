-- Where control goes at the end of a DO of a unit, it goes in the list at the end of its copy.
use Rattle.std.proofs.Common.{◌≡◌, ℕ, zero, suc, ◌+◌, ◌<◌, ◌⊎◌, inl, inr, ⊎_elim, Bool, true, false, ◌==◌, List, [], ◌∷◌, length, map, drop, Option, Some, None, if◌then◌else◌, refl, sym, ap, subst, ◌∙◌, arith}
use Rattle.std.specs.List.{slice_get}
use Rattle.std.proofs.lemmas.Bool.{cases_order, eq-eqb, ne_eqb}
use Rattle.std.proofs.lemmas.Option.{slice_get_within}
use Rattle.f77_tree.specs.declared.statements.Labelled.{Labelled}
use Rattle.f77_tree.specs.declared.statements.Stmt.{Stmt}
use Rattle.f77_tree.specs.declared.statements.Stmt.TheVariants.{Do}
use Rattle.layout_rules.specs.Executables.{exit_after, exit_among, first_of, is_do_to, loops_to, own_executables}
use Rattle.program_units.specs.Units.{Call, call_in, is_end, unit_at}
use Rattle.program_units.specs.Widths.{is_kept}
use Rattle.program_units.specs.Copies.{Context}
use Rattle.copied_control.proofs.WhichPieces.{IsPlain}
use Rattle.called_runs.specs.CopiedPositions.{Stands, at_increment, first_increment, last_place, own_of_last}
use Rattle.called_runs.proofs.Grounds.{AreLaid, IsCopied}
use Rattle.called_runs.proofs.LastPieces.{last-one}
use Rattle.called_runs.proofs.ListedExecutables.{first-next}
use Rattle.called_runs.proofs.StandingNexts.{not-last, plain-last, stands-behind}
use Rattle.called_runs.proofs.StandingPlaces.{plain-next, stands-here}
use Rattle.called_runs.proofs.RisingPlaces.{IsDo, at-same, is-do, loop-does}

pub do-kept : (k label : ℕ) (s : Stmt) → is_do_to label s ≡ true → is_kept k s ≡ true
do-kept zero label s is = refl
do-kept (suc k) label (Do a b c d e) is = refl
do-kept (suc k) label _ is = let h : false ≡ true = is in absurd cc

pub do-none : (label : ℕ) (s : Stmt) → is_do_to label s ≡ true → call_in s ≡ None
do-none label (Do a b c d e) is = refl
do-none label _ is = let h : false ≡ true = is in absurd cc

do-own : (label : ℕ) (s : Stmt) → is_do_to label s ≡ true → own_executables s ≡ 1
do-own label (Do a b c d e) is = refl
do-own label _ is = let h : false ≡ true = is in absurd cc

do-no-end : (label : ℕ) (s : Stmt) → is_do_to label s ≡ true → is_end s ≡ false
do-no-end label (Do a b c d e) is = refl
do-no-end label _ is = let h : false ≡ true = is in absurd cc

pub drop-one : (xs ys : List ℕ) (i x : ℕ) → drop i xs ≡ x ∷ ys → drop (i + 1) xs ≡ ys
drop-one [] ys zero x is = let e : [] ≡ x ∷ ys = is in absurd cc
drop-one [] ys (suc i) x is = let e : [] ≡ x ∷ ys = is in absurd cc
drop-one (z ∷ xs) ys zero x is = let e : z ∷ xs ≡ x ∷ ys = is in cc
drop-one (z ∷ xs) ys (suc i) x is = ap (λ (n : ℕ). drop n (z ∷ xs)) (let e : suc i + 1 ≡ suc (i + 1) = omega arith in e) ∙ drop-one xs ys i x is

pub drop-got : (xs ys : List ℕ) (i x : ℕ) → drop i xs ≡ x ∷ ys → slice_get xs i ≡ Some x
drop-got [] ys zero x is = let e : [] ≡ x ∷ ys = is in absurd cc
drop-got [] ys (suc i) x is = let e : [] ≡ x ∷ ys = is in absurd cc
drop-got (z ∷ xs) ys zero x is = let e : z ∷ xs ≡ x ∷ ys = is in cc
drop-got (z ∷ xs) ys (suc i) x is = drop-got xs ys i x is

module _ (us : List (List Labelled)) (list : List Labelled) (laid : AreLaid us list) (c : Context) (at : ℕ → ℕ) (held : IsCopied us list c at) where
  abbrev unit : List Labelled
  unit = unit_at us c.unit

  abbrev Comes : ℕ → ℕ → Type 0
  Comes position r = Stands us list c at position r

  -- ---- behind what a statement does itself

  pub stands-own-end : (place : ℕ) (s : Labelled) → slice_get unit place ≡ Some s → IsPlain us c place s → is_end s.stmt ≡ false → Comes (first_of unit place + own_executables s.stmt) (first_of list (at place) + own_executables s.stmt)
  stands-own-end place s is plain no_end = by_loops (loops_to unit s.label) refl
    where
      by_loops : (ds : List ℕ) → loops_to unit s.label ≡ ds → Comes (first_of unit place + own_executables s.stmt) (first_of list (at place) + own_executables s.stmt)
      by_loops (x ∷ ds) loops =
          let some : length (loops_to unit s.label) ≡ suc (length ds) = ap (λ (xs : List ℕ). length xs) loops in
          let here = plain-last us list laid c at held place s plain in
          let first : first_increment us list c at place s ≡ first_of list (at place) + own_of_last (own_executables s.stmt) (call_in s.stmt) = ap (λ (n : ℕ). first_of list n + own_of_last (own_executables s.stmt) (call_in s.stmt)) here in
          let own_last : own_of_last (own_executables s.stmt) (call_in s.stmt) ≡ own_executables s.stmt = ap (λ (o : Option Call). own_of_last (own_executables s.stmt) o) plain.none in
          at_increment place 0 s is plain.kept (omega (arith, some)) (omega arith) (omega (arith, first, own_last))
      by_loops [] loops =
          let none : length (loops_to unit s.label) ≡ 0 = ap (λ (xs : List ℕ). length xs) loops in
          let mine = first-next unit place s is in
          let there = plain-next us list laid c at held place s is plain in
          let stands = stands-here us list laid c at held (place + 1) (not-last us list laid c at held place s is no_end) in
          subst (λ (n : ℕ). Comes n (first_of list (at place) + own_executables s.stmt)) (let e : first_of unit (place + 1) ≡ first_of unit place + own_executables s.stmt = omega (arith, mine, none) in e)
          (subst (λ (n : ℕ). Comes (first_of unit (place + 1)) n) (let e : first_of list (at (place + 1)) ≡ first_of list (at place) + own_executables s.stmt = omega (arith, there, none) in e) stands)

  -- the first executable of the range of a DO
  pub stands-body : (d label : ℕ) (s : Labelled) → slice_get unit d ≡ Some s → is_do_to label s.stmt ≡ true → Comes (first_of unit d + 1) (first_of list (at d) + 1)
  stands-body d label s is does =
      let plain : IsPlain us c d s = record { kept = do-kept c.unit label s.stmt does; none = do-none label s.stmt does } in
      subst (λ (n : ℕ). Comes (first_of unit d + n) (first_of list (at d) + n)) (do-own label s.stmt does) (stands-own-end d s is plain (do-no-end label s.stmt does))

  -- ---- the statement at which ranges end

  module _ (place : ℕ) (s : Labelled) (is : slice_get unit place ≡ Some s) (kept : is_kept c.unit s.stmt ≡ true) (no_end : is_end s.stmt ≡ false) where
    abbrev ends_here : List ℕ
    ends_here = loops_to unit s.label

    -- after the last of the increments from one on
    pub stands-after : (ds : List ℕ) (i : ℕ) → drop (i + 1) ends_here ≡ ds → i < length ends_here → Comes (exit_after unit place (first_of unit place + own_executables s.stmt + i) ds) (exit_after list (last_place us c at place s) (first_increment us list c at place s + i) (map at ds))
    stands-after [] i is_rest below = stands-behind us list laid c at held place s is no_end (last-one us list laid c at held place s is kept).some
    stands-after (x ∷ ds) i is_rest below =
        let more = drop-within ends_here (i + 1) x ds is_rest in
        at_increment place (i + 1) s is kept more (omega arith) (omega arith)
      where
        drop-within : (xs : List ℕ) (n x : ℕ) (ys : List ℕ) → drop n xs ≡ x ∷ ys → n < length xs
        drop-within xs n x ys is = slice_get_within xs n x (drop-got xs ys n x is)

    abbrev looked : Bool → (here further : ℕ) → ℕ
    looked b here further = if b then here else further

    same-do : (inner d : ℕ) (t : Labelled) → slice_get unit d ≡ Some t → is_do_to s.label t.stmt ≡ true → (i : ℕ) → slice_get ends_here i ≡ Some inner → (inner == d) ≡ (at inner == at d)
    same-do inner d t there does i got = by_order (cases_order inner d)
      where
        found : IsDo unit s.label inner
        found = is-do unit s.label inner (loop-does unit s.label i inner got)

        by_order : (inner ≡ d) ⊎ ((inner < d) ⊎ (d < inner)) → (inner == d) ≡ (at inner == at d)
        by_order (inl same) = eq-eqb inner d same ∙ sym (eq-eqb (at inner) (at d) (ap at same))
        by_order (inr other) =
            let differ : inner ≡ d → ⊥ = λ e. ⊎_elim (λ (l : inner < d). omega (arith, l, e)) (λ (g : d < inner). omega (arith, g, e)) other in
            ne_eqb inner d differ
            ∙ sym (ne_eqb (at inner) (at d) (λ (e : at inner ≡ at d). differ (at-same us list laid c at held inner d found.s t found.is there (do-kept c.unit s.label found.s.stmt found.does) (do-kept c.unit s.label t.stmt does) (slice_get_within unit inner found.s found.is) (slice_get_within unit d t there) e)))

    stands-among : (ds : List ℕ) (i d : ℕ) (t : Labelled) → drop i ends_here ≡ ds → slice_get unit d ≡ Some t → is_do_to s.label t.stmt ≡ true
        → Comes (exit_among unit place (first_of unit place + own_executables s.stmt + i) ds d) (exit_among list (last_place us c at place s) (first_increment us list c at place s + i) (map at ds) (at d))
    stands-among [] i d t is_rest there does = stands-behind us list laid c at held place s is no_end (last-one us list laid c at held place s is kept).some
    stands-among (inner ∷ outer) i d t is_rest there does =
        let got = drop-got ends_here outer i inner is_rest in
        let rest = drop-one ends_here outer i inner is_rest in
        let below = slice_get_within ends_here i inner got in
        let pos : ℕ = first_of unit place + own_executables s.stmt + i in
        let inc : ℕ = first_increment us list c at place s + i in
        let later : Comes (exit_among unit place (pos + 1) outer d) (exit_among list (last_place us c at place s) (inc + 1) (map at outer) (at d)) =
        subst (λ (n : ℕ). Comes (exit_among unit place n outer d) (exit_among list (last_place us c at place s) (inc + 1) (map at outer) (at d))) (let e : first_of unit place + own_executables s.stmt + (i + 1) ≡ pos + 1 = omega arith in e)
        (subst (λ (n : ℕ). Comes (exit_among unit place (first_of unit place + own_executables s.stmt + (i + 1)) outer d) (exit_among list (last_place us c at place s) n (map at outer) (at d))) (let e : first_increment us list c at place s + (i + 1) ≡ inc + 1 = omega arith in e)
        (stands-among outer (i + 1) d t rest there does)) in
        subst (λ (b : Bool). Comes (looked (inner == d) (exit_after unit place pos outer) (exit_among unit place (pos + 1) outer d)) (looked b (exit_after list (last_place us c at place s) inc (map at outer)) (exit_among list (last_place us c at place s) (inc + 1) (map at outer) (at d)))) (same-do inner d t there does i got)
        (by_test (inner == d) (stands-after outer i rest below) later)
      where
        by_test : (b : Bool) {w x y z : ℕ} → Comes w x → Comes y z → Comes (looked b w y) (looked b x z)
        by_test true here further = here
        by_test false here further = further

    pub stands-exit : (d : ℕ) (t : Labelled) → slice_get unit d ≡ Some t → is_do_to s.label t.stmt ≡ true → Comes (exit_among unit place (first_of unit place + own_executables s.stmt) ends_here d) (exit_among list (last_place us c at place s) (first_increment us list c at place s) (map at ends_here) (at d))
    stands-exit d t there does =
        subst (λ (n : ℕ). Comes (exit_among unit place n ends_here d) (exit_among list (last_place us c at place s) (first_increment us list c at place s) (map at ends_here) (at d))) (let e : first_of unit place + own_executables s.stmt + 0 ≡ first_of unit place + own_executables s.stmt = omega arith in e)
        (subst (λ (n : ℕ). Comes (exit_among unit place (first_of unit place + own_executables s.stmt + 0) ends_here d) (exit_among list (last_place us c at place s) n (map at ends_here) (at d))) (let e : first_increment us list c at place s + 0 ≡ first_increment us list c at place s = omega arith in e)
        (stands-among ends_here 0 d t refl there does))
