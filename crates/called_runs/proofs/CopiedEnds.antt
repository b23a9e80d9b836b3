-- The DOs that end at what stands for a statement are the copies of those that end at it.
use Rattle.std.proofs.Common.{◌≡◌, ℕ, zero, suc, ◌+◌, ◌<◌, ⊎_elim, Bool, true, false, ◌==◌, List, [], map, reverse, Option, Some, None, if◌then◌else◌, refl, sym, ap, ◌∙◌, arith}
use Rattle.std.specs.List.{slice_get}
use Rattle.std.proofs.lemmas.Bool.{cases_order, eqb-true}
use Rattle.f77_tree.specs.declared.statements.Labelled.{Labelled}
use Rattle.layout_rules.specs.Executables.{is_do_to, loops_to}
use Rattle.layout_rules.specs.Labels.{statement_of}
use Rattle.program_units.specs.Units.{Call, call_in, unit_at, unit_of}
use Rattle.program_units.specs.Widths.{is_kept, body_labels}
use Rattle.program_units.specs.Copies.{Context, changes, end_by, number_at}
use Rattle.program_units.specs.CopiedLoops.{IsEndOf, last_number, loops_from}
use Rattle.program_units.specs.ListedCopies.{piece_at}
use Rattle.unit_laws.proofs.PieceLabels.{number-above, number-apart, number-within}
use Rattle.copied_control.proofs.CopiedLoops.{Ends, IsAway, ends-at, none-of-pieces, outside, piece-away}
use Rattle.copied_control.proofs.LoopLists.{loops-are}
use Rattle.copied_control.proofs.LoopsTo.{ended-loops}
use Rattle.copied_control.proofs.RangeEnds.{alone, first-of}
use Rattle.copied_control.proofs.WhichPieces.{call-count}
use Rattle.called_runs.proofs.Grounds.{AreLaid, IsCopied}
use Rattle.called_runs.proofs.ListedExecutables.{none-from}

positive : (n : ℕ) → (n == 0) ≡ false → 0 < n
positive zero is = let e : true ≡ false = is in absurd cc
positive (suc n) is = omega arith

module _ (us : List (List Labelled)) (list : List Labelled) (laid : AreLaid us list) (c : Context) (at : ℕ → ℕ) (copied : IsCopied us list c at) where
  abbrev unit : List Labelled
  unit = unit_at us c.unit

  abbrev number : ℕ → ℕ
  number place = number_at us c.depth c.unit c.base place

  -- a label leads to the statement that has it
  pub own-place : (place : ℕ) (s : Labelled) → slice_get unit place ≡ Some s → 0 < s.label → statement_of unit s.label ≡ place
  own-place place s is some =
      let start = first-of unit s.label place s is refl in
      let least = start.before in
      ⊎_elim (λ (e : statement_of unit s.label ≡ place). e) (λ o. ⊎_elim
      (λ (below : statement_of unit s.label < place). absurd (alone unit copied.once (statement_of unit s.label) place s.label start.statement s some start.stands is start.has refl below))
      (λ (above : place < statement_of unit s.label). absurd (omega (arith, above, least))) o) (cases_order (statement_of unit s.label) place)

  -- the last label of what stands for a labelled statement
  labelled-loops : (place : ℕ) (s : Labelled) → slice_get unit place ≡ Some s → is_kept c.unit s.stmt ≡ true → 0 < s.label → loops_to list (end_by us c.depth (call_in s.stmt) (number place)) ≡ map at (loops_to unit s.label)
  labelled-loops place s is kept some =
      let there = own-place place s is some in
      let end : IsEndOf us c.unit s.label s = record { stands = ap (λ (n : ℕ). slice_get unit n) there ∙ is; bears = refl; some = some; kept = kept } in
      ap (λ (n : ℕ). loops_to list (last_number us c n s)) (sym there)
      ∙ ended-loops us laid.have list c at copied.loops s.label s end

  -- ---- a CALL without a label

  module _ (i : ℕ) (s : Labelled) (call : Call) (is : slice_get unit i ≡ Some s) (calls : call_in s.stmt ≡ Some call) (bare : s.label ≡ 0) where
    abbrev b : ℕ
    b = number i + body_labels us c.depth (unit_of us call.name) + 1

    away : (place : ℕ) (t : Labelled) → slice_get unit place ≡ Some t → IsAway us laid.have c b place t
    away place t there =
        let many = call-count us c s call calls in
        record {
          lone = λ label does ends. by_order (ends-at us laid.have c place label t there does) (laid.have c.unit place label t there does).is.some ends;
          within = λ inner inner_calls low high.
              let more = call-count us c t inner inner_calls in
              ⊎_elim (λ (e : place ≡ i).
              let found : Some t ≡ Some s = sym there ∙ ap (λ (n : ℕ). slice_get unit n) e ∙ is in
              let same : t ≡ s = cc in
              let one : Some inner ≡ Some call = sym inner_calls ∙ ap (λ (x : Labelled). call_in x.stmt) same ∙ calls in
              let same_call : inner ≡ call = cc in
              let bodies = ap (λ (x : Call). body_labels us c.depth (unit_of us x.name)) same_call in
              let numbers = ap (λ (n : ℕ). number n) e in
              omega (arith, numbers, bodies, high)) (λ o. ⊎_elim
              (λ (below : place < i). let apart = number-apart us c place i t there below in omega (arith, apart, more, high))
              (λ (above : i < place). let apart = number-apart us c i place s is above in omega (arith, apart, many, low))
              o) (cases_order place i);
        }
      where
        by_order : {label : ℕ} → Ends us laid.have c label → 0 < label → (changes us c).end label ≡ b → ⊥
        by_order e some ends =
            let many = call-count us c s call calls in
            let number_is = e.number_is in
            let one = e.one in
            let bears = e.bears in
            ⊎_elim
            (λ (same : e.place ≡ i).
            let found : Some e.last ≡ Some s = sym e.stands ∙ ap (λ (n : ℕ). slice_get unit n) same ∙ is in
            let last : e.last ≡ s = cc in
            let label = ap (λ (x : Labelled). x.label) last in
            omega (arith, label, bears, some, bare))
            (λ o. ⊎_elim
            (λ (below : e.place < i). let apart = number-apart us c e.place i e.last e.stands below in omega (arith, apart, number_is, ends))
            (λ (above : i < e.place). let apart = number-apart us c i e.place s is above in omega (arith, apart, many, one, number_is, ends))
            o)
            (cases_order e.place i)

    bare-loops : loops_to list b ≡ []
    bare-loops =
        let above = number-above us c i in
        let most = number-within us c i s is in
        let many = call-count us c s call calls in
        let each : (k : ℕ) (t : Labelled) → slice_get unit k ≡ Some t → loops_from b (piece_at us c (0 + k) t) (at (0 + k)) ≡ [] = λ k t there.
        let zero_k : 0 + k ≡ k = omega arith in
        ap (λ (n : ℕ). loops_from b (piece_at us c n t) (at n)) zero_k ∙ piece-away us laid.have c (outside us laid.have c.depth) b k (at k) t (away k t there) in
        loops-are list b
        ∙ ap (λ (xs : List ℕ). reverse xs) (copied.loops b (omega (arith, above)) (omega (arith, most, many)) ∙ none-of-pieces us c at b unit 0 each)

  -- ---- all that stand in copies

  -- no DO of the unit ends at label 0
  none-bare : loops_to unit 0 ≡ []
  none-bare = loops-are unit 0 ∙ ap (λ (xs : List ℕ). reverse xs) (none-from 0 unit 0 (λ j t there. by_do j t there (is_do_to 0 t.stmt) refl))
    where
      by_do : (j : ℕ) (t : Labelled) → slice_get unit j ≡ Some t → (b : Bool) → is_do_to 0 t.stmt ≡ b → is_do_to 0 t.stmt ≡ false
      by_do j t there true does = let some = (laid.have c.unit j 0 t there does).is.some in absurd (omega (arith, some))
      by_do j t there false no_do = no_do

  pub plain-loops : (place : ℕ) (s : Labelled) → slice_get unit place ≡ Some s → is_kept c.unit s.stmt ≡ true → call_in s.stmt ≡ None → loops_to list (if s.label == 0 then 0 else number place) ≡ map at (loops_to unit s.label)
  plain-loops place s is kept none = by_label (s.label == 0) refl
    where
      by_label : (b : Bool) → (s.label == 0) ≡ b → loops_to list (if b then 0 else number place) ≡ map at (loops_to unit s.label)
      by_label true bare = laid.nought ∙ ap (λ (xs : List ℕ). map at xs) (sym (ap (λ (n : ℕ). loops_to unit n) (eqb-true s.label 0 bare) ∙ none-bare))
      by_label false has = ap (λ (o : Option Call). loops_to list (end_by us c.depth o (number place))) (sym none) ∙ labelled-loops place s is kept (positive s.label has)

  pub call-loops : (place : ℕ) (s : Labelled) (call : Call) → slice_get unit place ≡ Some s → is_kept c.unit s.stmt ≡ true → call_in s.stmt ≡ Some call → loops_to list (number place + body_labels us c.depth (unit_of us call.name) + 1) ≡ map at (loops_to unit s.label)
  call-loops place s call is kept calls = by_label (s.label == 0) refl
    where
      by_label : (b : Bool) → (s.label == 0) ≡ b → loops_to list (number place + body_labels us c.depth (unit_of us call.name) + 1) ≡ map at (loops_to unit s.label)
      by_label true bare =
          let none : s.label ≡ 0 = eqb-true s.label 0 bare in
          bare-loops place s call is calls none ∙ ap (λ (xs : List ℕ). map at xs) (sym (ap (λ (n : ℕ). loops_to unit n) none ∙ none-bare))
      by_label false has = ap (λ (o : Option Call). loops_to list (end_by us c.depth o (number place))) (sym calls) ∙ labelled-loops place s is kept (positive s.label has)
