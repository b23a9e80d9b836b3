-- The numbers of DOs of copies: each is one of a DO of the unit, and no other context's.
use Rattle.std.proofs.Common.{◌≡◌, ℕ, ◌+◌, ◌<◌, true, false, List, length, filter, Some, refl, sym, ap, ◌∙◌, arith}
use Rattle.std.specs.List.{slice_get}
use Rattle.std.proofs.lemmas.List.{take_all}
use Rattle.std.proofs.lemmas.Option.{slice_get_within}
use Rattle.f77_tree.specs.declared.statements.Labelled.{Labelled}
use Rattle.f77_tree.specs.declared.statements.Stmt.{Stmt}
use Rattle.f77_tree.specs.declared.statements.Stmt.TheVariants.{Do}
use Rattle.layout_rules.specs.Executables.{is_do, loop_number}
use Rattle.program_units.specs.Units.{Call, call_in, guard_of, unit_at}
use Rattle.program_units.specs.Contexts.{IsReached, called}
use Rattle.program_units.specs.Copies.{Change, Context, changed_stmt, changes}
use Rattle.program_units.specs.ListedCopies.{called_context, copied_place, lines_before, piece_at}
use Rattle.copied_control.proofs.WhichPieces.{IsPlain}
use Rattle.copied_values.specs.SideBySide.{IsPairing}
use Rattle.called_runs.specs.CopiedPositions.{AreCopiedLoops, copy_of}
use Rattle.called_runs.specs.FramesInStep.{IsInside, directly, further}
use Rattle.called_runs.proofs.ApartLoops.{LiesIn, do-kept, do-no-call, dos-apart, lies-called, lies-deeper, number-rises, numbers-apart}
use Rattle.called_runs.proofs.Grounds.{AreLaid, IsCopied}
use Rattle.called_runs.proofs.RisingPlaces.{at-same}
use Rattle.called_runs.proofs.StandingPlaces.{copy-at}

do-copied : (x : Change) (t : Stmt) → is_do t ≡ true → is_do (changed_stmt x t) ≡ true
do-copied x (Do a b c d e) does = refl
do-copied x _ does = let h : false ≡ true = does in absurd cc

-- of all DOs a list has more than one's number
pub number-below : (stmts : List Labelled) (d : ℕ) (s : Labelled) → slice_get stmts d ≡ Some s → is_do s.stmt ≡ true → loop_number stmts d < length (filter (λ t. is_do t.stmt) stmts)
number-below stmts d s is does =
    let less = number-rises stmts d (length stmts) s is does (slice_get_within stmts d s is) in
    let all : loop_number stmts (length stmts) ≡ length (filter (λ t. is_do t.stmt) stmts) = ap (λ (xs : List Labelled). length (filter (λ t. is_do t.stmt) xs)) (take_all (length stmts) stmts (omega arith)) in
    omega (arith, less, all)

module _ (us : List (List Labelled)) (list : List Labelled) (laid : AreLaid us list) where
  -- the copy of a DO
  pub record ListedDo (at : ℕ → ℕ) (place : ℕ) : Type 0 where
    pub copy : Labelled
    pub stands : slice_get list (at place) ≡ Some copy
    pub copy_does : is_do copy.stmt ≡ true

  pub listed-do : (c : Context) (at : ℕ → ℕ) → IsCopied us list c at → (i j : ℕ) → (are : AreCopiedLoops us list c at i j) → ListedDo at are.place
  listed-do c at held i j are =
      let plain : IsPlain us c are.place are.s = record { kept = do-kept c.unit are.s.stmt are.does; none = do-no-call are.s.stmt are.does } in
      record { copy = copy_of us c are.place are.s; stands = copy-at us list laid c at held are.place are.s are.is plain; copy_does = do-copied (changes us c) are.s.stmt are.does }

  -- ---- one context

  pub loops-paired : (c : Context) (at : ℕ → ℕ) → IsCopied us list c at → IsPairing (AreCopiedLoops us list c at)
  loops-paired c at held = record {
    there = λ v w x y one other same.
        let unit = unit_at us c.unit in
        let place : one.place ≡ other.place = numbers-apart unit one.place other.place one.s other.s one.is one.does other.is other.does (sym one.own ∙ same ∙ other.own) in
        one.there ∙ ap (λ (d : ℕ). loop_number list (at d)) place ∙ sym other.there;
    back = λ v w x y one other same.
        let unit = unit_at us c.unit in
        let mine = listed-do c at held v w one in
        let his = listed-do c at held x y other in
        let listed : at one.place ≡ at other.place = numbers-apart list (at one.place) (at other.place) mine.copy his.copy mine.stands mine.copy_does his.stands his.copy_does (sym one.there ∙ same ∙ other.there) in
        let place : one.place ≡ other.place = at-same us list laid c at held one.place other.place one.s other.s one.is other.is (do-kept c.unit one.s.stmt one.does) (do-kept c.unit other.s.stmt other.does) (slice_get_within unit one.place one.s one.is) (slice_get_within unit other.place other.s other.is) listed in
        one.own ∙ ap (λ (d : ℕ). loop_number unit d) place ∙ sym other.own;
  }

  pub loops-numbered : (c : Context) (at : ℕ → ℕ) → IsCopied us list c at → (i j : ℕ) → AreCopiedLoops us list c at i j → (i < length (filter (λ t. is_do t.stmt) (unit_at us c.unit))) × (j < length (filter (λ t. is_do t.stmt) list))
  loops-numbered c at held i j are =
      let mine = number-below (unit_at us c.unit) are.place are.s are.is are.does in
      let listed = listed-do c at held i j are in
      let there = number-below list (at are.place) listed.copy listed.stands listed.copy_does in
      let own = are.own in
      let number = are.there in
      (omega (arith, mine, own), omega (arith, there, number))

  -- ---- a context inside another

  -- where it lies, of the CALL of the outer one by which it is come to
  pub record IsUnder (c : Context) (at : ℕ → ℕ) (d : Context) (there : ℕ → ℕ) : Type 0 where
    pub place : ℕ
    pub s : Labelled
    pub call : Call
    pub is : slice_get (unit_at us c.unit) place ≡ Some s
    pub calls : call_in s.stmt ≡ Some call
    pub lies : LiesIn us d there (at place) (at place + length (piece_at us c place s))
    pub reached : IsReached us d there

  -- what lies in a stretch has all inside it there
  lies-in : (c d : Context) (at there : ℕ → ℕ) (from to : ℕ) → IsReached us c at → LiesIn us c at from to → IsInside us c at d there → LiesIn us d there from to × IsReached us d there
  lies-in c _ at _ from to reached lies (directly place s call is calls) = (lies-deeper us c at place s call is calls (laid.copied c at reached).deep from to lies, called place s call reached is calls)
  lies-in c d at there from to reached lies (further place s call is calls more) =
      lies-in (called_context us c place call) d (copied_place us (called_context us c place call) (at place + lines_before (guard_of s.stmt))) there from to (called place s call reached is calls)
      (lies-deeper us c at place s call is calls (laid.copied c at reached).deep from to lies) more

  pub under : (c d : Context) (at there : ℕ → ℕ) → IsReached us c at → IsInside us c at d there → IsUnder c at d there
  under c _ at _ reached (directly place s call is calls) = record { place = place; s = s; call = call; is = is; calls = calls; lies = lies-called us c at place s call is calls (laid.copied c at reached).deep; reached = called place s call reached is calls }
  under c d at there reached (further place s call is calls more) =
      let inner = lies-in (called_context us c place call) d (copied_place us (called_context us c place call) (at place + lines_before (guard_of s.stmt))) there (at place) (at place + length (piece_at us c place s)) (called place s call reached is calls)
      (lies-called us c at place s call is calls (laid.copied c at reached).deep) more in
      record { place = place; s = s; call = call; is = is; calls = calls; lies = inner.0; reached = inner.1 }

  -- no DO of the list is one of both
  pub loops-apart : (c d : Context) (at there : ℕ → ℕ) (i j k : ℕ) → IsReached us c at → IsInside us c at d there → AreCopiedLoops us list c at i j → AreCopiedLoops us list d there k j → ⊥
  loops-apart c d at there i j k reached inside one other =
      let below = under c d at there reached inside in
      let held = laid.copied c at reached in
      let held_too = laid.copied d there below.reached in
      let mine = listed-do c at held i j one in
      let his = listed-do d there held_too k j other in
      let listed : at one.place ≡ there other.place = numbers-apart list (at one.place) (there other.place) mine.copy his.copy mine.stands mine.copy_does his.stands his.copy_does (sym one.there ∙ other.there) in
      dos-apart us list laid c at held d there held_too below.place below.s below.call below.is below.calls below.lies one.place other.place one.s other.s one.is one.does other.is other.does listed
