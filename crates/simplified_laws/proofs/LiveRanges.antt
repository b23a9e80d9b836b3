-- Control comes to the executables in the range of a DO from its beginning alone.
use Rattle.std.proofs.Common.{◌≡◌, ℕ, suc, ◌<◌, ◌≤◌, List, length, Contains, Option, Some, None, refl, sym, ap, subst, ◌∙◌, ⊎_elim, arith}
use Rattle.std.specs.Prelude.{slice_get, slice_index}
use Rattle.std.proofs.lemmas.Bool.{cases_lt}
use Rattle.std.proofs.lemmas.Option.{slice_get_cases, slice_get_within}
use Rattle.list_laws.proofs.Members.{Member-at, Contains-from_Member}
use Rattle.f77_tree.specs.declared.programs.Exec.{Exec}
use Rattle.f77_tree.specs.declared.programs.ExecKind.{ExecKind}
use Rattle.f77_tree.specs.declared.programs.ExecKind.TheVariants.{End}
use Rattle.f77_tree.specs.declared.programs.NameInfo.{NameInfo}
use Rattle.f77_tree.specs.declared.programs.Program.{Program}
use Rattle.f77_tree.specs.Control.{successors, successors_in, LeadsTo}
use Rattle.f77_tree.specs.Loops.{Loop, incremented, incremented_in, do_start, do_next, InRange}
use Rattle.f77_tree.specs.WellFormed.{AreExecs}
use Rattle.cfg_build.specs.Control.{IsReachedExec}
use Rattle.cfg_build.specs.Flow.{flow}
use Rattle.cfg_build.specs.Parts.{first_kind}
use Rattle.cfg_build.specs.Routes.{IsMade}
use Rattle.cfg_build.specs.Steps.{HasOwnPiece}
use Rattle.constant_laws.specs.Laws.{LiveDecisionsAreKnown}
use Rattle.const_prop.specs.Table.{Knowns}
use Rattle.simplified_forms.specs.Items.{own_piece, IsEntered}
use Rattle.simplified_laws.specs.LiveRanges.{LiveRangesHaveLiveStarts, LiveIncrementsHaveLiveStarts}
use Rattle.simplified_forms.specs.Simplified.{decided}
use Rattle.simplified_laws.proofs.ControlWays.{ReachingIsTold}
use Rattle.simplified_laws.proofs.LeadingOn.{ChainsAreFound, AreStrong, HaveShape, FirstIsLed, live-facts, entered-reached}
use Rattle.simplified_laws.proofs.LeavingEdges.{WaysAreCounted, HoldsLeadToEnd}
use Rattle.simplified_laws.proofs.LivePlaces.{IsDecidedFor, each-live}
use Rattle.simplified_forms.proofs.LoopNumbers.{next_within}
use Rattle.simplified_laws.proofs.OnePiece.{own-node}

abbrev pub OwnPiecesAreFound : Type 0
OwnPiecesAreFound = (names : List NameInfo) (execs : List Exec) (loops k : ℕ) (exec : Exec) → IsReachedExec names execs loops k exec → HasOwnPiece execs k exec.kind

increment-not : (kind : ExecKind) (loop : Loop) → incremented kind ≡ Some loop → kind ≡ End → ⊥
increment-not kind loop is end = let no : None ≡ Some loop = sym (ap incremented end) ∙ is in cc

module _ (p : Program) (well : AreExecs p.names p.execs p.loops) (n : ℕ) (less : n < p.loops) where
  -- END doesn't stand in a range
  range-not : (k : ℕ) (exec : Exec) → slice_get p.execs k ≡ Some exec → InRange p.execs n k → exec.kind ≡ End → ⊥
  range-not k exec found inside end =
      let loop = well.loops_nest.each n less in
      let last : suc k ≡ length p.execs = (well.end.last k exec found).0 end in
      by (slice_get p.execs (do_next p.execs n)) refl loop.increments last
    where
      by : (o : Option Exec) → slice_get p.execs (do_next p.execs n) ≡ o → incremented_in o ≡ Some (well.loops_nest.each n less).loop → suc k ≡ length p.execs → ⊥
      by None is increments last = cc
      by (Some other) is increments last =
          let within = slice_get_within p.execs (do_next p.execs n) other is in
          let same : k ≡ do_next p.execs n = omega (arith, within, last, inside.up_to_next) in
          let kinds : Some exec ≡ Some other = sym found ∙ ap (slice_get p.execs) same ∙ is in
          let one : exec ≡ other = cc in
          increment-not other.kind (well.loops_nest.each n less).loop increments (ap (λ (x : Exec). x.kind) (sym one) ∙ end)

  module _ (t : Knowns) where
    -- the DO has begun where the executable stands in its range
    abbrev HasBegun : ℕ → Type 0
    HasBegun k = InRange p.execs n k → IsEntered p t (do_start p.execs n)

    has-begun-first : HasBegun 0
    has-begun-first inside = absurd (omega (arith, inside.after_start))

    has-begun-next : (k i : ℕ) (exec : Exec) → slice_get p.execs k ≡ Some exec → i < length (successors exec.kind) → IsDecidedFor exec.kind (decided p t k) i → IsEntered p t k → HasBegun k → HasBegun (slice_index (successors exec.kind) i)
    has-begun-next k i exec found some meant by before inside = ⊎_elim
        (λ (after : do_start p.execs n < k). ⊎_elim
        (λ (past : do_next p.execs n < k). from-outside (λ (here : InRange p.execs n k). omega (arith, past, here.up_to_next)))
        (λ (within : k ≤ do_next p.execs n). before (record { after_start = after; up_to_next = within }))
        (cases_lt (do_next p.execs n) k))
        (λ (not_after : k ≤ do_start p.execs n). from-outside (λ (here : InRange p.execs n k). omega (arith, not_after, here.after_start)))
        (cases_lt (do_start p.execs n) k)
      where
        leads : LeadsTo p.execs k (slice_index (successors exec.kind) i)
        leads = subst (λ (xs : List ℕ). Contains xs (slice_index (successors exec.kind) i)) (sym (ap successors_in found)) (Contains-from_Member (successors exec.kind) (slice_index (successors exec.kind) i) (Member-at (successors exec.kind) i 0 some))

        from-outside : (InRange p.execs n k → ⊥) → IsEntered p t (do_start p.execs n)
        from-outside outside = subst (IsEntered p t) (well.loops_nest.entered n less k (slice_index (successors exec.kind) i) outside leads inside).0 by

-- the own piece of an executable to which control can come
pub own-made : OwnPiecesAreFound → AreStrong → HaveShape → (p : Program) (t : Knowns) → AreExecs p.names p.execs p.loops → (k : ℕ) (exec : Exec) → slice_get p.execs k ≡ Some exec → (exec.kind ≡ End → ⊥) → IsEntered p t k → IsMade (flow p.execs) p.execs (own_piece p k) (first_kind exec.kind) k
own-made own strong shape p t well k exec found other by =
    let reached = entered-reached p t (strong p.names p.execs p.loops well) (shape p.names p.execs p.loops well) well.end k exec found other by in
    let has = own p.names p.execs p.loops k exec (record { well = well; reached = reached; found = found }) in
    subst (λ node. IsMade (flow p.execs) p.execs node (first_kind exec.kind) k) (sym (own-node p k exec well.end found has)) has.made

pub live-starts : ReachingIsTold → ChainsAreFound → OwnPiecesAreFound → FirstIsLed → WaysAreCounted → HoldsLeadToEnd → AreStrong → HaveShape → LiveDecisionsAreKnown → LiveRangesHaveLiveStarts
live-starts told chains own led counted ended strong shape known p c touches tree r t n k routed closed less inside by =
    let well = routed.well_formed.execs in
    let facts = live-facts known p c touches tree r t routed closed in
    let strong_here = strong p.names p.execs p.loops well in
    let shape_here = shape p.names p.execs p.loops well in
    ⊎_elim
    (λ there.
    let exec : Exec = there.0 in
    let other = range-not p well n less k exec there.2 inside in
    let made = own-made own strong shape p t well k exec there.2 other by in
    each-live p t strong_here shape_here facts well told chains led counted ended (HasBegun p well n less t) (has-begun-first p well n less t) (has-begun-next p well n less t) k exec there.2 other made by inside)
    (λ past. let within = next_within p.execs p.loops well.loops_nest n less in absurd (omega (arith, within, inside.up_to_next, past.0)))
    (slice_get_cases p.execs k).1

pub increments-too : LiveRangesHaveLiveStarts → LiveIncrementsHaveLiveStarts
increments-too ranges p c touches tree r t n routed closed less by =
    let loop = routed.well_formed.execs.loops_nest.each n less in
    ranges p c touches tree r t n (do_next p.execs n) routed closed less (record { after_start = loop.later; up_to_next = omega arith }) by
