-- Control goes from items to items, by the laws on executables to which it can come.
use Rattle.std.proofs.Common.{◌≡◌, ◌↔◌, ℕ, ◌<◌, true, false, List, [], ◌∷◌, length, Bool, Option, Some, None, refl, sym, ap, subst, ◌∙◌, ⊎_elim, arith}
use Rattle.std.specs.Prelude.{slice_get, slice_index}
use Rattle.std.proofs.lemmas.Option.{slice_get_cases}
use Rattle.f77_tree.specs.declared.programs.Exec.{Exec}
use Rattle.f77_tree.specs.declared.programs.ExecKind.{ExecKind}
use Rattle.f77_tree.specs.declared.programs.ExecKind.TheVariants.{Assign, Print, Pass, Test, Sign, Pick, DoStart, DoNext, End}
use Rattle.f77_tree.specs.declared.programs.Program.{Program}
use Rattle.f77_tree.specs.Control.{successors}
use Rattle.f77_tree.specs.Loops.{Loop, begun, begun_in, incremented, incremented_in, do_start, do_next}
use Rattle.f77_tree.specs.WellFormed.{AreExecs}
use Rattle.alias_classes.specs.Classes.{ClassTable}
use Rattle.region_tree.specs.Tree.{Tree}
use Rattle.cfg_build.specs.Flow.{flow}
use Rattle.dep_routing.specs.Routing.{Routing}
use Rattle.const_prop.specs.Closed.{IsClosed}
use Rattle.const_prop.specs.Right.{AreRouted}
use Rattle.const_prop.specs.Table.{Knowns}
use Rattle.simplified_forms.specs.Items.{IsEntered, IsKeptKind, IsItem}
use Rattle.simplified_laws.specs.LiveItems.{FirstExecutableIsItem, LiveExecutablesAreItems, IsLiveItem, ItemsLeadToItems, DosAreItems}
use Rattle.simplified_laws.specs.LiveRanges.{LiveIncrementsHaveLiveStarts}
use Rattle.simplified_laws.specs.LiveWays.{FirstExecutableIsLive, LiveExecutablesLeadOn, decides, MayTake}
use Rattle.simplified_forms.specs.Simplified.{decided}
use Rattle.simplified_laws.proofs.LeadingOn.{successor-exists}
use Rattle.simplified_forms.proofs.LoopNumbers.{next_number}

-- ---- the executables of a DO lead to its range and to its exit

begun-ways : (kind : ExecKind) (loop : Loop) → begun kind ≡ Some loop → (successors kind ≡ loop.body ∷ loop.exit ∷ []) × (decides kind ≡ false)
begun-ways (Assign target value next) loop is = absurd cc
begun-ways (Print items next) loop is = absurd cc
begun-ways (Pass next) loop is = absurd cc
begun-ways (Test c a b) loop is = absurd cc
begun-ways (Sign e a b c) loop is = absurd cc
begun-ways (Pick e targets other) loop is = absurd cc
begun-ways (DoStart loop_no var first last step body exit) loop is =
    let same : record { number = loop_no; variable = var; body = body; exit = exit } ≡ loop = cc in
    (ap (λ (x : Loop). x.body ∷ x.exit ∷ []) same, refl)
begun-ways (DoNext loop_no var body exit) loop is = absurd cc
begun-ways End loop is = absurd cc

incremented-ways : (kind : ExecKind) (loop : Loop) → incremented kind ≡ Some loop → successors kind ≡ loop.body ∷ loop.exit ∷ []
incremented-ways (Assign target value next) loop is = absurd cc
incremented-ways (Print items next) loop is = absurd cc
incremented-ways (Pass next) loop is = absurd cc
incremented-ways (Test c a b) loop is = absurd cc
incremented-ways (Sign e a b c) loop is = absurd cc
incremented-ways (Pick e targets other) loop is = absurd cc
incremented-ways (DoStart loop_no var first last step body exit) loop is = absurd cc
incremented-ways (DoNext loop_no var body exit) loop is =
    let same : record { number = loop_no; variable = var; body = body; exit = exit } ≡ loop = cc in
    ap (λ (x : Loop). x.body ∷ x.exit ∷ []) same
incremented-ways End loop is = absurd cc

begins-kept : (p : Program) (t : Knowns) (k : ℕ) (kind : ExecKind) (loop : Loop) → begun kind ≡ Some loop → IsKeptKind p t k kind ≡ IsEntered p t k
begins-kept p t k (Assign target value next) loop is = absurd cc
begins-kept p t k (Print items next) loop is = absurd cc
begins-kept p t k (Pass next) loop is = absurd cc
begins-kept p t k (Test c a b) loop is = absurd cc
begins-kept p t k (Sign e a b c) loop is = absurd cc
begins-kept p t k (Pick e targets other) loop is = absurd cc
begins-kept p t k (DoStart loop_no var first last step body exit) loop is = refl
begins-kept p t k (DoNext loop_no var body exit) loop is = absurd cc
begins-kept p t k End loop is = absurd cc

increments-kept : (p : Program) (t : Knowns) (k : ℕ) (kind : ExecKind) (loop : Loop) → incremented kind ≡ Some loop → IsKeptKind p t k kind ≡ IsEntered p t (do_start p.execs loop.number)
increments-kept p t k (Assign target value next) loop is = absurd cc
increments-kept p t k (Print items next) loop is = absurd cc
increments-kept p t k (Pass next) loop is = absurd cc
increments-kept p t k (Test c a b) loop is = absurd cc
increments-kept p t k (Sign e a b c) loop is = absurd cc
increments-kept p t k (Pick e targets other) loop is = absurd cc
increments-kept p t k (DoStart loop_no var first last step body exit) loop is = absurd cc
increments-kept p t k (DoNext loop_no var body exit) loop is =
    let same : record { number = loop_no; variable = var; body = body; exit = exit } ≡ loop = cc in
    ap (λ (x : Loop). IsEntered p t (do_start p.execs x.number)) same
increments-kept p t k End loop is = absurd cc

-- the executable that begins a DO, and the one that increments it
record HasBegun (p : Program) (k : ℕ) (loop : Loop) : Type 0 where
  exec : Exec
  found : slice_get p.execs k ≡ Some exec
  begins : begun exec.kind ≡ Some loop

has-begun : (p : Program) (k : ℕ) (loop : Loop) → begun_in (slice_get p.execs k) ≡ Some loop → HasBegun p k loop
has-begun p k loop is = by (slice_get p.execs k) refl is
  where
    by : (o : Option Exec) → slice_get p.execs k ≡ o → begun_in o ≡ Some loop → HasBegun p k loop
    by None found begins = absurd cc
    by (Some exec) found begins = record { exec = exec; found = found; begins = begins }

record HasIncremented (p : Program) (k : ℕ) (loop : Loop) : Type 0 where
  exec : Exec
  found : slice_get p.execs k ≡ Some exec
  increments : incremented exec.kind ≡ Some loop

has-incremented : (p : Program) (k : ℕ) (loop : Loop) → incremented_in (slice_get p.execs k) ≡ Some loop → HasIncremented p k loop
has-incremented p k loop is = by (slice_get p.execs k) refl is
  where
    by : (o : Option Exec) → slice_get p.execs k ≡ o → incremented_in o ≡ Some loop → HasIncremented p k loop
    by None found increments = absurd cc
    by (Some exec) found increments = record { exec = exec; found = found; increments = increments }

pub same-exec : (execs : List Exec) (k : ℕ) (a b : Exec) → slice_get execs k ≡ Some a → slice_get execs k ≡ Some b → a ≡ b
same-exec execs k a b first second = let same : Some a ≡ Some b = sym first ∙ second in cc

module _ (p : Program) (t : Knowns) (well : AreExecs p.names p.execs p.loops) where
  -- ---- what control can come to is an item

  module _ (starts : (n : ℕ) → n < p.loops → IsEntered p t (do_next p.execs n) → IsEntered p t (do_start p.execs n)) where
    kept-kind : (k : ℕ) (exec : Exec) (kind : ExecKind) → slice_get p.execs k ≡ Some exec → exec.kind ≡ kind → IsEntered p t k → IsKeptKind p t k kind
    kept-kind k exec (Assign target value next) found is by = by
    kept-kind k exec (Print items next) found is by = by
    kept-kind k exec (Pass next) found is by = by
    kept-kind k exec (Test c a b) found is by = by
    kept-kind k exec (Sign e a b c) found is by = by
    kept-kind k exec (Pick e targets other) found is by = by
    kept-kind k exec (DoStart loop_no var first last step body exit) found is by = by
    kept-kind k exec (DoNext loop_no var body exit) found is by =
        let few = next_number p.execs p.loops well.loops_nest k exec loop_no var body exit found is in
        let loop : Loop = record { number = loop_no; variable = var; body = body; exit = exit } in
        let here : k ≡ do_next p.execs loop_no = (well.loops_nest.each loop_no few).one_next k loop (ap incremented_in found ∙ ap incremented is) refl in
        starts loop_no few (subst (IsEntered p t) here by)
    kept-kind k exec End found is by = tt

    pub live-item : (k : ℕ) → k < length p.execs → IsEntered p t k → IsItem p t k
    live-item k below by = ⊎_elim
        (λ there. record { exec = there.0; found = there.2; kept = kept-kind k there.0 (there.0).kind there.2 refl by })
        (λ past. absurd (omega (arith, below, past.0)))
        (slice_get_cases p.execs k).1

  -- ---- an item leads on as an executable does to which control can come

  module _ (k : ℕ) (exec : Exec) (found : slice_get p.execs k ≡ Some exec) where
    -- an executable to which control can come, with the successors of the item
    record LeadsAs (i : ℕ) : Type 0 where
      like : ℕ
      other : Exec
      stands : slice_get p.execs like ≡ Some other
      ways : successors other.kind ≡ successors exec.kind
      may : MayTake other.kind (decided p t like) i
      entered : IsEntered p t like

    itself : (i : ℕ) → MayTake exec.kind (decided p t k) i → IsEntered p t k → LeadsAs i
    itself i may by = record { like = k; other = exec; stands = found; ways = refl; may = may; entered = by }

    as-begun : (i n : ℕ) → n < p.loops → k ≡ do_next p.execs n → IsEntered p t (do_start p.execs n) → LeadsAs i
    as-begun i n few here by =
        let loop = well.loops_nest.each n few in
        let b = has-begun p (do_start p.execs n) loop.loop loop.begins in
        let both = begun-ways b.exec.kind loop.loop b.begins in
        let increments : incremented exec.kind ≡ Some loop.loop = ap incremented_in (sym found) ∙ ap (λ j. incremented_in (slice_get p.execs j)) here ∙ loop.increments in
        record {
          like = do_start p.execs n;
          other = b.exec;
          stands = b.found;
          ways = both.0 ∙ sym (incremented-ways exec.kind loop.loop increments);
          may = λ does. let no : false ≡ true = sym both.1 ∙ does in absurd cc;
          entered = by;
        }

    leads-as : (i : ℕ) (kind : ExecKind) → exec.kind ≡ kind → i < length (successors kind) → MayTake exec.kind (decided p t k) i → IsKeptKind p t k kind → LeadsAs i
    leads-as i (Assign target value next) is less may kept = itself i may kept
    leads-as i (Print items next) is less may kept = itself i may kept
    leads-as i (Pass next) is less may kept = itself i may kept
    leads-as i (Test c a b) is less may kept = itself i may kept
    leads-as i (Sign e a b c) is less may kept = itself i may kept
    leads-as i (Pick e targets other) is less may kept = itself i may kept
    leads-as i (DoStart loop_no var first last step body exit) is less may kept = itself i may kept
    leads-as i (DoNext loop_no var body exit) is less may kept =
        let few = next_number p.execs p.loops well.loops_nest k exec loop_no var body exit found is in
        let loop : Loop = record { number = loop_no; variable = var; body = body; exit = exit } in
        let here : k ≡ do_next p.execs loop_no = (well.loops_nest.each loop_no few).one_next k loop (ap incremented_in found ∙ ap incremented is) refl in
        as-begun i loop_no few here kept
    leads-as i End is less may kept = absurd (omega (arith, less))

-- ---- the laws

module _ (p : Program) (c : ClassTable) (touches : ℕ → ℕ → Bool) (tree : Tree) (r : Routing) (t : Knowns) (routed : AreRouted p c touches tree r) (closed : IsClosed p (flow p.execs) c touches r t) where
  abbrev well : AreExecs p.names p.execs p.loops
  well = routed.well_formed.execs

  as-item : LiveIncrementsHaveLiveStarts → (k : ℕ) → k < length p.execs → IsEntered p t k → IsItem p t k
  as-item increments k below by = live-item p t well (λ n few. increments p c touches tree r t n routed closed few) k below by

  item-leads : LiveIncrementsHaveLiveStarts → LiveExecutablesLeadOn → (k i : ℕ) (exec : Exec) → slice_get p.execs k ≡ Some exec → i < length (successors exec.kind) → MayTake exec.kind (decided p t k) i → IsItem p t k → IsLiveItem p t (slice_index (successors exec.kind) i)
  item-leads increments leads k i exec found less may item =
      let same = same-exec p.execs k item.exec exec item.found found in
      let kept = subst (λ (x : Exec). IsKeptKind p t k x.kind) same item.kept in
      let a = leads-as p t well k exec found i exec.kind refl less may kept in
      let s = slice_index (successors exec.kind) i in
      let shorter : i < length (successors a.other.kind) = subst (λ (xs : List ℕ). i < length xs) (sym a.ways) less in
      let by = leads p c touches tree r t a.like i a.other routed closed a.stands shorter a.may a.entered in
      let entered : IsEntered p t s = subst (λ (xs : List ℕ). IsEntered p t (slice_index xs i)) a.ways by in
      record { item = as-item increments s (successor-exists p well.loops_nest k exec found well.successors i less) entered; entered = entered }

  do-items : (n : ℕ) → n < p.loops → IsItem p t (do_start p.execs n) ↔ IsItem p t (do_next p.execs n)
  do-items n few =
      let loop = well.loops_nest.each n few in
      let b = has-begun p (do_start p.execs n) loop.loop loop.begins in
      let i = has-incremented p (do_next p.execs n) loop.loop loop.increments in
      let number = ap (λ (m : ℕ). IsEntered p t (do_start p.execs m)) loop.number in
      let begins = begins-kept p t (do_start p.execs n) b.exec.kind loop.loop b.begins in
      let increments = increments-kept p t (do_next p.execs n) i.exec.kind loop.loop i.increments ∙ number in
      let same = begins ∙ sym increments in (
        λ (item : IsItem p t (do_start p.execs n)).
            let kept = subst (λ (x : Exec). IsKeptKind p t (do_start p.execs n) x.kind) (same-exec p.execs (do_start p.execs n) item.exec b.exec item.found b.found) item.kept in
            record { exec = i.exec; found = i.found; kept = subst (λ (X : Type 0). X) same kept },
        λ (item : IsItem p t (do_next p.execs n)).
            let kept = subst (λ (x : Exec). IsKeptKind p t (do_next p.execs n) x.kind) (same-exec p.execs (do_next p.execs n) item.exec i.exec item.found i.found) item.kept in
            record { exec = b.exec; found = b.found; kept = subst (λ (X : Type 0). X) (sym same) kept },
      )

pub live-items : LiveIncrementsHaveLiveStarts → LiveExecutablesAreItems
live-items increments p c touches tree r t k routed closed below by = as-item p c touches tree r t routed closed increments k below by

pub first-item : LiveIncrementsHaveLiveStarts → FirstExecutableIsLive → FirstExecutableIsItem
first-item increments first p c touches tree r t routed closed = as-item p c touches tree r t routed closed increments 0 routed.well_formed.execs.end.some (first p c touches tree r t routed closed)

pub items-lead : LiveIncrementsHaveLiveStarts → LiveExecutablesLeadOn → ItemsLeadToItems
items-lead increments leads p c touches tree r t k i exec routed closed found less may item = item-leads p c touches tree r t routed closed increments leads k i exec found less may item

pub dos-items : DosAreItems
dos-items p c touches tree r t n routed closed few = do-items p c touches tree r t routed closed n few
