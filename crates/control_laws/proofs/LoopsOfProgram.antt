-- The DO loops of the executables of a program.
use Rattle.std.proofs.Common.{◌≡◌, ℕ, suc, ◌+◌, ◌<◌, ◌≤◌, Bool, true, false, inl, inr, List, [], length, drop, All, get_or, refl, sym, ap, subst, ◌∙◌, arith, Option, Some, None}
use Rattle.std.specs.Prelude.{slice_get, filter, Contains}
use Rattle.std.proofs.lemmas.Option.{slice_get-get_or}
use Rattle.f77_tree.specs.declared.programs.Exec.{Exec}
use Rattle.f77_tree.specs.declared.programs.ExecKind.{ExecKind}
use Rattle.f77_tree.specs.declared.programs.NameInfo.{NameInfo}
use Rattle.f77_tree.specs.declared.statements.Labelled.{Labelled}
use Rattle.f77_tree.specs.declared.statements.Stmt.{Stmt}
use Rattle.f77_tree.specs.declared.statements.Stmt.TheVariants.{Do}
use Rattle.f77_tree.specs.Control.{successors, successors_in, LeadsTo}
use Rattle.f77_tree.specs.Loops.{incremented, incremented_in, incremented_at, IsEnteredAtStart, AreLoops}
use Rattle.layout_rules.specs.Faults.{first_line}
use Rattle.layout_rules.specs.Source.{IsSource, EndsWithEnd}
use Rattle.layout_rules.specs.Labels.{statement_of, is_labelled_twice, lacks_label}
use Rattle.layout_rules.specs.Jumps.{jumps_into}
use Rattle.layout_rules.specs.Nesting.{first_unnested}
use Rattle.layout_rules.specs.Tables.{IsUsable}
use Rattle.layout_rules.specs.Executables.{own_executables, loops_to, first_of, executables, is_do, is_do_to, is_do_in, loop_number, exit_after}
use Rattle.control_structure.proofs.SourceLabels.{AreLabelled-source}
use Rattle.control_structure.proofs.OpenSpans.{AreLabelled}
use Rattle.control_structure.proofs.Usable.{usable as usable_source}
use Rattle.control_structure.proofs.Exits.{AllOf}
use Rattle.control_laws.proofs.LoopPlaces.{usable-at}
use Rattle.control_laws.proofs.LoopBegins.{OwnAt, EndAt, comes, next_loop}
use Rattle.control_laws.proofs.LoopSpans.{IsDo, do-from, ends-do, opens-do, AllOf-got}
use Rattle.control_laws.proofs.LoopRanges.{Spot, next_of, spot-of}
use Rattle.control_laws.proofs.LoopsHold.{start-is, next-once, next-is, is_loop, starts-below, nexts-below, starts-rise, ranges-nested, numbered}
use Rattle.control_laws.proofs.LoopSuccessors.{own-lead}
use Rattle.control_laws.proofs.LoopEntries.{Into, into-next, is-do, after-into, met-into, stop-into, jump-into, false-into, start-into, end-into, body-into}

own-single : (label : ℕ) (stmt : Stmt) → is_do_to label stmt ≡ true → own_executables stmt ≡ 1
own-single label (Do terminal variable first last step) is = refl
own-single label _ is = let h : false ≡ true = is in absurd cc

all-contained : (P : ℕ → Type 0) (xs : List ℕ) (s : ℕ) → AllOf P xs → Contains xs s → P s
all-contained P xs s all in_list = subst P in_list.2 (AllOf-got P xs in_list.0 (get_or xs in_list.0 s) all (slice_get-get_or xs in_list.0 s in_list.1))

module _ (names : List NameInfo) (checked : Bool) (whole : List Labelled) (usable : All (IsUsable whole) whole) (are : AreLabelled whole) (ended : EndsWithEnd whole) (nested : first_unnested [] whole ≡ None) (none : first_line (jumps_into whole) whole ≡ None) where
  abbrev execs : List Exec
  execs = executables names checked whole

  module _ (d label : ℕ) (spot : Spot whole d label) (k : ℕ) (outside : first_of whole d < k → k ≤ next_of whole d label spot → ⊥) where
    abbrev P : ℕ → Type 0
    P = Into (first_of whole d) (next_of whole d label spot) k

    leads-own : (kind : ExecKind) (at : OwnAt names checked whole k kind) → AllOf P (successors kind)
    leads-own kind at =
        let index = first_of whole at.place in
        let out : first_of whole d < index + at.j → index + at.j ≤ next_of whole d label spot → ⊥ = λ x y. outside (omega (arith, x, at.at)) (omega (arith, y, at.at)) in
        let apart : is_do at.s.stmt ≡ false → d ≡ at.place → ⊥ = is-do whole d label at.place at.s spot.it at.stands in
        own-lead names checked whole k P kind at (usable-at names checked whole usable at.place at.s at.stands).inner
        (stop-into names checked whole usable are ended nested d label spot at.place at.j at.s at.stands at.own out k)
        (λ s is. into-next (first_of whole d) (next_of whole d label spot) k s outside is)
        (λ m x got. jump-into names checked whole usable are ended nested d label spot at.place at.j at.s at.stands at.own out k m x none got)
        (λ its ends. start-into names checked whole usable are ended nested d label spot at.place its (spot-of names checked whole usable are ended nested at.place its (do-from whole at.place its (ap (is_do_in its) at.stands ∙ ends))) k (omega (arith, at.at, at.own, own-single its at.s.stmt ends)) outside)
        (λ other. (
          after-into names checked whole usable are ended nested d label spot at.place at.j at.s at.stands at.own out k (apart other),
          λ arm. (
            met-into names checked whole usable are ended nested d label spot at.place at.j at.s at.stands at.own out k (apart other),
            false-into names checked whole usable are ended nested d label spot at.place at.j at.s at.stands at.own out k (apart other) arm,
          ),
        ))

    leads-end : (e : Exec) → slice_get execs k ≡ Some e → EndAt names whole k e.kind → AllOf P (successors e.kind)
    leads-end e is at =
        let c = at.d in
        let its = at.s.label in
        let outer = drop (suc at.m) (loops_to whole its) in
        let it = ends-do whole its at.m c at.got in
        let one = spot-of names checked whole usable are ended nested c its it in
        let place : statement_of whole its ≡ at.place = are.places at.place at.s at.stands (are.loops c its (opens-do whole c its it)) in
        let told : incremented_at execs k ≡ Some (next_loop names whole at.place c k outer) = ap incremented_in is ∙ ap incremented at.is in
        let next : k ≡ next_of whole c its one = next-once names checked whole usable are ended nested c its one k (next_loop names whole at.place c k outer) told refl in
        let body = body-into names checked whole usable are ended nested d label spot c its one k next outside in
        let exit = end-into names checked whole usable are ended nested d label spot c its one k outer next outside in
        let there : P (exit_after whole at.place k outer) = subst (λ (n : ℕ). P (exit_after whole at.place n outer)) (sym next) (subst (λ (p : ℕ). P (exit_after whole p (next_of whole c its one) outer)) place exit) in
        subst (λ (x : ExecKind). AllOf P (successors x)) (sym at.is) (body, (there, tt))

    leads : (e : Exec) → slice_get execs k ≡ Some e → AllOf P (successors e.kind)
    leads e is = elim (comes names checked whole usable k e is) as (λ _. AllOf P (successors e.kind)) [
      | inl own ↦ leads-own e.kind own
      | inr end ↦ leads-end e is end
    ]

    leads-to : (s : ℕ) → LeadsTo execs k s → P s
    leads-to s to = by (slice_get execs k) refl to
      where
        by : (o : Option Exec) → slice_get execs k ≡ o → Contains (successors_in o) s → P s
        by None is in_none = absurd (omega (arith, in_none.1))
        by (Some e) is in_list = all-contained P (successors e.kind) s (leads e is) in_list

  entered-of : (d label : ℕ) → IsDo whole d label → IsEnteredAtStart execs (loop_number whole d)
  entered-of d label it k s out leads inside =
      let spot = spot-of names checked whole usable are ended nested d label it in
      let start = start-is names checked whole usable are ended nested d label it in
      let next = next-is names checked whole usable are ended nested d label spot in
      let outside : first_of whole d < k → k ≤ next_of whole d label spot → ⊥ = λ x y. out (record { after_start = omega (arith, x, start); up_to_next = omega (arith, y, next) }) in
      let into = leads-to d label spot k outside s leads in
      let both = into (omega (arith, inside.after_start, start)) (omega (arith, inside.up_to_next, next)) in
      (omega (arith, both.0, start), omega (arith, both.1, start))

  loops : AreLoops execs (length (filter (λ s. is_do s.stmt) whole))
  loops = record {
    each = is_loop names checked whole usable are ended nested;
    starts = starts-below names checked whole usable are ended nested;
    nexts = nexts-below names checked whole usable are ended nested;
    rising = starts-rise names checked whole usable are ended nested;
    entered = λ n lt. let one = numbered whole n lt in subst (IsEnteredAtStart execs) one.number (entered-of one.d one.label one.it);
    nested = ranges-nested names checked whole usable are ended nested;
  }

-- The DOs of a source whose labels, nesting and jumps are right.
pub AreLoops-source : (names : List NameInfo) (checked : Bool) (whole : List Labelled) → IsSource whole → first_line is_labelled_twice whole ≡ None → first_line (lacks_label whole) whole ≡ None → first_unnested [] whole ≡ None → first_line (jumps_into whole) whole ≡ None
    → AreLoops (executables names checked whole) (length (filter (λ s. is_do s.stmt) whole))
AreLoops-source names checked whole source once standing nested none = loops names checked whole (usable_source whole source standing) (AreLabelled-source whole source once) source.ended nested none
