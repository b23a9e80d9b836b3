-- The statements of the simplified form of a program by its constants are flat, and the form is a flat program.
use Rattle.std.proofs.Common.{◌≡◌, ℕ, ◌<◌, false, List, refl, sym, ap, subst, ◌∙◌, arith}
use Rattle.f77_tree.specs.declared.programs.Program.{Program}
use Rattle.f77_tree.specs.WellFormed.{IsWellFormed}
use Rattle.alias_classes.specs.Classes.{class_of_word}
use Rattle.constant_laws.specs.Laws.{LiveDecisionsAreKnown}
use Rattle.flat_programs.specs.declared.statements.FlatLine.{FlatLine}
use Rattle.flat_programs.specs.Executables.{program_of}
use Rattle.flat_programs.specs.FlatForm.{AreProper, HasFewStatements, IsFlat, IsFlatProgram}
use Rattle.simplified_forms.specs.Items.{AreItems}
use Rattle.simplified_laws.specs.LiveItems.{DosAreItems, ItemsLeadToItems, JumpsAreItems, LiveExecutablesAreItems, RestsAreItems}
use Rattle.simplified_laws.specs.RightRuns.{ConstantsAreWords}
use Rattle.simplified_forms.specs.Simplified.{flat, has_many_statements}
use Rattle.simplified_laws.specs.SimplifiedFlat.{SimplifiedProgramsAreFlat, SimplifiedStatementsAreFlat}
use Rattle.simplified_laws.proofs.ClosedItems.{are-closed}
use Rattle.simplified_laws.proofs.ComeItems.{are-come-to}
use Rattle.simplified_laws.proofs.ControlWays.{ReachingIsTold}
use Rattle.simplified_laws.proofs.FewChoices.{few-statements}
use Rattle.simplified_laws.proofs.FlatSimplified.{is-flat}
use Rattle.simplified_laws.proofs.LeadingOn.{ChainsAreFound, AreStrong, HaveShape, FirstIsLed}
use Rattle.simplified_laws.proofs.LeavingEdges.{WaysAreCounted, HoldsLeadToEnd}
use Rattle.simplified_laws.proofs.LiveRanges.{OwnPiecesAreFound}
use Rattle.simplified_laws.proofs.ProperStatements.{are-proper}

-- the executables of proper flat statements make a well-formed program
abbrev pub StatementsMakePrograms : Type 0
StatementsMakePrograms = (q : Program) (flat : List FlatLine) → IsWellFormed q → IsFlat flat → AreProper q.names flat → HasFewStatements flat → IsWellFormed (program_of q flat)

program-flat : StatementsMakePrograms → (p : Program) (flat : List FlatLine) → IsWellFormed p → IsFlat flat → AreProper p.names flat → HasFewStatements flat → IsFlatProgram (program_of p flat)
program-flat make p flat well form proper few = record { well_formed = make p flat well form proper few; flat = flat; statements = record { form = form; execs = refl } }

module _ (told : ReachingIsTold) (chains : ChainsAreFound) (own : OwnPiecesAreFound) (led : FirstIsLed) (counted : WaysAreCounted) (ended : HoldsLeadToEnd) (strong : AreStrong) (shape : HaveShape) (known : LiveDecisionsAreKnown) where
  pub statements-flat : ItemsLeadToItems → LiveExecutablesAreItems → RestsAreItems → JumpsAreItems → DosAreItems → SimplifiedStatementsAreFlat
  statements-flat leads live rests to_jumps dos p c touches tree r t checked lines routed constants s =
      let closed = constants.closed in
      let is_item = s.is_item in
      let items : AreItems p t is_item = s.items in
      let kept = are-closed rests to_jumps dos p c touches tree r t routed closed is_item items in
      let come = are-come-to told chains own led counted ended strong shape known leads live p c touches tree r t routed closed is_item items in
      subst IsFlat (sym s.are) (is-flat p c t checked is_item routed.well_formed.execs kept come)

pub simplified-flat : SimplifiedStatementsAreFlat → ConstantsAreWords → StatementsMakePrograms → SimplifiedProgramsAreFlat
simplified-flat stay words make p c touches tree r t checked q routed constants s =
    let is_item = s.simplified.is_item in
    let items : AreItems p t is_item = s.simplified.items in
    let well = routed.well_formed.execs in
    let lines : List FlatLine = flat p c t checked is_item in
    let are : s.statements ≡ lines = s.simplified.are in
    let few : has_many_statements p lines ≡ false = ap (has_many_statements p) (sym are) ∙ s.few in
    let form : IsFlat lines = stay p c touches tree r t checked lines routed constants (record { is_item = is_item; items = items; are = refl }) in
    let class_within : (word : ℕ) → class_of_word c word < r.lines = λ word. let most = routed.classes.numbering.most word in let count = routed.routing.count in omega (arith, most, count) in
    let proper = are-proper p c t checked is_item items well.each (λ word e v edge told. words p c touches tree r t (class_of_word c word) e v routed constants (class_within word) edge told) in
    let result = program-flat make p lines routed.well_formed form proper (few-statements p c t checked is_item well few) in
    subst IsFlatProgram (sym (s.is ∙ ap (program_of p) are)) result
