-- The rewritten form of a program prints what the program prints.
use Rattle.std.proofs.Common.{◌≡◌, ℕ, ◌+◌, ◌<◌, ℤ, Bool, List, ◌++◌, All, sym, ap, ◌∙◌, arith, append_assoc}
use Rattle.op_table.specs.Words.{IsWord}
use Rattle.f77_tree.specs.declared.programs.Program.{Program}
use Rattle.f77_tree.specs.Run.{source, Ended, PrintAlike, Reaches, State}
use Rattle.f77_tree.specs.Value.{word_at}
use Rattle.f77_tree.specs.WellFormed.{IsWellFormed}
use Rattle.alias_classes.specs.Classes.{ClassTable, IsClasses, class_count}
use Rattle.cfg_build.specs.Flow.{flow}
use Rattle.region_tree.specs.Tree.{Tree, IsRegionTree}
use Rattle.dep_routing.specs.Routing.{Routing, IsRouting}
use Rattle.dep_routing.specs.Touches.{AreTouches}
use Rattle.const_prop.specs.Right.{AreRouted}
use Rattle.const_prop.specs.Table.{Knowns}
use Rattle.redundancy.specs.Available.{Availability}
use Rattle.simplified_laws.specs.InStep.{SimplifiedProgramsLeaveTheSameWords, SimplifiedProgramsPrintAlike}
use Rattle.shared_laws.specs.RewrittenSteps.{RewrittenProgramsFollow}
use Rattle.shared_laws.specs.SharedRuns.{IsSharedBy}
use Rattle.rewriting.specs.Rewritten.{AreConstantsOf, IsSharedOf, IsSimplifiedOf}
use Rattle.rewriting.specs.Running.{RewrittenProgramsLeaveTheSameWords, RewrittenProgramsPrintAlike, RewrittenProgramsTakeFewSteps}

-- ---- three runs

reaches : (b c : ℕ → State) (text : List ℕ) → ((n : ℕ) → Reaches c (b n).out) → Reaches b text → Reaches c text
reaches b c text on first =
    let second = on first.steps in
    record {
      steps = second.steps;
      rest = first.rest ++ second.rest;
      is = second.is ∙ ap (λ (xs : List ℕ). xs ++ second.rest) first.is ∙ append_assoc text first.rest second.rest;
    }

alike_through : (a b c : ℕ → State) → PrintAlike a b → PrintAlike b c → PrintAlike a c
alike_through a b c first second = record {
  prefix = λ n. reaches b c (a n).out second.prefix (first.prefix n);
  back = λ n. reaches b a (c n).out first.back (second.back n);
  ends = ((λ h. second.ends.0 (first.ends.0 h)), (λ h. first.ends.1 (second.ends.1 h)));
  traps = λ trap text. ((λ h. (second.traps trap text).0 ((first.traps trap text).0 h)), (λ h. (first.traps trap text).1 ((second.traps trap text).1 h)));
}

-- ---- the parts of a rewritten form

abbrev pub OwnTouchesRoute : Type 0
OwnTouchesRoute = (p : Program) (c : ClassTable) (touches : ℕ → ℕ → Bool) (tree : Tree) (r : Routing) → IsWellFormed p → IsClasses p c → IsRegionTree (flow p.execs).graph tree → AreTouches p c touches → IsRouting (flow p.execs).graph tree touches (class_count c + 1) r → AreRouted p c touches tree r

abbrev pub SharedProgramsPrintAlike : Type 0
SharedProgramsPrintAlike = (q r : Program) (c : ClassTable) (a : Availability) (input : List ℤ) → IsSharedBy q c a r → All IsWord input → PrintAlike (source q input) (source r input)

abbrev pub SharedProgramsLeaveTheSameWords : Type 0
SharedProgramsLeaveTheSameWords = (q r : Program) (c : ClassTable) (a : Availability) (input : List ℤ) (m n word : ℕ) → IsSharedBy q c a r → All IsWord input → (source q input m).mark ≡ Ended → (source r input n).mark ≡ Ended → word < q.words → word_at (source q input m).memory.store word ≡ word_at (source r input n).memory.store word

routed : OwnTouchesRoute → (p : Program) (c : ClassTable) (t : Knowns) (well : IsWellFormed p) (are : AreConstantsOf p c t) → AreRouted p c are.touches are.routed.tree are.wires
routed route p c t well are = route p c are.touches are.routed.tree are.wires well are.classes are.routed.is_tree are.touching are.routed.routing

shared_by : (q s : Program) (is : IsSharedOf q s) → IsSharedBy q is.available.classes is.table s
shared_by q s is = record { program = is.available.flat.well_formed; classes = is.available.are; available = is.available.available; shared = is.shared }

module _ (route : OwnTouchesRoute) (simplified : SimplifiedProgramsPrintAlike) (shared : SharedProgramsPrintAlike) where
  simplified_alike : (p : Program) (checked : Bool) (q : Program) (input : List ℤ) → IsWellFormed p → IsSimplifiedOf p checked q → All IsWord input → PrintAlike (source p input) (source q input)
  simplified_alike p checked q input well is words =
      let are = is.constants in
      simplified p is.classes are.touches are.routed.tree are.wires is.table checked q input (routed route p is.classes is.table well are) are.constants is.simplified words

  pub print_alike : RewrittenProgramsPrintAlike
  print_alike p checked s input well is words =
      let q = is.form in
      alike_through (source p input) (source q input) (source s input) (simplified_alike p checked q input well is.simplified words) (shared q s is.shared.available.classes is.shared.table input (shared_by q s is.shared) words)

  pub same_words : SimplifiedProgramsLeaveTheSameWords → SharedProgramsLeaveTheSameWords → RewrittenProgramsLeaveTheSameWords
  same_words first second p checked s input m n word well is words ended also less =
      let q = is.form in
      let simple = is.simplified in
      let are = simple.constants in
      let on = (simplified_alike p checked q input well simple words).ends.0 (record { steps = m; ended = ended }) in
      let size : q.words ≡ p.words = ap (λ (x : Program). x.words) simple.simplified.is in
      let stores = first p simple.classes are.touches are.routed.tree are.wires simple.table checked q input m on.steps (routed route p simple.classes simple.table well are) are.constants simple.simplified words ended on.ended in
      let last = second q s is.shared.available.classes is.shared.table input on.steps n word (shared_by q s is.shared) words on.ended also (omega (arith, size, less)) in
      sym last ∙ ap (λ (xs : List ℤ). word_at xs word) stores

  pub few_steps : RewrittenProgramsFollow → RewrittenProgramsTakeFewSteps
  few_steps follow p checked s input n well is words =
      let simple = is.simplified in
      let are = simple.constants in
      let q = is.form in
      follow p simple.classes are.touches are.routed.tree are.wires simple.table checked q is.shared.available.classes is.shared.table s input n (routed route p simple.classes simple.table well are) are.constants simple.simplified (shared_by q s is.shared) words
