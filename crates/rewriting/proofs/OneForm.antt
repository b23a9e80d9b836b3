-- A program has at most one rewritten form in a dialect, and passes at most one limit, and never has both.
use Rattle.std.proofs.Common.{◌≡◌, ℕ, ◌+◌, Bool, true, false, List, Option, Some, None, sym, ap, subst, ◌∙◌, inl, inr}
use Rattle.closed_walks.specs.Graph.{edge_count}
use Rattle.closed_walks.specs.Region.{IsFlowGraph}
use Rattle.f77_tree.specs.declared.expressions.Expr.{Expr}
use Rattle.f77_tree.specs.declared.programs.Exec.{Exec}
use Rattle.f77_tree.specs.declared.programs.NameInfo.{NameInfo}
use Rattle.f77_tree.specs.declared.programs.Program.{Program}
use Rattle.f77_tree.specs.WellFormed.{AreExecs, IsWellFormed}
use Rattle.alias_classes.specs.Classes.{ClassTable, IsClasses, class_count}
use Rattle.cfg_build.specs.Flow.{flow}
use Rattle.cfg_build.specs.Joined.{finish}
use Rattle.cfg_build.specs.Shape.{IsShaped}
use Rattle.dep_routing.specs.OneTable.{OneTouching}
use Rattle.const_prop.specs.Closed.{IsConstants}
use Rattle.constant_laws.specs.Laws.{ConstantsAreOneTable}
use Rattle.const_prop.specs.Right.{IsProgramRouting}
use Rattle.const_prop.specs.Table.{Knowns, AreSameKnowns}
use Rattle.flat_programs.specs.declared.statements.FlatLine.{FlatLine}
use Rattle.flat_programs.specs.Executables.{program_of}
use Rattle.flat_programs.specs.FlatForm.{AreStatementsOf}
use Rattle.redundancy.specs.Available.{Availability, AreSameAvailability}
use Rattle.redundancy.specs.Laws.{AvailabilityIsOneTable}
use Rattle.shared_forms.specs.declared.ends.RewriteEnd.{RewriteEnd}
use Rattle.shared_forms.specs.Shared.{refusal, shared_program, IsSharing}
use Rattle.simplified_forms.specs.Simplified.{flat, has_many_statements, AreSimplified}
use Rattle.rewriting.specs.OneForm.{OneLimit, OneRewrittenForm, OneSimplifiedForm, RewrittenPassesNoLimit}
use Rattle.rewriting.specs.Rewritten.{AreAvailableOf, AreConstantsOf, IsRefusedOf, IsSharedOf, IsSimplifiedOf, HasManySimplifiedOf}
use Rattle.rewriting.proofs.SameItems.{same_items}
use Rattle.rewriting.proofs.SameShared.{program_at, refusal_at}
use Rattle.rewriting.proofs.SameSharing.{due_same, same_numbers, shared_same}
use Rattle.rewriting.proofs.SameStatements.{flat_same}

abbrev pub OneNumbering : Type 0
OneNumbering = (p : Program) (t other : ClassTable) → IsClasses p t → IsClasses p other → t ≡ other

abbrev pub OneStatements : Type 0
OneStatements = (p : Program) (flat other : List FlatLine) → AreStatementsOf p flat → AreStatementsOf p other → flat ≡ other

abbrev pub AreFlowGraphs : Type 0
AreFlowGraphs = (names : List NameInfo) (execs : List Exec) (loops : ℕ) → AreExecs names execs loops → IsFlowGraph (flow execs).graph

abbrev pub AreAllShaped : Type 0
AreAllShaped = (names : List NameInfo) (execs : List Exec) (loops : ℕ) → AreExecs names execs loops → IsShaped (flow execs) (finish execs)

-- ---- simplified forms

module _ (numbering : OneNumbering) (touching : OneTouching) (constants : ConstantsAreOneTable) (strong : AreFlowGraphs) (p : Program) (checked : Bool) (well : IsWellFormed p) where
  same_knowns : (c d : ClassTable) (t u : Knowns) → AreConstantsOf p c t → AreConstantsOf p d u → c ≡ d → AreSameKnowns (class_count c + 1) (edge_count (flow p.execs).graph) (flow p.execs).graph.nodes t u
  same_knowns c d t u are too same =
      let moved : AreConstantsOf p c u = subst (λ (x : ClassTable). AreConstantsOf p x u) (sym same) too in
      let one = touching p c c are.touches moved.touches are.classes moved.classes are.touching moved.touching are.no_others moved.no_others in
      constants p c moved.touches are.wires moved.wires t u well are.classes
      (subst (λ (x : ℕ → ℕ → Bool). IsProgramRouting p x (class_count c + 1) are.wires) one are.routed)
      moved.routed
      (subst (λ (x : ℕ → ℕ → Bool). IsConstants p (flow p.execs) c x are.wires t) one are.constants)
      moved.constants

  same_flat : (c : ClassTable) (t u : Knowns) (xs ys : List FlatLine) → IsClasses p c → AreSameKnowns (class_count c + 1) (edge_count (flow p.execs).graph) (flow p.execs).graph.nodes t u → AreSimplified p c t checked xs → AreSimplified p c u checked ys → xs ≡ ys
  same_flat c t u xs ys classes alike are too =
      let sound = (strong p.names p.execs p.loops well.execs).sound in
      let items = same_items p t u are.is_item too.is_item sound alike.decision are.items too.items in
      are.are
      ∙ flat_same p c t u checked are.is_item sound classes alike (λ k is. (are.items k).0 is)
      ∙ ap (λ (x : ℕ → Bool). flat p c u checked x) items
      ∙ sym too.are

  one_flat : (c d : ClassTable) (t u : Knowns) (xs ys : List FlatLine) → AreConstantsOf p c t → AreConstantsOf p d u → AreSimplified p c t checked xs → AreSimplified p d u checked ys → xs ≡ ys
  one_flat c d t u xs ys are too left right =
      let same = numbering p c d are.classes too.classes in
      same_flat c t u xs ys are.classes (same_knowns c d t u are too same) left (subst (λ (x : ClassTable). AreSimplified p x u checked ys) (sym same) right)

  pub one_simplified : (q other : Program) → IsSimplifiedOf p checked q → IsSimplifiedOf p checked other → q ≡ other
  one_simplified q other is also =
      let same = one_flat is.classes also.classes is.table also.table is.simplified.statements also.simplified.statements is.constants also.constants is.simplified.simplified also.simplified.simplified in
      is.simplified.is ∙ ap (program_of p) same ∙ sym also.simplified.is

  pub few_or_many : (q : Program) → IsSimplifiedOf p checked q → HasManySimplifiedOf p checked → ⊥
  few_or_many q is many =
      let same = one_flat is.classes many.classes is.table many.table is.simplified.statements many.many.statements is.constants many.constants is.simplified.simplified many.many.simplified in
      let no : true ≡ false = sym many.many.many ∙ sym (ap (has_many_statements p) same) ∙ is.simplified.few in
      cc

-- ---- shared forms

-- the statements of a program, and the numbers of its candidates, that a shared form or a refusal is made of
record Sharing (q : Program) (end : Option RewriteEnd) : Type 0 where
  table : Availability
  available : AreAvailableOf q table
  number : Expr → Option ℕ
  flat : List FlatLine
  sharing : IsSharing q table number flat end

record AreSame (q : Program) (a b : Availability) (number other : Expr → Option ℕ) (xs ys : List FlatLine) : Type 0 where
  refusals : refusal q a number xs ≡ refusal q b other ys
  programs : shared_program q a number xs ≡ shared_program q b other ys

module _ (availability : AvailabilityIsOneTable) (statements : OneStatements) (shaped : AreAllShaped) (q : Program) where
  same_sharing : (end other : Option RewriteEnd) (x : Sharing q end) (y : Sharing q other) → AreSame q x.table y.table x.number y.number x.flat y.flat
  same_sharing end other x y =
      let a = x.table in
      let b = y.table in
      let well = x.available.flat.well_formed in
      let shape = shaped q.names q.execs q.loops well.execs in
      let alike : AreSameAvailability (flow q.execs) a b = availability q (flow q.execs) x.available.classes y.available.classes a b x.available.are y.available.are x.available.available y.available.available in
      let numbers = same_numbers a b x.number y.number alike.candidates x.sharing.numbers y.sharing.numbers in
      let flats = statements q x.flat y.flat x.sharing.statements y.sharing.statements in
      let shares = shared_same q a b x.number shape.count x.sharing.numbers alike in
      let dues = due_same q a b x.number shape.count x.sharing.numbers alike in
      record {
        refusals = refusal_at q a b x.number alike.candidates shares dues x.flat
            ∙ ap (λ (n : Expr → Option ℕ). refusal q b n x.flat) numbers
            ∙ ap (refusal q b y.number) flats;
        programs = program_at q a b x.number alike.candidates shares dues x.flat
            ∙ ap (λ (n : Expr → Option ℕ). shared_program q b n x.flat) numbers
            ∙ ap (shared_program q b y.number) flats;
      }

  abbrev of_shared : (s : Program) → IsSharedOf q s → Sharing q None
  of_shared s is = record { table = is.table; available = is.available; number = is.shared.number; flat = is.shared.flat; sharing = is.shared.sharing }

  abbrev of_refused : (end : RewriteEnd) → IsRefusedOf q end → Sharing q (Some end)
  of_refused end is = record { table = is.table; available = is.available; number = is.refused.number; flat = is.refused.flat; sharing = is.refused.sharing }

  same_ends : (end other : Option RewriteEnd) → Sharing q end → Sharing q other → end ≡ other
  same_ends end other x y = sym x.sharing.ends ∙ (same_sharing end other x y).refusals ∙ y.sharing.ends

  pub one_shared : (s other : Program) → IsSharedOf q s → IsSharedOf q other → s ≡ other
  one_shared s other is also = is.shared.is ∙ (same_sharing None None (of_shared s is) (of_shared other also)).programs ∙ sym also.shared.is

  pub shared_or_refused : (s : Program) (end : RewriteEnd) → IsSharedOf q s → IsRefusedOf q end → ⊥
  shared_or_refused s end is refused = let same : None ≡ Some end = same_ends None (Some end) (of_shared s is) (of_refused end refused) in cc

  pub one_refusal : (end other : RewriteEnd) → IsRefusedOf q end → IsRefusedOf q other → end ≡ other
  one_refusal end other is also = let same : Some end ≡ Some other = same_ends (Some end) (Some other) (of_refused end is) (of_refused other also) in cc

-- ---- both

module _ (numbering : OneNumbering) (touching : OneTouching) (constants : ConstantsAreOneTable) (availability : AvailabilityIsOneTable) (statements : OneStatements) (strong : AreFlowGraphs) (shaped : AreAllShaped) where
  pub simplified_forms : OneSimplifiedForm
  simplified_forms p checked q other well is also = one_simplified numbering touching constants strong p checked well q other is also

  pub rewritten_forms : OneRewrittenForm
  rewritten_forms p checked s other well is also =
      let same = simplified_forms p checked is.form also.form well is.simplified also.simplified in
      one_shared availability statements shaped also.form s other (subst (λ (q : Program). IsSharedOf q s) same is.shared) also.shared

  pub no_limits : RewrittenPassesNoLimit
  no_limits p checked s end well is (inl many) = few_or_many numbering touching constants strong p checked well is.form is.simplified many.0
  no_limits p checked s end well is (inr late) =
      let same = simplified_forms p checked is.form late.form well is.simplified late.simplified in
      shared_or_refused availability statements shaped late.form s end (subst (λ (q : Program). IsSharedOf q s) same is.shared) late.refused

  pub one_limit : OneLimit
  one_limit p checked end other well (inl many) (inl also) = many.1 ∙ sym also.1
  one_limit p checked end other well (inl many) (inr late) = absurd (few_or_many numbering touching constants strong p checked well late.form late.simplified many.0)
  one_limit p checked end other well (inr late) (inl many) = absurd (few_or_many numbering touching constants strong p checked well late.form late.simplified many.0)
  one_limit p checked end other well (inr late) (inr also) =
      let same = simplified_forms p checked late.form also.form well late.simplified also.simplified in
      one_refusal availability statements shaped also.form end other (subst (λ (q : Program). IsRefusedOf q end) same late.refused) also.refused
