-- Executables to which control can come lead on, by the laws on flow graphs and on tables.
use Rattle.std.proofs.Common.{◌≡◌, ℕ, ◌<◌, Bool, true, List, length, get_or, All, Option, Some, None, ℤ, refl, ap, subst, ◌∙◌, ⊎_elim, arith}
use Rattle.std.specs.Prelude.{slice_get, slice_index}
use Rattle.std.proofs.lemmas.Option.{slice_get_cases, slice_get_within, get_or_from_slice_get}
use Rattle.closed_walks.specs.Graph.{to}
use Rattle.closed_walks.specs.Region.{IsFlowGraph}
use Rattle.f77_tree.specs.declared.programs.Exec.{Exec}
use Rattle.f77_tree.specs.declared.programs.ExecKind.{ExecKind}
use Rattle.f77_tree.specs.declared.programs.ExecKind.TheVariants.{Assign, Print, Pass, Test, Sign, Pick, DoStart, DoNext, End}
use Rattle.f77_tree.specs.declared.programs.NameInfo.{NameInfo}
use Rattle.f77_tree.specs.declared.programs.Program.{Program}
use Rattle.f77_tree.specs.Control.{EndsWithEnd, successors, SuccessorsExist}
use Rattle.f77_tree.specs.Loops.{Loop, begun, begun_in, AreLoops}
use Rattle.f77_tree.specs.WellFormed.{AreExecs}
use Rattle.alias_classes.specs.Classes.{ClassTable}
use Rattle.region_tree.specs.Tree.{Tree}
use Rattle.cfg_build.specs.declared.pieces.PieceKind.{PieceKind}
use Rattle.cfg_build.specs.Chains.{entry, has_test, chain}
use Rattle.cfg_build.specs.Control.{is_reached}
use Rattle.cfg_build.specs.Flow.{flow}
use Rattle.cfg_build.specs.Joined.{finish}
use Rattle.cfg_build.specs.Passes.{kind_in}
use Rattle.cfg_build.specs.Routes.{owner, AreChain}
use Rattle.cfg_build.specs.Shape.{IsShaped}
use Rattle.dep_routing.specs.Routing.{Routing}
use Rattle.dep_routing.specs.Touches.{exec_kind}
use Rattle.const_prop.specs.Closed.{IsClosed, is_switch, words_on}
use Rattle.constant_laws.specs.Laws.{LiveDecisionsAreKnown}
use Rattle.const_prop.specs.Live.{IsSelected, IsKnownOut}
use Rattle.const_prop.specs.Right.{AreRouted}
use Rattle.const_prop.specs.Table.{Knowns}
use Rattle.simplified_forms.specs.Items.{begins_do, IsEntered, IsEnteredPiece}
use Rattle.simplified_laws.specs.LiveWays.{LiveFacts, LiveExecutablesLeadOn, FirstExecutableIsLive}
use Rattle.simplified_laws.proofs.LiveWays.{begins, comes-in, comes-out, first-not}
use Rattle.simplified_laws.proofs.ControlWays.{ReachingIsTold, reached-first, reached-next}
use Rattle.simplified_forms.proofs.LoopNumbers.{next_number}
use Rattle.simplified_laws.proofs.OnePiece.{piece-reached}

-- ---- tests of DOs

test-none : (names : List NameInfo) (words : ℕ → Option ℤ) (v : ℤ) (kind : ExecKind) → begins_do kind ≡ true → IsSelected names words kind v → ⊥
test-none names words v (Assign target value next) is selected = selected
test-none names words v (Print items next) is selected = selected
test-none names words v (Pass next) is selected = selected
test-none names words v (Test c a b) is selected = cc
test-none names words v (Sign e a b c) is selected = cc
test-none names words v (Pick e targets other) is selected = cc
test-none names words v (DoStart loop_no var first last step body exit) is selected = selected
test-none names words v (DoNext loop_no var body exit) is selected = selected
test-none names words v End is selected = selected

begun-begins : (kind : ExecKind) (loop : Loop) → begun kind ≡ Some loop → begins_do kind ≡ true
begun-begins (Assign target value next) loop is = let no : None ≡ Some loop = is in absurd cc
begun-begins (Print items next) loop is = let no : None ≡ Some loop = is in absurd cc
begun-begins (Pass next) loop is = let no : None ≡ Some loop = is in absurd cc
begun-begins (Test c a b) loop is = let no : None ≡ Some loop = is in absurd cc
begun-begins (Sign e a b c) loop is = let no : None ≡ Some loop = is in absurd cc
begun-begins (Pick e targets other) loop is = let no : None ≡ Some loop = is in absurd cc
begun-begins (DoStart loop_no var first last step body exit) loop is = refl
begun-begins (DoNext loop_no var body exit) loop is = let no : None ≡ Some loop = is in absurd cc
begun-begins End loop is = let no : None ≡ Some loop = is in absurd cc

begun_in-begins : (o : Option Exec) (loop : Loop) → begun_in o ≡ Some loop → begins_do (kind_in o) ≡ true
begun_in-begins None loop is = let no : None ≡ Some loop = is in absurd cc
begun_in-begins (Some exec) loop is = begun-begins exec.kind loop is

module _ (p : Program) (loops : AreLoops p.execs p.loops) (k : ℕ) (exec : Exec) (found : slice_get p.execs k ≡ Some exec) where
  -- the last piece of an executable with a test is that of a DO
  pub owner-begins : (kind : ExecKind) → exec.kind ≡ kind → begins_do (kind_in (slice_get p.execs (owner p.execs k kind))) ≡ has_test kind
  owner-begins (Assign target value next) is = ap begins_do (ap kind_in found ∙ is)
  owner-begins (Print items next) is = ap begins_do (ap kind_in found ∙ is)
  owner-begins (Pass next) is = ap begins_do (ap kind_in found ∙ is)
  owner-begins (Test c a b) is = ap begins_do (ap kind_in found ∙ is)
  owner-begins (Sign e a b c) is = ap begins_do (ap kind_in found ∙ is)
  owner-begins (Pick e targets other) is = ap begins_do (ap kind_in found ∙ is)
  owner-begins (DoStart loop_no var first last step body exit) is = ap begins_do (ap kind_in found ∙ is)
  owner-begins (DoNext loop_no var body exit) is =
      let each = loops.each loop_no (next_number p.execs p.loops loops k exec loop_no var body exit found is) in
      begun_in-begins (slice_get p.execs (owner p.execs k (DoNext loop_no var body exit))) each.loop each.begins
  owner-begins End is = ap begins_do (ap kind_in found ∙ is)

  pub successor-exists : SuccessorsExist p.execs → (i : ℕ) → i < length (successors exec.kind) → slice_index (successors exec.kind) i < length p.execs
  successor-exists exist i less =
      let n = length p.execs in
      let here : get_or p.execs k exec ≡ exec = get_or_from_slice_get p.execs k exec exec found in
      let all = subst (λ (x : Exec). All (λ s. s < n) (successors x.kind)) here (exist k exec (slice_get_within p.execs k exec found)) in
      all i 0 less

-- ---- what the laws of other crates say

abbrev pub ChainsAreFound : Type 0
ChainsAreFound = (names : List NameInfo) (execs : List Exec) (loops k : ℕ) (exec : Exec) → AreExecs names execs loops → is_reached execs k ≡ true → slice_get execs k ≡ Some exec → AreChain (flow execs) (entry execs) execs k (has_test exec.kind) exec.kind (chain execs k)

abbrev pub AreStrong : Type 0
AreStrong = (names : List NameInfo) (execs : List Exec) (loops : ℕ) → AreExecs names execs loops → IsFlowGraph (flow execs).graph

abbrev pub HaveShape : Type 0
HaveShape = (names : List NameInfo) (execs : List Exec) (loops : ℕ) → AreExecs names execs loops → IsShaped (flow execs) (finish execs)

pub live-facts : LiveDecisionsAreKnown → (p : Program) (c : ClassTable) (touches : ℕ → ℕ → Bool) (tree : Tree) (r : Routing) (t : Knowns) → AreRouted p c touches tree r → IsClosed p (flow p.execs) c touches r t → LiveFacts p t
live-facts known p c touches tree r t routed closed =
    record {
      holds = λ e v live hold is.
          subst (λ (kind : PieceKind). IsKnownOut p.names (words_on c t e) kind (exec_kind p (to (flow p.execs).graph e)) v) hold (known p c touches tree r t e v routed closed live (ap is_switch hold) is);
      tests = λ e v live branch begins is.
          test-none p.names (words_on c t e) v (exec_kind p (to (flow p.execs).graph e)) begins
          (subst (λ (kind : PieceKind). IsKnownOut p.names (words_on c t e) kind (exec_kind p (to (flow p.execs).graph e)) v) branch (known p c touches tree r t e v routed closed live (ap is_switch branch) is));
    }

abbrev pub FirstIsLed : Type 0
FirstIsLed = (names : List NameInfo) (execs : List Exec) (loops : ℕ) → AreExecs names execs loops → to (flow execs).graph 1 ≡ entry execs 0

pub first-live : ReachingIsTold → ChainsAreFound → FirstIsLed → AreStrong → HaveShape → LiveDecisionsAreKnown → FirstExecutableIsLive
first-live told chains led strong shape known p c touches tree r t routed closed =
    let well = routed.well_formed.execs in
    let facts = live-facts known p c touches tree r t routed closed in
    let strong_here = strong p.names p.execs p.loops well in
    let shape_here = shape p.names p.execs p.loops well in
    let by : IsEnteredPiece p t (entry p.execs 0) = subst (IsEnteredPiece p t) (led p.names p.execs p.loops well) (begins p t strong_here shape_here facts) in
    let reached = reached-first p.execs well.successors told well.end.some in
    ⊎_elim
    (λ there.
    let exec : Exec = there.0 in
    comes-in p t strong_here shape_here facts well.end 0 exec there.2 (has_test exec.kind) refl (chains p.names p.execs p.loops 0 exec well reached there.2) by)
    (λ past. absurd (omega (arith, well.end.some, past.0)))
    (slice_get_cases p.execs 0).1

some-successor : (kind : ExecKind) (i : ℕ) → i < length (successors kind) → kind ≡ End → ⊥
some-successor kind i less end = let none = ap (λ (x : ExecKind). length (successors x)) end in omega (arith, none, less)

pub entered-reached : (p : Program) (t : Knowns) → IsFlowGraph (flow p.execs).graph → IsShaped (flow p.execs) (finish p.execs) → EndsWithEnd p.execs → (k : ℕ) (exec : Exec) → slice_get p.execs k ≡ Some exec → (exec.kind ≡ End → ⊥) → IsEntered p t k → is_reached p.execs k ≡ true
entered-reached p t strong shape ends k exec found other by =
    let below = strong.sound.ends by.edge by.live.edge in
    piece-reached p k exec ends found other (omega (arith, below, by.ends, shape.count))

pub lead-on : ReachingIsTold → ChainsAreFound → AreStrong → HaveShape → LiveDecisionsAreKnown → LiveExecutablesLeadOn
lead-on told chains strong shape known p c touches tree r t k i exec routed closed found less may by =
    let well = routed.well_formed.execs in
    let s = slice_index (successors exec.kind) i in
    let exists = successor-exists p well.loops_nest k exec found well.successors i less in
    let facts = live-facts known p c touches tree r t routed closed in
    let strong_here = strong p.names p.execs p.loops well in
    let shape_here = shape p.names p.execs p.loops well in
    let reached : is_reached p.execs k ≡ true = entered-reached p t strong_here shape_here well.end k exec found (some-successor exec.kind i less) by in
    let next = reached-next p.execs well.successors told k exec i found less reached in
    ⊎_elim
    (λ there.
    let other : Exec = there.0 in
    let chain_k = chains p.names p.execs p.loops k exec well reached found in
    let chain_s = chains p.names p.execs p.loops s other well next there.2 in
    let first = first-not p t strong_here shape_here facts well.end s other there.2 (has_test other.kind) chain_s in
    let comes = comes-out p t strong_here shape_here facts well.end k exec found (has_test exec.kind) i refl chain_k less first may (owner-begins p well.loops_nest k exec found exec.kind refl) by in
    comes-in p t strong_here shape_here facts well.end s other there.2 (has_test other.kind) refl chain_s comes)
    (λ past. absurd (omega (arith, exists, past.0)))
    (slice_get_cases p.execs s).1
