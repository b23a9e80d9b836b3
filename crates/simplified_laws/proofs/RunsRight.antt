-- What the table of constants tells of an executable is so where a run comes to it.
use Rattle.std.proofs.Common.{◌≡◌, ◌≢◌, ℕ, ◌+◌, ◌<◌, ◌==◌, ℤ, pos, Bool, true, false, List, [], ◌∷◌, ◌++◌, length, get_or, All, Option, Some, None, Ok, refl, sym, ap, subst, ◌∙◌, ⊎_elim, arith}
use Rattle.std.specs.Prelude.{if◌then◌else◌, slice_get, slice_index}
use Rattle.std.specs.List.{position_or_len, range_with_len}
use Rattle.std.specs.Option.{option_map}
use Rattle.std.proofs.lemmas.Bool.{eq-eqb}
use Rattle.std.proofs.lemmas.List.Folds.{list_any_at}
use Rattle.std.proofs.lemmas.List.FromFn.{get_or-range_with_len, length-range_with_len}
use Rattle.std.proofs.lemmas.Option.{slice_get_cases}
use Rattle.list_laws.proofs.Counts.{count_unique}
use Rattle.list_laws.proofs.KeyPlaces.{found}
use Rattle.op_table.specs.Operators.{which_of_three, picked}
use Rattle.op_table.specs.Trips.{at_least_zero}
use Rattle.op_table.specs.Words.{IsWord, is_true}
use Rattle.closed_walks.specs.Graph.{Graph, edge_count, to}
use Rattle.closed_walks.specs.Region.{IsFlowGraph}
use Rattle.f77_tree.specs.declared.expressions.Expr.{Expr}
use Rattle.f77_tree.specs.declared.programs.Exec.{Exec}
use Rattle.f77_tree.specs.declared.programs.ExecKind.{ExecKind}
use Rattle.f77_tree.specs.declared.programs.ExecKind.TheVariants.{Assign, Print, Pass, Test, Sign, Pick, DoStart, DoNext, End}
use Rattle.f77_tree.specs.declared.programs.NameInfo.{NameInfo}
use Rattle.f77_tree.specs.declared.programs.Program.{Program}
use Rattle.f77_tree.specs.Control.{successors}
use Rattle.f77_tree.specs.Execution.{Memory, Goes, branched, outcome}
use Rattle.f77_tree.specs.KnownWith.{known_with, AreRight}
use Rattle.f77_tree.specs.Loops.{incremented, incremented_in, do_start}
use Rattle.f77_tree.specs.Run.{Running, source}
use Rattle.f77_tree.specs.Steps.{IsMemoryOf, HoldsWords}
use Rattle.f77_tree.specs.Value.{value}
use Rattle.alias_classes.specs.Classes.{ClassTable}
use Rattle.cfg_build.specs.declared.pieces.PieceKind.{PieceKind}
use Rattle.cfg_build.specs.declared.pieces.PieceKind.TheVariants as piece
use Rattle.cfg_build.specs.Chains.{passes_of}
use Rattle.cfg_build.specs.Control.{IsReachedExec}
use Rattle.cfg_build.specs.Degrees.{in_degree}
use Rattle.cfg_build.specs.Flow.{flow, piece_at}
use Rattle.cfg_build.specs.Joined.{FlowGraph, finish}
use Rattle.cfg_build.specs.Parts.{first_kind}
use Rattle.cfg_build.specs.Passes.{kind_in, passes}
use Rattle.cfg_build.specs.Shape.{IsShaped, takes_one}
use Rattle.cfg_build.specs.Steps.{HasOwnPiece, IsWithinStep, own_node, own_place, chain_after}
use Rattle.region_tree.specs.Tree.{Tree}
use Rattle.dep_routing.specs.Routing.{Routing}
use Rattle.dep_routing.specs.Touches.{exec_kind, piece_kind}
use Rattle.const_prop.specs.declared.known.Known.{Known}
use Rattle.const_prop.specs.declared.known.Known.TheVariants.{Nothing, One, Any}
use Rattle.const_prop.specs.Closed.{IsConstants, is_switch, words_on}
use Rattle.const_prop.specs.Known.{one_of}
use Rattle.const_prop.specs.Live.{IsKnownOut, IsKnownOutAfter, IsLive}
use Rattle.const_prop.specs.Right.{AreRouted, IsRightAt as IsPassRight}
use Rattle.const_prop.specs.Table.{Knowns}
use Rattle.simplified_forms.specs.Items.{own_piece, own_edge, IsEntered, IsKeptKind}
use Rattle.simplified_laws.specs.RightRuns.{IsRightAt}
use Rattle.simplified_forms.specs.Simplified.{decided}
use Rattle.simplified_laws.proofs.ControlWays.{ReachingIsTold}
use Rattle.simplified_laws.proofs.LeastTables.{LineFacts, WordLaws, undecided, words-right}
use Rattle.simplified_forms.proofs.LoopNumbers.{next_number}
use Rattle.simplified_laws.proofs.StepWays.{LeadOn, began, reached-at}

-- ---- kinds

-- one edge comes to the own piece of each executable but END
one-comes : (kind : ExecKind) → kind ≢ End → takes_one (first_kind kind) ≡ true
one-comes (Assign target value next) other = refl
one-comes (Print items next) other = refl
one-comes (Pass next) other = refl
one-comes (Test e a b) other = refl
one-comes (Sign e a b d) other = refl
one-comes (Pick e targets otherwise) other = refl
one-comes (DoStart loop_no var first last step body exit) other = refl
one-comes (DoNext loop_no var body exit) other = refl
one-comes End other = absurd (other refl)

-- no executable begins with a hold
first-hold : (kind : ExecKind) → first_kind kind ≡ piece.Hold → ⊥
first-hold (Assign target value next) is = cc
first-hold (Print items next) is = cc
first-hold (Pass next) is = cc
first-hold (Test e a b) is = cc
first-hold (Sign e a b d) is = cc
first-hold (Pick e targets other) is = cc
first-hold (DoStart loop_no var first last step body exit) is = cc
first-hold (DoNext loop_no var body exit) is = cc
first-hold End is = cc

-- ---- edges

-- where one edge alone leads to a node, it is the first one
first-edge : (g : Graph) (node e : ℕ) → in_degree g node ≡ 1 → e < edge_count g → to g e ≡ node → position_or_len (λ d. to g d == node) (range_with_len 0 (edge_count g)) ≡ e
unfolding to
first-edge g node e one edge leads =
    let range = range_with_len 0 (edge_count g) in
    let size = length-range_with_len 0 (edge_count g) in
    let test : ℕ → Bool = λ d. to g d == node in
    let at = get_or-range_with_len 0 (edge_count g) e 0 edge in
    let same : get_or range e 0 ≡ e = omega (arith, at) in
    let any = list_any_at test range e 0 (omega (arith, edge, size)) (ap test same ∙ eq-eqb (to g e) node leads) in
    let first = found (λ (a d : ℕ). to g d == node) 0 0 range any in
    let place = position_or_len test range in
    let below : place < edge_count g = omega (arith, first.within, size) in
    let there = get_or-range_with_len 0 (edge_count g) place 0 below in
    let is : get_or range place 0 ≡ place = omega (arith, there) in
    let to_first : (to g place == node) ≡ true = sym (ap test is) ∙ first.equal in
    count_unique (λ (x : ℕ × ℕ). x.1 == node) g.edges place e (0, 0) (omega (arith, one)) below edge to_first (eq-eqb (to g e) node leads)

-- ---- branches that always go one way

-- what the law on known values says
abbrev pub ValuesAreKnown : Type 0
ValuesAreKnown = (names : List NameInfo) (words : ℕ → Option ℤ) (store : List ℤ) (next : Option ℤ) (e : Expr) (z : ℤ) → AreRight words store → known_with names words e ≡ Some z → value names store next e ≡ Ok z

one-of-two : (b : Bool) (x y : ℕ) → (if b then x else y) ≡ slice_index (x ∷ y ∷ []) (if b then 0 else 1)
one-of-two true x y = refl
one-of-two false x y = refl

module _ (known : ValuesAreKnown) (names : List NameInfo) (input : List ℤ) (words : ℕ → Option ℤ) (m : Memory) (right : AreRight words m.store) where
  one-way : (kind : ExecKind) (v : ℤ) → IsKnownOut names words piece.Branch kind v → outcome names input m kind ≡ Goes (slice_index (successors kind) (at_least_zero v)) m []
  one-way (Test cond a b) v is =
      let told = known names words m.store None cond is.value right is.is_known in
      ap (branched m (λ z. if is_true z then a else b)) told
      ∙ ap (λ n. Goes n m []) (one-of-two (is_true is.value) a b)
      ∙ ap (λ z. Goes (slice_index (a ∷ b ∷ []) (at_least_zero z)) m []) (sym is.is)
  one-way (Sign e a b d) v is =
      let told = known names words m.store None e is.value right is.is_known in
      ap (branched m (λ z. slice_index (a ∷ b ∷ d ∷ []) (at_least_zero (which_of_three z)))) told
      ∙ ap (λ z. Goes (slice_index (a ∷ b ∷ d ∷ []) (at_least_zero z)) m []) (sym is.is)
  one-way (Pick e targets other) v is =
      let told = known names words m.store None e is.value right is.is_known in
      ap (branched m (λ z. slice_index (targets ++ other ∷ []) (at_least_zero (picked z (pos (length targets)))))) told
      ∙ ap (λ z. Goes (slice_index (targets ++ other ∷ []) (at_least_zero z)) m []) (sym is.is)
  one-way (Assign target e next) v is = absurd is
  one-way (Print items next) v is = absurd is
  one-way (Pass next) v is = absurd is
  one-way (DoStart loop_no var first last step body exit) v is = absurd is
  one-way (DoNext loop_no var body exit) v is = absurd is
  one-way End v is = absurd is

-- the value that is decided
record IsOne (d : Known) (i : ℕ) : Type 0 where
  value : ℤ
  one : d ≡ One value
  place : at_least_zero value ≡ i

one-decided : (d : Known) (i : ℕ) → option_map at_least_zero (one_of d) ≡ Some i → IsOne d i
one-decided Nothing i is = let no : None ≡ Some i = is in absurd cc
one-decided Any i is = let no : None ≡ Some i = is in absurd cc
one-decided (One v) i is = let same : Some (at_least_zero v) ≡ Some i = is in record { value = v; one = refl; place = cc }

-- ---- what the laws of lower crates say of a program, its data and a table

pub record RunFacts (p : Program) (c : ClassTable) (touches : ℕ → ℕ → Bool) (tree : Tree) (r : Routing) (t : Knowns) (input : List ℤ) : Type 0 where
  pub strong : IsFlowGraph (flow p.execs).graph
  pub shape : IsShaped (flow p.execs) (finish p.execs)
  pub lines : LineFacts (flow p.execs).graph tree touches
  pub words : WordLaws
  pub initial : All IsWord p.initial
  pub told : ReachingIsTold
  pub lead : LeadOn
  pub own : (k : ℕ) (exec : Exec) → IsReachedExec p.names p.execs p.loops k exec → HasOwnPiece p.execs k exec.kind
  pub one_piece : (k : ℕ) (exec : Exec) → IsReachedExec p.names p.execs p.loops k exec → own_piece p k ≡ own_node p.execs k
  pub within : (n i : ℕ) → i < length (chain_after p input n) → IsWithinStep p input n i
  pub edges : (n : ℕ) → (passes p input n).edge < edge_count (flow p.execs).graph
  pub right : (n : ℕ) → (passes p input n).mark ≡ Running → IsPassRight p c touches tree r.lines t (passes p input n)
  pub live : (n : ℕ) → (passes p input n).mark ≡ Running → IsLive p t (passes p input n).edge
  pub selected : (e : ℕ) (v : ℤ) → IsLive p t e → is_switch (piece_kind p (to (flow p.execs).graph e)) ≡ true → t.decision (to (flow p.execs).graph e) ≡ One v → IsKnownOutAfter p c t e v
  pub position : (n : ℕ) → (source p input n).position < length p.execs
  pub sizes : (n : ℕ) → IsMemoryOf p input (source p input n).memory
  pub holds : (n : ℕ) → HoldsWords (source p input n).memory

-- ---- runs

module _ (p : Program) (c : ClassTable) (touches : ℕ → ℕ → Bool) (tree : Tree) (r : Routing) (t : Knowns) (input : List ℤ) (routed : AreRouted p c touches tree r) (constants : IsConstants p (flow p.execs) c touches r t) (facts : RunFacts p c touches tree r t input) where
  abbrev f : FlowGraph
  f = flow p.execs

  abbrev g : Graph
  g = f.graph

  abbrev at : ℕ → ℕ
  at n = (source p input n).position

  -- the executable that comes next
  record Comes (n : ℕ) : Type 0 where
    exec : Exec
    is : IsReachedExec p.names p.execs p.loops (at n) exec

  comes : (n : ℕ) → Comes n
  comes n =
      let well = routed.well_formed.execs in
      let inside = facts.position n in
      ⊎_elim
      (λ there. record { exec = there.0; is = record { well = well; reached = reached-at p input facts.lead well facts.told n; found = there.2 } })
      (λ past. absurd (omega (arith, inside, past.0)))
      (slice_get_cases p.execs (at n)).1

  -- the run stands before its own piece
  record StandsBefore (n : ℕ) (kind : ExecKind) : Type 0 where
    passed : ℕ
    runs : (passes p input passed).mark ≡ Running
    memory_is : (passes p input passed).memory ≡ (source p input n).memory
    leads : to g (passes p input passed).edge ≡ own_piece p (at n)
    kind_is : piece_kind p (own_piece p (at n)) ≡ first_kind kind
    exec_is : (piece_at f.pieces (own_piece p (at n))).exec ≡ at n

  stands : (n : ℕ) → (source p input n).mark ≡ Running → (exec : Exec) → IsReachedExec p.names p.execs p.loops (at n) exec → StandsBefore n exec.kind
  stands n runs exec is =
      let own = facts.own (at n) exec is in
      let same = facts.one_piece (at n) exec is in
      let here = (facts.within n (own_place p.execs (at n)) own.exists).up_to_own (omega arith) in
      record {
        passed = passes_of p input n + own_place p.execs (at n);
        runs = here.mark_is ∙ runs;
        memory_is = here.memory_is;
        leads = here.comes runs ∙ sym same;
        kind_is = ap (λ node. piece_kind p node) same ∙ own.made.kind_is;
        exec_is = ap (λ node. (piece_at f.pieces node).exec) same ∙ own.made.exec_is;
      }

  entered : (n : ℕ) (kind : ExecKind) → StandsBefore n kind → IsEntered p t (at n)
  entered n kind s = record { edge = (passes p input s.passed).edge; live = facts.live s.passed s.runs; ends = s.leads }

  entered-at : (n : ℕ) → (source p input n).mark ≡ Running → IsEntered p t (at n)
  entered-at n runs = let next = comes n in entered n next.exec.kind (stands n runs next.exec next.is)

  -- ---- what is kept

  -- the DO of an increment began
  kept-increment : (n : ℕ) (exec : Exec) → slice_get p.execs (at n) ≡ Some exec → (loop_no var body exit : ℕ) → exec.kind ≡ DoNext loop_no var body exit → IsEntered p t (do_start p.execs loop_no)
  kept-increment n exec found loop_no var body exit is =
      let well = routed.well_formed.execs in
      let less = next_number p.execs p.loops well.loops_nest (at n) exec loop_no var body exit found is in
      let loop = well.loops_nest.each loop_no less in
      let next = loop.one_next (at n) (record { number = loop_no; variable = var; body = body; exit = exit }) (ap incremented_in found ∙ ap incremented is) refl in
      let later = loop.later in
      let b = began p input facts.lead well loop_no less n (record { after_start = omega (arith, next, later); up_to_next = omega (arith, next) }) in
      subst (IsEntered p t) b.is (entered-at b.step b.runs)

  kept : (n : ℕ) (exec : Exec) → slice_get p.execs (at n) ≡ Some exec → IsEntered p t (at n) → (kind : ExecKind) → exec.kind ≡ kind → IsKeptKind p t (at n) kind
  kept n exec found by End is = tt
  kept n exec found by (DoNext loop_no var body exit) is = kept-increment n exec found loop_no var body exit is
  kept n exec found by (Assign target value next) is = by
  kept n exec found by (Print items next) is = by
  kept n exec found by (Pass next) is = by
  kept n exec found by (Test e a b) is = by
  kept n exec found by (Sign e a b d) is = by
  kept n exec found by (Pick e targets other) is = by
  kept n exec found by (DoStart loop_no var first last step body exit) is = by

  -- ---- what is told there

  module _ (n : ℕ) (exec : Exec) (is : IsReachedExec p.names p.execs p.loops (at n) exec) (s : StandsBefore n exec.kind) where
    abbrev edge : ℕ
    edge = (passes p input s.passed).edge

    abbrev m : Memory
    m = (source p input n).memory

    words-known : AreRight (words_on c t edge) m.store
    words-known =
        subst (λ (x : Memory). AreRight (words_on c t edge) x.store) s.memory_is
        (words-right p c touches tree r routed facts.strong facts.shape facts.lines facts.words facts.initial t constants (passes p input s.passed) (facts.edges s.passed) (facts.right s.passed s.runs))

    own-inside : own_piece p (at n) < g.nodes
    own-inside = subst (λ node. node < g.nodes) s.leads (facts.strong.sound.ends edge (facts.edges s.passed))

    -- the run comes by the first edge
    own-edge : exec.kind ≢ End → own_edge p (at n) ≡ edge
    own-edge other =
        let one = facts.shape.one_comes (own_piece p (at n)) own-inside (ap takes_one s.kind_is ∙ one-comes exec.kind other) in
        first-edge g (own_piece p (at n)) edge one (facts.edges s.passed) s.leads

    words : exec.kind ≢ End → AreRight (words_on c t (own_edge p (at n))) m.store
    words other = subst (λ e. AreRight (words_on c t e) m.store) (sym (own-edge other)) words-known

    -- what is decided there is what is known of the selector
    selected : (v : ℤ) → t.decision (own_piece p (at n)) ≡ One v → is_switch (first_kind exec.kind) ≡ true → IsKnownOut p.names (words_on c t edge) (first_kind exec.kind) exec.kind v
    selected v one switch =
        let kind : piece_kind p (to g edge) ≡ first_kind exec.kind = ap (λ node. piece_kind p node) s.leads ∙ s.kind_is in
        let runs : exec_kind p (to g edge) ≡ exec.kind = ap (λ node. exec_kind p node) s.leads ∙ ap (λ k. kind_in (slice_get p.execs k)) s.exec_is ∙ ap kind_in is.found in
        let out = facts.selected edge v (facts.live s.passed s.runs) (ap is_switch kind ∙ switch) (ap t.decision s.leads ∙ one) in
        subst (λ (x : ExecKind). IsKnownOut p.names (words_on c t edge) (first_kind exec.kind) x v) runs
        (subst (λ (x : PieceKind). IsKnownOut p.names (words_on c t edge) x (exec_kind p (to g edge)) v) kind out)

    decides : (v : ℤ) → t.decision (own_piece p (at n)) ≡ One v → outcome p.names input m exec.kind ≡ Goes (slice_index (successors exec.kind) (at_least_zero v)) m []
    decides v one = by (first_kind exec.kind) refl
      where
        idle : is_switch (first_kind exec.kind) ≡ false → ⊥
        idle none = let no : Nothing ≡ One v = sym (undecided p c touches tree r routed facts.strong facts.shape facts.lines facts.words facts.initial t constants (own_piece p (at n)) own-inside (ap is_switch s.kind_is ∙ none)) ∙ one in cc

        by : (kind : PieceKind) → first_kind exec.kind ≡ kind → outcome p.names input m exec.kind ≡ Goes (slice_index (successors exec.kind) (at_least_zero v)) m []
        by piece.Branch k = one-way facts.words.known p.names input (words_on c t edge) m words-known exec.kind v (subst (λ (x : PieceKind). IsKnownOut p.names (words_on c t edge) x exec.kind v) k (selected v one (ap is_switch k)))
        by piece.Hold k = absurd (first-hold exec.kind k)
        by piece.Start k = absurd (idle (ap is_switch k))
        by piece.Act k = absurd (idle (ap is_switch k))
        by piece.Pass k = absurd (idle (ap is_switch k))
        by piece.Join k = absurd (idle (ap is_switch k))
        by piece.End k = absurd (idle (ap is_switch k))

    goes : (i : ℕ) → decided p t (at n) ≡ Some i → outcome p.names input m exec.kind ≡ Goes (slice_index (successors exec.kind) i) m []
    goes i told =
        let d = one-decided (t.decision (own_piece p (at n))) i told in
        decides d.value d.one ∙ ap (λ j. Goes (slice_index (successors exec.kind) j) m []) d.place

  pub runs-right : (n : ℕ) → (source p input n).mark ≡ Running → IsRightAt p c t input (at n) (source p input n).memory
  runs-right n runs =
      let next = comes n in
      let s = stands n runs next.exec next.is in
      let by = entered n next.exec.kind s in
      record {
        exec = next.exec;
        reached = next.is;
        entered = by;
        item = record { exec = next.exec; found = next.is.found; kept = kept n next.exec next.is.found by next.exec.kind refl };
        words = words n next.exec next.is s;
        goes = goes n next.exec next.is s;
        sizes = facts.sizes n;
        holds = facts.holds n;
      }
