-- How a run goes on from piece to piece, past idle ones.
use Rattle.std.proofs.Common.{◌≡◌, ◌≢◌, ℕ, zero, suc, ◌<◌, ◌⊎◌, ◌&&◌, ◌==◌, Bool, true, false, not, if◌then◌else◌, List, [], ◌++◌, length, refl, sym, ap, ◌∙◌, subst, inl, inr, arith, eqb-true}
use Rattle.std.proofs.lemmas.Bool.{cases_Bool}
use Rattle.closed_walks.specs.Graph.{edge_count, from, to}
use Rattle.f77_tree.specs.declared.programs.ExecKind.{ExecKind}
use Rattle.f77_tree.specs.Execution.{Memory}
use Rattle.f77_tree.specs.Run.{Mark, Running}
use Rattle.cfg_build.specs.declared.pieces.PieceKind.{PieceKind}
use Rattle.cfg_build.specs.declared.pieces.PieceKind.TheVariants as kind
use Rattle.cfg_build.specs.Joined.{is_end, finish}
use Rattle.cfg_build.specs.Passes.{Passed, Along, Done, IfAlong, PassState, out, pass, pass_of, passes, passed_from, after_pass, line_at}
use Rattle.cfg_build.specs.Shape.{leaves_one}
use Rattle.dep_routing.specs.Touches.{exec_kind}
use Rattle.net_board.specs.WithinPiece.{leaving, memory_or, IsAmid}
use Rattle.net_board.specs.SoundNets.{IsNet}
use Rattle.net_board.specs.FlowFacts.{FlowFacts}
use Rattle.net_board.specs.ControlCourse.{is_idle, passed, passed_times}
use Rattle.net_board.specs.NetLockstep.{IsBetween, IsOnWay}
use Rattle.net_board.specs.Nodes.{NetOf, graph_in, kind_in, nodes_by, node_count}
use Rattle.net_board.specs.Tokens.{Tokens, pass_at}
use Rattle.net_board.proofs.PieceEnds.{none_fired, all_fired}
use Rattle.std.proofs.lemmas.Bool.{and_parts}

-- the pass of an idle piece
pub idle_pass : (net : NetOf) (piece : ℕ) (memory : Memory) (x : ExecKind) (k : PieceKind) → ((length (nodes_by net piece k) == 0) && not (is_end k)) ≡ true → pass_of net.program net.input memory (out (graph_in net) piece) k x ≡ Along (out (graph_in net) piece 0) memory []
idle_pass net piece memory x kind.Join idle = refl
idle_pass net piece memory x kind.Start idle = refl
idle_pass net piece memory x kind.Pass idle = refl
idle_pass net piece memory x kind.Hold idle = refl
idle_pass net piece memory x kind.End idle = let clash : false ≡ true = (and_parts (length (nodes_by net piece kind.End) == 0) false idle).1 in absurd cc
idle_pass net piece memory x kind.Act idle = let none : 1 ≡ 0 = eqb-true 1 0 ((and_parts (1 == 0) true idle).0) in absurd (omega (arith, none))
idle_pass net piece memory x kind.Branch idle =
    let count = length (nodes_by net piece kind.Branch) in
    let none : count ≡ 0 = eqb-true count 0 ((and_parts (count == 0) true idle).0) in
    absurd (omega (arith, none))

-- an idle piece has one way on
pub idle_leaves_one : (net : NetOf) (piece : ℕ) (k : PieceKind) → ((length (nodes_by net piece k) == 0) && not (is_end k)) ≡ true → leaves_one k ≡ true
idle_leaves_one net piece kind.Join idle = refl
idle_leaves_one net piece kind.Start idle = refl
idle_leaves_one net piece kind.Pass idle = refl
idle_leaves_one net piece kind.Act idle = refl
idle_leaves_one net piece kind.End idle = refl
idle_leaves_one net piece kind.Branch idle =
    let count = length (nodes_by net piece kind.Branch) in
    let none : count ≡ 0 = eqb-true count 0 ((and_parts (count == 0) true idle).0) in
    absurd (omega (arith, none))
idle_leaves_one net piece kind.Hold idle =
    let count = length (nodes_by net piece kind.Hold) in
    let none : count ≡ 0 = eqb-true count 0 ((and_parts (count == 0) true idle).0) in
    absurd (omega (arith, none))

-- the state after a pass along an edge
state_along : (net : NetOf) (n edge d : ℕ) (memory new : Memory) (text : List ℕ) → IsOnWay net n edge memory → pass net.program net.input edge memory ≡ Along d new text → passes net.program net.input (suc n) ≡ record { edge = d; memory = new; out = (passes net.program net.input n).out ++ text; mark = Running }
state_along net n edge d memory new text way along = by (passes net.program net.input n) way.running way.edge_is way.memory_is
  where
    marked : (x : PassState) → x.mark ≡ Running → passed_from net.program net.input x x.mark ≡ after_pass x (line_at net.program x.edge) (pass net.program net.input x.edge x.memory)
    marked x running = ap (passed_from net.program net.input x) running

    done_so : (x : PassState) → x.mark ≡ Running → after_pass x (line_at net.program x.edge) (Along d new text) ≡ record { edge = d; memory = new; out = x.out ++ text; mark = Running }
    done_so x running = ap (λ (mark : Mark). record { edge = d; memory = new; out = x.out ++ text; mark = mark }) running

    by : (x : PassState) → x.mark ≡ Running → x.edge ≡ edge → x.memory ≡ memory → passed_from net.program net.input x x.mark ≡ record { edge = d; memory = new; out = x.out ++ text; mark = Running }
    by x running edge_is memory_is =
        let same : pass net.program net.input x.edge x.memory ≡ Along d new text = ap (λ (e : ℕ). pass net.program net.input e x.memory) edge_is ∙ ap (pass net.program net.input edge) memory_is ∙ along in
        marked x running ∙ ap (after_pass x (line_at net.program x.edge)) same ∙ done_so x running

module _ (net : NetOf) (is_net : IsNet net) (ground : FlowFacts net is_net.tree) where
  pub along_exists : (edge d : ℕ) (memory new : Memory) (text : List ℕ) → edge < edge_count (graph_in net) → pass net.program net.input edge memory ≡ Along d new text → (d < edge_count (graph_in net)) × (from (graph_in net) d ≡ to (graph_in net) edge)
  along_exists edge d memory new text inside along =
      subst (λ (made : Passed). IfAlong made (λ next new text. (next < edge_count (graph_in net)) × (from (graph_in net) next ≡ to (graph_in net) edge))) along (ground.graph.passes_on edge memory inside)

  -- the end has no pass along an edge
  not_end : (edge d : ℕ) (memory new : Memory) (text : List ℕ) → edge < edge_count (graph_in net) → pass net.program net.input edge memory ≡ Along d new text → to (graph_in net) edge ≡ finish net.program.execs → ⊥
  not_end edge d memory new text inside along is =
      let piece = to (graph_in net) edge in
      let end_kind : kind_in net piece ≡ kind.End = (ground.graph.shape.end piece (ground.graph.heads edge inside)).1 is in
      let made : pass net.program net.input edge memory ≡ Done = ap (λ k. pass_of net.program net.input memory (out (graph_in net) piece) k (exec_kind net.program piece)) end_kind in
      let clash : Done ≡ Along d new text = sym made ∙ along in
      cc

  pub not_back : (edge d : ℕ) (memory new : Memory) (text : List ℕ) → edge < edge_count (graph_in net) → pass net.program net.input edge memory ≡ Along d new text → 0 < d
  not_back edge d memory new text inside along = by d along
    where
      by : (d : ℕ) → pass net.program net.input edge memory ≡ Along d new text → 0 < d
      by (suc d) along = omega arith
      by zero along =
          let h = along_exists edge 0 memory new text inside along in
          absurd (not_end edge 0 memory new text inside along (sym h.1 ∙ (ground.graph.shape.leaves_end 0 h.0).1 refl))

  pub way_on : (n edge d : ℕ) (memory new : Memory) (text : List ℕ) → IsOnWay net n edge memory → pass net.program net.input edge memory ≡ Along d new text → IsOnWay net (suc n) d new
  way_on n edge d memory new text way along =
      let state = state_along net n edge d memory new text way along in
      record {
        running = ap (λ (x : PassState). x.mark) state;
        edge_is = ap (λ (x : PassState). x.edge) state;
        memory_is = ap (λ (x : PassState). x.memory) state;
        exists = (along_exists edge d memory new text way.exists along).0;
        later = not_back edge d memory new text way.exists along;
      }

  -- control has left the start
  pub not_start : (n edge : ℕ) (memory : Memory) → IsOnWay net n edge memory → 0 ≢ to (graph_in net) edge
  not_start n edge memory way is =
      let e : edge ≡ 0 = (ground.graph.shape.comes_to_start edge way.exists).0 (sym is) in
      let later = way.later in
      omega (arith, e, later)

  -- control comes along the edge, and the marking is the one between two passes there
  pub record IsThere (m : Tokens) (edge : ℕ) : Type 0 where
    pub passes_made : ℕ
    pub memory : Memory
    pub way : IsOnWay net passes_made edge memory
    pub between : IsBetween net is_net.tree m edge memory

  past_idle : (m : Tokens) (edge : ℕ) → is_idle net (to (graph_in net) edge) ≡ true → IsThere m edge → IsThere m (out (graph_in net) (to (graph_in net) edge) 0)
  past_idle m edge idle there =
      let piece = to (graph_in net) edge in
      let memory = there.memory in
      let d = out (graph_in net) piece 0 in
      let way = there.way in
      let along : pass_at net piece memory ≡ Along d memory [] = idle_pass net piece memory (exec_kind net.program piece) (kind_in net piece) idle in
      let none : node_count net piece ≡ 0 = eqb-true (node_count net piece) 0 ((and_parts (node_count net piece == 0) (not (is_end (kind_in net piece))) idle).0) in
      let exit = along_exists edge d memory memory [] way.exists along in
      let later : 0 ≢ piece = not_start there.passes_made edge memory way in
      let start : IsAmid net m m piece 0 memory (pass_at net piece memory) = none_fired net is_net ground edge piece way.exists refl later m memory there.between in
      let amid : IsAmid net m m piece (node_count net piece) memory (pass_at net piece memory) = subst (λ (i : ℕ). IsAmid net m m piece i memory (pass_at net piece memory)) (sym none) start in
      let next : IsBetween net is_net.tree m d (memory_or memory (pass_at net piece memory)) = all_fired net is_net ground edge piece way.exists refl later m memory there.between m amid d (ap (leaving net piece) along) exit.0 exit.1 in
      record {
        passes_made = suc there.passes_made;
        memory = memory;
        way = way_on there.passes_made edge d memory memory [] way along;
        between = subst (λ (x : Memory). IsBetween net is_net.tree m d x) (ap (memory_or memory) along) next;
      }

  there_passed : (m : Tokens) (edge : ℕ) → IsThere m edge → IsThere m (passed net edge)
  there_passed m edge there = by (cases_Bool (is_idle net (to (graph_in net) edge)))
    where
      by : (is_idle net (to (graph_in net) edge) ≡ true) ⊎ (is_idle net (to (graph_in net) edge) ≡ false) → IsThere m (passed net edge)
      by (inl idle) = subst (λ (b : Bool). IsThere m (if b then out (graph_in net) (to (graph_in net) edge) 0 else edge)) (sym idle) (past_idle m edge idle there)
      by (inr busy) = subst (λ (b : Bool). IsThere m (if b then out (graph_in net) (to (graph_in net) edge) 0 else edge)) (sym busy) there

  pub there_passed_times : (n : ℕ) (m : Tokens) (edge : ℕ) → IsThere m edge → IsThere m (passed_times net n edge)
  there_passed_times zero m edge there = there
  there_passed_times (suc n) m edge there = there_passed_times n m (passed net edge) (there_passed m edge there)
