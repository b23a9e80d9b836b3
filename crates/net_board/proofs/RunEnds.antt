-- A run ends only at the end.
use Rattle.std.proofs.Common.{◌≡◌, ℕ, ◌<◌, ℤ, pos, Bool, true, false, if◌then◌else◌, List, Result, Ok, Err, refl, ap, ◌∙◌}
use Rattle.std.specs.Ordering.{int_eq}
use Rattle.op_table.specs.declared.Trap.{Trap}
use Rattle.op_table.specs.declared.Trap.TheVariants as trap
use Rattle.closed_walks.specs.Graph.{to}
use Rattle.f77_tree.specs.declared.programs.ExecKind.{ExecKind}
use Rattle.f77_tree.specs.declared.programs.ExecKind.TheVariants as exec
use Rattle.f77_tree.specs.declared.programs.NameInfo.{NameInfo}
use Rattle.f77_tree.specs.Execution.{Memory, Outcome, Goes, Stops, Ends, outcome, value_in, next_word, assigned, printed, do_begun, started}
use Rattle.f77_tree.specs.Line.{line_of}
use Rattle.f77_tree.specs.Value.{value, place, place_of}
use Rattle.cfg_build.specs.declared.pieces.PieceKind.{PieceKind}
use Rattle.cfg_build.specs.declared.pieces.PieceKind.TheVariants as kind
use Rattle.cfg_build.specs.Flow.{flow}
use Rattle.cfg_build.specs.Passes.{Along, Done, acted, branched, choice, kind_in, out, pass, pass_of}
use Rattle.cfg_build.specs.Runs.{IsPartOf, is_act}
use Rattle.dep_routing.specs.Touches.{exec_kind}
use Rattle.net_board.specs.Nodes.{NetOf, graph_in}
use Rattle.net_board.specs.Nodes as nodes

assigned_goes : (m : Memory) (next taken : ℕ) (at : Result ℕ Trap) (given : Result ℤ Trap) → assigned m next taken at given ≡ Ends → ⊥
assigned_goes m next taken (Err t) given is = cc
assigned_goes m next taken (Ok word) (Err t) is = cc
assigned_goes m next taken (Ok word) (Ok z) is = cc

printed_goes : (m : Memory) (next : ℕ) (line : Result (List ℕ) Trap) → printed m next line ≡ Ends → ⊥
printed_goes m next (Err t) is = cc
printed_goes m next (Ok line) is = cc

begun_goes : (m : Memory) (loop_no word body exit : ℕ) (first last step : Result ℤ Trap) → do_begun m loop_no word body exit first last step ≡ Ends → ⊥
begun_goes m loop_no word body exit (Err t) last step is = cc
begun_goes m loop_no word body exit (Ok a) (Err t) step is = cc
begun_goes m loop_no word body exit (Ok a) (Ok b) (Err t) is = cc
begun_goes m loop_no word body exit (Ok a) (Ok b) (Ok c) is = by (int_eq c (pos 0)) is
  where
    by : (zero_step : Bool) → (if zero_step then Stops trap.Step else started m loop_no word body exit a b c) ≡ Ends → ⊥
    by true is = cc
    by false is = cc

-- an act goes on or traps
act_goes : (names : List NameInfo) (input : List ℤ) (m : Memory) (e : ExecKind) → is_act e ≡ true → outcome names input m e ≡ Ends → ⊥
act_goes names input m (exec.Assign target e next) act is = assigned_goes m next _ (place names m.store (next_word input m) target) (value names m.store (next_word input m) e) is
act_goes names input m (exec.Print items next) act is = printed_goes m next (line_of names m.store items) is
act_goes names input m (exec.DoStart loop_no var first last step body exit) act is = begun_goes m loop_no (place_of names var) body exit (value_in names m first) (value_in names m last) (value_in names m step) is
act_goes names input m (exec.DoNext loop_no var body exit) act is = cc
act_goes names input m (exec.Pass next) act is = cc
act_goes names input m (exec.Test cond yes' no') act is = cc
act_goes names input m (exec.Sign e neg zero' pos') act is = cc
act_goes names input m (exec.Pick e targets other) act is = cc
act_goes names input m exec.End act is = cc

acted_goes : (next : ℕ) (o : Outcome) → (o ≡ Ends → ⊥) → acted next o ≡ Done → ⊥
acted_goes next (Goes n m text) goes is = cc
acted_goes next (Stops t) goes is = cc
acted_goes next Ends goes is = goes refl

branched_goes : (m : Memory) (out : ℕ → ℕ) (i : Result ℕ Trap) → branched m out i ≡ Done → ⊥
branched_goes m out (Ok i) is = cc
branched_goes m out (Err t) is = cc

along_goes : (d : ℕ) (m : Memory) (text : List ℕ) → Along d m text ≡ Done → ⊥
along_goes d m text is = cc

module _ (net : NetOf) (parts : (node : ℕ) → node < (graph_in net).nodes → nodes.kind_in net node ≡ kind.Act → IsPartOf (flow net.program.execs) net.program.execs node is_act) where
  act_ends : (node : ℕ) (m : Memory) → node < (graph_in net).nodes → nodes.kind_in net node ≡ kind.Act → acted (out (graph_in net) node 0) (outcome net.program.names net.input m (exec_kind net.program node)) ≡ Done → ⊥
  act_ends node m exists acts is =
      let own : IsPartOf (flow net.program.execs) net.program.execs node is_act = parts node exists acts in
      let same : exec_kind net.program node ≡ own.exec.kind = ap kind_in own.found in
      acted_goes (out (graph_in net) node 0) (outcome net.program.names net.input m (exec_kind net.program node)) (act_goes net.program.names net.input m (exec_kind net.program node) (ap is_act same ∙ own.fitting)) is

  by_kind : (node : ℕ) (m : Memory) (k : PieceKind) → node < (graph_in net).nodes → nodes.kind_in net node ≡ k → pass_of net.program net.input m (out (graph_in net) node) k (exec_kind net.program node) ≡ Done → k ≡ kind.End
  by_kind node m kind.End exists same is = refl
  by_kind node m kind.Act exists same is = absurd (act_ends node m exists same is)
  by_kind node m kind.Branch exists same is = absurd (branched_goes m (out (graph_in net) node) (choice net.program.names m (exec_kind net.program node)) is)
  by_kind node m kind.Start exists same is = absurd (along_goes (out (graph_in net) node 0) m _ is)
  by_kind node m kind.Pass exists same is = absurd (along_goes (out (graph_in net) node 0) m _ is)
  by_kind node m kind.Join exists same is = absurd (along_goes (out (graph_in net) node 0) m _ is)
  by_kind node m kind.Hold exists same is = absurd (along_goes (out (graph_in net) node 0) m _ is)

  pub ends_only : (edge : ℕ) (m : Memory) → to (graph_in net) edge < (graph_in net).nodes → pass net.program net.input edge m ≡ Done → nodes.kind_in net (to (graph_in net) edge) ≡ kind.End
  ends_only edge m exists is = by_kind (to (graph_in net) edge) m (nodes.kind_in net (to (graph_in net) edge)) exists refl is
