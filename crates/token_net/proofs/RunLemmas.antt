-- What the running of a piece tells of its pass.
use Rattle.std.proofs.Common.{◌≡◌, ◌≤◌, ℕ, zero, suc, List, [], ◌∷◌, ◌++◌, Option, Some, Result, Ok, Err, max, slice_get, sym, ap, ◌∙◌, subst, arith}
use Rattle.op_table.specs.declared.Trap.{Trap}
use Rattle.f77_tree.specs.declared.programs.Exec.{Exec}
use Rattle.f77_tree.specs.declared.programs.ExecKind.{ExecKind}
use Rattle.f77_tree.specs.declared.programs.ExecKind.TheVariants.{Assign, Print, Pass, Test, Sign, Pick, DoStart, DoNext, End}
use Rattle.f77_tree.specs.declared.programs.Program.{Program}
use Rattle.f77_tree.specs.CanRun.{CanExecute}
use Rattle.f77_tree.specs.Execution.{Memory, outcome}
use Rattle.f77_tree.specs.Line.{item_before, line_of_texts}
use Rattle.f77_meaning.specs.Room.{kind_room, most_room}
use Rattle.cfg_build.specs.declared.pieces.Piece.{Piece}
use Rattle.cfg_build.specs.declared.pieces.PieceKind.{PieceKind}
use Rattle.cfg_build.specs.declared.pieces.PieceKind.TheVariants as kind
use Rattle.cfg_build.specs.Flow.{flow, piece_in, piece_at}
use Rattle.cfg_build.specs.Joined.{FlowGraph}
use Rattle.cfg_build.specs.Passes.{Passed, Along, Traps, acted, choice, branched, kind_in, out, pass_of}
use Rattle.net_board.specs.Nodes.{NetOf, graph_in}
use Rattle.net_board.specs.Tokens.{pass_at}
use Rattle.token_net.specs.PieceRuns.{MayChoose, going_on}

-- there is room for what each executable writes
pub has_room : (execs : List Exec) (k : ℕ) (exec : Exec) → slice_get execs k ≡ Some exec → kind_room exec.kind ≤ most_room execs
has_room [] k exec is = absurd cc
has_room (e ∷ es) zero exec is =
    let same : e ≡ exec = cc in
    subst (λ (x : Exec). kind_room x.kind ≤ max (kind_room e.kind) (most_room es)) same (omega arith)
has_room (e ∷ es) (suc k) exec is = let r = has_room es k exec is in omega (arith, r)

pub may_choose : (p : Program) (counts : ℕ) (kind : ExecKind) → counts ≡ p.loops → CanExecute p kind → MayChoose p.names counts kind
may_choose p counts (Assign target value next) same can = tt
may_choose p counts (Print items next) same can = tt
may_choose p counts (Pass next) same can = tt
may_choose p counts (Test cond yes' no') same can = can.0
may_choose p counts (Sign value neg zero' pos') same can = can.0
may_choose p counts (Pick value targets other) same can = can.0
may_choose p counts (DoStart loop_no var first last step body exit) same can = let there = can.0.loop in omega (arith, same, there)
may_choose p counts (DoNext loop_no var body exit) same can = tt
may_choose p counts End same can = tt

pub piece_told : (f h : FlowGraph) (node : ℕ) (x : Piece) → f ≡ h → slice_get f.pieces node ≡ Some x → piece_at h.pieces node ≡ x
piece_told f h node x same is = ap piece_in (ap (λ (k : FlowGraph). slice_get k.pieces node) (sym same) ∙ is)

module _ (net : NetOf) (piece : ℕ) (x : Piece) (exec : Exec) (m : Memory) (stands : piece_at (flow net.program.execs).pieces piece ≡ x) (runs : slice_get net.program.execs x.exec ≡ Some exec) where
  pass_is : (k : PieceKind) → x.kind ≡ k → pass_at net piece m ≡ pass_of net.program net.input m (out (graph_in net) piece) k exec.kind
  pass_is k is =
      ap (λ (y : Piece). pass_of net.program net.input m (out (graph_in net) piece) y.kind (kind_in (slice_get net.program.execs y.exec))) stands
      ∙ ap (λ (o : Option Exec). pass_of net.program net.input m (out (graph_in net) piece) x.kind (kind_in o)) runs
      ∙ ap (λ (l : PieceKind). pass_of net.program net.input m (out (graph_in net) piece) l exec.kind) is

  pub act_told : (edge : ℕ) (told : Passed) → x.kind ≡ kind.Act → edge ≡ out (graph_in net) piece 0 → going_on edge m (acted edge (outcome net.program.names net.input m exec.kind)) ≡ told → going_on (out (graph_in net) piece 0) m (pass_at net piece m) ≡ told
  act_told edge told is first so =
      ap (going_on (out (graph_in net) piece 0) m) (pass_is kind.Act is)
      ∙ ap (λ e. going_on e m (acted e (outcome net.program.names net.input m exec.kind))) (sym first) ∙ so

  pub chosen_told : (i edge : ℕ) → x.kind ≡ kind.Branch → choice net.program.names m exec.kind ≡ Ok i → edge ≡ out (graph_in net) piece i → going_on (out (graph_in net) piece 0) m (pass_at net piece m) ≡ Along edge m []
  chosen_told i edge is takes so =
      ap (going_on (out (graph_in net) piece 0) m) (pass_is kind.Branch is ∙ ap (branched m (out (graph_in net) piece)) takes)
      ∙ ap (λ e. Along e m []) (sym so)

  pub trap_told : (trap : Trap) → x.kind ≡ kind.Branch → choice net.program.names m exec.kind ≡ Err trap → going_on (out (graph_in net) piece 0) m (pass_at net piece m) ≡ Traps trap
  trap_told trap is fails = ap (going_on (out (graph_in net) piece 0) m) (pass_is kind.Branch is ∙ ap (branched m (out (graph_in net) piece)) fails)

-- the line that PRINT writes has its end
pub line_some : (texts : List (Result (List ℕ) Trap)) (line : List ℕ) → line_of_texts texts ≡ Ok line → line ≡ [] → ⊥
line_some [] line is none =
    let same : (10 ∷ []) ≡ line = cc in
    let clash : (10 ∷ []) ≡ [] = same ∙ none in
    cc
line_some (text ∷ texts) line is none = by text (line_of_texts texts) is
  where
    by : (a b : Result (List ℕ) Trap) → item_before a b ≡ Ok line → ⊥
    by (Err trap) b e = cc
    by (Ok x) (Err trap) e = cc
    by (Ok x) (Ok more) e =
        let same : (32 ∷ (x ++ more)) ≡ line = cc in
        let clash : (32 ∷ (x ++ more)) ≡ [] = same ∙ none in
        cc
