-- A step of a run is a chain of passes, as far as chains are as they are said to be.
use Rattle.std.proofs.Common.{◌≡◌, ℕ, suc, ◌+◌, ℤ, true, false, List, [], ◌∷◌, ◌++◌, length, Some, slice_get, sym, ap, ◌∙◌, subst, arith}
use Rattle.std.proofs.lemmas.List.{length-append}
use Rattle.closed_walks.specs.Graph.{to}
use Rattle.op_table.specs.declared.Trap.{Trap}
use Rattle.f77_tree.specs.declared.programs.Exec.{Exec}
use Rattle.f77_tree.specs.declared.programs.ExecKind.{ExecKind}
use Rattle.f77_tree.specs.declared.programs.Program.{Program}
use Rattle.f77_tree.specs.Execution.{Memory, Outcome, outcome}
use Rattle.f77_tree.specs.Run.{State, Running, Ended, Trapped, after, step_from, executed_at, step}
use Rattle.cfg_build.specs.declared.pieces.PieceKind.{PieceKind}
use Rattle.cfg_build.specs.declared.pieces.PieceKind.TheVariants as piece
use Rattle.cfg_build.specs.Parts.{line_in}
use Rattle.cfg_build.specs.Joined.{FlowGraph}
use Rattle.cfg_build.specs.Flow.{piece_at}
use Rattle.cfg_build.specs.Passes.{out, Passed, pass_of, PassState, after_pass}
use Rattle.cfg_build.specs.Chains.{has_test}
use Rattle.cfg_build.specs.Routes.{IsMade, last_kind, owner, IsOnePart}
use Rattle.cfg_build.proofs.PassSteps.{pass_at, go, IsAt, passed_is, along_route}
use Rattle.cfg_build.proofs.PassOutcomes.{Fits, last_fits}

pub trapped_runs : (trap : Trap) (line : ℕ) → Trapped trap line ≡ Running → ⊥
trapped_runs trap line h = absurd cc

pub ended_runs : Ended ≡ Running → ⊥
ended_runs h = absurd cc

-- one part has its own last piece
pub own_last : (execs : List Exec) (k : ℕ) (kind : ExecKind) → has_test kind ≡ false → owner execs k kind ≡ k
own_last execs k h h2 = grind arith

-- the last piece of two parts branches, and its executable's successors are two
pub two_last : (kind : ExecKind) → has_test kind ≡ true → last_kind kind ≡ piece.Branch
two_last h h2 = grind arith

module _ (f : FlowGraph) (entry : ℕ → ℕ) (p : Program) (input : List ℤ) where
  -- a run of passes stands where a run of steps does
  pub record Agrees (y : PassState) (x : State) : Type 0 where
    pub memory_is : y.memory ≡ x.memory
    pub out_is : y.out ≡ x.out
    pub mark_is : y.mark ≡ x.mark
    pub enters : x.mark ≡ Running → to f.graph y.edge ≡ entry x.position

  -- what the executable at the position does
  pub step_is : (x : State) (exec : Exec) → slice_get p.execs x.position ≡ Some exec → x.mark ≡ Running → step p input x ≡ after x exec.line (outcome p.names input x.memory exec.kind)
  step_is x exec found runs = ap (λ mark. step_from p input x mark) runs ∙ ap (λ e. executed_at p input x e) found

  pub made_pass : (node : ℕ) (kind : PieceKind) (k : ℕ) (exec : Exec) (m : Memory) → IsMade f p.execs node kind k → slice_get p.execs k ≡ Some exec → pass_at f p input node m ≡ pass_of p input m (out f.graph node) kind exec.kind
  made_pass node kind k exec m made found = cc

  pub made_line : (node : ℕ) (kind : PieceKind) (k : ℕ) (exec : Exec) → IsMade f p.execs node kind k → slice_get p.execs k ≡ Some exec → (piece_at f.pieces node).line ≡ exec.line
  made_line node kind k exec made found = made.line_is ∙ ap line_in found

  -- after a pass that fits
  pub fits_agree : (y : PassState) (x : State) (passed_line line : ℕ) (passed : Passed) (o : Outcome) → y.memory ≡ x.memory → y.out ≡ x.out → y.mark ≡ Running → x.mark ≡ Running → passed_line ≡ line → Fits f entry passed o → Agrees (after_pass y passed_line passed) (after x line o)
  fits_agree y x passed_line line h h2 same written_same runs x_runs lines fits = grind (arith, trapped_runs, ended_runs)

  module _ (x : State) (exec : Exec) (found : slice_get p.execs x.position ≡ Some exec) (x_runs : x.mark ≡ Running) (y : PassState) (agrees : Agrees y x) (pieces : List ℕ) where
    pub begins : IsAt f p input y x.memory x.out (entry x.position)
    begins = record { runs = agrees.mark_is ∙ x_runs; memory_is = agrees.memory_is; out_is = agrees.out_is; ends = agrees.enters x_runs }

    pub one_part : has_test exec.kind ≡ false → IsOnePart f entry p.execs x.position exec.kind pieces → Agrees (go f p input (length pieces) y) (step p input x)
    one_part single c =
        let z : PassState = go f p input (length c.prefix) y in
        let at : IsAt f p input z x.memory x.out c.last = along_route f p input c.prefix y x.memory x.out (entry x.position) c.last begins c.route in
        let appended : length (c.prefix ++ c.last ∷ []) ≡ length c.prefix + length (c.last ∷ []) = length-append c.prefix (c.last ∷ []) in
        let cut : length pieces ≡ length (c.prefix ++ c.last ∷ []) = ap (λ (xs : List ℕ). length xs) c.are in
        let count : length pieces ≡ suc (length c.prefix) = omega (arith, cut, appended) in
        let made : IsMade f p.execs c.last (last_kind exec.kind) x.position = subst (λ n. IsMade f p.execs c.last (last_kind exec.kind) n) (own_last p.execs x.position exec.kind single) c.ends.made in
        let passed : go f p input (length pieces) y ≡ after_pass z (piece_at f.pieces c.last).line (pass_of p input x.memory (out f.graph c.last) (last_kind exec.kind) exec.kind) =
        ap (λ n. go f p input n y) count
        ∙ passed_is f p input z x.memory x.out c.last at
        ∙ ap (λ (q : Passed). after_pass z (piece_at f.pieces c.last).line q) (made_pass c.last (last_kind exec.kind) x.position exec x.memory made found) in
        subst (λ (a : PassState). Agrees a (step p input x)) (sym passed)
        (subst (λ (s : State). Agrees (after_pass z (piece_at f.pieces c.last).line (pass_of p input x.memory (out f.graph c.last) (last_kind exec.kind) exec.kind)) s) (sym (step_is x exec found x_runs))
        (fits_agree z x (piece_at f.pieces c.last).line exec.line (pass_of p input x.memory (out f.graph c.last) (last_kind exec.kind) exec.kind) (outcome p.names input x.memory exec.kind)
        at.memory_is at.out_is at.runs x_runs (made_line c.last (last_kind exec.kind) x.position exec made found)
        (last_fits f entry p input x.memory (out f.graph c.last) exec.kind single c.ends.leads)))
