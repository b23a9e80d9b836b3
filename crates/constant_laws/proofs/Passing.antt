-- What a pass does: which out-edge it takes, and what it leaves in the memory.
use Rattle.std.proofs.Common.{◌≡◌, ℕ, zero, suc, ℤ, List, ◌++◌, Result, Ok, Err, refl, sym, ap, subst, ◌∙◌}
use Rattle.op_table.specs.declared.Trap.{Trap}
use Rattle.f77_tree.specs.declared.programs.ExecKind.{ExecKind}
use Rattle.f77_tree.specs.declared.programs.NameInfo.{NameInfo}
use Rattle.f77_tree.specs.declared.programs.Program.{Program}
use Rattle.f77_tree.specs.CanRun.{CanRun}
use Rattle.f77_tree.specs.Execution.{Memory, Outcome, Goes, Stops, Ends, outcome}
use Rattle.f77_tree.specs.Run.{Mark, Running, Ended, Trapped}
use Rattle.f77_tree.specs.Steps.{IsMemoryOf}
use Rattle.f77_tree.proofs.Outcomes.{goes}
use Rattle.f77_tree.proofs.RunInvariants.{goes-memory, first-memory}
use Rattle.cfg_build.specs.declared.pieces.PieceKind.{PieceKind}
use Rattle.cfg_build.specs.declared.pieces.PieceKind.TheVariants.{Start, Act, Pass, Branch, Join, Hold, End}
use Rattle.cfg_build.specs.Flow.{flow}
use Rattle.cfg_build.specs.Passes.{PassState, Passed, Along, Traps, Done, acted, branched, choice, pass_of, pass, line_at, after_pass, passed_from, passes, out}
use Rattle.dep_routing.specs.Sound.{comes_to}
use Rattle.dep_routing.specs.Touches.{piece_kind, exec_kind}

-- the memory after an act is that after its executable
pub record ActedBy (names : List NameInfo) (input : List ℤ) (m : Memory) (x : ExecKind) (new : Memory) : Type 0 where
  pub next : ℕ
  pub text : List ℕ
  pub is : outcome names input m x ≡ Goes next new text

-- a branch takes the edge that it chooses
pub record ChosenBy (names : List NameInfo) (m : Memory) (outs : ℕ → ℕ) (x : ExecKind) (edge : ℕ) (new : Memory) : Type 0 where
  pub place : ℕ
  pub chosen : choice names m x ≡ Ok place
  pub is : edge ≡ outs place
  pub same : new ≡ m

-- what a pass of such a piece does where it goes along an edge
abbrev pub PassedBy : List NameInfo → List ℤ → Memory → (outs : ℕ → ℕ) → PieceKind → ExecKind → (edge : ℕ) → Memory → Type 0
PassedBy names input m outs Act x edge new = (edge ≡ outs 0) × ActedBy names input m x new
PassedBy names input m outs Branch x edge new = ChosenBy names m outs x edge new
PassedBy names input m outs End x edge new = ⊥
PassedBy names input m outs _ x edge new = (edge ≡ outs 0) × (new ≡ m)

acted-by : (names : List NameInfo) (input : List ℤ) (m : Memory) (outs : ℕ → ℕ) (x : ExecKind) (o : Outcome) → outcome names input m x ≡ o → (edge : ℕ) (new : Memory) (text : List ℕ) → acted (outs 0) o ≡ Along edge new text → (edge ≡ outs 0) × ActedBy names input m x new
acted-by names input m outs x (Goes next n t) is edge new text e = let same : n ≡ new = cc in (cc, record { next = next; text = t; is = is ∙ ap (λ k. Goes next k t) same })
acted-by names input m outs x (Stops trap) is edge new text e = let no' : Traps trap ≡ Along edge new text = e in absurd cc
acted-by names input m outs x Ends is edge new text e = let no' : Done ≡ Along edge new text = e in absurd cc

chosen-by : (names : List NameInfo) (m : Memory) (outs : ℕ → ℕ) (x : ExecKind) (r : Result ℕ Trap) → choice names m x ≡ r → (edge : ℕ) (new : Memory) (text : List ℕ) → branched m outs r ≡ Along edge new text → ChosenBy names m outs x edge new
chosen-by names m outs x (Ok i) is edge new text e = record { place = i; chosen = is; is = cc; same = cc }
chosen-by names m outs x (Err trap) is edge new text e = let no' : Traps trap ≡ Along edge new text = e in absurd cc

passed-by : (p : Program) (input : List ℤ) (m : Memory) (outs : ℕ → ℕ) (kind : PieceKind) (x : ExecKind) (edge : ℕ) (new : Memory) (text : List ℕ) → pass_of p input m outs kind x ≡ Along edge new text → PassedBy p.names input m outs kind x edge new
passed-by p input m outs Start x edge new text e = (cc, cc)
passed-by p input m outs Pass x edge new text e = (cc, cc)
passed-by p input m outs Join x edge new text e = (cc, cc)
passed-by p input m outs Hold x edge new text e = (cc, cc)
passed-by p input m outs Act x edge new text e = acted-by p.names input m outs x (outcome p.names input m x) refl edge new text e
passed-by p input m outs Branch x edge new text e = chosen-by p.names m outs x (choice p.names m x) refl edge new text e
passed-by p input m outs End x edge new text e = let no' : Done ≡ Along edge new text = e in absurd cc

-- ---- runs

went_on : (x : PassState) (line : ℕ) (r : Passed) → (after_pass x line r).mark ≡ Running → (text : List ℕ) × (r ≡ Along (after_pass x line r).edge (after_pass x line r).memory text)
went_on x line (Along edge m text) run = (text, refl)
went_on x line (Traps trap) run = let no' : Trapped trap line ≡ Running = run in absurd cc
went_on x line Done run = let no' : Ended ≡ Running = run in absurd cc

still_running : (p : Program) (input : List ℤ) (x : PassState) (mark : Mark) → mark ≡ x.mark → (passed_from p input x mark).mark ≡ Running → x.mark ≡ Running
still_running p input x Running same run = sym same
still_running p input x Ended same run = run
still_running p input x (Trapped trap line) same run = run

pub ran_before : (p : Program) (input : List ℤ) (n : ℕ) → (passes p input (suc n)).mark ≡ Running → (passes p input n).mark ≡ Running
ran_before p input n run = still_running p input (passes p input n) (passes p input n).mark refl run

-- the pass that follows so many passes, where the run goes on
abbrev pub PassedAt : Program → List ℤ → ℕ → Type 0
PassedAt p input n = PassedBy p.names input (passes p input n).memory (out (flow p.execs).graph (comes_to p input n)) (piece_kind p (comes_to p input n)) (exec_kind p (comes_to p input n)) (passes p input (suc n)).edge (passes p input (suc n)).memory

pub passed_at : (p : Program) (input : List ℤ) (n : ℕ) → (passes p input (suc n)).mark ≡ Running → PassedAt p input n
passed_at p input n run =
    let x = passes p input n in
    let r = pass p input x.edge x.memory in
    let is : passes p input (suc n) ≡ after_pass x (line_at p x.edge) r = ap (passed_from p input x) (ran_before p input n run) in
    let went = went_on x (line_at p x.edge) r (sym (ap (λ (s : PassState). s.mark) is) ∙ run) in
    subst (λ (s : PassState). PassedBy p.names input x.memory (out (flow p.execs).graph (comes_to p input n)) (piece_kind p (comes_to p input n)) (exec_kind p (comes_to p input n)) s.edge s.memory) (sym is)
    (passed-by p input x.memory (out (flow p.execs).graph (comes_to p input n)) (piece_kind p (comes_to p input n)) (exec_kind p (comes_to p input n)) (after_pass x (line_at p x.edge) r).edge (after_pass x (line_at p x.edge) r).memory went.0 went.1)

-- a pass that goes along an edge is made
pub went_along : (p : Program) (input : List ℤ) (n edge : ℕ) (m : Memory) (text : List ℕ) → (passes p input n).mark ≡ Running → pass p input (passes p input n).edge (passes p input n).memory ≡ Along edge m text → passes p input (suc n) ≡ record (passes p input n) { edge = edge; memory = m; out = (passes p input n).out ++ text }
went_along p input n edge m text run is = ap (passed_from p input (passes p input n)) run ∙ ap (after_pass (passes p input n) (line_at p (passes p input n).edge)) is

-- ---- sizes

passed-memory : (p : Program) (input : List ℤ) (m : Memory) (outs : ℕ → ℕ) (kind : PieceKind) (x : ExecKind) (edge : ℕ) (new : Memory) → IsMemoryOf p input m → PassedBy p.names input m outs kind x edge new → IsMemoryOf p input new
passed-memory p input m outs Act x edge new is by =
    let a = by.1 in
    goes (λ next new text. IsMemoryOf p input new) (outcome p.names input m x) a.next new a.text (goes-memory p input m x is) a.is
passed-memory p input m outs Branch x edge new is by = subst (IsMemoryOf p input) (sym by.same) is
passed-memory p input m outs End x edge new is by = absurd by
passed-memory p input m outs Start x edge new is by = subst (IsMemoryOf p input) (sym by.1) is
passed-memory p input m outs Pass x edge new is by = subst (IsMemoryOf p input) (sym by.1) is
passed-memory p input m outs Join x edge new is by = subst (IsMemoryOf p input) (sym by.1) is
passed-memory p input m outs Hold x edge new is by = subst (IsMemoryOf p input) (sym by.1) is

-- a run that goes on has a memory of the program
pub pass-memory : (p : Program) (input : List ℤ) (n : ℕ) → CanRun p → (passes p input n).mark ≡ Running → IsMemoryOf p input (passes p input n).memory
pass-memory p input zero can run = first-memory p input can
pass-memory p input (suc n) can run =
    passed-memory p input (passes p input n).memory (out (flow p.execs).graph (comes_to p input n)) (piece_kind p (comes_to p input n)) (exec_kind p (comes_to p input n)) (passes p input (suc n)).edge (passes p input (suc n)).memory
    (pass-memory p input n can (ran_before p input n run)) (passed_at p input n run)
