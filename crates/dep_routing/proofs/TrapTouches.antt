-- Where a run traps, the piece touches the line of output.
use Rattle.std.proofs.Common.{◌≡◌, ℕ, ℤ, List, Bool, true, Result, Ok, Err, inl, inr, ⊎_elim, sym, ◌∙◌}
use Rattle.std.proofs.lemmas.Bool.{cases_Bool, false≢true}
use Rattle.op_table.specs.declared.Trap.{Trap}
use Rattle.f77_tree.specs.declared.programs.ExecKind.{ExecKind}
use Rattle.f77_tree.specs.declared.programs.ExecKind.TheVariants.{Assign, Print, Pass as Passing, Test, Sign, Pick, DoStart, DoNext, End as Ending}
use Rattle.f77_tree.specs.declared.programs.Program.{Program}
use Rattle.f77_tree.specs.Execution.{Memory, Outcome, Goes, Stops, Ends, outcome, branched as took, value_in}
use Rattle.f77_tree.specs.Known.{ExecMayTrap}
use Rattle.f77_tree.specs.Steps.{DoesNotTrap}
use Rattle.f77_tree.specs.Value.{and_then}
use Rattle.alias_classes.specs.Classes.{ClassTable}
use Rattle.cfg_build.specs.declared.pieces.PieceKind.{PieceKind}
use Rattle.cfg_build.specs.declared.pieces.PieceKind.TheVariants.{Start, Act, Pass, Branch, Join, Hold, End}
use Rattle.cfg_build.specs.Passes.{acted, branched, choice, pass_of}
use Rattle.dep_routing.specs.Sound.{DoesTrap}
use Rattle.dep_routing.specs.Touches.{BranchMayTrap, KindNeedsOut}

acted-traps : (next : ℕ) (o : Outcome) → DoesNotTrap o → DoesTrap (acted next o) → ⊥
acted-traps next (Goes exec memory text) can traps = traps
acted-traps next (Stops trap) can traps = can
acted-traps next Ends can traps = traps

-- a choice by a value traps only where the branch of the source does
chosen-traps : (m : Memory) (out : ℕ → ℕ) (number : ℤ → ℕ) (next : ℤ → ℕ) (r : Result ℤ Trap) → DoesNotTrap (took m next r) → DoesTrap (branched m out (and_then (λ z. Ok (number z)) r)) → ⊥
chosen-traps m out number next (Ok z) can traps = traps
chosen-traps m out number next (Err trap) can traps = can

-- over this memory what can't trap doesn't
module _ (p : Program) (input : List ℤ) (m : Memory) (safe : (kind : ExecKind) → (ExecMayTrap p.names kind → ⊥) → DoesNotTrap (outcome p.names input m kind)) where
  branch-traps : (out : ℕ → ℕ) (kind : ExecKind) → (BranchMayTrap p.names kind → ⊥) → DoesTrap (branched m out (choice p.names m kind)) → ⊥
  branch-traps out (Test cond if_true if_false) can traps = chosen-traps m out _ _ (value_in p.names m cond) (safe (Test cond if_true if_false) can) traps
  branch-traps out (Sign e neg equal pos') can traps = chosen-traps m out _ _ (value_in p.names m e) (safe (Sign e neg equal pos') can) traps
  branch-traps out (Pick e targets other) can traps = chosen-traps m out _ _ (value_in p.names m e) (safe (Pick e targets other) can) traps
  branch-traps out (DoStart loop_no var first last step body exit) can traps = traps
  branch-traps out (Assign target e next) can traps = traps
  branch-traps out (Print items next) can traps = traps
  branch-traps out (Passing next) can traps = traps
  branch-traps out (DoNext loop_no var body exit) can traps = traps
  branch-traps out Ending can traps = traps

  -- a piece that needs no line of output doesn't trap
  pub piece-traps : (c : ClassTable) (node : ℕ) (out : ℕ → ℕ) (kind : PieceKind) (exec : ExecKind) → (KindNeedsOut p c node kind exec → ⊥) → DoesTrap (pass_of p input m out kind exec) → ⊥
  piece-traps c node out Start exec none traps = traps
  piece-traps c node out Pass exec none traps = traps
  piece-traps c node out Join exec none traps = traps
  piece-traps c node out Hold exec none traps = traps
  piece-traps c node out Act exec none traps = acted-traps (out 0) (outcome p.names input m exec) (safe exec (λ may. none (inr (inr may)))) traps
  piece-traps c node out Branch exec none traps = branch-traps out exec (λ may. none (inl may)) traps
  piece-traps c node out End exec none traps = traps

-- a branch of which the executable doesn't trap doesn't
branch-safe : (p : Program) (input : List ℤ) (m : Memory) (out : ℕ → ℕ) (kind : ExecKind) → DoesNotTrap (outcome p.names input m kind) → DoesTrap (branched m out (choice p.names m kind)) → ⊥
branch-safe p input m out (Test cond if_true if_false) can traps = chosen-traps m out _ _ (value_in p.names m cond) can traps
branch-safe p input m out (Sign e neg equal pos') can traps = chosen-traps m out _ _ (value_in p.names m e) can traps
branch-safe p input m out (Pick e targets other) can traps = chosen-traps m out _ _ (value_in p.names m e) can traps
branch-safe p input m out (DoStart loop_no var first last step body exit) can traps = traps
branch-safe p input m out (Assign target e next) can traps = traps
branch-safe p input m out (Print items next) can traps = traps
branch-safe p input m out (Passing next) can traps = traps
branch-safe p input m out (DoNext loop_no var body exit) can traps = traps
branch-safe p input m out Ending can traps = traps

-- a pass of an executable that doesn't trap doesn't
pub pass-safe : (p : Program) (input : List ℤ) (m : Memory) (out : ℕ → ℕ) (kind : PieceKind) (exec : ExecKind) → DoesNotTrap (outcome p.names input m exec) → DoesTrap (pass_of p input m out kind exec) → ⊥
pass-safe p input m out Start exec can traps = traps
pass-safe p input m out Pass exec can traps = traps
pass-safe p input m out Join exec can traps = traps
pass-safe p input m out Hold exec can traps = traps
pass-safe p input m out Act exec can traps = acted-traps (out 0) (outcome p.names input m exec) can traps
pass-safe p input m out Branch exec can traps = branch-safe p input m out exec can traps
pass-safe p input m out End exec can traps = traps

-- a test that is right for what is not refuted holds
pub tells : {P : Type 0} (b : Bool) → (P → b ≡ true) → ((P → ⊥) → ⊥) → b ≡ true
tells b told not_none = ⊎_elim (λ is. is) (λ is. absurd (not_none (λ h. false≢true (sym is ∙ told h)))) (cases_Bool b)
