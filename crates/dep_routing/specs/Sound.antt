-- What firings ask of the lines that pieces touch, whatever table tells them.
use Rattle.std.proofs.Common.{suc}
use Rattle.std.specs.Prelude.{◌≡◌, ◌<◌, ◌+◌, ◌↔◌, ◌⊎◌, ℕ, ℤ, Bool, true, List, All}
use Rattle.op_table.specs.Words.{IsWord}
use Rattle.closed_walks.specs.Graph.{to}
use Rattle.f77_tree.specs.declared.programs.ExecKind.{ExecKind}
use Rattle.f77_tree.specs.declared.programs.Program.{Program}
use Rattle.f77_tree.specs.Known.{ExecMayTrap}
use Rattle.f77_tree.specs.Run.{Running, Ended}
use Rattle.f77_tree.specs.Touched.{ExecReadsData}
use Rattle.alias_classes.specs.Classes.{ClassTable}
use Rattle.cfg_build.specs.declared.pieces.PieceKind.{PieceKind}
use Rattle.cfg_build.specs.declared.pieces.PieceKind.TheVariants.{Act, Branch, Hold}
use Rattle.cfg_build.specs.Flow.{flow}
use Rattle.cfg_build.specs.Passes.{Passed, Traps, pass, passes}
use Rattle.region_tree.specs.Tree.{Tree, IsIn, exit_of}
use Rattle.dep_routing.specs.KnownTraps.{PieceKnownToTrap}
use Rattle.dep_routing.specs.Quiet.{IsQuiet}
use Rattle.dep_routing.specs.Touches.{piece_kind, exec_kind, BranchNeeds, PieceNeeds, Prints}

-- ---- the line of output

-- it has to be touched where a piece prints or takes data, at a hold, and where a branch needs no class
abbrev pub KindMustTouchOut : ClassTable → PieceKind → ExecKind → Type 0
KindMustTouchOut c Act kind = Prints kind ⊎ ExecReadsData kind
KindMustTouchOut c Branch kind = (n : ℕ) → BranchNeeds c kind n → ⊥
KindMustTouchOut c Hold kind = Unit {0}
KindMustTouchOut c _ kind = ⊥

abbrev pub MustTouchOut : Program → ClassTable → ℕ → Type 0
MustTouchOut p c node = KindMustTouchOut c (piece_kind p node) (exec_kind p node)

-- and it may be touched only at a branch or a hold, or where an act prints, takes data or can trap
abbrev pub KindMayTouchOut : Program → PieceKind → ExecKind → Type 0
KindMayTouchOut p Act kind = Prints kind ⊎ (ExecReadsData kind ⊎ ExecMayTrap p.names kind)
KindMayTouchOut p Branch kind = Unit {0}
KindMayTouchOut p Hold kind = Unit {0}
KindMayTouchOut p _ kind = ⊥

abbrev pub MayTouchOut : Program → ℕ → Type 0
MayTouchOut p node = KindMayTouchOut p (piece_kind p node) (exec_kind p node)

-- ---- runs

-- the node to which the run comes with its next pass
abbrev pub comes_to : Program → List ℤ → (n : ℕ) → ℕ
comes_to p input n = to (flow p.execs).graph (passes p input n).edge

-- the pass traps
abbrev pub DoesTrap : Passed → Type 0
DoesTrap (Traps trap) = Unit {0}
DoesTrap _ = ⊥

-- some passes after n the run takes the edge, or, where that is edge 0, it ends
pub record IsLeftBy (p : Program) (input : List ℤ) (n edge : ℕ) : Type 0 where
  pub later : ℕ
  pub by : (((passes p input (n + later)).mark ≡ Running) × ((passes p input (n + later)).edge ≡ edge)) ⊎ ((edge ≡ 0) × ((passes p input (n + later)).mark ≡ Ended))

-- ---- sound touches

pub record IsSound (p : Program) (c : ClassTable) (t : Tree) (touches : ℕ → ℕ → Bool) : Type 0 where
  -- of the classes a piece touches exactly those that it needs
  pub classes : (node n : ℕ) → node < (flow p.execs).graph.nodes → (touches node (suc n) ≡ true) ↔ PieceNeeds p c node (suc n)
  pub must : (node : ℕ) → node < (flow p.execs).graph.nodes → MustTouchOut p c node → touches node 0 ≡ true
  pub may : (node : ℕ) → node < (flow p.execs).graph.nodes → touches node 0 ≡ true → MayTouchOut p node
  -- a piece that is known to trap touches the line of output
  pub known : (node : ℕ) → node < (flow p.execs).graph.nodes → PieceKnownToTrap p node → touches node 0 ≡ true
  -- where a run traps, the piece touches the line of output
  pub traps : (input : List ℤ) (n : ℕ) → All IsWord input → (passes p input n).mark ≡ Running → DoesTrap (pass p input (passes p input n).edge (passes p input n).memory) → touches (comes_to p input n) 0 ≡ true
  -- a run that is in a region quiet for the line of output leaves it, by its exit, and without a trap
  pub leaves : (input : List ℤ) (n r : ℕ) → All IsWord input → (passes p input n).mark ≡ Running → IsQuiet (flow p.execs).graph t touches 0 r → IsIn (flow p.execs).graph t r (comes_to p input n) → IsLeftBy p input n (exit_of t r)
