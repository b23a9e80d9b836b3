-- Pieces of some kinds touch nothing, and those of the others something.
use Rattle.std.proofs.Common.{◌≡◌, ℕ, zero, suc, ◌<◌, true, false, refl, sym, subst, ⊎_elim}
use Rattle.std.proofs.lemmas.Bool.{cases_Bool}
use Rattle.f77_tree.specs.declared.programs.ExecKind.{ExecKind}
use Rattle.f77_tree.specs.declared.programs.Program.{Program}
use Rattle.alias_classes.specs.Classes.{ClassTable, class_count}
use Rattle.cfg_build.specs.declared.pieces.PieceKind.{PieceKind}
use Rattle.cfg_build.specs.declared.pieces.PieceKind.TheVariants as kind
use Rattle.dep_routing.specs.Sound.{KindMayTouchOut}
use Rattle.dep_routing.specs.Touches.{KindNeeds, exec_kind}
use Rattle.net_board.specs.SoundNets.{IsNet}
use Rattle.net_board.specs.Nodes.{NetOf, graph_in, kind_in, is_acting}

no_out : (p : Program) (k : PieceKind) (x : ExecKind) → is_acting k ≡ false → KindMayTouchOut p k x → ⊥
no_out p kind.Act x none may = absurd cc
no_out p kind.Branch x none may = absurd cc
no_out p kind.Hold x none may = absurd cc
no_out p kind.Start x none may = may
no_out p kind.Pass x none may = may
no_out p kind.Join x none may = may
no_out p kind.End x none may = may

no_class : (c : ClassTable) (k : PieceKind) (x : ExecKind) (n : ℕ) → is_acting k ≡ false → KindNeeds c k x n → ⊥
no_class c kind.Act x n none need = absurd cc
no_class c kind.Branch x n none need = absurd cc
no_class c kind.Hold x n none need = need
no_class c kind.Start x n none need = need
no_class c kind.Pass x n none need = need
no_class c kind.Join x n none need = need
no_class c kind.End x n none need = need

pub touch_none : (net : NetOf) (is_net : IsNet net) (node line : ℕ) → node < (graph_in net).nodes → is_acting (kind_in net node) ≡ false → net.touches node line ≡ false
touch_none net is_net node line exists none = ⊎_elim (λ (h : net.touches node line ≡ true). absurd (by line h)) (λ (h : net.touches node line ≡ false). h) (cases_Bool (net.touches node line))
  where
    by : (line : ℕ) → net.touches node line ≡ true → ⊥
    by zero touches = no_out net.program (kind_in net node) (exec_kind net.program node) none (is_net.sound_touches.may node exists touches)
    by (suc n) touches = no_class is_net.classes (kind_in net node) (exec_kind net.program node) (suc n) none ((is_net.sound_touches.classes node n exists).0 touches)

-- a piece touches one of the lines of a net
abbrev OneLine : NetOf → (node lines : ℕ) → Type 0
OneLine net node lines = (line : ℕ) × (line < lines) × (net.touches node line ≡ true)

pub touch_some : (net : NetOf) (is_net : IsNet net) (node : ℕ) → (kind_in net node ≡ kind.Act → OneLine net node (suc (class_count is_net.classes))) → (kind_in net node ≡ kind.Branch → OneLine net node (suc (class_count is_net.classes))) → (kind_in net node ≡ kind.Hold → OneLine net node (suc (class_count is_net.classes)))
    → is_acting (kind_in net node) ≡ true → OneLine net node net.routing.lines
touch_some net is_net node act branch hold acts = subst (OneLine net node) (sym is_net.own_routing.count) (by (kind_in net node) refl acts)
  where
    by : (k : PieceKind) → kind_in net node ≡ k → is_acting k ≡ true → OneLine net node (suc (class_count is_net.classes))
    by kind.Act is some = act is
    by kind.Branch is some = branch is
    by kind.Hold is some = hold is
    by kind.Start is some = absurd cc
    by kind.Pass is some = absurd cc
    by kind.Join is some = absurd cc
    by kind.End is some = absurd cc
