use Rattle.std.proofs.Common.{◌≡◌, ℕ, zero, suc, true, refl}
use Rattle.f77_tree.specs.declared.programs.ExecKind.{ExecKind}
use Rattle.f77_tree.specs.declared.programs.Program.{Program}
use Rattle.alias_classes.specs.Classes.{ClassTable}
use Rattle.cfg_build.specs.declared.pieces.PieceKind.{PieceKind}
use Rattle.cfg_build.specs.declared.pieces.PieceKind.TheVariants.{Start, Act, Pass, Branch, Join, Hold, End}
use Rattle.dep_routing.specs.Touches.{Touches, KindNeeds, KindNeedsOut, piece_kind, exec_kind}
use Rattle.const_prop.specs.Closed.{is_action}
use Rattle.constant_laws.proofs.laws.own_touches_route.Goals as goal

out_action : (p : Program) (c : ClassTable) (node : ℕ) (kind : PieceKind) (x : ExecKind) → KindNeedsOut p c node kind x → is_action kind ≡ true
out_action p c node Act x is = refl
out_action p c node Branch x is = refl
out_action p c node Hold x is = refl
out_action p c node Start x is = absurd is
out_action p c node Pass x is = absurd is
out_action p c node Join x is = absurd is
out_action p c node End x is = absurd is

class_action : (c : ClassTable) (kind : PieceKind) (x : ExecKind) (n : ℕ) → KindNeeds c kind x n → is_action kind ≡ true
class_action c Act x n is = refl
class_action c Branch x n is = refl
class_action c Hold x n is = absurd is
class_action c Start x n is = absurd is
class_action c Pass x n is = absurd is
class_action c Join x n is = absurd is
class_action c End x n is = absurd is

touched_action : (p : Program) (c : ClassTable) (node line : ℕ) → Touches p c node line → is_action (piece_kind p node) ≡ true
touched_action p c node zero is = out_action p c node (piece_kind p node) (exec_kind p node) is
touched_action p c node (suc n) is = class_action c (piece_kind p node) (exec_kind p node) (suc n) is

pub returns : goal.returns
returns c = λ p t touches tree r well classes is_tree are routing. record {
  well_formed = well;
  classes = classes;
  is_tree = is_tree;
  routing = routing;
  needs = λ node n inside needs. (are node (suc n) inside).1 needs;
  actions = λ node line inside is. touched_action p t node line ((are node line inside).0 is);
}
