-- What is known to trap can trap.
use Rattle.std.proofs.Common.{ℕ, ℤ, List, [], ◌∷◌, Option, inl, inr}
use Rattle.op_table.specs.declared.Op.{Op}
use Rattle.op_table.specs.Known.{CanTrap}
use Rattle.op_table.proofs.Laws.{known_may}
use Rattle.f77_tree.specs.declared.declarations.Dim.{Dim}
use Rattle.f77_tree.specs.declared.expressions.Expr.{Expr, Row_of-Expr, end_of-Expr, more_of-Expr}
use Rattle.f77_tree.specs.declared.expressions.Expr.TheVariants.{Const, Truth, Input, Read, Read', Apply'}
use Rattle.f77_tree.specs.declared.programs.ExecKind.{ExecKind}
use Rattle.f77_tree.specs.declared.programs.ExecKind.TheVariants.{Assign, Print, Pass as Passing, Test, Sign, Pick, DoStart, DoNext, End as Ending}
use Rattle.f77_tree.specs.declared.programs.Item.{Item}
use Rattle.f77_tree.specs.declared.programs.Item.TheVariants.{Value, Chars}
use Rattle.f77_tree.specs.declared.programs.NameInfo.{NameInfo}
use Rattle.f77_tree.specs.declared.programs.Program.{Program}
use Rattle.f77_tree.specs.Known.{ExecMayTrap, ItemMayTrap, MayTrap, SomeMayTrap, SubscriptsMayTrap, none, row_known}
use Rattle.f77_tree.specs.Value.{dims_of}
use Rattle.alias_classes.specs.Classes.{ClassTable}
use Rattle.cfg_build.specs.declared.pieces.PieceKind.{PieceKind}
use Rattle.cfg_build.specs.declared.pieces.PieceKind.TheVariants.{Start, Act, Pass, Branch, Join, Hold, End}
use Rattle.dep_routing.specs.KnownTraps.{TrapsAt, IsKnownToTrap, SomeKnownToTrap, SubscriptsKnownToTrap, ItemKnownToTrap, ExecKnownToTrap, KindKnownToTrap}
use Rattle.dep_routing.specs.Touches.{KindNeedsOutBy}
use Rattle.dep_routing.proofs.PieceTouches.{branch-by}

pub operator_known : (op : Op) (operands : List (Option ℤ)) → TrapsAt op operands → CanTrap op operands
operator_known op operands traps = record { args = traps.args; words = known_may operands traps.args traps.are_known; traps = traps.traps }

module _ (names : List NameInfo) where
  mutual
    expression_known : (e : Expr) → IsKnownToTrap names e → MayTrap names e
    expression_known (Const z) traps = absurd traps
    expression_known (Truth b) traps = absurd traps
    expression_known Input traps = tt
    expression_known (Read' name shape subs) traps = subscripts_known (dims_of names name) _ subs traps
    expression_known (Apply' op shape args) (inl some) = inl (row_known_may _ args some)
    expression_known (Apply' op shape args) (inr here) = inr (operator_known op (row_known args) here)

    row_known_may : (n : _) (row : Row_of-Expr n) → SomeKnownToTrap names row → SomeMayTrap none names row
    row_known_may n end_of-Expr some = absurd some
    row_known_may n (more_of-Expr e rest) (inl here) = inl (expression_known e here)
    row_known_may n (more_of-Expr e rest) (inr later) = inr (row_known_may _ rest later)

    subscripts_known : (dims : List Dim) (n : _) (row : Row_of-Expr n) → SubscriptsKnownToTrap names dims row → SubscriptsMayTrap none names dims row
    subscripts_known dims n end_of-Expr some = absurd some
    subscripts_known [] n (more_of-Expr e rest) (inl here) = inl (expression_known e here)
    subscripts_known [] n (more_of-Expr e rest) (inr later) = inr (subscripts_known [] _ rest later)
    subscripts_known (dim ∷ dims) n (more_of-Expr e rest) (inl (inl inside)) = inl (λ x. x, inl (expression_known e inside))
    subscripts_known (dim ∷ dims) n (more_of-Expr e rest) (inl (inr outside)) = inl (λ x. x, inr (operator_known _ _ outside))
    subscripts_known (dim ∷ dims) n (more_of-Expr e rest) (inr later) = inr (subscripts_known dims _ rest later)

  item_known : (item : Item) → ItemKnownToTrap names item → ItemMayTrap names item
  item_known (Value e) traps = expression_known e traps
  item_known (Chars text) traps = traps

  pub exec_known : (kind : ExecKind) → ExecKnownToTrap names kind → ExecMayTrap names kind
  exec_known (Assign target e next) (inl there) = inl (expression_known (Read target) there)
  exec_known (Assign target e next) (inr here) = inr (expression_known e here)
  exec_known (Print items next) some = (some.0, some.1, some.2, some.3, item_known some.1 some.4)
  exec_known (Passing next) traps = traps
  exec_known (Test cond if_true if_false) traps = expression_known cond traps
  exec_known (Sign e neg equal above) traps = expression_known e traps
  exec_known (Pick e targets other) traps = expression_known e traps
  exec_known (DoStart loop_no var first last step body exit) (inl one) = inl (expression_known first one)
  exec_known (DoStart loop_no var first last step body exit) (inr (inl two)) = inr (inl (expression_known last two))
  exec_known (DoStart loop_no var first last step body exit) (inr (inr (inl three))) = inr (inr (inl (expression_known step three)))
  exec_known (DoStart loop_no var first last step body exit) (inr (inr (inr at_zero))) = inr (inr (inr (operator_known _ _ at_zero)))
  exec_known (DoNext loop_no var body exit) traps = traps
  exec_known Ending traps = traps

-- a piece that is known to trap needs the line of output
pub known_needs : (p : Program) (c : ClassTable) (node : ℕ) (may : Type 0) (exec : ExecKind) → (ExecKnownToTrap p.names exec → may) → (kind : PieceKind) → KindKnownToTrap p.names kind exec → KindNeedsOutBy p c node may kind exec
known_needs p c node may exec tells Start traps = traps
known_needs p c node may exec tells Pass traps = traps
known_needs p c node may exec tells Join traps = traps
known_needs p c node may exec tells Hold traps = tt
known_needs p c node may exec tells Act traps = inr (inr (tells traps))
known_needs p c node may exec tells Branch traps = inl (branch-by p c node (ExecKnownToTrap p.names exec) may tells exec traps)
known_needs p c node may exec tells End traps = traps
