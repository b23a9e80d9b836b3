-- What the tests of statements are by the statement's role.
use Rattle.std.proofs.Common.{◌≡◌, refl}
use Rattle.f77_tree.specs.declared.statements.Stmt.{Stmt}
use Rattle.f77_tree.specs.declared.statements.Stmt.TheVariants.{BlockIf, Else, EndIf}
use Rattle.layout_rules.specs.Labels.{is_arm}
use Rattle.layout_rules.specs.Jumps.{is_block_if, is_end_if}
use Rattle.layout_rules.specs.Roles.{role_of, begins_block, ends_block, turns_arm}

pub is_block_if-role : (stmt : Stmt) → is_block_if stmt ≡ begins_block (role_of stmt)
is_block_if-role (BlockIf condition) = refl
is_block_if-role _ = refl

pub is_end_if-role : (stmt : Stmt) → is_end_if stmt ≡ ends_block (role_of stmt)
is_end_if-role EndIf = refl
is_end_if-role _ = refl

pub is_arm-role : (stmt : Stmt) → is_arm stmt ≡ turns_arm (role_of stmt)
is_arm-role Else = refl
is_arm-role _ = refl
