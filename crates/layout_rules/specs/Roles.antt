-- What a statement does to the nesting of DO loops and blocks of IF.
use Rattle.std.specs.Prelude.{Bool, true, false}
use Rattle.f77_tree.specs.declared.statements.Stmt.{Stmt}
use Rattle.f77_tree.specs.declared.statements.Stmt.TheVariants.{Program, Implicit, ImplicitNone, TypeOf, Dimension, Common, Equivalence, Init, Stop, GoTo, SignIf, BlockIf, ElseIf, Else, EndIf, Do, Sub, Back, End}
use Rattle.layout_rules.specs.declared.nesting.Role.{Role}
use Rattle.layout_rules.specs.declared.nesting.Role.TheVariants.{Declaration, BeginLoop, BeginBlock, NextArm, LastArm, EndBlock, Finish, Leave, Plain}

abbrev pub role_of : Stmt → Role
role_of Program = Declaration
role_of (Implicit ranges) = Declaration
role_of ImplicitNone = Declaration
role_of (TypeOf kind decls) = Declaration
role_of (Dimension decls) = Declaration
role_of (Common parts) = Declaration
role_of (Equivalence groups) = Declaration
role_of (Init parts) = Declaration
role_of (Sub name dummies) = Declaration
role_of (Do label variable first last step) = BeginLoop label
role_of (BlockIf condition) = BeginBlock
role_of (ElseIf condition) = NextArm
role_of Else = LastArm
role_of EndIf = EndBlock
role_of End = Finish
role_of Stop = Leave
role_of (GoTo label) = Leave
role_of (SignIf value negative zero positive) = Leave
role_of Back = Leave
role_of _ = Plain

-- at the end of such a statement no range ends; a declaration has no part in the loops, and at any other statement they may end
abbrev pub is_no_end : Role → Bool
is_no_end Declaration = false
is_no_end Plain = false
is_no_end _ = true

-- control may go to the label of such a statement
abbrev pub is_target_role : Role → Bool
is_target_role Declaration = false
is_target_role NextArm = false
is_target_role LastArm = false
is_target_role _ = true

-- ---- blocks of IF

abbrev pub begins_block : Role → Bool
begins_block BeginBlock = true
begins_block _ = false

abbrev pub ends_block : Role → Bool
ends_block EndBlock = true
ends_block _ = false

abbrev pub turns_arm : Role → Bool
turns_arm NextArm = true
turns_arm LastArm = true
turns_arm _ = false
