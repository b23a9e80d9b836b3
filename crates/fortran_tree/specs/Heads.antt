-- What statements of a kind are (ANSI X3.9-1978, sections 3.5, 7 and 11.5).
use Rattle.std.specs.Prelude.{◌&&◌, Bool, true, false, not}
use Rattle.fortran_tree.specs.declared.heads.Head.{Head}
use Rattle.fortran_tree.specs.declared.heads.Head.TheVariants.{Program, Subroutine, Function, BlockData, ImplicitNone, Implicit, Declare, Dimension, Common, Equivalence, Parameter, External, Intrinsic, Save, Data, Assign, GoTo, Call, Return, Stop, Continue, Print, Read}

-- it says what unit begins with it
abbrev pub begins_unit : Head → Bool
begins_unit Program = true
begins_unit Subroutine = true
begins_unit (Function kind) = true
begins_unit BlockData = true
begins_unit _ = false

-- it only says what names mean
abbrev pub is_declaration : Head → Bool
is_declaration ImplicitNone = true
is_declaration Implicit = true
is_declaration (Declare kind) = true
is_declaration Dimension = true
is_declaration Common = true
is_declaration Equivalence = true
is_declaration Parameter = true
is_declaration External = true
is_declaration Intrinsic = true
is_declaration Save = true
is_declaration _ = false

-- it may depend on the condition of a logical IF
abbrev pub is_action : Head → Bool
is_action Assign = true
is_action GoTo = true
is_action Call = true
is_action Return = true
is_action Stop = true
is_action Continue = true
is_action Print = true
is_action Read = true
is_action _ = false

abbrev pub is_data : Head → Bool
is_data Data = true
is_data _ = false

-- it is neither the first statement of a unit nor a declaration nor DATA
abbrev pub is_executable : Head → Bool
is_executable head = not (begins_unit head) && not (is_declaration head) && not (is_data head)
