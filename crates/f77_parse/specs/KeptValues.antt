-- The values that are kept of what is written: those of the grammar, but for a number that is out of range, in whose place
-- 0 is kept.
use Rattle.std.specs.Prelude.{ℕ, ℤ, pos, Bool, ◌||◌, ◌==◌, if◌then◌else◌, List, map, flat_map, Option, Some, None}
use Rattle.f77_tree.specs.declared.declarations.Dim.{Dim}
use Rattle.f77_tree.specs.declared.declarations.Decl.{Decl}
use Rattle.f77_tree.specs.declared.declarations.CommonPart.{CommonPart}
use Rattle.f77_tree.specs.declared.declarations.Member.{Member}
use Rattle.f77_tree.specs.declared.declarations.Lit.{Lit}
use Rattle.f77_tree.specs.declared.declarations.Lit.TheVariants.{Int, Truth}
use Rattle.f77_tree.specs.declared.declarations.InitValue.{InitValue}
use Rattle.f77_tree.specs.declared.declarations.InitPart.{InitPart}
use Rattle.f77_tree.specs.declared.statements.RawExpr.{RawExpr}
use Rattle.f77_tree.specs.declared.statements.RawItem.{RawItem}
use Rattle.f77_tree.specs.declared.statements.RawItem.TheVariants.{Value, Chars}
use Rattle.f77_tree.specs.declared.statements.Stmt.{Stmt}
use Rattle.f77_tree.specs.declared.statements.Stmt.TheVariants.{Program, Implicit, ImplicitNone, TypeOf, Dimension, Common, Equivalence, Init, Assign, Print, Take, Continue, Stop, GoTo, PickGoTo, SignIf, ThenIf, BlockIf, ElseIf, Else, EndIf, Do, Sub, CallTo, Back, End}
use Rattle.f77_tree.specs.Grammar.{Written, number_of}
use Rattle.f77_tree.specs.StatementGrammar.{SignedDigits, signed_value, is_great, is_bad_label, WrittenDim, WrittenDecl, WrittenPart, block_of, letters_of, WrittenMember, WrittenConstant, WrittenValue, WrittenData, WrittenItem, WrittenStatement, names_of}
use Rattle.f77_expr.specs.Answers.{kept}

-- a number, or 0 where it is out of range
abbrev pub or_zero : (is_out : Bool) → ℕ → ℕ
or_zero is_out n = if is_out then 0 else n

abbrev pub kept_label : List ℕ → ℕ
kept_label digits = or_zero (is_bad_label digits) (number_of digits)

abbrev pub kept_number : List ℕ → ℕ
kept_number digits = or_zero (is_great digits) (number_of digits)

abbrev pub kept_signed : SignedDigits → ℤ
kept_signed n = signed_value n.sign (kept_number n.digits)

abbrev pub kept_low : Option SignedDigits → ℤ
kept_low None = pos 1
kept_low (Some n) = kept_signed n

abbrev pub kept_dim : WrittenDim → Dim
kept_dim d = record { lo = kept_low d.low; hi = kept_signed d.high }

abbrev pub kept_decl : WrittenDecl → Decl
kept_decl d = record { name = d.name; dims = map kept_dim d.dims }

abbrev pub kept_part : WrittenPart → CommonPart
kept_part p = record { block = block_of p.block; decls = map kept_decl p.decls }

abbrev pub kept_member : WrittenMember → Member
kept_member m = record { name = m.name; subs = map kept_signed m.subs }

abbrev pub kept_constant : WrittenConstant → Lit
kept_constant (WrittenConstant.Whole n) = Int (kept_signed n)
kept_constant (WrittenConstant.Logical_value b) = Truth b

-- a number above the greatest constant is no repeat, nor is 0
abbrev pub is_bad_repeat : List ℕ → Bool
is_bad_repeat digits = is_great digits || (number_of digits == 0)

abbrev pub kept_times : Option (List ℕ) → ℕ
kept_times None = 1
kept_times (Some digits) = or_zero (is_bad_repeat digits) (number_of digits)

abbrev pub kept_value : WrittenValue → InitValue
kept_value v = record { times = kept_times v.times; value = kept_constant v.constant }

abbrev pub kept_data : WrittenData → InitPart
kept_data d = record { items = map kept_member d.items; values = map kept_value d.values }

abbrev pub kept_item : WrittenItem → RawItem
kept_item (WrittenItem.Expression w) = Value (kept w)
kept_item (WrittenItem.Characters characters) = Chars characters

abbrev pub kept_step : Option Written → Option RawExpr
kept_step None = None
kept_step (Some w) = Some (kept w)

abbrev pub kept_statement : WrittenStatement → Stmt
kept_statement (WrittenStatement.program n) = Program
kept_statement WrittenStatement.implicit_none = ImplicitNone
kept_statement (WrittenStatement.implicit letters) = Implicit (flat_map letters_of letters)
kept_statement (WrittenStatement.typed kind decls) = TypeOf kind (map kept_decl decls)
kept_statement (WrittenStatement.dimension decls) = Dimension (map kept_decl decls)
kept_statement (WrittenStatement.common parts) = Common (map kept_part parts)
kept_statement (WrittenStatement.equivalence groups) = Equivalence (map (λ members. map kept_member members) groups)
kept_statement (WrittenStatement.init parts) = Init (map kept_data parts)
kept_statement (WrittenStatement.assignment target value) = Assign (kept target) (kept value)
kept_statement (WrittenStatement.print form items) = Print (map kept_item items)
kept_statement (WrittenStatement.read form targets) = Take (map kept targets)
kept_statement WrittenStatement.continue = Continue
kept_statement (WrittenStatement.stop shown) = Stop
kept_statement (WrittenStatement.go_to label) = GoTo (kept_label label)
kept_statement (WrittenStatement.computed_go_to labels comma w) = PickGoTo (map kept_label labels) (kept w)
kept_statement (WrittenStatement.arithmetic_if w negative zero positive) = SignIf (kept w) (kept_label negative) (kept_label zero) (kept_label positive)
kept_statement (WrittenStatement.logical_if w s) = ThenIf (kept w) (kept_statement s)
kept_statement (WrittenStatement.block_if w) = BlockIf (kept w)
kept_statement (WrittenStatement.else_if w) = ElseIf (kept w)
kept_statement WrittenStatement.else = Else
kept_statement WrittenStatement.end_if = EndIf
kept_statement (WrittenStatement.do_loop label comma variable first last step) = Do (kept_label label) variable (kept first) (kept last) (kept_step step)
kept_statement (WrittenStatement.subroutine name dummies) = Sub name (names_of dummies)
kept_statement (WrittenStatement.call_of name arguments) = CallTo name (names_of arguments)
kept_statement WrittenStatement.go_back = Back
kept_statement WrittenStatement.end = End
