-- A program with READ, an array, COMMON, EQUIVALENCE, DATA and PRINT:
--     1       COMMON /C/ J, A(2)
--     2       EQUIVALENCE (K, A(2))
--     3       DATA I /3/, A /2*7/
--     4       READ *, J
--     5       A(J) = A(J) + 1
--     6       PRINT *, A(2), 'OK'
--     7       END
-- whose names first appear in the order I, J, A, K.
use Rattle.std.specs.Prelude.{ℕ, ℤ, pos, List, [], ◌∷◌, Option, Some, codes}
use Rattle.op_table.specs.declared.Op.TheVariants.{Add}
use Rattle.f77_tree.specs.declared.declarations.Kind.TheVariants.{Integer}
use Rattle.f77_tree.specs.declared.declarations.CommonPart.{CommonPart}
use Rattle.f77_tree.specs.declared.declarations.Decl.{Decl}
use Rattle.f77_tree.specs.declared.declarations.Dim.{Dim}
use Rattle.f77_tree.specs.declared.declarations.InitPart.{InitPart}
use Rattle.f77_tree.specs.declared.declarations.InitValue.{InitValue}
use Rattle.f77_tree.specs.declared.declarations.Lit.TheVariants.{Int}
use Rattle.f77_tree.specs.declared.declarations.Member.{Member}
use Rattle.f77_tree.specs.declared.expressions.Access.{Access}
use Rattle.f77_tree.specs.declared.expressions.Expr.{Expr}
use Rattle.f77_tree.specs.declared.expressions.Expr.TheVariants.{Const, Input, Read, Apply}
use Rattle.f77_tree.specs.declared.programs.Exec.{Exec}
use Rattle.f77_tree.specs.declared.programs.ExecKind.{ExecKind}
use Rattle.f77_tree.specs.declared.programs.ExecKind.TheVariants.{Assign, Print, End}
use Rattle.f77_tree.specs.declared.programs.Item.{Item}
use Rattle.f77_tree.specs.declared.programs.Item.TheVariants.{Value, Chars}
use Rattle.f77_tree.specs.declared.programs.NameInfo.{NameInfo}
use Rattle.f77_tree.specs.declared.programs.Program.{Program}

-- ---- declarations

abbrev pub two : Dim
two = record { lo = pos 1; hi = pos 2 }

abbrev pub scalar : (letter place : ℕ) → NameInfo
scalar letter place = record { name = letter ∷ []; kind = Integer; dims = []; place = place }

-- J begins the block, A(1) and A(2) follow, and A(2) is K
abbrev pub names : List NameInfo
names = scalar 73 0 ∷ scalar 74 1 ∷ record { name = 65 ∷ []; kind = Integer; dims = two ∷ []; place = 2 } ∷ scalar 75 3 ∷ []

abbrev pub block : Option (List ℕ)
block = Some (67 ∷ [])

abbrev pub decls : List Decl
decls = record { name = 74 ∷ []; dims = [] } ∷ record { name = 65 ∷ []; dims = two ∷ [] } ∷ []

abbrev pub commons : List CommonPart
commons = record { block = block; decls = decls } ∷ []

abbrev pub member : (letter : ℕ) → List ℤ → Member
member letter subs = record { name = letter ∷ []; subs = subs }

abbrev pub group : List Member
group = member 75 [] ∷ member 65 (pos 2 ∷ []) ∷ []

abbrev pub groups : List (List Member)
groups = group ∷ []

abbrev pub constant : (times value : ℕ) → InitValue
constant times value = record { times = times; value = Int (pos value) }

abbrev pub inits : List InitPart
inits = record { items = member 73 [] ∷ []; values = constant 1 3 ∷ [] } ∷ record { items = member 65 [] ∷ []; values = constant 2 7 ∷ [] } ∷ []

-- ---- executables

abbrev pub variable : ℕ → Access
variable name = record { name = name; subs = [] }

abbrev pub element : Expr → Access
element sub = record { name = 2; subs = sub ∷ [] }

-- A(J)
abbrev pub element_j : Access
element_j = element (Read (variable 1))

abbrev pub exec : (line : ℕ) → ExecKind → Exec
exec line kind = record { line = line; kind = kind }

abbrev pub take : ExecKind
take = Assign (variable 1) Input 1

-- A(J) = A(J) + 1
abbrev pub add : ExecKind
add = Assign element_j (Apply Add (Read element_j ∷ Const (pos 1) ∷ [])) 2

abbrev pub text : List ℕ
text = codes "OK"

abbrev pub items : List Item
items = Value (Read (element (Const (pos 2)))) ∷ Chars text ∷ []

abbrev pub print : ExecKind
print = Print items 3

abbrev pub execs : List Exec
execs = exec 4 take ∷ exec 5 add ∷ exec 6 print ∷ exec 7 End ∷ []

abbrev pub whole : Program
whole = record { names = names; words = 4; initial = pos 3 ∷ pos 0 ∷ pos 7 ∷ pos 7 ∷ []; commons = commons; groups = groups; inits = inits; execs = execs; loops = 0 }
