-- Trees with one fault each.
use Rattle.std.specs.Prelude.{ℕ, pos, true, List, [], ◌∷◌}
use Rattle.op_table.specs.declared.Op.TheVariants.{Add}
use Rattle.f77_tree.specs.declared.declarations.Kind.{Kind}
use Rattle.f77_tree.specs.declared.declarations.Kind.TheVariants.{Integer, Logical}
use Rattle.f77_tree.specs.declared.declarations.InitPart.{InitPart}
use Rattle.f77_tree.specs.declared.declarations.Lit.TheVariants.{Int}
use Rattle.f77_tree.specs.declared.expressions.Expr.{Expr}
use Rattle.f77_tree.specs.declared.expressions.Expr.TheVariants.{Const, Truth, Input, Apply}
use Rattle.f77_tree.specs.declared.programs.Exec.{Exec}
use Rattle.f77_tree.specs.declared.programs.ExecKind.{ExecKind}
use Rattle.f77_tree.specs.declared.programs.ExecKind.TheVariants.{Pass, Pick, DoStart, DoNext, End}
use Rattle.f77_tree.specs.declared.programs.Item.{Item}
use Rattle.f77_tree.specs.declared.programs.Item.TheVariants.{Value}
use Rattle.f77_tree.specs.declared.programs.NameInfo.{NameInfo}

abbrev pub scalar : (letter : ℕ) → Kind → (place : ℕ) → NameInfo
scalar letter kind place = record { name = letter ∷ []; kind = kind; dims = []; place = place }

-- I, an integer, and the logical L
abbrev pub names : List NameInfo
names = scalar 73 Integer 0 ∷ scalar 76 Logical 1 ∷ []

abbrev pub exec : ExecKind → Exec
exec kind = record { line = 1; kind = kind }

abbrev pub one : Expr
one = Const (pos 1)

-- a constant above the greatest one, which no source can write
abbrev pub too_great : Expr
too_great = Const (pos 2147483648)

-- .TRUE. + 1
abbrev pub truth_added : Expr
truth_added = Apply Add (Truth true ∷ one ∷ [])

-- a data word that is printed
abbrev pub printed_data : Item
printed_data = Value Input

-- a computed GO TO without a label
abbrev pub nowhere : ExecKind
nowhere = Pick one [] 0

abbrev pub two_ends : List Exec
two_ends = exec End ∷ exec End ∷ []

-- two DOs, one after the other, whose numbers fall
abbrev pub falling : List Exec
falling = exec (DoStart 1 0 one one one 1 2) ∷ exec (DoNext 1 0 1 2) ∷ exec (DoStart 0 0 one one one 3 4) ∷ exec (DoNext 0 0 3 4) ∷ exec End ∷ []

-- a DO that is begun and incremented with different variables
abbrev pub two_variables : List Exec
two_variables = exec (DoStart 0 0 one one one 1 2) ∷ exec (DoNext 0 1 1 2) ∷ exec End ∷ []

-- a jump into the range of a DO
abbrev pub jumping : List Exec
jumping = exec (Pass 2) ∷ exec (DoStart 0 0 one one one 2 4) ∷ exec (Pass 3) ∷ exec (DoNext 0 0 2 4) ∷ exec End ∷ []

-- two names at one word, without an equation between them
abbrev pub sharing : List NameInfo
sharing = scalar 73 Integer 0 ∷ scalar 74 Integer 0 ∷ []

-- DATA that gives a value to I
abbrev pub gift : InitPart
gift = record { items = record { name = 73 ∷ []; subs = [] } ∷ []; values = record { times = 1; value = Int (pos 5) } ∷ [] }
