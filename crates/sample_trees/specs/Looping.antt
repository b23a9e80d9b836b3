-- A program whose DATA gives 5 to I, and whose DO over I runs a range of one CONTINUE.
use Rattle.std.specs.Prelude.{pos, List, [], ◌∷◌}
use Rattle.f77_tree.specs.declared.declarations.Kind.TheVariants.{Integer}
use Rattle.f77_tree.specs.declared.declarations.Lit.TheVariants.{Int}
use Rattle.f77_tree.specs.declared.declarations.Member.{Member}
use Rattle.f77_tree.specs.declared.declarations.InitValue.{InitValue}
use Rattle.f77_tree.specs.declared.declarations.InitPart.{InitPart}
use Rattle.f77_tree.specs.declared.expressions.Expr.{Expr}
use Rattle.f77_tree.specs.declared.expressions.Expr.TheVariants.{Const}
use Rattle.f77_tree.specs.declared.programs.NameInfo.{NameInfo}
use Rattle.f77_tree.specs.declared.programs.Exec.{Exec}
use Rattle.f77_tree.specs.declared.programs.ExecKind.{ExecKind}
use Rattle.f77_tree.specs.declared.programs.ExecKind.TheVariants.{Pass, DoStart, DoNext, End}
use Rattle.f77_tree.specs.declared.programs.Program.{Program}

abbrev pub names : List NameInfo
names = record { name = 73 ∷ []; kind = Integer; dims = []; place = 0 } ∷ []

abbrev pub exec : ExecKind → Exec
exec kind = record { line = 1; kind = kind }

abbrev pub one : Expr
one = Const (pos 1)

abbrev pub execs : List Exec
execs = exec (DoStart 0 0 one one one 1 3) ∷ exec (Pass 2) ∷ exec (DoNext 0 0 1 3) ∷ exec End ∷ []

abbrev pub item : Member
item = record { name = 73 ∷ []; subs = [] }

abbrev pub given : InitValue
given = record { times = 1; value = Int (pos 5) }

abbrev pub inits : List InitPart
inits = record { items = item ∷ []; values = given ∷ [] } ∷ []

abbrev pub looping : Program
looping = record { names = names; words = 1; initial = pos 5 ∷ []; commons = []; groups = []; inits = inits; execs = execs; loops = 1 }
