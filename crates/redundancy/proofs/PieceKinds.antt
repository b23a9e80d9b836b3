-- What the kinds of pieces compute and write.
use Rattle.std.proofs.Common.{◌≡◌, List, [], Option, refl, ap, ◌∙◌}
use Rattle.std.specs.Prelude.{Some, None, slice_get, flat_map}
use Rattle.f77_tree.specs.declared.programs.Exec.{Exec}
use Rattle.f77_tree.specs.declared.programs.ExecKind.{ExecKind}
use Rattle.f77_tree.specs.declared.programs.ExecKind.TheVariants as exec
use Rattle.cfg_build.specs.declared.pieces.Piece.{Piece}
use Rattle.cfg_build.specs.declared.pieces.PieceKind.{PieceKind}
use Rattle.cfg_build.specs.declared.pieces.PieceKind.TheVariants.{Start, Act, Pass, Branch, Join, Hold, End}
use Rattle.cfg_build.specs.Passes.{kind_in}
use Rattle.redundancy.specs.Candidates.{subexpressions}
use Rattle.redundancy.specs.Computed.{evaluated, computed_by, kind_of_piece}

end_evaluates : (kind : PieceKind) → evaluated kind exec.End ≡ []
end_evaluates Start = refl
end_evaluates Act = refl
end_evaluates Pass = refl
end_evaluates Branch = refl
end_evaluates Join = refl
end_evaluates Hold = refl
end_evaluates End = refl

pub nothing_of_none : (execs : List Exec) (piece : Piece) → slice_get execs piece.exec ≡ None → computed_by execs piece ≡ []
nothing_of_none execs piece none = ap (λ (o : Option Exec). flat_map subexpressions (evaluated piece.kind (kind_in o))) none ∙ ap (flat_map subexpressions) (end_evaluates piece.kind)

other_evaluates : (kind : PieceKind) (k : ExecKind) → (kind ≡ Act → ⊥) → (kind ≡ Branch → ⊥) → evaluated kind k ≡ []
other_evaluates Start k a b = refl
other_evaluates Act k a b = absurd (a refl)
other_evaluates Pass k a b = refl
other_evaluates Branch k a b = absurd (b refl)
other_evaluates Join k a b = refl
other_evaluates Hold k a b = refl
other_evaluates End k a b = refl

pub nothing_of_others : (execs : List Exec) (piece : Piece) → (piece.kind ≡ Act → ⊥) → (piece.kind ≡ Branch → ⊥) → computed_by execs piece ≡ []
nothing_of_others execs piece a b = ap (flat_map subexpressions) (other_evaluates piece.kind (kind_of_piece execs piece) a b)

-- a piece of an executable with this kind
pub computed_of : (execs : List Exec) (piece : Piece) (x : Exec) → slice_get execs piece.exec ≡ Some x → computed_by execs piece ≡ flat_map subexpressions (evaluated piece.kind x.kind)
computed_of execs piece x is = ap (λ (o : Option Exec). flat_map subexpressions (evaluated piece.kind (kind_in o))) is
