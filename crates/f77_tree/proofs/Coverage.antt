-- Each word of a well-formed program is a word of some name.
use Rattle.std.proofs.Common.{◌<◌, pos, List, length}
use Rattle.std.specs.Prelude.{◌≤ℤ◌}
use Rattle.f77_tree.specs.declared.programs.NameInfo.{NameInfo}
use Rattle.f77_tree.specs.Value.{place_of}
use Rattle.f77_tree.specs.Places.{Equation, end_of}

-- an equation between two names of the table whose words overlap or meet
pub record Touches (names : List NameInfo) (e : Equation) : Type 0 where
  pub from_known : e.from < length names
  pub to_known : e.to < length names
  pub from_meets : pos (place_of names e.to) ≤ℤ end_of names e.from
  pub to_meets : pos (place_of names e.from) ≤ℤ end_of names e.to
