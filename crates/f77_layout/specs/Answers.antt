-- What the layout answers.
use Rattle.std.specs.Prelude.{◌≡◌, Result, Ok, Err}
use Rattle.f77_tree.specs.declared.programs.Program.{Program}
use Rattle.layout_rules.specs.declared.layout_end.LayoutEnd.{LayoutEnd}
use Rattle.layout_rules.specs.declared.layout_end.LayoutEnd.TheVariants.{NoMemory}

-- the answer is what is laid out, or memory ended
abbrev pub IsLaidAs : Result Program LayoutEnd → Result Program LayoutEnd → Type 0
IsLaidAs laid (Ok program) = laid ≡ Ok program
IsLaidAs laid (Err NoMemory) = Unit {0}
IsLaidAs laid (Err end) = laid ≡ Err end
