-- Executables that write nothing and do not end the run.
use Rattle.f77_tree.specs.declared.programs.ExecKind.{ExecKind}
use Rattle.f77_tree.specs.declared.programs.ExecKind.TheVariants.{Print, End}

abbrev pub IsSilent : ExecKind → Type 0
IsSilent (Print items next) = ⊥
IsSilent End = ⊥
IsSilent _ = Unit {0}
