use Rattle.std.proofs.Common.{◌≡◌, false, take}
use Rattle.std.specs.List.{list_any}
use Rattle.flat_programs.specs.Declarations.{same_block}
use Rattle.flat_programs.proofs.declarations.is_continued.Given as goal

abbrev pub invariant-loop-j : goal.invariant-loop-j
invariant-loop-j l = list_any (λ earlier. same_block earlier.block l.part.block) (take l.j l.parts) ≡ false
