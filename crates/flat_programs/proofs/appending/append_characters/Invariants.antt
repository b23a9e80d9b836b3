use Rattle.std.proofs.Common.{◌≡◌, ◌++◌, take}
use Rattle.std.specs.Prelude.{flat_map, codes}
use Rattle.f77_tree.specs.StatementGrammar.{character_text}
use Rattle.flat_programs.proofs.appending.append_characters.Given as goal

abbrev pub invariant-loop-c : goal.invariant-loop-c
invariant-loop-c l = l.out.items ≡ (l.fn.out.items ++ codes "'") ++ flat_map character_text (take l.c-index l.characters)
