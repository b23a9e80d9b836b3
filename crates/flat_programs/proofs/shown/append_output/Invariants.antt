use Rattle.std.proofs.Common.{◌≡◌, ◌++◌, map, take}
use Rattle.std.specs.Prelude.{codes}
use Rattle.f77_tree.specs.StatementGrammar.{after_commas, item_text}
use Rattle.flat_programs.specs.Shown.{written_item}
use Rattle.flat_programs.proofs.shown.append_output.Given as goal

abbrev pub invariant-loop-item : goal.invariant-loop-item
invariant-loop-item l = l.out.items ≡ (l.fn.out.items ++ codes "PRINT *") ++ after_commas (map item_text (map (written_item l.p.names) (take l.item-index l.items)))
