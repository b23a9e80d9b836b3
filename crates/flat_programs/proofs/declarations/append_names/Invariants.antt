use Rattle.std.proofs.Common.{◌≡◌, ◌++◌, map, take}
use Rattle.f77_tree.specs.StatementGrammar.{after_commas, decl_text}
use Rattle.flat_programs.specs.Declarations.{name_alone}
use Rattle.flat_programs.proofs.declarations.append_names.Given as goal

abbrev pub invariant-loop-decl : goal.invariant-loop-decl
invariant-loop-decl l = l.out.items ≡ l.fn.out.items ++ after_commas (map decl_text (map name_alone (take l.decl-index l.part.decls)))
