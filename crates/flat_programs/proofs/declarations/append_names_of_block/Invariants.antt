use Rattle.std.proofs.Common.{◌≡◌, ◌++◌, map, take}
use Rattle.f77_tree.specs.StatementGrammar.{after_commas, decl_text}
use Rattle.flat_programs.specs.Declarations.{block_decls}
use Rattle.flat_programs.proofs.declarations.append_names_of_block.Given as goal

abbrev pub invariant-loop-part : goal.invariant-loop-part
invariant-loop-part l = l.out.items ≡ l.fn.out.items ++ after_commas (map decl_text (block_decls (take l.part-index l.parts) l.block))
