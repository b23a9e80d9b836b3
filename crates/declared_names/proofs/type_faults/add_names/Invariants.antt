use Rattle.std.proofs.Common.{◌≡◌, ◌++◌, map, drop}
use Rattle.std.specs.Prelude.{bytes_eq}
use Rattle.layout_rules.specs.Faults.{has_repeat}
use Rattle.declared_names.proofs.type_faults.add_names.Given as goal

abbrev pub invariant-loop-decl : goal.invariant-loop-decl
invariant-loop-decl l = record {
  again : has_repeat bytes_eq l.fn.typed.keys (map (λ decl. decl.name) l.decls) ≡ has_repeat bytes_eq l.typed.keys (map (λ decl. decl.name) (drop l.decl-index l.decls));
  more : l.typed.keys ++ map (λ decl. decl.name) (drop l.decl-index l.decls) ≡ l.fn.typed.keys ++ map (λ decl. decl.name) l.decls;
}
