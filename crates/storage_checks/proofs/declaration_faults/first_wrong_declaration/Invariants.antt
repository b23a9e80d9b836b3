use Rattle.std.proofs.Common.{◌≡◌, take, drop}
use Rattle.layout_rules.specs.Faults.{first_line, first_after}
use Rattle.layout_rules.specs.StorageFaults.{HasDeclared}
use Rattle.layout_rules.specs.StorageLines.{declares_wrongly}
use Rattle.storage_checks.proofs.declaration_faults.first_wrong_declaration.Given as goal

abbrev pub invariant-loop-s : goal.invariant-loop-s
invariant-loop-s l = record {
  declared : HasDeclared l.declared.arrays l.declared.commons (take l.s-index l.stmts);
  first : first_line (declares_wrongly l.names) l.stmts ≡ first_after (declares_wrongly l.names) (take l.s-index l.stmts) (drop l.s-index l.stmts);
}
