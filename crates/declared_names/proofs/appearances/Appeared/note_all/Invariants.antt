use Rattle.std.proofs.Common.{◌≡◌, false, take, drop, fold, flat_map}
use Rattle.layout_rules.specs.Appearances.{appearing, has_real_name}
use Rattle.layout_rules.specs.Faults.{first_line, first_after}
use Rattle.declared_names.specs.KeptDeclarations.{is_array_by}
use Rattle.declared_names.specs.Noting.{noted}
use Rattle.declared_names.proofs.appearances.Appeared.note_all.Given as goal

abbrev pub invariant-loop-s : goal.invariant-loop-s
invariant-loop-s l = record {
  first : first_line (has_real_name l.stmts) l.stmts ≡ first_after (has_real_name l.stmts) (take l.s-index l.stmts) (drop l.s-index l.stmts);
  none : l.self.has_real ≡ false;
  seen : l.self ≡ fold (noted l.declared) l.initial.self (flat_map (λ s. appearing (is_array_by l.declared) s.stmt) (take l.s-index l.stmts));
}
