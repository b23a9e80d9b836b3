use Rattle.std.proofs.Common.{◌≡◌, ◌&&◌, ◌||◌, ◌==◌, ℕ, take, drop}
use Rattle.std.specs.Prelude.{nat_lt}
use Rattle.std.specs.List.{list_any}
use Rattle.layout_rules.specs.Faults.{first_line, first_after}
use Rattle.layout_rules.specs.Order.{rank, is_out_of_order}
use Rattle.f77_layout.proofs.order.first_out_of_order.Given as goal

abbrev pub invariant-loop-s : goal.invariant-loop-s
invariant-loop-s l = record {
  first : first_line is_out_of_order l.stmts ≡ first_after is_out_of_order (take l.s-index l.stmts) (drop l.s-index l.stmts);
  late : (r : ℕ) → list_any (λ a. nat_lt r (rank a.stmt) || (rank a.stmt == 0 && r == 0) || rank a.stmt == 4) (take l.s-index l.stmts) ≡ (nat_lt r l.greatest || (l.has_program && r == 0) || l.greatest == 4);
}
