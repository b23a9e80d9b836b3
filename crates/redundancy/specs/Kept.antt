-- What `Avail` keeps.
use Rattle.std.specs.Prelude.{◌≡◌, ℕ, List, Some, length, slice_get}
use Rattle.f77_tree.specs.declared.expressions.Expr.{Expr}
use Rattle.redundancy.specs.declared.avail.Avail.TheInside.{Inside}
use Rattle.redundancy.specs.Available.{Availability}
use Rattle.redundancy.specs.Noted.{AreRows}
use Rattle.redundancy.specs.Numbers.{IsTable}

abbrev pub availability_of : Inside → Availability
availability_of a = record { candidates = a.table.exprs.items; pieces = a.pieces; missing = a.missing.items }

-- no two candidates are the same expression
abbrev pub AreDistinct : List Expr → Type 0
AreDistinct candidates = (i j : ℕ) (e : Expr) → slice_get candidates i ≡ Some e → slice_get candidates j ≡ Some e → i ≡ j

pub record IsKept (a : Inside) : Type 0 where
  pub rows : AreRows a.pieces (length a.table.exprs.items) a.missing.items
  pub numbers : IsTable a.table.exprs.items a.table.buckets.items
  pub distinct : AreDistinct a.table.exprs.items
