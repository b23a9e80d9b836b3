-- Intrinsic functions as they are kept: the same function may have two names.
use Rattle.std.specs.Prelude.{ℕ, Bool, false, ◌==◌, nat_le, List, Option, Some, None, find, bytes_eq}
use Rattle.op_table.specs.declared.Op.{Op}
use Rattle.op_table.specs.declared.Op.TheVariants.{Mod, Abs, Sign, Max, Min}
use Rattle.declared_names.specs.declared.intrinsics.Function.{Function}
use Rattle.declared_names.specs.declared.intrinsics.Function.TheVariants.{Remainder, Magnitude, Transfer, Greatest, Least}
use Rattle.layout_rules.specs.Types.{Intrinsic, intrinsics}

abbrev pub operator_of : Function → Op
operator_of Remainder = Mod
operator_of Magnitude = Abs
operator_of Transfer = Sign
operator_of Greatest = Max
operator_of Least = Min

abbrev pub takes_so_many : Function → ℕ → Bool
takes_so_many Remainder count = count == 2
takes_so_many Magnitude count = count == 1
takes_so_many Transfer count = count == 2
takes_so_many Greatest count = nat_le 2 count
takes_so_many Least count = nat_le 2 count

-- the row of the table that has this name
abbrev pub intrinsic_named : List ℕ → Option Intrinsic
intrinsic_named name = find (λ f. bytes_eq f.name name) intrinsics

abbrev pub function_takes : Option Function → ℕ → Bool
function_takes None count = false
function_takes (Some function) count = takes_so_many function count
