-- What is told of names is so.
use Rattle.std.specs.Prelude.{◌≡◌, ◌≢◌, true, false, length, Some, None}
use Rattle.f77_tree.specs.declared.declarations.Kind.TheVariants.{Integer}
use Rattle.declared_names.specs.Described.{Described, is_array_told}
use Rattle.layout_rules.specs.Types.{is_intrinsic}
use Rattle.kind_causes.specs.declared.kind_cause.KindCause.{KindCause}
use Rattle.kind_causes.specs.declared.kind_cause.KindCause.TheVariants.{Rule, TypedTwice, LogicalSubscript, RealName, WholeArray, SubscriptCount, NoFunction, FunctionArguments, FunctionAssigned, LoopVariable}

-- by what the declarations of a unit say
abbrev pub IsDeclared : (told : Described) → KindCause → Type 0
IsDeclared told (RealName name) = told.kind name.now ≡ None
IsDeclared told (WholeArray name) = is_array_told told name.now ≡ true
IsDeclared told (SubscriptCount name subscripts dimensions) = (length (told.dims name.now) ≡ dimensions) × (subscripts ≢ dimensions)
IsDeclared told (NoFunction name) = (is_array_told told name.now ≡ false) × (is_intrinsic name.now ≡ false)
IsDeclared told (FunctionArguments name) = (is_array_told told name.now ≡ false) × (is_intrinsic name.now ≡ true)
IsDeclared told (FunctionAssigned name) = (is_array_told told name.now ≡ false) × (is_intrinsic name.now ≡ true)
IsDeclared told (LoopVariable name) = is_array_told told name.now ≡ false → told.kind name.now ≢ Some Integer
IsDeclared told (TypedTwice name) = Unit {0}
IsDeclared told (LogicalSubscript name) = Unit {0}
IsDeclared told (Rule advice) = Unit {0}
