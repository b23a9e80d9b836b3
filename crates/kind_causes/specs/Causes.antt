-- What is told of kinds, and of numbers of subscripts and arguments.
use Rattle.std.specs.Prelude.{ℕ, List, ◌++◌, codes}
use Rattle.std.specs.Fmt.{decimal}
use Rattle.kind_causes.specs.declared.kind_cause.KindCause.{KindCause}
use Rattle.kind_causes.specs.declared.kind_cause.KindCause.TheVariants.{Rule, RealName, TypedTwice, WholeArray, SubscriptCount, NoFunction, FunctionArguments, FunctionAssigned, LogicalSubscript, LoopVariable}
use Rattle.kind_causes.specs.declared.kind_cause.TheConstants.{REAL_NAME, TYPED_TWICE, WHOLE_ARRAY, SUBSCRIPT_COUNT, NO_FUNCTION, FUNCTION_ARGUMENTS, FUNCTION_ASSIGNED, LOGICAL_SUBSCRIPT, LOOP_VARIABLE}

-- what is wrong
abbrev pub wrong : KindCause → List ℕ
wrong (Rule advice) = advice.wrong.now
wrong (RealName name) = name.now ++ codes " is neither integer nor logical"
wrong (TypedTwice name) = name.now ++ codes " has a type already"
wrong (WholeArray name) = codes "the array " ++ name.now ++ codes " stands without subscripts"
wrong (SubscriptCount name subscripts dimensions) =
    codes "subscripts of " ++ name.now ++ codes " here: " ++ decimal subscripts ++ codes "; dimensions: " ++ decimal dimensions
wrong (NoFunction name) = name.now ++ codes " is neither an array nor a function of the language"
wrong (FunctionArguments name) = codes "the function " ++ name.now ++ codes " takes another number of arguments"
wrong (FunctionAssigned name) = name.now ++ codes " is a function of the language, and takes no value"
wrong (LogicalSubscript name) = codes "a subscript or an argument of " ++ name.now ++ codes " is logical"
wrong (LoopVariable name) = name.now ++ codes ", the variable of a DO, is an array or logical"

-- what to write instead
abbrev pub instead : KindCause → List ℕ
instead (Rule advice) = advice.instead.now
instead (RealName name) = REAL_NAME.now
instead (TypedTwice name) = TYPED_TWICE.now
instead (WholeArray name) = WHOLE_ARRAY.now
instead (SubscriptCount name subscripts dimensions) = SUBSCRIPT_COUNT.now
instead (NoFunction name) = NO_FUNCTION.now
instead (FunctionArguments name) = FUNCTION_ARGUMENTS.now
instead (FunctionAssigned name) = FUNCTION_ASSIGNED.now
instead (LogicalSubscript name) = LOGICAL_SUBSCRIPT.now
instead (LoopVariable name) = LOOP_VARIABLE.now
