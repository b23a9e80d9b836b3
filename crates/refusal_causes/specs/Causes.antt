-- What is told of causes.
use Rattle.std.specs.Prelude.{ℕ, List, ◌++◌, codes}
use Rattle.std.specs.Fmt.{decimal}
use Rattle.kind_causes.specs.Causes as kinds
use Rattle.refusal_causes.specs.declared.cause.Cause.{Cause}
use Rattle.refusal_causes.specs.declared.cause.Cause.TheVariants as cause
use Rattle.refusal_causes.specs.declared.call_cause.NameCause.{NameCause}
use Rattle.refusal_causes.specs.declared.call_cause.NameCause.TheVariants as names
use Rattle.refusal_causes.specs.declared.call_cause.CallCause.{CallCause}
use Rattle.refusal_causes.specs.declared.call_cause.CallCause.TheVariants as calls
use Rattle.refusal_causes.specs.declared.call_cause.BlockCause.{BlockCause}
use Rattle.refusal_causes.specs.declared.call_cause.BlockCause.TheVariants as blocks
use Rattle.refusal_causes.specs.declared.label_cause.LabelCause.{LabelCause}
use Rattle.refusal_causes.specs.declared.label_cause.LabelCause.TheVariants as labels
use Rattle.refusal_causes.specs.declared.call_cause.TheConstants.{SUBROUTINE_TWICE, NO_SUBROUTINE, RECURSION, ARGUMENT_COUNT, REAL_ARGUMENT, ARGUMENT_KIND, ARGUMENT_BOUNDS, DUMMY_TWICE, DUMMY_STORED, BLOCK_LENGTH, BLOCK_MEMBER}
use Rattle.refusal_causes.specs.declared.label_cause.TheConstants.{LABEL_TWICE, NO_LABEL}

-- ---- what is wrong

-- of the name of a subroutine
abbrev pub name_wrong : NameCause → List ℕ
name_wrong (names.SubroutineTwice name) = codes "a SUBROUTINE above has the name " ++ name.now ++ codes " too"
name_wrong (names.NoSubroutine name) = codes "the text has no SUBROUTINE " ++ name.now
name_wrong (names.Recursion name) = name.now ++ codes " calls itself, at once or through others"

-- of a CALL, or the dummies of a SUBROUTINE
abbrev pub call_wrong : CallCause → List ℕ
call_wrong (calls.ArgumentCount name arguments dummies) =
    codes "arguments of this CALL: " ++ decimal arguments ++ codes "; dummies of " ++ name.now ++ codes ": " ++ decimal dummies
call_wrong (calls.RealArgument argument) = codes "the argument " ++ argument.now ++ codes " is neither integer nor logical"
call_wrong (calls.ArgumentKind argument dummy) =
    codes "the argument " ++ argument.now ++ codes " and the dummy " ++ dummy.now ++ codes " differ in type"
call_wrong (calls.ArgumentBounds argument dummy) =
    codes "the argument " ++ argument.now ++ codes " and the dummy " ++ dummy.now ++ codes " differ in their bounds"
call_wrong (calls.DummyTwice dummy) = codes "the dummy " ++ dummy.now ++ codes " stands twice"
call_wrong (calls.DummyStored dummy line) =
    codes "the dummy " ++ dummy.now ++ codes " stands in COMMON, EQUIVALENCE or DATA, at line " ++ decimal line

-- of a block of COMMON
abbrev pub block_wrong : BlockCause → List ℕ
block_wrong (blocks.BlockLength block line here there) =
    codes "names of COMMON /" ++ block.now ++ codes "/ in this unit: " ++ decimal here ++ codes "; in that of line " ++ decimal line
    ++ codes ": " ++ decimal there
block_wrong (blocks.BlockMember block line here there) =
    here.now ++ codes " of COMMON /" ++ block.now ++ codes "/ differs in type or bounds from " ++ there.now
    ++ codes " of the unit of line " ++ decimal line

-- of a label
abbrev pub label_wrong : LabelCause → List ℕ
label_wrong (labels.LabelTwice label line) = codes "label " ++ decimal label ++ codes " stands on line " ++ decimal line ++ codes " too"
label_wrong (labels.NoLabel label) = codes "no statement of this unit that a jump or a DO may name has label " ++ decimal label

abbrev pub wrong : Cause → List ℕ
wrong (cause.Rule advice) = advice.wrong.now
wrong (cause.Name c) = name_wrong c
wrong (cause.Call c) = call_wrong c
wrong (cause.Block c) = block_wrong c
wrong (cause.Kind c) = kinds.wrong c
wrong (cause.Label c) = label_wrong c

-- ---- what to write instead

-- of the name of a subroutine
abbrev pub name_instead : NameCause → List ℕ
name_instead (names.SubroutineTwice name) = SUBROUTINE_TWICE.now
name_instead (names.NoSubroutine name) = NO_SUBROUTINE.now
name_instead (names.Recursion name) = RECURSION.now

-- of a CALL, or the dummies of a SUBROUTINE
abbrev pub call_instead : CallCause → List ℕ
call_instead (calls.ArgumentCount name arguments dummies) = ARGUMENT_COUNT.now
call_instead (calls.RealArgument argument) = REAL_ARGUMENT.now
call_instead (calls.ArgumentKind argument dummy) = ARGUMENT_KIND.now
call_instead (calls.ArgumentBounds argument dummy) = ARGUMENT_BOUNDS.now
call_instead (calls.DummyTwice dummy) = DUMMY_TWICE.now
call_instead (calls.DummyStored dummy line) = DUMMY_STORED.now

-- of a block of COMMON
abbrev pub block_instead : BlockCause → List ℕ
block_instead (blocks.BlockLength block line here there) = BLOCK_LENGTH.now
block_instead (blocks.BlockMember block line here there) = BLOCK_MEMBER.now

-- of a label
abbrev pub label_instead : LabelCause → List ℕ
label_instead (labels.LabelTwice label line) = LABEL_TWICE.now
label_instead (labels.NoLabel label) = NO_LABEL.now

abbrev pub instead : Cause → List ℕ
instead (cause.Rule advice) = advice.instead.now
instead (cause.Name c) = name_instead c
instead (cause.Call c) = call_instead c
instead (cause.Block c) = block_instead c
instead (cause.Kind c) = kinds.instead c
instead (cause.Label c) = label_instead c
