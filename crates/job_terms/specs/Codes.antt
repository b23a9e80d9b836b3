-- How the codes of refusals are written.
use Rattle.std.specs.Prelude.{ℕ, List, codes}
use Rattle.f77_source.specs.declared.source_end.Code.TheVariants as text
use Rattle.job_terms.specs.declared.reading.Code.{Code}
use Rattle.job_terms.specs.declared.reading.Code.TheVariants.{TooLong, Text, TooManyNames, LongText}

abbrev pub name_of : Code → List ℕ
name_of TooLong = codes "TOOLONG"
name_of (Text text.BadByte) = codes "BADBYTE"
name_of (Text text.BadLabelField) = codes "BADLABEL"
name_of (Text text.StrayContinuation) = codes "STRAYCONT"
name_of (Text text.TooManyContinuations) = codes "MANYCONT"
name_of (Text text.TooManyStatements) = codes "MANYSTMTS"
name_of (Text text.NoEnd) = codes "NOEND"
name_of (Text text.TooDeep) = codes "TOODEEP"
name_of (Text text.NoForm) = codes "NOFORM"
name_of (Text text.BadConstant) = codes "BADCONST"
name_of (Text text.SubTwice) = codes "SUBTWICE"
name_of (Text text.NoSub) = codes "NOSUB"
name_of (Text text.BadCall) = codes "BADCALL"
name_of (Text text.BadBlock) = codes "BADBLOCK"
name_of (Text text.Recursion) = codes "RECURSION"
name_of (Text text.TooManyNames) = codes "MANYNAMES"
name_of (Text text.OutOfOrder) = codes "BADORDER"
name_of (Text text.RealName) = codes "REALNAME"
name_of (Text text.TypeWrong) = codes "BADTYPE"
name_of (Text text.LayoutWrong) = codes "BADLAYOUT"
name_of (Text text.LabelTwice) = codes "LABELTWICE"
name_of (Text text.LabelMissing) = codes "NOLABEL"
name_of (Text text.BadNesting) = codes "BADNESTING"
name_of (Text text.JumpInto) = codes "JUMPINTO"
name_of (Text text.TooManyWords) = codes "MANYWORDS"
name_of (Text text.TooManyOps) = codes "MANYOPS"
name_of (Text text.TooManyClasses) = codes "MANYCLASSES"
name_of TooManyNames = codes "MANYNAMES"
name_of LongText = codes "LONGTEXT"
