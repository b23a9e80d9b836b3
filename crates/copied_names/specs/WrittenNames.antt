-- The text of what names become.
use Rattle.std.specs.Prelude.{ℕ, List, ◌++◌, codes, flat_map}
use Rattle.std.specs.Fmt.{decimal}
use Rattle.copied_names.specs.declared.copied.Becomes.{Becomes}
use Rattle.copied_names.specs.declared.copied.Becomes.TheVariants.{Argument, Named}
use Rattle.copied_names.specs.declared.copied.CopiedName.{CopiedName}

-- what a name becomes, to the end of the line
abbrev pub new_text : Becomes → List ℕ
new_text (Argument place) = codes "argument " ++ decimal place ++ codes "\n"
new_text (Named name) = name ++ codes "\n"

-- the line of a name
abbrev pub name_text : CopiedName → List ℕ
name_text c = c.unit ++ codes " " ++ c.name ++ codes " " ++ new_text c.becomes

abbrev pub names_text : List CopiedName → List ℕ
names_text names = flat_map name_text names
