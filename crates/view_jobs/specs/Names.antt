-- The text of what names become, with names of the source.
use Rattle.std.specs.Prelude.{ℕ, List, ◌++◌, codes}
use Rattle.std.specs.Fmt.{decimal}
use Rattle.copied_names.specs.declared.copied.Becomes.{Becomes}
use Rattle.copied_names.specs.declared.copied.Becomes.TheVariants.{Argument, Named}
use Rattle.copied_names.specs.declared.copied.CopiedName.{CopiedName}
use Rattle.source_maps.specs.Places.{Map, name_in}

-- what a name becomes, to the end of the line
abbrev pub new_text : Map → Becomes → List ℕ
new_text m (Argument place) = codes "argument " ++ decimal place ++ codes "\n"
new_text m (Named name) = name_in m.names name ++ codes "\n"

-- the line of a name
abbrev pub name_text : Map → CopiedName → List ℕ
name_text m c = name_in m.names c.unit ++ codes " " ++ name_in m.names c.name ++ codes " " ++ new_text m c.becomes
