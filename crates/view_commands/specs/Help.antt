-- How the program and its commands are used.
use Rattle.std.specs.Prelude.{ℕ, ◌++◌, Bool, List, codes}
use Rattle.view_commands.specs.RunWords.{begins_with}
use Rattle.view_commands.specs.declared.commands.Command.{Command}
use Rattle.view_commands.specs.declared.commands.Command.TheVariants as command

abbrev pub name_of : Command → List ℕ
name_of command.Chart = codes "chart"
name_of command.Rounds = codes "rounds"
name_of command.Page = codes "page"
name_of command.Deps = codes "deps"
name_of command.Independent = codes "independent"
name_of command.Dot = codes "dot"
name_of command.Json = codes "json"
name_of command.Profile = codes "profile"
name_of command.Check = codes "check"
name_of command.Names = codes "names"
name_of command.Lower = codes "lower"
name_of command.Run = codes "run"

-- the text says how the program is used
abbrev pub is_help : (text : List ℕ) → Bool
is_help text = begins_with (codes "usage: dfc_view COMMAND ") text

-- the text says how the command is used
abbrev pub is_help_of : Command → (text : List ℕ) → Bool
is_help_of command text = begins_with (codes "usage: dfc_view " ++ name_of command ++ codes " ") text
