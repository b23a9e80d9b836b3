-- Statements that the rules of lowering add to a program.
use Rattle.std.specs.Prelude.{ℕ, ◌+◌, nat_lt, if◌then◌else◌}
use Rattle.fortran_tree.specs.declared.error.Reason.{Reason}
use Rattle.fortran_tree.specs.declared.error.Reason.TheVariants.{Grown, TooMany}
use Rattle.fortran_tree.specs.declared.error.Rule.{Rule}
use Rattle.fortran_tree.specs.declared.error.Rule.TheVariants.{Loops, Lists, BlockData, Functions, Arguments, Bounds}
use Rattle.unit_tables.specs.declared.growth.Growth.{Growth}

-- how many statements a rule has added
abbrev pub count_of : Growth → Rule → ℕ
count_of growth Loops = growth.loops
count_of growth Lists = growth.lists
count_of growth BlockData = growth.block_data
count_of growth Functions = growth.functions
count_of growth Arguments = growth.arguments
count_of growth Bounds = growth.bounds

-- a source of so many statements, of which none was lowered
abbrev pub nothing_added : ℕ → Growth
nothing_added source = record { source = source; loops = 0; lists = 0; block_data = 0; functions = 0; arguments = 0; bounds = 0 }

-- a rule has added so many statements more
abbrev pub with_more : Growth → Rule → ℕ → Growth
with_more growth Loops more = record growth { loops = growth.loops + more }
with_more growth Lists more = record growth { lists = growth.lists + more }
with_more growth BlockData more = record growth { block_data = growth.block_data + more }
with_more growth Functions more = record growth { functions = growth.functions + more }
with_more growth Arguments more = record growth { arguments = growth.arguments + more }
with_more growth Bounds more = record growth { bounds = growth.bounds + more }

-- the one of two rules that has added more, the first where both have added as many
abbrev pub greater_rule : Growth → Rule → Rule → Rule
greater_rule growth first second = if nat_lt (count_of growth first) (count_of growth second) then second else first

-- the rule that has added most
abbrev pub greatest_rule : Growth → Rule
greatest_rule growth = greater_rule growth (greater_rule growth (greater_rule growth Functions Arguments) (greater_rule growth Bounds Lists)) (greater_rule growth Loops BlockData)

-- why a program has more than 4,000 statements
abbrev pub why_many : Growth → Reason
why_many growth = if nat_lt 4000 growth.source then TooMany else Grown (greatest_rule growth)
