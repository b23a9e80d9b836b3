-- The text of a trace.
use Rattle.std.specs.Prelude.{ℕ, List, [], ◌∷◌, ◌++◌, codes, flat_map}
use Rattle.std.specs.Fmt.{decimal}
use Rattle.printed_graphs.specs.declared.trace.Firing.{Firing}
use Rattle.printed_graphs.specs.declared.trace.NodeName.{NodeName}
use Rattle.printed_graphs.specs.declared.trace.NodeName.TheVariants.{Operation, Switch, Merge}
use Rattle.printed_graphs.specs.declared.trace.PrintedTrace.{PrintedTrace}
use Rattle.printed_graphs.specs.declared.trace.TraceEnd.{TraceEnd}
use Rattle.printed_graphs.specs.declared.trace.TraceEnd.TheVariants.{Rest, Trapped, Limit}
use Rattle.printed_graphs.specs.Names.{trap_text}
use Rattle.printed_graphs.specs.Words.{field_text}

abbrev pub name_text : NodeName → List ℕ
name_text (Operation piece number) = codes " OP " ++ decimal piece ++ field_text number
name_text (Switch piece line) = codes " SWITCH " ++ decimal piece ++ field_text line
name_text (Merge piece line) = codes " MERGE " ++ decimal piece ++ field_text line

-- a node that fired
abbrev pub firing_text : Firing → List ℕ
firing_text firing = decimal firing.node ++ name_text firing.name ++ 10 ∷ []

-- why nothing fired any more; nothing tells that no node was ready
abbrev pub end_text : TraceEnd → List ℕ
end_text Rest = []
end_text (Trapped trap line) = codes "TRAP " ++ trap_text trap ++ codes " LINE " ++ decimal line ++ 10 ∷ []
end_text (Limit limit) = codes "LIMIT " ++ decimal limit ++ 10 ∷ []

abbrev pub trace_text : PrintedTrace → List ℕ
trace_text trace = flat_map firing_text trace.firings.items ++ end_text trace.end
