-- How faults are told.
use Rattle.std.specs.Prelude.{ℕ, List, ◌++◌, codes}
use Rattle.std.specs.Fmt.{decimal}
use Rattle.view_output.specs.declared.fault.Fault.{Fault}
use Rattle.view_output.specs.declared.fault.Fault.TheVariants.{Usage, Line, Firing, Refused, NoStatement, NoLine, File, NoText, TooLong, Read, Write, NoMemory, NoWords}

abbrev pub fault_text : Fault → List ℕ
fault_text Usage = codes "dfc_view: no such command or option; try dfc_view --help\n"
fault_text (Line line) = codes "dfc_view: line " ++ decimal line ++ codes " can't be read; regions, graph and trace come in this order\n"
fault_text (Firing line) = codes "dfc_view: line " ++ decimal line ++ codes " fires no node of the graph\n"
fault_text Refused = codes "dfc_view: dfc refused the program\n"
fault_text (NoStatement line) = codes "dfc_view: no operation is of line " ++ decimal line ++ codes "\n"
fault_text (NoLine line) = codes "dfc_view: the graph has no token line " ++ decimal line ++ codes "\n"
fault_text File = codes "dfc_view: the file can't be read\n"
fault_text NoText = codes "dfc_view: what is asked for is not in the text\n"
fault_text TooLong = codes "dfc_view: the text is too long\n"
fault_text Read = codes "dfc_view: standard input failed\n"
fault_text Write = codes "dfc_view: standard output failed\n"
fault_text NoMemory = codes "dfc_view: memory ran out\n"
fault_text NoWords = codes "dfc_view: the arguments could not be read\n"
