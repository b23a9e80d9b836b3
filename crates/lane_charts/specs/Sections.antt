-- The text of a page and of its sections, in HTML.
use Rattle.std.specs.Prelude.{ℕ, List, [], ◌∷◌, ◌++◌, ◌+◌, Bool, true, false, Option, Some, codes, flat_map, if◌then◌else◌, length, slice_get, slice_index, string_bytes, take, ◌==◌, ◌-◌}
use Rattle.std.specs.Fmt.{decimal}
use Rattle.svg_text.specs.Svg.{escape}
use Rattle.printed_graphs.specs.declared.dataflow.Node.{Node}
use Rattle.printed_graphs.specs.declared.dataflow.Node.TheVariants as node
use Rattle.printed_graphs.specs.declared.dataflow.Work.{Work}
use Rattle.printed_graphs.specs.declared.dataflow.Work.TheVariants as work
use Rattle.printed_graphs.specs.declared.trace.Firing.{Firing}
use Rattle.lane_charts.specs.declared.script.TheConstants.{PAGE_SHEET, SCRIPT}
use Rattle.lane_charts.specs.declared.sections.Section.{Section}

abbrev pub is_write : Work → Bool
is_write work.Write = true
is_write _ = false

abbrev pub writes_by : Option Node → Bool
writes_by (Some (node.Operation piece number work lines)) = is_write work
writes_by _ = false

-- whether the node with this number writes a line
abbrev pub writes : List Node → (node : ℕ) → Bool
writes nodes node = writes_by (slice_get nodes node)

-- how many lines have been printed after each firing, where so many were before
abbrev pub counts_from : List Node → (lines : ℕ) → List Firing → List ℕ
counts_from nodes lines [] = []
counts_from nodes lines (f ∷ fs) = let n = lines + (if writes nodes f.node then 1 else 0) in n ∷ counts_from nodes n fs

-- a number after a comma
abbrev pub listed : ℕ → List ℕ
listed n = codes "," ++ decimal n

-- numbers with commas between them
unfoldable pub numbers_text : List ℕ → List ℕ
numbers_text [] = []
numbers_text (n ∷ ns) = decimal n ++ flat_map listed ns

-- a text without the end of its last line
abbrev pub without_end : List ℕ → List ℕ
without_end text = if slice_index text (length text - 1) == 10 then take (length text - 1) text else text

-- a byte of lines, of which each stands in an element of its own
abbrev pub line_byte : ℕ → List ℕ
line_byte byte = if byte == 10 then codes "\n</span><span hidden>" else escape byte

abbrev pub lines_html : List ℕ → List ℕ
lines_html text = if length text == 0 then [] else codes "<span hidden>" ++ flat_map line_byte text ++ codes "\n</span>"

-- what is printed, each line hidden until the script shows it
unfoldable pub printed_html : List ℕ → List ℕ
printed_html printed = lines_html (without_end printed)

-- the bar by which a run of so many firings is stepped through
unfoldable pub bar_html : (firings : ℕ) → List ℕ
bar_html firings =
    codes "<div class=\"bar-of-steps\"><button data-by=\"-1e9\">first</button> <button data-by=\"-1\">back</button> <input type=\"range\" min=\"0\" max=\""
    ++ decimal firings
    ++ codes "\" value=\"0\"> <button data-by=\"1\">on</button> <button data-by=\"1e9\">last</button> <span class=\"told\"></span></div>\n"

unfoldable pub pictures_html : (chart printed rounds : List ℕ) → List ℕ
pictures_html chart printed rounds =
    codes "<div class=\"scroll\">" ++ chart ++ codes "</div>\n<pre class=\"printed\">" ++ printed_html printed ++ codes "</pre>\n<div class=\"scroll\">" ++ rounds ++ codes "</div>\n"

-- what stands above the pictures of a run of so many firings
unfoldable pub head_html : (name : List ℕ) → (firings : ℕ) → List ℕ
head_html name firings = codes "<h2>" ++ flat_map escape name ++ codes "</h2>\n" ++ bar_html firings

-- what the script steps through
unfoldable pub data_html : (nodes counts : List ℕ) → List ℕ
data_html nodes counts =
    codes "<script type=\"application/json\">{\"nodes\":[" ++ numbers_text nodes ++ codes "],\n\"printed\":[" ++ numbers_text counts ++ codes "]}</script>"

unfoldable pub section_html : Section → List ℕ
section_html s =
    codes "<section class=\"run\">" ++ head_html s.name.now (length s.nodes.items) ++ pictures_html (string_bytes s.chart) s.printed.now (string_bytes s.rounds)
    ++ data_html s.nodes.items s.counts.items ++ codes "</section>\n"

-- how the page looks, and what steps through its runs
unfoldable pub sheet_text : List ℕ
sheet_text = PAGE_SHEET.now

unfoldable pub script_text : List ℕ
script_text = SCRIPT.now

unfoldable pub page_html : List Section → List ℕ
page_html sections =
    codes "<!DOCTYPE html>\n<html lang=\"en\"><head><meta charset=\"utf-8\"><title>A program and its runs</title>\n" ++ sheet_text
    ++ codes "</head><body>\n<div class=\"runs\">\n" ++ flat_map section_html sections ++ codes "</div>\n" ++ script_text ++ codes "</body></html>\n"
