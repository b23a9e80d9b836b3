-- The text of a profile: how many nodes fire in each round of a run.
use Rattle.std.specs.Prelude.{ℕ, zero, suc, ◌+◌, ◌-◌, ◌*◌, ◌/◌, ◌%◌, ◌^◌, ◌==◌, ◌||◌, if◌then◌else◌, List, [], ◌++◌, codes, count_by, drop, length, map, min, position, replicate, sum, take, Option, Some, None}
use Rattle.std.specs.Fmt.{decimal}
use Rattle.std.specs.List.{range_with_len}
use Rattle.printed_graphs.specs.declared.dataflow.PrintedGraph.{PrintedGraph}
use Rattle.printed_graphs.specs.declared.flow.PrintedFlow.{PrintedFlow}
use Rattle.printed_graphs.specs.declared.trace.Firing.{Firing}
use Rattle.trace_profiles.specs.Rounds.{greatest}
use Rattle.trace_profiles.specs.RunRounds.{rounds_from}
use Rattle.trace_profiles.specs.declared.loads.Loads.{Loads}

-- how many firings come in a round, and in each from the first to the last
abbrev pub width_of : (rounds : List ℕ) → (round : ℕ) → ℕ
width_of rounds round = min (count_by (λ r. r == round) rounds) (2 ^ 32 - 1)

abbrev pub widths_of : (rounds : List ℕ) → List ℕ
widths_of rounds = map (width_of rounds) (range_with_len 1 (greatest rounds))

-- ---- sums

-- the hundredths of a ratio, cut off; that to 0 has none
abbrev pub hundredths : (n of : ℕ) → ℕ
hundredths n of = if of == 0 then 0 else min (n * 100) (2 ^ 64 - 1) / of

unfoldable pub decimals_text : (hundredths : ℕ) → List ℕ
decimals_text n = decimal (n / 100) ++ codes "." ++ decimal (n / 10 % 10) ++ decimal (n % 10)

-- a place counted from 1, or 0
abbrev pub counted : Option ℕ → ℕ
counted None = 0
counted (Some k) = suc k

-- the first of the widest rounds, if any node fires
abbrev pub widest_round : (widths : List ℕ) → ℕ
widest_round widths = if greatest widths == 0 then 0 else counted (position (λ w. w == greatest widths) widths)

unfoldable pub sums_text : (widths : List ℕ) → (firings : ℕ) → List ℕ
sums_text widths firings =
    codes "FIRINGS " ++ decimal firings ++ codes "\nROUNDS " ++ decimal (length widths) ++ codes "\nMEAN " ++ decimals_text (hundredths firings (length widths))
    ++ codes "\nWIDEST " ++ decimal (greatest widths) ++ codes " ROUND " ++ decimal (widest_round widths) ++ codes "\n"

-- ---- a table of at most 40 rows

-- how many rounds a row tells
abbrev pub row_size : (widths : List ℕ) → ℕ
row_size widths = length widths / 40 + 1

-- How long the bar is of `all` firings in so many rounds: that of the widest round is as long as the round is wide, up to 50.
abbrev pub bar_of : (all rounds widest : ℕ) → ℕ
bar_of all rounds widest = if (rounds == 0) || (widest == 0) then 0 else min (min (all * min widest 50) (2 ^ 64 - 1) / rounds / widest) 50

abbrev pub all_of : (widths : List ℕ) → ℕ
all_of widths = min (sum widths) (2 ^ 64 - 1)

unfoldable pub line_text : (first last all bar : ℕ) → List ℕ
line_text first last all bar = decimal first ++ codes "-" ++ decimal last ++ codes " " ++ decimal all ++ codes " " ++ replicate bar 35 ++ codes "\n"

-- the row of these rounds, before which so many stand
abbrev pub part_text : (widest before : ℕ) → (part : List ℕ) → List ℕ
part_text widest before part =
    if length part == 0 then [] else line_text (before + 1) (before + length part) (all_of part) (bar_of (all_of part) (length part) widest)

abbrev pub row_text : (widths : List ℕ) → (row : ℕ) → List ℕ
row_text widths row = part_text (greatest widths) (row * row_size widths) (take (row_size widths) (drop (row * row_size widths) widths))

abbrev pub rows_text : (widths : List ℕ) → (rows : ℕ) → List ℕ
rows_text widths zero = []
rows_text widths (suc k) = rows_text widths k ++ row_text widths k

-- ---- the whole

unfoldable pub widths_text : (widths : List ℕ) → (firings : ℕ) → List ℕ
widths_text widths firings = sums_text widths firings ++ rows_text widths 40

abbrev pub profile_text : PrintedGraph → Loads → List Firing → List ℕ
profile_text g loads firings = widths_text (widths_of (rounds_from g loads [] firings)) (length firings)

-- ---- the lines of a text

abbrev pub flow_lines : Option PrintedFlow → ℕ
flow_lines None = 0
flow_lines (Some flow) = 1 + length flow.pieces.items + length flow.edges.items + length flow.regions.items

abbrev pub graph_lines : PrintedGraph → ℕ
graph_lines g = 1 + length g.lines.items + length g.nodes.items + length g.values.items + length g.wires.items + length g.bypasses.items

-- how many stand before the trace, if they are too many for 64 bits the most that there can be
abbrev pub lines_before : Option PrintedFlow → PrintedGraph → ℕ
lines_before flow g = min (flow_lines flow + graph_lines g) (2 ^ 64 - 1)
