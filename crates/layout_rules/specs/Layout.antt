-- The program that statements make, or the first refusal.
use Rattle.std.specs.Prelude.{◌≡◌, ◌++◌, Result, Ok, Err, ℕ, ◌+◌, ◌-◌, Bool, nat_lt, if◌then◌else◌, List, [], ◌∷◌, length, map, filter, Option, Some, None, slice_get}
use Rattle.std.specs.List.{range_with_len}
use Rattle.f77_tree.specs.declared.programs.NameInfo.{NameInfo}
use Rattle.f77_tree.specs.declared.programs.Program.{Program}
use Rattle.f77_tree.specs.declared.statements.Labelled.{Labelled}
use Rattle.f77_tree.specs.InitialWords.{initial_word}
use Rattle.layout_rules.specs.declared.layout_end.LayoutEnd.{LayoutEnd}
use Rattle.layout_rules.specs.declared.layout_end.LayoutEnd.TheVariants.{OutOfOrder, RealName, TypeWrong, LayoutWrong, LabelTwice, LabelMissing, BadNesting, JumpInto, TooManyWords, TooManyOps}
use Rattle.layout_rules.specs.Faults.{first_line, first_answer}
use Rattle.layout_rules.specs.Declarations.{kind_of, dims_of, all_commons, all_groups, all_inits}
use Rattle.layout_rules.specs.Appearances.{all_names, has_real_name}
use Rattle.layout_rules.specs.Order.{is_out_of_order}
use Rattle.layout_rules.specs.TypeFaults.{has_wrong_type}
use Rattle.layout_rules.specs.Storage.{Spot, equations, spots_by, place_of, words_in_all}
use Rattle.layout_rules.specs.StorageLines.{storage_line}
use Rattle.layout_rules.specs.Labels.{is_labelled_twice, lacks_label}
use Rattle.layout_rules.specs.Nesting.{first_unnested}
use Rattle.layout_rules.specs.Jumps.{jumps_into}
use Rattle.layout_rules.specs.Executables.{executables, kind_or_integer, is_do}
use Rattle.layout_rules.specs.Counts.{is_too_great}
use Rattle.layout_rules.specs.LowestLines.{lowest_line}

-- ---- the table of names

-- a name with what the declarations say of it
abbrev pub name_info : List Labelled → List ℕ → NameInfo
name_info stmts name = record { name = name; kind = kind_or_integer (kind_of stmts name); dims = dims_of stmts name; place = 0 }

-- the names in the order in which they first appear; their places aren't known yet
abbrev pub names_of : List Labelled → List NameInfo
names_of stmts = map (name_info stmts) (all_names stmts)

-- the places that the declarations give to the names
abbrev pub spots_of : List Labelled → List Spot
spots_of stmts = spots_by (length (names_of stmts)) (equations (names_of stmts) (all_commons stmts) (all_groups stmts))

abbrev pub placed_from : (names : List NameInfo) → List Spot → ℕ → List NameInfo → List NameInfo
placed_from names spots k [] = []
placed_from names spots k (info ∷ rest) = record info { place = place_of names spots k } ∷ placed_from names spots (k + 1) rest

-- the names with their places
abbrev pub placed_names : List Labelled → List NameInfo
placed_names stmts = placed_from (names_of stmts) (spots_of stmts) 0 (names_of stmts)

abbrev pub word_count : List Labelled → ℕ
word_count stmts = words_in_all (names_of stmts) (spots_of stmts)

-- ---- refusals

-- the line of END
abbrev pub line_or_none : Option Labelled → ℕ
line_or_none None = 0
line_or_none (Some s) = s.line

abbrev pub last_line : List Labelled → ℕ
last_line stmts = line_or_none (slice_get stmts (length stmts - 1))

abbrev pub line_of_words : List Labelled → Option ℕ
line_of_words stmts = if nat_lt 262144 (word_count stmts) then Some (last_line stmts) else None

abbrev pub at_line : (ℕ → LayoutEnd) → Option ℕ → Option LayoutEnd
at_line refusal None = None
at_line refusal (Some line) = Some (refusal line)

-- the refusals in order but for the last one, each with the line that is told of its fault
abbrev pub refusals_of_form : List Labelled → List (Option LayoutEnd)
refusals_of_form stmts =
    at_line OutOfOrder (first_line is_out_of_order stmts) ∷
    at_line RealName (first_line (has_real_name stmts) stmts) ∷
    at_line TypeWrong (first_line (has_wrong_type (names_of stmts)) stmts) ∷
    at_line LayoutWrong (storage_line (names_of stmts) (placed_names stmts) stmts) ∷
    at_line LabelTwice (first_line is_labelled_twice stmts) ∷
    at_line LabelMissing (first_line (lacks_label stmts) stmts) ∷
    at_line BadNesting (first_unnested [] stmts) ∷
    at_line JumpInto (first_line (jumps_into stmts) stmts) ∷
    at_line TooManyWords (line_of_words stmts) ∷ []

-- statements that have none of these refusals
abbrev pub HasForm : List Labelled → Type 0
HasForm stmts = first_answer (λ r. r) (refusals_of_form stmts) ≡ None

abbrev pub refusals : List Labelled → (checked : Bool) → List (Option LayoutEnd)
refusals stmts checked = refusals_of_form stmts ++ at_line TooManyOps (lowest_line (is_too_great (names_of stmts) checked stmts) stmts) ∷ []

-- the refusal, if there is one
abbrev pub refusal : List Labelled → (checked : Bool) → Option LayoutEnd
refusal stmts checked = first_answer (λ r. r) (refusals stmts checked)

-- ---- the program

abbrev pub program : List Labelled → (checked : Bool) → Program
program stmts checked = record {
  names = placed_names stmts;
  words = word_count stmts;
  initial = map (initial_word (placed_names stmts) (all_inits stmts)) (range_with_len 0 (word_count stmts));
  commons = all_commons stmts;
  groups = all_groups stmts;
  inits = all_inits stmts;
  execs = executables (names_of stmts) checked stmts;
  loops = length (filter (λ s. is_do s.stmt) stmts);
}

abbrev pub unless_refused : Option LayoutEnd → Program → Result Program LayoutEnd
unless_refused None p = Ok p
unless_refused (Some end) p = Err end

-- what the statements are: a program, or the first refusal
abbrev pub layout : List Labelled → (checked : Bool) → Result Program LayoutEnd
layout stmts checked = unless_refused (refusal stmts checked) (program stmts checked)
