-- Which line is told of faults of storage. DATA is looked at where nothing else is wrong, since only then names have places.
use Rattle.std.specs.Prelude.{ℕ, Bool, not, if◌then◌else◌, ◌&&◌, ◌||◌, List, [], flat_map, Option}
use Rattle.f77_tree.specs.declared.declarations.InitPart.{InitPart}
use Rattle.f77_tree.specs.declared.programs.NameInfo.{NameInfo}
use Rattle.f77_tree.specs.declared.statements.Labelled.{Labelled}
use Rattle.f77_tree.specs.InitialWords.{part_words}
use Rattle.layout_rules.specs.Declarations.{inits_of}
use Rattle.layout_rules.specs.Faults.{answer_or, first_line}
use Rattle.layout_rules.specs.LowestLines.{lower_line, lowest_line}
use Rattle.layout_rules.specs.StorageFaults.{is_data, has_dims_twice, has_wrong_dims, is_common_twice, has_wrong_member, has_wrong_part, has_wrong_places}

-- a member of EQUIVALENCE is wrong
abbrev pub groups_wrongly : List NameInfo → Labelled → Bool
groups_wrongly names s = not (is_data s.stmt) && has_wrong_member names s

-- a statement other than DATA declares something wrong
abbrev pub declares_wrongly : List NameInfo → (above : List Labelled) → Labelled → Bool
declares_wrongly names above s = has_dims_twice above s || has_wrong_dims s || is_common_twice above s || groups_wrongly names s

-- the parts by which DATA gives values; a statement with an item that is no word gives none
abbrev pub given_by : List NameInfo → Labelled → List InitPart
given_by names s = if has_wrong_member names s then [] else inits_of s.stmt

-- the words to which the DATA statements above give values
abbrev pub given_above : (names placed : List NameInfo) → (above : List Labelled) → List ℕ
given_above names placed above = flat_map (part_words placed) (flat_map (given_by names) above)

-- an item of DATA is wrong, or its values are, or one of its words has a value, whether that was given rightly or not
abbrev pub initializes_wrongly : (names placed : List NameInfo) → (above : List Labelled) → Labelled → Bool
initializes_wrongly names placed above s =
    is_data s.stmt && (has_wrong_member names s || has_wrong_part placed (given_above names placed above) (inits_of s.stmt))

-- the lower line of the first wrong declaration and of the first EQUIVALENCE that makes places wrong
abbrev pub declaration_line : List NameInfo → List Labelled → Option ℕ
declaration_line names stmts = lower_line (first_line (declares_wrongly names) stmts) (first_line (has_wrong_places names stmts) stmts)

-- The lower line of the first wrong declaration and of the first EQUIVALENCE that makes places wrong; where there is none of
-- them, the lowest line of DATA with a fault.
abbrev pub storage_line : (names placed : List NameInfo) → List Labelled → Option ℕ
storage_line names placed stmts = answer_or (declaration_line names stmts) (lowest_line (initializes_wrongly names placed) stmts)
