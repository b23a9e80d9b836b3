-- The table of the places of labels.
use Rattle.std.specs.Prelude.{◌≡◌, ℕ, List, slice_index_or}
use Rattle.f77_tree.specs.declared.statements.Labelled.{Labelled}
use Rattle.control_structure.specs.declared.labels.Labels.{Labels}
use Rattle.layout_rules.specs.Labels.{statement_of}

-- the place that the table tells for a label
abbrev pub place_in : Labels → ℕ → ℕ
place_in labels label = slice_index_or labels.places.items label labels.count

-- the table tells the place of each label's statement
abbrev pub ArePlacesOf : List Labelled → Labels → Type 0
ArePlacesOf stmts labels = (label : ℕ) → place_in labels label ≡ statement_of stmts label
