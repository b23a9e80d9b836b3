-- The tables of units, from what they are made of.
use Rattle.std.proofs.Common.{◌≡◌, ℕ, ◌+◌, ◌^◌, ◌==◌, true, not, min, List, [], length, Contains, ap, ◌∙◌, arith}
use Rattle.std.specs.Prelude.{bytes_eq}
use Rattle.std.specs.List.{list_any, slice_get}
use Rattle.std.proofs.lemmas.List.{take_all}
use Rattle.std.proofs.lemmas.Map.Views.{list_any-from_Contains}
use Rattle.std.specs.Cmp.Lexicographic.{nat_list_eq_equiv}
use Rattle.indexmap.specs.IndexMap.{get}
use Rattle.f77_tree.specs.declared.statements.Labelled.{Labelled}
use Rattle.declared_names.specs.Described.{Described, described, is_array_told}
use Rattle.declared_names.specs.KeptDeclarations.{said_by}
use Rattle.layout_rules.specs.Declarations.{is_array}
use Rattle.layout_rules.specs.Labels.{statement_of}
use Rattle.inlined_copies.specs.declared.counted_units.LabelCounts.{LabelCounts}
use Rattle.inlined_copies.specs.declared.unit_table.UnitTable.{UnitTable}
use Rattle.program_units.specs.Copies.{call_at}
use Rattle.inlined_copies.specs.LabelCounts.{labels_of}
use Rattle.inlined_copies.specs.LabelTables.{AreLabelsOf, number_in}
use Rattle.inlined_copies.specs.NamedTables.{AreNamed}
use Rattle.program_units.specs.Names.{names_of_unit}
use Rattle.program_units.specs.Units.{unit_at}
use Rattle.inlined_copies.specs.UnitTables.{IsTableOf, appearing_in, labels_behind}
use Rattle.program_units.proofs.StoredNames.{told-all}

-- a name that appears in a unit is one of its names
appears-named : (u : List Labelled) (x : List ℕ) → Contains (appearing_in u u) x → list_any (bytes_eq x) (names_of_unit u) ≡ true
appears-named u x is_in = told-all x [] (appearing_in u u) ∙ list_any-from_Contains nat_list_eq_equiv x (appearing_in u u) is_in

pub table-of : (us : List (List Labelled)) (counts : LabelCounts) (k : ℕ) (unit : List Labelled) (table : UnitTable) → counts.us.now ≡ us → unit ≡ unit_at us k → table.copied ≡ not (k == 0) → said_by table.declared ≡ described unit
    → AreNamed us k (get bytes_eq table.names) → AreLabelsOf counts k unit table.labels table.behind → IsTableOf us (2 ^ 20) counts.counts.now k table
table-of us counts k unit table same here copied declared named labels =
    let cs = counts.counts.now in
    record {
      copied = copied;
      arrays = λ x. ap (λ (d : Described). is_array_told d x) declared ∙ ap (λ (u : List Labelled). is_array u x) here;
      main = named.main;
      names = λ some x is_in. named.copied some x (appears-named (unit_at us k) x is_in);
      firsts = λ l. labels.firsts l
          ∙ ap (λ (w : List (List Labelled)). number_in w (2 ^ 20) cs k unit (statement_of unit l)) same
          ∙ ap (λ (u : List Labelled). number_in us (2 ^ 20) cs k u (statement_of u l)) here;
      lasts = λ l. labels.lasts l
          ∙ ap (λ (w : List (List Labelled)). number_in w (2 ^ 20) cs k unit (statement_of unit l) + labels_behind w cs (call_at (slice_get unit (statement_of unit l)))) same
          ∙ ap (λ (u : List Labelled). number_in us (2 ^ 20) cs k u (statement_of u l) + labels_behind us cs (call_at (slice_get u (statement_of u l)))) here;
      behind = labels.is_behind
          ∙ ap (λ (w : List (List Labelled)). number_in w (2 ^ 20) cs k unit (length unit)) same
          ∙ ap (λ (u : List Labelled). number_in us (2 ^ 20) cs k u (length u)) here
          ∙ ap (λ (u : List Labelled). min (labels_of us cs k u) (2 ^ 20) + 1) (take_all (length (unit_at us k)) (unit_at us k) (omega arith));
    }
