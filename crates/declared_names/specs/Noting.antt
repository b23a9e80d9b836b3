-- The table of names as it grows, name by name, in the order of the text.
use Rattle.std.specs.Prelude.{ℕ, not, if◌then◌else◌, ◌||◌, List, [], ◌∷◌, ◌++◌, bytes_eq}
use Rattle.std.specs.List.{list_any}
use Rattle.std.specs.Option.{is_some}
use Rattle.f77_tree.specs.declared.programs.NameInfo.{NameInfo}
use Rattle.declared_names.specs.declared.appearances.Appeared.{Appeared}
use Rattle.declared_names.specs.declared.declarations.Declarations.{Declarations}
use Rattle.layout_rules.specs.Executables.{kind_or_integer}
use Rattle.declared_names.specs.KeptDeclarations.{dims_by, kind_by}

-- the table's line for a name
abbrev pub info_by : Declarations → List ℕ → NameInfo
info_by declared name = record { name = name; kind = kind_or_integer (kind_by declared name); dims = dims_by declared name; place = 0 }

abbrev pub with_info : NameInfo → List NameInfo → List NameInfo
with_info info names = if list_any (λ old. bytes_eq info.name old.name) names then names else names ++ info ∷ []

-- one more name has appeared
abbrev pub noted : Declarations → Appeared → List ℕ → Appeared
noted declared seen name = record {
  names = with_info (info_by declared name) seen.names;
  has_real = seen.has_real || not (is_some (kind_by declared name));
}
