-- Sets of the classes of names.
use Rattle.std.specs.Prelude.{◌≡◌, ℕ, List, [], ◌∷◌, length, Some, slice_get, flat_map, zip, if◌then◌else◌}
use Rattle.class_set.specs.ClassSet.{holds}
use Rattle.class_set.specs.declared.ClassSet.{ClassSet}
use Rattle.f77_tree.specs.declared.programs.NameInfo.{NameInfo}
use Rattle.alias_classes.specs.Classes.{ClassTable}
use Rattle.alias_classes.specs.declared.TheConstants.{CLASS_WORDS}
use Rattle.graph_texts.specs.GraphText.{has_class}

-- the members of a set are the classes of the words of a name
abbrev pub IsNameSet : ClassTable → NameInfo → ClassSet CLASS_WORDS → Type 0
IsNameSet c info set = (class : ℕ) → holds set class ≡ has_class c class info

-- there is one for each of the first names
pub record AreNameSetsTo (names : List NameInfo) (c : ClassTable) (count : ℕ) (sets : List (ClassSet CLASS_WORDS)) : Type 0 where
  pub each : length sets ≡ count
  pub own : (k : ℕ) (info : NameInfo) (set : ClassSet CLASS_WORDS) → slice_get names k ≡ Some info → slice_get sets k ≡ Some set → IsNameSet c info set

-- there is one for each name
abbrev pub AreNameSets : List NameInfo → ClassTable → List (ClassSet CLASS_WORDS) → Type 0
AreNameSets names c sets = AreNameSetsTo names c (length names) sets

-- the names in whose sets the class is, each after a blank
abbrev pub held_name : (class : ℕ) → (NameInfo × ClassSet CLASS_WORDS) → List ℕ
held_name class pair = if holds pair.1 class then 32 ∷ pair.0.name else []

abbrev pub held_names : List NameInfo → List (ClassSet CLASS_WORDS) → (class : ℕ) → List ℕ
held_names names sets class = flat_map (held_name class) (zip names sets)
