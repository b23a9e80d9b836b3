-- What is told of a name and of an executable, and sets of names one after another.
use Rattle.std.proofs.Common.{◌≡◌, ℕ, Bool, suc, ◌+◌, ◌<◌, List, [], ◌∷◌, ◌++◌, inl, inr, Some, length, get_or, ap, refl, subst, ◌∙◌, sym, arith, length-append}
use Rattle.std.proofs.Math.Seq.{get_or-append_seam}
use Rattle.std.proofs.lemmas.Bool.{cases_order}
use Rattle.std.proofs.lemmas.List.{get_or_append_left}
use Rattle.std.proofs.lemmas.Slice.Zip.{get_or-zip, length-zip}
use Rattle.std.proofs.lemmas.Option.{get_or_from_slice_get, slice_get-get_or, slice_get_within}
use Rattle.std.specs.Prelude.{codes, flat_map, slice_get, zip, if◌then◌else◌}
use Rattle.std.specs.Fmt.{decimal}
use Rattle.alias_classes.specs.Classes.{ClassTable}
use Rattle.alias_classes.specs.declared.TheConstants.{CLASS_WORDS}
use Rattle.class_set.specs.declared.ClassSet.{ClassSet}
use Rattle.f77_tree.specs.declared.programs.Exec.{Exec}
use Rattle.f77_tree.specs.declared.programs.NameInfo.{NameInfo}
use Rattle.graph_texts.specs.GraphText.{class_line, class_names, has_class, loop_line}
use Rattle.graph_texts.specs.NameSets.{AreNameSets, AreNameSetsTo, IsNameSet, held_names}
use Rattle.graph_texts.proofs.Telling.{tested, tested_lines}

-- the name after a blank, where it has a word of the class
abbrev pub name_text : ClassTable → (class : ℕ) → NameInfo → List ℕ
name_text c class = tested (has_class c class) (λ (info : NameInfo). 32 ∷ info.name)

abbrev pub loop_text : ClassTable → Exec → List ℕ
loop_text c exec = loop_line c exec.kind exec.line

-- where each set is that of its name, the names in whose sets the class is are those that have a word of it
held_tested : (c : ClassTable) (class : ℕ) (names : List NameInfo) (sets : List (ClassSet CLASS_WORDS)) → length sets ≡ length names
    → ((k : ℕ) (info : NameInfo) (set : ClassSet CLASS_WORDS) → slice_get names k ≡ Some info → slice_get sets k ≡ Some set → IsNameSet c info set)
    → held_names names sets class ≡ flat_map (name_text c class) names
held_tested c class [] sets each own = refl
held_tested c class (info ∷ names) [] each own = absurd (omega (arith, each))
held_tested c class (info ∷ names) (set ∷ sets) each own =
    let rest = held_tested c class names sets (omega (arith, each)) (λ k next found at here. own (suc k) next found at here) in
    ap (λ (b : Bool). (if b then 32 ∷ info.name else []) ++ held_names names sets class) (own 0 info set refl refl class)
    ∙ ap (λ (end : List ℕ). name_text c class info ++ end) rest

pub held_are : (names : List NameInfo) (c : ClassTable) (sets : List (ClassSet CLASS_WORDS)) (class : ℕ) → AreNameSets names c sets → held_names names sets class ≡ class_names names c class
held_are names c sets class are = held_tested c class names sets are.each are.own ∙ tested_lines (has_class c class) (λ (info : NameInfo). 32 ∷ info.name) names

pub class_line_is : (names : List NameInfo) (c : ClassTable) (sets : List (ClassSet CLASS_WORDS)) (class : ℕ) → AreNameSets names c sets
    → codes "L " ++ decimal class ++ held_names names sets class ++ 10 ∷ [] ≡ class_line names c class
class_line_is names c sets class are = ap (λ (part : List ℕ). codes "L " ++ decimal class ++ part ++ 10 ∷ []) (held_are names c sets class are)

-- a name beside its set
pub beside : (names : List NameInfo) (sets : List (ClassSet CLASS_WORDS)) (k : ℕ) (info : NameInfo) (none : ClassSet CLASS_WORDS) → length sets ≡ length names → slice_get names k ≡ Some info
    → slice_get (zip names sets) k ≡ Some (info, get_or sets k none)
beside names sets k info none each at =
    let within : k < length names = slice_get_within names k info at in
    let also : k < length sets = omega (arith, within, each) in
    let total = length-zip names sets in
    slice_get-get_or (zip names sets) k (info, none) (omega (arith, total, within, also))
    ∙ ap Some (get_or-zip names sets k (info, none) within also)
    ∙ ap (λ (found : NameInfo). Some (found, get_or sets k none)) (get_or_from_slice_get names k info info at)

-- one set more
pub sets_more : (names : List NameInfo) (c : ClassTable) (count : ℕ) (sets : List (ClassSet CLASS_WORDS)) (set : ClassSet CLASS_WORDS) → AreNameSetsTo names c count sets
    → ((info : NameInfo) → slice_get names count ≡ Some info → IsNameSet c info set) → AreNameSetsTo names c (count + 1) (sets ++ set ∷ [])
sets_more names c count sets set before now = record { each = omega (arith, length-append sets (set ∷ []), before.each); own = own }
  where
    own : (k : ℕ) (info : NameInfo) (found : ClassSet CLASS_WORDS) → slice_get names k ≡ Some info → slice_get (sets ++ set ∷ []) k ≡ Some found → IsNameSet c info found
    own k info found at here =
        let within = slice_get_within (sets ++ set ∷ []) k found here in
        let total = length-append sets (set ∷ []) in
        let is : get_or (sets ++ set ∷ []) k found ≡ found = get_or_from_slice_get (sets ++ set ∷ []) k found found here in
        elim (cases_order k (length sets)) [
          | inl last ↦
              let same : set ≡ found = sym (get_or-append_seam sets set [] found) ∙ ap (λ n. get_or (sets ++ set ∷ []) n found) (sym last) ∙ is in
              let each = before.each in
              subst (IsNameSet c info) same (now info (ap (slice_get names) (sym (last ∙ each)) ∙ at))
          | inr other ↦ elim other [
            | inl less ↦ before.own k info found at (slice_get-get_or sets k found less ∙ ap Some (sym (get_or_append_left sets (set ∷ []) found k less) ∙ is))
            | inr more ↦ absurd (omega (arith, more, within, total))
          ]
        ]
