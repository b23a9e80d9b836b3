-- What right parts of DATA give: constants of the kinds of their words, and no word twice.
use Rattle.std.proofs.Common.{◌≡◌, ℕ, ◌==◌, false, true, List, [], ◌∷◌, ◌++◌, map, refl, ap, sym, ◌∙◌}
use Rattle.std.specs.Prelude.{flat_map}
use Rattle.std.proofs.lemmas.Bool.{and_parts, or_parts, or_from, not-false, true≢false}
use Rattle.f77_tree.specs.declared.declarations.InitPart.{InitPart}
use Rattle.f77_tree.specs.declared.declarations.Kind.{Kind}
use Rattle.f77_tree.specs.declared.declarations.Kind.TheVariants.{Integer, Logical}
use Rattle.f77_tree.specs.declared.programs.NameInfo.{NameInfo}
use Rattle.f77_tree.specs.InitialWords.{part_kinds, part_words, constants, lit_kind}
use Rattle.layout_rules.specs.Faults.{has_repeat}
use Rattle.layout_rules.specs.StorageFaults.{same_kind, are_same_kinds, has_other_kinds, is_wrong_part, has_wrong_part}
use Rattle.layout_rules.proofs.FirstLine.{has_repeat-append}

one_kind : (a b : Kind) → same_kind a b ≡ true → a ≡ b
one_kind Integer Integer is = refl
one_kind Logical Logical is = refl
one_kind _ _ is = absurd (true≢false (sym is))

same_kinds : (more others : List Kind) → are_same_kinds more others ≡ true → more ≡ others
same_kinds [] [] is = refl
same_kinds (a ∷ more) (b ∷ others) is =
    let parts = and_parts (same_kind a b) (are_same_kinds more others) is in
    ap (λ (k : Kind). k ∷ more) (one_kind a b parts.0) ∙ ap (λ (ks : List Kind). b ∷ ks) (same_kinds more others parts.1)
same_kinds _ _ is = absurd (true≢false (sym is))

module _ (names : List NameInfo) (given : List ℕ) (part : InitPart) where
  -- a part whose constants are of the kinds of its words, which have no value yet
  pub record IsRightPart : Type 0 where
    pub kinds : part_kinds names part ≡ map lit_kind (constants part)
    pub once : has_repeat (λ a b. a == b) given (part_words names part) ≡ false

  pub right_part : is_wrong_part names given part ≡ false → IsRightPart
  right_part right =
      let here = or_parts (has_other_kinds names part) (has_repeat (λ a b. a == b) given (part_words names part)) right in
      record { kinds = same_kinds (part_kinds names part) (map lit_kind (constants part)) (not-false (are_same_kinds (part_kinds names part) (map lit_kind (constants part))) here.0); once = here.1 }

  -- the part and those after it
  pub record AreRight (parts : List InitPart) : Type 0 where
    pub here : IsRightPart
    pub later : has_wrong_part names (given ++ part_words names part) parts ≡ false

  pub right_parts : (parts : List InitPart) → has_wrong_part names given (part ∷ parts) ≡ false → AreRight parts
  right_parts parts right =
      let both = or_parts (is_wrong_part names given part) (has_wrong_part names (given ++ part_words names part) parts) right in
      record { here = right_part both.0; later = both.1 }

-- no word is given a value twice
pub words_once : (names : List NameInfo) (given : List ℕ) (parts : List InitPart) → has_wrong_part names given parts ≡ false → has_repeat (λ a b. a == b) given (flat_map (part_words names) parts) ≡ false
words_once names given [] right = refl
words_once names given (part ∷ parts) right =
    let are = right_parts names given part parts right in
    has_repeat-append (λ a b. a == b) given (part_words names part) (flat_map (part_words names) parts)
    ∙ or_from (has_repeat (λ a b. a == b) given (part_words names part)) (has_repeat (λ a b. a == b) (given ++ part_words names part) (flat_map (part_words names) parts)) are.here.once (words_once names (given ++ part_words names part) parts are.later)
