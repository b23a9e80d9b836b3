-- In a unit in which no name stands twice in COMMON, the name at a place of a block stands for that place.
use Rattle.std.proofs.Common.{◌≡◌, ℕ, zero, suc, Bool, true, false, ◌||◌, cond, List, [], ◌∷◌, ◌++◌, flat_map, filter, Option, Some, None, if◌then◌else◌, refl, sym, ap, ◌∙◌}
use Rattle.std.specs.Prelude.{bytes_eq}
use Rattle.std.specs.Cmp.Lexicographic.{nat_list_eq_equiv}
use Rattle.std.specs.List.{list_any, position_or_len, slice_get}
use Rattle.std.proofs.lemmas.Bool.{or_from, or_left, or_parts, or_right}
use Rattle.std.proofs.lemmas.List.Folds.{list_any-append}
use Rattle.f77_tree.proofs.NameLemmas.{bytes_eq-same}
use Rattle.f77_tree.specs.declared.declarations.CommonPart.{CommonPart}
use Rattle.f77_tree.specs.declared.declarations.Decl.{Decl}
use Rattle.f77_tree.specs.declared.statements.Labelled.{Labelled}
use Rattle.f77_tree.specs.Places.{same_block}
use Rattle.layout_rules.specs.Declarations.{all_commons}
use Rattle.layout_rules.specs.Faults.{answer_or, first_answer, has_repeat}
use Rattle.layout_rules.proofs.DeclaredOnce.{one_place}
use Rattle.layout_rules.proofs.FirstLine.{has_repeat-append}
use Rattle.symbol_table.proofs.NameEntries.{bytes_eq-sym}
use Rattle.program_units.specs.declared.entity.Entity.{Entity}
use Rattle.program_units.specs.declared.entity.Entity.TheVariants.{InBlock}
use Rattle.program_units.specs.Entities.{block_list, entity_of, entity_or}
use Rattle.program_units.specs.Units.{unit_at}
use Rattle.unit_laws.proofs.MainNames.{decl_names, found-at, named, names_of_block}
use Rattle.unit_laws.proofs.OwnNames.{blocks-same}
use Rattle.unit_laws.proofs.UsedNames.{Among, behind, in-front}

abbrev names_in_part : CommonPart → List (List ℕ)
names_in_part part = decl_names part.decls

abbrev names_in_parts : List CommonPart → List (List ℕ)
names_in_parts parts = flat_map names_in_part parts

-- ---- names that stand once

absent : (b : Bool) → (b ≡ true → ⊥) → b ≡ false
absent true no_more = absurd (no_more refl)
absent false no_more = refl

among-here : (x : List ℕ) (decls : List Decl) → list_any (bytes_eq x) (decl_names decls) ≡ list_any (named x) decls
among-here x [] = refl
among-here x (decl ∷ decls) = ap (λ (b : Bool). b || list_any (bytes_eq x) (decl_names decls)) (bytes_eq-sym x decl.name) ∙ ap (λ (b : Bool). bytes_eq decl.name x || b) (among-here x decls)

none-before : (x : List ℕ) (seen xs : List (List ℕ)) → has_repeat bytes_eq seen xs ≡ false → Among x xs → list_any (bytes_eq x) seen ≡ false
none-before x seen [] once among = let e : false ≡ true = among in absurd cc
none-before x seen (y ∷ ys) once among = by (bytes_eq x y) refl among (none-before x (seen ++ y ∷ []) ys parts.1)
  where
    parts : (list_any (bytes_eq y) seen ≡ false) × (has_repeat bytes_eq (seen ++ y ∷ []) ys ≡ false)
    parts = or_parts (list_any (bytes_eq y) seen) (has_repeat bytes_eq (seen ++ y ∷ []) ys) once

    by : (b : Bool) → bytes_eq x y ≡ b → (b || list_any (bytes_eq x) ys) ≡ true → (Among x ys → list_any (bytes_eq x) (seen ++ y ∷ []) ≡ false) → list_any (bytes_eq x) seen ≡ false
    by true same any later = ap (λ (z : List ℕ). list_any (bytes_eq z) seen) (bytes_eq-same x y same) ∙ parts.0
    by false other any later = (or_parts (list_any (bytes_eq x) seen) (list_any (bytes_eq x) (y ∷ [])) (sym (list_any-append (bytes_eq x) seen (y ∷ [])) ∙ later any)).0

more-inside : (seen less back : List (List ℕ)) → ((y : List ℕ) → Among y less → Among y seen) → (y : List ℕ) → Among y (less ++ back) → Among y (seen ++ back)
more-inside seen less back inside y among = by (list_any (bytes_eq y) less) refl (sym (list_any-append (bytes_eq y) less back) ∙ among)
  where
    by : (b : Bool) → list_any (bytes_eq y) less ≡ b → (b || list_any (bytes_eq y) back) ≡ true → Among y (seen ++ back)
    by true is any = in-front y seen back (inside y is)
    by false is any = behind y seen back any

-- fewer items before a list
fewer : (seen less xs : List (List ℕ)) → ((y : List ℕ) → Among y less → Among y seen) → has_repeat bytes_eq seen xs ≡ false → has_repeat bytes_eq less xs ≡ false
fewer seen less [] inside once = refl
fewer seen less (x ∷ xs) inside once =
    let parts = or_parts (list_any (bytes_eq x) seen) (has_repeat bytes_eq (seen ++ x ∷ []) xs) once in
    or_from (list_any (bytes_eq x) less) (has_repeat bytes_eq (less ++ x ∷ []) xs)
    (absent (list_any (bytes_eq x) less) (λ (is : Among x less). let e : true ≡ false = sym (inside x is) ∙ parts.0 in absurd cc))
    (fewer (seen ++ x ∷ []) (less ++ x ∷ []) xs (more-inside seen less (x ∷ []) inside) parts.1)

-- ---- the names of a block

module _ (block : Option (List ℕ)) where
  abbrev own : List CommonPart → List CommonPart
  own parts = filter (λ (part : CommonPart). same_block part.block block) parts

  pub of-own : (part : CommonPart) (parts : List CommonPart) (b : Bool) → same_block part.block block ≡ b → names_of_block block (part ∷ parts) ≡ (if b then names_in_part part ++ names_of_block block parts else names_of_block block parts)
  of-own part parts true is = ap (λ (b : Bool). names_in_parts (cond b (part ∷ own parts) (own parts))) is
  of-own part parts false is = ap (λ (b : Bool). names_in_parts (cond b (part ∷ own parts) (own parts))) is

  own-once : (parts : List CommonPart) (seen less : List (List ℕ)) → ((y : List ℕ) → Among y less → Among y seen) → has_repeat bytes_eq seen (names_in_parts parts) ≡ false → has_repeat bytes_eq less (names_of_block block parts) ≡ false
  own-once [] seen less inside once = refl
  own-once (part ∷ parts) seen less inside once =
      let here : List (List ℕ) = names_in_part part in
      let both = or_parts (has_repeat bytes_eq seen here) (has_repeat bytes_eq (seen ++ here) (names_in_parts parts)) (sym (has_repeat-append bytes_eq seen here (names_in_parts parts)) ∙ once) in
      by (same_block part.block block) refl both.0 (own-once parts (seen ++ here) (less ++ here) (more-inside seen less here inside) both.1) (own-once parts (seen ++ here) less (λ y among. in-front y seen here (inside y among)) both.1)
    where
      by : (b : Bool) → same_block part.block block ≡ b → has_repeat bytes_eq seen (names_in_part part) ≡ false → has_repeat bytes_eq (less ++ names_in_part part) (names_of_block block parts) ≡ false → has_repeat bytes_eq less (names_of_block block parts) ≡ false
          → has_repeat bytes_eq less (names_of_block block (part ∷ parts)) ≡ false
      by true is first with_it without =
          ap (has_repeat bytes_eq less) (of-own part parts true is)
          ∙ has_repeat-append bytes_eq less (names_in_part part) (names_of_block block parts)
          ∙ or_from (has_repeat bytes_eq less (names_in_part part)) (has_repeat bytes_eq (less ++ names_in_part part) (names_of_block block parts)) (fewer seen less (names_in_part part) inside first) with_it
      by false is first with_it without = ap (has_repeat bytes_eq less) (of-own part parts false is) ∙ without

  -- a name of the block is one of all parts
  pub own-among : (x : List ℕ) (parts : List CommonPart) → Among x (names_of_block block parts) → Among x (names_in_parts parts)
  own-among x [] among = among
  own-among x (part ∷ parts) among = by (same_block part.block block) refl (own-among x parts)
    where
      here : List (List ℕ)
      here = names_in_part part

      back : List (List ℕ)
      back = names_of_block block parts

      front : (b : Bool) → list_any (bytes_eq x) here ≡ b → (b || list_any (bytes_eq x) back) ≡ true → (Among x back → Among x (names_in_parts parts)) → Among x (here ++ names_in_parts parts)
      front true is any more = in-front x here (names_in_parts parts) is
      front false is any more = behind x here (names_in_parts parts) (more any)

      by : (b : Bool) → same_block part.block block ≡ b → (Among x back → Among x (names_in_parts parts)) → Among x (here ++ names_in_parts parts)
      by true is more = front (list_any (bytes_eq x) here) refl (sym (list_any-append (bytes_eq x) here back) ∙ ap (list_any (bytes_eq x)) (sym (of-own part parts true is)) ∙ among) more
      by false is more = behind x here (names_in_parts parts) (more (ap (list_any (bytes_eq x)) (sym (of-own part parts false is)) ∙ among))

  -- the first part that has the name is of the block
  told : (x : List ℕ) (g : Option (List ℕ) → Entity) (parts : List CommonPart) (seen : List (List ℕ)) → has_repeat bytes_eq seen (names_in_parts parts) ≡ false → Among x (names_of_block block parts)
      → first_answer (λ (part : CommonPart). if list_any (named x) part.decls then Some (g part.block) else None) parts ≡ Some (g block)
  told x g [] seen once among = let e : false ≡ true = among in absurd cc
  told x g (part ∷ parts) seen once among = by (list_any (named x) part.decls) refl (same_block part.block block) refl (told x g parts (seen ++ here) both.1)
    where
      here : List (List ℕ)
      here = names_in_part part

      both : (has_repeat bytes_eq seen here ≡ false) × (has_repeat bytes_eq (seen ++ here) (names_in_parts parts) ≡ false)
      both = or_parts (has_repeat bytes_eq seen here) (has_repeat bytes_eq (seen ++ here) (names_in_parts parts)) (sym (has_repeat-append bytes_eq seen here (names_in_parts parts)) ∙ once)

      answer : List CommonPart → Option Entity
      answer parts = first_answer (λ (part : CommonPart). if list_any (named x) part.decls then Some (g part.block) else None) parts

      -- a name of later parts is none of this one
      not-here : Among x (names_of_block block parts) → list_any (bytes_eq x) here ≡ false
      not-here later = (or_parts (list_any (bytes_eq x) seen) (list_any (bytes_eq x) here) (sym (list_any-append (bytes_eq x) seen here) ∙ none-before x (seen ++ here) (names_in_parts parts) both.1 (own-among x parts later))).1

      by : (b : Bool) → list_any (named x) part.decls ≡ b → (c : Bool) → same_block part.block block ≡ c → (Among x (names_of_block block parts) → answer parts ≡ Some (g block)) → answer_or (if b then Some (g part.block) else None) (answer parts) ≡ Some (g block)
      by true is true same more = ap (λ (k : Option (List ℕ)). Some (g k)) (blocks-same part.block block same)
      by true is false same more =
          let later : Among x (names_of_block block parts) = ap (list_any (bytes_eq x)) (sym (of-own part parts false same)) ∙ among in
          let e : true ≡ false = sym is ∙ sym (among-here x part.decls) ∙ not-here later in
          absurd cc
      by false is true same more =
          more (ap (λ (b : Bool). b || list_any (bytes_eq x) (names_of_block block parts)) (sym (among-here x part.decls ∙ is)) ∙ sym (list_any-append (bytes_eq x) here (names_of_block block parts)) ∙ ap (list_any (bytes_eq x)) (sym (of-own part parts true same)) ∙ among)
      by false is false same more = more (ap (list_any (bytes_eq x)) (sym (of-own part parts false same)) ∙ among)

-- ---- a unit

pub among-at : (xs : List (List ℕ)) (j : ℕ) (x : List ℕ) → slice_get xs j ≡ Some x → Among x xs
among-at [] j x here = let e : None ≡ Some x = here in absurd cc
among-at (y ∷ ys) zero x here = let e : Some y ≡ Some x = here in let same : y ≡ x = cc in or_left (bytes_eq x y) (list_any (bytes_eq x) ys) (ap (bytes_eq x) same ∙ nat_list_eq_equiv.refl x)
among-at (y ∷ ys) (suc j) x here = or_right (bytes_eq x y) (list_any (bytes_eq x) ys) (among-at ys j x here)

pub block-place : (us : List (List Labelled)) (k : ℕ) → has_repeat bytes_eq [] (names_in_parts (all_commons (unit_at us k))) ≡ false
    → (block : Option (List ℕ)) (place : ℕ) (x : List ℕ) → slice_get (block_list (unit_at us k) block) place ≡ Some x → entity_of us k x ≡ InBlock block place
block-place us k once block place x here =
    let u : List Labelled = unit_at us k in
    let names : List (List ℕ) = block_list u block in
    let among : Among x names = among-at names place x here in
    let g : Option (List ℕ) → Entity = λ b. InBlock b (position_or_len (bytes_eq x) (block_list u b)) in
    let apart : has_repeat bytes_eq [] names ≡ false = own-once block (all_commons u) [] [] (λ y is. is) once in
    let same : position_or_len (bytes_eq x) names ≡ place = one_place bytes_eq nat_list_eq_equiv.refl [] names apart (position_or_len (bytes_eq x) names) place x (found-at x names among) here in
    ap (entity_or k x) (told block x g (all_commons u) [] once among) ∙ ap (InBlock block) same
