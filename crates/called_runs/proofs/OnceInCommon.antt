-- Where no name stands in COMMON twice, the name at each place of a block stands for this place.
use Rattle.std.proofs.Common.{◌≡◌, ℕ, zero, suc, ◌+◌, Bool, true, false, not, ◌||◌, cond, if◌then◌else◌, List, [], ◌∷◌, ◌++◌, map, flat_map, filter, Option, Some, None, ⊎_elim, refl, sym, ap, ◌∙◌, arith}
use Rattle.std.specs.Prelude.{bytes_eq}
use Rattle.std.specs.Cmp.Lexicographic.{nat_list_eq_equiv}
use Rattle.std.specs.List.{list_any, position_or_len, slice_get}
use Rattle.std.specs.Option.{option_map}
use Rattle.std.proofs.lemmas.Bool.{cases_Bool}
use Rattle.std.proofs.lemmas.List.{map-append}
use Rattle.std.proofs.lemmas.List.Folds.{list_any-append}
use Rattle.std.proofs.lemmas.Map.Keys.{any_passes_from_place}
use Rattle.std.proofs.lemmas.Option.{slice_get-map}
use Rattle.std.proofs.lemmas.Slice.Eq.{bytes_eq-Decides}
use Rattle.f77_tree.specs.declared.declarations.CommonPart.{CommonPart}
use Rattle.f77_tree.specs.declared.declarations.Decl.{Decl}
use Rattle.f77_tree.specs.declared.programs.NameInfo.{NameInfo}
use Rattle.f77_tree.specs.declared.statements.Labelled.{Labelled}
use Rattle.f77_tree.specs.Declarations.{CommonOnce, index_of, part_names}
use Rattle.f77_tree.specs.Places.{same_block}
use Rattle.layout_rules.specs.Declarations.{all_commons}
use Rattle.layout_rules.specs.Faults.{answer_or, first_answer}
use Rattle.unit_laws.proofs.AcceptedTables.{or-parts}
use Rattle.unit_laws.proofs.MainNames.{found-at, named, names_of_block}
use Rattle.unit_laws.proofs.OwnNames.{blocks-same}
use Rattle.program_units.specs.declared.entity.Entity.{Entity}
use Rattle.program_units.specs.declared.entity.Entity.TheVariants.{InBlock}
use Rattle.program_units.specs.Entities.{block_list, found_in}

-- ---- lists in which no name stands twice

abbrev pub Once : List (List ℕ) → Type 0
Once [] = Unit {0}
Once (x ∷ xs) = (list_any (bytes_eq x) xs ≡ false) × Once xs

itself : (x : List ℕ) → bytes_eq x x ≡ true
itself x = (bytes_eq-Decides x x).1 refl

pub once-of : (xs : List (List ℕ)) → ((i j : ℕ) (x : List ℕ) → slice_get xs i ≡ Some x → slice_get xs j ≡ Some x → i ≡ j) → Once xs
once-of [] apart = tt
once-of (x ∷ xs) apart = (
  ⊎_elim
      (λ (is : list_any (bytes_eq x) xs ≡ true). let e : 0 ≡ suc (position_or_len (bytes_eq x) xs) = apart 0 (suc (position_or_len (bytes_eq x) xs)) x refl (found-at x xs is) in absurd (omega (arith, e)))
      (λ (is : list_any (bytes_eq x) xs ≡ false). is)
      (cases_Bool (list_any (bytes_eq x) xs)),
  once-of xs (λ i j y a b. let e = apart (suc i) (suc j) y a b in omega (arith, e)),
)

neither : (a b : Bool) → a ≡ false → b ≡ false → (a || b) ≡ false
neither true b first second = first
neither false b first second = second

-- the second part may be made shorter
tail-once : (xs ys zs : List (List ℕ)) → Once (xs ++ ys) → ((x : List ℕ) → list_any (bytes_eq x) ys ≡ false → list_any (bytes_eq x) zs ≡ false) → Once zs → Once (xs ++ zs)
tail-once [] ys zs once fewer more = more
tail-once (x ∷ xs) ys zs once fewer more =
    let both = or-parts (list_any (bytes_eq x) xs) (list_any (bytes_eq x) ys) (sym (list_any-append (bytes_eq x) xs ys) ∙ once.0) in
    (list_any-append (bytes_eq x) xs zs ∙ neither (list_any (bytes_eq x) xs) (list_any (bytes_eq x) zs) both.0 (fewer x both.1), tail-once xs ys zs once.1 fewer more)

behind : (xs ys : List (List ℕ)) → Once (xs ++ ys) → Once ys
behind [] ys once = once
behind (x ∷ xs) ys once = behind xs ys once.1

-- a name of the first part is none of the second
apart-parts : (xs ys : List (List ℕ)) → Once (xs ++ ys) → (x : List ℕ) → list_any (bytes_eq x) xs ≡ true → list_any (bytes_eq x) ys ≡ false
apart-parts [] ys once x any = let e : false ≡ true = any in absurd cc
apart-parts (y ∷ xs) ys once x any = by (bytes_eq x y) refl any (apart-parts xs ys once.1 x)
  where
    by : (b : Bool) → bytes_eq x y ≡ b → (b || list_any (bytes_eq x) xs) ≡ true → (list_any (bytes_eq x) xs ≡ true → list_any (bytes_eq x) ys ≡ false) → list_any (bytes_eq x) ys ≡ false
    by true is here more =
        let same : x ≡ y = (bytes_eq-Decides x y).0 is in
        let both = or-parts (list_any (bytes_eq y) xs) (list_any (bytes_eq y) ys) (sym (list_any-append (bytes_eq y) xs ys) ∙ once.0) in
        ap (λ (n : List ℕ). list_any (bytes_eq n) ys) same ∙ both.1
    by false is here more = more here

pub among-at : (xs : List (List ℕ)) (i : ℕ) (x : List ℕ) → slice_get xs i ≡ Some x → list_any (bytes_eq x) xs ≡ true
among-at xs i x is = any_passes_from_place (bytes_eq x) xs i x is (itself x)

pub place-once : (xs : List (List ℕ)) → Once xs → (i : ℕ) (x : List ℕ) → slice_get xs i ≡ Some x → position_or_len (bytes_eq x) xs ≡ i
place-once [] once i x is = let e : None ≡ Some x = is in absurd cc
place-once (y ∷ xs) once zero x is =
    let e : Some y ≡ Some x = is in
    let same : y ≡ x = cc in
    ap (λ (b : Bool). cond (not b) (1 + position_or_len (bytes_eq x) xs) 0) (ap (bytes_eq x) same ∙ itself x)
place-once (y ∷ xs) once (suc i) x is = by (bytes_eq x y) refl (place-once xs once.1 i x is)
  where
    by : (b : Bool) → bytes_eq x y ≡ b → position_or_len (bytes_eq x) xs ≡ i → cond (not b) (1 + position_or_len (bytes_eq x) xs) 0 ≡ suc i
    by true here e =
        let same : x ≡ y = (bytes_eq-Decides x y).0 here in
        let both : true ≡ false = sym (among-at xs i x is) ∙ ap (λ (n : List ℕ). list_any (bytes_eq n) xs) same ∙ once.0 in
        absurd cc
    by false here e = omega (arith, e)

-- ---- names of parts and of blocks

abbrev pub names_of_decls : List Decl → List (List ℕ)
names_of_decls decls = map (λ (decl : Decl). decl.name) decls

abbrev pub names_of_parts : List CommonPart → List (List ℕ)
names_of_parts parts = flat_map (λ (part : CommonPart). names_of_decls part.decls) parts

among-is : (x : List ℕ) (decls : List Decl) → list_any (bytes_eq x) (names_of_decls decls) ≡ list_any (named x) decls
among-is x [] = refl
among-is x (decl ∷ decls) = ap (λ (b : Bool). b || list_any (bytes_eq x) (names_of_decls decls)) (nat_list_eq_equiv.symm x decl.name) ∙ ap (λ (b : Bool). bytes_eq decl.name x || b) (among-is x decls)

module _ (block : Option (List ℕ)) where
  pub block-lacks : (x : List ℕ) (parts : List CommonPart) → list_any (bytes_eq x) (names_of_parts parts) ≡ false → list_any (bytes_eq x) (names_of_block block parts) ≡ false
  block-lacks x [] none = refl
  block-lacks x (part ∷ parts) none =
      let both = or-parts (list_any (bytes_eq x) (names_of_decls part.decls)) (list_any (bytes_eq x) (names_of_parts parts)) (sym (list_any-append (bytes_eq x) (names_of_decls part.decls) (names_of_parts parts)) ∙ none) in
      by (same_block part.block block) both.0 (block-lacks x parts both.1)
    where
      by : (b : Bool) → list_any (bytes_eq x) (names_of_decls part.decls) ≡ false → list_any (bytes_eq x) (names_of_block block parts) ≡ false → list_any (bytes_eq x) (names_of_parts (if b then part ∷ filter (λ (p : CommonPart). same_block p.block block) parts else filter (λ (p : CommonPart). same_block p.block block) parts)) ≡ false
      by true here more = list_any-append (bytes_eq x) (names_of_decls part.decls) (names_of_block block parts) ∙ neither (list_any (bytes_eq x) (names_of_decls part.decls)) (list_any (bytes_eq x) (names_of_block block parts)) here more
      by false here more = more

  pub once-block : (parts : List CommonPart) → Once (names_of_parts parts) → Once (names_of_block block parts)
  once-block [] once = tt
  once-block (part ∷ parts) once = by (same_block part.block block) (once-block parts (behind (names_of_decls part.decls) (names_of_parts parts) once))
    where
      by : (b : Bool) → Once (names_of_block block parts) → Once (names_of_parts (if b then part ∷ filter (λ (p : CommonPart). same_block p.block block) parts else filter (λ (p : CommonPart). same_block p.block block) parts))
      by true more = tail-once (names_of_decls part.decls) (names_of_parts parts) (names_of_block block parts) once (λ x none. block-lacks x parts none) more
      by false more = more

  module _ (u : List Labelled) (x : List ℕ) where
    abbrev place : Option (List ℕ) → Entity
    place b = InBlock b (position_or_len (bytes_eq x) (block_list u b))

    -- the first part with the name is of the block that has it
    first-is : (parts : List CommonPart) → Once (names_of_parts parts) → list_any (bytes_eq x) (names_of_block block parts) ≡ true → first_answer (found_in u x) parts ≡ Some (place block)
    first-is [] once any = let e : false ≡ true = any in absurd cc
    first-is (part ∷ parts) once any = by_name (list_any (named x) part.decls) refl (first-is parts (behind (names_of_decls part.decls) (names_of_parts parts) once))
      where
        own : (b : Bool) → same_block part.block block ≡ b → list_any (bytes_eq x) (names_of_decls part.decls) ≡ true → list_any (bytes_eq x) (names_of_parts (if b then part ∷ filter (λ (p : CommonPart). same_block p.block block) parts else filter (λ (p : CommonPart). same_block p.block block) parts)) ≡ true → part.block ≡ block
        own true same here there = blocks-same part.block block same
        own false other here there =
            let e : true ≡ false = sym there ∙ block-lacks x parts (apart-parts (names_of_decls part.decls) (names_of_parts parts) once x here) in
            absurd cc

        later : (b : Bool) → list_any (bytes_eq x) (names_of_decls part.decls) ≡ false → list_any (bytes_eq x) (names_of_parts (if b then part ∷ filter (λ (p : CommonPart). same_block p.block block) parts else filter (λ (p : CommonPart). same_block p.block block) parts)) ≡ true → list_any (bytes_eq x) (names_of_block block parts) ≡ true
        later true none there =
            sym (ap (λ (b : Bool). b || list_any (bytes_eq x) (names_of_block block parts)) none) ∙ sym (list_any-append (bytes_eq x) (names_of_decls part.decls) (names_of_block block parts)) ∙ there
        later false none there = there

        by_name : (b : Bool) → list_any (named x) part.decls ≡ b → (list_any (bytes_eq x) (names_of_block block parts) ≡ true → first_answer (found_in u x) parts ≡ Some (place block)) → answer_or (if b then Some (place part.block) else None) (first_answer (found_in u x) parts) ≡ Some (place block)
        by_name true is more = ap (λ (b : Option (List ℕ)). Some (place b)) (own (same_block part.block block) refl (among-is x part.decls ∙ is) any)
        by_name false is more = more (later (same_block part.block block) (among-is x part.decls ∙ is) any)

-- the name at a place of a block
pub entity-at : (u : List Labelled) → Once (names_of_parts (all_commons u)) → (block : Option (List ℕ)) (i : ℕ) (x : List ℕ) → slice_get (block_list u block) i ≡ Some x → first_answer (found_in u x) (all_commons u) ≡ Some (InBlock block i)
entity-at u once block i x there =
    first-is block u x (all_commons u) once (among-at (block_list u block) i x there) ∙ ap (λ (n : ℕ). Some (InBlock block n)) (place-once (block_list u block) (once-block block (all_commons u) once) i x there)

-- ---- of a program

-- the indices of the names in COMMON
pub indices-are : (names : List NameInfo) (parts : List CommonPart) → flat_map (part_names names) parts ≡ map (index_of names) (names_of_parts parts)
indices-are names [] = refl
indices-are names (part ∷ parts) =
    ap (λ (ns : List ℕ). part_names names part ++ ns) (indices-are names parts)
    ∙ ap (λ (ns : List ℕ). ns ++ map (index_of names) (names_of_parts parts)) (of-decls part.decls)
    ∙ sym (map-append (index_of names) (names_of_decls part.decls) (names_of_parts parts))
  where
    of-decls : (decls : List Decl) → map (λ (decl : Decl). index_of names decl.name) decls ≡ map (index_of names) (names_of_decls decls)
    of-decls [] = refl
    of-decls (decl ∷ decls) = ap (λ (ns : List ℕ). index_of names decl.name ∷ ns) (of-decls decls)

pub common-once : (names : List NameInfo) (parts : List CommonPart) → CommonOnce names parts → Once (names_of_parts parts)
common-once names parts once = once-of (names_of_parts parts) (λ i j x first second. once i j (index_of names x) (at i x first) (at j x second))
  where
    at : (i : ℕ) (x : List ℕ) → slice_get (names_of_parts parts) i ≡ Some x → slice_get (flat_map (part_names names) parts) i ≡ Some (index_of names x)
    at i x is =
        ap (λ (ns : List ℕ). slice_get ns i) (indices-are names parts)
        ∙ slice_get-map (index_of names) (names_of_parts parts) i
        ∙ ap (option_map (index_of names)) is
