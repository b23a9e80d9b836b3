-- No two blocks of COMMON share a storage, and none gets a word before its first.
use Rattle.std.proofs.Common.{◌≡◌, ℕ, zero, suc, ◌<◌, ◌⊎◌, inl, inr, ⊎_elim, Bool, true, false, cond, List, [], ◌∷◌, ◌++◌, length, map, get_or, Option, Some, refl, sym, ap, subst, ◌∙◌, arith, Contains}
use Rattle.std.specs.Prelude.{filter, flat_map, slice_get}
use Rattle.std.specs.List.{list_any}
use mathlib.Core.Path.{fun_ext}
use Rattle.std.proofs.lemmas.Bool.{cases_Bool, or_from}
use Rattle.std.proofs.lemmas.List.{map-append}
use Rattle.std.proofs.lemmas.List.Elements.{All-contains, All-contains_itself, All-filter, All-map, filter_passes, filter-append, Contains-append_left, Contains-append_right}
use Rattle.std.proofs.lemmas.List.Folds.{list_any-append}
use Rattle.f77_tree.specs.declared.declarations.CommonPart.{CommonPart}
use Rattle.f77_tree.specs.declared.declarations.Decl.{Decl}
use Rattle.f77_tree.specs.declared.programs.NameInfo.{NameInfo}
use Rattle.f77_tree.specs.Declarations.{part_names, index_of}
use Rattle.f77_tree.specs.Places.{same_block, block_names}
use Rattle.f77_tree.proofs.NameLemmas.{same_block-same}
use Rattle.layout_rules.specs.Storage.{Standing, standings_of}
use Rattle.layout_rules.specs.Standings.{firsts_after}
use Rattle.storage_laws.proofs.DeclaredStandings.{is_of, name_of}
use Rattle.layout_rules.proofs.StandingLemmas.{first_if, first-there}

-- ---- lists

pub contains-cases : {X : Type 0} (x : X) (xs : List X) (y : X) → Contains (x ∷ xs) y → (x ≡ y) ⊎ Contains xs y
contains-cases {X} x xs y h = by h.0 h.1 h.2
  where
    by : (k : ℕ) → k < length (x ∷ xs) → get_or (x ∷ xs) k y ≡ y → (x ≡ y) ⊎ Contains xs y
    by zero lt e = inl e
    by (suc k) lt e = inr (k, omega arith, e)

-- an element that passes has this image
pub record IsImage {X Y : Type 0} (f : X → Y) (test : X → Bool) (xs : List X) (y : Y) : Type 0 where
  pub element : X
  pub there : Contains xs element
  pub passes : test element ≡ true
  pub value : f element ≡ y

pub image-of : {X Y : Type 0} (f : X → Y) (test : X → Bool) (xs : List X) (y : Y) → Contains (map f (filter test xs)) y → IsImage f test xs y
image-of f test xs y h =
    All-contains (IsImage f test xs) (map f (filter test xs)) y
    (All-map (IsImage f test xs) f (filter test xs) (λ k d lt. record { element = get_or (filter test xs) k d; there = All-filter test (Contains xs) xs (All-contains_itself xs) k d lt; passes = filter_passes test xs k d lt; value = refl })) h

-- ---- the names of a block

module _ (names : List NameInfo) (block : Option (List ℕ)) where
  abbrev standing : Option (List ℕ) → Decl → Standing
  standing own decl = record { block = own; name = index_of names decl.name }

  -- the names of one part are all in the block, or none of them is
  part-in : (own : Option (List ℕ)) (decls : List Decl) → same_block own block ≡ true → map name_of (filter (is_of block) (map (standing own) decls)) ≡ map (λ (decl : Decl). index_of names decl.name) decls
  part-in own [] h = refl
  part-in own (decl ∷ decls) h =
      ap (λ b. map name_of (cond b (standing own decl ∷ filter (is_of block) (map (standing own) decls)) (filter (is_of block) (map (standing own) decls)))) h
      ∙ ap (λ xs. index_of names decl.name ∷ xs) (part-in own decls h)

  part-out : (own : Option (List ℕ)) (decls : List Decl) → same_block own block ≡ false → filter (is_of block) (map (standing own) decls) ≡ []
  part-out own [] h = refl
  part-out own (decl ∷ decls) h =
      ap (λ b. cond b (standing own decl ∷ filter (is_of block) (map (standing own) decls)) (filter (is_of block) (map (standing own) decls))) h
      ∙ part-out own decls h

  abbrev block_of : List Standing → List ℕ
  block_of standings = map name_of (filter (is_of block) standings)

  pub block-names : (commons : List CommonPart) → block_names names commons block ≡ block_of (flat_map (standings_of names) commons)
  block-names [] = refl
  block-names (part ∷ commons) =
      let rest = flat_map (standings_of names) commons in
      let apart : block_of (standings_of names part ++ rest) ≡ block_of (standings_of names part) ++ block_of rest = ap (map name_of) (filter-append (is_of block) (standings_of names part) rest) ∙ map-append name_of (filter (is_of block) (standings_of names part)) (filter (is_of block) rest) in
      ⊎_elim
      (λ (h : same_block part.block block ≡ true).
      ap (λ b. flat_map (part_names names) (cond b (part ∷ filter (λ (p : CommonPart). same_block p.block block) commons) (filter (λ (p : CommonPart). same_block p.block block) commons))) h
      ∙ ap (λ xs. part_names names part ++ xs) (block-names commons)
      ∙ ap (λ xs. xs ++ block_of rest) (sym (part-in part.block part.decls h))
      ∙ sym apart)
      (λ (h : same_block part.block block ≡ false).
      ap (λ b. flat_map (part_names names) (cond b (part ∷ filter (λ (p : CommonPart). same_block p.block block) commons) (filter (λ (p : CommonPart). same_block p.block block) commons))) h
      ∙ block-names commons
      ∙ ap (λ (xs : List Standing). map name_of xs ++ block_of rest) (sym (part-out part.block part.decls h))
      ∙ sym apart)
      (cases_Bool (same_block part.block block))

-- the names of a block in the table with places are those that stand in it
pub placed-block_names : (names placed : List NameInfo) → ((name : List ℕ) → index_of placed name ≡ index_of names name) → (block : Option (List ℕ)) (commons : List CommonPart) → block_names placed commons block ≡ map name_of (filter (is_of block) (flat_map (standings_of names) commons))
placed-block_names names placed index block commons =
    ap (λ (f : List ℕ → ℕ). flat_map (λ (part : CommonPart). map (λ (decl : Decl). f decl.name) part.decls) (filter (λ (part : CommonPart). same_block part.block block) commons)) (fun_ext index)
    ∙ block-names names block commons

-- the first name of a block is one of the first names
pub first-among : (block : Option (List ℕ)) (seen rest : List Standing) (x : ℕ) → list_any (is_of block) seen ≡ false → slice_get (map name_of (filter (is_of block) rest)) 0 ≡ Some x → Contains (firsts_after seen rest) x
first-among block seen [] x none first = absurd cc
first-among block seen (s ∷ rest) x none first = by (is_of block s) refl first (λ more out. first-among block (seen ++ s ∷ []) rest x out more)
  where
    by : (b : Bool) → is_of block s ≡ b → slice_get (map name_of (cond b (s ∷ filter (is_of block) rest) (filter (is_of block) rest))) 0 ≡ Some x → (slice_get (map name_of (filter (is_of block) rest)) 0 ≡ Some x → list_any (is_of block) (seen ++ s ∷ []) ≡ false → Contains (firsts_after (seen ++ s ∷ []) rest) x) → Contains (firsts_after seen (s ∷ rest)) x
    by false e head later = Contains-append_right (first_if seen s) (firsts_after (seen ++ s ∷ []) rest) x (later head (list_any-append (is_of block) seen (s ∷ []) ∙ or_from (list_any (is_of block) seen) (list_any (is_of block) (s ∷ [])) none (or_from (is_of block s) false e refl)))
    by true e head later =
        let is : s.name ≡ x = cc in
        let fresh : list_any (λ a. same_block a.block s.block) seen ≡ false = ap (λ b. list_any (is_of b) seen) (same_block-same s.block block e) ∙ none in
        Contains-append_left (first_if seen s) (firsts_after (seen ++ s ∷ []) rest) x (subst (λ (k : ℕ). Contains (first_if seen s) k) is (first-there seen s fresh))
