-- A name of the main program stays.
use Rattle.std.proofs.Common.{◌≡◌, ℕ, suc, ◌+◌, not, ◌||◌, Bool, true, false, if◌then◌else◌, List, [], ◌∷◌, ◌++◌, map, flat_map, filter, Option, Some, None, bytes_eq, ⊎_elim, refl, sym, ap, subst, ◌∙◌, arith}
use Rattle.std.specs.List.{list_any, position_or_len, slice_get}
use Rattle.std.proofs.lemmas.Bool.{cases_Bool}
use Rattle.std.proofs.lemmas.List.Concat.{flat_map-cons}
use Rattle.std.proofs.lemmas.List.Folds.{list_any-append}
use Rattle.std.proofs.lemmas.Slice.Eq.{bytes_eq-Decides}
use Rattle.f77_tree.proofs.NameLemmas.{bytes_eq-same}
use Rattle.f77_tree.specs.declared.declarations.CommonPart.{CommonPart}
use Rattle.f77_tree.specs.declared.declarations.Decl.{Decl}
use Rattle.f77_tree.specs.declared.statements.Labelled.{Labelled}
use Rattle.f77_tree.specs.Places.{same_block}
use Rattle.layout_rules.specs.Declarations.{all_commons}
use Rattle.layout_rules.specs.Faults.{first_answer, answer_or}
use Rattle.program_units.specs.Units.{unit_at}
use Rattle.program_units.specs.declared.entity.Entity.TheVariants.{InBlock}
use Rattle.program_units.specs.Entities.{block_list, found_in, entity_or, entity_of}
use Rattle.program_units.specs.Names.{main_name, y_name, name_for}

abbrev pub named : List ℕ → Decl → Bool
named x decl = bytes_eq decl.name x

abbrev pub decl_names : List Decl → List (List ℕ)
decl_names decls = map (λ (decl : Decl). decl.name) decls

-- ---- lists

pub position-next : {X : Type 0} (p : X → Bool) (x : X) (xs : List X) → p x ≡ false → position_or_len p (x ∷ xs) ≡ suc (position_or_len p xs)
position-next p x xs is =
    let e : position_or_len p (x ∷ xs) ≡ 1 + position_or_len p xs = ap (λ (b : Bool). if not b then 1 + position_or_len p xs else 0) is in
    let one : 1 + position_or_len p xs ≡ suc (position_or_len p xs) = omega arith in
    e ∙ one

-- the item at the place at which the test finds one
pub found-at : (x : List ℕ) (xs : List (List ℕ)) → list_any (bytes_eq x) xs ≡ true → slice_get xs (position_or_len (bytes_eq x) xs) ≡ Some x
found-at x [] any = let h : false ≡ true = any in absurd cc
found-at x (y ∷ ys) any = ⊎_elim
    (λ (is : bytes_eq x y ≡ true).
    let first : position_or_len (bytes_eq x) (y ∷ ys) ≡ 0 = ap (λ (b : Bool). if not b then 1 + position_or_len (bytes_eq x) ys else 0) is in
    ap (slice_get (y ∷ ys)) first ∙ ap Some (sym (bytes_eq-same x y is)))
    (λ (is : bytes_eq x y ≡ false).
    let later : list_any (bytes_eq x) ys ≡ true = sym (ap (λ (b : Bool). b || list_any (bytes_eq x) ys) is) ∙ any in
    ap (slice_get (y ∷ ys)) (position-next (bytes_eq x) y ys is) ∙ found-at x ys later)
    (cases_Bool (bytes_eq x y))

pub or-behind : (a b : Bool) → b ≡ true → (a || b) ≡ true
or-behind true b is = refl
or-behind false b is = is

-- ---- blocks

pub same_block-itself : (block : Option (List ℕ)) → same_block block block ≡ true
same_block-itself None = refl
same_block-itself (Some name) = (bytes_eq-Decides name name).1 refl

pub among-names : (x : List ℕ) (decls : List Decl) → list_any (named x) decls ≡ true → list_any (bytes_eq x) (decl_names decls) ≡ true
among-names x [] any = let h : false ≡ true = any in absurd cc
among-names x (decl ∷ decls) any = ⊎_elim
    (λ (is : named x decl ≡ true).
    let same : bytes_eq x decl.name ≡ true = subst (λ (n : List ℕ). bytes_eq x n ≡ true) (sym (bytes_eq-same decl.name x is)) ((bytes_eq-Decides x x).1 refl) in
    ap (λ (b : Bool). b || list_any (bytes_eq x) (decl_names decls)) same)
    (λ (is : named x decl ≡ false).
    let later : list_any (named x) decls ≡ true = sym (ap (λ (b : Bool). b || list_any (named x) decls) is) ∙ any in
    or-behind (bytes_eq x decl.name) (list_any (bytes_eq x) (decl_names decls)) (among-names x decls later))
    (cases_Bool (named x decl))

abbrev pub names_of_block : Option (List ℕ) → List CommonPart → List (List ℕ)
names_of_block block parts = flat_map (λ (part : CommonPart). decl_names part.decls) (filter (λ (part : CommonPart). same_block part.block block) parts)

-- what a part of a block tells of a name
pub record Tells (parts : List CommonPart) (x : List ℕ) (block : Option (List ℕ)) : Type 0 where
  pub here : list_any (λ (part : CommonPart). same_block part.block block) parts ≡ true
  pub among : list_any (bytes_eq x) (names_of_block block parts) ≡ true

pub in-first : (x : List ℕ) (part : CommonPart) (parts : List CommonPart) → list_any (named x) part.decls ≡ true → Tells (part ∷ parts) x part.block
in-first x part parts any =
    let own = same_block-itself part.block in
    let kept : filter (λ (p : CommonPart). same_block p.block part.block) (part ∷ parts) ≡ part ∷ filter (λ (p : CommonPart). same_block p.block part.block) parts =
    ap (λ (b : Bool). if b then part ∷ filter (λ (p : CommonPart). same_block p.block part.block) parts else filter (λ (p : CommonPart). same_block p.block part.block) parts) own in
    let rest = names_of_block part.block parts in
    let split : names_of_block part.block (part ∷ parts) ≡ decl_names part.decls ++ rest =
    ap (flat_map (λ (p : CommonPart). decl_names p.decls)) kept ∙ flat_map-cons (λ (p : CommonPart). decl_names p.decls) part (filter (λ (p : CommonPart). same_block p.block part.block) parts) in
    record {
      here = ap (λ (b : Bool). b || list_any (λ (p : CommonPart). same_block p.block part.block) parts) own;
      among = ap (list_any (bytes_eq x)) split ∙ list_any-append (bytes_eq x) (decl_names part.decls) rest ∙ ap (λ (b : Bool). b || list_any (bytes_eq x) rest) (among-names x part.decls any);
    }

pub later : (x : List ℕ) (part : CommonPart) (parts : List CommonPart) (block : Option (List ℕ)) → Tells parts x block → Tells (part ∷ parts) x block
later x part parts block told = ⊎_elim
    (λ (is : same_block part.block block ≡ true).
    let rest = names_of_block block parts in
    let kept : filter (λ (p : CommonPart). same_block p.block block) (part ∷ parts) ≡ part ∷ filter (λ (p : CommonPart). same_block p.block block) parts =
    ap (λ (b : Bool). if b then part ∷ filter (λ (p : CommonPart). same_block p.block block) parts else filter (λ (p : CommonPart). same_block p.block block) parts) is in
    let split : names_of_block block (part ∷ parts) ≡ decl_names part.decls ++ rest =
    ap (flat_map (λ (p : CommonPart). decl_names p.decls)) kept ∙ flat_map-cons (λ (p : CommonPart). decl_names p.decls) part (filter (λ (p : CommonPart). same_block p.block block) parts) in
    let both : Tells (part ∷ parts) x block = record {
      here = ap (λ (b : Bool). b || list_any (λ (p : CommonPart). same_block p.block block) parts) is;
      among = ap (list_any (bytes_eq x)) split ∙ list_any-append (bytes_eq x) (decl_names part.decls) rest ∙ or-behind (list_any (bytes_eq x) (decl_names part.decls)) (list_any (bytes_eq x) rest) told.among;
    } in
    both)
    (λ (is : same_block part.block block ≡ false).
    let both : Tells (part ∷ parts) x block = record {
      here = ap (λ (b : Bool). b || list_any (λ (p : CommonPart). same_block p.block block) parts) is ∙ told.here;
      among = ap (λ (b : Bool). list_any (bytes_eq x) (flat_map (λ (p : CommonPart). decl_names p.decls) (if b then part ∷ filter (λ (p : CommonPart). same_block p.block block) parts else filter (λ (p : CommonPart). same_block p.block block) parts))) is ∙ told.among;
    } in
    both)
    (cases_Bool (same_block part.block block))

module _ (us : List (List Labelled)) (x : List ℕ) where
  abbrev main : List Labelled
  main = unit_at us 0

  -- the entity that a name of a block stands for has this name
  pub in-block : (block : Option (List ℕ)) → Tells (all_commons main) x block → name_for us (InBlock block (position_or_len (bytes_eq x) (block_list main block))) ≡ x
  in-block block told =
      let e = InBlock block (position_or_len (bytes_eq x) (block_list main block)) in
      ap (λ (b : Bool). if b then main_name us e else y_name us e) told.here
      ∙ (let at = found-at x (block_list main block) told.among in rw at refl)

  pub by-parts : (parts : List CommonPart) → ((block : Option (List ℕ)) → Tells parts x block → Tells (all_commons main) x block) → name_for us (entity_or 0 x (first_answer (found_in main x) parts)) ≡ x
  by-parts [] whole = refl
  by-parts (part ∷ parts) whole =
      let place = position_or_len (bytes_eq x) (block_list main part.block) in
      let told : Bool → List ℕ = λ b. name_for us (entity_or 0 x (answer_or (if b then Some (InBlock part.block place) else None) (first_answer (found_in main x) parts))) in
      ⊎_elim
      (λ (is : list_any (named x) part.decls ≡ true). ap told is ∙ in-block part.block (whole part.block (in-first x part parts is)))
      (λ (is : list_any (named x) part.decls ≡ false). ap told is ∙ by-parts parts (λ block more. whole block (later x part parts block more)))
      (cases_Bool (list_any (named x) part.decls))

  pub main-own : name_for us (entity_of us 0 x) ≡ x
  main-own = by-parts (all_commons main) (λ block told. told)
