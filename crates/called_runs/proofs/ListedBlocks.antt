-- The names of a block in the list: those of the main program, or else the new names of its places, in order.
use Rattle.std.proofs.Common.{◌≡◌, ℕ, zero, suc, ◌+◌, ◌-◌, ◌<◌, ◌==◌, Bool, true, false, not, ◌||◌, ◌&&◌, if◌then◌else◌, List, [], ◌∷◌, ◌++◌, length, get_or, map, flat_map, filter, fold, take, drop, Option, Some, None, ⊎_elim, refl, sym, ap, ◌∙◌, arith, append-nil}
use Rattle.std.specs.Prelude.{Contains}
use Rattle.std.specs.List.{list_any, range_with_len, slice_get}
use Rattle.std.specs.Option.{option_map}
use Rattle.std.proofs.lemmas.Bool.{and_parts, cases_Bool, eqb-true}
use Rattle.std.proofs.lemmas.List.{length-map, take-append-drop}
use Rattle.std.proofs.lemmas.List.Concat.{flat_map-append}
use Rattle.std.proofs.lemmas.List.Elements.{filter-append}
use Rattle.std.proofs.lemmas.List.Folds.{list_any-append}
use Rattle.std.proofs.lemmas.List.FromFn.{get_or-range_with_len, length-range_with_len}
use Rattle.std.proofs.lemmas.Option.{get_or_from_slice_get, slice_get-get_or, slice_get-map, slice_get_within}
use Rattle.list_laws.proofs.Members.{Member-filtered, Member-flat_map, Member-from_Contains, list_any_member, member_of_list_any}
use Rattle.f77_tree.specs.declared.declarations.CommonPart.{CommonPart}
use Rattle.f77_tree.specs.declared.statements.Labelled.{Labelled}
use Rattle.f77_tree.specs.Places.{same_block}
use Rattle.layout_rules.specs.Declarations.{all_commons, parts_of}
use Rattle.unit_laws.proofs.AcceptedTables.{alike-lengths, or-parts}
use Rattle.unit_laws.proofs.MainNames.{names_of_block}
use Rattle.unit_laws.proofs.ManyBlocks.{block-sym, has-told, told-blocks}
use Rattle.unit_laws.proofs.OwnNames.{blocks-same}
use Rattle.program_units.specs.Expansion.{block_size, blocks, common_decl, declared_first, merged, units_but_main, whole_list, with_block}
use Rattle.program_units.specs.Names.{has_block, name_for}
use Rattle.program_units.specs.declared.entity.Entity.TheVariants.{InBlock}
use Rattle.program_units.specs.Entities.{block_list}
use Rattle.program_units.specs.Merged.{is_merged, is_run_block}
use Rattle.program_units.specs.Refusals.{first_with, is_mismatched_part}
use Rattle.program_units.specs.Units.{runs, unit_at, unit_or_none}
use Rattle.called_runs.proofs.DeclaredAlike.{Beside, beside}
use Rattle.called_runs.proofs.EntityNames.{even-lists, first-main, main-name}
use Rattle.called_runs.proofs.NamesOfUnits.{any-weaker, in-units}
use Rattle.called_runs.proofs.OnceInCommon.{names_of_parts}

-- ---- blocks, each once

abbrev pub AreOnce : List (Option (List ℕ)) → Type 0
AreOnce [] = Unit {0}
AreOnce (b ∷ bs) = (list_any (same_block b) bs ≡ false) × AreOnce bs

one-more : (bs : List (Option (List ℕ))) (c : Option (List ℕ)) → AreOnce bs → list_any (same_block c) bs ≡ false → AreOnce (bs ++ c ∷ [])
one-more [] c once none = (refl, tt)
one-more (b ∷ bs) c once none =
    let both = or-parts (same_block c b) (list_any (same_block c) bs) none in
    (pushed b bs c once.0 (block-sym b c ∙ both.0), one-more bs c once.1 both.1)
  where
    pushed : (b : Option (List ℕ)) (bs : List (Option (List ℕ))) (c : Option (List ℕ)) → list_any (same_block b) bs ≡ false → same_block b c ≡ false → list_any (same_block b) (bs ++ c ∷ []) ≡ false
    pushed b [] c none differs = ap (λ (x : Bool). x || false) differs
    pushed b (d ∷ bs) c none differs =
        let both = or-parts (same_block b d) (list_any (same_block b) bs) none in
        ap (λ (x : Bool). x || list_any (same_block b) (bs ++ c ∷ [])) both.0 ∙ pushed b bs c both.1 differs

noted-once : (seen found : List (Option (List ℕ))) → AreOnce seen → AreOnce (fold with_block seen found)
noted-once seen [] once = once
noted-once seen (b ∷ found) once = noted-once (with_block seen b) found (by (list_any (same_block b) seen) refl)
  where
    by : (c : Bool) → list_any (same_block b) seen ≡ c → AreOnce (if c then seen else seen ++ b ∷ [])
    by true is = once
    by false is = one-more seen b once is

pub blocks-once : (us : List (List Labelled)) → AreOnce (blocks us)
blocks-once us = noted-once [] (flat_map (λ u. map (λ (part : CommonPart). part.block) (all_commons u)) us) tt

-- ---- the names of a block in lists of parts

module _ (block : Option (List ℕ)) where
  pub of-both : (xs ys : List CommonPart) → names_of_block block (xs ++ ys) ≡ names_of_block block xs ++ names_of_block block ys
  of-both xs ys =
      let own : CommonPart → Bool = λ part. same_block part.block block in
      ap names_of_parts (filter-append own xs ys) ∙ flat_map-append (λ (part : CommonPart). map (λ decl. decl.name) part.decls) (filter own xs) (filter own ys)

  pub of-none : (parts : List CommonPart) → list_any (λ part. same_block part.block block) parts ≡ false → names_of_block block parts ≡ []
  of-none [] none = refl
  of-none (part ∷ parts) none =
      let both = or-parts (same_block part.block block) (list_any (λ p. same_block p.block block) parts) none in
      ap (λ (b : Bool). names_of_parts (if b then part ∷ filter (λ p. same_block p.block block) parts else filter (λ p. same_block p.block block) parts)) both.0 ∙ of-none parts both.1

  module _ (us : List (List Labelled)) where
    abbrev part_of : Option (List ℕ) → CommonPart
    part_of b = record { block = b; decls = map (common_decl us b) (range_with_len 0 (block_size us b)) }

    abbrev pub new_names : Option (List ℕ) → List (List ℕ)
    new_names b = map (λ i. name_for us (InBlock b i)) (range_with_len 0 (block_size us b))

    decl-names : (b : Option (List ℕ)) (is : List ℕ) → map (λ decl. decl.name) (map (common_decl us b) is) ≡ map (λ i. name_for us (InBlock b i)) is
    decl-names b [] = refl
    decl-names b (i ∷ is) = ap (λ (xs : List (List ℕ)). name_for us (InBlock b i) ∷ xs) (decl-names b is)

    -- the block stands once among those that are merged, if at all
    pub of-put : (bs : List (Option (List ℕ))) → AreOnce bs → names_of_block block (map part_of (filter (is_merged us) bs)) ≡ (if is_merged us block && list_any (same_block block) bs then new_names block else [])
    of-put [] once = sym (never (is_merged us block))
      where
        never : (b : Bool) → (if b && false then new_names block else []) ≡ []
        never true = refl
        never false = refl
    of-put (c ∷ cs) once = by (same_block c block) refl (is_merged us c) refl (of-put cs once.1)
      where
        by : (b : Bool) → same_block c block ≡ b → (p : Bool) → is_merged us c ≡ p → names_of_block block (map part_of (filter (is_merged us) cs)) ≡ (if is_merged us block && list_any (same_block block) cs then new_names block else [])
            → names_of_block block (map part_of (if p then c ∷ filter (is_merged us) cs else filter (is_merged us) cs)) ≡ (if is_merged us block && (same_block block c || list_any (same_block block) cs) then new_names block else [])
        by true is true put more =
            let same : c ≡ block = blocks-same c block is in
            let none : list_any (same_block block) cs ≡ false = ap (λ (b : Option (List ℕ)). list_any (same_block b) cs) (sym same) ∙ once.0 in
            let nothing : names_of_block block (map part_of (filter (is_merged us) cs)) ≡ [] = more ∙ ap (λ (b : Bool). if is_merged us block && b then new_names block else []) none ∙ never (is_merged us block) in
            ap (λ (b : Bool). names_of_parts (if b then part_of c ∷ filter (λ p. same_block p.block block) (map part_of (filter (is_merged us) cs)) else filter (λ p. same_block p.block block) (map part_of (filter (is_merged us) cs)))) is
            ∙ ap (λ (xs : List (List ℕ)). map (λ decl. decl.name) (part_of c).decls ++ xs) nothing
            ∙ append-nil (map (λ decl. decl.name) (part_of c).decls)
            ∙ decl-names c (range_with_len 0 (block_size us c))
            ∙ ap new_names same
            ∙ sym (ap (λ (b : Bool). if b && (same_block block c || list_any (same_block block) cs) then new_names block else []) (ap (is_merged us) (sym same) ∙ put)
            ∙ ap (λ (b : Bool). if b || list_any (same_block block) cs then new_names block else []) (block-sym block c ∙ is))
          where
            never : (b : Bool) → (if b && false then new_names block else []) ≡ []
            never true = refl
            never false = refl
        by true is false put more =
            let same : c ≡ block = blocks-same c block is in
            let not_put : is_merged us block ≡ false = ap (is_merged us) (sym same) ∙ put in
            more
            ∙ ap (λ (b : Bool). if b && list_any (same_block block) cs then new_names block else []) not_put
            ∙ sym (ap (λ (b : Bool). if b && (same_block block c || list_any (same_block block) cs) then new_names block else []) not_put)
        by false is true put more =
            ap (λ (b : Bool). names_of_parts (if b then part_of c ∷ filter (λ p. same_block p.block block) (map part_of (filter (is_merged us) cs)) else filter (λ p. same_block p.block block) (map part_of (filter (is_merged us) cs)))) is
            ∙ more
            ∙ ap (λ (b : Bool). if is_merged us block && (b || list_any (same_block block) cs) then new_names block else []) (sym (block-sym block c ∙ is))
        by false is false put more = more ∙ ap (λ (b : Bool). if is_merged us block && (b || list_any (same_block block) cs) then new_names block else []) (sym (block-sym block c ∙ is))

-- ---- the list

pub contains-at : {X : Type 0} (xs : List X) (k : ℕ) (x : X) → slice_get xs k ≡ Some x → Contains xs x
contains-at xs k x there = (k, slice_get_within xs k x there, get_or_from_slice_get xs k x x there)

any-flat : {X Y : Type 0} (p : Y → Bool) (f : X → List Y) (xs : List X) (k : ℕ) (x : X) → slice_get xs k ≡ Some x → list_any p (f x) ≡ true → list_any p (flat_map f xs) ≡ true
any-flat p f xs k x there any =
    let one = member_of_list_any p (f x) any in
    let among = Member-from_Contains xs x (contains-at xs k x there) in
    list_any_member p (flat_map f xs) one.one (Member-flat_map f xs x one.one among one.among) one.passes

block-size-is : (us : List (List Labelled)) (block : Option (List ℕ)) → block_size us block ≡ length (block_list (first_with us block) block)
block-size-is us block = by (filter (λ u. has_block u block) us) refl
  where
    by : (found : List (List Labelled)) → filter (λ u. has_block u block) us ≡ found → block_size us block ≡ length (block_list (first_with us block) block)
    by [] is = rw is refl
    by (u ∷ rest) is = rw is refl

range-get : {X : Type 0} (f : ℕ → X) (m i : ℕ) → i < m → slice_get (map f (range_with_len 0 m)) i ≡ Some (f i)
range-get f m i less =
    let same : 0 + i ≡ i = omega arith in
    slice_get-map f (range_with_len 0 m) i
    ∙ ap (option_map f) (slice_get-get_or (range_with_len 0 m) i i (omega (arith, less, length-range_with_len 0 m)) ∙ ap (λ (n : ℕ). Some n) (get_or-range_with_len 0 m i i less ∙ same))

range-within : {X : Type 0} (f : ℕ → X) (m i : ℕ) (x : X) → slice_get (map f (range_with_len 0 m)) i ≡ Some x → i < m
range-within f m i x there =
    let inside = slice_get_within (map f (range_with_len 0 m)) i x there in
    omega (arith, inside, length-map (range_with_len 0 m) f, length-range_with_len 0 m)

-- a place of a block that a unit of the run has
pub record IsPlaceOf (us : List (List Labelled)) (block : Option (List ℕ)) (i : ℕ) : Type 0 where
  pub unit : ℕ
  pub name : List ℕ
  pub runs_it : runs us unit ≡ true
  pub there : slice_get (block_list (unit_at us unit) block) i ≡ Some name

module _ (us : List (List Labelled)) (block : Option (List ℕ))
    (listed : all_commons (whole_list us) ≡ all_commons (take (declared_first (unit_at us 0)) (unit_at us 0)) ++ (all_commons (merged us) ++ all_commons (drop (declared_first (unit_at us 0)) (unit_at us 0))))
    (added : all_commons (merged us) ≡ map (λ b. record { block = b; decls = map (common_decl us b) (range_with_len 0 (block_size us b)) }) (filter (is_merged us) (blocks us)))
    (even : (k : ℕ) → list_any (is_mismatched_part us (unit_at us k)) (all_commons (unit_at us k)) ≡ false) where
  abbrev main : List Labelled
  main = unit_at us 0

  abbrev front : List CommonPart
  front = all_commons (take (declared_first main) main)

  abbrev back : List CommonPart
  back = all_commons (drop (declared_first main) main)

  abbrev own : CommonPart → Bool
  own part = same_block part.block block

  parts-split : front ++ back ≡ all_commons main
  parts-split = sym (flat_map-append (λ (s : Labelled). parts_of s.stmt) (take (declared_first main) main) (drop (declared_first main) main)) ∙ ap all_commons (take-append-drop (declared_first main) main)

  names-split : names_of_block block (all_commons (whole_list us)) ≡ names_of_block block front ++ (names_of_block block (all_commons (merged us)) ++ names_of_block block back)
  names-split = ap (names_of_block block) listed ∙ of-both block front (all_commons (merged us) ++ back) ∙ ap (λ (xs : List (List ℕ)). names_of_block block front ++ xs) (of-both block (all_commons (merged us)) back)

  put-is : (b : Bool) → (is_merged us block && list_any (same_block block) (blocks us)) ≡ b → names_of_block block (all_commons (merged us)) ≡ (if b then new_names block us block else [])
  put-is b is = ap (names_of_block block) added ∙ of-put block us (blocks us) (blocks-once us) ∙ ap (λ (c : Bool). if c then new_names block us block else []) is

  -- a block of the main program has its names there
  main-names : has_block main block ≡ true → names_of_block block (all_commons (whole_list us)) ≡ block_list main block
  main-names has =
      let none : (is_merged us block && list_any (same_block block) (blocks us)) ≡ false = ap (λ (b : Bool). (not b && is_run_block us block) && list_any (same_block block) (blocks us)) has in
      names-split
      ∙ ap (λ (xs : List (List ℕ)). names_of_block block front ++ (xs ++ names_of_block block back)) (put-is false none)
      ∙ sym (of-both block front back)
      ∙ ap (names_of_block block) parts-split

  outside : has_block main block ≡ false → (list_any own front ≡ false) × (list_any own back ≡ false)
  outside has = or-parts (list_any own front) (list_any own back) (sym (list_any-append own front back) ∙ ap (list_any own) parts-split ∙ has)

  other-names : has_block main block ≡ false → (b : Bool) → (is_merged us block && list_any (same_block block) (blocks us)) ≡ b → names_of_block block (all_commons (whole_list us)) ≡ (if b then new_names block us block else [])
  other-names has b is =
      names-split
      ∙ ap (λ (xs : List (List ℕ)). xs ++ (names_of_block block (all_commons (merged us)) ++ names_of_block block back)) (of-none block front (outside has).0)
      ∙ ap (λ (xs : List (List ℕ)). names_of_block block (all_commons (merged us)) ++ xs) (of-none block back (outside has).1)
      ∙ append-nil (names_of_block block (all_commons (merged us)))
      ∙ put-is b is

  -- a unit with a name of the block has the block
  has-of : (k i : ℕ) (x : List ℕ) → slice_get (block_list (unit_at us k) block) i ≡ Some x → has_block (unit_at us k) block ≡ true
  has-of k i x there = ⊎_elim
      (λ (is : has_block (unit_at us k) block ≡ true). is)
      (λ (is : has_block (unit_at us k) block ≡ false).
      let nothing : slice_get (block_list (unit_at us k) block) i ≡ None = ap (λ (xs : List (List ℕ)). slice_get xs i) (of-none block (all_commons (unit_at us k)) is) in
      let e : None ≡ Some x = sym nothing ∙ there in
      absurd cc)
      (cases_Bool (has_block (unit_at us k) block))

  noted : (k : ℕ) → has_block (unit_at us k) block ≡ true → list_any (same_block block) (blocks us) ≡ true
  noted k has =
      told-blocks block [] (flat_map (λ u. map (λ (part : CommonPart). part.block) (all_commons u)) us) ∙ by (slice_get us k) refl has
    where
      by : (o : Option (List Labelled)) → slice_get us k ≡ o → has_block (unit_or_none o) block ≡ true → list_any (same_block block) (flat_map (λ u. map (λ (part : CommonPart). part.block) (all_commons u)) us) ≡ true
      by None is none = let e : false ≡ true = none in absurd cc
      by (Some u) is some = any-flat (same_block block) (λ v. map (λ (part : CommonPart). part.block) (all_commons v)) us k u is (has-told block u ∙ some)

  -- the names stand at their places
  pub place-there : (k i : ℕ) (x : List ℕ) → runs us k ≡ true → slice_get (block_list (unit_at us k) block) i ≡ Some x → slice_get (names_of_block block (all_commons (whole_list us))) i ≡ Some (name_for us (InBlock block i))
  place-there k i x run there = by (has_block main block) refl
    where
      inside : k < length us
      inside = by_unit (slice_get us k) refl there
        where
          by_unit : (o : Option (List Labelled)) → slice_get us k ≡ o → slice_get (block_list (unit_or_none o) block) i ≡ Some x → k < length us
          by_unit None is none = let e : None ≡ Some x = none in absurd cc
          by_unit (Some v) is some = slice_get_within us k v is

      u : List Labelled
      u = unit_at us k

      first : List Labelled
      first = first_with us block

      other : Beside u first (block_list first block) i x
      other = beside u first (block_list u block) (block_list first block) i x (even-lists us u block (all_commons u) (even k) (has-of k i x there)) there

      by : (b : Bool) → has_block main block ≡ b → slice_get (names_of_block block (all_commons (whole_list us))) i ≡ Some (name_for us (InBlock block i))
      by true is =
          let main_there : slice_get (block_list main block) i ≡ Some other.name = ap (λ (v : List Labelled). slice_get (block_list v block) i) (sym (first-main us block is)) ∙ other.there in
          ap (λ (xs : List (List ℕ)). slice_get xs i) (main-names is) ∙ main_there ∙ ap (λ (n : List ℕ). Some n) (sym (main-name us block i other.name is main_there))
      by false is = not-main k refl
        where
          not-main : (j : ℕ) → k ≡ j → slice_get (names_of_block block (all_commons (whole_list us))) i ≡ Some (name_for us (InBlock block i))
          not-main zero zero_is =
              let both : true ≡ false = sym (has-of k i x there) ∙ ap (λ (n : ℕ). has_block (unit_at us n) block) zero_is ∙ is in
              absurd cc
          not-main (suc j) suc_is =
              let among : is_run_block us block ≡ true = any-weaker (λ (n : ℕ). n == k) (λ (n : ℕ). has_block (unit_at us n) block) (λ n same. ap (λ (m : ℕ). has_block (unit_at us m) block) (eqb-true n k same) ∙ has-of k i x there) (units_but_main us) (in-units us k (omega (arith, suc_is)) inside run) in
              let put : (is_merged us block && list_any (same_block block) (blocks us)) ≡ true = ap (λ (b : Bool). (not b && is_run_block us block) && list_any (same_block block) (blocks us)) is ∙ ap (λ (b : Bool). b && list_any (same_block block) (blocks us)) among ∙ noted k (has-of k i x there) in
              let less : i < block_size us block = let e = slice_get_within (block_list first block) i other.name other.there in let size = block-size-is us block in omega (arith, e, size) in
              ap (λ (xs : List (List ℕ)). slice_get xs i) (other-names is true put) ∙ range-get (λ n. name_for us (InBlock block n)) (block_size us block) i less

  -- and nothing else stands there
  pub place-back : (i : ℕ) (n : List ℕ) → slice_get (names_of_block block (all_commons (whole_list us))) i ≡ Some n → IsPlaceOf us block i × (n ≡ name_for us (InBlock block i))
  place-back i n there = by (has_block main block) refl
    where
      by : (b : Bool) → has_block main block ≡ b → IsPlaceOf us block i × (n ≡ name_for us (InBlock block i))
      by true is =
          let main_there : slice_get (block_list main block) i ≡ Some n = ap (λ (xs : List (List ℕ)). slice_get xs i) (sym (main-names is)) ∙ there in
          (record { unit = 0; name = n; runs_it = refl; there = main_there }, sym (main-name us block i n is main_there))
      by false is = by_put (is_merged us block && list_any (same_block block) (blocks us)) refl
        where
          by_put : (b : Bool) → (is_merged us block && list_any (same_block block) (blocks us)) ≡ b → IsPlaceOf us block i × (n ≡ name_for us (InBlock block i))
          by_put false none =
              let e : None ≡ Some n = sym (ap (λ (xs : List (List ℕ)). slice_get xs i) (other-names is false none)) ∙ there in
              absurd cc
          by_put true put =
              let made : slice_get (new_names block us block) i ≡ Some n = sym (ap (λ (xs : List (List ℕ)). slice_get xs i) (other-names is true put)) ∙ there in
              let less : i < block_size us block = range-within (λ m. name_for us (InBlock block m)) (block_size us block) i n made in
              let same : Some n ≡ Some (name_for us (InBlock block i)) = sym made ∙ range-get (λ m. name_for us (InBlock block m)) (block_size us block) i less in
              let parts = and_parts (is_merged us block) (list_any (same_block block) (blocks us)) put in
              let run = (and_parts (not (has_block main block)) (is_run_block us block) parts.0).1 in
              let one = member_of_list_any (λ (k : ℕ). has_block (unit_at us k) block) (units_but_main us) run in
              let alike = alike-lengths (unit_at us one.one) (first_with us block) (block_list (unit_at us one.one) block) (block_list (first_with us block) block) (even-lists us (unit_at us one.one) block (all_commons (unit_at us one.one)) (even one.one) one.passes) in
              let size = block-size-is us block in
              let inside : i < length (block_list (unit_at us one.one) block) = omega (arith, less, alike, size) in
              (record { unit = one.one; name = get_or (block_list (unit_at us one.one) block) i []; runs_it = (Member-filtered (runs us) (range_with_len 1 (length us - 1)) one.one one.among).1; there = slice_get-get_or (block_list (unit_at us one.one) block) i [] inside }, cc)
