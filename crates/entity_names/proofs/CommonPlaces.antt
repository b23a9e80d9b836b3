-- Names of COMMON blocks, noted one by one.
use Rattle.std.proofs.Common.{◌≡◌, ℕ, zero, suc, ◌+◌, ◌^◌, ◌<◌, ◌≤◌, ◌==◌, Bool, true, false, not, ◌&&◌, ◌||◌, cond, List, [], ◌∷◌, ◌++◌, length, get_or, take, map, flat_map, filter, Option, Some, None, if◌then◌else◌, ⊎_elim, refl, sym, ap, subst, ◌∙◌, arith, length-append}
use Rattle.std.specs.Prelude.{bytes_eq}
use Rattle.std.specs.List.{list_any, position_or_len, slice_get}
use Rattle.std.proofs.lemmas.Bool.{cases_Bool, eqb-true, eq-eqb, ne_eqb}
use Rattle.std.proofs.lemmas.List.{append_assoc, append-nil, map-append, take_more}
use Rattle.std.proofs.lemmas.List.Concat.{flat_map-cons}
use Rattle.f77_tree.specs.declared.declarations.CommonPart.{CommonPart}
use Rattle.f77_tree.specs.declared.declarations.Decl.{Decl}
use Rattle.f77_tree.specs.declared.statements.Labelled.{Labelled}
use Rattle.f77_tree.specs.Places.{same_block}
use Rattle.layout_rules.specs.Declarations.{all_commons}
use Rattle.layout_rules.specs.Faults.{first_answer, answer_or}
use Rattle.indexmap.specs.IndexMap.{get, index_map_len}
use Rattle.layout_rules.proofs.FlatParts.{flat_map_taken}
use Rattle.layout_rules.proofs.FirstLine.{first_answer-append}
use Rattle.symbol_table.proofs.NameEntries.{bytes_eq-sym}
use Rattle.entity_names.specs.declared.unit_blocks.UnitBlocks.{UnitBlocks}
use Rattle.program_units.specs.declared.entity.Entity.{Entity}
use Rattle.program_units.specs.declared.entity.Entity.TheVariants.{InBlock}
use Rattle.program_units.specs.Entities.{block_list}
use Rattle.program_units.specs.Names.{same_entity}
use Rattle.entity_names.specs.UnitBlocks.{AreBlocksOf, AreKept, InCommon, KeepsNames, block_if, declared_by, entity_in, in_block, in_commons, in_part, or_zero, place_in_block}
use Rattle.unit_laws.proofs.MainNames.{same_block-itself}
use Rattle.unit_laws.proofs.OwnNames.{blocks-same}

-- ---- places in lists

pub pos-front : {X : Type 0} (p : X → Bool) (xs ys : List X) → list_any p xs ≡ true → position_or_len p (xs ++ ys) ≡ position_or_len p xs
pos-front p [] ys any = let e : false ≡ true = any in absurd cc
pos-front p (x ∷ xs) ys any = by_test (p x) any (pos-front p xs ys)
  where
    by_test : (b : Bool) → (b || list_any p xs) ≡ true → (list_any p xs ≡ true → position_or_len p (xs ++ ys) ≡ position_or_len p xs) → cond (not b) (1 + position_or_len p (xs ++ ys)) 0 ≡ cond (not b) (1 + position_or_len p xs) 0
    by_test true here more = refl
    by_test false here more = ap (λ (n : ℕ). 1 + n) (more here)

pub pos-behind : {X : Type 0} (p : X → Bool) (xs : List X) (y : X) → list_any p xs ≡ false → p y ≡ true → position_or_len p (xs ++ y ∷ []) ≡ length xs
pos-behind p [] y none is = ap (λ (b : Bool). cond (not b) 1 0) is
pos-behind p (x ∷ xs) y none is = by_test (p x) none (λ (later : list_any p xs ≡ false). pos-behind p xs y later is)
  where
    by_test : (b : Bool) → (b || list_any p xs) ≡ false → (list_any p xs ≡ false → position_or_len p (xs ++ y ∷ []) ≡ length xs) → cond (not b) (1 + position_or_len p (xs ++ y ∷ [])) 0 ≡ suc (length xs)
    by_test true here more = let e : true ≡ false = here in absurd cc
    by_test false here more = let e = more here in omega (arith, e)

get-none : {X : Type 0} (xs : List X) (i : ℕ) → xs ≡ [] → slice_get xs i ≡ None
get-none [] zero none = refl
get-none [] (suc i) none = refl
get-none (x ∷ xs) i none = let e : x ∷ xs ≡ [] = none in absurd cc

eqb-suc : (a b : ℕ) → (suc a == suc b) ≡ (a == b)
eqb-suc a b = ⊎_elim
    (λ (is : (a == b) ≡ true). eq-eqb (suc a) (suc b) (ap suc (eqb-true a b is)) ∙ sym is)
    (λ (is : (a == b) ≡ false). ne_eqb (suc a) (suc b) (λ (e : suc a ≡ suc b). let same : a ≡ b = omega (arith, e) in let both : true ≡ false = sym (eq-eqb a b same) ∙ is in absurd cc) ∙ sym is)
    (cases_Bool (a == b))

get-push : {X : Type 0} (xs : List X) (y : X) (i : ℕ) → slice_get (xs ++ y ∷ []) i ≡ (if length xs == i then Some y else slice_get xs i)
get-push [] y zero = refl
get-push [] y (suc i) = get-none [] i refl ∙ sym (ap (λ (b : Bool). if b then Some y else None) (ne_eqb 0 (suc i) (λ (e : 0 ≡ suc i). omega (arith, e))))
get-push (x ∷ xs) y zero = sym (ap (λ (b : Bool). if b then Some y else Some x) (ne_eqb (suc (length xs)) 0 (λ (e : suc (length xs) ≡ 0). omega (arith, e))))
get-push (x ∷ xs) y (suc i) = get-push xs y i ∙ sym (ap (λ (b : Bool). if b then Some y else slice_get xs i) (eqb-suc (length xs) i))

-- ---- the names of a block

pub in_block-append : (xs ys : List InCommon) (block : Option (List ℕ)) → in_block (xs ++ ys) block ≡ in_block xs block ++ in_block ys block
in_block-append [] ys block = refl
in_block-append (x ∷ xs) ys block = by_test (same_block x.block block) (in_block-append xs ys block)
  where
    by_test : (b : Bool) → in_block (xs ++ ys) block ≡ in_block xs block ++ in_block ys block → map (λ (c : InCommon). c.name) (cond b (x ∷ filter (λ (c : InCommon). same_block c.block block) (xs ++ ys)) (filter (λ (c : InCommon). same_block c.block block) (xs ++ ys))) ≡ map (λ (c : InCommon). c.name) (cond b (x ∷ filter (λ (c : InCommon). same_block c.block block) xs) (filter (λ (c : InCommon). same_block c.block block) xs)) ++ in_block ys block
    by_test true more = ap (λ (names : List (List ℕ)). x.name ∷ names) more
    by_test false more = more

in_block-one : (c : InCommon) (block : Option (List ℕ)) → in_block (c ∷ []) block ≡ cond (same_block c.block block) (c.name ∷ []) []
in_block-one c block = by_test (same_block c.block block)
  where
    by_test : (b : Bool) → map (λ (x : InCommon). x.name) (cond b (c ∷ []) []) ≡ cond b (c.name ∷ []) []
    by_test true = refl
    by_test false = refl

in_block-push : (common : List InCommon) (c : InCommon) (block : Option (List ℕ)) (b : Bool) → same_block c.block block ≡ b → in_block (common ++ c ∷ []) block ≡ in_block common block ++ cond b (c.name ∷ []) []
in_block-push common c block b is =
    in_block-append common (c ∷ []) block
    ∙ ap (λ (names : List (List ℕ)). in_block common block ++ names) (in_block-one c block ∙ ap (λ (x : Bool). cond x (c.name ∷ []) []) is)

in_block-few : (common : List InCommon) (block : Option (List ℕ)) → length (in_block common block) ≤ length common
in_block-few [] block = omega arith
in_block-few (c ∷ common) block = by_test (same_block c.block block) (in_block-few common block)
  where
    by_test : (b : Bool) → length (in_block common block) ≤ length common → length (map (λ (x : InCommon). x.name) (cond b (c ∷ filter (λ (x : InCommon). same_block x.block block) common) (filter (λ (x : InCommon). same_block x.block block) common))) ≤ suc (length common)
    by_test true few = omega (arith, few)
    by_test false few = omega (arith, few)

-- ---- where a name stands

found-among : (x : List ℕ) (common : List InCommon) (block : Option (List ℕ)) → first_answer (block_if x) common ≡ Some block → list_any (bytes_eq x) (in_block common block) ≡ true
found-among x [] block is = let e : None ≡ Some block = is in absurd cc
found-among x (c ∷ common) block is = by_name (bytes_eq c.name x) refl is (found-among x common block)
  where
    or-behind : (a b : Bool) → b ≡ true → (a || b) ≡ true
    or-behind true b some = refl
    or-behind false b some = some

    here : (b : Bool) → same_block c.block block ≡ b → list_any (bytes_eq x) (in_block common block) ≡ true → list_any (bytes_eq x) (map (λ (y : InCommon). y.name) (cond b (c ∷ filter (λ (y : InCommon). same_block y.block block) common) (filter (λ (y : InCommon). same_block y.block block) common))) ≡ true
    here true same later = or-behind (bytes_eq x c.name) (list_any (bytes_eq x) (in_block common block)) later
    here false same later = later

    by_name : (b : Bool) → bytes_eq c.name x ≡ b → answer_or (if b then Some c.block else None) (first_answer (block_if x) common) ≡ Some block → (first_answer (block_if x) common ≡ Some block → list_any (bytes_eq x) (in_block common block) ≡ true)
        → list_any (bytes_eq x) (in_block (c ∷ common) block) ≡ true
    by_name true same found more =
        let e : Some c.block ≡ Some block = found in
        let own : c.block ≡ block = cc in
        let kept : same_block c.block block ≡ true = subst (λ (y : Option (List ℕ)). same_block c.block y ≡ true) own (same_block-itself c.block) in
        let first : bytes_eq x c.name ≡ true = bytes_eq-sym x c.name ∙ same in
        ap (λ (b : Bool). list_any (bytes_eq x) (map (λ (y : InCommon). y.name) (cond b (c ∷ filter (λ (y : InCommon). same_block y.block block) common) (filter (λ (y : InCommon). same_block y.block block) common)))) kept
        ∙ ap (λ (b : Bool). b || list_any (bytes_eq x) (in_block common block)) first
    by_name false other found more = here (same_block c.block block) refl (more found)

none-among : (x : List ℕ) (common : List InCommon) → first_answer (block_if x) common ≡ None → (block : Option (List ℕ)) → list_any (bytes_eq x) (in_block common block) ≡ false
none-among x [] none block = refl
none-among x (c ∷ common) none block = by_name (bytes_eq c.name x) refl none (λ (later : first_answer (block_if x) common ≡ None). none-among x common later block)
  where
    here : (b : Bool) → bytes_eq x c.name ≡ false → list_any (bytes_eq x) (in_block common block) ≡ false → list_any (bytes_eq x) (map (λ (y : InCommon). y.name) (cond b (c ∷ filter (λ (y : InCommon). same_block y.block block) common) (filter (λ (y : InCommon). same_block y.block block) common))) ≡ false
    here true other later = ap (λ (b : Bool). b || list_any (bytes_eq x) (in_block common block)) other ∙ later
    here false other later = later

    by_name : (b : Bool) → bytes_eq c.name x ≡ b → answer_or (if b then Some c.block else None) (first_answer (block_if x) common) ≡ None → (first_answer (block_if x) common ≡ None → list_any (bytes_eq x) (in_block common block) ≡ false)
        → list_any (bytes_eq x) (in_block (c ∷ common) block) ≡ false
    by_name true same found more = let e : Some c.block ≡ None = found in absurd cc
    by_name false other found more = here (same_block c.block block) (bytes_eq-sym x c.name ∙ other) (more found)

-- ---- one name more

pub size-more : (common : List InCommon) (c : InCommon) (old new : Option (List ℕ) → Option ℕ) (n : ℕ) → ((block : Option (List ℕ)) → or_zero (old block) ≡ length (in_block common block)) → n ≡ or_zero (old c.block)
    → ((block : Option (List ℕ)) → new block ≡ (if same_block c.block block then Some (n + 1) else old block)) → (block : Option (List ℕ)) → or_zero (new block) ≡ length (in_block (common ++ c ∷ []) block)
size-more common c old new n before many after block = by_test (same_block c.block block) refl (after block)
  where
    by_test : (b : Bool) → same_block c.block block ≡ b → new block ≡ (if b then Some (n + 1) else old block) → or_zero (new block) ≡ length (in_block (common ++ c ∷ []) block)
    by_test true same is =
        let own : c.block ≡ block = blocks-same c.block block same in
        let long : length (in_block (common ++ c ∷ []) block) ≡ length (in_block common block) + 1 = ap length (in_block-push common c block true same) ∙ length-append (in_block common block) (c.name ∷ []) in
        let was : n ≡ length (in_block common block) = many ∙ ap (λ (b : Option (List ℕ)). or_zero (old b)) own ∙ before block in
        ap or_zero is ∙ ap (λ (m : ℕ). m + 1) was ∙ sym long
    by_test false other is =
        let long : length (in_block (common ++ c ∷ []) block) ≡ length (in_block common block) + 0 = ap length (in_block-push common c block false other) ∙ length-append (in_block common block) [] in
        let old_size = before block in
        let new_size : or_zero (new block) ≡ or_zero (old block) = ap or_zero is in
        omega (arith, long, old_size, new_size)

pub name-more : (common : List InCommon) (c : InCommon) (old new : Entity → Option (List ℕ)) (n : ℕ) → ((block : Option (List ℕ)) (place : ℕ) → old (InBlock block place) ≡ slice_get (in_block common block) place) → n ≡ length (in_block common c.block)
    → ((e : Entity) → new e ≡ (if same_entity (InBlock c.block n) e then Some c.name else old e)) → (block : Option (List ℕ)) (place : ℕ) → new (InBlock block place) ≡ slice_get (in_block (common ++ c ∷ []) block) place
name-more common c old new n before many after block place = by_test (same_block c.block block) refl (after (InBlock block place))
  where
    by_test : (b : Bool) → same_block c.block block ≡ b → new (InBlock block place) ≡ (if b && (n == place) then Some c.name else old (InBlock block place)) → new (InBlock block place) ≡ slice_get (in_block (common ++ c ∷ []) block) place
    by_test true same is =
        let own : c.block ≡ block = blocks-same c.block block same in
        let xs = in_block common block in
        let long : n ≡ length xs = many ∙ ap (λ (b : Option (List ℕ)). length (in_block common b)) own in
        is
        ∙ ap (λ (o : Option (List ℕ)). if n == place then Some c.name else o) (before block place)
        ∙ ap (λ (m : ℕ). if m == place then Some c.name else slice_get xs place) long
        ∙ sym (ap (λ (ys : List (List ℕ)). slice_get ys place) (in_block-push common c block true same) ∙ get-push xs c.name place)
    by_test false other is =
        is ∙ before block place ∙ sym (ap (λ (ys : List (List ℕ)). slice_get ys place) (in_block-push common c block false other ∙ append-nil (in_block common block)))

pub entity-more : (common : List InCommon) (c : InCommon) (n : ℕ) (x : List ℕ) (old new : Option Entity) → old ≡ entity_in common x → n ≡ length (in_block common c.block)
    → new ≡ answer_or old (if bytes_eq c.name x then Some (InBlock c.block n) else None) → new ≡ entity_in (common ++ c ∷ []) x
entity-more common c n x old new before many is =
    is ∙ ap (λ (o : Option Entity). answer_or o (if bytes_eq c.name x then Some (InBlock c.block n) else None)) before
    ∙ by_first (first_answer (block_if x) common) refl
    ∙ sym (ap (place_in_block (common ++ c ∷ []) x) (first_answer-append (block_if x) common (c ∷ [])))
  where
    by_name : (b : Bool) → bytes_eq c.name x ≡ b → first_answer (block_if x) common ≡ None → (if b then Some (InBlock c.block n) else None) ≡ place_in_block (common ++ c ∷ []) x (answer_or (if b then Some c.block else None) None)
    by_name true same none =
        let own : same_block c.block c.block ≡ true = same_block-itself c.block in
        let place : position_or_len (bytes_eq x) (in_block (common ++ c ∷ []) c.block) ≡ n =
        ap (position_or_len (bytes_eq x)) (in_block-push common c c.block true own)
        ∙ pos-behind (bytes_eq x) (in_block common c.block) c.name (none-among x common none c.block) (bytes_eq-sym x c.name ∙ same)
        ∙ sym many in
        ap (λ (m : ℕ). Some (InBlock c.block m)) (sym place)
    by_name false other none = refl

    by_first : (first : Option (Option (List ℕ))) → first_answer (block_if x) common ≡ first
        → answer_or (place_in_block common x first) (if bytes_eq c.name x then Some (InBlock c.block n) else None) ≡ place_in_block (common ++ c ∷ []) x (answer_or first (first_answer (block_if x) (c ∷ [])))
    by_first None none = by_name (bytes_eq c.name x) refl none
    by_first (Some block) some =
        let place : position_or_len (bytes_eq x) (in_block (common ++ c ∷ []) block) ≡ position_or_len (bytes_eq x) (in_block common block) =
        ap (position_or_len (bytes_eq x)) (in_block-append common (c ∷ []) block) ∙ pos-front (bytes_eq x) (in_block common block) (in_block (c ∷ []) block) (found-among x common block some) in
        ap (λ (m : ℕ). Some (InBlock block m)) (sym place)

-- ---- a whole unit

of-part : (block other : Option (List ℕ)) (decls : List Decl) → in_block (declared_by block decls) other ≡ cond (same_block block other) (map (λ (decl : Decl). decl.name) decls) []
of-part block other [] = by_test (same_block block other)
  where
    by_test : (b : Bool) → [] ≡ cond b (map (λ (decl : Decl). decl.name) []) []
    by_test true = refl
    by_test false = refl
of-part block other (decl ∷ decls) = by_test (same_block block other) refl (of-part block other decls)
  where
    by_test : (b : Bool) → same_block block other ≡ b → in_block (declared_by block decls) other ≡ cond (same_block block other) (map (λ (d : Decl). d.name) decls) []
        → map (λ (c : InCommon). c.name) (cond b (record { block = block; name = decl.name } ∷ filter (λ (c : InCommon). same_block c.block other) (declared_by block decls)) (filter (λ (c : InCommon). same_block c.block other) (declared_by block decls))) ≡ cond b (map (λ (d : Decl). d.name) (decl ∷ decls)) []
    by_test true same more = ap (λ (names : List (List ℕ)). decl.name ∷ names) (more ∙ ap (λ (b : Bool). cond b (map (λ (d : Decl). d.name) decls) []) same)
    by_test false other_block more = more ∙ ap (λ (b : Bool). cond b (map (λ (d : Decl). d.name) decls) []) other_block

abbrev listed : List CommonPart → Option (List ℕ) → List (List ℕ)
listed parts block = flat_map (λ (part : CommonPart). map (λ (decl : Decl). decl.name) part.decls) (filter (λ (part : CommonPart). same_block part.block block) parts)

pub listed-is : (parts : List CommonPart) (block : Option (List ℕ)) → listed parts block ≡ in_block (in_commons parts) block
listed-is [] block = refl
listed-is (part ∷ parts) block =
    by_test (same_block part.block block) (listed-is parts block)
    ∙ sym (ap (λ (common : List InCommon). in_block common block) (flat_map-cons in_part part parts) ∙ in_block-append (in_part part) (in_commons parts) block ∙ ap (λ (names : List (List ℕ)). names ++ in_block (in_commons parts) block) (of-part part.block block part.decls))
  where
    by_test : (b : Bool) → listed parts block ≡ in_block (in_commons parts) block → flat_map (λ (p : CommonPart). map (λ (decl : Decl). decl.name) p.decls) (cond b (part ∷ filter (λ (p : CommonPart). same_block p.block block) parts) (filter (λ (p : CommonPart). same_block p.block block) parts))
        ≡ cond b (map (λ (decl : Decl). decl.name) part.decls) [] ++ in_block (in_commons parts) block
    by_test true more = flat_map-cons (λ (p : CommonPart). map (λ (decl : Decl). decl.name) p.decls) part (filter (λ (p : CommonPart). same_block p.block block) parts) ∙ ap (λ (names : List (List ℕ)). map (λ (decl : Decl). decl.name) part.decls ++ names) more
    by_test false more = more

first-of-part : (x : List ℕ) (block : Option (List ℕ)) (decls : List Decl) → first_answer (block_if x) (declared_by block decls) ≡ (if list_any (λ (decl : Decl). bytes_eq decl.name x) decls then Some block else None)
first-of-part x block [] = refl
first-of-part x block (decl ∷ decls) = by_test (bytes_eq decl.name x) (first-of-part x block decls)
  where
    by_test : (b : Bool) → first_answer (block_if x) (declared_by block decls) ≡ (if list_any (λ (d : Decl). bytes_eq d.name x) decls then Some block else None)
        → answer_or (if b then Some block else None) (first_answer (block_if x) (declared_by block decls)) ≡ (if b || list_any (λ (d : Decl). bytes_eq d.name x) decls then Some block else None)
    by_test true more = refl
    by_test false more = more

found-is : (x : List ℕ) (whole : List InCommon) (list : Option (List ℕ) → List (List ℕ)) → ((block : Option (List ℕ)) → list block ≡ in_block whole block) → (parts : List CommonPart)
    → first_answer (λ (part : CommonPart). if list_any (λ (decl : Decl). bytes_eq decl.name x) part.decls then Some (InBlock part.block (position_or_len (bytes_eq x) (list part.block))) else None) parts ≡ place_in_block whole x (first_answer (block_if x) (in_commons parts))
found-is x whole list same [] = refl
found-is x whole list same (part ∷ parts) =
    by_test (list_any (λ (decl : Decl). bytes_eq decl.name x) part.decls) (found-is x whole list same parts)
    ∙ sym (ap (place_in_block whole x) (ap (first_answer (block_if x)) (flat_map-cons in_part part parts) ∙ first_answer-append (block_if x) (in_part part) (in_commons parts) ∙ ap (λ (o : Option (Option (List ℕ))). answer_or o (first_answer (block_if x) (in_commons parts))) (first-of-part x part.block part.decls)))
  where
    by_test : (b : Bool)
        → first_answer (λ (p : CommonPart). if list_any (λ (decl : Decl). bytes_eq decl.name x) p.decls then Some (InBlock p.block (position_or_len (bytes_eq x) (list p.block))) else None) parts ≡ place_in_block whole x (first_answer (block_if x) (in_commons parts))
        → answer_or (if b then Some (InBlock part.block (position_or_len (bytes_eq x) (list part.block))) else None) (first_answer (λ (p : CommonPart). if list_any (λ (decl : Decl). bytes_eq decl.name x) p.decls then Some (InBlock p.block (position_or_len (bytes_eq x) (list p.block))) else None) parts)
        ≡ place_in_block whole x (answer_or (if b then Some part.block else None) (first_answer (block_if x) (in_commons parts)))
    by_test true more = ap (λ (names : List (List ℕ)). Some (InBlock part.block (position_or_len (bytes_eq x) names))) (same part.block)
    by_test false more = more

pub blocks-of : (unit : List Labelled) (kept : UnitBlocks) → AreKept (in_commons (all_commons unit)) kept → AreBlocksOf unit kept
blocks-of unit kept are =
    let whole = in_commons (all_commons unit) in
    let same : (block : Option (List ℕ)) → block_list unit block ≡ in_block whole block = λ block. listed-is (all_commons unit) block in
    record {
      sizes = λ block. are.sizes block ∙ ap length (sym (same block));
      entities = λ x. are.entities x ∙ sym (found-is x whole (block_list unit) same (all_commons unit));
      names = λ block place. are.names block place ∙ ap (λ (names : List (List ℕ)). slice_get names place) (sym (same block));
    }

get-past : {X : Type 0} (xs : List X) → slice_get xs (length xs) ≡ None
get-past [] = refl
get-past (x ∷ xs) = get-past xs

-- a place behind the last one has no entry
pub none-there : (common : List InCommon) (kept : UnitBlocks) (block : Option (List ℕ)) (n : ℕ) → AreKept common kept → n ≡ or_zero (get same_block kept.sizes block) → get same_entity kept.names (InBlock block n) ≡ None
none-there common kept block n are many = are.names block n ∙ ap (slice_get (in_block common block)) (many ∙ are.sizes block) ∙ get-past (in_block common block)

pub kept-more : (common : List InCommon) (old new : UnitBlocks) (c : InCommon) (n : ℕ) → AreKept common old → n ≡ or_zero (get same_block old.sizes c.block) → index_map_len new.names ≡ index_map_len old.names + 1
    → ((block : Option (List ℕ)) → get same_block new.sizes block ≡ (if same_block c.block block then Some (n + 1) else get same_block old.sizes block))
    → ((e : Entity) → get same_entity new.names e ≡ (if same_entity (InBlock c.block n) e then Some c.name else get same_entity old.names e))
    → ((x : List ℕ) → get bytes_eq new.entities x ≡ answer_or (get bytes_eq old.entities x) (if bytes_eq c.name x then Some (InBlock c.block n) else None)) → AreKept (common ++ c ∷ []) new
kept-more common old new c n are many grown sizes names entities =
    let size : n ≡ length (in_block common c.block) = many ∙ are.sizes c.block in
    record {
      sizes = λ block. size-more common c (get same_block old.sizes) (get same_block new.sizes) n are.sizes many sizes block;
      entities = λ x. entity-more common c n x (get bytes_eq old.entities x) (get bytes_eq new.entities x) (are.entities x) size (entities x);
      names = λ block place. name-more common c (get same_entity old.names) (get same_entity new.names) n are.names size names block place;
      many = let sum = length-append common (c ∷ []) in let was = are.many in omega (arith, sum, was, grown);
    }

pub part-more : (block : Option (List ℕ)) (decls : List Decl) (i : ℕ) (decl : Decl) (common : List InCommon) → i < length decls → decl ≡ get_or decls i decl
    → common ++ declared_by block (take i decls) ++ record { block = block; name = decl.name } ∷ [] ≡ common ++ declared_by block (take (i + 1) decls)
part-more block decls i decl common inside stands =
    append_assoc common (declared_by block (take i decls)) (record { block = block; name = decl.name } ∷ [])
    ∙ ap (λ (cs : List InCommon). common ++ cs) (sym (ap (declared_by block) (take_more decls i decl inside ∙ ap (λ (d : Decl). take i decls ++ d ∷ []) (sym stands)) ∙ map-append (λ (d : Decl). record { block = block; name = d.name }) (take i decls) (decl ∷ [])))

pub commons-more : (parts : List CommonPart) (i : ℕ) (part : CommonPart) → i < length parts → part ≡ get_or parts i part → in_commons (take i parts) ++ in_part part ≡ in_commons (take (i + 1) parts)
commons-more parts i part inside stands = sym (flat_map_taken in_part parts i part inside stands)

-- ---- room for one more name

pub place-small : (kept : UnitBlocks) (block : Option (List ℕ)) → KeepsNames kept → index_map_len kept.names < 2 ^ 63 → or_zero (get same_block kept.sizes block) + 1 < 2 ^ 64
place-small kept block keeps small = let size = keeps.are.sizes block in let few = in_block-few keeps.common block in let most = keeps.are.many in omega (arith, size, few, most, small)
