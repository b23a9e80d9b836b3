-- No name stands twice in COMMON of a printed program: each block has its names in one statement, and no name stands in two blocks.
use Rattle.std.proofs.Common.{◌≡◌, ℕ, zero, suc, ◌+◌, ◌<◌, ◌≤◌, Bool, true, false, cond, List, [], ◌∷◌, ◌++◌, length, map, filter, take, ◌||◌, refl, sym, ap, ◌∙◌, subst, ⊎_elim, arith, Option, Some, None, append-nil, append_assoc}
use Rattle.std.specs.Prelude.{bytes_eq, flat_map, slice_get}
use Rattle.std.specs.List.{list_any, range_with_len}
use Rattle.std.proofs.lemmas.Bool.{cases_Bool, or_parts}
use Rattle.std.proofs.lemmas.List.{map-append}
use Rattle.std.proofs.lemmas.List.Concat.{flat_map-append}
use Rattle.std.proofs.lemmas.List.Folds.{list_any-append}
use Rattle.std.proofs.lemmas.Slice.Eq.{bytes_eq-Decides}
use Rattle.list_laws.proofs.Ranges.{range_more}
use Rattle.f77_tree.specs.declared.declarations.CommonPart.{CommonPart}
use Rattle.f77_tree.specs.declared.declarations.Decl.{Decl}
use Rattle.f77_tree.specs.declared.programs.NameInfo.{NameInfo}
use Rattle.f77_tree.specs.declared.programs.Program.{Program}
use Rattle.f77_tree.specs.declared.statements.Labelled.{Labelled}
use Rattle.f77_tree.specs.Declarations.{CommonOnce, index_of, part_names}
use Rattle.f77_tree.specs.StatementGrammar.{WrittenStatement, statement_of, decl_of}
use Rattle.f77_tree.proofs.AllLemmas.{get-longer}
use Rattle.f77_tree.proofs.NameLemmas.{bytes_eq-same}
use Rattle.layout_rules.specs.Faults.{first_line, has_repeat}
use Rattle.layout_rules.specs.StorageFaults.{common_names, is_common_twice}
use Rattle.layout_rules.proofs.FirstLine.{has_repeat-append}
use Rattle.flat_programs.specs.declared.statements.FlatLine.{FlatLine}
use Rattle.flat_programs.specs.Declarations.{same_block, name_alone, block_decls, block_statement, is_continued, common_at, commons, group_statement, init_statement}
use Rattle.read_back.specs.PrintedStatements.{CanBeText}
use Rattle.read_back.specs.SourceStatements.{statements_read}
use Rattle.read_back.proofs.DeclaredEach.{mapped_each}
use Rattle.read_back.proofs.FirstFaults.{none_faulty, none_passes}
use Rattle.read_back.proofs.GatheredParts.{of_written, none_written, gathered_of}
use Rattle.read_back.proofs.PrintedPlaces.{got_within, get-after, get-map}
use Rattle.read_back.proofs.StatementParts.{HoldsOfRead}
use Rattle.std.proofs.lemmas.Grind.{elements}

abbrev Names : Type 0
Names = List (List ℕ)

-- ---- lists in which no name stands twice

or_true : (b : Bool) → (b || true) ≡ true
or_true true = refl
or_true false = refl

fewer_seen : (less more xs : Names) → ((x : List ℕ) → list_any (bytes_eq x) more ≡ false → list_any (bytes_eq x) less ≡ false) → has_repeat bytes_eq more xs ≡ false → has_repeat bytes_eq less xs ≡ false
fewer_seen less more [] within none = refl
fewer_seen less more (y ∷ xs) within none = grind (arith, fewer_seen (less ++ y ∷ []) (more ++ y ∷ []) xs, list_any-append)

fewer : (seen more xs : Names) → has_repeat bytes_eq (seen ++ more) xs ≡ false → has_repeat bytes_eq seen xs ≡ false
fewer seen more xs none = grind (arith, fewer_seen seen (seen ++ more) xs, list_any-append)

-- what was seen isn't among them
none_seen : (seen xs : Names) (x : List ℕ) → has_repeat bytes_eq seen xs ≡ false → list_any (bytes_eq x) seen ≡ true → list_any (bytes_eq x) xs ≡ true → ⊥
none_seen seen [] x none was there = let e : false ≡ true = there in absurd cc
none_seen seen (y ∷ xs) x none was there =
    let parts = or_parts (list_any (bytes_eq y) seen) (has_repeat bytes_eq (seen ++ y ∷ []) xs) none in
    ⊎_elim
    (λ (same : bytes_eq x y ≡ true).
    let e : true ≡ false = sym was ∙ ap (λ z. list_any (bytes_eq z) seen) (bytes_eq-same x y same) ∙ parts.0 in
    absurd cc)
    (λ (other : bytes_eq x y ≡ false).
    none_seen (seen ++ y ∷ []) xs x parts.1 (list_any-append (bytes_eq x) seen (y ∷ []) ∙ ap (λ b. b || list_any (bytes_eq x) (y ∷ [])) was) (ap (λ b. b || list_any (bytes_eq x) xs) (sym other) ∙ there))
    (cases_Bool (bytes_eq x y))

-- others were seen, none of which is among them
more_seen : (seen own xs : Names) → has_repeat bytes_eq own xs ≡ false → ((x : List ℕ) → list_any (bytes_eq x) xs ≡ true → list_any (bytes_eq x) seen ≡ false) → has_repeat bytes_eq (seen ++ own) xs ≡ false
more_seen seen own [] none apart = refl
more_seen seen own (y ∷ xs) none apart =
    grind (arith, bytes_eq-Decides y y, list_any-append (bytes_eq y) seen own, append_assoc seen own (y ∷ []), more_seen seen (own ++ y ∷ []) xs, or_true)

-- names that stand at one place each
no_repeat : (front back : Names) → ((j k : ℕ) (x : List ℕ) → slice_get (front ++ back) j ≡ Some x → slice_get (front ++ back) k ≡ Some x → j ≡ k) → has_repeat bytes_eq front back ≡ false
no_repeat front [] differ = refl
no_repeat front (x ∷ back) differ =
    let moved = append_assoc front (x ∷ []) back in
    let e : length front + 0 ≡ length front = omega arith in
    let here : slice_get (front ++ x ∷ back) (length front) ≡ Some x = ap (slice_get (front ++ x ∷ back)) (sym e) ∙ get-after front (x ∷ back) 0 in
    ap (λ b. b || has_repeat bytes_eq (front ++ x ∷ []) back) (none_passes (bytes_eq x) front (λ j y is.
    let within = got_within front j y is in
    ⊎_elim
    (λ (same : bytes_eq x y ≡ true).
    let there : slice_get (front ++ x ∷ back) j ≡ Some x = get-longer front (x ∷ back) j within ∙ is ∙ ap Some (sym (bytes_eq-same x y same)) in
    let at : j ≡ length front = differ j (length front) x there here in
    absurd (omega (arith, at, within)))
    (λ (other : bytes_eq x y ≡ false). other)
    (cases_Bool (bytes_eq x y))))
    ∙ no_repeat (front ++ x ∷ []) back (subst (λ (zs : Names). (j k : ℕ) (y : List ℕ) → slice_get zs j ≡ Some y → slice_get zs k ≡ Some y → j ≡ k) (sym moved) differ)

-- ---- blocks

abbrev names_of_part : CommonPart → Names
names_of_part part = map (λ (d : Decl). d.name) part.decls

abbrev all_of : List CommonPart → Names
all_of parts = flat_map names_of_part parts

in_first : (x : List ℕ) (xs ys : Names) → list_any (bytes_eq x) xs ≡ true → list_any (bytes_eq x) (xs ++ ys) ≡ true
in_first x xs ys there = list_any-append (bytes_eq x) xs ys ∙ ap (λ b. b || list_any (bytes_eq x) ys) there

in_second : (x : List ℕ) (xs ys : Names) → list_any (bytes_eq x) ys ≡ true → list_any (bytes_eq x) (xs ++ ys) ≡ true
in_second x xs ys there = list_any-append (bytes_eq x) xs ys ∙ ap (λ b. list_any (bytes_eq x) xs || b) there ∙ or_true (list_any (bytes_eq x) xs)

in_neither : (x : List ℕ) (xs ys : Names) → list_any (bytes_eq x) xs ≡ false → list_any (bytes_eq x) ys ≡ false → list_any (bytes_eq x) (xs ++ ys) ≡ false
in_neither x xs ys a b = list_any-append (bytes_eq x) xs ys ∙ ap (λ c. c || list_any (bytes_eq x) ys) a ∙ b

-- in the first ones, or not there and in the second ones
module _ (x : List ℕ) (xs ys : Names) (there : list_any (bytes_eq x) (xs ++ ys) ≡ true) where
  then_second : list_any (bytes_eq x) xs ≡ false → list_any (bytes_eq x) ys ≡ true
  then_second none = ap (λ b. b || list_any (bytes_eq x) ys) (sym none) ∙ sym (list_any-append (bytes_eq x) xs ys) ∙ there

chosen_if : (b : Bool) (part : CommonPart) (rest chosen : List CommonPart) (x : List ℕ) → (list_any (bytes_eq x) (all_of chosen) ≡ true → list_any (bytes_eq x) (all_of rest) ≡ true) → list_any (bytes_eq x) (all_of (cond b (part ∷ chosen) chosen)) ≡ true → list_any (bytes_eq x) (all_of (part ∷ rest)) ≡ true
chosen_if true part rest chosen x more there = grind (arith, in_first, in_second, then_second)
chosen_if false part rest chosen x more there = in_second x (names_of_part part) (all_of rest) (more there)

chosen_within : (p : CommonPart → Bool) (parts : List CommonPart) (x : List ℕ) → list_any (bytes_eq x) (all_of (filter p parts)) ≡ true → list_any (bytes_eq x) (all_of parts) ≡ true
chosen_within p [] x there = there
chosen_within p (part ∷ parts) x there = chosen_if (p part) part parts (filter p parts) x (chosen_within p parts x) there

-- the names of some parts are as different as those of all
fewer_if : (b : Bool) (seen : Names) (part : CommonPart) (chosen : List CommonPart) → has_repeat bytes_eq seen (names_of_part part) ≡ false → has_repeat bytes_eq (seen ++ names_of_part part) (all_of chosen) ≡ false → has_repeat bytes_eq seen (all_of (cond b (part ∷ chosen) chosen)) ≡ false
fewer_if true seen part chosen first rest = grind (arith, has_repeat-append bytes_eq seen (names_of_part part) (all_of chosen))
fewer_if false seen part chosen first rest = fewer seen (names_of_part part) (all_of chosen) rest

fewer_parts : (p : CommonPart → Bool) (seen : Names) (parts : List CommonPart) → has_repeat bytes_eq seen (all_of parts) ≡ false → has_repeat bytes_eq seen (all_of (filter p parts)) ≡ false
fewer_parts p seen [] none = none
fewer_parts p seen (part ∷ parts) none =
    grind (arith, has_repeat-append bytes_eq seen (names_of_part part) (all_of parts), fewer_if (p part) seen part (filter p parts), fewer_parts p (seen ++ names_of_part part) parts)

-- a name of these parts is none of those
apart_if : (a b : Bool) (seen : Names) (part : CommonPart) (rest these those : List CommonPart) (x : List ℕ) → (a ≡ true → b ≡ false) → has_repeat bytes_eq (seen ++ names_of_part part) (all_of rest) ≡ false → (list_any (bytes_eq x) (all_of these) ≡ true → list_any (bytes_eq x) (all_of rest) ≡ true) → (list_any (bytes_eq x) (all_of those) ≡ true → list_any (bytes_eq x) (all_of rest) ≡ true) → (list_any (bytes_eq x) (all_of these) ≡ true → list_any (bytes_eq x) (all_of those) ≡ false) → list_any (bytes_eq x) (all_of (cond a (part ∷ these) these)) ≡ true → list_any (bytes_eq x) (all_of (cond b (part ∷ those) those)) ≡ false
apart_if true true seen part rest these those x differ none within other more there = let e : true ≡ false = differ refl in absurd cc
apart_if true false seen part rest these those x differ none within other more there =
    ⊎_elim
    (λ (first : list_any (bytes_eq x) (names_of_part part) ≡ true).
    ⊎_elim
    (λ (again : list_any (bytes_eq x) (all_of those) ≡ true). absurd (none_seen (seen ++ names_of_part part) (all_of rest) x none (in_second x seen (names_of_part part) first) (other again)))
    (λ (not_again : list_any (bytes_eq x) (all_of those) ≡ false). not_again)
    (cases_Bool (list_any (bytes_eq x) (all_of those))))
    (λ (not_first : list_any (bytes_eq x) (names_of_part part) ≡ false). more (then_second x (names_of_part part) (all_of these) there not_first))
    (cases_Bool (list_any (bytes_eq x) (names_of_part part)))
apart_if false true seen part rest these those x differ none within other more there =
    in_neither x (names_of_part part) (all_of those)
    (⊎_elim
    (λ (first : list_any (bytes_eq x) (names_of_part part) ≡ true). absurd (none_seen (seen ++ names_of_part part) (all_of rest) x none (in_second x seen (names_of_part part) first) (within there)))
    (λ (not_first : list_any (bytes_eq x) (names_of_part part) ≡ false). not_first)
    (cases_Bool (list_any (bytes_eq x) (names_of_part part))))
    (more there)
apart_if false false seen part rest these those x differ none within other more there = more there

apart_parts : (p r : CommonPart → Bool) → ((part : CommonPart) → p part ≡ true → r part ≡ false) → (seen : Names) (parts : List CommonPart) (x : List ℕ) → has_repeat bytes_eq seen (all_of parts) ≡ false → list_any (bytes_eq x) (all_of (filter p parts)) ≡ true → list_any (bytes_eq x) (all_of (filter r parts)) ≡ false
apart_parts p r differ seen [] x none there = refl
apart_parts p r differ seen (part ∷ parts) x none there =
    grind (arith, elements, has_repeat-append, apart_if, chosen_within, apart_parts p r differ (seen ++ names_of_part part) parts x)

-- ---- all blocks

module _ (parts : List CommonPart) (none : has_repeat bytes_eq [] (all_of parts) ≡ false) where
  abbrev of_block : Option (List ℕ) → List CommonPart
  of_block block = filter (λ part. same_block part.block block) parts

  -- the names of the block that first stands at this place
  abbrev names_by : (k : ℕ) → Option CommonPart → Names
  names_by k None = []
  names_by k (Some part) = cond (is_continued parts k part) [] (all_of (of_block part.block))

  abbrev names_at : ℕ → Names
  names_at k = names_by k (slice_get parts k)

  -- two blocks that differ have no part in common
  blocks_apart : (a b : Option (List ℕ)) → same_block a b ≡ false → (part : CommonPart) → same_block part.block b ≡ true → same_block part.block a ≡ false
  blocks_apart a b differ part is_b =
      ⊎_elim
      (λ (is_a : same_block part.block a ≡ true).
      let e : true ≡ false = sym (ap (λ block. same_block block b) (sym (equal part.block a is_a)) ∙ is_b) ∙ differ in
      absurd cc)
      (λ (other : same_block part.block a ≡ false). other)
      (cases_Bool (same_block part.block a))
    where
      equal : (c d : Option (List ℕ)) → same_block c d ≡ true → c ≡ d
      equal None None h = refl
      equal None (Some d) h = absurd cc
      equal (Some c) None h = absurd cc
      equal (Some c) (Some d) h = ap Some (bytes_eq-same c d h)

  earlier_apart : (j k : ℕ) (part : CommonPart) (earlier : Option CommonPart) → slice_get parts j ≡ earlier → j < k → is_continued parts k part ≡ false → (x : List ℕ) → list_any (bytes_eq x) (all_of (of_block part.block)) ≡ true → list_any (bytes_eq x) (names_by j earlier) ≡ false
  earlier_apart j k part None is lt first x there = refl
  earlier_apart j k part (Some e) is lt first x there =
      let differ : same_block e.block part.block ≡ false = fails parts j k e is lt first in
      by_test (is_continued parts j e) (apart_parts (λ p. same_block p.block part.block) (λ p. same_block p.block e.block) (blocks_apart e.block part.block differ) [] parts x none there)
    where
      by_test : (b : Bool) → list_any (bytes_eq x) (all_of (of_block e.block)) ≡ false → list_any (bytes_eq x) (cond b [] (all_of (of_block e.block))) ≡ false
      by_test true h = refl
      by_test false h = h

      fails : (ps : List CommonPart) (i n : ℕ) (q : CommonPart) → slice_get ps i ≡ Some q → i < n → list_any (λ (p : CommonPart). same_block p.block part.block) (take n ps) ≡ false → same_block q.block part.block ≡ false
      fails [] i n q at less h = absurd cc
      fails (p ∷ ps) i zero q at less h = absurd (omega (arith, less))
      fails (p ∷ ps) zero (suc n) q at less h =
          let same : p ≡ q = cc in
          ap (λ (r : CommonPart). same_block r.block part.block) (sym same) ∙ (or_parts (same_block p.block part.block) (list_any (λ (r : CommonPart). same_block r.block part.block) (take n ps)) h).0
      fails (p ∷ ps) (suc i) (suc n) q at less h = fails ps i n q at (omega (arith, less)) (or_parts (same_block p.block part.block) (list_any (λ (r : CommonPart). same_block r.block part.block) (take n ps)) h).1

  abbrev names_below : ℕ → Names
  names_below k = flat_map names_at (range_with_len 0 k)

  below_next : (k : ℕ) → names_below (k + 1) ≡ names_below k ++ names_at k
  below_next k = ap (flat_map names_at) (range_more k) ∙ flat_map-append names_at (range_with_len 0 k) (k ∷ []) ∙ ap (λ ns. names_below k ++ ns) (append-nil (names_at k))

  not_below : (k n : ℕ) (part : CommonPart) → n ≤ k → is_continued parts k part ≡ false → (x : List ℕ) → list_any (bytes_eq x) (all_of (of_block part.block)) ≡ true → list_any (bytes_eq x) (names_below n) ≡ false
  not_below k zero part le first x there = refl
  not_below k (suc n) part le first x there =
      grind (arith, below_next n, in_neither x (names_below n) (names_at n), not_below k n part, earlier_apart n k part (slice_get parts n))

  new_at : (k : ℕ) (part : Option CommonPart) → slice_get parts k ≡ part → has_repeat bytes_eq (names_below k) (names_by k part) ≡ false
  new_at k None is = refl
  new_at k (Some part) is = grind (arith, append-nil (names_below k), more_seen (names_below k), fewer_parts, not_below k k part)

  new_from : (k n : ℕ) → has_repeat bytes_eq (names_below k) (flat_map names_at (range_with_len k n)) ≡ false
  new_from k zero = refl
  new_from k (suc n) =
      grind (arith, has_repeat-append bytes_eq (names_below k) (names_at k) (flat_map names_at (range_with_len (k + 1) n)), new_at k (slice_get parts k), below_next k, new_from (k + 1) n)

  -- ---- the statements

  alone_named : (decls : List Decl) → map (λ (d : Decl). d.name) (map decl_of (map name_alone decls)) ≡ map (λ (d : Decl). d.name) decls
  alone_named [] = refl
  alone_named (d ∷ decls) = ap (λ ns. d.name ∷ ns) (alone_named decls)

  block_named : (ps : List CommonPart) → map (λ (d : Decl). d.name) (map decl_of (flat_map (λ (part : CommonPart). map name_alone part.decls) ps)) ≡ all_of ps
  block_named [] = refl
  block_named (part ∷ ps) = grind (arith, map-append decl_of, map-append, alone_named part.decls, block_named ps)

  statement_named : (block : Option (List ℕ)) → common_names (statement_of (block_statement parts block)) ≡ all_of (of_block block)
  statement_named block = append-nil (map (λ (d : Decl). d.name) (map decl_of (block_decls parts block))) ∙ block_named (of_block block)

  abbrev named_in : List WrittenStatement → Names
  named_in ws = flat_map (λ w. common_names (statement_of w)) ws

  one_named : (k : ℕ) (part : Option CommonPart) → named_in (common_at parts k part) ≡ names_by k part
  one_named k None = refl
  one_named k (Some part) = grind (arith, append-nil (common_names (statement_of (block_statement parts part.block))), statement_named part.block)

  all_named : (places : List ℕ) → named_in (flat_map (λ k. common_at parts k (slice_get parts k)) places) ≡ flat_map names_at places
  all_named [] = refl
  all_named (k ∷ places) = grind (arith, flat_map-append, one_named k (slice_get parts k), all_named places)

  -- no name of COMMON stands twice
  pub commons_once : has_repeat bytes_eq [] (named_in (commons parts)) ≡ false
  commons_once = ap (has_repeat bytes_eq []) (all_named (range_with_len 0 (length parts))) ∙ new_from 0 (length parts)

-- ---- the whole program

-- of lists put together none repeats what the earlier ones have
within_all : {X : Type 0} (f : X → Names) (seen : Names) (xs : List X) (k : ℕ) (x : X) → has_repeat bytes_eq seen (flat_map f xs) ≡ false → slice_get xs k ≡ Some x → has_repeat bytes_eq (seen ++ flat_map f (take k xs)) (f x) ≡ false
within_all f seen [] k x none is = absurd cc
within_all f seen (y ∷ ys) zero x none is = grind (arith, has_repeat-append bytes_eq seen (f y) (flat_map f ys), append-nil seen)
within_all f seen (y ∷ ys) (suc k) x none is =
    grind (arith, has_repeat-append bytes_eq seen (f y) (flat_map f ys), append_assoc seen (f y) (flat_map f (take k ys)), within_all f (seen ++ f y) ys k x)

map_twice : {X Y Z : Type 0} (f : Y → Z) (g : X → Y) (xs : List X) → map f (map g xs) ≡ map (λ x. f (g x)) xs
map_twice f g [] = refl
map_twice f g (x ∷ xs) = ap (λ zs. f (g x) ∷ zs) (map_twice f g xs)

indices : (names : List NameInfo) (parts : List CommonPart) → map (index_of names) (all_of parts) ≡ flat_map (part_names names) parts
indices names [] = refl
indices names (part ∷ parts) = grind (arith, elements, map-append, map_twice, indices names parts)

once_in : (names : List NameInfo) (parts : List CommonPart) → CommonOnce names parts → has_repeat bytes_eq [] (all_of parts) ≡ false
once_in names parts once =
    no_repeat [] (all_of parts) (λ j k x is_j is_k.
    let at : (i : ℕ) → slice_get (all_of parts) i ≡ Some x → slice_get (flat_map (part_names names) parts) i ≡ Some (index_of names x) = λ i is. ap (λ ks. slice_get ks i) (sym (indices names parts)) ∙ get-map (index_of names) (all_of parts) i x is in
    once j k (index_of names x) (at j is_j) (at k is_k))

no_common : (names : List NameInfo) → HoldsOfRead (λ s. common_names s ≡ []) names
no_common names = grind arith

module _ (q : Program) (flat : List FlatLine) (given : CanBeText q flat) where
  abbrev NoCommon : WrittenStatement → Type 0
  NoCommon w = common_names (statement_of w) ≡ []

  common_all : flat_map (λ (s : Labelled). common_names s.stmt) (statements_read q flat) ≡ of_written common_names (commons q.commons)
  common_all =
      grind (arith, none_written common_names (map group_statement q.groups), mapped_each NoCommon group_statement q.groups, none_written common_names (map init_statement q.inits), mapped_each NoCommon init_statement q.inits, gathered_of common_names q flat, no_common q.names, of_written common_names (commons q.commons), of_written common_names (map init_statement q.inits), append-nil (of_written common_names (commons q.commons)))

  -- no name of the statements stands twice in COMMON
  pub all_common_once : has_repeat bytes_eq [] (flat_map (λ (s : Labelled). common_names s.stmt) (statements_read q flat)) ≡ false
  all_common_once = ap (has_repeat bytes_eq []) common_all ∙ commons_once q.commons (once_in q.names q.commons given.declarations.common_once)

  pub none_common_twice : first_line is_common_twice (statements_read q flat) ≡ None
  none_common_twice =
      none_faulty is_common_twice (statements_read q flat) (λ k s is. within_all (λ (t : Labelled). common_names t.stmt) [] (statements_read q flat) k s all_common_once is)
