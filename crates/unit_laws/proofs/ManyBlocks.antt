-- Blocks of many units, noted unit by unit.
use Rattle.std.proofs.Common.{◌≡◌, ℕ, zero, suc, ◌+◌, ◌-◌, ◌<◌, ◌≤◌, ◌⊎◌, Bool, true, false, not, ◌||◌, cond, eqb, List, [], ◌∷◌, ◌++◌, length, get_or, take, map, flat_map, filter, fold, nat_lt, Option, Some, None, if◌then◌else◌, ⊎_elim, refl, sym, ap, subst, ◌∙◌, arith, length-append, length-take-le}
use Rattle.std.specs.List.{list_any, position_or_len, range_with_len, slice_get}
use Rattle.std.specs.Option.{is_some}
use Rattle.std.proofs.lemmas.Bool.{lt-ltb}
use Rattle.std.proofs.lemmas.List.{take_more, append-nil}
use Rattle.std.proofs.lemmas.List.Elements.{filter-append}
use Rattle.std.proofs.lemmas.List.Folds.{list_any-append, position_or_len_push}
use Rattle.std.proofs.lemmas.List.Sums.{fold-append, prefix_len-le-length}
use Rattle.std.proofs.lemmas.Grind.{flat_map-append}
use Rattle.std.proofs.lemmas.List.Concat.{flat_map-cons}
use Rattle.std.proofs.lemmas.Option.{get_or_from_slice_get}
use Rattle.f77_tree.specs.declared.declarations.CommonPart.{CommonPart}
use Rattle.f77_tree.specs.declared.statements.Labelled.{Labelled}
use Rattle.f77_tree.specs.Places.{same_block}
use Rattle.layout_rules.specs.Declarations.{all_commons}
use Rattle.layout_rules.specs.Faults.{answer_or}
use Rattle.layout_rules.proofs.FlatParts.{flat_map_taken}
use Rattle.symbol_table.proofs.NameEntries.{bytes_eq-sym}
use Rattle.program_units.specs.CallTable.{if_below, unit_if}
use Rattle.program_units.specs.Expansion.{blocks, units_but_main, with_block, blocks_in}
use Rattle.program_units.specs.Names.{has_block}
use Rattle.program_units.specs.Merged.{first_with_block}
use Rattle.program_units.specs.Units.{runs, unit_at}
use Rattle.program_units.proofs.FirstPlaces.{below-push}
use Rattle.program_units.proofs.Counting.{range-push, step-lt}
use Rattle.unit_laws.proofs.OwnNames.{blocks-same}
use Rattle.program_units.proofs.NamesAbove.{any-push, or-none}

-- ---- blocks that are told once are those that are told

pub or-known : (a b : Bool) → (a ≡ true → b ≡ true) → b ≡ (b || a)
or-known true b known = known refl ∙ ap (λ (c : Bool). c || true) (sym (known refl))
or-known false true known = refl
or-known false false known = refl

pub or-assoc : (a b c : Bool) → ((a || b) || c) ≡ (a || (b || c))
or-assoc true b c = refl
or-assoc false b c = refl

pub block-sym : (a b : Option (List ℕ)) → same_block a b ≡ same_block b a
block-sym None None = refl
block-sym None (Some b) = refl
block-sym (Some a) None = refl
block-sym (Some a) (Some b) = bytes_eq-sym a b

pub told-step : (x : Option (List ℕ)) (seen : List (Option (List ℕ))) (n : Option (List ℕ)) → list_any (same_block x) (with_block seen n) ≡ (list_any (same_block x) seen || same_block x n)
told-step x seen n = by_test (list_any (same_block n) seen) refl
  where
    by_test : (b : Bool) → list_any (same_block n) seen ≡ b → list_any (same_block x) (if b then seen else seen ++ n ∷ []) ≡ (list_any (same_block x) seen || same_block x n)
    by_test true known = or-known (same_block x n) (list_any (same_block x) seen) (λ (same : same_block x n ≡ true). ap (λ (y : Option (List ℕ)). list_any (same_block y) seen) (blocks-same x n same) ∙ known)
    by_test false known = any-push (same_block x) seen n

pub told-blocks : (x : Option (List ℕ)) (seen names : List (Option (List ℕ))) → list_any (same_block x) (fold with_block seen names) ≡ (list_any (same_block x) seen || list_any (same_block x) names)
told-blocks x seen [] = sym (or-none (list_any (same_block x) seen))
told-blocks x seen (n ∷ names) =
    told-blocks x (with_block seen n) names
    ∙ ap (λ (b : Bool). b || list_any (same_block x) names) (told-step x seen n)
    ∙ or-assoc (list_any (same_block x) seen) (same_block x n) (list_any (same_block x) names)

pub has-parts : (x : Option (List ℕ)) (parts : List CommonPart) → list_any (same_block x) (map (λ part. part.block) parts) ≡ list_any (λ part. same_block part.block x) parts
has-parts x [] = refl
has-parts x (part ∷ parts) =
    ap (λ (b : Bool). b || list_any (same_block x) (map (λ p. p.block) parts)) (block-sym x part.block)
    ∙ ap (λ (b : Bool). same_block part.block x || b) (has-parts x parts)

pub has-told : (x : Option (List ℕ)) (u : List Labelled) → list_any (same_block x) (blocks_in u) ≡ has_block u x
has-told x u = has-parts x (all_commons u)

pub blocks-told : (x : Option (List ℕ)) (u : List Labelled) (made : List (Option (List ℕ))) → made ≡ fold with_block [] (blocks_in u) → list_any (same_block x) made ≡ has_block u x
blocks-told x u made is = ap (list_any (same_block x)) is ∙ told-blocks x [] (blocks_in u) ∙ has-told x u

-- ---- units that run

abbrev pub run_to : List (List Labelled) → (n : ℕ) → List ℕ
run_to us n = filter (runs us) (range_with_len 1 n)

one-run : (us : List (List Labelled)) (k : ℕ) (b : Bool) → runs us k ≡ b → filter (runs us) (k ∷ []) ≡ (if b then k ∷ [] else [])
one-run us k b is = ap (λ (c : Bool). cond c (k ∷ []) []) is ∙ by_test b
  where
    by_test : (b : Bool) → cond b (k ∷ []) [] ≡ (if b then k ∷ [] else [])
    by_test true = refl
    by_test false = refl

pub run-more : (us : List (List Labelled)) (k : ℕ) (b : Bool) → 1 ≤ k → runs us k ≡ b → run_to us (k + 1 - 1) ≡ run_to us (k - 1) ++ (if b then k ∷ [] else [])
run-more us zero b some is = absurd (omega (arith, some))
run-more us (suc n) b some is =
    let e : suc n + 1 - 1 ≡ suc n = omega arith in
    let one : 1 + n ≡ suc n = omega arith in
    let less : n ≡ suc n - 1 = omega arith in
    ap (run_to us) e
    ∙ ap (filter (runs us)) (range-push 1 n)
    ∙ filter-append (runs us) (range_with_len 1 n) ((1 + n) ∷ [])
    ∙ ap (λ (m : ℕ). run_to us n ++ filter (runs us) (m ∷ [])) one
    ∙ ap (λ (ks : List ℕ). run_to us n ++ ks) (one-run us (suc n) b is)
    ∙ ap (λ (m : ℕ). run_to us m ++ (if b then suc n ∷ [] else [])) less

module _ {X : Type 0} (us : List (List Labelled)) (f : ℕ → List X) where
  by-run : (k : ℕ) (b : Bool) → flat_map f (if b then k ∷ [] else []) ≡ (if b then f k else [])
  by-run k true = flat_map-cons f k [] ∙ append-nil (f k)
  by-run k false = refl

  -- what each of these units adds
  pub added-more : (k : ℕ) (b : Bool) → 1 ≤ k → runs us k ≡ b → flat_map f (run_to us (k + 1 - 1)) ≡ flat_map f (run_to us (k - 1)) ++ (if b then f k else [])
  added-more k b some is =
      ap (flat_map f) (run-more us k b some is)
      ∙ flat_map-append f (run_to us (k - 1)) (if b then k ∷ [] else [])
      ∙ ap (λ (xs : List X). flat_map f (run_to us (k - 1)) ++ xs) (by-run k b)

pub blocks-more : (us : List (List Labelled)) (k : ℕ) (b : Bool) (u : List Labelled) (old new : List (Option (List ℕ))) (x : Option (List ℕ)) → 1 ≤ k → runs us k ≡ b → u ≡ unit_at us k
    → list_any (same_block x) old ≡ list_any (λ j. has_block (unit_at us j) x) (run_to us (k - 1)) → new ≡ fold with_block old (if b then blocks_in u else [])
    → list_any (same_block x) new ≡ list_any (λ j. has_block (unit_at us j) x) (run_to us (k + 1 - 1))
blocks-more us k b u old new x some is unit before made =
    let has : ℕ → Bool = λ j. has_block (unit_at us j) x in
    ap (list_any (same_block x)) made
    ∙ told-blocks x old (if b then blocks_in u else [])
    ∙ ap (λ (c : Bool). c || list_any (same_block x) (if b then blocks_in u else [])) before
    ∙ ap (λ (c : Bool). list_any has (run_to us (k - 1)) || c) (by_test b)
    ∙ sym (ap (list_any has) (run-more us k b some is) ∙ list_any-append has (run_to us (k - 1)) (if b then k ∷ [] else []))
  where
    by_test : (b : Bool) → list_any (same_block x) (if b then blocks_in u else []) ≡ list_any (λ j. has_block (unit_at us j) x) (if b then k ∷ [] else [])
    by_test true = has-told x u ∙ ap (λ (v : List Labelled). has_block v x) unit ∙ sym (or-none (has_block (unit_at us k) x))
    by_test false = refl

-- all of them
pub run-all : (us : List (List Labelled)) (k : ℕ) → 1 ≤ k → length us ≤ k → (k ≤ length us) ⊎ (k ≡ 1) → run_to us (k - 1) ≡ units_but_main us
run-all us k some past most =
    let e : k - 1 ≡ length us - 1 = ⊎_elim (λ (h : k ≤ length us). omega (arith, h, past, some)) (λ (h : k ≡ 1). omega (arith, h, past)) most in
    ap (run_to us) e

-- ---- all blocks

pub all-more : (us : List (List Labelled)) (k : ℕ) (u : List Labelled) (old new : List (Option (List ℕ))) → k < length us → u ≡ get_or us k u → old ≡ blocks (take k us) → new ≡ fold with_block old (blocks_in u) → new ≡ blocks (take (k + 1) us)
all-more us k u old new inside stands before is =
    is
    ∙ ap (λ (seen : List (Option (List ℕ))). fold with_block seen (blocks_in u)) before
    ∙ sym (fold-append with_block [] (flat_map blocks_in (take k us)) (blocks_in u))
    ∙ ap (fold with_block []) (sym (flat_map_taken blocks_in us k u inside stands))

-- ---- the first unit that has a block

or-nothing : (o : Option ℕ) → answer_or o None ≡ o
or-nothing None = refl
or-nothing (Some n) = refl

-- a block that isn't noted yet
pub note-first : (block other : Option (List ℕ)) (k : ℕ) (old new : Option (List ℕ) → Option ℕ) → is_some (old block) ≡ false → new other ≡ (if same_block block other then Some k else old other) → new other ≡ answer_or (old other) (unit_if (same_block block other) k)
note-first block other k old new absent is = is ∙ by_test (same_block block other) refl
  where
    none : (o : Option ℕ) → is_some o ≡ false → o ≡ None
    none None no_answer = refl
    none (Some n) no_answer = let e : true ≡ false = no_answer in absurd cc

    by_test : (b : Bool) → same_block block other ≡ b → (if b then Some k else old other) ≡ answer_or (old other) (unit_if b k)
    by_test true same = sym (ap (λ (o : Option ℕ). answer_or o (Some k)) (ap old (sym (blocks-same block other same)) ∙ none (old block) absent))
    by_test false same = sym (or-nothing (old other))

-- a block that is
pub keep-first : (block other : Option (List ℕ)) (k : ℕ) (old : Option (List ℕ) → Option ℕ) → is_some (old block) ≡ true → old other ≡ answer_or (old other) (unit_if (same_block block other) k)
keep-first block other k old here = by_test (same_block block other) refl
  where
    kept : (o : Option ℕ) → is_some o ≡ true → o ≡ answer_or o (Some k)
    kept (Some n) answer = refl
    kept None answer = let e : false ≡ true = answer in absurd cc

    by_test : (b : Bool) → same_block block other ≡ b → old other ≡ answer_or (old other) (unit_if b k)
    by_test true same = kept (old other) (ap is_some (ap old (sym (blocks-same block other same))) ∙ here)
    by_test false same = sym (or-nothing (old other))

module _ (x : Option (List ℕ)) where
  abbrev has : List Labelled → Bool
  has u = has_block u x

  first-push : (us : List (List Labelled)) (u : List Labelled) → first_with_block (us ++ u ∷ []) x ≡ answer_or (first_with_block us x) (unit_if (has_block u x) (length us))
  first-push us u =
      let longer : length (us ++ u ∷ []) ≡ length us + 1 = length-append us (u ∷ []) in
      ap (λ (n : ℕ). if_below n (length (us ++ u ∷ []))) (position_or_len_push has us u)
      ∙ ap (λ (n : ℕ). if_below (cond (eqb (position_or_len has us) (length us)) (length us + cond (has u) 0 1) (position_or_len has us)) n) longer
      ∙ below-push (position_or_len has us) (length us) (prefix_len-le-length (λ (v : List Labelled). not (has v)) us) (has u)

  pub first-next : (us : List (List Labelled)) (k : ℕ) (u : List Labelled) (old new : Option ℕ) → k < length us → slice_get us k ≡ Some u → old ≡ first_with_block (take k us) x
      → new ≡ answer_or old (unit_if (has_block u x) k) → new ≡ first_with_block (take (k + 1) us) x
  first-next us k u old new inside there before is =
      let at : get_or us k u ≡ u = get_or_from_slice_get us k u u there in
      let more : take (k + 1) us ≡ take k us ++ u ∷ [] = take_more us k u inside ∙ ap (λ (v : List Labelled). take k us ++ v ∷ []) at in
      let long : length (take k us) ≡ k = length-take-le k us (omega (arith, inside)) in
      is ∙ ap (λ (o : Option ℕ). answer_or o (unit_if (has_block u x) k)) before
      ∙ sym (ap (λ (vs : List (List Labelled)). first_with_block vs x) more ∙ first-push (take k us) u ∙ ap (λ (n : ℕ). answer_or (first_with_block (take k us) x) (unit_if (has_block u x) n)) long)

  answer-if : (old : Option ℕ) (a b : Bool) (k : ℕ) → answer_or (answer_or old (unit_if a k)) (unit_if b k) ≡ answer_or old (unit_if (a || b) k)
  answer-if (Some n) a b k = refl
  answer-if None true b k = refl
  answer-if None false b k = refl

  any-take : (parts : List CommonPart) (i : ℕ) (part : CommonPart) → i < length parts → part ≡ get_or parts i part → list_any (λ p. same_block p.block x) (take (i + 1) parts) ≡ (list_any (λ p. same_block p.block x) (take i parts) || same_block part.block x)
  any-take parts i part inside stands =
      ap (list_any (λ p. same_block p.block x)) (take_more parts i part inside ∙ ap (λ (p : CommonPart). take i parts ++ p ∷ []) (sym stands)) ∙ any-push (λ (p : CommonPart). same_block p.block x) (take i parts) part

  pub first-noted : (parts : List CommonPart) (i k : ℕ) (part : CommonPart) (first old new : Option ℕ) → i < length parts → part ≡ get_or parts i part → old ≡ answer_or first (unit_if (list_any (λ p. same_block p.block x) (take i parts)) k)
      → new ≡ answer_or old (unit_if (same_block part.block x) k) → new ≡ answer_or first (unit_if (list_any (λ p. same_block p.block x) (take (i + 1) parts)) k)
  first-noted parts i k part first old new inside stands before is =
      is ∙ ap (λ (o : Option ℕ). answer_or o (unit_if (same_block part.block x) k)) before
      ∙ answer-if first (list_any (λ p. same_block p.block x) (take i parts)) (same_block part.block x) k
      ∙ ap (λ (b : Bool). answer_or first (unit_if b k)) (sym (any-take parts i part inside stands))

  -- what the first unit tells
  pub record IsFirst (us : List (List Labelled)) (k : ℕ) : Type 0 where
    pub inside : k < length us
    pub rest : List (List Labelled)
    pub kept : filter has us ≡ unit_at us k ∷ rest

  pub kept-front : (b : Bool) (u : List Labelled) (us : List (List Labelled)) → has u ≡ b → filter has (u ∷ us) ≡ (if b then u ∷ filter has us else filter has us)
  kept-front true u us is = ap (λ (b : Bool). cond b (u ∷ filter has us) (filter has us)) is
  kept-front false u us is = ap (λ (b : Bool). cond b (u ∷ filter has us) (filter has us)) is

  some-none : (n : ℕ) (o : Option ℕ) → o ≡ Some n → o ≡ None → ⊥
  some-none n o is none = let e : Some n ≡ None = sym is ∙ none in cc

  zeroth-place : (n : ℕ) → if_below 0 (suc n) ≡ Some 0
  zeroth-place n = ap (λ (b : Bool). if b then Some 0 else None) (lt-ltb 0 (suc n) (omega arith))

  -- a place found behind the first unit
  record Later (n m k : ℕ) : Type 0 where
    before : ℕ
    next : k ≡ suc before
    found : (if nat_lt n m then Some n else None) ≡ Some before

  later-place : (n m k : ℕ) → (if nat_lt (1 + n) (suc m) then Some (1 + n) else None) ≡ Some k → Later n m k
  later-place n m k is = by_test (nat_lt n m) refl (ap (λ (b : Bool). if b then Some (1 + n) else None) (sym (step-lt n m)) ∙ is)
    where
      by_test : (b : Bool) → nat_lt n m ≡ b → (if b then Some (1 + n) else None) ≡ Some k → Later n m k
      by_test true less here =
          let e : Some (1 + n) ≡ Some k = here in
          let same : 1 + n ≡ k = cc in
          let one : 1 + n ≡ suc n = omega arith in
          record { before = n; next = sym same ∙ one; found = ap (λ (b : Bool). if b then Some n else None) less }
      by_test false less here = let e : None ≡ Some k = here in absurd cc

  pub is-first : (us : List (List Labelled)) (k : ℕ) → first_with_block us x ≡ Some k → IsFirst us k
  is-first [] k is = let e : None ≡ Some k = is in absurd cc
  is-first (u ∷ us) k is = by_test (has u) refl is (λ j found. is-first us j found)
    where
      by_test : (b : Bool) → has u ≡ b → if_below (cond (not b) (1 + position_or_len has us) 0) (suc (length us)) ≡ Some k → ((j : ℕ) → first_with_block us x ≡ Some j → IsFirst us j) → IsFirst (u ∷ us) k
      by_test true here found later =
          let e : Some 0 ≡ Some k = sym (zeroth-place (length us)) ∙ found in
          let same : 0 ≡ k = cc in
          let zeroth : IsFirst (u ∷ us) 0 = record { inside = omega arith; rest = filter has us; kept = kept-front true u us here } in
          subst (λ (n : ℕ). IsFirst (u ∷ us) n) same zeroth
      by_test false here found later =
          let next = later-place (position_or_len has us) (length us) k found in
          let more = later next.before next.found in
          let less = more.inside in
          let after : IsFirst (u ∷ us) (suc next.before) = record { inside = omega (arith, less); rest = more.rest; kept = kept-front false u us here ∙ more.kept } in
          subst (λ (n : ℕ). IsFirst (u ∷ us) n) (sym next.next) after

  pub no-first : (us : List (List Labelled)) → first_with_block us x ≡ None → filter has us ≡ []
  no-first [] none = refl
  no-first (u ∷ us) none = by_test (has u) refl none (no-first us)
    where
      by_place : (b : Bool) → nat_lt (position_or_len has us) (length us) ≡ b → (if b then Some (1 + position_or_len has us) else None) ≡ None → first_with_block us x ≡ None
      by_place true here found = let e : Some (1 + position_or_len has us) ≡ None = found in absurd cc
      by_place false here found = ap (λ (b : Bool). if b then Some (position_or_len has us) else None) here

      by_test : (b : Bool) → has u ≡ b → if_below (cond (not b) (1 + position_or_len has us) 0) (suc (length us)) ≡ None → (first_with_block us x ≡ None → filter has us ≡ []) → filter has (u ∷ us) ≡ []
      by_test true here found later = absurd (some-none 0 (if_below 0 (suc (length us))) (zeroth-place (length us)) found)
      by_test false here found later = kept-front false u us here ∙ later (by_place (nat_lt (position_or_len has us) (length us)) refl (ap (λ (b : Bool). if b then Some (1 + position_or_len has us) else None) (sym (step-lt (position_or_len has us) (length us))) ∙ found))
