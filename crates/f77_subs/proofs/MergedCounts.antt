-- How many statements are merged, counted one by one.
use Rattle.std.proofs.Common.{◌≡◌, ℕ, zero, suc, ◌+◌, ◌-◌, ◌<◌, Bool, true, false, not, ◌&&◌, cond, List, [], ◌∷◌, ◌++◌, filter, flat_map, map, length, min, take, get_or, sum_by, Option, Some, refl, sym, ap, ◌∙◌, arith, length-append}
use Rattle.std.specs.List.{count_by, list_any, range_with_len, slice_get}
use Rattle.std.proofs.lemmas.List.{take_more}
use Rattle.std.proofs.lemmas.List.Elements.{filter-append}
use Rattle.std.proofs.lemmas.List.Sums.{sum_by-append, sum_by-cons}
use Rattle.std.proofs.lemmas.Option.{get_or_from_slice_get}
use Rattle.f77_tree.specs.declared.statements.Labelled.{Labelled}
use Rattle.f77_tree.specs.declared.statements.Stmt.{Stmt}
use Rattle.f77_tree.specs.declared.statements.Stmt.TheVariants.{Equivalence, Init}
use Rattle.program_units.specs.Expansion.{blocks, common_of, data_for, is_running, merged, equivalence_for, type_of, units_but_main}
use Rattle.layout_rules.specs.Layout.{last_line}
use mathlib.Core.Path.{fun_ext}
use Rattle.f77_tree.specs.Places.{same_block}
use Rattle.program_units.specs.Names.{has_block, y_entities}
use Rattle.f77_subs.specs.MergedCounts.{is_added_by, is_equivalence_or_data, storage_below, storage_of}
use Rattle.program_units.specs.Merged.{is_merged, is_run_block}
use Rattle.program_units.specs.Units.{unit_at, runs}
use Rattle.inlined_copies.proofs.Capped.{min-sum}

-- ---- sums that stop at a limit

pub two-capped : (a b limit x y : ℕ) → x ≡ min a limit → y ≡ min b limit → min (x + y) limit ≡ min (a + b) limit
two-capped a b limit x y first second =
    let turn : a + y ≡ y + a = omega arith in
    let back : b + a ≡ a + b = omega arith in
    ap (λ (n : ℕ). min (n + y) limit) first
    ∙ min-sum a y limit
    ∙ ap (λ (n : ℕ). min n limit) turn
    ∙ ap (λ (n : ℕ). min (n + a) limit) second
    ∙ min-sum b a limit
    ∙ ap (λ (n : ℕ). min n limit) back

-- ---- lists, item by item

module _ {X : Type 0} (test : X → Bool) (xs : List X) where
  one : (x : X) → length (filter test (x ∷ [])) ≡ cond (test x) 1 0
  one x = by (test x)
    where
      by : (b : Bool) → length (cond b (x ∷ []) []) ≡ cond b 1 0
      by true = refl
      by false = refl

  pub passed-more : (i : ℕ) (x : X) → i < length xs → x ≡ get_or xs i x → length (filter test (take (i + 1) xs)) ≡ length (filter test (take i xs)) + cond (test x) 1 0
  passed-more i x inside is =
      let more : take (i + 1) xs ≡ take i xs ++ x ∷ [] = take_more xs i x inside ∙ ap (λ (y : X). take i xs ++ y ∷ []) (sym is) in
      ap (λ (ys : List X). length (filter test ys)) more
      ∙ ap length (filter-append test (take i xs) (x ∷ []))
      ∙ length-append (filter test (take i xs)) (filter test (x ∷ []))
      ∙ ap (λ (n : ℕ). length (filter test (take i xs)) + n) (one x)

  pub capped-next : (limit i : ℕ) (x : X) (old new : ℕ) → i < length xs → slice_get xs i ≡ Some x → old ≡ min (length (filter test (take i xs))) limit → new ≡ min (old + cond (test x) 1 0) limit → new ≡ min (length (filter test (take (i + 1) xs))) limit
  capped-next limit i x old new inside there before is =
      is
      ∙ ap (λ (n : ℕ). min (n + cond (test x) 1 0) limit) before
      ∙ min-sum (length (filter test (take i xs))) (cond (test x) 1 0) limit
      ∙ ap (λ (n : ℕ). min n limit) (sym (passed-more i x inside (sym (get_or_from_slice_get xs i x x there))))

  pub counted-next : (limit i : ℕ) (x : X) (old new : ℕ) → i < length xs → x ≡ get_or xs i x → old ≡ min (count_by test (take i xs)) limit → new ≡ min (old + cond (test x) 1 0) limit → new ≡ min (count_by test (take (i + 1) xs)) limit
  counted-next limit i x old new inside there before is =
      let more : take (i + 1) xs ≡ take i xs ++ x ∷ [] = take_more xs i x inside ∙ ap (λ (y : X). take i xs ++ y ∷ []) (sym there) in
      let single : count_by test (x ∷ []) ≡ cond (test x) 1 0 = (let e = sum_by-cons (λ (y : X). cond (test y) 1 0) x [] in omega (arith, e)) in
      is
      ∙ ap (λ (n : ℕ). min (n + cond (test x) 1 0) limit) before
      ∙ min-sum (count_by test (take i xs)) (cond (test x) 1 0) limit
      ∙ ap (λ (n : ℕ). min (count_by test (take i xs) + n) limit) (sym single)
      ∙ ap (λ (n : ℕ). min n limit) (sym (ap (count_by test) more ∙ sum_by-append (λ (y : X). cond (test y) 1 0) (take i xs) (x ∷ [])))

-- ---- units, one by one

module _ (us : List (List Labelled)) where
  below-more : (n : ℕ) → storage_below us (n + 1) ≡ storage_below us n + storage_of us (1 + n)
  below-more n = by 1 n
    where
      same : (a b : ℕ) → a ≡ b → storage_of us a ≡ storage_of us b
      same a b is = ap (storage_of us) is

      next : (a n : ℕ) → sum_by (storage_of us) (range_with_len a (suc n)) ≡ sum_by (storage_of us) (range_with_len a n) + storage_of us (a + n)
      next a zero =
          let e = sum_by-cons (storage_of us) a [] in
          let f = same a (a + 0) (omega arith) in
          omega (arith, e, f)
      next a (suc n) =
          let e = sum_by-cons (storage_of us) a (range_with_len (a + 1) (suc n)) in
          let f = sum_by-cons (storage_of us) a (range_with_len (a + 1) n) in
          let g = next (a + 1) n in
          let h = same ((a + 1) + n) (a + suc n) (omega arith) in
          omega (arith, e, f, g, h)

      by : (a n : ℕ) → sum_by (storage_of us) (range_with_len a (n + 1)) ≡ sum_by (storage_of us) (range_with_len a n) + storage_of us (a + n)
      by a n = ap (λ (k : ℕ). sum_by (storage_of us) (range_with_len a k)) (let e : n + 1 ≡ suc n = omega arith in e) ∙ next a n

  pub unit-next : (limit i : ℕ) (old own new : ℕ) → old ≡ min (storage_below us i) limit → own ≡ min (storage_of us (i + 1)) limit → new ≡ min (old + own) limit → new ≡ min (storage_below us (i + 1)) limit
  unit-next limit i old own new before here is =
      let e : i + 1 ≡ 1 + i = omega arith in
      is
      ∙ two-capped (storage_below us i) (storage_of us (i + 1)) limit old own before here
      ∙ ap (λ (k : ℕ). min (storage_below us i + storage_of us k) limit) e
      ∙ ap (λ (n : ℕ). min n limit) (sym (below-more i))

  -- ---- all that is merged

  one-put : (k : ℕ) (s : Labelled) → length (equivalence_for us k s) + length (data_for us k s) ≡ cond (is_equivalence_or_data s.stmt) 1 0
  one-put k s = by s.line s.label s.stmt
    where
      by : (line label : ℕ) (stmt : Stmt) → length (equivalence_for us k (record { label = label; line = line; stmt = stmt })) + length (data_for us k (record { label = label; line = line; stmt = stmt })) ≡ cond (is_equivalence_or_data stmt) 1 0
      by line label (Equivalence groups) = refl
      by line label (Init parts) = refl
      by line label _ = refl

  unit-put : (k : ℕ) (u : List Labelled) → length (flat_map (equivalence_for us k) u) + length (flat_map (data_for us k) u) ≡ count_by (λ (s : Labelled). is_equivalence_or_data s.stmt) u
  unit-put k [] = refl
  unit-put k (s ∷ u) =
      let a = length-append (equivalence_for us k s) (flat_map (equivalence_for us k) u) in
      let b = length-append (data_for us k s) (flat_map (data_for us k) u) in
      let c = one-put k s in
      let d = unit-put k u in
      let e = sum_by-cons (λ (t : Labelled). cond (is_equivalence_or_data t.stmt) 1 0) s u in
      omega (arith, a, b, c, d, e)

  abbrev ties_of : ℕ → List Labelled
  ties_of k = flat_map (equivalence_for us k) (unit_at us k)

  abbrev datas_of : ℕ → List Labelled
  datas_of k = flat_map (data_for us k) (unit_at us k)

  units-put : (ks : List ℕ) → length (flat_map ties_of (filter (runs us) ks)) + length (flat_map datas_of (filter (runs us) ks)) ≡ sum_by (storage_of us) ks
  units-put [] = refl
  units-put (k ∷ ks) = by (runs us k) refl (units-put ks)
    where
      by : (b : Bool) → runs us k ≡ b → length (flat_map ties_of (filter (runs us) ks)) + length (flat_map datas_of (filter (runs us) ks)) ≡ sum_by (storage_of us) ks
          → length (flat_map ties_of (cond b (k ∷ filter (runs us) ks) (filter (runs us) ks))) + length (flat_map datas_of (cond b (k ∷ filter (runs us) ks) (filter (runs us) ks))) ≡ sum_by (storage_of us) (k ∷ ks)
      by true is more =
          let a = length-append (ties_of k) (flat_map ties_of (filter (runs us) ks)) in
          let b = length-append (datas_of k) (flat_map datas_of (filter (runs us) ks)) in
          let c = unit-put k (unit_at us k) in
          let d = sum_by-cons (storage_of us) k ks in
          let e : storage_of us k ≡ count_by (λ (s : Labelled). is_equivalence_or_data s.stmt) (unit_at us k) = ap (λ (t : Bool). cond t (count_by (λ (s : Labelled). is_equivalence_or_data s.stmt) (unit_at us k)) 0) is in
          omega (arith, a, b, c, d, e, more)
      by false is more =
          let d = sum_by-cons (storage_of us) k ks in
          let e : storage_of us k ≡ 0 = ap (λ (t : Bool). cond t (count_by (λ (s : Labelled). is_equivalence_or_data s.stmt) (unit_at us k)) 0) is in
          omega (arith, d, e, more)

  length-of-map : {A B : Type 0} (f : A → B) (xs : List A) → length (map f xs) ≡ length xs
  length-of-map f [] = refl
  length-of-map f (x ∷ xs) = ap suc (length-of-map f xs)

  pub put-count : length (merged us) ≡ (length (filter (is_running us) (y_entities us)) + length (filter (is_merged us) (blocks us))) + storage_below us (length us - 1)
  put-count =
      let line : ℕ = last_line (unit_at us 0) in
      let types : List Labelled = map (type_of us line) (filter (is_running us) (y_entities us)) in
      let commons : List Labelled = map (common_of us line) (filter (is_merged us) (blocks us)) in
      let tied : List Labelled = flat_map ties_of (units_but_main us) in
      let given : List Labelled = flat_map datas_of (units_but_main us) in
      let a = length-append ((types ++ commons) ++ tied) given in
      let b = length-append (types ++ commons) tied in
      let c = length-append types commons in
      let d = length-of-map (type_of us line) (filter (is_running us) (y_entities us)) in
      let e = length-of-map (common_of us line) (filter (is_merged us) (blocks us)) in
      let f = units-put (range_with_len 1 (length us - 1)) in
      let whole : length (merged us) ≡ length (((types ++ commons) ++ tied) ++ given) = refl in
      omega (arith, whole, a, b, c, d, e, f)

pub added-is : (us : List (List Labelled)) (main running : List (Option (List ℕ))) → ((block : Option (List ℕ)) → list_any (same_block block) main ≡ has_block (unit_at us 0) block)
    → ((block : Option (List ℕ)) → list_any (same_block block) running ≡ is_run_block us block) → is_added_by main running ≡ is_merged us
added-is us main running of_main of_running =
    fun_ext (λ block.
    ap (λ (x : Bool). not x && list_any (same_block block) running) (of_main block)
    ∙ ap (λ (x : Bool). not (has_block (unit_at us 0) block) && x) (of_running block))
