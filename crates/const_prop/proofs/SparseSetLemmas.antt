-- Which sets keys have, after a set is read or written, and after a key got a number or lost it.
use Rattle.std.proofs.Common.{◌≡◌, ◌≢◌, ℕ, zero, suc, ◌+◌, ◌<◌, ◌≤◌, Bool, true, false, not, ◌==◌, ◌||◌, ◌&&◌, List, [], ◌∷◌, ◌++◌, length, set, get_or, count_by, refl, sym, ap, ◌∙◌, ⊎_elim, arith, subst}
use Rattle.std.proofs.lemmas.Bool.{cases_eq}
use Rattle.std.proofs.lemmas.Bool.Decides.{nat_tests}
use Rattle.std.proofs.lemmas.List.Sums.{count_by-le-length}
use Rattle.std.proofs.lemmas.List.{get_or-set_same, get_or-set_other, length-set, length-append}
use Rattle.std.proofs.Math.Seq.{get_or-append_seam}
use Rattle.std.proofs.Math.ListN.{get_or-append}
use Rattle.list_laws.proofs.Counts.{bit, count-set, count_some}
use Rattle.class_set.specs.ClassSet.{holds}
use Rattle.class_set.specs.declared.ClassSet.{ClassSet}
use Rattle.const_prop.specs.SparseSets.{is_number, nth_holds, AreShared}

module _ {W : ℕ} where
  -- a set that was read
  pub nth_read : (sets : List (ClassSet W)) (n k : ℕ) (s : ClassSet W) → n < length sets → s ≡ get_or sets n s → holds s k ≡ nth_holds sets n k
  nth_read [] n k s within is = absurd (omega (arith, within))
  nth_read (x ∷ sets) zero k s within is = ap (λ y. holds y k) is
  nth_read (x ∷ sets) (suc n) k s within is = nth_read sets n k s (omega arith) is

  -- a set that was written, and the others
  pub nth-set_same : (sets : List (ClassSet W)) (n k : ℕ) (s : ClassSet W) → n < length sets → nth_holds (set sets n s) n k ≡ holds s k
  nth-set_same [] n k s within = absurd (omega (arith, within))
  nth-set_same (x ∷ sets) zero k s within = refl
  nth-set_same (x ∷ sets) (suc n) k s within = nth-set_same sets n k s (omega arith)

  pub nth-set_other : (sets : List (ClassSet W)) (n m k : ℕ) (s : ClassSet W) → m ≢ n → nth_holds (set sets n s) m k ≡ nth_holds sets m k
  nth-set_other [] n m k s differ = refl
  nth-set_other (x ∷ sets) zero zero k s differ = absurd (differ refl)
  nth-set_other (x ∷ sets) zero (suc m) k s differ = refl
  nth-set_other (x ∷ sets) (suc n) zero k s differ = refl
  nth-set_other (x ∷ sets) (suc n) (suc m) k s differ = nth-set_other sets n m k s (λ same. differ (ap suc same))

  -- one set more
  pub nth-append : (sets : List (ClassSet W)) (n k : ℕ) (s : ClassSet W) → n < length sets → nth_holds (sets ++ s ∷ []) n k ≡ nth_holds sets n k
  nth-append [] n k s within = absurd (omega (arith, within))
  nth-append (x ∷ sets) zero k s within = refl
  nth-append (x ∷ sets) (suc n) k s within = nth-append sets n k s (omega arith)

  pub nth-last : (sets : List (ClassSet W)) (n k : ℕ) (s : ClassSet W) → n ≡ length sets → nth_holds (sets ++ s ∷ []) n k ≡ holds s k
  nth-last [] zero k s is = refl
  nth-last [] (suc n) k s is = absurd (omega (arith, is))
  nth-last (x ∷ sets) zero k s is = absurd (omega (arith, is))
  nth-last (x ∷ sets) (suc n) k s is = nth-last sets n k s (omega (arith, is))

pub is_same : (i j : ℕ) → i ≡ j → (i == j) ≡ true
is_same i j same = grind (arith, nat_tests)

pub is_other : (i j : ℕ) → i ≢ j → (i == j) ≡ false
is_other i j other = grind (arith, nat_tests)

number_some : (n : ℕ) → n ≢ 0 → is_number n ≡ true
number_some n some = grind (arith, nat_tests)

number_none : (n : ℕ) → n ≡ 0 → is_number n ≡ false
number_none n none = grind (arith, nat_tests)

-- one key more has a number, or one less
pub count-more : (numbers : List ℕ) (key n : ℕ) → key < length numbers → get_or numbers key 0 ≡ 0 → n ≢ 0 → count_by is_number (set numbers key n) ≡ count_by is_number numbers + 1
count-more numbers key n within none some =
    let e : count_by is_number (set numbers key n) + bit (is_number (get_or numbers key 0)) ≡ count_by is_number numbers + bit (is_number n) = count-set is_number numbers key n 0 within in
    let before : bit (is_number (get_or numbers key 0)) ≡ 0 = ap bit (number_none (get_or numbers key 0) none) in
    let after : bit (is_number n) ≡ 1 = ap bit (number_some n some) in
    omega (arith, e, before, after)

count-less : (numbers : List ℕ) (key : ℕ) → key < length numbers → get_or numbers key 0 ≢ 0 → count_by is_number (set numbers key 0) + 1 ≡ count_by is_number numbers
count-less numbers key within some =
    let e : count_by is_number (set numbers key 0) + bit (is_number (get_or numbers key 0)) ≡ count_by is_number numbers + bit (is_number 0) = count-set is_number numbers key 0 0 within in
    let before : bit (is_number (get_or numbers key 0)) ≡ 1 = ap bit (number_some (get_or numbers key 0) some) in
    let after : bit (is_number 0) ≡ 0 = refl in
    omega (arith, e, before, after)

-- a free number that was taken last, and the others
free-last : (free rest : List ℕ) (n : ℕ) → free ≡ rest ++ n ∷ [] → get_or free (length rest) 0 ≡ n
free-last free rest n is = ap (λ xs. get_or xs (length rest) 0) is ∙ get_or-append_seam rest n [] 0

free-rest : (free rest : List ℕ) (n j : ℕ) → free ≡ rest ++ n ∷ [] → j < length rest → get_or free j 0 ≡ get_or rest j 0
free-rest free rest n j is within = ap (λ xs. get_or xs j 0) is ∙ get_or-append rest (n ∷ []) 0 j within

free-length : (free rest : List ℕ) (n : ℕ) → free ≡ rest ++ n ∷ [] → length free ≡ length rest + 1
free-length free rest n is = ap length is ∙ length-append rest (n ∷ [])

module _ {W : ℕ} (numbers : List ℕ) (sets : List (ClassSet W)) (free : List ℕ) (are : AreShared numbers sets free) where
  -- the set of a key was read
  pub set_read : (key n k : ℕ) (s : ClassSet W) → n ≡ get_or numbers key 0 → s ≡ get_or sets n s → holds s k ≡ nth_holds sets (get_or numbers key 0) k
  set_read key n k s is read = let w = are.within key in nth_read sets n k s (omega (arith, w, is)) read ∙ ap (λ i. nth_holds sets i k) is

  -- a set other than the empty one was written
  pub shared_written : (n : ℕ) (s : ClassSet W) → n ≢ 0 → AreShared numbers (set sets n s) free
  shared_written n s some =
      let same : length (set sets n s) ≡ length sets = length-set sets n s in
      record {
        none = λ k. nth-set_other sets n 0 k s (λ zero. some (sym zero)) ∙ are.none k;
        within = λ i. let w = are.within i in omega (arith, same, w);
        own = are.own;
        count = same ∙ are.count;
        few = (let w = are.few in omega (arith, same, w));
        free_within = λ j l. let w = are.free_within j l in omega (arith, same, w);
        free_some = are.free_some;
        unused = are.unused;
        apart = are.apart;
      }

  module _ (key : ℕ) (within : key < length numbers) where
    here : (n : ℕ) → get_or (set numbers key n) key 0 ≡ n
    here n = get_or-set_same numbers key n 0 within

    there : (n i : ℕ) → i ≢ key → get_or (set numbers key n) i 0 ≡ get_or numbers i 0
    there n i other = get_or-set_other numbers key i n 0 other

    at_key : (n i : ℕ) → i ≡ key → get_or (set numbers key n) i 0 ≡ n
    at_key n i e = ap (λ i. get_or (set numbers key n) i 0) e ∙ here n

    -- each number stays the key's own, where the key gets one that no other has
    own-set : (n : ℕ) → ((i : ℕ) → i ≢ key → get_or numbers i 0 ≡ n → n ≢ 0 → ⊥) → (i j : ℕ) → get_or (set numbers key n) i 0 ≡ get_or (set numbers key n) j 0 → get_or (set numbers key n) i 0 ≢ 0 → i ≡ j
    own-set n new i j same some = ⊎_elim
        (λ (e : i ≡ key). ⊎_elim
        (λ (f : j ≡ key). e ∙ sym f)
        (λ (d : j ≢ key). absurd (new j d (sym (there n j d) ∙ sym same ∙ at_key n i e) (λ zero. some (at_key n i e ∙ zero))))
        (cases_eq j key))
        (λ (d : i ≢ key). ⊎_elim
        (λ (f : j ≡ key). absurd (new i d (sym (there n i d) ∙ same ∙ at_key n j f) (λ zero. some (same ∙ at_key n j f ∙ zero))))
        (λ (g : j ≢ key). are.own i j (sym (there n i d) ∙ same ∙ there n j g) (λ zero. some (there n i d ∙ zero)))
        (cases_eq j key))
        (cases_eq i key)

    -- what holds of the new number and of the others holds of each
    each-set : (P : ℕ → Type 0) (n : ℕ) → P n → ((i : ℕ) → P (get_or numbers i 0)) → (i : ℕ) → P (get_or (set numbers key n) i 0)
    each-set P n first others i = ⊎_elim
        (λ (e : i ≡ key). subst P (sym (at_key n i e)) first)
        (λ (d : i ≢ key). subst P (sym (there n i d)) (others i))
        (cases_eq i key)

    -- the key got the free number that was taken last
    pub shared_reused : (rest : List ℕ) (n : ℕ) (s : ClassSet W) → get_or numbers key 0 ≡ 0 → free ≡ rest ++ n ∷ [] → AreShared (set numbers key n) (set sets n s) rest
    shared_reused rest n s none is =
        let same : length (set sets n s) ≡ length sets = length-set sets n s in
        let size : length (set numbers key n) ≡ length numbers = length-set numbers key n in
        let more = free-length free rest n is in
        let last = free-last free rest n is in
        let some : n ≢ 0 = λ zero. are.free_some (length rest) (omega (arith, more)) (last ∙ zero) in
        let was : (j : ℕ) → j < length rest → get_or free j 0 ≡ get_or rest j 0 = λ j l. free-rest free rest n j is l in
        let counted = count-more numbers key n within none some in
        record {
          none = λ k. nth-set_other sets n 0 k s (λ zero. some (sym zero)) ∙ are.none k;
          within = each-set (λ m. m < length (set sets n s)) n (let w = are.free_within (length rest) (omega (arith, more)) in omega (arith, same, last, w)) (λ i. let w = are.within i in omega (arith, same, w));
          own = own-set n (λ i other is_n some. are.unused i (length rest) (omega (arith, more)) (is_n ∙ sym last));
          count = (let c = are.count in omega (arith, same, c, counted, more));
          few = (let c = are.few in omega (arith, same, c, size));
          free_within = λ j l. let w = are.free_within j (omega (arith, l, more)) in let w' = was j l in omega (arith, same, w, w');
          free_some = λ j l zero. are.free_some j (omega (arith, l, more)) (was j l ∙ zero);
          unused = λ i j l. each-set (λ m. m ≢ get_or rest j 0) n
              (λ e. let apart = are.apart (length rest) j (omega (arith, more)) (omega (arith, l, more)) (last ∙ e ∙ sym (was j l)) in omega (arith, apart, l))
              (λ i e. are.unused i j (omega (arith, l, more)) (e ∙ sym (was j l))) i;
          apart = λ i j l m e. are.apart i j (omega (arith, l, more)) (omega (arith, m, more)) (was i l ∙ e ∙ sym (was j m));
        }

    -- the key got the number of a set that is new
    shared-new : (n : ℕ) (s : ClassSet W) (left : List ℕ) → get_or numbers key 0 ≡ 0 → length free ≡ 0 → length left ≡ 0 → n ≡ length sets → AreShared (set numbers key n) (sets ++ s ∷ []) left
    shared-new n s left none empty no_left is =
        let same : length (sets ++ s ∷ []) ≡ length sets + 1 = length-append sets (s ∷ []) in
        let size : length (set numbers key n) ≡ length numbers = length-set numbers key n in
        let all = are.count in
        let some : n ≢ 0 = λ zero. omega (arith, zero, is, all) in
        let counted = count-more numbers key n within none some in
        let most = count_by-le-length is_number (set numbers key n) in
        let nothing : (j : ℕ) → j < length left → ⊥ = λ j l. omega (arith, l, no_left) in
        record {
          none = λ k. nth-append sets 0 k s (omega (arith, all)) ∙ are.none k;
          within = each-set (λ m. m < length (sets ++ s ∷ [])) n (omega (arith, same, is)) (λ i. let w = are.within i in omega (arith, same, w));
          own = own-set n (λ i other is_n some. let w = are.within i in omega (arith, w, is_n, is));
          count = omega (arith, same, all, counted, empty, no_left);
          few = omega (arith, same, all, counted, most, size, empty);
          free_within = λ j l. absurd (nothing j l);
          free_some = λ j l. absurd (nothing j l);
          unused = λ i j l. absurd (nothing j l);
          apart = λ i j l. absurd (nothing i l);
        }

    -- the key lost its number, which is free now
    shared-cleared : get_or numbers key 0 ≢ 0 → AreShared (set numbers key 0) sets (free ++ get_or numbers key 0 ∷ [])
    shared-cleared some =
        let n = get_or numbers key 0 in
        let size : length (set numbers key 0) ≡ length numbers = length-set numbers key 0 in
        let more : length (free ++ n ∷ []) ≡ length free + 1 = length-append free (n ∷ []) in
        let counted = count-less numbers key within some in
        let last : get_or (free ++ n ∷ []) (length free) 0 ≡ n = get_or-append_seam free n [] 0 in
        let was : (j : ℕ) → j < length free → get_or (free ++ n ∷ []) j 0 ≡ get_or free j 0 = λ j l. get_or-append free (n ∷ []) 0 j l in
        let ends : (P : ℕ → Type 0) → P n → ((j : ℕ) → j < length free → P (get_or free j 0)) → (j : ℕ) → j < length (free ++ n ∷ []) → P (get_or (free ++ n ∷ []) j 0) =
        (λ P first others j l. ⊎_elim
        (λ (e : j ≡ length free). subst P (sym (ap (λ i. get_or (free ++ n ∷ []) i 0) e ∙ last)) first)
        (λ (d : j ≢ length free). let before : j < length free = omega (arith, l, d, more) in subst P (sym (was j before)) (others j before))
        (cases_eq j (length free))) in
        record {
          none = are.none;
          within = each-set (λ m. m < length sets) 0 (let all = are.count in omega (arith, all)) are.within;
          own = own-set 0 (λ i other is_n some. some refl);
          count = (let all = are.count in omega (arith, all, counted, more));
          few = (let most = are.few in omega (arith, most, size));
          free_within = ends (λ m. m < length sets) (are.within key) are.free_within;
          free_some = ends (λ m. m ≢ 0) some are.free_some;
          unused = λ i j l. ends (λ m. get_or (set numbers key 0) i 0 ≢ m)
              (⊎_elim
              (λ (e : i ≡ key). λ is_n. some (sym is_n ∙ at_key 0 i e))
              (λ (d : i ≢ key). λ is_n. d (are.own i key (sym (there 0 i d) ∙ is_n) (λ zero. some (sym is_n ∙ there 0 i d ∙ zero))))
              (cases_eq i key))
              (λ j l. each-set (λ m. m ≢ get_or free j 0) 0 (λ zero. are.free_some j l (sym zero)) (λ i. are.unused i j l) i) j l;
          apart = λ i j l m e. ⊎_elim
              (λ (f : i ≡ length free). ⊎_elim
              (λ (h : j ≡ length free). f ∙ sym h)
              (λ (d : j ≢ length free). let before : j < length free = omega (arith, m, d, more) in
              absurd (are.unused key j before (sym last ∙ ap (λ x. get_or (free ++ n ∷ []) x 0) (sym f) ∙ e ∙ was j before)))
              (cases_eq j (length free)))
              (λ (d : i ≢ length free). let first : i < length free = omega (arith, l, d, more) in ⊎_elim
              (λ (h : j ≡ length free). absurd (are.unused key i first (sym last ∙ ap (λ x. get_or (free ++ n ∷ []) x 0) (sym h) ∙ sym e ∙ was i first)))
              (λ (g : j ≢ length free). let before : j < length free = omega (arith, m, g, more) in are.apart i j first before (sym (was i first) ∙ e ∙ was j before))
              (cases_eq j (length free)))
              (cases_eq i (length free));
        }

  -- which sets have which members then
  pub holds_written : (key n : ℕ) (s : ClassSet W) (more : ℕ → Bool) → n ≡ get_or numbers key 0 → n ≢ 0 → ((k : ℕ) → holds s k ≡ (more k || nth_holds sets n k)) → (e k : ℕ) → nth_holds (set sets n s) (get_or numbers e 0) k ≡ ((e == key && more k) || nth_holds sets (get_or numbers e 0) k)
  holds_written key n s more is some now e k = ⊎_elim
      (λ (h : e ≡ key).
      let n_is : get_or numbers e 0 ≡ n = ap (λ i. get_or numbers i 0) h ∙ sym is in
      let within : n < length sets = (let w = are.within key in omega (arith, w, is)) in
      rw (is_same e key h, n_is) (nth-set_same sets n k s within ∙ now k))
      (λ (h : e ≢ key).
      let apart : get_or numbers e 0 ≢ n = λ same. h (are.own e key (same ∙ is) (λ zero. some (sym same ∙ zero))) in
      rw (is_other e key h) (nth-set_other sets n (get_or numbers e 0) k s apart))
      (cases_eq e key)

  module _ (key : ℕ) (within : key < length numbers) where
    pub holds_reused : (rest : List ℕ) (n : ℕ) (s : ClassSet W) → get_or numbers key 0 ≡ 0 → free ≡ rest ++ n ∷ [] → ((k : ℕ) → holds s k ≡ false) → (e k : ℕ) → nth_holds (set sets n s) (get_or (set numbers key n) e 0) k ≡ nth_holds sets (get_or numbers e 0) k
    holds_reused rest n s none is empty e k =
        let more = free-length free rest n is in
        let last = free-last free rest n is in
        ⊎_elim
        (λ (h : e ≡ key).
        let now : get_or (set numbers key n) e 0 ≡ n = at_key key within n e h in
        let before : get_or numbers e 0 ≡ 0 = ap (λ i. get_or numbers i 0) h ∙ none in
        let inside : n < length sets = (let w = are.free_within (length rest) (omega (arith, more)) in omega (arith, last, w)) in
        rw (now, before) (nth-set_same sets n k s inside ∙ empty k ∙ sym (are.none k)))
        (λ (h : e ≢ key).
        let now : get_or (set numbers key n) e 0 ≡ get_or numbers e 0 = there key within n e h in
        let apart : get_or numbers e 0 ≢ n = λ same. are.unused e (length rest) (omega (arith, more)) (same ∙ sym last) in
        rw now (nth-set_other sets n (get_or numbers e 0) k s apart))
        (cases_eq e key)

    pub holds_new : (n : ℕ) (s : ClassSet W) (after : List (ClassSet W)) → get_or numbers key 0 ≡ 0 → n ≡ length sets → after ≡ sets ++ s ∷ [] → ((k : ℕ) → holds s k ≡ false) → (e k : ℕ) → nth_holds after (get_or (set numbers key n) e 0) k ≡ nth_holds sets (get_or numbers e 0) k
    holds_new n s after none is more empty e k = rw more (⊎_elim
        (λ (h : e ≡ key).
        let now : get_or (set numbers key n) e 0 ≡ n = at_key key within n e h in
        let before : get_or numbers e 0 ≡ 0 = ap (λ i. get_or numbers i 0) h ∙ none in
        rw (now, before) (nth-last sets n k s is ∙ empty k ∙ sym (are.none k)))
        (λ (h : e ≢ key).
        let now : get_or (set numbers key n) e 0 ≡ get_or numbers e 0 = there key within n e h in
        rw now (nth-append sets (get_or numbers e 0) k s (are.within e)))
        (cases_eq e key))

    pub holds_cleared : (e k : ℕ) → nth_holds sets (get_or (set numbers key 0) e 0) k ≡ (not (e == key) && nth_holds sets (get_or numbers e 0) k)
    holds_cleared e k = ⊎_elim
        (λ (h : e ≡ key).
        let now : get_or (set numbers key 0) e 0 ≡ 0 = at_key key within 0 e h in
        rw (now, is_same e key h) (are.none k))
        (λ (h : e ≢ key).
        let now : get_or (set numbers key 0) e 0 ≡ get_or numbers e 0 = there key within 0 e h in
        rw (now, is_other e key h) refl)
        (cases_eq e key)

    pub shared_cleared : (after : List ℕ) → get_or numbers key 0 ≢ 0 → after ≡ free ++ get_or numbers key 0 ∷ [] → AreShared (set numbers key 0) sets after
    shared_cleared after some is = subst (λ (xs : List ℕ). AreShared (set numbers key 0) sets xs) (sym is) (shared-cleared key within some)

    pub shared_new : (n : ℕ) (s : ClassSet W) (after : List (ClassSet W)) (left : List ℕ) → get_or numbers key 0 ≡ 0 → length free ≡ 0 → length left ≡ 0 → n ≡ length sets → after ≡ sets ++ s ∷ [] → AreShared (set numbers key n) after left
    shared_new n s after left none empty no_left is more = subst (λ (xs : List (ClassSet W)). AreShared (set numbers key n) xs left) (sym more) (shared-new key within n s left none empty no_left is)

    -- not all numbers are free where a key has one
    pub free_left : get_or numbers key 0 ≢ 0 → length free < length numbers
    free_left some =
        let one = count_some is_number numbers key 0 within (number_some (get_or numbers key 0) some) in
        let all = are.count in
        let most = are.few in
        omega (arith, one, all, most)

    -- where no number is free and the key has none, there are at most as many sets as keys
    pub sets_left : get_or numbers key 0 ≡ 0 → length free ≡ 0 → length sets ≤ length numbers
    sets_left none empty =
        let counted = count-more numbers key 1 within none (λ one. cc) in
        let most = count_by-le-length is_number (set numbers key 1) in
        let size = length-set numbers key 1 in
        let all = are.count in
        omega (arith, counted, most, size, all, empty)

    -- a number that was free isn't 0, nor is it after it was given
    pub reused_some : (rest : List ℕ) (n : ℕ) → free ≡ rest ++ n ∷ [] → get_or (set numbers key n) key 0 ≢ 0
    reused_some rest n is none =
        let more = free-length free rest n is in
        are.free_some (length rest) (omega (arith, more)) (free-last free rest n is ∙ sym (here key within n) ∙ none)
