-- Lists seen by what stands at each place.
use Rattle.std.proofs.Common.{◌≡◌, ◌⊎◌, ⊎_elim, ℕ, zero, suc, ◌&&◌, ℤ, Bool, true, List, [], ◌∷◌, length, Option, Some, None, slice_get, slice_set, slice_index, refl, sym, ap, ◌∙◌, subst, inl, inr, arith}
use Rattle.f77_tree.specs.Value.{word_at}
use Rattle.std.specs.List.{list_all}
use Rattle.list_laws.specs.Member.{Member}
use Rattle.net_board.specs.Tokens.{with_all}
use Rattle.std.proofs.lemmas.Bool.{and_parts}

-- ---- equal lists

pub same_list : {X : Type 0} (xs ys : List X) → ((k : ℕ) → slice_get xs k ≡ slice_get ys k) → xs ≡ ys
same_list [] [] same = refl
same_list [] (y ∷ ys) same = let e : None ≡ Some y = same 0 in absurd cc
same_list (x ∷ xs) [] same = let e : Some x ≡ None = same 0 in absurd cc
same_list (x ∷ xs) (y ∷ ys) same = by (same 0) (same_list xs ys (λ k. same (suc k)))
  where
    by : Some x ≡ Some y → xs ≡ ys → (x ∷ xs) ≡ (y ∷ ys)
    by first rest = cc

-- ---- an item that is replaced

-- what stands at a place after something is put there
abbrev pub put : {X : Type 0} → X → Option X → Option X
put x None = None
put x (Some old) = Some x

pub get_set_same : {X : Type 0} (xs : List X) (k : ℕ) (x : X) → slice_get (slice_set xs k x) k ≡ put x (slice_get xs k)
get_set_same [] k x = refl
get_set_same (y ∷ xs) zero x = refl
get_set_same (y ∷ xs) (suc k) x = get_set_same xs k x

pub get_set_other : {X : Type 0} (xs : List X) (k j : ℕ) (x : X) → (k ≡ j → ⊥) → slice_get (slice_set xs k x) j ≡ slice_get xs j
get_set_other [] k j x differ = refl
get_set_other (y ∷ xs) zero zero x differ = absurd (differ refl)
get_set_other (y ∷ xs) zero (suc j) x differ = refl
get_set_other (y ∷ xs) (suc k) zero x differ = refl
get_set_other (y ∷ xs) (suc k) (suc j) x differ = get_set_other xs k j x (λ same. differ (ap suc same))

pub length_slice_set : {X : Type 0} (xs : List X) (k : ℕ) (x : X) → length (slice_set xs k x) ≡ length xs
length_slice_set [] k x = refl
length_slice_set (y ∷ xs) zero x = refl
length_slice_set (y ∷ xs) (suc k) x = ap suc (length_slice_set xs k x)

put_put : {X : Type 0} (x y : X) (o : Option X) → put x (put y o) ≡ put x o
put_put x y None = refl
put_put x y (Some old) = refl

-- ---- many that are replaced

pub length_with_all : (values : List (Option ℕ)) (places : List ℕ) (value : ℕ → Option ℕ) → length (with_all values places value) ≡ length values
length_with_all values [] value = refl
length_with_all values (place ∷ places) value = length_with_all (slice_set values place (value place)) places value ∙ length_slice_set values place (value place)

pub with_all_other : (values : List (Option ℕ)) (places : List ℕ) (value : ℕ → Option ℕ) (k : ℕ) → (Member places k → ⊥) → slice_get (with_all values places value) k ≡ slice_get values k
with_all_other values [] value k none = refl
with_all_other values (place ∷ places) value k none =
    with_all_other (slice_set values place (value place)) places value k (λ m. none (inr m))
    ∙ get_set_other values place k (value place) (λ same. none (inl same))

pub same_or_not : (j k : ℕ) → (j ≡ k) ⊎ (j ≡ k → ⊥)
same_or_not zero zero = inl refl
same_or_not zero (suc k) = inr (λ e. cc)
same_or_not (suc j) zero = inr (λ e. cc)
same_or_not (suc j) (suc k) = by (same_or_not j k)
  where
    by : (j ≡ k) ⊎ (j ≡ k → ⊥) → (suc j ≡ suc k) ⊎ (suc j ≡ suc k → ⊥)
    by (inl e) = inl (ap suc e)
    by (inr n) = inr (λ (e : suc j ≡ suc k). n (omega (arith, e)))

pub member_or_not : (xs : List ℕ) (k : ℕ) → Member xs k ⊎ (Member xs k → ⊥)
member_or_not [] k = inr (λ m. m)
member_or_not (x ∷ xs) k = by (same_or_not x k) (member_or_not xs k)
  where
    by : (x ≡ k) ⊎ (x ≡ k → ⊥) → Member xs k ⊎ (Member xs k → ⊥) → Member (x ∷ xs) k ⊎ (Member (x ∷ xs) k → ⊥)
    by (inl e) rest = inl (inl e)
    by (inr n) (inl m) = inl (inr m)
    by (inr n) (inr none) = inr (λ m. ⊎_elim (λ e. n e) (λ r. none r) m)

put_again : (values : List (Option ℕ)) (place k : ℕ) (value : ℕ → Option ℕ) → put (value k) (slice_get (slice_set values place (value place)) k) ≡ put (value k) (slice_get values k)
put_again values place k value = by (same_or_not place k)
  where
    by : (place ≡ k) ⊎ (place ≡ k → ⊥) → put (value k) (slice_get (slice_set values place (value place)) k) ≡ put (value k) (slice_get values k)
    by (inl e) =
        subst (λ (p : ℕ). put (value k) (slice_get (slice_set values p (value p)) k) ≡ put (value k) (slice_get values k)) (sym e) (ap (put (value k)) (get_set_same values k (value k)) ∙ put_put (value k) (value k) (slice_get values k))
    by (inr n) = ap (put (value k)) (get_set_other values place k (value place) n)

pub with_all_same : (values : List (Option ℕ)) (places : List ℕ) (value : ℕ → Option ℕ) (k : ℕ) → Member places k → slice_get (with_all values places value) k ≡ put (value k) (slice_get values k)
with_all_same values [] value k m = absurd m
with_all_same values (place ∷ places) value k (inr m) = with_all_same (slice_set values place (value place)) places value k m ∙ put_again values place k value
with_all_same values (place ∷ places) value k (inl e) = by (with_all_same (slice_set values place (value place)) places value k) (member_or_not places k)
  where
    by : (Member places k → slice_get (with_all (slice_set values place (value place)) places value) k ≡ put (value k) (slice_get (slice_set values place (value place)) k)) → Member places k ⊎ (Member places k → ⊥) → slice_get (with_all values (place ∷ places) value) k ≡ put (value k) (slice_get values k)
    by again (inl m) = again m ∙ put_again values place k value
    by again (inr none) =
        with_all_other (slice_set values place (value place)) places value k none
        ∙ subst (λ (p : ℕ). slice_get (slice_set values p (value p)) k ≡ put (value k) (slice_get values k)) (sym e) (get_set_same values k (value k))

-- ---- tests of all items

pub all_pass : {X : Type 0} (test : X → Bool) (xs : List X) (x : X) → list_all test xs ≡ true → Member xs x → test x ≡ true
all_pass test [] x all m = absurd m
all_pass test (y ∷ ys) x all (inl e) = sym (ap test e) ∙ (and_parts (test y) (list_all test ys) all).0
all_pass test (y ∷ ys) x all (inr m) = all_pass test ys x ((and_parts (test y) (list_all test ys) all).1) m

pub same_tests : {X : Type 0} (test other : X → Bool) (xs : List X) → ((x : X) → Member xs x → test x ≡ other x) → list_all test xs ≡ list_all other xs
same_tests test other [] same = refl
same_tests test other (x ∷ xs) same = ap (λ b. b && list_all test xs) (same x (inl refl)) ∙ ap (λ b. other x && b) (same_tests test other xs (λ y m. same y (inr m)))

-- ---- items of lists of one length

pub same_words : (xs ys : List ℤ) (k : ℕ) → length xs ≡ length ys → word_at xs k ≡ word_at ys k → slice_get xs k ≡ slice_get ys k
same_words [] [] k long same = refl
same_words [] (y ∷ ys) k long same = absurd (omega (arith, long))
same_words (x ∷ xs) [] k long same = absurd (omega (arith, long))
same_words (x ∷ xs) (y ∷ ys) zero long same = ap (λ z. Some z) same
same_words (x ∷ xs) (y ∷ ys) (suc k) long same = same_words xs ys k (omega (arith, long)) same

pub same_numbers : (xs ys : List ℕ) (k : ℕ) → length xs ≡ length ys → slice_index xs k ≡ slice_index ys k → slice_get xs k ≡ slice_get ys k
same_numbers [] [] k long same = refl
same_numbers [] (y ∷ ys) k long same = absurd (omega (arith, long))
same_numbers (x ∷ xs) [] k long same = absurd (omega (arith, long))
same_numbers (x ∷ xs) (y ∷ ys) zero long same = ap (λ z. Some z) same
same_numbers (x ∷ xs) (y ∷ ys) (suc k) long same = same_numbers xs ys k (omega (arith, long)) same

pub index_of : (xs ys : List ℕ) (k : ℕ) → slice_get xs k ≡ slice_get ys k → slice_index xs k ≡ slice_index ys k
index_of xs ys k same = sym (index_is xs k) ∙ ap number_in same ∙ index_is ys k
  where
    number_in : Option ℕ → ℕ
    number_in None = 0
    number_in (Some n) = n

    index_is : (zs : List ℕ) (j : ℕ) → number_in (slice_get zs j) ≡ slice_index zs j
    index_is [] j = refl
    index_is (z ∷ zs) zero = refl
    index_is (z ∷ zs) (suc j) = index_is zs j
