-- What becomes of something that is changed for each item of a list, one after another.
use Rattle.std.proofs.Common.{◌≡◌, ◌<◌, ◌≤◌, ℕ, zero, suc, ◌+◌, ◌&&◌, Bool, true, false, cond, List, [], ◌∷◌, ◌++◌, length, filter, fold, map, drop, get_or, slice_get, slice_set, Option, refl, sym, ap, ◌∙◌, subst, inl, inr, arith, add-one, drop-cons, drop_of_length-le, append-nil}
use Rattle.std.proofs.lemmas.List.{append_assoc, length-map}
use Rattle.std.proofs.lemmas.Bool.{and_parts}
use Rattle.std.specs.List.{list_all}
use Rattle.list_laws.specs.Member.{Member}
use Rattle.net_board.specs.Tokens.{joined}
use Rattle.net_board.proofs.NodeLaws.{Distinct}
use Rattle.op_board.specs.OperationTokens.{replaced}

-- ---- a list that is gone through

module _ {A B : Type 0} where
  -- what is left at a place
  pub left_at : (f : A → B) (items : List A) (seen : List B) (i : ℕ) (item : A) → map f items ≡ seen → i < length items → item ≡ get_or items i item → drop i seen ≡ f item ∷ drop (i + 1) seen
  left_at f items seen i item is low at =
      ap (drop i) (sym is)
      ∙ Rattle.std.proofs.lemmas.List.drop-map f i items
      ∙ ap (map f) (drop-cons items i item low)
      ∙ ap (λ a. f a ∷ map f (drop (suc i) items)) (sym at)
      ∙ ap (λ xs. f item ∷ xs) (sym (Rattle.std.proofs.lemmas.List.drop-map f (suc i) items) ∙ ap (λ n. drop n (map f items)) (sym (add-one i)) ∙ ap (drop (i + 1)) is)

  pub left_none : (f : A → B) (items : List A) (seen : List B) (i : ℕ) → map f items ≡ seen → length items ≤ i → drop i seen ≡ []
  left_none f items seen i is past = drop_of_length-le seen (subst (λ (xs : List B). length xs ≤ i) is (subst (λ (n : ℕ). n ≤ i) (sym (length-map items f)) past))

  pub fold_next : (step : A → B → A) (a new : A) (b : B) (xs rest : List B) (goal : A) → xs ≡ b ∷ rest → new ≡ step a b → fold step a xs ≡ goal → fold step new rest ≡ goal
  fold_next step a new b xs rest goal is made so = ap (λ z. fold step z rest) made ∙ ap (fold step a) (sym is) ∙ so

  pub fold_end : (step : A → B → A) (a goal : A) (xs : List B) → xs ≡ [] → fold step a xs ≡ goal → a ≡ goal
  fold_end step a goal xs is so = ap (fold step a) (sym is) ∙ so

  pub map_next : (f : A → B) (done new all : List B) (a : A) (xs rest : List A) → xs ≡ a ∷ rest → new ≡ done ++ f a ∷ [] → done ++ map f xs ≡ all → new ++ map f rest ≡ all
  map_next f done new all a xs rest is made so =
      ap (λ zs. zs ++ map f rest) made ∙ append_assoc done (f a ∷ []) (map f rest) ∙ ap (λ zs. done ++ map f zs) (sym is) ∙ so

  pub map_end : (f : A → B) (done all : List B) (xs : List A) → xs ≡ [] → done ++ map f xs ≡ all → done ≡ all
  map_end f done all xs is so = sym (append-nil done) ∙ ap (λ zs. done ++ map f zs) (sym is) ∙ so

module _ {A : Type 0} where
  pub Member-left_at : (xs : List A) (i : ℕ) (a : A) (rest : List A) → drop i xs ≡ a ∷ rest → Member xs a
  Member-left_at [] i a rest is = absurd (none i is)
    where
      none : (i : ℕ) → drop i [] ≡ a ∷ rest → ⊥
      none zero e = cc
      none (suc i) e = cc
  Member-left_at (x ∷ xs) zero a rest is = inl (first is)
    where
      first : (x ∷ xs) ≡ a ∷ rest → x ≡ a
      first e = cc
  Member-left_at (x ∷ xs) (suc i) a rest is = inr (Member-left_at xs i a rest is)

  -- ---- lists without repetition

  distinct_drop : (xs : List A) (i : ℕ) → Distinct xs → Distinct (drop i xs)
  distinct_drop [] zero apart = tt
  distinct_drop [] (suc i) apart = tt
  distinct_drop (x ∷ xs) zero apart = apart
  distinct_drop (x ∷ xs) (suc i) apart = distinct_drop xs i apart.1

  pub not_left : (xs : List A) (i : ℕ) (a : A) (rest : List A) → Distinct xs → drop i xs ≡ a ∷ rest → Member rest a → ⊥
  not_left xs i a rest apart is = (subst (λ (ys : List A). Distinct ys) is (distinct_drop xs i apart)).0

  -- ---- tests of what is left

  pub first_passes : (test : A → Bool) (xs : List A) (a : A) (rest : List A) → xs ≡ a ∷ rest → list_all test xs ≡ true → test a ≡ true
  first_passes test xs a rest is all = (and_parts (test a) (list_all test rest) (ap (list_all test) (sym is) ∙ all)).0

  pub rest_passes : (test : A → Bool) (xs : List A) (a : A) (rest : List A) → xs ≡ a ∷ rest → list_all test xs ≡ true → list_all test rest ≡ true
  rest_passes test xs a rest is all = (and_parts (test a) (list_all test rest) (ap (list_all test) (sym is) ∙ all)).1

  pub filter_twice : (first second : A → Bool) (xs : List A) → filter second (filter first xs) ≡ filter (λ a. first a && second a) xs
  filter_twice first second [] = refl
  filter_twice first second (x ∷ xs) = by (first x) (second x) refl (filter_twice first second xs)
    where
      by : (b c : Bool) → second x ≡ c → filter second (filter first xs) ≡ filter (λ a. first a && second a) xs → filter second (cond b (x ∷ filter first xs) (filter first xs)) ≡ cond (b && second x) (x ∷ filter (λ a. first a && second a) xs) (filter (λ a. first a && second a) xs)
      by true true is rest = ap (λ d. cond d (x ∷ filter second (filter first xs)) (filter second (filter first xs))) is ∙ ap (λ zs. x ∷ zs) rest ∙ ap (λ d. cond d (x ∷ filter (λ a. first a && second a) xs) (filter (λ a. first a && second a) xs)) (sym is)
      by true false is rest = ap (λ d. cond d (x ∷ filter second (filter first xs)) (filter second (filter first xs))) is ∙ rest ∙ ap (λ d. cond d (x ∷ filter (λ a. first a && second a) xs) (filter (λ a. first a && second a) xs)) (sym is)
      by false c is rest = rest

-- ---- items that are replaced

module _ {X : Type 0} where
  pub replaced_alike : (items : List X) (places : List ℕ) (item other : ℕ → X) → ((k : ℕ) → Member places k → item k ≡ other k) → replaced items places item ≡ replaced items places other
  replaced_alike items [] item other same = refl
  replaced_alike items (place ∷ places) item other same =
      ap (λ a. replaced (slice_set items place a) places item) (same place (inl refl)) ∙ replaced_alike (slice_set items place (other place)) places item other (λ k m. same k (inr m))

-- the edge that a line has
pub own_edge : (xs : List (Option ℕ)) (k : ℕ) → k < length xs → slice_set xs k (joined (slice_get xs k)) ≡ xs
own_edge [] k low = absurd (omega (arith, low))
own_edge (x ∷ xs) zero low = refl
own_edge (x ∷ xs) (suc k) low = ap (λ ys. x ∷ ys) (own_edge xs k (omega (arith, low)))
