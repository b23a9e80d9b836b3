-- Lists of words that are paired one by one, and constants beside them.
use Rattle.std.proofs.Common.{◌≡◌, ℕ, zero, suc, ◌+◌, ◌<◌, inl, inr, Bool, true, false, ◌||◌, List, [], ◌∷◌, ◌++◌, length, flat_map, Some, None, cond, find, refl, sym, ap, subst, ◌∙◌, arith}
use Rattle.std.specs.Prelude.{zip}
use Rattle.std.specs.List.{list_any}
use Rattle.list_laws.specs.Member.{Member}
use Rattle.f77_tree.specs.InitialWords.{words_from}

module _ (R : ℕ → ℕ → Type 0) where
  abbrev pub AreZipped : List ℕ → List ℕ → Type 0
  AreZipped [] [] = Unit {0}
  AreZipped [] (w ∷ ws) = ⊥
  AreZipped (v ∷ vs) [] = ⊥
  AreZipped (v ∷ vs) (w ∷ ws) = R v w × AreZipped vs ws

  pub zipped-append : (vs ws more others : List ℕ) → AreZipped vs ws → AreZipped more others → AreZipped (vs ++ more) (ws ++ others)
  zipped-append [] [] more others zipped rest = rest
  zipped-append [] (w ∷ ws) more others zipped rest = absurd zipped
  zipped-append (v ∷ vs) [] more others zipped rest = absurd zipped
  zipped-append (v ∷ vs) (w ∷ ws) more others zipped rest = (zipped.0, zipped-append vs ws more others zipped.1 rest)

  pub zipped-length : (vs ws : List ℕ) → AreZipped vs ws → length vs ≡ length ws
  zipped-length [] [] zipped = refl
  zipped-length [] (w ∷ ws) zipped = absurd zipped
  zipped-length (v ∷ vs) [] zipped = absurd zipped
  zipped-length (v ∷ vs) (w ∷ ws) zipped = ap suc (zipped-length vs ws zipped.1)

  pub zipped-from : (a b n : ℕ) → ((i : ℕ) → i < n → R (a + i) (b + i)) → AreZipped (words_from a n) (words_from b n)
  zipped-from a b zero each = tt
  zipped-from a b (suc n) each =
      let none_a : a + 0 ≡ a = omega arith in
      let none_b : b + 0 ≡ b = omega arith in
      let first : R a b = subst (λ (w : ℕ). R a w) none_b (subst (λ (v : ℕ). R v (b + 0)) none_a (each 0 (omega arith))) in (
        first,
        zipped-from (suc a) (suc b) n
            (λ i less.
            let next_a : a + suc i ≡ suc a + i = omega arith in
            let next_b : b + suc i ≡ suc b + i = omega arith in
            subst (λ (w : ℕ). R (suc a + i) w) next_b (subst (λ (v : ℕ). R v (b + suc i)) next_a (each (suc i) (omega (arith, less))))),
      )

  module _ {C : Type 0} where
    -- the word beside it, in the other list, with the same constant
    pub record HasOther (ws : List ℕ) (cs : List C) (v : ℕ) (c : C) : Type 0 where
      pub word : ℕ
      pub paired : R v word
      pub among : Member (zip ws cs) (word, c)

    pub there : (vs ws : List ℕ) (cs : List C) → AreZipped vs ws → (v : ℕ) (c : C) → Member (zip vs cs) (v, c) → HasOther ws cs v c
    there [] ws cs zipped v c m = absurd m
    there (a ∷ vs) [] cs zipped v c m = absurd zipped
    there (a ∷ vs) (b ∷ ws) [] zipped v c m = absurd m
    there (a ∷ vs) (b ∷ ws) (d ∷ cs) zipped v c (inl same) =
        let word : a ≡ v = ap (λ (p : ℕ × C). p.0) same in
        let constant : d ≡ c = ap (λ (p : ℕ × C). p.1) same in
        record { word = b; paired = subst (λ (u : ℕ). R u b) word zipped.0; among = inl (ap (λ (z : C). (b, z)) constant) }
    there (a ∷ vs) (b ∷ ws) (d ∷ cs) zipped v c (inr m) =
        let more = there vs ws cs zipped.1 v c m in
        record { word = more.word; paired = more.paired; among = inr more.among }

    pub record HasOne (vs : List ℕ) (cs : List C) (w : ℕ) (c : C) : Type 0 where
      pub word : ℕ
      pub paired : R word w
      pub among : Member (zip vs cs) (word, c)

    pub back : (vs ws : List ℕ) (cs : List C) → AreZipped vs ws → (w : ℕ) (c : C) → Member (zip ws cs) (w, c) → HasOne vs cs w c
    back vs [] cs zipped w c m = absurd m
    back [] (b ∷ ws) cs zipped w c m = absurd zipped
    back (a ∷ vs) (b ∷ ws) [] zipped w c m = absurd m
    back (a ∷ vs) (b ∷ ws) (d ∷ cs) zipped w c (inl same) =
        let word : b ≡ w = ap (λ (p : ℕ × C). p.0) same in
        let constant : d ≡ c = ap (λ (p : ℕ × C). p.1) same in
        record { word = a; paired = subst (λ (u : ℕ). R a u) word zipped.0; among = inl (ap (λ (z : C). (a, z)) constant) }
    back (a ∷ vs) (b ∷ ws) (d ∷ cs) zipped w c (inr m) =
        let more = back vs ws cs zipped.1 w c m in
        record { word = more.word; paired = more.paired; among = inr more.among }

-- ---- lists of parts

module _ {A C : Type 0} where
  zip-append : (xs ys : List A) (as_here bs : List C) → length xs ≡ length as_here → zip (xs ++ ys) (as_here ++ bs) ≡ zip xs as_here ++ zip ys bs
  zip-append [] ys [] bs same = refl
  zip-append [] ys (a ∷ as_here) bs same = absurd (omega (arith, same))
  zip-append (x ∷ xs) ys [] bs same = absurd (omega (arith, same))
  zip-append (x ∷ xs) ys (a ∷ as_here) bs same = ap (λ (ps : List (A × C)). (x, a) ∷ ps) (zip-append xs ys as_here bs (omega (arith, same)))

  pub zip-flat : {P : Type 0} (f : P → List A) (g : P → List C) (parts : List P) → ((p : P) → Member parts p → length (f p) ≡ length (g p)) → zip (flat_map f parts) (flat_map g parts) ≡ flat_map (λ p. zip (f p) (g p)) parts
  zip-flat f g [] same = refl
  zip-flat f g (p ∷ parts) same =
      zip-append (f p) (flat_map f parts) (g p) (flat_map g parts) (same p (inl refl))
      ∙ ap (λ (ps : List (A × C)). zip (f p) (g p) ++ ps) (zip-flat f g parts (λ q m. same q (inr m)))

-- ---- what is found

pub record IsFoundIn {X : Type 0} (test : X → Bool) (xs : List X) (x : X) : Type 0 where
  pub among : Member xs x
  pub passes : test x ≡ true

pub found-there : {X : Type 0} (test : X → Bool) (xs : List X) (x : X) → find test xs ≡ Some x → IsFoundIn test xs x
found-there test [] x is = let e : None ≡ Some x = is in absurd cc
found-there test (y ∷ xs) x is = by (test y) refl is (found-there test xs x)
  where
    by : (b : Bool) → test y ≡ b → cond b (Some y) (find test xs) ≡ Some x → (find test xs ≡ Some x → IsFoundIn test xs x) → IsFoundIn test (y ∷ xs) x
    by true passes here more =
        let e : Some y ≡ Some x = here in
        let same : y ≡ x = cc in
        record { among = inl same; passes = ap test (sym same) ∙ passes }
    by false other here more = let r = more here in record { among = inr r.among; passes = r.passes }

pub found-none : {X : Type 0} (test : X → Bool) (xs : List X) → find test xs ≡ None → list_any test xs ≡ false
found-none test [] is = refl
found-none test (y ∷ xs) is = by (test y) is (found-none test xs)
  where
    by : (b : Bool) → cond b (Some y) (find test xs) ≡ None → (find test xs ≡ None → list_any test xs ≡ false) → (b || list_any test xs) ≡ false
    by true here more = let e : Some y ≡ None = here in absurd cc
    by false here more = more here
