-- The numbers of a range that pass a test, by how many of those before each one do.
use Rattle.std.proofs.Common.{◌≡◌, ◌<◌, ℕ, zero, suc, ◌+◌, Bool, true, false, cond, ◌∷◌, length, filter, Some, None, slice_get, refl, sym, ap, ◌∙◌, subst, arith}
use Rattle.std.specs.List.{range_with_len}

-- a number of the range that passes, and so many before it do
pub record IsFiltered (test : ℕ → Bool) (a n c i : ℕ) : Type 0 where
  pub more : ℕ
  pub is : a + more ≡ i
  pub below : more < n
  pub passes : test i ≡ true
  pub before : length (filter test (range_with_len a more)) ≡ c

abbrev one_more : Bool → ℕ → ℕ
one_more true n = suc n
one_more false n = n

later : (test : ℕ → Bool) (a n c i : ℕ) (b : Bool) → test a ≡ b → IsFiltered test (a + 1) n c i → IsFiltered test a (suc n) (one_more b c) i
later test a n c i b at r =
    let is = r.is in
    let below = r.below in
    record {
      more = suc r.more;
      is = omega (arith, is);
      below = omega (arith, below);
      passes = r.passes;
      before = ap (λ t. length (cond t (a ∷ filter test (range_with_len (a + 1) r.more)) (filter test (range_with_len (a + 1) r.more)))) at ∙ by b;
    }
  where
    by : (b : Bool) → length (cond b (a ∷ filter test (range_with_len (a + 1) r.more)) (filter test (range_with_len (a + 1) r.more))) ≡ one_more b c
    by true = ap suc r.before
    by false = r.before

pub filtered : (test : ℕ → Bool) (a n c i : ℕ) → slice_get (filter test (range_with_len a n)) c ≡ Some i → IsFiltered test a n c i
filtered test a zero c i at = let e : None ≡ Some i = at in absurd cc
filtered test a (suc n) c i at = by (λ c at. filtered test (a + 1) n c i at) (test a) refl c at
  where
    by : ((c : ℕ) → slice_get (filter test (range_with_len (a + 1) n)) c ≡ Some i → IsFiltered test (a + 1) n c i) → (b : Bool) → test a ≡ b → (c : ℕ)
        → slice_get (cond b (a ∷ filter test (range_with_len (a + 1) n)) (filter test (range_with_len (a + 1) n))) c ≡ Some i → IsFiltered test a (suc n) c i
    by rest true is zero at = let e : a ≡ i = cc in record { more = 0; is = omega (arith, e); below = omega arith; passes = subst (λ k. test k ≡ true) e is; before = refl }
    by rest true is (suc c) at = later test a n c i true is (rest c at)
    by rest false is c at = later test a n c i false is (rest c at)

pub is_filtered : (test : ℕ → Bool) (a n d : ℕ) → d < n → test (a + d) ≡ true → slice_get (filter test (range_with_len a n)) (length (filter test (range_with_len a d))) ≡ Some (a + d)
is_filtered test a zero d below passes = absurd (omega (arith, below))
is_filtered test a (suc n) zero below passes =
    let e : a + 0 ≡ a = omega arith in
    ap (λ b. slice_get (cond b (a ∷ filter test (range_with_len (a + 1) n)) (filter test (range_with_len (a + 1) n))) 0) (subst (λ k. test k ≡ true) e passes) ∙ ap (λ k. Some k) (sym e)
is_filtered test a (suc n) (suc d) below passes =
    let e : a + 1 + d ≡ a + suc d = omega arith in
    by (test a) ∙ is_filtered test (a + 1) n d (omega (arith, below)) (subst (λ k. test k ≡ true) (sym e) passes) ∙ ap (λ k. Some k) e
  where
    by : (b : Bool) → slice_get (cond b (a ∷ filter test (range_with_len (a + 1) n)) (filter test (range_with_len (a + 1) n))) (length (cond b (a ∷ filter test (range_with_len (a + 1) d)) (filter test (range_with_len (a + 1) d))))
        ≡ slice_get (filter test (range_with_len (a + 1) n)) (length (filter test (range_with_len (a + 1) d)))
    by true = refl
    by false = refl
