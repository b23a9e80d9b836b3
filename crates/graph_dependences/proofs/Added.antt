-- Lists to which things are added bit by bit.
use Rattle.std.proofs.Common.{◌≡◌, ◌<◌, ◌≤◌, ◌+◌, ◌⊎◌, inl, inr, ⊎_elim, ℕ, List, [], Contains, Some, arith, length, refl, slice_get, slice_index_or, sym, subst}
use Rattle.std.proofs.lemmas.Bool.{cases_lt}
use Rattle.std.proofs.lemmas.Option.{slice_get-get_or, slice_get_read}
use Rattle.graph_dependences.specs.Added.{Adds, Below}

module _ {X : Type 0} where
  pub Adds-none : (xs : List X) (P : ℕ → X → Type 0) → Adds xs xs (Below P 0)
  unfolding Below
  Adds-none xs P = record {
    kept = λ x h. h;
    told = λ x h. inl h;
    all = λ x h. absurd (omega (arith, h.1));
  }

  pub Adds-more : (xs ys zs : List X) (P : ℕ → X → Type 0) (k : ℕ) → Adds xs ys (Below P k) → Adds ys zs (P k) → Adds xs zs (Below P (k + 1))
  unfolding Below
  Adds-more xs ys zs P k a b = record {
    kept = λ x h. b.kept x (a.kept x h);
    told = λ x h. ⊎_elim (λ (old : Contains ys x). ⊎_elim (λ (older : Contains xs x). inl older) (λ (p : Below P k x). inr (p.0, omega (arith, p.1), p.2)) (a.told x old)) (λ (new : P k x). inr (k, omega arith, new)) (b.told x h);
    all = λ x h. ⊎_elim (λ (less : h.0 < k). b.kept x (a.all x (h.0, less, h.2))) (λ (same : k ≤ h.0). b.all x (subst (λ i. P i x) (omega (arith, same, h.1)) h.2)) (cases_lt h.0 k);
  }

  pub Adds-both : (xs ys zs : List X) (P Q : X → Type 0) → Adds xs ys P → Adds ys zs Q → Adds xs zs (λ x. P x ⊎ Q x)
  Adds-both xs ys zs P Q a b = record {
    kept = λ x h. b.kept x (a.kept x h);
    told = λ x h. ⊎_elim (λ (old : Contains ys x). ⊎_elim (λ (older : Contains xs x). inl older) (λ (p : P x). inr (inl p)) (a.told x old)) (λ (new : Q x). inr (inr new)) (b.told x h);
    all = λ x h. ⊎_elim (λ (p : P x). b.kept x (a.all x p)) (λ (q : Q x). b.all x q) h;
  }

  pub Adds-told : (xs : List X) (P : X → Type 0) → Adds [] xs P → (x : X) → Contains xs x → P x
  Adds-told xs P a x h = ⊎_elim (λ (none : Contains [] x). absurd (omega (arith, none.1))) (λ (p : P x). p) (a.told x h)

  pub Adds-nothing : (xs : List X) (P : X → Type 0) → ((x : X) → P x → ⊥) → Adds xs xs P
  Adds-nothing xs P never = record {
    kept = λ y k. k;
    told = λ y k. inl k;
    all = λ y p. absurd (never y p);
  }

  -- the same things, said otherwise
  pub Adds-as : (xs ys : List X) (P Q : X → Type 0) → ((x : X) → P x → Q x) → ((x : X) → Q x → P x) → Adds xs ys P → Adds xs ys Q
  Adds-as xs ys P Q forth back a = record {
    kept = a.kept;
    told = λ x h. ⊎_elim (λ (old : Contains xs x). inl old) (λ (p : P x). inr (forth x p)) (a.told x h);
    all = λ x q. a.all x (back x q);
  }

-- an element of a list
pub item_at : {X : Type 0} (xs ys : List X) (n i : ℕ) (d : X) → ys ≡ xs → n ≡ i → i < length ys → slice_get xs n ≡ Some (slice_index_or ys i d)
item_at xs ys n i d same at low =
    subst (λ zs. slice_get zs n ≡ Some (slice_index_or ys i d)) same (subst (λ m. slice_get ys m ≡ Some (slice_index_or ys i d)) (sym at) (slice_get-get_or ys i d low))

pub item_of : {X : Type 0} (xs ys : List X) (n i : ℕ) (x : X) → ys ≡ xs → n ≡ i → i < length ys → x ≡ slice_index_or ys i x → slice_get xs n ≡ Some x
item_of xs ys n i x same at low is =
    subst (λ zs. slice_get zs n ≡ Some x) same (subst (λ m. slice_get ys m ≡ Some x) (sym at) (slice_get_read ys (length ys) i x refl low is))
