-- Lists that have the same at a place, and in which the items at some places are replaced.
use Rattle.std.proofs.Common.{◌≡◌, ◌⊎◌, inl, inr, ℕ, List, [], ◌∷◌, slice_get, slice_set, sym, ap, ◌∙◌}
use Rattle.list_laws.specs.Member.{Member}
use Rattle.net_board.proofs.ListPlaces.{put, member_or_not}
use Rattle.op_board.specs.OperationTokens.{replaced}
use Rattle.op_board.proofs.ReplacedItems.{replaced_same, replaced_other}

module _ {X : Type 0} where
  -- what two lists have at a place where they have the same, and where both are given the same
  pub replaced_alike : (a b : List X) (places : List ℕ) (item other : ℕ → X) (k : ℕ) → slice_get a k ≡ slice_get b k → (Member places k → item k ≡ other k) → slice_get (replaced a places item) k ≡ slice_get (replaced b places other) k
  replaced_alike a b places item other k same given = by (member_or_not places k)
    where
      by : Member places k ⊎ (Member places k → ⊥) → slice_get (replaced a places item) k ≡ slice_get (replaced b places other) k
      by (inl m) = replaced_same a places item k m ∙ ap (λ x. put x (slice_get a k)) (given m) ∙ ap (put (other k)) same ∙ sym (replaced_same b places other k m)
      by (inr none) = replaced_other a places item k none ∙ same ∙ sym (replaced_other b places other k none)

  pub replaced_one_alike : (a b : List X) (place : ℕ) (item other : X) (k : ℕ) → slice_get a k ≡ slice_get b k → item ≡ other → slice_get (slice_set a place item) k ≡ slice_get (slice_set b place other) k
  replaced_one_alike a b place item other k same given = replaced_alike a b (place ∷ []) (λ i. item) (λ i. other) k same (λ m. given)
