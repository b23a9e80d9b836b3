-- Behind the last set of a list there is none.
use Rattle.std.proofs.Common.{◌≡◌, ◌≤◌, ℕ, false, ap}
use Rattle.std.proofs.lemmas.Option.{slice_get_past}
use Rattle.set_lists.specs.declared.lists.SetList.{SetList}
use Rattle.set_lists.specs.Kept.{test_by}
use Rattle.set_lists.specs.Sets.{set_count, test_at}

pub test_past : {W : ℕ} (sets : SetList W) (i k : ℕ) → set_count sets ≤ i → test_at sets i k ≡ false
unfolding test_at
test_past sets i k past = ap (λ o. test_by sets.shared.items o k) (slice_get_past sets.items.items i past)
