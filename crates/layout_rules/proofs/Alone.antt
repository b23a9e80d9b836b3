-- Names that are each alone in a storage.
use Rattle.std.proofs.Common.{◌≡◌, ℕ, ◌<◌, pos, length, ap, ◌∙◌, arith}
use Rattle.std.proofs.lemmas.List.FromFn.{length-map-range_with_len, get_or-map-range_with_len}
use Rattle.layout_rules.specs.Storage.{Spot, spot_at, alone}
use Rattle.layout_rules.specs.Spots.{storage_at, distance_at}
use Rattle.layout_rules.proofs.Linking.{spot_at-get}

abbrev pub alone_at : ℕ → Spot
alone_at k = record { storage = k; distance = pos 0 }

pub length-alone : (n : ℕ) → length (alone n) ≡ n
length-alone n = length-map-range_with_len alone_at 0 n

pub spot_at-alone : (n k : ℕ) → k < n → spot_at (alone n) k ≡ alone_at k
spot_at-alone n k lt = spot_at-get (alone n) k (alone_at k) (omega (arith, length-alone n)) ∙ get_or-map-range_with_len alone_at 0 n k k (alone_at k) lt (omega arith)

pub storage-alone : (n x : ℕ) → x < n → storage_at (alone n) x ≡ x
storage-alone n x lt = ap (λ (s : Spot). s.storage) (spot_at-alone n x lt)

pub distance-alone : (n x : ℕ) → x < n → distance_at (alone n) x ≡ pos 0
distance-alone n x lt = ap (λ (s : Spot). s.distance) (spot_at-alone n x lt)
