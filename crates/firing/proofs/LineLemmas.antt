-- Bytes that are put before others, from the end of a buffer.
use Rattle.std.proofs.Common.{◌≡◌, ℕ, ◌+◌, ◌<◌, ◌≤◌, ◌^◌, ◌++◌, List, [], ◌∷◌, length, take, drop, set, ap, ◌∙◌, arith}
use Rattle.std.specs.Fmt.{decimal}
use Rattle.std.proofs.lemmas.Fmt.{length-decimal-le}
use Rattle.std.proofs.lemmas.List.{drop-set, drop_all, drop_at, drop-drop, length-take-le}
use borrow.Rule.Slice.PartMut.{put_mid, post_of}

pub digits_at_most_ten : (n : ℕ) → n < 2 ^ 32 → length (decimal n) ≤ 10
digits_at_most_ten n fits = length-decimal-le 10 n (omega arith) (omega arith) (omega arith)

-- the last byte of a buffer
pub drop-set_last : (bytes : List ℕ) (i byte : ℕ) → length bytes ≡ i + 1 → drop i (set bytes i byte) ≡ byte ∷ []
drop-set_last bytes i byte long = drop-set bytes i byte (omega (arith, long)) ∙ ap (λ rest. byte ∷ rest) (drop_all (i + 1) bytes (omega (arith, long)))

-- what stands from a part on that was replaced
pub drop-put_mid_here : (bytes part : List ℕ) (start many : ℕ) → start ≤ length bytes → drop start (put_mid start many bytes part) ≡ part ++ drop (start + many) bytes
drop-put_mid_here bytes part start many within = drop_at (take start bytes) (part ++ post_of start many bytes) start (length-take-le start bytes within) ∙ ap (λ rest. part ++ rest) (drop-drop many start bytes)
