-- One call of a source or a sink in memory.
use Rattle.std.proofs.Common.{◌≡◌, ℕ, ◌+◌, ◌-◌, ◌≤◌, List, [], ◌∷◌, ◌++◌, length, take, drop, refl, sym, ap, ◌∙◌, arith, length-append, length-drop, take-append-drop}
use Rattle.std.proofs.Math.Seq.{take-append_seam}
use Rattle.std.proofs.lemmas.List.{drop-drop, length-take-le}

empty : (l : List ℕ) → length l ≡ 0 → l ≡ []
empty [] e = refl
empty (x ∷ xs) e = absurd (omega arith)

drop-all : (n : ℕ) (l : List ℕ) → length l ≤ n → drop n l ≡ []
drop-all n l h = empty (drop n l) (omega (arith, length-drop n l))

-- what was copied to the beginning of the room, and then what is left
pub read_taken : (bytes whole into copied : List ℕ) (at n : ℕ) → whole ≡ bytes → copied ≡ take (at + n - at) (drop at whole) → at + n ≤ length bytes → drop at bytes ≡ take n (copied ++ drop n into) ++ drop (at + n) bytes
read_taken bytes whole into copied at n same is within =
    let count : at + n - at ≡ n = omega arith in
    let prefix : copied ≡ take n (drop at bytes) = is ∙ ap (λ m. take m (drop at whole)) count ∙ ap (λ l. take n (drop at l)) same in
    let room : n ≤ length (drop at bytes) = omega (arith, length-drop at bytes) in
    let long : length copied ≡ n = ap length prefix ∙ length-take-le n (drop at bytes) room in
    let first : take n (copied ++ drop n into) ≡ copied = ap (λ m. take m (copied ++ drop n into)) (sym long) ∙ take-append_seam copied (drop n into) in
    sym (ap (λ l. l ++ drop (at + n) bytes) (first ∙ prefix) ∙ ap (λ l. take n (drop at bytes) ++ l) (sym (drop-drop n at bytes)) ∙ take-append-drop n (drop at bytes))

-- nothing is left where a call with room took nothing
pub read_end : (bytes : List ℕ) (at n : ℕ) → length bytes ≤ at + n → drop (at + n) bytes ≡ []
read_end bytes at n h = drop-all (at + n) bytes h

-- a copy to the beginning of the room keeps its length
pub length-filled : (into copied : List ℕ) (n : ℕ) → length copied ≡ length (take n into) → length (copied ++ drop n into) ≡ length into
length-filled into copied n e = length-append copied (drop n into) ∙ ap (λ m. m + length (drop n into)) e ∙ sym (length-append (take n into) (drop n into)) ∙ ap length (take-append-drop n into)
