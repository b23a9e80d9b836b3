-- One read or one write more.
use Rattle.std.proofs.Common.{◌≡◌, ℕ, ◌+◌, ◌≤◌, List, ◌++◌, length, take, drop, Option, sym, subst, ◌∙◌, ap, refl, arith, length-append, length-drop, ◌-◌}
use Rattle.std.proofs.Math.Seq.{take-add, take-length}
use Rattle.std.proofs.lemmas.List.{length-take-le}
use Rattle.std.proofs.KnownBytes.{Appends-trans, Consumes-trans}
use Rattle.std.specs.Io.KnownBytes.{Appends, Consumes}
use Rattle.df_io.specs.Read.{Takes, TakesAtMost}

pub Takes-more : (a b c : Option (List ℕ)) (xs buf : List ℕ) (n k : ℕ) → Consumes a b xs → Consumes b c (take n buf) → n ≤ length buf → length xs + n ≡ k → Takes a c k
Takes-more a b c xs buf n k before now within count = record {
  bytes = xs ++ take n buf;
  taken = Consumes-trans a b c xs (take n buf) before now;
  count = length-append xs (take n buf) ∙ ap (λ m. length xs + m) (length-take-le n buf within) ∙ count;
}

pub TakesAtMost-more : (a b c : Option (List ℕ)) (xs buf : List ℕ) (n k : ℕ) → Consumes a b xs → Consumes b c (take n buf) → n ≤ length buf → length xs + n ≤ k → TakesAtMost a c k
TakesAtMost-more a b c xs buf n k before now within count =
    let all = Takes-more a b c xs buf n (length xs + n) before now within refl in
    record { bytes = all.bytes; taken = all.taken; count = omega (arith, all.count) }

-- what follows the first i bytes, as the slice from i on has it
rest_of : (bytes : List ℕ) (i : ℕ) → take (length bytes - i) (drop i bytes) ≡ drop i bytes
rest_of bytes i = ap (λ n. take n (drop i bytes)) (sym (length-drop i bytes)) ∙ take-length (drop i bytes)

pub Appends-more : (a b c : Option (List ℕ)) (bytes : List ℕ) (i n : ℕ) → Appends a b (take i bytes) → Appends b c (take n (take (length bytes - i) (drop i bytes))) → Appends a c (take (i + n) bytes)
Appends-more a b c bytes i n before now =
    let added : Appends b c (take n (drop i bytes)) = subst (λ (rest : List ℕ). Appends b c (take n rest)) (rest_of bytes i) now in
    subst (Appends a c) (sym (take-add i n bytes)) (Appends-trans a b c (take i bytes) (take n (drop i bytes)) before added)
