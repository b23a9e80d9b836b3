-- What the writer below a buffer has.
use Rattle.std.proofs.Common.{◌≡◌, ℕ, List, [], ◌++◌, length, take, Option, None, Some, sym, ap, ◌∙◌, append-nil}
use Rattle.std.proofs.Math.Seq.{take-append_seam}
use Rattle.std.specs.Io.KnownBytes.{Keeps, append_known}
use Rattle.df_io.specs.Write.{KeepsFirst}

-- all but what is held
pub first_below : (known below : Option (List ℕ)) (held : List ℕ) → Keeps known (append_known below held) → KeepsFirst known below
first_below None below held kept = tt
first_below (Some xs) None held kept = absurd kept
first_below (Some xs) (Some ys) held kept = ap (take (length ys)) (sym kept) ∙ take-append_seam ys held

-- all, where nothing is held
pub all_below : (known below : Option (List ℕ)) (held : List ℕ) → held ≡ [] → Keeps known (append_known below held) → Keeps known below
all_below None below held none kept = tt
all_below (Some xs) None held none kept = absurd kept
all_below (Some xs) (Some ys) held none kept = sym (ap (λ l. ys ++ l) none ∙ append-nil ys) ∙ kept
