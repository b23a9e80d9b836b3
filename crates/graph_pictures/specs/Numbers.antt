-- What is told by number.
use Rattle.std.specs.Prelude.{ℕ, zero, suc, List, [], ◌∷◌, ◌++◌, ◌==◌, if◌then◌else◌, nat_lt, Option, Some, None}

-- the texts of the numbers below `count`, one after another
abbrev pub numbered : (text : ℕ → List ℕ) → (count : ℕ) → List ℕ
numbered text zero = []
numbered text (suc k) = numbered text k ++ text k

-- the text of what there is, if anything
abbrev pub if_there : {A : Type 0} → (A → List ℕ) → Option A → List ℕ
if_there text None = []
if_there text (Some x) = text x

-- the places of a number in a list, which are counted from k
abbrev pub places_from : (k n : ℕ) → List ℕ → List ℕ
places_from k n [] = []
places_from k n (x ∷ xs) = if x == n then k ∷ places_from (suc k) n xs else places_from (suc k) n xs

-- those of a number below `count`, and else none
abbrev pub places_of : (count k n : ℕ) → List ℕ → List ℕ
places_of count k n xs = if nat_lt n count then places_from k n xs else []
