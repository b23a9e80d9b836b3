-- Names are texts of ASCII.
use Rattle.std.proofs.Common.{◌≡◌, ◌<◌, ◌||◌, ℕ, zero, suc, true, List, [], ◌∷◌, arith, IsTrue}
use Rattle.std.specs.Prelude.{IsUtf8, slice_index}
use Rattle.std.specs.List.{list_all}
use Rattle.std.proofs.lemmas.Str.{IsUtf8-from_ascii}
use Rattle.f77_tree.specs.Name.{is_name, is_capital, is_figure}

below : (name : List ℕ) → list_all (λ b. is_capital b || is_figure b) name ≡ true → (i : ℕ) → slice_index name i < 128
below [] all i = omega arith
below (b ∷ rest) all zero = grind arith
below (b ∷ rest) all (suc i) = below rest (grind arith) i

pub names_are_texts : (name : List ℕ) → IsTrue (is_name name) → IsUtf8 name
names_are_texts name is = IsUtf8-from_ascii name (below name (grind arith))
