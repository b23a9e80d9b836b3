-- Lines are shown in ASCII.
use Rattle.std.proofs.Common.{◌≡◌, ◌<◌, ℕ, List, [], ◌∷◌, map, refl, arith}
use Rattle.std.specs.Prelude.{encode_utf8_all}
use Rattle.std.proofs.lemmas.Str.{encode_ascii}
use Rattle.shown_lines.specs.Lines.{blanks, shown, shown_character}

below : (c : ℕ) → shown_character c < 128
below c = grind arith

-- each of these characters is a byte
pub shown_is_ascii : (line : List ℕ) → encode_utf8_all (map shown_character line) ≡ shown line
shown_is_ascii [] = refl
shown_is_ascii (c ∷ rest) = rw (encode_ascii (shown_character c) (below c), shown_is_ascii rest) refl

pub blanks_are_ascii : (columns : List ℕ) → encode_utf8_all (map (λ _. 32) columns) ≡ blanks columns
blanks_are_ascii [] = refl
blanks_are_ascii (c ∷ rest) = rw (encode_ascii 32 (omega arith), blanks_are_ascii rest) refl
