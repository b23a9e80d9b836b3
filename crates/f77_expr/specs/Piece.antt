-- The piece of a text that is read as an expression, and how deep its brackets are.
use Rattle.std.specs.Prelude.{ℕ, suc, ◌-◌, Bool, false, not, ◌&&◌, ◌||◌, ◌==◌, if◌then◌else◌, max, List, [], ◌∷◌}

-- what is open where a scan stands: a character constant or none, and how many brackets
pub record Open : Type 0 where
  pub quoted : Bool
  pub brackets : ℕ

-- nothing is open
abbrev pub nothing_open : Open
nothing_open = record { quoted = false; brackets = 0 }

-- what is open after a character; a closing bracket where none is open changes nothing
abbrev pub open_after : Open → ℕ → Open
open_after open_now c =
    if c == 39 then record { quoted = not open_now.quoted; brackets = open_now.brackets }
    else (if open_now.quoted then open_now
    else (if c == 40 then record { quoted = false; brackets = suc open_now.brackets }
    else (if c == 41 then record { quoted = false; brackets = open_now.brackets - 1 }
    else open_now)))

-- a comma, a closing bracket, an equals sign or a colon, where nothing is open
abbrev pub ends_piece : Open → ℕ → Bool
ends_piece open_now c = not open_now.quoted && (open_now.brackets == 0) && (c == 44 || c == 41 || c == 61 || c == 58)

-- what stands before the first character that ends the piece
abbrev pub piece_from : Open → List ℕ → List ℕ
piece_from open_now [] = []
piece_from open_now (c ∷ more) = if ends_piece open_now c then [] else (c ∷ piece_from (open_after open_now c) more)

abbrev pub piece : List ℕ → List ℕ
piece text = piece_from nothing_open text

-- the greatest number of open brackets
abbrev pub deepest_from : Open → List ℕ → ℕ
deepest_from open_now [] = open_now.brackets
deepest_from open_now (c ∷ more) = max open_now.brackets (deepest_from (open_after open_now c) more)

abbrev pub bracket_depth : List ℕ → ℕ
bracket_depth text = deepest_from nothing_open text

-- the most brackets that may be open
abbrev pub deepest_allowed : ℕ
deepest_allowed = 60
