-- Lines of names, one after another.
use Rattle.std.proofs.Common.{◌≡◌, ℕ, ◌+◌, ◌<◌, List, ◌++◌, Option, Result, Ok, Err, OnOk, length, get_or, take, sym, ap, subst, append_assoc}
use Rattle.std.specs.Prelude.{codes}
use Rattle.layout_rules.proofs.FlatParts.{flat_map_taken}
use Rattle.view_output.specs.Told.{Adds}
use Rattle.view_output.proofs.Pieces.{and_then}
use Rattle.copied_names.specs.declared.copied.CopiedName.{CopiedName}
use Rattle.copied_names.specs.WrittenNames.{name_text, names_text, new_text}

-- one line more
pub line-more : (names : List CopiedName) (i : ℕ) (name : CopiedName) (a b c : Option (List ℕ)) → i < length names → name ≡ get_or names i name → Adds a b (names_text (take i names)) → Adds b c (name_text name) → Adds a c (names_text (take (i + 1) names))
line-more names i name a b c inside is before line = subst (Adds a c) (sym (flat_map_taken name_text names i name inside is)) (and_then before line)

-- the parts of a line
line-of : (name : CopiedName) (a b c d : Option (List ℕ)) → Adds a b (name.unit ++ codes " ") → Adds b c (name.name ++ codes " ") → Adds c d (new_text name.becomes) → Adds a d (name_text name)
line-of name a b c d unit own new =
    let all : Adds a d (((name.unit ++ codes " ") ++ (name.name ++ codes " ")) ++ new_text name.becomes) = and_then (and_then unit own) new in
    subst (Adds a d) (ap (λ (text : List ℕ). text ++ new_text name.becomes) (sym (append_assoc (name.unit ++ codes " ") name.name (codes " ")))) all

-- the same where the last part may fail
pub line-last : {R E : Type 0} (name : CopiedName) (a b c d : Option (List ℕ)) (result : Result R E) → Adds a b (name.unit ++ codes " ") → Adds b c (name.name ++ codes " ") → OnOk result (Adds c d (new_text name.becomes)) → OnOk result (Adds a d (name_text name))
line-last name a b c d (Ok r) unit own new = line-of name a b c d unit own new
line-last name a b c d (Err fault) unit own new = tt
