-- The names of an expression: its own name, and those of its parts.
use Rattle.std.proofs.Common.{◌≡◌, ℕ, ◌+◌, ◌<◌, ◌≤◌, get_or, map, add-one, Bool, ◌⊎◌, ⊎_elim, List, [], ◌∷◌, ◌++◌, length, take, fold, refl, ap, sym, ◌∙◌}
use Rattle.std.proofs.Math.Seq.{take-suc}
use Rattle.std.proofs.lemmas.List.{take_all, flat_map_more, map-append}
use Rattle.std.proofs.lemmas.List.Sums.{fold-append}
use Rattle.std.specs.Prelude.{flat_map}
use mathlib.Core.Former.{Count}
use Rattle.op_table.specs.declared.Op.{Op}
use Rattle.f77_tree.specs.declared.statements.RawExpr.{RawExpr, Call, Call', Apply, Apply', Row_of-RawExpr, end_of-RawExpr, more_of-RawExpr, items-the_row-RawExpr, items_hidden-the_row-RawExpr-0}
use Rattle.layout_rules.specs.Appearances.{names_in, names_in_row, called_name, own_names}

names_in_row-items : (arrays : List ℕ → Bool) (n : _) (row : Row_of-RawExpr n) → names_in_row arrays row ≡ flat_map (names_in arrays) (items-the_row-RawExpr n row)
names_in_row-items arrays n end_of-RawExpr = refl
names_in_row-items arrays n (more_of-RawExpr e rest) = ap (λ names. names_in arrays e ++ names) (names_in_row-items arrays _ rest)

abbrev row_of : RawExpr → (n : Count) × Row_of-RawExpr n
row_of (Call' _ _ row) = (_, row)
row_of (Apply' _ _ row) = (_, row)
row_of _ = (_, end_of-RawExpr)

pub names_in-Call : (arrays : List ℕ → Bool) (name : List ℕ) (args : List RawExpr) → names_in arrays (Call name args) ≡ called_name arrays name ++ flat_map (names_in arrays) args
names_in-Call arrays name args =
    let row = row_of (Call name args) in
    ap (λ names. called_name arrays name ++ names) (names_in_row-items arrays row.0 row.1 ∙ ap (flat_map (names_in arrays)) (items_hidden-the_row-RawExpr-0 args))

pub names_in-Apply : (arrays : List ℕ → Bool) (op : Op) (args : List RawExpr) → names_in arrays (Apply op args) ≡ flat_map (names_in arrays) args
names_in-Apply arrays op args =
    let row = row_of (Apply op args) in
    names_in_row-items arrays row.0 row.1 ∙ ap (flat_map (names_in arrays)) (items_hidden-the_row-RawExpr-0 args)

pub names_in-parts : (arrays : List ℕ → Bool) (e : RawExpr) (args : List RawExpr) → ((name : List ℕ) × (e ≡ Call name args)) ⊎ ((op : Op) × (e ≡ Apply op args)) → names_in arrays e ≡ own_names arrays e ++ flat_map (names_in arrays) args
names_in-parts arrays e args is =
    ⊎_elim
    (λ (h : (name : List ℕ) × (e ≡ Call name args)). ap (names_in arrays) h.1 ∙ names_in-Call arrays h.0 args ∙ ap (λ (x : RawExpr). own_names arrays x ++ flat_map (names_in arrays) args) (sym h.1))
    (λ (h : (op : Op) × (e ≡ Apply op args)). ap (names_in arrays) h.1 ∙ names_in-Apply arrays h.0 args ∙ ap (λ (x : RawExpr). own_names arrays x ++ flat_map (names_in arrays) args) (sym h.1))
    is

-- what is done with some names and then with those of each item
pub noted_parts : {A X S : Type 0} (note : S → A → S) (names : X → List A) (start middle : S) (own : List A) (items : List X) (i : ℕ) → middle ≡ fold note start own → length items ≤ i
    → fold note middle (flat_map names (take i items)) ≡ fold note start (own ++ flat_map names items)
noted_parts note names start middle own items i is le =
    ap (λ xs. fold note middle (flat_map names xs)) (take_all i items le)
    ∙ ap (λ s. fold note s (flat_map names items)) is
    ∙ sym (fold-append note start own (flat_map names items))

-- one item more
pub noted_more : {A X S : Type 0} (note : S → A → S) (name : X → A) (start : S) (items : List X) (i : ℕ) (x : X) → i < length items → x ≡ get_or items i x
    → note (fold note start (map name (take i items))) (name x) ≡ fold note start (map name (take (i + 1) items))
noted_more note name start items i x lt is =
    let more : take (i + 1) items ≡ take i items ++ x ∷ [] = rw (add-one, take-suc items i x lt, ← is) refl in
    sym (fold-append note start (map name (take i items)) (name x ∷ [])) ∙ ap (fold note start) (sym (map-append name (take i items) (x ∷ [])) ∙ ap (map name) (sym more))

-- the names of one item more
pub noted_flat_more : {A X S : Type 0} (note : S → A → S) (names : X → List A) (start : S) (items : List X) (i : ℕ) (x : X) → i < length items → x ≡ get_or items i x
    → fold note (fold note start (flat_map names (take i items))) (names x) ≡ fold note start (flat_map names (take (i + 1) items))
noted_flat_more note names start items i x lt is =
    let more : take (i + 1) items ≡ take i items ++ x ∷ [] = rw (add-one, take-suc items i x lt, ← is) refl in
    sym (fold-append note start (flat_map names (take i items)) (names x)) ∙ ap (fold note start) (flat_map_more names [] (take i items) x ∙ ap (flat_map names) (sym more))
