-- Changed expressions, by the lists of their operands.
use Rattle.std.proofs.Common.{◌≡◌, ◌≤◌, ◌<◌, ℕ, ◌+◌, ◌∷◌, ◌++◌, length, take, length-take, get_or, arith, Bool, true, not, ◌&&◌, List, [], map, fold, if◌then◌else◌, Option, Some, None, option_map, refl, sym, ap, ◌∙◌}
use Rattle.std.proofs.lemmas.List.{length-map, map-append, take_more}
use Rattle.std.proofs.lemmas.List.Sums.{fold-append}
use mathlib.Core.Former.{Count}
use Rattle.op_table.specs.declared.Op.{Op}
use Rattle.f77_tree.specs.declared.statements.RawExpr.{RawExpr, Call, Call', Apply, Apply', Row_of-RawExpr, end_of-RawExpr, more_of-RawExpr, items-the_row-RawExpr, items_hidden-the_row-RawExpr-0}
use Rattle.declared_names.specs.Functions.{intrinsic_named}
use Rattle.layout_rules.specs.Types.{Intrinsic}
use Rattle.f77_tree.specs.declared.statements.Stmt.{Stmt}
use Rattle.f77_tree.specs.declared.statements.Stmt.TheVariants.{ThenIf}
use Rattle.program_units.specs.Copies.{Change, pairs, intrinsic_or, changed_call, changed, changed_row, changed_stmt}
use Rattle.inlined_copies.specs.Changes.{with_operand}

-- the row after a list of operands, arguments or subscripts
abbrev pub row_of : RawExpr → (n : Count) × Row_of-RawExpr n
row_of (Call' _ _ row) = (_, row)
row_of (Apply' _ _ row) = (_, row)
row_of _ = (_, end_of-RawExpr)

pub changed_row-items : (c : Change) (n : _) (row : Row_of-RawExpr n) → changed_row c row ≡ map (changed c) (items-the_row-RawExpr n row)
changed_row-items c n end_of-RawExpr = refl
changed_row-items c n (more_of-RawExpr e rest) = ap (λ (es : List RawExpr). changed c e ∷ es) (changed_row-items c _ rest)

pub changed-Call : (c : Change) (name : List ℕ) (args : List RawExpr) → changed c (Call name args) ≡ changed_call c name (map (changed c) args)
changed-Call c name args =
    let row = row_of (Call name args) in
    ap (λ (es : List RawExpr). changed_call c name es) (changed_row-items c row.0 row.1 ∙ ap (map (changed c)) (items_hidden-the_row-RawExpr-0 args))

pub changed-Apply : (c : Change) (op : Op) (args : List RawExpr) → changed c (Apply op args) ≡ Apply op (map (changed c) args)
changed-Apply c op args =
    let row = row_of (Apply op args) in
    ap (λ (es : List RawExpr). Apply op es) (changed_row-items c row.0 row.1 ∙ ap (map (changed c)) (items_hidden-the_row-RawExpr-0 args))

-- ---- operands pair by pair

pairs-from : (op : Op) (a b : RawExpr) (rest : List RawExpr) → fold (λ e c. Apply op (e ∷ c ∷ [])) (Apply op (a ∷ b ∷ [])) rest ≡ Apply op (fold (with_operand op) (a ∷ b ∷ []) rest)
pairs-from op a b [] = refl
pairs-from op a b (c ∷ rest) = pairs-from op (Apply op (a ∷ b ∷ [])) c rest

pub pairs-fold : (op : Op) (args : List RawExpr) → pairs op args ≡ Apply op (fold (with_operand op) [] args)
pairs-fold op [] = refl
pairs-fold op (a ∷ []) = refl
pairs-fold op (a ∷ b ∷ rest) = pairs-from op a b rest

-- ---- calls

intrinsic-by : (f : Option Intrinsic) (op : Op) (name : List ℕ) (args : List RawExpr) → Some op ≡ option_map (λ f. f.op) f → intrinsic_or f name args ≡ pairs op args
intrinsic-by None op name args is = absurd cc
intrinsic-by (Some f) op name args is = let same : f.op ≡ op = cc in ap (λ (o : Op). pairs o args) same

-- a call of an intrinsic function in a copy
pub changed_call-pairs : (c : Change) (name : List ℕ) (args : List RawExpr) (op : Op) → (c.copied && not (c.arrays name)) ≡ true → Some op ≡ option_map (λ f. f.op) (intrinsic_named name) → changed_call c name args ≡ pairs op args
changed_call-pairs c name args op free is =
    ap (λ (b : Bool). if b then intrinsic_or (intrinsic_named name) (c.name name) args else Call (c.name name) args) free ∙ intrinsic-by (intrinsic_named name) op (c.name name) args is

-- ---- statements

pub changed_stmt-ThenIf : (c : Change) (condition : RawExpr) (stmt : Stmt) → changed_stmt c (ThenIf condition stmt) ≡ ThenIf (changed c condition) (changed_stmt c stmt)
unfolding Rattle.f77_tree.specs.declared.statements.Stmt.TheBlock.hidden-the_row-Stmt-0 denote.Hole.Carrier.hidden
changed_stmt-ThenIf c condition stmt = refl

pub map-few : {A B : Type 0} (f : A → B) (xs : List A) (i : ℕ) → length (map f (take i xs)) ≤ i
map-few f xs i = let a = length-map (take i xs) f in let b = length-take i xs in omega (arith, a, b)

mapped-next : {A B : Type 0} (f : A → B) (xs : List A) (i : ℕ) (x : A) → i < length xs → x ≡ get_or xs i x → map f (take (i + 1) xs) ≡ map f (take i xs) ++ f x ∷ []
mapped-next f xs i x inside is =
    ap (map f) (take_more xs i x inside ∙ ap (λ (y : _). take i xs ++ y ∷ []) (sym is)) ∙ map-append f (take i xs) (x ∷ [])

-- one more is mapped
pub mapped-more : {A B : Type 0} (f : A → B) (xs : List A) (i : ℕ) (x : A) (row : List B) (made : B) → i < length xs → x ≡ get_or xs i x → row ≡ map f (take i xs) → made ≡ f x → row ++ made ∷ [] ≡ map f (take (i + 1) xs)
mapped-more f xs i x row made inside is known one =
    ap (λ (r : List _). r ++ made ∷ []) known
    ∙ ap (λ (y : _). map f (take i xs) ++ y ∷ []) one
    ∙ sym (mapped-next f xs i x inside is)

-- one more operand is taken
pub folded-more : {A : Type 0} (f : A → RawExpr) (op : Op) (xs : List A) (i : ℕ) (x : A) (row : List RawExpr) (made : RawExpr) → i < length xs → x ≡ get_or xs i x → row ≡ fold (with_operand op) [] (map f (take i xs)) → made ≡ f x → with_operand op row made ≡ fold (with_operand op) [] (map f (take (i + 1) xs))
folded-more f op xs i x row made inside is known one =
    ap (λ (r : List RawExpr). with_operand op r made) known
    ∙ ap (λ (y : RawExpr). with_operand op (fold (with_operand op) [] (map f (take i xs))) y) one
    ∙ sym (ap (fold (with_operand op) []) (mapped-next f xs i x inside is) ∙ fold-append (with_operand op) [] (map f (take i xs)) (f x ∷ []))
