-- Numbers of candidates, and what stands in expressions.
use base.Stored.{Gv, gnil, gnum, gcons}
use Rattle.std.proofs.Common.{◌≡◌, ℕ, zero, suc, ◌<◌, Bool, true, false, ◌==◌, ◌&&◌, List, [], ◌∷◌, ◌++◌, length, get_or, All, Option, Some, None, refl, ap, ◌∙◌, subst, arith, option_to_list}
use Rattle.std.specs.Prelude.{◌↔◌, slice_get, if◌then◌else◌}
use Rattle.std.specs.Option.{option_map}
use Rattle.std.proofs.lemmas.Bool.{eqb-true, and_parts}
use Rattle.std.proofs.lemmas.Bool.Decides.{Decides-eqb}
use Rattle.std.proofs.lemmas.Grind.{flat_map-append}
use Rattle.std.proofs.lemmas.Option.{slice_get_within}
use mathlib.Core.Former.{Count}
use Rattle.f77_tree.specs.contracts.expressions.Expr as contract
use Rattle.f77_tree.specs.declared.expressions.Access.{Access}
use Rattle.f77_tree.specs.declared.expressions.Expr.{Expr, Read, Read', Apply, Apply', Row_of-Expr, end_of-Expr, more_of-Expr, items-the_row-Expr, items_hidden-the_row-Expr-0}
use Rattle.f77_tree.specs.declared.expressions.Expr.TheVariants.{Const, Truth, Input}
use Rattle.op_table.specs.declared.Op.{Op}
use Rattle.redundancy.specs.Candidates.{subexpressions, row_subexpressions}
use Rattle.redundancy.specs.Collected.{all_subexpressions}
use Rattle.shared_forms.specs.Numbered.{same_code, is_same, number_in, numbers_in, parts}

-- ---- the same trees

pub eqb-same : (n : ℕ) → (n == n) ≡ true
eqb-same n = (Decides-eqb n n).1 refl

same_code-same : (a : Gv) → same_code a a ≡ true
same_code-same gnil = refl
same_code-same (gnum n) = eqb-same n
same_code-same (gcons a b) = ap (λ x. x && same_code b b) (same_code-same a) ∙ same_code-same b

same_code-is : (a b : Gv) → same_code a b ≡ true → a ≡ b
same_code-is gnil gnil h = refl
same_code-is gnil (gnum b) h = let e : false ≡ true = h in absurd cc
same_code-is gnil (gcons c d) h = let e : false ≡ true = h in absurd cc
same_code-is (gnum a) gnil h = let e : false ≡ true = h in absurd cc
same_code-is (gnum a) (gnum b) h = ap gnum (eqb-true a b h)
same_code-is (gnum a) (gcons c d) h = let e : false ≡ true = h in absurd cc
same_code-is (gcons a b) gnil h = let e : false ≡ true = h in absurd cc
same_code-is (gcons a b) (gnum c) h = let e : false ≡ true = h in absurd cc
same_code-is (gcons a b) (gcons c d) h =
    let both = and_parts (same_code a c) (same_code b d) h in
    ap (λ x. gcons x b) (same_code-is a c both.0) ∙ ap (gcons c) (same_code-is b d both.1)

is_same-is : (d e : Expr) → is_same d e ≡ true → d ≡ e
is_same-is d e h = contract.the_row.coded.inj d e (same_code-is (contract.the_row.coded.code d) (contract.the_row.coded.code e) h)

is_same-same : (d e : Expr) → d ≡ e → is_same d e ≡ true
is_same-same d e h = subst (λ (x : Expr). is_same d x ≡ true) h (same_code-same (contract.the_row.coded.code d))

-- ---- numbers

found_at : (b : Bool) (o : Option ℕ) (k : ℕ) (d e : Expr) (ds : List Expr) → (b ≡ true → d ≡ e) → ((j : ℕ) → o ≡ Some j → slice_get ds j ≡ Some e) → (if b then Some 0 else option_map suc o) ≡ Some k → slice_get (d ∷ ds) k ≡ Some e
found_at true o k d e ds same rest h = let s : Some 0 ≡ Some k = h in let i : 0 ≡ k = cc in subst (λ (x : ℕ). slice_get (d ∷ ds) x ≡ Some e) i (ap Some (same refl))
found_at false None k d e ds same rest h = let s : None ≡ Some k = h in absurd cc
found_at false (Some j) k d e ds same rest h = let s : Some (suc j) ≡ Some k = h in let i : suc j ≡ k = cc in subst (λ (x : ℕ). slice_get (d ∷ ds) x ≡ Some e) i (rest j refl)

pub number_in-is : (ds : List Expr) (e : Expr) (k : ℕ) → number_in ds e ≡ Some k → slice_get ds k ≡ Some e
number_in-is [] e k h = let s : None ≡ Some k = h in absurd cc
number_in-is (d ∷ ds) e k h = found_at (is_same d e) (number_in ds e) k d e ds (is_same-is d e) (number_in-is ds e) h

found_none : (b : Bool) (o : Option ℕ) (d e : Expr) (ds : List Expr) → (d ≡ e → b ≡ true) → (o ≡ None → (k : ℕ) → slice_get ds k ≡ Some e → ⊥) → (if b then Some 0 else option_map suc o) ≡ None → (k : ℕ) → slice_get (d ∷ ds) k ≡ Some e → ⊥
found_none true o d e ds same rest h k at = let s : Some 0 ≡ None = h in absurd cc
found_none false (Some j) d e ds same rest h k at = let s : Some (suc j) ≡ None = h in absurd cc
found_none false None d e ds same rest h zero at = let s : Some d ≡ Some e = at in let i : d ≡ e = cc in let t : false ≡ true = same i in absurd cc
found_none false None d e ds same rest h (suc k) at = rest refl k at

pub number_in-none : (ds : List Expr) (e : Expr) → number_in ds e ≡ None → (k : ℕ) → slice_get ds k ≡ Some e → ⊥
number_in-none [] e h k at = let s : None ≡ Some e = at in absurd cc
number_in-none (d ∷ ds) e h k at = found_none (is_same d e) (number_in ds e) d e ds (is_same-same d e) (number_in-none ds e) h k at

told_same : (o n : Option ℕ) → ((k : ℕ) → n ≡ Some k → o ≡ Some k) → (n ≡ None → (k : ℕ) → o ≡ Some k → ⊥) → o ≡ n
told_same o (Some k) f g = f k refl
told_same None None f g = refl
told_same (Some k) None f g = absurd (g refl k refl)

-- what tells the place of an expression tells its number
pub number-told : (ds : List Expr) (e : Expr) (o : Option ℕ) → ((k : ℕ) → (o ≡ Some k) ↔ (slice_get ds k ≡ Some e)) → o ≡ number_in ds e
number-told ds e o told = told_same o (number_in ds e) (λ k h. (told k).1 (number_in-is ds e k h)) (λ h k is. number_in-none ds e h k ((told k).0 is))

number_found : (n : Option ℕ) (k : ℕ) → ((j : ℕ) → n ≡ Some j → j ≡ k) → (n ≡ None → ⊥) → n ≡ Some k
number_found (Some j) k f g = ap Some (f j refl)
number_found None k f g = absurd (g refl)

-- where no expression stands twice, its place is its number
pub number_in-at : (ds : List Expr) (e : Expr) (k : ℕ) → ((i j : ℕ) → slice_get ds i ≡ Some e → slice_get ds j ≡ Some e → i ≡ j) → slice_get ds k ≡ Some e → number_in ds e ≡ Some k
number_in-at ds e k once at = number_found (number_in ds e) k (λ j h. once j k (number_in-is ds e j h) at) (λ h. number_in-none ds e h k at)

pub number_in-within : (ds : List Expr) (e : Expr) (k : ℕ) → number_in ds e ≡ Some k → k < length ds
number_in-within ds e k h = slice_get_within ds k e (number_in-is ds e k h)

first_below : (m k : ℕ) (ns : List ℕ) → k < m → All (λ n. n < m) ns → (i d : ℕ) → i < suc (length ns) → get_or (k ∷ ns) i d < m
first_below m k ns here rest zero d less = here
first_below m k ns here rest (suc i) d less = rest i d (omega (arith, less))

all_below : (o : Option ℕ) (m : ℕ) (ns : List ℕ) → ((k : ℕ) → o ≡ Some k → k < m) → All (λ n. n < m) ns → All (λ n. n < m) (option_to_list o ++ ns)
all_below None m ns f h = h
all_below (Some k) m ns f h = first_below m k ns (f k refl) h

pub numbers_in-below : (ds es : List Expr) → All (λ n. n < length ds) (numbers_in ds es)
numbers_in-below ds [] = λ k d less. omega (arith, less)
numbers_in-below ds (e ∷ es) = all_below (number_in ds e) (length ds) (numbers_in ds es) (number_in-within ds e) (numbers_in-below ds es)

pub numbers_in-append : (ds es fs : List Expr) → numbers_in ds (es ++ fs) ≡ numbers_in ds es ++ numbers_in ds fs
numbers_in-append ds es fs = flat_map-append (λ e. option_to_list (number_in ds e)) es fs

-- ---- parts

abbrev row_of : Expr → (n : Count) × Row_of-Expr n
row_of (Read' _ _ row) = (_, row)
row_of (Apply' _ _ row) = (_, row)
row_of _ = (_, end_of-Expr)

row_subexpressions-items : (m : _) (row : Row_of-Expr m) → row_subexpressions row ≡ all_subexpressions (items-the_row-Expr m row)
row_subexpressions-items m end_of-Expr = refl
row_subexpressions-items m (more_of-Expr e rest) = ap (λ (es : List Expr). subexpressions e ++ es) (row_subexpressions-items _ rest)

pub parts-Read : (access : Access) → parts (Read access) ≡ all_subexpressions access.subs
parts-Read access = let row = row_of (Read access) in row_subexpressions-items row.0 row.1 ∙ ap all_subexpressions (items_hidden-the_row-Expr-0 access.subs)

pub parts-Apply : (op : Op) (args : List Expr) → parts (Apply op args) ≡ all_subexpressions args
parts-Apply op args = let row = row_of (Apply op args) in row_subexpressions-items row.0 row.1 ∙ ap all_subexpressions (items_hidden-the_row-Expr-0 args)

pub subexpressions-parts : (e : Expr) → subexpressions e ≡ parts e ++ e ∷ []
subexpressions-parts (Const z) = refl
subexpressions-parts (Truth b) = refl
subexpressions-parts Input = refl
subexpressions-parts (Read' name shape subs) = refl
subexpressions-parts (Apply' op shape args) = refl
