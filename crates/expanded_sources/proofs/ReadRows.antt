-- Expressions made of lists of operands: they are trees where the operands are, and their names are those of the operands.
use Rattle.std.proofs.Common.{◌≡◌, ℕ, ◌≤◌, ◌⊎◌, inl, inr, ⊎_elim, ◌||◌, ◌&&◌, ◌==◌, Bool, true, false, not, cond, if◌then◌else◌, List, [], ◌∷◌, ◌++◌, length, flat_map, fold, All, Some, find, bytes_eq, refl, sym, ap, subst, ◌∙◌, arith}
use Rattle.std.specs.Prelude.{nat_lt}
use Rattle.std.specs.List.{list_all, list_any}
use Rattle.std.proofs.lemmas.Bool.{and_from, and_parts}
use Rattle.std.proofs.lemmas.Bool.Decides.{nat_tests}
use Rattle.std.proofs.lemmas.List.Folds.{list_all-append}
use Rattle.op_table.specs.declared.Op.{Op}
use Rattle.op_table.specs.Operators.{arity_of}
use Rattle.f77_tree.specs.Kinds.{is_written}
use Rattle.f77_tree.specs.Name.{is_name}
use Rattle.f77_tree.specs.declared.statements.RawExpr.{RawExpr, Call, Apply, Row_of-RawExpr, end_of-RawExpr, more_of-RawExpr, items-the_row-RawExpr, items_hidden-the_row-RawExpr-0}
use Rattle.f77_tree.proofs.AllLemmas.{All-cons, All-first, All-nil, All-rest}
use Rattle.f77_tree.proofs.NameLemmas.{bytes_eq-same}
use Rattle.layout_rules.specs.Appearances.{called_name, names_in}
use Rattle.layout_rules.specs.ReadExpressions.{AllReadings, IsReading}
use Rattle.layout_rules.specs.Types.{Intrinsic, count_of_row, intrinsics, is_intrinsic, takes}
use Rattle.layout_rules.proofs.NamesIn.{names_in-Apply, names_in-Call}
use Rattle.program_units.specs.Copies.{pairs}
use Rattle.inlined_copies.proofs.ChangedRows.{row_of}

-- ---- rows are lists

items-readings : (n : _) (row : Row_of-RawExpr n) → All IsReading (items-the_row-RawExpr n row) → AllReadings row
items-readings n end_of-RawExpr all = tt
items-readings n (more_of-RawExpr e rest) all = (All-first IsReading e (items-the_row-RawExpr _ rest) all, items-readings _ rest (All-rest IsReading e (items-the_row-RawExpr _ rest) all))

as-many-items : (n : _) (row : Row_of-RawExpr n) → count_of_row row ≡ length (items-the_row-RawExpr n row)
as-many-items n end_of-RawExpr = refl
as-many-items n (more_of-RawExpr e rest) = let more = as-many-items _ rest in omega (arith, more)

pub IsReading-Call : (name : List ℕ) (args : List RawExpr) → All IsReading args → IsReading (Call name args)
IsReading-Call name args all =
    let row = row_of (Call name args) in
    items-readings row.0 row.1 (subst (λ (es : List RawExpr). All IsReading es) (sym (items_hidden-the_row-RawExpr-0 args)) all)

pub IsReading-Apply : (op : Op) (args : List RawExpr) → is_written op ≡ true → length args ≡ arity_of op → All IsReading args → IsReading (Apply op args)
IsReading-Apply op args written as_many all =
    let row = row_of (Apply op args) in
    let items = items_hidden-the_row-RawExpr-0 args in
    (written, as-many-items row.0 row.1 ∙ ap length items ∙ as_many, items-readings row.0 row.1 (subst (λ (es : List RawExpr). All IsReading es) (sym items) all))

-- ---- symbolic names

abbrev pub AreNames : List (List ℕ) → Type 0
AreNames names = list_all is_name names ≡ true

pub joined : (xs ys : List (List ℕ)) → AreNames xs → AreNames ys → AreNames (xs ++ ys)
joined xs ys h i = list_all-append is_name xs ys ∙ and_from (list_all is_name xs) (list_all is_name ys) h i

-- what holds of all of two lists holds of each
pub parted : (p : List ℕ → Bool) (xs ys : List (List ℕ)) → list_all p (xs ++ ys) ≡ true → (list_all p xs ≡ true) × (list_all p ys ≡ true)
parted p xs ys all = and_parts (list_all p xs) (list_all p ys) (sym (list_all-append p xs ys) ∙ all)

pub called-names : (arrays : List ℕ → Bool) (name : List ℕ) (args : List RawExpr) → is_name name ≡ true → AreNames (flat_map (names_in arrays) args) → AreNames (names_in arrays (Call name args))
called-names arrays name args is all = subst AreNames (sym (names_in-Call arrays name args)) (joined (called_name arrays name) (flat_map (names_in arrays) args) (by (arrays name || not (is_intrinsic name))) all)
  where
    by : (b : Bool) → AreNames (if b then name ∷ [] else [])
    by true = and_from (is_name name) true is refl
    by false = refl

pub applied-names : (arrays : List ℕ → Bool) (op : Op) (args : List RawExpr) → AreNames (flat_map (names_in arrays) args) → AreNames (names_in arrays (Apply op args))
applied-names arrays op args all = subst AreNames (sym (names_in-Apply arrays op args)) all

-- ---- operands pair by pair

-- as many operands as an operator takes, or two and more of one that takes two
abbrev pub FitsCount : Op → ℕ → Type 0
FitsCount op count = (count ≡ arity_of op) ⊎ ((2 ≡ arity_of op) × (2 ≤ count))

-- an operator that a source can write, at so many arguments
pub record Suits (op : Op) (count : ℕ) : Type 0 where
  pub written : is_written op ≡ true
  pub few : arity_of op ≤ 2
  pub fits : FitsCount op count

once-only : (op : Op) (count : ℕ) → count ≤ 1 → Suits op count → count ≡ arity_of op
once-only op count one suits = ⊎_elim (λ (once : count ≡ arity_of op). once) (λ (more : (2 ≡ arity_of op) × (2 ≤ count)). let many = more.1 in absurd (omega (arith, many, one))) suits.fits

two-each : (op : Op) (count : ℕ) → 2 ≤ count → Suits op count → 2 ≡ arity_of op
two-each op count many suits = ⊎_elim (λ (once : count ≡ arity_of op). let few = suits.few in omega (arith, once, few, many)) (λ (more : (2 ≡ arity_of op) × (2 ≤ count)). more.0) suits.fits

folded-reading : (op : Op) (e : RawExpr) (rest : List RawExpr) → is_written op ≡ true → 2 ≡ arity_of op → IsReading e → All IsReading rest → IsReading (fold (λ e c. Apply op (e ∷ c ∷ [])) e rest)
folded-reading op e [] written two first all = first
folded-reading op e (c ∷ rest) written two first all =
    folded-reading op (Apply op (e ∷ c ∷ [])) rest written two
    (IsReading-Apply op (e ∷ c ∷ []) written two (All-cons IsReading e (c ∷ []) first (All-cons IsReading c [] (All-first IsReading c rest all) (All-nil IsReading))))
    (All-rest IsReading c rest all)

pub pairs-reading : (op : Op) (args : List RawExpr) → Suits op (length args) → All IsReading args → IsReading (pairs op args)
pairs-reading op [] suits all = IsReading-Apply op [] suits.written (once-only op 0 (omega arith) suits) all
pairs-reading op (a ∷ []) suits all = IsReading-Apply op (a ∷ []) suits.written (once-only op 1 (omega arith) suits) all
pairs-reading op (a ∷ b ∷ rest) suits all =
    let two : 2 ≡ arity_of op = two-each op (length (a ∷ b ∷ rest)) (omega arith) suits in
    let later = All-rest IsReading a (b ∷ rest) all in
    folded-reading op (Apply op (a ∷ b ∷ [])) rest suits.written two
    (IsReading-Apply op (a ∷ b ∷ []) suits.written two (All-cons IsReading a (b ∷ []) (All-first IsReading a (b ∷ rest) all) (All-cons IsReading b [] (All-first IsReading b rest later) (All-nil IsReading))))
    (All-rest IsReading b rest later)

folded-names : (arrays : List ℕ → Bool) (op : Op) (e : RawExpr) (rest : List RawExpr) → AreNames (names_in arrays e) → AreNames (flat_map (names_in arrays) rest) → AreNames (names_in arrays (fold (λ e c. Apply op (e ∷ c ∷ [])) e rest))
folded-names arrays op e [] first all = first
folded-names arrays op e (c ∷ rest) first all =
    let parts = parted is_name (names_in arrays c) (flat_map (names_in arrays) rest) all in
    folded-names arrays op (Apply op (e ∷ c ∷ [])) rest (applied-names arrays op (e ∷ c ∷ []) (joined (names_in arrays e) (names_in arrays c ++ []) first (joined (names_in arrays c) [] parts.0 refl))) parts.1

pub pairs-names : (arrays : List ℕ → Bool) (op : Op) (args : List RawExpr) → AreNames (flat_map (names_in arrays) args) → AreNames (names_in arrays (pairs op args))
pairs-names arrays op [] all = applied-names arrays op [] all
pairs-names arrays op (a ∷ []) all = applied-names arrays op (a ∷ []) all
pairs-names arrays op (a ∷ b ∷ rest) all =
    let first = parted is_name (names_in arrays a) (flat_map (names_in arrays) (b ∷ rest)) all in
    let second = parted is_name (names_in arrays b) (flat_map (names_in arrays) rest) first.1 in
    folded-names arrays op (Apply op (a ∷ b ∷ [])) rest
    (applied-names arrays op (a ∷ b ∷ []) (joined (names_in arrays a) (names_in arrays b ++ []) first.0 (joined (names_in arrays b) [] second.0 refl)))
    second.1

-- ---- intrinsic functions

abbrev takes_among : List Intrinsic → List ℕ → ℕ → Bool
takes_among fs name count = list_any (λ f. bytes_eq f.name name && (f.arguments == count || (f.list && nat_lt f.arguments count))) fs

-- the first function of this name takes so many arguments
pub record IsFunction (fs : List Intrinsic) (name : List ℕ) (count : ℕ) : Type 0 where
  pub f : Intrinsic
  pub found : find (λ f. bytes_eq f.name name) fs ≡ Some f
  pub suits : Suits f.op count

first-or-later : (f : Intrinsic) (rest : List Intrinsic) (name : List ℕ) (count : ℕ) → (takes_among (f ∷ rest) f.name count ≡ true → Suits f.op count) → (takes_among rest name count ≡ true → IsFunction rest name count) → takes_among (f ∷ rest) name count ≡ true → IsFunction (f ∷ rest) name count
first-or-later f rest name count here later taken = by (bytes_eq f.name name) refl
  where
    by : (b : Bool) → bytes_eq f.name name ≡ b → IsFunction (f ∷ rest) name count
    by true is =
        let same = bytes_eq-same f.name name is in
        record { f = f; found = ap (λ (b : Bool). cond b (Some f) (find (λ f. bytes_eq f.name name) rest)) is; suits = here (subst (λ (n : List ℕ). takes_among (f ∷ rest) n count ≡ true) (sym same) taken) }
    by false is =
        let there = later (sym (ap (λ (b : Bool). (b && (f.arguments == count || (f.list && nat_lt f.arguments count))) || takes_among rest name count) is) ∙ taken) in
        record { f = there.f; found = ap (λ (b : Bool). cond b (Some f) (find (λ f. bytes_eq f.name name) rest)) is ∙ there.found; suits = there.suits }

pub function-found : (name : List ℕ) (count : ℕ) → takes name count ≡ true → IsFunction intrinsics name count
function-found name count =
    first-or-later _ _ name count (λ h. record { written = refl; few = omega arith; fits = inl (grind (arith, nat_tests)) })
    (first-or-later _ _ name count (λ h. record { written = refl; few = omega arith; fits = inl (grind (arith, nat_tests)) })
    (first-or-later _ _ name count (λ h. record { written = refl; few = omega arith; fits = inl (grind (arith, nat_tests)) })
    (first-or-later _ _ name count (λ h. record { written = refl; few = omega arith; fits = inl (grind (arith, nat_tests)) })
    (first-or-later _ _ name count (λ h. record { written = refl; few = omega arith; fits = inl (grind (arith, nat_tests)) })
    (first-or-later _ _ name count (λ h. record { written = refl; few = omega arith; fits = inr (refl, grind (arith, nat_tests)) })
    (first-or-later _ _ name count (λ h. record { written = refl; few = omega arith; fits = inr (refl, grind (arith, nat_tests)) })
    (first-or-later _ _ name count (λ h. record { written = refl; few = omega arith; fits = inr (refl, grind (arith, nat_tests)) })
    (first-or-later _ _ name count (λ h. record { written = refl; few = omega arith; fits = inr (refl, grind (arith, nat_tests)) })
    (λ none. absurd cc)))))))))
