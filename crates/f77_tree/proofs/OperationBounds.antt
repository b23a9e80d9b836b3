-- The operations of executables and of the statements that they belong to.
use Rattle.std.proofs.Common.{◌≡◌, ℕ, zero, suc, ◌+◌, ◌≤◌, max, Bool, true, false, not, cond, ◌==◌, if◌then◌else◌, List, [], ◌∷◌, ◌++◌, length, map, flat_map, fold, sum_by, Some, None, option_map, slice_get, refl, ap, subst, ◌∙◌, arith}
use Rattle.std.proofs.lemmas.Option.{slice_get-map, slice_get_within}
use Rattle.std.proofs.lemmas.List.Sums.{sum_by-cons}
use Rattle.f77_tree.specs.declared.programs.Exec.{Exec}
use Rattle.f77_tree.specs.declared.programs.Program.{Program}
use Rattle.f77_tree.proofs.AllLemmas.{get-longer}
use Rattle.f77_tree.specs.Operations.{exec_operations, joined, statements_of, is_increment, increments, others, statement_operations, most_operations}

-- ---- statements are the executables, in order

abbrev together : List (List Exec) → List Exec
together statements = flat_map (λ statement. statement) statements

joined-together : (exec : Exec) (statements : List (List Exec)) → together (joined exec statements) ≡ exec ∷ together statements
joined-together exec [] = refl
joined-together exec ([] ∷ statements) = refl
joined-together exec ((next ∷ rest) ∷ statements) = by (exec.line == next.line)
  where
    by : (b : Bool) → together (if b then (exec ∷ next ∷ rest) ∷ statements else (exec ∷ []) ∷ (next ∷ rest) ∷ statements) ≡ exec ∷ (next ∷ rest) ++ together statements
    by true = refl
    by false = refl

pub statements-together : (execs : List Exec) → flat_map (λ statement. statement) (statements_of execs) ≡ execs
statements-together [] = refl
statements-together (exec ∷ execs) = joined-together exec (statements_of execs) ∙ ap (λ es. exec ∷ es) (statements-together execs)

-- ---- an executable has at most the operations of its statement

abbrev asked : Exec → ℕ
asked exec = exec_operations exec.kind

-- one executable more asks no less
others-more : (x : Exec) (statement : List Exec) → statement_operations statement ≤ statement_operations (x ∷ statement)
others-more x statement = by (not (is_increment x.kind))
  where
    by : (b : Bool) → sum_by asked (others statement) ≤ sum_by asked (cond b (x ∷ others statement) (others statement))
    by true = let more = sum_by-cons asked x (others statement) in omega (arith, more)
    by false = omega arith

first-asked : (x : Exec) (statement : List Exec) → is_increment x.kind ≡ false → asked x ≤ statement_operations (x ∷ statement)
first-asked x statement is =
    let more = sum_by-cons asked x (others statement) in
    let whole : statement_operations (x ∷ statement) ≡ sum_by asked (x ∷ others statement) = ap (λ b. sum_by asked (cond (not b) (x ∷ others statement) (others statement))) is in
    omega (arith, more, whole)

pub statement-asked : (statement : List Exec) (k : ℕ) (exec : Exec) → slice_get statement k ≡ Some exec → is_increment exec.kind ≡ false → exec_operations exec.kind ≤ statement_operations statement
statement-asked [] k exec at other = absurd cc
statement-asked (x ∷ statement) zero exec at other =
    let same : x ≡ exec = cc in
    let least = first-asked x statement (ap (λ (e : Exec). is_increment e.kind) same ∙ other) in
    let both = ap asked same in
    omega (arith, least, both)
statement-asked (x ∷ statement) (suc k) exec at other =
    let more = statement-asked statement k exec at other in
    let wider = others-more x statement in
    omega (arith, more, wider)

-- ---- each executable is of a statement

record IsOfStatement (statements : List (List Exec)) (exec : Exec) : Type 0 where
  place : ℕ
  statement : List Exec
  stands : slice_get statements place ≡ Some statement
  index : ℕ
  is : slice_get statement index ≡ Some exec

joined-first : (x : Exec) (statements : List (List Exec)) → IsOfStatement (joined x statements) x
joined-first x [] = record { place = 0; statement = x ∷ []; stands = refl; index = 0; is = refl }
joined-first x ([] ∷ statements) = record { place = 0; statement = x ∷ []; stands = refl; index = 0; is = refl }
joined-first x ((next ∷ rest) ∷ statements) = by (x.line == next.line)
  where
    by : (b : Bool) → IsOfStatement (if b then (x ∷ next ∷ rest) ∷ statements else (x ∷ []) ∷ (next ∷ rest) ∷ statements) x
    by true = record { place = 0; statement = x ∷ next ∷ rest; stands = refl; index = 0; is = refl }
    by false = record { place = 0; statement = x ∷ []; stands = refl; index = 0; is = refl }

after : (first : List Exec) (statements : List (List Exec)) (exec : Exec) → IsOfStatement statements exec → IsOfStatement (first ∷ statements) exec
after first statements exec found = record { place = suc found.place; statement = found.statement; stands = found.stands; index = found.index; is = found.is }

grown : (x : Exec) (first : List Exec) (statements : List (List Exec)) (exec : Exec) (place : ℕ) (statement : List Exec) (index : ℕ) → slice_get (first ∷ statements) place ≡ Some statement → slice_get statement index ≡ Some exec → IsOfStatement ((x ∷ first) ∷ statements) exec
grown x first statements exec zero statement index stands is =
    let same : first ≡ statement = cc in
    record { place = 0; statement = x ∷ first; stands = refl; index = suc index; is = ap (λ (s : List Exec). slice_get s index) same ∙ is }
grown x first statements exec (suc place) statement index stands is = record { place = suc place; statement = statement; stands = stands; index = index; is = is }

joined-rest : (x : Exec) (statements : List (List Exec)) (exec : Exec) → IsOfStatement statements exec → IsOfStatement (joined x statements) exec
joined-rest x [] exec found = let no : None ≡ Some found.statement = found.stands in absurd cc
joined-rest x ([] ∷ statements) exec found = after (x ∷ []) ([] ∷ statements) exec found
joined-rest x ((next ∷ rest) ∷ statements) exec found = by (x.line == next.line)
  where
    by : (b : Bool) → IsOfStatement (if b then (x ∷ next ∷ rest) ∷ statements else (x ∷ []) ∷ (next ∷ rest) ∷ statements) exec
    by true = grown x (next ∷ rest) statements exec found.place found.statement found.index found.stands found.is
    by false = after (x ∷ []) ((next ∷ rest) ∷ statements) exec found

of_statement : (execs : List Exec) (k : ℕ) (exec : Exec) → slice_get execs k ≡ Some exec → IsOfStatement (statements_of execs) exec
of_statement [] k exec at = absurd cc
of_statement (x ∷ execs) zero exec at =
    let same : x ≡ exec = cc in
    subst (λ (e : Exec). IsOfStatement (statements_of (x ∷ execs)) e) same (joined-first x (statements_of execs))
of_statement (x ∷ execs) (suc k) exec at = joined-rest x (statements_of execs) exec (of_statement execs k exec at)

-- ---- the greatest number

max-start : (a : ℕ) (xs : List ℕ) → a ≤ fold max a xs
max-start a [] = omega arith
max-start a (x ∷ xs) = let more = max-start (max a x) xs in omega (arith, more)

max-contained : (a : ℕ) (xs : List ℕ) (k x : ℕ) → slice_get xs k ≡ Some x → x ≤ fold max a xs
max-contained a [] k x at = absurd cc
max-contained a (y ∷ xs) zero x at =
    let same : y ≡ x = cc in
    let more = max-start (max a y) xs in
    omega (arith, more, same)
max-contained a (y ∷ xs) (suc k) x at = max-contained (max a y) xs k x at

get-back : {X : Type 0} (xs ys : List X) (k n : ℕ) (x : X) → n ≡ length xs + k → slice_get ys k ≡ Some x → slice_get (xs ++ ys) n ≡ Some x
get-back [] ys k n x is at = let same : k ≡ n = omega (arith, is) in subst (λ i. slice_get ys i ≡ Some x) same at
get-back (y ∷ xs) ys k zero x is at = absurd (omega (arith, is))
get-back (y ∷ xs) ys k (suc n) x is at = get-back xs ys k n x (omega (arith, is)) at

-- an increment is one of the increments
increment-at : (execs : List Exec) (k : ℕ) (exec : Exec) → slice_get execs k ≡ Some exec → is_increment exec.kind ≡ true → (j : ℕ) × (slice_get (increments execs) j ≡ Some exec)
increment-at [] k exec at is = absurd cc
increment-at (x ∷ execs) zero exec at is =
    let same : x ≡ exec = cc in
    let kept : is_increment x.kind ≡ true = ap (λ (e : Exec). is_increment e.kind) same ∙ is in
    (0, ap (λ b. slice_get (cond b (x ∷ increments execs) (increments execs)) 0) kept ∙ ap Some same)
increment-at (x ∷ execs) (suc k) exec at is = by (is_increment x.kind) (increment-at execs k exec at is)
  where
    by : (b : Bool) → (j : ℕ) × (slice_get (increments execs) j ≡ Some exec) → (j : ℕ) × (slice_get (cond b (x ∷ increments execs) (increments execs)) j ≡ Some exec)
    by true found = (suc found.0, found.1)
    by false found = found

pub most-asked : (p : Program) (k : ℕ) (exec : Exec) → slice_get p.execs k ≡ Some exec → exec_operations exec.kind ≤ most_operations p
most-asked p k exec at = by (is_increment exec.kind) refl
  where
    statements : List ℕ
    statements = map statement_operations (statements_of p.execs)

    alone : List ℕ
    alone = map asked (increments p.execs)

    by : (b : Bool) → is_increment exec.kind ≡ b → exec_operations exec.kind ≤ most_operations p
    by false other =
        let found = of_statement p.execs k exec at in
        let least = statement-asked found.statement found.index exec found.is other in
        let among : slice_get statements found.place ≡ Some (statement_operations found.statement) = slice_get-map statement_operations (statements_of p.execs) found.place ∙ ap (option_map statement_operations) found.stands in
        let most : statement_operations found.statement ≤ fold max 1 (statements ++ alone) = max-contained 1 (statements ++ alone) found.place (statement_operations found.statement) (get-longer statements alone found.place (slice_get_within statements found.place (statement_operations found.statement) among) ∙ among) in
        omega (arith, least, most)
    by true is =
        let found = increment-at p.execs k exec at is in
        let among : slice_get alone found.0 ≡ Some (asked exec) = slice_get-map asked (increments p.execs) found.0 ∙ ap (option_map asked) found.1 in
        max-contained 1 (statements ++ alone) (length statements + found.0) (asked exec) (get-back statements alone found.0 (length statements + found.0) (asked exec) refl among)
