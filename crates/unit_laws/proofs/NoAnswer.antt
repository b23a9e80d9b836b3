-- Where a list of refusals answers none, none of them does.
use Rattle.std.proofs.Common.{◌≡◌, ℕ, zero, suc, ◌+◌, ◌<◌, Bool, true, false, List, [], ◌∷◌, ◌++◌, Option, Some, None, refl, sym, ap, ◌∙◌, arith}
use Rattle.std.specs.List.{slice_get, range_with_len}
use Rattle.std.proofs.lemmas.List.FromFn.{get_or-range_with_len, length-range_with_len}
use Rattle.std.proofs.lemmas.Option.{slice_get-get_or}
use Rattle.f77_tree.specs.declared.statements.Labelled.{Labelled}
use Rattle.layout_rules.specs.declared.layout_end.LayoutEnd.{LayoutEnd}
use Rattle.layout_rules.specs.Faults.{answer_or, first_answer}
use Rattle.layout_rules.specs.Layout.{at_line, refusal}
use Rattle.program_units.specs.declared.sub_end.SubEnd.{SubEnd}
use Rattle.program_units.specs.Refusals.{end_at, first_line_if, form_refusals, layout_end, layout_end_of, size_refusals, unit_refusal}
use Rattle.program_units.specs.Units.{standing_in, units}

-- ---- of entries, of lines, of answers

pub answer-none : {B : Type 0} (a b : Option B) → answer_or a b ≡ None → (a ≡ None) × (b ≡ None)
answer-none None b is = (refl, is)
answer-none (Some x) b is = let e : Some x ≡ None = is in absurd cc

pub line-none : (refused : ℕ → LayoutEnd) (line : Option ℕ) → at_line refused line ≡ None → line ≡ None
line-none refused None is = refl
line-none refused (Some line) is = let e : Some (refused line) ≡ None = is in absurd cc

pub none-at : {B : Type 0} (entries : List (Option B)) (i : ℕ) (entry : Option B) → first_answer (λ r. r) entries ≡ None → slice_get entries i ≡ Some entry → entry ≡ None
none-at [] i entry none is = let e : None ≡ Some entry = is in absurd cc
none-at (o ∷ rest) zero entry none is =
    let e : Some o ≡ Some entry = is in
    let mine : o ≡ entry = cc in
    sym mine ∙ (answer-none o (first_answer (λ r. r) rest) none).0
none-at (o ∷ rest) (suc i) entry none is = none-at rest i entry (answer-none o (first_answer (λ r. r) rest) none).1 is

pub each-none : {A B : Type 0} (f : A → Option B) (xs : List A) → first_answer f xs ≡ None → (i : ℕ) (x : A) → slice_get xs i ≡ Some x → f x ≡ None
each-none f [] none i x is = let e : None ≡ Some x = is in absurd cc
each-none f (y ∷ xs) none zero x is =
    let e : Some y ≡ Some x = is in
    let same : y ≡ x = cc in
    ap f (sym same) ∙ (answer-none (f y) (first_answer f xs) none).0
each-none f (y ∷ xs) none (suc i) x is = each-none f xs (answer-none (f y) (first_answer f xs) none).1 i x is

pub no-layout-end : (o : Option LayoutEnd) → layout_end_of o ≡ None → o ≡ None
no-layout-end None none = refl
no-layout-end (Some end) none = absurd cc

pub no-end : (refused : ℕ → SubEnd) (line : Option ℕ) → end_at refused line ≡ None → line ≡ None
no-end refused None none = refl
no-end refused (Some line) none = let e : Some (refused line) ≡ None = none in absurd cc

pub no-line : (b : Bool) (u : List Labelled) → first_line_if b u ≡ None → b ≡ false
no-line true u none = absurd cc
no-line false u none = refl

pub in-range : (n k : ℕ) → k < n → slice_get (range_with_len 0 n) k ≡ Some k
in-range n k below =
    let e : 0 + k ≡ k = omega arith in
    slice_get-get_or (range_with_len 0 n) k k (omega (arith, below, length-range_with_len 0 n)) ∙ ap (λ (m : ℕ). Some m) (get_or-range_with_len 0 n k k below ∙ e)

-- ---- each unit of a text whose form nothing refuses is a program

front-none : {B : Type 0} (xs ys : List (Option B)) → first_answer (λ r. r) (xs ++ ys) ≡ None → first_answer (λ r. r) xs ≡ None
front-none [] ys none = refl
front-none (o ∷ xs) ys none =
    let parts = answer-none o (first_answer (λ r. r) (xs ++ ys)) none in
    ap (λ (a : _). answer_or a (first_answer (λ r. r) xs)) parts.0 ∙ front-none xs ys parts.1

pub form-none : (stmts : List Labelled) (checked : Bool) → unit_refusal stmts checked ≡ None → first_answer (λ r. r) (form_refusals stmts (units stmts) checked) ≡ None
form-none stmts checked accepted = front-none (form_refusals stmts (units stmts) checked) (size_refusals (units stmts)) accepted

pub formed-laid : (stmts : List Labelled) (checked : Bool) → first_answer (λ r. r) (form_refusals stmts (units stmts) checked) ≡ None → (k : ℕ) (u : List Labelled) → slice_get (units stmts) k ≡ Some u → refusal (standing_in u) checked ≡ None
formed-laid stmts checked formed k u here =
    let us : List (List Labelled) = units stmts in
    let none : first_answer (λ (v : List Labelled). layout_end v checked) us ≡ None = none-at (form_refusals stmts us checked) 1 (first_answer (λ (v : List Labelled). layout_end v checked) us) formed refl in
    no-layout-end (refusal (standing_in u) checked) (each-none (λ (v : List Labelled). layout_end v checked) us none k u here)

pub laid : (stmts : List Labelled) (checked : Bool) → unit_refusal stmts checked ≡ None → (k : ℕ) (u : List Labelled) → slice_get (units stmts) k ≡ Some u → refusal (standing_in u) checked ≡ None
laid stmts checked accepted = formed-laid stmts checked (form-none stmts checked accepted)
