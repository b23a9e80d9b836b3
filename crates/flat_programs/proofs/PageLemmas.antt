-- Statements that are put on a page, one after another.
use Rattle.std.proofs.Common.{◌≡◌, ℕ, ◌+◌, List, [], ◌∷◌, ◌++◌, map, take, sym, ap, subst, ◌∙◌, append_assoc, Some}
use Rattle.std.specs.Prelude.{slice_get, flat_map, if◌then◌else◌}
use Rattle.std.specs.List.{range_with_len}
use Rattle.std.proofs.lemmas.List.{map-append}
use Rattle.f77_tree.specs.declared.programs.NameInfo.{NameInfo}
use Rattle.f77_tree.specs.declared.programs.Program.{Program}
use Rattle.f77_tree.specs.StatementGrammar.{WrittenStatement}
use Rattle.flat_programs.specs.declared.statements.FlatLine.{FlatLine}
use Rattle.flat_programs.specs.Declarations.{commons, declared, group_statement, init_statement, typed_name}
use Rattle.flat_programs.specs.Marks.{is_mark, mark_at}
use Rattle.flat_programs.specs.Shown.{shown}
use Rattle.flat_programs.specs.declared.page.Page.{Page}
use Rattle.flat_programs.specs.Lines.{Typeset}
use Rattle.flat_programs.specs.Typeset.{typeset}
use Rattle.flat_programs.specs.Text.{unlabelled, label_at, typeset_in, typeset_at}
use Rattle.flat_programs.specs.Pages.{IsPage, Grows}
use Rattle.flat_programs.proofs.MarkLemmas.{take_next}
use Rattle.flat_programs.proofs.LineLemmas.{flat_map_next}

pub grows_then : (a b c : Page) (xs ys : List Typeset) → Grows a b xs → Grows b c ys → Grows a c (xs ++ ys)
grows_then a b c xs ys first second = λ ts is. subst (λ (us : List Typeset). IsPage c us) (append_assoc ts xs ys) (second (ts ++ xs) (first ts is))

pub grows_as : (a b : Page) (xs ys : List Typeset) → xs ≡ ys → Grows a b xs → Grows a b ys
grows_as a b xs ys same grows = subst (λ (us : List Typeset). Grows a b us) same grows

-- one of a list more
pub mapped_next : {X : Type 0} (f : X → WrittenStatement) (xs : List X) (k : ℕ) (x : X) (a b c : Page) (text : List ℕ) → slice_get xs k ≡ Some x → Grows a b (map unlabelled (map f (take k xs))) → Grows b c (record { label = 0; text = text } ∷ []) → text ≡ typeset (f x) → Grows a c (map unlabelled (map f (take (k + 1) xs)))
mapped_next f xs k x a b c text at first second is =
    let before = map unlabelled (map f (take k xs)) in
    let one : Grows b c (unlabelled (f x) ∷ []) = subst (λ (s : List ℕ). Grows b c (record { label = 0; text = s } ∷ [])) is second in
    let more : before ++ unlabelled (f x) ∷ [] ≡ map unlabelled (map f (take (k + 1) xs)) = sym (ap (λ ys. map unlabelled (map f ys)) (take_next xs k x at) ∙ ap (map unlabelled) (map-append f (take k xs) (x ∷ [])) ∙ map-append unlabelled (map f (take k xs)) (f x ∷ [])) in
    grows_as a c (before ++ unlabelled (f x) ∷ []) (map unlabelled (map f (take (k + 1) xs))) more (grows_then a b c before (unlabelled (f x) ∷ []) first one)

pub commons_next : (f : ℕ → List WrittenStatement) (k : ℕ) (a b c : Page) → Grows a b (map unlabelled (flat_map f (range_with_len 0 k))) → Grows b c (map unlabelled (f k)) → Grows a c (map unlabelled (flat_map f (range_with_len 0 (k + 1))))
commons_next f k a b c first second =
    let before = flat_map f (range_with_len 0 k) in
    let more : map unlabelled before ++ map unlabelled (f k) ≡ map unlabelled (flat_map f (range_with_len 0 (k + 1))) = sym (ap (map unlabelled) (flat_map_next f k) ∙ map-append unlabelled before (f k)) in
    grows_as a c (map unlabelled before ++ map unlabelled (f k)) (map unlabelled (flat_map f (range_with_len 0 (k + 1)))) more (grows_then a b c (map unlabelled before) (map unlabelled (f k)) first second)

pub statements_next : (f : ℕ → List Typeset) (k : ℕ) (a b c : Page) → Grows a b (flat_map f (range_with_len 0 k)) → Grows b c (f k) → Grows a c (flat_map f (range_with_len 0 (k + 1)))
statements_next f k a b c first second =
    grows_as a c (flat_map f (range_with_len 0 k) ++ f k) (flat_map f (range_with_len 0 (k + 1))) (sym (flat_map_next f k)) (grows_then a b c (flat_map f (range_with_len 0 k)) (f k) first second)

-- the statement at a place
pub statement_put : (names : List NameInfo) (flat : List FlatLine) (k number label : ℕ) (l : FlatLine) (text : List ℕ) (b c : Page) → slice_get flat k ≡ Some l → number ≡ mark_at flat k → label ≡ (if is_mark l.stmt then number else 0) → text ≡ typeset (shown names l.stmt) → Grows b c (record { label = label; text = text } ∷ []) → Grows b c (typeset_at names flat k)
statement_put names flat k number label l text b c at is-number is-label is-text grows =
    let same : label ≡ label_at flat k l = is-label ∙ ap (λ n. if is_mark l.stmt then n else 0) is-number in
    let one : Typeset = record { label = label; text = text } in
    let e : one ∷ [] ≡ typeset_in names flat k (Some l) = ap (λ (n : ℕ). record { label = n; text = text } ∷ []) same ∙ ap (λ (s : List ℕ). record { label = label_at flat k l; text = s } ∷ []) is-text in
    grows_as b c (one ∷ []) (typeset_at names flat k) (e ∙ ap (typeset_in names flat k) (sym at)) grows

-- declarations, part by part
pub declared_parts : (q : Program) → map unlabelled (declared q) ≡ map unlabelled (map typed_name q.names) ++ map unlabelled (commons q.commons) ++ map unlabelled (map group_statement q.groups) ++ map unlabelled (map init_statement q.inits)
declared_parts q =
    let a = map typed_name q.names in
    let b = commons q.commons in
    let c = map group_statement q.groups in
    let d = map init_statement q.inits in
    map-append unlabelled (a ++ b ++ c) d
    ∙ ap (λ ts. ts ++ map unlabelled d) (map-append unlabelled (a ++ b) c ∙ ap (λ ts. ts ++ map unlabelled c) (map-append unlabelled a b))
