-- Labels that lead to their statements.
use Rattle.std.proofs.Common.{◌≡◌, ℕ, zero, suc, ◌+◌, ◌≤◌, Bool, true, false, not, ◌&&◌, nat_lt, if◌then◌else◌, ◌==◌, List, [], ◌∷◌, ◌++◌, take, slice_get, Some, None, refl, sym, ap, ◌∙◌, arith, ◌<◌, ◌||◌, ◌⊎◌, inl, inr, length, get_or, set, subst}
use Rattle.std.specs.List.{list_any, position_or_len}
use Rattle.std.proofs.lemmas.Bool.{or_parts, eqb-false, eq-eqb, ltb-false, ne_eqb, cases_eq, or_cases, or_from, and_parts, and_from, eqb-true, false_from_ne_true}
use Rattle.std.proofs.lemmas.List.{append_assoc, append-nil, get_or-set_same, get_or-set_other, get_or-take, length-take-le, take_all}
use Rattle.std.proofs.lemmas.List.Folds.{list_any_at, list_any_more, list_any_none}
use Rattle.std.proofs.lemmas.List.Sums.{passes_at_first, fails_before_first, prefix_len-le-length}
use Rattle.std.proofs.lemmas.Option.{slice_get_within, get_or_from_slice_get}
use Rattle.f77_tree.specs.declared.statements.Labelled.{Labelled}
use Rattle.f77_tree.specs.StatementGrammar.{is_bad_label}
use Rattle.layout_rules.specs.Faults.{first_after, first_line}
use Rattle.layout_rules.specs.Labels.{IsLabel, statement_of, is_labelled_twice, bears, is_executable, is_arm}
use Rattle.f77_tree.specs.Grammar.{number_of}
use Rattle.layout_rules.proofs.StorageLines.{after_clear, after_next}
use Rattle.f77_tree.specs.declared.statements.Stmt.{Stmt}
use Rattle.f77_tree.specs.declared.statements.Stmt.TheVariants.{Else}
use Rattle.layout_rules.specs.Roles.{role_of, is_target_role}

-- ---- no fault

-- no statement has the fault where no line is told
pub faultless : (fault : List Labelled → Labelled → Bool) (above stmts : List Labelled) → first_after fault above stmts ≡ None → (i : ℕ) (s : Labelled) → slice_get stmts i ≡ Some s → fault (above ++ take i stmts) s ≡ false
faultless fault above [] none i s h = let e : None ≡ Some s = h in absurd cc
faultless fault above (x ∷ rest) none zero s h =
    let same : x ≡ s = cc in
    ap (λ (xs : List Labelled). fault xs s) (append-nil above) ∙ (ap (fault above) (sym same) ∙ after_clear fault above rest x none)
faultless fault above (x ∷ rest) none (suc i) s h =
    ap (λ (xs : List Labelled). fault xs s) (sym (append_assoc above (x ∷ []) (take i rest)))
    ∙ faultless fault (above ++ x ∷ []) rest (sym (after_next fault above rest x (after_clear fault above rest x none)) ∙ none) i s h

-- ---- places

pub position-at : {X : Type 0} → (p : X → Bool) (xs : List X) (i : ℕ) (x : X) → list_any p (take i xs) ≡ false → slice_get xs i ≡ Some x → p x ≡ true → position_or_len p xs ≡ i
position-at p [] i x none h is = let e : None ≡ Some x = h in absurd cc
position-at p (y ∷ ys) zero x none h is = let same : y ≡ x = cc in ap (λ (b : Bool). if not b then 1 + position_or_len p ys else 0) (ap p same ∙ is)
position-at p (y ∷ ys) (suc i) x none h is =
    let parts = or_parts (p y) (list_any p (take i ys)) none in
    ap (λ (b : Bool). if not b then 1 + position_or_len p ys else 0) parts.0 ∙ (let rest = position-at p ys i x parts.1 h is in omega (arith, rest))

pub statement_of-own : (stmts : List Labelled) → first_line is_labelled_twice stmts ≡ None → (i : ℕ) (s : Labelled) → slice_get stmts i ≡ Some s → (s.label ≡ 0 → ⊥) → statement_of stmts s.label ≡ i
statement_of-own stmts none i s here some =
    let apart = faultless is_labelled_twice [] stmts none i s here in
    position-at (λ a. a.label == s.label) stmts i s (second (s.label == 0) (list_any (λ a. a.label == s.label) (take i stmts)) (ne_eqb s.label 0 some) apart) here (eq-eqb s.label s.label refl)
  where
    second : (b c : Bool) → b ≡ false → (not b && c) ≡ false → c ≡ false
    second true c h e = let z : true ≡ false = h in absurd cc
    second false c h e = e

-- ---- labels of the grammar

pub good_label : (digits : List ℕ) → is_bad_label digits ≡ false → IsLabel (number_of digits)
good_label digits h =
    let parts = or_parts (number_of digits == 0) (nat_lt 99999 (number_of digits)) h in
    let le : number_of digits ≤ 99999 = ltb-false 99999 (number_of digits) parts.1 in
    (eqb-false (number_of digits) 0 parts.0, omega (arith, le))

-- ---- the table of the places of labels, and what stands there

-- ---- lists

pub record Passes {X : Type 0} (p : X → Bool) (xs : List X) : Type 0 where
  pub place : ℕ
  pub item : X
  pub stands : slice_get xs place ≡ Some item
  pub is : p item ≡ true

pub any-exists : {X : Type 0} → (p : X → Bool) (xs : List X) → list_any p xs ≡ true → Passes p xs
any-exists p [] h = let e : false ≡ true = h in absurd cc
any-exists p (x ∷ xs) h = elim (or_cases (p x) (list_any p xs) h) as (λ _. Passes p (x ∷ xs)) [
  | inl here ↦ record { place = 0; item = x; stands = refl; is = here }
  | inr later ↦ let rest = any-exists p xs later in record { place = suc rest.place; item = rest.item; stands = rest.stands; is = rest.is }
]

pub any-from : {X : Type 0} → (p : X → Bool) (xs : List X) (i : ℕ) (x : X) → slice_get xs i ≡ Some x → p x ≡ true → list_any p xs ≡ true
any-from p xs i x h is = list_any_at p xs i x (slice_get_within xs i x h) (ap p (get_or_from_slice_get xs i x x h) ∙ is)

pub any-more : {X : Type 0} → (p : X → Bool) (xs : List X) (i : ℕ) (x : X) → slice_get xs i ≡ Some x → list_any p (take (i + 1) xs) ≡ (list_any p (take i xs) || p x)
any-more p xs i x h = list_any_more p xs i x (slice_get_within xs i x h) ∙ ap (λ y. list_any p (take i xs) || p y) (get_or_from_slice_get xs i x x h)

pub position-none : {X : Type 0} → (p : X → Bool) (xs : List X) → list_any p xs ≡ false → position_or_len p xs ≡ length xs
position-none p [] h = refl
position-none p (x ∷ xs) h =
    let parts = or_parts (p x) (list_any p xs) h in
    ap (λ (b : Bool). if not b then 1 + position_or_len p xs else 0) parts.0 ∙ (let rest = position-none p xs parts.1 in omega (arith, rest))

-- an earlier place passes
pub position-before : {X : Type 0} → (p : X → Bool) (xs : List X) (i : ℕ) → list_any p (take i xs) ≡ true → position_or_len p xs < i
position-before p xs i h =
    let not_so : i ≤ position_or_len p xs → ⊥ = λ le.
    let many = length-take-le i xs (omega (arith, le, prefix_len-le-length (λ x. not (p x)) xs)) in
    let none = list_any_none p (take i xs) (λ k d below. let lt : k < i = omega (arith, below, many) in ap p (get_or-take i xs k d lt) ∙ fails_before_first p xs k d (omega (arith, lt, le))) in
    let e : true ≡ false = sym h ∙ none in
    absurd cc in
    omega (arith, not_so)

-- the first that passes stands no later than another
pub position-upto : {X : Type 0} → (p : X → Bool) (xs : List X) (i : ℕ) (x : X) → slice_get xs i ≡ Some x → p x ≡ true → position_or_len p xs ≤ i
position-upto p xs i x h is =
    let not_so : i < position_or_len p xs → ⊥ = λ lt. (let e : true ≡ false = sym is ∙ (sym (ap p (get_or_from_slice_get xs i x x h)) ∙ fails_before_first p xs i x lt) in absurd cc) in
    omega (arith, not_so)

-- ---- the table

abbrev pub has_label : ℕ → Labelled → Bool
has_label label s = s.label == label

-- what the table tells of a label once so many statements are met
abbrev pub Told : List Labelled → (i label place : ℕ) → Type 0
Told stmts i label place = ((place ≡ length stmts) × (list_any (has_label label) (take i stmts) ≡ false)) ⊎ ((place < i) × (place ≡ statement_of stmts label))

pub record IsTable (stmts : List Labelled) (i count : ℕ) (places : List ℕ) : Type 0 where
  pub counts : count ≡ length stmts
  pub told : (label : ℕ) → Told stmts i label (get_or places label count)

pub IsTable-begin : (stmts : List Labelled) (count : ℕ) → count ≡ length stmts → IsTable stmts 0 count []
IsTable-begin stmts count is = record { counts = is; told = λ label. inl (is, refl) }

-- a table that is read alike
pub IsTable-alike : (stmts : List Labelled) (i count : ℕ) (places new : List ℕ) → ((label : ℕ) → get_or new label count ≡ get_or places label count) → IsTable stmts i count places → IsTable stmts i count new
IsTable-alike stmts i count places new alike table = record { counts = table.counts; told = λ label. subst (λ (place : ℕ). Told stmts i label place) (sym (alike label)) (table.told label) }

Told-other : (stmts : List Labelled) (i : ℕ) (s : Labelled) (label place : ℕ) → slice_get stmts i ≡ Some s → (s.label ≡ label → ⊥) → Told stmts i label place → Told stmts (i + 1) label place
Told-other stmts i s label place here other told = elim told as (λ _. Told stmts (i + 1) label place) [
  | inl none ↦ inl (none.0, any-more (has_label label) stmts i s here ∙ or_from (list_any (has_label label) (take i stmts)) (s.label == label) none.1 (ne_eqb s.label label other))
  | inr met ↦ inr (omega (arith, met.0), met.1)
]

-- a label that was met before
pub IsTable-keep : (stmts : List Labelled) (i count : ℕ) (places : List ℕ) (s : Labelled) → slice_get stmts i ≡ Some s → (get_or places s.label count ≡ count → ⊥) → IsTable stmts i count places → IsTable stmts (i + 1) count places
IsTable-keep stmts i count places s here met table = record {
  counts = table.counts;
  told = λ label. elim (cases_eq label s.label) as (λ _. Told stmts (i + 1) label (get_or places label count)) [
    | inl same ↦ subst (λ (l : ℕ). Told stmts (i + 1) l (get_or places l count)) (sym same) (elim (table.told s.label) as (λ _. Told stmts (i + 1) s.label (get_or places s.label count)) [
      | inl none ↦ absurd (met (none.0 ∙ sym table.counts))
      | inr known ↦ inr (omega (arith, known.0), known.1)
    ])
    | inr other ↦ Told-other stmts i s label (get_or places label count) here (λ e. other (sym e)) (table.told label)
  ];
}

-- a label that is met first
pub IsTable-set : (stmts : List Labelled) (i count : ℕ) (places : List ℕ) (s : Labelled) → slice_get stmts i ≡ Some s → s.label < length places → get_or places s.label count ≡ count → IsTable stmts i count places → IsTable stmts (i + 1) count (set places s.label i)
IsTable-set stmts i count places s here in_table first table =
    let fits = slice_get_within stmts i s here in
    record {
      counts = table.counts;
      told = λ label. elim (cases_eq label s.label) as (λ _. Told stmts (i + 1) label (get_or (set places s.label i) label count)) [
        | inl same ↦ subst (λ (l : ℕ). Told stmts (i + 1) l (get_or (set places s.label i) l count)) (sym same) (elim (table.told s.label) as (λ _. Told stmts (i + 1) s.label (get_or (set places s.label i) s.label count)) [
          | inl none ↦
              let value : get_or (set places s.label i) s.label count ≡ i = get_or-set_same places s.label i count in_table in
              inr (omega (arith, value), value ∙ sym (position-at (has_label s.label) stmts i s none.1 here (eq-eqb s.label s.label refl)))
          | inr known ↦ absurd (omega (arith, known.0, first, table.counts, fits))
        ])
        | inr other ↦ subst (λ (n : ℕ). Told stmts (i + 1) label n) (sym (get_or-set_other places s.label label i count other)) (Told-other stmts i s label (get_or places label count) here (λ e. other (sym e)) (table.told label))
      ];
    }

pub IsTable-end : (stmts : List Labelled) (i count : ℕ) (places : List ℕ) → length stmts ≤ i → IsTable stmts i count places → (label : ℕ) → get_or places label count ≡ statement_of stmts label
IsTable-end stmts i count places le table label = elim (table.told label) as (λ _. get_or places label count ≡ statement_of stmts label) [
  | inl none ↦ none.0 ∙ sym (position-none (has_label label) stmts (sym (ap (list_any (has_label label)) (take_all i stmts le)) ∙ none.1))
  | inr known ↦ known.1
]

-- ---- labels that stand twice

same_test : (stmts : List Labelled) (i : ℕ) (s : Labelled) → slice_get stmts i ≡ Some s → (b : Bool) → list_any (has_label s.label) (take i stmts) ≡ b → (statement_of stmts s.label == i) ≡ not b
same_test stmts i s here true h = let lt = position-before (has_label s.label) stmts i h in ne_eqb (statement_of stmts s.label) i (λ e. absurd (omega (arith, lt, e)))
same_test stmts i s here false h = eq-eqb (statement_of stmts s.label) i (position-at (has_label s.label) stmts i s h here (eq-eqb s.label s.label refl))

twice_by : (a b : Bool) (c : Bool) → c ≡ not b → (not a && b) ≡ (not a && not c)
twice_by true b c h = refl
twice_by false true c h = sym (ap not h)
twice_by false false c h = sym (ap not h)

-- a statement is labelled twice where its label's place is another one
pub twice-place : (stmts : List Labelled) (i : ℕ) (s : Labelled) → slice_get stmts i ≡ Some s → is_labelled_twice (take i stmts) s ≡ (not (s.label == 0) && not (statement_of stmts s.label == i))
twice-place stmts i s here = twice_by (s.label == 0) (list_any (has_label s.label) (take i stmts)) (statement_of stmts s.label == i) (same_test stmts i s here (list_any (has_label s.label) (take i stmts)) refl)

pub is_twice : (stmts : List Labelled) (i : ℕ) (s : Labelled) → slice_get stmts i ≡ Some s → (s.label ≡ 0 → ⊥) → (statement_of stmts s.label ≡ i → ⊥) → is_labelled_twice (take i stmts) s ≡ true
is_twice stmts i s here some other = twice-place stmts i s here ∙ ap (λ (b : Bool). not b && not (statement_of stmts s.label == i)) (ne_eqb s.label 0 some) ∙ ap not (ne_eqb (statement_of stmts s.label) i other)

pub not_twice-first : (stmts : List Labelled) (i : ℕ) (s : Labelled) → slice_get stmts i ≡ Some s → statement_of stmts s.label ≡ i → is_labelled_twice (take i stmts) s ≡ false
not_twice-first stmts i s here same = twice-place stmts i s here ∙ ap (λ (b : Bool). not (s.label == 0) && not b) (eq-eqb (statement_of stmts s.label) i same) ∙ none (not (s.label == 0))
  where
    none : (b : Bool) → (b && false) ≡ false
    none true = refl
    none false = refl

pub not_twice-blank : (stmts : List Labelled) (i : ℕ) (s : Labelled) → s.label ≡ 0 → is_labelled_twice (take i stmts) s ≡ false
not_twice-blank stmts i s none = ap (λ (b : Bool). not b && list_any (has_label s.label) (take i stmts)) (eq-eqb s.label 0 none)

-- ---- statements to which control may go

abbrev pub may_be_target : Labelled → Bool
may_be_target s = is_executable s.stmt && not (is_arm s.stmt)

target_by : (stmt : Stmt) → (is_executable stmt && not (is_arm stmt)) ≡ is_target_role (role_of stmt)
target_by Else = refl
target_by _ = refl

-- a statement that bears a label has it, and may be a target
pub bears-parts : (label : ℕ) (s : Labelled) → bears label s ≡ true → ((s.label == label) ≡ true) × (may_be_target s ≡ true)
bears-parts label s is =
    let parts = and_parts ((s.label == label) && is_executable s.stmt) (not (is_arm s.stmt)) is in
    let prefix = and_parts (s.label == label) (is_executable s.stmt) parts.0 in
    (prefix.0, and_from (is_executable s.stmt) (not (is_arm s.stmt)) prefix.1 parts.1)

pub position-passes : {X : Type 0} → (p : X → Bool) (xs : List X) (x : X) → slice_get xs (position_or_len p xs) ≡ Some x → p x ≡ true
position-passes p xs x h = sym (ap p (get_or_from_slice_get xs (position_or_len p xs) x x h)) ∙ passes_at_first p xs x (slice_get_within xs (position_or_len p xs) x h)

module _ (stmts : List Labelled) (once : first_line is_labelled_twice stmts ≡ None) (label : ℕ) (some : label ≡ 0 → ⊥) where
  -- the label stands where it is found
  pub place-own : (i : ℕ) (t : Labelled) → slice_get stmts i ≡ Some t → t.label ≡ label → statement_of stmts label ≡ i
  place-own i t at same = ap (statement_of stmts) (sym same) ∙ statement_of-own stmts once i t at (λ none. some (sym same ∙ none))

  -- where a label is borne, its statement is one that may be a target
  pub bearer : list_any (bears label) stmts ≡ true → (s : Labelled) × (slice_get stmts (statement_of stmts label) ≡ Some s) × (may_be_target s ≡ true)
  bearer h =
      let found = any-exists (bears label) stmts h in
      let parts = bears-parts label found.item found.is in
      (found.item, ap (slice_get stmts) (place-own found.place found.item found.stands (eqb-true found.item.label label parts.0)) ∙ found.stands, parts.1)

  bears-at : (s : Labelled) → slice_get stmts (statement_of stmts label) ≡ Some s → (b : Bool) → may_be_target s ≡ b → list_any (bears label) stmts ≡ b
  bears-at s here true is =
      let parts = and_parts (is_executable s.stmt) (not (is_arm s.stmt)) is in
      any-from (bears label) stmts (statement_of stmts label) s here (and_from ((s.label == label) && is_executable s.stmt) (not (is_arm s.stmt)) (and_from (s.label == label) (is_executable s.stmt) (position-passes (has_label label) stmts s here) parts.0) parts.1)
  bears-at s here false is = false_from_ne_true (list_any (bears label) stmts) (λ h.
      let found = bearer h in
      let one : Some found.0 ≡ Some s = sym found.1 ∙ here in
      let same : found.0 ≡ s = cc in
      let e : true ≡ false = sym found.2 ∙ (ap may_be_target same ∙ is) in
      absurd cc)

  -- a label is borne where the statement that has it may be a target
  pub borne-at : (s : Labelled) → slice_get stmts (statement_of stmts label) ≡ Some s → list_any (bears label) stmts ≡ is_target_role (role_of s.stmt)
  borne-at s here = bears-at s here (may_be_target s) refl ∙ target_by s.stmt

  pub borne-none : slice_get stmts (statement_of stmts label) ≡ None → list_any (bears label) stmts ≡ false
  borne-none none = false_from_ne_true (list_any (bears label) stmts) (λ h. let found = bearer h in let e : None ≡ Some found.0 = sym none ∙ found.1 in absurd cc)
