-- The innermost range or arm that holds a place.
use Rattle.std.specs.Prelude.{◌≡◌, ℕ, ◌+◌, ◌<◌, ◌≤◌, ◌⊎◌, true, false, List, [], ◌∷◌, length, Option, Some, None, slice_get, slice_index_or}
use Rattle.f77_tree.specs.declared.statements.Labelled.{Labelled}
use Rattle.control_structure.specs.declared.nesting.Nesting.{Nesting}
use Rattle.control_structure.specs.declared.nesting.Nesting.TheVariants.{Nested, Unnested}
use Rattle.layout_rules.specs.declared.nesting.Role.TheVariants.{BeginLoop}
use Rattle.layout_rules.specs.Roles.{role_of}
use Rattle.layout_rules.specs.Labels.{is_arm, statement_of}
use Rattle.layout_rules.specs.Jumps.{Span, span_if_any, lies_in}
use Rattle.layout_rules.specs.Nesting.{first_unnested}

-- a range or an arm of the statements
abbrev pub IsSpan : List Labelled → Span → Type 0
IsSpan stmts span = span_if_any stmts span.head (slice_get stmts span.head) ≡ span ∷ []

pub record LiesWithin (inner outer : Span) : Type 0 where
  pub head : outer.head ≤ inner.head
  pub last : inner.last ≤ outer.last

-- The range or arm after `head` holds the place, and lies within each other one that holds it.
pub record IsInnermostHead (stmts : List Labelled) (place head : ℕ) : Type 0 where
  pub span : Span
  pub is : IsSpan stmts span
  pub begins : span.head ≡ head
  pub holds : lies_in span place ≡ true
  pub least : (other : Span) → IsSpan stmts other → lies_in other place ≡ true → LiesWithin span other

-- the head of the innermost range or arm that holds the place, or none where none holds it
abbrev pub IsInnermost : List Labelled → (place : ℕ) → Option ℕ → Type 0
IsInnermost stmts place None = (span : Span) → IsSpan stmts span → lies_in span place ≡ false
IsInnermost stmts place (Some head) = IsInnermostHead stmts place head

-- for each place but those of ELSE IF and ELSE
pub record AreInnermost (stmts : List Labelled) (heads : List (Option ℕ)) : Type 0 where
  pub length_is : length heads ≡ length stmts
  pub innermost : (place : ℕ) (s : Labelled) → slice_get stmts place ≡ Some s → is_arm s.stmt ≡ false
      → IsInnermost stmts place (slice_index_or heads place None)

-- Ranges and arms lie one in the other or apart, each ends before END, and the range of a DO ends after it.
pub record AreNested (stmts : List Labelled) : Type 0 where
  pub within_or_apart : (outer inner : Span) → IsSpan stmts outer → IsSpan stmts inner → outer.head < inner.head
      → (inner.last ≤ outer.last) ⊎ (outer.last ≤ inner.head)
  pub ends : (span : Span) → IsSpan stmts span → (span.head ≤ span.last) × (span.last + 1 < length stmts)
  pub terminals : (place label : ℕ) (s : Labelled) → slice_get stmts place ≡ Some s → role_of s.stmt ≡ BeginLoop label
      → place < statement_of stmts label

-- the line of the first statement that isn't nested right; none where the innermost heads are told
abbrev pub IsNestingOf : List Labelled → Nesting → Type 0
IsNestingOf stmts (Nested heads) = (first_unnested [] stmts ≡ None) × AreInnermost stmts heads.items × AreNested stmts
IsNestingOf stmts (Unnested line) = first_unnested [] stmts ≡ Some line

-- what the statement at this place begins ends there
abbrev pub EndsAt : List Labelled → (head last : ℕ) → Type 0
EndsAt stmts head last = (span : Span) → IsSpan stmts span → span.head ≡ head → last ≡ span.last
