-- A list cut into parts.
use Rattle.std.specs.Prelude.{ℕ, ◌≤◌, if◌then◌else◌, nat_lt, List, [], ◌∷◌, map, length}
use Rattle.std.specs.List.{slice_range}
use Rattle.program_units.specs.declared.splitting.Span.{Span}

-- the items from one place up to another
abbrev pub part : {A : Type 0} → List A → Span → List A
part items span = slice_range items span.from span.to

abbrev pub parts : {A : Type 0} → List Span → List A → List (List A)
parts spans items = map (part items) spans

-- a span of places of a list
pub record IsSpanOf {A : Type 0} (items : List A) (span : Span) : Type 0 where
  pub rising : span.from ≤ span.to
  pub inside : span.to ≤ length items

-- one span, if it isn't empty
abbrev pub span_if : (from to : ℕ) → List Span
span_if from to = if nat_lt from to then record { from = from; to = to } ∷ [] else []
