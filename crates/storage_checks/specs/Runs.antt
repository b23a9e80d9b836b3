-- Words and constants of DATA in runs (ANSI X3.9-1978, section 9).
use Rattle.std.specs.Prelude.{ℕ, List, flat_map, replicate, ◌≡◌, ◌++◌, ◌&&◌, map, Bool}
use Rattle.f77_tree.specs.declared.declarations.Kind.{Kind}
use Rattle.f77_tree.specs.declared.declarations.Lit.{Lit}
use Rattle.f77_tree.specs.declared.declarations.InitValue.{InitValue}
use Rattle.f77_tree.specs.InitialWords.{words_from, lit_kind}
use Rattle.storage_checks.specs.declared.data_spans.Span.{Span}
use Rattle.layout_rules.specs.StorageFaults.{are_same_kinds}

-- the constants of values, each as often as it stands there
abbrev pub all_constants : List InitValue → List Lit
all_constants values = flat_map (λ value. replicate value.times value.value) values

-- the words of a span, in order
abbrev pub span_words : Span → List ℕ
span_words span = words_from span.first span.len

-- the kind of a span, once for each of its words
abbrev pub span_kinds : Span → List Kind
span_kinds span = replicate span.len span.kind

-- the next constants, so many of them, are of this kind, or not
abbrev pub TakesKind : (len : ℕ) → Kind → (old new : List Lit) → Bool → Type 0
TakesKind len kind old new right = (more : List Kind)
    → are_same_kinds (replicate len kind ++ more) (map lit_kind old) ≡ (right && are_same_kinds more (map lit_kind new))
