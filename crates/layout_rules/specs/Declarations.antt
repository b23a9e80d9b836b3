-- What the declarations of a whole program say of a name: its dimensions and its kind (ANSI X3.9-1978, sections 4.1, 5 and 8).
-- Where something is declared twice, which is a fault, the first declaration holds.
use Rattle.std.specs.Prelude.{ℕ, Bool, true, false, if◌then◌else◌, ◌&&◌, nat_le, nat_lt, List, [], length, flat_map, Option, Some, None, bytes_eq, slice_index}
use Rattle.std.specs.List.{list_any}
use Rattle.f77_tree.specs.declared.declarations.Kind.{Kind}
use Rattle.f77_tree.specs.declared.declarations.Kind.TheVariants.{Integer}
use Rattle.f77_tree.specs.declared.declarations.Dim.{Dim}
use Rattle.f77_tree.specs.declared.declarations.Decl.{Decl}
use Rattle.f77_tree.specs.declared.declarations.LetterRange.{LetterRange}
use Rattle.f77_tree.specs.declared.declarations.CommonPart.{CommonPart}
use Rattle.f77_tree.specs.declared.declarations.Member.{Member}
use Rattle.f77_tree.specs.declared.declarations.InitPart.{InitPart}
use Rattle.f77_tree.specs.declared.statements.Labelled.{Labelled}
use Rattle.f77_tree.specs.declared.statements.Stmt.{Stmt}
use Rattle.f77_tree.specs.declared.statements.Stmt.TheVariants.{Implicit, ImplicitNone, TypeOf, Dimension, Common, Equivalence, Init}
use Rattle.layout_rules.specs.Faults.{first_answer, answer_or}

-- ---- declarators and dimensions

-- the declarators of a type statement, DIMENSION or COMMON
abbrev pub declarators : Stmt → List Decl
declarators (TypeOf kind decls) = decls
declarators (Dimension decls) = decls
declarators (Common parts) = flat_map (λ part. part.decls) parts
declarators _ = []

abbrev pub all_declarators : List Labelled → List Decl
all_declarators stmts = flat_map (λ s. declarators s.stmt) stmts

-- a declarator with dimensions
abbrev pub has_dims : Decl → Bool
has_dims decl = nat_lt 0 (length decl.dims)

abbrev pub dims_told : List ℕ → Decl → Option (List Dim)
dims_told name decl = if bytes_eq decl.name name && has_dims decl then Some decl.dims else None

abbrev pub dims_or_none : Option (List Dim) → List Dim
dims_or_none None = []
dims_or_none (Some dims) = dims

-- the dimensions of a name, of which a scalar has none
abbrev pub dims_of : List Labelled → List ℕ → List Dim
dims_of stmts name = dims_or_none (first_answer (dims_told name) (all_declarators stmts))

abbrev pub is_array : List Labelled → List ℕ → Bool
is_array stmts name = nat_lt 0 (length (dims_of stmts name))

-- ---- kinds

-- the kind that a type statement gives to a name
abbrev pub kind_typed : List ℕ → Stmt → Option Kind
kind_typed name (TypeOf kind decls) = if list_any (λ decl. bytes_eq decl.name name) decls then Some kind else None
kind_typed name _ = None

-- the kind that a range gives to a letter
abbrev pub kind_of_range : ℕ → LetterRange → Option Kind
kind_of_range letter range = if nat_le range.from letter && nat_le letter range.to then Some range.kind else None

-- the kind that IMPLICIT gives to a letter
abbrev pub kind_implied : ℕ → Stmt → Option Kind
kind_implied letter (Implicit ranges) = first_answer (kind_of_range letter) ranges
kind_implied letter _ = None

abbrev pub is_implicit_none : Stmt → Bool
is_implicit_none ImplicitNone = true
is_implicit_none _ = false

-- I to N are the letters of integers, unless IMPLICIT NONE stands in the program
abbrev pub kind_by_default : (none : Bool) → ℕ → Option Kind
kind_by_default true letter = None
kind_by_default false letter = if nat_le 73 letter && nat_le letter 78 then Some Integer else None

-- the kind of the names with this first letter that no type statement names
abbrev pub kind_of_letter : List Labelled → (letter : ℕ) → Option Kind
kind_of_letter stmts letter =
    answer_or (first_answer (λ s. kind_implied letter s.stmt) stmts) (kind_by_default (list_any (λ s. is_implicit_none s.stmt) stmts) letter)

-- the kind of a name: that of a type statement, else that of its first letter; a real name has none
abbrev pub kind_of : List Labelled → List ℕ → Option Kind
kind_of stmts name = answer_or (first_answer (λ s. kind_typed name s.stmt) stmts) (kind_of_letter stmts (slice_index name 0))

-- ---- what the program declares of storage, in the order of the text

abbrev pub parts_of : Stmt → List CommonPart
parts_of (Common parts) = parts
parts_of _ = []

abbrev pub groups_of : Stmt → List (List Member)
groups_of (Equivalence groups) = groups
groups_of _ = []

abbrev pub inits_of : Stmt → List InitPart
inits_of (Init parts) = parts
inits_of _ = []

abbrev pub all_commons : List Labelled → List CommonPart
all_commons stmts = flat_map (λ s. parts_of s.stmt) stmts

abbrev pub all_groups : List Labelled → List (List Member)
all_groups stmts = flat_map (λ s. groups_of s.stmt) stmts

abbrev pub all_inits : List Labelled → List InitPart
all_inits stmts = flat_map (λ s. inits_of s.stmt) stmts
