-- What is kept of the declarations, so that a name's kind and dimensions are found at once.
use Rattle.std.specs.Prelude.{◌≡◌, ℕ, Bool, Option, ◌||◌, nat_eq, nat_lt, List, length, bytes_eq, slice_index}
use Rattle.std.specs.List.{list_any}
use Rattle.indexmap.specs.IndexMap.{IndexMap, get}
use Rattle.f77_tree.specs.declared.declarations.Dim.{Dim}
use Rattle.f77_tree.specs.declared.declarations.Kind.{Kind}
use Rattle.f77_tree.specs.declared.statements.Labelled.{Labelled}
use Rattle.f77_tree.specs.declared.statements.Stmt.{Stmt}
use Rattle.declared_names.specs.declared.declarations.Declarations.{Declarations}
use Rattle.declared_names.specs.declared.name_declarations.NameDeclarations.{NameDeclarations}
use Rattle.layout_rules.specs.Faults.{first_answer, answer_or}
use Rattle.layout_rules.specs.Declarations.{dims_told, dims_or_none, declarators, all_declarators, kind_typed, kind_implied, kind_by_default, is_implicit_none}
use Rattle.declared_names.specs.Described.{Described}

-- for each key the answer stays that a map has; where it had none, it is the one that is told
abbrev pub Keeps : {K V S : Type 0} → (K → K → Bool) → (old new : IndexMap K V S) → (told : K → Option V) → Type 0
Keeps {K} eq old new told = (key : K) → get eq new key ≡ answer_or (get eq old key) (told key)

-- the declarations of these statements
pub record Tells (declared : Declarations) (stmts : List Labelled) : Type 0 where
  pub dims : (name : List ℕ) → get bytes_eq declared.dims name ≡ first_answer (dims_told name) (all_declarators stmts)
  pub kinds : (name : List ℕ) → get bytes_eq declared.kinds name ≡ first_answer (λ s. kind_typed name s.stmt) stmts
  pub letters : (letter : ℕ) → get nat_eq declared.letters letter ≡ first_answer (λ s. kind_implied letter s.stmt) stmts
  pub implicit_none : declared.implicit_none ≡ list_any (λ s. is_implicit_none s.stmt) stmts

-- one more statement was read
pub record TellsMore (old new : Declarations) (stmt : Stmt) : Type 0 where
  pub dims : Keeps bytes_eq old.dims new.dims (λ name. first_answer (dims_told name) (declarators stmt))
  pub kinds : Keeps bytes_eq old.kinds new.kinds (λ name. kind_typed name stmt)
  pub letters : Keeps nat_eq old.letters new.letters (λ letter. kind_implied letter stmt)
  pub implicit_none : new.implicit_none ≡ (old.implicit_none || is_implicit_none stmt)

abbrev pub dims_by : Declarations → List ℕ → List Dim
dims_by declared name = dims_or_none (get bytes_eq declared.dims name)

abbrev pub is_array_by : Declarations → List ℕ → Bool
is_array_by declared name = nat_lt 0 (length (dims_by declared name))

abbrev pub kind_by_letter : Declarations → (letter : ℕ) → Option Kind
kind_by_letter declared letter = answer_or (get nat_eq declared.letters letter) (kind_by_default declared.implicit_none letter)

abbrev pub kind_by : Declarations → List ℕ → Option Kind
kind_by declared name = answer_or (get bytes_eq declared.kinds name) (kind_by_letter declared (slice_index name 0))

abbrev pub described_by : Declarations → Described
described_by declared = record { kind = kind_by declared; dims = dims_by declared }

abbrev pub said_by : NameDeclarations → Described
said_by told = described_by told.declared
