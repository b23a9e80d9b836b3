-- What the statements of a printed program declare of its names: their dimensions and their kinds, as its table has them.
use Rattle.std.proofs.Common.{◌≡◌, ℕ, zero, suc, ◌+◌, ◌<◌, ◌≤◌, ℤ, pos, negsuc, ◌-ℤ◌, Bool, true, false, cond, not, List, [], ◌∷◌, ◌++◌, length, map, ◌&&◌, ◌||◌, nat_lt, refl, sym, ap, ◌∙◌, subst, ⊎_elim, arith, Option, Some, None}
use Rattle.std.specs.Prelude.{All, bytes_eq, filter, flat_map}
use Rattle.std.specs.Ordering.{int_eq}
use Rattle.std.proofs.lemmas.Bool.{cases_lt, lt-ltb}
use Rattle.std.proofs.lemmas.Int.{ints}
use Rattle.std.proofs.lemmas.Bool.Decides.{Decides-int_eq}
use Rattle.std.proofs.lemmas.List.{map-append}
use Rattle.std.proofs.lemmas.List.Concat.{flat_map-append}
use Rattle.std.proofs.lemmas.List.Elements.{All-append}
use Rattle.f77_tree.specs.declared.declarations.CommonPart.{CommonPart}
use Rattle.f77_tree.specs.declared.declarations.Decl.{Decl}
use Rattle.f77_tree.specs.declared.declarations.Dim.{Dim}
use Rattle.f77_tree.specs.declared.declarations.Kind.{Kind}
use Rattle.f77_tree.specs.declared.programs.NameInfo.{NameInfo}
use Rattle.f77_tree.specs.declared.programs.Program.{Program}
use Rattle.f77_tree.specs.Declarations.{CanBeWritten, IsDim, IsNameInfo, NamesDiffer, index_of}
use Rattle.f77_tree.specs.StatementGrammar.{statement_of, whole_number, dim_of, low_of, decl_of}
use Rattle.f77_tree.specs.Value.{dims_of as dims_at, kind_of as kind_at}
use Rattle.f77_tree.proofs.AllLemmas.{All-nil, All-cons, All-first, All-rest}
use Rattle.f77_tree.proofs.NameLemmas.{bytes_eq-same, index_of-name}
use Rattle.f77_expr.specs.Printing.{name_in}
use Rattle.f77_expr.proofs.PrintedNumbers.{number_of-decimal}
use Rattle.layout_rules.specs.Declarations.{declarators, dims_told, dims_or_none, dims_of, kind_typed, kind_of}
use Rattle.layout_rules.specs.Faults.{first_answer, answer_or}
use Rattle.flat_programs.specs.declared.statements.FlatLine.{FlatLine}
use Rattle.flat_programs.specs.Declarations.{signed, written_dim, typed_name, name_alone, same_block, block_decls, block_statement}
use Rattle.read_back.specs.PrintedStatements.{LabelledStatement, declaration}
use Rattle.read_back.specs.SourceStatements.{statements_read}
use Rattle.read_back.proofs.DeclaredEach.{commons_each}
use Rattle.read_back.proofs.PrintedPlaces.{get_some}
use Rattle.read_back.proofs.StatementParts.{read_stmt, after_names, HoldsOfRead, holds_of_read, parts_of_all, answers_of_all, after_each}
use Rattle.read_back.proofs.WrittenNumbers.{small_fits}
use Rattle.std.proofs.lemmas.Grind.{elements}

-- ---- numbers and dimensions

below_zero : (n : ℕ) → pos 0 -ℤ pos (suc n) ≡ negsuc n
below_zero n = omega (arith, ints)

pub number_again : (z : ℤ) → CanBeWritten z → whole_number (signed z) ≡ z
number_again (pos n) h = ap pos (number_of-decimal n (small_fits n h))
number_again (negsuc n) h = ap (λ m. pos 0 -ℤ pos m) (number_of-decimal (suc n) (small_fits (suc n) h)) ∙ below_zero n

low_again : (z : ℤ) → CanBeWritten z → (one : Bool) → int_eq z (pos 1) ≡ one → low_of (cond one None (Some (signed z))) ≡ z
low_again z h true is = sym ((Decides-int_eq z (pos 1)).0 is)
low_again z h false is = number_again z h

dim_again : (d : Dim) → IsDim d → dim_of (written_dim d) ≡ d
dim_again d is = grind (arith, low_again, pos 1, number_again)

pub dims_again : (dims : List Dim) → All IsDim dims → map dim_of (map written_dim dims) ≡ dims
dims_again [] all = refl
dims_again (d ∷ dims) all = grind (arith, elements, dim_again, All-first, All-rest, dims_again dims (All-rest IsDim d dims all))

-- ---- names of the table

differ-rest : (info : NameInfo) (names : List NameInfo) → NamesDiffer (info ∷ names) → NamesDiffer names
differ-rest info names differ j k a b is_a is_b same =
    let e : suc j ≡ suc k = differ (suc j) (suc k) a b is_a is_b same in
    omega (arith, e)

-- a name that another one bears isn't among the later ones
absent : (info : NameInfo) (names : List NameInfo) (name : List ℕ) → NamesDiffer (info ∷ names) → bytes_eq info.name name ≡ true → length names ≤ index_of names name
absent info names name differ same =
    ⊎_elim
    (λ (lt : index_of names name < length names).
    let found = get_some names (index_of names name) lt in
    let named : found.0.name ≡ name = ap name_in (sym found.1) ∙ index_of-name names name lt in
    let at : 0 ≡ suc (index_of names name) = differ 0 (suc (index_of names name)) info found.0 refl found.1 (bytes_eq-same info.name name same ∙ sym named) in
    absurd (omega (arith, at)))
    (λ (le : length names ≤ index_of names name). le)
    (cases_lt (index_of names name) (length names))

dims_beyond : (names : List NameInfo) (k : ℕ) → length names ≤ k → dims_at names k ≡ []
dims_beyond [] k le = refl
dims_beyond (info ∷ names) zero le = absurd (omega (arith, le))
dims_beyond (info ∷ names) (suc k) le = dims_beyond names k (omega (arith, le))

abbrev typed : List NameInfo → List LabelledStatement
typed names = map declaration (map typed_name names)

abbrev pub declared_name : NameInfo → Decl
declared_name info = record { name = info.name; dims = map dim_of (map written_dim info.dims) }

typed-declarators : (names : List NameInfo) → flat_map (λ s. declarators (read_stmt s)) (typed names) ≡ map declared_name names
typed-declarators [] = refl
typed-declarators (info ∷ names) = ap (λ ds. declared_name info ∷ ds) (typed-declarators names)

-- ---- dimensions

abbrev no_dims : List Dim
no_dims = []

tells_nothing : (b : Bool) → cond (b && nat_lt 0 (length no_dims)) (Some no_dims) None ≡ None
tells_nothing true = refl
tells_nothing false = refl

told_none : (name : List ℕ) (ds : List Decl) → All (λ (d : Decl). d.dims ≡ []) ds → first_answer (dims_told name) ds ≡ None
told_none name [] all = refl
told_none name (d ∷ ds) all =
    let empty : d.dims ≡ [] = All-first (λ (x : Decl). x.dims ≡ []) d ds all in
    let here : dims_told name d ≡ None = ap (λ dims. cond (bytes_eq d.name name && nat_lt 0 (length dims)) (Some dims) None) empty ∙ tells_nothing (bytes_eq d.name name) in
    ap (λ a. answer_or a (first_answer (dims_told name) ds)) here ∙ told_none name ds (All-rest (λ (x : Decl). x.dims ≡ []) d ds all)

module _ (name : List ℕ) (others : List Decl) (none : All (λ (d : Decl). d.dims ≡ []) others) where
  abbrev answer : List NameInfo → Option (List Dim)
  answer names = first_answer (dims_told name) (map declared_name names ++ others)

  dims_from : (names : List NameInfo) → All IsNameInfo names → NamesDiffer names → dims_or_none (answer names) ≡ dims_at names (index_of names name)
  dims_from [] table differ = ap dims_or_none (told_none name others none)
  dims_from (info ∷ names) table differ =
      let rest = answer names in
      let more = dims_from names (All-rest IsNameInfo info names table) (differ-rest info names differ) in
      let own = dims_again info.dims (All-first IsNameInfo info names table).dimensions.bounds in
      let same : dims_or_none (answer (info ∷ names)) ≡ dims_or_none (answer_or (cond (bytes_eq info.name name && nat_lt 0 (length info.dims)) (Some info.dims) None) rest) =
      ap (λ dims. dims_or_none (answer_or (cond (bytes_eq info.name name && nat_lt 0 (length dims)) (Some dims) None) rest)) own
      in
      same ∙ by_test (bytes_eq info.name name) refl info.dims refl rest more
    where
      by_test : (b : Bool) → bytes_eq info.name name ≡ b → (dims : List Dim) → info.dims ≡ dims → (rest : Option (List Dim)) → dims_or_none rest ≡ dims_at names (index_of names name) → dims_or_none (answer_or (cond (b && nat_lt 0 (length dims)) (Some dims) None) rest) ≡ dims_at (info ∷ names) (cond (not b) (1 + index_of names name) 0)
      by_test true is [] empty rest more = more ∙ dims_beyond names (index_of names name) (absent info names name differ is) ∙ sym empty
      by_test true is (d ∷ dims) some rest more = ap (λ b. dims_or_none (answer_or (cond b (Some (d ∷ dims)) None) rest)) (lt-ltb 0 (suc (length dims)) (omega arith)) ∙ sym some
      by_test false is dims are rest more = let e : suc (index_of names name) ≡ 1 + index_of names name = omega arith in more ∙ ap (dims_at (info ∷ names)) e

-- ---- kinds

kind_here : (info : NameInfo) (names : List NameInfo) (b : Bool) (k : ℕ) (rest : Option Kind) → (b ≡ false → rest ≡ Some (kind_at names k)) → answer_or (cond (b || false) (Some info.kind) None) rest ≡ Some (kind_at (info ∷ names) (cond (not b) (1 + k) 0))
kind_here info names true k rest more = refl
kind_here info names false k rest more = let e : suc k ≡ 1 + k = omega arith in more refl ∙ ap (λ j. Some (kind_at (info ∷ names) j)) e

kind_from : (name : List ℕ) (names : List NameInfo) (more : List LabelledStatement) → index_of names name < length names → first_answer (λ s. kind_typed name (read_stmt s)) (typed names ++ more) ≡ Some (kind_at names (index_of names name))
kind_from name [] more lt = absurd (omega (arith, lt))
kind_from name (info ∷ names) more lt =
    grind (arith, kind_here info names (bytes_eq info.name name) (index_of names name), read_stmt, kind_from name names more)

-- ---- the whole program

abbrev pub IsBare : Decl → Type 0
IsBare d = d.dims ≡ []

bare_names : (decls : List Decl) → All IsBare (map decl_of (map name_alone decls))
bare_names [] = All-nil IsBare
bare_names (d ∷ decls) = All-cons IsBare (decl_of (name_alone d)) (map decl_of (map name_alone decls)) refl (bare_names decls)

bare_parts : (parts : List CommonPart) → All IsBare (map decl_of (flat_map (λ part. map name_alone part.decls) parts))
bare_parts [] = All-nil IsBare
bare_parts (part ∷ parts) = grind (arith, map-append decl_of, All-append IsBare, bare_names part.decls, bare_parts parts)

pub bare_block : (parts : List CommonPart) (block : Option (List ℕ)) → All IsBare (declarators (statement_of (block_statement parts block)))
bare_block parts block = All-append IsBare (map decl_of (block_decls parts block)) [] (bare_parts (filter (λ part. same_block part.block block) parts)) (All-nil IsBare)

pub declares_nothing : (names : List NameInfo) → HoldsOfRead (λ s. declarators s ≡ []) names
declares_nothing names = grind arith

module _ (q : Program) (flat : List FlatLine) (table : All IsNameInfo q.names) (differ : NamesDiffer q.names) where
  abbrev others : List Decl
  others = flat_map (λ s. declarators (read_stmt s)) (after_names q flat)

  others_bare : All IsBare others
  others_bare =
      after_each IsBare declarators q flat (commons_each (λ w. All IsBare (declarators (statement_of w))) q.commons (bare_block q.commons)) (λ k d lt. All-nil IsBare) (λ k d lt. All-nil IsBare)
      (λ place l there. subst (All IsBare) (sym (holds_of_read (λ s. declarators s ≡ []) q.names (declares_nothing q.names) l.stmt)) (All-nil IsBare))

  -- a name has the dimensions that the table gives to it
  pub dims_same : (name : List ℕ) → dims_of (statements_read q flat) name ≡ dims_at q.names (index_of q.names name)
  dims_same name =
      grind (arith, parts_of_all declarators q flat, flat_map-append, read_stmt, after_names q flat, typed-declarators q.names, dims_from name others others_bare q.names table differ, others_bare)

  -- and the kind
  pub kind_same : (name : List ℕ) → index_of q.names name < length q.names → kind_of (statements_read q flat) name ≡ Some (kind_at q.names (index_of q.names name))
  kind_same name lt = grind (arith, answers_of_all (kind_typed name) q flat, kind_from name q.names (after_names q flat) lt, after_names q flat)
