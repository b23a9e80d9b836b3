-- Dimensions and members of a printed program are right: each array has its dimensions in the statement of its kind alone, and members of
-- EQUIVALENCE and items of DATA lie within them.
use Rattle.std.proofs.Common.{◌≡◌, ℕ, ◌<◌, ℤ, pos, negsuc, nat_abs, ◌*ℤ◌, ◌≤ℤ◌, Bool, true, false, cond, not, List, [], ◌∷◌, ◌++◌, map, take, ◌||◌, nat_lt, refl, sym, ap, ◌∙◌, subst, ⊎_elim, ◌⊎◌, arith, Some, None}
use Rattle.std.specs.Prelude.{All, bytes_eq, flat_map, int_lt, slice_get}
use Rattle.std.specs.List.{list_any}
use Rattle.std.proofs.lemmas.Bool.{and_from, le-ltb}
use Rattle.std.proofs.lemmas.Int.{ints}
use Rattle.std.proofs.lemmas.List.Elements.{All-append, All-map}
use Rattle.std.proofs.lemmas.List.Folds.{list_any-append}
use Rattle.f77_tree.specs.declared.declarations.Decl.{Decl}
use Rattle.f77_tree.specs.declared.declarations.Dim.{Dim}
use Rattle.f77_tree.specs.declared.declarations.Member.{Member}
use Rattle.f77_tree.specs.declared.programs.NameInfo.{NameInfo}
use Rattle.f77_tree.specs.declared.programs.Program.{Program}
use Rattle.f77_tree.specs.declared.statements.Labelled.{Labelled}
use Rattle.f77_tree.specs.declared.statements.Stmt.{Stmt}
use Rattle.f77_tree.specs.Declarations.{CanBeWritten, IsDim, AreDims, AreWithin, IsNameInfo, IsMember}
use Rattle.f77_tree.specs.OtherPlaces.{without_places}
use Rattle.f77_tree.specs.StatementGrammar.{WrittenStatement, statement_of, whole_number, member_of}
use Rattle.f77_tree.specs.Value.{extent as width, size_of}
use Rattle.f77_tree.proofs.AllLemmas.{All-nil, All-first, All-rest, All-get}
use Rattle.f77_tree.proofs.NameLemmas.{bytes_eq-same}
use Rattle.layout_rules.specs.Declarations.{declarators, has_dims}
use Rattle.layout_rules.specs.Faults.{first_line, has_repeat}
use Rattle.layout_rules.specs.Layout.{names_of}
use Rattle.layout_rules.specs.Storage.{extent, elements}
use Rattle.layout_rules.specs.StorageFaults.{array_names, dimensioned, has_dims_twice, are_wrong_dims, has_wrong_dims, are_within, is_member, members_of, has_wrong_member}
use Rattle.flat_programs.specs.declared.statements.FlatLine.{FlatLine}
use Rattle.flat_programs.specs.Declarations.{signed, typed_name, written_member, group_statement, init_statement, commons}
use Rattle.read_back.specs.PrintedArrays.{HasNoPrintedArrays}
use Rattle.read_back.specs.PrintedStatements.{CanBeText}
use Rattle.read_back.specs.SourceStatements.{statements_read}
use Rattle.read_back.proofs.DeclaredEach.{mapped_each, commons_each}
use Rattle.read_back.proofs.DeclaredForms.{subs_written}
use Rattle.read_back.proofs.DeclaredTable.{IsBare, bare_block, declares_nothing, dims_again, number_again, declared_name}
use Rattle.read_back.proofs.FirstFaults.{none_faulty, none_above_flat}
use Rattle.read_back.proofs.PrintedTable.{table_same}
use Rattle.read_back.proofs.PrintedTypes.{bare-index, bare-dims}
use Rattle.read_back.proofs.StatementParts.{HoldsOfRead, holds_of_read}
use Rattle.read_back.proofs.TypedFirst.{TypesName, named_or}

-- ---- numbers of elements

forward : (d : Dim) → IsDim d → int_lt d.hi d.lo ≡ false
forward d is = let order = is.order in grind (arith, ints)

nonneg : (z : ℤ) → pos 0 ≤ℤ z → z ≡ pos (nat_abs z)
nonneg (pos n) h = refl
nonneg (negsuc n) h = absurd (omega (arith, ints, h))

width-pos : (d : Dim) → IsDim d → width d ≡ pos (extent d)
width-pos d is = grind (arith, elements, nonneg, ints, pos, nat_abs, forward)

size-pos : (dims : List Dim) → All IsDim dims → size_of dims ≡ pos (elements dims)
size-pos [] all = refl
size-pos (d ∷ dims) all =
    ap (λ z. z *ℤ size_of dims) (width-pos d (All-first IsDim d dims all)) ∙ ap (λ z. pos (extent d) *ℤ z) (size-pos dims (All-rest IsDim d dims all))

all_forward : (dims : List Dim) → All IsDim dims → list_any (λ (d : Dim). int_lt d.hi d.lo) dims ≡ false
all_forward [] all = refl
all_forward (d ∷ dims) all = ap (λ b. b || list_any (λ (e : Dim). int_lt e.hi e.lo) dims) (forward d (All-first IsDim d dims all)) ∙ all_forward dims (All-rest IsDim d dims all)

right_up_to : (most : ℕ) (dims : List Dim) → All IsDim dims → size_of dims ≤ℤ pos most → (list_any (λ (d : Dim). int_lt d.hi d.lo) dims || nat_lt most (elements dims)) ≡ false
right_up_to most dims all le = grind (arith, elements, size-pos, all_forward, le-ltb, ints)

pub right_dims : (dims : List Dim) → AreDims dims → are_wrong_dims dims ≡ false
right_dims dims are = right_up_to 262144 dims are.bounds are.elements

-- ---- declarators without dimensions

none_bare : (decls : List Decl) → All IsBare decls → array_names decls ≡ []
none_bare [] all = refl
none_bare (d ∷ decls) all = grind (arith, elements, All-first, All-rest, none_bare decls (All-rest IsBare d decls all))

right_bare : (decls : List Decl) → All IsBare decls → list_any (λ (d : Decl). are_wrong_dims d.dims) decls ≡ false
right_bare [] all = refl
right_bare (d ∷ decls) all = grind (arith, elements, All-first, right_dims, All-nil, ints, All-rest, right_bare decls (All-rest IsBare d decls all))

module _ (q : Program) (flat : List FlatLine) (given : CanBeText q flat) where
  abbrev stmts : List Labelled
  stmts = statements_read q flat

  abbrev HasBare : Stmt → Type 0
  HasBare s = All IsBare (declarators s)

  bare_or : (k : ℕ) (s : Labelled) → slice_get stmts k ≡ Some s → HasBare s.stmt ⊎ TypesName q k s
  bare_or =
      let HasBareText : WrittenStatement → Type 0 = λ w. All IsBare (declarators (statement_of w)) in
      named_or q flat HasBare
      (All-append HasBareText (commons q.commons) (map group_statement q.groups ++ map init_statement q.inits) (commons_each HasBareText q.commons (bare_block q.commons))
      (All-append HasBareText (map group_statement q.groups) (map init_statement q.inits) (mapped_each HasBareText group_statement q.groups (λ group. All-nil IsBare)) (mapped_each HasBareText init_statement q.inits (λ part. All-nil IsBare))))
      (λ place s is. subst HasBare (sym is.stmt) (subst (All IsBare) (sym (holds_of_read (λ t. declarators t ≡ []) q.names (declares_nothing q.names) is.l.stmt)) (All-nil IsBare)))

  -- ---- dimensions

  pub none_wrong_dims : first_line (λ above s. has_wrong_dims s) (statements_read q flat) ≡ None
  none_wrong_dims =
      none_faulty (λ above s. has_wrong_dims s) stmts (λ k s is.
      ⊎_elim
      (λ (bare : HasBare s.stmt). right_bare (declarators s.stmt) bare)
      (λ (typed : TypesName q k s).
      let of = (All-get IsNameInfo q.names k typed.info given.declarations.table typed.there).dimensions in
      ap (λ t. list_any (λ (d : Decl). are_wrong_dims d.dims) (declarators t)) typed.stmt
      ∙ ap (λ dims. are_wrong_dims dims || false) (dims_again typed.info.dims of.bounds)
      ∙ ap (λ b. b || false) (right_dims typed.info.dims of))
      (bare_or k s is))

  abbrev arrays_in : Labelled → List (List ℕ)
  arrays_in a = dimensioned a.stmt

  names_if : (b : Bool) (d : Decl) → map (λ (e : Decl). e.name) (cond b (d ∷ []) []) ≡ cond b (d.name ∷ []) []
  names_if true d = refl
  names_if false d = refl

  any_if : (b : Bool) (name other : List ℕ) → bytes_eq name other ≡ false → list_any (bytes_eq name) (cond b (other ∷ []) []) ≡ false
  any_if true name other apart = ap (λ c. c || false) apart
  any_if false name other apart = refl

  -- a name stands in one statement of the table's alone
  apart : (j k : ℕ) (a b : NameInfo) → j < k → slice_get q.names j ≡ Some a → slice_get q.names k ≡ Some b → bytes_eq b.name a.name ≡ false
  apart j k a b lt is_a is_b = grind (arith, elements, bytes_eq-same)

  arrays_of : (info : NameInfo) → dimensioned (statement_of (typed_name info)) ≡ cond (has_dims (declared_name info)) (info.name ∷ []) []
  arrays_of info = names_if (has_dims (declared_name info)) (declared_name info)

  not_above : (j k : ℕ) (a : Labelled) (info : NameInfo) → j < k → slice_get q.names k ≡ Some info → slice_get stmts j ≡ Some a → list_any (bytes_eq info.name) (arrays_in a) ≡ false
  not_above j k a info lt there is =
      ⊎_elim
      (λ (bare : HasBare a.stmt). ap (list_any (bytes_eq info.name)) (none_bare (declarators a.stmt) bare))
      (λ (typed : TypesName q j a).
      ap (λ t. list_any (bytes_eq info.name) (dimensioned t)) typed.stmt
      ∙ ap (list_any (bytes_eq info.name)) (arrays_of typed.info)
      ∙ any_if (has_dims (declared_name typed.info)) info.name typed.info.name (apart j k typed.info info lt typed.there there))
      (bare_or j a is)

  repeat_if : (b : Bool) (seen : List (List ℕ)) (name : List ℕ) → list_any (bytes_eq name) seen ≡ false → has_repeat bytes_eq seen (cond b (name ∷ []) []) ≡ false
  repeat_if true seen name none = ap (λ c. c || false) none
  repeat_if false seen name none = refl

  pub none_dims_twice : first_line has_dims_twice (statements_read q flat) ≡ None
  none_dims_twice =
      none_faulty has_dims_twice stmts (λ k s is.
      let seen = flat_map arrays_in (take k stmts) in
      ⊎_elim
      (λ (bare : HasBare s.stmt). ap (has_repeat bytes_eq seen) (none_bare (declarators s.stmt) bare))
      (λ (typed : TypesName q k s).
      ap (λ t. has_repeat bytes_eq seen (dimensioned t)) typed.stmt
      ∙ ap (has_repeat bytes_eq seen) (arrays_of typed.info)
      ∙ repeat_if (has_dims (declared_name typed.info)) seen typed.info.name (none_above_flat (bytes_eq typed.info.name) arrays_in stmts k (λ j a lt there. not_above j k a typed.info lt typed.there there)))
      (bare_or k s is))

-- ---- members of EQUIVALENCE and items of DATA

subs_again : (subs : List ℤ) → All CanBeWritten subs → map whole_number (map signed subs) ≡ subs
subs_again [] all = refl
subs_again (z ∷ subs) all = ap (λ x. x ∷ map whole_number (map signed subs)) (number_again z (All-first CanBeWritten z subs all)) ∙ ap (λ xs. z ∷ xs) (subs_again subs (All-rest CanBeWritten z subs all))

within_is : (dims : List Dim) (subs : List ℤ) → AreWithin dims subs → are_within dims subs ≡ true
within_is [] [] within = refl
within_is [] (sub ∷ subs) within = absurd within
within_is (dim ∷ dims) [] within = absurd within
within_is (dim ∷ dims) (sub ∷ subs) within = grind (arith, elements, ints, and_from, within_is dims subs within.2)

module _ (names : List NameInfo) (table : All IsNameInfo names) where
  pub member_again : (m : Member) → IsMember names m → member_of (written_member m) ≡ m
  member_again m is = ap (λ subs. let made : Member = record { name = m.name; subs = subs } in made) (subs_again m.subs (subs_written names table m is))

  abbrev wrong : Member → Bool
  wrong m = not (is_member (without_places names) m)

  right_member : (m : Member) → IsMember names m → wrong m ≡ false
  right_member m is = grind (arith, elements, bare-index, bare-dims, within_is)

  right_members : (ms : List Member) → All (IsMember names) ms → list_any wrong (map member_of (map written_member ms)) ≡ false
  right_members [] all = refl
  right_members (m ∷ ms) all =
      grind (arith, elements, All-first, member_again, right_member, All-rest, right_members ms (All-rest (IsMember names) m ms all))

  alone : (ms : List Member) → All (IsMember names) ms → list_any wrong (map member_of (map written_member ms) ++ []) ≡ false
  alone ms all = list_any-append wrong (map member_of (map written_member ms)) [] ∙ ap (λ b. b || false) (right_members ms all)

has_no_members : (names : List NameInfo) → HoldsOfRead (λ s. members_of s ≡ []) names
has_no_members names = grind (arith, elements)

module _ (q : Program) (flat : List FlatLine) (given : CanBeText q flat) (free : HasNoPrintedArrays q.names) where
  abbrev HasRight : Stmt → Type 0
  HasRight s = list_any (wrong q.names given.declarations.table) (members_of s) ≡ false

  right_or : (k : ℕ) (s : Labelled) → slice_get (statements_read q flat) k ≡ Some s → HasRight s.stmt ⊎ TypesName q k s
  right_or =
      let HasRightText : WrittenStatement → Type 0 = λ w. HasRight (statement_of w) in
      let table = given.declarations.table in
      named_or q flat HasRight
      (All-append HasRightText (commons q.commons) (map group_statement q.groups ++ map init_statement q.inits) (commons_each HasRightText q.commons (λ block. refl))
      (All-append HasRightText (map group_statement q.groups) (map init_statement q.inits)
      (All-map HasRightText group_statement q.groups (λ k d lt. alone q.names table _ (given.declarations.equivalence k d lt).members))
      (All-map HasRightText init_statement q.inits (λ k d lt. alone q.names table _ (given.declarations.init k d lt).members))))
      (λ place s is. ap (λ t. list_any (wrong q.names table) (members_of t)) is.stmt ∙ ap (list_any (wrong q.names table)) (holds_of_read (λ t. members_of t ≡ []) q.names (has_no_members q.names) is.l.stmt))

  pub none_wrong_member : first_line (λ above s. has_wrong_member (names_of (statements_read q flat)) s) (statements_read q flat) ≡ None
  none_wrong_member =
      none_faulty (λ above s. has_wrong_member (names_of (statements_read q flat)) s) (statements_read q flat) (λ k s is.
      ap (λ names. list_any (λ (m : Member). not (is_member names m)) (members_of s.stmt)) (table_same q flat given free)
      ∙ ⊎_elim
      (λ (right : HasRight s.stmt). right)
      (λ (typed : TypesName q k s). ap (λ t. list_any (wrong q.names given.declarations.table) (members_of t)) typed.stmt)
      (right_or k s is))
