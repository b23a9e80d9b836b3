-- The table of names of a printed program is its own, but for places: its names appear first, in the declarations of their kinds, and
-- no other name appears.
use Rattle.std.proofs.Common.{◌≡◌, ℕ, zero, suc, ◌+◌, ◌<◌, ◌≤◌, Bool, true, false, cond, not, List, [], ◌∷◌, ◌++◌, length, map, fold, filter, ◌==◌, nat_lt, refl, sym, ap, ◌∙◌, subst, ⊎_elim, arith, Option, Some, None, append-nil, append_assoc}
use Rattle.std.specs.Prelude.{All, bytes_eq, flat_map, slice_get}
use Rattle.std.specs.List.{list_any}
use Rattle.std.specs.Option.{is_some}
use Rattle.std.proofs.lemmas.Bool.{cases_Bool}
use Rattle.std.proofs.lemmas.List.{length-map, map-append}
use Rattle.std.proofs.lemmas.List.Concat.{flat_map-append}
use Rattle.std.proofs.lemmas.List.Elements.{All-append}
use Rattle.std.proofs.lemmas.List.Sums.{fold-append}
use Rattle.std.proofs.lemmas.Map.Keys.{any_passes_from_place}
use Rattle.std.proofs.lemmas.Slice.Eq.{bytes_eq-Decides}
use Rattle.f77_tree.specs.declared.declarations.CommonPart.{CommonPart}
use Rattle.f77_tree.specs.declared.declarations.Decl.{Decl}
use Rattle.f77_tree.specs.declared.declarations.InitPart.{InitPart}
use Rattle.f77_tree.specs.declared.declarations.Kind.TheVariants.{Integer}
use Rattle.f77_tree.specs.declared.declarations.Dim.{Dim}
use Rattle.f77_tree.specs.declared.declarations.Member.{Member}
use Rattle.f77_tree.specs.declared.expressions.Access.{Access}
use Rattle.f77_tree.specs.declared.expressions.Expr.{Expr}
use Rattle.f77_tree.specs.declared.expressions.Expr.TheVariants.{Read}
use Rattle.f77_tree.specs.declared.programs.Item.{Item}
use Rattle.f77_tree.specs.declared.programs.Item.TheVariants.{Value, Chars}
use Rattle.f77_tree.specs.declared.programs.NameInfo.{NameInfo}
use Rattle.f77_tree.specs.declared.programs.Program.{Program}
use Rattle.f77_tree.specs.declared.statements.Labelled.{Labelled}
use Rattle.f77_tree.specs.declared.statements.Stmt.TheVariants.{GoTo}
use Rattle.f77_tree.specs.Declarations.{NamesDiffer, index_of, IsCommonName, IsCommonPart, IsMember, IsGroup}
use Rattle.f77_tree.specs.Execution.{words_taken}
use Rattle.f77_tree.specs.InitialWords.{IsInitPart}
use Rattle.f77_tree.specs.Kinds.{IsProper, IsOfKind, IsAssignment}
use Rattle.f77_tree.specs.OtherPlaces.{without_places}
use Rattle.f77_tree.specs.StatementGrammar.{WrittenStatement, statement_of, decl_of, member_of}
use Rattle.f77_tree.specs.Value.{dims_of as dims_at, dims_in, kind_of as kind_at, kind_in}
use Rattle.f77_tree.specs.WellFormed.{IsProperItem, IsDo}
use Rattle.f77_tree.proofs.AllLemmas.{All-nil, All-cons, All-first, All-rest, All-get}
use Rattle.f77_tree.proofs.Equations.{All-filter}
use Rattle.f77_tree.proofs.NameLemmas.{bytes_eq-same, index_of-name}
use Rattle.f77_expr.specs.Printing.{name_in, name_at, raw_form}
use Rattle.layout_rules.specs.Appearances.{names_in, names_in_item, names_if_any, appearing, with_name, each_once, all_names, has_real_name}
use Rattle.layout_rules.specs.Declarations.{is_array, kind_of, dims_of}
use Rattle.layout_rules.specs.Executables.{kind_or_integer}
use Rattle.layout_rules.specs.Faults.{first_line}
use Rattle.layout_rules.specs.Layout.{name_info, names_of}
use Rattle.layout_rules.specs.Types.{is_array_in}
use Rattle.layout_rules.proofs.FlatParts.{each_part}
use Rattle.layout_rules.proofs.NamesOf.{appearing-ThenIf}
use Rattle.flat_programs.specs.declared.statements.Flat.{Flat}
use Rattle.flat_programs.specs.declared.statements.Flat.TheVariants.{Mark, Assignment, Output, LogicalIf, ArithmeticIf, ComputedGoTo, DoLoop, Jump, Finish}
use Rattle.flat_programs.specs.declared.statements.FlatLine.{FlatLine}
use Rattle.flat_programs.specs.Declarations.{typed_name, same_block, name_alone, block_decls, block_statement, group_statement, init_statement, written_member}
use Rattle.flat_programs.specs.FlatForm.{IsProperFlat, HasNumbers}
use Rattle.flat_programs.specs.Marks.{mark_count}
use Rattle.flat_programs.specs.Shown.{is_one, shown}
use Rattle.read_back.specs.PrintedArrays.{HasNoPrintedArrays}
use Rattle.read_back.specs.PrintedStatements.{CanBeText, declaration}
use Rattle.read_back.specs.SourceStatements.{statements_read}
use Rattle.read_back.proofs.DeclaredEach.{commons_each}
use Rattle.read_back.proofs.DeclaredTable.{dims_same, kind_same}
use Rattle.read_back.proofs.FirstFaults.{none_faulty, none_passes}
use Rattle.read_back.proofs.NamedForms.{AreFree, IsKnown, names_known, known_at}
use Rattle.read_back.proofs.PrintedKinds.{index-name}
use Rattle.read_back.proofs.PrintedLabels.{marks_few}
use Rattle.read_back.proofs.PrintedPlaces.{get_some, got_within, get-map}
use Rattle.read_back.proofs.ReadForms.{item_form, step_form, assigned_form, read_form, form_is}
use Rattle.read_back.proofs.ShownForms.{value_proper}
use Rattle.read_back.proofs.StatementParts.{read_stmt, after_names, parts_of_all, after_each}
use Rattle.std.proofs.lemmas.Grind.{elements}

-- ---- lists

all_from_get : {X : Type 0} (P : X → Type 0) (xs : List X) → ((k : ℕ) (x : X) → slice_get xs k ≡ Some x → P x) → All P xs
all_from_get P [] each = All-nil P
all_from_get P (x ∷ xs) each = All-cons P x xs (each 0 x refl) (all_from_get P xs (λ k y is. each (suc k) y is))

map_same : {X Y : Type 0} (f g : X → Y) (xs : List X) → ((k : ℕ) (x : X) → slice_get xs k ≡ Some x → f x ≡ g x) → map f xs ≡ map g xs
map_same f g [] same = refl
map_same f g (x ∷ xs) same = ap (λ y. y ∷ map f xs) (same 0 x refl) ∙ ap (λ ys. g x ∷ ys) (map_same f g xs (λ k y is. same (suc k) y is))

map_twice : {X Y Z : Type 0} (f : Y → Z) (g : X → Y) (xs : List X) → map f (map g xs) ≡ map (λ x. f (g x)) xs
map_twice f g [] = refl
map_twice f g (x ∷ xs) = ap (λ zs. f (g x) ∷ zs) (map_twice f g xs)

-- ---- each name once

abbrev named : NameInfo → List ℕ
named info = info.name

-- a name of the table is among its names
listed : (names : List NameInfo) (name : List ℕ) → IsKnown names name → list_any (bytes_eq name) (map named names) ≡ true
listed names name lt =
    let found = get_some names (index_of names name) lt in
    let same : found.0.name ≡ name = ap name_in (sym found.1) ∙ index_of-name names name lt in
    any_passes_from_place (bytes_eq name) (map named names) (index_of names name) found.0.name (get-map named names (index_of names name) found.0 found.1) ((bytes_eq-Decides name found.0.name).1 (sym same))

nothing_new : (seen names : List (List ℕ)) → All (λ name. list_any (bytes_eq name) seen ≡ true) names → fold with_name seen names ≡ seen
nothing_new seen [] all = refl
nothing_new seen (name ∷ names) all =
    ap (λ b. fold with_name (cond b seen (seen ++ name ∷ [])) names) (All-first (λ n. list_any (bytes_eq n) seen ≡ true) name names all)
    ∙ nothing_new seen names (All-rest (λ n. list_any (bytes_eq n) seen ≡ true) name names all)

unseen : (front back : List NameInfo) (x : NameInfo) → NamesDiffer (front ++ x ∷ back) → list_any (bytes_eq x.name) (map named front) ≡ false
unseen front back x differ =
    none_passes (bytes_eq x.name) (map named front) (λ j y is.
    let size = length-map front named in
    let within = got_within (map named front) j y is in
    let less : j < length front = omega (arith, within, size) in
    let found = get_some front j less in
    let some : Some found.0.name ≡ Some y = sym (get-map named front j found.0 found.1) ∙ is in
    let name : found.0.name ≡ y = cc in
    ⊎_elim
    (λ (same : bytes_eq x.name y ≡ true).
    let e : 0 + length front ≡ length front = omega arith in
    let here : slice_get (front ++ x ∷ back) (length front) ≡ Some x = at_end front back x in
    let there : slice_get (front ++ x ∷ back) j ≡ Some found.0 = at_front front (x ∷ back) j less ∙ found.1 in
    let at : j ≡ length front = differ j (length front) found.0 x there here (name ∙ sym (bytes_eq-same x.name y same)) in
    absurd (omega (arith, at, less)))
    (λ (other : bytes_eq x.name y ≡ false). other)
    (cases_Bool (bytes_eq x.name y)))
  where
    at_end : (xs ys : List NameInfo) (z : NameInfo) → slice_get (xs ++ z ∷ ys) (length xs) ≡ Some z
    at_end [] ys z = refl
    at_end (w ∷ xs) ys z = at_end xs ys z

    at_front : (xs ys : List NameInfo) (k : ℕ) → k < length xs → slice_get (xs ++ ys) k ≡ slice_get xs k
    at_front [] ys k lt = absurd (omega (arith, lt))
    at_front (w ∷ xs) ys zero lt = refl
    at_front (w ∷ xs) ys (suc k) lt = at_front xs ys k (omega (arith, lt))

once_from : (front back : List NameInfo) → NamesDiffer (front ++ back) → fold with_name (map named front) (map named back) ≡ map named (front ++ back)
once_from front [] differ = ap (map named) (sym (append-nil front))
once_from front (x ∷ back) differ =
    let moved = append_assoc front (x ∷ []) back in
    ap (λ b. fold with_name (cond b (map named front) (map named front ++ x.name ∷ [])) (map named back)) (unseen front back x differ)
    ∙ ap (λ seen. fold with_name seen (map named back)) (sym (map-append named front (x ∷ [])))
    ∙ once_from (front ++ x ∷ []) back (subst NamesDiffer (sym moved) differ)
    ∙ ap (map named) moved

-- ---- names of the declarations

module _ (names : List NameInfo) where
  abbrev AllKnown : List (List ℕ) → Type 0
  AllKnown = All (IsKnown names)

  known_decls : (decls : List Decl) → All (IsCommonName names) decls → AllKnown (map (λ (d : Decl). d.name) (map decl_of (map name_alone decls)))
  known_decls [] all = All-nil (IsKnown names)
  known_decls (d ∷ decls) all =
      All-cons (IsKnown names) d.name (map (λ (e : Decl). e.name) (map decl_of (map name_alone decls))) (All-first (IsCommonName names) d decls all).known (known_decls decls (All-rest (IsCommonName names) d decls all))

  known_parts : (parts : List CommonPart) → All (IsCommonPart names) parts → AllKnown (map (λ (d : Decl). d.name) (map decl_of (flat_map (λ (part : CommonPart). map name_alone part.decls) parts)))
  known_parts [] all = All-nil (IsKnown names)
  known_parts (part ∷ parts) all =
      let front = map name_alone part.decls in
      let rest = flat_map (λ (p : CommonPart). map name_alone p.decls) parts in
      let split = ap (map (λ (d : Decl). d.name)) (map-append decl_of front rest) ∙ map-append (λ (d : Decl). d.name) (map decl_of front) (map decl_of rest) in
      subst AllKnown (sym split) (All-append (IsKnown names) (map (λ (d : Decl). d.name) (map decl_of front)) (map (λ (d : Decl). d.name) (map decl_of rest)) (known_decls part.decls (All-first (IsCommonPart names) part parts all).names_known) (known_parts parts (All-rest (IsCommonPart names) part parts all)))

  known_members : (ms : List Member) → All (IsMember names) ms → AllKnown (map (λ (m : Member). m.name) (map member_of (map written_member ms)))
  known_members [] all = All-nil (IsKnown names)
  known_members (m ∷ ms) all =
      All-cons (IsKnown names) m.name (map (λ (n : Member). n.name) (map member_of (map written_member ms))) (All-first (IsMember names) m ms all).known (known_members ms (All-rest (IsMember names) m ms all))

  module _ (arrays : List ℕ → Bool) where
    abbrev Knows : WrittenStatement → Type 0
    Knows w = AllKnown (appearing arrays (statement_of w))

    known_block : (parts : List CommonPart) → All (IsCommonPart names) parts → (block : Option (List ℕ)) → Knows (block_statement parts block)
    known_block parts all block =
        All-append (IsKnown names) (map (λ (d : Decl). d.name) (map decl_of (block_decls parts block))) [] (known_parts (filter (λ part. same_block part.block block) parts) (All-filter (IsCommonPart names) (λ part. same_block part.block block) parts all)) (All-nil (IsKnown names))

    known_group : (group : List Member) → IsGroup names group → Knows (group_statement group)
    known_group group is = All-append (IsKnown names) (map (λ (m : Member). m.name) (map member_of (map written_member group))) [] (known_members group is.members) (All-nil (IsKnown names))

    known_init : (part : InitPart) → IsInitPart names part → Knows (init_statement part)
    known_init part is = All-append (IsKnown names) (map (λ (m : Member). m.name) (map member_of (map written_member part.items))) [] (known_members part.items is.members) (All-nil (IsKnown names))

-- ---- names of flat statements

module _ (names : List NameInfo) (differ : NamesDiffer names) (arrays : List ℕ → Bool) (free : AreFree arrays) where
  known : (e : Expr) → IsProper names e → All (IsKnown names) (names_in arrays (raw_form names e))
  known e proper = names_known names differ arrays free e proper

  known_assigned : (takes : Bool) (target : Access) (value : Expr) → IsAssignment names target value → (words_taken value == 1) ≡ takes → All (IsKnown names) (appearing arrays (assigned_form names takes target value))
  known_assigned true target value is takes = All-append (IsKnown names) (names_in arrays (raw_form names (Read target))) [] (known (Read target) is.access) (All-nil (IsKnown names))
  known_assigned false target value is takes =
      All-append (IsKnown names) (names_in arrays (raw_form names (Read target))) (names_in arrays (raw_form names value)) (known (Read target) is.access) (known value (value_proper names target value is takes))

  known_item : (item : Item) → IsProperItem names item → All (IsKnown names) (names_in_item arrays (item_form names item))
  known_item (Value e) proper = known e proper
  known_item (Chars text) proper = All-nil (IsKnown names)

  known_items : (items : List Item) → All (IsProperItem names) items → All (IsKnown names) (flat_map (names_in_item arrays) (map (item_form names) items))
  known_items [] all = All-nil (IsKnown names)
  known_items (item ∷ items) all =
      All-append (IsKnown names) (names_in_item arrays (item_form names item)) (flat_map (names_in_item arrays) (map (item_form names) items)) (known_item item (All-first (IsProperItem names) item items all)) (known_items items (All-rest (IsProperItem names) item items all))

  known_step : (step : Expr) (one : Bool) → IsProper names step → All (IsKnown names) (names_if_any arrays (cond one None (Some (raw_form names step))))
  known_step step true proper = All-nil (IsKnown names)
  known_step step false proper = known step proper

  known_loop : (end var : ℕ) (first last step : Expr) → IsDo names var (first ∷ last ∷ step ∷ []) → All (IsKnown names) (appearing arrays (read_form names (DoLoop end var first last step)))
  known_loop end var first last step of =
      let integer = IsOfKind names Integer in
      let a = All-first integer first (last ∷ step ∷ []) of.integers in
      let later = All-rest integer first (last ∷ step ∷ []) of.integers in
      let b = All-first integer last (step ∷ []) later in
      let c = All-first integer step [] (All-rest integer last (step ∷ []) later) in
      let x = names_in arrays (raw_form names first) in
      let y = names_in arrays (raw_form names last) in
      let z = names_if_any arrays (step_form names step) in
      All-cons (IsKnown names) (name_at names var) (x ++ y ++ z) (known_at names differ arrays free var of.variable.known)
      (All-append (IsKnown names) (x ++ y) z (All-append (IsKnown names) x y (known first a.proper) (known last b.proper)) (known_step step (is_one step) c.proper))

  known_form : (stmt : Flat) → IsProperFlat names stmt → All (IsKnown names) (appearing arrays (read_form names stmt))
  known_form Mark proper = All-nil (IsKnown names)
  known_form (Assignment target value) proper = known_assigned (words_taken value == 1) target value proper refl
  known_form (Output items) proper = known_items items proper
  known_form (LogicalIf condition target) proper =
      subst (All (IsKnown names)) (sym (appearing-ThenIf arrays (raw_form names condition) (GoTo target))) (All-append (IsKnown names) (names_in arrays (raw_form names condition)) [] (known condition proper.proper) (All-nil (IsKnown names)))
  known_form (ArithmeticIf value below at above) proper = known value proper.proper
  known_form (ComputedGoTo value targets) proper = known value proper.0.proper
  known_form (DoLoop end var first last step) proper = known_loop end var first last step proper
  known_form (Jump target) proper = All-nil (IsKnown names)
  known_form Finish proper = All-nil (IsKnown names)

-- ---- the whole program

module _ (q : Program) (flat : List FlatLine) (given : CanBeText q flat) (free : HasNoPrintedArrays q.names) where
  abbrev stmts : List Labelled
  stmts = statements_read q flat

  abbrev arrays : List ℕ → Bool
  arrays = is_array stmts

  pub dims_are : (name : List ℕ) → dims_of stmts name ≡ dims_at q.names (index_of q.names name)
  dims_are name = dims_same q flat given.declarations.table given.declarations.differ name

  arrays_same : (name : List ℕ) → is_array stmts name ≡ is_array_in q.names name
  arrays_same name = ap (λ (dims : List Dim). nat_lt 0 (length dims)) (dims_are name)

  arrays_free : AreFree arrays
  arrays_free = grind (arith, elements, arrays_same)

  flat_few : length flat ≤ 4000
  flat_few = let few = given.few in omega (arith, few)

  pub flat_form : (place : ℕ) (l : FlatLine) → slice_get flat place ≡ Some l → statement_of (shown q.names l.stmt) ≡ read_form q.names l.stmt
  flat_form place l there =
      form_is q.names given.declarations.table (mark_count flat) (marks_few q flat given.form flat_few) l.stmt (All-get (λ (k : FlatLine). IsProperFlat q.names k.stmt) flat place l given.proper there) (All-get (λ (k : FlatLine). HasNumbers (mark_count flat) k.stmt) flat place l given.form.numbered there)

  abbrev other_names : List (List ℕ)
  other_names = flat_map (λ s. appearing arrays (read_stmt s)) (after_names q flat)

  others_known : All (IsKnown q.names) other_names
  others_known =
      let are = given.declarations in
      let knows = Knows q.names arrays in
      after_each (IsKnown q.names) (appearing arrays) q flat
      (commons_each knows q.commons (known_block q.names arrays q.commons are.common))
      (λ k d lt. known_group q.names arrays _ (are.equivalence k d lt))
      (λ k d lt. known_init q.names arrays _ (are.init k d lt))
      (λ place l there. subst (λ stmt. All (IsKnown q.names) (appearing arrays stmt)) (sym (flat_form place l there)) (known_form q.names are.differ arrays arrays_free l.stmt (All-get (λ (k : FlatLine). IsProperFlat q.names k.stmt) flat place l given.proper there)))

  typed-names : (names : List NameInfo) → flat_map (λ s. appearing arrays (read_stmt s)) (map declaration (map typed_name names)) ≡ map named names
  typed-names [] = refl
  typed-names (info ∷ names) = ap (λ ns. info.name ∷ ns) (typed-names names)

  appearing_all : flat_map (λ (s : Labelled). appearing arrays s.stmt) stmts ≡ map named q.names ++ other_names
  appearing_all =
      parts_of_all (appearing arrays) q flat
      ∙ flat_map-append (λ s. appearing arrays (read_stmt s)) (map declaration (map typed_name q.names)) (after_names q flat)
      ∙ ap (λ ns. ns ++ other_names) (typed-names q.names)

  all_names_are : all_names stmts ≡ map named q.names
  all_names_are =
      ap each_once appearing_all
      ∙ fold-append with_name [] (map named q.names) other_names
      ∙ ap (λ seen. fold with_name seen other_names) (once_from [] q.names given.declarations.differ)
      ∙ nothing_new (map named q.names) other_names (λ k d lt. listed q.names _ (others_known k d lt))

  own_known : All (IsKnown q.names) (map named q.names)
  own_known =
      all_from_get (IsKnown q.names) (map named q.names) (λ k name is.
      let size = length-map q.names named in
      let within = got_within (map named q.names) k name is in
      let lt : k < length q.names = omega (arith, within, size) in
      let found = get_some q.names k lt in
      let some : Some found.0.name ≡ Some name = sym (get-map named q.names k found.0 found.1) ∙ is in
      let same : name_at q.names k ≡ name = ap name_in found.1 ∙ cc in
      subst (IsKnown q.names) same (known_at q.names given.declarations.differ arrays arrays_free k lt))

  all_known : All (IsKnown q.names) (flat_map (λ (s : Labelled). appearing arrays s.stmt) stmts)
  all_known = subst (All (IsKnown q.names)) (sym appearing_all) (All-append (IsKnown q.names) (map named q.names) other_names own_known others_known)

  info_same : (k : ℕ) (info : NameInfo) → slice_get q.names k ≡ Some info → name_info stmts info.name ≡ record info { place = 0 }
  info_same k info is =
      let lt = got_within q.names k info is in
      let named_at : name_at q.names k ≡ info.name = ap name_in is in
      let at : index_of q.names info.name ≡ k = ap (index_of q.names) (sym named_at) ∙ index-name q.names k given.declarations.differ lt in
      let kind : kind_of stmts info.name ≡ Some info.kind = kind_same q flat given.declarations.table given.declarations.differ info.name (omega (arith, at, lt)) ∙ ap (λ j. Some (kind_at q.names j)) at ∙ ap (λ found. Some (kind_in found)) is in
      let dims : dims_of stmts info.name ≡ info.dims = dims_are info.name ∙ ap (dims_at q.names) at ∙ ap dims_in is in
      ap (λ found. let made : NameInfo = record { name = info.name; kind = kind_or_integer found; dims = dims_of stmts info.name; place = 0 } in made) kind
      ∙ ap (λ found. let made : NameInfo = record { name = info.name; kind = info.kind; dims = found; place = 0 } in made) dims

  -- the table of the statements is that of the program, but for places
  pub table_same : names_of stmts ≡ without_places q.names
  table_same = grind (arith, elements, all_names_are, map_twice, map_same, info_same)

  pub none_real : first_line (has_real_name (statements_read q flat)) (statements_read q flat) ≡ None
  none_real =
      let real : List ℕ → Bool = λ name. not (is_some (kind_of stmts name)) in
      none_faulty (has_real_name stmts) stmts (λ k s is.
      let mine = All-get (λ (t : Labelled). All (IsKnown q.names) (appearing arrays t.stmt)) stmts k s (each_part (IsKnown q.names) (λ (t : Labelled). appearing arrays t.stmt) stmts all_known) is in
      none_passes real (appearing arrays s.stmt) (λ j name there. ap (λ found. not (is_some found)) (kind_same q flat given.declarations.table given.declarations.differ name (All-get (IsKnown q.names) (appearing arrays s.stmt) j name mine there))))
