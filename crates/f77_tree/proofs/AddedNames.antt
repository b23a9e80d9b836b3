-- Names after those of a table leave what declarations and executables say of it.
use Rattle.std.proofs.Common.{◌≡◌, ℕ, suc, ◌+◌, ◌<◌, ℤ, nat_abs, Bool, true, false, cond, not, List, [], ◌∷◌, ◌++◌, length, get_or, map, flat_map, All, Option, Some, slice_get, ◌⊎◌, inl, inr, refl, sym, ap, subst, ◌∙◌, arith, length-append}
use Rattle.std.specs.Prelude.{bytes_eq}
use Rattle.std.proofs.lemmas.Int.{ints}
use Rattle.std.proofs.lemmas.List.Elements.{All-append}
use Rattle.f77_tree.specs.declared.declarations.CommonPart.{CommonPart}
use Rattle.f77_tree.specs.declared.declarations.Decl.{Decl}
use Rattle.f77_tree.specs.declared.declarations.Dim.{Dim}
use Rattle.f77_tree.specs.declared.declarations.InitPart.{InitPart}
use Rattle.f77_tree.specs.declared.declarations.Kind.{Kind}
use Rattle.f77_tree.specs.declared.declarations.Kind.TheVariants.{Integer}
use Rattle.f77_tree.specs.declared.declarations.Member.{Member}
use Rattle.f77_tree.specs.declared.expressions.Access.{Access}
use Rattle.f77_tree.specs.declared.expressions.Expr.{Expr, Row_of-Expr, end_of-Expr, more_of-Expr}
use Rattle.f77_tree.specs.declared.expressions.Expr.TheVariants.{Const, Truth, Input, Read, Read', Apply'}
use Rattle.f77_tree.specs.declared.programs.ExecKind.{ExecKind}
use Rattle.f77_tree.specs.declared.programs.ExecKind.TheVariants.{Assign, Print, Pass, Test, Sign, Pick, DoStart, DoNext, End}
use Rattle.f77_tree.specs.declared.programs.Item.{Item}
use Rattle.f77_tree.specs.declared.programs.Item.TheVariants.{Value, Chars}
use Rattle.f77_tree.specs.declared.programs.NameInfo.{NameInfo}
use Rattle.f77_tree.specs.AddedNames.{AreNewScalars}
use Rattle.f77_tree.specs.Declarations.{AreDims, AreWithin, IsNameInfo, IsMember, IsGroup, IsCommonName, IsCommonPart, IsIntegerScalar, member_index, member_offset, offset_of, index_of, part_names}
use Rattle.f77_tree.specs.InitialWords.{IsInitPart, item_words, item_kinds, part_words, given_words, words_at, words_from}
use Rattle.f77_tree.specs.Kinds.{IsProper, AllOfKind, IsOfKind, IsAssignment, taken_as, operand_kind}
use Rattle.f77_tree.specs.Line.{kind_of_expression}
use Rattle.f77_tree.specs.Value.{place_in, kind_in, dims_in, place_of, kind_of, dims_of, size_of}
use Rattle.f77_tree.specs.WellFormed.{AreDeclarations, IsExecutable, IsProperItem}
use Rattle.f77_tree.proofs.AllLemmas.{All-nil, All-first, All-rest, get-longer}

-- ---- lists that are the same where each item gives the same

pub map-same : {X Y : Type 0} (P : X → Type 0) (f g : X → Y) → ((x : X) → P x → f x ≡ g x) → (xs : List X) → All P xs → map f xs ≡ map g xs
map-same P f g same [] all = refl
map-same P f g same (x ∷ xs) all = ap (λ y. y ∷ map f xs) (same x (All-first P x xs all)) ∙ ap (λ ys. g x ∷ ys) (map-same P f g same xs (All-rest P x xs all))

pub flat-same : {X Y : Type 0} (P : X → Type 0) (f g : X → List Y) → ((x : X) → P x → f x ≡ g x) → (xs : List X) → All P xs → flat_map f xs ≡ flat_map g xs
flat-same P f g same [] all = refl
flat-same P f g same (x ∷ xs) all = ap (λ ys. ys ++ flat_map f xs) (same x (All-first P x xs all)) ∙ ap (λ ys. g x ++ ys) (flat-same P f g same xs (All-rest P x xs all))

-- no number stands twice
abbrev Once : List ℕ → Type 0
Once xs = (j k x : ℕ) → slice_get xs j ≡ Some x → slice_get xs k ≡ Some x → j ≡ k

-- ---- names

index-by : (test : Bool) (a b n : ℕ) → (a < n → b ≡ a) → cond (not test) (1 + a) 0 < suc n → cond (not test) (1 + b) 0 ≡ cond (not test) (1 + a) 0
index-by true a b n same lt = refl
index-by false a b n same lt = ap (λ k. 1 + k) (same (omega (arith, lt)))

pub index-longer : (names more : List NameInfo) (name : List ℕ) → index_of names name < length names → index_of (names ++ more) name ≡ index_of names name
index-longer [] more name lt = absurd (omega (arith, lt))
index-longer (info ∷ names) more name lt = index-by (bytes_eq info.name name) (index_of names name) (index_of (names ++ more) name) (length names) (index-longer names more name) lt

module _ (names more : List NameInfo) where
  pub known-longer : (k : ℕ) → k < length names → k < length (names ++ more)
  known-longer k lt = let both = length-append names more in omega (arith, lt, both)

  pub dims-longer : (k : ℕ) → k < length names → dims_of (names ++ more) k ≡ dims_of names k
  dims-longer k lt = ap dims_in (get-longer names more k lt)

  pub place-longer : (k : ℕ) → k < length names → place_of (names ++ more) k ≡ place_of names k
  place-longer k lt = ap place_in (get-longer names more k lt)

  kind-longer : (k : ℕ) → k < length names → kind_of (names ++ more) k ≡ kind_of names k
  kind-longer k lt = ap kind_in (get-longer names more k lt)

  -- the dimensions of a name that is found
  found-dims : (name : List ℕ) → index_of names name < length names → dims_of (names ++ more) (index_of (names ++ more) name) ≡ dims_of names (index_of names name)
  found-dims name lt = ap (dims_of (names ++ more)) (index-longer names more name lt) ∙ dims-longer (index_of names name) lt

  found-known : (name : List ℕ) → index_of names name < length names → index_of (names ++ more) name < length (names ++ more)
  found-known name lt = subst (λ k. k < length (names ++ more)) (sym (index-longer names more name lt)) (known-longer (index_of names name) lt)

  -- ---- members, COMMON and EQUIVALENCE

  member-longer : (m : Member) → IsMember names m → IsMember (names ++ more) m
  member-longer m is = record {
    known = found-known m.name is.known;
    element = subst (λ (dims : List Dim). (m.subs ≡ []) ⊎ AreWithin dims m.subs) (sym (found-dims m.name is.known)) is.element;
  }

  pub offset-longer : (m : Member) → IsMember names m → member_offset (names ++ more) m ≡ member_offset names m
  offset-longer m is = ap (λ (dims : List Dim). offset_of dims m.subs) (found-dims m.name is.known)

  common-longer : (decl : Decl) → IsCommonName names decl → IsCommonName (names ++ more) decl
  common-longer decl is = record {
    known = found-known decl.name is.known;
    dimensions = subst (λ (dims : List Dim). (decl.dims ≡ []) ⊎ (decl.dims ≡ dims)) (sym (found-dims decl.name is.known)) is.dimensions;
  }

  part-longer : (part : CommonPart) → IsCommonPart names part → IsCommonPart (names ++ more) part
  part-longer part is = record { block_name = is.block_name; some = is.some; names_known = λ k d lt. common-longer (get_or part.decls k d) (is.names_known k d lt) }

  pub part_names-longer : (part : CommonPart) → IsCommonPart names part → part_names (names ++ more) part ≡ part_names names part
  part_names-longer part is =
      map-same (IsCommonName names) (λ decl. index_of (names ++ more) decl.name) (λ decl. index_of names decl.name) (λ decl common. index-longer names more decl.name common.known) part.decls is.names_known

  group-longer : (group : List Member) → IsGroup names group → IsGroup (names ++ more) group
  group-longer group is = record { two = is.two; members = λ k d lt. member-longer (get_or group k d) (is.members k d lt) }

  -- ---- DATA

  words-longer : (k : ℕ) (subs : List ℤ) → k < length names → words_at (names ++ more) k subs ≡ words_at names k subs
  words-longer k [] lt = ap (λ (o : Option NameInfo). words_from (place_in o) (nat_abs (size_of (dims_in o)))) (get-longer names more k lt)
  words-longer k (sub ∷ subs) lt = ap (λ (o : Option NameInfo). (place_in o + nat_abs (offset_of (dims_in o) (sub ∷ subs))) ∷ []) (get-longer names more k lt)

  item_words-longer : (item : Member) → IsMember names item → item_words (names ++ more) item ≡ item_words names item
  item_words-longer item is = ap (λ k. words_at (names ++ more) k item.subs) (index-longer names more item.name is.known) ∙ words-longer (member_index names item) item.subs is.known

  item_kinds-longer : (item : Member) → IsMember names item → item_kinds (names ++ more) item ≡ item_kinds names item
  item_kinds-longer item is =
      let kind : kind_of (names ++ more) (member_index (names ++ more) item) ≡ kind_of names (member_index names item) =
      ap (kind_of (names ++ more)) (index-longer names more item.name is.known) ∙ kind-longer (member_index names item) is.known in
      ap (λ (k : Kind). map (λ (word : ℕ). k) (item_words (names ++ more) item)) kind ∙ ap (map (λ (word : ℕ). kind_of names (member_index names item))) (item_words-longer item is)

  init-longer : (part : InitPart) → IsInitPart names part → IsInitPart (names ++ more) part
  init-longer part is = record {
    some_items = is.some_items;
    some_values = is.some_values;
    members = λ k d lt. member-longer (get_or part.items k d) (is.members k d lt);
    written = is.written;
    kinds = flat-same (IsMember names) (item_kinds (names ++ more)) (item_kinds names) item_kinds-longer part.items is.members ∙ is.kinds;
  }

  -- the same words are given values
  pub given-longer : (inits : List InitPart) → All (IsInitPart names) inits → given_words (names ++ more) inits ≡ given_words names inits
  given-longer inits all =
      flat-same (IsInitPart names) (part_words (names ++ more)) (part_words names)
      (λ part is. flat-same (IsMember names) (item_words (names ++ more)) (item_words names) item_words-longer part.items is.members) inits all

  -- ---- the declarations

  scalar-info : (words : ℕ) → AreNewScalars names more words → All IsNameInfo more
  scalar-info words new k d lt = record {
    symbolic = new.symbolic k d lt;
    dimensions = subst AreDims (sym (new.scalars k d lt)) (record { bounds = All-nil _; dimensions = omega arith; elements = omega (arith, ints) });
  }

  pub declarations-longer : (words : ℕ) (commons : List CommonPart) (groups : List (List Member)) (inits : List InitPart) → AreNewScalars names more words → AreDeclarations names commons groups inits → AreDeclarations (names ++ more) commons groups inits
  declarations-longer words commons groups inits new are = record {
    table = All-append IsNameInfo names more are.table (scalar-info words new);
    differ = new.differ;
    common = λ k d lt. part-longer (get_or commons k d) (are.common k d lt);
    common_once = subst Once (sym (flat-same (IsCommonPart names) (part_names (names ++ more)) (part_names names) part_names-longer commons are.common)) are.common_once;
    equivalence = λ k d lt. group-longer (get_or groups k d) (are.equivalence k d lt);
    init = λ k d lt. init-longer (get_or inits k d) (are.init k d lt);
    given_once = subst Once (sym (given-longer inits are.init)) are.given_once;
  }

  -- ---- executables

  expression_kind-longer : (e : Expr) → IsProper names e → kind_of_expression (names ++ more) e ≡ kind_of_expression names e
  expression_kind-longer (Const z) is = refl
  expression_kind-longer (Truth b) is = refl
  expression_kind-longer Input is = refl
  expression_kind-longer (Read' name shape subs) is = kind-longer name is.0
  expression_kind-longer (Apply' op shape args) is = refl

  mutual
    proper-longer : (e : Expr) → IsProper names e → IsProper (names ++ more) e
    proper-longer (Const z) is = is
    proper-longer (Truth b) is = tt
    proper-longer Input is = is
    proper-longer (Read' name shape subs) is = (known-longer name is.0, is.1 ∙ ap length (sym (dims-longer name is.0)), row-longer Integer subs is.2)
    proper-longer (Apply' op shape args) is = (is.0, is.1, row-longer (operand_kind op) args is.2)

    row-longer : {m : _} (kind : Kind) (row : Row_of-Expr m) → AllOfKind names kind row → AllOfKind (names ++ more) kind row
    row-longer kind end_of-Expr all = tt
    row-longer kind (more_of-Expr e rest) all = (proper-longer e all.0, expression_kind-longer e all.0 ∙ all.1, row-longer kind rest all.2)

  of_kind-longer : (kind : Kind) (e : Expr) → IsOfKind names kind e → IsOfKind (names ++ more) kind e
  of_kind-longer kind e is = record { proper = proper-longer e is.proper; of_kind = expression_kind-longer e is.proper ∙ is.of_kind }

  item-longer : (item : Item) → IsProperItem names item → IsProperItem (names ++ more) item
  item-longer (Value e) is = proper-longer e is
  item-longer (Chars text) is = is

  variable-longer : (k : ℕ) → IsIntegerScalar names k → IsIntegerScalar (names ++ more) k
  variable-longer k is = record { known = known-longer k is.known; integer = kind-longer k is.known ∙ is.integer; scalar = dims-longer k is.known ∙ is.scalar }

  assignment-longer : (target : Access) (value : Expr) → IsAssignment names target value → IsAssignment (names ++ more) target value
  assignment-longer target value is =
      let kind : kind_of (names ++ more) target.name ≡ kind_of names target.name = kind-longer target.name is.access.0 in
      record { access = proper-longer (Read target) is.access; of_kind = subst (λ (k : Kind). IsOfKind (names ++ more) k value ⊎ (value ≡ taken_as k)) (sym kind) (by (kind_of names target.name) is.of_kind) }
    where
      by : (kind : Kind) → IsOfKind names kind value ⊎ (value ≡ taken_as kind) → IsOfKind (names ++ more) kind value ⊎ (value ≡ taken_as kind)
      by kind (inl of_kind) = inl (of_kind-longer kind value of_kind)
      by kind (inr taken) = inr taken

  pub executable-longer : (kind : ExecKind) → IsExecutable names kind → IsExecutable (names ++ more) kind
  executable-longer (Assign target value next) is = assignment-longer target value is
  executable-longer (Print items next) is = λ k d lt. item-longer (get_or items k d) (is k d lt)
  executable-longer (Pass next) is = tt
  executable-longer (Test cond if_true if_false) is = of_kind-longer _ cond is
  executable-longer (Sign value neg equal pos') is = of_kind-longer _ value is
  executable-longer (Pick value targets other) is = (of_kind-longer _ value is.0, is.1)
  executable-longer (DoStart loop_no var first last step body exit) is = record { variable = variable-longer var is.variable; integers = λ k d lt. of_kind-longer Integer (get_or (first ∷ last ∷ step ∷ []) k d) (is.integers k d lt) }
  executable-longer (DoNext loop_no var body exit) is = variable-longer var is
  executable-longer End is = tt
