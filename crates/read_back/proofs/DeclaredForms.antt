-- The declarations of a program can be printed and read.
use Rattle.std.proofs.Common.{◌≡◌, ◌==◌, ℕ, zero, suc, ◌+◌, ◌<◌, ◌≤◌, Bool, true, false, cond, List, [], ◌∷◌, ◌++◌, length, ◌&&◌, ◌||◌, nat_lt, nat_le, map, refl, sym, ap, ◌∙◌, arith, Option, Some, None, length-append, filter}
use Rattle.std.specs.Prelude.{flat_map, decimal, All, slice_get}
use Rattle.std.specs.List.{list_all, list_any, range_with_len}
use Rattle.std.proofs.lemmas.Bool.{and_from, le-leb, lt-ltb, le-ltb, ne_eqb, eqb-true}
use Rattle.std.proofs.lemmas.List.{length-map}
use Rattle.std.proofs.lemmas.List.Elements.{All-append}
use Rattle.std.proofs.lemmas.Slice.Eq.{bytes_eq-Decides}
use Rattle.f77_tree.specs.declared.declarations.CommonPart.{CommonPart}
use Rattle.f77_tree.specs.declared.declarations.Decl.{Decl}
use Rattle.f77_tree.specs.declared.declarations.InitPart.{InitPart}
use Rattle.f77_tree.specs.declared.declarations.InitValue.{InitValue}
use Rattle.f77_tree.specs.declared.declarations.Lit.{Lit}
use Rattle.f77_tree.specs.declared.declarations.Lit.TheVariants.{Int, Truth}
use Rattle.f77_tree.specs.declared.declarations.Member.{Member}
use Rattle.f77_tree.specs.declared.programs.NameInfo.{NameInfo}
use Rattle.f77_tree.specs.Declarations.{CanBeWritten, IsDim, IsNameInfo, index_of, IsCommonName, IsCommonPart, IsBlock, IsMember, IsGroup, member_index}
use Rattle.f77_tree.specs.InitialWords.{IsLit, IsInitValue, IsInitPart}
use Rattle.f77_tree.specs.Value.{dims_of}
use Rattle.f77_tree.specs.Name.{is_name}
use Rattle.f77_tree.specs.Grammar.{greatest_constant}
use Rattle.f77_tree.specs.StatementGrammar.{are_great, WrittenDecl, decl_numbers, IsDecl, IsPart, is_block, WrittenMember, is_member, is_group, is_constant, constant_is_great, are_times, times_of, is_value, value_is_bad, WrittenData, is_data, WrittenStatement, IsStatement, has_bad_constant}
use Rattle.f77_tree.proofs.AllLemmas.{All-nil, All-cons, All-first, All-rest, All-get}
use Rattle.f77_tree.proofs.NameLemmas.{index_of-name}
use Rattle.f77_expr.specs.Printing.{name_in}
use Rattle.f77_expr.proofs.PrintedNumbers.{is_number-decimal, number_of-decimal}
use Rattle.flat_programs.specs.Declarations.{signed, written_dim, typed_name, same_block, written_block, name_alone, block_decls, block_statement, is_continued, common_at, commons, written_member, group_statement, written_constant, written_times, written_value, init_statement}
use Rattle.read_back.proofs.Prints.{Prints, typed_prints, common_prints, equivalence_prints, init_prints}
use Rattle.read_back.proofs.WrittenNumbers.{AreFine, fine-append, fine_signed, fine_small, signed_signed, signed_small, signed_fine, small_fits, dims_fine, within_written}
use Rattle.std.proofs.lemmas.Grind.{elements}

-- a statement that is printed so that it is read, with constants in range
pub record CanBePrinted (w : WrittenStatement) : Type 0 where
  pub prints : Prints w
  pub grammatical : IsStatement w
  pub constants : has_bad_constant w ≡ false

-- ---- declarators

-- a declarator of the grammar, with numbers in range
record IsFineDecl (d : WrittenDecl) : Type 0 where
  grammatical : IsDecl d
  fine : AreFine (decl_numbers d)

fine_decls : (ds : List WrittenDecl) → All IsFineDecl ds → All IsDecl ds
fine_decls ds all k d lt = (all k d lt).grammatical

fine_numbers : (ds : List WrittenDecl) → All IsFineDecl ds → AreFine (flat_map decl_numbers ds)
fine_numbers [] all = tt
fine_numbers (d ∷ ds) all = fine-append (decl_numbers d) (flat_map decl_numbers ds) (All-first IsFineDecl d ds all).fine (fine_numbers ds (All-rest IsFineDecl d ds all))

fine_decl : (info : NameInfo) → IsNameInfo info → IsFineDecl (record { name = info.name; dims = map written_dim info.dims })
fine_decl info is = grind (arith, dims_fine, length-map, fine_signed)

typed_can : (info : NameInfo) → IsNameInfo info → CanBePrinted (typed_name info)
typed_can info is =
    let decl : WrittenDecl = record { name = info.name; dims = map written_dim info.dims } in
    let all = All-cons IsFineDecl decl [] (fine_decl info is) (All-nil IsFineDecl) in
    let grammar : IsStatement (typed_name info) = (omega arith, fine_decls (decl ∷ []) all) in
    record {
      prints = typed_prints info.kind (decl ∷ []) grammar;
      grammatical = grammar;
      constants = fine_small (flat_map decl_numbers (decl ∷ [])) (fine_numbers (decl ∷ []) all);
    }

pub names_can : (names : List NameInfo) → All IsNameInfo names → All CanBePrinted (map typed_name names)
names_can [] all = All-nil CanBePrinted
names_can (info ∷ names) all = search (All-cons, typed_can, All-first, All-rest, names_can names (All-rest IsNameInfo info names all), arith)

-- ---- names of the table

symbolic_at : (names : List NameInfo) (k : ℕ) (name : List ℕ) → All IsNameInfo names → k < length names → name_in (slice_get names k) ≡ name → is_name name ≡ true
symbolic_at [] k name all lt is = absurd (omega (arith, lt))
symbolic_at (info ∷ names) zero name all lt is = ap is_name (sym is) ∙ (All-first IsNameInfo info names all).symbolic
symbolic_at (info ∷ names) (suc k) name all lt is = symbolic_at names k name (All-rest IsNameInfo info names all) (omega (arith, lt)) is

dims_at : (names : List NameInfo) (k : ℕ) → All IsNameInfo names → All IsDim (dims_of names k)
dims_at [] k all = All-nil IsDim
dims_at (info ∷ names) zero all = (All-first IsNameInfo info names all).dimensions.bounds
dims_at (info ∷ names) (suc k) all = dims_at names k (All-rest IsNameInfo info names all)

same_itself : (block : Option (List ℕ)) → same_block block block ≡ true
same_itself None = refl
same_itself (Some name) = (bytes_eq-Decides name name).1 refl

module _ (names : List NameInfo) (table : All IsNameInfo names) where
  known_name : (name : List ℕ) → index_of names name < length names → is_name name ≡ true
  known_name name lt = symbolic_at names (index_of names name) name table lt (index_of-name names name lt)

  -- ---- COMMON

  alone_fine : (decls : List Decl) → All (IsCommonName names) decls → All IsFineDecl (map name_alone decls)
  alone_fine [] all = All-nil IsFineDecl
  alone_fine (d ∷ decls) all =
      let here : IsFineDecl (name_alone d) = record { grammatical = record { symbolic = known_name d.name (All-first (IsCommonName names) d decls all).known; few = omega arith; numbers = refl }; fine = tt } in
      All-cons IsFineDecl (name_alone d) (map name_alone decls) here (alone_fine decls (All-rest (IsCommonName names) d decls all))

  abbrev decls_of : CommonPart → List WrittenDecl
  decls_of part = map name_alone part.decls

  fine_if : (b : Bool) (part : CommonPart) (rest : List CommonPart) → All (IsCommonName names) part.decls → All IsFineDecl (flat_map decls_of rest) → All IsFineDecl (flat_map decls_of (cond b (part ∷ rest) rest))
  fine_if true part rest here more = All-append IsFineDecl (decls_of part) (flat_map decls_of rest) (alone_fine part.decls here) more
  fine_if false part rest here more = more

  block_fine : (parts : List CommonPart) (block : Option (List ℕ)) → All (IsCommonPart names) parts → All IsFineDecl (block_decls parts block)
  block_fine [] block all = All-nil IsFineDecl
  block_fine (part ∷ parts) block all =
      fine_if (same_block part.block block) part (filter (λ p. same_block p.block block) parts) (All-first (IsCommonPart names) part parts all).names_known (block_fine parts block (All-rest (IsCommonPart names) part parts all))

  some_if : (b : Bool) (part : CommonPart) (rest : List CommonPart) → 0 < length (flat_map decls_of rest) → 0 < length (flat_map decls_of (cond b (part ∷ rest) rest))
  some_if true part rest more = omega (arith, more, length-append (decls_of part) (flat_map decls_of rest))
  some_if false part rest more = more

  block_some : (parts : List CommonPart) (k : ℕ) (part : CommonPart) → All (IsCommonPart names) parts → slice_get parts k ≡ Some part → 0 < length (block_decls parts part.block)
  block_some [] k part all is = absurd cc
  block_some (p ∷ parts) zero part all is =
      grind (arith, All-first (IsCommonPart names) p parts all, same_itself p.block, length-append (decls_of p), length-map p.decls name_alone)
  block_some (p ∷ parts) (suc k) part all is =
      some_if (same_block p.block part.block) p (filter (λ q. same_block q.block part.block) parts) (block_some parts k part (All-rest (IsCommonPart names) p parts all) is)

  written_is_block : (block : Option (List ℕ)) → IsBlock block → is_block (written_block block) ≡ true
  written_is_block None h = refl
  written_is_block (Some name) h = h

  block_can : (parts : List CommonPart) (k : ℕ) (part : CommonPart) → All (IsCommonPart names) parts → slice_get parts k ≡ Some part → CanBePrinted (block_statement parts part.block)
  block_can parts k part all is =
      let decls = block_decls parts part.block in
      let fine = block_fine parts part.block all in
      let some = block_some parts k part all is in
      let of : IsPart (record { comma = false; block = written_block part.block; decls = decls }) = record { block = written_is_block part.block (All-get (IsCommonPart names) parts k part all is).block_name; some = omega (arith, some); decls = fine_decls decls fine } in
      let grammar : IsStatement (block_statement parts part.block) = (refl, All-cons IsPart (record { comma = false; block = written_block part.block; decls = decls }) [] of (All-nil IsPart)) in
      record {
        prints = common_prints (written_block part.block) decls grammar;
        grammatical = grammar;
        constants = fine_small (flat_map decl_numbers decls ++ []) (fine-append (flat_map decl_numbers decls) [] (fine_numbers decls fine) tt);
      }

  common_if : (b : Bool) (w : WrittenStatement) → CanBePrinted w → All CanBePrinted (cond b [] (w ∷ []))
  common_if true w can = All-nil CanBePrinted
  common_if false w can = All-cons CanBePrinted w [] can (All-nil CanBePrinted)

  common_can : (parts : List CommonPart) (k : ℕ) (part : Option CommonPart) → All (IsCommonPart names) parts → slice_get parts k ≡ part → All CanBePrinted (common_at parts k part)
  common_can parts k None all is = All-nil CanBePrinted
  common_can parts k (Some part) all is = common_if (is_continued parts k part) (block_statement parts part.block) (block_can parts k part all is)

  commons_from : (parts : List CommonPart) (k n : ℕ) → All (IsCommonPart names) parts → All CanBePrinted (flat_map (λ j. common_at parts j (slice_get parts j)) (range_with_len k n))
  commons_from parts k zero all = All-nil CanBePrinted
  commons_from parts k (suc n) all = search (All-append, common_can, commons_from parts (k + 1) n all, arith)

  pub commons_can : (parts : List CommonPart) → All (IsCommonPart names) parts → All CanBePrinted (commons parts)
  commons_can parts all = commons_from parts 0 (length parts) all

  -- ---- EQUIVALENCE

  pub subs_written : (m : Member) → IsMember names m → All CanBeWritten m.subs
  subs_written m is =
      grind (arith, All-nil CanBeWritten, within_written (dims_of names (member_index names m)), dims_at names (member_index names m) table)

  member_is : (m : Member) → IsMember names m → is_member (written_member m) ≡ true
  member_is m is = grind (arith, elements, and_from, known_name, fine_signed, signed_fine, subs_written)

  members_are : (ms : List Member) → All (IsMember names) ms → list_all is_member (map written_member ms) ≡ true
  members_are [] all = refl
  members_are (m ∷ ms) all = search (and_from, member_is, All-first, All-rest, members_are ms (All-rest (IsMember names) m ms all), arith)

  pub members_symbolic : (ms : List Member) → All (IsMember names) ms → All (λ (m : Member). is_name m.name ≡ true) ms
  members_symbolic ms all k d lt = known_name _ (all k d lt).known

  members_fine : (ms : List Member) → All (IsMember names) ms → AreFine (flat_map (λ (m : WrittenMember). m.subs) (map written_member ms))
  members_fine [] all = tt
  members_fine (m ∷ ms) all =
      fine-append (map signed m.subs) (flat_map (λ (n : WrittenMember). n.subs) (map written_member ms)) (signed_fine m.subs (subs_written m (All-first (IsMember names) m ms all))) (members_fine ms (All-rest (IsMember names) m ms all))

  group_can : (group : List Member) → IsGroup names group → CanBePrinted (group_statement group)
  group_can group is =
      let ms = map written_member group in
      let subs = flat_map (λ (m : WrittenMember). m.subs) ms in
      let two = is.two in
      let count = length-map group written_member in
      let of : is_group ms ≡ true = and_from (nat_le 2 (length ms)) (list_all is_member ms) (le-leb 2 (length ms) (omega (arith, two, count))) (members_are group is.members) in
      let grammar : IsStatement (group_statement group) = (omega arith, and_from (is_group ms) true of refl) in
      record {
        prints = equivalence_prints ms grammar;
        grammatical = grammar;
        constants = fine_small (subs ++ []) (fine-append subs [] (members_fine group is.members) tt);
      }

  pub groups_can : (groups : List (List Member)) → All (IsGroup names) groups → All CanBePrinted (map group_statement groups)
  groups_can [] all = All-nil CanBePrinted
  groups_can (group ∷ groups) all =
      All-cons CanBePrinted (group_statement group) (map group_statement groups) (group_can group (All-first (IsGroup names) group groups all)) (groups_can groups (All-rest (IsGroup names) group groups all))

  -- ---- DATA

  none_of : (a b : Bool) → a ≡ false → b ≡ false → (a || b) ≡ false
  none_of true b h k = absurd cc
  none_of false b h k = k

  constant_is : (l : Lit) → IsLit l → (is_constant (written_constant l) ≡ true) × (constant_is_great (written_constant l) ≡ false)
  constant_is (Int z) h = (signed_signed z h, signed_small z h)
  constant_is (Truth b) h = (refl, refl)

  record IsFineTimes (n : ℕ) (times : Option (List ℕ)) : Type 0 where
    are : are_times times ≡ true
    is : times_of times ≡ n

  times_by : (n : ℕ) (one : Bool) → n ≤ greatest_constant → (n == 1) ≡ one → IsFineTimes n (cond one None (Some (decimal n)))
  times_by n true small is = record { are = refl; is = sym (eqb-true n 1 is) }
  times_by n false small is = record { are = is_number-decimal n (small_fits n small); is = number_of-decimal n (small_fits n small) }

  times_good : (n most : ℕ) → 1 ≤ n → n ≤ most → (nat_lt most n || (n == 0)) ≡ false
  times_good n most some small = none_of (nat_lt most n) (n == 0) (le-ltb most n small) (ne_eqb n 0 (λ e. omega (arith, e, some)))

  value_is : (v : InitValue) → IsInitValue v → v.times ≤ greatest_constant → (is_value (written_value v) ≡ true) × (value_is_bad (written_value v) ≡ false)
  value_is v is small =
      let times = times_by v.times (v.times == 1) small refl in
      let constant = constant_is v.value is.constant in
      let good : (nat_lt greatest_constant (times_of (written_times v.times)) || (times_of (written_times v.times) == 0)) ≡ false = ap (λ n. nat_lt greatest_constant n || (n == 0)) times.is ∙ times_good v.times greatest_constant is.repeated small in (
        and_from (are_times (written_times v.times)) (is_constant (written_constant v.value)) times.are constant.0,
        none_of (nat_lt greatest_constant (times_of (written_times v.times)) || (times_of (written_times v.times) == 0)) (constant_is_great (written_constant v.value)) good constant.1,
      )

  abbrev IsFewTimes : InitValue → Type 0
  IsFewTimes v = v.times ≤ greatest_constant

  values_are : (vs : List InitValue) → All IsInitValue vs → All IsFewTimes vs → (list_all is_value (map written_value vs) ≡ true) × (list_any value_is_bad (map written_value vs) ≡ false)
  values_are [] all few = (refl, refl)
  values_are (v ∷ vs) all few =
      let here = value_is v (All-first IsInitValue v vs all) (All-first IsFewTimes v vs few) in
      let rest = values_are vs (All-rest IsInitValue v vs all) (All-rest IsFewTimes v vs few) in
      (and_from (is_value (written_value v)) (list_all is_value (map written_value vs)) here.0 rest.0, none_of (value_is_bad (written_value v)) (list_any value_is_bad (map written_value vs)) here.1 rest.1)

  pub init_can : (part : InitPart) → IsInitPart names part → All IsFewTimes part.values → CanBePrinted (init_statement part)
  init_can part is few =
      let items = map written_member part.items in
      let values = map written_value part.values in
      let subs = flat_map (λ (m : WrittenMember). m.subs) items in
      let parts : WrittenData = record { comma = false; items = items; values = values } in
      let some_items = is.some_items in
      let some_values = is.some_values in
      let item_count = length-map part.items written_member in
      let value_count = length-map part.values written_value in
      let are = values_are part.values is.written few in
      let first = and_from (nat_lt 0 (length items)) (list_all is_member items) (lt-ltb 0 (length items) (omega (arith, some_items, item_count))) (members_are part.items is.members) in
      let second = and_from (nat_lt 0 (length items) && list_all is_member items) (nat_lt 0 (length values)) first (lt-ltb 0 (length values) (omega (arith, some_values, value_count))) in
      let of : is_data parts ≡ true = and_from (nat_lt 0 (length items) && list_all is_member items && nat_lt 0 (length values)) (list_all is_value values) second are.0 in
      let grammar : IsStatement (init_statement part) = (refl, and_from (is_data parts) true of refl) in
      record {
        prints = init_prints parts grammar;
        grammatical = grammar;
        constants = none_of (are_great subs || list_any value_is_bad values) false (none_of (are_great subs) (list_any value_is_bad values) (fine_small subs (members_fine part.items is.members)) are.1) refl;
      }
