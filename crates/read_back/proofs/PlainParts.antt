-- The parts of printed declarations and statements are plain texts.
use Rattle.std.proofs.Common.{◌≡◌, ℕ, Bool, true, false, List, [], ◌∷◌, ◌++◌, length, ◌&&◌, nat_lt, nat_le, map, refl, sym, ◌∙◌, Option, Some, None}
use Rattle.std.specs.Prelude.{codes, flat_map, All}
use Rattle.std.specs.List.{list_all}
use Rattle.std.proofs.lemmas.Bool.{and_parts}
use Rattle.std.proofs.lemmas.List.Folds.{list_all-append}
use Rattle.f77_tree.specs.Name.{is_name}
use Rattle.f77_tree.specs.Grammar.{Written, is_number, spelling}
use Rattle.f77_tree.specs.StatementGrammar.{Sign, No_sign, Plus_sign, Minus_sign, SignedDigits, sign_text, signed_text, is_signed, WrittenDim, low_text, dim_text, numbers_of, dim_numbers, WrittenDecl, bracketed_list, in_brackets, with_commas, decl_text, decls_text, IsDecl, WrittenBlock, Unsaid, Blank, Block, block_text, is_block, WrittenMember, member_text, is_member, group_text, is_group, WrittenConstant, Whole, Logical_value, constant_text, is_constant, WrittenValue, times_text, are_times, value_text, is_value, WrittenData, data_text, is_data, comma_if, step_text, IsStep}
use Rattle.f77_tree.proofs.AllLemmas.{All-first, All-rest}
use Rattle.read_back.proofs.PlainTexts.{Plain, joined, number_plain, name_parts, spelling_plain, truth_plain}

-- ---- lists

abbrev pub AllPlain : List (List ℕ) → Type 0
AllPlain [] = Unit {0}
AllPlain (t ∷ ts) = Plain t × AllPlain ts

pub commas_plain : (ts : List (List ℕ)) → AllPlain ts → Plain (with_commas ts)
commas_plain [] all = refl
commas_plain (t ∷ []) all = all.0
commas_plain (t ∷ next ∷ more) all = joined (t ++ codes ",") (with_commas (next ∷ more)) (joined t (codes ",") all.0 refl) (commas_plain (next ∷ more) all.1)

pub brackets_plain : (t : List ℕ) → Plain t → Plain (in_brackets t)
brackets_plain t h = joined (codes "(" ++ t) (codes ")") (joined (codes "(") t refl h) refl

listed_plain : (ts : List (List ℕ)) → AllPlain ts → Plain (bracketed_list ts)
listed_plain [] all = refl
listed_plain (t ∷ ts) all = brackets_plain (with_commas (t ∷ ts)) (commas_plain (t ∷ ts) all)

pub mapped_plain : {X : Type 0} (p : X → Bool) (f : X → List ℕ) → ((x : X) → p x ≡ true → Plain (f x)) → (xs : List X) → list_all p xs ≡ true → AllPlain (map f xs)
mapped_plain p f each [] h = tt
mapped_plain p f each (x ∷ xs) h = let parts = and_parts (p x) (list_all p xs) h in (each x parts.0, mapped_plain p f each xs parts.1)

pub all_mapped_plain : {X : Type 0} (P : X → Type 0) (f : X → List ℕ) → ((x : X) → P x → Plain (f x)) → (xs : List X) → All P xs → AllPlain (map f xs)
all_mapped_plain P f each [] h = tt
all_mapped_plain P f each (x ∷ xs) h = (each x (All-first P x xs h), all_mapped_plain P f each xs (All-rest P x xs h))

pub numbers_plain : (ts : List (List ℕ)) → list_all is_number ts ≡ true → AllPlain ts
numbers_plain [] h = tt
numbers_plain (t ∷ ts) h = let parts = and_parts (is_number t) (list_all is_number ts) h in (number_plain t parts.0, numbers_plain ts parts.1)

-- ---- numbers

signed_by : (sign : Sign) (digits : List ℕ) → Plain digits → Plain (sign_text sign ++ digits)
signed_by No_sign digits h = h
signed_by Plus_sign digits h = joined (codes "+") digits refl h
signed_by Minus_sign digits h = joined (codes "-") digits refl h

signed_plain : (n : SignedDigits) → is_signed n ≡ true → Plain (signed_text n)
signed_plain n h = signed_by n.sign n.digits (number_plain n.digits h)

-- ---- declarators

low_plain : (low : Option SignedDigits) → list_all is_signed (numbers_of low) ≡ true → Plain (low_text low)
low_plain None h = refl
low_plain (Some n) h = joined (signed_text n) (codes ":") (signed_plain n (and_parts (is_signed n) true h).0) refl

dim_plain : (d : WrittenDim) → list_all is_signed (dim_numbers d) ≡ true → Plain (dim_text d)
dim_plain d h =
    let parts = and_parts (list_all is_signed (numbers_of d.low)) (list_all is_signed (d.high ∷ [])) (sym (list_all-append is_signed (numbers_of d.low) (d.high ∷ [])) ∙ h) in
    joined (low_text d.low) (signed_text d.high) (low_plain d.low parts.0) (signed_plain d.high (and_parts (is_signed d.high) true parts.1).0)

dims_plain : (dims : List WrittenDim) → list_all is_signed (flat_map dim_numbers dims) ≡ true → AllPlain (map dim_text dims)
dims_plain [] h = tt
dims_plain (d ∷ dims) h =
    let parts = and_parts (list_all is_signed (dim_numbers d)) (list_all is_signed (flat_map dim_numbers dims)) (sym (list_all-append is_signed (dim_numbers d) (flat_map dim_numbers dims)) ∙ h) in
    (dim_plain d parts.0, dims_plain dims parts.1)

decl_plain : (d : WrittenDecl) → IsDecl d → Plain (decl_text d)
decl_plain d is = joined d.name (bracketed_list (map dim_text d.dims)) (name_parts d.name is.symbolic).plain (listed_plain (map dim_text d.dims) (dims_plain d.dims is.numbers))

pub decls_plain : (ds : List WrittenDecl) → All IsDecl ds → Plain (decls_text ds)
decls_plain ds all = commas_plain (map decl_text ds) (all_mapped_plain IsDecl decl_text decl_plain ds all)

pub block_plain : (block : WrittenBlock) → is_block block ≡ true → Plain (block_text block)
block_plain Unsaid h = refl
block_plain Blank h = refl
block_plain (Block name) h = joined (codes "/" ++ name) (codes "/") (joined (codes "/") name refl (name_parts name h).plain) refl

-- ---- members and values

member_plain : (m : WrittenMember) → is_member m ≡ true → Plain (member_text m)
member_plain m h =
    let parts = and_parts (is_name m.name) (list_all is_signed m.subs) h in
    joined m.name (bracketed_list (map signed_text m.subs)) (name_parts m.name parts.0).plain (listed_plain (map signed_text m.subs) (mapped_plain is_signed signed_text signed_plain m.subs parts.1))

pub group_plain : (members : List WrittenMember) → is_group members ≡ true → Plain (group_text members)
group_plain members h =
    let parts = and_parts (nat_le 2 (length members)) (list_all is_member members) h in
    brackets_plain (with_commas (map member_text members)) (commas_plain (map member_text members) (mapped_plain is_member member_text member_plain members parts.1))

constant_plain : (c : WrittenConstant) → is_constant c ≡ true → Plain (constant_text c)
constant_plain (Whole n) h = signed_plain n h
constant_plain (Logical_value b) h = truth_plain b

times_plain : (times : Option (List ℕ)) → are_times times ≡ true → Plain (times_text times)
times_plain None h = refl
times_plain (Some digits) h = joined digits (codes "*") (number_plain digits h) refl

value_plain : (v : WrittenValue) → is_value v ≡ true → Plain (value_text v)
value_plain v h =
    let parts = and_parts (are_times v.times) (is_constant v.constant) h in
    joined (times_text v.times) (constant_text v.constant) (times_plain v.times parts.0) (constant_plain v.constant parts.1)

comma_plain : (there : Bool) → Plain (comma_if there)
comma_plain true = refl
comma_plain false = refl

pub data_plain : (d : WrittenData) → is_data d ≡ true → Plain (data_text d)
data_plain d h =
    let three = and_parts (nat_lt 0 (length d.items) && list_all is_member d.items && nat_lt 0 (length d.values)) (list_all is_value d.values) h in
    let two = and_parts (nat_lt 0 (length d.items) && list_all is_member d.items) (nat_lt 0 (length d.values)) three.0 in
    let one = and_parts (nat_lt 0 (length d.items)) (list_all is_member d.items) two.0 in
    let items = with_commas (map member_text d.items) in
    let values = with_commas (map value_text d.values) in
    let items_plain = commas_plain (map member_text d.items) (mapped_plain is_member member_text member_plain d.items one.1) in
    let values_plain = commas_plain (map value_text d.values) (mapped_plain is_value value_text value_plain d.values three.1) in
    let comma = comma_if d.comma in
    joined (comma ++ items ++ codes "/" ++ values) (codes "/") (joined (comma ++ items ++ codes "/") values (joined (comma ++ items) (codes "/") (joined comma items (comma_plain d.comma) items_plain) refl) values_plain) refl

-- ---- steps

pub step_plain : (step : Option Written) → IsStep step → Plain (step_text step)
step_plain None h = refl
step_plain (Some w) h = joined (codes ",") (spelling w) refl (spelling_plain w h)
