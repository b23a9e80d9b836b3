-- Texts in which no equals sign stands: numbers, names, and the parts of declarations.
use Rattle.std.proofs.Common.{◌≡◌, ◌==◌, ◌≢◌, ℕ, ◌≤◌, Bool, true, false, List, [], ◌∷◌, ◌++◌, length, map, flat_map, ◌&&◌, not, nat_lt, nat_le, All, Option, Some, None, codes, refl, sym, ap, ◌∙◌, ⊎_elim, arith}
use Rattle.std.proofs.lemmas.Bool.{and_parts, and_from, or_cases, ne_eqb, leb-true}
use Rattle.std.proofs.lemmas.List.Folds.{list_all-append}
use Rattle.std.specs.List.{list_all}
use Rattle.f77_tree.specs.declared.declarations.Kind.{Kind}
use Rattle.f77_tree.specs.declared.declarations.Kind.TheVariants.{Integer, Logical}
use Rattle.f77_tree.specs.Name.{is_capital, is_figure, is_name}
use Rattle.f77_tree.specs.Grammar.{is_number, truth_text}
use Rattle.f77_tree.specs.StatementGrammar.{with_commas, in_brackets, comma_if, Sign, SignedDigits, sign_text, signed_text, is_signed, WrittenDim, low_text, dim_text, dim_numbers, numbers_of, bracketed_list, WrittenDecl, decl_text, decls_text, IsDecl, WrittenRange, last_text, last_of, range_text, is_range, kind_text, WrittenLetters, letters_text, are_letters, WrittenBlock, block_text, is_block, WrittenPart, part_text, IsPart, WrittenMember, member_text, is_member, group_text, is_group, WrittenConstant, constant_text, is_constant, times_text, are_times, WrittenValue, value_text, is_value, WrittenData, data_text, is_data}
use Rattle.f77_expr.specs.Reader.{is_symbolic}
use Rattle.f77_expr.proofs.Primaries.{name_parts}
use Rattle.f77_parse.proofs.Followers.{Every}
use Rattle.f77_parse.proofs.PartLists.{all_every, pass_every}
use Rattle.f77_parse.proofs.Free.{HasNoEquals, unequal_both}

pub unequal_nothing : HasNoEquals []
unequal_nothing = record { each = refl }

one_unequal : (c : ℕ) → c ≢ 61 → not (c == 61) ≡ true
one_unequal c other = ap not (ne_eqb c 61 other)

unequal_weaker : (p : ℕ → Bool) → ((c : ℕ) → p c ≡ true → c ≢ 61) → (xs : List ℕ) → list_all p xs ≡ true → HasNoEquals xs
unequal_weaker p other [] h = unequal_nothing
unequal_weaker p other (c ∷ xs) h =
    let both = and_parts (p c) (list_all p xs) h in
    let more : HasNoEquals xs = unequal_weaker p other xs both.1 in
    record { each = and_from (not (c == 61)) (list_all (λ d. not (d == 61)) xs) (one_unequal c (other c both.0)) more.each }

figure_unequal : (c : ℕ) → is_figure c ≡ true → c ≢ 61
figure_unequal c h e = let most : c ≤ 57 = leb-true c 57 (and_parts (nat_le 48 c) (nat_le c 57) h).1 in omega arith

pub capital_unequal : (c : ℕ) → is_capital c ≡ true → c ≢ 61
capital_unequal c h e = let from : 65 ≤ c = leb-true 65 c (and_parts (nat_le 65 c) (nat_le c 90) h).0 in omega arith

symbolic_unequal : (c : ℕ) → is_symbolic c ≡ true → c ≢ 61
symbolic_unequal c h = ⊎_elim (λ capital. capital_unequal c capital) (λ figure. figure_unequal c figure) (or_cases (is_capital c) (is_figure c) h)

pub unequal_number : (digits : List ℕ) → is_number digits ≡ true → HasNoEquals digits
unequal_number digits h = unequal_weaker is_figure (λ c figure. figure_unequal c figure) digits (and_parts (nat_lt 0 (length digits)) (list_all is_figure digits) h).1

pub unequal_name : (name : List ℕ) → is_name name ≡ true → HasNoEquals name
unequal_name [] h = unequal_nothing
unequal_name (c ∷ more) h = unequal_weaker is_symbolic (λ d symbolic. symbolic_unequal d symbolic) (c ∷ more) (name_parts c more h).symbols

-- ---- lists

pub unequal_brackets : (xs : List ℕ) → HasNoEquals xs → HasNoEquals (in_brackets xs)
unequal_brackets xs h = unequal_both (codes "(") (xs ++ codes ")") (record { each = refl }) (unequal_both xs (codes ")") h (record { each = refl }))

module _ {A : Type 0} (Fits : A → Type 0) (to_text : A → List ℕ) (unequal : (a : A) → Fits a → HasNoEquals (to_text a)) where
  pub unequal_list : (xs : List A) → Every Fits xs → HasNoEquals (with_commas (map to_text xs))
  unequal_list [] h = unequal_nothing
  unequal_list (a ∷ []) h = unequal a h.0
  unequal_list (a ∷ b ∷ more) h =
      unequal_both (to_text a ++ codes ",") (with_commas (map to_text (b ∷ more)))
      (unequal_both (to_text a) (codes ",") (unequal a h.0) (record { each = refl })) (unequal_list (b ∷ more) h.1)

  pub unequal_bracketed : (xs : List A) → Every Fits xs → HasNoEquals (bracketed_list (map to_text xs))
  unequal_bracketed [] h = unequal_nothing
  unequal_bracketed (a ∷ more) h = unequal_brackets (with_commas (map to_text (a ∷ more))) (unequal_list (a ∷ more) h)

  pub unequal_flat : (xs : List A) → Every Fits xs → HasNoEquals (flat_map to_text xs)
  unequal_flat [] h = unequal_nothing
  unequal_flat (a ∷ more) h = unequal_both (to_text a) (flat_map to_text more) (unequal a h.0) (unequal_flat more h.1)

pub unequal_comma : (there : Bool) → HasNoEquals (comma_if there)
unequal_comma true = record { each = refl }
unequal_comma false = unequal_nothing

unequal_truth : (b : Bool) → HasNoEquals (truth_text b)
unequal_truth true = record { each = refl }
unequal_truth false = record { each = refl }

-- ---- parts of declarations

unequal_sign : (sign : Sign) → HasNoEquals (sign_text sign)
unequal_sign Sign.No_sign = unequal_nothing
unequal_sign Sign.Plus_sign = record { each = refl }
unequal_sign Sign.Minus_sign = record { each = refl }

unequal_signed : (n : SignedDigits) → is_signed n ≡ true → HasNoEquals (signed_text n)
unequal_signed n h = unequal_both (sign_text n.sign) n.digits (unequal_sign n.sign) (unequal_number n.digits h)

unequal_low : (low : Option SignedDigits) (high : SignedDigits) → list_all is_signed (numbers_of low ++ (high ∷ [])) ≡ true → HasNoEquals (low_text low ++ signed_text high)
unequal_low None high h = unequal_signed high (and_parts (is_signed high) true h).0
unequal_low (Some low) high h =
    let both = and_parts (is_signed low) (is_signed high && true) h in
    unequal_both (signed_text low ++ codes ":") (signed_text high)
    (unequal_both (signed_text low) (codes ":") (unequal_signed low both.0) (record { each = refl })) (unequal_signed high (and_parts (is_signed high) true both.1).0)

unequal_dim : (d : WrittenDim) → list_all is_signed (dim_numbers d) ≡ true → HasNoEquals (dim_text d)
unequal_dim d h = unequal_low d.low d.high h

every_dim : (dims : List WrittenDim) → list_all is_signed (flat_map dim_numbers dims) ≡ true → Every (λ d. list_all is_signed (dim_numbers d) ≡ true) dims
every_dim [] h = tt
every_dim (d ∷ dims) h =
    let both = and_parts (list_all is_signed (dim_numbers d)) (list_all is_signed (flat_map dim_numbers dims)) (sym (list_all-append is_signed (dim_numbers d) (flat_map dim_numbers dims)) ∙ h) in
    (both.0, every_dim dims both.1)

unequal_decl : (d : WrittenDecl) → IsDecl d → HasNoEquals (decl_text d)
unequal_decl d h =
    unequal_both d.name (bracketed_list (map dim_text d.dims)) (unequal_name d.name h.symbolic)
    (unequal_bracketed (λ d. list_all is_signed (dim_numbers d) ≡ true) dim_text unequal_dim d.dims (every_dim d.dims h.numbers))

pub unequal_decls : (ds : List WrittenDecl) → All IsDecl ds → HasNoEquals (decls_text ds)
unequal_decls ds h = unequal_list IsDecl decl_text unequal_decl ds (all_every IsDecl ds h)

unequal_last : (first : ℕ) (last : Option ℕ) → is_capital first ≡ true → is_capital (last_of first last) ≡ true → HasNoEquals (first ∷ last_text last)
unequal_last first None h last_h = record { each = and_from (not (first == 61)) true (one_unequal first (capital_unequal first h)) refl }
unequal_last first (Some c) h last_h = record {
  each = and_from (not (first == 61)) (not (c == 61) && true) (one_unequal first (capital_unequal first h)) (and_from (not (c == 61)) true (one_unequal c (capital_unequal c last_h)) refl);
}

unequal_range : (r : WrittenRange) → is_range r ≡ true → HasNoEquals (range_text r)
unequal_range r h = let both = and_parts (is_capital r.first) (is_capital (last_of r.first r.last)) h in unequal_last r.first r.last both.0 both.1

pub unequal_kind : (kind : Kind) → HasNoEquals (kind_text kind)
unequal_kind Integer = record { each = refl }
unequal_kind Logical = record { each = refl }

unequal_letters : (letters : WrittenLetters) → are_letters letters ≡ true → HasNoEquals (letters_text letters)
unequal_letters letters h =
    unequal_both (kind_text letters.kind) (in_brackets (with_commas (map range_text letters.ranges))) (unequal_kind letters.kind)
    (unequal_brackets (with_commas (map range_text letters.ranges))
    (unequal_list (λ r. is_range r ≡ true) range_text unequal_range letters.ranges (pass_every is_range letters.ranges (and_parts (nat_lt 0 (length letters.ranges)) (list_all is_range letters.ranges) h).1)))

pub unequal_letters_list : (letters : List WrittenLetters) → list_all are_letters letters ≡ true → HasNoEquals (with_commas (map letters_text letters))
unequal_letters_list letters h = unequal_list (λ l. are_letters l ≡ true) letters_text unequal_letters letters (pass_every are_letters letters h)

unequal_block : (b : WrittenBlock) → is_block b ≡ true → HasNoEquals (block_text b)
unequal_block WrittenBlock.Unsaid h = unequal_nothing
unequal_block WrittenBlock.Blank h = record { each = refl }
unequal_block (WrittenBlock.Block name) h =
    unequal_both (codes "/") (name ++ codes "/") (record { each = refl }) (unequal_both name (codes "/") (unequal_name name h) (record { each = refl }))

unequal_part : (p : WrittenPart) → IsPart p → HasNoEquals (part_text p)
unequal_part p h =
    unequal_both (comma_if p.comma ++ block_text p.block) (decls_text p.decls)
    (unequal_both (comma_if p.comma) (block_text p.block) (unequal_comma p.comma) (unequal_block p.block h.block)) (unequal_decls p.decls h.decls)

pub unequal_parts : (parts : List WrittenPart) → All IsPart parts → HasNoEquals (flat_map part_text parts)
unequal_parts parts h = unequal_flat IsPart part_text unequal_part parts (all_every IsPart parts h)

unequal_member : (m : WrittenMember) → is_member m ≡ true → HasNoEquals (member_text m)
unequal_member m h =
    let both = and_parts (is_name m.name) (list_all is_signed m.subs) h in
    unequal_both m.name (bracketed_list (map signed_text m.subs)) (unequal_name m.name both.0)
    (unequal_bracketed (λ n. is_signed n ≡ true) signed_text unequal_signed m.subs (pass_every is_signed m.subs both.1))

unequal_members : (members : List WrittenMember) → list_all is_member members ≡ true → HasNoEquals (with_commas (map member_text members))
unequal_members members h = unequal_list (λ m. is_member m ≡ true) member_text unequal_member members (pass_every is_member members h)

unequal_group : (members : List WrittenMember) → is_group members ≡ true → HasNoEquals (group_text members)
unequal_group members h =
    unequal_brackets (with_commas (map member_text members)) (unequal_members members (and_parts (nat_le 2 (length members)) (list_all is_member members) h).1)

pub unequal_groups : (groups : List (List WrittenMember)) → list_all is_group groups ≡ true → HasNoEquals (with_commas (map group_text groups))
unequal_groups groups h = unequal_list (λ members. is_group members ≡ true) group_text unequal_group groups (pass_every is_group groups h)

unequal_constant : (k : WrittenConstant) → is_constant k ≡ true → HasNoEquals (constant_text k)
unequal_constant (WrittenConstant.Whole n) h = unequal_signed n h
unequal_constant (WrittenConstant.Logical_value b) h = unequal_truth b

unequal_times : (times : Option (List ℕ)) → are_times times ≡ true → HasNoEquals (times_text times)
unequal_times None h = unequal_nothing
unequal_times (Some digits) h = unequal_both digits (codes "*") (unequal_number digits h) (record { each = refl })

unequal_value : (v : WrittenValue) → is_value v ≡ true → HasNoEquals (value_text v)
unequal_value v h =
    let both = and_parts (are_times v.times) (is_constant v.constant) h in
    unequal_both (times_text v.times) (constant_text v.constant) (unequal_times v.times both.0) (unequal_constant v.constant both.1)

unequal_data : (d : WrittenData) → is_data d ≡ true → HasNoEquals (data_text d)
unequal_data d h =
    let three = and_parts (nat_lt 0 (length d.items) && list_all is_member d.items && nat_lt 0 (length d.values)) (list_all is_value d.values) h in
    let two = and_parts (nat_lt 0 (length d.items) && list_all is_member d.items) (nat_lt 0 (length d.values)) three.0 in
    let one = and_parts (nat_lt 0 (length d.items)) (list_all is_member d.items) two.0 in
    let items : List ℕ = with_commas (map member_text d.items) in
    let values : List ℕ = with_commas (map value_text d.values) in
    let stroke : HasNoEquals (codes "/") = record { each = refl } in
    unequal_both (comma_if d.comma ++ items ++ codes "/" ++ values) (codes "/")
    (unequal_both (comma_if d.comma ++ items ++ codes "/") values
    (unequal_both (comma_if d.comma ++ items) (codes "/") (unequal_both (comma_if d.comma) items (unequal_comma d.comma) (unequal_members d.items one.1)) stroke)
    (unequal_list (λ v. is_value v ≡ true) value_text unequal_value d.values (pass_every is_value d.values three.1))) stroke

pub unequal_data_parts : (parts : List WrittenData) → list_all is_data parts ≡ true → HasNoEquals (flat_map data_text parts)
unequal_data_parts parts h = unequal_flat (λ d. is_data d ≡ true) data_text unequal_data parts (pass_every is_data parts h)
