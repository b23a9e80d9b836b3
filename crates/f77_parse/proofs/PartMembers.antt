-- Members of EQUIVALENCE and items of DATA: names with subscripts or without, and groups of them.
use Rattle.std.proofs.Common.{◌≡◌, ℕ, ◌<◌, ◌≤◌, Bool, true, List, ◌++◌, length, map, Some, nat_le, refl, ap, ◌∙◌, arith, append_assoc}
use Rattle.std.proofs.lemmas.Bool.{and_parts, and_from, leb-true}
use Rattle.std.specs.List.{list_all}
use Rattle.f77_tree.specs.Name.{is_name}
use Rattle.f77_tree.specs.StatementGrammar.{with_commas, SignedDigits, signed_text, is_signed, bracketed_list, WrittenMember, member_text, is_member, group_text, is_group}
use Rattle.f77_expr.specs.Reader.{read_as, and_then_read}
use Rattle.f77_expr.proofs.EachRead.{Each, each_then, each_as, each_weaker}
use Rattle.f77_expr.proofs.Followers.{breaks_off}
use Rattle.f77_parse.specs.Parts.{where_it, name_at, signed_at, list_at, bracketed_at, bracketed_or_none, member_at, group_at}
use Rattle.f77_parse.proofs.Followers.{not_at_start, ends_list, anything, IsAtStart, Every, IsListed}
use Rattle.f77_parse.proofs.PartReaders.{where_sound, where_reads, brackets_prefix}
use Rattle.f77_parse.proofs.PartLists.{every_pass, pass_every, bracketed_sound, bracketed_reads, bracketed_or_none_sound, bracketed_or_none_reads, list_pass_sound, list_pass_reads}
use Rattle.f77_parse.proofs.PartNumbers.{name_not_at_start, breaks_bracket, name_sound, name_reads, signed_listed}
use Rattle.f77_parse.proofs.PartDeclarations.{name_ends}

-- ---- members

abbrev subs_text : List SignedDigits → List ℕ
subs_text subs = bracketed_list (map signed_text subs)

pub member_sound : (text : List ℕ) → Each (λ m rest. IsAtStart (λ m. is_member m ≡ true) member_text text m rest) (member_at text)
member_sound text =
    each_then (λ name rest. IsAtStart (λ name. is_name name ≡ true) (λ name. name) text name rest) P
    (λ name rest. read_as (λ subs. record { name = name; subs = subs }) (bracketed_or_none signed_at rest)) (name_at text) (name_sound text)
    (λ name rest is. each_as (λ subs tail. IsAtStart (λ subs. Every (λ n. is_signed n ≡ true) subs) subs_text rest subs tail) P (λ subs. record { name = name; subs = subs }) (bracketed_or_none signed_at rest) (bracketed_or_none_sound signed_listed rest)
    (λ subs tail h. (
      and_from (is_name name) (list_all is_signed subs) is.0 (every_pass is_signed subs h.0),
      append_assoc name (subs_text subs) tail ∙ ap (λ more. name ++ more) h.1 ∙ is.1,
    )))
  where
    P : WrittenMember → List ℕ → Type 0
    P m rest = IsAtStart (λ m. is_member m ≡ true) member_text text m rest

pub member_reads : (m : WrittenMember) (rest : List ℕ) → is_member m ≡ true → breaks_off rest ≡ true → member_at (member_text m ++ rest) ≡ Some (m, rest)
member_reads m rest fits follows =
    let both = and_parts (is_name m.name) (list_all is_signed m.subs) fits in
    let beyond : List ℕ = subs_text m.subs ++ rest in
    ap member_at (append_assoc m.name (subs_text m.subs) rest)
    ∙ ap (and_then_read (λ name rest. read_as (λ subs. record { name = name; subs = subs }) (bracketed_or_none signed_at rest))) (name_reads m.name beyond both.0 (name_ends (map signed_text m.subs) rest follows))
    ∙ ap (read_as (λ subs. record { name = m.name; subs = subs })) (bracketed_or_none_reads signed_listed m.subs rest (pass_every is_signed m.subs both.1) (breaks_bracket rest follows))

-- a member begins with a letter
pub member_not_at_start : (k : ℕ) → k < 65 → (m : WrittenMember) (rest : List ℕ) → is_member m ≡ true → not_at_start k (member_text m ++ rest) ≡ true
member_not_at_start k below m rest fits =
    ap (not_at_start k) (append_assoc m.name (subs_text m.subs) rest)
    ∙ name_not_at_start k m.name (subs_text m.subs ++ rest) (and_parts (is_name m.name) (list_all is_signed m.subs) fits).0 below

pub member_listed : IsListed member_at member_text (λ m. is_member m ≡ true) breaks_off
member_listed = record {
  sound = member_sound;
  reads = member_reads;
  comma = λ more. refl;
  bracket = λ more. refl;
  no_stroke = member_not_at_start 47 (omega arith);
}

-- ---- groups

abbrev two_or_more : List WrittenMember → Bool
two_or_more members = nat_le 2 (length members)

pub group_sound : (text : List ℕ) → Each (λ members rest. IsAtStart (λ members. is_group members ≡ true) group_text text members rest) (group_at text)
group_sound text =
    each_weaker (λ members rest. Members members rest × (two_or_more members ≡ true)) (λ members rest. IsAtStart (λ members. is_group members ≡ true) group_text text members rest) (where_it two_or_more (bracketed_at member_at text))
    (λ members rest h. (and_from (two_or_more members) (list_all is_member members) h.1 (every_pass is_member members h.0.0.1), h.0.1))
    (where_sound Members two_or_more (bracketed_at member_at text) (bracketed_sound member_listed text))
  where
    Members : List WrittenMember → List ℕ → Type 0
    Members members rest = IsAtStart (λ members. (1 ≤ length members) × Every (λ m. is_member m ≡ true) members) group_text text members rest

pub group_reads : (members : List WrittenMember) (rest : List ℕ) → is_group members ≡ true → group_at (group_text members ++ rest) ≡ Some (members, rest)
group_reads members rest fits =
    let both = and_parts (two_or_more members) (list_all is_member members) fits in
    let two : 2 ≤ length members = leb-true 2 (length members) both.0 in
    where_reads two_or_more (bracketed_at member_at (group_text members ++ rest)) members rest (bracketed_reads member_listed members rest (omega (arith, two)) (pass_every is_member members both.1)) both.0

pub group_listed : IsListed group_at group_text (λ members. is_group members ≡ true) anything
group_listed = record {
  sound = group_sound;
  reads = λ members rest fits follows. group_reads members rest fits;
  comma = λ more. refl;
  bracket = λ more. refl;
  no_stroke = λ members rest fits. ap (not_at_start 47) (brackets_prefix (with_commas (map member_text members)) rest);
}

pub groups_sound : (text : List ℕ) → Each (λ groups rest. IsAtStart (λ groups. (1 ≤ length groups) × (list_all is_group groups ≡ true)) (λ groups. with_commas (map group_text groups)) text groups rest) (list_at group_at text)
groups_sound text = list_pass_sound group_listed text

pub groups_reads : (groups : List (List WrittenMember)) (rest : List ℕ) → 1 ≤ length groups → list_all is_group groups ≡ true → ends_list rest ≡ true → list_at group_at (with_commas (map group_text groups) ++ rest) ≡ Some (groups, rest)
groups_reads groups rest some fit ends = list_pass_reads group_listed groups rest some fit refl ends
