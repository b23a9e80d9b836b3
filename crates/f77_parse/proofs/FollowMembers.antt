-- Members of EQUIVALENCE and of DATA that are kept.
use Rattle.std.proofs.Common.{◌≡◌, ℕ, Bool, false, ◌||◌, List, [], codes, length, map, Some, None, if◌then◌else◌, ⊎_elim, refl, sym, ap, ◌∙◌}
use Rattle.std.specs.Prelude.{not, nat_le, nat_lt}
use Rattle.std.specs.List.{list_any}
use Rattle.std.proofs.Math.Bool.{or_assoc}
use Rattle.std.proofs.lemmas.Bool.{cases_lt, lt-ltb, le-ltb, le-leb, lt-leb}
use Rattle.std.proofs.lemmas.List.{length-map}
use Rattle.f77_tree.specs.declared.declarations.Member.{Member}
use Rattle.f77_tree.specs.declared.declarations.InitPart.{InitPart}
use Rattle.f77_tree.specs.StatementGrammar.{SignedDigits, is_great, are_great, WrittenMember, WrittenValue, value_is_bad, WrittenData}
use Rattle.f77_expr.specs.Reader.{Reads, read_as, after_prefix}
use Rattle.f77_parse.specs.Parts.{beyond, after, then_prefix, where_it, name_at, signed_at, list_at, bracketed_or_none, comma_at, member_at, group_at, value_at, data_after, data_at}
use Rattle.f77_parse.specs.Keeping.{Keeps, keep_then, where_prefix, wanted, name_kept, signed_kept, closed_list, kept_list, member_kept, group_kept, value_kept, init_part_kept, next_init_part_kept}
use Rattle.f77_parse.specs.KeptValues.{kept_signed, kept_member, kept_value, kept_data}
use Rattle.f77_parse.proofs.FollowLemmas.{told, never_bad, flag_last, then_told, as_told, unless_told, then_as, same_as, wanted_told, skipped_comma}
use Rattle.f77_parse.proofs.FollowLists.{list_told, closed_told, brackets_told}
use Rattle.f77_parse.proofs.FollowNumbers.{name_told, signed_told, value_told}

-- ---- members

-- a subscript is out of range
abbrev pub member_is_great : WrittenMember → Bool
member_is_great m = are_great m.subs

member_told : (bad : Bool) (text : List ℕ) → member_kept bad text ≡ told kept_member member_is_great bad (member_at text)
unfolding member_kept
member_told bad text =
    then_told (λ (name : List ℕ). name) never_bad bad kept_member member_is_great bad (λ name rest. subs_read name (bracketed_or_none signed_at rest))
    (λ name bad_now rest. where_prefix (after_prefix (codes "(") rest) (after_bracket name bad_now) (Some (record { name = name; subs = [] }, bad_now, rest))) (name_at text) (name_kept bad text) (name_told bad text)
    (λ name rest. brackets_told kept_member member_is_great bad (subs_read name) (after_bracket name (bad || false)) (Some (record { name = name; subs = [] }, bad || false, rest)) signed_at rest
    (λ inside. as_told (map kept_signed) (list_any (λ n. is_great n.digits)) (bad || false) kept_member member_is_great bad (λ subs. record { name = name; subs = subs }) (λ subs. record { name = name; subs = subs }) (then_prefix (codes ")") (list_at signed_at inside)) (closed_list signed_kept (bad || false) inside)
    (closed_told kept_signed (λ n. is_great n.digits) signed_at signed_kept signed_told (bad || false) inside)
    (λ subs. refl) (λ subs. flag_last bad (are_great subs)))
    refl)
  where
    subs_read : List ℕ → Reads (List SignedDigits) → Reads WrittenMember
    subs_read name subs = read_as (λ subs. record { name = name; subs = subs }) subs

    after_bracket : List ℕ → Bool → List ℕ → Keeps Member
    after_bracket name bad_now beyond = keep_then (closed_list signed_kept bad_now beyond) (λ subs bad_then more. Some (record { name = name; subs = subs }, bad_then, more))

-- ---- groups

too_few : (n : ℕ) → nat_lt n 2 ≡ not (nat_le 2 n)
too_few n = ⊎_elim (λ less. lt-ltb n 2 less ∙ sym (ap not (lt-leb 2 n less))) (λ enough. le-ltb n 2 enough ∙ sym (ap not (le-leb 2 n enough))) (cases_lt n 2)

pub group_told : (bad : Bool) (text : List ℕ) → group_kept bad text ≡ told (map kept_member) (list_any member_is_great) bad (group_at text)
unfolding group_kept
group_told bad text =
    wanted_told (map kept_member) (list_any member_is_great) bad (λ prefix. grouped (beyond members_at prefix)) (λ found bad_now rest. inside_kept bad_now rest) (codes "(") bad text refl
    (λ inside. unless_told (map kept_member) (list_any member_is_great) bad (map kept_member) (list_any member_is_great) bad (λ members. nat_le 2 (length members)) (λ members. nat_lt (length members) 2) (λ members. members) (λ members. members) (members_at inside) (closed_list member_kept bad inside)
    (closed_told kept_member member_is_great member_at member_kept member_told bad inside)
    (λ members. ap (λ (n : ℕ). nat_lt n 2) (length-map members kept_member) ∙ too_few (length members)) (λ members. refl) (λ members. refl)
    ∙ ap (told (map kept_member) (list_any member_is_great) bad) (same_as (grouped (members_at inside))))
  where
    members_at : List ℕ → Reads (List WrittenMember)
    members_at inside = then_prefix (codes ")") (list_at member_at inside)

    grouped : Reads (List WrittenMember) → Reads (List WrittenMember)
    grouped members = where_it (λ members. nat_le 2 (length members)) members

    inside_kept : Bool → List ℕ → Keeps (List Member)
    inside_kept bad_now rest = keep_then (closed_list member_kept bad_now rest) (λ members bad_then more. if nat_lt (length members) 2 then None else Some (members, bad_then, more))

-- ---- parts of DATA

-- a subscript, a constant or a repeat is out of range
abbrev pub data_is_bad : WrittenData → Bool
data_is_bad d = list_any member_is_great d.items || list_any value_is_bad d.values

data_after_told : (comma bad : Bool) (text : List ℕ) → init_part_kept bad text ≡ told kept_data data_is_bad bad (data_after comma text)
unfolding init_part_kept
data_after_told comma bad text =
    then_told (map kept_member) (list_any member_is_great) bad kept_data data_is_bad bad (λ items rest. after (codes "/") (values_at items) rest) (λ items bad_now rest. keep_then (wanted (codes "/") bad_now rest) (λ found bad_then beyond. values_kept items bad_then beyond)) (list_at member_at text) (kept_list member_kept bad text)
    (list_told kept_member member_is_great member_at member_kept member_told bad text)
    (λ items rest. wanted_told kept_data data_is_bad bad (λ prefix. beyond (values_at items) prefix) (λ found bad_then beyond. values_kept (map kept_member items) bad_then beyond) (codes "/") (bad || list_any member_is_great items) rest refl
    (λ next. then_told (map kept_value) (list_any value_is_bad) (bad || list_any member_is_great items) kept_data data_is_bad bad (λ values tail. beyond (λ more. Some (made items values, more)) (after_prefix (codes "/") tail))
    (λ values bad_later last. keep_then (wanted (codes "/") bad_later last) (λ found bad_last more. Some (record { items = map kept_member items; values = values }, bad_last, more))) (list_at value_at next) (kept_list value_kept (bad || list_any member_is_great items) next)
    (list_told kept_value value_is_bad value_at value_kept value_told (bad || list_any member_is_great items) next)
    (λ values tail. wanted_told kept_data data_is_bad bad (λ prefix. beyond (λ more. Some (made items values, more)) prefix) (λ found bad_last more. Some (record { items = map kept_member items; values = map kept_value values }, bad_last, more)) (codes "/") ((bad || list_any member_is_great items) || list_any value_is_bad values) tail refl
    (λ more. ap (λ (b : Bool). Some (kept_data (made items values), b, more)) (or_assoc bad (list_any member_is_great items) (list_any value_is_bad values))))
    ∙ ap (told kept_data data_is_bad bad) (sym (then_as (λ data_read tail. beyond (λ more. Some (data_read, more)) (after_prefix (codes "/") tail)) (made items) (list_at value_at next)))))
  where
    made : List WrittenMember → List WrittenValue → WrittenData
    made items values = record { comma = comma; items = items; values = values }

    values_at : List WrittenMember → List ℕ → Reads WrittenData
    values_at items next = then_prefix (codes "/") (read_as (λ values. made items values) (list_at value_at next))

    values_kept : List Member → Bool → List ℕ → Keeps InitPart
    values_kept items bad_then beyond = keep_then (kept_list value_kept bad_then beyond) (λ values bad_later last. keep_then (wanted (codes "/") bad_later last) (λ found bad_last more. Some (record { items = items; values = values }, bad_last, more)))

-- the first part, before which no comma stands
pub data_told : (bad : Bool) (text : List ℕ) → init_part_kept bad text ≡ told kept_data data_is_bad bad (data_after false text)
data_told bad text = data_after_told false bad text

-- the others
pub next_data_told : (bad : Bool) (text : List ℕ) → next_init_part_kept bad text ≡ told kept_data data_is_bad bad (data_at text)
unfolding next_init_part_kept
next_data_told bad text =
    let comma = comma_at text in
    ap (init_part_kept bad) (skipped_comma text) ∙ data_after_told comma.0 bad comma.1
