-- Names between brackets, or nothing: what stands after the name of a subroutine.
use Rattle.std.proofs.Common.{◌≡◌, ◌≤◌, ℕ, true, length, List, [], ◌∷◌, ◌++◌, map, Option, Some, None, codes, refl, sym, ap, ◌∙◌, arith}
use Rattle.std.specs.List.{list_all}
use Rattle.f77_tree.specs.Name.{is_name}
use Rattle.f77_tree.specs.StatementGrammar.{with_commas, in_brackets, names_text, are_names, WrittenStatement}
use Rattle.f77_expr.specs.Reader.{Reads, read_as, and_then_read, after_prefix, this_or}
use Rattle.f77_expr.proofs.EachRead.{Each, each_then, each_as, each_this_or}
use Rattle.f77_expr.proofs.Prefixes.{prefix_is}
use Rattle.f77_parse.specs.Parts.{then_prefix, name_at, list_at, names_inside, names_begun, names_at}
use Rattle.f77_parse.specs.Forms.{named_at}
use Rattle.f77_parse.proofs.Followers.{not_at_start, no_symbol, IsAtStart, IsListed}
use Rattle.f77_parse.proofs.PartLists.{pass_every, list_prefix, list_pass_sound, list_pass_reads}
use Rattle.f77_parse.proofs.PartNumbers.{name_not_at_start, name_sound, name_reads, map_same}
use Rattle.f77_parse.proofs.PartReaders.{after_none, then_prefix_sound, brackets_prefix}

name_listed : IsListed name_at (λ name. name) (λ name. is_name name ≡ true) no_symbol
name_listed = record {
  sound = name_sound;
  reads = name_reads;
  comma = λ more. refl;
  bracket = λ more. refl;
  no_stroke = λ name rest fits. name_not_at_start 47 name rest fits (omega arith);
}

-- after the opening bracket
abbrev AreInside : List ℕ → List (List ℕ) → List ℕ → Type 0
AreInside inside names rest = (list_all is_name names ≡ true) × (with_commas names ++ (41 ∷ rest) ≡ inside)

inside_sound : (inside : List ℕ) → Each (λ names rest. AreInside inside names rest) (names_inside inside)
inside_sound inside =
    each_this_or (λ names rest. AreInside inside names rest) [] (after_prefix (codes ")") inside) (then_prefix (codes ")") (list_at name_at inside))
    (λ rest e. (refl, prefix_is (codes ")") inside rest e))
    (then_prefix_sound (λ names rest. AreInside inside names rest) (λ names rest. IsAtStart (λ names. (1 ≤ length names) × (list_all is_name names ≡ true)) (λ names. with_commas (map (λ name. name) names)) inside names rest) (codes ")") (list_at name_at inside) (list_pass_sound name_listed inside)
    (λ names rest is. (is.0.1, ap (λ (texts : List (List ℕ)). with_commas texts ++ (41 ∷ rest)) (sym (map_same names)) ∙ is.1)))

names_sound : (text : List ℕ) → Each (λ names rest. IsAtStart (λ names. are_names names ≡ true) names_text text names rest) (names_at text)
names_sound text = here (after_prefix (codes "(") text) refl
  where
    P : Option (List (List ℕ)) → List ℕ → Type 0
    P names rest = IsAtStart (λ names. are_names names ≡ true) names_text text names rest

    here : (o : Option (List ℕ)) → after_prefix (codes "(") text ≡ o → Each P (names_begun text o)
    here None e = (refl, refl)
    here (Some inside) e =
        each_as (λ names rest. AreInside inside names rest) P (λ names. Some names) (names_inside inside) (inside_sound inside)
        (λ names rest is. (is.0, brackets_prefix (with_commas names) rest ∙ ap (λ (more : List ℕ). 40 ∷ more) is.1 ∙ prefix_is (codes "(") text inside e))

names_reads : (names : Option (List (List ℕ))) → are_names names ≡ true → names_at (names_text names) ≡ Some (names, [])
names_reads None h = refl
names_reads (Some []) h = refl
names_reads (Some (name ∷ more)) h =
    let names : List (List ℕ) = name ∷ more in
    let text : List ℕ = with_commas (map (λ (name : List ℕ). name) names) in
    ap (λ (texts : List (List ℕ)). names_at (in_brackets (with_commas texts))) (sym (map_same names))
    ∙ ap (λ (o : Option (List ℕ)). read_as (λ names. Some names) (this_or [] o (then_prefix (codes ")") (list_at name_at (text ++ (41 ∷ []))))))
    (after_none 41 [] (text ++ (41 ∷ [])) (list_prefix name_listed (not_at_start 41) (λ name rest fits. name_not_at_start 41 name rest fits (omega arith)) names (41 ∷ []) (omega arith) (pass_every is_name names h)))
    ∙ ap (λ (x : Reads (List (List ℕ))). read_as (λ names. Some names) (then_prefix (codes ")") x)) (list_pass_reads name_listed names (41 ∷ []) (omega arith) h refl refl)

-- ---- a name, and names between brackets or nothing

pub named_sound : (Q : WrittenStatement → List ℕ → Type 0) (made : List ℕ → Option (List (List ℕ)) → WrittenStatement) (text : List ℕ) → ((name : List ℕ) (names : Option (List (List ℕ))) (rest : List ℕ) → is_name name ≡ true → are_names names ≡ true → name ++ (names_text names ++ rest) ≡ text → Q (made name names) rest) → Each Q (named_at made text)
named_sound Q made text here =
    each_then (λ name rest. IsAtStart (λ name. is_name name ≡ true) (λ name. name) text name rest) Q (λ name rest. read_as (made name) (names_at rest)) (name_at text) (name_sound text)
    (λ name rest is. each_as (λ names tail. IsAtStart (λ names. are_names names ≡ true) names_text rest names tail) Q (made name) (names_at rest) (names_sound rest)
    (λ names tail are. here name names tail is.0 are.0 (ap (λ (more : List ℕ). name ++ more) are.1 ∙ is.1)))

names_no_symbol : (names : Option (List (List ℕ))) → no_symbol (names_text names) ≡ true
names_no_symbol None = refl
names_no_symbol (Some names) = refl

pub named_reads : (made : List ℕ → Option (List (List ℕ)) → WrittenStatement) (name : List ℕ) (names : Option (List (List ℕ))) → is_name name ≡ true → are_names names ≡ true → named_at made (name ++ names_text names) ≡ Some (made name names, [])
named_reads made name names is are =
    ap (and_then_read (λ word rest. read_as (made word) (names_at rest))) (name_reads name (names_text names) is (names_no_symbol names))
    ∙ ap (read_as (made name)) (names_reads names are)
