-- Why there is no shared form.
use Rattle.std.proofs.Common.{◌≡◌, ℕ, ◌+◌, ◌<◌, ◌≤◌, Bool, true, false, ◌||◌, List, ◌++◌, length, map, Option, Some, None, refl, ap, ◌∙◌, arith}
use Rattle.std.specs.Prelude.{nat_lt, if◌then◌else◌}
use Rattle.std.proofs.lemmas.Bool.Decides.{Decides-ltb, nat_tests}
use Rattle.std.proofs.lemmas.List.{length-append, length-map}
use Rattle.f77_tree.specs.declared.programs.Program.{Program}
use Rattle.flat_programs.specs.declared.statements.FlatLine.{FlatLine}
use Rattle.flat_programs.specs.Declarations.{commons, declared, group_statement, init_statement, typed_name}
use Rattle.flat_programs.specs.Text.{has_long_text}
use Rattle.redundancy.specs.Available.{Availability}
use Rattle.shared_forms.specs.declared.ends.RewriteEnd.{RewriteEnd}
use Rattle.shared_forms.specs.declared.ends.RewriteEnd.TheVariants.{TooManyNames, TooManyStatements, LongText}
use Rattle.shared_forms.specs.Numbered.{number_of}
use Rattle.shared_forms.specs.Shared.{has_many_names, most_words, refusal, shared, shared_flat, temporaries, with_temporaries}
use Rattle.simplified_forms.specs.Simplified.{has_many_statements, most_statements}
use Rattle.shared_forms.specs.Temporaries.{free_names}

-- the first of three limits that is passed
abbrev first_limit : (names statements text : Bool) → Option RewriteEnd
first_limit names statements text =
    if names then Some TooManyNames
    else if statements then Some TooManyStatements
    else if text then Some LongText
    else None

less-true : (m n : ℕ) → m < n → nat_lt m n ≡ true
less-true m n less = (Decides-ltb m n).1 less

less-false : (m n : ℕ) → n ≤ m → nat_lt m n ≡ false
less-false m n most = grind (arith, nat_tests, most)

or_right : (b c : Bool) → c ≡ true → (b || c) ≡ true
or_right true c is = refl
or_right false c is = is

-- ---- names

module _ (q : Program) (a : Availability) where
  pub few-words : most_words < q.words + length (shared q a (number_of a)) → has_many_names q a (number_of a) ≡ true
  few-words more = or_right (nat_lt (length (free_names q.names)) (length (shared q a (number_of a)))) (nat_lt most_words (q.words + length (shared q a (number_of a)))) (less-true most_words (q.words + length (shared q a (number_of a))) more)

  pub few-names : length (free_names q.names) < length (shared q a (number_of a)) → has_many_names q a (number_of a) ≡ true
  few-names more = ap (λ b. b || nat_lt most_words (q.words + length (shared q a (number_of a)))) (less-true (length (free_names q.names)) (length (shared q a (number_of a))) more)

  pub enough-names : length (shared q a (number_of a)) ≤ length (free_names q.names) → q.words + length (shared q a (number_of a)) ≤ most_words → has_many_names q a (number_of a) ≡ false
  enough-names names words =
      ap (λ b. b || nat_lt most_words (q.words + length (shared q a (number_of a)))) (less-false (length (free_names q.names)) (length (shared q a (number_of a))) names)
      ∙ less-false most_words (q.words + length (shared q a (number_of a))) words

module _ (q : Program) (a : Availability) (flat : List FlatLine) where
  abbrev many_statements : Bool
  many_statements = has_many_statements (with_temporaries q a (number_of a)) (shared_flat q a (number_of a) flat)

  abbrev long_text : Bool
  long_text = has_long_text (with_temporaries q a (number_of a)) (shared_flat q a (number_of a) flat)

  -- ---- statements

  declared-least : (p : Program) → length p.names ≤ length (declared p)
  declared-least p =
      let first : length (map typed_name p.names) ≡ length p.names = length-map p.names typed_name in
      let one = length-append (map typed_name p.names) (commons p.commons) in
      let two = length-append (map typed_name p.names ++ commons p.commons) (map group_statement p.groups) in
      let three = length-append (map typed_name p.names ++ commons p.commons ++ map group_statement p.groups) (map init_statement p.inits) in
      omega (arith, first, one, two, three)

  pub many-declared : most_statements < length q.names → many_statements ≡ true
  many-declared more =
      let least = declared-least (with_temporaries q a (number_of a)) in
      let size = length-append q.names (temporaries q a (number_of a)) in
      less-true most_statements (length (declared (with_temporaries q a (number_of a))) + length (shared_flat q a (number_of a) flat)) (omega (arith, more, least, size))

  pub many-lines : most_statements < length (shared_flat q a (number_of a) flat) → many_statements ≡ true
  many-lines more = less-true most_statements (length (declared (with_temporaries q a (number_of a))) + length (shared_flat q a (number_of a) flat)) (omega (arith, more))

  -- ---- limits in order

  pub refused-names : has_many_names q a (number_of a) ≡ true → refusal q a (number_of a) flat ≡ Some TooManyNames
  refused-names is = ap (λ b. first_limit b many_statements long_text) is

  pub refused-statements : has_many_names q a (number_of a) ≡ false → many_statements ≡ true → refusal q a (number_of a) flat ≡ Some TooManyStatements
  refused-statements few is = ap (λ b. first_limit b many_statements long_text) few ∙ ap (λ b. first_limit false b long_text) is

  pub refused-text : has_many_names q a (number_of a) ≡ false → many_statements ≡ false → long_text ≡ true → refusal q a (number_of a) flat ≡ Some LongText
  refused-text few short is = ap (λ b. first_limit b many_statements long_text) few ∙ ap (λ b. first_limit false b long_text) short ∙ ap (λ b. first_limit false false b) is

  pub not-refused : has_many_names q a (number_of a) ≡ false → many_statements ≡ false → long_text ≡ false → refusal q a (number_of a) flat ≡ None
  not-refused few short is = ap (λ b. first_limit b many_statements long_text) few ∙ ap (λ b. first_limit false b long_text) short ∙ ap (λ b. first_limit false false b) is
