-- Character constants, and items of output.
use Rattle.std.proofs.Common.{◌≡◌, ◌==◌, ℕ, ◌<◌, ◌≤◌, Bool, true, false, not, List, [], ◌∷◌, ◌++◌, length, map, flat_map, codes, All, Some, None, if◌then◌else◌, nat_lt, refl, sym, ap, subst, ◌∙◌, arith}
use Rattle.std.proofs.lemmas.Bool.{not-true, eqb-true, ltb-true, lt-ltb}
use Rattle.f77_tree.specs.Grammar.{IsGrammatical, spelling}
use Rattle.f77_tree.specs.StatementGrammar.{with_commas, character_text, characters_text, WrittenItem, item_text, IsItem}
use Rattle.f77_tree.specs.StatementGrammar.WrittenItem.{Expression, Characters}
use Rattle.f77_expr.specs.Reader.{read_as}
use Rattle.f77_expr.proofs.EachRead.{Each, each_if, each_as, each_weaker, if_false}
use Rattle.f77_parse.specs.Parts.{where_it, list_at, ends_expression, expression_at_start, characters_after, characters_at, item_at}
use Rattle.f77_parse.proofs.Followers.{not_at_start, other_prefix, other_not_at_start, ends_list, IsAtStart, IsListed}
use Rattle.f77_parse.proofs.PartReaders.{after_sound, where_sound, where_reads, not_at_start_in, between}
use Rattle.f77_parse.proofs.PartLists.{list_all_sound, list_all_reads}
use Rattle.f77_parse.proofs.PartExpressions.{expression_sound, expression_reads, expression_no_stroke, expression_no_quote}

-- ---- character constants

-- how characters are written, each apostrophe as two
abbrev pub inner_text : List ℕ → List ℕ
inner_text characters = flat_map character_text characters

quote_text : (c : ℕ) → c ≡ 39 → character_text c ≡ 39 ∷ 39 ∷ []
quote_text c e = ap character_text e

plain_text : (c : ℕ) → (c == 39) ≡ false → character_text c ≡ c ∷ []
plain_text c e = if_false (c == 39) (39 ∷ 39 ∷ []) (c ∷ []) e

-- the characters before the apostrophe that closes them
abbrev ClosedIn : List ℕ → List ℕ → List ℕ → Type 0
ClosedIn text characters rest = inner_text characters ++ (39 ∷ rest) ≡ text

after_quote : (c d : ℕ) (text : List ℕ) → c ≡ 39 → d ≡ 39 → Each (λ cs rest. ClosedIn text cs rest) (characters_after text) → Each (λ cs rest. ClosedIn (c ∷ d ∷ text) cs rest) (read_as (λ cs. 39 ∷ cs) (characters_after text))
after_quote c d text first second ih =
    each_as (λ cs rest. ClosedIn text cs rest) (λ cs rest. ClosedIn (c ∷ d ∷ text) cs rest) (λ cs. 39 ∷ cs) (characters_after text) ih
    (λ cs rest is. ap (λ (more : List ℕ). 39 ∷ 39 ∷ more) is ∙ ap (λ b. b ∷ 39 ∷ text) (sym first) ∙ ap (λ b. c ∷ b ∷ text) (sym second))

after_plain : (c : ℕ) (text : List ℕ) → (c == 39) ≡ false → Each (λ cs rest. ClosedIn text cs rest) (characters_after text) → Each (λ cs rest. ClosedIn (c ∷ text) cs rest) (read_as (λ cs. c ∷ cs) (characters_after text))
after_plain c text plain ih =
    each_as (λ cs rest. ClosedIn text cs rest) (λ cs rest. ClosedIn (c ∷ text) cs rest) (λ cs. c ∷ cs) (characters_after text) ih
    (λ cs rest is. ap (λ prefix. (prefix ++ inner_text cs) ++ (39 ∷ rest)) (plain_text c plain) ∙ ap (λ (more : List ℕ). c ∷ more) is)

beyond_sound : (text : List ℕ) → Each (λ cs rest. ClosedIn text cs rest) (characters_after text)
beyond_sound [] = tt
beyond_sound (c ∷ []) = each_if (λ cs rest. ClosedIn (c ∷ []) cs rest) (c == 39) (Some ([], [])) None (λ quote. ap (λ d. d ∷ []) (sym (eqb-true c 39 quote))) (λ plain. tt)
beyond_sound (c ∷ d ∷ text) = here (beyond_sound text) (beyond_sound (d ∷ text))
  where
    P : List ℕ → List ℕ → Type 0
    P cs rest = ClosedIn (c ∷ d ∷ text) cs rest

    here : Each (λ cs rest. ClosedIn text cs rest) (characters_after text) → Each (λ cs rest. ClosedIn (d ∷ text) cs rest) (characters_after (d ∷ text)) → Each P (characters_after (c ∷ d ∷ text))
    here ih next =
        each_if P (c == 39) (if d == 39 then read_as (λ cs. 39 ∷ cs) (characters_after text) else Some ([], d ∷ text)) (read_as (λ cs. c ∷ cs) (characters_after (d ∷ text)))
        (λ quote. each_if P (d == 39) (read_as (λ cs. 39 ∷ cs) (characters_after text)) (Some ([], d ∷ text))
        (λ another. after_quote c d text (eqb-true c 39 quote) (eqb-true d 39 another) ih)
        (λ other. ap (λ b. b ∷ d ∷ text) (sym (eqb-true c 39 quote))))
        (λ plain. after_plain c (d ∷ text) plain next)

closing_reads : (rest : List ℕ) → not_at_start 39 rest ≡ true → characters_after (39 ∷ rest) ≡ Some ([], rest)
closing_reads [] h = refl
closing_reads (d ∷ rest) h = if_false (d == 39) (read_as (λ cs. 39 ∷ cs) (characters_after rest)) (Some ([], d ∷ rest)) (not_at_start_in 39 d rest h)

-- one character, and others after it
plain_step : (c : ℕ) (text : List ℕ) → (c == 39) ≡ false → 1 ≤ length text → characters_after (c ∷ text) ≡ read_as (λ cs. c ∷ cs) (characters_after text)
plain_step c [] plain some = absurd (omega arith)
plain_step c (d ∷ text) plain some =
    if_false (c == 39) (if d == 39 then read_as (λ cs. 39 ∷ cs) (characters_after text) else Some ([], d ∷ text)) (read_as (λ cs. c ∷ cs) (characters_after (d ∷ text))) plain

closed_some : (xs rest : List ℕ) → 1 ≤ length (xs ++ (39 ∷ rest))
closed_some [] rest = omega arith
closed_some (x ∷ xs) rest = omega arith

after_reads : (cs rest : List ℕ) → not_at_start 39 rest ≡ true → characters_after (inner_text cs ++ (39 ∷ rest)) ≡ Some (cs, rest)
after_reads [] rest follows = closing_reads rest follows
after_reads (c ∷ cs) rest follows = here (c == 39) refl (after_reads cs rest follows)
  where
    others : List ℕ
    others = inner_text cs ++ (39 ∷ rest)

    here : (b : Bool) → (c == 39) ≡ b → characters_after others ≡ Some (cs, rest) → characters_after (inner_text (c ∷ cs) ++ (39 ∷ rest)) ≡ Some (c ∷ cs, rest)
    here true e ih =
        let quote : c ≡ 39 = eqb-true c 39 e in
        ap (λ prefix. characters_after ((prefix ++ inner_text cs) ++ (39 ∷ rest))) (quote_text c quote)
        ∙ ap (read_as (λ more. 39 ∷ more)) ih
        ∙ ap (λ d. Some (d ∷ cs, rest)) (sym quote)
    here false e ih =
        ap (λ prefix. characters_after ((prefix ++ inner_text cs) ++ (39 ∷ rest))) (plain_text c e)
        ∙ plain_step c others e (closed_some (inner_text cs) rest)
        ∙ ap (read_as (λ more. c ∷ more)) ih

characters_prefix : (cs rest : List ℕ) → characters_text cs ++ rest ≡ 39 ∷ (inner_text cs ++ (39 ∷ rest))
characters_prefix cs rest = between (codes "'") (inner_text cs) (codes "'") rest

abbrev some_characters : List ℕ → Bool
some_characters characters = nat_lt 0 (length characters)

pub characters_sound : (text : List ℕ) → Each (λ characters rest. IsAtStart (λ characters. 1 ≤ length characters) characters_text text characters rest) (characters_at text)
characters_sound text =
    after_sound P (codes "'") (λ rest. where_it some_characters (characters_after rest)) text
    (λ inside e. each_weaker (λ cs rest. ClosedIn inside cs rest × (some_characters cs ≡ true)) P (where_it some_characters (characters_after inside))
    (λ cs rest is. let some : 0 < length cs = ltb-true 0 (length cs) is.1 in (omega (arith, some), characters_prefix cs rest ∙ ap (λ (more : List ℕ). 39 ∷ more) is.0 ∙ e))
    (where_sound (λ cs rest. ClosedIn inside cs rest) some_characters (characters_after inside) (beyond_sound inside)))
  where
    P : List ℕ → List ℕ → Type 0
    P characters rest = IsAtStart (λ characters. 1 ≤ length characters) characters_text text characters rest

pub characters_reads : (characters rest : List ℕ) → 1 ≤ length characters → not_at_start 39 rest ≡ true → characters_at (characters_text characters ++ rest) ≡ Some (characters, rest)
characters_reads characters rest some follows =
    ap characters_at (characters_prefix characters rest)
    ∙ where_reads some_characters (characters_after (inner_text characters ++ (39 ∷ rest))) characters rest (after_reads characters rest follows) (lt-ltb 0 (length characters) (omega (arith, some)))

-- ---- items

pub item_sound : (text : List ℕ) → Each (λ i rest. IsAtStart IsItem item_text text i rest) (item_at text)
item_sound [] = tt
item_sound (c ∷ text) =
    each_if P (c == 39) (read_as (λ characters. Characters characters) (characters_at (c ∷ text))) (read_as (λ w. Expression w) (expression_at_start (c ∷ text)))
    (λ quote. each_as (λ characters rest. IsAtStart (λ characters. 1 ≤ length characters) characters_text (c ∷ text) characters rest) P (λ characters. Characters characters) (characters_at (c ∷ text)) (characters_sound (c ∷ text)) (λ characters rest is. is))
    (λ none. each_as (λ w rest. IsGrammatical w × (spelling w ++ rest ≡ c ∷ text) × (ends_expression rest ≡ true)) P (λ w. Expression w) (expression_at_start (c ∷ text)) (expression_sound (c ∷ text)) (λ w rest is. (is.0, is.1)))
  where
    P : WrittenItem → List ℕ → Type 0
    P i rest = IsAtStart IsItem item_text (c ∷ text) i rest

-- what begins with no apostrophe is no character constant
expression_item : (text : List ℕ) → other_prefix 39 text ≡ true → item_at text ≡ read_as (λ w. Expression w) (expression_at_start text)
expression_item [] h = absurd cc
expression_item (c ∷ text) h = if_false (c == 39) (read_as (λ characters. Characters characters) (characters_at (c ∷ text))) (read_as (λ w. Expression w) (expression_at_start (c ∷ text))) (not-true (c == 39) h)

-- what ends an expression is no apostrophe
pub ends_no_quote : (rest : List ℕ) → ends_expression rest ≡ true → not_at_start 39 rest ≡ true
ends_no_quote [] h = refl
ends_no_quote (c ∷ more) h = here (c == 39) refl
  where
    no_end : ends_expression (39 ∷ more) ≡ true → ⊥
    no_end e = absurd cc

    here : (b : Bool) → (c == 39) ≡ b → not b ≡ true
    here true e = absurd (no_end (subst (λ d. ends_expression (d ∷ more) ≡ true) (eqb-true c 39 e) h))
    here false e = refl

characters_item : (text : List ℕ) → item_at (39 ∷ text) ≡ read_as (λ characters. Characters characters) (characters_at (39 ∷ text))
characters_item text = refl

pub item_reads : (i : WrittenItem) (rest : List ℕ) → IsItem i → ends_expression rest ≡ true → item_at (item_text i ++ rest) ≡ Some (i, rest)
item_reads (Expression w) rest fits follows = expression_item (spelling w ++ rest) (expression_no_quote w rest fits) ∙ ap (read_as (λ w. Expression w)) (expression_reads w rest fits follows)
item_reads (Characters characters) rest fits follows =
    ap item_at (characters_prefix characters rest)
    ∙ characters_item (inner_text characters ++ (39 ∷ rest))
    ∙ ap (λ text. read_as (λ characters. Characters characters) (characters_at text)) (sym (characters_prefix characters rest))
    ∙ ap (read_as (λ characters. Characters characters)) (characters_reads characters rest fits (ends_no_quote rest follows))

-- an item begins with some character that is no stroke
pub item_other : (i : WrittenItem) (rest : List ℕ) → IsItem i → other_prefix 47 (item_text i ++ rest) ≡ true
item_other (Expression w) rest fits = expression_no_stroke w rest fits
item_other (Characters characters) rest fits = ap (other_prefix 47) (characters_prefix characters rest)

pub item_listed : IsListed item_at item_text IsItem ends_expression
item_listed = record {
  sound = item_sound;
  reads = item_reads;
  comma = λ more. refl;
  bracket = λ more. refl;
  no_stroke = λ i rest fits. other_not_at_start 47 (item_text i ++ rest) (item_other i rest fits);
}

pub items_sound : (text : List ℕ) → Each (λ items rest. IsAtStart (λ items. (1 ≤ length items) × All IsItem items) (λ items. with_commas (map item_text items)) text items rest) (list_at item_at text)
items_sound text = list_all_sound item_listed text

pub items_reads : (items : List WrittenItem) (rest : List ℕ) → 1 ≤ length items → All IsItem items → ends_expression rest ≡ true → ends_list rest ≡ true → list_at item_at (with_commas (map item_text items) ++ rest) ≡ Some (items, rest)
items_reads items rest some fit follows ends = list_all_reads item_listed items rest some fit follows ends
