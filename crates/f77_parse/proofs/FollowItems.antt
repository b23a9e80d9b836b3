-- Variables, names between brackets, character constants and items of output that are kept.
use Rattle.std.proofs.Common.{◌≡◌, ◌<◌, ◌==◌, ℕ, zero, suc, Bool, true, false, ◌||◌, List, [], ◌∷◌, ◌++◌, codes, length, map, Option, Some, None, if◌then◌else◌, refl, sym, ap, ◌∙◌, arith, append_assoc}
use Rattle.std.specs.Prelude.{nat_lt}
use Rattle.std.specs.List.{list_any}
use Rattle.std.proofs.lemmas.List.{append-nil}
use Rattle.f77_tree.specs.declared.statements.RawExpr.{RawExpr}
use Rattle.f77_tree.specs.declared.statements.RawExpr.TheVariants.{Named, Call}
use Rattle.f77_tree.specs.declared.statements.RawItem.TheVariants.{Value, Chars}
use Rattle.f77_tree.specs.Grammar.{Written, has_great_number, have_great_number}
use Rattle.f77_tree.specs.StatementGrammar.{WrittenItem, item_is_great, names_of}
use Rattle.f77_expr.specs.Answers.{kept, kept_arguments}
use Rattle.f77_expr.specs.Reader.{Reads, read_as, and_then_read, after_prefix, this_or, expression_at}
use Rattle.f77_expr.proofs.EachRead.{Each}
use Rattle.f77_parse.specs.Parts.{beyond, then_prefix, where_it, name_at, list_at, listed, more_listed, after_comma, bracketed_or_none, expression_at_start, arguments_of, variable_of, variable_at, characters_after, characters_at, item_at, names_inside, names_begun, names_at}
use Rattle.f77_parse.specs.Keeping.{Keeps, keep_then, where_prefix, name_kept, expression_kept, closed_list, variable_kept, character_kept, next_character_kept, characters_next, characters_onto, characters_kept, character_constant_kept, item_kept, names_kept}
use Rattle.f77_parse.specs.KeptValues.{kept_item}
use Rattle.f77_parse.proofs.FollowLemmas.{told, never_bad, no_flag, or_none, flag_last, then_told, as_told, where_told, same_as, prefix_told, wanted_told, if_told, eq_flip}
use Rattle.f77_parse.proofs.FollowLists.{closed_told, brackets_told}
use Rattle.f77_parse.proofs.FollowNumbers.{name_told, expression_told}

-- ---- lists have items

abbrev HasItems : {A : Type 0} → List A → Type 0
HasItems [] = ⊥
HasItems (a ∷ items) = Unit {0}

module _ {A : Type 0} (item : List ℕ → Reads A) where
  next_some : (n : ℕ) (a : A) (rest : List ℕ) (o : Option (List ℕ)) → Each (λ items rest. HasItems items) (more_listed (λ next. listed n item next) a rest o)
  next_some n a rest None = tt
  next_some n a rest (Some more) = others (listed n item more)
    where
      others : (x : Reads (List A)) → Each (λ items rest. HasItems items) (read_as (λ others. a ∷ others) x)
      others None = tt
      others (Some (items, end)) = tt

  some_items : (text : List ℕ) → Each (λ items rest. HasItems items) (list_at item text)
  some_items text = by (item text)
    where
      by : (x : Reads A) → Each (λ items rest. HasItems items) (and_then_read (λ a rest. more_listed (λ next. listed (length text) item next) a rest (after_comma rest)) x)
      by None = tt
      by (Some (a, rest)) = next_some (length text) a rest (after_comma rest)

  some_closed : (text : List ℕ) → Each (λ items rest. HasItems items) (then_prefix (codes ")") (list_at item text))
  some_closed text = by (list_at item text) (some_items text)
    where
      by : (x : Reads (List A)) → Each (λ items rest. HasItems items) x → Each (λ items rest. HasItems items) (then_prefix (codes ")") x)
      by None h = tt
      by (Some (items, rest)) h = closed (after_prefix (codes ")") rest)
        where
          closed : (o : Option (List ℕ)) → Each (λ items rest. HasItems items) (beyond (λ more. Some (items, more)) o)
          closed None = tt
          closed (Some more) = h

-- ---- variables

kept_all : (w : Written) (more : List Written) → kept_arguments (arguments_of w more) ≡ map kept (w ∷ more)
kept_all w [] = refl
kept_all w (next ∷ more) = ap (λ (es : List RawExpr). kept w ∷ es) (kept_all next more)

great_among : (w : Written) (more : List Written) → have_great_number (arguments_of w more) ≡ list_any has_great_number (w ∷ more)
great_among w [] = sym (or_none (has_great_number w))
great_among w (next ∷ more) = ap (λ (b : Bool). has_great_number w || b) (great_among next more)

-- a name with subscripts
called : (name : List ℕ) (bad : Bool) (x : Reads (List Written)) → Each (λ items rest. HasItems items) x → keep_then (told (map kept) (list_any has_great_number) (bad || false) x) (λ subs bad_then more. Some (Call name subs, bad_then, more)) ≡ told kept has_great_number bad (read_as (λ subs. variable_of name subs) x)
called name bad None some = refl
called name bad (Some ([], rest)) some = absurd some
called name bad (Some (w ∷ more, rest)) some =
    ap (λ (es : List RawExpr). Some (Call name es, (bad || false) || list_any has_great_number (w ∷ more), rest)) (sym (kept_all w more))
    ∙ ap (λ (b : Bool). Some (kept (variable_of name (w ∷ more)), b, rest)) (flag_last bad (list_any has_great_number (w ∷ more)) ∙ ap (λ (b : Bool). bad || b) (sym (great_among w more)))

pub variable_told : (bad : Bool) (text : List ℕ) → variable_kept bad text ≡ told kept has_great_number bad (variable_at text)
unfolding variable_kept
variable_told bad text =
    then_told (λ (name : List ℕ). name) never_bad bad kept has_great_number bad (λ name rest. subs_read name (bracketed_or_none expression_at_start rest))
    (λ name bad_now rest. where_prefix (after_prefix (codes "(") rest) (after_bracket name bad_now) (Some (Named name, bad_now, rest))) (name_at text) (name_kept bad text) (name_told bad text)
    (λ name rest. brackets_told kept has_great_number bad (subs_read name) (after_bracket name (bad || false)) (Some (Named name, bad || false, rest)) expression_at_start rest
    (λ inside. ap (λ (k : Keeps (List RawExpr)). keep_then k (λ subs bad_then more. Some (Call name subs, bad_then, more))) (closed_told kept has_great_number expression_at_start expression_kept expression_told (bad || false) inside)
    ∙ called name bad (then_prefix (codes ")") (list_at expression_at_start inside)) (some_closed expression_at_start inside))
    refl)
  where
    subs_read : List ℕ → Reads (List Written) → Reads Written
    subs_read name subs = read_as (λ subs. variable_of name subs) subs

    after_bracket : List ℕ → Bool → List ℕ → Keeps RawExpr
    after_bracket name bad_now beyond = keep_then (closed_list expression_kept bad_now beyond) (λ subs bad_then more. Some (Call name subs, bad_then, more))

-- ---- names between brackets

same_names : (names : List (List ℕ)) → map (λ (name : List ℕ). name) names ≡ names
same_names [] = refl
same_names (name ∷ more) = ap (λ (rest : List (List ℕ)). name ∷ rest) (same_names more)

never_among : {A : Type 0} (items : List A) → list_any never_bad items ≡ false
never_among [] = refl
never_among (a ∷ items) = never_among items

inside_told : (bad : Bool) (inside : List ℕ) → where_prefix (after_prefix (codes ")") inside) (λ rest. Some ([], bad, rest)) (closed_list name_kept bad inside) ≡ told names_of never_bad bad (read_as (λ names. Some names) (names_inside inside))
inside_told bad inside =
    prefix_told names_of never_bad bad (λ prefix. read_as (λ names. Some names) (this_or [] prefix (then_prefix (codes ")") (list_at name_at inside)))) (λ rest. Some ([], bad, rest)) (closed_list name_kept bad inside) (after_prefix (codes ")") inside)
    (λ rest. no_flag [] bad rest)
    (closed_told (λ (name : List ℕ). name) never_bad name_at name_kept name_told bad inside ∙ by (then_prefix (codes ")") (list_at name_at inside)))
  where
    by : (x : Reads (List (List ℕ))) → told (map (λ (name : List ℕ). name)) (list_any never_bad) bad x ≡ told names_of never_bad bad (read_as (λ names. Some names) x)
    by None = refl
    by (Some (names, rest)) =
        ap (λ (same : List (List ℕ)). Some (same, bad || list_any never_bad names, rest)) (same_names names)
        ∙ ap (λ (b : Bool). Some (names, bad || b, rest)) (never_among names)

pub names_told : (bad : Bool) (text : List ℕ) → names_kept bad text ≡ told names_of never_bad bad (names_at text)
unfolding names_kept
names_told bad text =
    prefix_told names_of never_bad bad (λ prefix. names_begun text prefix) (λ inside. where_prefix (after_prefix (codes ")") inside) (λ rest. Some ([], bad, rest)) (closed_list name_kept bad inside)) (Some ([], bad, text)) (after_prefix (codes "(") text)
    (λ inside. inside_told bad inside) (no_flag [] bad text)

-- ---- character constants

-- what is kept of characters after those of a list
abbrev told_characters : List ℕ → Bool → Reads (List ℕ) → Keeps (List ℕ)
told_characters list bad x = told (λ characters. list ++ characters) never_bad bad x

no_character : (bad : Bool) → next_character_kept bad [] ≡ None
unfolding next_character_kept character_kept
no_character bad = refl

last_character : (bad : Bool) (c : ℕ) → next_character_kept bad (c ∷ []) ≡ (if c == 39 then Some (None, bad, []) else Some (Some c, bad, []))
unfolding next_character_kept character_kept
last_character bad c = by (39 == c) ∙ ap (λ (b : Bool). if b then Some (None, bad, []) else Some (Some c, bad, [])) (eq_flip 39 c)
  where
    by : (b : Bool) → where_prefix (if b then None else None) (λ rest. Some (Some 39, bad, rest)) (where_prefix (if b then Some [] else None) (λ rest. Some (None, bad, rest)) (Some (Some c, bad, []))) ≡ (if b then Some (None, bad, []) else Some (Some c, bad, []))
    by true = refl
    by false = refl

next_character : (bad : Bool) (c d : ℕ) (text : List ℕ) → next_character_kept bad (c ∷ d ∷ text) ≡ (if c == 39 then (if d == 39 then Some (Some 39, bad, text) else Some (None, bad, d ∷ text)) else Some (Some c, bad, d ∷ text))
unfolding next_character_kept character_kept
next_character bad c d text = by (39 == c) (39 == d) ∙ ap (λ (b : Bool). answer b (39 == d)) (eq_flip 39 c) ∙ ap (λ (b : Bool). answer (c == 39) b) (eq_flip 39 d)
  where
    answer : Bool → Bool → Keeps (Option ℕ)
    answer b e = if b then (if e then Some (Some 39, bad, text) else Some (None, bad, d ∷ text)) else Some (Some c, bad, d ∷ text)

    by : (b e : Bool) → where_prefix (if b then (if e then Some text else None) else None) (λ rest. Some (Some 39, bad, rest)) (where_prefix (if b then Some (d ∷ text) else None) (λ rest. Some (None, bad, rest)) (Some (Some c, bad, d ∷ text))) ≡ answer b e
    by true true = refl
    by true false = refl
    by false e = refl

-- after the next character
abbrev go_on : ℕ → List ℕ → Keeps (Option ℕ) → Keeps (List ℕ)
go_on n list k = keep_then k (λ next bad_now rest. characters_next (characters_onto n) list bad_now rest next)

nothing_after : (n : ℕ) (list : List ℕ) (bad : Bool) → characters_onto n list bad [] ≡ None
nothing_after zero list bad = refl
nothing_after (suc n) list bad = ap (go_on n list) (no_character bad)

-- the constant ends here
ended : (list : List ℕ) (bad : Bool) (rest : List ℕ) → ◌≡◌ {A = Keeps (List ℕ)} (Some (list, bad, rest)) (Some (list ++ [], bad || false, rest))
ended list bad rest = ap (λ (longer : List ℕ). Some (longer, bad, rest)) (sym (append-nil list)) ∙ no_flag (list ++ []) bad rest

-- one more character first
one_more : (list : List ℕ) (bad : Bool) (c : ℕ) (x : Reads (List ℕ)) → told_characters (list ++ c ∷ []) bad x ≡ told_characters list bad (read_as (λ characters. c ∷ characters) x)
one_more list bad c None = refl
one_more list bad c (Some (characters, rest)) = ap (λ (longer : List ℕ). Some (longer, bad || false, rest)) (append_assoc list (c ∷ []) characters)

characters_told : (n : ℕ) (list : List ℕ) (bad : Bool) (text : List ℕ) → length text < n → characters_onto n list bad text ≡ told_characters list bad (characters_after text)
characters_told zero list bad text less = absurd (omega arith)
characters_told (suc n) list bad [] less = nothing_after (suc n) list bad
characters_told (suc n) list bad (c ∷ []) less = ap (go_on n list) (last_character bad c) ∙ by (c == 39)
  where
    by : (b : Bool) → go_on n list (if b then Some (None, bad, []) else Some (Some c, bad, [])) ≡ told_characters list bad (if b then Some ([], []) else None)
    by true = ended list bad []
    by false = nothing_after n (list ++ c ∷ []) bad
characters_told (suc n) list bad (c ∷ d ∷ text) less = ap (go_on n list) (next_character bad c d text) ∙ by (characters_told n (list ++ 39 ∷ []) bad text (omega arith)) (characters_told n (list ++ c ∷ []) bad (d ∷ text) (omega arith)) (c == 39) (d == 39)
  where
    by : characters_onto n (list ++ 39 ∷ []) bad text ≡ told_characters (list ++ 39 ∷ []) bad (characters_after text) → characters_onto n (list ++ c ∷ []) bad (d ∷ text) ≡ told_characters (list ++ c ∷ []) bad (characters_after (d ∷ text)) → (b e : Bool) → go_on n list (if b then (if e then Some (Some 39, bad, text) else Some (None, bad, d ∷ text)) else Some (Some c, bad, d ∷ text)) ≡ told_characters list bad (if b then (if e then read_as (λ characters. 39 ∷ characters) (characters_after text) else Some ([], d ∷ text)) else read_as (λ characters. c ∷ characters) (characters_after (d ∷ text)))
    by two one true true = two ∙ one_more list bad 39 (characters_after text)
    by two one true false = ended list bad (d ∷ text)
    by two one false e = one ∙ one_more list bad c (characters_after (d ∷ text))

pub character_constant_told : (bad : Bool) (text : List ℕ) → character_constant_kept bad text ≡ told (λ (characters : List ℕ). characters) never_bad bad (characters_at text)
unfolding character_constant_kept characters_kept
character_constant_told bad text =
    wanted_told (λ characters. characters) never_bad bad (λ prefix. beyond shown prefix) (λ found bad_now rest. keep_then (characters_onto (suc (length rest)) [] bad_now rest) (λ characters bad_then more. if nat_lt 0 (length characters) then Some (characters, bad_then, more) else None)) (codes "'") bad text refl
    (λ rest. where_told (λ (characters : List ℕ). characters) never_bad bad (λ (characters : List ℕ). characters) never_bad bad (λ characters. nat_lt 0 (length characters)) (λ characters. nat_lt 0 (length characters)) (λ characters. characters) (λ characters. characters) (characters_after rest) (characters_onto (suc (length rest)) [] bad rest)
    (characters_told (suc (length rest)) [] bad rest (omega arith)) (λ characters. refl) (λ characters. refl) (λ characters. refl)
    ∙ ap (told (λ (characters : List ℕ). characters) never_bad bad) (same_as (shown rest)))
  where
    shown : List ℕ → Reads (List ℕ)
    shown rest = where_it (λ characters. nat_lt 0 (length characters)) (characters_after rest)

-- ---- items of output

expression_item : (bad : Bool) (text : List ℕ) → keep_then (expression_kept bad text) (λ e bad_now rest. Some (Value e, bad_now, rest)) ≡ told kept_item item_is_great bad (read_as (λ w. WrittenItem.Expression w) (expression_at_start text))
expression_item bad text = as_told kept has_great_number bad kept_item item_is_great bad (λ w. WrittenItem.Expression w) (λ e. Value e) (expression_at_start text) (expression_kept bad text) (expression_told bad text) (λ w. refl) (λ w. refl)

characters_item : (bad : Bool) (text : List ℕ) → keep_then (character_constant_kept bad text) (λ characters bad_now rest. Some (Chars characters, bad_now, rest)) ≡ told kept_item item_is_great bad (read_as (λ characters. WrittenItem.Characters characters) (characters_at text))
characters_item bad text = as_told (λ (characters : List ℕ). characters) never_bad bad kept_item item_is_great bad (λ characters. WrittenItem.Characters characters) (λ characters. Chars characters) (characters_at text) (character_constant_kept bad text) (character_constant_told bad text) (λ characters. refl) (λ characters. refl)

-- nothing is no expression
no_expression : expression_at_start [] ≡ None
unfolding expression_at
no_expression = refl

pub item_told : (bad : Bool) (text : List ℕ) → item_kept bad text ≡ told kept_item item_is_great bad (item_at text)
unfolding item_kept
item_told bad [] = expression_item bad [] ∙ ap (λ (x : Reads Written). told kept_item item_is_great bad (read_as (λ w. WrittenItem.Expression w) x)) no_expression
item_told bad (c ∷ text) =
    if_told kept_item item_is_great bad (c == 39) (read_as (λ characters. WrittenItem.Characters characters) (characters_at (c ∷ text))) (read_as (λ w. WrittenItem.Expression w) (expression_at_start (c ∷ text)))
    (keep_then (character_constant_kept bad (c ∷ text)) (λ characters bad_now rest. Some (Chars characters, bad_now, rest))) (keep_then (expression_kept bad (c ∷ text)) (λ e bad_now rest. Some (Value e, bad_now, rest)))
    (characters_item bad (c ∷ text)) (expression_item bad (c ∷ text))
