-- Expressions before what ends them, and variables.
use Rattle.std.proofs.Common.{◌≡◌, ◌==◌, ℕ, ◌<◌, ◌≤◌, true, false, not, List, [], ◌∷◌, ◌++◌, length, map, codes, All, Some, None, if◌then◌else◌, refl, sym, ap, subst, ◌∙◌, arith}
use Rattle.f77_tree.specs.Name.{is_name}
use Rattle.f77_tree.specs.Grammar.{Written, Arguments, symbol, IsGrammatical, AreGrammatical, spelling, spellings}
use Rattle.f77_tree.specs.StatementGrammar.{with_commas, bracketed_list, is_variable, IsVariable}
use Rattle.f77_expr.specs.Reader.{read_as, and_then_read, expression_at}
use Rattle.f77_expr.specs.Reader.Prefix.{Plus, Minus, Negation}
use Rattle.f77_expr.proofs.EachRead.{Each, each_if, each_then, each_as, each_weaker, if_true}
use Rattle.f77_expr.proofs.Followers.{breaks_off, is_follower}
use Rattle.f77_expr.proofs.Spellings.{binary_spelling, call_spelling, bracketed_spelling, prefixed_spelling}
use Rattle.f77_expr.proofs.Soundness.{expression_sound as read_grammatical}
use Rattle.f77_expr.proofs.Spelled.{expression_spells}
use Rattle.f77_expr.proofs.Completeness.{read_at_start}
use Rattle.f77_parse.specs.Parts.{list_at, bracketed_or_none, ends_expression, expression_at_start, arguments_of, variable_of, variable_at, name_at}
use Rattle.f77_parse.proofs.Followers.{other_prefix, other_not_at_start, capital_prefix, no_symbol, ends_list, IsAtStart, Every, IsListed}
use Rattle.f77_parse.proofs.PartReaders.{each_read, brackets_prefix}
use Rattle.f77_parse.proofs.PartLists.{bracketed_reads, bracketed_or_none_sound, bracketed_or_none_reads, list_all_sound, list_all_reads}
use Rattle.f77_parse.proofs.PartNumbers.{number_other, name_other, name_capital_prefix, breaks_symbol, breaks_bracket, name_sound, name_reads}

-- ---- expressions

pub expression_sound : (text : List ℕ) → Each (λ w rest. IsGrammatical w × (spelling w ++ rest ≡ text) × (ends_expression rest ≡ true)) (expression_at_start text)
expression_sound text =
    each_then (λ w rest. IsGrammatical w × (spelling w ++ rest ≡ text)) P (λ w rest. if ends_expression rest then Some (w, rest) else None) (expression_at 0 text)
    (each_read (λ w rest. IsGrammatical w × (spelling w ++ rest ≡ text)) (expression_at 0 text) (λ w rest e. ((read_grammatical 0 text w rest (omega arith) e).0, expression_spells 0 text w rest e)))
    (λ w rest is. each_if P (ends_expression rest) (Some (w, rest)) None (λ ends. (is.0, is.1, ends)) (λ goes_on. tt))
  where
    P : Written → List ℕ → Type 0
    P w rest = IsGrammatical w × (spelling w ++ rest ≡ text) × (ends_expression rest ≡ true)

follower_from : (rest : List ℕ) → ends_expression rest ≡ true → is_follower rest ≡ true
follower_from [] h = refl
follower_from (c ∷ more) h = h

pub expression_reads : (w : Written) (rest : List ℕ) → IsGrammatical w → ends_expression rest ≡ true → expression_at_start (spelling w ++ rest) ≡ Some (w, rest)
expression_reads w rest fits follows =
    ap (and_then_read (λ w rest. if ends_expression rest then Some (w, rest) else None)) (read_at_start w rest fits (follower_from rest follows))
    ∙ if_true (ends_expression rest) (Some (w, rest)) None follows

-- ---- first characters

-- a character below the digits that is no bracket, sign or point
record BeginsNone (k : ℕ) : Type 0 where
  below : k < 48
  no_bracket : not (40 == k) ≡ true
  no_plus : not (43 == k) ≡ true
  no_minus : not (45 == k) ≡ true
  no_point : not (46 == k) ≡ true

expression_other : (k : ℕ) → BeginsNone k → (w : Written) → IsGrammatical w → (rest : List ℕ) → other_prefix k (spelling w ++ rest) ≡ true
expression_other k none (Written.number digits) h rest = number_other k digits rest h none.below
expression_other k none (Written.truth true) h rest = none.no_point
expression_other k none (Written.truth false) h rest = none.no_point
expression_other k none (Written.name name) h rest = name_other k name rest h (omega (arith, none.below))
expression_other k none (Written.call name args) h rest = ap (other_prefix k) (call_spelling name args rest) ∙ name_other k name (40 ∷ (spellings args ++ (41 ∷ rest))) h.0 (omega (arith, none.below))
expression_other k none (Written.bracketed w) h rest = ap (other_prefix k) (bracketed_spelling w rest) ∙ none.no_bracket
expression_other k none (Written.plus w) h rest = ap (other_prefix k) (prefixed_spelling Plus w rest) ∙ none.no_plus
expression_other k none (Written.minus w) h rest = ap (other_prefix k) (prefixed_spelling Minus w rest) ∙ none.no_minus
expression_other k none (Written.negation w) h rest = ap (other_prefix k) (prefixed_spelling Negation w rest) ∙ none.no_point
expression_other k none (Written.binary op a b) h rest = ap (other_prefix k) (binary_spelling op a b rest) ∙ expression_other k none a h.0 (symbol op ++ (spelling b ++ rest))

-- an expression begins with no stroke, no apostrophe and no comma
pub expression_no_stroke : (w : Written) (rest : List ℕ) → IsGrammatical w → other_prefix 47 (spelling w ++ rest) ≡ true
expression_no_stroke w rest h = expression_other 47 (record { below = omega arith; no_bracket = refl; no_plus = refl; no_minus = refl; no_point = refl }) w h rest

pub expression_no_quote : (w : Written) (rest : List ℕ) → IsGrammatical w → other_prefix 39 (spelling w ++ rest) ≡ true
expression_no_quote w rest h = expression_other 39 (record { below = omega arith; no_bracket = refl; no_plus = refl; no_minus = refl; no_point = refl }) w h rest

pub expression_no_comma : (w : Written) (rest : List ℕ) → IsGrammatical w → other_prefix 44 (spelling w ++ rest) ≡ true
expression_no_comma w rest h = expression_other 44 (record { below = omega arith; no_bracket = refl; no_plus = refl; no_minus = refl; no_point = refl }) w h rest

pub expression_listed : IsListed expression_at_start spelling IsGrammatical ends_expression
expression_listed = record {
  sound = λ text. each_weaker (λ w rest. IsGrammatical w × (spelling w ++ rest ≡ text) × (ends_expression rest ≡ true)) (λ w rest. IsAtStart IsGrammatical spelling text w rest) (expression_at_start text) (λ w rest is. (is.0, is.1)) (expression_sound text);
  reads = expression_reads;
  comma = λ more. refl;
  bracket = λ more. refl;
  no_stroke = λ w rest fits. other_not_at_start 47 (spelling w ++ rest) (expression_no_stroke w rest fits);
}

-- ---- variables

arguments_text : (w : Written) (more : List Written) → spellings (arguments_of w more) ≡ with_commas (map spelling (w ∷ more))
arguments_text w [] = refl
arguments_text w (next ∷ more) = ap (λ text. spelling w ++ codes "," ++ text) (arguments_text next more)

arguments_fit : (w : Written) (more : List Written) → Every IsGrammatical (w ∷ more) → AreGrammatical (arguments_of w more)
arguments_fit w [] h = h.0
arguments_fit w (next ∷ more) h = (h.0, arguments_fit next more h.1)

pub variable_spelling : (name : List ℕ) (subs : List Written) (rest : List ℕ) → spelling (variable_of name subs) ++ rest ≡ name ++ (bracketed_list (map spelling subs) ++ rest)
variable_spelling name [] rest = refl
variable_spelling name (w ∷ more) rest =
    call_spelling name (arguments_of w more) rest
    ∙ ap (λ inside. name ++ (40 ∷ (inside ++ (41 ∷ rest)))) (arguments_text w more)
    ∙ ap (λ beyond. name ++ beyond) (sym (brackets_prefix (with_commas (map spelling (w ∷ more))) rest))

variable_fits : (name : List ℕ) (subs : List Written) → is_name name ≡ true → Every IsGrammatical subs → IsVariable (variable_of name subs)
variable_fits name [] is fit = record { grammatical = is; variable = refl }
variable_fits name (w ∷ more) is fit = record { grammatical = (is, arguments_fit w more fit); variable = refl }

pub variable_sound : (text : List ℕ) → Each (λ w rest. IsAtStart IsVariable spelling text w rest) (variable_at text)
variable_sound text =
    each_then (λ name rest. IsAtStart (λ name. is_name name ≡ true) (λ name. name) text name rest) P (λ name rest. read_as (λ subs. variable_of name subs) (bracketed_or_none expression_at_start rest)) (name_at text) (name_sound text)
    (λ name rest is. each_as (λ subs tail. IsAtStart (λ subs. Every IsGrammatical subs) (λ subs. bracketed_list (map spelling subs)) rest subs tail) P (λ subs. variable_of name subs) (bracketed_or_none expression_at_start rest) (bracketed_or_none_sound expression_listed rest)
    (λ subs tail h. (variable_fits name subs is.0 h.0, variable_spelling name subs tail ∙ ap (λ more. name ++ more) h.1 ∙ is.1)))
  where
    P : Written → List ℕ → Type 0
    P w rest = IsAtStart IsVariable spelling text w rest

-- a variable is a name with subscripts or without
listed_arguments : Arguments → List Written
listed_arguments (Arguments.last w) = w ∷ []
listed_arguments (Arguments.before w more) = w ∷ listed_arguments more

listed_back : (w : Written) (more : Arguments) → arguments_of w (listed_arguments more) ≡ Arguments.before w more
unfolding listed_arguments
listed_back w (Arguments.last v) = refl
listed_back w (Arguments.before v more) = ap (λ others. Arguments.before w others) (listed_back v more)

call_back : (name : List ℕ) (args : Arguments) → variable_of name (listed_arguments args) ≡ Written.call name args
unfolding listed_arguments
call_back name (Arguments.last w) = refl
call_back name (Arguments.before w more) = ap (λ args. Written.call name args) (listed_back w more)

listed_fit : (args : Arguments) → AreGrammatical args → Every IsGrammatical (listed_arguments args)
unfolding listed_arguments
listed_fit (Arguments.last w) h = (h, tt)
listed_fit (Arguments.before w more) h = (h.0, listed_fit more h.1)

parts_read : (name : List ℕ) (subs : List Written) (rest : List ℕ) → is_name name ≡ true → no_symbol (bracketed_list (map spelling subs) ++ rest) ≡ true → bracketed_or_none expression_at_start (bracketed_list (map spelling subs) ++ rest) ≡ Some (subs, rest) → variable_at (spelling (variable_of name subs) ++ rest) ≡ Some (variable_of name subs, rest)
parts_read name subs rest is ends reads =
    ap variable_at (variable_spelling name subs rest)
    ∙ ap (and_then_read (λ name rest. read_as (λ subs. variable_of name subs) (bracketed_or_none expression_at_start rest))) (name_reads name (bracketed_list (map spelling subs) ++ rest) is ends)
    ∙ ap (read_as (λ subs. variable_of name subs)) reads

element_reads : (name : List ℕ) (w : Written) (more : List Written) (rest : List ℕ) → is_name name ≡ true → Every IsGrammatical (w ∷ more) → variable_at (spelling (variable_of name (w ∷ more)) ++ rest) ≡ Some (variable_of name (w ∷ more), rest)
element_reads name w more rest is fit = parts_read name (w ∷ more) rest is refl (bracketed_reads expression_listed (w ∷ more) rest (omega arith) fit)

-- an array element is read before anything: its bracket closes it
pub call_reads : (name : List ℕ) (args : Arguments) (rest : List ℕ) → is_name name ≡ true → AreGrammatical args → variable_at (spelling (Written.call name args) ++ rest) ≡ Some (Written.call name args, rest)
unfolding listed_arguments
call_reads name (Arguments.last w) rest is fit = element_reads name w [] rest is (fit, tt)
call_reads name (Arguments.before w more) rest is fit =
    subst (λ w. variable_at (spelling w ++ rest) ≡ Some (w, rest)) (call_back name (Arguments.before w more)) (element_reads name w (listed_arguments more) rest is (fit.0, listed_fit more fit.1))

name_reads_alone : (name rest : List ℕ) → is_name name ≡ true → breaks_off rest ≡ true → variable_at (name ++ rest) ≡ Some (Written.name name, rest)
name_reads_alone name rest is follows = parts_read name [] rest is (breaks_symbol rest follows) (bracketed_or_none_reads expression_listed [] rest tt (breaks_bracket rest follows))

reads_by : (w : Written) → IsGrammatical w → is_variable w ≡ true → (rest : List ℕ) → breaks_off rest ≡ true → variable_at (spelling w ++ rest) ≡ Some (w, rest)
reads_by (Written.name name) h is rest follows = name_reads_alone name rest h follows
reads_by (Written.call name args) h is rest follows = call_reads name args rest h.0 h.1
reads_by _ h is rest follows = absurd cc

pub variable_reads : (w : Written) (rest : List ℕ) → IsVariable w → breaks_off rest ≡ true → variable_at (spelling w ++ rest) ≡ Some (w, rest)
variable_reads w rest fits follows = reads_by w fits.grammatical fits.variable rest follows

pub variable_listed : IsListed variable_at spelling IsVariable breaks_off
variable_listed = record {
  sound = variable_sound;
  reads = variable_reads;
  comma = λ more. refl;
  bracket = λ more. refl;
  no_stroke = λ w rest fits. other_not_at_start 47 (spelling w ++ rest) (expression_no_stroke w rest fits.grammatical);
}

-- a variable begins with a letter
pub variable_capital_prefix : (w : Written) (rest : List ℕ) → IsVariable w → capital_prefix (spelling w ++ rest) ≡ true
variable_capital_prefix w rest fits = here w fits.grammatical fits.variable
  where
    here : (w : Written) → IsGrammatical w → is_variable w ≡ true → capital_prefix (spelling w ++ rest) ≡ true
    here (Written.name name) h is = name_capital_prefix name rest h
    here (Written.call name args) h is = ap capital_prefix (call_spelling name args rest) ∙ name_capital_prefix name (40 ∷ (spellings args ++ (41 ∷ rest))) h.0
    here _ h is = absurd cc

pub variables_sound : (text : List ℕ) → Each (λ ws rest. IsAtStart (λ ws. (1 ≤ length ws) × All IsVariable ws) (λ ws. with_commas (map spelling ws)) text ws rest) (list_at variable_at text)
variables_sound text = list_all_sound variable_listed text

pub variables_reads : (ws : List Written) (rest : List ℕ) → 1 ≤ length ws → All IsVariable ws → breaks_off rest ≡ true → ends_list rest ≡ true → list_at variable_at (with_commas (map spelling ws) ++ rest) ≡ Some (ws, rest)
variables_reads ws rest some fit follows ends = list_all_reads variable_listed ws rest some fit follows ends
