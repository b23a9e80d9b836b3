-- Numbers, names, letters and signed numbers.
use Rattle.std.proofs.Common.{◌≡◌, ◌==◌, ℕ, ◌<◌, ◌≤◌, Bool, true, false, not, ◌||◌, List, [], ◌∷◌, ◌++◌, length, drop, take_while, map, Some, None, if◌then◌else◌, nat_le, nat_lt, refl, sym, ap, ◌∙◌, arith, append_assoc}
use Rattle.std.proofs.lemmas.Bool.{not-true, eqb-true, and_parts, and_from, and_right, ne_eqb, lt-leb, or_parts}
use Rattle.std.specs.List.{list_all}
use Rattle.f77_tree.specs.Name.{is_capital, is_figure, is_name}
use Rattle.f77_tree.specs.Grammar.{is_number}
use Rattle.f77_tree.specs.StatementGrammar.{with_commas, in_brackets, Sign, SignedDigits, sign_text, signed_text, is_signed}
use Rattle.f77_tree.specs.StatementGrammar.Sign.{No_sign, Plus_sign, Minus_sign}
use Rattle.f77_expr.specs.Reader.{Reads, read_as, is_symbolic}
use Rattle.f77_expr.proofs.EachRead.{Each, each_if, each_as, each_weaker, if_true, if_false}
use Rattle.f77_expr.proofs.Prefixes.{run_of_kind, run_and_rest, run_ends, whole_run, drop_prefix}
use Rattle.f77_expr.proofs.Followers.{breaks_off}
use Rattle.f77_expr.proofs.Primaries.{capital_from, figure_from, name_parts}
use Rattle.f77_parse.specs.Parts.{number_at, name_at, letter_at, sign_at, signed_at, bracketed_at}
use Rattle.f77_parse.proofs.Followers.{not_at_start, other_prefix, other_not_at_start, figure_prefix, capital_prefix, no_figure, no_symbol, IsAtStart, Every, IsListed}
use Rattle.f77_parse.proofs.PartLists.{every_pass, pass_every, bracketed_sound, bracketed_reads}

-- ---- first characters

pub is_no : (k c : ℕ) → k < c → (c == k) ≡ false
is_no k c lt = ne_eqb c k (λ e. omega arith)

pub number_from : (c : ℕ) (more : List ℕ) → is_number (c ∷ more) ≡ true → 48 ≤ c
number_from c more h = figure_from c (and_parts (is_figure c) (list_all is_figure more) (and_parts (nat_lt 0 (length (c ∷ more))) (list_all is_figure (c ∷ more)) h).1).0

-- a number begins with a digit, and a name with a letter
pub number_figure_prefix : (digits rest : List ℕ) → is_number digits ≡ true → figure_prefix (digits ++ rest) ≡ true
number_figure_prefix [] rest h = absurd cc
number_figure_prefix (c ∷ more) rest h = (and_parts (is_figure c) (list_all is_figure more) (and_parts (nat_lt 0 (length (c ∷ more))) (list_all is_figure (c ∷ more)) h).1).0

pub name_capital_prefix : (name rest : List ℕ) → is_name name ≡ true → capital_prefix (name ++ rest) ≡ true
name_capital_prefix [] rest h = absurd cc
name_capital_prefix (c ∷ more) rest h = (name_parts c more h).capital

-- and so with no character below 0 or A
pub figure_other : (k : ℕ) (text : List ℕ) → figure_prefix text ≡ true → k < 48 → other_prefix k text ≡ true
figure_other k [] h below = absurd cc
figure_other k (c ∷ more) h below = let from : 48 ≤ c = figure_from c h in ap not (is_no k c (omega arith))

pub capital_other : (k : ℕ) (text : List ℕ) → capital_prefix text ≡ true → k < 65 → other_prefix k text ≡ true
capital_other k [] h below = absurd cc
capital_other k (c ∷ more) h below = let from : 65 ≤ c = capital_from c h in ap not (is_no k c (omega arith))

pub capital_no_figure : (text : List ℕ) → capital_prefix text ≡ true → no_figure text ≡ true
capital_no_figure [] h = absurd cc
capital_no_figure (c ∷ more) h = let from : 65 ≤ c = capital_from c h in ap not (and_right (nat_le 48 c) (nat_le c 57) (lt-leb c 57 (omega arith)))

pub number_other : (k : ℕ) (digits rest : List ℕ) → is_number digits ≡ true → k < 48 → other_prefix k (digits ++ rest) ≡ true
number_other k digits rest h below = figure_other k (digits ++ rest) (number_figure_prefix digits rest h) below

pub name_other : (k : ℕ) (name rest : List ℕ) → is_name name ≡ true → k < 65 → other_prefix k (name ++ rest) ≡ true
name_other k name rest h below = capital_other k (name ++ rest) (name_capital_prefix name rest h) below

pub number_not_at_start : (k : ℕ) (digits rest : List ℕ) → is_number digits ≡ true → k < 48 → not_at_start k (digits ++ rest) ≡ true
number_not_at_start k digits rest h below = other_not_at_start k (digits ++ rest) (number_other k digits rest h below)

pub name_not_at_start : (k : ℕ) (name rest : List ℕ) → is_name name ≡ true → k < 65 → not_at_start k (name ++ rest) ≡ true
name_not_at_start k name rest h below = other_not_at_start k (name ++ rest) (name_other k name rest h below)

-- ---- what breaks off

figures_end : (rest : List ℕ) → no_figure rest ≡ true → take_while is_figure rest ≡ []
figures_end [] h = refl
figures_end (c ∷ more) h = run_ends is_figure c more (not-true (is_figure c) h)

symbols_end : (rest : List ℕ) → no_symbol rest ≡ true → take_while is_symbolic rest ≡ []
symbols_end [] h = refl
symbols_end (c ∷ more) h = run_ends is_symbolic c more (not-true (is_symbolic c) h)

-- what breaks off a name with brackets breaks off a name, and opens no bracket
pub breaks_symbol : (rest : List ℕ) → breaks_off rest ≡ true → no_symbol rest ≡ true
breaks_symbol [] h = refl
breaks_symbol (c ∷ more) h = ap not (or_parts (is_symbolic c) (c == 40) (not-true (is_symbolic c || c == 40) h)).0

pub breaks_bracket : (rest : List ℕ) → breaks_off rest ≡ true → not_at_start 40 rest ≡ true
breaks_bracket [] h = refl
breaks_bracket (c ∷ more) h = ap not (or_parts (is_symbolic c) (c == 40) (not-true (is_symbolic c || c == 40) h)).1

-- ---- numbers

pub number_sound : (text : List ℕ) → Each (λ digits rest. IsAtStart (λ digits. is_number digits ≡ true) (λ digits. digits) text digits rest) (number_at text)
number_sound text =
    each_if (λ digits rest. IsAtStart (λ digits. is_number digits ≡ true) (λ digits. digits) text digits rest) (nat_lt 0 (length run)) (Some (run, drop (length run) text)) None
    (λ some. (and_from (nat_lt 0 (length run)) (list_all is_figure run) some (run_of_kind is_figure text), run_and_rest is_figure text))
    (λ none. tt)
  where
    run : List ℕ
    run = take_while is_figure text

pub number_reads : (digits rest : List ℕ) → is_number digits ≡ true → no_figure rest ≡ true → number_at (digits ++ rest) ≡ Some (digits, rest)
number_reads digits rest fits follows =
    let both = and_parts (nat_lt 0 (length digits)) (list_all is_figure digits) fits in
    let read_of : List ℕ → Reads (List ℕ) = λ run. if nat_lt 0 (length run) then Some (run, drop (length run) (digits ++ rest)) else None in
    ap read_of (whole_run is_figure digits rest both.1 (figures_end rest follows))
    ∙ if_true (nat_lt 0 (length digits)) (Some (digits, drop (length digits) (digits ++ rest))) None both.0
    ∙ ap (λ tail. Some (digits, tail)) (drop_prefix digits rest)

-- no number stands where no digit does
pub number_none : (c : ℕ) (text : List ℕ) → is_figure c ≡ false → number_at (c ∷ text) ≡ None
number_none c text h =
    let read_of : List ℕ → Reads (List ℕ) = λ run. if nat_lt 0 (length run) then Some (run, drop (length run) (c ∷ text)) else None in
    ap read_of (run_ends is_figure c text h)

-- ---- names and letters

pub name_sound : (text : List ℕ) → Each (λ name rest. IsAtStart (λ name. is_name name ≡ true) (λ name. name) text name rest) (name_at text)
name_sound text =
    each_if (λ name rest. IsAtStart (λ name. is_name name ≡ true) (λ name. name) text name rest) (is_name run) (Some (run, drop (length run) text)) None
    (λ is. (is, run_and_rest is_symbolic text)) (λ none. tt)
  where
    run : List ℕ
    run = take_while is_symbolic text

symbols_of : (name : List ℕ) → is_name name ≡ true → list_all is_symbolic name ≡ true
symbols_of [] h = refl
symbols_of (c ∷ more) h = (name_parts c more h).symbols

pub name_reads : (name rest : List ℕ) → is_name name ≡ true → no_symbol rest ≡ true → name_at (name ++ rest) ≡ Some (name, rest)
name_reads name rest fits follows =
    let read_of : List ℕ → Reads (List ℕ) = λ run. if is_name run then Some (run, drop (length run) (name ++ rest)) else None in
    ap read_of (whole_run is_symbolic name rest (symbols_of name fits) (symbols_end rest follows))
    ∙ if_true (is_name name) (Some (name, drop (length name) (name ++ rest))) None fits
    ∙ ap (λ tail. Some (name, tail)) (drop_prefix name rest)

pub letter_sound : (text : List ℕ) → Each (λ c rest. IsAtStart (λ c. is_capital c ≡ true) (λ c. c ∷ []) text c rest) (letter_at text)
letter_sound [] = tt
letter_sound (d ∷ text) = each_if (λ c rest. IsAtStart (λ c. is_capital c ≡ true) (λ c. c ∷ []) (d ∷ text) c rest) (is_capital d) (Some (d, text)) None (λ capital. (capital, refl)) (λ none. tt)

pub letter_reads : (c : ℕ) (rest : List ℕ) → is_capital c ≡ true → letter_at (c ∷ rest) ≡ Some (c, rest)
letter_reads c rest fits = if_true (is_capital c) (Some (c, rest)) None fits

-- ---- signed numbers

sign_prefix : (text : List ℕ) → sign_text (sign_at text).0 ++ (sign_at text).1 ≡ text
sign_prefix [] = refl
sign_prefix (c ∷ text) = here (c == 43) (c == 45) refl refl
  where
    split : Bool → Bool → Sign × List ℕ
    split plus minus = if plus then (Plus_sign, text) else (if minus then (Minus_sign, text) else (No_sign, c ∷ text))

    here : (plus minus : Bool) → (c == 43) ≡ plus → (c == 45) ≡ minus → sign_text (split plus minus).0 ++ (split plus minus).1 ≡ c ∷ text
    here true minus p m = ap (λ d. d ∷ text) (sym (eqb-true c 43 p))
    here false true p m = ap (λ d. d ∷ text) (sym (eqb-true c 45 m))
    here false false p m = refl

pub signed_sound : (text : List ℕ) → Each (λ n rest. IsAtStart (λ n. is_signed n ≡ true) signed_text text n rest) (signed_at text)
signed_sound text =
    let sign : Sign × List ℕ = sign_at text in
    each_as (λ digits rest. IsAtStart (λ digits. is_number digits ≡ true) (λ digits. digits) sign.1 digits rest) (λ n rest. IsAtStart (λ n. is_signed n ≡ true) signed_text text n rest)
    (λ digits. record { sign = sign.0; digits = digits }) (number_at sign.1) (number_sound sign.1)
    (λ digits rest is. (is.0, append_assoc (sign_text sign.0) digits rest ∙ ap (λ tail. sign_text sign.0 ++ tail) is.1 ∙ sign_prefix text))

-- no sign is read where none is written
pub no_sign : (digits rest : List ℕ) → is_number digits ≡ true → sign_at (digits ++ rest) ≡ (No_sign, digits ++ rest)
no_sign [] rest h = absurd cc
no_sign (c ∷ more) rest h =
    let from : 48 ≤ c = number_from c more h in
    let whole : List ℕ = c ∷ (more ++ rest) in
    let plus : Sign × List ℕ = (Plus_sign, more ++ rest) in
    let minus : Sign × List ℕ = (Minus_sign, more ++ rest) in
    if_false (c == 43) plus (if c == 45 then minus else (No_sign, whole)) (is_no 43 c (omega arith))
    ∙ if_false (c == 45) minus (No_sign, whole) (is_no 45 c (omega arith))

abbrev after_sign : Sign × List ℕ → Reads SignedDigits
after_sign sign = read_as (λ digits. record { sign = sign.0; digits = digits }) (number_at sign.1)

pub signed_reads : (n : SignedDigits) (rest : List ℕ) → is_signed n ≡ true → no_figure rest ≡ true → signed_at (signed_text n ++ rest) ≡ Some (n, rest)
signed_reads n rest fits follows = here n.sign
  where
    made : Sign → SignedDigits
    made sign = record { sign = sign; digits = n.digits }

    reads : (sign : Sign) → read_as (λ digits. record { sign = sign; digits = digits }) (number_at (n.digits ++ rest)) ≡ Some (made sign, rest)
    reads sign = ap (read_as (λ digits. record { sign = sign; digits = digits })) (number_reads n.digits rest fits follows)

    here : (sign : Sign) → signed_at (signed_text (made sign) ++ rest) ≡ Some (made sign, rest)
    here No_sign = ap after_sign (no_sign n.digits rest fits) ∙ reads No_sign
    here Plus_sign = reads Plus_sign
    here Minus_sign = reads Minus_sign

-- a signed number begins with a digit or a sign
pub signed_not_at_start : (k : ℕ) (n : SignedDigits) (rest : List ℕ) → is_signed n ≡ true → k < 48 → not (43 == k) ≡ true → not (45 == k) ≡ true → not_at_start k (signed_text n ++ rest) ≡ true
signed_not_at_start k n rest fits below no_plus no_minus = here n.sign
  where
    here : (sign : Sign) → not_at_start k ((sign_text sign ++ n.digits) ++ rest) ≡ true
    here No_sign = number_not_at_start k n.digits rest fits below
    here Plus_sign = no_plus
    here Minus_sign = no_minus

pub signed_no_stroke : (n : SignedDigits) (rest : List ℕ) → is_signed n ≡ true → not_at_start 47 (signed_text n ++ rest) ≡ true
signed_no_stroke n rest fits = signed_not_at_start 47 n rest fits (omega arith) refl refl

-- ---- lists of them

pub label_listed : IsListed number_at (λ digits. digits) (λ digits. is_number digits ≡ true) no_figure
label_listed = record {
  sound = number_sound;
  reads = number_reads;
  comma = λ more. refl;
  bracket = λ more. refl;
  no_stroke = λ digits rest fits. number_not_at_start 47 digits rest fits (omega arith);
}

pub signed_listed : IsListed signed_at signed_text (λ n. is_signed n ≡ true) no_figure
signed_listed = record {
  sound = signed_sound;
  reads = signed_reads;
  comma = λ more. refl;
  bracket = λ more. refl;
  no_stroke = signed_no_stroke;
}

pub map_same : (xs : List (List ℕ)) → map (λ x. x) xs ≡ xs
map_same [] = refl
map_same (x ∷ xs) = ap (λ (rest : List (List ℕ)). x ∷ rest) (map_same xs)

-- labels between brackets
pub labels_sound : (text : List ℕ) → Each (λ labels rest. IsAtStart (λ labels. (1 ≤ length labels) × (list_all is_number labels ≡ true)) (λ labels. in_brackets (with_commas labels)) text labels rest) (bracketed_at number_at text)
labels_sound text =
    each_weaker (λ labels rest. IsAtStart (λ labels. (1 ≤ length labels) × Every (λ digits. is_number digits ≡ true) labels) (λ labels. in_brackets (with_commas (map (λ digits. digits) labels))) text labels rest)
    (λ labels rest. IsAtStart (λ labels. (1 ≤ length labels) × (list_all is_number labels ≡ true)) (λ labels. in_brackets (with_commas labels)) text labels rest) (bracketed_at number_at text)
    (λ labels rest is. ((is.0.0, every_pass is_number labels is.0.1), ap (λ texts. in_brackets (with_commas texts) ++ rest) (sym (map_same labels)) ∙ is.1)) (bracketed_sound label_listed text)

pub labels_reads : (labels : List (List ℕ)) (rest : List ℕ) → 1 ≤ length labels → list_all is_number labels ≡ true → bracketed_at number_at (in_brackets (with_commas labels) ++ rest) ≡ Some (labels, rest)
labels_reads labels rest some fit =
    ap (λ texts. bracketed_at number_at (in_brackets (with_commas texts) ++ rest)) (sym (map_same labels)) ∙ bracketed_reads label_listed labels rest some (pass_every is_number labels fit)
