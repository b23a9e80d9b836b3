-- Primaries are read as they are written.
use Rattle.std.proofs.Common.{◌≡◌, ◌==◌, ℕ, ◌<◌, ◌≤◌, Bool, true, false, List, [], ◌∷◌, ◌++◌, length, drop, take_while, Some, None, if◌then◌else◌, ◌&&◌, ◌||◌, not, nat_le, nat_lt, refl, ap, ◌∙◌, arith}
use Rattle.std.proofs.lemmas.Bool.{not-true, leb-true, and_parts, and_right, and_from, ne_eqb, lt-leb, or_parts}
use Rattle.std.specs.List.{list_all}
use Rattle.f77_tree.specs.Name.{is_capital, is_figure, is_name}
use Rattle.f77_tree.specs.Grammar.{Written, Arguments, symbol, IsGrammatical, is_number, spelling, spellings, truth_text}
use Rattle.f77_expr.specs.Reader.{Reads, read_as, and_then_read, is_symbolic, closed, named, the_readers, expression_at, primary_at, arguments_at}
use Rattle.f77_expr.proofs.EachRead.{if_true, if_false}
use Rattle.f77_expr.proofs.Prefixes.{run_ends, whole_run, drop_prefix}
use Rattle.f77_expr.specs.Reader.{prefix_at}
use Rattle.f77_expr.specs.Reader.Prefix.{Plus, Minus, Negation}
use Rattle.f77_expr.proofs.Spellings.{binary_spelling, call_spelling, bracketed_spelling, prefixed_spelling}
use Rattle.f77_expr.proofs.Followers.{breaks_off, no_asterisk, prefix_none}
use Rattle.f77_expr.proofs.Depth.{primary-step}

-- what breaks off goes on with no run
figures_break : (text : List ℕ) → breaks_off text ≡ true → take_while is_figure text ≡ []
figures_break [] h = refl
figures_break (c ∷ more) h =
    let parts = or_parts (is_symbolic c) (c == 40) (not-true (is_symbolic c || c == 40) h) in
    run_ends is_figure c more (or_parts (is_capital c) (is_figure c) parts.0).1

symbols_break : (text : List ℕ) → breaks_off text ≡ true → take_while is_symbolic text ≡ []
symbols_break [] h = refl
symbols_break (c ∷ more) h =
    let parts = or_parts (is_symbolic c) (c == 40) (not-true (is_symbolic c || c == 40) h) in
    run_ends is_symbolic c more parts.0

-- what characters are
pub capital_from : (c : ℕ) → is_capital c ≡ true → 65 ≤ c
capital_from c h = leb-true 65 c (and_parts (nat_le 65 c) (nat_le c 90) h).0

pub figure_from : (c : ℕ) → is_figure c ≡ true → 48 ≤ c
figure_from c h = leb-true 48 c (and_parts (nat_le 48 c) (nat_le c 57) h).0

capital_no_figure : (c : ℕ) → is_capital c ≡ true → is_figure c ≡ false
capital_no_figure c h = let from : 65 ≤ c = capital_from c h in and_right (nat_le 48 c) (nat_le c 57) (lt-leb c 57 (omega arith))

pub is_not : (k c : ℕ) → k < c → not (k == c) ≡ true
is_not k c lt = ap not (ne_eqb k c (λ e. omega arith))

-- the parts of the definition of a name
pub record IsName (c : ℕ) (more : List ℕ) : Type 0 where
  pub capital : is_capital c ≡ true
  pub short : nat_le (length (c ∷ more)) 6 ≡ true
  pub symbols : list_all is_symbolic (c ∷ more) ≡ true

pub name_parts : (c : ℕ) (more : List ℕ) → is_name (c ∷ more) ≡ true → IsName c more
name_parts c more h =
    let three = and_parts (nat_lt 0 (length (c ∷ more)) && nat_le (length (c ∷ more)) 6 && is_capital c) (list_all is_symbolic (c ∷ more)) h in
    let two = and_parts (nat_lt 0 (length (c ∷ more)) && nat_le (length (c ∷ more)) 6) (is_capital c) three.0 in
    let one = and_parts (nat_lt 0 (length (c ∷ more))) (nat_le (length (c ∷ more)) 6) two.0 in
    record { capital = two.1; short = one.1; symbols = three.1 }

-- ---- each is read

pub number_reads : (digits text : List ℕ) → is_number digits ≡ true → breaks_off text ≡ true → primary_at (digits ++ text) ≡ Some (Written.number digits, text)
number_reads [] text h ends = absurd cc
number_reads (c ∷ more) text h ends =
    let all : list_all is_figure (c ∷ more) ≡ true = (and_parts (nat_lt 0 (length (c ∷ more))) (list_all is_figure (c ∷ more)) h).1 in
    let figure : is_figure c ≡ true = (and_parts (is_figure c) (list_all is_figure more) all).0 in
    let run : take_while is_figure (c ∷ (more ++ text)) ≡ c ∷ more = whole_run is_figure (c ∷ more) text all (figures_break text ends) in
    let number_read : List ℕ → Reads Written = λ digits. Some (Written.number digits, drop (length digits) (c ∷ (more ++ text))) in
    primary-step (c ∷ (more ++ text))
    ∙ if_true (is_figure c) (number_read (take_while is_figure (c ∷ (more ++ text)))) _ figure
    ∙ ap number_read run
    ∙ ap (λ rest. Some (Written.number (c ∷ more), rest)) (drop_prefix (c ∷ more) text)

-- a whole name, before what doesn't go on with it
name_run : (name text : List ℕ) → is_name name ≡ true → take_while is_symbolic text ≡ [] → primary_at (name ++ text) ≡ named the_readers name text
name_run [] text h ends = absurd cc
name_run (c ∷ more) text h ends =
    let parts = name_parts c more h in
    let run : take_while is_symbolic (c ∷ (more ++ text)) ≡ c ∷ more = whole_run is_symbolic (c ∷ more) text parts.symbols ends in
    let whole : List ℕ = c ∷ (more ++ text) in
    let name_read : List ℕ → Reads Written = λ name. if nat_le (length name) 6 then named the_readers name (drop (length name) (c ∷ (more ++ text))) else None in
    primary-step (c ∷ (more ++ text))
    ∙ if_false (is_figure c) _ _ (capital_no_figure c parts.capital)
    ∙ if_true (is_capital c) (name_read (take_while is_symbolic (c ∷ (more ++ text)))) _ parts.capital
    ∙ ap name_read run
    ∙ if_true (nat_le (length (c ∷ more)) 6) (named the_readers (c ∷ more) (drop (length (c ∷ more)) (c ∷ (more ++ text)))) None parts.short
    ∙ ap (named the_readers (c ∷ more)) (drop_prefix (c ∷ more) text)

pub name_reads : (name text : List ℕ) → is_name name ≡ true → breaks_off text ≡ true → primary_at (name ++ text) ≡ Some (Written.name name, text)
name_reads name text h ends = name_run name text h (symbols_break text ends) ∙ alone text ends
  where
    alone : (rest : List ℕ) → breaks_off rest ≡ true → named the_readers name rest ≡ Some (Written.name name, rest)
    alone [] ends = refl
    alone (c ∷ more) ends = if_false (c == 40) _ (Some (Written.name name, c ∷ more)) (or_parts (is_symbolic c) (c == 40) (not-true (is_symbolic c || c == 40) ends)).1

pub call_reads : (name : List ℕ) (args : Arguments) (inside text : List ℕ) → is_name name ≡ true → arguments_at inside ≡ Some (args, text) → primary_at (name ++ (40 ∷ inside)) ≡ Some (Written.call name args, text)
call_reads name args inside text h reads =
    name_run name (40 ∷ inside) h refl ∙ ap (read_as (λ arguments. Written.call name arguments)) reads

pub bracketed_reads : (w : Written) (inside text : List ℕ) → expression_at 0 inside ≡ Some (w, 41 ∷ text) → primary_at (40 ∷ inside) ≡ Some (Written.bracketed w, text)
bracketed_reads w inside text reads = primary-step (40 ∷ inside) ∙ ap (and_then_read (λ v rest. closed (Written.bracketed v) rest)) reads

pub truth_reads : (b : Bool) (text : List ℕ) → primary_at (truth_text b ++ text) ≡ Some (Written.truth b, text)
truth_reads true text = primary-step (truth_text true ++ text)
truth_reads false text = primary-step (truth_text false ++ text)

-- ---- the first character

number_figure : (c : ℕ) (more : List ℕ) → is_number (c ∷ more) ≡ true → 48 ≤ c
number_figure c more h = figure_from c (and_parts (is_figure c) (list_all is_figure more) (and_parts (nat_lt 0 (length (c ∷ more))) (list_all is_figure (c ∷ more)) h).1).0

name_capital : (c : ℕ) (more : List ℕ) → is_name (c ∷ more) ≡ true → 48 ≤ c
name_capital c more h = let from : 65 ≤ c = capital_from c (name_parts c more h).capital in omega arith

no_prefix_at : (least c : ℕ) (more : List ℕ) → 48 ≤ c → prefix_at least (c ∷ more) ≡ None
no_prefix_at least c more from =
    prefix_none least c more (and_from (not (43 == c) && not (45 == c)) (not (46 == c)) (and_from (not (43 == c)) (not (45 == c)) (is_not 43 c (omega arith)) (is_not 45 c (omega arith))) (is_not 46 c (omega arith)))

pub number_no_prefix : (least : ℕ) (digits text : List ℕ) → is_number digits ≡ true → prefix_at least (digits ++ text) ≡ None
number_no_prefix least [] text h = absurd cc
number_no_prefix least (c ∷ more) text h = no_prefix_at least c (more ++ text) (number_figure c more h)

pub name_no_prefix : (least : ℕ) (name text : List ℕ) → is_name name ≡ true → prefix_at least (name ++ text) ≡ None
name_no_prefix least [] text h = absurd cc
name_no_prefix least (c ∷ more) text h = no_prefix_at least c (more ++ text) (name_capital c more h)

number_no_asterisk : (digits text : List ℕ) → is_number digits ≡ true → no_asterisk (digits ++ text) ≡ true
number_no_asterisk [] text h = absurd cc
number_no_asterisk (c ∷ more) text h = let from : 48 ≤ c = number_figure c more h in is_not 42 c (omega arith)

name_no_asterisk : (name text : List ℕ) → is_name name ≡ true → no_asterisk (name ++ text) ≡ true
name_no_asterisk [] text h = absurd cc
name_no_asterisk (c ∷ more) text h = let from : 48 ≤ c = name_capital c more h in is_not 42 c (omega arith)

-- no expression begins with an asterisk
pub first_no_asterisk : (w : Written) → IsGrammatical w → (text : List ℕ) → no_asterisk (spelling w ++ text) ≡ true
first_no_asterisk (Written.number digits) h text = number_no_asterisk digits text h
first_no_asterisk (Written.truth true) h text = refl
first_no_asterisk (Written.truth false) h text = refl
first_no_asterisk (Written.name name) h text = name_no_asterisk name text h
first_no_asterisk (Written.call name args) h text = ap no_asterisk (call_spelling name args text) ∙ name_no_asterisk name (40 ∷ (spellings args ++ (41 ∷ text))) h.0
first_no_asterisk (Written.bracketed w) h text = ap no_asterisk (bracketed_spelling w text)
first_no_asterisk (Written.plus w) h text = ap no_asterisk (prefixed_spelling Plus w text)
first_no_asterisk (Written.minus w) h text = ap no_asterisk (prefixed_spelling Minus w text)
first_no_asterisk (Written.negation w) h text = ap no_asterisk (prefixed_spelling Negation w text)
first_no_asterisk (Written.binary op a b) h text = ap no_asterisk (binary_spelling op a b text) ∙ first_no_asterisk a h.0 (symbol op ++ (spelling b ++ text))
