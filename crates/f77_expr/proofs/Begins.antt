-- What an expression begins with: prefixes and primaries.
use Rattle.std.proofs.Common.{◌≡◌, ◌==◌, ℕ, ◌<◌, Bool, true, false, if◌then◌else◌, ◌&&◌, ◌||◌, nat_lt, nat_le, List, [], ◌∷◌, length, drop, take_while, slice_get, Some, None, refl, sym, ap, subst, ◌∙◌, arith, codes, cond, length-drop}
use Rattle.std.specs.List.{list_all}
use Rattle.std.proofs.lemmas.Bool.{or_left, and_parts, and_from, and_left, and_right, false_from_ne_true, leb-true, lt-ltb}
use Rattle.std.proofs.lemmas.List.Sums.{take_while-cons}
use Rattle.f77_tree.specs.Name.{is_capital, is_figure, is_name}
use Rattle.f77_tree.specs.declared.statements.RawExpr.{RawExpr}
use Rattle.f77_tree.specs.declared.statements.RawExpr.TheVariants.{Named, Call}
use Rattle.f77_tree.specs.Grammar.{Written, level, has_great_number}
use Rattle.f77_expr.specs.declared.operators.Prefix.{Prefix}
use Rattle.f77_expr.specs.declared.operators.Prefix.TheVariants.{Plus, Minus, Negation}
use Rattle.f77_expr.specs.Reader.{Reads, read_as, and_then_read, prefix_at, operand_level, prefixed, truth_at, this_or, after_prefix, is_symbolic, closed, Readers, begun, named, primary_by, the_readers, expression_at, chain_at, primary_at, arguments_at}
use Rattle.f77_expr.specs.Answers.{passed, starts_name, constant_of, kept_number, too_great, meant, prefix_level, kept, kept_prefixed, IsRead, AreRead, IsBegun}
use Rattle.f77_expr.proofs.EachRead.{Each, each_at, each_if, each_then, each_as, each_this_or}
use Rattle.f77_expr.proofs.Prefixes.{IsPrefixIn, prefix_at_start, run_of_kind}
use Rattle.f77_expr.proofs.Depth.{expression-step, primary-step, primary_shorter}
use Rattle.f77_expr.proofs.Lists.{passed-shorter, or-false}

-- ---- by the first character

-- a character of a name is no digit where it is a letter
no_figure : (c : ℕ) → is_capital c ≡ true → is_figure c ≡ false
no_figure c capital = false_from_ne_true (is_figure c) (λ figure.
    let above = leb-true 65 c (and_parts (nat_le 65 c) (nat_le c 90) capital).0 in
    let below = leb-true c 57 (and_parts (nat_le 48 c) (nat_le c 57) figure).1 in
    omega arith)

module _ (r : Readers) (c : ℕ) (text : List ℕ) where
  abbrev run : List ℕ
  run = take_while is_symbolic (c ∷ text)

  by_number : is_figure c ≡ true → primary_by r (c ∷ text) ≡ Some (Written.number (take_while is_figure (c ∷ text)), drop (length (take_while is_figure (c ∷ text))) (c ∷ text))
  by_number figure = rw figure refl

  by_name : is_capital c ≡ true → primary_by r (c ∷ text) ≡ (if nat_le (length run) 6 then named r run (drop (length run) (c ∷ text)) else None)
  by_name capital = rw (no_figure c capital, capital) refl

  by_other : is_figure c ≡ false → is_capital c ≡ false → primary_by r (c ∷ text) ≡ (if c == 40 then and_then_read (λ w rest. closed (Written.bracketed w) rest) (r.expression 0 text) else truth_at (c ∷ text))
  by_other figure capital = rw (figure, capital) refl

-- nothing
pub primary-nothing : (text : List ℕ) → slice_get text 0 ≡ None → primary_at text ≡ None
primary-nothing [] none = primary-step []
primary-nothing (c ∷ text) none = absurd cc

-- what a part reads is read of the whole
pub primary-from : (text beyond : List ℕ) (great great_then : Bool) (found : Reads Written) (e : RawExpr) (rest : List ℕ) (great_now : Bool) → primary_at text ≡ found → great_then ≡ great → IsRead beyond great_then found e rest great_now → IsRead text great (primary_at text) e rest great_now
primary-from text beyond great great_then found e rest great_now is same i = record {
  written = i.written;
  is_read = is ∙ i.is_read;
  is_kept = i.is_kept;
  is_great = i.is_great ∙ ap (λ g. g || has_great_number i.written) same;
  shorter = primary_shorter text i.written rest (is ∙ i.is_read);
}

abbrev digits_of : List ℕ → List ℕ
digits_of text = take_while is_figure text

number-is : (text : List ℕ) (c : ℕ) → slice_get text 0 ≡ Some c → is_figure c ≡ true → primary_at text ≡ Some (Written.number (digits_of text), drop (length (digits_of text)) text)
number-is [] c first figure = absurd cc
number-is (d ∷ text) c first figure =
    let same : d ≡ c = cc in
    primary-step (d ∷ text) ∙ by_number the_readers d text (ap is_figure same ∙ figure)

-- digits
pub primary-number : (text : List ℕ) (c : ℕ) → slice_get text 0 ≡ Some c → is_figure c ≡ true → (great : Bool) (e : RawExpr) (rest : List ℕ) (great_now : Bool) → e ≡ kept_number (constant_of (digits_of text)) → rest ≡ drop (length (digits_of text)) text → great_now ≡ (great || too_great (digits_of text)) → IsRead text great (primary_at text) e rest great_now
primary-number text c first figure great e rest great_now e_is rest_is great_is =
    let read = number-is text c first figure ∙ ap (λ tail. Some (Written.number (digits_of text), tail)) (sym rest_is) in
    record {
      written = Written.number (digits_of text);
      is_read = read;
      is_kept = e_is;
      is_great = great_is;
      shorter = primary_shorter text (Written.number (digits_of text)) rest read;
    }

-- ---- names

and_middle : (a b c d : Bool) → a ≡ true → c ≡ true → d ≡ true → (((a && b) && c) && d) ≡ b
and_middle a true c d ea ec ed = and_from ((a && true) && c) d (and_from (a && true) c (and_from a true ea refl) ec) ed
and_middle a false c d ea ec ed = and_left ((a && false) && c) d (and_left (a && false) c (and_right a false refl))

-- letters and digits, the first of them a letter, are a name where there are few of them
name-short : (c : ℕ) (more : List ℕ) → is_capital c ≡ true → list_all is_symbolic (c ∷ more) ≡ true → is_name (c ∷ more) ≡ nat_le (length (c ∷ more)) 6
name-short c more capital all = and_middle (nat_lt 0 (length (c ∷ more))) (nat_le (length (c ∷ more)) 6) (is_capital c) (list_all is_symbolic (c ∷ more)) (lt-ltb 0 (length (c ∷ more)) (omega arith)) capital all

run-short : (c : ℕ) (text : List ℕ) → is_capital c ≡ true → is_name (take_while is_symbolic (c ∷ text)) ≡ nat_le (length (take_while is_symbolic (c ∷ text))) 6
run-short c text capital =
    let grows : take_while is_symbolic (c ∷ text) ≡ c ∷ take_while is_symbolic text =
    take_while-cons is_symbolic c text ∙ ap (λ b. cond b (c ∷ take_while is_symbolic text) []) (or_left (is_capital c) (is_figure c) capital) in
    let all : list_all is_symbolic (c ∷ take_while is_symbolic text) ≡ true = ap (list_all is_symbolic) (sym grows) ∙ run_of_kind is_symbolic (c ∷ text) in
    subst (λ (n : List ℕ). is_name n ≡ nat_le (length n) 6) (sym grows) (name-short c (take_while is_symbolic text) capital all)

abbrev pub run_of : List ℕ → List ℕ
run_of text = take_while is_symbolic text

abbrev pub after_run : List ℕ → List ℕ
after_run text = drop (length (run_of text)) text

primary-run : (text : List ℕ) (b : Bool) → starts_name text ≡ true → is_name (run_of text) ≡ b → primary_at text ≡ (if b then named the_readers (run_of text) (after_run text) else None)
primary-run [] b letter is = absurd cc
primary-run (c ∷ text) b letter is =
    primary-step (c ∷ text) ∙ by_name the_readers c text letter ∙ ap (λ t. if t then named the_readers (run_of (c ∷ text)) (after_run (c ∷ text)) else None) (sym (run-short c text letter) ∙ is)

-- a name that is none
pub primary-no_name : (text : List ℕ) → starts_name text ≡ true → is_name (run_of text) ≡ false → primary_at text ≡ None
primary-no_name text letter is_none = primary-run text false letter is_none

module _ (r : Readers) (n : List ℕ) where
  abbrev read_name : List ℕ → Reads Written
  read_name rest = Some (Written.name n, rest)

  named-call : (text rest : List ℕ) → passed 40 text ≡ Some rest → named r n text ≡ read_as (λ arguments. Written.call n arguments) (r.arguments rest)
  named-call [] rest e = absurd cc
  named-call (c ∷ text) rest e = by (c == 40) e
    where
      by : (b : Bool) → (if b then Some text else None) ≡ Some rest → (if b then read_as (λ arguments. Written.call n arguments) (r.arguments text) else read_name (c ∷ text)) ≡ read_as (λ arguments. Written.call n arguments) (r.arguments rest)
      by true e = let same : text ≡ rest = cc in ap (λ tail. read_as (λ arguments. Written.call n arguments) (r.arguments tail)) same
      by false e = absurd cc

  named-alone : (text : List ℕ) → passed 40 text ≡ None → named r n text ≡ read_name text
  named-alone [] e = refl
  named-alone (c ∷ text) e = by (c == 40) e
    where
      by : (b : Bool) → (if b then Some text else None) ≡ None → (if b then read_as (λ arguments. Written.call n arguments) (r.arguments text) else read_name (c ∷ text)) ≡ read_name (c ∷ text)
      by true e = absurd cc
      by false e = refl

module _ (text : List ℕ) (letter : starts_name text ≡ true) (is_one : is_name (run_of text) ≡ true) where
  call-is : (rest : List ℕ) → passed 40 (after_run text) ≡ Some rest → primary_at text ≡ read_as (λ arguments. Written.call (run_of text) arguments) (arguments_at rest)
  call-is rest bracket = primary-run text true letter is_one ∙ named-call the_readers (run_of text) (after_run text) rest bracket

  -- a name with arguments
  pub primary-call : (great : Bool) (name : List ℕ) (es : List RawExpr) (beyond rest : List ℕ) (great_now : Bool) → name ≡ run_of text → passed 40 (after_run text) ≡ Some beyond → AreRead beyond great (arguments_at beyond) es rest great_now → IsRead text great (primary_at text) (Call name es) rest great_now
  primary-call great name es beyond rest great_now name_is bracket i =
      let read = call-is beyond bracket ∙ ap (λ found. read_as (λ arguments. Written.call (run_of text) arguments) found) i.are_read in
      record {
        written = Written.call (run_of text) i.written;
        is_read = read;
        is_kept = ap (λ n. Call n es) name_is ∙ ap (λ fs. Call (run_of text) fs) i.are_kept;
        is_great = i.is_great;
        shorter = primary_shorter text (Written.call (run_of text) i.written) rest read;
      }

  pub primary-no_call : (beyond : List ℕ) → passed 40 (after_run text) ≡ Some beyond → arguments_at beyond ≡ None → primary_at text ≡ None
  primary-no_call beyond bracket none = call-is beyond bracket ∙ ap (λ found. read_as (λ arguments. Written.call (run_of text) arguments) found) none

  -- a name alone
  pub primary-name : (great : Bool) (name rest : List ℕ) (great_now : Bool) → name ≡ run_of text → passed 40 (after_run text) ≡ None → rest ≡ after_run text → great_now ≡ great → IsRead text great (primary_at text) (Named name) rest great_now
  primary-name great name rest great_now name_is no_bracket rest_is great_is =
      let read : primary_at text ≡ Some (Written.name (run_of text), rest) = primary-run text true letter is_one ∙ named-alone the_readers (run_of text) (after_run text) no_bracket ∙ ap (λ tail. Some (Written.name (run_of text), tail)) (sym rest_is) in
      record {
        written = Written.name (run_of text);
        is_read = read;
        is_kept = ap (λ n. Named n) name_is;
        is_great = great_is ∙ sym (or-false great);
        shorter = primary_shorter text (Written.name (run_of text)) rest read;
      }

-- the text after a name and its bracket is shorter
pub call-shorter : (text rest : List ℕ) → passed 40 (after_run text) ≡ Some rest → length rest < length text
call-shorter text rest bracket =
    let less = passed-shorter 40 (after_run text) rest bracket in
    let cut = length-drop (length (run_of text)) text in
    omega arith

-- ---- what begins with no letter or digit

module _ (text : List ℕ) (c : ℕ) (first : slice_get text 0 ≡ Some c) (figure : is_figure c ≡ false) (capital : is_capital c ≡ false) where
  -- an expression between brackets
  pub primary-bracketed : (rest : List ℕ) → passed 40 text ≡ Some rest → primary_at text ≡ and_then_read (λ w tail. closed (Written.bracketed w) tail) (expression_at 0 rest)
  primary-bracketed rest bracket = by text first bracket
    where
      by : (whole : List ℕ) → slice_get whole 0 ≡ Some c → passed 40 whole ≡ Some rest → primary_at whole ≡ and_then_read (λ w tail. closed (Written.bracketed w) tail) (expression_at 0 rest)
      by [] is e = absurd cc
      by (d ∷ more) is e =
          let same : d ≡ c = cc in
          primary-step (d ∷ more) ∙ by_other the_readers d more (ap is_figure same ∙ figure) (ap is_capital same ∙ capital) ∙ choice (d == 40) e
        where
          choice : (b : Bool) → (if b then Some more else None) ≡ Some rest → (if b then and_then_read (λ w tail. closed (Written.bracketed w) tail) (expression_at 0 more) else truth_at (d ∷ more)) ≡ and_then_read (λ w tail. closed (Written.bracketed w) tail) (expression_at 0 rest)
          choice true e = let same : more ≡ rest = cc in ap (λ tail. and_then_read (λ w after. closed (Written.bracketed w) after) (expression_at 0 tail)) same
          choice false e = absurd cc

  -- a logical constant
  pub primary-truth : passed 40 text ≡ None → primary_at text ≡ truth_at text
  primary-truth no_bracket = by text first no_bracket
    where
      by : (whole : List ℕ) → slice_get whole 0 ≡ Some c → passed 40 whole ≡ None → primary_at whole ≡ truth_at whole
      by [] is e = absurd cc
      by (d ∷ more) is e =
          let same : d ≡ c = cc in
          primary-step (d ∷ more) ∙ by_other the_readers d more (ap is_figure same ∙ figure) (ap is_capital same ∙ capital) ∙ choice (d == 40) e
        where
          choice : (b : Bool) → (if b then Some more else None) ≡ None → (if b then and_then_read (λ w tail. closed (Written.bracketed w) tail) (expression_at 0 more) else truth_at (d ∷ more)) ≡ truth_at (d ∷ more)
          choice true e = absurd cc
          choice false e = refl

-- ---- what an expression begins with

each_any : {A : Type 0} (found : Reads A) → Each (λ a rest. Unit {0}) found
each_any None = tt
each_any (Some (a, rest)) = tt

-- primaries have the highest level
primary-level : (text : List ℕ) (w : Written) (rest : List ℕ) → primary_at text ≡ Some (w, rest) → level w ≡ 8
primary-level text w rest e = each_at (λ v tail. level v ≡ 8) (primary_by the_readers text) (by text) w rest (sym (primary-step text) ∙ e)
  where
    in_brackets : (v : Written) (tail : List ℕ) → Each (λ u after. level u ≡ 8) (closed (Written.bracketed v) tail)
    in_brackets v [] = tt
    in_brackets v (c ∷ tail) = each_if (λ u after. level u ≡ 8) (c == 41) (Some (Written.bracketed v, tail)) None (λ bracket. refl) (λ none. tt)

    of_name : (n tail : List ℕ) → Each (λ u after. level u ≡ 8) (named the_readers n tail)
    of_name n [] = refl
    of_name n (c ∷ tail) = each_if (λ u after. level u ≡ 8) (c == 40) (read_as (λ arguments. Written.call n arguments) (arguments_at tail)) (Some (Written.name n, c ∷ tail))
        (λ bracket. each_as (λ a after. Unit {0}) (λ u after. level u ≡ 8) (λ arguments. Written.call n arguments) (arguments_at tail) (each_any (arguments_at tail)) (λ a after any. refl))
        (λ none. refl)

    of_truth : (tail : List ℕ) → Each (λ u after. level u ≡ 8) (truth_at tail)
    of_truth tail = each_this_or (λ u after. level u ≡ 8) (Written.truth true) (after_prefix (codes ".TRUE.") tail) (this_or (Written.truth false) (after_prefix (codes ".FALSE.") tail) None) (λ after is. refl)
        (each_this_or (λ u after. level u ≡ 8) (Written.truth false) (after_prefix (codes ".FALSE.") tail) None (λ after is. refl) tt)

    by : (whole : List ℕ) → Each (λ u after. level u ≡ 8) (primary_by the_readers whole)
    by [] = tt
    by (c ∷ more) =
        each_if (λ u after. level u ≡ 8) (is_figure c) (Some (Written.number (take_while is_figure (c ∷ more)), drop (length (take_while is_figure (c ∷ more))) (c ∷ more))) (no_number c more) (λ figure. refl)
        (λ none. each_if (λ u after. level u ≡ 8) (is_capital c) (name_or_none c more) (no_letter c more)
        (λ capital. each_if (λ u after. level u ≡ 8) (nat_le (length (run_of (c ∷ more))) 6) (named the_readers (run_of (c ∷ more)) (after_run (c ∷ more))) None (λ short. of_name (run_of (c ∷ more)) (after_run (c ∷ more))) (λ long. tt))
        (λ no_capital. each_if (λ u after. level u ≡ 8) (c == 40) (and_then_read (λ v tail. closed (Written.bracketed v) tail) (expression_at 0 more)) (truth_at (c ∷ more))
        (λ bracket. each_then (λ v tail. Unit {0}) (λ u after. level u ≡ 8) (λ v tail. closed (Written.bracketed v) tail) (expression_at 0 more) (each_any (expression_at 0 more)) (λ v tail any. in_brackets v tail))
        (λ no_bracket. of_truth (c ∷ more))))
      where
        name_or_none : ℕ → List ℕ → Reads Written
        name_or_none d tail = if nat_le (length (run_of (d ∷ tail))) 6 then named the_readers (run_of (d ∷ tail)) (after_run (d ∷ tail)) else None

        no_letter : ℕ → List ℕ → Reads Written
        no_letter d tail = if d == 40 then and_then_read (λ v after. closed (Written.bracketed v) after) (expression_at 0 tail) else truth_at (d ∷ tail)

        no_number : ℕ → List ℕ → Reads Written
        no_number d tail = if is_capital d then name_or_none d tail else no_letter d tail

module _ (least : ℕ) (text : List ℕ) (none : prefix_at least text ≡ None) where
  no_prefix : expression_at least text ≡ and_then_read (λ w rest. chain_at least w rest) (primary_at text)
  no_prefix = expression-step least text ∙ ap (λ found. begun the_readers least text found) none

  -- a primary
  pub begun_primary : (great : Bool) (e : RawExpr) (rest : List ℕ) (great_now : Bool) → IsRead text great (primary_at text) e rest great_now → IsBegun least text great e 8 rest great_now
  begun_primary great e rest great_now i = record {
    written = i.written;
    goes_on = no_prefix ∙ ap (λ found. and_then_read (λ w tail. chain_at least w tail) found) i.is_read;
    is_kept = i.is_kept;
    has_level = sym (primary-level text i.written rest i.is_read);
    is_great = i.is_great;
    shorter = i.shorter;
  }

  pub no_primary : primary_at text ≡ None → expression_at least text ≡ None
  no_primary e = no_prefix ∙ ap (λ found. and_then_read (λ w tail. chain_at least w tail) found) e

prefixed-kept : (prefix : Prefix) (w : Written) → kept_prefixed prefix (kept w) ≡ kept (prefixed (meant prefix) w)
prefixed-kept Plus w = refl
prefixed-kept Minus w = refl
prefixed-kept Negation w = refl

prefixed-level : (prefix : Prefix) (w : Written) → prefix_level prefix ≡ level (prefixed (meant prefix) w)
prefixed-level Plus w = refl
prefixed-level Minus w = refl
prefixed-level Negation w = refl

prefixed-great : (prefix : Prefix) (w : Written) → has_great_number w ≡ has_great_number (prefixed (meant prefix) w)
prefixed-great Plus w = refl
prefixed-great Minus w = refl
prefixed-great Negation w = refl

-- the text after a prefix is shorter
pub prefix_shorter : (least : ℕ) (text : List ℕ) (prefix : Prefix) (rest : List ℕ) → prefix_at least text ≡ Some (meant prefix, rest) → length rest < length text
prefix_shorter least text prefix rest some = (each_at (λ p tail. IsPrefixIn least text p tail) (prefix_at least text) (prefix_at_start least text) (meant prefix) rest some).1

module _ (least : ℕ) (text : List ℕ) (prefix : Prefix) (beyond : List ℕ) (some : prefix_at least text ≡ Some (meant prefix, beyond)) (operand_least : ℕ) (least_is : operand_least ≡ operand_level (meant prefix)) where
  prefix_goes_on : expression_at least text ≡ and_then_read (λ w rest. chain_at least (prefixed (meant prefix) w) rest) (expression_at operand_least beyond)
  prefix_goes_on =
      expression-step least text ∙ ap (λ found. begun the_readers least text found) some ∙ ap (λ n. and_then_read (λ w rest. chain_at least (prefixed (meant prefix) w) rest) (expression_at n beyond)) (sym least_is)

  -- a prefix and its operand
  pub begun_prefixed : (great : Bool) (made e : RawExpr) (made_level : ℕ) (rest : List ℕ) (great_now : Bool) → IsRead beyond great (expression_at operand_least beyond) e rest great_now → made ≡ kept_prefixed prefix e → made_level ≡ prefix_level prefix → IsBegun least text great made made_level rest great_now
  begun_prefixed great made e made_level rest great_now i made_is level_is =
      let less = prefix_shorter least text prefix beyond some in
      let shorter = i.shorter in
      record {
        written = prefixed (meant prefix) i.written;
        goes_on = prefix_goes_on ∙ ap (λ found. and_then_read (λ w tail. chain_at least (prefixed (meant prefix) w) tail) found) i.is_read;
        is_kept = made_is ∙ ap (kept_prefixed prefix) i.is_kept ∙ prefixed-kept prefix i.written;
        has_level = level_is ∙ prefixed-level prefix i.written;
        is_great = i.is_great ∙ ap (λ g. great || g) (prefixed-great prefix i.written);
        shorter = omega arith;
      }

  pub no_operand : expression_at operand_least beyond ≡ None → expression_at least text ≡ None
  no_operand e = prefix_goes_on ∙ ap (λ found. and_then_read (λ w tail. chain_at least (prefixed (meant prefix) w) tail) found) e
