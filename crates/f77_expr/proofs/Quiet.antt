-- A scan for the end of a piece passes over an expression, and comes back to what was open before it.
use Rattle.std.proofs.Common.{◌≡◌, ◌==◌, ◌≢◌, ℕ, zero, suc, ◌-◌, ◌≤◌, Bool, true, false, List, [], ◌∷◌, ◌++◌, length, fold, ◌&&◌, ◌||◌, not, nat_lt, nat_le, codes, refl, sym, ap, subst, ◌∙◌, ⊎_elim, arith, append_assoc}
use Rattle.std.proofs.lemmas.Bool.{and_parts, and_from, and_left, and_right, or_cases, ne_eqb, leb-true, or_from, or_parts, not-true}
use Rattle.std.proofs.lemmas.List.Sums.{fold-append}
use Rattle.std.proofs.lemmas.List.Folds.{list_all-append}
use Rattle.std.specs.List.{list_all}
use Rattle.op_table.specs.declared.Op.{Op}
use Rattle.op_table.specs.declared.Op.TheVariants.{Add, Sub, Mul, Div, Pow, Lt, Le, Eq, Ne, Ge, Gt, And, Or, Eqv, Neqv}
use Rattle.f77_tree.specs.Name.{is_capital, is_figure, is_name}
use Rattle.f77_tree.specs.Grammar.{Written, Arguments, symbol, IsGrammatical, AreGrammatical, is_number, spelling, spellings, truth_text}
use Rattle.f77_expr.specs.Reader.{is_symbolic}
use Rattle.f77_expr.specs.Piece.{Open, open_after, ends_piece, piece_from}
use Rattle.f77_expr.proofs.EachRead.{if_false}
use Rattle.f77_expr.proofs.Primaries.{name_parts, capital_from}

-- so many brackets are open, and no character constant
abbrev pub brackets_open : ℕ → Open
brackets_open depth = record { quoted = false; brackets = depth }

-- a character that neither opens nor ends anything
abbrev pub is_plain : ℕ → Bool
is_plain c = not (c == 39 || c == 40 || c == 41 || c == 44 || c == 61 || c == 58)

-- a text over which a scan passes where at least so many brackets are open
pub record IsQuiet (least : ℕ) (xs : List ℕ) : Type 0 where
  pub no_apostrophe : list_all (λ c. not (c == 39)) xs ≡ true
  pub passes : (depth : ℕ) (text : List ℕ) → least ≤ depth → piece_from (brackets_open depth) (xs ++ text) ≡ xs ++ piece_from (brackets_open depth) text
  pub comes_back : (depth : ℕ) → least ≤ depth → fold open_after (brackets_open depth) xs ≡ brackets_open depth

list_all-join : (p : ℕ → Bool) (xs ys : List ℕ) → list_all p xs ≡ true → list_all p ys ≡ true → list_all p (xs ++ ys) ≡ true
list_all-join p xs ys all_xs all_ys = list_all-append p xs ys ∙ and_from (list_all p xs) (list_all p ys) all_xs all_ys

pub quiet_both : (least : ℕ) (xs ys : List ℕ) → IsQuiet least xs → IsQuiet least ys → IsQuiet least (xs ++ ys)
quiet_both least xs ys quiet_xs quiet_ys = record {
  no_apostrophe = list_all-join (λ c. not (c == 39)) xs ys quiet_xs.no_apostrophe quiet_ys.no_apostrophe;
  passes = λ depth text deep.
      ap (piece_from (brackets_open depth)) (append_assoc xs ys text) ∙ quiet_xs.passes depth (ys ++ text) deep
      ∙ ap (λ more. xs ++ more) (quiet_ys.passes depth text deep) ∙ sym (append_assoc xs ys (piece_from (brackets_open depth) text));
  comes_back = λ depth deep.
      fold-append open_after (brackets_open depth) xs ys ∙ ap (λ open_now. fold open_after open_now ys) (quiet_xs.comes_back depth deep) ∙ quiet_ys.comes_back depth deep;
}

pub quiet_more : (least more : ℕ) (xs : List ℕ) → least ≤ more → IsQuiet least xs → IsQuiet more xs
quiet_more least more xs le quiet = record {
  no_apostrophe = quiet.no_apostrophe;
  passes = λ depth text deep. quiet.passes depth text (omega arith);
  comes_back = λ depth deep. quiet.comes_back depth (omega arith);
}

quiet_nothing : (least : ℕ) → IsQuiet least []
quiet_nothing least = record { no_apostrophe = refl; passes = λ depth text deep. refl; comes_back = λ depth deep. refl }

-- the tests of a plain character
record Plain (c : ℕ) : Type 0 where
  quote : (c == 39) ≡ false
  opens : (c == 40) ≡ false
  closes : (c == 41) ≡ false
  ends : (c == 44 || c == 41 || c == 61 || c == 58) ≡ false

plain_tests : (c : ℕ) → is_plain c ≡ true → Plain c
plain_tests c h =
    let five = or_parts (c == 39 || c == 40 || c == 41 || c == 44 || c == 61) (c == 58) (not-true (c == 39 || c == 40 || c == 41 || c == 44 || c == 61 || c == 58) h) in
    let four = or_parts (c == 39 || c == 40 || c == 41 || c == 44) (c == 61) five.0 in
    let three = or_parts (c == 39 || c == 40 || c == 41) (c == 44) four.0 in
    let two = or_parts (c == 39 || c == 40) (c == 41) three.0 in
    let one = or_parts (c == 39) (c == 40) two.0 in
    record {
      quote = one.0;
      opens = one.1;
      closes = two.1;
      ends = or_from (c == 44 || c == 41 || c == 61) (c == 58) (or_from (c == 44 || c == 41) (c == 61) (or_from (c == 44) (c == 41) three.1 two.1) four.1) five.1;
    }

-- ---- one character

open_same : (depth c : ℕ) → Plain c → open_after (brackets_open depth) c ≡ brackets_open depth
open_same depth c plain = if_false (c == 39) _ _ plain.quote ∙ if_false (c == 40) _ _ plain.opens ∙ if_false (c == 41) _ _ plain.closes

plain_passes : (depth c : ℕ) (text : List ℕ) → Plain c → piece_from (brackets_open depth) (c ∷ text) ≡ c ∷ piece_from (brackets_open depth) text
plain_passes depth c text plain =
    if_false (ends_piece (brackets_open depth) c) [] (c ∷ piece_from (open_after (brackets_open depth) c) text) (and_right (true && (depth == 0)) (c == 44 || c == 41 || c == 61 || c == 58) plain.ends)
    ∙ ap (λ open_now. c ∷ piece_from open_now text) (open_same depth c plain)

opening_passes : (depth : ℕ) (text : List ℕ) → piece_from (brackets_open depth) (40 ∷ text) ≡ 40 ∷ piece_from (brackets_open (suc depth)) text
opening_passes depth text =
    if_false (ends_piece (brackets_open depth) 40) [] (40 ∷ piece_from (brackets_open (suc depth)) text) (and_right (true && (depth == 0)) false refl)

-- where a bracket is open, nothing ends the piece
inside : (depth : ℕ) (b : Bool) → ((true && (suc depth == 0)) && b) ≡ false
inside depth b = and_left (true && (suc depth == 0)) b (ne_eqb (suc depth) 0 (λ e. omega arith))

closed_again : (depth : ℕ) → open_after (brackets_open (suc depth)) 41 ≡ brackets_open depth
closed_again depth = let e : suc depth - 1 ≡ depth = omega arith in ap brackets_open e

closing_passes : (depth : ℕ) (text : List ℕ) → piece_from (brackets_open (suc depth)) (41 ∷ text) ≡ 41 ∷ piece_from (brackets_open depth) text
closing_passes depth text =
    if_false (ends_piece (brackets_open (suc depth)) 41) [] (41 ∷ piece_from (open_after (brackets_open (suc depth)) 41) text) (inside depth true)
    ∙ ap (λ open_now. 41 ∷ piece_from open_now text) (closed_again depth)

comma_passes : (depth : ℕ) (text : List ℕ) → 1 ≤ depth → piece_from (brackets_open depth) (44 ∷ text) ≡ 44 ∷ piece_from (brackets_open depth) text
comma_passes zero text deep = absurd (omega arith)
comma_passes (suc depth) text deep =
    if_false (ends_piece (brackets_open (suc depth)) 44) [] (44 ∷ piece_from (brackets_open (suc depth)) text) (inside depth true)

quiet_plain_one : (least c : ℕ) → is_plain c ≡ true → IsQuiet least (c ∷ [])
quiet_plain_one least c h =
    let plain = plain_tests c h in
    record {
      no_apostrophe = and_from (not (c == 39)) true (ap not plain.quote) refl;
      passes = λ depth text deep. plain_passes depth c text plain;
      comes_back = λ depth deep. open_same depth c plain;
    }

quiet_comma : IsQuiet 1 (44 ∷ [])
quiet_comma = record { no_apostrophe = refl; passes = λ depth text deep. comma_passes depth text deep; comes_back = λ depth deep. refl }

-- ---- texts

pub quiet_plain : (least : ℕ) (xs : List ℕ) → list_all is_plain xs ≡ true → IsQuiet least xs
quiet_plain least [] h = quiet_nothing least
quiet_plain least (c ∷ xs) h =
    let both = and_parts (is_plain c) (list_all is_plain xs) h in
    quiet_both least (c ∷ []) xs (quiet_plain_one least c both.0) (quiet_plain least xs both.1)

quiet_brackets : (least : ℕ) (xs : List ℕ) → IsQuiet 1 xs → IsQuiet least (40 ∷ (xs ++ (41 ∷ [])))
quiet_brackets least xs quiet = record {
  no_apostrophe = list_all-join (λ c. not (c == 39)) xs (41 ∷ []) quiet.no_apostrophe refl;
  passes = λ depth text deep.
      opening_passes depth ((xs ++ (41 ∷ [])) ++ text)
      ∙ ap (λ more. 40 ∷ more)
      (ap (piece_from (brackets_open (suc depth))) (append_assoc xs (41 ∷ []) text) ∙ quiet.passes (suc depth) (41 ∷ text) (omega arith)
      ∙ ap (λ more. xs ++ more) (closing_passes depth text) ∙ sym (append_assoc xs (41 ∷ []) (piece_from (brackets_open depth) text)));
  comes_back = λ depth deep.
      fold-append open_after (brackets_open (suc depth)) xs (41 ∷ [])
      ∙ ap (λ open_now. open_after open_now 41) (quiet.comes_back (suc depth) (omega arith)) ∙ closed_again depth;
}

list_all_weaker : (p q : ℕ → Bool) → ((c : ℕ) → p c ≡ true → q c ≡ true) → (xs : List ℕ) → list_all p xs ≡ true → list_all q xs ≡ true
list_all_weaker p q weaken [] h = refl
list_all_weaker p q weaken (c ∷ xs) h =
    let both = and_parts (p c) (list_all p xs) h in
    and_from (q c) (list_all q xs) (weaken c both.0) (list_all_weaker p q weaken xs both.1)

plain_between : (c : ℕ) → 48 ≤ c → c ≢ 58 → c ≢ 61 → is_plain c ≡ true
plain_between c from colon equals =
    ap not
    (or_from (c == 39 || c == 40 || c == 41 || c == 44 || c == 61) (c == 58)
    (or_from (c == 39 || c == 40 || c == 41 || c == 44) (c == 61)
    (or_from (c == 39 || c == 40 || c == 41) (c == 44)
    (or_from (c == 39 || c == 40) (c == 41)
    (or_from (c == 39) (c == 40) (ne_eqb c 39 (λ e. omega arith)) (ne_eqb c 40 (λ e. omega arith)))
    (ne_eqb c 41 (λ e. omega arith)))
    (ne_eqb c 44 (λ e. omega arith)))
    (ne_eqb c 61 equals))
    (ne_eqb c 58 colon))

figure_plain : (c : ℕ) → is_figure c ≡ true → is_plain c ≡ true
figure_plain c h =
    let both = and_parts (nat_le 48 c) (nat_le c 57) h in
    let from : 48 ≤ c = leb-true 48 c both.0 in
    let most : c ≤ 57 = leb-true c 57 both.1 in
    plain_between c from (λ e. omega arith) (λ e. omega arith)

symbolic_plain : (c : ℕ) → is_symbolic c ≡ true → is_plain c ≡ true
symbolic_plain c h =
    ⊎_elim (λ capital. let from : 65 ≤ c = capital_from c capital in plain_between c (omega arith) (λ e. omega arith) (λ e. omega arith))
    (λ figure. figure_plain c figure) (or_cases (is_capital c) (is_figure c) h)

number_plain : (digits : List ℕ) → is_number digits ≡ true → list_all is_plain digits ≡ true
number_plain digits h =
    list_all_weaker is_figure is_plain (λ c figure. figure_plain c figure) digits (and_parts (nat_lt 0 (length digits)) (list_all is_figure digits) h).1

name_plain : (name : List ℕ) → is_name name ≡ true → list_all is_plain name ≡ true
name_plain [] h = absurd cc
name_plain (c ∷ more) h = list_all_weaker is_symbolic is_plain (λ d symbolic. symbolic_plain d symbolic) (c ∷ more) (name_parts c more h).symbols

symbol_plain : (op : Op) → list_all is_plain (symbol op) ≡ true
symbol_plain Eqv = refl
symbol_plain Neqv = refl
symbol_plain Or = refl
symbol_plain And = refl
symbol_plain Lt = refl
symbol_plain Le = refl
symbol_plain Eq = refl
symbol_plain Ne = refl
symbol_plain Ge = refl
symbol_plain Gt = refl
symbol_plain Add = refl
symbol_plain Sub = refl
symbol_plain Mul = refl
symbol_plain Div = refl
symbol_plain Pow = refl
symbol_plain _ = refl

truth_plain : (b : Bool) → list_all is_plain (truth_text b) ≡ true
truth_plain true = refl
truth_plain false = refl

quiet_call : (name : List ℕ) (args : Arguments) → is_name name ≡ true → IsQuiet 1 (spellings args) → IsQuiet 0 (spelling (Written.call name args))
quiet_call name args is quiet =
    let e : spelling (Written.call name args) ≡ name ++ (40 ∷ (spellings args ++ (41 ∷ []))) = simp append_assoc in
    subst (λ (xs : List ℕ). IsQuiet 0 xs) (sym e) (quiet_both 0 name (40 ∷ (spellings args ++ (41 ∷ []))) (quiet_plain 0 name (name_plain name is)) (quiet_brackets 0 (spellings args) quiet))

mutual
  -- an expression is quiet wherever it stands
  pub quiet_written : (w : Written) → IsGrammatical w → IsQuiet 0 (spelling w)
  quiet_written (Written.number digits) h = quiet_plain 0 digits (number_plain digits h)
  quiet_written (Written.truth b) h = quiet_plain 0 (truth_text b) (truth_plain b)
  quiet_written (Written.name name) h = quiet_plain 0 name (name_plain name h)
  quiet_written (Written.call name args) h = quiet_call name args h.0 (quiet_arguments args h.1)
  quiet_written (Written.bracketed w) h = quiet_brackets 0 (spelling w) (quiet_more 0 1 (spelling w) (omega arith) (quiet_written w h))
  quiet_written (Written.plus w) h = quiet_both 0 (codes "+") (spelling w) (quiet_plain 0 (codes "+") refl) (quiet_written w h.0)
  quiet_written (Written.minus w) h = quiet_both 0 (codes "-") (spelling w) (quiet_plain 0 (codes "-") refl) (quiet_written w h.0)
  quiet_written (Written.negation w) h = quiet_both 0 (codes ".NOT.") (spelling w) (quiet_plain 0 (codes ".NOT.") refl) (quiet_written w h.0)
  quiet_written (Written.binary op a b) h =
      quiet_both 0 (spelling a ++ symbol op) (spelling b) (quiet_both 0 (spelling a) (symbol op) (quiet_written a h.0) (quiet_plain 0 (symbol op) (symbol_plain op))) (quiet_written b h.1)

  pub quiet_arguments : (args : Arguments) → AreGrammatical args → IsQuiet 1 (spellings args)
  quiet_arguments (Arguments.last w) h = quiet_more 0 1 (spelling w) (omega arith) (quiet_written w h)
  quiet_arguments (Arguments.before w more) h =
      quiet_both 1 (spelling w ++ (44 ∷ [])) (spellings more) (quiet_both 1 (spelling w) (44 ∷ []) (quiet_more 0 1 (spelling w) (omega arith) (quiet_written w h.0)) quiet_comma) (quiet_arguments more h.1)
