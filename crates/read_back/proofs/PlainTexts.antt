-- The characters of what is written without blanks: from the opening bracket of ASCII to its capital Z.
use Rattle.std.proofs.Common.{◌≡◌, ℕ, ◌<◌, ◌≤◌, Bool, true, false, List, [], ◌∷◌, ◌++◌, length, leb, ◌&&◌, ◌||◌, nat_lt, nat_le, refl, ◌∙◌, arith, ⊎_elim}
use Rattle.std.specs.Prelude.{codes, slice_index}
use Rattle.std.specs.Int.{is_in_range}
use Rattle.std.specs.List.{list_all}
use Rattle.std.proofs.lemmas.Bool.{and_parts, and_from, or_cases, leb-true, le-leb}
use Rattle.std.proofs.lemmas.List.Folds.{list_all-append}
use Rattle.op_table.specs.declared.Op.{Op}
use Rattle.op_table.specs.declared.Op.TheVariants.{Add, Sub, Mul, Div, Pow, Lt, Le, Eq, Ne, Ge, Gt, And, Or, Eqv, Neqv}
use Rattle.f77_tree.specs.Name.{is_capital, is_figure, is_name}
use Rattle.f77_tree.specs.Grammar.{Written, Arguments, symbol, IsGrammatical, AreGrammatical, is_number, spelling, spellings, truth_text}

abbrev pub is_plain : ℕ → Bool
is_plain c = is_in_range 40 90 c

abbrev pub Plain : List ℕ → Type 0
Plain xs = list_all is_plain xs ≡ true

pub joined : (xs ys : List ℕ) → Plain xs → Plain ys → Plain (xs ++ ys)
joined xs ys first second = list_all-append is_plain xs ys ∙ and_from (list_all is_plain xs) (list_all is_plain ys) first second

weaker : (p : ℕ → Bool) → ((c : ℕ) → p c ≡ true → is_plain c ≡ true) → (xs : List ℕ) → list_all p xs ≡ true → Plain xs
weaker p each [] h = refl
weaker p each (x ∷ xs) h =
    let both = and_parts (p x) (list_all p xs) h in
    and_from (is_plain x) (list_all is_plain xs) (each x both.0) (weaker p each xs both.1)

between : (c : ℕ) → 40 ≤ c → c ≤ 90 → is_plain c ≡ true
between c least most = and_from (leb 40 c) (leb c 90) (le-leb 40 c least) (le-leb c 90 most)

figure_plain : (c : ℕ) → is_figure c ≡ true → is_plain c ≡ true
figure_plain c h =
    let both = and_parts (nat_le 48 c) (nat_le c 57) h in
    let least = leb-true 48 c both.0 in
    let most = leb-true c 57 both.1 in
    between c (omega (arith, least)) (omega (arith, most))

capital_plain : (c : ℕ) → is_capital c ≡ true → is_plain c ≡ true
capital_plain c h =
    let both = and_parts (nat_le 65 c) (nat_le c 90) h in
    let least = leb-true 65 c both.0 in
    between c (omega (arith, least)) (leb-true c 90 both.1)

symbolic_plain : (c : ℕ) → (is_capital c || is_figure c) ≡ true → is_plain c ≡ true
symbolic_plain c h = ⊎_elim (capital_plain c) (figure_plain c) (or_cases (is_capital c) (is_figure c) h)

pub number_plain : (digits : List ℕ) → is_number digits ≡ true → Plain digits
number_plain digits h = weaker is_figure figure_plain digits (and_parts (nat_lt 0 (length digits)) (list_all is_figure digits) h).1

-- a name is plain, and begins with a capital letter
pub record NameParts (name : List ℕ) : Type 0 where
  pub some : 0 < length name
  pub capital : is_capital (slice_index name 0) ≡ true
  pub plain : Plain name

pub name_parts : (name : List ℕ) → is_name name ≡ true → NameParts name
name_parts [] h = absurd cc
name_parts (c ∷ more) h =
    let is_symbol : ℕ → Bool = λ b. is_capital b || is_figure b in
    let three = and_parts (nat_lt 0 (length (c ∷ more)) && nat_le (length (c ∷ more)) 6 && is_capital c) (list_all is_symbol (c ∷ more)) h in
    let two = and_parts (nat_lt 0 (length (c ∷ more)) && nat_le (length (c ∷ more)) 6) (is_capital c) three.0 in
    record { some = omega arith; capital = two.1; plain = weaker is_symbol symbolic_plain (c ∷ more) three.1 }

symbol_plain : (op : Op) → Plain (symbol op)
symbol_plain Eqv = refl
symbol_plain Neqv = refl
symbol_plain Or = refl
symbol_plain And = refl
symbol_plain Lt = refl
symbol_plain Le = refl
symbol_plain Eq = refl
symbol_plain Ne = refl
symbol_plain Ge = refl
symbol_plain Gt = refl
symbol_plain Add = refl
symbol_plain Sub = refl
symbol_plain Mul = refl
symbol_plain Div = refl
symbol_plain Pow = refl
symbol_plain _ = refl

pub truth_plain : (b : Bool) → Plain (truth_text b)
truth_plain true = refl
truth_plain false = refl

mutual
  -- the text of an expression
  pub spelling_plain : (w : Written) → IsGrammatical w → Plain (spelling w)
  spelling_plain (Written.number digits) h = number_plain digits h
  spelling_plain (Written.truth b) h = truth_plain b
  spelling_plain (Written.name name) h = (name_parts name h).plain
  spelling_plain (Written.call name args) h =
      joined (name ++ codes "(" ++ spellings args) (codes ")") (joined (name ++ codes "(") (spellings args) (joined name (codes "(") (name_parts name h.0).plain refl) (spellings_plain args h.1)) refl
  spelling_plain (Written.bracketed w) h = joined (codes "(" ++ spelling w) (codes ")") (joined (codes "(") (spelling w) refl (spelling_plain w h)) refl
  spelling_plain (Written.plus w) h = joined (codes "+") (spelling w) refl (spelling_plain w h.0)
  spelling_plain (Written.minus w) h = joined (codes "-") (spelling w) refl (spelling_plain w h.0)
  spelling_plain (Written.negation w) h = joined (codes ".NOT.") (spelling w) refl (spelling_plain w h.0)
  spelling_plain (Written.binary op a b) h =
      joined (spelling a ++ symbol op) (spelling b) (joined (spelling a) (symbol op) (spelling_plain a h.0) (symbol_plain op)) (spelling_plain b h.1)

  spellings_plain : (args : Arguments) → AreGrammatical args → Plain (spellings args)
  spellings_plain (Arguments.last w) h = spelling_plain w h
  spellings_plain (Arguments.before w more) h =
      joined (spelling w ++ codes ",") (spellings more) (joined (spelling w) (codes ",") (spelling_plain w h.0) refl) (spellings_plain more h.1)
