-- No blank stands in the text of an expression.
use Rattle.std.proofs.Common.{◌≡◌, ◌==◌, ◌≢◌, ℕ, ◌≤◌, Bool, true, false, List, [], ◌∷◌, ◌++◌, length, All, not, nat_lt, nat_le, codes, slice_index_or, refl, sym, ◌∙◌, ⊎_elim, arith}
use Rattle.std.specs.List.{list_all}
use Rattle.std.proofs.lemmas.Bool.{and_parts, and_from, or_cases, ne_eqb, eq-eqb, leb-true, not-true, true≢false}
use Rattle.std.proofs.lemmas.List.Folds.{list_all-append}
use Rattle.std.proofs.lemmas.List.Sums.{AllPass-from_list_all}
use Rattle.op_table.specs.declared.Op.{Op}
use Rattle.op_table.specs.declared.Op.TheVariants.{Add, Sub, Mul, Div, Pow, Lt, Le, Eq, Ne, Ge, Gt, And, Or, Eqv, Neqv}
use Rattle.f77_tree.specs.Name.{is_capital, is_figure, is_name}
use Rattle.f77_tree.specs.Grammar.{Written, Arguments, symbol, IsGrammatical, AreGrammatical, is_number, spelling, spellings, truth_text}
use Rattle.f77_expr.specs.Reader.{is_symbolic}
use Rattle.f77_expr.proofs.Primaries.{name_parts, capital_from}

abbrev is_visible : ℕ → Bool
is_visible c = not (c == 32)

weaker : (p q : ℕ → Bool) → ((c : ℕ) → p c ≡ true → q c ≡ true) → (xs : List ℕ) → list_all p xs ≡ true → list_all q xs ≡ true
weaker p q each [] h = refl
weaker p q each (x ∷ xs) h =
    let both = and_parts (p x) (list_all p xs) h in
    and_from (q x) (list_all q xs) (each x both.0) (weaker p q each xs both.1)

joined : (xs ys : List ℕ) → list_all is_visible xs ≡ true → list_all is_visible ys ≡ true → list_all is_visible (xs ++ ys) ≡ true
joined xs ys first second = list_all-append is_visible xs ys ∙ and_from (list_all is_visible xs) (list_all is_visible ys) first second

above : (c : ℕ) → 48 ≤ c → is_visible c ≡ true
above c le = not_false (c == 32) (ne_eqb c 32 (λ e. omega arith))
  where
    not_false : (b : Bool) → b ≡ false → not b ≡ true
    not_false true e = absurd (true≢false e)
    not_false false e = refl

figure_visible : (c : ℕ) → is_figure c ≡ true → is_visible c ≡ true
figure_visible c h = above c (leb-true 48 c (and_parts (nat_le 48 c) (nat_le c 57) h).0)

symbolic_visible : (c : ℕ) → is_symbolic c ≡ true → is_visible c ≡ true
symbolic_visible c h =
    ⊎_elim (λ capital. let from : 65 ≤ c = capital_from c capital in above c (omega arith)) (λ figure. figure_visible c figure) (or_cases (is_capital c) (is_figure c) h)

number_visible : (digits : List ℕ) → is_number digits ≡ true → list_all is_visible digits ≡ true
number_visible digits h = weaker is_figure is_visible figure_visible digits (and_parts (nat_lt 0 (length digits)) (list_all is_figure digits) h).1

name_visible : (name : List ℕ) → is_name name ≡ true → list_all is_visible name ≡ true
name_visible [] h = absurd cc
name_visible (c ∷ more) h = weaker is_symbolic is_visible symbolic_visible (c ∷ more) (name_parts c more h).symbols

symbol_visible : (op : Op) → list_all is_visible (symbol op) ≡ true
symbol_visible Eqv = refl
symbol_visible Neqv = refl
symbol_visible Or = refl
symbol_visible And = refl
symbol_visible Lt = refl
symbol_visible Le = refl
symbol_visible Eq = refl
symbol_visible Ne = refl
symbol_visible Ge = refl
symbol_visible Gt = refl
symbol_visible Add = refl
symbol_visible Sub = refl
symbol_visible Mul = refl
symbol_visible Div = refl
symbol_visible Pow = refl
symbol_visible _ = refl

truth_visible : (b : Bool) → list_all is_visible (truth_text b) ≡ true
truth_visible true = refl
truth_visible false = refl

mutual
  visible : (w : Written) → IsGrammatical w → list_all is_visible (spelling w) ≡ true
  visible (Written.number digits) h = number_visible digits h
  visible (Written.truth b) h = truth_visible b
  visible (Written.name name) h = name_visible name h
  visible (Written.call name args) h =
      joined (name ++ codes "(" ++ spellings args) (codes ")") (joined (name ++ codes "(") (spellings args) (joined name (codes "(") (name_visible name h.0) refl) (all_visible args h.1)) refl
  visible (Written.bracketed w) h = joined (codes "(" ++ spelling w) (codes ")") (joined (codes "(") (spelling w) refl (visible w h)) refl
  visible (Written.plus w) h = joined (codes "+") (spelling w) refl (visible w h.0)
  visible (Written.minus w) h = joined (codes "-") (spelling w) refl (visible w h.0)
  visible (Written.negation w) h = joined (codes ".NOT.") (spelling w) refl (visible w h.0)
  visible (Written.binary op a b) h = joined (spelling a ++ symbol op) (spelling b) (joined (spelling a) (symbol op) (visible a h.0) (symbol_visible op)) (visible b h.1)

  all_visible : (args : Arguments) → AreGrammatical args → list_all is_visible (spellings args) ≡ true
  all_visible (Arguments.last w) h = visible w h
  all_visible (Arguments.before w more) h = joined (spelling w ++ codes ",") (spellings more) (joined (spelling w) (codes ",") (visible w h.0) refl) (all_visible more h.1)

not_blank : (c : ℕ) → not (c == 32) ≡ true → c ≢ 32
not_blank c h e = absurd (true≢false (sym (eq-eqb c 32 e) ∙ not-true (c == 32) h))

-- no character of an expression is a blank
pub no_blank : (w : Written) → IsGrammatical w → All (λ c. c ≢ 32) (spelling w)
no_blank w h k d inside = not_blank (slice_index_or (spelling w) k d) (AllPass-from_list_all is_visible (spelling w) (visible w h) k d inside)
