-- Stores that agree on the words that may be read give the same values, words and lines.
use Rattle.std.proofs.Common.{◌≡◌, ℕ, ℤ, List, [], ◌∷◌, map, Any, slice_get, Option, None, Result, Ok, Err, ok_or, inl, inr, refl, ap, ◌∙◌}
use Rattle.op_table.specs.declared.Trap.{Trap}
use Rattle.op_table.specs.declared.Trap.TheVariants.{Input as NoInput}
use Rattle.op_table.specs.Operators.{applied}
use Rattle.f77_tree.specs.declared.expressions.Access.{Access}
use Rattle.f77_tree.specs.declared.expressions.Expr.{Expr, Row_of-Expr, end_of-Expr, more_of-Expr}
use Rattle.f77_tree.specs.declared.expressions.Expr.TheVariants.{Const, Truth, Input, Read', Apply'}
use Rattle.f77_tree.specs.declared.programs.ExecKind.{ExecKind}
use Rattle.f77_tree.specs.declared.programs.ExecKind.TheVariants.{Assign, Print, Pass, Test, Sign, Pick, DoStart, DoNext, End}
use Rattle.f77_tree.specs.declared.programs.Item.{Item}
use Rattle.f77_tree.specs.declared.programs.Item.TheVariants.{Value, Chars}
use Rattle.f77_tree.specs.declared.programs.NameInfo.{NameInfo}
use Rattle.f77_tree.specs.Known.{known, row_known}
use Rattle.f77_tree.specs.Line.{item_text, line_of, line_of_texts, text_of, kind_of_expression}
use Rattle.f77_tree.specs.Execution.{Memory}
use Rattle.f77_tree.specs.Steps.{Changes}
use Rattle.f77_tree.specs.Touched.{ExecMayChange, AreAsKnown, MayName, MayRead, SomeMayRead, ItemMayRead, ReadsData, SomeReadsData}
use Rattle.f77_tree.specs.Value.{value, row_values, all_values, and_then, place, word_of, read_of, read_as, kind_of, word_at}
use Rattle.f77_tree.proofs.AllLemmas.{Any-first, Any-rest}
use Rattle.f77_tree.proofs.Safety.{known-is}

-- ---- what is known of operands is as their values

row-as_known : {m : _} (names : List NameInfo) (store : List ℤ) (next : Option ℤ) (row : Row_of-Expr m) → AreAsKnown (row_known row) (row_values names store next row)
row-as_known names store next end_of-Expr = tt
row-as_known names store next (more_of-Expr e rest) = (known-is names store next e, row-as_known names store next rest)

pub list-as_known : (names : List NameInfo) (store : List ℤ) (next : Option ℤ) (es : List Expr) → AreAsKnown (map known es) (map (value names store next) es)
list-as_known names store next [] = tt
list-as_known names store next (e ∷ es) = (known-is names store next e, list-as_known names store next es)

-- an access may name the word that it names
pub place-may_name : (names : List NameInfo) (store : List ℤ) (next : Option ℤ) (access : Access) (word : ℕ) → place names store next access ≡ Ok word → MayName names access.name (map known access.subs) word
place-may_name names store next access word is = record { values = map (value names store next) access.subs; as_known = list-as_known names store next access.subs; is = is }

-- the word that an executable changes is one that it may change
pub changes-may_change : (names : List NameInfo) (input : List ℤ) (m : Memory) (kind : ExecKind) (word : ℕ) → Changes names input m kind word → ExecMayChange names kind word
changes-may_change names input m (Assign target e next) word is = place-may_name names m.store (slice_get input m.taken) target word is
changes-may_change names input m (DoStart loop_no var first last step body exit) word is = is
changes-may_change names input m (DoNext loop_no var body exit) word is = is
changes-may_change names input m (Print items next) word is = is
changes-may_change names input m (Pass next) word is = is
changes-may_change names input m (Test cond if_true if_false) word is = is
changes-may_change names input m (Sign e neg equal pos') word is = is
changes-may_change names input m (Pick e targets other) word is = is
changes-may_change names input m End word is = is

-- ---- values

module _ (names : List NameInfo) (a b : List ℤ) (next next' : Option ℤ) where
  abbrev Agree : (ℕ → Type 0) → Type 0
  Agree MayBeRead = (word : ℕ) → MayBeRead word → word_at a word ≡ word_at b word

  read-agrees : (name : ℕ) (at : Result ℕ Trap) → ((word : ℕ) → at ≡ Ok word → word_at a word ≡ word_at b word) → read_of names a name at ≡ read_of names b name at
  read-agrees name (Err trap) same = refl
  read-agrees name (Ok word) same = ap (λ z. Ok (read_as (kind_of names name) z)) (same word refl)

  mutual
    -- an expression has the same value over two stores that agree on each word that it may read
    pub value-agrees : (e : Expr) → Agree (MayRead names e) → (ReadsData e → next ≡ next') → value names a next e ≡ value names b next' e
    value-agrees (Const z) same fed = refl
    value-agrees (Truth z) same fed = refl
    value-agrees Input same fed = ap (λ o. ok_or o NoInput) (fed tt)
    value-agrees (Read' name shape subs) same fed =
        ap (λ rs. read_of names a name (word_of names name rs)) (row-agrees subs (λ word may. same word (inl may)) fed)
        ∙ read-agrees name (word_of names name (row_values names b next' subs)) (λ word is. same word (inr (record { values = row_values names b next' subs; as_known = row-as_known names b next' subs; is = is })))
    value-agrees (Apply' op shape args) same fed = ap (λ rs. and_then (applied op) (all_values rs)) (row-agrees args same fed)

    row-agrees : {m : _} (row : Row_of-Expr m) → Agree (SomeMayRead names row) → (SomeReadsData row → next ≡ next') → row_values names a next row ≡ row_values names b next' row
    row-agrees end_of-Expr same fed = refl
    row-agrees (more_of-Expr e rest) same fed =
        ap (λ r. r ∷ row_values names a next rest) (value-agrees e (λ word may. same word (inl may)) (λ reads. fed (inl reads)))
        ∙ ap (λ rs. value names b next' e ∷ rs) (row-agrees rest (λ word may. same word (inr may)) (λ reads. fed (inr reads)))

  list-agrees : (es : List Expr) → Agree (λ word. Any (λ e. MayRead names e word) es) → (Any ReadsData es → next ≡ next') → map (value names a next) es ≡ map (value names b next') es
  list-agrees [] same fed = refl
  list-agrees (e ∷ es) same fed =
      ap (λ r. r ∷ map (value names a next) es) (value-agrees e (λ word may. same word (Any-first (λ x. MayRead names x word) e es may)) (λ reads. fed (Any-first ReadsData e es reads)))
      ∙ ap (λ rs. value names b next' e ∷ rs) (list-agrees es (λ word may. same word (Any-rest (λ x. MayRead names x word) e es may)) (λ reads. fed (Any-rest ReadsData e es reads)))

  -- an access names the same word over two stores that agree on each word that its subscripts may read
  pub place-agrees : (access : Access) → Agree (λ word. Any (λ e. MayRead names e word) access.subs) → (Any ReadsData access.subs → next ≡ next') → place names a next access ≡ place names b next' access
  place-agrees access same fed = ap (word_of names access.name) (list-agrees access.subs same fed)

-- ---- lines

module _ (names : List NameInfo) (a b : List ℤ) where
  -- an expression that is no operand of an assignment reads no data
  pub value_in-agrees : (e : Expr) → ((word : ℕ) → MayRead names e word → word_at a word ≡ word_at b word) → value names a None e ≡ value names b None e
  value_in-agrees e same = value-agrees names a b None None e same (λ reads. refl)

  item-agrees : (item : Item) → ((word : ℕ) → ItemMayRead names item word → word_at a word ≡ word_at b word) → item_text names a item ≡ item_text names b item
  item-agrees (Value e) same = ap (and_then (λ z. Ok (text_of (kind_of_expression names e) z))) (value_in-agrees e same)
  item-agrees (Chars text) same = refl

  items-agree : (items : List Item) → ((word : ℕ) → Any (λ item. ItemMayRead names item word) items → word_at a word ≡ word_at b word) → map (item_text names a) items ≡ map (item_text names b) items
  items-agree [] same = refl
  items-agree (item ∷ items) same =
      ap (λ r. r ∷ map (item_text names a) items) (item-agrees item (λ word may. same word (Any-first (λ x. ItemMayRead names x word) item items may)))
      ∙ ap (λ rs. item_text names b item ∷ rs) (items-agree items (λ word may. same word (Any-rest (λ x. ItemMayRead names x word) item items may)))

  -- a line is the same over two stores that agree on each word that its items may read
  pub line-agrees : (items : List Item) → ((word : ℕ) → Any (λ item. ItemMayRead names item word) items → word_at a word ≡ word_at b word) → line_of names a items ≡ line_of names b items
  line-agrees items same = ap line_of_texts (items-agree items same)
