-- Texts as they are printed, and the same without blanks outside of character constants.
use Rattle.std.proofs.Common.{◌≡◌, ℕ, ◌-◌, true, false, cond, leb, nat_lt, List, [], ◌∷◌, ◌++◌, refl, arith}
use Rattle.std.specs.Prelude.{codes, flat_map}
use Rattle.std.specs.List.{list_all, fold}
use Rattle.std.proofs.lemmas.Bool.{and_parts, and_from, leb-true, le-leb, ne_eqb, lt-ltb, cond-true, eqb-true}
use Rattle.std.proofs.lemmas.List.Folds.{list_all-append}
use Rattle.std.proofs.lemmas.List.Sums.{fold-append}
use Rattle.f77_tree.specs.StatementGrammar.{character_text, characters_text, after_commas}
use Rattle.fixed_form.specs.Columns.{is_character}
use Rattle.fixed_form.specs.Statement.{kept, inside_after, text, text_from}
use Rattle.read_back.proofs.FoldedTexts.{text_from-append}
use Rattle.read_back.proofs.PlainTexts.{is_plain, Plain}

-- a text closes its constants, and is read as another one
pub record Folds (printed plain : List ℕ) : Type 0 where
  pub is : text printed ≡ plain
  pub closed : fold inside_after false printed ≡ false
  pub characters : list_all is_character printed ≡ true

pub both : (a b x y : List ℕ) → Folds a x → Folds b y → Folds (a ++ b) (x ++ y)
both a b x y f g =
    grind (arith, text_from-append false a b, fold-append inside_after false a b, list_all-append is_character a b, and_from (list_all is_character a) (list_all is_character b) f.characters g.characters)

-- ---- plain texts

plain_kept : (c : ℕ) → is_plain c ≡ true → kept false c ≡ c ∷ []
plain_kept c h =
    grind (arith, leb-true 40 c (and_parts (leb 40 c) (leb c 90) h).0, leb 40 c, leb c 90, leb-true c 90 (and_parts (leb 40 c) (leb c 90) h).1, ne_eqb c 32, cond-true (nat_lt c 97) c (cond (nat_lt c 123) (c - 32) c), lt-ltb c 97)

plain_outside : (c : ℕ) → is_plain c ≡ true → inside_after false c ≡ false
plain_outside c h = grind (arith, leb-true 40 c (and_parts (leb 40 c) (leb c 90) h).0, leb 40 c, leb c 90, ne_eqb c 39)

plain_character : (c : ℕ) → is_plain c ≡ true → is_character c ≡ true
plain_character c h =
    grind (arith, leb-true 40 c (and_parts (leb 40 c) (leb c 90) h).0, leb 40 c, leb c 90, leb-true c 90 (and_parts (leb 40 c) (leb c 90) h).1, and_from (leb 32 c) (leb c 126), leb 32 c, leb c 126, le-leb 32 c, le-leb c 126)

pub plain_folds : (xs : List ℕ) → Plain xs → Folds xs xs
plain_folds [] h = record { is = refl; closed = refl; characters = refl }
plain_folds (c ∷ xs) h =
    grind (arith, is_plain c, is_plain, plain_folds xs, plain_outside c, plain_kept c, and_from (is_character c) (list_all is_character xs), plain_character c)

-- ---- character constants

-- within a character constant
record Stays (xs : List ℕ) : Type 0 where
  is : text_from true xs ≡ xs
  inside : fold inside_after true xs ≡ true
  characters : list_all is_character xs ≡ true

stays_more : (c : ℕ) (rest : List ℕ) → is_character c ≡ true → Stays rest → Stays (character_text c ++ rest)
stays_more c rest h stays = grind (arith, and_from, eqb-true)

stays : (cs : List ℕ) → list_all is_character cs ≡ true → Stays (flat_map character_text cs)
stays [] h = record { is = refl; inside = refl; characters = refl }
stays (c ∷ cs) h = grind (arith, stays_more c (flat_map character_text cs), stays cs)

pub constant_folds : (cs : List ℕ) → list_all is_character cs ≡ true → Folds (characters_text cs) (characters_text cs)
constant_folds cs h = grind (arith, stays cs h, text_from-append true, fold-append inside_after true, list_all-append is_character, and_from)

-- ---- lists

abbrev pub AllFold : List (List ℕ) → Type 0
AllFold [] = Unit {0}
AllFold (t ∷ ts) = Folds t t × AllFold ts

comma_folds : Folds (codes ",") (codes ",")
comma_folds = plain_folds (codes ",") refl

pub after_commas_fold : (ts : List (List ℕ)) → AllFold ts → Folds (after_commas ts) (after_commas ts)
after_commas_fold [] all = record { is = refl; closed = refl; characters = refl }
after_commas_fold (t ∷ ts) all =
    both (codes "," ++ t) (after_commas ts) (codes "," ++ t) (after_commas ts) (both (codes ",") t (codes ",") t comma_folds all.0) (after_commas_fold ts all.1)
