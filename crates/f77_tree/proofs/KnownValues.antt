-- What is known of a value where some words of the store are known is the value.
use Rattle.std.proofs.Common.{◌≡◌, ℕ, ℤ, List, [], ◌∷◌, map, Option, Some, None, Result, Ok, Err, refl, sym, ap, ◌∙◌}
use Rattle.std.specs.Option.{option_map, option_and_then}
use Rattle.std.specs.Result.{result_ok}
use Rattle.op_table.specs.declared.Trap.{Trap}
use Rattle.op_table.specs.Words.{truth}
use Rattle.op_table.specs.Operators.{applied}
use Rattle.op_table.specs.Known.{all_known}
use Rattle.op_table.proofs.Folds.{next_known}
use Rattle.op_table.proofs.Laws.{folded-some, some-folded}
use Rattle.f77_tree.specs.declared.expressions.Expr.{Expr, Row_of-Expr, end_of-Expr, more_of-Expr}
use Rattle.f77_tree.specs.declared.expressions.Expr.TheVariants.{Const, Truth, Input, Read', Apply'}
use Rattle.f77_tree.specs.declared.programs.NameInfo.{NameInfo}
use Rattle.f77_tree.specs.Known.{known, row_known}
use Rattle.f77_tree.specs.KnownWith.{known_word, known_with, row_known_with, AreRight}
use Rattle.f77_tree.specs.Touched.{AreAsKnown, MayName}
use Rattle.f77_tree.specs.Value.{value, row_values, all_values, and_then, word_of, read_of, read_as, kind_of}
use Rattle.f77_tree.proofs.Safety.{known-are, known-more, all_values-ok}

-- a word that is surely named
record IsSurely (names : List NameInfo) (name : ℕ) (known : List (Option ℤ)) (word : ℕ) : Type 0 where
  subs : List ℤ
  are_known : all_known known ≡ Some subs
  is : word_of names name (map (λ z. Ok z) subs) ≡ Ok word

surely : (names : List NameInfo) (name : ℕ) (known : List (Option ℤ)) (word : ℕ) → known_word names name known ≡ Some word → IsSurely names name known word
surely names name known word e = by (all_known known) refl e
  where
    at : (subs : List ℤ) → all_known known ≡ Some subs → (r : Result ℕ Trap) → word_of names name (map (λ z. Ok z) subs) ≡ r → result_ok r ≡ Some word → IsSurely names name known word
    at subs are (Err trap) f h = let no : None ≡ Some word = h in absurd cc
    at subs are (Ok k) f h = let same : k ≡ word = cc in record { subs = subs; are_known = are; is = f ∙ ap (λ w. Ok w) same }

    by : (o : Option (List ℤ)) → all_known known ≡ o → option_and_then (λ subs. result_ok (word_of names name (map (λ z. Ok z) subs))) o ≡ Some word → IsSurely names name known word
    by None f h = let no : None ≡ Some word = h in absurd cc
    by (Some subs) f h = at subs f (word_of names name (map (λ z. Ok z) subs)) refl h

-- operands that are all known are those
as_known-all : (known : List (Option ℤ)) (zs : List ℤ) (values : List (Result ℤ Trap)) → all_known known ≡ Some zs → AreAsKnown known values → values ≡ map (λ z. Ok z) zs
as_known-all [] zs [] e are = let is : [] ≡ zs = cc in ap (map (λ z. Ok z)) is
as_known-all [] zs (value ∷ values) e are = absurd are
as_known-all (k ∷ known) zs [] e are = absurd are
as_known-all (k ∷ known) zs (value ∷ values) e are = known-more k known value values zs e are.0 (λ more is. as_known-all known more values is are.1)

-- a word that is surely named is the only one that may be
pub surely-only : (names : List NameInfo) (name : ℕ) (known : List (Option ℤ)) (word other : ℕ) → known_word names name known ≡ Some word → MayName names name known other → other ≡ word
surely-only names name known word other is may =
    let at = surely names name known word is in
    let both : Ok other ≡ Ok word = sym may.is ∙ ap (word_of names name) (as_known-all known at.subs may.values at.are_known may.as_known) ∙ at.is in
    cc

-- the word that a known read reads, and what is known of it
record IsKnownRead (names : List NameInfo) (words : ℕ → Option ℤ) (name : ℕ) (known : List (Option ℤ)) (z : ℤ) : Type 0 where
  word : ℕ
  held : ℤ
  named : known_word names name known ≡ Some word
  told : words word ≡ Some held
  is : read_as (kind_of names name) held ≡ z

known-read : (names : List NameInfo) (words : ℕ → Option ℤ) (name : ℕ) (known : List (Option ℤ)) (z : ℤ) → option_map (read_as (kind_of names name)) (option_and_then words (known_word names name known)) ≡ Some z → IsKnownRead names words name known z
known-read names words name known z e = by (known_word names name known) refl e
  where
    at : (k : ℕ) → known_word names name known ≡ Some k → (o : Option ℤ) → words k ≡ o → option_map (read_as (kind_of names name)) o ≡ Some z → IsKnownRead names words name known z
    at k named None f h = let no : None ≡ Some z = h in absurd cc
    at k named (Some held) f h =
        let is : read_as (kind_of names name) held ≡ z = cc in
        record { word = k; held = held; named = named; told = f; is = is }

    by : (o : Option ℕ) → known_word names name known ≡ o → option_map (read_as (kind_of names name)) (option_and_then words o) ≡ Some z → IsKnownRead names words name known z
    by None f h = let no : None ≡ Some z = h in absurd cc
    by (Some k) f h = at k f (words k) refl h

module _ (names : List NameInfo) (words : ℕ → Option ℤ) (store : List ℤ) (next : Option ℤ) (right : AreRight words store) where
  mutual
    -- what is known of an expression is its value, over each store in which the known words are right
    pub known_with-is : (e : Expr) (z : ℤ) → known_with names words e ≡ Some z → value names store next e ≡ Ok z
    known_with-is (Const c) z e = let is : c ≡ z = cc in ap (λ x. Ok x) is
    known_with-is (Truth b) z e = let is : truth b ≡ z = cc in ap (λ x. Ok x) is
    known_with-is Input z e = let no : None ≡ Some z = e in absurd cc
    known_with-is (Read' name shape subs) z e =
        let read = known-read names words name (row_known subs) z e in
        let at = surely names name (row_known subs) read.word read.named in
        ap (λ (rs : List (Result ℤ Trap)). read_of names store name (word_of names name rs)) (known-are names store next _ subs at.subs at.are_known)
        ∙ ap (read_of names store name) at.is
        ∙ ap (λ x. Ok (read_as (kind_of names name) x)) (right read.word read.held read.told)
        ∙ ap (λ x. Ok x) read.is
    known_with-is (Apply' op shape args) z e =
        let is = folded-some op (row_known_with names words args) z e in
        ap (λ (rs : List (Result ℤ Trap)). and_then (applied op) (all_values rs)) (known_with-are _ args is.args is.are_known) ∙ ap (and_then (applied op)) (all_values-ok is.args) ∙ is.value

    known_with-are : (n : _) (row : Row_of-Expr n) (xs : List ℤ) → all_known (row_known_with names words row) ≡ Some xs → row_values names store next row ≡ map (λ z. Ok z) xs
    known_with-are n end_of-Expr xs e = let is : [] ≡ xs = cc in ap (map (λ z. Ok z)) is
    known_with-are n (more_of-Expr e rest) xs h =
        known-more (known_with names words e) (row_known_with names words rest) (value names store next e) (row_values names store next rest) xs h (λ z. known_with-is e z) (λ zs. known_with-are _ rest zs)

-- ---- what is known without words

record AreKnownAfter (k : Option ℤ) (known : List (Option ℤ)) (xs : List ℤ) : Type 0 where
  first : ℤ
  rest : List ℤ
  here : k ≡ Some first
  after : all_known known ≡ Some rest
  are : first ∷ rest ≡ xs

known-parts : (k : Option ℤ) (known : List (Option ℤ)) (xs : List ℤ) → all_known (k ∷ known) ≡ Some xs → AreKnownAfter k known xs
known-parts None known xs e = let no : None ≡ Some xs = e in absurd cc
known-parts (Some k) known xs e = by (all_known known) refl e
  where
    by : (o : Option (List ℤ)) → all_known known ≡ o → option_map (λ more. k ∷ more) o ≡ Some xs → AreKnownAfter (Some k) known xs
    by None f h = let no : None ≡ Some xs = h in absurd cc
    by (Some more) f h = let is : k ∷ more ≡ xs = cc in record { first = k; rest = more; here = refl; after = f; are = is }

module _ (names : List NameInfo) (words : ℕ → Option ℤ) where
  mutual
    -- what is known where no word is stays known
    pub known-known_with : (e : Expr) (z : ℤ) → known e ≡ Some z → known_with names words e ≡ Some z
    known-known_with (Const c) z e = e
    known-known_with (Truth b) z e = e
    known-known_with Input z e = let no : None ≡ Some z = e in absurd cc
    known-known_with (Read' name shape subs) z e = let no : None ≡ Some z = e in absurd cc
    known-known_with (Apply' op shape args) z e =
        let is = folded-some op (row_known args) z e in
        some-folded op (row_known_with names words args) is.args z (row-known_with args is.args is.are_known) is.value

    row-known_with : {m : _} (row : Row_of-Expr m) (xs : List ℤ) → all_known (row_known row) ≡ Some xs → all_known (row_known_with names words row) ≡ Some xs
    row-known_with end_of-Expr xs e = e
    row-known_with (more_of-Expr e rest) xs h =
        let parts = known-parts (known e) (row_known rest) xs h in
        next_known (known_with names words e) (row_known_with names words rest) parts.first parts.rest (known-known_with e parts.first parts.here) (row-known_with rest parts.rest parts.after) ∙ ap Some parts.are
