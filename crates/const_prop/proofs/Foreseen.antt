-- What is known of expressions grows less as more may come.
use Rattle.std.proofs.Common.{◌≡◌, ℕ, ℤ, List, ◌∷◌, Option, Some, None, refl, sym, ap, subst, ◌∙◌, inl, inr}
use Rattle.std.specs.Option.{option_map, option_and_then}
use Rattle.op_table.specs.declared.Op.{Op}
use Rattle.op_table.specs.Known.{all_known, folded}
use Rattle.f77_tree.specs.declared.expressions.Expr.{Expr, Row_of-Expr, end_of-Expr, more_of-Expr}
use Rattle.f77_tree.specs.declared.expressions.Expr.TheVariants.{Const, Truth, Input, Read', Apply'}
use Rattle.f77_tree.specs.declared.programs.NameInfo.{NameInfo}
use Rattle.f77_tree.specs.Known.{row_known}
use Rattle.f77_tree.specs.KnownWith.{known_word, known_with, row_known_with}
use Rattle.f77_tree.specs.Value.{kind_of, read_as}
use Rattle.alias_classes.specs.Classes.{ClassTable, class_of_word}
use Rattle.alias_classes.specs.Needs.{ExprNeeds, SomeNeeds, HitsName, HitsAt}
use Rattle.const_prop.specs.declared.known.Known.{Known}
use Rattle.const_prop.specs.declared.known.Known.TheVariants.{Nothing, One, Any}
use Rattle.const_prop.specs.Known.{AtMost, as_known, as_index}

record AreAfter (k : Option ℤ) (known : List (Option ℤ)) (xs : List ℤ) : Type 0 where
  first : ℤ
  rest : List ℤ
  here : k ≡ Some first
  after : all_known known ≡ Some rest
  are : first ∷ rest ≡ xs

known-parts : (k : Option ℤ) (known : List (Option ℤ)) (xs : List ℤ) → all_known (k ∷ known) ≡ Some xs → AreAfter k known xs
known-parts None known xs e = let no' : None ≡ Some xs = e in absurd cc
known-parts (Some k) known xs e = by (all_known known) refl e
  where
    by : (o : Option (List ℤ)) → all_known known ≡ o → option_map (λ more. k ∷ more) o ≡ Some xs → AreAfter (Some k) known xs
    by None f h = let no' : None ≡ Some xs = h in absurd cc
    by (Some more) f h = let is : k ∷ more ≡ xs = cc in record { first = k; rest = more; here = refl; after = f; are = is }

-- operands of which all that is known in the one list is known in the other
parts-known : (k : Option ℤ) (known : List (Option ℤ)) (first : ℤ) (rest xs : List ℤ) → k ≡ Some first → all_known known ≡ Some rest → first ∷ rest ≡ xs → all_known (k ∷ known) ≡ Some xs
parts-known None known first rest xs h b are = let no' : None ≡ Some first = h in absurd cc
parts-known (Some k) known first rest xs h b are = let same : k ≡ first = cc in ap (option_map (λ more. k ∷ more)) b ∙ ap (λ n. Some (n ∷ rest)) same ∙ ap Some are

-- an operator is known where its operands are
folded-more : (op : Op) (ks js : List (Option ℤ)) (z : ℤ) → ((xs : List ℤ) → all_known ks ≡ Some xs → all_known js ≡ Some xs) → folded op ks ≡ Some z → folded op js ≡ Some z
unfolding folded
folded-more op ks js z more e = by (all_known ks) refl e
  where
    by : (o : Option (List ℤ)) → all_known ks ≡ o → option_and_then (λ args. Rattle.std.specs.Result.result_ok (Rattle.op_table.specs.Operators.applied op args)) o ≡ Some z → option_and_then (λ args. Rattle.std.specs.Result.result_ok (Rattle.op_table.specs.Operators.applied op args)) (all_known js) ≡ Some z
    by None f h = let no' : None ≡ Some z = h in absurd cc
    by (Some xs) f h = rw (more xs f) h

module _ (names : List NameInfo) (c : ClassTable) (same : c.names ≡ names) (few many : ℕ → Option ℤ) where
  -- each word that the expression needs and that is known there is known here
  abbrev pub Covers : (ℕ → Type 0) → Type 0
  Covers needs = (word : ℕ) (z : ℤ) → needs (class_of_word c word) → few word ≡ Some z → many word ≡ Some z

  read-more : (name : ℕ) (known : List (Option ℤ)) (o : Option ℕ) → known_word names name known ≡ o → Covers (HitsName c name known) → (z : ℤ) → option_map (read_as (kind_of names name)) (option_and_then few o) ≡ Some z → option_map (read_as (kind_of names name)) (option_and_then many o) ≡ Some z
  read-more name known None is covers z e = let no' : None ≡ Some z = e in absurd cc
  read-more name known (Some word) is covers z e = by (few word) refl e
    where
      hits : HitsName c name known (class_of_word c word)
      hits = subst (λ (o : Option ℕ). HitsAt c name o (class_of_word c word)) (sym (ap (λ (ns : List NameInfo). known_word ns name known) same ∙ is)) refl

      by : (o : Option ℤ) → few word ≡ o → option_map (read_as (kind_of names name)) o ≡ Some z → option_map (read_as (kind_of names name)) (many word) ≡ Some z
      by None f h = let no' : None ≡ Some z = h in absurd cc
      by (Some held) f h = rw (covers word held hits f) h

  mutual
    pub known_with-more : (e : Expr) → Covers (ExprNeeds c e) → (z : ℤ) → known_with names few e ≡ Some z → known_with names many e ≡ Some z
    known_with-more (Const k) covers z e = e
    known_with-more (Truth b) covers z e = e
    known_with-more Input covers z e = e
    known_with-more (Read' name shape subs) covers z e = read-more name (row_known subs) (known_word names name (row_known subs)) refl (λ word z needs. covers word z (inr needs)) z e
    known_with-more (Apply' op shape args) covers z e = folded-more op (row_known_with names few args) (row_known_with names many args) z (row-more args covers) e

    row-more : {m : _} (row : Row_of-Expr m) → Covers (SomeNeeds c row) → (xs : List ℤ) → all_known (row_known_with names few row) ≡ Some xs → all_known (row_known_with names many row) ≡ Some xs
    row-more end_of-Expr covers xs e = e
    row-more (more_of-Expr e rest) covers xs h =
        let parts = known-parts (known_with names few e) (row_known_with names few rest) xs h in
        parts-known (known_with names many e) (row_known_with names many rest) parts.first parts.rest xs (known_with-more e (λ word z needs. covers word z (inl needs)) parts.first parts.here) (row-more rest (λ word z needs. covers word z (inr needs)) parts.rest parts.after) parts.are

  pub as_known-less : (e : Expr) → Covers (ExprNeeds c e) → AtMost (as_known (known_with names many e)) (as_known (known_with names few e))
  as_known-less e covers = by (known_with names few e) refl
    where
      by : (o : Option ℤ) → known_with names few e ≡ o → AtMost (as_known (known_with names many e)) (as_known o)
      by None f = any (as_known (known_with names many e))
        where
          any : (k : Known) → AtMost k Any
          any Nothing = tt
          any (One v) = tt
          any Any = tt
      by (Some z) f = rw (known_with-more e covers z f) refl

  pub as_index-less : (g : ℤ → ℕ) (e : Expr) → Covers (ExprNeeds c e) → AtMost (as_index g (known_with names many e)) (as_index g (known_with names few e))
  as_index-less g e covers = by (known_with names few e) refl
    where
      by : (o : Option ℤ) → known_with names few e ≡ o → AtMost (as_index g (known_with names many e)) (as_index g o)
      by None f = any (as_index g (known_with names many e))
        where
          any : (k : Known) → AtMost k Any
          any Nothing = tt
          any (One v) = tt
          any Any = tt
      by (Some z) f = rw (known_with-more e covers z f) refl
