-- Readers one after another, and prefixes that don't stand there.
use Rattle.std.proofs.Common.{◌≡◌, ◌==◌, ℕ, Bool, true, false, List, [], ◌∷◌, ◌++◌, Option, Some, None, if◌then◌else◌, refl, sym, ap, subst, ◌∙◌, append_assoc}
use Rattle.std.proofs.lemmas.Bool.{not-true, eqb-true, eq-eqb, ne_eqb, true≢false}
use Rattle.f77_tree.specs.StatementGrammar.{in_brackets, comma_if}
use Rattle.f77_expr.specs.Reader.{Reads, after_prefix}
use Rattle.f77_expr.proofs.EachRead.{Each, each_if, each_then, if_false}
use Rattle.f77_expr.proofs.Prefixes.{prefix_is}
use Rattle.f77_parse.specs.Parts.{beyond, after, then_prefix, where_it, comma_at}
use Rattle.f77_parse.proofs.Followers.{not_at_start}

module _ {A : Type 0} (Q : A → List ℕ → Type 0) where
  -- of what is read
  pub each_read : (x : Reads A) → ((a : A) (rest : List ℕ) → x ≡ Some (a, rest) → Q a rest) → Each Q x
  each_read None k = tt
  each_read (Some (a, rest)) k = k a rest refl

  -- after a prefix that stands there
  pub after_sound : (prefix : List ℕ) (go : List ℕ → Reads A) (text : List ℕ) → ((rest : List ℕ) → prefix ++ rest ≡ text → Each Q (go rest)) → Each Q (after prefix go text)
  after_sound prefix go text k = here (after_prefix prefix text) refl
    where
      here : (x : Option (List ℕ)) → after_prefix prefix text ≡ x → Each Q (beyond go x)
      here None e = tt
      here (Some rest) e = k rest (prefix_is prefix text rest e)

  -- what was read before a prefix, which is after it then
  pub then_prefix_sound : (P : A → List ℕ → Type 0) (prefix : List ℕ) (x : Reads A) → Each P x → ((a : A) (rest : List ℕ) → P a (prefix ++ rest) → Q a rest) → Each Q (then_prefix prefix x)
  then_prefix_sound P prefix x h k = each_then P Q (λ a rest. beyond (λ more. Some (a, more)) (after_prefix prefix rest)) x h (λ a rest is. here a rest is (after_prefix prefix rest) refl)
    where
      here : (a : A) (rest : List ℕ) → P a rest → (o : Option (List ℕ)) → after_prefix prefix rest ≡ o → Each Q (beyond (λ more. Some (a, more)) o)
      here a rest is None e = tt
      here a rest is (Some more) e = k a more (subst (P a) (sym (prefix_is prefix rest more e)) is)

  -- what passed a test
  pub where_sound : (test : A → Bool) (x : Reads A) → Each Q x → Each (λ a rest. Q a rest × (test a ≡ true)) (where_it test x)
  where_sound test x h = each_then Q P (λ a rest. if test a then Some (a, rest) else None) x h (λ a rest is. each_if P (test a) (Some (a, rest)) None (λ passes. (is, passes)) (λ fails. tt))
    where
      P : A → List ℕ → Type 0
      P a rest = Q a rest × (test a ≡ true)

pub where_reads : {A : Type 0} (test : A → Bool) (x : Reads A) (a : A) (rest : List ℕ) → x ≡ Some (a, rest) → test a ≡ true → where_it test x ≡ Some (a, rest)
where_reads test x a rest e passes = ap (where_it test) e ∙ ap (λ (b : Bool). if b then Some (a, rest) else None) passes

-- ---- prefixes that don't stand there

pub flip : (c d : ℕ) → (d == c) ≡ false → (c == d) ≡ false
flip c d h = ne_eqb c d (λ e. true≢false (sym (eq-eqb d c (sym e)) ∙ h))

pub not_at_start_in : (c d : ℕ) (more : List ℕ) → not_at_start c (d ∷ more) ≡ true → (d == c) ≡ false
not_at_start_in c d more h = not-true (d == c) h

pub after_none : (c : ℕ) (prefix text : List ℕ) → not_at_start c text ≡ true → after_prefix (c ∷ prefix) text ≡ None
after_none c prefix [] h = refl
after_none c prefix (d ∷ text) h = if_false (c == d) (after_prefix prefix text) None (flip c d (not_at_start_in c d text h))

-- ---- parts one after another

pub between : (a prefix b tail : List ℕ) → a ++ prefix ++ b ++ tail ≡ a ++ (prefix ++ (b ++ tail))
between a prefix b tail = append_assoc (a ++ prefix) b tail ∙ append_assoc a prefix (b ++ tail)

-- ---- brackets, and the comma that may come first

pub brackets_prefix : (text rest : List ℕ) → in_brackets text ++ rest ≡ 40 ∷ (text ++ (41 ∷ rest))
brackets_prefix text rest = simp append_assoc

pub comma_is : (text : List ℕ) → comma_if (comma_at text).0 ++ (comma_at text).1 ≡ text
comma_is [] = refl
comma_is (c ∷ text) = here (c == 44) refl
  where
    split : Bool → Bool × List ℕ
    split b = if b then (true, text) else (false, c ∷ text)

    here : (b : Bool) → (c == 44) ≡ b → comma_if (split b).0 ++ (split b).1 ≡ c ∷ text
    here true e = ap (λ d. d ∷ text) (sym (eqb-true c 44 e))
    here false e = refl

pub comma_reads : (there : Bool) (text : List ℕ) → not_at_start 44 text ≡ true → comma_at (comma_if there ++ text) ≡ (there, text)
comma_reads true text none = refl
comma_reads false [] none = refl
comma_reads false (c ∷ text) none = if_false (c == 44) (true, text) (false, c ∷ text) (not_at_start_in 44 c text none)
