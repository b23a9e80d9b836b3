-- A folded expression is an expression of the program again, where what is told of words are words.
use Rattle.std.proofs.Common.{◌≡◌, ℕ, zero, suc, ◌≤◌, ℤ, pos, negsuc, ◌≤ℤ◌, Bool, true, false, ◌==◌, if◌then◌else◌, List, [], ◌∷◌, Option, Some, None, All, refl, subst, ◌∙◌, arith}
use Rattle.std.specs.Option.{option_map, option_and_then}
use Rattle.std.proofs.lemmas.Int.{ints}
use Rattle.std.proofs.lemmas.Bool.Decides.{nat_tests}
use Rattle.op_table.specs.Words.{IsWord, truth}
use Rattle.op_table.proofs.Laws.{applied-word, folded-some}
use Rattle.f77_tree.specs.declared.declarations.Kind.{Kind}
use Rattle.f77_tree.specs.declared.declarations.Kind.TheVariants.{Integer, Logical}
use Rattle.f77_tree.specs.declared.expressions.Access.{Access}
use Rattle.f77_tree.specs.declared.expressions.Expr.{Expr, Const, Truth, Input, Read, Read', Apply, Apply', Row_of-Expr, end_of-Expr, more_of-Expr}
use Rattle.f77_tree.specs.declared.programs.NameInfo.{NameInfo}
use Rattle.f77_tree.specs.Kinds.{operand_kind, IsProper, AllOfKind, IsOfKind}
use Rattle.f77_tree.specs.Known.{row_known}
use Rattle.f77_tree.specs.KnownWith.{known_word, known_with, row_known_with}
use Rattle.f77_tree.specs.Line.{kind_of_expression}
use Rattle.f77_tree.specs.Value.{kind_of, read_as}
use Rattle.f77_tree.proofs.KindLemmas.{operation-IsProper, element-IsProper}
use Rattle.f77_tree.proofs.Safety.{truth-word, read-word}
use Rattle.simplified_forms.specs.Literals.{minus, difference, negative, least_literal, literal, literal_or}
use Rattle.simplified_forms.specs.Folding.{folded, row_folded}
use Rattle.simplified_laws.proofs.LiteralLaws.{negative-kind}
use Rattle.simplified_laws.proofs.FoldedLaws.{folded-kind, row_folded-length}

-- ---- all of a list

all-nil : {X : Type 0} (P : X → Type 0) → All P []
all-nil P k d lt = absurd (omega (arith, lt))

all-cons : {X : Type 0} (P : X → Type 0) (x : X) (xs : List X) → P x → All P xs → All P (x ∷ xs)
all-cons P x xs here all zero d lt = here
all-cons P x xs here all (suc k) d lt = all k d (omega (arith, lt))

-- ---- literals

module _ (names : List NameInfo) where
  constant-of_kind : (n : ℕ) → n ≤ 2147483647 → IsOfKind names Integer (Const (pos n))
  constant-of_kind n most = record { proper = record { least = omega (arith, ints); most = omega (arith, ints, most) }; of_kind = refl }

  negative-proper : (checked : Bool) (n : ℕ) → n ≤ 2147483647 → IsProper names (negative checked n)
  negative-proper true n most = operation-IsProper names (minus true) (Const (pos n) ∷ []) (record { written = refl; as_many = refl; operands = all-cons (IsOfKind names Integer) (Const (pos n)) [] (constant-of_kind n most) (all-nil (IsOfKind names Integer)) })
  negative-proper false n most = operation-IsProper names (minus false) (Const (pos n) ∷ []) (record { written = refl; as_many = refl; operands = all-cons (IsOfKind names Integer) (Const (pos n)) [] (constant-of_kind n most) (all-nil (IsOfKind names Integer)) })

  least-operands : (checked : Bool) → All (IsOfKind names Integer) (negative checked 2147483647 ∷ Const (pos 1) ∷ [])
  least-operands checked =
      all-cons (IsOfKind names Integer) (negative checked 2147483647) (Const (pos 1) ∷ []) (record { proper = negative-proper checked 2147483647 (omega arith); of_kind = negative-kind names checked 2147483647 })
      (all-cons (IsOfKind names Integer) (Const (pos 1)) [] (constant-of_kind 1 (omega arith)) (all-nil (IsOfKind names Integer)))

  least-proper : (checked : Bool) → IsProper names (least_literal checked)
  least-proper true = operation-IsProper names (difference true) (negative true 2147483647 ∷ Const (pos 1) ∷ []) (record { written = refl; as_many = refl; operands = least-operands true })
  least-proper false = operation-IsProper names (difference false) (negative false 2147483647 ∷ Const (pos 1) ∷ []) (record { written = refl; as_many = refl; operands = least-operands false })

  least_or-proper : (checked is_least : Bool) (n : ℕ) → n == 2147483647 ≡ is_least → n ≤ 2147483647 → IsProper names (if is_least then least_literal checked else negative checked (suc n))
  least_or-proper checked true n is most = least-proper checked
  least_or-proper checked false n is most = negative-proper checked (suc n) (below n is most)
    where
      below : (n : ℕ) → n == 2147483647 ≡ false → n ≤ 2147483647 → suc n ≤ 2147483647
      below n is most = grind (arith, nat_tests, is, most)

  -- the literal of a word is an expression of the program
  pub literal-proper : (checked : Bool) (kind : Kind) (z : ℤ) → IsWord z → IsProper names (literal checked kind z)
  literal-proper checked Integer (pos n) word = record { least = omega (arith, ints); most = omega (arith, ints, word) }
  literal-proper checked Integer (negsuc n) word = least_or-proper checked (n == 2147483647) n refl (omega (arith, ints, word))
  literal-proper checked Logical z word = tt

-- ---- what is known

module _ (names : List NameInfo) (words : ℕ → Option ℤ) (are_words : (word : ℕ) (z : ℤ) → words word ≡ Some z → IsWord z) where
  told-word : (word : Option ℕ) (z : ℤ) → option_and_then words word ≡ Some z → IsWord z
  told-word None z e = let no : None ≡ Some z = e in absurd cc
  told-word (Some word) z e = are_words word z e

  read_as-word : (kind : Kind) (told : Option ℤ) (z : ℤ) → ((v : ℤ) → told ≡ Some v → IsWord v) → option_map (read_as kind) told ≡ Some z → IsWord z
  read_as-word kind None z word e = let no : None ≡ Some z = e in absurd cc
  read_as-word kind (Some v) z word e = let is : read_as kind v ≡ z = cc in subst IsWord is (read-word kind v (word v refl))

  -- what is known of an expression is a word
  pub known-word : (e : Expr) (z : ℤ) → IsProper names e → known_with names words e ≡ Some z → IsWord z
  known-word (Const c) z proper e =
      let is : c ≡ z = cc in
      let least : pos 0 ≤ℤ c = proper.least in
      let most : c ≤ℤ pos 2147483647 = proper.most in
      let word : IsWord c = omega (arith, ints, least, most) in
      subst IsWord is word
  known-word (Truth b) z proper e = let is : truth b ≡ z = cc in subst IsWord is (truth-word b)
  known-word Input z proper e = absurd proper
  known-word (Read' name shape subs) z proper e = let word = known_word names name (row_known subs) in read_as-word (kind_of names name) (option_and_then words word) z (λ v. told-word word v) e
  known-word (Apply' op shape args) z proper e = let is = folded-some op (row_known_with names words args) z e in applied-word op is.args z is.value

  module _ (checked : Bool) where
    literal_or-proper : (e other : Expr) (told : Option ℤ) → IsProper names e → known_with names words e ≡ told → IsProper names other → IsProper names (literal_or checked (kind_of_expression names e) told other)
    literal_or-proper e other None proper is also = also
    literal_or-proper e other (Some z) proper is also = literal-proper names checked (kind_of_expression names e) z (known-word e z proper is)

    mutual
      pub folded-proper : (e : Expr) → IsProper names e → IsProper names (folded names checked words e)
      folded-proper (Const z) proper = proper
      folded-proper (Truth b) proper = proper
      folded-proper Input proper = proper
      folded-proper (Read' name shape subs) proper =
          let access : Access = record { name = name; subs = row_folded names checked words subs } in
          literal_or-proper (Read' name shape subs) (Read access) (known_with names words (Read' name shape subs)) proper refl
          (element-IsProper names access (record { known = proper.0; as_many = row_folded-length names checked words _ subs ∙ proper.1; subscripts = row_folded-proper _ subs Integer proper.2 }))
      folded-proper (Apply' op shape args) proper =
          literal_or-proper (Apply' op shape args) (Apply op (row_folded names checked words args)) (known_with names words (Apply' op shape args)) proper refl
          (operation-IsProper names op (row_folded names checked words args) (record { written = proper.0; as_many = row_folded-length names checked words _ args ∙ proper.1; operands = row_folded-proper _ args (operand_kind op) proper.2 }))

      row_folded-proper : (m : _) (row : Row_of-Expr m) (kind : Kind) → AllOfKind names kind row → All (IsOfKind names kind) (row_folded names checked words row)
      row_folded-proper m end_of-Expr kind all = all-nil (IsOfKind names kind)
      row_folded-proper m (more_of-Expr e rest) kind all =
          all-cons (IsOfKind names kind) (folded names checked words e) (row_folded names checked words rest) (record { proper = folded-proper e all.0; of_kind = folded-kind names checked words e ∙ all.1 }) (row_folded-proper _ rest kind all.2)
