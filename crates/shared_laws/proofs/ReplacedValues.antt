-- The values of expressions in which temporaries stand for candidates.
use Rattle.std.proofs.Common.{◌≡◌, ℕ, ℤ, pos, nat_abs, inl, Bool, true, false, List, [], ◌∷◌, ◌++◌, map, Option, Some, None, Result, Ok, refl, sym, ap, subst, ◌∙◌}
use mathlib.Core.Path.{fun_ext}
use Rattle.std.specs.Prelude.{if◌then◌else◌}
use Rattle.list_laws.specs.Member.{Member}
use Rattle.list_laws.proofs.Members.{Contains-from_Member, Member-left, Member-right}
use Rattle.op_table.specs.declared.Trap.{Trap}
use Rattle.op_table.specs.Words.{is_true, truth}
use Rattle.op_table.specs.Operators.{applied}
use Rattle.f77_tree.specs.declared.declarations.Kind.{Kind}
use Rattle.f77_tree.specs.declared.declarations.Kind.TheVariants.{Integer, Logical}
use Rattle.f77_tree.specs.declared.expressions.Access.{Access}
use Rattle.f77_tree.specs.declared.expressions.Expr.{Expr, Const, Truth, Input, Read, Read', Apply, Apply', Row_of-Expr, end_of-Expr, more_of-Expr}
use Rattle.f77_tree.specs.declared.programs.NameInfo.{NameInfo}
use Rattle.f77_tree.specs.declared.programs.Program.{Program}
use Rattle.f77_tree.specs.Line.{kind_of_expression}
use Rattle.f77_tree.specs.Value.{all_values, and_then, dims_in, kind_in, kind_of, place_in, place_of, read_as, read_of, row_values, subscripted, value, word_at, word_of, IsExpression, AllExpressions}
use Rattle.f77_tree.proofs.ExpressionLemmas.{value-Apply, value-Read}
use Rattle.redundancy.specs.Available.{Availability}
use Rattle.redundancy.specs.Candidates.{subexpressions, row_subexpressions}
use Rattle.shared_forms.specs.Numbered.{name_alone, number_of}
use Rattle.shared_forms.specs.Shared.{candidate, expression_in, is_shared, replaced, row_replaced, temporaries, temporary, temporary_or, with_temporaries, AreNumbers}
use Rattle.shared_laws.specs.SharedRuns.{HoldValues}
use Rattle.shared_forms.proofs.NumberLemmas.{number-told, number_in-is, number_in-within}
use Rattle.shared_forms.proofs.TemporaryTable.{slice_get-left, temporary-kind}

-- a name is read at the values of its subscripts, by its entry in the table
abbrev read_by : List ℤ → Option NameInfo → List (Result ℤ Trap) → Result ℤ Trap
read_by store entry values = and_then (λ w. Ok (read_as (kind_in entry) (word_at store w))) (and_then (λ p. Ok (nat_abs p)) (subscripted (dims_in entry) (pos 1) (pos (place_in entry)) values))

-- a word that is the truth of its kind is read as it is
read_as-same : (kind : Kind) (z : ℤ) → (kind ≡ Logical → z ≡ truth (is_true z)) → read_as kind z ≡ z
read_as-same Integer z is = refl
read_as-same Logical z is = sym (is refl)

module _ (q : Program) (a : Availability) (store : List ℤ) (next : Option ℤ) (truths : (e : Expr) (z : ℤ) → kind_of_expression q.names e ≡ Logical → value q.names store next e ≡ Ok z → z ≡ truth (is_true z)) where
  abbrev pub longer : List NameInfo
  longer = q.names ++ temporaries q a (number_of a)

  -- the word of the temporary of a candidate
  abbrev pub kept : (n : ℕ) → ℤ
  kept n = word_at store (place_of longer (temporary q a (number_of a) n))

  -- the temporary of each shared candidate among these has its value
  abbrev pub Hold : List Expr → Type 0
  Hold es = (d : Expr) (n : ℕ) → Member es d → number_of a d ≡ Some n → is_shared q a (number_of a) n ≡ true → value q.names store next d ≡ Ok (kept n)

  alone-value : (t : ℕ) → value longer store next (Read (name_alone t)) ≡ Ok (read_as (kind_of longer t) (word_at store (place_of longer t)))
  alone-value t = value-Read longer store next (name_alone t)

  temporary-value : (d : Expr) (n : ℕ) → number_of a d ≡ Some n → is_shared q a (number_of a) n ≡ true → value q.names store next d ≡ Ok (kept n) → value longer store next (Read (name_alone (temporary q a (number_of a) n))) ≡ value q.names store next d
  temporary-value d n told shared is =
      let at = number_in-is a.candidates d n told in
      let same : candidate q a (number_of a) n ≡ d = ap expression_in at in
      let kind : kind_of longer (temporary q a (number_of a) n) ≡ kind_of_expression q.names d =
      temporary-kind q a n (record { within = number_in-within a.candidates d n told; shared = shared }) ∙ ap (kind_of_expression q.names) same
      in
      alone-value (temporary q a (number_of a) n)
      ∙ ap (λ (z : ℤ). Ok z) (read_as-same (kind_of longer (temporary q a (number_of a) n)) (kept n) (λ logical. truths d (kept n) (sym kind ∙ logical) is))
      ∙ sym is

  choice-value : (b : Bool) (t other : Expr) (r : Result ℤ Trap) → (b ≡ true → value longer store next t ≡ r) → value longer store next other ≡ r → value longer store next (if b then t else other) ≡ r
  choice-value true t other r here also = here refl
  choice-value false t other r here also = also

  or-value : (o : Option ℕ) (other : Expr) (r : Result ℤ Trap) → ((n : ℕ) → o ≡ Some n → is_shared q a (number_of a) n ≡ true → value longer store next (Read (name_alone (temporary q a (number_of a) n))) ≡ r) → value longer store next other ≡ r → value longer store next (temporary_or q a (number_of a) o other) ≡ r
  or-value None other r here also = also
  or-value (Some n) other r here also = choice-value (is_shared q a (number_of a) n) (Read (name_alone (temporary q a (number_of a) n))) other r (here n refl) also

  mutual
    pub replaced-value : (e : Expr) → IsExpression q.names e → Hold (subexpressions e) → value longer store next (replaced q a (number_of a) e) ≡ value q.names store next e
    replaced-value (Const z) fits hold = refl
    replaced-value (Truth b) fits hold = refl
    replaced-value Input fits hold = refl
    replaced-value (Read' name shape subs) fits hold =
        let access : Access = record { name = name; subs = row_replaced q a (number_of a) subs } in
        value-Read longer store next access
        ∙ ap (λ rs. read_of longer store name (word_of longer name rs)) (row_replaced-value _ subs fits.2 (λ d n among. hold d n (Member-left (row_subexpressions subs) (Read' name shape subs ∷ []) d among)))
        ∙ ap (λ (o : Option NameInfo). read_by store o (row_values q.names store next subs)) (slice_get-left q.names (temporaries q a (number_of a)) name fits.0)
    replaced-value (Apply' op shape args) fits hold =
        or-value (number_of a (Apply' op shape args)) (Apply op (row_replaced q a (number_of a) args)) (value q.names store next (Apply' op shape args))
        (λ n told shared. temporary-value (Apply' op shape args) n told shared (hold (Apply' op shape args) n (Member-right (row_subexpressions args) (Apply' op shape args ∷ []) (Apply' op shape args) (inl refl)) told shared))
        (value-Apply longer store next op (row_replaced q a (number_of a) args)
        ∙ ap (λ rs. and_then (applied op) (all_values rs)) (row_replaced-value _ args fits.1 (λ d n among. hold d n (Member-left (row_subexpressions args) (Apply' op shape args ∷ []) d among))))

    row_replaced-value : (m : _) (row : Row_of-Expr m) → AllExpressions q.names row → Hold (row_subexpressions row) → map (value longer store next) (row_replaced q a (number_of a) row) ≡ row_values q.names store next row
    row_replaced-value m end_of-Expr fits hold = refl
    row_replaced-value m (more_of-Expr e rest) fits hold =
        ap (λ r. r ∷ map (value longer store next) (row_replaced q a (number_of a) rest)) (replaced-value e fits.0 (λ d n among. hold d n (Member-left (subexpressions e) (row_subexpressions rest) d among)))
        ∙ ap (λ rs. value q.names store next e ∷ rs) (row_replaced-value _ rest fits.1 (λ d n among. hold d n (Member-right (subexpressions e) (row_subexpressions rest) d among)))

-- numbers are told by the places of candidates
pub numbers-told : (a : Availability) (number : Expr → Option ℕ) → AreNumbers a number → number_of a ≡ number
numbers-told a number are = fun_ext (λ (e : Expr). sym (number-told a.candidates e (number e) (are e)))

pub replaced-values : (q : Program) (a : Availability) (number : Expr → Option ℕ) (store : List ℤ) (next : Option ℤ) → ((e : Expr) (z : ℤ) → kind_of_expression q.names e ≡ Logical → value q.names store next e ≡ Ok z → z ≡ truth (is_true z)) → (e : Expr) → AreNumbers a number → IsExpression q.names e → HoldValues q a number store next (subexpressions e) → value (with_temporaries q a number).names store next (replaced q a number e) ≡ value q.names store next e
replaced-values q a number store next truths e are fits hold =
    let P : (Expr → Option ℕ) → Type 0 = λ g. HoldValues q a g store next (subexpressions e) → value (with_temporaries q a g).names store next (replaced q a g e) ≡ value q.names store next e in
    let own : P (number_of a) = λ own_hold. replaced-value q a store next truths e fits (λ d n among. own_hold d n (Contains-from_Member (subexpressions e) d among)) in
    subst P (numbers-told a number are) own hold
