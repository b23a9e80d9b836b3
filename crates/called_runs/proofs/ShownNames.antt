-- The names of an expression stand in its copy, as the change of names makes them.
use Rattle.std.proofs.Common.{◌≡◌, ℕ, ◌⊎◌, inl, inr, ⊎_elim, Bool, true, false, not, ◌&&◌, ◌||◌, List, [], ◌∷◌, ◌++◌, fold, flat_map, Option, Some, None, if◌then◌else◌, refl, sym, ap, subst, ◌∙◌}
use Rattle.std.specs.Option.{is_some}
use Rattle.std.proofs.lemmas.Bool.{and_parts}
use Rattle.list_laws.proofs.Members.{Member-cases, Member-left, Member-right}
use Rattle.list_laws.specs.Member.{Member}
use Rattle.op_table.specs.declared.Op.{Op}
use Rattle.f77_tree.specs.declared.declarations.Kind.{Kind}
use Rattle.f77_tree.specs.declared.declarations.Kind.TheVariants.{Integer}
use Rattle.f77_tree.specs.declared.programs.NameInfo.{NameInfo}
use Rattle.f77_tree.specs.declared.statements.RawExpr.{RawExpr, Row_of-RawExpr, end_of-RawExpr, more_of-RawExpr}
use Rattle.f77_tree.specs.declared.statements.RawExpr.TheVariants.{Int, Truth, Named, Call as Called, Call', Apply, Apply'}
use Rattle.f77_tree.specs.Kinds.{operand_kind}
use Rattle.f77_tree.specs.Line.{kind_of_op}
use Rattle.layout_rules.proofs.NamesIn.{names_in-Apply, names_in-Call}
use Rattle.layout_rules.specs.Appearances.{called_name, names_in, names_in_row}
use Rattle.declared_names.specs.Functions.{intrinsic_named}
use Rattle.layout_rules.specs.Types.{Intrinsic, count_of_row, is_array_in, is_intrinsic, is_kind, is_row_of, kind_in, kind_of_call}
use Rattle.copied_values.proofs.ChangedValues.{Array, Function, IsCall, IsFunction, call-is, function, kinds-same}
use Rattle.program_units.specs.Copies.{Change, changed, changed_call, changed_row, intrinsic_or, pairs}

only-if : {A : Type 0} (b : Bool) (o : Option A) → is_some (if b then o else None) ≡ true → (b ≡ true) × (is_some o ≡ true)
only-if true o some = (refl, some)
only-if false o some = let e : false ≡ true = some in absurd cc

pub has-kind : (kind : Kind) (o : Option Kind) → is_kind kind o ≡ true → is_some o ≡ true
has-kind kind o is = ap is_some (kinds-same kind o is)

-- ---- names of made expressions

module _ (there : List ℕ → Bool) where
  in-call : (name : List ℕ) (args : List RawExpr) (x : List ℕ) → Member (flat_map (names_in there) args) x → Member (names_in there (Called name args)) x
  in-call name args x m = subst (λ (xs : List (List ℕ)). Member xs x) (sym (names_in-Call there name args)) (Member-right (called_name there name) (flat_map (names_in there) args) x m)

  in-apply : (op : Op) (args : List RawExpr) (x : List ℕ) → Member (flat_map (names_in there) args) x → Member (names_in there (Apply op args)) x
  in-apply op args x m = subst (λ (xs : List (List ℕ)). Member xs x) (sym (names_in-Apply there op args)) m

  in-fold : (op : Op) (e : RawExpr) (rest : List RawExpr) (x : List ℕ) → Member (names_in there e) x ⊎ Member (flat_map (names_in there) rest) x → Member (names_in there (fold (λ e c. Apply op (e ∷ c ∷ [])) e rest)) x
  in-fold op e [] x (inl m) = m
  in-fold op e [] x (inr m) = absurd m
  in-fold op e (d ∷ rest) x (inl m) = in-fold op (Apply op (e ∷ d ∷ [])) rest x (inl (in-apply op (e ∷ d ∷ []) x (Member-left (names_in there e) (names_in there d ++ []) x m)))
  in-fold op e (d ∷ rest) x (inr m) =
      let second : Member (names_in there d) x → Member (names_in there (Apply op (e ∷ d ∷ []))) x = λ here. in-apply op (e ∷ d ∷ []) x (Member-right (names_in there e) (names_in there d ++ []) x (Member-left (names_in there d) [] x here)) in
      in-fold op (Apply op (e ∷ d ∷ [])) rest x (⊎_elim (λ here. inl (second here)) (λ later. inr later) (Member-cases (names_in there d) (flat_map (names_in there) rest) x m))

  in-pairs : (op : Op) (args : List RawExpr) (x : List ℕ) → Member (flat_map (names_in there) args) x → Member (names_in there (pairs op args)) x
  in-pairs op [] x m = absurd m
  in-pairs op (a ∷ []) x m = in-apply op (a ∷ []) x m
  in-pairs op (a ∷ b ∷ rest) x m = in-fold op a (b ∷ rest) x (Member-cases (names_in there a) (flat_map (names_in there) (b ∷ rest)) x m)

-- ---- changed expressions

module _ (names : List NameInfo) (c : Change) (there : List ℕ → Bool) (arrays : (x : List ℕ) → c.arrays x ≡ is_array_in names x) (x : List ℕ) (kept : c.arrays x ≡ true → there (c.name x) ≡ true) where
  in-args : (name : List ℕ) (args : List RawExpr) (y : List ℕ) → Member (flat_map (names_in there) args) y → Member (names_in there (changed_call c name args)) y
  in-args name args y m = by (c.copied && not (c.arrays name))
    where
      by_function : (o : Option Intrinsic) → Member (names_in there (intrinsic_or o (c.name name) args)) y
      by_function None = in-call there (c.name name) args y m
      by_function (Some f) = in-pairs there f.op args y m

      by : (b : Bool) → Member (names_in there (if b then intrinsic_or (intrinsic_named name) (c.name name) args else Called (c.name name) args)) y
      by true = by_function (intrinsic_named name)
      by false = in-call there (c.name name) args y m

  in-array : (args : List RawExpr) → c.arrays x ≡ true → Member (names_in there (changed_call c x args)) (c.name x)
  in-array args is =
      let stays : (c.copied && not (c.arrays x)) ≡ false = ap (λ (b : Bool). c.copied && not b) is ∙ never c.copied in
      let one : called_name there (c.name x) ≡ c.name x ∷ [] = ap (λ (b : Bool). if b || not (is_intrinsic (c.name x)) then c.name x ∷ [] else []) (kept is) in
      let here : Member (called_name there (c.name x)) (c.name x) = subst (λ (xs : List (List ℕ)). Member xs (c.name x)) (sym one) (inl refl) in
      let called : Member (names_in there (Called (c.name x) args)) (c.name x) = subst (λ (xs : List (List ℕ)). Member xs (c.name x)) (sym (names_in-Call there (c.name x) args)) (Member-left (called_name there (c.name x)) (flat_map (names_in there) args) (c.name x) here) in
      subst (λ (b : Bool). Member (names_in there (if b then intrinsic_or (intrinsic_named x) (c.name x) args else Called (c.name x) args)) (c.name x)) (sym stays) called
    where
      never : (b : Bool) → (b && not true) ≡ false
      never true = refl
      never false = refl

  in-name : (name : List ℕ) (count : ℕ) (args : List RawExpr) → IsCall names name count → Member (called_name c.arrays name) x → Member (names_in there (changed_call c name args)) (c.name x)
  in-name name count args (Array is) m =
      let here : c.arrays name ≡ true = arrays name ∙ is.is_array in
      let one : Member (name ∷ []) x = subst (λ (xs : List (List ℕ)). Member xs x) (ap (λ (b : Bool). if b || not (is_intrinsic name) then name ∷ [] else []) here) m in
      ⊎_elim (λ (same : name ≡ x). subst (λ (y : List ℕ). Member (names_in there (changed_call c y args)) (c.name x)) (sym same) (in-array args (ap c.arrays (sym same) ∙ here))) (λ none. absurd none) one
  in-name name count args (Function is) m =
      let scalar : c.arrays name ≡ false = arrays name ∙ is.scalar in
      let known : is_intrinsic name ≡ true = IsFunction.named (function name count is.taken) in
      let none : called_name c.arrays name ≡ [] = ap (λ (b : Bool). if b || not (is_intrinsic name) then name ∷ [] else []) scalar ∙ ap (λ (b : Bool). if not b then name ∷ [] else []) known in
      let empty : Member [] x = subst (λ (xs : List (List ℕ)). Member xs x) none m in
      absurd empty

  mutual
    pub shown : (e : RawExpr) → is_some (kind_in names e) ≡ true → Member (names_in c.arrays e) x → Member (names_in there (changed c e)) (c.name x)
    shown (Int z) some m = absurd m
    shown (Truth b) some m = absurd m
    shown (Named name) some (inl same) = inl (ap c.name same)
    shown (Named name) some (inr m) = absurd m
    shown (Call' name shape args) some m =
        let parts = only-if (is_row_of names Integer args) (kind_of_call names name (count_of_row args)) some in
        ⊎_elim
        (λ (here : Member (called_name c.arrays name) x). in-name name (count_of_row args) (changed_row c args) (call-is names name (count_of_row args) parts.1) here)
        (λ (later : Member (names_in_row c.arrays args) x). in-args name (changed_row c args) (c.name x) (rows-shown Integer _ args parts.0 later))
        (Member-cases (called_name c.arrays name) (names_in_row c.arrays args) x m)
    shown (Apply' op shape args) some m = in-apply there op (changed_row c args) (c.name x) (rows-shown (operand_kind op) _ args (only-if (is_row_of names (operand_kind op) args) (Some (kind_of_op op)) some).0 m)

    rows-shown : (kind : Kind) (n : _) (row : Row_of-RawExpr n) → is_row_of names kind row ≡ true → Member (names_in_row c.arrays row) x → Member (flat_map (names_in there) (changed_row c row)) (c.name x)
    rows-shown kind n end_of-RawExpr is m = absurd m
    rows-shown kind n (more_of-RawExpr e rest) is m =
        let parts = and_parts (is_kind kind (kind_in names e)) (is_row_of names kind rest) is in
        ⊎_elim
        (λ (here : Member (names_in c.arrays e) x). Member-left (names_in there (changed c e)) (flat_map (names_in there) (changed_row c rest)) (c.name x) (shown e (has-kind kind (kind_in names e) parts.0) here))
        (λ (later : Member (names_in_row c.arrays rest) x). Member-right (names_in there (changed c e)) (flat_map (names_in there) (changed_row c rest)) (c.name x) (rows-shown kind _ rest parts.1 later))
        (Member-cases (names_in c.arrays e) (names_in_row c.arrays rest) x m)
