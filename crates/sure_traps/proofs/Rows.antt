-- Causes in operands and subscripts, over lists.
use Rattle.std.proofs.Common.{◌≡◌, ℕ, suc, ◌+◌, ◌<◌, ◌≤◌, ℤ, true, false, List, [], ◌∷◌, ◌++◌, length, get_or, map, take, drop, drop-cons, Option, None, Some, refl, sym, ap, ◌∙◌, arith}
use Rattle.std.specs.Prelude.{is_some, pos, slice_get}
use Rattle.std.proofs.lemmas.Option.{slice_get-get_or}
use Rattle.std.proofs.lemmas.List.{take_more, take_all, map-append}
use Rattle.std.specs.Option.{option_or}
use Rattle.op_table.specs.declared.Op.{Op}
use Rattle.f77_tree.specs.declared.declarations.Dim.{Dim}
use Rattle.f77_tree.specs.declared.expressions.Access.{Access}
use Rattle.f77_tree.specs.declared.expressions.Expr.{Expr, Read, Apply, Row_of-Expr, end_of-Expr, more_of-Expr, items-the_row-Expr, items_hidden-the_row-Expr-0}
use Rattle.f77_tree.specs.declared.programs.NameInfo.{NameInfo}
use Rattle.f77_tree.specs.Known.{known, row_known}
use Rattle.f77_tree.specs.Value.{dims_of}
use Rattle.f77_tree.proofs.ExpressionLemmas.{row_of}
use Rattle.sure_traps.specs.Causes.{access_cause, bound_cause, cause_in, first_some, operator_cause, row_cause, row_subscripts, subscript_cause}
use Rattle.sure_traps.specs.declared.causes.Cause.{Cause}

-- of the subscripts of these dimensions
abbrev pub subs_cause : List NameInfo → List Dim → List Expr → Option Cause
subs_cause names dims [] = None
subs_cause names [] (e ∷ es) = None
subs_cause names (dim ∷ dims) (e ∷ es) = option_or (option_or (cause_in names e) (bound_cause dim (known e))) (subs_cause names dims es)

known-items : (n : _) (row : Row_of-Expr n) → row_known row ≡ map known (items-the_row-Expr n row)
known-items n end_of-Expr = refl
known-items n (more_of-Expr e rest) = ap (λ ks. known e ∷ ks) (known-items _ rest)

module _ (names : List NameInfo) where
  cause-items : (n : _) (row : Row_of-Expr n) → row_cause names row ≡ first_some (map (cause_in names) (items-the_row-Expr n row))
  cause-items n end_of-Expr = refl
  cause-items n (more_of-Expr e rest) = ap (λ more. option_or (cause_in names e) more) (cause-items _ rest)

  subs-items : (dims : List Dim) (n : _) (row : Row_of-Expr n) → row_subscripts names dims row ≡ subs_cause names dims (items-the_row-Expr n row)
  subs-items dims n end_of-Expr = refl
  subs-items [] n (more_of-Expr e rest) = refl
  subs-items (dim ∷ dims) n (more_of-Expr e rest) = ap (λ more. option_or (option_or (cause_in names e) (bound_cause dim (known e))) more) (subs-items dims _ rest)

  pub cause-Apply : (op : Op) (args : List Expr) → cause_in names (Apply op args) ≡ option_or (first_some (map (cause_in names) args)) (operator_cause op (map known args))
  cause-Apply op args =
      let row = row_of (Apply op args) in
      let items = items_hidden-the_row-Expr-0 args in
      ap (λ cause. option_or cause (operator_cause op (row_known row.1))) (cause-items row.0 row.1)
      ∙ ap (λ ks. option_or (first_some (map (cause_in names) (items-the_row-Expr row.0 row.1))) (operator_cause op ks)) (known-items row.0 row.1)
      ∙ ap (λ (es : List Expr). option_or (first_some (map (cause_in names) es)) (operator_cause op (map known es))) items

  pub cause-Read : (access : Access) → access_cause names access ≡ subs_cause names (dims_of names access.name) access.subs
  cause-Read access =
      let row = row_of (Read access) in
      subs-items (dims_of names access.name) row.0 row.1 ∙ ap (subs_cause names (dims_of names access.name)) (items_hidden-the_row-Expr-0 access.subs)

-- ---- one operand more

or-none : {A : Type 0} (x : Option A) → option_or x None ≡ x
or-none None = refl
or-none (Some x) = refl

or-assoc : {A : Type 0} (x y z : Option A) → option_or x (option_or y z) ≡ option_or (option_or x y) z
or-assoc None y z = refl
or-assoc (Some x) y z = refl

first_some-push : {A : Type 0} (xs : List (Option A)) (y : Option A) → first_some (xs ++ y ∷ []) ≡ option_or (first_some xs) y
first_some-push [] y = or-none y
first_some-push (x ∷ xs) y = ap (option_or x) (first_some-push xs y) ∙ or-assoc x (first_some xs) y

pub cause-more : (names : List NameInfo) (es : List Expr) (i : ℕ) (e : Expr) (c : Option Cause) → i < length es → e ≡ get_or es i e → c ≡ first_some (map (cause_in names) (take i es)) → option_or c (cause_in names e) ≡ first_some (map (cause_in names) (take (i + 1) es))
cause-more names es i e c lt at so_far =
    let f = cause_in names in
    ap (λ k. option_or k (f e)) so_far
    ∙ sym (first_some-push (map f (take i es)) (f e))
    ∙ ap first_some (sym (map-append f (take i es) (e ∷ [])))
    ∙ ap (λ (x : Expr). first_some (map f (take i es ++ x ∷ []))) at
    ∙ ap (λ (xs : List Expr). first_some (map f xs)) (sym (take_more es i e lt))

-- an operator, after all its operands
pub operator-caused : (names : List NameInfo) (e : Expr) (op : Op) (args items : List Expr) (i : ℕ) (ks : List (Option ℤ)) (cause r : Option Cause) → e ≡ Apply op args → items ≡ args → length items ≤ i → ks ≡ map known (take i items) → cause ≡ first_some (map (cause_in names) (take i items)) → r ≡ operator_cause op ks → option_or cause r ≡ cause_in names e
operator-caused names e op args items i ks cause r is same end are causes told =
    let whole : take i items ≡ args = take_all i items end ∙ same in
    ap (λ c. option_or c r) (causes ∙ ap (λ (es : List Expr). first_some (map (cause_in names) es)) whole)
    ∙ ap (λ c. option_or (first_some (map (cause_in names) args)) c) (told ∙ ap (operator_cause op) (are ∙ ap (map known) whole))
    ∙ sym (cause-Apply names op args)
    ∙ ap (cause_in names) (sym is)

-- ---- one subscript more

module _ (names : List NameInfo) (dims : List Dim) (subs : List Expr) (k : ℕ) (e : Expr) (in_subs : k < length subs) (in_dims : k < length dims) (is_sub : e ≡ get_or subs k e) where
  abbrev later : Option Cause
  later = subs_cause names (drop (k + 1) dims) (drop (k + 1) subs)

  subs-step : subs_cause names (drop k dims) (drop k subs) ≡ option_or (subscript_cause names (slice_get dims k) e) later
  subs-step =
      let d : Dim = record { lo = pos 0; hi = pos 0 } in
      let next : k + 1 ≡ suc k = omega arith in
      rw (next, drop-cons subs k e in_subs, ← is_sub, drop-cons dims k d in_dims, slice_get-get_or dims k d in_dims) refl

  found : (r : Option Cause) → is_some r ≡ true → option_or r later ≡ r
  found None some = absurd cc
  found (Some c) some = refl

  pub subs-found : (r : Option Cause) → r ≡ subscript_cause names (slice_get dims k) e → is_some r ≡ true → subs_cause names (drop k dims) (drop k subs) ≡ r
  subs-found r is some = subs-step ∙ ap (λ c. option_or c later) (sym is) ∙ found r some

  passed : (r : Option Cause) → is_some r ≡ false → option_or r later ≡ later
  passed None none = refl
  passed (Some c) none = absurd cc

  pub subs-passed : (r : Option Cause) → r ≡ subscript_cause names (slice_get dims k) e → is_some r ≡ false → subs_cause names (drop k dims) (drop k subs) ≡ later
  subs-passed r is none = subs-step ∙ ap (λ c. option_or c later) (sym is) ∙ passed r none
