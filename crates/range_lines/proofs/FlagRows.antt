-- The marks of subscripts, over lists.
use Rattle.std.proofs.Common.{◌≡◌, ℕ, zero, suc, ◌+◌, ◌<◌, ◌≤◌, Bool, List, [], ◌∷◌, ◌++◌, length, get_or, drop, map, flat_map, Option, refl, sym, ap, ◌∙◌, append_assoc, append-nil, add-one, drop-cons, arith}
use Rattle.std.proofs.lemmas.List.{map-append}
use Rattle.std.proofs.Math.ListN.{drop_of_length-le}
use Rattle.op_table.specs.declared.Op.{Op}
use Rattle.f77_tree.specs.declared.declarations.Dim.{Dim}
use Rattle.f77_tree.specs.declared.expressions.Access.{Access}
use Rattle.f77_tree.specs.declared.expressions.Expr.{Expr, Read, Apply, Row_of-Expr, end_of-Expr, more_of-Expr, items-the_row-Expr, items_hidden-the_row-Expr-0}
use Rattle.f77_tree.specs.declared.programs.NameInfo.{NameInfo}
use Rattle.f77_tree.specs.Value.{dims_of}
use Rattle.f77_tree.proofs.ExpressionLemmas.{row_of}
use Rattle.loop_ranges.specs.Subscripts.{subscripts_in, row_subscripts, bound_subscripts}
use Rattle.range_lines.specs.declared.reaches.Reach.{Reach}
use Rattle.range_lines.specs.Marks.{is_seen, flags, bound_flags}

-- ---- a list that is appended piece by piece

module _ {X Y : Type 0} (f : X → List Y) where
  pub pieces-all : (row all : List Y) (xs : List X) (i : ℕ) → length xs ≤ i → row ++ flat_map f (drop i xs) ≡ all → row ≡ all
  pieces-all row all xs i end before = sym (append-nil row) ∙ ap (λ ys. row ++ flat_map f ys) (sym (drop_of_length-le xs end)) ∙ before

-- a mark for each of what is found in items
pub map-pieces : {X Y Z : Type 0} (g : Y → Z) (f : X → List Y) (xs : List X) → map g (flat_map f xs) ≡ flat_map (λ x. map g (f x)) xs
map-pieces g f [] = refl
map-pieces g f (x ∷ xs) = map-append g (f x) (flat_map f xs) ∙ ap (λ ys. map g (f x) ++ ys) (map-pieces g f xs)

-- an item within a list doesn't hang on what stands for those beyond it
pub same-item : {X : Type 0} (xs : List X) (i : ℕ) (d e : X) → i < length xs → get_or xs i d ≡ get_or xs i e
same-item [] i d e lt = absurd (omega (arith, lt))
same-item (x ∷ xs) zero d e lt = refl
same-item (x ∷ xs) (suc i) d e lt = same-item xs i d e (omega (arith, lt))

-- ---- expressions

module _ (names : List NameInfo) (current : List (Option Reach)) (k : ℕ) where
  row-flags : (n : _) (row : Row_of-Expr n) → map (is_seen current k) (row_subscripts names row) ≡ flat_map (flags names current k) (items-the_row-Expr n row)
  row-flags n end_of-Expr = refl
  row-flags n (more_of-Expr e rest) = map-append (is_seen current k) (subscripts_in names e) (row_subscripts names rest) ∙ ap (λ more. flags names current k e ++ more) (row-flags _ rest)

  -- the marks of an operator's operands
  pub flags-Apply : (e : Expr) (op : Op) (args : List Expr) → e ≡ Apply op args → flags names current k e ≡ flat_map (flags names current k) args
  flags-Apply e op args is =
      let row = row_of (Apply op args) in
      ap (flags names current k) is ∙ row-flags row.0 row.1 ∙ ap (flat_map (flags names current k)) (items_hidden-the_row-Expr-0 args)

  bounds-flags : (dims : List Dim) (n : _) (row : Row_of-Expr n) → map (is_seen current k) (bound_subscripts names dims row) ≡ bound_flags names current k dims (items-the_row-Expr n row)
  bounds-flags dims n end_of-Expr = refl
  bounds-flags [] n (more_of-Expr e rest) = map-append (is_seen current k) (subscripts_in names e) (bound_subscripts names [] rest) ∙ ap (λ more. flags names current k e ++ more) (bounds-flags [] _ rest)
  bounds-flags (dim ∷ dims) n (more_of-Expr e rest) =
      map-append (is_seen current k) (subscripts_in names e) (record { sub = e; dim = dim } ∷ bound_subscripts names dims rest)
      ∙ ap (λ more. flags names current k e ++ (is_seen current k (record { sub = e; dim = dim }) ∷ more)) (bounds-flags dims _ rest)

  -- the marks of an access
  pub flags-Read : (access : Access) → flags names current k (Read access) ≡ bound_flags names current k (dims_of names access.name) access.subs
  flags-Read access =
      let row = row_of (Read access) in
      bounds-flags (dims_of names access.name) row.0 row.1 ∙ ap (bound_flags names current k (dims_of names access.name)) (items_hidden-the_row-Expr-0 access.subs)

  -- one subscript more
  pub bound-next : (row between new all : List Bool) (dims : List Dim) (subs : List Expr) (i : ℕ) (dim : Dim) (e : Expr) → i < length dims → i < length subs → dim ≡ get_or dims i dim → e ≡ get_or subs i e → row ++ bound_flags names current k (drop i dims) (drop i subs) ≡ all → between ≡ row ++ flags names current k e → new ≡ between ++ is_seen current k (record { sub = e; dim = dim }) ∷ [] → new ++ bound_flags names current k (drop (i + 1) dims) (drop (i + 1) subs) ≡ all
  bound-next row between new all dims subs i dim e lt_dim lt_sub at_dim at_sub before is_between is_new =
      let ds : drop i dims ≡ dim ∷ drop (i + 1) dims = drop-cons dims i dim lt_dim ∙ ap (λ d. d ∷ drop (suc i) dims) (sym at_dim) ∙ ap (λ j. dim ∷ drop j dims) (sym (add-one i)) in
      let es : drop i subs ≡ e ∷ drop (i + 1) subs = drop-cons subs i e lt_sub ∙ ap (λ x. x ∷ drop (suc i) subs) (sym at_sub) ∙ ap (λ j. e ∷ drop j subs) (sym (add-one i)) in
      let rest = bound_flags names current k (drop (i + 1) dims) (drop (i + 1) subs) in
      let flag = is_seen current k (record { sub = e; dim = dim }) in
      ap (λ r. r ++ rest) is_new
      ∙ append_assoc between (flag ∷ []) rest
      ∙ ap (λ r. r ++ (flag ∷ rest)) is_between
      ∙ append_assoc row (flags names current k e) (flag ∷ rest)
      ∙ ap (λ xs. row ++ bound_flags names current k xs (e ∷ drop (i + 1) subs)) (sym ds)
      ∙ ap (λ xs. row ++ bound_flags names current k (drop i dims) xs) (sym es)
      ∙ before

  pub bounds-all : (row all : List Bool) (dims : List Dim) (subs : List Expr) (i : ℕ) → length subs ≤ i → row ++ bound_flags names current k (drop i dims) (drop i subs) ≡ all → row ≡ all
  bounds-all row all dims subs i end before =
      sym (append-nil row) ∙ ap (λ r. row ++ r) (sym (no_bounds (drop i dims))) ∙ ap (λ xs. row ++ bound_flags names current k (drop i dims) xs) (sym (drop_of_length-le subs end)) ∙ before
    where
      no_bounds : (dims : List Dim) → bound_flags names current k dims [] ≡ []
      no_bounds [] = refl
      no_bounds (d ∷ ds) = refl
