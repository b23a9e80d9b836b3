-- What is known of operands and subscripts, over lists.
use Rattle.std.proofs.Common.{◌≡◌, ℕ, zero, suc, ◌+◌, ◌<◌, ◌≤◌, ℤ, List, [], ◌∷◌, ◌++◌, length, get_or, map, take, drop, Option, Bool, true, false, ◌||◌, Any, inl, inr, ⊎_elim, refl, sym, ap, subst, ◌∙◌, length-append, arith}
use Rattle.std.specs.Prelude.{◌⊎◌, ◌↔◌, IsTrue}
use Rattle.std.proofs.lemmas.Bool.{cases_lt}
use Rattle.std.proofs.lemmas.List.{take_more, take_all, map-append, get_or_append_left, get_or_push}
use Rattle.op_table.specs.declared.Op.{Op}
use Rattle.op_table.specs.Known.{folded, CanTrap}
use Rattle.f77_tree.specs.declared.declarations.Dim.{Dim}
use Rattle.f77_tree.specs.declared.expressions.Access.{Access}
use Rattle.f77_tree.specs.declared.expressions.Expr.{Expr, Const, Truth, Input, Read, Read', Apply, Apply', Row_of-Expr, end_of-Expr, more_of-Expr, items-the_row-Expr, items_hidden-the_row-Expr-0}
use Rattle.f77_tree.specs.declared.programs.ExecKind.{ExecKind}
use Rattle.f77_tree.specs.declared.programs.ExecKind.TheVariants.{Assign}
use Rattle.f77_tree.specs.declared.programs.NameInfo.{NameInfo}
use Rattle.f77_tree.specs.Known.{known, row_known, none, MayTrap, MayLieOutside, SomeMayTrap, SubscriptsMayTrap, SubscriptMayTrap, AccessMayTrap, ExecMayTrap}
use Rattle.f77_tree.specs.Touched.{ReadsData, SomeReadsData, ExecReadsData}
use Rattle.f77_tree.specs.Value.{dims_of}
use Rattle.f77_tree.proofs.AllLemmas.{Any-first, Any-rest}
use Rattle.f77_tree.proofs.ExpressionLemmas.{row_of}

-- ---- values

row_known-items : (n : _) (row : Row_of-Expr n) → row_known row ≡ map known (items-the_row-Expr n row)
row_known-items n end_of-Expr = refl
row_known-items n (more_of-Expr e rest) = ap (λ ks. known e ∷ ks) (row_known-items _ rest)

row_known-list : (op : Op) (args : List Expr) → row_known (row_of (Apply op args)).1 ≡ map known args
row_known-list op args =
    let row = row_of (Apply op args) in
    row_known-items row.0 row.1 ∙ ap (map known) (items_hidden-the_row-Expr-0 args)

-- what is known of an operator, over the list of its operands
pub known-Apply : (op : Op) (args : List Expr) → known (Apply op args) ≡ folded op (map known args)
known-Apply op args = ap (folded op) (row_known-list op args)

-- ---- some of the first of a list

module _ {X : Type 0} (P : X → Type 0) where
  Any-none : Any P [] → ⊥
  Any-none some = let lt = some.2 in omega (arith, lt)

  Any-at : (x : X) (xs : List X) (k : ℕ) (y : X) → k < length (x ∷ xs) → get_or (x ∷ xs) k y ≡ y → P y → P x ⊎ Any P xs
  Any-at x xs zero y lt is p = inl (subst P (sym is) p)
  Any-at x xs (suc k) y lt is p = inr (k, y, omega (arith, lt), is, p)

  Any-split : (x : X) (xs : List X) → Any P (x ∷ xs) → P x ⊎ Any P xs
  Any-split x xs some = Any-at x xs some.0 some.1 some.2 some.3 some.4

  Any-prefix : (xs : List X) (y : X) → Any P xs → Any P (xs ++ y ∷ [])
  Any-prefix xs y some = (some.0, some.1, (let lt = some.2 in omega (arith, lt, length-append xs (y ∷ []))), get_or_append_left xs (y ∷ []) some.1 some.0 some.2 ∙ some.3, some.4)

  Any-last : (xs : List X) (y : X) → P y → Any P (xs ++ y ∷ [])
  Any-last xs y p = (length xs, y, omega (arith, length-append xs (y ∷ [])), get_or_push xs y y (length xs) refl, p)

  Any-either : (xs : List X) (y : X) → Any P (xs ++ y ∷ []) → Any P xs ⊎ P y
  Any-either xs y some = ⊎_elim
      (λ (l : some.0 < length xs). inl (some.0, some.1, l, sym (get_or_append_left xs (y ∷ []) some.1 some.0 l) ∙ some.3, some.4))
      (λ (m : length xs ≤ some.0).
      let lt = some.2 in
      let last : some.0 ≡ length xs = omega (arith, m, lt, length-append xs (y ∷ [])) in
      inr (subst P (sym some.3 ∙ ap (λ k. get_or (xs ++ y ∷ []) k some.1) last ∙ get_or_push xs y some.1 (length xs) refl) some.4))
      (cases_lt some.0 (length xs))

or_true : (a b : Bool) → (a || b) ≡ true → (a ≡ true) ⊎ (b ≡ true)
or_true true b is = inl refl
or_true false b is = inr is

true_or : (a b : Bool) → a ≡ true → (a || b) ≡ true
true_or true b is = refl
true_or false b is = let e : false ≡ true = is in absurd cc

or_of_true : (a b : Bool) → b ≡ true → (a || b) ≡ true
or_of_true true b is = refl
or_of_true false b is = is

-- one of two tests is right for one of two facts
pub or-tells : (a b : Bool) {A B : Type 0} → IsTrue a ↔ A → IsTrue b ↔ B → IsTrue (a || b) ↔ (A ⊎ B)
or-tells a b {A} {B} one other = (
  λ is. ⊎_elim (λ x. inl (one.0 x)) (λ y. inr (other.0 y)) (or_true a b is),
  λ some. ⊎_elim (λ x. true_or a b (one.1 x)) (λ y. or_of_true a b (other.1 y)) some,
)

-- one item more
pub one-more : {X : Type 0} (P : X → Type 0) (xs : List X) (i : ℕ) (x : X) (before here : Bool) → i < length xs → x ≡ get_or xs i x → IsTrue before ↔ Any P (take i xs) → IsTrue here ↔ P x → IsTrue (before || here) ↔ Any P (take (i + 1) xs)
one-more P xs i x before here lt at so_far one =
    let prefix : take (i + 1) xs ≡ take i xs ++ x ∷ [] = take_more xs i x lt ∙ ap (λ y. take i xs ++ y ∷ []) (sym at) in
    let both = or-tells before here so_far one in (
      λ is. subst (Any P) (sym prefix) (⊎_elim (λ some. Any-prefix P (take i xs) x some) (λ p. Any-last P (take i xs) x p) (both.0 is)),
      λ some. both.1 (Any-either P (take i xs) x (subst (Any P) prefix some)),
    )

-- what is known of one operand more
pub known-more : (es : List Expr) (i : ℕ) (e : Expr) (ks : List (Option ℤ)) → i < length es → e ≡ get_or es i e → ks ≡ map known (take i es) → ks ++ known e ∷ [] ≡ map known (take (i + 1) es)
known-more es i e ks lt at so_far =
    ap (λ (xs : List (Option ℤ)). xs ++ known e ∷ []) so_far
    ∙ sym (map-append known (take i es) (e ∷ []))
    ∙ ap (λ (x : Expr). map known (take i es ++ x ∷ [])) at
    ∙ ap (map known) (sym (take_more es i e lt))

-- ---- traps

module _ (names : List NameInfo) where
  row-some : (n : _) (row : Row_of-Expr n) → SomeMayTrap none names row → Any (MayTrap names) (items-the_row-Expr n row)
  row-some n end_of-Expr some = absurd some
  row-some n (more_of-Expr e rest) (inl here) = Any-first (MayTrap names) e (items-the_row-Expr _ rest) here
  row-some n (more_of-Expr e rest) (inr later) = Any-rest (MayTrap names) e (items-the_row-Expr _ rest) (row-some _ rest later)

  some-row : (n : _) (row : Row_of-Expr n) → Any (MayTrap names) (items-the_row-Expr n row) → SomeMayTrap none names row
  some-row n end_of-Expr some = absurd (Any-none (MayTrap names) some)
  some-row n (more_of-Expr e rest) some = ⊎_elim (λ here. inl here) (λ later. inr (some-row _ rest later)) (Any-split (MayTrap names) e (items-the_row-Expr _ rest) some)

  -- an operator can trap where an operand can, or where it can by what is known of them
  pub Apply-traps : (op : Op) (args : List Expr) → MayTrap names (Apply op args) ↔ (Any (MayTrap names) args ⊎ CanTrap op (map known args))
  Apply-traps op args =
      let row = row_of (Apply op args) in
      let items = items_hidden-the_row-Expr-0 args in
      let ks = row_known-list op args in (
        λ may. ⊎_elim
            (λ some. inl (subst (λ (es : List Expr). Any (MayTrap names) es) items (row-some row.0 row.1 some)))
            (λ can. inr (subst (CanTrap op) ks can))
            may,
        λ may. ⊎_elim
            (λ some. inl (some-row row.0 row.1 (subst (λ (es : List Expr). Any (MayTrap names) es) (sym items) some)))
            (λ can. inr (subst (CanTrap op) (sym ks) can))
            may,
      )

  -- the subscript of a dimension can trap
  abbrev pub OneMayTrap : Dim → Expr → Type 0
  OneMayTrap dim e = MayTrap names e ⊎ MayLieOutside dim e

  -- something in the subscripts of these dimensions can trap, over lists
  abbrev pub ListMayTrap : List Dim → List Expr → Type 0
  ListMayTrap dims [] = ⊥
  ListMayTrap [] (e ∷ rest) = MayTrap names e ⊎ ListMayTrap [] rest
  ListMayTrap (dim ∷ dims) (e ∷ rest) = OneMayTrap dim e ⊎ ListMayTrap dims rest

  row-list : (dims : List Dim) (n : _) (row : Row_of-Expr n) → SubscriptsMayTrap none names dims row → ListMayTrap dims (items-the_row-Expr n row)
  row-list dims n end_of-Expr may = absurd may
  row-list [] n (more_of-Expr e rest) may = ⊎_elim (λ here. inl here) (λ later. inr (row-list [] _ rest later)) may
  row-list (dim ∷ dims) n (more_of-Expr e rest) may = ⊎_elim (λ (here : SubscriptMayTrap none dim e (MayTrap names e)). inl here.1) (λ later. inr (row-list dims _ rest later)) may

  list-row : (dims : List Dim) (n : _) (row : Row_of-Expr n) → ListMayTrap dims (items-the_row-Expr n row) → SubscriptsMayTrap none names dims row
  list-row dims n end_of-Expr may = absurd may
  list-row [] n (more_of-Expr e rest) may = ⊎_elim (λ here. inl here) (λ later. inr (list-row [] _ rest later)) may
  list-row (dim ∷ dims) n (more_of-Expr e rest) may = ⊎_elim (λ here. inl (λ x. x, here)) (λ later. inr (list-row dims _ rest later)) may

  -- an access can trap in its subscripts, or at their bounds
  pub access-traps : (access : Access) → AccessMayTrap names access ↔ ListMayTrap (dims_of names access.name) access.subs
  access-traps access =
      let row = row_of (Read access) in
      let dims = dims_of names access.name in
      let items = items_hidden-the_row-Expr-0 access.subs in (
        λ may. subst (λ (es : List Expr). ListMayTrap dims es) items (row-list dims row.0 row.1 may),
        λ may. list-row dims row.0 row.1 (subst (λ (es : List Expr). ListMayTrap dims es) (sym items) may),
      )

  -- the subscripts from k on
  abbrev pub TrapsFrom : List Dim → List Expr → ℕ → Type 0
  TrapsFrom dims subs k = ListMayTrap (drop k dims) (drop k subs)

-- ---- an operator, after all its operands

-- what is known of it
pub operator-known : (e : Expr) (op : Op) (args items : List Expr) (i : ℕ) (ks : List (Option ℤ)) (r : Option ℤ) → e ≡ Apply op args → items ≡ args → length items ≤ i → ks ≡ map known (take i items) → r ≡ folded op ks → r ≡ known e
operator-known e op args items i ks r is same end are told =
    told
    ∙ ap (folded op) (are ∙ ap (map known) (take_all i items end ∙ same))
    ∙ sym (known-Apply op args)
    ∙ ap known (sym is)

-- it can trap where an operand can
pub operator-can : (names : List NameInfo) (e : Expr) (op : Op) (args items : List Expr) (i : ℕ) (risk : Bool) → e ≡ Apply op args → items ≡ args → length items ≤ i → IsTrue risk ↔ Any (MayTrap names) (take i items) → risk ≡ true → IsTrue risk ↔ MayTrap names e
operator-can names e op args items i risk is same end risks holds =
    let some : Any (MayTrap names) args = subst (λ (es : List Expr). Any (MayTrap names) es) (take_all i items end ∙ same) (risks.0 holds) in
    (λ _. subst (λ (x : Expr). MayTrap names x) (sym is) ((Apply-traps names op args).1 (inl some)), λ _. holds)

-- where none can, it can by what is known of them
pub operator-may-trap : (names : List NameInfo) (e : Expr) (op : Op) (args items : List Expr) (i : ℕ) (ks : List (Option ℤ)) (risk r : Bool) → e ≡ Apply op args → items ≡ args → length items ≤ i → ks ≡ map known (take i items) → IsTrue risk ↔ Any (MayTrap names) (take i items) → risk ≡ false → IsTrue r ↔ CanTrap op ks → IsTrue r ↔ MayTrap names e
operator-may-trap names e op args items i ks risk r is same end are risks none told =
    let whole : take i items ≡ args = take_all i items end ∙ same in
    let known_are : ks ≡ map known args = are ∙ ap (map known) whole in
    let both = Apply-traps names op args in (
      λ holds. subst (λ (x : Expr). MayTrap names x) (sym is) (both.1 (inr (subst (CanTrap op) known_are (told.0 holds)))),
      λ may. ⊎_elim
          (λ some. let e : false ≡ true = sym none ∙ risks.1 (subst (λ (es : List Expr). Any (MayTrap names) es) (sym whole) some) in absurd cc)
          (λ can. told.1 (subst (CanTrap op) (sym known_are) can))
          (both.0 (subst (λ (x : Expr). MayTrap names x) is may)),
    )

-- ---- data

module _ (names : List NameInfo) where
  mutual
    -- what reads data can trap
    reading-traps : (e : Expr) → ReadsData e → MayTrap names e
    reading-traps (Const z) reads = absurd reads
    reading-traps (Truth b) reads = absurd reads
    reading-traps Input reads = tt
    reading-traps (Read' name shape subs) reads = reading-subs (dims_of names name) _ subs reads
    reading-traps (Apply' op shape args) reads = inl (reading-some _ args reads)

    reading-some : (n : _) (row : Row_of-Expr n) → SomeReadsData row → SomeMayTrap none names row
    reading-some n end_of-Expr some = absurd some
    reading-some n (more_of-Expr e rest) (inl here) = inl (reading-traps e here)
    reading-some n (more_of-Expr e rest) (inr later) = inr (reading-some _ rest later)

    reading-subs : (dims : List Dim) (n : _) (row : Row_of-Expr n) → SomeReadsData row → SubscriptsMayTrap none names dims row
    reading-subs dims n end_of-Expr some = absurd some
    reading-subs [] n (more_of-Expr e rest) (inl here) = inl (reading-traps e here)
    reading-subs [] n (more_of-Expr e rest) (inr later) = inr (reading-subs [] _ rest later)
    reading-subs (dim ∷ dims) n (more_of-Expr e rest) (inl here) = inl (λ x. x, inl (reading-traps e here))
    reading-subs (dim ∷ dims) n (more_of-Expr e rest) (inr later) = inr (reading-subs dims _ rest later)

  some-reading : (n : _) (row : Row_of-Expr n) → Any ReadsData (items-the_row-Expr n row) → SomeReadsData row
  some-reading n end_of-Expr some = absurd (Any-none ReadsData some)
  some-reading n (more_of-Expr e rest) some = ⊎_elim (λ here. inl here) (λ later. inr (some-reading _ rest later)) (Any-split ReadsData e (items-the_row-Expr _ rest) some)

  access-takes : (access : Access) → Any ReadsData access.subs → AccessMayTrap names access
  access-takes access some =
      let row = row_of (Read access) in
      reading-subs (dims_of names access.name) row.0 row.1 (some-reading row.0 row.1 (subst (λ (es : List Expr). Any ReadsData es) (sym (items_hidden-the_row-Expr-0 access.subs)) some))

  -- an executable that takes data can trap
  pub taking-traps : (kind : ExecKind) → ExecReadsData kind → ExecMayTrap names kind
  taking-traps (Assign target e next) reads = ⊎_elim (λ some. inl (access-takes target some)) (λ here. inr (reading-traps e here)) reads
  taking-traps _ reads = absurd reads
