-- A subscript is marked exactly where it is seen in range.
use Rattle.std.proofs.Common.{◌≡◌, ℕ, zero, suc, ◌+◌, ◌<◌, ◌≤◌, ℤ, ◌≤ℤ◌, Bool, true, false, ◌&&◌, nat_lt, List, [], ◌∷◌, ◌++◌, length, map, flat_map, All, Option, Some, None, slice_get, slice_index_or, refl, sym, ap, subst, ◌∙◌, ⊎_elim, lt-ltb, arith}
use Rattle.std.specs.Prelude.{int_le}
use Rattle.std.proofs.lemmas.Bool.{cases_lt, ltb-true}
use Rattle.std.proofs.lemmas.Int.{ints}
use Rattle.std.proofs.lemmas.List.{length-map, get_or_append_left, get_or_push}
use Rattle.std.proofs.lemmas.List.Elements.{All-append}
use Rattle.f77_tree.specs.declared.declarations.Dim.{Dim}
use Rattle.f77_tree.specs.declared.expressions.Expr.{Expr, Read, Row_of-Expr, end_of-Expr, more_of-Expr}
use Rattle.f77_tree.specs.declared.expressions.Expr.TheVariants.{Const, Truth, Input, Read', Apply'}
use Rattle.f77_tree.specs.declared.programs.Exec.{Exec}
use Rattle.f77_tree.specs.declared.programs.ExecKind.{ExecKind}
use Rattle.f77_tree.specs.declared.programs.ExecKind.TheVariants.{Assign, Print, Pass, Test, Sign, Pick, DoStart, DoNext, End}
use Rattle.f77_tree.specs.declared.programs.Item.{Item}
use Rattle.f77_tree.specs.declared.programs.Item.TheVariants.{Value, Chars}
use Rattle.f77_tree.specs.declared.programs.NameInfo.{NameInfo}
use Rattle.f77_tree.specs.declared.programs.Program.{Program}
use Rattle.f77_tree.specs.Declarations.{IsDim, IsNameInfo}
use Rattle.f77_tree.specs.Value.{dims_of, dims_in}
use Rattle.f77_tree.specs.WellFormed.{IsWellFormed}
use Rattle.f77_tree.proofs.AllLemmas.{All-nil, All-cons, All-first, All-rest, All-get}
use Rattle.alias_classes.specs.Classes.{ClassTable}
use Rattle.loop_ranges.specs.Linear.{Linear, linear_at}
use Rattle.loop_ranges.specs.Seen.{LiesIn, IsSeenInRange}
use Rattle.loop_ranges.specs.Subscripts.{Subscript, subscripts_in, row_subscripts, bound_subscripts, access_subscripts, item_subscripts, subscripts_of}
use Rattle.range_lines.specs.declared.reaches.Reach.{Reach}
use Rattle.range_lines.specs.declared.shapes.Shape.{Shape}
use Rattle.range_lines.specs.Marks.{lies_at, shape_seen, is_seen, exec_flags}
use Rattle.range_lines.specs.Ranges.{IsCurrent, IsRow, AreRanges}
use Rattle.range_lines.specs.Reaches.{reach_of, IsReach, AreReaches}
use Rattle.range_lines.specs.Shapes.{shape_at, shape_of, lies_in}
use Rattle.range_lines.proofs.FlagRows.{same-item}
use Rattle.range_lines.proofs.ShapeForms.{shape_with, linear-linked}

-- ---- the dimensions of subscripts

abbrev HasDim : Subscript → Type 0
HasDim s = IsDim s.dim

module _ (names : List NameInfo) (table : All IsNameInfo names) where
  -- each dimension of a name is one that a program can have
  pub dims-at : (o : Option NameInfo) (k : ℕ) → slice_get names k ≡ o → All IsDim (dims_in o)
  dims-at None k at = All-nil IsDim
  dims-at (Some info) k at = (All-get IsNameInfo names k info table at).dimensions.bounds

  mutual
    expression-dims : (e : Expr) → All HasDim (subscripts_in names e)
    expression-dims (Const z) = All-nil HasDim
    expression-dims (Truth b) = All-nil HasDim
    expression-dims Input = All-nil HasDim
    expression-dims (Read' name shape subs) = bound-dims (dims_of names name) (dims-at (slice_get names name) name refl) _ subs
    expression-dims (Apply' op shape args) = row-dims _ args

    row-dims : (n : _) (row : Row_of-Expr n) → All HasDim (row_subscripts names row)
    row-dims n end_of-Expr = All-nil HasDim
    row-dims n (more_of-Expr e rest) = All-append HasDim (subscripts_in names e) (row_subscripts names rest) (expression-dims e) (row-dims _ rest)

    bound-dims : (dims : List Dim) → All IsDim dims → (n : _) (row : Row_of-Expr n) → All HasDim (bound_subscripts names dims row)
    bound-dims dims all n end_of-Expr = All-nil HasDim
    bound-dims [] all n (more_of-Expr e rest) = All-append HasDim (subscripts_in names e) (bound_subscripts names [] rest) (expression-dims e) (bound-dims [] all _ rest)
    bound-dims (dim ∷ dims) all n (more_of-Expr e rest) =
        All-append HasDim (subscripts_in names e) (record { sub = e; dim = dim } ∷ bound_subscripts names dims rest) (expression-dims e)
        (All-cons HasDim (record { sub = e; dim = dim }) (bound_subscripts names dims rest) (All-first IsDim dim dims all) (bound-dims dims (All-rest IsDim dim dims all) _ rest))

  item-dims : (item : Item) → All HasDim (item_subscripts names item)
  item-dims (Value e) = expression-dims e
  item-dims (Chars text) = All-nil HasDim

  items-dims : (items : List Item) → All HasDim (flat_map (item_subscripts names) items)
  items-dims [] = All-nil HasDim
  items-dims (item ∷ items) = All-append HasDim (item_subscripts names item) (flat_map (item_subscripts names) items) (item-dims item) (items-dims items)

  -- each dimension of a subscript is one that a program can have
  pub exec-dims : (kind : ExecKind) → All HasDim (subscripts_of names kind)
  exec-dims (Assign target e next) = All-append HasDim (access_subscripts names target) (subscripts_in names e) (expression-dims (Read target)) (expression-dims e)
  exec-dims (Print items next) = items-dims items
  exec-dims (Pass next) = All-nil HasDim
  exec-dims (Test cond if_true if_false) = expression-dims cond
  exec-dims (Sign e neg equal pos') = expression-dims e
  exec-dims (Pick e targets other) = expression-dims e
  exec-dims (DoStart loop_no var first last step body exit) =
      All-append HasDim (subscripts_in names first) (subscripts_in names last ++ subscripts_in names step) (expression-dims first)
      (All-append HasDim (subscripts_in names last) (subscripts_in names step) (expression-dims last) (expression-dims step))
  exec-dims (DoNext loop_no var body exit) = All-nil HasDim
  exec-dims End = All-nil HasDim

-- ---- tests

both-left : (a b : Bool) → (a && b) ≡ true → a ≡ true
both-left true b is = refl
both-left false b is = let no : false ≡ true = is in absurd cc

both-right : (a b : Bool) → (a && b) ≡ true → b ≡ true
both-right true b is = is
both-right false b is = let no : false ≡ true = is in absurd cc

both-true : (a b : Bool) → a ≡ true → b ≡ true → (a && b) ≡ true
both-true a b is_a is_b = ap (λ x. x && b) is_a ∙ is_b

le-true : (x y : ℤ) → x ≤ℤ y → int_le x y ≡ true
le-true x y le = by (int_le x y) refl
  where
    by : (b : Bool) → int_le x y ≡ b → b ≡ true
    by true is = refl
    by false is = absurd (omega (arith, ints, le, is))

lies-in : (dim : Dim) (z : ℤ) → lies_in dim z ≡ true → LiesIn dim z
lies-in dim z is =
    let low = both-left (int_le dim.lo z) (int_le z dim.hi) is in
    let high = both-right (int_le dim.lo z) (int_le z dim.hi) is in
    record { lower = omega (arith, ints, low); upper = omega (arith, ints, high) }

in-lies : (dim : Dim) (z : ℤ) → LiesIn dim z → lies_in dim z ≡ true
in-lies dim z lies = both-true (int_le dim.lo z) (int_le z dim.hi) (le-true dim.lo z lies.lower) (le-true z dim.hi lies.upper)

-- ---- one subscript

module _ (p : Program) (t : ClassTable) (k : ℕ) (current : List (Option Reach)) (now : IsCurrent p t k current) where
  record IsLying (dim : Dim) (shape : Shape) (o : Option (Option Reach)) : Type 0 where
    reach : Reach
    is : o ≡ Some (Some reach)
    before : k < reach.next
    at_first : LiesIn dim (shape_at shape reach.first)
    at_last : LiesIn dim (shape_at shape reach.last)

  lying : (dim : Dim) (shape : Shape) (o : Option (Option Reach)) → lies_at k shape dim o ≡ true → IsLying dim shape o
  lying dim shape None is = let no : false ≡ true = is in absurd cc
  lying dim shape (Some None) is = let no : false ≡ true = is in absurd cc
  lying dim shape (Some (Some reach)) is =
      let first = lies_in dim (shape_at shape reach.first) in
      let last = lies_in dim (shape_at shape reach.last) in
      let ends = both-right (nat_lt k reach.next) (first && last) is in
      record {
        reach = reach;
        is = refl;
        before = ltb-true k reach.next (both-left (nat_lt k reach.next) (first && last) is);
        at_first = lies-in dim (shape_at shape reach.first) (both-left first last ends);
        at_last = lies-in dim (shape_at shape reach.last) (both-right first last ends);
      }

  -- a subscript that is marked
  pub seen-sound : (s : Subscript) → IsDim s.dim → is_seen current k s ≡ true → IsSeenInRange p t k s.sub s.dim
  seen-sound s dim is = by (shape_of s.sub) refl is
    where
      by : (o : Option Shape) → shape_of s.sub ≡ o → shape_seen current k s.dim o ≡ true → IsSeenInRange p t k s.sub s.dim
      by None shape told = let no : false ≡ true = told in absurd cc
      by (Some shape) is_shape told =
          let lies = lying s.dim shape (slice_get current shape.variable) told in
          let begins = now.sound shape.variable lies.reach lies.is in
          let before = lies.before in
          let form : Linear = record { factor = shape.factor; constant = shape.constant } in
          let own : Some shape ≡ Some (shape_with begins.loop.variable form) = ap (λ v. Some (shape_with v form)) (sym begins.is_variable) in
          record {
            number = begins.number;
            loop = begins.loop;
            parameters = begins.parameters;
            form = form;
            plain = begins.plain;
            between = record { after_start = begins.before; before_next = subst (λ (r : Reach). k < r.next) begins.is before };
            linear = (linear-linked begins.loop.variable s.sub form).1 (is_shape ∙ own);
            dimension = dim;
            at_first = subst (λ (r : Reach). LiesIn s.dim (linear_at form r.first)) begins.is lies.at_first;
            at_last = subst (λ (r : Reach). LiesIn s.dim (linear_at form r.last)) begins.is lies.at_last;
          }

  -- a subscript that is seen in range
  pub seen-whole : (s : Subscript) → IsSeenInRange p t k s.sub s.dim → is_seen current k s ≡ true
  seen-whole s seen =
      let reach = reach_of p seen.number seen.parameters in
      let after = seen.between.after_start in
      let before = seen.between.before_next in
      let shape = shape_with seen.loop.variable seen.form in
      let at = now.whole seen.number seen.loop seen.parameters seen.plain after (omega (arith, before)) in
      ap (shape_seen current k s.dim) ((linear-linked seen.loop.variable s.sub seen.form).0 seen.linear)
      ∙ ap (lies_at k shape s.dim) at
      ∙ both-true (nat_lt k reach.next) (lies_in s.dim (shape_at shape reach.first) && lies_in s.dim (shape_at shape reach.last)) (lt-ltb k reach.next before)
      (both-true (lies_in s.dim (shape_at shape reach.first)) (lies_in s.dim (shape_at shape reach.last)) (in-lies s.dim (shape_at shape reach.first) seen.at_first) (in-lies s.dim (shape_at shape reach.last) seen.at_last))

  mark-at : (f : Subscript → Bool) (xs : List Subscript) (j : ℕ) (s : Subscript) → slice_get xs j ≡ Some s → slice_index_or (map f xs) j false ≡ f s
  mark-at f [] j s is = let no : None ≡ Some s = is in absurd cc
  mark-at f (x ∷ xs) zero s is = let same : x ≡ s = cc in ap f same
  mark-at f (x ∷ xs) (suc j) s is = mark-at f xs j s is

  -- the marks of an executable are a row
  pub marks-row : (exec : Exec) (row : List Bool) → IsWellFormed p → row ≡ exec_flags p.names current k exec.kind → IsRow p t k exec row
  marks-row exec row well is = record {
    as_many = ap length is ∙ length-map (subscripts_of p.names exec.kind) (is_seen current k);
    right = λ j s at.
        let told : slice_index_or row j false ≡ is_seen current k s = ap (λ xs. slice_index_or xs j false) is ∙ mark-at (is_seen current k) (subscripts_of p.names exec.kind) j s at in
        let dim : IsDim s.dim = All-get HasDim (subscripts_of p.names exec.kind) j s (exec-dims p.names well.declarations.table exec.kind) at in
        (λ marked. seen-sound s dim (sym told ∙ marked), λ seen. told ∙ seen-whole s seen);
  }

-- ---- the rows

get-inside : {X : Type 0} (xs : List X) (k : ℕ) (x : X) → slice_get xs k ≡ Some x → k < length xs
get-inside [] k x is = let no : None ≡ Some x = is in absurd cc
get-inside (y ∷ xs) zero x is = omega arith
get-inside (y ∷ xs) (suc k) x is = let lt = get-inside xs k x is in omega (arith, lt)

same-exec : (a b : Exec) → Some a ≡ Some b → a ≡ b
same-exec a b is = cc

module _ (p : Program) (t : ClassTable) where
  -- one row more
  pub rows-more : (rows new : List (List Bool)) (k : ℕ) (exec : Exec) (row : List Bool) → length rows ≡ k → slice_get p.execs k ≡ Some exec → new ≡ rows ++ row ∷ [] → IsRow p t k exec row → ((j : ℕ) (other : Exec) → j < k → slice_get p.execs j ≡ Some other → IsRow p t j other (slice_index_or rows j [])) → (j : ℕ) (other : Exec) → j < k + 1 → slice_get p.execs j ≡ Some other → IsRow p t j other (slice_index_or new j [])
  rows-more rows new k exec row each at is here before j other lt there = ⊎_elim
      (λ (less : j < k). subst (λ (r : List Bool). IsRow p t j other r) (sym (ap (λ xs. slice_index_or xs j []) is ∙ get_or_append_left rows (row ∷ []) [] j (omega (arith, less, each)))) (before j other less there))
      (λ (not_less : k ≤ j).
      let same : j ≡ k = omega (arith, lt, not_less) in
      let is_other : exec ≡ other = same-exec exec other (sym at ∙ ap (slice_get p.execs) (sym same) ∙ there) in
      let own : slice_index_or new j [] ≡ row = ap (λ xs. slice_index_or xs j []) is ∙ get_or_push rows row [] j (each ∙ sym same) in
      subst (λ (r : List Bool). IsRow p t j other r) (sym own) (subst (λ i. IsRow p t i other row) (sym same) (subst (λ (e : Exec). IsRow p t k e row) is_other here)))
      (cases_lt j k)

  -- all rows
  pub rows-done : (rows : List (List Bool)) (k : ℕ) → length rows ≡ k → k ≡ length p.execs → ((j : ℕ) (exec : Exec) → j < k → slice_get p.execs j ≡ Some exec → IsRow p t j exec (slice_index_or rows j [])) → AreRanges p t rows
  rows-done rows k each end right = record {
    each = each ∙ end;
    right = λ j exec at. let lt = get-inside p.execs j exec at in right j exec (omega (arith, lt, end)) at;
  }

  -- the reach at an executable
  pub reach-at : (reaches : List (Option Reach)) → AreReaches p t reaches → (k : ℕ) (r : Option Reach) → k < length p.execs → r ≡ slice_index_or reaches k r → IsReach p t k r
  reach-at reaches are k r lt is =
      let each = are.each in
      subst (λ (o : Option Reach). IsReach p t k o) (same-item reaches k None r (omega (arith, lt, each)) ∙ sym is) (are.right k lt)
