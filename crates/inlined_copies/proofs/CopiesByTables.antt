-- Copies put by tables are copies.
use Rattle.std.proofs.Common.{◌≡◌, ◌≢◌, ℕ, zero, suc, ◌+◌, ◌<◌, ◌≤◌, ◌⊎◌, ◌==◌, Bool, true, false, not, if◌then◌else◌, min, nat_lt, List, [], ◌∷◌, ◌++◌, map, length, take, get_or, sum_by, Contains, Option, Some, None, option_map, bytes_eq, inl, inr, ⊎_elim, refl, sym, ap, subst, ◌∙◌, arith}
use Rattle.std.specs.List.{list_all, position_or_len, slice_get}
use Rattle.std.proofs.lemmas.Bool.{cases_Bool, cases_eq, and_parts, ltb-true, ltb-false, eqb-true, eq-eqb}
use Rattle.std.proofs.lemmas.List.{take_all, length-map}
use Rattle.std.proofs.lemmas.List.Concat.{flat_map-cons}
use Rattle.std.proofs.lemmas.List.Elements.{Contains-append_left, Contains-append_right}
use Rattle.std.proofs.lemmas.List.Sums.{sum_by-cons, sum_by-take-drop}
use Rattle.std.proofs.lemmas.Option.{slice_get-map, slice_get_past, slice_get-get_or}
use native.Mathlib.Nat.{min-eq_left, min-eq_right}
use mathlib.Core.Path.{fun_ext}
use Rattle.f77_tree.specs.declared.statements.Labelled.{Labelled}
use Rattle.f77_tree.specs.declared.statements.RawExpr.{RawExpr}
use Rattle.f77_tree.specs.declared.statements.Stmt.{Stmt}
use Rattle.f77_tree.specs.declared.statements.Stmt.TheVariants.{Continue, BlockIf}
use Rattle.layout_rules.specs.Appearances.{names_in}
use Rattle.layout_rules.specs.Declarations.{is_array}
use Rattle.layout_rules.specs.Labels.{statement_of}
use Rattle.program_units.specs.declared.new_name.NewName.TheVariants.{Argument, Fixed}
use Rattle.inlined_copies.specs.declared.unit_table.UnitTable.{UnitTable}
use Rattle.program_units.specs.Units.{Call, call_in, dummies_of, guard_of, unit_at, unit_of, unit_or_none, passes}
use Rattle.program_units.specs.declared.entity.Entity.{Entity}
use Rattle.program_units.specs.Entities.{entity_of, stands_for, entity_at}
use Rattle.program_units.specs.Heights.{calls_below, IsHeight}
use Rattle.program_units.specs.Names.{appearing_here, name_for}
use Rattle.program_units.specs.Widths.{is_kept, labels, labels_by, body_labels, labels_before}
use Rattle.program_units.specs.Copies.{Change, Context, bare, changed, changed_stmt, change_in, call_at, end_by, around, piece_by, piece, pieces, copy}
use Rattle.inlined_copies.specs.Changes.{change_by, renamed, or_itself}
use Rattle.inlined_copies.specs.LabelCounts.{count_at, labels_of}
use Rattle.inlined_copies.specs.PutCopies.{opening, closing, put_by, put_piece, put_pieces, put_unit, put_copy}
use Rattle.inlined_copies.specs.UnitTables.{IsTableOf, MakeCopies, appearing_in, labels_behind}
use Rattle.program_units.specs.NewNames.{new_name}
use Rattle.unit_laws.proofs.CalledNames.{call-names, guard-names}
use Rattle.unit_laws.proofs.ChangedAlike.{expr-alike, stmt-alike}
use Rattle.unit_laws.proofs.MainNames.{main-own}
use Rattle.unit_laws.proofs.Kept.{kept_or_none}
use Rattle.unit_laws.proofs.Settled.{labels_settle}
use Rattle.unit_laws.proofs.SettledCopies.{pass_at, pass_take}

-- ---- numbers and lists

min-less : (n limit : ℕ) → min n limit < limit → min n limit ≡ n
min-less n limit less = ⊎_elim
    (λ (is : nat_lt n limit ≡ true). let below : n < limit = ltb-true n limit is in min-eq_left (omega (arith, below)))
    (λ (is : nat_lt n limit ≡ false). let over : limit ≤ n = ltb-false n limit is in let e : min n limit ≡ limit = min-eq_right over in absurd (omega (arith, e, less)))
    (cases_Bool (nat_lt n limit))

some-inside : {X : Type 0} (xs : List X) (j : ℕ) → j < length xs → slice_get xs j ≡ None → ⊥
some-inside [] j inside none = omega (arith, inside)
some-inside (x ∷ xs) zero inside none = let h : Some x ≡ None = none in absurd cc
some-inside (x ∷ xs) (suc j) inside none = some-inside xs j (omega (arith, inside)) none

-- names that stand among these
abbrev Within : List (List ℕ) → List (List ℕ) → Type 0
Within whole xs = (x : List ℕ) → Contains xs x → Contains whole x

around-put : (c : Change) (a b line : ℕ) (guard : Option RawExpr) (body : List Labelled) → around c a b line guard body ≡ opening c a line guard ++ (body ++ closing b line guard)
around-put c a b line None body = refl
around-put c a b line (Some condition) body = refl

-- ---- a unit's labels

module _ (us : List (List Labelled)) (limit : ℕ) (counts : List ℕ) (height : ℕ → ℕ) (is : IsHeight us height) (exact : (g : ℕ) → count_at counts g ≡ min (body_labels us (suc (length us)) g) limit) (few : (k : ℕ) → height k ≤ length us) where
  count-exact : (d g : ℕ) → height g < d → count_at counts g < limit → count_at counts g ≡ body_labels us d g
  count-exact d g deep less =
      let e = exact g in
      let under : min (body_labels us (suc (length us)) g) limit < limit = omega (arith, e, less) in
      let most = few g in
      e ∙ min-less (body_labels us (suc (length us)) g) limit under ∙ labels_settle us height is (suc (length us)) d g (omega (arith, most)) deep

  module _ (d k : ℕ) (deep : height k ≤ d) where
    abbrev lower : Labelled → Bool
    lower s = calls_below height us k (call_in s.stmt)

    abbrev here : Labelled → ℕ
    here = labels (count_at counts) us k

    by-same : (kept : Bool) (label : ℕ) (call : Option Call) → calls_below height us k call ≡ true → (if kept then labels_by (count_at counts) us label call else 0) < limit
        → (if kept then labels_by (count_at counts) us label call else 0) ≡ (if kept then labels_by (body_labels us d) us label call else 0)
    by-same true label None below less = refl
    by-same true label (Some call) below less =
        let g = unit_of us call.name in
        let under : height g < height k = ltb-true (height g) (height k) below in
        ap (λ (n : ℕ). 2 + n) (count-exact d g (omega (arith, under, deep)) (omega (arith, less)))
    by-same false label call below less = refl

    here-same : (s : Labelled) → lower s ≡ true → here s < limit → here s ≡ labels (body_labels us d) us k s
    here-same s below less = by-same (is_kept k s.stmt) s.label (call_in s.stmt) below less

    pub all-same : (stmts : List Labelled) → list_all lower stmts ≡ true → labels_of us counts k stmts < limit → labels_of us counts k stmts ≡ sum_by (labels (body_labels us d) us k) stmts
    all-same [] all less = refl
    all-same (s ∷ rest) all less =
        let both : (lower s ≡ true) × (list_all lower rest ≡ true) = and_parts (lower s) (list_all lower rest) all in
        let front = sum_by-cons here s rest in
        let back = sum_by-cons (labels (body_labels us d) us k) s rest in
        let one = here-same s both.0 (omega (arith, front, less)) in
        let more = all-same rest both.1 (omega (arith, front, less)) in
        omega (arith, front, back, one, more)

    abbrev u : List Labelled
    u = unit_at us k

    module _ (room : labels_of us counts k u < limit) where
      taken-less : (p : ℕ) → labels_of us counts k (take p u) < limit
      taken-less p = let e = sum_by-take-drop here u p in omega (arith, e, room)

      before-same : (p : ℕ) → min (labels_of us counts k (take p u)) limit ≡ labels_before us d k p
      before-same p =
          let less = taken-less p in
          min-eq_left (omega (arith, less)) ∙ all-same (take p u) (pass_take lower u p (is k)) less

      sum-at : (xs : List Labelled) (p : ℕ) (s : Labelled) → slice_get xs p ≡ Some s → here s ≤ sum_by here xs
      sum-at [] p s stands = let h : None ≡ Some s = stands in absurd cc
      sum-at (y ∷ ys) zero s stands =
          let h : Some y ≡ Some s = stands in
          let same : y ≡ s = cc in
          let e = sum_by-cons here y ys in
          let n : here y ≡ here s = ap here same in
          omega (arith, e, n)
      sum-at (y ∷ ys) (suc p) s stands = let e = sum_by-cons here y ys in let more = sum-at ys p s stands in omega (arith, e, more)

      kept-count : (kept : Bool) (label : ℕ) (call : Call) → (kept ≡ true) ⊎ (Some call ≡ None) → (if kept then labels_by (count_at counts) us label (Some call) else 0) < limit → count_at counts (unit_of us call.name) < limit
      kept-count true label call either less = omega (arith, less)
      kept-count false label call (inl is) less = let h : false ≡ true = is in absurd cc
      kept-count false label call (inr is) less = let h : Some call ≡ None = is in absurd cc

      behind-by : (s : Labelled) (call : Option Call) → call_in s.stmt ≡ call → lower s ≡ true → here s < limit → (n : ℕ) → n + labels_behind us counts call ≡ end_by us d call n
      behind-by s None called below less n = omega arith
      behind-by s (Some call) called below less n =
          let g = unit_of us call.name in
          let own : calls_below height us k (Some call) ≡ true = subst (λ (c : Option Call). calls_below height us k c ≡ true) called below in
          let under : height g < height k = ltb-true (height g) (height k) own in
          let kept : (is_kept k s.stmt ≡ true) ⊎ (Some call ≡ None) = subst (λ (c : Option Call). (is_kept k s.stmt ≡ true) ⊎ (c ≡ None)) called (kept_or_none k s.stmt) in
          let few_here : (if is_kept k s.stmt then labels_by (count_at counts) us s.label (Some call) else 0) < limit = subst (λ (c : Option Call). (if is_kept k s.stmt then labels_by (count_at counts) us s.label c else 0) < limit) called less in
          let e = count-exact d g (omega (arith, under, deep)) (kept-count (is_kept k s.stmt) s.label call kept few_here) in
          ap (λ (x : ℕ). n + (x + 1)) e ∙ (let turn : n + (body_labels us d g + 1) ≡ n + body_labels us d g + 1 = omega arith in turn)

      behind-at : (p : ℕ) (found : Option Labelled) → slice_get u p ≡ found → (n : ℕ) → n + labels_behind us counts (call_at found) ≡ end_by us d (call_at found) n
      behind-at p None stands n = omega arith
      behind-at p (Some s) stands n =
          let most = sum-at u p s stands in
          behind-by s (call_in s.stmt) refl (pass_at lower u p s (is k) stands) (omega (arith, most, room)) n

      -- ---- a copy

      module _ (table : UnitTable) (right : IsTableOf us limit counts k table) (arguments : List Entity) (as_many : length arguments ≡ length (dummies_of u)) (main : k ≡ 0 → arguments ≡ []) (base : ℕ) where
        abbrev new_names : List (List ℕ)
        new_names = map (name_for us) arguments

        abbrev made : Change
        made = change_by table new_names base

        abbrev due : Change
        due = change_in us d k base arguments

        jump-same : (l : ℕ) → made.jump l ≡ due.jump l
        jump-same l =
            let p = statement_of u l in
            ap (λ (n : ℕ). base + n) (right.firsts l ∙ ap (λ (n : ℕ). n + 1) (before-same p))
            ∙ (let turn : base + (labels_before us d k p + 1) ≡ base + labels_before us d k p + 1 = omega arith in turn)

        end-same : (l : ℕ) → made.end l ≡ due.end l
        end-same l =
            let p = statement_of u l in
            let b = labels_before us d k p in
            let more = labels_behind us counts (call_at (slice_get u p)) in
            ap (λ (n : ℕ). base + n) (right.lasts l ∙ ap (λ (n : ℕ). n + 1 + more) (before-same p))
            ∙ (let turn : base + (b + 1 + more) ≡ base + b + 1 + more = omega arith in turn)
            ∙ behind-at p (slice_get u p) refl (base + b + 1)

        back-same : made.back ≡ due.back
        back-same =
            let whole : take (length u) u ≡ u = take_all (length u) u (omega arith) in
            ap (λ (n : ℕ). base + n) (right.behind ∙ ap (λ (xs : List Labelled). min (labels_of us counts k xs) limit + 1) (sym whole) ∙ ap (λ (n : ℕ). n + 1) (before-same (length u)))
            ∙ (let turn : base + (labels_before us d k (length u) + 1) ≡ base + labels_before us d k (length u) + 1 = omega arith in turn)

        arrays-same : made.arrays ≡ due.arrays
        arrays-same = fun_ext (λ (x : List ℕ). right.arrays x)

        renamed-same : record made { name = due.name } ≡ due
        renamed-same =
            let jump : made.jump ≡ due.jump = fun_ext jump-same in
            let end : made.end ≡ due.end = fun_ext end-same in
            let start = record made { name = due.name } in
            ap (λ (f : List ℕ → Bool). record start { arrays = f }) arrays-same
            ∙ ap (λ (b : Bool). record start { arrays = due.arrays; copied = b }) right.copied
            ∙ ap (λ (f : ℕ → ℕ). record start { arrays = due.arrays; copied = due.copied; jump = f }) jump
            ∙ ap (λ (f : ℕ → ℕ). record start { arrays = due.arrays; copied = due.copied; jump = due.jump; end = f }) end
            ∙ ap (λ (n : ℕ). record start { arrays = due.arrays; copied = due.copied; jump = due.jump; end = due.end; back = n }) back-same

        -- ---- names

        abbrev whole : List (List ℕ)
        whole = appearing_in u u

        abbrev dummy_place : List ℕ → ℕ
        dummy_place x = position_or_len (bytes_eq x) (dummies_of u)

        new-same : (x : List ℕ) → renamed new_names x (Some (new_name us k x)) ≡ name_for us (stands_for us k arguments x)
        new-same x = ⊎_elim
            (λ (dummy : nat_lt (dummy_place x) (length (dummies_of u)) ≡ true).
            let inside : dummy_place x < length (dummies_of u) = ltb-true (dummy_place x) (length (dummies_of u)) dummy in
            let found : slice_get arguments (dummy_place x) ≡ Some (get_or arguments (dummy_place x) (entity_of us k x)) = slice_get-get_or arguments (dummy_place x) (entity_of us k x) (omega (arith, as_many, inside)) in
            ap (λ (b : Bool). renamed new_names x (Some (if b then Argument (dummy_place x) else Fixed (name_for us (entity_of us k x))))) dummy
            ∙ ap (or_itself x) (slice_get-map (name_for us) arguments (dummy_place x) ∙ ap (option_map (name_for us)) found)
            ∙ sym (ap (λ (o : Option Entity). name_for us (entity_at (entity_of us k x) o)) found))
            (λ (other : nat_lt (dummy_place x) (length (dummies_of u)) ≡ false).
            let past : length (dummies_of u) ≤ dummy_place x = ltb-false (dummy_place x) (length (dummies_of u)) other in
            let none : slice_get arguments (dummy_place x) ≡ None = slice_get_past arguments (dummy_place x) (omega (arith, as_many, past)) in
            ap (λ (b : Bool). renamed new_names x (Some (if b then Argument (dummy_place x) else Fixed (name_for us (entity_of us k x))))) other
            ∙ sym (ap (λ (o : Option Entity). name_for us (entity_at (entity_of us k x) o)) none))
            (cases_Bool (nat_lt (dummy_place x) (length (dummies_of u))))

        positive : (k == 0) ≡ false → 0 < k
        positive no_main = ⊎_elim (λ (e : k ≡ 0). let same : (k == 0) ≡ true = eq-eqb k 0 e in absurd cc) (λ (ne : k ≢ 0). omega (arith, ne)) (cases_eq k 0)

        name-main : k ≡ 0 → (x : List ℕ) → made.name x ≡ x
        name-main zeroth x = ap (renamed new_names x) (right.main zeroth x)

        name-copied : (k == 0) ≡ false → (x : List ℕ) → Contains whole x → made.name x ≡ name_for us (stands_for us k arguments x)
        name-copied copied x appears = ap (renamed new_names x) (right.names (positive copied) x appears) ∙ new-same x

        passed-main : k ≡ 0 → (x : List ℕ) → name_for us (stands_for us k arguments x) ≡ x
        passed-main zeroth x =
            let none : slice_get arguments (dummy_place x) ≡ None = ap (λ (xs : List Entity). slice_get xs (dummy_place x)) (main zeroth) in
            ap (λ (o : Option Entity). name_for us (entity_at (entity_of us k x) o)) none
            ∙ ap (λ (n : ℕ). name_for us (entity_of us n x)) zeroth
            ∙ main-own us x

        passed-same : (x : List ℕ) → Contains whole x → made.name x ≡ name_for us (stands_for us k arguments x)
        passed-same x appears = ⊎_elim
            (λ (zeroth : (k == 0) ≡ true). let e : k ≡ 0 = eqb-true k 0 zeroth in name-main e x ∙ sym (passed-main e x))
            (λ (copied : (k == 0) ≡ false). name-copied copied x appears)
            (cases_Bool (k == 0))

        all-passed : (xs : List (List ℕ)) → Within whole xs → map made.name xs ≡ map (name_for us) (map (stands_for us k arguments) xs)
        all-passed [] within = refl
        all-passed (x ∷ xs) within =
            ap (λ (y : List ℕ). y ∷ map made.name xs) (passed-same x (within x (0, omega arith, refl)))
            ∙ ap (λ (ys : List (List ℕ)). name_for us (stands_for us k arguments x) ∷ ys) (all-passed xs (λ y is_in. within y (Contains-append_right (x ∷ []) xs y is_in)))

        -- what depends on the change alone
        same-by : {A : Type 0} (F : Change → A) → (made.copied ≡ true → ((x : List ℕ) → Contains whole x → made.name x ≡ due.name x) → F made ≡ F (record made { name = due.name })) → F made ≡ F due
        same-by F agree = ⊎_elim
            (λ (zeroth : (k == 0) ≡ true).
            let names : made.name ≡ due.name = fun_ext (λ (x : List ℕ). name-main (eqb-true k 0 zeroth) x ∙ sym (ap (λ (b : Bool). if b then x else name_for us (stands_for us k arguments x)) zeroth)) in
            ap (λ (f : List ℕ → List ℕ). F (record made { name = f })) names ∙ ap F renamed-same)
            (λ (copied : (k == 0) ≡ false).
            agree (right.copied ∙ ap not copied) (λ x appears. name-copied copied x appears ∙ sym (ap (λ (b : Bool). if b then x else name_for us (stands_for us k arguments x)) copied)) ∙ ap F renamed-same)
            (cases_Bool (k == 0))

        stmt-same : (s : Stmt) → Within whole (appearing_here (is_array u) s) → changed_stmt made s ≡ changed_stmt due s
        stmt-same s within = same-by (λ (c : Change). changed_stmt c s) (λ copied same. stmt-alike made due.name copied s (λ x is_in. same x (within x (subst (λ (f : List ℕ → Bool). Contains (appearing_here f s) x) arrays-same is_in))))

        expr-same : (e : RawExpr) → Within whole (names_in (is_array u) e) → changed made e ≡ changed due e
        expr-same e within = same-by (λ (c : Change). changed c e) (λ copied same. expr-alike made due.name copied e (λ x is_in. same x (within x (subst (λ (f : List ℕ → Bool). Contains (names_in f e) x) arrays-same is_in))))

        opening-same : (m line : ℕ) (guard : Option RawExpr) → ((e : RawExpr) → guard ≡ Some e → Within whole (names_in (is_array u) e)) → opening made m line guard ≡ opening due m line guard
        opening-same m line None within = refl
        opening-same m line (Some e) within = ap (λ (x : RawExpr). bare m line Continue ∷ bare 0 line (BlockIf x) ∷ []) (expr-same e (within e refl))

        -- ---- statements

        -- copies of what the unit can call
        module _ (tables : List UnitTable) (inner : (g : ℕ) (passed : List Entity) (m : ℕ) → height g < height k → 0 < g → length passed ≡ length (dummies_of (unit_at us g)) → m + count_at counts g < limit → put_copy us counts tables d g (map (name_for us) passed) m ≡ copy us d g passed m) (subs : (name : List ℕ) → 0 < unit_of us name) where
          abbrev context : Context
          context = record { depth = d; unit = k; arguments = arguments; base = base }

          abbrev Stands : Labelled → Type 0
          Stands s = Within whole (appearing_here (is_array u) s.stmt)

          put-call : (m : ℕ) (s : Labelled) (call : Call) → call_in s.stmt ≡ Some call → calls_below height us k (Some call) ≡ true → passes us (Some call) ≡ true → Stands s → m + count_at counts (unit_of us call.name) < limit
              → put_by us counts (put_copy us counts tables d) made m s (Some call) ≡ piece_by (copy us d) us context m s (Some call)
          put-call m s call called below fits stands less =
              let g = unit_of us call.name in
              let passed = map (stands_for us k arguments) call.arguments in
              let guard = guard_of s.stmt in
              let under : height g < height k = ltb-true (height g) (height k) below in
              let enough : count_at counts g < limit = omega (arith, less) in
              let counted : count_at counts g ≡ body_labels us d g = count-exact d g (omega (arith, under, deep)) enough in
              let close : ℕ → List Labelled = λ n. closing (m + n + 1) s.line guard in
              let names : map made.name call.arguments ≡ map (name_for us) passed = all-passed call.arguments (λ x is_in. stands x (call-names (is_array u) s.stmt call called x is_in)) in
              let as_long : length passed ≡ length (dummies_of (unit_at us g)) = length-map call.arguments (stands_for us k arguments) ∙ eqb-true (length call.arguments) (length (dummies_of (unit_at us g))) fits in
              ap (λ (front : List Labelled). front ++ (put_copy us counts tables d g (map made.name call.arguments) m ++ close (count_at counts g))) (opening-same m s.line guard (λ e is_guard x is_in. stands x (guard-names (is_array u) s.stmt e is_guard x is_in)))
              ∙ ap (λ (xs : List (List ℕ)). opening due m s.line guard ++ (put_copy us counts tables d g xs m ++ close (count_at counts g))) names
              ∙ ap (λ (body : List Labelled). opening due m s.line guard ++ (body ++ close (count_at counts g))) (inner g passed m under (subs call.name) as_long less)
              ∙ ap (λ (n : ℕ). opening due m s.line guard ++ (copy us d g passed m ++ close n)) counted
              ∙ sym (around-put due m (m + body_labels us d g + 1) s.line guard (copy us d g passed m))

          put-by : (m : ℕ) (s : Labelled) (call : Option Call) → call_in s.stmt ≡ call → calls_below height us k call ≡ true → passes us call ≡ true → Stands s → m + labels_by (count_at counts) us s.label call < limit + 1
              → put_by us counts (put_copy us counts tables d) made m s call ≡ piece_by (copy us d) us context m s call
          put-by m s None called below fits stands less = ap (λ (x : Stmt). bare (if s.label == 0 then 0 else m) s.line x ∷ []) (stmt-same s.stmt stands)
          put-by m s (Some call) called below fits stands less = put-call m s call called below fits stands (omega (arith, less))

          piece-by : (kept : Bool) (m : ℕ) (s : Labelled) → lower s ≡ true → passes us (call_in s.stmt) ≡ true → Stands s → m + (if kept then labels_by (count_at counts) us s.label (call_in s.stmt) else 0) < limit + 1
              → (if kept then put_by us counts (put_copy us counts tables d) made m s (call_in s.stmt) else []) ≡ (if kept then piece_by (copy us d) us context m s (call_in s.stmt) else [])
          piece-by true m s below fits stands less = put-by m s (call_in s.stmt) refl below fits stands less
          piece-by false m s below fits stands less = refl

          pub pieces-same : (before : ℕ) (stmts : List Labelled) → list_all lower stmts ≡ true → list_all (λ s. passes us (call_in s.stmt)) stmts ≡ true → Within whole (appearing_in u stmts) → base + before + labels_of us counts k stmts < limit
              → put_pieces us counts (put_copy us counts tables d) k made (base + before) stmts ≡ pieces (copy us d) us context before stmts
          pieces-same before [] all fit stand less = refl
          pieces-same before (s ∷ rest) all fit stand less =
              let both : (lower s ≡ true) × (list_all lower rest ≡ true) = and_parts (lower s) (list_all lower rest) all in
              let fits : (passes us (call_in s.stmt) ≡ true) × (list_all (λ (a : Labelled). passes us (call_in a.stmt)) rest ≡ true) = and_parts (passes us (call_in s.stmt)) (list_all (λ (a : Labelled). passes us (call_in a.stmt)) rest) fit in
              let split : Within whole (appearing_here (is_array u) s.stmt ++ appearing_in u rest) = λ x is_in. stand x (subst (λ (xs : List (List ℕ)). Contains xs x) (sym (flat_map-cons (λ (a : Labelled). appearing_here (is_array u) a.stmt) s rest)) is_in) in
              let sum = sum_by-cons here s rest in
              let m = base + before + 1 in
              let next : base + before + here s ≡ base + (before + here s) = omega arith in
              let counted : here s ≡ labels (body_labels us d) us k s = here-same s both.0 (omega (arith, sum, less)) in
              let first : put_piece us counts (put_copy us counts tables d) k made m s ≡ piece (copy us d) us context m s =
              piece-by (is_kept k s.stmt) m s both.0 fits.0 (λ x is_in. split x (Contains-append_left (appearing_here (is_array u) s.stmt) (appearing_in u rest) x is_in)) (omega (arith, sum, less))
              in
              let after : put_pieces us counts (put_copy us counts tables d) k made (base + (before + here s)) rest ≡ pieces (copy us d) us context (before + here s) rest =
              pieces-same (before + here s) rest both.1 fits.1 (λ x is_in. split x (Contains-append_right (appearing_here (is_array u) s.stmt) (appearing_in u rest) x is_in)) (omega (arith, sum, less))
              in
              ap (λ (front : List Labelled). front ++ put_pieces us counts (put_copy us counts tables d) k made (base + before + here s) rest) first
              ∙ ap (λ (n : ℕ). piece (copy us d) us context m s ++ put_pieces us counts (put_copy us counts tables d) k made n rest) next
              ∙ ap (λ (back : List Labelled). piece (copy us d) us context m s ++ back) after
              ∙ ap (λ (n : ℕ). piece (copy us d) us context m s ++ pieces (copy us d) us context (before + n) rest) counted

-- ---- all units

module _ (us : List (List Labelled)) (limit : ℕ) (counts : List ℕ) (tables : List UnitTable) (height : ℕ → ℕ) (is : IsHeight us height) (few : (k : ℕ) → height k ≤ length us) (are : MakeCopies us limit counts tables) where
  room : (k base : ℕ) → base + count_at counts k < limit → base + labels_of us counts k (unit_at us k) < limit
  room k base less =
      let n = labels_of us counts k (unit_at us k) in
      let e = are.counted k in
      let same : min n limit ≡ n = min-less n limit (omega (arith, e, less)) in
      omega (arith, e, same, less)

  abbrev context_of : (d k : ℕ) → List Entity → ℕ → Context
  context_of d k arguments base = record { depth = d; unit = k; arguments = arguments; base = base }

  past-end : (i : ℕ) → slice_get tables i ≡ None → length us ≤ i
  past-end i none = ⊎_elim
      (λ (inside : nat_lt i (length us) ≡ true).
      let below : i < length tables = (let a = are.as_many in let b = ltb-true i (length us) inside in omega (arith, a, b)) in
      absurd (some-inside tables i below none))
      (λ (outside : nat_lt i (length us) ≡ false). ltb-false i (length us) outside)
      (cases_Bool (nat_lt i (length us)))

  unit-same : (d k : ℕ) (arguments : List Entity) (base : ℕ) → height k < suc d → (k ≡ 0 → arguments ≡ []) → length arguments ≡ length (dummies_of (unit_at us k)) → base + count_at counts k < limit
      → ((g : ℕ) (passed : List Entity) (m : ℕ) → height g < height k → 0 < g → length passed ≡ length (dummies_of (unit_at us g)) → m + count_at counts g < limit → put_copy us counts tables d g (map (name_for us) passed) m ≡ copy us d g passed m)
      → (found : Option UnitTable) → slice_get tables k ≡ found → put_unit us counts (put_copy us counts tables d) k (map (name_for us) arguments) base found ≡ pieces (copy us d) us (context_of d k arguments base) 0 (unit_at us k)
  unit-same d k arguments base deep main as_many less inner None found =
      let no_unit : unit_at us k ≡ [] = ap unit_or_none (slice_get_past us k (past-end k found)) in
      sym (ap (pieces (copy us d) us (context_of d k arguments base) 0) no_unit)
  unit-same d k arguments base deep main as_many less inner (Some table) found =
      let whole = room k base less in
      let start : base ≡ base + 0 = omega arith in
      ap (λ (n : ℕ). put_pieces us counts (put_copy us counts tables d) k (change_by table (map (name_for us) arguments) base) n (unit_at us k)) start
      ∙ pieces-same us limit counts height is are.exact few d k (omega (arith, deep)) (omega (arith, whole)) table (are.right k table found) arguments as_many main base tables inner are.subs 0 (unit_at us k) (is k) (are.fit k) (λ x is_in. is_in) (omega (arith, whole))

  pub copy-same : (d k : ℕ) (arguments : List Entity) (base : ℕ) → height k < d → (k ≡ 0 → arguments ≡ []) → length arguments ≡ length (dummies_of (unit_at us k)) → base + count_at counts k < limit → put_copy us counts tables d k (map (name_for us) arguments) base ≡ copy us d k arguments base
  copy-same zero k arguments base deep main as_many less = absurd (omega (arith, deep))
  copy-same (suc d) k arguments base deep main as_many less =
      unit-same d k arguments base deep main as_many less
      (λ g passed m under positive as_long fits. copy-same d g passed m (omega (arith, under, deep)) (λ zeroth. absurd (omega (arith, zeroth, positive))) as_long fits)
      (slice_get tables k) refl

  -- the main program's pieces, before which so many labels stand
  pub main-same : (table : UnitTable) → slice_get tables 0 ≡ Some table → dummies_of (unit_at us 0) ≡ [] → labels_of us counts 0 (unit_at us 0) < limit → (before : ℕ) (stmts : List Labelled) → list_all (λ s. calls_below height us 0 (call_in s.stmt)) stmts ≡ true → list_all (λ s. passes us (call_in s.stmt)) stmts ≡ true
      → Within (appearing_in (unit_at us 0) (unit_at us 0)) (appearing_in (unit_at us 0) stmts) → before + labels_of us counts 0 stmts < limit
      → put_pieces us counts (put_copy us counts tables (length us)) 0 (change_by table [] 0) before stmts ≡ pieces (copy us (length us)) us (record { depth = length us; unit = 0; arguments = []; base = 0 }) before stmts
  main-same table found dummies whole before stmts all fits stand less =
      let start : before ≡ 0 + before = omega arith in
      ap (λ (n : ℕ). put_pieces us counts (put_copy us counts tables (length us)) 0 (change_by table [] 0) n stmts) start
      ∙ pieces-same us limit counts height is are.exact few (length us) 0 (few 0) whole table (are.right 0 table found) [] (sym (ap length dummies)) (λ zeroth. refl) 0 tables
      (λ g passed m under positive as_long fitting. copy-same (length us) g passed m (let most = few 0 in omega (arith, under, most)) (λ zeroth. absurd (omega (arith, zeroth, positive))) as_long fitting)
      are.subs before stmts all fits stand (omega (arith, less))
