-- A flat program in which no candidate is shared: no temporary stands for anything in it, and nothing is assigned to one.
use Rattle.std.proofs.Common.{◌≡◌, ℕ, zero, suc, ◌+◌, ◌<◌, ◌≤◌, All, ⊎_elim, Bool, true, false, not, ◌&&◌, List, [], ◌∷◌, ◌++◌, get_or, length, map, take, filter, fold, Option, Some, None, refl, sym, ap, subst, ◌∙◌, arith}
use Rattle.std.specs.Prelude.{slice_get, if◌then◌else◌}
use Rattle.std.specs.List.{range_with_len}
use Rattle.std.proofs.lemmas.Bool.{cases_Bool, cond-false}
use Rattle.std.proofs.lemmas.List.{take_all, take_more}
use Rattle.std.proofs.lemmas.List.Elements.{All-head, All-tail, All-weaker}
use Rattle.std.proofs.lemmas.Option.{slice_get-get_or}
use Rattle.list_laws.specs.Member.{Member}
use Rattle.list_laws.proofs.Members.{Member-filter, Member-range}
use Rattle.op_table.specs.declared.Op.{Op}
use Rattle.cfg_build.specs.Flow.{flow, piece_at}
use Rattle.f77_tree.specs.declared.expressions.Access.{Access}
use Rattle.f77_tree.specs.declared.expressions.Expr.{Expr, Apply, Read, Expr-F, map-Expr, roll-Expr}
use Rattle.f77_tree.specs.declared.expressions.Expr.TheFolds.{ind-Expr}
use Rattle.f77_tree.specs.declared.expressions.Expr.TheVariants.{rolls-Const, rolls-Truth, rolls-Input, rolls-Apply, rolls-Read}
use Rattle.f77_tree.specs.declared.programs.Item.{Item}
use Rattle.f77_tree.specs.declared.programs.Item.TheVariants.{Value, Chars}
use Rattle.f77_tree.specs.declared.programs.Program.{Program}
use Rattle.flat_programs.specs.declared.statements.Flat.{Flat}
use Rattle.flat_programs.specs.declared.statements.Flat.TheVariants.{Mark, Assignment, Output, LogicalIf, ArithmeticIf, ComputedGoTo, DoLoop, Jump, Finish}
use Rattle.flat_programs.specs.declared.statements.FlatLine.{FlatLine}
use Rattle.flat_programs.specs.Executables.{first_of}
use Rattle.redundancy.specs.Available.{Availability}
use Rattle.redundancy.specs.Computed.{computed_by}
use Rattle.simplified_forms.specs.Items.{own_piece}
use Rattle.shared_forms.specs.Numbered.{name_alone, number_of}
use Rattle.shared_forms.specs.Shared.{computed, due, is_available, is_shared, kept_value, once, replaced, replaced_access, replaced_in, replaced_item, shared, shared_flat, shared_lines, temporary, temporary_or}
use Rattle.shared_forms.proofs.NumberLemmas.{number_in-within, numbers_in-below}
use Rattle.shared_forms.proofs.ReplacedLemmas.{replaced-Apply, replaced-Read}
use Rattle.shared_forms.proofs.SharedLineLemmas.{lines_to, lines-next}

none_passes : (test : ℕ → Bool) (ns : List ℕ) → All (λ n. test n ≡ false) ns → filter test ns ≡ []
none_passes test [] none = refl
none_passes test (n ∷ ns) none =
    cond-false (test n) (n ∷ filter test ns) (filter test ns) (All-head (λ m. test m ≡ false) n ns none)
    ∙ none_passes test ns (All-tail (λ m. test m ≡ false) n ns none)

module _ (q : Program) (a : Availability) (none : shared q a (number_of a) ≡ []) where
  unshared : (n : ℕ) → n < length a.candidates → is_shared q a (number_of a) n ≡ false
  unshared n less = ⊎_elim
      (λ (is : is_shared q a (number_of a) n ≡ true).
      let count = length a.candidates in
      let among : Member (shared q a (number_of a)) n = Member-filter (is_shared q a (number_of a)) (range_with_len 0 count) n (Member-range 0 count n (omega arith) (omega (arith, less))) is in
      absurd (subst (λ (ns : List ℕ). Member ns n) none among))
      (λ is. is)
      (cases_Bool (is_shared q a (number_of a) n))

  -- ---- expressions

  abbrev Stays : Expr → Type 0
  Stays e = replaced q a (number_of a) e ≡ e

  or_stays : (e : Expr) (o : Option ℕ) (other : Expr) → number_of a e ≡ o → temporary_or q a (number_of a) o other ≡ other
  or_stays e None other is = refl
  or_stays e (Some n) other is = ap (λ b. if b then Read (name_alone (temporary q a (number_of a) n)) else other) (unshared n (number_in-within a.candidates e n is))

  map_stays : (es : List Expr) → All Stays es → map (replaced q a (number_of a)) es ≡ es
  map_stays [] all = refl
  map_stays (e ∷ es) all =
      ap (λ (x : Expr). x ∷ map (replaced q a (number_of a)) es) (All-head Stays e es all)
      ∙ ap (λ (xs : List Expr). e ∷ xs) (map_stays es (All-tail Stays e es all))

  element_stays : (access : Access) → All Stays access.subs → Stays (Read access)
  element_stays access all =
      sym (replaced-Read q a (Read access) access refl)
      ∙ ap (λ (es : List Expr). Read (record { name = access.name; subs = es })) (map_stays access.subs all)

  operation_stays : (op : Op) (args : List Expr) → All Stays args → Stays (Apply op args)
  operation_stays op args all =
      replaced-Apply q a op args
      ∙ or_stays (Apply op args) (number_of a (Apply op args)) (Apply op (map (replaced q a (number_of a)) args)) refl
      ∙ ap (Apply op) (map_stays args all)

  all_mapped : {X : Type 0} (f : X → Expr) → ((x : X) → Stays (f x)) → (xs : List X) → All Stays (map f xs)
  all_mapped f each [] k d lt = absurd (omega (arith, lt))
  all_mapped f each (x ∷ xs) zero d lt = each x
  all_mapped f each (x ∷ xs) (suc k) d lt = all_mapped f each xs k d (omega (arith, lt))

  step : {X Y : Type 0} (f : X → Expr) (g : Y → Access) → ((x : X) → Stays (f x)) → ((y : Y) → All Stays (g y).subs) → (z : Expr-F X Y) → Stays (roll-Expr (map-Expr X Y Expr Access f g z))
  step f g each subs (Expr-F.Const z) = subst Stays (sym (rolls-Const z)) refl
  step f g each subs (Expr-F.Truth b) = subst Stays (sym (rolls-Truth b)) refl
  step f g each subs Expr-F.Input = subst Stays (sym rolls-Input) refl
  step f g each subs (Expr-F.Read y) = subst Stays (sym (rolls-Read (g y))) (element_stays (g y) (subs y))
  step f g each subs (Expr-F.Apply op args) = subst Stays (sym (rolls-Apply op (map f args))) (operation_stays op (map f args) (all_mapped f each args))

  replaced_stays : (e : Expr) → Stays e
  replaced_stays =
      ind-Expr Stays (λ x. All Stays x.subs)
      (λ x y is. subst (λ z. Stays (roll-Expr z)) is (step (λ e. e.0) (λ e. e.0) (λ e. e.1) (λ e. e.1) y))
      (λ x y is. subst (λ z. All Stays z.subs) is (all_mapped (λ e. e.0) (λ e. e.1) y.subs))

  -- ---- statements

  access_stays : (access : Access) → replaced_access q a (number_of a) access ≡ access
  access_stays access = ap (λ (es : List Expr). let made : Access = record { name = access.name; subs = es } in made) (map_stays access.subs (λ i d less. replaced_stays (get_or access.subs i d)))

  items_stay : (items : List Item) → map (replaced_item q a (number_of a)) items ≡ items
  items_stay [] = refl
  items_stay (Value e ∷ items) =
      ap (λ (x : Expr). Value x ∷ map (replaced_item q a (number_of a)) items) (replaced_stays e)
      ∙ ap (λ (xs : List Item). Value e ∷ xs) (items_stay items)
  items_stay (Chars text ∷ items) = ap (λ (xs : List Item). Chars text ∷ xs) (items_stay items)

  statement_stays : (stmt : Flat) → replaced_in q a (number_of a) stmt ≡ stmt
  statement_stays Mark = refl
  statement_stays (Assignment target value) =
      ap (λ (x : Access). Assignment x (replaced q a (number_of a) value)) (access_stays target)
      ∙ ap (Assignment target) (replaced_stays value)
  statement_stays (Output items) = ap Output (items_stay items)
  statement_stays (LogicalIf cond target) = ap (λ (x : Expr). LogicalIf x target) (replaced_stays cond)
  statement_stays (ArithmeticIf value below at above) = ap (λ (x : Expr). ArithmeticIf x below at above) (replaced_stays value)
  statement_stays (ComputedGoTo value targets) = ap (λ (x : Expr). ComputedGoTo x targets) (replaced_stays value)
  statement_stays (DoLoop end var first last step) =
      ap (λ (x : Expr). DoLoop end var x (replaced q a (number_of a) last) (replaced q a (number_of a) step)) (replaced_stays first)
      ∙ ap (λ (x : Expr). DoLoop end var first x (replaced q a (number_of a) step)) (replaced_stays last)
      ∙ ap (λ (x : Expr). DoLoop end var first last x) (replaced_stays step)
  statement_stays (Jump target) = refl
  statement_stays Finish = refl

  -- ---- lines

  none_due : (k : ℕ) → due q a (number_of a) k ≡ []
  none_due k =
      let ns : List ℕ = computed q a (number_of a) k in
      let test : ℕ → Bool = λ n. is_shared q a (number_of a) n && not (is_available q a (number_of a) k n) in
      let below : All (λ n. n < length a.candidates) ns = numbers_in-below a.candidates (computed_by q.execs (piece_at (flow q.execs).pieces (own_piece q k))) in
      ap (fold (once q a (number_of a)) [])
      (none_passes test ns (All-weaker (λ n. n < length a.candidates) (λ n. test n ≡ false) (λ n less. ap (λ b. b && not (is_available q a (number_of a) k n)) (unshared n less)) ns below))

  line_stays : (first : ℕ) (l : FlatLine) → shared_lines q a (number_of a) first (Some l) ≡ l ∷ []
  line_stays first l =
      ap (λ (ns : List ℕ). map (kept_value q a (number_of a) l.line) ns ++ record { line = l.line; stmt = replaced_in q a (number_of a) l.stmt } ∷ []) (none_due first)
      ∙ ap (λ (stmt : Flat). record { line = l.line; stmt = stmt } ∷ []) (statement_stays l.stmt)

  lines_stay : (flat : List FlatLine) (k : ℕ) → k ≤ length flat → take k flat ≡ lines_to q a flat k
  lines_stay flat zero most = refl
  lines_stay flat (suc k) most =
      let mark : FlatLine = record { line = 0; stmt = Mark } in
      let l = get_or flat k mark in
      let e : k + 1 ≡ suc k = omega arith in
      let at : slice_get flat k ≡ Some l = slice_get-get_or flat k mark (omega (arith, most)) in
      let here : l ∷ [] ≡ shared_lines q a (number_of a) (first_of flat k) (slice_get flat k) = sym (ap (shared_lines q a (number_of a) (first_of flat k)) at ∙ line_stays (first_of flat k) l) in
      subst (λ n. take n flat ≡ lines_to q a flat n) e
      (lines-next q a flat k (take k flat) (take (k + 1) flat) (l ∷ []) (lines_stay flat k (omega (arith, most))) here (take_more flat k mark (omega (arith, most))))

  -- the statements are those of the shared form
  pub flat_stays : (flat : List FlatLine) → flat ≡ shared_flat q a (number_of a) flat
  flat_stays flat = sym (take_all (length flat) flat (omega arith)) ∙ lines_stay flat (length flat) (omega arith)
