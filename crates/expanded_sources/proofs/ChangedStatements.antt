-- A statement of a unit, changed, is a tree where what stands in for it in the unit is one of the right kinds.
use Rattle.std.proofs.Common.{◌≡◌, ℕ, zero, suc, ◌<◌, ◌≤◌, ◌&&◌, Bool, true, false, not, List, [], ◌∷◌, ◌++◌, length, map, flat_map, All, Option, Some, None, refl, sym, ap, subst, ◌∙◌, arith}
use Rattle.std.specs.List.{list_all}
use Rattle.std.specs.Option.{is_some}
use Rattle.std.proofs.lemmas.Bool.{and_from, and_parts}
use Rattle.std.proofs.lemmas.List.{length-map}
use Rattle.f77_tree.specs.Name.{is_name}
use Rattle.f77_tree.specs.declared.declarations.Kind.{Kind}
use Rattle.f77_tree.specs.declared.declarations.Kind.TheVariants.{Integer, Logical}
use Rattle.f77_tree.specs.declared.programs.NameInfo.{NameInfo}
use Rattle.f77_tree.specs.declared.statements.RawExpr.{RawExpr}
use Rattle.f77_tree.specs.declared.statements.RawItem.{RawItem}
use Rattle.f77_tree.specs.declared.statements.RawItem.TheVariants.{Value, Chars}
use Rattle.f77_tree.specs.declared.statements.Stmt.{Stmt, more_of-Stmt}
use Rattle.f77_tree.specs.declared.statements.Stmt.TheVariants.{Assign, Print, Take, Continue, Stop, GoTo, PickGoTo, SignIf, ThenIf, ThenIf', BlockIf, ElseIf, Do, Sub, CallTo, Back}
use Rattle.f77_tree.proofs.AllLemmas.{All-cons, All-first, All-nil, All-rest}
use Rattle.layout_rules.specs.Appearances.{appearing, names_if_any, names_in, names_in_item}
use Rattle.layout_rules.specs.Declarations.{declarators, groups_of, inits_of, parts_of}
use Rattle.layout_rules.specs.Labels.{IsLabel, jumps, used}
use Rattle.layout_rules.specs.ReadDeclarations.{IsReadDecl, IsReadDeclaration, IsReadGroup, IsReadInit, IsReadPart}
use Rattle.layout_rules.specs.ReadExpressions.{IsReading}
use Rattle.layout_rules.specs.ReadStatements.{IsReadItem, IsReadStatement, IsReadStep, is_guarded}
use Rattle.layout_rules.specs.StatementTrees.{IsTree}
use Rattle.layout_rules.specs.Tables.{has_simple_inner, is_simple}
use Rattle.layout_rules.specs.Types.{is_array_in, is_item, is_kind, is_kind_of_target, is_of_kind, is_step, is_target, is_variable, is_well_kinded, kind_in, kind_named}
use Rattle.layout_rules.proofs.NamesOf.{appearing-ThenIf}
use Rattle.control_structure.proofs.OwnExecutables.{guarded_simple}
use Rattle.program_units.specs.Copies.{Change, changed, changed_item, changed_step, changed_stmt}
use Rattle.program_units.specs.Units.{call_by, call_in, guard_of, stand_in, stand_in_alone, sub_name}
use Rattle.expanded_sources.proofs.ChangedExpressions.{AreNew, changed-names, changed-reading, some-kind, stays}
use Rattle.expanded_sources.proofs.Labelling.{HasLabels}
use Rattle.expanded_sources.proofs.ReadRows.{AreNames, joined, parted}

-- ---- statements that declare nothing

none-declared : (stmt : Stmt) → declarators stmt ≡ [] → parts_of stmt ≡ [] → groups_of stmt ≡ [] → inits_of stmt ≡ [] → IsReadDeclaration stmt
none-declared stmt decls parts groups inits = record {
  decls = subst (λ xs. All IsReadDecl xs) (sym decls) (All-nil IsReadDecl);
  parts = subst (λ xs. All IsReadPart xs) (sym parts) (All-nil IsReadPart);
  groups = subst (λ xs. All IsReadGroup xs) (sym groups) (All-nil IsReadGroup);
  inits = subst (λ xs. All IsReadInit xs) (sym inits) (All-nil IsReadInit);
}

used-jumps : (P : ℕ → Type 0) (stmt : Stmt) → All P (used stmt) → All P (jumps stmt)
used-jumps P (Do label variable first last step) all = All-nil P
used-jumps P _ all = all

-- ---- a condition and the statement after it

from-ThenIf : (e : RawExpr) (stmt : Stmt) → IsReadStatement (ThenIf e stmt) → IsReading e × IsReadStatement stmt × (is_guarded stmt ≡ false)
unfolding Rattle.f77_tree.specs.declared.statements.Stmt.TheBlock.hidden-the_row-Stmt-0 denote.Hole.Carrier.hidden
from-ThenIf e stmt is = is

to-ThenIf : (e : RawExpr) (stmt : Stmt) → IsReading e → IsReadStatement stmt → is_guarded stmt ≡ false → IsReadStatement (ThenIf e stmt)
unfolding Rattle.f77_tree.specs.declared.statements.Stmt.TheBlock.hidden-the_row-Stmt-0 denote.Hole.Carrier.hidden
to-ThenIf e stmt first second third = (first, second, third)

kinds-ThenIf : (names : List NameInfo) (e : RawExpr) (stmt : Stmt) → is_well_kinded names (ThenIf e stmt) ≡ (is_of_kind names Logical e && is_well_kinded names stmt)
unfolding Rattle.f77_tree.specs.declared.statements.Stmt.TheBlock.hidden-the_row-Stmt-0 denote.Hole.Carrier.hidden
kinds-ThenIf names e stmt = refl

used-ThenIf : (e : RawExpr) (stmt : Stmt) → used (ThenIf e stmt) ≡ jumps stmt
unfolding Rattle.f77_tree.specs.declared.statements.Stmt.TheBlock.hidden-the_row-Stmt-0 denote.Hole.Carrier.hidden
used-ThenIf e stmt = refl

declares-ThenIf : (e : RawExpr) (stmt : Stmt) → (declarators (ThenIf e stmt) ≡ []) × (parts_of (ThenIf e stmt) ≡ []) × (groups_of (ThenIf e stmt) ≡ []) × (inits_of (ThenIf e stmt) ≡ [])
unfolding Rattle.f77_tree.specs.declared.statements.Stmt.TheBlock.hidden-the_row-Stmt-0 denote.Hole.Carrier.hidden
declares-ThenIf e stmt = (refl, refl, refl, refl)

takes-ThenIf : (e : RawExpr) (stmt : Stmt) (targets : List RawExpr) → ThenIf e stmt ≡ Take targets → ⊥
unfolding Rattle.f77_tree.specs.declared.statements.Stmt.TheBlock.hidden-the_row-Stmt-0 denote.Hole.Carrier.hidden
takes-ThenIf e stmt targets is = cc

-- ---- what is known of a statement without a condition, and what is made of it

record IsAccepted (c : Change) (names : List NameInfo) (stmt : Stmt) : Type 0 where
  reads : IsReadStatement stmt
  kinds : is_well_kinded names stmt ≡ true
  new : AreNew c (appearing (stays c) stmt)

record IsMade (stmt : Stmt) : Type 0 where
  reads : IsReadStatement stmt
  unguarded : is_guarded stmt ≡ false
  labels : All IsLabel (used stmt)
  named : (arrays : List ℕ → Bool) → AreNames (appearing arrays stmt)
  simple : is_simple stmt ≡ true
  declares : IsReadDeclaration stmt

pub positive : (n : ℕ) → (n ≡ 0 → ⊥) → 0 < n
positive zero is = absurd (is refl)
positive (suc n) is = omega arith

-- ---- parts of statements

module _ (c : Change) (names : List NameInfo) (tables : (x : List ℕ) → c.arrays x ≡ is_array_in names x) where
  reading : (e : RawExpr) → IsReading e → is_some (kind_in names e) ≡ true → IsReading (changed c e)
  reading = changed-reading c names tables

  asked : (kind : Kind) (e : RawExpr) → is_of_kind names kind e ≡ true → is_some (kind_in names e) ≡ true
  asked kind e is = some-kind kind (kind_in names e) is

  item-reading : (item : RawItem) → IsReadItem item → is_item names item ≡ true → IsReadItem (changed_item c item)
  item-reading (Value e) is some = reading e is some
  item-reading (Chars text) is some = is

  items-reading : (items : List RawItem) → All IsReadItem items → list_all (is_item names) items ≡ true → All IsReadItem (map (changed_item c) items)
  items-reading [] all some = All-nil IsReadItem
  items-reading (item ∷ items) all some =
      let parts = and_parts (is_item names item) (list_all (is_item names) items) some in
      All-cons IsReadItem (changed_item c item) (map (changed_item c) items) (item-reading item (All-first IsReadItem item items all) parts.0) (items-reading items (All-rest IsReadItem item items all) parts.1)

  targets-reading : (targets : List RawExpr) → All IsReading targets → list_all (is_target names) targets ≡ true → All IsReading (map (changed c) targets)
  targets-reading [] all some = All-nil IsReading
  targets-reading (e ∷ targets) all some =
      let parts = and_parts (is_target names e) (list_all (is_target names) targets) some in
      let target = and_parts (is_variable names e) (is_some (kind_in names e)) parts.0 in
      All-cons IsReading (changed c e) (map (changed c) targets) (reading e (All-first IsReading e targets all) target.1) (targets-reading targets (All-rest IsReading e targets all) parts.1)

  step-reading : (step : Option RawExpr) → IsReadStep step → is_step names step ≡ true → IsReadStep (changed_step c step)
  step-reading None is some = tt
  step-reading (Some e) is some = reading e is (asked Integer e some)

  both-some : (target value : Option Kind) → is_kind_of_target target value ≡ true → (is_some target ≡ true) × (is_some value ≡ true)
  both-some None value is = let e : false ≡ true = is in absurd cc
  both-some (Some kind) value is = (refl, some-kind kind value is)

  module _ (arrays : List ℕ → Bool) where
    named : (e : RawExpr) → is_some (kind_in names e) ≡ true → AreNew c (names_in (stays c) e) → AreNames (names_in arrays (changed c e))
    named = changed-names c names tables arrays

    split : (xs ys : List (List ℕ)) → AreNew c (xs ++ ys) → AreNew c xs × AreNew c ys
    split = parted (λ x. is_name (c.name x))

    item-named : (item : RawItem) → is_item names item ≡ true → AreNew c (names_in_item (stays c) item) → AreNames (names_in_item arrays (changed_item c item))
    item-named (Value e) some new = named e some new
    item-named (Chars text) some new = refl

    items-named : (items : List RawItem) → list_all (is_item names) items ≡ true → AreNew c (flat_map (names_in_item (stays c)) items) → AreNames (flat_map (names_in_item arrays) (map (changed_item c) items))
    items-named [] some new = refl
    items-named (item ∷ items) some new =
        let parts = and_parts (is_item names item) (list_all (is_item names) items) some in
        let both = split (names_in_item (stays c) item) (flat_map (names_in_item (stays c)) items) new in
        joined (names_in_item arrays (changed_item c item)) (flat_map (names_in_item arrays) (map (changed_item c) items)) (item-named item parts.0 both.0) (items-named items parts.1 both.1)

    targets-named : (targets : List RawExpr) → list_all (is_target names) targets ≡ true → AreNew c (flat_map (names_in (stays c)) targets) → AreNames (flat_map (names_in arrays) (map (changed c) targets))
    targets-named [] some new = refl
    targets-named (e ∷ targets) some new =
        let parts = and_parts (is_target names e) (list_all (is_target names) targets) some in
        let target = and_parts (is_variable names e) (is_some (kind_in names e)) parts.0 in
        let both = split (names_in (stays c) e) (flat_map (names_in (stays c)) targets) new in
        joined (names_in arrays (changed c e)) (flat_map (names_in arrays) (map (changed c) targets)) (named e target.1 both.0) (targets-named targets parts.1 both.1)

    step-named : (step : Option RawExpr) → is_step names step ≡ true → AreNew c (names_if_any (stays c) step) → AreNames (names_if_any arrays (changed_step c step))
    step-named None some new = refl
    step-named (Some e) some new = named e (asked Integer e some) new

  -- ---- a statement that may stand after a condition

  one-label : (label : ℕ) → IsLabel label → All IsLabel (label ∷ [])
  one-label label is = All-cons IsLabel label [] is (All-nil IsLabel)

  module _ (known : HasLabels c) where
    all-labels : (labels : List ℕ) → All IsLabel (map c.jump labels)
    all-labels [] = All-nil IsLabel
    all-labels (label ∷ labels) = All-cons IsLabel (c.jump label) (map c.jump labels) (known.jump label) (all-labels labels)

    go-to : (label : ℕ) → IsLabel label → IsMade (GoTo label)
    go-to label is = record { reads = tt; unguarded = refl; labels = one-label label is; named = λ arrays. refl; simple = refl; declares = none-declared (GoTo label) refl refl refl refl }

    simple-made : (stmt : Stmt) → is_simple (stand_in_alone stmt) ≡ true → call_by stmt ≡ None → IsAccepted c names (stand_in_alone stmt) → IsMade (changed_stmt c stmt)
    simple-made (Assign target value) simple none is =
        let kinds = and_parts (is_variable names target) (is_kind_of_target (kind_in names target) (kind_in names value)) is.kinds in
        let some = both-some (kind_in names target) (kind_in names value) kinds.1 in
        record {
          reads = (reading target is.reads.0 some.0, reading value is.reads.1 some.1);
          unguarded = refl;
          labels = All-nil IsLabel;
          named = λ arrays. let both = split arrays (names_in (stays c) target) (names_in (stays c) value) is.new in joined (names_in arrays (changed c target)) (names_in arrays (changed c value)) (named arrays target some.0 both.0) (named arrays value some.1 both.1);
          simple = refl;
          declares = none-declared (Assign (changed c target) (changed c value)) refl refl refl refl;
        }
    simple-made (Print items) simple none is = record {
      reads = items-reading items is.reads is.kinds;
      unguarded = refl;
      labels = All-nil IsLabel;
      named = λ arrays. items-named arrays items is.kinds is.new;
      simple = refl;
      declares = none-declared (Print (map (changed_item c) items)) refl refl refl refl;
    }
    simple-made (Take targets) simple none is = record {
      reads = targets-reading targets is.reads is.kinds;
      unguarded = refl;
      labels = All-nil IsLabel;
      named = λ arrays. targets-named arrays targets is.kinds is.new;
      simple = refl;
      declares = none-declared (Take (map (changed c) targets)) refl refl refl refl;
    }
    simple-made Continue simple none is = record { reads = tt; unguarded = refl; labels = All-nil IsLabel; named = λ arrays. refl; simple = refl; declares = none-declared Continue refl refl refl refl }
    simple-made Stop simple none is = record { reads = tt; unguarded = refl; labels = All-nil IsLabel; named = λ arrays. refl; simple = refl; declares = none-declared Stop refl refl refl refl }
    simple-made (GoTo label) simple none is = go-to (c.jump label) (known.jump label)
    simple-made (PickGoTo labels index) simple none is = record {
      reads = (let some = is.reads.0 in omega (arith, some, length-map labels c.jump), reading index is.reads.1 (asked Integer index is.kinds));
      unguarded = refl;
      labels = all-labels labels;
      named = λ arrays. named arrays index (asked Integer index is.kinds) is.new;
      simple = refl;
      declares = none-declared (PickGoTo (map c.jump labels) (changed c index)) refl refl refl refl;
    }
    simple-made (SignIf value negative nought positive) simple none is = record {
      reads = reading value is.reads (asked Integer value is.kinds);
      unguarded = refl;
      labels = all-labels (negative ∷ nought ∷ positive ∷ []);
      named = λ arrays. named arrays value (asked Integer value is.kinds) is.new;
      simple = refl;
      declares = none-declared (SignIf (changed c value) (c.jump negative) (c.jump nought) (c.jump positive)) refl refl refl refl;
    }
    simple-made Back simple none is = go-to c.back known.back
    simple-made (CallTo name arguments) simple none is = absurd cc
    simple-made (Sub name dummies) simple none is = let e : false ≡ true = simple in absurd cc
    simple-made _ simple none is = let e : false ≡ true = simple in absurd cc

    unguarded-inner : (s : Stmt) → is_guarded s ≡ false → has_simple_inner s ≡ true
    unguarded-inner (ThenIf' condition shape row) e = let h : true ≡ false = e in absurd cc
    unguarded-inner _ e = refl

    of-made : (stmt : Stmt) → ((targets : List RawExpr) → stmt ≡ Take targets → 1 ≤ length targets) → IsMade stmt → IsTree stmt
    of-made stmt takes is = record { declares = is.declares; reads = is.reads; labels = is.labels; takes = takes; names = is.named; inner = unguarded-inner stmt is.unguarded }

    after-condition : (e : RawExpr) (stmt : Stmt) → IsReading e → ((arrays : List ℕ → Bool) → AreNames (names_in arrays e)) → IsMade stmt → IsTree (ThenIf e stmt)
    after-condition e stmt reads new is = record {
      declares = let none = declares-ThenIf e stmt in none-declared (ThenIf e stmt) none.0 none.1 none.2 none.3;
      reads = to-ThenIf e stmt reads is.reads is.unguarded;
      labels = subst (λ (labels : List ℕ). All IsLabel labels) (sym (used-ThenIf e stmt)) (used-jumps IsLabel stmt is.labels);
      takes = λ targets same. absurd (takes-ThenIf e stmt targets same);
      names = λ arrays. subst AreNames (sym (appearing-ThenIf arrays e stmt)) (joined (names_in arrays e) (appearing arrays stmt) (new arrays) (is.named arrays));
      inner = guarded_simple e stmt ∙ is.simple;
    }

    block-tree : (e : RawExpr) → IsReading e → ((arrays : List ℕ → Bool) → AreNames (names_in arrays e)) → IsTree (BlockIf e)
    block-tree e reads new = record { declares = none-declared (BlockIf e) refl refl refl refl; reads = reads; labels = All-nil IsLabel; takes = λ targets same. absurd cc; names = new; inner = refl }

    taken : (stmt : Stmt) → ((targets : List RawExpr) → stand_in stmt ≡ Take targets → 1 ≤ length targets) → is_guarded stmt ≡ false → (targets : List RawExpr) → changed_stmt c stmt ≡ Take targets → 1 ≤ length targets
    taken (Take own) some alone targets e =
        let same : map (changed c) own ≡ targets = cc in
        let h = some own refl in
        omega (arith, h, length-map own (changed c), ap (λ (xs : List RawExpr). length xs) same)
    taken (ThenIf' condition shape row) some alone targets e = let h : true ≡ false = alone in absurd cc
    taken _ some alone targets e = cc

    alone-tree : (stmt : Stmt) → stand_in stmt ≡ stand_in_alone stmt → is_guarded stmt ≡ false → is_simple (stand_in_alone stmt) ≡ true → call_by stmt ≡ None → IsTree (stand_in stmt) → is_well_kinded names (stand_in stmt) ≡ true → AreNew c (appearing (stays c) (stand_in stmt)) → IsTree (changed_stmt c stmt)
    alone-tree stmt same alone simple none tree kinds new =
        let is : IsAccepted c names (stand_in stmt) = record { reads = tree.reads; kinds = kinds; new = new } in
        of-made (changed_stmt c stmt) (taken stmt tree.takes alone) (simple-made stmt simple none (subst (IsAccepted c names) same is))

    condition-named : (e : RawExpr) → is_of_kind names Logical e ≡ true → AreNew c (names_in (stays c) e) → (arrays : List ℕ → Bool) → AreNames (names_in arrays (changed c e))
    condition-named e kind new arrays = named arrays e (asked Logical e kind) new

    loop-tree : (label : ℕ) (variable : List ℕ) (first last : RawExpr) (step : Option RawExpr) → IsTree (Do label variable first last step) → is_well_kinded names (Do label variable first last step) ≡ true → AreNew c (appearing (stays c) (Do label variable first last step)) → IsTree (changed_stmt c (Do label variable first last step))
    loop-tree label variable first last step tree kinds new =
        let one = not (is_array_in names variable) && is_kind Integer (Some (kind_named names variable)) in
        let all = and_parts (one && is_of_kind names Integer first && is_of_kind names Integer last) (is_step names step) kinds in
        let two = and_parts (one && is_of_kind names Integer first) (is_of_kind names Integer last) all.0 in
        let three = and_parts one (is_of_kind names Integer first) two.0 in
        let fresh = and_parts (is_name (c.name variable)) (list_all (λ x. is_name (c.name x)) (names_in (stays c) first ++ names_in (stays c) last ++ names_if_any (stays c) step)) new in
        let kinds_of : (is_some (kind_in names first) ≡ true) × (is_some (kind_in names last) ≡ true) = (asked Integer first three.1, asked Integer last two.1) in
        record {
          declares = none-declared (Do (c.end label) (c.name variable) (changed c first) (changed c last) (changed_step c step)) refl refl refl refl;
          reads = (reading first tree.reads.0 kinds_of.0, reading last tree.reads.1 kinds_of.1, step-reading step tree.reads.2 all.1, positive (c.end label) (known.end label).0);
          labels = one-label (c.end label) (known.end label);
          takes = λ targets same. absurd cc;
          names = λ arrays.
              let both = split arrays (names_in (stays c) first ++ names_in (stays c) last) (names_if_any (stays c) step) fresh.1 in
              let bounds = split arrays (names_in (stays c) first) (names_in (stays c) last) both.0 in
              and_from (is_name (c.name variable)) (list_all is_name (names_in arrays (changed c first) ++ names_in arrays (changed c last) ++ names_if_any arrays (changed_step c step))) fresh.0
              (joined (names_in arrays (changed c first) ++ names_in arrays (changed c last)) (names_if_any arrays (changed_step c step))
              (joined (names_in arrays (changed c first)) (names_in arrays (changed c last)) (named arrays first kinds_of.0 bounds.0) (named arrays last kinds_of.1 bounds.1))
              (step-named arrays step all.1 both.1));
          inner = refl;
        }

    -- ---- any statement of a unit

    pub changed-is-tree : (stmt : Stmt) → IsTree (stand_in stmt) → is_well_kinded names (stand_in stmt) ≡ true → AreNew c (appearing (stays c) (stand_in stmt)) → sub_name stmt ≡ None → call_in stmt ≡ None → IsTree (changed_stmt c stmt)
    changed-is-tree (ThenIf' e shape (more_of-Stmt stmt rest)) tree kinds new no_sub none =
        let inside : Stmt = stand_in_alone stmt in
        let parts = from-ThenIf e inside tree.reads in
        let both = and_parts (is_of_kind names Logical e) (is_well_kinded names inside) (sym (kinds-ThenIf names e inside) ∙ kinds) in
        let fresh = parted (λ x. is_name (c.name x)) (names_in (stays c) e) (appearing (stays c) inside) (subst (AreNew c) (appearing-ThenIf (stays c) e inside) new) in
        let is : IsAccepted c names inside = record { reads = parts.1; kinds = both.1; new = fresh.1 } in
        after-condition (changed c e) (changed_stmt c stmt) (reading e parts.0 (asked Logical e both.0)) (condition-named e both.0 fresh.0) (simple-made stmt (sym (guarded_simple e inside) ∙ tree.inner) none is)
    changed-is-tree (Assign target value) tree kinds new no_sub none = alone-tree (Assign target value) refl refl refl refl tree kinds new
    changed-is-tree (Print items) tree kinds new no_sub none = alone-tree (Print items) refl refl refl refl tree kinds new
    changed-is-tree (Take targets) tree kinds new no_sub none = alone-tree (Take targets) refl refl refl refl tree kinds new
    changed-is-tree (GoTo label) tree kinds new no_sub none = alone-tree (GoTo label) refl refl refl refl tree kinds new
    changed-is-tree (PickGoTo labels index) tree kinds new no_sub none = alone-tree (PickGoTo labels index) refl refl refl refl tree kinds new
    changed-is-tree (SignIf value negative nought positive) tree kinds new no_sub none = alone-tree (SignIf value negative nought positive) refl refl refl refl tree kinds new
    changed-is-tree Back tree kinds new no_sub none = alone-tree Back refl refl refl refl tree kinds new
    changed-is-tree (BlockIf e) tree kinds new no_sub none = block-tree (changed c e) (reading e tree.reads (asked Logical e kinds)) (condition-named e kinds new)
    changed-is-tree (ElseIf e) tree kinds new no_sub none =
        record { declares = none-declared (ElseIf (changed c e)) refl refl refl refl; reads = reading e tree.reads (asked Logical e kinds); labels = All-nil IsLabel; takes = λ targets same. absurd cc; names = condition-named e kinds new; inner = refl }
    changed-is-tree (Do label variable first last step) tree kinds new no_sub none = loop-tree label variable first last step tree kinds new
    changed-is-tree (Sub name dummies) tree kinds new no_sub none = absurd cc
    changed-is-tree (CallTo name arguments) tree kinds new no_sub none = absurd cc
    changed-is-tree _ tree kinds new no_sub none = tree

    -- the head of the block in which a copy stands
    pub head-is-tree : (stmt : Stmt) (condition : RawExpr) → guard_of stmt ≡ Some condition → IsTree (stand_in stmt) → is_well_kinded names (stand_in stmt) ≡ true → AreNew c (appearing (stays c) (stand_in stmt)) → IsTree (BlockIf (changed c condition))
    head-is-tree (ThenIf' e shape (more_of-Stmt stmt rest)) condition guard tree kinds new =
        let inside : Stmt = stand_in_alone stmt in
        let h : Some e ≡ Some condition = guard in
        let same : e ≡ condition = cc in
        let parts = from-ThenIf e inside tree.reads in
        let both = and_parts (is_of_kind names Logical e) (is_well_kinded names inside) (sym (kinds-ThenIf names e inside) ∙ kinds) in
        let fresh = parted (λ x. is_name (c.name x)) (names_in (stays c) e) (appearing (stays c) inside) (subst (AreNew c) (appearing-ThenIf (stays c) e inside) new) in
        subst (λ (x : RawExpr). IsTree (BlockIf (changed c x))) same (block-tree (changed c e) (reading e parts.0 (asked Logical e both.0)) (condition-named e both.0 fresh.0))
    head-is-tree _ condition guard tree kinds new = absurd cc
