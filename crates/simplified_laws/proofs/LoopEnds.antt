-- The increment of a DO whose beginning is kept is kept, and has a mark.
use Rattle.std.proofs.Common.{◌≡◌, ℕ, ◌<◌, Bool, true, Option, Some, None, refl, subst}
use Rattle.std.specs.Prelude.{slice_get}
use Rattle.f77_tree.specs.declared.programs.Exec.{Exec}
use Rattle.f77_tree.specs.declared.programs.ExecKind.{ExecKind}
use Rattle.f77_tree.specs.declared.programs.ExecKind.TheVariants.{Assign, Print, Pass, Test, Sign, Pick, DoStart, DoNext, End}
use Rattle.f77_tree.specs.declared.programs.Program.{Program}
use Rattle.f77_tree.specs.Loops.{Loop, begun, begun_in, incremented, incremented_in, do_start, do_next, AreLoops}
use Rattle.alias_classes.specs.Classes.{ClassTable}
use Rattle.cfg_build.specs.Passes.{kind_in}
use Rattle.const_prop.specs.Table.{Knowns}
use Rattle.simplified_forms.specs.Items.{kind_at}
use Rattle.simplified_forms.specs.Simplified.{is_increment, rest}
use Rattle.simplified_laws.proofs.FlatItems.{AreClosedItems, increment-mark, marked}

begun-rest : (kind : ExecKind) (loop : Loop) (d : Option ℕ) → begun kind ≡ Some loop → rest kind d ≡ None
begun-rest (Assign target value next) loop d is = absurd cc
begun-rest (Print items next) loop d is = absurd cc
begun-rest (Pass next) loop d is = absurd cc
begun-rest (Test c a b) loop d is = absurd cc
begun-rest (Sign e a b c) loop d is = absurd cc
begun-rest (Pick e targets other) loop d is = absurd cc
begun-rest (DoStart loop_no var first last step body exit) loop d is = refl
begun-rest (DoNext loop_no var body exit) loop d is = absurd cc
begun-rest End loop d is = absurd cc

incremented-is : (kind : ExecKind) (loop : Loop) → incremented kind ≡ Some loop → is_increment kind ≡ true
incremented-is (Assign target value next) loop is = absurd cc
incremented-is (Print items next) loop is = absurd cc
incremented-is (Pass next) loop is = absurd cc
incremented-is (Test c a b) loop is = absurd cc
incremented-is (Sign e a b c) loop is = absurd cc
incremented-is (Pick e targets other) loop is = absurd cc
incremented-is (DoStart loop_no var first last step body exit) loop is = absurd cc
incremented-is (DoNext loop_no var body exit) loop is = refl
incremented-is End loop is = absurd cc

-- the kind tells of an executable what DO it begins, and that it increments one; where there is none it is a kind that does neither
pub begun-at : (o : Option Exec) (loop : Loop) → begun (kind_in o) ≡ Some loop → begun_in o ≡ Some loop
begun-at None loop is = absurd cc
begun-at (Some exec) loop is = is

incremented-at : (o : Option Exec) (loop : Loop) → incremented_in o ≡ Some loop → is_increment (kind_in o) ≡ true
incremented-at None loop is = let no : None ≡ Some loop = is in absurd cc
incremented-at (Some exec) loop is = incremented-is exec.kind loop is

module _ (p : Program) (c : ClassTable) (t : Knowns) (checked : Bool) (is_item : ℕ → Bool) where
  pub record IsEndOf (k : ℕ) (loop : Loop) : Type 0 where
    pub few : loop.number < p.loops
    pub start : k ≡ do_start p.execs loop.number
    pub item : is_item (do_next p.execs loop.number) ≡ true
    pub has : marked p c t checked is_item (do_next p.execs loop.number) ≡ true

  pub end-of : AreClosedItems p t is_item → AreLoops p.execs p.loops → (k : ℕ) (loop : Loop) → is_item k ≡ true → begun (kind_at p k) ≡ Some loop → IsEndOf k loop
  end-of closed loops k loop item is =
      let begins = begun-at (slice_get p.execs k) loop is in
      let few = loops.starts k loop begins in
      let of = loops.each loop.number few in
      let start = of.one_start k loop begins refl in
      let kept = closed.dos loop.number few (subst (λ j. is_item j ≡ true) start item) in
      record {
        few = few;
        start = start;
        item = kept;
        has = increment-mark p c t checked is_item (do_next p.execs loop.number) kept (incremented-at (slice_get p.execs (do_next p.execs loop.number)) of.loop of.increments);
      }

  -- a DO has no jump after it
  pub begun-left : (k : ℕ) (loop : Loop) (d : Option ℕ) → begun (kind_at p k) ≡ Some loop → rest (kind_at p k) d ≡ None
  begun-left k loop d is = begun-rest (kind_at p k) loop d is
