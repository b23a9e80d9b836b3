-- Nets of operations whose lines are led by another game: loads without their lines, and lines without their loads.
use Rattle.std.proofs.Common.{◌≡◌, ◌<◌, ◌≤◌, ℕ, zero, suc, ◌+◌, ◌-◌, ◌==◌, ◌&&◌, ℤ, Bool, true, false, not, List, [], ◌∷◌, filter, length, map, set, Option, Some, None, Ok, Err, Result, slice_get, All, refl, sym, ap, ◌∙◌, subst, arith}
use Rattle.std.specs.List.{list_all, range_with_len}
use Rattle.std.proofs.lemmas.Bool.{ne_eqb}
use Rattle.std.proofs.lemmas.List.{length-set, get_or-set_other}
use Rattle.firing.specs.ReadySet.{has}
use Rattle.op_table.specs.declared.Trap.{Trap}
use Rattle.f77_tree.specs.Execution.{Memory}
use Rattle.f77_tree.specs.declared.programs.NameInfo.{NameInfo}
use Rattle.op_board.specs.Effects.{Effect, gives, loaded, performed}
use Rattle.op_board.specs.Operations.{Work, Load, Operate, Store, Take, Write, Begin, Advance, DecideTruth, DecideSign, DecideNumber, DecideTrips, DecideFirst, gives_value}
use Rattle.op_board.specs.OperationCourse.{choice_of}
use Rattle.op_board.specs.OperationNets.{OperationNet, first_operation, operation_at}
use Rattle.op_board.specs.OperationTokens.{OperationTokens, is_given, operand_in, operated, performed_at}
use Rattle.op_net.specs.ApartLoads.{is_load_name, loaded_apart}
use Rattle.op_net.specs.FiringChanges.{worked_on}
use Rattle.operation_effects.specs.declared.performing.Did.{Did}
use Rattle.operation_effects.specs.declared.performing.Did.TheVariants as did
use Rattle.operation_effects.specs.Done.{told}
use Rattle.operation_places.specs.declared.places.Places.{Places}
use Rattle.operation_tables.specs.declared.telling.OpName.{OpName}
use Rattle.operation_tables.specs.declared.telling.OpName.TheVariants as name
use Rattle.operation_places.specs.PlacesView.{IsCounted, value_put}
use Rattle.operation_tables.specs.Telling.{operation_name}
use Rattle.operation_tables.specs.declared.rows.Row.{Row}
use Rattle.operation_tables.specs.OperationRows.{IsRow}
use Rattle.operation_places.specs.RowWaits.{is_there}
use Rattle.operation_tables.specs.Waits.{failing, one_if}
use Rattle.operation_tables.proofs.NodeNames.{IsOperationAt}
use Rattle.operation_places.proofs.RowWaits.{operands_wait}

-- ---- what a load does

pub record IsGivenAs (m new : Memory) (done : Did) (result : Result Effect Trap) : Type 0 where
  pub value : ℤ
  pub is : done ≡ did.Gave value
  pub memory : new ≡ m
  pub result_is : result ≡ Ok (gives m value)

abbrev memory_of_result : Memory → Result Effect Trap → Memory
memory_of_result m (Err trap) = m
memory_of_result m (Ok effect) = effect.memory

abbrev value_of_result : Result Effect Trap → Option ℤ
value_of_result (Err trap) = None
value_of_result (Ok effect) = effect.value

pub load_gives : (names : List NameInfo) (input : List ℤ) (m new : Memory) (work : Work) (args : List ℤ) (done : Did) (line : List ℕ) → operation_name work ≡ name.Load → performed names input m work args ≡ told done new line → IsGivenAs m new done (performed names input m work args)
load_gives names input m new (Load array subs) args done line loads is = by done is
  where
    value : ℤ
    value = loaded names m.store array args

    by : (d : Did) → Ok (gives m value) ≡ told d new line → IsGivenAs m new d (Ok (gives m value))
    by (did.Gave z) is =
        let same : Some value ≡ Some z = ap value_of_result is in
        let here : value ≡ z = cc in
        record { value = z; is = refl; memory = sym (ap (memory_of_result m) is); result_is = ap (λ (v : ℤ). Ok (gives m v)) here }
    by did.Changed is = let none : Some value ≡ None = ap value_of_result is in absurd cc
    by did.Wrote is = let none : Some value ≡ None = ap value_of_result is in absurd cc
    by (did.Told choice) is = let none : Some value ≡ None = ap value_of_result is in absurd cc
    by (did.Trapped trap) is = let none : Some value ≡ None = ap value_of_result is in absurd cc
load_gives names input m new (Operate op) args done line loads is = absurd cc
load_gives names input m new (Store array subs) args done line loads is = absurd cc
load_gives names input m new Take args done line loads is = absurd cc
load_gives names input m new (Write items) args done line loads is = absurd cc
load_gives names input m new (Begin loop_no var) args done line loads is = absurd cc
load_gives names input m new (Advance loop_no var) args done line loads is = absurd cc
load_gives names input m new DecideTruth args done line loads is = absurd cc
load_gives names input m new DecideSign args done line loads is = absurd cc
load_gives names input m new (DecideNumber count) args done line loads is = absurd cc
load_gives names input m new (DecideTrips loop_no) args done line loads is = absurd cc
load_gives names input m new DecideFirst args done line loads is = absurd cc

pub load_gives_value : (work : Work) → operation_name work ≡ name.Load → gives_value work ≡ true
load_gives_value (Load array subs) loads = refl
load_gives_value (Operate op) loads = refl
load_gives_value Take loads = refl
load_gives_value (Store array subs) loads = absurd cc
load_gives_value (Write items) loads = absurd cc
load_gives_value (Begin loop_no var) loads = absurd cc
load_gives_value (Advance loop_no var) loads = absurd cc
load_gives_value DecideTruth loads = absurd cc
load_gives_value DecideSign loads = absurd cc
load_gives_value (DecideNumber count) loads = absurd cc
load_gives_value (DecideTrips loop_no) loads = absurd cc
load_gives_value DecideFirst loads = absurd cc

-- it tells no other edge than the first one
pub load_tells_first : (names : List NameInfo) (input : List ℤ) (m : Memory) (work : Work) (args : List ℤ) → operation_name work ≡ name.Load → choice_of (performed names input m work args) ≡ 0
load_tells_first names input m (Load array subs) args loads = refl
load_tells_first names input m (Operate op) args loads = absurd cc
load_tells_first names input m (Store array subs) args loads = absurd cc
load_tells_first names input m Take args loads = absurd cc
load_tells_first names input m (Write items) args loads = absurd cc
load_tells_first names input m (Begin loop_no var) args loads = absurd cc
load_tells_first names input m (Advance loop_no var) args loads = absurd cc
load_tells_first names input m DecideTruth args loads = absurd cc
load_tells_first names input m DecideSign args loads = absurd cc
load_tells_first names input m (DecideNumber count) args loads = absurd cc
load_tells_first names input m (DecideTrips loop_no) args loads = absurd cc
load_tells_first names input m DecideFirst args loads = absurd cc

pub not_load : (n : OpName) → (n ≡ name.Load → ⊥) → is_load_name n ≡ false
not_load name.Load differs = absurd (differs refl)
not_load (name.Apply op) differs = refl
not_load name.Store differs = refl
not_load name.Write differs = refl
not_load name.Begin differs = refl
not_load name.Advance differs = refl
not_load name.Decide differs = refl
not_load name.Take differs = refl

-- ---- what isn't counted

-- nothing is counted after a change of places, where nothing was
pub stays_uncounted : (x : OperationNet) (s t : Places) → s.counted ≡ false → IsCounted x s → t.counted ≡ s.counted → t.counts.items ≡ s.counts.items → t.leads.items ≡ s.leads.items → IsCounted x t
stays_uncounted x s t off is counted counts leads = record {
  counts = λ on. never on;
  marks = λ on. never on;
  none = λ still. counts ∙ is.none off;
  leads = subst (λ items. All (Rattle.operation_places.specs.Leads.IsLead x) items) (sym leads) is.leads;
}
  where
    never : {P : Type 0} → t.counted ≡ true → P
    never on = let e : true ≡ false = sym on ∙ counted ∙ off in absurd cc

-- a mark of a node that another game leads is its own
pub marked_apart : (x : OperationNet) (s : Places) (marks : List Bool) (k : ℕ) (b : Bool) → IsCounted x s → has s.apart.items k ≡ true → marks ≡ set s.set k b → IsCounted x (record s { set = marks })
marked_apart x s marks k b are led is = record {
  counts = are.counts;
  marks = λ counted. record {
    room = ap (λ (flags : List Bool). length flags) is ∙ length-set s.set k b ∙ (are.marks counted).room;
    right = λ j below free. ap (λ (flags : List Bool). has flags j) is ∙ get_or-set_other s.set k j b false (other j free) ∙ (are.marks counted).right j below free;
  };
  none = are.none;
  leads = are.leads;
}
  where
    other : (j : ℕ) → has s.apart.items j ≡ false → j ≡ k → ⊥
    other j free e = let both : true ≡ false = sym led ∙ ap (has s.apart.items) (sym e) ∙ free in cc

-- ---- the operations that need a line

module _ (test : ℕ → Bool) where
  -- one operation further
  pub passes_next : (i count left : ℕ) → i < count → test i ≡ true → 0 < left → slice_get (filter test (range_with_len i (count - i))) left ≡ slice_get (filter test (range_with_len (i + 1) (count - (i + 1)))) (left - 1)
  passes_next i count zero low passes some = absurd (omega (arith, some))
  passes_next i count (suc left) low passes some =
      let more : count - i ≡ suc (count - (i + 1)) = omega (arith, low) in
      ap (λ n. slice_get (filter test (range_with_len i n)) (suc left)) more
      ∙ ap (λ b. slice_get (Rattle.std.proofs.Common.cond b (i ∷ filter test (range_with_len (i + 1) (count - (i + 1)))) (filter test (range_with_len (i + 1) (count - (i + 1))))) (suc left)) passes
      ∙ ap (slice_get (filter test (range_with_len (i + 1) (count - (i + 1))))) (let e : left ≡ suc left - 1 = omega arith in e)

  pub passes_here : (i count : ℕ) → i < count → test i ≡ true → slice_get (filter test (range_with_len i (count - i))) 0 ≡ Some i
  passes_here i count low passes =
      let more : count - i ≡ suc (count - (i + 1)) = omega (arith, low) in
      ap (λ n. slice_get (filter test (range_with_len i n)) 0) more
      ∙ ap (λ b. slice_get (Rattle.std.proofs.Common.cond b (i ∷ filter test (range_with_len (i + 1) (count - (i + 1)))) (filter test (range_with_len (i + 1) (count - (i + 1))))) 0) passes

  pub fails_next : (i count left : ℕ) → i < count → test i ≡ false → slice_get (filter test (range_with_len i (count - i))) left ≡ slice_get (filter test (range_with_len (i + 1) (count - (i + 1)))) left
  fails_next i count left low fails =
      let more : count - i ≡ suc (count - (i + 1)) = omega (arith, low) in
      ap (λ n. slice_get (filter test (range_with_len i n)) left) more
      ∙ ap (λ b. slice_get (Rattle.std.proofs.Common.cond b (i ∷ filter test (range_with_len (i + 1) (count - (i + 1)))) (filter test (range_with_len (i + 1) (count - (i + 1))))) left) fails

  pub none_beyond : (i count left : ℕ) → count ≤ i → slice_get (filter test (range_with_len i (count - i))) left ≡ None
  none_beyond i count left past = let none : count - i ≡ 0 = omega (arith, past) in ap (λ n. slice_get (filter test (range_with_len i n)) left) none

  -- the number at a place among those that pass from a on
  pub record IsPassing (a n place i : ℕ) : Type 0 where
    pub low : a ≤ i
    pub high : i < a + n
    pub passes : test i ≡ true
    pub before : length (filter test (range_with_len a (i - a))) ≡ place

  pub passing_at : (a n place i : ℕ) → slice_get (filter test (range_with_len a n)) place ≡ Some i → IsPassing a n place i
  passing_at a zero place i is = absurd cc
  passing_at a (suc n) place i is = by (test a) refl place is (λ p at. passing_at (a + 1) n p i at)
    where
      by : (b : Bool) → test a ≡ b → (p : ℕ) → slice_get (Rattle.std.proofs.Common.cond b (a ∷ filter test (range_with_len (a + 1) n)) (filter test (range_with_len (a + 1) n))) p ≡ Some i → ((q : ℕ) → slice_get (filter test (range_with_len (a + 1) n)) q ≡ Some i → IsPassing (a + 1) n q i) → IsPassing a (suc n) p i
      by true passes zero at more =
          let here : a ≡ i = cc in
          let none : i - a ≡ 0 = omega (arith, here) in
          record { low = omega (arith, here); high = omega (arith, here); passes = ap test (sym here) ∙ passes; before = ap (λ m. length (filter test (range_with_len a m))) none }
      by true passes (suc p) at more =
          let rest : IsPassing (a + 1) n p i = more p at in
          let low = rest.low in
          let high = rest.high in
          let next : i - a ≡ suc (i - (a + 1)) = omega (arith, low) in
          record {
            low = omega (arith, low);
            high = omega (arith, high);
            passes = rest.passes;
            before =
                ap (λ m. length (filter test (range_with_len a m))) next
                ∙ ap (λ b. length (Rattle.std.proofs.Common.cond b (a ∷ filter test (range_with_len (a + 1) (i - (a + 1)))) (filter test (range_with_len (a + 1) (i - (a + 1)))))) passes
                ∙ ap suc rest.before;
          }
      by false fails p at more =
          let rest : IsPassing (a + 1) n p i = more p at in
          let low = rest.low in
          let high = rest.high in
          let next : i - a ≡ suc (i - (a + 1)) = omega (arith, low) in
          record {
            low = omega (arith, low);
            high = omega (arith, high);
            passes = rest.passes;
            before =
                ap (λ m. length (filter test (range_with_len a m))) next
                ∙ ap (λ b. length (Rattle.std.proofs.Common.cond b (a ∷ filter test (range_with_len (a + 1) (i - (a + 1)))) (filter test (range_with_len (a + 1) (i - (a + 1)))))) fails
                ∙ rest.before;
          }

-- ---- values

module _ {A : Type 0} (p : A → Bool) where
  pub none_fails : (xs : List A) → (failing p xs == 0) ≡ list_all p xs
  none_fails [] = refl
  none_fails (a ∷ more) = by (p a) (none_fails more)
    where
      by : (b : Bool) → (failing p more == 0) ≡ list_all p more → (one_if (not b) + failing p more == 0) ≡ (b && list_all p more)
      by true rest = ap (λ n. n == 0) (let e : 0 + failing p more ≡ failing p more = omega arith in e) ∙ rest
      by false rest = ne_eqb (1 + failing p more) 0 (λ e. omega (arith, e))

pub from_not : (a b : Bool) → a ≡ not b → b ≡ not a
from_not a true is = sym (ap not is)
from_not a false is = sym (ap not is)

-- the operands of an operation are there, if it waits for none of them
pub operands_there : (x : OperationNet) (m : OperationTokens) (k piece i first lacking : ℕ) (row : Row) → IsRow x piece i row → IsOperationAt x k piece i → first ≡ first_operation x piece → lacking ≡ failing (is_there m.values first) row.operands.items → (lacking == 0) ≡ list_all (is_given x m piece) (operation_at x piece i).operands
operands_there x m k piece i first lacking row is at begins waits =
    ap (λ n. n == 0) (waits ∙ operands_wait x k piece i first at begins row.operands.items is.operands m)
    ∙ none_fails (is_given x m piece) (operation_at x piece i).operands

-- ---- the marking after a load

module _ (x : OperationNet) (m : OperationTokens) (k piece i : ℕ) (loads : operation_name (operation_at x piece i).work ≡ name.Load) where
  -- the load gives a value
  pub gives_one : (memory : Memory) (done : Did) (line : List ℕ) → performed_at x m piece (operation_at x piece i) ≡ told done memory line → IsGivenAs m.tokens.memory memory done (performed_at x m piece (operation_at x piece i))
  gives_one memory done line effect =
      load_gives x.net.program.names x.net.input m.tokens.memory memory (operation_at x piece i).work (map (operand_in x m piece) (operation_at x piece i).operands) done line loads effect

  pub apart_marking : (memory : Memory) (done : Did) (line : List ℕ) (z : ℤ) (new : OperationTokens) → performed_at x m piece (operation_at x piece i) ≡ told done memory line → done ≡ did.Gave z → new ≡ worked_on x m piece i memory → value_put new k (Some z) ≡ loaded_apart x m k piece i
  apart_marking memory done line z new effect gave is =
      let g : IsGivenAs m.tokens.memory memory done (performed_at x m piece (operation_at x piece i)) = gives_one memory done line effect in
      let same : z ≡ g.value = let both : did.Gave z ≡ did.Gave g.value = sym gave ∙ g.is in cc in
      ap (λ (n : OperationTokens). value_put n k (Some z)) is
      ∙ ap (λ (mem : Memory). value_put (worked_on x m piece i mem) k (Some z)) g.memory
      ∙ ap (λ (v : ℤ). value_put (worked_on x m piece i m.tokens.memory) k (Some v)) same
      ∙ ap (λ (r : Result Effect Trap). record m { values = (operated x m k piece i (operation_at x piece i) r).values }) (sym g.result_is)
