-- A step of a program from an item, and the steps of its simplified form that follow it: each kind of executable.
use Rattle.std.proofs.Common.{◌*◌, ◌≡◌, ◌≢◌, ℕ, ◌+◌, ◌<◌, ◌≤◌, ℤ, pos, Bool, true, false, List, [], ◌∷◌, length, map, Option, Some, None, Result, All, refl, sym, ap, subst, ◌∙◌, ⊎_elim, inl, inr, arith}
use Rattle.std.specs.Prelude.{slice_get, slice_index, if◌then◌else◌}
use Rattle.std.proofs.lemmas.Bool.{cases_Bool}
use Rattle.std.proofs.lemmas.Simd.{map-map}
use Rattle.op_table.specs.declared.Trap.{Trap}
use Rattle.op_table.specs.Words.{IsWord, is_true}
use Rattle.list_laws.specs.Member.{Member}
use Rattle.f77_tree.specs.declared.declarations.Kind.TheVariants.{Integer}
use Rattle.f77_tree.specs.declared.expressions.Access.{Access}
use Rattle.f77_tree.specs.declared.expressions.Expr.{Expr}
use Rattle.f77_tree.specs.declared.programs.Exec.{Exec}
use Rattle.f77_tree.specs.declared.programs.ExecKind.{ExecKind}
use Rattle.f77_tree.specs.declared.programs.ExecKind.TheVariants.{Assign, Print, Pass, Test, Sign, Pick, DoStart, DoNext, End}
use Rattle.f77_tree.specs.declared.programs.Item.{Item}
use Rattle.f77_tree.specs.declared.programs.NameInfo.{NameInfo}
use Rattle.f77_tree.specs.declared.programs.Program.{Program}
use Rattle.f77_tree.specs.Control.{successors}
use Rattle.f77_tree.specs.Execution.{Memory, Outcome, Goes, outcome, assigned, printed, branched, do_begun, do_incremented, by_sign, by_number, next_word, words_taken, value_in}
use Rattle.f77_tree.specs.Kinds.{IsOfKind, IsProper}
use Rattle.f77_tree.specs.KnownWith.{AreRight}
use Rattle.f77_tree.specs.Line.{line_of}
use Rattle.f77_tree.specs.Loops.{AreLoops, Loop, begun, begun_at, begun_in, do_next, do_start, incremented, incremented_at, incremented_in}
use Rattle.f77_tree.specs.Operations.{exec_operations}
use Rattle.f77_tree.specs.Run.{State, Running}
use Rattle.f77_tree.specs.Value.{place, place_of, value}
use Rattle.f77_tree.specs.WellFormed.{IsExecutable}
use Rattle.f77_tree.proofs.AllLemmas.{All-get}
use Rattle.alias_classes.specs.Classes.{ClassTable}
use Rattle.cfg_build.specs.Parts.{line_in}
use Rattle.cfg_build.specs.Passes.{kind_in}
use Rattle.const_prop.specs.Table.{Knowns}
use Rattle.flat_programs.specs.declared.statements.Flat.{Flat}
use Rattle.flat_programs.specs.declared.statements.Flat.TheVariants.{Mark, Assignment, Output, LogicalIf, ArithmeticIf, ComputedGoTo, DoLoop, Finish}
use Rattle.flat_programs.specs.declared.statements.FlatLine.{FlatLine}
use Rattle.flat_programs.specs.Executables.{beyond, executables, first_of, following, increment, leading, marked as executable_of}
use Rattle.flat_programs.specs.Marks.{is_end, loop_at, loop_to, mark_at as number_at, variable_in}
use Rattle.simplified_forms.specs.Folding.{folded, folded_access, folded_item}
use Rattle.simplified_laws.specs.InStep.{after_mark, entry, new_number, AreInStep}
use Rattle.simplified_forms.specs.Items.{kind_at}
use Rattle.simplified_forms.specs.Simplified.{decided, has_mark, is_increment, last_jump, left_of, mark_of, own_jumps, rest, words_at}
use Rattle.simplified_laws.proofs.EntriesLed.{jump-entry, leads-at, mark-enters, new_first, new_form, rest-leads, unmarked-enters, AreInPlace, Leads, LeadsOn}
use Rattle.simplified_laws.proofs.FlatItems.{all as form, begins, increment-mark, left_over, own_of, AreClosedItems}
use Rattle.simplified_laws.proofs.FoldedLaws.{folded-operations, folded-value}
use Rattle.simplified_laws.proofs.FoldedOperations.{access-operations, items-operations}
use Rattle.simplified_laws.proofs.FoldedUses.{folded-assigned, folded-line, folded-place}
use Rattle.simplified_laws.proofs.ItemPlaces.{marks-stand}
use Rattle.simplified_laws.proofs.ItemStands.{begins-next, item_line, jump_place, mark-at, own-at}
use Rattle.simplified_laws.proofs.NewLoops.{ends-only, ends-there, loop-found, loop-stands, new-loop, number-of-mark, number-within, numbers-differ, IsNewLoop}
use Rattle.simplified_laws.proofs.OutcomesMet.{assigned-meets, begun-meets, branched-meets, incremented-meets, pick-leads, printed-meets, sign-leads, test-leads}
use Rattle.simplified_laws.proofs.Stepping.{comes-pass, Comes}
use Rattle.simplified_laws.proofs.StepsMet.{follows-none, follows-own, Follows, Meets}

-- the items of the simplified form of a program are closed, and its executables stand where its statements are
pub record HasForm (p : Program) (c : ClassTable) (t : Knowns) (checked : Bool) (is_item : ℕ → Bool) : Type 0 where
  pub in_place : AreInPlace (form p c t checked is_item)
  pub kept : AreClosedItems p t is_item
  pub loops : AreLoops p.execs p.loops

-- what is told where an executable comes next in this memory is so
pub record IsRightIn (p : Program) (c : ClassTable) (t : Knowns) (checked : Bool) (is_item : ℕ → Bool) (input : List ℤ) (k : ℕ) (m : Memory) : Type 0 where
  pub item : is_item k ≡ true
  pub proper : IsExecutable p.names (kind_at p k)
  pub words : kind_at p k ≢ End → AreRight (words_at p c t checked is_item k) m.store
  pub goes : (i : ℕ) → decided p t k ≡ Some i → outcome p.names input m (kind_at p k) ≡ Goes (slice_index (successors (kind_at p k)) i) m []
  pub count_room : length m.counts ≡ p.loops
  pub step_room : length m.steps ≡ p.loops
  pub holds : All IsWord m.store

pub record IsEnteredBy (p : Program) (c : ClassTable) (t : Knowns) (checked : Bool) (is_item : ℕ → Bool) (input : List ℤ) (y : State) (to : ℕ) : Type 0 where
  pub count : ℕ
  pub few : count ≤ 1
  pub comes : Comes (new_form p c t checked is_item input) input y to count

module _ (p : Program) (c : ClassTable) (t : Knowns) (checked : Bool) (is_item : ℕ → Bool) (input : List ℤ) (has : HasForm p c t checked is_item) where
  abbrev pub F : List FlatLine
  F = form p c t checked is_item

  -- ---- DOs that are kept

  abbrev NewLoop : ℕ → Type 0
  NewLoop n = IsNewLoop p c t checked is_item has.kept has.loops n

  pub loop-at : (n : ℕ) → n < p.loops → is_item (do_start p.execs n) ≡ true → NewLoop n
  loop-at n few item = new-loop p c t checked is_item has.kept has.loops n few item

  -- the range of a DO begins after it
  pub body-leads : (n : ℕ) (l : NewLoop n) → Leads p c t checked is_item input (first_of F (after_mark p c t checked is_item (do_start p.execs n) + 1)) (entry p c t checked is_item l.loop.body)
  body-leads n l =
      let j = do_start p.execs n in
      let next = begins-next p c t checked is_item j (has.kept.within j l.item) l.item in
      let one = ap length l.own in
      let left : left_over p c t checked is_item j ≡ [] = ap (λ (x : ExecKind). last_jump is_item j (rest x (decided p t j))) l.start.is in
      let none = ap length left in
      let same : after_mark p c t checked is_item j + 1 ≡ begins p c t checked is_item (j + 1) = omega (arith, next, one, none) in
      let body : j + 1 ≡ l.loop.body = let b = l.body in omega (arith, b) in
      leads-at p c t checked is_item input (first_of F (after_mark p c t checked is_item j + 1)) (entry p c t checked is_item l.loop.body) (ap (first_of F) same ∙ ap (λ i. entry p c t checked is_item i) body)

  -- the increment of a DO: it has a mark, and nothing else is left of it
  pub record IsNewEnd (n : ℕ) (l : NewLoop n) : Type 0 where
    pub item : is_item (do_next p.execs n) ≡ true
    pub marked : has_mark p t is_item (do_next p.execs n) ≡ true
    pub leads : Leads p c t checked is_item input (first_of F (begins p c t checked is_item (do_next p.execs n) + 1)) (entry p c t checked is_item l.loop.exit)

  pub end-at : (n : ℕ) → n < p.loops → (l : NewLoop n) → IsNewEnd n l
  end-at n few l =
      let j = do_next p.execs n in
      let item = has.kept.dos n few l.item in
      let marked : has_mark p t is_item j ≡ true = increment-mark p c t checked is_item j item (ap is_increment l.next) in
      let left : rest (kind_at p j) (decided p t j) ≡ Some l.loop.exit = ap (λ (x : ExecKind). rest x (decided p t j)) l.next in
      let own : own_of p c t checked is_item j ≡ [] = ap (λ (x : ExecKind). left_of p checked (words_at p c t checked is_item j) (mark_of p t is_item) x (decided p t j)) l.next in
      let none = ap length own in
      let one : after_mark p c t checked is_item j ≡ begins p c t checked is_item j + 1 = ap (λ b. begins p c t checked is_item j + (if b then 1 else 0)) marked in
      let same : jump_place p c t checked is_item j ≡ begins p c t checked is_item j + 1 = omega (arith, none, one) in
      let on = rest-leads p c t checked is_item input has.in_place has.kept j l.loop.exit item left in
      record {
        item = item;
        marked = marked;
        leads = subst (λ (place : ℕ). Leads p c t checked is_item input (first_of F place) (entry p c t checked is_item l.loop.exit)) same on.leads;
      }

  module _ (x y : State) (in_step : AreInStep p c t checked is_item x y) (runs : x.mark ≡ Running) (exec : Exec) (found : slice_get p.execs x.position ≡ Some exec) (right : IsRightIn p c t checked is_item input x.position x.memory) where
    abbrev k : ℕ
    k = x.position

    abbrev names : List NameInfo
    names = p.names

    abbrev words : ℕ → Option ℤ
    words = words_at p c t checked is_item k

    abbrev mark : ℕ → ℕ
    mark = mark_of p t is_item

    abbrev at : ℕ
    at = after_mark p c t checked is_item k

    abbrev FollowsIt : Type 0
    FollowsIt = Follows p c t checked is_item input x y

    abbrev MeetsIt : Outcome → Outcome → Type 0
    MeetsIt = Meets p c t checked is_item input

    abbrev LeadsTo : ℕ → ℕ → Type 0
    LeadsTo from next = Leads p c t checked is_item input from (entry p c t checked is_item next)

    kind-is : (kind : ExecKind) → exec.kind ≡ kind → kind_at p k ≡ kind
    kind-is kind is = ap kind_in found ∙ is

    within : k < length p.execs
    within = has.kept.within k right.item

    y-runs : y.mark ≡ Running
    y-runs = in_step.mark ∙ runs

    -- ---- over the mark

    pub entered : is_increment exec.kind ≡ false → IsEnteredBy p c t checked is_item input y (new_first p c t checked is_item input at)
    entered other = ⊎_elim
        (λ (marked : has_mark p t is_item k ≡ true).
        let none = ap (is_end F) (number-of-mark p c t checked is_item k within marked) ∙ ends-only p c t checked is_item has.kept has.loops k marked (ap is_increment (ap kind_in found) ∙ other) in
        let e = mark-enters p c t checked is_item input has.in_place has.kept k right.item marked none in
        record { count = 1; few = omega arith; comes = e.comes y y-runs (in_step.position runs) })
        (λ (unmarked : has_mark p t is_item k ≡ false).
        let e = unmarked-enters p c t checked is_item input has.in_place has.kept k unmarked in
        record { count = 0; few = omega arith; comes = e.comes y y-runs (in_step.position runs) })
        (cases_Bool (has_mark p t is_item k))

    -- ---- a statement that is left, or none

    own-by : (kind : ExecKind) (d : Option ℕ) → exec.kind ≡ kind → decided p t k ≡ d → own_of p c t checked is_item k ≡ left_of p checked words mark kind d
    own-by kind d is told = ap (λ (x : ExecKind). left_of p checked words mark x (decided p t k)) (kind-is kind is) ∙ ap (left_of p checked words mark kind) told

    rest-by : (kind : ExecKind) (d : Option ℕ) → exec.kind ≡ kind → decided p t k ≡ d → rest (kind_at p k) (decided p t k) ≡ rest kind d
    rest-by kind d is told = ap (λ (x : ExecKind). rest x (decided p t k)) (kind-is kind is) ∙ ap (rest kind) told

    jumps-by : (kind : ExecKind) (d : Option ℕ) → exec.kind ≡ kind → decided p t k ≡ d → own_jumps (kind_at p k) (decided p t k) ≡ own_jumps kind d
    jumps-by kind d is told = ap (λ (x : ExecKind). own_jumps x (decided p t k)) (kind-is kind is) ∙ ap (own_jumps kind) told

    found-own : (stmt : Flat) → own_of p c t checked is_item k ≡ stmt ∷ [] → slice_get F at ≡ Some (item_line p c t checked is_item k stmt)
    found-own stmt own = own-at p c t checked is_item k stmt within right.item own

    own-follows : (kind : ExecKind) (stmt : Flat) → exec.kind ≡ kind → is_increment kind ≡ false → own_of p c t checked is_item k ≡ stmt ∷ [] → exec_operations (leading F at stmt) ≤ 2 * exec_operations kind
        → MeetsIt (outcome names input x.memory kind) (outcome names input y.memory (leading F at stmt)) → FollowsIt
    own-follows kind stmt is other own few meets =
        let e = entered (ap is_increment is ∙ other) in
        let new_found = has.in_place.first at (item_line p c t checked is_item k stmt) (found-own stmt own) in
        follows-own p c t checked is_item input x y in_step runs (new_first p c t checked is_item input at) e.count exec (record { line = line_in (slice_get p.execs k); kind = leading F at stmt }) e.few e.comes found new_found (ap line_in found)
        (subst (λ (x_kind : ExecKind). exec_operations (leading F at stmt) ≤ 2 * exec_operations x_kind) (sym is) few)
        (subst (λ (x_kind : ExecKind). MeetsIt (outcome names input x.memory x_kind) (outcome names input y.memory (leading F at stmt))) (sym is) meets)

    none-follows : (kind : ExecKind) (s : ℕ) → exec.kind ≡ kind → is_increment kind ≡ false → own_of p c t checked is_item k ≡ [] → rest (kind_at p k) (decided p t k) ≡ Some s → outcome names input x.memory kind ≡ Goes s x.memory [] → FollowsIt
    none-follows kind s is other own left goes =
        let e = entered (ap is_increment is ∙ other) in
        let on = rest-leads p c t checked is_item input has.in_place has.kept k s right.item left in
        let none = ap length own in
        let same : jump_place p c t checked is_item k ≡ at = omega (arith, none) in
        follows-none p c t checked is_item input x y in_step runs (new_first p c t checked is_item input at) e.count s exec e.few e.comes found (ap (outcome names input x.memory) is ∙ goes)
        (subst (λ (place : ℕ). LeadsOn p c t checked is_item input (new_first p c t checked is_item input place) k s) same on)

    -- from the statement that is left the simplified form falls to what is jumped to at the end of the item
    falls : (stmt : Flat) (s : ℕ) → own_of p c t checked is_item k ≡ stmt ∷ [] → rest (kind_at p k) (decided p t k) ≡ Some s → LeadsTo (first_of F (at + 1)) s
    falls stmt s own left =
        let on = rest-leads p c t checked is_item input has.in_place has.kept k s right.item left in
        let one = ap length own in
        let same : jump_place p c t checked is_item k ≡ at + 1 = omega (arith, one) in
        subst (λ (place : ℕ). LeadsTo (first_of F place) s) same on.leads

    jumps-to : (s : ℕ) → Member (own_jumps (kind_at p k) (decided p t k)) s → LeadsTo (executable_of F (mark s)) s
    jumps-to s member = leads-at p c t checked is_item input (executable_of F (mark s)) (entry p c t checked is_item s) (jump-entry p c t checked is_item input has.in_place has.kept k s right.item member)

    -- ---- values

    right-words : kind_at p k ≢ End → AreRight words x.memory.store
    right-words other = right.words other

    next-same : next_word input y.memory ≡ next_word input x.memory
    next-same = ap (slice_get input) in_step.memory.taken

    value-same : (e : Expr) → AreRight words x.memory.store → IsProper names e → value_in names y.memory (folded names checked words e) ≡ value_in names x.memory e
    value-same e is_right proper =
        ap (λ (store : List ℤ). value names store None (folded names checked words e)) in_step.memory.store
        ∙ folded-value names checked words x.memory.store None is_right right.holds e proper

    -- ---- assignment and PRINT

    pub assign-follows : (target : Access) (e : Expr) (next : ℕ) → exec.kind ≡ Assign target e next → FollowsIt
    assign-follows target e next is =
        let kind = Assign target e next in
        let kind_is = kind-is kind is in
        let proper = subst (IsExecutable names) kind_is right.proper in
        let is_right = right-words (λ end. let no : kind ≡ End = sym kind_is ∙ end in cc) in
        let new_target = folded_access names checked words target in
        let new_e = folded names checked words e in
        let stmt : Flat = Assignment new_target new_e in
        let own : own_of p c t checked is_item k ≡ stmt ∷ [] = own-by kind (decided p t k) is refl in
        let leads = falls stmt next own (rest-by kind (decided p t k) is refl) in
        let m = x.memory in
        let new = y.memory in
        let word = next_word input m in
        let alike = folded-assigned names checked words m.store is_right right.holds word target e proper in
        let place_is : place names new.store (next_word input new) new_target ≡ place names m.store word target =
        ap (λ (store : List ℤ). place names store (next_word input new) new_target) in_step.memory.store
        ∙ ap (λ w. place names m.store w new_target) next-same
        ∙ folded-place names checked words m.store is_right right.holds word target proper.access in
        let value_is : value names new.store (next_word input new) new_e ≡ value names m.store word e =
        ap (λ (store : List ℤ). value names store (next_word input new) new_e) in_step.memory.store
        ∙ ap (λ w. value names m.store w new_e) next-same
        ∙ alike.value in
        let taken : new.taken + words_taken new_e ≡ m.taken + words_taken e = ap (λ n. n + words_taken new_e) in_step.memory.taken ∙ ap (λ n. m.taken + n) alike.taken in
        let new_next = first_of F (at + 1) in
        let old = assigned m next (m.taken + words_taken e) (place names m.store word target) (value names m.store word e) in
        own-follows kind stmt is refl own (let a = access-operations names checked words target in let b = folded-operations names checked words e in omega (arith, a, b))
        (subst (λ (w : Result ℕ Trap). MeetsIt old (assigned new new_next (new.taken + words_taken new_e) w (value names new.store (next_word input new) new_e))) (sym place_is)
        (subst (λ (v : Result ℤ Trap). MeetsIt old (assigned new new_next (new.taken + words_taken new_e) (place names m.store word target) v)) (sym value_is)
        (assigned-meets p c t checked is_item input m new in_step.memory next new_next (m.taken + words_taken e) (new.taken + words_taken new_e) 0 taken leads (place names m.store word target) (value names m.store word e))))

    pub print-follows : (items : List Item) (next : ℕ) → exec.kind ≡ Print items next → FollowsIt
    print-follows items next is =
        let kind = Print items next in
        let kind_is = kind-is kind is in
        let proper = subst (IsExecutable names) kind_is right.proper in
        let is_right = right-words (λ end. let no : kind ≡ End = sym kind_is ∙ end in cc) in
        let new_items = map (folded_item names checked words) items in
        let stmt : Flat = Output new_items in
        let own : own_of p c t checked is_item k ≡ stmt ∷ [] = own-by kind (decided p t k) is refl in
        let leads = falls stmt next own (rest-by kind (decided p t k) is refl) in
        let line_is : line_of names y.memory.store new_items ≡ line_of names x.memory.store items =
        ap (λ (store : List ℤ). line_of names store new_items) in_step.memory.store
        ∙ folded-line names checked words x.memory.store is_right right.holds items proper in
        own-follows kind stmt is refl own (items-operations names checked words items)
        (subst (λ (l : Result (List ℕ) Trap). MeetsIt (printed x.memory next (line_of names x.memory.store items)) (printed y.memory (first_of F (at + 1)) l)) (sym line_is)
        (printed-meets p c t checked is_item input x.memory y.memory in_step.memory next (first_of F (at + 1)) leads (line_of names x.memory.store items)))

    -- ---- what goes on alone, and END

    pub pass-follows : (next : ℕ) → exec.kind ≡ Pass next → FollowsIt
    pass-follows next is = none-follows (Pass next) next is refl (own-by (Pass next) (decided p t k) is refl) (rest-by (Pass next) (decided p t k) is refl) refl

    pub end-follows : exec.kind ≡ End → FollowsIt
    end-follows is = own-follows End Finish is refl (own-by End (decided p t k) is refl) (omega arith) tt

    -- ---- branches

    -- where the table decides, nothing is left of a branch
    branch-decided : (kind : ExecKind) (i : ℕ) → exec.kind ≡ kind → is_increment kind ≡ false → decided p t k ≡ Some i → left_of p checked words mark kind (Some i) ≡ [] → rest kind (Some i) ≡ Some (slice_index (successors kind) i) → FollowsIt
    branch-decided kind i is other told none left =
        let kind_is = kind-is kind is in
        let goes : outcome names input x.memory kind ≡ Goes (slice_index (successors kind) i) x.memory [] = subst (λ (a : ExecKind). outcome names input x.memory a ≡ Goes (slice_index (successors a) i) x.memory []) kind_is (right.goes i told) in
        none-follows kind (slice_index (successors kind) i) is other (own-by kind (Some i) is told ∙ none) (rest-by kind (Some i) is told ∙ left) goes

    -- from the test of a logical IF control goes on to its GO TO
    then-leads : (stmt : Flat) (cond : Expr) (s : ℕ) → stmt ≡ LogicalIf cond (mark s) → own_of p c t checked is_item k ≡ stmt ∷ [] → Member (own_jumps (kind_at p k) (decided p t k)) s → LeadsTo (first_of F at + 1) s
    then-leads stmt cond s is own member =
        let to = jump-entry p c t checked is_item input has.in_place has.kept k s right.item member in
        let follows : following F at stmt ≡ Some (Pass (executable_of F (mark s))) = ap (following F at) is in
        let new_found = has.in_place.second at (item_line p c t checked is_item k stmt) (Pass (executable_of F (mark s))) (found-own stmt own) follows in
        record {
          extra = 1;
          most = omega arith;
          comes = λ z z_runs z_at. comes-pass (new_form p c t checked is_item input) input z _ (entry p c t checked is_item s) z_runs (ap (slice_get (executables F)) z_at ∙ new_found) (ap Pass to);
        }

    pub test-follows : (cond : Expr) (a b : ℕ) (d : Option ℕ) → exec.kind ≡ Test cond a b → decided p t k ≡ d → FollowsIt
    test-follows cond a b (Some i) is told = branch-decided (Test cond a b) i is refl told refl refl
    test-follows cond a b None is told =
        let kind = Test cond a b in
        let kind_is = kind-is kind is in
        let proper = subst (IsExecutable names) kind_is right.proper in
        let is_right = right-words (λ end. let no : kind ≡ End = sym kind_is ∙ end in cc) in
        let new_cond = folded names checked words cond in
        let stmt : Flat = LogicalIf new_cond (mark a) in
        let own : own_of p c t checked is_item k ≡ stmt ∷ [] = own-by kind None is told in
        let leads = falls stmt b own (rest-by kind None is told) in
        let member : Member (own_jumps (kind_at p k) (decided p t k)) a = subst (λ (xs : List ℕ). Member xs a) (sym (jumps-by kind None is told)) (inl refl) in
        let to_then = then-leads stmt new_cond a refl own member in
        let new_at : ℤ → ℕ = λ z. if is_true z then first_of F at + 1 else first_of F (at + 1) in
        own-follows kind stmt is refl own (let a = folded-operations names checked words cond in omega (arith, a))
        (subst (λ (v : Result ℤ Trap). MeetsIt (outcome names input x.memory kind) (branched y.memory new_at v)) (sym (value-same cond is_right proper.proper))
        (branched-meets p c t checked is_item input x.memory y.memory in_step.memory (λ z. if is_true z then a else b) new_at
        (test-leads p c t checked is_item input a b (first_of F at + 1) (first_of F (at + 1)) to_then leads)
        (value_in names x.memory cond)))

    pub sign-follows : (e : Expr) (a b s : ℕ) (d : Option ℕ) → exec.kind ≡ Sign e a b s → decided p t k ≡ d → FollowsIt
    sign-follows e a b s (Some i) is told = branch-decided (Sign e a b s) i is refl told refl refl
    sign-follows e a b s None is told =
        let kind = Sign e a b s in
        let kind_is = kind-is kind is in
        let proper = subst (IsExecutable names) kind_is right.proper in
        let is_right = right-words (λ end. let no : kind ≡ End = sym kind_is ∙ end in cc) in
        let stmt : Flat = ArithmeticIf (folded names checked words e) (mark a) (mark b) (mark s) in
        let own : own_of p c t checked is_item k ≡ stmt ∷ [] = own-by kind None is told in
        let to : (j : ℕ) → Member (a ∷ b ∷ s ∷ []) j → LeadsTo (executable_of F (mark j)) j = λ j member. jumps-to j (subst (λ (xs : List ℕ). Member xs j) (sym (jumps-by kind None is told)) member) in
        let new_at = by_sign (executable_of F (mark a)) (executable_of F (mark b)) (executable_of F (mark s)) in
        own-follows kind stmt is refl own (let a = folded-operations names checked words e in omega (arith, a))
        (subst (λ (v : Result ℤ Trap). MeetsIt (outcome names input x.memory kind) (branched y.memory new_at v)) (sym (value-same e is_right proper.proper))
        (branched-meets p c t checked is_item input x.memory y.memory in_step.memory (by_sign a b s) new_at
        (sign-leads p c t checked is_item input a b s (executable_of F (mark a)) (executable_of F (mark b)) (executable_of F (mark s)) (to a (inl refl)) (to b (inr (inl refl))) (to s (inr (inr (inl refl)))))
        (value_in names x.memory e)))

    pub pick-follows : (e : Expr) (targets : List ℕ) (other : ℕ) (d : Option ℕ) → exec.kind ≡ Pick e targets other → decided p t k ≡ d → FollowsIt
    pick-follows e targets other (Some i) is told = branch-decided (Pick e targets other) i is refl told refl refl
    pick-follows e targets other None is told =
        let kind = Pick e targets other in
        let kind_is = kind-is kind is in
        let proper = subst (IsExecutable names) kind_is right.proper in
        let is_right = right-words (λ end. let no : kind ≡ End = sym kind_is ∙ end in cc) in
        let stmt : Flat = ComputedGoTo (folded names checked words e) (map mark targets) in
        let own : own_of p c t checked is_item k ≡ stmt ∷ [] = own-by kind None is told in
        let leads = falls stmt other own (rest-by kind None is told) in
        let to : (j : ℕ) → Member targets j → LeadsTo (executable_of F (mark j)) j = λ j member. jumps-to j (subst (λ (xs : List ℕ). Member xs j) (sym (jumps-by kind None is told)) member) in
        let f : ℕ → ℕ = λ j. executable_of F (mark j) in
        let by : List ℕ → ℤ → ℕ = λ xs. by_number xs (first_of F (at + 1)) (pos (length xs)) in
        let met : MeetsIt (outcome names input x.memory kind) (branched y.memory (by (map f targets)) (value_in names x.memory e)) =
        branched-meets p c t checked is_item input x.memory y.memory in_step.memory (by_number targets other (pos (length targets))) (by (map f targets))
        (pick-leads p c t checked is_item input f targets other (first_of F (at + 1)) to leads)
        (value_in names x.memory e) in
        own-follows kind stmt is refl own (let a = folded-operations names checked words e in omega (arith, a))
        (subst (λ (v : Result ℤ Trap). MeetsIt (outcome names input x.memory kind) (branched y.memory (by (map (executable_of F) (map mark targets))) v)) (sym (value-same e is_right proper.0.proper))
        (subst (λ (xs : List ℕ). MeetsIt (outcome names input x.memory kind) (branched y.memory (by xs) (value_in names x.memory e))) (sym (map-map (executable_of F) mark targets)) met))

    -- ---- DO

    -- what the memories of both programs need for a DO
    differs : (n : ℕ) → n < p.loops → is_item (do_start p.execs n) ≡ true → (j : ℕ) → j < p.loops → is_item (do_start p.execs j) ≡ true → j ≢ n → new_number p c t checked is_item j ≢ new_number p c t checked is_item n
    differs n few item j less kept other = numbers-differ p c t checked is_item has.kept has.loops j n less few kept item other

    pub do-follows : (n var : ℕ) (first last step : Expr) (body exit : ℕ) → exec.kind ≡ DoStart n var first last step body exit → FollowsIt
    do-follows n var first last step body exit is =
        let kind = DoStart n var first last step body exit in
        let kind_is = kind-is kind is in
        let proper = subst (IsExecutable names) kind_is right.proper in
        let is_right = right-words (λ end. let no : kind ≡ End = sym kind_is ∙ end in cc) in
        let loop : Loop = record { number = n; variable = var; body = body; exit = exit } in
        let begins_it : begun_at p.execs k ≡ Some loop = ap begun_in found ∙ ap begun is in
        let few = has.loops.starts k loop begins_it in
        let start_is : k ≡ do_start p.execs n = (has.loops.each n few).one_start k loop begins_it refl in
        let item : is_item (do_start p.execs n) ≡ true = subst (λ j. is_item j ≡ true) start_is right.item in
        let l = loop-at n few item in
        let e = end-at n few l in
        let same : Some loop ≡ Some l.loop = sym begins_it ∙ ap (begun_at p.execs) start_is ∙ l.begins in
        let body_is : l.loop.body ≡ body = cc in
        let exit_is : l.loop.exit ≡ exit = cc in
        let stmt : Flat = DoLoop (mark (do_next p.execs n)) var (folded names checked words first) (folded names checked words last) (folded names checked words step) in
        let own : own_of p c t checked is_item k ≡ stmt ∷ [] = own-by kind (decided p t k) is refl in
        let to_body : LeadsTo (first_of F (at + 1)) body =
        subst (λ (b : ℕ). LeadsTo (first_of F (at + 1)) b) body_is
        (subst (λ (j : ℕ). LeadsTo (first_of F (after_mark p c t checked is_item j + 1)) l.loop.body) (sym start_is) (body-leads n l)) in
        let end_place = marks-stand p c t checked is_item (do_next p.execs n) (has.kept.within (do_next p.execs n) e.item) e.marked in
        let to_exit : LeadsTo (beyond F (mark (do_next p.execs n))) exit =
        subst (λ (b : ℕ). LeadsTo (beyond F (mark (do_next p.execs n))) b) exit_is
        (subst (λ (place : ℕ). LeadsTo (first_of F (place + 1)) l.loop.exit) (sym end_place) e.leads) in
        let number_is : new_number p c t checked is_item n ≡ loop_at F at = ap (λ j. loop_at F (after_mark p c t checked is_item j)) (sym start_is) in
        let given : All (IsOfKind names Integer) (first ∷ last ∷ step ∷ []) = proper.integers in
        let value_of : (a : Expr) → IsOfKind names Integer a → value_in names y.memory (folded names checked words a) ≡ value_in names x.memory a = λ a of_kind. value-same a is_right of_kind.proper in
        let old = outcome names input x.memory kind in
        let begun_new : (number : ℕ) (u v w : Result ℤ Trap) → Outcome = λ number u v w. do_begun y.memory number (place_of names var) (first_of F (at + 1)) (beyond F (mark (do_next p.execs n))) u v w in
        let met : MeetsIt old (begun_new (new_number p c t checked is_item n) (value_in names x.memory first) (value_in names x.memory last) (value_in names x.memory step)) =
        begun-meets p c t checked is_item input x.memory y.memory in_step.memory n few item right.count_room right.step_room
        (number-within p c t checked is_item has.kept has.loops n few item) (differs n few item)
        (place_of names var) body exit (first_of F (at + 1)) (beyond F (mark (do_next p.execs n))) to_body to_exit
        (value_in names x.memory first) (value_in names x.memory last) (value_in names x.memory step) in
        own-follows kind stmt is refl own
        (let a = folded-operations names checked words first in let b = folded-operations names checked words last in let d = folded-operations names checked words step in omega (arith, a, b, d))
        (subst (λ (number : ℕ). MeetsIt old (begun_new number (value_in names y.memory (folded names checked words first)) (value_in names y.memory (folded names checked words last)) (value_in names y.memory (folded names checked words step)))) number_is
        (subst (λ (u : Result ℤ Trap). MeetsIt old (begun_new (new_number p c t checked is_item n) u (value_in names y.memory (folded names checked words last)) (value_in names y.memory (folded names checked words step)))) (sym (value_of first (All-get (IsOfKind names Integer) (first ∷ last ∷ step ∷ []) 0 first given refl)))
        (subst (λ (v : Result ℤ Trap). MeetsIt old (begun_new (new_number p c t checked is_item n) (value_in names x.memory first) v (value_in names y.memory (folded names checked words step)))) (sym (value_of last (All-get (IsOfKind names Integer) (first ∷ last ∷ step ∷ []) 1 last given refl)))
        (subst (λ (w : Result ℤ Trap). MeetsIt old (begun_new (new_number p c t checked is_item n) (value_in names x.memory first) (value_in names x.memory last) w)) (sym (value_of step (All-get (IsOfKind names Integer) (first ∷ last ∷ step ∷ []) 2 step given refl)))
        met))))

    -- the increment stands after its mark
    increment-stands : (n : ℕ) (l : NewLoop n) → k ≡ do_next p.execs n → has_mark p t is_item k ≡ true
        → slice_get (executables F) (first_of F (begins p c t checked is_item k) + 1) ≡ Some (record { line = line_in (slice_get p.execs k); kind = increment F (after_mark p c t checked is_item (do_start p.execs n)) (first_of F (begins p c t checked is_item k + 1)) })
    increment-stands n l next_is marked =
        let place = begins p c t checked is_item k in
        let next = first_of F (place + 1) in
        let number : number_at F place ≡ mark (do_next p.execs n) = number-of-mark p c t checked is_item k within marked ∙ ap mark next_is in
        let ends : is_end F (number_at F place) ≡ true = ap (is_end F) number ∙ ends-there p c t checked is_item has.kept has.loops n l in
        let d : loop_to F (number_at F place) ≡ after_mark p c t checked is_item (do_start p.execs n) = ap (loop_to F) number ∙ loop-found p c t checked is_item has.kept has.loops n l in
        let follows : following F place Mark ≡ Some (increment F (loop_to F (number_at F place)) next) = ap (λ b. if b then Some (increment F (loop_to F (number_at F place)) next) else None) ends in
        let at_it = mark-at p c t checked is_item k within right.item marked in
        has.in_place.second place (item_line p c t checked is_item k Mark) (increment F (loop_to F (number_at F place)) next) at_it follows
        ∙ ap (λ j. Some (record { line = line_in (slice_get p.execs k); kind = increment F j next })) d

    -- one step leads over the mark to the increment
    over-mark : has_mark p t is_item k ≡ true → Comes (new_form p c t checked is_item input) input y (first_of F (begins p c t checked is_item k) + 1) 1
    over-mark marked =
        let place = begins p c t checked is_item k in
        let at_it = mark-at p c t checked is_item k within right.item marked in
        let new_found = has.in_place.first place (item_line p c t checked is_item k Mark) at_it in
        comes-pass (new_form p c t checked is_item input) input y _ (first_of F place + 1) y-runs (ap (slice_get (executables F)) (in_step.position runs) ∙ new_found) refl

    pub next-follows : (n var body exit : ℕ) → exec.kind ≡ DoNext n var body exit → FollowsIt
    next-follows n var body exit is =
        let kind = DoNext n var body exit in
        let loop : Loop = record { number = n; variable = var; body = body; exit = exit } in
        let increments_it : incremented_at p.execs k ≡ Some loop = ap incremented_in found ∙ ap incremented is in
        let few = has.loops.nexts k loop increments_it in
        let next_is : k ≡ do_next p.execs n = (has.loops.each n few).one_next k loop increments_it refl in
        let start_item : is_item (do_start p.execs n) ≡ true = has.kept.starts n few (subst (λ j. is_item j ≡ true) next_is right.item) in
        let l = loop-at n few start_item in
        let e = end-at n few l in
        let same : kind ≡ DoNext l.loop.number l.loop.variable l.loop.body l.loop.exit = sym (kind-is kind is) ∙ ap (kind_at p) next_is ∙ l.next in
        let var_is : l.loop.variable ≡ var = cc in
        let body_is : l.loop.body ≡ body = cc in
        let exit_is : l.loop.exit ≡ exit = cc in
        let marked : has_mark p t is_item k ≡ true = ap (has_mark p t is_item) next_is ∙ e.marked in
        let d = after_mark p c t checked is_item (do_start p.execs n) in
        let place = begins p c t checked is_item k in
        let to_body : LeadsTo (first_of F (d + 1)) body = subst (λ (b : ℕ). LeadsTo (first_of F (d + 1)) b) body_is (body-leads n l) in
        let to_exit : LeadsTo (first_of F (place + 1)) exit =
        subst (λ (b : ℕ). LeadsTo (first_of F (place + 1)) b) exit_is
        (subst (λ (j : ℕ). LeadsTo (first_of F (begins p c t checked is_item j + 1)) l.loop.exit) (sym next_is) e.leads) in
        let new_var : variable_in (slice_get F d) ≡ var = ap variable_in (loop-stands p c t checked is_item has.kept has.loops n l) ∙ var_is in
        let old = outcome names input x.memory kind in
        let met : MeetsIt old (do_incremented y.memory (new_number p c t checked is_item n) (place_of names var) (first_of F (d + 1)) (first_of F (place + 1))) =
        incremented-meets p c t checked is_item input x.memory y.memory in_step.memory n few start_item right.count_room right.step_room
        (number-within p c t checked is_item has.kept has.loops n few start_item) (differs n few start_item)
        (place_of names var) body exit (first_of F (d + 1)) (first_of F (place + 1)) to_body to_exit in
        let meets : MeetsIt old (outcome names input y.memory (increment F d (first_of F (place + 1)))) =
        subst (λ (v : ℕ). MeetsIt old (do_incremented y.memory (new_number p c t checked is_item n) (place_of names v) (first_of F (d + 1)) (first_of F (place + 1)))) (sym new_var) met in
        follows-own p c t checked is_item input x y in_step runs (first_of F place + 1) 1 exec
        (record { line = line_in (slice_get p.execs k); kind = increment F d (first_of F (place + 1)) }) (omega arith) (over-mark marked) found
        (increment-stands n l next_is marked) (ap line_in found) (subst (λ (x_kind : ExecKind). 3 ≤ 2 * exec_operations x_kind) (sym is) (omega arith))
        (subst (λ (x_kind : ExecKind). MeetsIt (outcome names input x.memory x_kind) (outcome names input y.memory (increment F d (first_of F (place + 1))))) (sym is) meets)

    -- ---- each kind

    kind-follows : (kind : ExecKind) → exec.kind ≡ kind → FollowsIt
    kind-follows (Assign target e next) is = assign-follows target e next is
    kind-follows (Print items next) is = print-follows items next is
    kind-follows (Pass next) is = pass-follows next is
    kind-follows (Test cond a b) is = test-follows cond a b (decided p t k) is refl
    kind-follows (Sign e a b s) is = sign-follows e a b s (decided p t k) is refl
    kind-follows (Pick e targets other) is = pick-follows e targets other (decided p t k) is refl
    kind-follows (DoStart n var first last step body exit) is = do-follows n var first last step body exit is
    kind-follows (DoNext n var body exit) is = next-follows n var body exit is
    kind-follows End is = end-follows is

    -- at most three steps of the simplified form follow a step of the program
    pub step-follows : FollowsIt
    step-follows = kind-follows exec.kind refl
