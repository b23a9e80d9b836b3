-- No GO TO of the simplified form stands directly before its own mark: where nothing stands between, no item does.
use Rattle.std.proofs.Common.{◌≡◌, ℕ, suc, ◌+◌, ◌<◌, ◌≤◌, ◌⊎◌, Bool, true, false, ◌&&◌, ◌==◌, List, [], ◌∷◌, length, Option, Some, None, refl, sym, ap, subst, ◌∙◌, inl, inr, ⊎_elim, arith}
use Rattle.std.specs.Prelude.{if◌then◌else◌, slice_get, slice_index}
use Rattle.std.proofs.lemmas.Bool.{cases_Bool, cases_lt, eq-eqb, eqb-true, false≢true}
use Rattle.list_laws.specs.Member.{Member}
use Rattle.list_laws.proofs.Members.{Member-left, Member-right}
use Rattle.f77_tree.specs.declared.programs.Exec.{Exec}
use Rattle.f77_tree.specs.declared.programs.ExecKind.{ExecKind}
use Rattle.f77_tree.specs.declared.programs.ExecKind.TheVariants.{Assign, Print, Pass, Test, Sign, Pick, DoStart, DoNext, End}
use Rattle.f77_tree.specs.declared.programs.Program.{Program}
use Rattle.f77_tree.specs.Control.{successors}
use Rattle.f77_tree.specs.Loops.{Loop, begun, begun_in, do_start, do_next, incremented, incremented_in, AreLoops}
use Rattle.alias_classes.specs.Classes.{ClassTable}
use Rattle.cfg_build.specs.Passes.{kind_in}
use Rattle.const_prop.specs.Table.{Knowns}
use Rattle.flat_programs.specs.declared.statements.Flat.TheVariants.{Mark, Jump}
use Rattle.flat_programs.specs.declared.statements.FlatLine.{FlatLine}
use Rattle.flat_programs.specs.Marks.{place_of}
use Rattle.simplified_forms.specs.Items.{kind_at}
use Rattle.simplified_laws.specs.LiveWays.{MayTake}
use Rattle.simplified_forms.specs.Simplified.{decided, is_increment, is_next, items_before, jumps, last_jump, mark_of, own_jumps, rest, words_at}
use Rattle.simplified_laws.proofs.FlatItems.{AreClosedItems, IsItsJump, IsItsMark, IsItsOwn, all, begins, increment-mark, jumped-mark, left_over, marked, marked-some, number, origin, part, part-size, which}
use Rattle.simplified_laws.proofs.ItemPlaces.{marks-stand}
use Rattle.simplified_laws.proofs.ItemsBefore.{before-item, before-same, next-item}
use Rattle.simplified_laws.proofs.ListParts.{part-before, size-more, size-up}
use Rattle.simplified_laws.proofs.LoopEnds.{begun-left}
use Rattle.simplified_laws.proofs.OwnStatements.{own-is}
use Rattle.simplified_laws.proofs.WaysOn.{IsWay, ByExit, ByJump, ByNext, ByRest, ByStart, way-of}

-- an item from which control may go to an executable
pub record IsComeFrom (p : Program) (t : Knowns) (is_item : ℕ → Bool) (j : ℕ) : Type 0 where
  pub from : ℕ
  pub item : is_item from ≡ true
  pub exec : Exec
  pub found : slice_get p.execs from ≡ Some exec
  pub place : ℕ
  pub exists : place < length (successors exec.kind)
  pub may : MayTake exec.kind (decided p t from) place
  pub is : slice_index (successors exec.kind) place ≡ j

-- Control comes to each item from another one, but to the first executable, to END, and to increments.
abbrev pub AreComeTo : Program → Knowns → (is_item : ℕ → Bool) → Type 0
AreComeTo p t is_item = (j : ℕ) → 0 < j → suc j < length p.execs → is_item j ≡ true → is_increment (kind_at p j) ≡ false → IsComeFrom p t is_item j

next-rest : (kind : ExecKind) (loop : Loop) (d : Option ℕ) → incremented kind ≡ Some loop → rest kind d ≡ Some loop.exit
next-rest (Assign target value next) loop d is = absurd cc
next-rest (Print items next) loop d is = absurd cc
next-rest (Pass next) loop d is = absurd cc
next-rest (Test c a b) loop d is = absurd cc
next-rest (Sign e a b c) loop d is = absurd cc
next-rest (Pick e targets other) loop d is = absurd cc
next-rest (DoStart loop_no var first last step body exit) loop d is = absurd cc
next-rest (DoNext loop_no var body exit) loop d is =
    let same : record { number = loop_no; variable = var; body = body; exit = exit } ≡ loop = cc in
    ap (λ (x : Loop). Some x.exit) same
next-rest End loop d is = absurd cc

next-rest-in : (o : Option Exec) (loop : Loop) (d : Option ℕ) → incremented_in o ≡ Some loop → rest (kind_in o) d ≡ Some loop.exit
next-rest-in None loop d is = let no : None ≡ Some loop = is in absurd cc
next-rest-in (Some exec) loop d is = next-rest exec.kind loop d is

start-kind : (o : Option Exec) (loop : Loop) → begun_in o ≡ Some loop → begun (kind_in o) ≡ Some loop
start-kind None loop is = let no : None ≡ Some loop = is in absurd cc
start-kind (Some exec) loop is = is

parts-true : (a b : Bool) → (a && b) ≡ true → b ≡ true
parts-true true b is = is
parts-true false b is = let no : false ≡ true = is in absurd (false≢true no)

-- a last jump is there, or the successor that is left is the next item
left-of : (is_item : ℕ → Bool) (k s : ℕ) → (last_jump is_item k (Some s) ≡ s ∷ []) ⊎ (is_next is_item k s ≡ true)
left-of is_item k s = ⊎_elim
    (λ (yes : is_next is_item k s ≡ true). inr yes)
    (λ (no : is_next is_item k s ≡ false). inl (ap (λ b. if b then [] else s ∷ []) no))
    (cases_Bool (is_next is_item k s))

-- where a last jump is there, it goes to the successor that is left, and that isn't the next item
record IsLeft (is_item : ℕ → Bool) (k s : ℕ) (o : Option ℕ) : Type 0 where
  left : o ≡ Some s
  other : is_next is_item k s ≡ false

left-by : (is_item : ℕ → Bool) (k s x : ℕ) (b : Bool) → is_next is_item k x ≡ b → (if b then [] else x ∷ []) ≡ s ∷ [] → IsLeft is_item k s (Some x)
left-by is_item k s x true next is = let no : [] ≡ s ∷ [] = is in absurd cc
left-by is_item k s x false next is =
    let lists : x ∷ [] ≡ s ∷ [] = is in
    let same : x ≡ s = cc in
    record { left = ap Some same; other = ap (is_next is_item k) (sym same) ∙ next }

left-told : (is_item : ℕ → Bool) (k s : ℕ) (o : Option ℕ) → last_jump is_item k o ≡ s ∷ [] → IsLeft is_item k s o
left-told is_item k s None is = let no : [] ≡ s ∷ [] = is in absurd cc
left-told is_item k s (Some x) is = left-by is_item k s x (is_next is_item k x) refl is

module _ (p : Program) (c : ClassTable) (t : Knowns) (checked : Bool) (is_item : ℕ → Bool) (closed : AreClosedItems p t is_item) (loops : AreLoops p.execs p.loops) (come : AreComeTo p t is_item) where
  abbrev before : ℕ → ℕ
  before k = items_before is_item k

  abbrev left : ℕ → Option ℕ
  left k = rest (kind_at p k) (decided p t k)

  -- the item before an executable, which goes on to it alone, or begins a DO
  record IsBefore (j : ℕ) : Type 0 where
    from : ℕ
    item : is_item from ≡ true
    next : before j ≡ before from + 1
    goes : (left from ≡ Some j) ⊎ (left from ≡ None)

  module _ (j : ℕ) (item : is_item j ≡ true) (silent : marked p c t checked is_item j ≡ false) where
    not-jumped : (k : ℕ) → is_item k ≡ true → Member (jumps p t is_item k) j → ⊥
    not-jumped k from m = false≢true (sym silent ∙ jumped-mark p c t checked is_item closed k j from m)

    by-rest : (k : ℕ) → is_item k ≡ true → left k ≡ Some j → IsBefore j
    by-rest k from goes = ⊎_elim
        (λ (jump : last_jump is_item k (Some j) ≡ j ∷ []).
        let among : Member (left_over p c t checked is_item k) j = subst (λ (xs : List ℕ). Member xs j) (sym (ap (last_jump is_item k) goes ∙ jump)) (inl refl) in
        absurd (not-jumped k from (Member-right (own_jumps (kind_at p k) (decided p t k)) (left_over p c t checked is_item k) j among)))
        (λ (yes : is_next is_item k j ≡ true).
        record { from = k; item = from; next = eqb-true (before j) (before k + 1) (parts-true (is_item j) (before j == before k + 1) yes); goes = inl goes })
        (left-of is_item k j)

    by-start : (n : ℕ) → n < p.loops → is_item (do_start p.execs n) ≡ true → suc (do_start p.execs n) ≡ j → IsBefore j
    by-start n few from is =
        let loop = loops.each n few in
        let more = before-item is_item (do_start p.execs n) from in
        let same : do_start p.execs n + 1 ≡ j = omega (arith, is) in
        let e = ap before same in
        record {
          from = do_start p.execs n;
          item = from;
          next = omega (arith, more, e);
          goes = inr (begun-left p c t checked is_item (do_start p.execs n) loop.loop (decided p t (do_start p.execs n)) (start-kind (slice_get p.execs (do_start p.execs n)) loop.loop loop.begins));
        }

    by-way : (k : ℕ) (exec : Exec) → is_item k ≡ true → slice_get p.execs k ≡ Some exec → IsWay exec.kind (decided p t k) j → IsBefore j
    by-way k exec from found (ByJump m) =
        let among : Member (own_jumps (kind_at p k) (decided p t k)) j = subst (λ (x : ExecKind). Member (own_jumps x (decided p t k)) j) (sym (ap kind_in found)) m in
        absurd (not-jumped k from (Member-left (own_jumps (kind_at p k) (decided p t k)) (left_over p c t checked is_item k) j among))
    by-way k exec from found (ByRest is) = by-rest k from (ap (λ (x : ExecKind). rest x (decided p t k)) (ap kind_in found) ∙ is)
    by-way k exec from found (ByStart loop is body) =
        let begins : begun_in (slice_get p.execs k) ≡ Some loop = ap begun_in found ∙ is in
        let few = loops.starts k loop begins in
        let of = loops.each loop.number few in
        let start = of.one_start k loop begins refl in
        let both : Some of.loop ≡ Some loop = sym of.begins ∙ ap (λ i. begun_in (slice_get p.execs i)) (sym start) ∙ begins in
        let same : of.loop ≡ loop = cc in
        by-start loop.number few (subst (λ i. is_item i ≡ true) start from) (sym of.body ∙ ap (λ (x : Loop). x.body) same ∙ body)
    by-way k exec from found (ByNext loop is body) =
        let increments : incremented_in (slice_get p.execs k) ≡ Some loop = ap incremented_in found ∙ is in
        let few = loops.nexts k loop increments in
        let of = loops.each loop.number few in
        let next = of.one_next k loop increments refl in
        let both : Some of.loop ≡ Some loop = sym of.increments ∙ ap (λ i. incremented_in (slice_get p.execs i)) (sym next) ∙ increments in
        let same : of.loop ≡ loop = cc in
        by-start loop.number few (closed.starts loop.number few (subst (λ i. is_item i ≡ true) next from)) (sym of.body ∙ ap (λ (x : Loop). x.body) same ∙ body)
    by-way k exec from found (ByExit loop is exit) =
        let begins : begun_in (slice_get p.execs k) ≡ Some loop = ap begun_in found ∙ is in
        let few = loops.starts k loop begins in
        let of = loops.each loop.number few in
        let start = of.one_start k loop begins refl in
        let both : Some of.loop ≡ Some loop = sym of.begins ∙ ap (λ i. begun_in (slice_get p.execs i)) (sym start) ∙ begins in
        let same : of.loop ≡ loop = cc in
        let kept = closed.dos loop.number few (subst (λ i. is_item i ≡ true) start from) in
        let next = do_next p.execs loop.number in
        by-rest next kept (next-rest-in (slice_get p.execs next) of.loop (decided p t next) of.increments ∙ ap (λ (x : Loop). Some x.exit) same ∙ ap Some exit)

    come-before : 0 < j → suc j < length p.execs → is_increment (kind_at p j) ≡ false → IsBefore j
    come-before some less other =
        let f = come j some less item other in
        by-way f.from f.exec f.item f.found (way-of f.exec.kind (decided p t f.from) f.place j f.exists f.may f.is)

  -- ---- the law

  abbrev at : ℕ → ℕ
  at k = begins p c t checked is_item k

  abbrev size : ℕ → ℕ
  size k = length (part p c t checked is_item k)

  -- an item without statements has no mark, and so it is no increment
  unmarked : (j : ℕ) → size j ≡ 0 → marked p c t checked is_item j ≡ false
  unmarked j none = ⊎_elim
      (λ (has : marked p c t checked is_item j ≡ true). let some = marked-some p c t checked is_item j has in absurd (omega (arith, some, none)))
      (λ (no : marked p c t checked is_item j ≡ false). no)
      (cases_Bool (marked p c t checked is_item j))

  no-increment : (j : ℕ) → is_item j ≡ true → size j ≡ 0 → is_increment (kind_at p j) ≡ false
  no-increment j item none = ⊎_elim
      (λ (is : is_increment (kind_at p j) ≡ true). let some = marked-some p c t checked is_item j (increment-mark p c t checked is_item j item is) in absurd (omega (arith, some, none)))
      (λ (no : is_increment (kind_at p j) ≡ false). no)
      (cases_Bool (is_increment (kind_at p j)))

  -- a jump to an item past items that have no statements
  past-none : (k s : ℕ) → is_item k ≡ true → left k ≡ Some s → is_next is_item k s ≡ false → k < s → is_item s ≡ true → at (k + 1) ≡ at s → ⊥
  past-none k s item goes other less target places =
      let n = next-item is_item k s item target less in
      let j = n.next in
      ⊎_elim
      (λ (earlier : j < s).
      let low = size-up (part p c t checked is_item) (k + 1) j (let after = n.after in omega (arith, after)) in
      let high = part-before (part p c t checked is_item) j s earlier in
      let none : size j ≡ 0 = omega (arith, low, high, places) in
      let after = n.after in
      let within = closed.within s target in
      let b = come-before j n.item (unmarked j none) (omega (arith, after)) (omega (arith, earlier, within)) (no-increment j n.item none) in
      let first = n.before in
      let second = b.next in
      let same : b.from ≡ k = before-same is_item b.from k b.item item (omega (arith, first, second)) in
      goes-other b.from j same earlier b.goes)
      (λ (le : s ≤ j).
      let up_to = n.up_to in
      let here : j ≡ s = omega (arith, le, up_to) in
      let counts : before s ≡ before k + 1 = ap before (sym here) ∙ n.before in
      let yes : is_next is_item k s ≡ true = both-true (is_item s) (before s == before k + 1) target (eq-eqb (before s) (before k + 1) counts) in
      false≢true (sym other ∙ yes))
      (cases_lt j s)
    where
      both-true : (a b : Bool) → a ≡ true → b ≡ true → (a && b) ≡ true
      both-true true b first second = second
      both-true false b first second = first

      goes-other : (from j : ℕ) → from ≡ k → j < s → (left from ≡ Some j) ⊎ (left from ≡ None) → ⊥
      goes-other from j same earlier (inl is) =
          let both : Some j ≡ Some s = sym is ∙ ap left same ∙ goes in
          let equal : j ≡ s = cc in
          omega (arith, equal, earlier)
      goes-other from j same earlier (inr is) =
          let no : None ≡ Some s = sym is ∙ ap left same ∙ goes in
          cc

  pub jumps-move : (place m : ℕ) (l : FlatLine) → slice_get (all p c t checked is_item) place ≡ Some l → l.stmt ≡ Jump m → place_of (all p c t checked is_item) m ≡ suc place → ⊥
  jumps-move place m l is jump there =
      let o = origin p c t checked is_item place l is in
      let k = o.exec in
      ⊎_elim
      (λ (its : IsItsMark p c t checked is_item k o.index l.stmt). let no : Mark ≡ Jump m = sym its.is ∙ jump in cc)
      (⊎_elim
      (λ (own : IsItsOwn p c t checked is_item k o.index l.stmt).
      let only = own-is p checked (words_at p c t checked is_item k) (mark_of p t is_item) (kind_at p k) (decided p t k) own.index l.stmt own.is in
      only.own.moves m jump)
      (λ (its : IsItsJump p c t checked is_item k o.index l.stmt).
      let s = its.target in
      let both : Jump (number p c t checked is_item s) ≡ Jump m = sym its.is ∙ jump in
      let same : number p c t checked is_item s ≡ m = cc in
      let among : Member (left_over p c t checked is_item k) s = subst (λ (xs : List ℕ). Member xs s) (sym its.left) (inl refl) in
      let jumped = Member-right (own_jumps (kind_at p k) (decided p t k)) (left_over p c t checked is_item k) s among in
      let mark = jumped-mark p c t checked is_item closed k s o.item jumped in
      let target = closed.jumps k s o.item jumped in
      let mark_place = ap (place_of (all p c t checked is_item)) same in
      let begins_here = marks-stand p c t checked is_item s (closed.within s target) mark in
      let more = size-more (part p c t checked is_item) k in
      let whole = part-size p c t checked is_item k o.item in
      let stands = o.stands in
      let last = its.stands in
      let places : at (k + 1) ≡ at s = omega (arith, mark_place, begins_here, there, more, whole, stands, last) in
      let left_is = left-told is_item k s (left k) its.left in
      let some = marked-some p c t checked is_item s mark in
      let after : k < s = ⊎_elim
      (λ (less : k < s). less)
      (λ (le : s ≤ k).
      let own = part-before (part p c t checked is_item) s (k + 1) (omega (arith, le)) in
      absurd (omega (arith, own, some, places)))
      (cases_lt k s) in
      past-none k s o.item left_is.left left_is.other after target places))
      (which p c t checked is_item k o.index l.stmt o.is)
