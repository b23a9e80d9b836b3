-- The DOs of the simplified form: where they stand, which numbers they have, and at which marks their ranges end.
use Rattle.std.proofs.Common.{◌≡◌, ◌≢◌, ℕ, zero, suc, ◌+◌, ◌-◌, ◌<◌, ◌≤◌, Bool, true, false, List, [], ◌∷◌, ◌++◌, length, take, get_or, flat_map, count_by, Option, Some, None, refl, sym, ap, ◌∙◌, ⊎_elim, arith}
use Rattle.std.specs.Prelude.{slice_get, nat_lt}
use Rattle.std.specs.List.{range_with_len}
use Rattle.std.proofs.Math.Seq.{take-append_seam}
use Rattle.std.proofs.lemmas.Bool.{cases_Bool, false≢true, cases_lt, eq-eqb, eqb-true, lt-ltb, ltb-true}
use Rattle.std.proofs.lemmas.List.Sums.{passes_at_first, position_or_len_is}
use Rattle.std.proofs.lemmas.Option.{slice_get-get_or, slice_get_within, get_or_from_slice_get}
use Rattle.list_laws.proofs.Counts.{bit, count-cons}
use Rattle.f77_tree.specs.declared.expressions.Expr.{Expr}
use Rattle.f77_tree.specs.declared.programs.Exec.{Exec}
use Rattle.f77_tree.specs.declared.programs.ExecKind.{ExecKind}
use Rattle.f77_tree.specs.declared.programs.ExecKind.TheVariants.{Assign, Print, Pass, Test, Sign, Pick, DoStart, DoNext, End}
use Rattle.f77_tree.specs.declared.programs.Program.{Program}
use Rattle.f77_tree.specs.Loops.{Loop, AreLoops, begun, begun_at, begun_in, do_start, do_next, incremented, incremented_in}
use Rattle.alias_classes.specs.Classes.{ClassTable}
use Rattle.cfg_build.specs.Passes.{kind_in}
use Rattle.const_prop.specs.Table.{Knowns}
use Rattle.flat_programs.specs.declared.statements.Flat.{Flat}
use Rattle.flat_programs.specs.declared.statements.Flat.TheVariants.{Mark, Assignment, Output, LogicalIf, ArithmeticIf, ComputedGoTo, DoLoop, Jump, Finish}
use Rattle.flat_programs.specs.declared.statements.FlatLine.{FlatLine}
use Rattle.flat_programs.specs.FlatForm.{IsSpan, range_end}
use Rattle.flat_programs.specs.Marks.{ends_at, is_end, is_loop, is_mark, loop_count, loop_to, mark_at as number_at, place_of}
use Rattle.simplified_forms.specs.Folding.{folded}
use Rattle.simplified_laws.specs.InStep.{after_mark, new_number}
use Rattle.simplified_forms.specs.Items.{kind_at}
use Rattle.simplified_forms.specs.Simplified.{decided, has_mark, is_increment, left_of, mark_of, words_at}
use Rattle.simplified_laws.proofs.FlatItems.{all as form, begins, marked-item, marked-some, own_of, part, AreClosedItems}
use Rattle.simplified_laws.proofs.FlatRanges.{range-alone, range-of}
use Rattle.simplified_laws.proofs.ItemPlaces.{line_list, mark-number, marks-before, marks-stand, split-at, statements-stand}
use Rattle.simplified_laws.proofs.ListParts.{one-part}
use Rattle.simplified_laws.proofs.ItemStands.{begins-next, item_line, own-at}

-- ---- counts

module _ {X : Type 0} (p : X → Bool) where
  -- of two that pass, the earlier one has fewer before it
  pub counts-less : (xs : List X) (a b : ℕ) (x : X) → slice_get xs a ≡ Some x → p x ≡ true → a < b → count_by p (take a xs) < count_by p (take b xs)
  counts-less [] a b x is passes less = absurd cc
  counts-less (y ∷ ys) zero zero x is passes less = absurd (omega (arith, less))
  counts-less (y ∷ ys) zero (suc b) x is passes less =
      let same : y ≡ x = cc in
      let more = count-cons p y (take b ys) in
      let one : bit (p y) ≡ 1 = ap (λ z. bit (p z)) same ∙ ap bit passes in
      omega (arith, more, one)
  counts-less (y ∷ ys) (suc a) zero x is passes less = absurd (omega (arith, less))
  counts-less (y ∷ ys) (suc a) (suc b) x is passes less =
      let more = count-cons p y (take a ys) in
      let also = count-cons p y (take b ys) in
      let rest = counts-less ys a b x is passes (omega (arith, less)) in
      omega (arith, more, also, rest)

  pub counts-within : (xs : List X) (a : ℕ) (x : X) → slice_get xs a ≡ Some x → p x ≡ true → count_by p (take a xs) < count_by p xs
  counts-within [] a x is passes = absurd cc
  counts-within (y ∷ ys) zero x is passes =
      let same : y ≡ x = cc in
      let more = count-cons p y ys in
      let one : bit (p y) ≡ 1 = ap (λ z. bit (p z)) same ∙ ap bit passes in
      omega (arith, more, one)
  counts-within (y ∷ ys) (suc a) x is passes =
      let more = count-cons p y (take a ys) in
      let also = count-cons p y ys in
      let rest = counts-within ys a x is passes in
      omega (arith, more, also, rest)

-- ---- the executable that begins a DO

pub record IsStart (kind : ExecKind) (loop : Loop) : Type 0 where
  pub first : Expr
  pub last : Expr
  pub step : Expr
  pub is : kind ≡ DoStart loop.number loop.variable first last step loop.body loop.exit

pub start-of : (kind : ExecKind) (loop : Loop) → begun kind ≡ Some loop → IsStart kind loop
start-of (Assign target value next) loop is = absurd cc
start-of (Print items next) loop is = absurd cc
start-of (Pass next) loop is = absurd cc
start-of (Test c a b) loop is = absurd cc
start-of (Sign e a b c) loop is = absurd cc
start-of (Pick e targets other) loop is = absurd cc
start-of (DoStart loop_no var first last step body exit) loop is =
    let same : record { number = loop_no; variable = var; body = body; exit = exit } ≡ loop = cc in
    record { first = first; last = last; step = step; is = ap (λ (l : Loop). DoStart l.number l.variable first last step l.body l.exit) same }
start-of (DoNext loop_no var body exit) loop is = absurd cc
start-of End loop is = absurd cc

pub start-in : (o : Option Exec) (loop : Loop) → begun_in o ≡ Some loop → IsStart (kind_in o) loop
start-in None loop is = let no : None ≡ Some loop = is in absurd cc
start-in (Some exec) loop is = start-of exec.kind loop is

pub next-of : (kind : ExecKind) (loop : Loop) → incremented kind ≡ Some loop → kind ≡ DoNext loop.number loop.variable loop.body loop.exit
next-of (Assign target value next) loop is = absurd cc
next-of (Print items next) loop is = absurd cc
next-of (Pass next) loop is = absurd cc
next-of (Test c a b) loop is = absurd cc
next-of (Sign e a b c) loop is = absurd cc
next-of (Pick e targets other) loop is = absurd cc
next-of (DoStart loop_no var first last step body exit) loop is = absurd cc
next-of (DoNext loop_no var body exit) loop is =
    let same : record { number = loop_no; variable = var; body = body; exit = exit } ≡ loop = cc in
    ap (λ (l : Loop). DoNext l.number l.variable l.body l.exit) same
next-of End loop is = absurd cc

pub next-in : (o : Option Exec) (loop : Loop) → incremented_in o ≡ Some loop → kind_in o ≡ DoNext loop.number loop.variable loop.body loop.exit
next-in None loop is = let no : None ≡ Some loop = is in absurd cc
next-in (Some exec) loop is = next-of exec.kind loop is

ends-range : (number : ℕ) (stmt : Flat) → ends_at number stmt ≡ true → range_end stmt ≡ number ∷ []
ends-range number (DoLoop end var first last step) passes = ap (λ n. n ∷ []) (eqb-true end number passes)
ends-range number Mark is = absurd cc
ends-range number (LogicalIf cond target) is = absurd cc
ends-range number (Assignment target value) is = absurd cc
ends-range number (Output items) is = absurd cc
ends-range number (ArithmeticIf value below at above) is = absurd cc
ends-range number (ComputedGoTo value targets) is = absurd cc
ends-range number (Jump target) is = absurd cc
ends-range number Finish is = absurd cc

module _ (p : Program) (c : ClassTable) (t : Knowns) (checked : Bool) (is_item : ℕ → Bool) where
  abbrev F : List FlatLine
  F = form p c t checked is_item

  -- ---- the number of a mark

  pub number-of-mark : (k : ℕ) → k < length p.execs → has_mark p t is_item k ≡ true → number_at F (begins p c t checked is_item k) ≡ mark_of p t is_item k
  number-of-mark k within has =
      let before = flat_map (line_list p c t checked is_item) (range_with_len 0 k) in
      let after = line_list p c t checked is_item k ++ flat_map (line_list p c t checked is_item) (range_with_len (k + 1) (length p.execs - (k + 1))) in
      let front : take (length before) F ≡ before = ap (take (length before)) (split-at p c t checked is_item k within) ∙ take-append_seam before after in
      ap (λ (xs : List FlatLine). count_by (λ (l : FlatLine). is_mark l.stmt) xs + 1) front
      ∙ ap (λ n. n + 1) (marks-before p c t checked is_item k)
      ∙ sym (mark-number p c t checked is_item k has)

  module _ (kept : AreClosedItems p t is_item) (loops : AreLoops p.execs p.loops) where
    -- ---- places rise

    begins-rises : (a d : ℕ) → a + d ≤ length p.execs → begins p c t checked is_item a ≤ begins p c t checked is_item (a + d)
    begins-rises a zero within = let e : a + 0 ≡ a = omega arith in let same = ap (begins p c t checked is_item) e in omega (arith, same)
    begins-rises a (suc d) within =
        let e : a + suc d ≡ (a + d) + 1 = omega arith in
        let same = ap (begins p c t checked is_item) e in
        let next = (statements-stand p c t checked is_item (a + d) (omega (arith, within))).next in
        let less = begins-rises a d (omega (arith, within)) in
        omega (arith, same, next, less)

    own-before : (a b : ℕ) (s : Flat) → b < length p.execs → is_item a ≡ true → own_of p c t checked is_item a ≡ s ∷ [] → a < b → after_mark p c t checked is_item a < after_mark p c t checked is_item b
    own-before a b s within item own less =
        let next = begins-next p c t checked is_item a (omega (arith, within, less)) item in
        let one = ap length own in
        let d = b - (a + 1) in
        let e : (a + 1) + d ≡ b = omega (arith, less) in
        let rises = begins-rises (a + 1) d (omega (arith, e, within)) in
        let same = ap (begins p c t checked is_item) e in
        omega (arith, next, one, rises, same)

    -- ---- the statement of a DO that is kept

    pub record IsNewLoop (n : ℕ) : Type 0 where
      pub loop : Loop
      pub number : loop.number ≡ n
      pub item : is_item (do_start p.execs n) ≡ true
      pub begins : begun_at p.execs (do_start p.execs n) ≡ Some loop
      pub start : IsStart (kind_at p (do_start p.execs n)) loop
      pub next : kind_at p (do_next p.execs n) ≡ DoNext loop.number loop.variable loop.body loop.exit
      pub body : loop.body ≡ suc (do_start p.execs n)
      pub first : Expr
      pub last : Expr
      pub step : Expr
      pub own : own_of p c t checked is_item (do_start p.execs n) ≡ DoLoop (mark_of p t is_item (do_next p.execs n)) loop.variable first last step ∷ []

    pub new-loop : (n : ℕ) → n < p.loops → is_item (do_start p.execs n) ≡ true → IsNewLoop n
    new-loop n few item =
        let is = loops.each n few in
        let k = do_start p.execs n in
        let words = words_at p c t checked is_item k in
        let start = start-in (slice_get p.execs k) is.loop is.begins in
        record {
          loop = is.loop;
          number = is.number;
          item = item;
          begins = is.begins;
          start = start;
          next = next-in (slice_get p.execs (do_next p.execs n)) is.loop is.increments;
          body = is.body;
          first = folded p.names checked words start.first;
          last = folded p.names checked words start.last;
          step = folded p.names checked words start.step;
          own = ap (λ (kind : ExecKind). left_of p checked words (mark_of p t is_item) kind (decided p t k)) start.is
              ∙ ap (λ m. DoLoop (mark_of p t is_item (do_next p.execs m)) is.loop.variable (folded p.names checked words start.first) (folded p.names checked words start.last) (folded p.names checked words start.step) ∷ []) is.number;
        }

    abbrev line_of_loop : (n : ℕ) → IsNewLoop n → FlatLine
    line_of_loop n l = item_line p c t checked is_item (do_start p.execs n) (DoLoop (mark_of p t is_item (do_next p.execs n)) l.loop.variable l.first l.last l.step)

    pub loop-stands : (n : ℕ) (l : IsNewLoop n) → slice_get F (after_mark p c t checked is_item (do_start p.execs n)) ≡ Some (line_of_loop n l)
    loop-stands n l = own-at p c t checked is_item (do_start p.execs n) (DoLoop (mark_of p t is_item (do_next p.execs n)) l.loop.variable l.first l.last l.step) (kept.within (do_start p.execs n) l.item) l.item l.own

    -- ---- numbers

    pub number-within : (n : ℕ) → n < p.loops → is_item (do_start p.execs n) ≡ true → new_number p c t checked is_item n < loop_count F
    number-within n few item =
        let l = new-loop n few item in
        counts-within (λ (x : FlatLine). is_loop x.stmt) F (after_mark p c t checked is_item (do_start p.execs n)) (line_of_loop n l) (loop-stands n l) refl

    numbers-rise : (m n : ℕ) → m < n → n < p.loops → is_item (do_start p.execs m) ≡ true → is_item (do_start p.execs n) ≡ true → new_number p c t checked is_item m < new_number p c t checked is_item n
    numbers-rise m n less few item_m item_n =
        let l = new-loop m (omega (arith, less, few)) item_m in
        let stmt : Flat = DoLoop (mark_of p t is_item (do_next p.execs m)) l.loop.variable l.first l.last l.step in
        let before = own-before (do_start p.execs m) (do_start p.execs n) stmt (kept.within (do_start p.execs n) item_n) item_m l.own (loops.rising m n less few) in
        counts-less (λ (x : FlatLine). is_loop x.stmt) F (after_mark p c t checked is_item (do_start p.execs m)) (after_mark p c t checked is_item (do_start p.execs n)) (line_of_loop m l) (loop-stands m l) refl before

    -- DOs have different numbers
    pub numbers-differ : (m n : ℕ) → m < p.loops → n < p.loops → is_item (do_start p.execs m) ≡ true → is_item (do_start p.execs n) ≡ true → m ≢ n → new_number p c t checked is_item m ≢ new_number p c t checked is_item n
    numbers-differ m n few_m few_n item_m item_n differ same =
        ⊎_elim
        (λ (less : m < n). let rise = numbers-rise m n less few_n item_m item_n in omega (arith, rise, same))
        (λ (le : n ≤ m). ⊎_elim
        (λ (less : n < m). let rise = numbers-rise n m less few_m item_n item_m in omega (arith, rise, same))
        (λ (ge : m ≤ n). differ (omega (arith, le, ge)))
        (cases_lt n m))
        (cases_lt m n)

    -- ---- the mark at which the range of a DO ends

    no-other : (n place : ℕ) (l : IsNewLoop n) (other : FlatLine) → place < after_mark p c t checked is_item (do_start p.execs n) → slice_get F place ≡ Some other → ends_at (mark_of p t is_item (do_next p.execs n)) other.stmt ≡ false
    no-other n place l other less is =
        ⊎_elim
        (λ (ends : ends_at (mark_of p t is_item (do_next p.execs n)) other.stmt ≡ true).
        let number = mark_of p t is_item (do_next p.execs n) in
        let here : IsSpan F place (place_of F number) = record { here = other; is = is; end = number; ends = ends-range number other.stmt ends; place = refl } in
        let there : IsSpan F (after_mark p c t checked is_item (do_start p.execs n)) (place_of F number) = record { here = line_of_loop n l; is = loop-stands n l; end = number; ends = refl; place = refl } in
        let same = range-alone p c t checked is_item kept loops place (after_mark p c t checked is_item (do_start p.execs n)) (place_of F number) here there in
        absurd (omega (arith, less, same)))
        (λ (not_it : ends_at (mark_of p t is_item (do_next p.execs n)) other.stmt ≡ false). not_it)
        (cases_Bool (ends_at (mark_of p t is_item (do_next p.execs n)) other.stmt))

    pub loop-found : (n : ℕ) (l : IsNewLoop n) → loop_to F (mark_of p t is_item (do_next p.execs n)) ≡ after_mark p c t checked is_item (do_start p.execs n)
    loop-found n l =
        let number = mark_of p t is_item (do_next p.execs n) in
        let d = after_mark p c t checked is_item (do_start p.execs n) in
        let x = line_of_loop n l in
        let within = slice_get_within F d x (loop-stands n l) in
        let test : FlatLine → Bool = λ (y : FlatLine). ends_at number y.stmt in
        position_or_len_is test F d x (omega (arith, within))
        (λ k less. no-other n k l (get_or F k x) less (slice_get-get_or F k x (omega (arith, less, within))))
        (λ less. ap test (get_or_from_slice_get F d x x (loop-stands n l)) ∙ eq-eqb number number refl)

    pub ends-there : (n : ℕ) (l : IsNewLoop n) → is_end F (mark_of p t is_item (do_next p.execs n)) ≡ true
    ends-there n l =
        let within = slice_get_within F (after_mark p c t checked is_item (do_start p.execs n)) (line_of_loop n l) (loop-stands n l) in
        ap (λ k. nat_lt k (length F)) (loop-found n l) ∙ lt-ltb (after_mark p c t checked is_item (do_start p.execs n)) (length F) within

    -- at no other mark a range ends
    ends-increment : (k : ℕ) → has_mark p t is_item k ≡ true → is_end F (mark_of p t is_item k) ≡ true → is_increment (kind_at p k) ≡ true
    ends-increment k has ends =
        let number = mark_of p t is_item k in
        let test : FlatLine → Bool = λ (y : FlatLine). ends_at number y.stmt in
        let d = loop_to F number in
        let within = ltb-true d (length F) ends in
        let some : FlatLine = record { line = 0; stmt = Finish } in
        let l = get_or F d some in
        let span : IsSpan F d (place_of F number) = record {
          here = l;
          is = slice_get-get_or F d some within;
          end = number;
          ends = ends-range number l.stmt (passes_at_first test F some within);
          place = refl;
        } in
        let r = range-of p c t checked is_item kept loops d (place_of F number) span in
        let next = do_next p.execs r.n in
        let there = marks-stand p c t checked is_item k (kept.within k (marked-item p c t checked is_item k has)) has in
        let end = r.end in
        let same : k ≡ next = one-part (part p c t checked is_item) k next 0 0 (marked-some p c t checked is_item k has) r.some (omega (arith, there, end)) in
        let of = loops.each r.n r.few in
        ap (λ j. is_increment (kind_at p j)) same ∙ ap is_increment (next-in (slice_get p.execs next) of.loop of.increments)

    pub ends-only : (k : ℕ) → has_mark p t is_item k ≡ true → is_increment (kind_at p k) ≡ false → is_end F (mark_of p t is_item k) ≡ false
    ends-only k has other =
        ⊎_elim
        (λ (ends : is_end F (mark_of p t is_item k) ≡ true). absurd (false≢true (sym other ∙ ends-increment k has ends)))
        (λ (not_it : is_end F (mark_of p t is_item k) ≡ false). not_it)
        (cases_Bool (is_end F (mark_of p t is_item k)))
