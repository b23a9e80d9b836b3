-- Several firings in the source's own order, as parts of a run.
use Rattle.std.proofs.Common.{◌≡◌, ◌≢◌, ℕ, zero, suc, ◌+◌, ◌-◌, ◌<◌, ◌≤◌, ◌++◌, List, [], length, take, Option, Some, None, refl, sym, ap, subst, ◌∙◌, add-one, append-nil, arith}
use Rattle.std.proofs.KnownBytes.{Appends-trans}
use Rattle.std.specs.Io.KnownBytes.{Appends}
use Rattle.df_io.specs.Write.{AppendsPrefix}
use Rattle.firing.specs.declared.playing.PlayEnd.TheVariants.{WriteFault}
use Rattle.firing.specs.declared.playing.Show.{Show}
use Rattle.firing.specs.declared.playing.Show.TheVariants.{Nodes}
use Rattle.firing.specs.declared.system.Fired.{Fired}
use Rattle.firing.specs.declared.system.Fired.TheVariants.{Moved, Line, Trapped}
use Rattle.firing.specs.Control.{Course, IsInStep, KeepsStep, due_at, due_node, steered}
use Rattle.firing.specs.Laws.{IsLawful}
use Rattle.firing.specs.Moves.{Moves, CanFire, FiredIs, line_after, line_bytes, newest}
use Rattle.firing.specs.Play.{Moment, Way, by_order, moment, next, node_at, node_of, played, shown, shown_at, shown_of, told, Plays}
use Rattle.firing.specs.Resuming.{GoesOn}
use Rattle.firing.specs.SourceOrder.{FiresTo, IsSourceOrder, newest_after}
use Rattle.firing.proofs.ControlLemmas.{control_stays, due_here, in_step_next, none_due}
use Rattle.firing.proofs.PlayLemmas.{Running, same_moment}
use Rattle.firing.proofs.ResumeLemmas.{fires_all, order_goes_on}

-- ---- what is told of a firing

line_told : (fired : Fired) (line : Option (List ℕ)) (old : List ℕ) → (fired ≢ Line → line ≡ None) → (fired ≡ Line → line ≢ None) → line_bytes line ≡ line_after fired (newest line old)
line_told h line old none some = grind arith

module _ {M : Type 0} (s : Moves M) where
  no_line : (m : M) (k : ℕ) (fired : Fired) → FiredIs s m k fired → fired ≢ Line → s.line m k ≡ None
  no_line m k h is other = grind arith

  some_line : (m : M) (k : ℕ) (fired : Fired) → FiredIs s m k fired → fired ≡ Line → s.line m k ≢ None
  some_line m k h is same = grind arith

  pub quiet_trap : (m : M) (k : ℕ) (fired : Fired) → FiredIs s m k fired → fired ≢ Trapped → s.trap (s.fired m k) ≡ None
  quiet_trap m k h is other = grind arith

  pub told_shown : (show : Show) (m : M) (k : ℕ) (fired : Fired) (old : List ℕ) → FiredIs s m k fired → shown_of s show m k ≡ told s show k fired (newest (s.line m k) old)
  told_shown h m k fired old is = grind (arith, line_told, no_line, some_line)

  told_same : (show : Show) (j k : ℕ) (fired : Fired) (line : List ℕ) → (show ≡ Nodes → j ≡ k) → told s show j fired line ≡ told s show k fired line
  told_same h j k fired line same = grind arith

-- ---- the parts of a run

module _ {M P : Type 0} (s : Moves M) (course : Course M P) where
  abbrev own : Way M P
  own = by_order s course

  module _ {now end : Moment M P} {most count : ℕ} {fired : Fired} (to : FiresTo own now most count fired end) where
    abbrev final : ℕ
    final = count - 1

    is_final : suc final ≡ count
    is_final = let some = to.some in omega (arith, some)

    -- nothing is shown before the last one, unless each is shown
    quiet_at : (show : Show) (n : ℕ) → (show ≡ Nodes → count ≡ 1) → suc n < count → shown_at own show now n ≡ []
    quiet_at h n one lt = grind arith

    quiet : (show : Show) (n : ℕ) → (show ≡ Nodes → count ≡ 1) → n < count → shown own show now n ≡ []
    quiet show zero one lt = refl
    quiet show (suc n) one lt = grind (arith, quiet show n one, quiet_at show n one lt)

    last_told : (show : Show) (k : ℕ) (old : List ℕ) → (show ≡ Nodes → count ≡ 1) → k ≡ node_at own now 0 → shown_at own show now final ≡ told s show k fired (newest_after own now count old)
    last_told show k old one at = grind (arith, told_shown s show, is_final, told_same s show)

    all_told : (show : Show) (k : ℕ) (old : List ℕ) → (show ≡ Nodes → count ≡ 1) → k ≡ node_at own now 0 → shown own show now count ≡ told s show k fired (newest_after own now count old)
    all_told show k old one at = grind (arith, is_final, quiet show final one, last_told show k old one)

    -- ---- the system after them

    pub trap_told_after : fired ≢ Trapped → s.trap end.marking ≡ None
    trap_told_after other =
        let m = (played own now final).marking in
        ap (λ (x : Moment M P). s.trap x.marking) (to.leads ∙ ap (played own now) (sym is_final))
        ∙ quiet_trap s m (node_at own now final) fired (to.last final is_final) other

    -- a moment with control, in step
    record Stands (sound : M → Type 0) (in_step : M → P → Type 0) (x : Moment M P) : Type 0 where
      sound_here : sound x.marking
      in_step_here : IsInStep s in_step x.marking x.control
      control_here : x.control ≢ None

    module _ {sound : M → Type 0} {in_step : M → P → Type 0} (lawful : IsLawful sound s) (steady : KeepsStep sound s course in_step) (order : IsSourceOrder sound s course in_step) where
      -- the node that fires with control is due
      due_there : (m : M) (c : Option P) (due : Option ℕ) → due_at course m c ≡ due → c ≢ None → sound m → IsInStep s in_step m c → CanFire s m (node_of (due_node s course m c)) → due_at course m c ≡ Some (node_of (due_node s course m c))
      due_there m h due is some sound_m step can = grind (arith, none_due)

      stands_next : (x : Moment M P) (n : ℕ) → Stands sound in_step x → CanFire s x.marking (own.choice n x) → Stands sound in_step (next own x (own.choice n x))
      stands_next x n here can =
          grind (arith, in_step_next steady x.marking x.control, control_stays course x.marking x.control, due_there x.marking x.control (due_at course x.marking x.control))

      stands_to : (n : ℕ) → n ≤ count → Stands sound in_step now → Stands sound in_step (played own now n)
      stands_to zero le here = here
      stands_to (suc n) le here = stands_next (played own now n) n (stands_to n (omega (arith, le)) here) (to.going n (omega (arith, le)))

      module _ (is_sound : sound now.marking) (step : IsInStep s in_step now.marking now.control) (some : now.control ≢ None) where
        stands_end : Stands sound in_step end
        stands_end = subst (Stands sound in_step) (sym to.leads) (stands_to count (omega arith) (record { sound_here = is_sound; in_step_here = step; control_here = some }))

        pub sound_after : sound end.marking
        sound_after = stands_end.sound_here

        pub in_step_after : IsInStep s in_step end.marking end.control
        in_step_after = stands_end.in_step_here

        pub control_after : end.control ≢ None
        control_after = stands_end.control_here

  -- ---- the run after them

  module _ (start : Moment M P) {now end : Moment M P} {limit most count made : ℕ} {fired : Fired} {show : Show} {old mid : Option (List ℕ)} (run : Running own start now limit show made old mid) (to : FiresTo own now most count fired end) (below : made + most ≤ limit) (one : show ≡ Nodes → count ≡ 1) {k : ℕ} (at : k ≡ node_at own now 0) (line : List ℕ) where
    abbrev there : Moment M P
    there = played own start made

    from_there : FiresTo own there most count fired end
    from_there = subst (λ x. FiresTo own x most count fired end) run.leads to

    node_there : k ≡ node_at own there 0
    node_there = at ∙ ap (λ x. node_at own x 0) run.leads

    ways : GoesOn own start made own
    ways = order_goes_on s course start made

    leads_to : end ≡ played own start (made + count)
    leads_to = from_there.leads ∙ sym (ways.leads count)

    goes : (n : ℕ) → n < made + count → CanFire s (played own start n).marking (node_at own start n)
    goes = fires_all s course own.choice own.choice start made (λ i x. refl) count run.going from_there.going

    fits : made + count ≤ limit
    fits = let few = to.bounded in omega (arith, below, few)

    abbrev bytes_told : List ℕ
    bytes_told = told s show k fired (newest_after own now count line)

    same_line : newest_after own there count line ≡ newest_after own now count line
    same_line = ap (λ x. newest_after own x count line) (sym run.leads)

    pub run_many : {new : Option (List ℕ)} → Appends mid new bytes_told → Running own start end limit show (made + count) old new
    run_many {new} added =
        let all : shown own show there count ≡ bytes_told = all_told from_there show k line one node_there ∙ ap (told s show k fired) same_line in
        let is : shown own show start (made + count) ≡ shown own show start made ++ bytes_told = ways.shows show count ∙ ap (λ bytes. shown own show start made ++ bytes) all in
        record {
          leads = leads_to;
          going = goes;
          bounded = fits;
          written = subst (Appends old new) (sym is) (Appends-trans old mid new (shown own show start made) bytes_told run.written added);
        }

    abbrev at_last : ℕ
    at_last = made + (count - 1)

    pub break_many : {new : Option (List ℕ)} → AppendsPrefix mid new bytes_told → Plays own start limit show end old new (WriteFault (made + count))
    break_many {new} prefix =
        let final = count - 1 in
        let some = to.some in
        let before : shown own show start at_last ≡ shown own show start made = ways.shows show final ∙ ap (λ bytes. shown own show start made ++ bytes) (quiet from_there show final one (omega (arith, some))) ∙ append-nil (shown own show start made) in
        let last : shown_at own show start at_last ≡ bytes_told = shown_there ∙ last_told from_there show k line one node_there ∙ ap (told s show k fired) same_line in
        record {
          firings = made + count;
          leads = leads_to;
          going = goes;
          bounded = fits;
          ends = refl;
          writes = record {
            last = at_last;
            is = omega (arith, some);
            count = prefix.count;
            within = subst (λ bytes. prefix.count ≤ length bytes) (sym last) prefix.within;
            written = subst (Appends old new) (ap (λ bytes. bytes ++ take prefix.count bytes_told) (sym before) ∙ ap (λ bytes. shown own show start at_last ++ take prefix.count bytes) (sym last)) (Appends-trans old mid new (shown own show start made) (take prefix.count bytes_told) run.written prefix.added);
          };
        }
      where
        shown_there : shown_at own show start at_last ≡ shown_at own show there (count - 1)
        shown_there =
            ap (λ (x : Moment M P). shown_of s show x.marking (node_at own start at_last)) (ways.leads (count - 1))
            ∙ ap (shown_of s show (played own there (count - 1)).marking) (ways.nodes (count - 1))

-- ---- what a system with an equal net tells

module _ {N M P : Type 0} (moves : N → Moves M) (course : N → Course M P) {net other : N} (same : other ≡ net) where
  pub fires_told : {start end : Moment M P} {most count : ℕ} {fired : Fired} → FiresTo (by_order (moves other) (course other)) start most count fired end → FiresTo (by_order (moves net) (course net)) start most count fired end
  fires_told {start} {end} {most} {count} {fired} to = subst (λ n. FiresTo (by_order (moves n) (course n)) start most count fired end) same to

  pub line_after_told : (start : Moment M P) (count : ℕ) (line : List ℕ) {new : List ℕ} → new ≡ newest_after (by_order (moves other) (course other)) start count line → new ≡ newest_after (by_order (moves net) (course net)) start count line
  line_after_told start count line is = is ∙ ap (λ n. newest_after (by_order (moves n) (course n)) start count line) same

module _ {N M : Type 0} (moves : N → Moves M) {net other : N} (same : other ≡ net) (show : Show) (k : ℕ) (fired : Fired) {line told_line : List ℕ} (is : told_line ≡ line) (old new : Option (List ℕ)) where
  pub told_appends : Appends old new (told (moves other) show k fired told_line) → Appends old new (told (moves net) show k fired line)
  told_appends h = subst (λ x. Appends old new (told (moves net) show k fired x)) is (subst (λ n. Appends old new (told (moves n) show k fired told_line)) same h)

  pub told_prefix : AppendsPrefix old new (told (moves other) show k fired told_line) → AppendsPrefix old new (told (moves net) show k fired line)
  told_prefix h = subst (λ x. AppendsPrefix old new (told (moves net) show k fired x)) is (subst (λ n. AppendsPrefix old new (told (moves n) show k fired told_line)) same h)

-- ---- one firing

module _ {M P : Type 0} (s : Moves M) (course : Course M P) (m : M) (c : Option P) (k : ℕ) (is : due_at course m c ≡ Some k) where
  pub node_due : node_at (by_order s course) (moment m c) 0 ≡ k
  node_due = ap node_of (due_here course s m c k is)

  -- the firing of the node that is due
  first_due : (most : ℕ) (fired : Fired) → 0 < most → CanFire s m k → FiredIs s m k fired → FiresTo (by_order s course) (moment m c) most 1 fired (moment (s.fired m k) (steered course m c k))
  first_due most fired some can did = grind (arith, node_due)

  pub one_due : (most : ℕ) (fired : Fired) → 0 < most → CanFire s m k → FiredIs s m k fired → {then : M} {later : Option P} → then ≡ s.fired m k → later ≡ steered course m c k → FiresTo (by_order s course) (moment m c) most 1 fired (moment then later)
  one_due most fired some can did marking control = subst (FiresTo (by_order s course) (moment m c) most 1 fired) (sym (same_moment marking control)) (first_due most fired some can did)

  pub one_line : (old : List ℕ) {new : List ℕ} → new ≡ newest (s.line m k) old → new ≡ newest_after (by_order s course) (moment m c) 1 old
  one_line old is = is ∙ ap (λ j. newest (s.line m j) old) (sym node_due)

-- ---- one firing more

module _ {M P : Type 0} (s : Moves M) (course : Course M P) {start : Moment M P} {m : M} {c : Option P} {most count : ℕ} (to : FiresTo (by_order s course) start most count Moved (moment m c)) (k : ℕ) (is : due_at course m c ≡ Some k) where
  abbrev way : Way M P
  way = by_order s course

  at_next : node_at way start count ≡ k
  at_next = ap (λ x. node_of (due_node s course x.marking x.control)) (sym to.leads) ∙ node_due s course m c k is

  abbrev Holds : (M → ℕ → Type 0) → ℕ → Type 0
  Holds T n = T (played way start n).marking (node_at way start n)

  here : (T : M → ℕ → Type 0) → T m k → Holds T count
  here T is_so = subst (λ (x : Moment M P). T x.marking (node_at way start count)) to.leads (subst (T m) (sym at_next) is_so)

  next_fires : (fired : Fired) → count < most → CanFire s m k → FiredIs s m k fired → FiresTo way start most (suc count) fired (moment (s.fired m k) (steered course m c k))
  next_fires fired below can did = grind (arith, at_next, here, here (CanFire s) can)

  -- the firing of the node that is due then
  pub fires_more : (fired : Fired) → count < most → CanFire s m k → FiredIs s m k fired → {then : M} {later : Option P} → then ≡ s.fired m k → later ≡ steered course m c k → FiresTo way start most (count + 1) fired (moment then later)
  fires_more fired below can did marking control = rw add-one (subst (FiresTo way start most (suc count) fired) (sym (same_moment marking control)) (next_fires fired below can did))

  pub line_more : (old : List ℕ) {mid new : List ℕ} → mid ≡ newest_after way start count old → new ≡ newest (s.line m k) mid → new ≡ newest_after way start (count + 1) old
  line_more old {mid} was is_new = grind (arith, add-one, at_next)
