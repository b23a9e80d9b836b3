-- Several firings of nodes that are due, and several more from where they lead, as one row of firings.
use Rattle.std.proofs.Common.{◌≡◌, ◌<◌, ◌≤◌, ◌+◌, ◌-◌, ℕ, zero, suc, List, Option, sym, ap, subst, ◌∙◌, ⊎_elim, arith}
use Rattle.std.proofs.lemmas.Bool.{cases_eq, cases_lt}
use Rattle.firing.specs.declared.system.Fired.{Fired}
use Rattle.firing.specs.declared.system.Fired.TheVariants.{Moved}
use Rattle.firing.specs.Control.{Course}
use Rattle.firing.specs.Moves.{CanFire, FiredIs, IsSilent, Moves, newest}
use Rattle.firing.specs.Play.{Moment, Way, by_order, moment, node_at, played}
use Rattle.firing.specs.Resuming.{GoesOn}
use Rattle.firing.specs.SourceOrder.{FiresTo, newest_after}
use Rattle.firing.proofs.ResumeLemmas.{order_goes_on}
use Rattle.op_net.proofs.DueFirings.{AreDueFirings}

module _ {M P : Type 0} (s : Moves M) (course : Course M P) where
  abbrev own : Way M P
  own = by_order s course

  -- what holds of a marking and the node that fires there, at the firing with this number
  abbrev Holds : (M → ℕ → Type 0) → Moment M P → ℕ → Type 0
  Holds T start n = T (played own start n).marking (node_at own start n)

  module _ (start : Moment M P) (count : ℕ) where
    abbrev there : Moment M P
    there = played own start count

    ways : GoesOn own start count own
    ways = order_goes_on s course start count

    -- what holds at a firing from there holds at that firing of all
    holds_later : (T : M → ℕ → Type 0) (i : ℕ) → Holds T there i → Holds T start (count + i)
    holds_later T i h = subst (T (played own start (count + i)).marking) (sym (ways.nodes i)) (subst (λ (x : Moment M P). T x.marking (node_at own there i)) (sym (ways.leads i)) h)

    holds_from : (T : M → ℕ → Type 0) (j : ℕ) → count ≤ j → Holds T there (j - count) → Holds T start j
    holds_from T j beyond h = let is : count + (j - count) ≡ j = omega (arith, beyond) in subst (Holds T start) is (holds_later T (j - count) h)

    line_at : (i : ℕ) → s.line (played own start (count + i)).marking (node_at own start (count + i)) ≡ s.line (played own there i).marking (node_at own there i)
    line_at i =
        ap (λ (x : Moment M P). s.line x.marking (node_at own start (count + i))) (ways.leads i)
        ∙ ap (s.line (played own there i).marking) (ways.nodes i)

    pub newest_later : (old : List ℕ) (i : ℕ) → newest_after own start (count + i) old ≡ newest_after own there i (newest_after own start count old)
    newest_later old zero = let e : count + 0 ≡ count = omega arith in ap (λ n. newest_after own start n old) e
    newest_later old (suc i) =
        let e : count + suc i ≡ suc (count + i) = omega arith in
        ap (λ n. newest_after own start n old) e
        ∙ ap (λ line. newest line (newest_after own start (count + i) old)) (line_at i)
        ∙ ap (newest (s.line (played own there i).marking (node_at own there i))) (newest_later old i)

  module _ {start mid end : Moment M P} {most few count n : ℕ} {fired : Fired} (before : FiresTo own start most count Moved mid) (more : FiresTo own mid few n fired end) (fits : count + n ≤ most) where
    after : FiresTo own (played own start count) few n fired end
    after = subst (λ x. FiresTo own x few n fired end) before.leads more

    goes : (j : ℕ) → j < count + n → Holds (CanFire s) start j
    goes j low = ⊎_elim
        (λ less. before.going j less)
        (λ beyond. holds_from start count (CanFire s) j beyond (after.going (j - count) (omega (arith, low, beyond))))
        (cases_lt j count)

    silent : (j : ℕ) → suc j < count + n → Holds (IsSilent s) start j
    silent j low = ⊎_elim
        (λ less. ⊎_elim
        (λ (same : suc j ≡ count). before.last j same)
        (λ differ. before.silent j (omega (arith, less, differ)))
        (cases_eq (suc j) count))
        (λ beyond. holds_from start count (IsSilent s) j beyond (after.silent (j - count) (omega (arith, low, beyond))))
        (cases_lt j count)

    last : (j : ℕ) → suc j ≡ count + n → Holds (λ x k. FiredIs s x k fired) start j
    last j is =
        let some = after.some in
        holds_from start count (λ x k. FiredIs s x k fired) j (omega (arith, is, some)) (after.last (j - count) (omega (arith, is, some)))

    pub joined_firings : FiresTo own start most (count + n) fired end
    joined_firings = record {
      some = let some = before.some in omega (arith, some);
      bounded = fits;
      leads = after.leads ∙ sym ((ways start count).leads n);
      going = goes;
      silent = silent;
      last = last;
    }

    pub joined_line : (old : List ℕ) {mid_line new : List ℕ} → mid_line ≡ newest_after own start count old → new ≡ newest_after own mid n mid_line → new ≡ newest_after own start (count + n) old
    joined_line old {mid_line} {new} was is =
        is
        ∙ ap (newest_after own mid n) was
        ∙ ap (λ x. newest_after own x n (newest_after own start count old)) before.leads
        ∙ sym (newest_later start count old n)

-- ---- in a system whose net stays the same

module _ {N M P : Type 0} (moves : N → Moves M) (course : N → Course M P) where
  pub more_firings : {x y : N} {start : Moment M P} {old before after : List ℕ} {most few count n : ℕ} {last fired : Fired} {m then : M} {c later : Option P} → y ≡ x → last ≡ Moved → count + n ≤ most → AreDueFirings (moves x) (course x) start old most count last m c before → AreDueFirings (moves y) (course y) (moment m c) before few n fired then later after → AreDueFirings (moves x) (course x) start old most (count + n) fired then later after
  more_firings {x} {y} {start} {old} {before} {after} {most} {few} {count} {n} {last} {fired} {m} {then} {c} {later} same moved fits are more =
      let f : AreDueFirings (moves x) (course x) (moment m c) before few n fired then later after = subst (λ (net : N). AreDueFirings (moves net) (course net) (moment m c) before few n fired then later after) same more in
      let to : FiresTo (by_order (moves x) (course x)) start most count Moved (moment m c) = subst (λ (d : Fired). FiresTo (by_order (moves x) (course x)) start most count d (moment m c)) moved are.to in
      record {
        to = joined_firings (moves x) (course x) to f.to fits;
        line = joined_line (moves x) (course x) to f.to fits old are.line f.line;
      }
