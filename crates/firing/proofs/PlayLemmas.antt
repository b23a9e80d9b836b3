-- Runs, one firing after another.
use Rattle.std.proofs.Common.{◌≡◌, ℕ, suc, ◌+◌, ◌<◌, ◌≤◌, List, take, Option, None, ap, subst, ◌∙◌, add-one, arith}
use Rattle.std.proofs.KnownBytes.{Appends-trans}
use Rattle.std.specs.Io.KnownBytes.{Appends}
use Rattle.df_io.specs.Write.{AppendsPrefix}
use Rattle.firing.specs.declared.playing.PlayEnd.TheVariants.{Rest, Limit, WriteFault}
use Rattle.firing.specs.declared.playing.Show.{Show}
use Rattle.firing.specs.Control.{Course, steered}
use Rattle.firing.specs.Moves.{Moves, CanFire}
use Rattle.firing.specs.Orders.{IsOver}
use Rattle.firing.specs.Play.{Moment, Way, moment, next, played, node_at, shown_of, shown_at, shown, Plays}

-- a run that has come to this moment
pub record Running {M P : Type 0} (w : Way M P) (start now : Moment M P) (limit : ℕ) (show : Show) (made : ℕ) (old new : Option (List ℕ)) : Type 0 where
  pub leads : now ≡ played w start made
  pub going : (n : ℕ) → n < made → CanFire w.moves (played w start n).marking (node_at w start n)
  pub bounded : made ≤ limit
  pub written : Appends old new (shown w show start made)

module _ {M P : Type 0} (w : Way M P) (start : Moment M P) where
  module _ {now : Moment M P} {limit : ℕ} {show : Show} {made : ℕ} {old mid : Option (List ℕ)} (run : Running w start now limit show made old mid) where
    -- ---- one firing more
    module _ {k : ℕ} (below : made < limit) (at : k ≡ w.choice made now) (can : CanFire w.moves now.marking k) where
      here : k ≡ node_at w start made
      here = at ∙ ap (w.choice made) run.leads

      fires : CanFire w.moves (played w start made).marking (node_at w start made)
      fires = subst (λ (x : Moment M P). CanFire w.moves x.marking (node_at w start made)) run.leads (subst (λ i. CanFire w.moves now.marking i) here can)

      goes : (n : ℕ) → n < suc made → CanFire w.moves (played w start n).marking (node_at w start n)
      goes n lt = grind (arith, fires)

      shows : shown_of w.moves show now.marking k ≡ shown_at w show start made
      shows = ap (shown_of w.moves show now.marking) here ∙ ap (λ (x : Moment M P). shown_of w.moves show x.marking (node_at w start made)) run.leads

      moves_on : (then : Moment M P) → then ≡ next w now k → then ≡ played w start (suc made)
      moves_on then is = is ∙ ap (next w now) here ∙ ap (λ (x : Moment M P). next w x (node_at w start made)) run.leads

      pub run_on : {then : Moment M P} {new : Option (List ℕ)} → then ≡ next w now k → Appends mid new (shown_of w.moves show now.marking k) → Running w start then limit show (made + 1) old new
      run_on {then} {new} is added =
          grind (arith, add-one, moves_on, goes, Appends-trans old mid new (shown w show start made) (shown_at w show start made) run.written, shows)

      pub run_breaks : {then : Moment M P} {new : Option (List ℕ)} → then ≡ next w now k → AppendsPrefix mid new (shown_of w.moves show now.marking k) → Plays w start limit show then old new (WriteFault (made + 1))
      run_breaks {then} {new} is prefix =
          grind (arith, moves_on, goes, add-one made, shows, Appends-trans old mid new (shown w show start made) (take prefix.count (shown_at w show start made)) run.written)

    -- ---- the ends

    pub run_rests : w.moves.trap now.marking ≡ None → IsOver w.moves now.marking → Plays w start limit show now old mid (Rest made)
    run_rests none over = grind arith

    pub run_stops : made ≡ limit → {k : ℕ} → k ≡ w.choice made now → CanFire w.moves now.marking k → Plays w start limit show now old mid Limit
    run_stops is {k} at can = grind arith

-- ---- what a system with an equal net tells

module _ {N M : Type 0} (moves : N → Moves M) {net other : N} (same : other ≡ net) where
  module _ (m : M) (show : Show) (k : ℕ) (old new : Option (List ℕ)) where
    pub appends_told : Appends old new (shown_of (moves other) show m k) → Appends old new (shown_of (moves net) show m k)
    appends_told is = subst (λ n. Appends old new (shown_of (moves n) show m k)) same is

    pub prefix_told : AppendsPrefix old new (shown_of (moves other) show m k) → AppendsPrefix old new (shown_of (moves net) show m k)
    prefix_told is = subst (λ n. AppendsPrefix old new (shown_of (moves n) show m k)) same is

pub moment_told : {N M P : Type 0} (moves : N → Moves M) (course : N → Course M P) {net other : N} {m then : M} (c : Option P) {later : Option P} {k : ℕ} → other ≡ net → then ≡ (moves other).fired m k → later ≡ steered (course other) m c k → moment then later ≡ moment ((moves net).fired m k) (steered (course net) m c k)
moment_told moves course {net} {other} {m} {then} c {later} {k} same first second = cc

pub same_moment : {M P : Type 0} {m then : M} {c later : Option P} → then ≡ m → later ≡ c → moment then later ≡ moment m c
same_moment {m} {then} {c} {later} first second = ap (λ x. moment x later) first ∙ ap (λ x. moment m x) second
