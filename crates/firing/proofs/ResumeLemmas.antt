-- Runs that go on.
use Rattle.std.proofs.Common.{◌≡◌, ℕ, zero, suc, ◌%◌, ◌+◌, ◌-◌, ◌<◌, ◌++◌, List, length, take, drop, get_or, slice_index, Option, refl, sym, ap, subst, ◌∙◌, ⊎_elim, append_assoc, append-nil, length-append, length-drop, arith}
use Rattle.std.proofs.lemmas.Bool.{cases_lt}
use Rattle.std.proofs.lemmas.List.{get_or-append-add, get_or_append_left, get_or-drop, get_or-take, length-take-le}
use Rattle.std.proofs.Math.Nat.{add-mod, add-mod_left, mod-eq_of_lt, mod-lt}
use Rattle.std.proofs.KnownBytes.{Appends-trans}
use Rattle.std.specs.Io.KnownBytes.{Appends}
use Rattle.firing.specs.declared.playing.PlayEnd.{PlayEnd}
use Rattle.firing.specs.declared.playing.PlayEnd.TheVariants.{Limit}
use Rattle.firing.specs.declared.playing.Show.{Show}
use Rattle.firing.specs.Control.{Course}
use Rattle.firing.specs.Moves.{Moves, CanFire}
use Rattle.firing.specs.Play.{Moment, Way, by_order, by_picks, played, node_at, shown_at, shown, BreaksOff, EndsBy, Writes, Plays}
use Rattle.firing.specs.Resuming.{GoesOn, further, turned}

-- the same way, by another choice
module _ {M P : Type 0} (s : Moves M) (course : Course M P) (before after : ℕ → Moment M P → ℕ) where
  abbrev first : Way M P
  first = record { moves = s; course = course; choice = before }

  abbrev later : Way M P
  later = record { moves = s; course = course; choice = after }

  module _ (start : Moment M P) (a : ℕ) (same : (i : ℕ) (x : Moment M P) → before (a + i) x ≡ after i x) where
    one_more : (b : ℕ) → a + suc b ≡ suc (a + b)
    one_more b = omega arith

    leads : (b : ℕ) → played first start (a + b) ≡ played later (played first start a) b
    leads zero = let e : a + 0 ≡ a = omega arith in ap (played first start) e
    leads (suc b) = grind (arith, one_more b, leads b)

    nodes : (b : ℕ) → node_at first start (a + b) ≡ node_at later (played first start a) b
    nodes b = ap (before (a + b)) (leads b) ∙ same b (played later (played first start a) b)

    shows_at : (show : Show) (b : ℕ) → shown_at first show start (a + b) ≡ shown_at later show (played first start a) b
    shows_at show b = grind (arith, leads b, nodes b)

    shows : (show : Show) (b : ℕ) → shown first show start (a + b) ≡ shown first show start a ++ shown later show (played first start a) b
    shows show zero = let e : a + 0 ≡ a = omega arith in ap (shown first show start) e ∙ sym (append-nil (shown first show start a))
    shows show (suc b) =
        grind (arith, one_more b, shows show b, shows_at show b, append_assoc (shown first show start a) (shown later show (played first start a) b) (shown_at later show (played first start a) b))

    -- ---- two runs are one

    abbrev there : Moment M P
    there = played first start a

    fires_later : (i : ℕ) → CanFire s (played later there i).marking (node_at later there i) → CanFire s (played first start (a + i)).marking (node_at first start (a + i))
    fires_later i can = subst (CanFire s (played first start (a + i)).marking) (sym (nodes i)) (subst (λ (x : Moment M P). CanFire s x.marking (node_at later there i)) (sym (leads i)) can)

    pub fires_all : (n : ℕ) → ((j : ℕ) → j < a → CanFire s (played first start j).marking (node_at first start j)) → ((i : ℕ) → i < n → CanFire s (played later there i).marking (node_at later there i)) → (j : ℕ) → j < a + n → CanFire s (played first start j).marking (node_at first start j)
    fires_all n early late j lt = ⊎_elim
        (λ less. early j less)
        (λ beyond.
        let is : a + (j - a) ≡ j = omega (arith, beyond) in
        subst (λ i. CanFire s (played first start i).marking (node_at first start i)) is (fires_later (j - a) (late (j - a) (omega (arith, lt, beyond)))))
        (cases_lt j a)

    ends_later : (b n : ℕ) (result : PlayEnd) → EndsBy later there b n result → EndsBy first start (a + b) (a + n) (further a result)
    ends_later b n h is = grind (arith, leads, fires_later)

    module _ (show : Show) (old got new : Option (List ℕ)) (prefix : Appends old got (shown first show start a)) where
      adds_later : (n : ℕ) → Appends got new (shown later show there n) → Appends old new (shown first show start (a + n))
      adds_later n more = subst (Appends old new) (sym (shows show n)) (Appends-trans old got new (shown first show start a) (shown later show there n) prefix more)

      breaks_later : (n : ℕ) → BreaksOff later show there n got new → BreaksOff first show start (a + n) old new
      breaks_later n broken =
          grind (arith, append_assoc (shown first show start a), shows show, shows_at show, one_more, Appends-trans old got new (shown first show start a))

      writes_later : (n : ℕ) (result : PlayEnd) → Writes later show there n got new result → Writes first show start (a + n) old new (further a result)
      writes_later n h writes = grind (arith, adds_later, breaks_later)

    joined : (b : ℕ) (show : Show) (mid end : Moment M P) (old got new : Option (List ℕ)) (result : PlayEnd) → Plays first start a show mid old got Limit → Plays later mid b show end got new result → Plays first start (a + b) show end old new (further a result)
    joined b show mid end old got new result run more =
        let all : run.firings ≡ a = run.ends.0 in
        let at : mid ≡ there = run.leads ∙ ap (played first start) all in
        let rest : Plays later there b show end got new result = subst (λ x. Plays later x b show end got new result) at more in
        let prefix : Appends old got (shown first show start a) = subst (λ n. Appends old got (shown first show start n)) all run.writes in
        let bounded = rest.bounded in
        record {
          firings = a + rest.firings;
          leads = rest.leads ∙ sym (leads rest.firings);
          going = fires_all rest.firings (λ j lt. run.going j (omega (arith, lt, all))) rest.going;
          bounded = omega (arith, bounded);
          ends = ends_later b rest.firings result rest.ends;
          writes = writes_later show old got new prefix rest.firings result rest.writes;
        }

    goes_on : GoesOn first start a later
    goes_on = record { leads = leads; nodes = nodes; shows = shows; joined = joined }

-- ---- the picks, turned

module _ (picks : List ℕ) (some : 0 < length picks) (a : ℕ) where
  abbrev moved : ℕ
  moved = a % length picks

  moved_less : moved < length picks
  moved_less = mod-lt a some

  back : length (drop moved picks) ≡ length picks - moved
  back = length-drop moved picks

  turned_length : length (turned a picks) ≡ length picks
  turned_length = grind (arith, moved_less, length-append (drop moved picks) (take moved picks), back, length-take-le moved picks)

  -- the place j after the turn, where it is before the end
  turned_back : (j : ℕ) → moved + j < length picks → get_or (turned a picks) j 0 ≡ get_or picks ((moved + j) % length picks) 0
  turned_back j lt = grind (arith, back, get_or_append_left (drop moved picks) (take moved picks) 0 j, get_or-drop moved picks j 0, mod-eq_of_lt lt)

  -- and where it is e after the end
  turned_prefix : (j e : ℕ) → j < length picks → moved + j ≡ length picks + e → get_or (turned a picks) j 0 ≡ get_or picks ((moved + j) % length picks) 0
  turned_prefix j e lt is =
      grind (arith, moved_less, back, add-mod_left (length picks) e, mod-eq_of_lt, get_or-append-add (drop moved picks) (take moved picks) e 0, get_or-take moved picks e 0)

  turned_place : (j : ℕ) → j < length picks → get_or (turned a picks) j 0 ≡ get_or picks ((moved + j) % length picks) 0
  turned_place j lt = grind (arith, turned_back j, turned_prefix j (moved + j - length picks) lt, cases_lt (moved + j) (length picks))

  turned_at : (i : ℕ) → slice_index picks ((a + i) % length picks) ≡ slice_index (turned a picks) (i % length (turned a picks))
  turned_at i =
      grind (arith, slice_index picks, add-mod a i (length picks), turned_place (i % length picks) (mod-lt i some), mod-lt i some, slice_index (turned a picks), turned_length)

module _ {M P : Type 0} (s : Moves M) (course : Course M P) where
  pub picks_go_on : (picks : List ℕ) → 0 < length picks → (start : Moment M P) (a : ℕ) → GoesOn (by_picks s course picks) start a (by_picks s course (turned a picks))
  picks_go_on picks some start a = grind (arith, goes_on s course, turned_at picks some a)

  pub order_goes_on : (start : Moment M P) (a : ℕ) → GoesOn (by_order s course) start a (by_order s course)
  order_goes_on start a = let own = by_order s course in goes_on s course own.choice own.choice start a (λ i x. refl)
