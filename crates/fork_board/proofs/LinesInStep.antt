-- A line beside the same line in a net of operations: it waits before a group of loads, of which the other one has passed some.
use Rattle.std.proofs.Common.{◌≡◌, ◌<◌, ◌≤◌, ◌⊎◌, inl, inr, ⊎_elim, ℕ, zero, suc, ◌+◌, ◌==◌, ◌&&◌, ◌||◌, Bool, true, false, if◌then◌else◌, List, [], ◌∷◌, ◌++◌, length, Option, Some, None, refl, sym, ap, ◌∙◌, eq-eqb, arith}
use Rattle.std.specs.List.{list_all}
use Rattle.std.proofs.lemmas.Bool.{cases_Bool, and_from}
use Rattle.closed_walks.specs.Graph.{edge_count}
use Rattle.firing.specs.declared.system.NodeName.TheVariants.{Op}
use Rattle.net_board.specs.Nodes.{graph_in}
use Rattle.op_board.specs.OperationNets.{OperationNet}
use Rattle.op_board.proofs.NeededLines.{IsDistance, distance}
use Rattle.op_board.proofs.ValueTaking.{below_or_not}
use Rattle.fork_board.specs.LoadGroups.{Site, Spot, behind_group, followed_by, group_at, here_or, is_among, is_site, load_at, loads_within, most_loads, site, spot_after, spot_behind}
use Rattle.fork_board.specs.ForkFootprints.{StandValue, stand_read, stood_as}
use Rattle.fork_board.specs.ForkTokens.{gone_on, none_loaded, standing_at, with_load}
use Rattle.fork_board.proofs.ForkLines.{all_among}
use Rattle.fork_board.proofs.LoadLists.{AreLoads, IsFirstLoad, first_of}
use mathlib.Core.Path.{fun_ext}

both_ways : {P : Type 0} (b : Bool) → b ≡ true → b ≡ false → P
both_ways b yes' no' = let e : true ≡ false = sym yes' ∙ no' in absurd cc

-- ---- sites in lists

with_last : (sites : List Site) (p i q j : ℕ) → with_load p i (is_among sites) q j ≡ is_among (sites ++ site p i ∷ []) q j
with_last [] p i q j = or_none ((p == q) && (i == j))
  where
    or_none : (a : Bool) → (a || false) ≡ (a || false)
    or_none a = refl
with_last (s ∷ sites) p i q j = by (is_site q j s) ((p == q) && (i == j)) (is_among sites q j) (is_among (sites ++ site p i ∷ []) q j) (with_last sites p i q j)
  where
    by : (e a b c : Bool) → (a || b) ≡ c → (a || (e || b)) ≡ (e || c)
    by true true b c same = refl
    by true false b c same = refl
    by false a b c same = same

-- each site of a list is among them
self_site : (s : Site) → is_site s.piece s.number s ≡ true
self_site s = and_from (s.piece == s.piece) (s.number == s.number) (eq-eqb s.piece s.piece refl) (eq-eqb s.number s.number refl)

or_right : (a b : Bool) → b ≡ true → (a || b) ≡ true
or_right true b is = refl
or_right false b is = is

or_left : (a b : Bool) → a ≡ true → (a || b) ≡ true
or_left true b is = refl
or_left false b is = absurd cc

all_in : (test : (piece number : ℕ) → Bool) (sites : List Site) → ((s : Site) → is_among sites s.piece s.number ≡ true → test s.piece s.number ≡ true) → list_all (λ (s : Site). test s.piece s.number) sites ≡ true
all_in test [] each = refl
all_in test (s ∷ sites) each = and_from (test s.piece s.number) (list_all (λ (s : Site). test s.piece s.number) sites)
    (each s (or_left (is_site s.piece s.number s) (is_among sites s.piece s.number) (self_site s)))
    (all_in test sites (λ other among. each other (or_right (is_site other.piece other.number s) (is_among sites other.piece other.number) among)))

pub all_own : (sites : List Site) → list_all (λ (s : Site). is_among sites s.piece s.number) sites ≡ true
all_own sites = all_in (is_among sites) sites (λ s among. among)

-- one behind others is among them all
behind_others : (first rest : List Site) (s : Site) → is_among (first ++ s ∷ rest) s.piece s.number ≡ true
behind_others [] rest s = or_left (is_site s.piece s.number s) (is_among rest s.piece s.number) (self_site s)
behind_others (t ∷ first) rest s = or_right (is_site s.piece s.number t) (is_among (first ++ s ∷ rest) s.piece s.number) (behind_others first rest s)

module _ (x : OperationNet) (line : ℕ) where
  -- ---- so many loads and more

  pub split : (count r : ℕ) (s : Spot) → AreLoads x line count s → loads_within (r + count) x line s ≡ loads_within count x line s ++ loads_within r x line (spot_behind count x line s)
  split zero r s are = let e : r + 0 ≡ r = omega arith in ap (λ k. loads_within k x line s) e
  split (suc count) r s are =
      let f : IsFirstLoad x line count s = first_of x line count s are in
      let rest = split count r (spot_after x line s) f.others in
      let e : r + suc count ≡ suc (r + count) = omega arith in
      ap (λ k. loads_within k x line s) e
      ∙ ap (λ o. followed_by o (loads_within (r + count) x line (spot_after x line s))) f.at
      ∙ ap (λ more. f.load ∷ more) rest
      ∙ ap (λ sites. sites ++ loads_within r x line (spot_behind count x line (spot_after x line s))) (sym f.list)
      ∙ ap (λ t. loads_within (suc count) x line s ++ loads_within r x line t) (sym f.behind)

  pub behind_split : (count r : ℕ) (s : Spot) → AreLoads x line count s → spot_behind (r + count) x line s ≡ spot_behind r x line (spot_behind count x line s)
  behind_split zero r s are = let e : r + 0 ≡ r = omega arith in ap (λ k. spot_behind k x line s) e
  behind_split (suc count) r s are =
      let f : IsFirstLoad x line count s = first_of x line count s are in
      let rest = behind_split count r (spot_after x line s) f.others in
      let e : r + suc count ≡ suc (r + count) = omega arith in
      ap (λ k. spot_behind k x line s) e
      ∙ ap (λ o. here_or o s (spot_behind (r + count) x line (spot_after x line s))) f.at
      ∙ rest
      ∙ ap (λ t. spot_behind r x line t) (sym f.behind)

  -- where no load stands, none comes
  none_from : (r : ℕ) (t : Spot) → load_at x line t ≡ None → loads_within r x line t ≡ []
  none_from zero t none = refl
  none_from (suc r) t none = ap (λ o. followed_by o (loads_within r x line (spot_after x line t))) none

  stays_there : (r : ℕ) (t : Spot) → load_at x line t ≡ None → spot_behind r x line t ≡ t
  stays_there zero t none = refl
  stays_there (suc r) t none = ap (λ o. here_or o t (spot_behind r x line (spot_after x line t))) none

  append_none : (sites : List Site) → sites ++ [] ≡ sites
  append_none [] = refl
  append_none (s ∷ sites) = ap (λ more. s ∷ more) (append_none sites)

  length_last : (sites : List Site) (s : Site) → length (sites ++ s ∷ []) ≡ suc (length sites)
  length_last [] s = refl
  length_last (t ∷ sites) s = ap suc (length_last sites s)

  -- one load more
  pub record IsOneMore (count : ℕ) (s : Spot) (load : Site) : Type 0 where
    pub list : loads_within (suc count) x line s ≡ loads_within count x line s ++ load ∷ []
    pub are : AreLoads x line (suc count) s
    pub behind : spot_behind (suc count) x line s ≡ spot_after x line (spot_behind count x line s)

  pub one_more : (count : ℕ) (s : Spot) (load : Site) → AreLoads x line count s → load_at x line (spot_behind count x line s) ≡ Some load → IsOneMore count s load
  one_more count s load are at =
      let e : 1 + count ≡ suc count = omega arith in
      let t : Spot = spot_behind count x line s in
      let list : loads_within (suc count) x line s ≡ loads_within count x line s ++ load ∷ [] =
      ap (λ k. loads_within k x line s) (sym e) ∙ split count 1 s are ∙ ap (λ o. loads_within count x line s ++ followed_by o []) at in
      record {
        list = list;
        are = ap length list ∙ length_last (loads_within count x line s) load ∙ ap suc are;
        behind = ap (λ k. spot_behind k x line s) (sym e) ∙ behind_split count 1 s are ∙ ap (λ o. here_or o t (spot_after x line t)) at;
      }

  -- ---- in step

  -- The line stands at s, and the other one, which has passed so many of the loads from there on, before the next of them.
  pub record IsAmid (e : Option (Option ℕ)) (c : Option ℕ) (v : StandValue) (load : Site) : Type 0 where
    pub s : Spot
    pub count : ℕ
    pub exists : s.edge < edge_count (graph_in x.net)
    pub are : AreLoads x line count s
    pub next : load_at x line (spot_behind count x line s) ≡ Some load
    pub short : count < most_loads x
    pub edge : v.edge ≡ Some (Some s.edge)
    pub passed : v.passed ≡ Some s.passed
    pub loaded : v.loaded ≡ is_among (loads_within count x line s)
    pub other_edge : e ≡ Some (Some (spot_behind count x line s).edge)
    pub other_passed : c ≡ Some (spot_behind count x line s).passed

  pub record IsSame (e : Option (Option ℕ)) (c : Option ℕ) (v : StandValue) : Type 0 where
    pub edge : v.edge ≡ e
    pub passed : v.passed ≡ c
    pub loaded : v.loaded ≡ none_loaded

  abbrev pub InStep : (e : Option (Option ℕ)) (c : Option ℕ) → StandValue → Type 0
  InStep e c v = IsSame e c v ⊎ ((load : Site) × IsAmid e c v load)

  -- before a load they are in step where they are the same
  pub amid_here : (e : Option (Option ℕ)) (c : Option ℕ) (v : StandValue) (t : Spot) (load : Site) → t.edge < edge_count (graph_in x.net) → 0 < most_loads x → load_at x line t ≡ Some load → e ≡ Some (Some t.edge) → c ≡ Some t.passed → IsSame e c v → IsAmid e c v load
  amid_here e c v t load exists some at edge passed same = record {
    s = t;
    count = 0;
    exists = exists;
    are = refl;
    next = at;
    short = some;
    edge = same.edge ∙ edge;
    passed = same.passed ∙ passed;
    loaded = same.loaded ∙ fun_ext (λ p. fun_ext (λ i. refl));
    other_edge = edge;
    other_passed = passed;
  }

  -- ---- after the load

  module _ (once : (count : ℕ) (s : Spot) (load : Site) → s.edge < edge_count (graph_in x.net) → AreLoads x line count s → load_at x line (spot_behind count x line s) ≡ Some load → is_among (loads_within count x line s) load.piece load.number ≡ false) where
    -- the load is open
    pub amid_among : (e : Option (Option ℕ)) (c : Option ℕ) (v : StandValue) (load : Site) (a : IsAmid e c v load) → is_among (group_at x line a.s) load.piece load.number ≡ true
    amid_among e c v load a =
        let short = a.short in
        let d : IsDistance (suc a.count) (most_loads x) = distance (suc a.count) (most_loads x) (omega (arith, short)) in
        let is = d.is in
        let whole : suc d.more + a.count ≡ most_loads x = omega (arith, is) in
        let list : group_at x line a.s ≡ loads_within a.count x line a.s ++ load ∷ loads_within d.more x line (spot_after x line (spot_behind a.count x line a.s)) =
        ap (λ k. loads_within k x line a.s) (sym whole) ∙ split a.count (suc d.more) a.s a.are ∙ ap (λ o. loads_within a.count x line a.s ++ followed_by o (loads_within d.more x line (spot_after x line (spot_behind a.count x line a.s)))) a.next in
        ap (λ sites. is_among sites load.piece load.number) list ∙ behind_others (loads_within a.count x line a.s) (loads_within d.more x line (spot_after x line (spot_behind a.count x line a.s))) load

    pub amid_fresh : (e : Option (Option ℕ)) (c : Option ℕ) (v : StandValue) (load : Site) (a : IsAmid e c v load) → v.loaded load.piece load.number ≡ false
    amid_fresh e c v load a = ap (λ (loaded : (piece number : ℕ) → Bool). loaded load.piece load.number) a.loaded ∙ once a.count a.s load a.exists a.are a.next

    -- where the group ends behind this many loads
    record IsEnd (count : ℕ) (s : Spot) : Type 0 where
      pub list : group_at x line s ≡ loads_within count x line s
      pub behind : behind_group x line s ≡ spot_behind count x line s

    ends_at_none : (count : ℕ) (s : Spot) → AreLoads x line count s → count ≤ most_loads x → load_at x line (spot_behind count x line s) ≡ None → IsEnd count s
    ends_at_none count s are few none =
        let d : IsDistance count (most_loads x) = distance count (most_loads x) few in
        record {
          list = ap (λ k. loads_within k x line s) (sym d.is) ∙ split count d.more s are ∙ ap (λ more. loads_within count x line s ++ more) (none_from d.more (spot_behind count x line s) none) ∙ append_none (loads_within count x line s);
          behind = ap (λ k. spot_behind k x line s) (sym d.is) ∙ behind_split count d.more s are ∙ stays_there d.more (spot_behind count x line s) none;
        }

    ends_at_most : (count : ℕ) (s : Spot) → count ≡ most_loads x → IsEnd count s
    ends_at_most count s is = record { list = ap (λ k. loads_within k x line s) (sym is); behind = ap (λ k. spot_behind k x line s) (sym is) }

    -- a load more, and the group goes on behind it
    goes_on : (count : ℕ) (s : Spot) (load : Site) → s.edge < edge_count (graph_in x.net) → AreLoads x line count s → load_at x line (spot_behind count x line s) ≡ Some load → count < most_loads x → list_all (λ (l : Site). is_among (loads_within count x line s) l.piece l.number) (group_at x line s) ≡ false
    goes_on count s load exists are at few = ⊎_elim
        (λ (all : list_all (λ (l : Site). is_among (loads_within count x line s) l.piece l.number) (group_at x line s) ≡ true).
        let d : IsDistance (suc count) (most_loads x) = distance (suc count) (most_loads x) (omega (arith, few)) in
        let is = d.is in
        let whole : suc d.more + count ≡ most_loads x = omega (arith, is) in
        let list : group_at x line s ≡ loads_within count x line s ++ load ∷ loads_within d.more x line (spot_after x line (spot_behind count x line s)) =
        ap (λ k. loads_within k x line s) (sym whole) ∙ split count (suc d.more) s are ∙ ap (λ o. loads_within count x line s ++ followed_by o (loads_within d.more x line (spot_after x line (spot_behind count x line s)))) at in
        let among : is_among (group_at x line s) load.piece load.number ≡ true = ap (λ sites. is_among sites load.piece load.number) list ∙ behind_others (loads_within count x line s) (loads_within d.more x line (spot_after x line (spot_behind count x line s))) load in
        both_ways (is_among (loads_within count x line s) load.piece load.number) (all_among (is_among (loads_within count x line s)) (group_at x line s) load.piece load.number all among) (once count s load exists are at))
        (λ not. not)
        (cases_Bool (list_all (λ (l : Site). is_among (loads_within count x line s) l.piece l.number) (group_at x line s)))

    -- what a load makes of a line that stands at s
    read_there : (v : StandValue) (s : Spot) (loaded : (piece number : ℕ) → Bool) (p i : ℕ) → v.edge ≡ Some (Some s.edge) → v.passed ≡ Some s.passed → with_load p i v.loaded ≡ loaded → (b : Bool)
        → list_all (λ (l : Site). loaded l.piece l.number) (group_at x line s) ≡ b
        → stand_read x line (Op p i) v ≡ (if b then (record { edge = Some (Some (behind_group x line s).edge); passed = Some (behind_group x line s).passed; loaded = none_loaded }) else (record { edge = Some (Some s.edge); passed = Some s.passed; loaded = loaded }))
    read_there v s loaded p i edge passed adds b whole =
        let w : StandValue = record { edge = Some (Some s.edge); passed = Some s.passed; loaded = v.loaded } in
        let is : v ≡ w = λ n. record { edge = edge n; passed = passed n; loaded = v.loaded } in
        ap (stand_read x line (Op p i)) is
        ∙ ap (λ (all : (piece number : ℕ) → Bool). stood_as (gone_on x line (record { edge = Some s.edge; passed = s.passed; loaded = all }) (Some s.edge)) w) adds
        ∙ ap (λ (done : Bool). stood_as (if done then standing_at (behind_group x line s) else (record { edge = Some s.edge; passed = s.passed; loaded = loaded })) w) whole
        ∙ by b
      where
        by : (b : Bool) → stood_as (if b then standing_at (behind_group x line s) else (record { edge = Some s.edge; passed = s.passed; loaded = loaded })) (record { edge = Some (Some s.edge); passed = Some s.passed; loaded = v.loaded })
            ≡ (if b then (record { edge = Some (Some (behind_group x line s).edge); passed = Some (behind_group x line s).passed; loaded = none_loaded }) else (record { edge = Some (Some s.edge); passed = Some s.passed; loaded = loaded }))
        by true = refl
        by false = refl

    -- The other line has passed the load too, and they are in step again.
    pub amid_read : (e : Option (Option ℕ)) (c : Option ℕ) (v : StandValue) (p i : ℕ) (a : IsAmid e c v (site p i))
        → InStep (Some (Some (spot_after x line (spot_behind a.count x line a.s)).edge)) (Some (spot_after x line (spot_behind a.count x line a.s)).passed) (stand_read x line (Op p i) v)
    amid_read e c v p i a = by (load_at x line (spot_behind (suc a.count) x line a.s)) refl (below_or_not (suc a.count) (most_loads x))
      where
        more : IsOneMore a.count a.s (site p i)
        more = one_more a.count a.s (site p i) a.are a.next

        adds : with_load p i v.loaded ≡ is_among (loads_within (suc a.count) x line a.s)
        adds =
            ap (λ (loaded : (piece number : ℕ) → Bool). with_load p i loaded) a.loaded
            ∙ fun_ext (λ q. fun_ext (λ j. with_last (loads_within a.count x line a.s) p i q j))
            ∙ ap (λ sites. is_among sites) (sym more.list)

        ended : IsEnd (suc a.count) a.s → IsSame (Some (Some (spot_after x line (spot_behind a.count x line a.s)).edge)) (Some (spot_after x line (spot_behind a.count x line a.s)).passed) (stand_read x line (Op p i) v)
        ended end =
            let all : list_all (λ (l : Site). is_among (loads_within (suc a.count) x line a.s) l.piece l.number) (group_at x line a.s) ≡ true =
            ap (λ sites. list_all (λ (l : Site). is_among (loads_within (suc a.count) x line a.s) l.piece l.number) sites) end.list ∙ all_own (loads_within (suc a.count) x line a.s) in
            let read = read_there v a.s (is_among (loads_within (suc a.count) x line a.s)) p i a.edge a.passed adds true all in
            let there : behind_group x line a.s ≡ spot_after x line (spot_behind a.count x line a.s) = end.behind ∙ more.behind in
            record {
              edge = ap (λ (w : StandValue). w.edge) read ∙ ap (λ (u : Spot). Some (Some u.edge)) there;
              passed = ap (λ (w : StandValue). w.passed) read ∙ ap (λ (u : Spot). Some u.passed) there;
              loaded = ap (λ (w : StandValue). w.loaded) read;
            }

        going : (load : Site) → load_at x line (spot_behind (suc a.count) x line a.s) ≡ Some load → suc a.count < most_loads x
            → IsAmid (Some (Some (spot_after x line (spot_behind a.count x line a.s)).edge)) (Some (spot_after x line (spot_behind a.count x line a.s)).passed) (stand_read x line (Op p i) v) load
        going load at few =
            let read = read_there v a.s (is_among (loads_within (suc a.count) x line a.s)) p i a.edge a.passed adds false (goes_on (suc a.count) a.s load a.exists more.are at few) in
            record {
              s = a.s;
              count = suc a.count;
              exists = a.exists;
              are = more.are;
              next = at;
              short = few;
              edge = ap (λ (w : StandValue). w.edge) read;
              passed = ap (λ (w : StandValue). w.passed) read;
              loaded = ap (λ (w : StandValue). w.loaded) read;
              other_edge = ap (λ (u : Spot). Some (Some u.edge)) (sym more.behind);
              other_passed = ap (λ (u : Spot). Some u.passed) (sym more.behind);
            }

        by : (o : Option Site) → load_at x line (spot_behind (suc a.count) x line a.s) ≡ o → (suc a.count < most_loads x) ⊎ (most_loads x ≤ suc a.count)
            → InStep (Some (Some (spot_after x line (spot_behind a.count x line a.s)).edge)) (Some (spot_after x line (spot_behind a.count x line a.s)).passed) (stand_read x line (Op p i) v)
        by None none few = let short = a.short in inl (ended (ends_at_none (suc a.count) a.s more.are (omega (arith, short)) none))
        by (Some load) at (inl few) = inr (load, going load at few)
        by (Some load) at (inr many) = let short = a.short in inl (ended (ends_at_most (suc a.count) a.s (omega (arith, short, many))))
