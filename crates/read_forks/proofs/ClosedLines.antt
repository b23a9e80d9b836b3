-- A line is closed for a load that has fired: what this changes.
use Rattle.std.proofs.Common.{◌≡◌, ◌<◌, ◌⊎◌, inl, inr, ℕ, suc, ◌+◌, ◌-◌, ◌&&◌, ◌||◌, Bool, true, false, not, List, [], ◌∷◌, length, Option, Some, None, slice_get, refl, sym, ap, ◌∙◌, subst, arith}
use Rattle.std.specs.List.{list_all}
use Rattle.std.proofs.lemmas.Bool.{and_parts}
use mathlib.Core.Path.{fun_ext}
use Rattle.list_laws.proofs.Counts.{bit, count-cons}
use Rattle.net_board.specs.Tokens.{edge_of, joined}
use Rattle.net_board.proofs.ListPlaces.{get_set_other, index_of, same_or_not}
use Rattle.op_board.specs.OperationNets.{OperationNet}
use Rattle.op_board.specs.OperationTokens.{OperationTokens, passed_by}
use Rattle.operation_places.specs.PlacesView.{line_put}
use Rattle.fork_board.specs.ForkTokens.{ForkTokens, is_open, standing}
use Rattle.fork_board.specs.LoadGroups.{Site, Spot, behind_group, group_at, is_among, is_site, load_at, spot}
use Rattle.read_forks.specs.LoadChanges.{IsForgotten, IsPut, Loaded, are_loaded}
use Rattle.read_forks.specs.LoadedGroups.{LineIsNear, is_near_on}
use Rattle.read_forks.specs.LoadSteps.{line_read}
use Rattle.read_forks.specs.OpenGroups.{AreGroups, AreOpenNear, IsGroupAt, is_near_in, marking_by}
use Rattle.read_forks.specs.declared.steps.Group.{Group}
use Rattle.read_forks.proofs.LineReads.{is_inside, read_last, read_some}
use Rattle.read_forks.proofs.LinesRead.{edge_put_there, number_put_there}
use Rattle.read_forks.proofs.LoadWalks.{nowhere}
use Rattle.read_forks.proofs.OnceLoads.{DifferByOne, count_of, own_site}
use Rattle.read_forks.proofs.OpenLoads.{open_is}

-- ---- tests of loads

false_or : (b : Bool) → (b ≡ true → ⊥) → b ≡ false
false_or true never = absurd (never refl)
false_or false never = refl

-- all of the group have fired exactly where none is open, and then none is left
all_among : (test wide : (piece number : ℕ) → Bool) (sites : List Site) → ((p n : ℕ) → is_among sites p n ≡ true → test p n ≡ not (wide p n))
    → (count_of wide sites ≡ 0 → list_all (λ (load : Site). test load.piece load.number) sites ≡ true) × (0 < count_of wide sites → list_all (λ (load : Site). test load.piece load.number) sites ≡ false)
all_among test wide [] are = (λ none. refl, λ some. let none : count_of wide [] ≡ 0 = refl in absurd (omega (arith, some, none)))
all_among test wide (load ∷ sites) are = by (all_among test wide sites (λ p n among. are p n (more (is_site p n load) p n among))) (wide load.piece load.number) refl
  where
    more : (b : Bool) (p n : ℕ) → is_among sites p n ≡ true → (b || is_among sites p n) ≡ true
    more true p n among = refl
    more false p n among = among

    here : test load.piece load.number ≡ not (wide load.piece load.number)
    here = are load.piece load.number (ap (λ b. b || is_among sites load.piece load.number) (own_site load))

    by : ((count_of wide sites ≡ 0 → list_all (λ (z : Site). test z.piece z.number) sites ≡ true) × (0 < count_of wide sites → list_all (λ (z : Site). test z.piece z.number) sites ≡ false)) → (b : Bool) → wide load.piece load.number ≡ b → (count_of wide (load ∷ sites) ≡ 0 → list_all (λ (z : Site). test z.piece z.number) (load ∷ sites) ≡ true) × (0 < count_of wide (load ∷ sites) → list_all (λ (z : Site). test z.piece z.number) (load ∷ sites) ≡ false)
    by rest true is =
        let one : count_of wide (load ∷ sites) ≡ 1 + count_of wide sites = count-cons (λ (z : Site). wide z.piece z.number) load sites ∙ ap (λ c. bit c + count_of wide sites) is in
        (λ none. absurd (omega (arith, one, none)), λ some. ap (λ b. b && list_all (λ (z : Site). test z.piece z.number) sites) (here ∙ ap not is))
    by rest false is =
        let none_here : count_of wide (load ∷ sites) ≡ 0 + count_of wide sites = count-cons (λ (z : Site). wide z.piece z.number) load sites ∙ ap (λ c. bit c + count_of wide sites) is in
        let same : list_all (λ (z : Site). test z.piece z.number) (load ∷ sites) ≡ list_all (λ (z : Site). test z.piece z.number) sites = ap (λ b. b && list_all (λ (z : Site). test z.piece z.number) sites) (here ∙ ap not is) in
        (λ none. same ∙ rest.0 (omega (arith, none_here, none)), λ some. same ∙ rest.1 (omega (arith, none_here, some)))

-- ---- a line for which a load is open stands

pub record StandsNear (x : OperationNet) (m : OperationTokens) (line piece i : ℕ) : Type 0 where
  pub edge : ℕ
  pub stands : edge_of m.tokens line ≡ Some edge
  pub among : is_among (group_at x line (spot edge (passed_by m line))) piece i ≡ true

pub stands_near : (x : OperationNet) (m : OperationTokens) (line piece i : ℕ) → is_near_in x m line piece i ≡ true → StandsNear x m line piece i
stands_near x m line piece i near = by (edge_of m.tokens line) refl
  where
    by : (o : Option ℕ) → edge_of m.tokens line ≡ o → StandsNear x m line piece i
    by None is = let e : false ≡ true = sym (ap (is_near_on x line piece i (passed_by m line)) is) ∙ near in absurd cc
    by (Some edge) is = record { edge = edge; stands = is; among = sym (ap (is_near_on x line piece i (passed_by m line)) is) ∙ near }

near_at : (x : OperationNet) (m : OperationTokens) (line edge : ℕ) → edge_of m.tokens line ≡ Some edge → (p n : ℕ) → is_near_in x m line p n ≡ is_among (group_at x line (spot edge (passed_by m line))) p n
near_at x m line edge stands p n = ap (is_near_on x line p n (passed_by m line)) stands

-- ---- a line that is closed for a load

module _ (x : OperationNet) (m : OperationTokens) (opened after : Loaded) (line piece i : ℕ) (near : AreOpenNear x m opened) (was : opened line piece i ≡ true) (put : IsPut line piece i false opened after) (stood : StandsNear x m line piece i) where
  abbrev before : ForkTokens
  before = marking_by x m opened

  abbrev now : ForkTokens
  now = marking_by x m after

  abbrev group : List Site
  group = group_at x line (spot stood.edge (passed_by m line))

  -- one load of it is open no more
  pub differ : DifferByOne piece i (opened line) (after line)
  differ = record { had = was; has_not = put.here; same = λ p n other. put.others line p n (λ same. other (same.1, same.2)) }

  pub fired_too : IsPut line piece i true before.loaded now.loaded
  fired_too = record {
    here = ap (λ b. b && not (after line piece i)) (near line piece i was) ∙ ap not put.here;
    others = λ l p n other. ap (λ b. is_near_in x m l p n && not b) (put.others l p n other);
  }

  open_before : is_open x line piece i (standing before line) ≡ true
  open_before = open_is x m opened near line piece i ∙ was

  fired_near : LineIsNear x before line
  fired_near p n fired = (and_parts (is_near_in x m line p n) (not (opened line p n)) fired).0

  told : (p n : ℕ) → is_among group p n ≡ true → now.loaded line p n ≡ not (after line p n)
  told p n among = ap (λ b. b && not (after line p n)) (near_at x m line stood.edge stood.stands p n ∙ among)

  all_told : (count_of (after line) group ≡ 0 → are_loaded x now.loaded line (spot stood.edge (passed_by m line)) ≡ true) × (0 < count_of (after line) group → are_loaded x now.loaded line (spot stood.edge (passed_by m line)) ≡ false)
  all_told = all_among (now.loaded line) (after line) group told

  inside : line < length m.tokens.lines
  inside = is_inside m.tokens.lines line stood.edge stood.stands

  was_open : (l p n : ℕ) → after l p n ≡ true → opened l p n ≡ true
  was_open l p n wide = by (same_or_not l line) (same_or_not p piece) (same_or_not n i)
    where
      own : l ≡ line → p ≡ piece → n ≡ i → opened l p n ≡ true
      own a b c =
          let e : after line piece i ≡ true = subst (λ (q : ℕ). after q piece i ≡ true) a (subst (λ (q : ℕ). after l q i ≡ true) b (subst (λ (q : ℕ). after l p q ≡ true) c wide)) in
          let f : false ≡ true = sym put.here ∙ e in
          absurd cc

      by : (l ≡ line) ⊎ (l ≡ line → ⊥) → (p ≡ piece) ⊎ (p ≡ piece → ⊥) → (n ≡ i) ⊎ (n ≡ i → ⊥) → opened l p n ≡ true
      by (inl a) (inl b) (inl c) = own a b c
      by (inr a) q r = sym (put.others l p n (λ same. a same.0)) ∙ wide
      by (inl a) (inr b) r = sym (put.others l p n (λ same. b same.1)) ∙ wide
      by (inl a) (inl b) (inr c) = sym (put.others l p n (λ same. c same.2)) ∙ wide

  elsewhere : (l : ℕ) → (l ≡ line → ⊥) → (p n : ℕ) → after l p n ≡ opened l p n
  elsewhere l other p n = put.others l p n (λ same. other same.0)

  -- the group of another line is as it was
  group_kept : (l : ℕ) → (l ≡ line → ⊥) → (s : Spot) (g : Group) → IsGroupAt x opened l s g → IsGroupAt x after l s g
  group_kept l other s g at =
      let same : after l ≡ opened l = fun_ext (λ p. fun_ext (λ n. elsewhere l other p n)) in
      record { left = at.left ∙ ap (λ (test : (piece number : ℕ) → Bool). count_of test (group_at x l s)) (sym same); behind = at.behind; exists = at.exists; from = at.from; to = at.to }

  -- ---- it stays

  pub stays_read : 0 < count_of (after line) group → marking_by x m after ≡ line_read x piece i before line
  stays_read some = read_some x piece i line stood.edge m before.loaded now.loaded fired_too stood.stands inside (all_told.1 some)

  pub stays_near : AreOpenNear x m after
  stays_near l p n wide = near l p n (was_open l p n wide)

  module _ (less : count_of (opened line) group ≡ suc (count_of (after line) group)) where
    one_left : (edge : ℕ) (g h : Group) → edge ≡ stood.edge → h ≡ record g { left = g.left - 1 } → IsGroupAt x opened line (spot edge (passed_by m line)) g → IsGroupAt x after line (spot edge (passed_by m line)) h
    one_left edge g h same is at =
        let fewer : count_of (opened line) (group_at x line (spot edge (passed_by m line))) ≡ suc (count_of (after line) (group_at x line (spot edge (passed_by m line)))) =
        subst (λ (e : ℕ). count_of (opened line) (group_at x line (spot e (passed_by m line))) ≡ suc (count_of (after line) (group_at x line (spot e (passed_by m line))))) (sym same) less in
        let had = at.left in
        let kept : IsGroupAt x after line (spot edge (passed_by m line)) (record g { left = g.left - 1 }) = record { left = omega (arith, had, fewer); behind = at.behind; exists = at.exists; from = at.from; to = at.to } in
        subst (λ (k : Group). IsGroupAt x after line (spot edge (passed_by m line)) k) (sym is) kept

    pub stays_groups : (old new : List Group) (own : Group) → slice_get old line ≡ Some own → slice_get new line ≡ Some (record own { left = own.left - 1 }) → ((l : ℕ) → (l ≡ line → ⊥) → slice_get new l ≡ slice_get old l) → AreGroups x m opened old → AreGroups x m after new
    stays_groups old new own is put_there same groups l p n edge g wide stands at = by (same_or_not l line)
      where
        by : (l ≡ line) ⊎ (l ≡ line → ⊥) → IsGroupAt x after l (spot edge (passed_by m l)) g
        by (inr other) = group_kept l other (spot edge (passed_by m l)) g (groups l p n edge g (was_open l p n wide) stands (sym (same l other) ∙ at))
        by (inl e) =
            let stands_here : edge_of m.tokens line ≡ Some edge = subst (λ (q : ℕ). edge_of m.tokens q ≡ Some edge) e stands in
            let both : Some edge ≡ Some stood.edge = sym stands_here ∙ stood.stands in
            let one_edge : edge ≡ stood.edge = cc in
            let told : Some g ≡ Some (record own { left = own.left - 1 }) = sym (subst (λ (q : ℕ). slice_get new q ≡ Some g) e at) ∙ put_there in
            let is_own : g ≡ record own { left = own.left - 1 } = cc in
            subst (λ (q : ℕ). IsGroupAt x after q (spot edge (passed_by m q)) g) (sym e)
            (one_left edge own g one_edge is_own (groups line piece i edge own was stands_here is))

  -- ---- it goes on

  module _ (ends : load_at x line (behind_group x line (spot stood.edge (passed_by m line))) ≡ None) (none : count_of (after line) group ≡ 0) (there : line < length m.passed) where
    abbrev behind : Spot
    behind = behind_group x line (spot stood.edge (passed_by m line))

    abbrev moved : OperationTokens
    moved = line_put m line (Some behind.edge) behind.passed

    same_edge : (l : ℕ) → (l ≡ line → ⊥) → edge_of moved.tokens l ≡ edge_of m.tokens l
    same_edge l other = ap joined (get_set_other m.tokens.lines line l (Some behind.edge) (λ e. other (sym e)))

    same_passed : (l : ℕ) → (l ≡ line → ⊥) → passed_by moved l ≡ passed_by m l
    same_passed l other = index_of moved.passed m.passed l (get_set_other m.passed line l behind.passed (λ e. other (sym e)))

    near_elsewhere : (l : ℕ) → (l ≡ line → ⊥) → (p n : ℕ) → is_near_in x moved l p n ≡ is_near_in x m l p n
    near_elsewhere l other p n = ap (λ c. is_near_on x l p n c (edge_of moved.tokens l)) (same_passed l other) ∙ ap (is_near_on x l p n (passed_by m l)) (same_edge l other)

    -- behind a group stands no load
    near_none : (p n : ℕ) → is_near_in x moved line p n ≡ false
    near_none p n =
        let edge : edge_of moved.tokens line ≡ Some behind.edge = edge_put_there m.tokens.lines line (Some behind.edge) inside in
        let passed : passed_by moved line ≡ behind.passed = number_put_there m.passed line behind.passed there in
        ap (λ c. is_near_on x line p n c (edge_of moved.tokens line)) passed
        ∙ ap (is_near_on x line p n behind.passed) edge
        ∙ nowhere x line (Rattle.fork_board.specs.LoadGroups.most_loads x) behind p n ends

    -- no load of it is open any more
    none_open : (p n : ℕ) → after line p n ≡ false
    none_open p n = false_or (after line p n) (λ wide.
        let among : is_among group p n ≡ true = sym (near_at x m line stood.edge stood.stands p n) ∙ near line p n (was_open line p n wide) in
        let fired : now.loaded line p n ≡ true = Rattle.fork_board.proofs.ForkLines.all_among (now.loaded line) group p n (all_told.0 none) among in
        let e : false ≡ true = sym (told p n among ∙ ap not wide) ∙ fired in
        absurd cc)

    abbrev left : Loaded
    left = λ l p n. is_near_in x moved l p n && not (after l p n)

    forgotten : IsForgotten line group now.loaded left
    forgotten = record {
      left = λ p n is. let e : false ≡ true = sym (near_none p n) ∙ (and_parts (is_near_in x moved line p n) (not (after line p n)) is).0 in absurd cc;
      others = λ l p n other. ap (λ b. b && not (after l p n)) (near_elsewhere l other p n);
    }

    pub goes_read : marking_by x moved after ≡ line_read x piece i before line
    goes_read = read_last x piece i line stood.edge m before.loaded now.loaded fired_too left forgotten open_before fired_near stood.stands (all_told.0 none) behind refl

    pub goes_near : AreOpenNear x moved after
    goes_near l p n wide = by (same_or_not l line)
      where
        by : (l ≡ line) ⊎ (l ≡ line → ⊥) → is_near_in x moved l p n ≡ true
        by (inl same) = let e : false ≡ true = sym (none_open p n) ∙ subst (λ (q : ℕ). after q p n ≡ true) same wide in absurd cc
        by (inr other) = near_elsewhere l other p n ∙ near l p n (was_open l p n wide)

    -- ---- groups

    pub goes_groups : (old new : List Group) → ((l : ℕ) → (l ≡ line → ⊥) → slice_get new l ≡ slice_get old l) → AreGroups x m opened old → AreGroups x moved after new
    goes_groups old new same groups l p n edge g wide stands at = by (same_or_not l line)
      where
        elsewhere_too : (l ≡ line → ⊥) → IsGroupAt x after l (spot edge (passed_by moved l)) g
        elsewhere_too other =
            let was_there : IsGroupAt x opened l (spot edge (passed_by m l)) g = groups l p n edge g (was_open l p n wide) (sym (same_edge l other) ∙ stands) (sym (same l other) ∙ at) in
            let kept : IsGroupAt x after l (spot edge (passed_by m l)) g = group_kept l other (spot edge (passed_by m l)) g was_there in
            subst (λ (c : ℕ). IsGroupAt x after l (spot edge c) g) (sym (same_passed l other)) kept

        by : (l ≡ line) ⊎ (l ≡ line → ⊥) → IsGroupAt x after l (spot edge (passed_by moved l)) g
        by (inl e) = let f : false ≡ true = sym (none_open p n) ∙ subst (λ (q : ℕ). after q p n ≡ true) e wide in absurd cc
        by (inr other) = elsewhere_too other
