-- A line that is opened for the loads of a group, load by load.
use Rattle.std.proofs.Common.{◌≡◌, ◌<◌, ℕ, suc, ◌+◌, ◌==◌, ◌&&◌, ◌||◌, Bool, true, false, List, [], ◌∷◌, ◌++◌, length, count_by, Option, Some, None, is_some, refl, sym, ap, ◌∙◌, subst}
use Rattle.std.proofs.lemmas.Bool.{and_from, and_parts, eq-eqb, eqb-true}
use Rattle.std.proofs.lemmas.List.Folds.{list_any-append}
use Rattle.closed_walks.specs.Graph.{edge_count}
use Rattle.list_laws.proofs.Counts.{count_every}
use Rattle.list_laws.proofs.Members.{list_any_member}
use Rattle.net_board.specs.Nodes.{graph_in}
use Rattle.op_board.specs.OperationNets.{OperationNet}
use Rattle.operation_tables.specs.Waits.{IsNodeBefore}
use Rattle.fork_board.specs.Chains.{ComeOnce, GroupsEnd}
use Rattle.fork_board.specs.ForkTokens.{with_load}
use Rattle.fork_board.specs.LoadGroups.{Site, Spot, behind_group, group_at, is_among, is_site, load_at, loads_within, most_loads, site, spot, spot_after, spot_behind}
use Rattle.fork_board.proofs.LinesInStep.{IsOneMore, behind_split, one_more, split}
use Rattle.fork_board.proofs.LoadLists.{AreLoads}
use Rattle.read_forks.specs.KeptLoads.{IsOpenForNone}
use Rattle.read_forks.specs.LoadChanges.{IsPut, Loaded}
use Rattle.read_forks.specs.OpenGroups.{IsGroupAt}
use Rattle.read_forks.specs.OpenedGroups.{IsOpenedFor}
use Rattle.read_forks.specs.declared.steps.Group.{Group}
use Rattle.read_forks.proofs.LoadWalks.{no_more, stays_behind}
use Rattle.read_forks.proofs.OnceLoads.{own_site}

append_none : (sites : List Site) → sites ++ [] ≡ sites
append_none [] = refl
append_none (z ∷ sites) = ap (λ more. z ∷ more) (append_none sites)

no_load : (o : Option Site) → is_some o ≡ false → o ≡ None
no_load None none = refl
no_load (Some load) none = absurd cc

module _ (x : OperationNet) (line : ℕ) where
  -- so many loads stand one after another from s on, and behind them the line stands at t
  pub record IsAlong (s : Spot) (count : ℕ) (t : Spot) : Type 0 where
    pub are : AreLoads x line count s
    pub behind : spot_behind count x line s ≡ t
    pub exists : t.edge < edge_count (graph_in x.net)

  pub begins : (s : Spot) (count : ℕ) → count ≡ 0 → s.edge < edge_count (graph_in x.net) → IsAlong s count s
  begins s count none exists = subst (λ (n : ℕ). IsAlong s n s) (sym none) (record { are = refl; behind = refl; exists = exists })

  pub record IsFurther (s : Spot) (count : ℕ) (load : Site) (t : Spot) : Type 0 where
    pub list : loads_within (suc count) x line s ≡ loads_within count x line s ++ load ∷ []
    pub along : IsAlong s (suc count) t

  pub further : (s : Spot) (count : ℕ) (load : Site) (t u : Spot) → IsAlong s count t → load_at x line t ≡ Some load → (spot_after x line t).edge ≡ u.edge → (spot_after x line t).passed ≡ u.passed → u.edge < edge_count (graph_in x.net) → IsFurther s count load u
  further s count load t u a here edge passed exists =
      let more : IsOneMore x line count s load = one_more x line count s load a.are (ap (load_at x line) a.behind ∙ here) in
      let after : spot_after x line t ≡ u = λ n. spot (edge n) (passed n) in
      record { list = more.list; along = record { are = more.are; behind = more.behind ∙ ap (spot_after x line) a.behind ∙ after; exists = exists } }

  -- the next load is none of them
  pub not_before : ComeOnce x → line < x.net.routing.lines → (s : Spot) (count : ℕ) (load : Site) (t : Spot) → s.edge < edge_count (graph_in x.net) → IsAlong s count t → load_at x line t ≡ Some load → is_among (loads_within count x line s) load.piece load.number ≡ false
  not_before once low s count load t exists a here = once line count s load low exists a.are (ap (load_at x line) a.behind ∙ here)

  -- where no load follows they are the group
  pub record IsWholeGroup (s : Spot) (count : ℕ) (t : Spot) : Type 0 where
    pub group : group_at x line s ≡ loads_within count x line s
    pub behind : behind_group x line s ≡ t

  pub whole : (s : Spot) (count rest : ℕ) (t : Spot) → rest + count ≡ most_loads x → IsAlong s count t → load_at x line t ≡ None → IsWholeGroup s count t
  whole s count rest t all a none =
      let none_there : load_at x line (spot_behind count x line s) ≡ None = ap (load_at x line) a.behind ∙ none in
      record {
        group = ap (λ n. loads_within n x line s) (sym all)
            ∙ split x line count rest s a.are
            ∙ ap (λ more. loads_within count x line s ++ more) (no_more x line rest (spot_behind count x line s) none_there)
            ∙ append_none (loads_within count x line s);
        behind = ap (λ n. spot_behind n x line s) (sym all) ∙ behind_split x line count rest s a.are ∙ stays_behind x line rest (spot_behind count x line s) none_there ∙ a.behind;
      }

  -- not all of the net's loads follow one another without an end
  pub never_all : GroupsEnd x → line < x.net.routing.lines → (s : Spot) (count : ℕ) (t : Spot) (load : Site) → s.edge < edge_count (graph_in x.net) → count ≡ most_loads x → IsAlong s count t → load_at x line t ≡ Some load → ⊥
  never_all ends low s count t load exists all a here =
      let at : behind_group x line s ≡ t = ap (λ n. spot_behind n x line s) (sym all) ∙ a.behind in
      let both : None ≡ Some load = sym (ends line s low exists) ∙ ap (load_at x line) at ∙ here in
      absurd cc

-- ---- for which loads the line is open

last_among : (loads : List Site) (p i q j : ℕ) → with_load p i (is_among loads) q j ≡ is_among (loads ++ site p i ∷ []) q j
last_among loads p i q j = swap ((p == q) && (i == j)) (is_among loads q j) ∙ sym (list_any-append (is_site q j) loads (site p i ∷ []))
  where
    swap : (a b : Bool) → (a || b) ≡ (b || (a || false))
    swap true true = refl
    swap true false = refl
    swap false true = refl
    swap false false = refl

pub none_yet : (line : ℕ) (old : Loaded) → IsOpenForNone old line → IsOpenedFor line [] old old
none_yet line old none = record { here = none; others = λ l piece number differ. refl }

pub one_more_opened : (line piece number : ℕ) (loads : List Site) (old mid new : Loaded) → IsOpenedFor line loads old mid → IsPut line piece number true mid new → IsOpenedFor line (loads ++ site piece number ∷ []) old new
one_more_opened line piece number loads old mid new first put = record {
  here = λ p n. by p n ((piece == p) && (number == n)) refl ∙ last_among loads piece number p n;
  others = λ l p n differ. put.others l p n (λ same. differ same.0) ∙ first.others l p n differ;
}
  where
    by : (p n : ℕ) (b : Bool) → ((piece == p) && (number == n)) ≡ b → new line p n ≡ with_load piece number (is_among loads) p n
    by p n true is =
        let both = and_parts (piece == p) (number == n) is in
        ap (λ (q : ℕ). new line q n) (sym (eqb-true piece p both.0))
        ∙ ap (λ (k : ℕ). new line piece k) (sym (eqb-true number n both.1))
        ∙ put.here
        ∙ sym (ap (λ b. b || is_among loads p n) is)
    by p n false is =
        put.others line p n (λ same. absurd (let e : true ≡ false = sym (and_from (piece == p) (number == n) (eq-eqb piece p (sym same.1)) (eq-eqb number n (sym same.2))) ∙ is in cc))
        ∙ first.here p n
        ∙ sym (ap (λ b. b || is_among loads p n) is)

-- ---- the group

pub all_counted : (line : ℕ) (loads : List Site) (old new : Loaded) → IsOpenedFor line loads old new → count_by (λ (load : Site). new line load.piece load.number) loads ≡ length loads
all_counted line loads old new are =
    count_every (λ (load : Site). new line load.piece load.number) loads (λ load m. are.here load.piece load.number ∙ list_any_member (is_site load.piece load.number) loads load m (own_site load))

module _ (x : OperationNet) (line : ℕ) (s t : Spot) (count rest : ℕ) (all : rest + count ≡ most_loads x) (a : IsAlong x line s count t) (none : is_some (load_at x line t) ≡ false) (old new : Loaded) (opened : IsOpenedFor line (loads_within count x line s) old new) where
  w : IsWholeGroup x line s count t
  w = whole x line s count rest t all a (no_load (load_at x line t) none)

  pub opened_for_group : IsOpenedFor line (group_at x line s) old new
  opened_for_group = subst (λ (loads : List Site). IsOpenedFor line loads old new) (sym w.group) opened

  pub told_of_group : (group : Group) → group.left ≡ count → group.edge ≡ t.edge → group.passed ≡ t.passed → IsNodeBefore x line (Some s.edge) s.passed group.from → IsNodeBefore x line (Some t.edge) t.passed group.to → IsGroupAt x new line s group
  told_of_group group left edge passed from to =
      let at : spot group.edge group.passed ≡ t = λ n. spot (edge n) (passed n) in
      record {
        left = left ∙ sym (a.are) ∙ sym (all_counted line (loads_within count x line s) old new opened) ∙ ap (count_by (λ (load : Site). new line load.piece load.number)) (sym w.group);
        behind = at ∙ sym w.behind;
        exists = subst (λ (e : ℕ). e < edge_count (graph_in x.net)) (sym edge) a.exists;
        from = from;
        to = subst (λ (u : Spot). IsNodeBefore x line (Some u.edge) u.passed group.to) (sym at) to;
      }
