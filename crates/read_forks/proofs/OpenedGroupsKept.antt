-- A line was opened for a group: what is kept of all lines.
use Rattle.std.proofs.Common.{◌≡◌, ◌<◌, ◌⊎◌, inl, inr, ℕ, ◌==◌, true, false, List, [], ◌∷◌, length, Some, slice_get, slice_set, sym, ap, ◌∙◌, subst}
use Rattle.std.specs.List.{list_any}
use Rattle.list_laws.proofs.Counts.{count_same}
use Rattle.net_board.specs.Tokens.{edge_of}
use Rattle.net_board.proofs.ListPlaces.{get_set_other, length_slice_set, same_or_not}
use Rattle.net_board.proofs.NodeLaws.{get_some}
use Rattle.op_board.specs.OperationNets.{OperationNet}
use Rattle.op_board.specs.OperationTokens.{OperationTokens, passed_by}
use Rattle.fork_board.specs.LoadGroups.{Site, Spot, group_at, is_among, spot}
use Rattle.read_forks.specs.KeptLoads.{AreKept, AreOpened, AreTables, opened_of}
use Rattle.read_forks.specs.LoadChanges.{Loaded}
use Rattle.read_forks.specs.LoadedGroups.{is_near_on}
use Rattle.read_forks.specs.NodeLinks.{AreSteps, AreValueLoads, opened_in}
use Rattle.read_forks.specs.OpenGroups.{AreClosed, AreGroups, AreOpenNear, IsGroupAt, is_near_in}
use Rattle.read_forks.specs.OpenedGroups.{IsOpenedFor}
use Rattle.read_forks.specs.Ways.{AreWays}
use Rattle.read_forks.specs.declared.steps.Group.{Group}
use Rattle.read_forks.specs.declared.steps.Link.{Link}
use Rattle.read_forks.specs.declared.steps.Step.{Step}
use Rattle.read_forks.specs.declared.waiting.Waiting.{Waiting}
use Rattle.read_forks.proofs.ArrivedLines.{is_other, is_own}
use Rattle.read_forks.proofs.SameLinks.{get_set_here}

-- what is told of the group of a line for whose loads nothing has changed
pub same_group : (x : OperationNet) (old new : Loaded) (line : ℕ) (s : Spot) (group : Group) → ((piece number : ℕ) → new line piece number ≡ old line piece number) → IsGroupAt x old line s group → IsGroupAt x new line s group
same_group x old new line s group same is = record {
  left = is.left ∙ count_same (λ (load : Site). old line load.piece load.number) (λ (load : Site). new line load.piece load.number) (group_at x line s) (λ load m. sym (same load.piece load.number));
  behind = is.behind;
  exists = is.exists;
  from = is.from;
  to = is.to;
}

module _ (x : OperationNet) (m : OperationTokens) (line edge : ℕ) (stands : edge_of m.tokens line ≡ Some edge) where
  abbrev here : Spot
  here = spot edge (passed_by m line)

  near_there : (piece number : ℕ) → is_near_in x m line piece number ≡ is_among (group_at x line here) piece number
  near_there piece number = ap (is_near_on x line piece number (passed_by m line)) stands

  module _ (old new : Loaded) (opened : IsOpenedFor line (group_at x line here) old new) where
    pub all_opened : AreOpened x m (line ∷ []) old new
    all_opened = record {
      here = λ l among piece number. own l piece number (same_or_not line l) among;
      others = λ l not piece number. opened.others l piece number (λ same. let e : true ≡ false = sym (is_own line) ∙ subst (λ (n : ℕ). list_any (λ (k : ℕ). k == n) (line ∷ []) ≡ false) same not in absurd cc);
    }
      where
        own : (l piece number : ℕ) → (line ≡ l) ⊎ (line ≡ l → ⊥) → list_any (λ (k : ℕ). k == l) (line ∷ []) ≡ true → new l piece number ≡ is_near_in x m l piece number
        own l piece number (inl same) among = subst (λ (n : ℕ). new n piece number ≡ is_near_in x m n piece number) same (opened.here piece number ∙ sym (near_there piece number))
        own l piece number (inr differ) among = let e : true ≡ false = sym among ∙ is_other line l differ in absurd cc

    still_near : AreOpenNear x m old → AreOpenNear x m new
    still_near near l piece number is = by (same_or_not l line)
      where
        by : (l ≡ line) ⊎ (l ≡ line → ⊥) → is_near_in x m l piece number ≡ true
        by (inl same) =
            subst (λ (n : ℕ). is_near_in x m n piece number ≡ true) (sym same) (near_there piece number ∙ sym (opened.here piece number) ∙ subst (λ (n : ℕ). new n piece number ≡ true) same is)
        by (inr differ) = near l piece number (sym (opened.others l piece number differ) ∙ is)

    groups_there : (groups : List Group) (group : Group) → line < length groups → IsGroupAt x new line here group → AreGroups x m old groups → AreGroups x m new (slice_set groups line group)
    groups_there groups group inside own are l piece number e told is on at = by (same_or_not line l)
      where
        by : (line ≡ l) ⊎ (line ≡ l → ⊥) → IsGroupAt x new l (spot e (passed_by m l)) told
        by (inl same) =
            let was = get_some x.net groups line inside in
            let both : Some told ≡ Some group = sym at ∙ ap (slice_get (slice_set groups line group)) (sym same) ∙ get_set_here groups line was.0 group was.1 in
            let g : group ≡ told = let h : told ≡ group = cc in sym h in
            let edges : Some edge ≡ Some e = sym stands ∙ ap (edge_of m.tokens) same ∙ on in
            let f : edge ≡ e = cc in
            subst (λ (n : ℕ). IsGroupAt x new n (spot e (passed_by m n)) told) same
            (subst (λ (a : ℕ). IsGroupAt x new line (spot a (passed_by m line)) told) f (subst (λ (h : Group). IsGroupAt x new line here h) g own))
        by (inr differ) =
            let apart : l ≡ line → ⊥ = λ same. differ (sym same) in
            same_group x old new l (spot e (passed_by m l)) told (λ p n. opened.others l p n apart)
            (are l piece number e told (sym (opened.others l piece number apart) ∙ is) on (sym (get_set_other groups line l group differ) ∙ at))

  -- all that is kept
  module _ (w mid new : Waiting) (group : Group) (kept : AreKept x m w) (low : line < x.net.routing.lines) (tables : AreTables x mid) (closed : AreClosed x (opened_of x mid) mid.closed.items) (opened : IsOpenedFor line (group_at x line here) (opened_of x w) (opened_of x mid)) (own : IsGroupAt x (opened_of x mid) line here group) (mid_groups : mid.groups ≡ w.groups)
      (links : new.links.items ≡ mid.links.items) (steps : new.steps ≡ mid.steps) (givers : new.givers.items ≡ mid.givers.items) (counts : new.closed.items ≡ mid.closed.items) (set : new.groups.items ≡ slice_set mid.groups.items line group) where
    same_opened : opened_of x new ≡ opened_of x mid
    same_opened = ap (λ (ls : List Link). opened_in x ls) links

    pub kept_then : AreKept x m new
    kept_then = record {
      tables = kept_tables;
      near = subst (λ (o : Loaded). AreOpenNear x m o) (sym same_opened) (still_near (opened_of x w) (opened_of x mid) opened kept.near);
      closed = subst (λ (o : Loaded). AreClosed x o new.closed.items) (sym same_opened) (subst (λ (ns : List ℕ). AreClosed x (opened_of x mid) ns) (sym counts) closed);
      groups = subst (λ (o : Loaded). AreGroups x m o new.groups.items) (sym same_opened)
          (subst (λ (gs : List Group). AreGroups x m (opened_of x mid) gs) (sym (set ∙ ap (λ gs. slice_set gs line group) same_groups))
          (groups_there (opened_of x w) (opened_of x mid) opened w.groups.items group (subst (λ (n : ℕ). line < n) (sym kept.tables.lines) low) own kept.groups));
    }
      where
        same_groups : mid.groups.items ≡ w.groups.items
        same_groups = ap (λ gs. gs.items) mid_groups

        kept_tables : AreTables x new
        kept_tables = record {
          steps = subst (λ (ss : List Step). AreSteps x ss new.links.items) (sym steps) (subst (λ (ls : List Link). AreSteps x mid.steps ls) (sym links) tables.steps);
          ways = subst (λ (ls : List Link). ∥ AreWays x ls ∥₁) (sym links) tables.ways;
          values = subst (λ (ss : List Step). AreValueLoads x ss new.givers.items) (sym steps) (subst (λ (gs : List ℕ). AreValueLoads x mid.steps gs) (sym givers) tables.values);
          lines = ap length set ∙ length_slice_set mid.groups.items line group ∙ tables.lines;
          nodes = ap length counts ∙ tables.nodes ∙ sym (ap length steps);
        }

    pub opened_then : AreOpened x m (line ∷ []) (opened_of x w) (opened_of x new)
    opened_then = subst (λ (o : Loaded). AreOpened x m (line ∷ []) (opened_of x w) o) (sym same_opened) (all_opened (opened_of x w) (opened_of x mid) opened)
