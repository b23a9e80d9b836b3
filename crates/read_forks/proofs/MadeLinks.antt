-- One node more has its step and its links.
use Rattle.std.proofs.Common.{◌≡◌, ◌<◌, ◌≤◌, ⊎_elim, ℕ, zero, suc, ◌+◌, ◌-◌, Bool, true, false, cond, List, [], ◌∷◌, ◌++◌, length, map, filter, Some, slice_get, refl, sym, ap, ◌∙◌, subst, arith}
use Rattle.std.specs.List.{range_with_len}
use Rattle.std.proofs.lemmas.List.{length-append, length-map}
use Rattle.list_laws.proofs.Members.{Member-filtered, Member-in_range}
use Rattle.firing.specs.declared.system.NodeName.{NodeName}
use Rattle.firing.specs.declared.system.NodeName.TheVariants.{Act, Merge, Op, Switch}
use Rattle.net_board.proofs.NodeLaws.{get_left, get_right, get_some, member_at}
use Rattle.op_board.specs.OperationNets.{OperationNet, needed, operation_node}
use Rattle.op_board.proofs.ValueTaking.{below_or_not, get_end}
use Rattle.operation_tables.specs.Waits.{node_total}
use Rattle.fork_board.specs.ForkTokens.{is_load_node}
use Rattle.read_forks.specs.MadeSteps.{AreStepsBelow, new_link_of}
use Rattle.read_forks.specs.NodeLinks.{AreSteps, HasLinks, IsOwnLink, IsStep, is_turn, linked_lines, turn_step}
use Rattle.read_forks.specs.RisingLinks.{AreRising, line_at, line_in}
use Rattle.read_forks.specs.declared.steps.Link.{Link}
use Rattle.read_forks.specs.declared.steps.Step.{Step}
use Rattle.read_forks.proofs.TestedLoads.{mapped}

-- ---- rising lines

abbrev pub DoRise : List ℕ → Type 0
DoRise lines = (i j a b : ℕ) → i < j → slice_get lines i ≡ Some a → slice_get lines j ≡ Some b → a < b

from_start : (test : ℕ → Bool) (s n j a : ℕ) → slice_get (filter test (range_with_len s n)) j ≡ Some a → s ≤ a
from_start test s n j a at = (Member-in_range s n a ((Member-filtered test (range_with_len s n) a (member_at (filter test (range_with_len s n)) j a at)).0)).0

pub filter_rises : (test : ℕ → Bool) (s n : ℕ) → DoRise (filter test (range_with_len s n))
filter_rises test s zero i j a b less first second = absurd cc
filter_rises test s (suc n) i j a b less first second = by (test s) (filter_rises test (s + 1) n) i j less first second
  where
    rest : List ℕ
    rest = filter test (range_with_len (s + 1) n)

    by : (c : Bool) → DoRise rest → (i j : ℕ) → i < j → slice_get (cond c (s ∷ rest) rest) i ≡ Some a → slice_get (cond c (s ∷ rest) rest) j ≡ Some b → a < b
    by false rises i j less first second = rises i j a b less first second
    by true rises i zero less first second = absurd (omega (arith, less))
    by true rises zero (suc j) less first second = let e : s ≡ a = cc in let low = from_start test (s + 1) n j b second in omega (arith, e, low)
    by true rises (suc i) (suc j) less first second = rises i j a b (omega (arith, less)) first second

pub needed_rise : (x : OperationNet) (piece i : ℕ) → DoRise (needed x piece i)
needed_rise x piece i = filter_rises (x.needs piece i) 0 x.net.routing.lines

-- ---- one of the links that are added

record IsNew (k : ℕ) (lines : List ℕ) (j : ℕ) (link : Link) : Type 0 where
  line : ℕ
  at : slice_get lines j ≡ Some line
  is : link ≡ new_link_of k line
  below : j < length lines

is_new : (k : ℕ) (lines : List ℕ) (j : ℕ) (link : Link) → slice_get (map (new_link_of k) lines) j ≡ Some link → IsNew k lines j link
is_new k [] j link at = absurd cc
is_new k (line ∷ lines) zero link at = record { line = line; at = refl; is = cc; below = omega arith }
is_new k (line ∷ lines) (suc j) link at =
    let r : IsNew k lines j link = is_new k lines j link at in
    let low = r.below in
    record { line = r.line; at = r.at; is = r.is; below = omega (arith, low) }

module _ (x : OperationNet) (n : ℕ) (steps : List Step) (links : List Link) (made : AreStepsBelow x n steps links) (step : Step) (lines : List ℕ) where
  abbrev pub all_links : List Link
  all_links = links ++ map (new_link_of n) lines

  abbrev pub all_steps : List Step
  all_steps = steps ++ step ∷ []

  longer : length all_links ≡ length links + length lines
  longer = length-append links (map (new_link_of n) lines) ∙ ap (λ (l : ℕ). length links + l) (length-map lines (new_link_of n))

  front : (at : ℕ) → at < length links → slice_get all_links at ≡ slice_get links at
  front at low = get_left links (map (new_link_of n) lines) at low

  back : (j : ℕ) (link : Link) → slice_get all_links (length links + j) ≡ Some link → IsNew n lines j link
  back j link at = is_new n lines j link (sym (get_right links (map (new_link_of n) lines) j) ∙ at)

  -- what a link of all is
  split : (P : Type 0) (at : ℕ) (link : Link) → slice_get all_links at ≡ Some link → (at < length links → slice_get links at ≡ Some link → P) → ((j : ℕ) → at ≡ length links + j → IsNew n lines j link → P) → P
  split P at link is old new = ⊎_elim
      (λ (low : at < length links). old low (sym (front at low) ∙ is))
      (λ (over : length links ≤ at).
      let e : at ≡ length links + (at - length links) = omega (arith, over) in
      new (at - length links) e (back (at - length links) link (sym (ap (slice_get all_links) e) ∙ is)))
      (below_or_not at (length links))

  -- ---- the nodes before it

  old_step : (k : ℕ) (s : Step) → IsStep x links k s → IsStep x all_links k s
  old_step k s is = record { named = is.named; loads = is.loads; turns = is.turns; has_links = has; rise = rises }
    where
      same : (j : ℕ) → j < s.count → slice_get all_links (s.first + j) ≡ slice_get links (s.first + j)
      same j low = let i = is.has_links.inside in front (s.first + j) (omega (arith, low, i))

      has : HasLinks x all_links k s
      has = record {
        count = is.has_links.count;
        inside = let i = is.has_links.inside in let l = longer in omega (arith, i, l);
        node = λ j link low at. is.has_links.node j link low (sym (same j low) ∙ at);
        line = λ j link low at. is.has_links.line j link low (sym (same j low) ∙ at);
      }

      rises : AreRising all_links s
      rises i j less low = subst (λ (a : ℕ). a < line_at all_links (s.first + j)) (sym (ap line_in (same i (omega (arith, less, low))))) (subst (λ (b : ℕ). line_at links (s.first + i) < b) (sym (ap line_in (same j low))) (is.rise i j less low))

  -- ---- the node

  module _ (low : n < node_total x) (linked : linked_lines x (operation_node x n) ≡ lines) (rise : DoRise lines)
      (named : (piece number : ℕ) → operation_node x n ≡ Op piece number → (step.piece ≡ piece) × (step.number ≡ number))
      (loads : step.loads ≡ is_load_node x (operation_node x n)) (turns : step.turns ≡ is_turn (operation_node x n)) (first : step.first ≡ length links) (count : step.count ≡ length lines) where
    there : (j : ℕ) → slice_get all_links (step.first + j) ≡ slice_get all_links (length links + j)
    there j = ap (λ (f : ℕ). slice_get all_links (f + j)) first

    new_line : (j line : ℕ) → slice_get lines j ≡ Some line → line_at all_links (step.first + j) ≡ line
    new_line j line at = ap line_in (there j ∙ get_right links (map (new_link_of n) lines) j ∙ mapped (new_link_of n) lines j line at)

    new_has : HasLinks x all_links n step
    new_has = record {
      count = count ∙ sym (ap length linked);
      inside = let l = longer in omega (arith, first, count, l);
      node = λ j link below at. let r : IsNew n lines j link = back j link (sym (there j) ∙ at) in ap (λ (l : Link). l.node) r.is;
      line = λ j link below at. let r : IsNew n lines j link = back j link (sym (there j) ∙ at) in ap (λ (ls : List ℕ). slice_get ls j) linked ∙ r.at ∙ sym (ap (λ (l : Link). Some l.line) r.is);
    }

    new_rise : AreRising all_links step
    new_rise i j less below =
        let a = get_some x.net lines i (omega (arith, less, below, count)) in
        let b = get_some x.net lines j (omega (arith, below, count)) in
        let c = new_line i a.0 a.1 in
        let d = new_line j b.0 b.1 in
        let r = rise i j a.0 b.0 less a.1 b.1 in
        omega (arith, c, d, r)

    new_step : IsStep x all_links n step
    new_step = record { named = named; loads = loads; turns = turns; has_links = new_has; rise = new_rise }

    step_there : (s : Step) → slice_get all_steps n ≡ Some s → s ≡ step
    step_there s at = ⊎_elim
        (λ (e : slice_get steps n ≡ Some s). absurd (no_step steps n s made.all e))
        (λ (e : (n ≡ length steps) × (step ≡ s)). sym e.1)
        (get_end steps step s n at)
      where
        no_step : (ss : List Step) (m : ℕ) (t : Step) → length ss ≡ m → slice_get ss m ≡ Some t → ⊥
        no_step [] m t long at = absurd cc
        no_step (u ∷ ss) zero t long at = omega (arith, long)
        no_step (u ∷ ss) (suc m) t long at = no_step ss m t (omega (arith, long)) at

    pub steps_more : AreStepsBelow x (n + 1) all_steps all_links
    steps_more = record {
      all = let a = made.all in let l = length-append steps (step ∷ []) in omega (arith, a, l);
      each = λ k s at. ⊎_elim
          (λ (e : slice_get steps k ≡ Some s). old_step k s (made.each k s e))
          (λ (e : (k ≡ length steps) × (step ≡ s)). subst (λ (t : Step). IsStep x all_links k t) e.1 (subst (λ (m : ℕ). IsStep x all_links m step) (sym (e.0 ∙ made.all)) new_step))
          (get_end steps step s k at);
      own = λ at link is. split (IsOwnLink x all_steps at link) at link is (old_own at link) (new_own at link);
      below = λ at link is. split (link.node < n + 1) at link is (λ inside e. let b = made.below at link e in omega (arith, b)) (λ j e r. let b = ap (λ (l : Link). l.node) r.is in omega (arith, b));
      shut = λ at link is. split (link.open ≡ false) at link is (λ inside e. made.shut at link e) (λ j e r. ap (λ (l : Link). l.open) r.is);
    }
      where
        old_own : (at : ℕ) (link : Link) → at < length links → slice_get links at ≡ Some link → IsOwnLink x all_steps at link
        old_own at link inside is =
            let o : IsOwnLink x steps at link = made.own at link is in
            let b = made.below at link is in
            let all = made.all in
            let same : slice_get all_steps link.node ≡ slice_get steps link.node = get_left steps (step ∷ []) link.node (omega (arith, b, all)) in
            record { node = o.node; from = λ s e. o.from s (sym same ∙ e); below = λ s e. o.below s (sym same ∙ e) }

        new_own : (at : ℕ) (link : Link) (j : ℕ) → at ≡ length links + j → IsNew n lines j link → IsOwnLink x all_steps at link
        new_own at link j e r =
            let node : link.node ≡ n = ap (λ (l : Link). l.node) r.is in
            let is : (s : Step) → slice_get all_steps link.node ≡ Some s → s ≡ step = λ s f. step_there s (sym (ap (slice_get all_steps) node) ∙ f) in
            let b = r.below in
            record {
              node = subst (λ (m : ℕ). m < node_total x) (sym node) low;
              from = λ s f. subst (λ (t : Step). t.first ≤ at) (sym (is s f)) (omega (arith, first, e));
              below = λ s f. subst (λ (t : Step). at < t.first + t.count) (sym (is s f)) (omega (arith, first, count, e, b));
            }

-- ---- a node that is no operation

turn_lines : (x : OperationNet) (name : NodeName) → is_turn name ≡ true → linked_lines x name ≡ []
turn_lines x (Op piece i) turns = absurd cc
turn_lines x (Switch piece line) turns = refl
turn_lines x (Merge piece line) turns = refl
turn_lines x (Act piece) turns = refl

turn_loads : (x : OperationNet) (name : NodeName) → is_turn name ≡ true → is_load_node x name ≡ false
turn_loads x (Op piece i) turns = absurd cc
turn_loads x (Switch piece line) turns = refl
turn_loads x (Merge piece line) turns = refl
turn_loads x (Act piece) turns = refl

pub turn_not : (name : NodeName) → is_turn name ≡ true → (piece i : ℕ) → name ≡ Op piece i → ⊥
turn_not (Op p q) turns piece i is = absurd cc
turn_not (Switch p line) turns piece i is = absurd cc
turn_not (Merge p line) turns piece i is = absurd cc
turn_not (Act p) turns piece i is = absurd cc

module _ (x : OperationNet) (n : ℕ) (steps : List Step) (links : List Link) (made : AreStepsBelow x n steps links) (turns : is_turn (operation_node x n) ≡ true) where
  new_turn : IsStep x links n turn_step
  new_turn = record {
    named = λ piece i is. absurd (turn_not (operation_node x n) turns piece i is);
    loads = sym (turn_loads x (operation_node x n) turns);
    turns = sym turns;
    has_links = record {
      count = sym (ap length (turn_lines x (operation_node x n) turns));
      inside = omega arith;
      node = λ j link low at. absurd (omega (arith, low));
      line = λ j link low at. absurd (omega (arith, low));
    };
    rise = λ i j less low. absurd (omega (arith, low));
  }

  -- it has no links
  pub turn_steps_more : AreStepsBelow x (n + 1) (steps ++ turn_step ∷ []) links
  turn_steps_more = record {
    all = let a = made.all in let l = length-append steps (turn_step ∷ []) in omega (arith, a, l);
    each = λ k s at. ⊎_elim
        (λ (e : slice_get steps k ≡ Some s). made.each k s e)
        (λ (e : (k ≡ length steps) × (turn_step ≡ s)). subst (λ (t : Step). IsStep x links k t) e.1 (subst (λ (m : ℕ). IsStep x links m turn_step) (sym (e.0 ∙ made.all)) new_turn))
        (get_end steps turn_step s k at);
    own = λ at link is.
        let o : IsOwnLink x steps at link = made.own at link is in
        let b = made.below at link is in
        let all = made.all in
        let same : slice_get (steps ++ turn_step ∷ []) link.node ≡ slice_get steps link.node = get_left steps (turn_step ∷ []) link.node (omega (arith, b, all)) in
        record { node = o.node; from = λ s e. o.from s (sym same ∙ e); below = λ s e. o.below s (sym same ∙ e) };
    below = λ at link is. let b = made.below at link is in omega (arith, b);
    shut = made.shut;
  }

-- ---- the first one and the last one

pub no_steps : (x : OperationNet) (steps : List Step) (links : List Link) → steps ≡ [] → links ≡ [] → AreStepsBelow x 0 steps links
no_steps x steps links none nothing = subst (λ (ss : List Step). AreStepsBelow x 0 ss links) (sym none) (subst (λ (ls : List Link). AreStepsBelow x 0 [] ls) (sym nothing) (record {
  all = refl;
  each = λ k s at. absurd cc;
  own = λ at link is. absurd cc;
  below = λ at link is. absurd cc;
  shut = λ at link is. absurd cc;
}))

pub all_steps_made : (x : OperationNet) (n : ℕ) (steps : List Step) (links : List Link) → n ≡ node_total x → AreStepsBelow x n steps links → AreSteps x steps links
all_steps_made x n steps links end made = record { all = made.all ∙ end; each = made.each; own = made.own }
