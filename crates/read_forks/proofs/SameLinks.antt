-- Links that stay the same but for where lines go from their nodes, and for whether they are open.
use Rattle.std.proofs.Common.{◌≡◌, ◌<◌, ◌⊎◌, inl, inr, ℕ, zero, suc, ◌+◌, List, [], ◌∷◌, length, Option, Some, None, slice_get, slice_set, refl, sym, ap, ◌∙◌, subst, arith}
use Rattle.std.proofs.Math.Logic.{∥∥₁_map}
use Rattle.std.proofs.lemmas.Bool.{cases_eq}
use Rattle.firing.specs.declared.system.NodeName.{NodeName}
use Rattle.firing.specs.declared.system.NodeName.TheVariants.{Act, Merge, Op, Switch}
use Rattle.net_board.proofs.ListPlaces.{get_set_other, length_slice_set}
use Rattle.op_board.specs.OperationNets.{OperationNet, operation_node}
use Rattle.read_forks.specs.NodeLinks.{AreSteps, HasLinks, IsOwnLink, IsStep}
use Rattle.read_forks.specs.RisingLinks.{AreRising, line_at, line_in}
use Rattle.read_forks.specs.Ways.{AreWays, IsLinkAt, IsLinkOf, IsWay, IsWayOf}
use Rattle.read_forks.specs.declared.steps.Link.{Link}
use Rattle.read_forks.specs.declared.steps.Step.{Step}
use Rattle.read_forks.specs.declared.ways.Way.{Way}
use Rattle.read_forks.specs.declared.ways.Way.TheVariants.{Before, Behind, Here, Out, Over}

abbrev pub AreSame : Option Link → Option Link → Type 0
AreSame None None = Unit {0}
AreSame None (Some new) = ⊥
AreSame (Some old) None = ⊥
AreSame (Some old) (Some new) = (new.line ≡ old.line) × (new.node ≡ old.node)

pub record AreSameLinks (old new : List Link) : Type 0 where
  pub room : length new ≡ length old
  pub each : (n : ℕ) → AreSame (slice_get old n) (slice_get new n)

-- where lines go from nodes is the same too
abbrev pub HaveSameWays : (old new : List Link) → Type 0
HaveSameWays old new = (n : ℕ) (was link : Link) → slice_get old n ≡ Some was → slice_get new n ≡ Some link → link.way ≡ was.way

-- ---- one link in place of another

pub get_set_here : {A : Type 0} (xs : List A) (n : ℕ) (a b : A) → slice_get xs n ≡ Some a → slice_get (slice_set xs n b) n ≡ Some b
get_set_here [] n a b at = absurd cc
get_set_here (y ∷ xs) zero a b at = refl
get_set_here (y ∷ xs) (suc n) a b at = get_set_here xs n a b at

same_itself : (o : Option Link) → AreSame o o
same_itself None = tt
same_itself (Some link) = (refl, refl)

module _ (links : List Link) (at : ℕ) (link changed : Link) (is : slice_get links at ≡ Some link) where
  abbrev now : List Link
  now = slice_set links at changed

  other_link : (n : ℕ) → (at ≡ n → ⊥) → slice_get now n ≡ slice_get links n
  other_link n differ = get_set_other links at n changed differ

  pub set_links : changed.line ≡ link.line → changed.node ≡ link.node → AreSameLinks links now
  set_links line node = record { room = length_slice_set links at changed; each = λ n. by n (cases_eq at n) }
    where
      by : (n : ℕ) → (at ≡ n) ⊎ (at ≡ n → ⊥) → AreSame (slice_get links n) (slice_get now n)
      by n (inl e) = subst (λ (k : ℕ). AreSame (slice_get links k) (slice_get now k)) e (subst (λ (o : Option Link). AreSame o (slice_get now at)) (sym is) (subst (λ (o : Option Link). AreSame (Some link) o) (sym (get_set_here links at link changed is)) (line, node)))
      by n (inr differ) = subst (λ (o : Option Link). AreSame (slice_get links n) o) (sym (other_link n differ)) (same_itself (slice_get links n))

  pub set_ways : changed.way ≡ link.way → HaveSameWays links now
  set_ways way n was new before after = by (cases_eq at n)
    where
      by : (at ≡ n) ⊎ (at ≡ n → ⊥) → new.way ≡ was.way
      by (inl e) =
          let a : Some new ≡ Some changed = sym after ∙ ap (slice_get now) (sym e) ∙ get_set_here links at link changed is in
          let b : Some was ≡ Some link = sym before ∙ ap (slice_get links) (sym e) ∙ is in
          let f : new ≡ changed = cc in
          let g : was ≡ link = cc in
          ap (λ (l : Link). l.way) f ∙ way ∙ sym (ap (λ (l : Link). l.way) g)
      by (inr differ) =
          let a : Some new ≡ Some was = sym after ∙ other_link n differ ∙ before in
          let f : new ≡ was = cc in
          ap (λ (l : Link). l.way) f

-- ---- what is kept

-- the link that was there
pub record WasLink (old : List Link) (n : ℕ) (link : Link) : Type 0 where
  pub was : Link
  pub at : slice_get old n ≡ Some was
  pub line : link.line ≡ was.line
  pub node : link.node ≡ was.node

module _ (old new : List Link) (same : AreSameLinks old new) where
  pub was_link : (n : ℕ) (link : Link) → slice_get new n ≡ Some link → WasLink old n link
  was_link n link at = by (slice_get old n) refl (subst (λ (o : Option Link). AreSame (slice_get old n) o) at (same.each n))
    where
      by : (o : Option Link) → slice_get old n ≡ o → AreSame o (Some link) → WasLink old n link
      by None is alike = absurd alike
      by (Some was) is alike = record { was = was; at = is; line = alike.0; node = alike.1 }

  pub same_line_at : (n : ℕ) → line_at new n ≡ line_at old n
  same_line_at n = by (slice_get old n) (slice_get new n) (same.each n)
    where
      by : (o p : Option Link) → AreSame o p → line_in p ≡ line_in o
      by None None alike = refl
      by None (Some link) alike = absurd alike
      by (Some was) None alike = absurd alike
      by (Some was) (Some link) alike = alike.0

  pub same_link_at : (n line k : ℕ) → IsLinkAt old n line k → IsLinkAt new n line k
  same_link_at n line k = by (slice_get old n) (slice_get new n) (same.each n)
    where
      by : (o p : Option Link) → AreSame o p → IsLinkOf o line k → IsLinkOf p line k
      by None None alike is = is
      by None (Some link) alike is = absurd is
      by (Some was) None alike is = absurd alike
      by (Some was) (Some link) alike is = (alike.0 ∙ is.0, alike.1 ∙ is.1)

  pub same_rising : (step : Step) → AreRising old step → AreRising new step
  same_rising step rise i j less below = subst (λ (a : ℕ). a < line_at new (step.first + j)) (sym (same_line_at (step.first + i))) (subst (λ (b : ℕ). line_at old (step.first + i) < b) (sym (same_line_at (step.first + j))) (rise i j less below))

  module _ (x : OperationNet) where
    same_has : (k : ℕ) (step : Step) → HasLinks x old k step → HasLinks x new k step
    same_has k step has = record {
      count = has.count;
      inside = let i = has.inside in let r = same.room in omega (arith, i, r);
      node = λ j link low at. let w : WasLink old (step.first + j) link = was_link (step.first + j) link at in w.node ∙ has.node j w.was low w.at;
      line = λ j link low at. let w : WasLink old (step.first + j) link = was_link (step.first + j) link at in has.line j w.was low w.at ∙ ap (λ (l : ℕ). Some l) (sym w.line);
    }

    pub same_step : (k : ℕ) (step : Step) → IsStep x old k step → IsStep x new k step
    same_step k step is = record { named = is.named; loads = is.loads; turns = is.turns; has_links = same_has k step is.has_links; rise = same_rising step is.rise }

    pub same_steps : (steps : List Step) → AreSteps x steps old → AreSteps x steps new
    same_steps steps are = record {
      all = are.all;
      each = λ k step at. same_step k step (are.each k step at);
      own = λ n link at. own n link (was_link n link at);
    }
      where
        own : (n : ℕ) (link : Link) → WasLink old n link → IsOwnLink x steps n link
        own n link w =
            let o : IsOwnLink x steps n w.was = are.own n w.was w.at in
            record {
              node = subst (λ (k : ℕ). k < Rattle.operation_tables.specs.Waits.node_total x) (sym w.node) o.node;
              from = λ step at. o.from step (ap (slice_get steps) (sym w.node) ∙ at);
              below = λ step at. o.below step (ap (slice_get steps) (sym w.node) ∙ at);
            }

    -- ---- ways

    pub same_way : (piece i line : ℕ) (way : Way) → IsWay x old piece i line way → IsWay x new piece i line way
    same_way piece i line (Here n) is = (is.0, record { follows = is.1.follows; loads = is.1.loads; link = same_link_at n line _ is.1.link })
    same_way piece i line (Before node) is = is
    same_way piece i line (Over n edge) is = (is.0, (is.1.0, record { exists = is.1.1.exists; last = is.1.1.last; led = is.1.1.led; loads = is.1.1.loads; link = same_link_at n line _ is.1.1.link }))
    same_way piece i line (Behind edge node) is = is
    same_way piece i line Out is = is

    pub same_way_of : (name : NodeName) (line : ℕ) (way : Way) → IsWayOf x old name line way → IsWayOf x new name line way
    same_way_of (Op piece i) line way is = same_way piece i line way is
    same_way_of (Switch piece own) line way is = is
    same_way_of (Merge piece own) line way is = is
    same_way_of (Act piece) line way is = is

    all_ways : HaveSameWays old new → AreWays x old → AreWays x new
    all_ways ways are n link at =
        let w : WasLink old n link = was_link n link at in
        let is : IsWayOf x old (operation_node x w.was.node) w.was.line w.was.way = are n w.was w.at in
        subst (λ (k : ℕ). IsWayOf x new (operation_node x k) link.line link.way) (sym w.node)
        (subst (λ (l : ℕ). IsWayOf x new (operation_node x w.was.node) l link.way) (sym w.line)
        (subst (λ (v : Way). IsWayOf x new (operation_node x w.was.node) w.was.line v) (sym (ways n w.was link w.at at)) (same_way_of (operation_node x w.was.node) w.was.line w.was.way is)))

    pub same_ways : HaveSameWays old new → ∥ AreWays x old ∥₁ → ∥ AreWays x new ∥₁
    same_ways ways are = ∥∥₁_map are (λ (a : AreWays x old). all_ways ways a)
