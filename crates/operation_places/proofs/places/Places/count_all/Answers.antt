use Rattle.std.proofs.Common.{◌≡◌, ◌<◌, ◌==◌, ◌++◌, [], ◌∷◌, length, set, refl, ap, ◌∙◌, arith}
use Rattle.std.proofs.lemmas.List.FromFn.{length-map-range_with_len}
use Rattle.firing.specs.ReadySet.{has}
use Rattle.operation_tables.specs.BoardView.{operation_net_on}
use Rattle.operation_places.specs.PlacesView.{standing}
use Rattle.operation_tables.specs.Waits.{awaits, node_total}
use Rattle.operation_places.proofs.CountedBelow.{all_counted, next_counted, none_counted}
use Rattle.operation_places.proofs.places.Places.count_all.Goals as goal

pub loop-k-init : goal.loop-k-init
loop-k-init g c =
    let x = operation_net_on c.args.board.now in
    let old = c.args.self.now in
    record {
      stands = refl;
      leads = refl;
      apart = refl;
      below = none_counted (node_total x) (awaits x old.apart.items (standing old)) old.counts.items old.set c.requires.none c.requires.places.marks;
      places = c.requires.places;
    }

pub count_one-requires : goal.count_one-requires
count_one-requires g c =
    let x = operation_net_on c.args.board.now in
    let kept = c.loop-k.invariant in
    let long : length c.loop-k.self.counts.items ≡ c.loop-k.k = ap length kept.below.counts ∙ length-map-range_with_len (awaits x c.args.self.now.apart.items (standing c.args.self.now)) 0 c.loop-k.k in
    (omega arith, (omega (arith, c.nodes-k-end.ensures, c.loop-k-test.true), (kept.places, long)))

pub loop-k-preserved : goal.loop-k-preserved
loop-k-preserved g c =
    let x = operation_net_on c.args.board.now in
    let kept = c.loop-k.invariant in
    let k = c.loop-k.k in
    let old = c.loop-k.self in
    let new = c.count_one.new.self in
    let node : k < node_total x = omega (arith, c.nodes-k-end.ensures, c.loop-k-test.true) in
    record {
      stands = c.count_one.ensures.standing ∙ kept.stands;
      leads = c.count_one.ensures.leads ∙ kept.leads;
      apart = c.count_one.ensures.apart ∙ kept.apart;
      below = next_counted (node_total x) k (awaits x c.args.self.now.apart.items (standing c.args.self.now)) old.counts.items new.counts.items old.set new.set kept.below node
          (c.count_one.ensures.counts ∙ ap (λ m. old.counts.items ++ awaits x old.apart.items m k ∷ []) kept.stands ∙ ap (λ led. old.counts.items ++ awaits x led (standing c.args.self.now) k ∷ []) kept.apart)
          (c.count_one.ensures.set ∙ ap (λ m. set old.set k (awaits x old.apart.items m k == 0)) kept.stands ∙ ap (λ led. set old.set k (awaits x led (standing c.args.self.now) k == 0)) kept.apart);
      places = c.count_one.ensures.places;
    }

pub returns-clause-standing : goal.returns-clause-standing
returns-clause-standing g c = c.loop-k.invariant.stands

pub returns-clause-counts : goal.returns-clause-counts
returns-clause-counts g c =
    let x = operation_net_on c.args.board.now in
    let last : c.loop-k.k ≡ node_total x = omega (arith, c.nodes-k-end.ensures, c.loop-k-test.false, c.loop-k.auto.k-end) in
    all_counted (node_total x) c.loop-k.k (awaits x c.args.self.now.apart.items (standing c.args.self.now)) (has c.args.self.now.apart.items) c.loop-k.self.counts.items c.loop-k.self.set last c.loop-k.invariant.below

pub returns-clause-places : goal.returns-clause-places
returns-clause-places g c = c.loop-k.invariant.places

pub returns-clause-apart : goal.returns-clause-apart
returns-clause-apart g c = c.loop-k.invariant.apart

pub returns-clause-leads : goal.returns-clause-leads
returns-clause-leads g c = c.loop-k.invariant.leads
