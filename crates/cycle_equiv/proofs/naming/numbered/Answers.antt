use Rattle.std.proofs.Common.{◌≡◌, ◌≤◌, length, subst, arith}
use Rattle.std.specs.List.{position_or_len}
use Rattle.cycle_equiv.proofs.NamedEdges.{IsNamed, IsNamed-none, IsNamed-next, AreNumbered-all, no_name, same_names, name}
use Rattle.cycle_equiv.proofs.naming.numbered.Goals as goal
use Rattle.list_laws.proofs.KeyPlaces.{place_within}

pub loop-e-init : goal.loop-e-init
loop-e-init c = rw (c.new-names.ensures.empty, c.new-classes.ensures.items) (IsNamed-none c.args.tops.now c.args.sizes.now)

pub overflow_cast-class : goal.overflow_cast-class
overflow_cast-class c =
    let tops = c.args.tops.now in
    let e = c.loop-e.e in
    let few : length c.loop-e.names.keys ≤ e = c.loop-e.invariant.few in
    let place : position_or_len (same_names (name tops c.args.sizes.now e)) c.loop-e.names.keys ≤ length c.loop-e.names.keys = place_within same_names no_name (name tops c.args.sizes.now e) c.loop-e.names.keys in
    let is : c.in_ok-class.class ≡ position_or_len (same_names (name tops c.args.sizes.now e)) c.loop-e.names.keys = c.in_ok-class.ensures.index in
    omega (arith, few, place, is, c.loop-e-test.true, c.requires.few)

pub loop-e-preserved : goal.loop-e-preserved
loop-e-preserved c =
    rw c.in_ok-push.ensures.items
    (IsNamed-next c.args.tops.now c.args.sizes.now c.loop-e.e c.in_ok-class.class c.loop-e.names.keys c.insert_full.new.self.keys c.loop-e.classes.items c.loop-e.invariant c.in_ok-class.ensures.keys c.in_ok-class.ensures.index)

pub returns : goal.returns
returns c =
    let all : IsNamed c.args.tops.now c.args.sizes.now (length c.args.tops.now) c.loop-e.names.keys c.loop-e.classes.items =
    subst (λ e. IsNamed c.args.tops.now c.args.sizes.now e c.loop-e.names.keys c.loop-e.classes.items) (omega arith) c.loop-e.invariant
    in
    AreNumbered-all c.args.tops.now c.args.sizes.now c.loop-e.names.keys c.loop-e.classes.items all
