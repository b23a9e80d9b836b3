use Rattle.std.proofs.Common.{◌∷◌, []}
use Rattle.redundancy.proofs.Growing.{grown-none, grown-first, grown-one, grown-prefix}
use Rattle.redundancy.proofs.pieces.collect_exec.Goals as goal

pub returns-in_ok-collect-in-Assign : goal.returns-in_ok-collect-in-Assign
returns-in_ok-collect-in-Assign c =
    let names = c.args.names.now in
    let value = c.in-Assign.value in
    let old = c.args.found.now.items in
    let middle = c.collect_all.new.found.items in
    let new = c.collect.new.found.items in
    rw c.in-Assign.is (grown-prefix names c.in-Assign.target.subs (value ∷ []) old middle new c.in_ok-collect_all-in-Assign.ensures.found (grown-one names value middle new c.in_ok-collect-in-Assign.ensures.found))

pub returns-in_ok-collect-in-DoStart-3 : goal.returns-in_ok-collect-in-DoStart-3
returns-in_ok-collect-in-DoStart-3 c =
    let names = c.args.names.now in
    let old = c.args.found.now.items in
    let one = c.collect-in-DoStart.new.found.items in
    let two = c.collect-in-DoStart-2.new.found.items in
    let new = c.collect-in-DoStart-3.new.found.items in
    let first = c.in-DoStart.first in
    let last = c.in-DoStart.last in
    let step = c.in-DoStart.step in
    rw c.in-DoStart.is
    (grown-first names first (last ∷ step ∷ []) old one new c.in_ok-collect-in-DoStart.ensures.found
    (grown-first names last (step ∷ []) one two new c.in_ok-collect-in-DoStart-2.ensures.found
    (grown-one names step two new c.in_ok-collect-in-DoStart-3.ensures.found)))

pub returns-in-Pass : goal.returns-in-Pass
returns-in-Pass c = rw c.in-Pass.is (grown-none c.args.names.now c.args.found.now.items)

pub returns-in-DoNext : goal.returns-in-DoNext
returns-in-DoNext c = rw c.in-DoNext.is (grown-none c.args.names.now c.args.found.now.items)

pub returns-in-End : goal.returns-in-End
returns-in-End c = rw c.in-End.is (grown-none c.args.names.now c.args.found.now.items)
