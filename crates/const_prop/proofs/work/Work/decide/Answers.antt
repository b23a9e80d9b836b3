use Rattle.std.proofs.Common.{◌≡◌, ◌<◌, ℕ, true, List, [], get_or, rules, sym, ap, subst, ◌∙◌, arith}
use Rattle.std.proofs.lemmas.List.{get_or_read}
use Rattle.closed_walks.specs.Graph.{edge_count, to}
use Rattle.cfg_build.specs.Joined.{finish}
use Rattle.cfg_build.specs.Shape.{kind_at}
use Rattle.dep_routing.specs.Touch.{touches_in}
use Rattle.const_prop.specs.declared.known.Known.{Known}
use Rattle.const_prop.specs.declared.known.Known.TheVariants.{Nothing}
use Rattle.const_prop.specs.Closed.{is_switch, decided_after}
use Rattle.const_prop.specs.Known.{AtMost}
use Rattle.const_prop.specs.Table.{knowns}
use Rattle.const_prop.specs.KnownRows.{Rows}
use Rattle.const_prop.specs.Rise.{IsRise}
use Rattle.const_prop.specs.Work.{so_far}
use Rattle.const_prop.proofs.Deciding.{decided-due, decided-found, decided-settling, decided-left, decision-here}
use Rattle.const_prop.proofs.Degrees.{one_edge_to_switch}
use Rattle.const_prop.proofs.Uses.{setting-covered}
use Rattle.const_prop.proofs.work.Work.decide.Goals as goal

pub again-requires : goal.again-requires
again-requires g c =
    let f = c.args.s.now.flow.now in
    let p = c.args.s.now.program.now in
    let old = c.args.self.now in
    let node = c.head-node.result in
    let read : c.index.result.now ≡ (so_far old).decision node = get_or_read old.decisions.items node c.index.result.now (omega (arith, c.head-node.ensures.exists, c.requires.settling.sized.decisions)) c.index.ensures Nothing in
    let rise : IsRise ((so_far old).decision node) c.decided-decided.result c.in-Some.decision = subst (λ (k : Known). IsRise k c.decided-decided.result c.in-Some.decision) read c.in-Some.ensures in
    let switch : is_switch (kind_at f node) ≡ true = ap (λ (n : ℕ). is_switch (kind_at f n)) c.head-node.ensures.node ∙ c.requires.switch in
    let alone = λ (k : ℕ) (l : k < edge_count f.graph) (same : to f.graph k ≡ node). one_edge_to_switch f (finish p.execs) node k c.args.edge c.requires.setting.program.shape c.head-node.ensures.exists switch l c.requires.edge same (sym c.head-node.ensures.node) in
    let covered = setting-covered p f c.args.s.now.classes.now c.args.s.now.touch.now c.args.s.now.lines.now c.requires.setting.program c.requires.setting.lines in
    let found = decided-found c.args.s.now.program.now c.args.s.now.flow.now c.args.s.now.classes.now (touches_in c.args.s.now.touch.now) c.args.s.now.lines.now old c.args.edge node c.decided-decided.result c.in-Some.decision c.requires.edge c.head-node.ensures.node c.head-node.ensures.exists alone c.requires.settling.sized rise c.requires.settling.found
    (λ b closed. subst (λ (n : ℕ). AtMost c.decided-decided.result (b.decision n)) (sym c.head-node.ensures.node) (subst (λ (k : Known). AtMost k (b.decision (to f.graph c.args.edge))) (sym c.decided-decided.ensures)
    (decided-due c.args.s.now.program.now c.args.s.now.flow.now c.args.s.now.classes.now (touches_in c.args.s.now.touch.now) c.args.s.now.lines.now covered (so_far old) b c.args.edge c.requires.settling.found closed c.requires.ready c.requires.switch))) in
    (search rules, (search rules, (c.requires.setting, (c.requires.edge, decided-settling c.args.s.now.program.now c.args.s.now.flow.now c.args.s.now.classes.now (touches_in c.args.s.now.touch.now) c.args.s.now.lines.now old c.args.edge node c.decided-decided.result c.in-Some.decision c.requires.edge c.head-node.ensures.node c.head-node.ensures.exists alone c.requires.settling.sized rise found c.requires.settling))))

pub returns-clause-decided : goal.returns-clause-decided
returns-clause-decided g c =
    let f = c.args.s.now.flow.now in
    let p = c.args.s.now.program.now in
    let old = c.args.self.now in
    let new = c.again.new.self in
    let node = c.head-node.result in
    let read : c.index.result.now ≡ (so_far old).decision node = get_or_read old.decisions.items node c.index.result.now (omega (arith, c.head-node.ensures.exists, c.requires.settling.sized.decisions)) c.index.ensures Nothing in
    let rise : IsRise ((so_far old).decision node) c.decided-decided.result c.in-Some.decision = subst (λ (k : Known). IsRise k c.decided-decided.result c.in-Some.decision) read c.in-Some.ensures in
    let switch : is_switch (kind_at f node) ≡ true = ap (λ (n : ℕ). is_switch (kind_at f n)) c.head-node.ensures.node ∙ c.requires.switch in
    let alone = λ (k : ℕ) (l : k < edge_count f.graph) (same : to f.graph k ≡ node). one_edge_to_switch f (finish p.execs) node k c.args.edge c.requires.setting.program.shape c.head-node.ensures.exists switch l c.requires.edge same (sym c.head-node.ensures.node) in
    let here : get_or new.decisions.items (to f.graph c.args.edge) Nothing ≡ c.in-Some.decision =
    ap (λ (n : ℕ). get_or new.decisions.items n Nothing) (sym c.head-node.ensures.node) ∙ ap (λ (ds : List Known). get_or ds node Nothing) c.again.ensures.decisions ∙ decision-here c.args.s.now.program.now c.args.s.now.flow.now c.args.s.now.classes.now (touches_in c.args.s.now.touch.now) c.args.s.now.lines.now old c.args.edge node c.decided-decided.result c.in-Some.decision c.requires.edge c.head-node.ensures.node c.head-node.ensures.exists alone c.requires.settling.sized rise in
    let same : decided_after p f c.args.s.now.classes.now (so_far new) c.args.edge ≡ c.decided-decided.result =
    ap (λ (rows : Rows g.row.W). decided_after p f c.args.s.now.classes.now (knowns rows []) c.args.edge) c.again.ensures.values ∙ sym c.decided-decided.ensures in
    subst (λ (k : Known). AtMost k (get_or new.decisions.items (to f.graph c.args.edge) Nothing)) (sym same) (subst (AtMost c.decided-decided.result) (sym here) rise.reaches)

pub returns-clause-bounded : goal.returns-clause-bounded
returns-clause-bounded g c =
    let f = c.args.s.now.flow.now in
    let p = c.args.s.now.program.now in
    let old = c.args.self.now in
    let new = c.again.new.self in
    let node = c.head-node.result in
    let read : c.index.result.now ≡ (so_far old).decision node = get_or_read old.decisions.items node c.index.result.now (omega (arith, c.head-node.ensures.exists, c.requires.settling.sized.decisions)) c.index.ensures Nothing in
    let rise : IsRise ((so_far old).decision node) c.decided-decided.result c.in-Some.decision = subst (λ (k : Known). IsRise k c.decided-decided.result c.in-Some.decision) read c.in-Some.ensures in
    let switch : is_switch (kind_at f node) ≡ true = ap (λ (n : ℕ). is_switch (kind_at f n)) c.head-node.ensures.node ∙ c.requires.switch in
    let alone = λ (k : ℕ) (l : k < edge_count f.graph) (same : to f.graph k ≡ node). one_edge_to_switch f (finish p.execs) node k c.args.edge c.requires.setting.program.shape c.head-node.ensures.exists switch l c.requires.edge same (sym c.head-node.ensures.node) in
    let less = decided-left c.args.s.now.program.now c.args.s.now.flow.now c.args.s.now.classes.now (touches_in c.args.s.now.touch.now) c.args.s.now.lines.now old c.args.edge node c.decided-decided.result c.in-Some.decision c.requires.edge c.head-node.ensures.node c.head-node.ensures.exists alone c.requires.settling.sized rise in
    omega (arith, less, c.again.ensures.bounded)
