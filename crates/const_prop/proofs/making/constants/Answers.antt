use Rattle.std.proofs.Common.{◌≡◌, ◌<◌, ◌+◌, ℕ, Bool, List, rules, sym, ap, subst, ◌∙◌, arith}
use Rattle.closed_walks.specs.Graph.{edge_count}
use Rattle.class_set.specs.declared.ClassSet.{ClassSet}
use Rattle.f77_tree.specs.declared.programs.Program.{Program}
use Rattle.alias_classes.specs.Classes.{ClassTable, class_count}
use Rattle.cfg_build.specs.Flow.{flow}
use Rattle.cfg_build.specs.Joined.{FlowGraph}
use Rattle.dep_routing.specs.Routing.{Routing, next_at}
use Rattle.dep_routing.specs.Touch.{touches_in}
use Rattle.const_prop.specs.Closed.{IsConstants}
use Rattle.const_prop.specs.Setting.{IsProgram, AreLines}
use Rattle.const_prop.specs.Table.{Knowns}
use Rattle.const_prop.specs.Work.{so_far}
use Rattle.const_prop.proofs.Opening.{blank-settling}
use Rattle.const_prop.proofs.Settled.{settled-constants}
use Rattle.const_prop.proofs.Uses.{merges-untouched}
use Rattle.const_prop.proofs.making.constants.Goals as goal

pub new-requires : goal.new-requires
new-requires g c =
    let p = c.args.p.now in
    let f = c.args.f.now in
    let r = c.args.l.now in
    let touches = touches_in c.args.touch.now in
    let routing = c.requires.routing in
    let edges : edge_count f.graph ≡ edge_count (flow p.execs).graph = ap (λ (g : FlowGraph). edge_count g.graph) c.requires.flow in
    let program : IsProgram p f = c.program_facts.ensures.program p f c.requires.program c.requires.flow in
    let lines : AreLines p f c.args.c.now c.args.touch.now r = record {
      width = c.requires.width;
      few = omega (arith, routing.routing.count, c.lines_are_few.ensures);
      classes = c.requires.classes;
      pieces = c.requires.pieces;
      touches = c.requires.touches;
      lines = routing.routing.count;
      edges = routing.routing.edges ∙ sym edges;
      stay = λ line e l k wire.
          let l' = routing.routing.count in
          let k' : e < edge_count (flow p.execs).graph = omega (arith, k, routing.routing.edges) in
          let inside : line < class_count c.args.c.now + 1 = omega (arith, l, l') in
          c.next_edges.ensures.stays (flow p.execs).graph routing.tree touches line e (next_at r line e) (c.program_facts.ensures.strong p c.requires.program) routing.is_tree ((routing.routing.wire line e inside k').0 wire) (routing.routing.next line e inside k');
      next = λ line e l k.
          let k' : e < edge_count (flow p.execs).graph = omega (arith, k, edges) in
          let l' = routing.routing.count in
          let led = c.next_edges.ensures.exists (flow p.execs).graph routing.tree touches line e (next_at r line e) (c.program_facts.ensures.strong p c.requires.program) routing.is_tree k' (routing.routing.next line e (omega (arith, l, l')) k') in
          omega (arith, led, edges);
    } in
    search (rules, program, lines)

pub open-requires : goal.open-requires
open-requires g c =
    let s = c.in_ok-s.s in
    let settling = blank-settling s.program.now s.flow.now s.classes.now (touches_in s.touch.now) s.lines.now c.in_ok-work.work c.in_ok-work.ensures in
    search (rules, c.in_ok-s.ensures.setting, settling)

transport : {W : ℕ} (p p' : Program) (f f' : FlowGraph) (c c' : ClassTable) (touch touch' : List (ClassSet W)) (r r' : Routing) (t : Knowns) → p ≡ p' → f ≡ f' → c ≡ c' → touch ≡ touch' → r ≡ r' → IsConstants p f c (touches_in touch) r t → IsConstants p' f' c' (touches_in touch') r' t
transport p p' f f' c c' touch touch' r r' t ep ef ec et er h =
    subst (λ (x : Routing). IsConstants p' f' c' (touches_in touch') x t) er
    (subst (λ (tt' : ℕ → ℕ → Bool). IsConstants p' f' c' tt' r t) (ap touches_in et)
    (subst (λ (x : ClassTable). IsConstants p' f' x (touches_in touch) r t) ec
    (subst (λ (x : FlowGraph). IsConstants p' x c (touches_in touch) r t) ef
    (subst (λ (x : Program). IsConstants x f c (touches_in touch) r t) ep h))))

pub returns-clause-constants : goal.returns-clause-constants
returns-clause-constants g c =
    let s = c.in_ok-s.s in
    let w = c.settle.new.self in
    let e = c.in_ok-s.ensures in
    let found : IsConstants s.program.now s.flow.now s.classes.now (touches_in s.touch.now) s.lines.now (so_far w) =
    settled-constants s.program.now s.flow.now s.classes.now (touches_in s.touch.now) s.lines.now w
    (λ k line l merge. merges-untouched s.program.now s.flow.now s.classes.now (touches_in s.touch.now) e.setting.program e.setting.lines.touches k line l merge)
    c.settle.ensures.settling c.settle.ensures.rests in
    transport s.program.now c.args.p.now s.flow.now c.args.f.now s.classes.now c.args.c.now s.touch.now c.args.touch.now s.lines.now c.args.l.now (so_far w) e.program e.flow e.classes e.touch e.lines found
