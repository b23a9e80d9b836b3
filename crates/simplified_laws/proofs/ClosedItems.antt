-- The items of a closed table are executables whose statements make a flat program.
use Rattle.std.proofs.Common.{◌≡◌, ℕ, suc, Bool, true, length, Some, sym, ap, subst, ◌∙◌, ⊎_elim, arith}
use Rattle.std.specs.Prelude.{slice_get}
use Rattle.list_laws.specs.Member.{Member}
use Rattle.list_laws.proofs.Members.{Contains-from_Member, Member-cases}
use Rattle.f77_tree.specs.declared.programs.ExecKind.{ExecKind}
use Rattle.f77_tree.specs.declared.programs.ExecKind.TheVariants.{End}
use Rattle.f77_tree.specs.declared.programs.Program.{Program}
use Rattle.f77_tree.specs.Loops.{do_start, do_next}
use Rattle.alias_classes.specs.Classes.{ClassTable}
use Rattle.region_tree.specs.Tree.{Tree}
use Rattle.cfg_build.specs.Flow.{flow}
use Rattle.cfg_build.specs.Passes.{kind_in}
use Rattle.dep_routing.specs.Routing.{Routing}
use Rattle.const_prop.specs.Closed.{IsClosed}
use Rattle.const_prop.specs.Right.{AreRouted}
use Rattle.const_prop.specs.Table.{Knowns}
use Rattle.simplified_forms.specs.Items.{AreItems, IsKeptKind}
use Rattle.simplified_laws.specs.LiveItems.{DosAreItems, JumpsAreItems, RestsAreItems}
use Rattle.simplified_forms.specs.Simplified.{decided, jumps, last_jump, own_jumps, rest}
use Rattle.simplified_laws.proofs.FlatItems.{AreClosedItems}
use Rattle.simplified_laws.proofs.JumpSuccessors.{jump-leads, left-rest}
use Rattle.simplified_laws.proofs.ListParts.{get-at, get-within}

module _ (rests : RestsAreItems) (to_jumps : JumpsAreItems) (dos : DosAreItems) where
  module _ (p : Program) (c : ClassTable) (touches : ℕ → ℕ → Bool) (tree : Tree) (r : Routing) (t : Knowns) (routed : AreRouted p c touches tree r) (closed : IsClosed p (flow p.execs) c touches r t) (is_item : ℕ → Bool) (items : AreItems p t is_item) where
    last-item : (k : ℕ) → suc k ≡ length p.execs → is_item k ≡ true
    last-item k last =
        let at = get-at p.execs k (omega (arith, last)) in
        let end : (at.0).kind ≡ End = (routed.well_formed.execs.end.last k at.0 at.1).1 last in
        (items k).1 (record { exec = at.0; found = at.1; kept = subst (IsKeptKind p t k) (sym end) tt })

    jumped-item : (k s : ℕ) → is_item k ≡ true → Member (jumps p t is_item k) s → is_item s ≡ true
    jumped-item k s item m =
        let i = (items k).0 item in
        let kind : kind_in (slice_get p.execs k) ≡ i.exec.kind = ap kind_in i.found in
        ⊎_elim
        (λ (own : Member (own_jumps (kind_in (slice_get p.execs k)) (decided p t k)) s).
        let among = subst (λ (x : ExecKind). Member (own_jumps x (decided p t k)) s) kind own in
        (items s).1 (to_jumps p c touches tree r t k s i.exec routed closed i.found (Contains-from_Member (own_jumps i.exec.kind (decided p t k)) s among) i).item)
        (λ (left : Member (last_jump is_item k (rest (kind_in (slice_get p.execs k)) (decided p t k))) s).
        let is = left-rest is_item k s (rest (kind_in (slice_get p.execs k)) (decided p t k)) left in
        let told : rest i.exec.kind (decided p t k) ≡ Some s = ap (λ (x : ExecKind). rest x (decided p t k)) (sym kind) ∙ is in
        (items s).1 (rests p c touches tree r t k s i.exec routed closed i.found told i).item)
        (Member-cases (own_jumps (kind_in (slice_get p.execs k)) (decided p t k)) (last_jump is_item k (rest (kind_in (slice_get p.execs k)) (decided p t k))) s m)

    pub are-closed : AreClosedItems p t is_item
    are-closed = record {
      within = λ k item. let i = (items k).0 item in get-within p.execs k i.exec i.found;
      last = last-item;
      jumps = jumped-item;
      leads = λ k s some m. jump-leads is_item p.execs k s (decided p t k) some m;
      dos = λ n few item. (items (do_next p.execs n)).1 ((dos p c touches tree r t n routed closed few).0 ((items (do_start p.execs n)).0 item));
      starts = λ n few item. (items (do_start p.execs n)).1 ((dos p c touches tree r t n routed closed few).1 ((items (do_next p.execs n)).0 item));
    }
