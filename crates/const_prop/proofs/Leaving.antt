-- The lines that a piece touches go on.
use Rattle.std.proofs.Common.{◌≡◌, ◌⊎◌, ◌<◌, ◌≤◌, ◌+◌, ℕ, Bool, true, false, ◌&&◌, List, length, get_or, Option, ℤ, refl, sym, ap, subst, ◌∙◌, inl, inr, ⊎_elim, arith}
use Rattle.std.proofs.lemmas.Bool.{cases_lt}
use Rattle.closed_walks.specs.Graph.{edge_count, to}
use Rattle.f77_tree.specs.declared.programs.ExecKind.{ExecKind}
use Rattle.f77_tree.specs.declared.programs.ExecKind.TheVariants as exec
use Rattle.f77_tree.specs.declared.programs.NameInfo.{NameInfo}
use Rattle.f77_tree.specs.declared.programs.Program.{Program}
use Rattle.alias_classes.specs.Classes.{ClassTable}
use Rattle.cfg_build.specs.Joined.{FlowGraph}
use Rattle.dep_routing.specs.Routing.{Routing, next_at}
use Rattle.const_prop.specs.declared.known.Known.{Known}
use Rattle.const_prop.specs.declared.work.Work.{Work}
use Rattle.const_prop.specs.Closed.{IsClosed, IsReady, IsWay, WritesAfter, is_switch, is_one_word, led_to, kind_after, exec_after, written, written_after, words_on, decided_after}
use Rattle.const_prop.specs.Known.{AtMost, IsNotOne}
use Rattle.const_prop.specs.Setting.{IsTouchedRow}
use Rattle.const_prop.specs.Table.{Knowns}
use Rattle.const_prop.specs.Work.{so_far, is_pending, is_waiting, Rises, IsFound, IsLeft, IsSeenFor, IsSeen}
use Rattle.const_prop.proofs.Order.{at_most-trans, at_most-is, something-more, kind_allows-more}
use Rattle.const_prop.proofs.Readiness.{line_at}
use Rattle.const_prop.proofs.Settling.{seen-on, stays_or_waits, same_way}
use Rattle.const_prop.proofs.Under.{IsUnder, AreCovered, written-less}

and_false : (b : Bool) → (b && false) ≡ false
and_false true = refl
and_false false = refl

-- one value is written on lines of one-word classes alone
pub written-several : (names : List NameInfo) (c : ClassTable) (words : ℕ → Option ℤ) (x : ExecKind) (line : ℕ) → is_one_word c line ≡ false → IsNotOne (written names c words x line)
written-several names c words (exec.Assign target e next) line several = rw (several, and_false) tt
written-several names c words (exec.DoStart loop_no var first last step body exit) line several = rw several tt
written-several names c words (exec.DoNext loop_no var body exit) line several = tt
written-several names c words (exec.Print items next) line several = tt
written-several names c words (exec.Pass next) line several = tt
written-several names c words (exec.Test e a b) line several = tt
written-several names c words (exec.Sign e a b d) line several = tt
written-several names c words (exec.Pick e targets other) line several = tt
written-several names c words exec.End line several = tt

-- the line stands among the first of a row
abbrev pub Among : List ℕ → (i : ℕ) → ℕ → Type 0
Among items i line = (k : ℕ) × (k < i) × (get_or items k 0 ≡ line)

module _ (p : Program) (f : FlowGraph) (c : ClassTable) where
  -- what a piece leaves on a line
  abbrev pub LeavesOn : Knowns → (e line : ℕ) → Known → Type 0
  LeavesOn t e line known = (WritesAfter p f c e line × (known ≡ written_after p f c t e line)) ⊎ ((WritesAfter p f c e line → ⊥) × (known ≡ t.value line e))

module _ (p : Program) (f : FlowGraph) (c : ClassTable) (touches : ℕ → ℕ → Bool) (r : Routing) (a : AreCovered p f c touches r.lines) (two : 1 < edge_count f.graph) (next : (line e : ℕ) → line < r.lines → e < edge_count f.graph → next_at r line e < edge_count f.graph) where
  pub left-due : (t b : Knowns) (e line i : ℕ) (known : Known) → to f.graph e < f.graph.nodes → IsFound p f c touches r t → IsClosed p f c touches r b → IsReady f touches r.lines t e → line < r.lines → touches (to f.graph e) line ≡ true → LeavesOn p f c t e line known → IsWay f t e i → AtMost known (b.value line (led_to f r e line i))
  left-due t b e line i known node found closed ready l x leaves way =
      let below = found.below b closed in
      let edge = ready.edge in
      let there : IsReady f touches r.lines b e = record { edge = edge; action = ready.action; each = λ line l x. something-more (t.value line e) (b.value line e) (below.value line e l edge) (ready.each line l x) } in
      let way_b : IsWay f b e i = record { edge = edge; exists = way.exists; allowed = kind_allows-more (kind_after f e) (t.decision (to f.graph e)) (b.decision (to f.graph e)) i (below.decision (to f.graph e) node) way.allowed } in
      let under : IsUnder c f touches r.lines t b e = record { under = λ line l x. below.value line e l edge; some = ready.each; one = λ line l several. closed.words line e l edge several } in
      let led = led_to f r e line i in
      ⊎_elim
      (λ (is : WritesAfter p f c e line × (known ≡ written_after p f c t e line)).
      subst (λ (k : Known). AtMost k (b.value line led)) (sym is.1)
      (at_most-trans (written_after p f c t e line) (written_after p f c b e line) (b.value line led) (written-less p f c touches r.lines a t b e edge under line is.0) (closed.writes e line i there way_b l x is.0)))
      (λ (is_not : (WritesAfter p f c e line → ⊥) × (known ≡ t.value line e)).
      subst (λ (k : Known). AtMost k (b.value line led)) (sym is_not.1)
      (at_most-trans (t.value line e) (b.value line e) (b.value line led) (below.value line e l edge) (closed.reads e line i there way_b l x is_not.0)))
      leaves

  pub left-one : (t : Knowns) (e line : ℕ) (known : Known) → e < edge_count f.graph → IsFound p f c touches r t → line < r.lines → LeavesOn p f c t e line known → is_one_word c line ≡ false → IsNotOne known
  left-one t e line known edge found l leaves several = ⊎_elim
      (λ (is : WritesAfter p f c e line × (known ≡ written_after p f c t e line)). subst IsNotOne (sym is.1) (written-several p.names c (words_on c t e) (exec_after p f e) line several))
      (λ (is_not : (WritesAfter p f c e line → ⊥) × (known ≡ t.value line e)). subst IsNotOne (sym is_not.1) (found.words line e l edge several))
      leaves

  -- all lines of the row are all that the piece touches
  pub seen-all : (t : Knowns) (e : ℕ) (items : List ℕ) (i : ℕ) → IsTouchedRow touches r.lines (to f.graph e) items → length items ≤ i → IsSeenFor p f c touches r (Among items i) t e → IsSeen p f c touches r t e
  seen-all t e items i row all seen = record {
    decision = seen.decision;
    left = λ line k ready way l x m. let at_row = line_at touches r.lines (to f.graph e) items line row l x in seen.left line k ready way l x (at_row.place, omega (arith, all, at_row.within), at_row.is);
  }

  -- before the first line is sent on
  pub seen-none : (t : Knowns) (e : ℕ) (items : List ℕ) → (is_switch (kind_after f e) ≡ true → AtMost (decided_after p f c t e) (t.decision (to f.graph e))) → IsSeenFor p f c touches r (Among items 0) t e
  seen-none t e items decided = record { decision = λ ready s. decided s; left = λ line k ready way l x m. let low = m.1 in absurd (omega (arith, low)) }

module _ {W : ℕ} (p : Program) (f : FlowGraph) (c : ClassTable) (touches : ℕ → ℕ → Bool) (r : Routing) (a : AreCovered p f c touches r.lines) (two : 1 < edge_count f.graph) (next : (line e : ℕ) → line < r.lines → e < edge_count f.graph → next_at r line e < edge_count f.graph) where
  abbrev at : Work W → Knowns
  at w = so_far w

  module _ (old new : Work W) (rises : Rises f r.lines old new) (found : IsFound p f c touches r (at new)) (old_found : IsFound p f c touches r (at old)) (e : ℕ) (edge : e < edge_count f.graph) where
    pub ready-on : IsReady f touches r.lines (at old) e → IsReady f touches r.lines (at new) e
    ready-on ready = record { edge = edge; action = ready.action; each = λ line l x. something-more ((at old).value line e) ((at new).value line e) (rises.grows line e l edge) (ready.each line l x) }

    -- one line more is sent on
    pub seen-more : ((line e : ℕ) → is_pending old line e ≡ true → is_waiting old e ≡ true) → (items : List ℕ) (i : ℕ) (known : Known) → IsReady f touches r.lines (at old) e → LeavesOn p f c (at old) e (get_or items i 0) known
        → ((k : ℕ) → IsWay f (at old) e k → AtMost known ((at new).value (get_or items i 0) (led_to f r e (get_or items i 0) k)))
        → (is_waiting old e ≡ true) ⊎ IsSeenFor p f c touches r (Among items i) (at old) e
        → (is_waiting new e ≡ true) ⊎ IsSeenFor p f c touches r (Among items (i + 1)) (at new) e
    seen-more waited items i known ready leaves sent before = ⊎_elim
        (λ (waits : is_waiting old e ≡ true). inl (rises.waiting e waits))
        (λ (seen : IsSeenFor p f c touches r (Among items i) (at old) e). ⊎_elim
        (λ (waits : is_waiting new e ≡ true). inl waits)
        (λ (same : (line : ℕ) → line < r.lines → touches (to f.graph e) line ≡ true → (at new).value line e ≡ (at old).value line e).
        let was = seen-on p f c touches r a two next old new rises found e edge same old_found (Among items i) seen in
        inr (record {
          decision = was.decision;
          left = λ line k ready way l t m. ⊎_elim
              (λ (low : m.0 < i). was.left line k ready way l t (m.0, low, m.2))
              (λ (high : i ≤ m.0). last same line k ready way l t (high_is m.0 high m.1 m.2))
              (cases_lt m.0 i);
        }))
        (stays_or_waits p f c touches r a two next old new rises found waited e edge))
        before
      where
        high_is : {line : ℕ} (n : ℕ) → i ≤ n → n < i + 1 → get_or items n 0 ≡ line → get_or items i 0 ≡ line
        high_is n h l is = ap (λ m. get_or items m 0) (omega arith) ∙ is

        last : ((line : ℕ) → line < r.lines → touches (to f.graph e) line ≡ true → (at new).value line e ≡ (at old).value line e) → (line k : ℕ) → IsReady f touches r.lines (at new) e → IsWay f (at new) e k → line < r.lines → touches (to f.graph e) line ≡ true → get_or items i 0 ≡ line → IsLeft p f c touches r (at new) e line k
        last same line k ready way l t is =
            let under : IsUnder c f touches r.lines (at new) (at old) e = record { under = λ line l t. at_most-is ((at new).value line e) ((at old).value line e) (same line l t); some = ready.each; one = λ line l several. old_found.words line e l edge several } in
            let before_way = same_way p f c touches r a two next old new rises found e k way in
            let here : AtMost known ((at new).value line (led_to f r e line k)) = subst (λ (n : ℕ). AtMost known ((at new).value n (led_to f r e n k))) is (sent k before_way) in
            let on : LeavesOn p f c (at old) e line known = subst (λ (n : ℕ). LeavesOn p f c (at old) e n known) is leaves in
            let led = led_to f r e line k in
            record {
              writes = λ w. ⊎_elim
                  (λ (x : WritesAfter p f c e line × (known ≡ written_after p f c (at old) e line)).
                  at_most-trans (written_after p f c (at new) e line) (written_after p f c (at old) e line) ((at new).value line led) (written-less p f c touches r.lines a (at new) (at old) e edge under line w) (subst (λ (q : Known). AtMost q ((at new).value line led)) x.1 here))
                  (λ (x : (WritesAfter p f c e line → ⊥) × (known ≡ (at old).value line e)). absurd (x.0 w))
                  on;
              reads = λ n. ⊎_elim
                  (λ (x : WritesAfter p f c e line × (known ≡ written_after p f c (at old) e line)). absurd (n x.0))
                  (λ (x : (WritesAfter p f c e line → ⊥) × (known ≡ (at old).value line e)). subst (λ (q : Known). AtMost q ((at new).value line led)) (x.1 ∙ sym (same line l t)) here)
                  on;
            }
