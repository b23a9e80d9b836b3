-- A line is sent along out-edges.
use Rattle.std.proofs.Common.{◌≡◌, ◌<◌, ◌≤◌, ◌+◌, ℕ, Bool, true, false, List, [], length, get_or, sym, ap, subst, ◌∙◌, ⊎_elim, arith}
use Rattle.std.specs.Prelude.{IsTrue}
use Rattle.std.proofs.lemmas.Bool.{cases_lt}
use Rattle.std.proofs.lemmas.List.{get_or_read}
use Rattle.closed_walks.specs.Graph.{edge_count, to}
use Rattle.cfg_build.specs.declared.pieces.PieceKind.{PieceKind}
use Rattle.cfg_build.specs.Joined.{FlowGraph}
use Rattle.cfg_build.specs.Passes.{outs}
use Rattle.cfg_build.specs.Shape.{kind_at}
use Rattle.dep_routing.specs.Routing.{Routing}
use Rattle.const_prop.specs.declared.known.Known.{Known}
use Rattle.const_prop.specs.declared.known.Known.TheVariants.{Nothing}
use Rattle.const_prop.specs.declared.work.Work.{Work}
use Rattle.const_prop.specs.Closed.{KindAllows, led_to, IsWay}
use Rattle.const_prop.specs.Known.{AtMost}
use Rattle.const_prop.specs.Setting.{AreOuts}
use Rattle.const_prop.specs.Work.{Rises, so_far}
use Rattle.const_prop.proofs.Order.{at_most-trans}
use Rattle.const_prop.proofs.Rows.{outs-edge}

pub false_true : (b : Bool) → IsTrue b → b ≡ false → ⊥
false_true b is e = let t : b ≡ true = is in let no' : true ≡ false = sym t ∙ e in absurd cc

module _ (f : FlowGraph) where
  pub outs_row : (rows : List (List ℕ)) (node e : ℕ) (row items : List ℕ) → AreOuts f rows → node < f.graph.nodes → node ≡ to f.graph e → row ≡ get_or rows node row → items ≡ row → items ≡ outs f.graph (to f.graph e)
  outs_row rows node e row items are inside is read same =
      same ∙ get_or_read rows node row (omega (arith, inside, are.size)) read [] ∙ are.are node inside ∙ ap (outs f.graph) is

  pub out_exists : (e i : ℕ) (items : List ℕ) → items ≡ outs f.graph (to f.graph e) → i < length items → get_or items i 0 < edge_count f.graph
  out_exists e i items are l =
      let P : List ℕ → Type 0 = λ xs. i < length xs → get_or xs i 0 < edge_count f.graph in
      subst P (sym are) (λ l. (outs-edge f.graph (to f.graph e) i l).0) l

module _ {W : ℕ} (f : FlowGraph) where
  -- control may take the out-edge
  pub allows_way : (w : Work W) (e i node : ℕ) (kind : PieceKind) (decision : Known) (items : List ℕ) → e < edge_count f.graph → node ≡ to f.graph e → kind ≡ kind_at f node → decision ≡ get_or w.decisions.items node Nothing → items ≡ outs f.graph (to f.graph e) → i < length items → KindAllows kind decision i → IsWay f (so_far w) e i
  allows_way w e i node kind decision items edge is same told are l allows = record {
    edge = edge;
    exists = subst (λ (xs : List ℕ). i < length xs) are l;
    allowed = subst (λ (n : ℕ). KindAllows (kind_at f n) (get_or w.decisions.items n Nothing) i) is (subst (λ (d : Known). KindAllows (kind_at f node) d i) told (subst (λ (k : PieceKind). KindAllows k decision i) same allows));
  }

  pub way_allows : (w : Work W) (e i node : ℕ) (kind : PieceKind) (decision : Known) → node ≡ to f.graph e → kind ≡ kind_at f node → decision ≡ get_or w.decisions.items node Nothing → IsWay f (so_far w) e i → KindAllows kind decision i
  way_allows w e i node kind decision is same told way =
      subst (λ (k : PieceKind). KindAllows k decision i) (sym same) (subst (λ (d : Known). KindAllows (kind_at f node) d i) (sym told) (subst (λ (n : ℕ). KindAllows (kind_at f n) (get_or w.decisions.items n Nothing) i) (sym is) way.allowed))

module _ (f : FlowGraph) (r : Routing) (e line : ℕ) where
  -- the first out-edges lead the line to edges
  abbrev pub LedInside : ℕ → Type 0
  LedInside n = (k : ℕ) → k < n → led_to f r e line k < edge_count f.graph

module _ {W : ℕ} (f : FlowGraph) (r : Routing) (e line : ℕ) (kind : PieceKind) (decision known : Known) where
  -- where control may take one of the first out-edges, the line has been sent there
  abbrev pub AreSent : Work W → ℕ → Type 0
  AreSent w i = (k : ℕ) → k < i → KindAllows kind decision k → AtMost known ((so_far w).value line (led_to f r e line k))

  pub sent-more : (old new : Work W) (i : ℕ) → Rises f r.lines old new → line < r.lines → LedInside f r e line i → AreSent old i → AtMost known ((so_far new).value line (led_to f r e line i)) → AreSent new (i + 1)
  sent-more old new i rises inside led sent here k l allows = ⊎_elim
      (λ (l : k < i). at_most-trans known ((so_far old).value line (led_to f r e line k)) ((so_far new).value line (led_to f r e line k)) (sent k l allows) (rises.grows line (led_to f r e line k) inside (led k l)))
      (λ (past : i ≤ k). subst (λ (n : ℕ). AtMost known ((so_far new).value line (led_to f r e line n))) (omega arith) here)
      (cases_lt k i)

  pub sent-skip : (w : Work W) (i : ℕ) → (KindAllows kind decision i → ⊥) → AreSent w i → AreSent w (i + 1)
  sent-skip w i closed sent k l allows = ⊎_elim
      (λ (l : k < i). sent k l allows)
      (λ (past : i ≤ k). absurd (closed (subst (λ (n : ℕ). KindAllows kind decision n) (omega arith) allows)))
      (cases_lt k i)
