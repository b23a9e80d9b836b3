-- From rows of words to available expressions.
use Rattle.std.proofs.Common.{◌≡◌, ◌≢◌, ℕ, zero, suc, ◌+◌, ◌*◌, ◌/◌, ◌%◌, ◌<◌, ◌≤◌, Bool, true, false, not, List, [], ◌∷◌, length, get_or, set, take, drop, refl, sym, ap, ◌∙◌, subst, inl, inr, ⊎_elim, arith}
use Rattle.std.specs.Prelude.{Some, slice_get, ◌↔◌}
use Rattle.std.proofs.lemmas.Bool.{cases_eq, false≢true}
use Rattle.std.proofs.lemmas.List.{get_or-set_same, get_or-set_other, length-set}
use Rattle.closed_walks.specs.Graph.{Graph, IsGraph, edge_count, from, to}
use Rattle.closed_walks.specs.Walk.{Walk, Holds}
use Rattle.class_set.specs.declared.ClassSet.{ClassSet}
use Rattle.class_set.specs.ClassSet.{holds}
use Rattle.f77_tree.specs.declared.expressions.Expr.{Expr}
use Rattle.f77_tree.specs.declared.programs.Program.{Program}
use Rattle.alias_classes.specs.Classes.{ClassTable}
use Rattle.alias_classes.specs.Needs.{ExprNeeds}
use Rattle.cfg_build.specs.Joined.{FlowGraph}
use Rattle.redundancy.specs.Available.{has_bit, has_mark, IsComputedOn, IsOnAllWalks, IsAvailable, Availability, IsAvailability}
use Rattle.redundancy.specs.Computed.{Computes, Kills, AreCandidates}
use Rattle.redundancy.specs.Fitting.{WritesAt}
use Rattle.redundancy.specs.Killing.{Meet}
use Rattle.redundancy.specs.Noted.{AreRows}
use Rattle.redundancy.specs.Solving.{bit, HasBit}
use Rattle.closed_walks.proofs.Held.{Holds-right}
use Rattle.redundancy.proofs.Tables.{get_within}

-- ---- walks

walk_edge : (g : Graph) (u v x : ℕ) (w : List ℕ) → Walk g u w v → Holds w x → x < edge_count g
walk_edge g u v x [] leads h = absurd h
walk_edge g u v x (e ∷ w) leads (inl same) = subst (λ y. y < edge_count g) same leads.0
walk_edge g u v x (e ∷ w) leads (inr h) = walk_edge g (to g e) v x w leads.2 h

-- what is computed on a walk is so by other tests that say as much of nodes
computed_alike : (g : Graph) (computes kills computes' kills' : ℕ → Type 0) (u v : ℕ) (w : List ℕ) → IsGraph g → Walk g u w v → ((x : ℕ) → x < g.nodes → computes x → computes' x) → ((x : ℕ) → x < g.nodes → kills' x → kills x) → IsComputedOn g computes kills w → IsComputedOn g computes' kills' w
computed_alike g computes kills computes' kills' u v w sound leads more fewer c =
    let held : (x : ℕ) → Holds (c.edge ∷ c.after) x → from g x < g.nodes = λ x h. sound.begins x (walk_edge g u v x w leads (subst (λ z. Holds z x) (sym c.is) (Holds-right c.before (c.edge ∷ c.after) x h))) in
    record {
      before = c.before;
      edge = c.edge;
      after = c.after;
      is = c.is;
      computed = more (from g c.edge) (held c.edge (inl refl)) c.computed;
      kept = λ x h kill. c.kept x h (fewer (from g x) (held x h) kill);
    }

pub walks_alike : (g : Graph) (computes kills computes' kills' : ℕ → Type 0) (node : ℕ) → IsGraph g → ((x : ℕ) → x < g.nodes → computes x ↔ computes' x) → ((x : ℕ) → x < g.nodes → kills x ↔ kills' x) → IsOnAllWalks g computes kills node ↔ IsOnAllWalks g computes' kills' node
walks_alike g computes kills computes' kills' node sound same_c same_k = (
  λ all w leads. computed_alike g computes kills computes' kills' 0 node w sound leads (λ x less. (same_c x less).0) (λ x less. (same_k x less).1) (all w leads),
  λ all w leads. computed_alike g computes' kills' computes kills 0 node w sound leads (λ x less. (same_c x less).1) (λ x less. (same_k x less).0) (all w leads),
)

-- ---- rows

place_parts : (r b : ℕ) → b < 64 → ((64 * r + b) / 64 ≡ r) × ((64 * r + b) % 64 ≡ b)
place_parts r b few = (omega arith, omega arith)

-- a mark is a bit of a row
pub mark_of_bit : (rows : List (List ℕ)) (r b v : ℕ) → b < 64 → has_mark rows (64 * r + b) v ≡ bit (get_or rows r []) b v
mark_of_bit rows r b v few =
    let p = place_parts r b few in
    ap (λ x. has_bit (get_or (get_or rows x []) v 0) ((64 * r + b) % 64)) p.0 ∙ ap (λ x. has_bit (get_or (get_or rows r []) v 0) x) p.1

-- the first rows tell where the candidates are missing, and the others are still those of what is computed
pub record AreSolved (p : Program) (f : FlowGraph) (c : ClassTable) (candidates : List Expr) (nodes done : ℕ) (computes missing : List (List ℕ)) : Type 0 where
  pub count : length missing ≡ length computes
  pub each : (r : ℕ) → r < done → length (get_or missing r []) ≡ nodes
  pub told : (r b node : ℕ) (e : Expr) → r < done → b < 64 → slice_get candidates (64 * r + b) ≡ Some e → node < nodes → (bit (get_or missing r []) b node ≡ false) ↔ IsAvailable p f c e node
  pub rest : (r : ℕ) → done ≤ r → get_or missing r [] ≡ get_or computes r []

pub solved_none : (p : Program) (f : FlowGraph) (c : ClassTable) (candidates : List Expr) (nodes : ℕ) (computes : List (List ℕ)) → AreSolved p f c candidates nodes 0 computes computes
solved_none p f c candidates nodes computes = record {
  count = refl;
  each = λ r less. absurd (omega (arith, less));
  told = λ r b node e less few is within. absurd (omega (arith, less));
  rest = λ r from. refl;
}

pub solved_more : (p : Program) (f : FlowGraph) (c : ClassTable) (candidates : List Expr) (nodes done : ℕ) (computes missing new : List (List ℕ)) (row : List ℕ) → AreSolved p f c candidates nodes done computes missing → done < length missing → length row ≡ nodes
    → ((b node : ℕ) (e : Expr) → b < 64 → slice_get candidates (64 * done + b) ≡ Some e → node < nodes → (bit row b node ≡ false) ↔ IsAvailable p f c e node) → new ≡ set missing done row
    → AreSolved p f c candidates nodes (done + 1) computes new
solved_more p f c candidates nodes done computes missing new row s within_rows len told is_set =
    let here : get_or new done [] ≡ row = ap (λ (z : List (List ℕ)). get_or z done []) is_set ∙ get_or-set_same missing done row [] within_rows in
    let other : (r : ℕ) → r ≢ done → get_or new r [] ≡ get_or missing r [] = λ r apart. ap (λ (z : List (List ℕ)). get_or z r []) is_set ∙ get_or-set_other missing done r row [] apart in
    record {
      count = ap length is_set ∙ length-set missing done row ∙ s.count;
      each = λ r less. ⊎_elim
          (λ (same : r ≡ done). ap (λ x. length (get_or new x [])) same ∙ ap length here ∙ len)
          (λ (apart : r ≢ done). ap length (other r apart) ∙ s.each r (omega (arith, less, apart)))
          (cases_eq r done);
      told = λ r b node e less few is within. ⊎_elim
          (λ (same : r ≡ done).
          let at : get_or new r [] ≡ row = ap (λ x. get_or new x []) same ∙ here in
          let t = told b node e few (ap (λ x. slice_get candidates (64 * x + b)) (sym same) ∙ is) within in
          (λ no'. t.0 (sym (ap (λ (z : List ℕ). bit z b node) at) ∙ no'), λ a. ap (λ (z : List ℕ). bit z b node) at ∙ t.1 a))
          (λ (apart : r ≢ done).
          let t = s.told r b node e (omega (arith, less, apart)) few is within in
          (λ no'. t.0 (sym (ap (λ (z : List ℕ). bit z b node) (other r apart)) ∙ no'), λ a. ap (λ (z : List ℕ). bit z b node) (other r apart) ∙ t.1 a))
          (cases_eq r done);
      rest = λ r from. let apart : r ≢ done = omega (arith, from) in other r apart ∙ s.rest r (omega (arith, from));
    }

not_false : (b : Bool) → not b ≡ true → b ≡ false
not_false true is = absurd (false≢true is)
not_false false is = refl

false_not : (b : Bool) → b ≡ false → not b ≡ true
false_not true is = absurd (false≢true (sym is))
false_not false is = refl

whole_place : (k : ℕ) → 64 * (k / 64) + k % 64 ≡ k
whole_place k = omega arith

pub all_solved : (p : Program) (f : FlowGraph) (c : ClassTable) (a : Availability) (rows done : ℕ) → a.pieces ≡ f.graph.nodes → rows ≤ done → length a.candidates ≤ 64 * rows → AreCandidates p f a.candidates → (computes : List (List ℕ)) → AreSolved p f c a.candidates f.graph.nodes done computes a.missing → IsAvailability p f c a
all_solved p f c a rows done pieces end covers candidates computes s = record {
  pieces = pieces;
  candidates = candidates;
  available = λ k node e is within.
      let less = get_within a.candidates k e is in
      let r = k / 64 in
      let few : k % 64 < 64 = omega arith in
      let row_less : k / 64 < done = omega (arith, less, covers, end) in
      let t = s.told r (k % 64) node e row_less few (ap (slice_get a.candidates) (whole_place k) ∙ is) within in
      (λ yes'. t.0 (not_false (has_mark a.missing k node) yes'), λ av. false_not (has_mark a.missing k node) (t.1 av));
}

pub kept_rows : (a : Availability) (rows : List (List ℕ)) (done : ℕ) (p : Program) (f : FlowGraph) (c : ClassTable) → AreRows a.pieces (length a.candidates) rows → done ≡ length rows → AreSolved p f c a.candidates a.pieces done rows a.missing → AreRows a.pieces (length a.candidates) a.missing
kept_rows a rows done p f c are end s =
    let count = s.count in
    let covers = are.covers in
    let needed = are.needed in
    record { each = λ r less. s.each r (omega (arith, less, count)); covers = omega (arith, covers, count, end); needed = omega (arith, needed, count, end) }

-- ---- what a piece kills

pub kills_told : {W : ℕ} (p : Program) (f : FlowGraph) (c : ClassTable) (e : Expr) (v : ℕ) (needs writes : ClassSet W) → ((n : ℕ) → (holds needs n ≡ true) ↔ ExprNeeds c e n) → ((n : ℕ) → (holds writes n ≡ true) ↔ WritesAt c p.execs f.pieces v n) → Meet needs writes ↔ Kills p f c e v
kills_told p f c e v needs writes need write = (
  λ m. record { class = m.0; writes = (write m.0).0 m.2; reads = (need m.0).0 m.1 },
  λ k. (k.class, (need k.class).1 k.reads, (write k.class).1 k.writes),
)

module _ {X : Type 0} where
  get-take : (xs : List X) (m j : ℕ) → j < m → slice_get (take m xs) j ≡ slice_get xs j
  get-take [] zero j less = refl
  get-take [] (suc m) j less = refl
  get-take (x ∷ xs) zero j less = absurd (omega (arith, less))
  get-take (x ∷ xs) (suc m) zero less = refl
  get-take (x ∷ xs) (suc m) (suc j) less = get-take xs m j (omega (arith, less))

  get-drop : (xs : List X) (n j : ℕ) → slice_get (drop n xs) j ≡ slice_get xs (n + j)
  get-drop [] zero j = refl
  get-drop [] (suc n) j = refl
  get-drop (x ∷ xs) zero j = let e : j ≡ 0 + j = omega arith in ap (slice_get (x ∷ xs)) e
  get-drop (x ∷ xs) (suc n) j = let e : suc (n + j) ≡ suc n + j = omega arith in get-drop xs n j ∙ ap (slice_get (x ∷ xs)) e

  -- an item of a part is one of the whole
  pub get-part : (xs : List X) (n m j : ℕ) → j < m → slice_get (take m (drop n xs)) j ≡ slice_get xs (n + j)
  get-part xs n m j less = get-take (drop n xs) m j less ∙ get-drop xs n j

first_of : {X : Type 0} (xs : List X) → 0 < length xs → X
first_of [] some = absurd (omega (arith, some))
first_of (x ∷ xs) some = x

-- what is told of a row
module _ {W : ℕ} (p : Program) (f : FlowGraph) (c : ClassTable) (candidates part : List Expr) (rows : List (List ℕ)) (needs writes : List (ClassSet W)) (k : ℕ) (computes kills row : List ℕ) (sound : IsGraph f.graph) (pieces : length f.pieces ≡ f.graph.nodes)
    (computed : (j x : ℕ) (e : Expr) → slice_get candidates j ≡ Some e → x < length f.pieces → (has_mark rows j x ≡ true) ↔ Computes p f e x)
    (computes_is : computes ≡ get_or rows k [])
    (killed : (x b : ℕ) (d : ClassSet W) → x < length writes → b < length needs → HasBit kills b x ↔ Meet (get_or needs b d) (get_or writes x d))
    (part_items : (j : ℕ) → j < 64 → slice_get part j ≡ slice_get candidates (64 * k + j))
    (needs_count : length needs ≡ length part)
    (need : (j n : ℕ) (e : Expr) (d : ClassSet W) → slice_get part j ≡ Some e → (holds (get_or needs j d) n ≡ true) ↔ ExprNeeds c e n)
    (writes_count : length writes ≡ length f.pieces)
    (write : (x n : ℕ) (d : ClassSet W) → x < length f.pieces → (holds (get_or writes x d) n ≡ true) ↔ WritesAt c p.execs f.pieces x n)
    (solved : (node b : ℕ) → node < f.graph.nodes → b < 64 → (bit row b node ≡ false) ↔ IsOnAllWalks f.graph (HasBit computes b) (HasBit kills b) node) where
  computes_told : (b x : ℕ) (e : Expr) → b < 64 → slice_get candidates (64 * k + b) ≡ Some e → x < f.graph.nodes → HasBit computes b x ↔ Computes p f e x
  computes_told b x e few is less =
      let t = computed (64 * k + b) x e is (omega (arith, less, pieces)) in
      let same : has_mark rows (64 * k + b) x ≡ bit computes b x = mark_of_bit rows k b x few ∙ ap (λ (z : List ℕ). bit z b x) (sym computes_is) in
      (λ has. t.0 (same ∙ has), λ does. sym same ∙ t.1 does)

  kill_told : (b x : ℕ) (e : Expr) → b < 64 → slice_get candidates (64 * k + b) ≡ Some e → x < f.graph.nodes → HasBit kills b x ↔ Kills p f c e x
  kill_told b x e few is less =
      let inside : x < length f.pieces = omega (arith, less, pieces) in
      let x_less : x < length writes = omega (arith, inside, writes_count) in
      let at : slice_get part b ≡ Some e = part_items b few ∙ is in
      let there = get_within part b e at in
      let b_less : b < length needs = omega (arith, there, needs_count) in
      let d = first_of writes (omega (arith, x_less)) in
      let meets = kills_told p f c e x (get_or needs b d) (get_or writes x d) (λ n. need b n e d at) (λ n. write x n d inside) in
      let bits = killed x b d x_less b_less in
      (λ has. meets.0 (bits.0 has), λ kill. bits.1 (meets.1 kill))

  pub row_told : (b node : ℕ) (e : Expr) → b < 64 → slice_get candidates (64 * k + b) ≡ Some e → node < f.graph.nodes → (bit row b node ≡ false) ↔ IsAvailable p f c e node
  row_told b node e few is within =
      let s = solved node b within few in
      let w = walks_alike f.graph (HasBit computes b) (HasBit kills b) (Computes p f e) (Kills p f c e) node sound (λ x less. computes_told b x e few is less) (λ x less. kill_told b x e few is less) in
      (λ lacks. w.0 (s.0 lacks), λ av. s.1 (w.1 av))
