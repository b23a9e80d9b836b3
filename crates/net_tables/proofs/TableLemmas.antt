-- Lists of what is found piece by piece, line by line and edge by edge.
use Rattle.std.proofs.Common.{◌≡◌, ◌<◌, ◌≤◌, ◌^◌, ⊎_elim, ℕ, zero, suc, ◌+◌, ◌||◌, ◌&&◌, ◌==◌, nat_eq, not, Bool, true, false, cond, if◌then◌else◌, List, [], ◌∷◌, ◌++◌, length, get_or, slice_index, slice_get, Some, map, flat_map, filter, take, inl, inr, add-one, refl, sym, ap, ◌∙◌, subst, arith, All, length-append, length-take}
use Rattle.std.specs.List.{range_with_len}
use Rattle.std.proofs.lemmas.Bool.{cases_lt, eq-eqb, ne_eqb}
use Rattle.std.proofs.lemmas.List.{get_or_past}
use Rattle.std.proofs.lemmas.List.Elements.{filter-append}
use Rattle.std.proofs.lemmas.List.FromFn.{map-range_with_len_more, length-map-range_with_len, get_or-map-range_with_len}
use Rattle.class_set.specs.ClassSet.{holds}
use Rattle.class_set.specs.declared.ClassSet.{ClassSet}
use Rattle.closed_walks.specs.Graph.{Graph, edge_count, from, to, touches, touching_below, edges_at}
use Rattle.cfg_build.specs.declared.pieces.Piece.{Piece}
use Rattle.cfg_build.specs.Flow.{piece_in}
use Rattle.cfg_build.specs.Joined.{FlowGraph, is_end}
use Rattle.cfg_build.specs.Passes.{out, outs}
use Rattle.cfg_build.specs.Shape.{kind_at}
use Rattle.dep_routing.specs.Touch.{touches_in}
use Rattle.dep_routing.proofs.Listing.{filter_between}
use Rattle.list_laws.specs.Member.{Member}
use Rattle.net_board.specs.Nodes.{NetOf, graph_in, kind_in, nodes_at, nodes_below, node_count, first_node}
use Rattle.net_board.specs.ControlCourse.{arrival, is_idle, passed, passed_times, passed_by}
use Rattle.list_laws.proofs.Members.{Member-cases, Member-at, Member-filtered, Member-in_range}
use Rattle.net_tables.specs.NetTables.{all_edges}
use Rattle.list_laws.proofs.Ranges.{range_more}

module _ {X Y : Type 0} where
  map_append : (f : X → Y) (xs ys : List X) → map f (xs ++ ys) ≡ map f xs ++ map f ys
  map_append f [] ys = refl
  map_append f (x ∷ xs) ys = ap (λ zs. f x ∷ zs) (map_append f xs ys)

  flat_map_append : (f : X → List Y) (xs : List X) (x : X) → flat_map f (xs ++ x ∷ []) ≡ flat_map f xs ++ f x
  flat_map_append f [] x = nil_end (f x)
    where
      nil_end : (ys : List Y) → ys ++ [] ≡ ys
      nil_end [] = refl
      nil_end (y ∷ ys) = ap (λ zs. y ∷ zs) (nil_end ys)
  flat_map_append f (y ∷ xs) x = ap (λ zs. f y ++ zs) (flat_map_append f xs x) ∙ assoc (f y) (flat_map f xs) (f x)
    where
      assoc : (xs ys zs : List Y) → xs ++ (ys ++ zs) ≡ (xs ++ ys) ++ zs
      assoc [] ys zs = refl
      assoc (x ∷ xs) ys zs = ap (λ ws. x ∷ ws) (assoc xs ys zs)

-- the numbers that pass a test, one number further
pub filter_next : (test : ℕ → Bool) (n : ℕ) → filter test (range_with_len 0 (n + 1)) ≡ filter test (range_with_len 0 n) ++ (if test n then n ∷ [] else [])
filter_next test n = ap (filter test) (range_more n) ∙ filter-append test (range_with_len 0 n) (n ∷ [])

pub filter_taken : (test : ℕ → Bool) (n : ℕ) → test n ≡ true → filter test (range_with_len 0 (n + 1)) ≡ filter test (range_with_len 0 n) ++ n ∷ []
filter_taken test n is = filter_next test n ∙ ap (λ b. filter test (range_with_len 0 n) ++ (if b then n ∷ [] else [])) is

nil_end : {X : Type 0} (xs : List X) → xs ++ [] ≡ xs
nil_end [] = refl
nil_end (x ∷ xs) = ap (λ zs. x ∷ zs) (nil_end xs)

-- what is named for the numbers that pass a test, after what stood there
module _ {Y : Type 0} (name : ℕ → Y) (test : ℕ → Bool) where
  pub named_taken : (old now : List Y) (n : ℕ) → now ≡ old ++ map name (filter test (range_with_len 0 n)) → test n ≡ true → now ++ name n ∷ [] ≡ old ++ map name (filter test (range_with_len 0 (n + 1)))
  named_taken old now n so is =
      ap (λ xs. xs ++ name n ∷ []) so
      ∙ assoc old (map name (filter test (range_with_len 0 n))) (name n ∷ [])
      ∙ ap (λ xs. old ++ xs) (sym (map_append name (filter test (range_with_len 0 n)) (n ∷ [])))
      ∙ ap (λ xs. old ++ map name xs) (sym (filter_taken test n is))
    where
      assoc : (xs ys zs : List Y) → (xs ++ ys) ++ zs ≡ xs ++ (ys ++ zs)
      assoc [] ys zs = refl
      assoc (x ∷ xs) ys zs = ap (λ ws. x ∷ ws) (assoc xs ys zs)

-- Of names in the making: those for the numbers below the next one that pass a test stand after what was there. The next one passes it,
-- or all are named.
pub record IsNaming {Y : Type 0} (name : ℕ → Y) (test : ℕ → Bool) (old : List Y) (lines next : ℕ) (now : List Y) : Type 0 where
  pub within : next ≤ lines
  pub member : next < lines → test next ≡ true
  pub named : now ≡ old ++ map name (filter test (range_with_len 0 next))

module _ {Y : Type 0} (name : ℕ → Y) (test : ℕ → Bool) (old : List Y) (lines : ℕ) where
  pub IsNaming-begin : (next : ℕ) → next ≤ lines → (next < lines → test next ≡ true) → ((k : ℕ) → k < next → test k ≡ false) → IsNaming name test old lines next old
  IsNaming-begin next within member none = record {
    within = within;
    member = member;
    named = sym (nil_end old) ∙ ap (λ xs. old ++ map name xs) (sym (filter_between test 0 next (omega arith) (λ k from below. none k below)));
  }

  pub IsNaming-more : (line : ℕ) (now : List Y) → line < lines → IsNaming name test old lines line now → (next : ℕ) → next ≤ lines → (next < lines → (test next ≡ true) × (line < next)) → ((k : ℕ) → line < k → k < next → test k ≡ false) → IsNaming name test old lines next (now ++ name line ∷ [])
  IsNaming-more line now low n next within member none =
      let above : line < next = ⊎_elim (λ more. (member more).1) (λ past. omega (arith, past, low)) (cases_lt next lines) in
      record {
        within = within;
        member = λ more. (member more).0;
        named = named_taken name test old now line n.named (n.member low)
            ∙ ap (λ xs. old ++ map name xs) (sym (filter_between test (line + 1) next (omega (arith, above)) (λ k from below. none k (omega (arith, from)) below)));
      }

  pub IsNaming-end : (next : ℕ) (now : List Y) → lines ≤ next → IsNaming name test old lines next now → now ≡ old ++ map name (filter test (range_with_len 0 lines))
  IsNaming-end next now past n = let within = n.within in let all : next ≡ lines = omega (arith, past, within) in n.named ∙ ap (λ m. old ++ map name (filter test (range_with_len 0 m))) all

-- the lists of the numbers below one, one number further
pub flat_map_next : {Y : Type 0} (f : ℕ → List Y) (n : ℕ) → flat_map f (range_with_len 0 (n + 1)) ≡ flat_map f (range_with_len 0 n) ++ f n
flat_map_next f n = ap (flat_map f) (range_more n) ∙ flat_map_append f (range_with_len 0 n) n

-- ---- the edges of a node

module _ (g : Graph) (node : ℕ) where
  below : (k e : ℕ) → Member (touching_below g node k) e → e < k
  below zero e m = absurd m
  below (suc k) e m =
      ⊎_elim
      (λ (l : Member (touching_below g node k) e). let r = below k e l in omega (arith, r))
      (λ (r : Member (if touches g node k then k ∷ [] else []) e). last (touches g node k) r)
      (Member-cases (touching_below g node k) (if touches g node k then k ∷ [] else []) e m)
    where
      last : (b : Bool) → Member (if b then k ∷ [] else []) e → e < suc k
      last true (inl same) = omega (arith, same)
      last true (inr n) = absurd n
      last false n = absurd n

  -- each of its edges is one of the graph
  pub edge_exists : (items : List ℕ) (i : ℕ) → items ≡ edges_at g node → i < length items → get_or items i 0 < edge_count g
  unfolding edges_at
  edge_exists items i are within = below (edge_count g) (get_or items i 0) (subst (λ (xs : List ℕ). Member xs (get_or items i 0)) are (Member-at items i 0 within))

  one : (k : ℕ) (leaves comes : Bool) → (from g k == node) ≡ leaves → filter (λ e. from g e == node) (if leaves || comes then k ∷ [] else []) ≡ (if leaves then k ∷ [] else [])
  one k true comes is = rw is refl
  one k false true is = rw is refl
  one k false false is = refl

  leaving_below : (k : ℕ) → filter (λ e. from g e == node) (touching_below g node k) ≡ filter (λ e. from g e == node) (range_with_len 0 k)
  leaving_below zero = refl
  leaving_below (suc k) =
      filter-append (λ e. from g e == node) (touching_below g node k) (if touches g node k then k ∷ [] else [])
      ∙ ap (λ xs. filter (λ e. from g e == node) (touching_below g node k) ++ xs) (one k (from g k == node) (to g k == node) refl)
      ∙ ap (λ xs. xs ++ (if from g k == node then k ∷ [] else [])) (leaving_below k)
      ∙ sym (filter_next (λ e. from g e == node) k)
      ∙ ap (λ n. filter (λ e. from g e == node) (range_with_len 0 n)) (add-one k)

  -- those that leave it
  pub leaving : (items : List ℕ) → items ≡ edges_at g node → filter (λ e. from g e == node) items ≡ outs g node
  unfolding edges_at
  leaving items are = ap (filter (λ e. from g e == node)) are ∙ leaving_below (edge_count g)

  count_below : (k : ℕ) → length (touching_below g node k) ≤ k
  count_below zero = omega arith
  count_below (suc k) =
      let r = count_below k in
      let a = length-append (touching_below g node k) (if touches g node k then k ∷ [] else []) in
      let t = at_most_one (touches g node k) k in
      omega (arith, r, a, t)
    where
      at_most_one : (b : Bool) (x : ℕ) → length (if b then x ∷ [] else []) ≤ 1
      at_most_one true x = omega arith
      at_most_one false x = omega arith

  pub few_at : (items : List ℕ) → items ≡ edges_at g node → length items ≤ edge_count g
  unfolding edges_at
  few_at items are = subst (λ (xs : List ℕ). length xs ≤ edge_count g) (sym are) (count_below (edge_count g))

  -- the edge with a place among those that leave the node is one of the graph, also where no edge has that place
  pub out_exists : (i : ℕ) → 0 < edge_count g → out g node i < edge_count g
  out_exists i some = ⊎_elim
      (λ (l : i < length (outs g node)).
      let m = Member-filtered (λ e. from g e == node) (range_with_len 0 (edge_count g)) (out g node i) (Member-at (outs g node) i 0 l) in
      let r = Member-in_range 0 (edge_count g) (out g node i) m.0 in
      let high = r.1 in omega (arith, high))
      (λ (l : length (outs g node) ≤ i). subst (λ n. n < edge_count g) (sym (get_or_past (outs g node) i 0 l)) some)
      (cases_lt i (length (outs g node)))

-- ---- filters and numbers

pub short_filter : {X : Type 0} (test : X → Bool) (xs : List X) → length (filter test xs) ≤ length xs
short_filter test [] = omega arith
short_filter test (x ∷ xs) = by (test x) (short_filter test xs)
  where
    by : (b : Bool) → length (filter test xs) ≤ length xs → length (cond b (x ∷ filter test xs) (filter test xs)) ≤ suc (length xs)
    by true r = omega (arith, r)
    by false r = omega (arith, r)

pub short_taken : (test : ℕ → Bool) (items list : List ℕ) (i : ℕ) → list ≡ filter test (take i items) → i < length items → length items < 2 ^ 31 → length list < 4294967295
short_taken test items list i are within few =
    let s = short_filter test (take i items) in
    let t = length-take i items in
    let e = ap length are in
    omega (arith, s, t, e, within, few)

-- ---- what is found for each number

module _ {X : Type 0} (f : ℕ → X) where
  pub mapped_more : (all new : List X) (n : ℕ) (x : X) → all ≡ map f (range_with_len 0 n) → x ≡ f n → new ≡ all ++ x ∷ [] → new ≡ map f (range_with_len 0 (n + 1))
  mapped_more all new n x so is are =
      are ∙ ap (λ xs. xs ++ x ∷ []) so ∙ ap (λ y. map f (range_with_len 0 n) ++ y ∷ []) is ∙ sym (map-range_with_len_more f 0 n n (Rattle.std.proofs.Common.zero-add n))

  pub mapped_length : (xs : List X) (n : ℕ) → xs ≡ map f (range_with_len 0 n) → length xs ≡ n
  mapped_length xs n are = ap length are ∙ length-map-range_with_len f 0 n

  pub mapped_at : (xs : List X) (n i : ℕ) (d : X) → xs ≡ map f (range_with_len 0 n) → i < n → get_or xs i d ≡ f i
  mapped_at xs n i d are below = ap (λ ys. get_or ys i d) are ∙ get_or-map-range_with_len f 0 n i i d below (Rattle.std.proofs.Common.zero-add i)

map_on : {X : Type 0} (f h : ℕ → X) (a n : ℕ) → ((i : ℕ) → a ≤ i → i < a + n → f i ≡ h i) → map f (range_with_len a n) ≡ map h (range_with_len a n)
map_on f h a zero same = refl
map_on f h a (suc n) same = two (same a (omega arith) (omega arith)) (map_on f h (a + 1) n (λ i low high. same i (omega (arith, low)) (omega (arith, high))))
  where
    two : f a ≡ h a → map f (range_with_len (a + 1) n) ≡ map h (range_with_len (a + 1) n) → map f (range_with_len a (suc n)) ≡ map h (range_with_len a (suc n))
    two first rest = ap (λ x. x ∷ map f (range_with_len (a + 1) n)) first ∙ ap (λ xs. h a ∷ xs) rest

map_alike : (f h : ℕ → ℕ) (a n : ℕ) → ((i : ℕ) → a ≤ i → i < a + n → f i ≡ h i) → map f (range_with_len a n) ≡ map h (range_with_len a n)
map_alike f h a zero alike = refl
map_alike f h a (suc n) alike =
    ap (λ (x : ℕ). x ∷ map f (range_with_len (a + 1) n)) (alike a (omega arith) (omega arith))
    ∙ ap (λ (xs : List ℕ). h a ∷ xs) (map_alike f h (a + 1) n (λ i low below. alike i (omega (arith, low)) (omega (arith, below))))

map_map : {X Y : Type 0} (k : X → Y) (f : ℕ → X) (xs : List ℕ) → map k (map f xs) ≡ map (λ i. k (f i)) xs
map_map k f [] = refl
map_map k f (x ∷ xs) = ap (λ ys. k (f x) ∷ ys) (map_map k f xs)

module _ (f : ℕ → ℕ) (n : ℕ) (inside : (e : ℕ) → e < n → f e < n) (xs : List ℕ) (are : xs ≡ map f (range_with_len 0 n)) where
  pub all_inside : All (λ e. e < n) xs
  all_inside k d within =
      let count = mapped_length f xs n are in
      let below : k < n = omega (arith, within, count) in
      subst (λ e. e < n) (sym (mapped_at f xs n k d are below)) (inside k below)

  pub all_within : All (λ e. e < length xs) xs
  all_within k d within = subst (λ m. get_or xs k d < m) (sym (mapped_length f xs n are)) (all_inside k d within)

  pub led_twice : (ys : List ℕ) → ys ≡ map (slice_index xs) xs → ys ≡ map (λ e. f (f e)) (range_with_len 0 n)
  led_twice ys so =
      so ∙ ap (map (slice_index xs)) are ∙ map_map (slice_index xs) f (range_with_len 0 n)
      ∙ map_on (λ e. slice_index xs (f e)) (λ e. f (f e)) 0 n (λ e low high. mapped_at f xs n (f e) 0 are (inside e (omega (arith, high))))

-- ---- nets

pub touches_at : {W : ℕ} (sets : List (ClassSet W)) (node line : ℕ) (s : ClassSet W) → slice_get sets node ≡ Some s → holds s line ≡ touches_in sets node line
touches_at [] node line s is = absurd cc
touches_at (x ∷ sets) zero line s is = let same : s ≡ x = cc in ap (λ y. holds y line) same
touches_at (x ∷ sets) (suc node) line s is = touches_at sets node line s is

pub kind_told : (f h : FlowGraph) (node : ℕ) (x : Piece) → f ≡ h → slice_get f.pieces node ≡ Some x → x.kind ≡ kind_at h node
kind_told f h node x same is = sym (ap (λ o. (piece_in o).kind) (ap (λ (k : FlowGraph). slice_get k.pieces node) (sym same) ∙ is))

module _ (net : NetOf) where
  pub first_next : (piece : ℕ) → first_node net (piece + 1) ≡ first_node net piece + node_count net piece
  first_next piece = ap length (flat_map_next (nodes_at net) piece) ∙ length-append (nodes_below net piece) (nodes_at net piece)

  pub idle_if : (piece a b : ℕ) (ends : Bool) → a ≡ first_node net piece → b ≡ first_node net (piece + 1) → a ≡ b → ends ≡ is_end (kind_in net piece) → not ends ≡ is_idle net piece
  idle_if piece a b ends first next same is =
      let n = first_next piece in
      let none : node_count net piece ≡ 0 = omega (arith, n, first, next, same) in
      ap not is ∙ ap (λ x. x && not (is_end (kind_in net piece))) (sym (eq-eqb (node_count net piece) 0 none))

  pub idle_unless : (piece a b : ℕ) → a ≡ first_node net piece → b ≡ first_node net (piece + 1) → (a ≡ b → ⊥) → nat_eq a b ≡ is_idle net piece
  idle_unless piece a b first next differ =
      let n = first_next piece in
      let some : node_count net piece ≡ 0 → ⊥ = λ e. differ (omega (arith, n, first, next, e)) in
      ne_eqb a b differ ∙ ap (λ x. x && not (is_end (kind_in net piece))) (sym (ne_eqb (node_count net piece) 0 some))

  pub passed_if : (edge o : ℕ) → is_idle net (to (graph_in net) edge) ≡ true → o ≡ out (graph_in net) (to (graph_in net) edge) 0 → o ≡ passed net edge
  passed_if edge o idle is = is ∙ ap (λ x. if x then out (graph_in net) (to (graph_in net) edge) 0 else edge) (sym idle)

  pub passed_unless : (edge : ℕ) → is_idle net (to (graph_in net) edge) ≡ false → edge ≡ passed net edge
  passed_unless edge busy = ap (λ x. if x then out (graph_in net) (to (graph_in net) edge) 0 else edge) (sym busy)

  passed_exists : (edge : ℕ) → edge < edge_count (graph_in net) → passed net edge < edge_count (graph_in net)
  passed_exists edge exists = by (is_idle net (to (graph_in net) edge))
    where
      by : (b : Bool) → (if b then out (graph_in net) (to (graph_in net) edge) 0 else edge) < edge_count (graph_in net)
      by true = out_exists (graph_in net) (to (graph_in net) edge) 0 (omega (arith, exists))
      by false = exists

  pub passed_by_exists : (n edge : ℕ) → edge < edge_count (graph_in net) → passed_by n net edge < edge_count (graph_in net)
  unfolding passed_by
  passed_by_exists zero edge exists = passed_exists edge exists
  passed_by_exists (suc n) edge exists = passed_by_exists n (passed_by n net edge) (passed_by_exists n edge exists)

  pub passed_first : (xs : List ℕ) → xs ≡ map (passed net) (all_edges net) → xs ≡ map (passed_by 0 net) (all_edges net)
  unfolding passed_by
  passed_first xs are = are

  pub passed_twice : (n : ℕ) (xs : List ℕ) → xs ≡ map (λ e. passed_by n net (passed_by n net e)) (all_edges net) → xs ≡ map (passed_by (n + 1) net) (all_edges net)
  unfolding passed_by
  passed_twice n xs are = are ∙ ap (λ k. map (passed_by k net) (all_edges net)) (sym (add-one n))

  pub passed_times_exists : (n edge : ℕ) → edge < edge_count (graph_in net) → passed_times net n edge < edge_count (graph_in net)
  passed_times_exists zero edge exists = exists
  passed_times_exists (suc n) edge exists = passed_times_exists n (passed net edge) (passed_exists edge exists)

  pub heads_are : ((edge : ℕ) → edge < edge_count (graph_in net) → to (graph_in net) (passed_by 18 net edge) ≡ arrival net edge) → (n : ℕ) (xs ys : List ℕ) → n ≡ 18 → xs ≡ map (passed_by n net) (all_edges net) → ys ≡ map (to (graph_in net)) xs → ys ≡ map (arrival net) (all_edges net)
  heads_are reach n xs ys all are so =
      so ∙ ap (map (to (graph_in net))) are ∙ map_map (to (graph_in net)) (passed_by n net) (all_edges net)
      ∙ ap (λ k. map (λ e. to (graph_in net) (passed_by k net e)) (all_edges net)) all
      ∙ map_alike (λ e. to (graph_in net) (passed_by 18 net e)) (arrival net) 0 (edge_count (graph_in net)) (λ e low below. reach e (omega (arith, below)))
