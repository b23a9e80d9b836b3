-- A root is hung under another one.
use Rattle.std.proofs.Common.{◌≡◌, ◌≢◌, ℕ, ◌+◌, ◌<◌, ◌≤◌, ◌⊎◌, inl, inr, ⊎_elim, ℤ, ◌+ℤ◌, List, length, set, sym, ap, subst, ◌∙◌, arith}
use Rattle.std.proofs.lemmas.Int.{ints}
use Rattle.std.proofs.lemmas.Bool.{cases_eq}
use Rattle.std.proofs.lemmas.List.{length-set, get_or-set_same, get_or-set_other}
use Rattle.std.proofs.lemmas.List.Sums.{count_by-le-length}
use Rattle.f77_tree.specs.Places.{Equation}
use Rattle.storage_association.specs.declared.forest.Node.{Node}
use Rattle.layout_rules.specs.Storage.{Spot, linked}
use Rattle.storage_association.specs.Trees.{node_at, no_node, IsRoot, IsForest, hung, AreThose, IsHung}
use Rattle.layout_rules.specs.Spots.{storage_at, distance_at, count_in, IsBelow, IsReach}
use Rattle.layout_rules.proofs.Linking.{length-after, together-after, below-after, apart-after, meet-after, joined-after, others-after, near-after}

-- ---- nodes afterwards

module _ (nodes : List Node) (c r : ℕ) (o : ℤ) where
  abbrev new : List Node
  new = hung nodes c r o

  abbrev first_set : List Node
  first_set = set nodes c (record (node_at nodes c) { parent = r; offset = o })

  pub length-hung : length new ≡ length nodes
  length-hung = length-set first_set r _ ∙ length-set nodes c _

  pub hung-child : c < length nodes → c ≢ r → node_at new c ≡ record (node_at nodes c) { parent = r; offset = o }
  hung-child lt ne = get_or-set_other first_set r c _ no_node ne ∙ get_or-set_same nodes c _ no_node lt

  pub hung-root : r < length nodes → node_at new r ≡ record (node_at nodes r) { count = (node_at nodes r).count + (node_at nodes c).count }
  hung-root lt = get_or-set_same first_set r _ no_node (rw (length-set nodes c (record (node_at nodes c) { parent = r; offset = o })) lt)

  pub hung-other : (x : ℕ) → x ≢ c → x ≢ r → node_at new x ≡ node_at nodes x
  hung-other x nc nr = get_or-set_other first_set r x _ no_node nr ∙ get_or-set_other nodes c x _ no_node nc

  -- all but the child keep their parents and offsets
  hung-up : r < length nodes → (x : ℕ) → x ≢ c → ((node_at new x).parent ≡ (node_at nodes x).parent) × ((node_at new x).offset ≡ (node_at nodes x).offset)
  hung-up lt x nc = (grind (arith, hung-root lt, hung-other x nc), grind (arith, hung-root lt, hung-other x nc))

  -- all but the root keep their counts
  pub hung-count : c < length nodes → c ≢ r → (x : ℕ) → x ≢ r → (node_at new x).count ≡ (node_at nodes x).count
  hung-count lt ncr x nr = grind (arith, hung-child lt ncr, hung-other x)

-- ---- the trees afterwards

module _ (nodes : List Node) (spots : List Spot) (e : Equation) (c r : ℕ) (o : ℤ) (forest : IsForest nodes spots) (c_known : c < length nodes) (r_known : r < length nodes) (c_root : IsRoot nodes c) (r_root : IsRoot nodes r) (ends : AreThose (storage_at spots c) (storage_at spots r) (storage_at spots e.from) (storage_at spots e.to)) (apart : storage_at spots e.from ≢ storage_at spots e.to) (below : IsBelow (linked spots e) c r o) where
  abbrev later : List Node
  later = hung nodes c r o

  abbrev places : List Spot
  places = linked spots e

  differ : c ≢ r
  differ e' = grind (arith, ends, apart)

  in_spots : (x : ℕ) → x < length nodes → x < length spots
  in_spots x lt = omega (arith, forest.all)

  inside : (x : ℕ) → x < length later → x < length nodes
  inside x lt = omega (arith, length-hung nodes c r o)

  -- a root now was a root, and isn't the child
  pub roots-left : (x : ℕ) → x < length nodes → IsRoot later x → IsRoot nodes x × (x ≢ c)
  roots-left x lt root =
      let nc : x ≢ c = λ e'.
      let moved : (node_at later c).parent ≡ r = ap (λ (n : Node). n.parent) (hung-child nodes c r o c_known differ) in
      let still : (node_at later c).parent ≡ c = subst (λ (y : ℕ). (node_at later y).parent ≡ y) e' root in
      differ (sym still ∙ moved)
      in (sym (hung-up nodes c r o r_known x nc).0 ∙ root, nc)

  -- a root of the one storage or the other is the child or the root
  the-root : (x : ℕ) → x < length nodes → IsRoot nodes x → x ≢ c → (storage_at spots x ≡ storage_at spots e.from) ⊎ (storage_at spots x ≡ storage_at spots e.to) → x ≡ r
  the-root x lt root nc here = grind (arith, forest.one_root x c lt c_known root c_root, forest.one_root x r lt r_known root r_root, ends)

  -- the root's storage is one of the two
  root-there : (storage_at spots r ≡ storage_at spots e.from) ⊎ (storage_at spots r ≡ storage_at spots e.to)
  root-there = ⊎_elim (λ h. inr h.1) (λ h. inl h.1) ends

  root-count : (node_at later r).count ≡ count_in places (storage_at places r)
  root-count =
      let joined = joined-after spots e apart r (in_spots r r_known) root-there in
      let own = forest.counts r r_known r_root in
      let its = forest.counts c c_known c_root in
      let now : (node_at later r).count ≡ (node_at nodes r).count + (node_at nodes c).count = ap (λ (n : Node). n.count) (hung-root nodes c r o r_known) in
      ⊎_elim
      (λ h.
      let x : count_in spots (storage_at spots c) ≡ count_in spots (storage_at spots e.from) = ap (λ s. count_in spots s) h.0 in
      let y : count_in spots (storage_at spots r) ≡ count_in spots (storage_at spots e.to) = ap (λ s. count_in spots s) h.1 in
      omega arith)
      (λ h.
      let x : count_in spots (storage_at spots c) ≡ count_in spots (storage_at spots e.to) = ap (λ s. count_in spots s) h.0 in
      let y : count_in spots (storage_at spots r) ≡ count_in spots (storage_at spots e.from) = ap (λ s. count_in spots s) h.1 in
      omega arith)
      ends

  child-parent : (node_at later c).parent ≡ r
  child-parent = ap (λ (n : Node). n.parent) (hung-child nodes c r o c_known differ)

  -- the two meet
  met : storage_at places r ≡ storage_at places c
  met = ⊎_elim (λ h. sym (meet-after spots e c r (in_spots c c_known) (in_spots r r_known) h.0 h.1)) (λ h. meet-after spots e r c (in_spots r r_known) (in_spots c c_known) h.1 h.0) ends

  -- no count falls
  count-stays : (x : ℕ) → x < length nodes → (node_at nodes x).count ≤ (node_at later x).count
  count-stays x lt =
      let now : (node_at later r).count ≡ (node_at nodes r).count + (node_at nodes c).count = ap (λ (n : Node). n.count) (hung-root nodes c r o r_known) in
      grind (arith, now, hung-count nodes c r o c_known differ x)

  later-together : (x : ℕ) → x < length nodes → storage_at places (node_at later x).parent ≡ storage_at places x
  later-together x lt = grind (arith, child-parent, met, hung-up nodes c r o r_known x, together-after spots e (node_at nodes x).parent x (in_spots (node_at nodes x).parent (forest.parents x lt)) (in_spots x lt) (forest.together x lt))

  later-after : (x : ℕ) → x < length nodes → distance_at places x ≡ distance_at places (node_at later x).parent +ℤ (node_at later x).offset
  later-after x lt =
      ⊎_elim
      (λ e'. subst (λ (y : ℕ). distance_at places y ≡ distance_at places (node_at later y).parent +ℤ (node_at later y).offset) (sym e')
      (let away : (node_at later c).offset ≡ o = ap (λ (n : Node). n.offset) (hung-child nodes c r o c_known differ) in
      let parent : distance_at places (node_at later c).parent ≡ distance_at places r = ap (λ y. distance_at places y) child-parent in
      omega (arith, ints, below.beyond)))
      (λ ne.
      let p = (node_at nodes x).parent in
      let old = below-after spots e x p (node_at nodes x).offset (in_spots x lt) (in_spots p (forest.parents x lt)) (record { together = forest.together x lt; beyond = forest.beyond x lt }) in
      let away = (hung-up nodes c r o r_known x ne).1 in
      let parent : distance_at places (node_at later x).parent ≡ distance_at places p = ap (λ y. distance_at places y) (hung-up nodes c r o r_known x ne).0 in
      omega (arith, ints, old.beyond))
      (cases_eq x c)

  later-one : (x y : ℕ) → x < length nodes → y < length nodes → IsRoot later x → IsRoot later y → storage_at places x ≡ storage_at places y → x ≡ y
  later-one x y i j root root' same =
      let old = roots-left x i root in
      let old' = roots-left y j root' in
      grind (arith, apart-after spots e x y (in_spots x i) (in_spots y j) same, forest.one_root x y i j old.0 old'.0, the-root x i old.0 old.1, the-root y j old'.0 old'.1)

  later-counts : (x : ℕ) → x < length nodes → IsRoot later x → (node_at later x).count ≡ count_in places (storage_at places x)
  later-counts x lt root =
      let old = roots-left x lt root in
      grind (arith, root-count, hung-count nodes c r o c_known differ x, forest.counts x lt old.0, others-after spots e x (in_spots x lt), the-root x lt old.0 old.1)

  later-rising : (x : ℕ) → x < length nodes → (node_at later x).parent ≢ x → (node_at later x).count < (node_at later (node_at later x).parent).count
  later-rising x lt ne =
      let now : (node_at later r).count ≡ (node_at nodes r).count + (node_at nodes c).count = ap (λ (n : Node). n.count) (hung-root nodes c r o r_known) in
      grind (arith, child-parent, now, hung-count nodes c r o c_known differ x, hung-count nodes c r o c_known differ c differ, hung-up nodes c r o r_known x, r_root, forest.some r r_known, forest.rising x lt, count-stays (node_at nodes x).parent (forest.parents x lt))

  later-parents : (x : ℕ) → x < length nodes → (node_at later x).parent < length nodes
  later-parents x lt = grind (arith, child-parent, hung-up nodes c r o r_known x, forest.parents x lt)

  later-few : (x : ℕ) → x < length nodes → (node_at later x).count ≤ length nodes
  later-few x lt =
      let all : count_in places (storage_at places r) ≤ length places = count_by-le-length _ places in
      grind (arith, root-count, length-after spots e, forest.all, all, hung-count nodes c r o c_known differ x, forest.few x lt)

  pub forest-after : IsReach e.distance → e.from < length spots → e.to < length spots → IsForest later places
  forest-after reach from to = record {
    all = length-hung nodes c r o ∙ forest.all ∙ sym (length-after spots e);
    parents = λ x lt. let p = later-parents x (inside x lt) in omega (arith, length-hung nodes c r o);
    together = λ x lt. later-together x (inside x lt);
    beyond = λ x lt. later-after x (inside x lt);
    one_root = λ x y i j. later-one x y (inside x i) (inside y j);
    counts = λ x lt. later-counts x (inside x lt);
    rising = λ x lt. later-rising x (inside x lt);
    some = λ x lt. let stays = count-stays x (inside x lt) in omega (arith, forest.some x (inside x lt));
    few = λ x lt. let f = later-few x (inside x lt) in omega (arith, length-hung nodes c r o);
    near = near-after spots e apart from to reach forest.near;
  }

  pub is-hung : IsHung nodes later spots e c r o
  is-hung = record {
    child_known = c_known;
    root_known = r_known;
    child_root = c_root;
    root_root = r_root;
    ends = ends;
    apart = apart;
    below = below;
    left = roots-left;
  }
