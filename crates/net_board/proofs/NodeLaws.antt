-- The nodes of a net: which piece each belongs to, and that each has one number.
use Rattle.std.proofs.Common.{◌≡◌, ◌<◌, inl, inr, ⊎_elim, ℕ, zero, suc, ◌+◌, ◌-◌, ◌&&◌, Bool, true, false, not, List, [], ◌∷◌, ◌++◌, length, map, flat_map, filter, Some, slice_get, refl, sym, ap, ◌∙◌, subst, length-append, arith}
use Rattle.std.specs.List.{range_with_len}
use Rattle.cfg_build.specs.declared.pieces.PieceKind.{PieceKind}
use Rattle.cfg_build.specs.declared.pieces.PieceKind.TheVariants as kind
use Rattle.firing.specs.declared.system.NodeName.{NodeName}
use Rattle.firing.specs.declared.system.NodeName.TheVariants.{Act, Merge, Switch, Op}
use Rattle.list_laws.specs.Member.{Member}
use Rattle.net_board.specs.Nodes.{is_acting, NetOf, graph_in, kind_in, all_lines, is_free, led_to, passing, touched, nodes_by, nodes_at, nodes_of, node_count, first_node, node_at, name_in, switch_lines, switches}
use Rattle.list_laws.proofs.Members.{Member-cases, Member-filtered, Member-filter, Member-mapped, IsImage, Member-flat_mapped, IsFromOne, Member-in_range, Member-range}
use Rattle.std.proofs.lemmas.Bool.{and_parts}

-- ---- lists without repetition

abbrev pub Distinct : {X : Type 0} → List X → Type 0
Distinct [] = Unit {0}
Distinct (x ∷ xs) = (Member xs x → ⊥) × Distinct xs

module _ {X : Type 0} where
  pub member_at : (xs : List X) (k : ℕ) (x : X) → slice_get xs k ≡ Some x → Member xs x
  member_at [] k x is = absurd cc
  member_at (y ∷ ys) zero x is = inl (same y x is)
    where
      same : (a b : X) → Some a ≡ Some b → a ≡ b
      same a b e = cc
  member_at (y ∷ ys) (suc k) x is = inr (member_at ys k x is)

  pub same_some : (a b : X) → Some a ≡ Some b → a ≡ b
  same_some a b e = cc

  pub one_place : (xs : List X) (j k : ℕ) (x : X) → Distinct xs → slice_get xs j ≡ Some x → slice_get xs k ≡ Some x → j ≡ k
  one_place [] j k x apart first second = absurd cc
  one_place (y ∷ ys) zero zero x apart first second = refl
  one_place (y ∷ ys) zero (suc k) x apart first second = absurd (apart.0 (subst (λ z. Member ys z) (sym (same_some y x first)) (member_at ys k x second)))
  one_place (y ∷ ys) (suc j) zero x apart first second = absurd (apart.0 (subst (λ z. Member ys z) (sym (same_some y x second)) (member_at ys j x first)))
  one_place (y ∷ ys) (suc j) (suc k) x apart first second = ap suc (one_place ys j k x apart.1 first second)

  pub distinct_append : (xs ys : List X) → Distinct xs → Distinct ys → ((x : X) → Member xs x → Member ys x → ⊥) → Distinct (xs ++ ys)
  distinct_append [] ys first second none = second
  distinct_append (x ∷ xs) ys first second none =
      ((λ m. ⊎_elim (λ l. first.0 l) (λ r. none x (inl refl) r) (Member-cases xs ys x m)), distinct_append xs ys first.1 second (λ y l r. none y (inr l) r))

  pub distinct_filter : (test : X → Bool) (xs : List X) → Distinct xs → Distinct (filter test xs)
  distinct_filter test [] apart = tt
  distinct_filter test (x ∷ xs) apart = by (test x) (distinct_filter test xs apart.1)
    where
      by : (b : Bool) → Distinct (filter test xs) → Distinct (Rattle.std.proofs.Common.cond b (x ∷ filter test xs) (filter test xs))
      by true rest = ((λ m. apart.0 ((Member-filtered test xs x m).0)), rest)
      by false rest = rest

  pub get_left : (xs ys : List X) (k : ℕ) → k < length xs → slice_get (xs ++ ys) k ≡ slice_get xs k
  get_left [] ys k low = absurd (omega (arith, low))
  get_left (x ∷ xs) ys zero low = refl
  get_left (x ∷ xs) ys (suc k) low = get_left xs ys k (omega (arith, low))

  pub get_right : (xs ys : List X) (k : ℕ) → slice_get (xs ++ ys) (length xs + k) ≡ slice_get ys k
  get_right [] ys k = ap (λ n. slice_get ys n) (Rattle.std.proofs.Common.zero-add k)
  get_right (x ∷ xs) ys k = let e : suc (length xs) + k ≡ suc (length xs + k) = omega arith in ap (λ n. slice_get (x ∷ (xs ++ ys)) n) e ∙ get_right xs ys k

pub distinct_range : (a n : ℕ) → Distinct (range_with_len a n)
distinct_range a zero = tt
distinct_range a (suc n) = ((λ m. let r = Member-in_range (a + 1) n a m in let low = r.0 in omega (arith, low)), distinct_range (a + 1) n)

module _ {X Y : Type 0} where
  pub distinct_map : (f : X → Y) → ((a b : X) → f a ≡ f b → a ≡ b) → (xs : List X) → Distinct xs → Distinct (map f xs)
  distinct_map f one [] apart = tt
  distinct_map f one (x ∷ xs) apart =
      ((λ m. let r : IsImage f xs (f x) = Member-mapped f xs (f x) m in apart.0 (subst (λ z. Member xs z) (one r.origin x r.is) r.among)), distinct_map f one xs apart.1)

  pub distinct_flat_map : (f : X → List Y) (key : Y → X) → ((x : X) (y : Y) → Member (f x) y → key y ≡ x) → ((x : X) → Distinct (f x)) → (xs : List X) → Distinct xs → Distinct (flat_map f xs)
  distinct_flat_map f key keyed each [] apart = tt
  distinct_flat_map f key keyed each (x ∷ xs) apart =
      distinct_append (f x) (flat_map f xs) (each x) (distinct_flat_map f key keyed each xs apart.1)
      (λ y l r.
      let o : IsFromOne f xs y = Member-flat_mapped f xs y r in
      let same : o.origin ≡ x = sym (keyed o.origin y o.has) ∙ keyed x y l in
      apart.0 (subst (λ z. Member xs z) same o.among))

-- what stands at a place of lists in a row
pub get_flat_map : {Y : Type 0} (f : ℕ → List Y) (a n i j : ℕ) → i < n → j < length (f (a + i)) → slice_get (flat_map f (range_with_len a n)) (length (flat_map f (range_with_len a i)) + j) ≡ slice_get (f (a + i)) j
get_flat_map f a zero i j below within = absurd (omega (arith, below))
get_flat_map f a (suc n) zero j below within =
    let e : a + 0 ≡ a = omega arith in
    let low : j < length (f a) = subst (λ m. j < length (f m)) e within in
    let z : 0 + j ≡ j = omega arith in
    ap (λ m. slice_get (f a ++ flat_map f (range_with_len (a + 1) n)) m) z
    ∙ get_left (f a) (flat_map f (range_with_len (a + 1) n)) j low
    ∙ ap (λ m. slice_get (f m) j) (sym e)
get_flat_map f a (suc n) (suc i) j below within =
    let e : (a + 1) + i ≡ a + suc i = omega arith in
    let low : j < length (f ((a + 1) + i)) = subst (λ m. j < length (f m)) (sym e) within in
    let first : List _ = f a in
    let more : List _ = flat_map f (range_with_len (a + 1) i) in
    let s : length (first ++ more) + j ≡ length first + (length more + j) = ap (λ m. m + j) (length-append first more) ∙ sums (length first) (length more) j in
    ap (λ m. slice_get (first ++ flat_map f (range_with_len (a + 1) n)) m) s
    ∙ get_right first (flat_map f (range_with_len (a + 1) n)) (length more + j)
    ∙ get_flat_map f (a + 1) n i j (omega (arith, below)) low
    ∙ ap (λ m. slice_get (f m) j) e
  where
    sums : (x y z : ℕ) → (x + y) + z ≡ x + (y + z)
    sums x y z = omega arith

-- ---- names

abbrev pub piece_of : NodeName → ℕ
piece_of (Act piece) = piece
piece_of (Switch piece line) = piece
piece_of (Merge piece line) = piece
piece_of (Op piece i) = piece

-- a name is one of a node of this piece, which is of this kind
abbrev pub Fits : NetOf → (piece : ℕ) → PieceKind → NodeName → Type 0
Fits net piece k (Act other) = (other ≡ piece) × (is_acting k ≡ true)
Fits net piece k (Switch other line) = (other ≡ piece) × (is_acting k ≡ true) × (line < net.routing.lines) × (net.touches piece line ≡ false)
Fits net piece k (Merge other line) = (other ≡ piece) × (is_acting k ≡ false) × (line < net.routing.lines)
Fits net piece k (Op other i) = ⊥

module _ (net : NetOf) where
  pub not_true : (b : Bool) → not b ≡ true → b ≡ false
  not_true true is = absurd cc
  not_true false is = refl

  pub in_lines : (line : ℕ) → Member (all_lines net) line → line < net.routing.lines
  in_lines line m = let r = Member-in_range 0 net.routing.lines line m in let high = r.1 in omega (arith, high)

  pub touched_is : (piece line : ℕ) → Member (touched net piece) line → net.touches piece line ≡ true
  touched_is piece line m = (Member-filtered (net.touches piece) (all_lines net) line m).1

  pub is_touched : (piece line : ℕ) → line < net.routing.lines → net.touches piece line ≡ true → Member (touched net piece) line
  is_touched piece line below is = Member-filter (net.touches piece) (all_lines net) line (Member-range 0 net.routing.lines line (omega arith) (omega (arith, below))) is

  switch_fits : (piece : ℕ) (k : PieceKind) (name : NodeName) → is_acting k ≡ true → Member (Act piece ∷ map (Switch piece) (passing net piece)) name → Fits net piece k name
  switch_fits piece k name acts (inl e) = subst (λ n. Fits net piece k n) e (refl, acts)
  switch_fits piece k name acts (inr m) =
      let r : IsImage (Switch piece) (passing net piece) name = Member-mapped (Switch piece) (passing net piece) name m in
      let f = Member-filtered (λ line. is_free net piece line && not (net.touches piece line)) (all_lines net) r.origin r.among in
      subst (λ n. Fits net piece k n) r.is (refl, acts, in_lines r.origin f.0, not_true (net.touches piece r.origin) ((and_parts (is_free net piece r.origin) (not (net.touches piece r.origin)) f.1).1))

  merge_fits : (piece : ℕ) (k : PieceKind) (name : NodeName) → is_acting k ≡ false → Member (map (Merge piece) (led_to net piece)) name → Fits net piece k name
  merge_fits piece k name joins m =
      let r : IsImage (Merge piece) (led_to net piece) name = Member-mapped (Merge piece) (led_to net piece) name m in
      let f = Member-filtered (is_free net piece) (all_lines net) r.origin r.among in
      subst (λ n. Fits net piece k n) r.is (refl, joins, in_lines r.origin f.0)

  fits_by : (piece : ℕ) (k : PieceKind) (name : NodeName) → Member (nodes_by net piece k) name → Fits net piece k name
  fits_by piece kind.Act name (inl e) = subst (λ n. Fits net piece kind.Act n) e (refl, refl)
  fits_by piece kind.Act name (inr m) = absurd m
  fits_by piece kind.Branch name m = switch_fits piece kind.Branch name refl m
  fits_by piece kind.Hold name m = switch_fits piece kind.Hold name refl m
  fits_by piece kind.Join name m = merge_fits piece kind.Join name refl m
  fits_by piece kind.End name m = merge_fits piece kind.End name refl m
  fits_by piece kind.Start name m = absurd m
  fits_by piece kind.Pass name m = absurd m

  fits_piece : (piece : ℕ) (k : PieceKind) (name : NodeName) → Fits net piece k name → piece_of name ≡ piece
  fits_piece piece k (Act other) fits = fits.0
  fits_piece piece k (Switch other line) fits = fits.0
  fits_piece piece k (Merge other line) fits = fits.0
  fits_piece piece k (Op other i) fits = absurd fits

  -- ---- numbers

  distinct_switches : (piece : ℕ) → Distinct (Act piece ∷ map (Switch piece) (passing net piece))
  distinct_switches piece = (
    (λ m. let r : IsImage (Switch piece) (passing net piece) (Act piece) = Member-mapped (Switch piece) (passing net piece) (Act piece) m in let e : Switch piece r.origin ≡ Act piece = r.is in absurd cc),
    distinct_map (Switch piece) (λ a b e. cc) (passing net piece) (distinct_filter (λ line. is_free net piece line && not (net.touches piece line)) (all_lines net) (distinct_range 0 net.routing.lines)),
  )

  distinct_merges : (piece : ℕ) → Distinct (map (Merge piece) (led_to net piece))
  distinct_merges piece = distinct_map (Merge piece) (λ a b e. cc) (led_to net piece) (distinct_filter (is_free net piece) (all_lines net) (distinct_range 0 net.routing.lines))

  distinct_by : (piece : ℕ) (k : PieceKind) → Distinct (nodes_by net piece k)
  distinct_by piece kind.Act = ((λ m. m), tt)
  distinct_by piece kind.Branch = distinct_switches piece
  distinct_by piece kind.Hold = distinct_switches piece
  distinct_by piece kind.Join = distinct_merges piece
  distinct_by piece kind.End = distinct_merges piece
  distinct_by piece kind.Start = tt
  distinct_by piece kind.Pass = tt

  distinct_nodes : Distinct (nodes_of net)
  distinct_nodes =
      distinct_flat_map (nodes_at net) piece_of (λ piece name m. fits_piece piece (kind_in net piece) name (fits_by piece (kind_in net piece) name m)) (λ piece. distinct_by piece (kind_in net piece)) (range_with_len 0 (graph_in net).nodes) (distinct_range 0 (graph_in net).nodes)

  pub get_some : {X : Type 0} (xs : List X) (k : ℕ) → k < length xs → (x : X) × (slice_get xs k ≡ Some x)
  get_some [] k below = absurd (omega (arith, below))
  get_some (x ∷ xs) zero below = (x, refl)
  get_some (x ∷ xs) (suc k) below = get_some xs k (omega (arith, below))

  -- a number of a node, and its name
  pub node_is : (k : ℕ) → k < length (nodes_of net) → slice_get (nodes_of net) k ≡ Some (node_at net k)
  node_is k below =
      let s = get_some (nodes_of net) k below in
      s.1 ∙ ap (λ o. Some (name_in o)) (sym s.1)

  -- each name has one number
  pub one_number : (j k : ℕ) → j < length (nodes_of net) → k < length (nodes_of net) → node_at net j ≡ node_at net k → j ≡ k
  one_number j k first second same = one_place (nodes_of net) j k (node_at net k) distinct_nodes (node_is j first ∙ ap (λ n. Some n) same) (node_is k second)

  pub record IsNamed (name : NodeName) : Type 0 where
    pub exists : piece_of name < (graph_in net).nodes
    pub fits : Fits net (piece_of name) (kind_in net (piece_of name)) name

  pub named : (k : ℕ) → k < length (nodes_of net) → IsNamed (node_at net k)
  named k below =
      let o : IsFromOne (nodes_at net) (range_with_len 0 (graph_in net).nodes) (node_at net k) = Member-flat_mapped (nodes_at net) (range_with_len 0 (graph_in net).nodes) (node_at net k) (member_at (nodes_of net) k (node_at net k) (node_is k below)) in
      let fits = fits_by o.origin (kind_in net o.origin) (node_at net k) o.has in
      let at : piece_of (node_at net k) ≡ o.origin = fits_piece o.origin (kind_in net o.origin) (node_at net k) fits in
      let r = Member-in_range 0 (graph_in net).nodes o.origin o.among in
      let high = r.1 in
      subst (λ (piece : ℕ). piece < (graph_in net).nodes → Fits net piece (kind_in net piece) (node_at net k) → IsNamed (node_at net k)) at (λ exists fits. record { exists = exists; fits = fits }) (omega (arith, high)) fits

  -- the node with this place at its piece
  pub node_of : (piece i : ℕ) → piece < (graph_in net).nodes → i < node_count net piece → slice_get (nodes_of net) (first_node net piece + i) ≡ slice_get (nodes_at net piece) i
  node_of piece i exists within =
      let z : 0 + piece ≡ piece = omega arith in
      let low : i < length (nodes_at net (0 + piece)) = subst (λ p. i < length (nodes_at net p)) (sym z) within in
      get_flat_map (nodes_at net) 0 (graph_in net).nodes piece i exists low ∙ ap (λ p. slice_get (nodes_at net p) i) z

  -- ---- switches

  -- a switch of the piece
  pub record IsSwitch (piece k : ℕ) : Type 0 where
    pub line : ℕ
    pub is : node_at net k ≡ Switch piece line

  switch_at : (piece : ℕ) (k : PieceKind) (i : ℕ) → i < length (switch_lines net piece k) → (line : ℕ) × (slice_get (nodes_by net piece k) (suc i) ≡ Some (Switch piece line))
  switch_at piece kind.Branch i below = mapped (passing net piece) i below
    where
      mapped : (xs : List ℕ) (i : ℕ) → i < length xs → (line : ℕ) × (slice_get (map (Switch piece) xs) i ≡ Some (Switch piece line))
      mapped [] i below = absurd (omega (arith, below))
      mapped (x ∷ xs) zero below = (x, refl)
      mapped (x ∷ xs) (suc i) below = mapped xs i (omega (arith, below))
  switch_at piece kind.Hold i below = mapped (passing net piece) i below
    where
      mapped : (xs : List ℕ) (i : ℕ) → i < length xs → (line : ℕ) × (slice_get (map (Switch piece) xs) i ≡ Some (Switch piece line))
      mapped [] i below = absurd (omega (arith, below))
      mapped (x ∷ xs) zero below = (x, refl)
      mapped (x ∷ xs) (suc i) below = mapped xs i (omega (arith, below))
  switch_at piece kind.Act i below = absurd (omega (arith, below))
  switch_at piece kind.Join i below = absurd (omega (arith, below))
  switch_at piece kind.End i below = absurd (omega (arith, below))
  switch_at piece kind.Start i below = absurd (omega (arith, below))
  switch_at piece kind.Pass i below = absurd (omega (arith, below))

  get_within : {X : Type 0} (xs : List X) (k : ℕ) (x : X) → slice_get xs k ≡ Some x → k < length xs
  get_within [] k x is = absurd cc
  get_within (y ∷ ys) zero x is = omega arith
  get_within (y ∷ ys) (suc k) x is = let below = get_within ys k x is in omega (arith, below)

  pub switch_is : (piece k : ℕ) → piece < (graph_in net).nodes → Member (switches net piece) k → IsSwitch piece k
  switch_is piece k exists m =
      let count : ℕ = length (switch_lines net piece (kind_in net piece)) in
      let r = Member-in_range (suc (first_node net piece)) count k m in
      let low = r.0 in
      let high = r.1 in
      let place : (i : ℕ) × (k ≡ first_node net piece + suc i) × (i < count) = (k - suc (first_node net piece), omega (arith, low), omega (arith, low, high)) in
      let s = switch_at piece (kind_in net piece) place.0 place.2 in
      let within : suc place.0 < node_count net piece = get_within (nodes_at net piece) (suc place.0) (Switch piece s.0) s.1 in
      let here : slice_get (nodes_of net) k ≡ Some (Switch piece s.0) = ap (λ n. slice_get (nodes_of net) n) place.1 ∙ node_of piece (suc place.0) exists within ∙ s.1 in
      record { line = s.0; is = ap name_in here }
