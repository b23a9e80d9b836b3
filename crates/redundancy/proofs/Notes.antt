-- What is noted of candidates, one after another.
use Rattle.std.proofs.Common.{◌≡◌, ◌≢◌, ℕ, ◌+◌, ◌*◌, ◌%◌, ◌<◌, ◌≤◌, ◌⊎◌, Bool, true, false, ◌==◌, ◌&&◌, ◌||◌, List, [], ◌∷◌, ◌++◌, length, get_or, map, take, refl, sym, ap, ◌∙◌, subst, inl, inr, ⊎_elim, arith, length-append, append_assoc}
use Rattle.std.specs.Prelude.{Some, slice_get, Contains, ◌↔◌, flat_map}
use Rattle.std.proofs.lemmas.Bool.{cases_eq, cases_lt, cases_order, eq-eqb, ne_eqb, eqb-true, false≢true}
use Rattle.std.proofs.lemmas.List.{take_more, take_all}
use Rattle.std.proofs.lemmas.Option.{slice_get-get_or}
use Rattle.f77_tree.specs.declared.expressions.Expr.{Expr}
use Rattle.redundancy.specs.Available.{has_mark}
use Rattle.redundancy.specs.Noted.{AreFirst, AreRows, IsMarked, IsNoted, at_node}
use Rattle.std.proofs.lemmas.List.Concat.{flat_map-append}
use Rattle.f77_tree.specs.declared.programs.Exec.{Exec}
use Rattle.f77_tree.specs.declared.programs.NameInfo.{NameInfo}
use Rattle.cfg_build.specs.declared.pieces.Piece.{Piece}
use Rattle.cfg_build.specs.Flow.{piece_at, piece_in}
use Rattle.redundancy.specs.Candidates.{IsCandidate}
use Rattle.redundancy.specs.Collected.{AreCandidatesIn, none, IsGrown}
use Rattle.f77_tree.specs.declared.programs.Program.{Program}
use Rattle.cfg_build.specs.Joined.{FlowGraph}
use Rattle.redundancy.specs.Computed.{computed_by, all_computed, AreCandidates, Computes}
use Rattle.redundancy.specs.Numbers.{IsNumbered}
use Rattle.redundancy.proofs.Bits.{zero_bit}
use Rattle.redundancy.proofs.Growing.{both, append_none}
use Rattle.redundancy.proofs.Tables.{get_left, get_within, get_more, get_of_contains, contains_of_get, contains-here, contains-later, contains-left, contains-right, some_same, at_get}
use Rattle.redundancy.proofs.Firsts.{firsts_more, contains_more, contains-last, contains_first, chosen_sound, chosen_whole, chosen_before}
use Rattle.std.proofs.lemmas.Bool.{and_parts, and_from}

-- ---- numbers

pub numbered_place : (e : Expr) (old new : List Expr) (k : ℕ) → IsNumbered e old new k → ((new ≡ old) × (k < length old)) ⊎ ((new ≡ old ++ e ∷ []) × (k ≡ length old))
numbered_place e old new k n = ⊎_elim
    (λ same. inl (same, get_within old k e (ap (λ (z : List Expr). slice_get z k) (sym same) ∙ n.at)))
    (λ grown. inr (
      grown.0,
      ⊎_elim
          (λ before. absurd (grown.1 (contains_of_get old k e before)))
          (λ last. last.0)
          (get_more old e e k (ap (λ (z : List Expr). slice_get z k) (sym grown.0) ∙ n.at)),
    ))
    n.grows

pub numbered_below : (e : Expr) (old new : List Expr) (nodes k : ℕ) (rows : List (List ℕ)) → IsNumbered e old new k → AreRows nodes (length old) rows → k ≤ 64 * length rows
numbered_below e old new nodes k rows n r = ⊎_elim
    (λ same. let lt = same.1 in let covers = r.covers in omega (arith, lt, covers))
    (λ grown. let at = grown.1 in let covers = r.covers in omega (arith, at, covers))
    (numbered_place e old new k n)

pub rows_next : (e : Expr) (old new : List Expr) (nodes k : ℕ) (rows more : List (List ℕ)) → IsNumbered e old new k → AreRows nodes (length old) rows
    → ((r : ℕ) → r < length more → length (get_or more r []) ≡ nodes)
    → (k < 64 * length rows → length more ≡ length rows) → (k ≡ 64 * length rows → length more ≡ length rows + 1)
    → AreRows nodes (length new) more
rows_next e old new nodes k rows more n r each stays grows =
    let covers = r.covers in
    let needed = r.needed in
    ⊎_elim
    (λ same.
    let lt = same.1 in
    let count : length new ≡ length old = ap length same.0 in
    let len : length more ≡ length rows = stays (omega (arith, lt, covers)) in
    record { each = each; covers = omega (arith, covers, count, len); needed = omega (arith, needed, count, len) })
    (λ grown.
    let at = grown.1 in
    let count : length new ≡ length old + 1 = ap length grown.0 ∙ length-append old (e ∷ []) in
    ⊎_elim
    (λ (l : k < 64 * length rows).
    let len : length more ≡ length rows = stays l in
    record { each = each; covers = omega (arith, l, at, count, len); needed = omega (arith, needed, count, len) })
    (λ (m : 64 * length rows ≤ k).
    let last : k ≡ 64 * length rows = omega (arith, m, at, covers) in
    let len : length more ≡ length rows + 1 = grows last in
    record { each = each; covers = omega (arith, last, at, count, len); needed = omega (arith, last, at, count, len) })
    (cases_lt k (64 * length rows)))
    (numbered_place e old new k n)

-- ---- marks

-- no expression stands twice among the first ones
pub one_number : (all firsts : List Expr) (e : Expr) (i j : ℕ) → AreFirst all firsts → slice_get firsts i ≡ Some e → slice_get firsts j ≡ Some e → i ≡ j
one_number all firsts e i j f is_i is_j = ⊎_elim
    (λ same. same)
    (⊎_elim
    (λ (l : i < j). let b = f.ordered i j e e l is_i is_j in absurd (b.first b.place (omega arith) b.is))
    (λ (l : j < i). let b = f.ordered j i e e l is_j is_i in absurd (b.first b.place (omega arith) b.is)))
    (cases_order i j)

pub contains_map : (pairs : List (ℕ × Expr)) (v : ℕ) (e : Expr) → Contains pairs (v, e) → Contains (map (λ (at : ℕ × Expr). at.1) pairs) e
contains_map [] v e c = let lt = c.1 in absurd (omega (arith, lt))
contains_map (p ∷ pairs) v e c = ⊎_elim
    (λ (same : p ≡ (v, e)). subst (λ x. Contains (p.1 ∷ map (λ (at : ℕ × Expr). at.1) pairs) x) (ap (λ (at : ℕ × Expr). at.1) same) (contains-here p.1 (map (λ (at : ℕ × Expr). at.1) pairs)))
    (λ later. contains-later p.1 e (map (λ (at : ℕ × Expr). at.1) pairs) (contains_map pairs v e later))
    (contains_first p pairs (v, e) c)

map_append : (f : ℕ × Expr → Expr) (xs ys : List (ℕ × Expr)) → map f (xs ++ ys) ≡ map f xs ++ map f ys
map_append f [] ys = refl
map_append f (x ∷ xs) ys = ap (λ zs. f x ∷ zs) (map_append f xs ys)

or_cases : (a b : Bool) → (a || b) ≡ true → (a ≡ true) ⊎ (b ≡ true)
or_cases true b is = inl refl
or_cases false b is = inr is

or_left : (a b : Bool) → a ≡ true → (a || b) ≡ true
or_left true b is = refl
or_left false b is = absurd (false≢true is)

or_right : (a b : Bool) → b ≡ true → (a || b) ≡ true
or_right true b is = refl
or_right false b is = is

or_both : (a b : Bool) → a ≡ false → b ≡ false → (a || b) ≡ false
or_both true b is_a is_b = absurd (false≢true (sym is_a))
or_both false b is_a is_b = is_b

and_none : (a b : Bool) → a ≡ false → (a && b) ≡ false
and_none true b is = absurd (false≢true (sym is))
and_none false b is = refl

old_at : (old new : List Expr) (j : ℕ) (d : Expr) → j < length old → ((i : ℕ) (x : Expr) → slice_get old i ≡ Some x → slice_get new i ≡ Some x) → slice_get new j ≡ Some d → slice_get old j ≡ Some d
old_at old new j d l extends is =
    let there = slice_get-get_or old j d l in
    let same = some_same (get_or old j d) d (sym (extends j (get_or old j d) there) ∙ is) in
    there ∙ ap Some same

-- one candidate more at a piece
pub noted_next : (nodes : ℕ) (computed : List (ℕ × Expr)) (old new : List Expr) (rows more : List (List ℕ)) (e : Expr) (k node : ℕ) → IsNoted nodes computed old rows → IsNumbered e old new k → IsMarked k node rows more → AreRows nodes (length new) more → IsNoted nodes (computed ++ (node, e) ∷ []) new more
noted_next nodes computed old new rows more e k node s n marked are =
    let all = map (λ (at : ℕ × Expr). at.1) computed in
    let firsts : AreFirst (all ++ e ∷ []) new = firsts_more all old new e k s.firsts n in
    let place = numbered_place e old new k n in
    let extends : (i : ℕ) (d : Expr) → slice_get old i ≡ Some d → slice_get new i ≡ Some d = λ i d is. ⊎_elim
    (λ same. ap (λ (z : List Expr). slice_get z i) same.0 ∙ is)
    (λ grown. ap (λ (z : List Expr). slice_get z i) grown.0 ∙ get_left old (e ∷ []) i (get_within old i d is) ∙ is)
    place
    in
    let k_less : k < length new = get_within new k e n.at in
    let old_less : length old ≤ length new = ⊎_elim
    (λ same. let count : length new ≡ length old = ap length same.0 in omega (arith, count))
    (λ grown. let count : length new ≡ length old + 1 = ap length grown.0 ∙ length-append old (e ∷ []) in omega (arith, count))
    place
    in
    record {
      firsts = subst (λ (z : List Expr). AreFirst z new) (sym (map_append (λ at. at.1) computed ((node, e) ∷ []))) firsts;
      are_rows = are;
      marks = λ j v d is. (
        λ has. ⊎_elim
            (λ (before : has_mark rows j v ≡ true). ⊎_elim
            (λ (l : j < length old).
            let old_is : slice_get old j ≡ Some d = old_at old new j d l extends is in
            contains-left computed ((node, e) ∷ []) (v, d) ((s.marks j v d old_is).0 before))
            (λ (m : length old ≤ j). absurd (false≢true (sym (s.blank j v m) ∙ before)))
            (cases_lt j (length old)))
            (λ both.
            let parts = and_parts (j == k) (v == node) both in
            let same_k : j ≡ k = eqb-true j k parts.0 in
            let same_v : v ≡ node = eqb-true v node parts.1 in
            let same_e : e ≡ d = some_same e d (sym n.at ∙ ap (slice_get new) (sym same_k) ∙ is) in
            let pair : (node, e) ≡ (v, d) = ap (λ x. (x, e)) (sym same_v) ∙ ap (λ y. (v, y)) same_e in
            subst (λ (p : ℕ × Expr). Contains (computed ++ (node, e) ∷ []) p) pair (contains-last computed (node, e)))
            (or_cases (has_mark rows j v) ((j == k) && (v == node)) (sym (marked j v) ∙ has)),
        λ c. marked j v ∙ ⊎_elim
            (λ before.
            let there = s.firsts.whole d (contains_map computed v d before) in
            let old_is : slice_get old there.0 ≡ Some d = get_of_contains old d there in
            let same : there.0 ≡ j = one_number (all ++ e ∷ []) new d there.0 j firsts (extends there.0 d old_is) is in
            or_left (has_mark rows j v) ((j == k) && (v == node)) ((s.marks j v d (subst (λ x. slice_get old x ≡ Some d) same old_is)).1 before))
            (λ (pair : (node, e) ≡ (v, d)).
            let same_v : node ≡ v = ap (λ (p : ℕ × Expr). p.0) pair in
            let same_e : e ≡ d = ap (λ (p : ℕ × Expr). p.1) pair in
            let same_k : j ≡ k = one_number (all ++ e ∷ []) new d j k firsts is (n.at ∙ ap Some same_e) in
            or_right (has_mark rows j v) ((j == k) && (v == node)) (and_from (j == k) (v == node) (eq-eqb j k same_k) (eq-eqb v node (sym same_v))))
            (contains_more computed (node, e) (v, d) c),
      );
      blank = λ j v past.
          let differ : j ≢ k = omega (arith, past, k_less) in
          marked j v ∙ or_both (has_mark rows j v) ((j == k) && (v == node)) (s.blank j v (omega (arith, past, old_less))) (and_none (j == k) (v == node) (ne_eqb j k differ));
    }

pairs_append : (node : ℕ) (xs ys : List Expr) → map (at_node node) (xs ++ ys) ≡ map (at_node node) xs ++ map (at_node node) ys
pairs_append node [] ys = refl
pairs_append node (x ∷ xs) ys = ap (λ (zs : List (ℕ × Expr)). at_node node x ∷ zs) (pairs_append node xs ys)

-- one expression more of a list
pub pairs_more : (node : ℕ) (computed : List (ℕ × Expr)) (found : List Expr) (i : ℕ) (e : Expr) → i < length found → e ≡ get_or found i e → (computed ++ map (at_node node) (take i found)) ++ (node, e) ∷ [] ≡ computed ++ map (at_node node) (take (i + 1) found)
pairs_more node computed found i e lt at =
    let prefix : take (i + 1) found ≡ take i found ++ e ∷ [] = take_more found i e lt ∙ ap (λ (x : Expr). take i found ++ x ∷ []) (sym at) in
    append_assoc computed (map (at_node node) (take i found)) ((node, e) ∷ []) ∙ ap (λ (z : List (ℕ × Expr)). computed ++ z) (sym (pairs_append node (take i found) (e ∷ [])) ∙ ap (map (at_node node)) (sym prefix))

-- ---- piece by piece

some_none : (k : ℕ) (e : Expr) → slice_get [] k ≡ Some e → ⊥
some_none k e is = cc

pub noted_none : (nodes : ℕ) → IsNoted nodes [] [] []
noted_none nodes = record {
  firsts = record {
    sound = λ k e is. absurd (some_none k e is);
    whole = λ e c. (let lt = c.1 in absurd (omega (arith, lt)));
    ordered = λ i j e d less is_e is_d. absurd (some_none i e is_e);
  };
  are_rows = record { each = λ r less. absurd (omega (arith, less)); covers = omega arith; needed = omega arith };
  marks = λ k v e is. absurd (some_none k e is);
  blank = λ k v past. zero_bit (k % 64);
}

-- what is noted is what the pieces below a number compute
pub record IsGathered (names : List NameInfo) (execs : List Exec) (pieces : List Piece) (node : ℕ) (computed : List (ℕ × Expr)) : Type 0 where
  pub are : AreCandidatesIn names (flat_map (computed_by execs) (take node pieces)) (map (λ (at : ℕ × Expr). at.1) computed)
  pub here : (v : ℕ) (e : Expr) → Contains computed (v, e) ↔ ((v < node) × (IsCandidate names e × Contains (computed_by execs (piece_at pieces v)) e))

pub gathered_none : (names : List NameInfo) (execs : List Exec) (pieces : List Piece) → IsGathered names execs pieces 0 []
gathered_none names execs pieces = record {
  are = none;
  here = λ v e. (λ c. (let lt = c.1 in absurd (omega (arith, lt))), λ h. (let lt = h.0 in absurd (omega (arith, lt))));
}

map_snd : (node : ℕ) (found : List Expr) → map (λ (at : ℕ × Expr). at.1) (map (at_node node) found) ≡ found
map_snd node [] = refl
map_snd node (x ∷ found) = ap (λ zs. x ∷ zs) (map_snd node found)

contains_pairs : (node : ℕ) (found : List Expr) (v : ℕ) (e : Expr) → Contains (map (at_node node) found) (v, e) → (node ≡ v) × Contains found e
contains_pairs node [] v e c = let lt = c.1 in absurd (omega (arith, lt))
contains_pairs node (x ∷ found) v e c = ⊎_elim
    (λ (same : (node, x) ≡ (v, e)). (ap (λ (p : ℕ × Expr). p.0) same, subst (λ y. Contains (x ∷ found) y) (ap (λ (p : ℕ × Expr). p.1) same) (contains-here x found)))
    (λ later. let rest = contains_pairs node found v e later in (rest.0, contains-later x e found rest.1))
    (contains_first (node, x) (map (at_node node) found) (v, e) c)

pairs_contain : (node : ℕ) (found : List Expr) (e : Expr) → Contains found e → Contains (map (at_node node) found) (node, e)
pairs_contain node [] e c = let lt = c.1 in absurd (omega (arith, lt))
pairs_contain node (x ∷ found) e c = ⊎_elim
    (λ same. subst (λ y. Contains ((node, x) ∷ map (at_node node) found) (node, y)) same (contains-here (node, x) (map (at_node node) found)))
    (λ later. contains-later (node, x) (node, e) (map (at_node node) found) (pairs_contain node found e later))
    (contains_first x found e c)

contains_either : {X : Type 0} (xs ys : List X) (y : X) → Contains (xs ++ ys) y → Contains xs y ⊎ Contains ys y
contains_either [] ys y c = inr c
contains_either (x ∷ xs) ys y c = ⊎_elim
    (λ same. inl (subst (λ z. Contains (x ∷ xs) z) same (contains-here x xs)))
    (λ later. ⊎_elim (λ l. inl (contains-later x y xs l)) (λ r. inr r) (contains_either xs ys y later))
    (contains_first x (xs ++ ys) y c)

-- one piece more
pub gathered_next : (names : List NameInfo) (execs : List Exec) (pieces : List Piece) (node : ℕ) (piece : Piece) (computed : List (ℕ × Expr)) (found : List Expr) → slice_get pieces node ≡ Some piece → IsGrown names (computed_by execs piece) [] found → IsGathered names execs pieces node computed → IsGathered names execs pieces (node + 1) (computed ++ map (at_node node) found)
gathered_next names execs pieces node piece computed found is grown s =
    let more_is : found ≡ grown.more = grown.after in
    let chosen : AreCandidatesIn names (computed_by execs piece) found = subst (λ (z : List Expr). AreCandidatesIn names (computed_by execs piece) z) (sym more_is) grown.are in
    let within = get_within pieces node piece is in
    let at : piece_at pieces node ≡ piece = ap piece_in is in
    let read : get_or pieces node piece ≡ piece = at_get pieces node piece is in
    let prefix : take (node + 1) pieces ≡ take node pieces ++ piece ∷ [] = take_more pieces node piece within ∙ ap (λ (x : Piece). take node pieces ++ x ∷ []) read in
    let parts : flat_map (computed_by execs) (take (node + 1) pieces) ≡ flat_map (computed_by execs) (take node pieces) ++ computed_by execs piece = ap (flat_map (computed_by execs)) prefix ∙ flat_map-append (computed_by execs) (take node pieces) (piece ∷ []) ∙ ap (λ (z : List Expr). flat_map (computed_by execs) (take node pieces) ++ z) (append_none (computed_by execs piece)) in
    let seconds : map (λ (at : ℕ × Expr). at.1) (computed ++ map (at_node node) found) ≡ map (λ (at : ℕ × Expr). at.1) computed ++ found = map_append (λ at. at.1) computed (map (at_node node) found) ∙ ap (λ (z : List Expr). map (λ (at : ℕ × Expr). at.1) computed ++ z) (map_snd node found) in
    record {
      are = subst (λ (z : List Expr). AreCandidatesIn names (flat_map (computed_by execs) (take (node + 1) pieces)) z) (sym seconds)
          (subst (λ (z : List Expr). AreCandidatesIn names z (map (λ (at : ℕ × Expr). at.1) computed ++ found)) (sym parts)
          (both names (flat_map (computed_by execs) (take node pieces)) (map (λ (at : ℕ × Expr). at.1) computed) (computed_by execs piece) found s.are chosen));
      here = λ v e. (
        λ c. ⊎_elim
            (λ old. let h = (s.here v e).0 old in (let lt = h.0 in omega (arith, lt), h.1))
            (λ new.
            let p = contains_pairs node found v e new in
            let same : node ≡ v = p.0 in
            let there = chosen_sound names (computed_by execs piece) found e chosen p.1 in
            (omega (arith, same), (there.0, subst (λ (x : Piece). Contains (computed_by execs x) e) (sym at ∙ ap (piece_at pieces) same) there.1)))
            (contains_either computed (map (at_node node) found) (v, e) c),
        λ h. ⊎_elim
            (λ (same : v ≡ node).
            let in_piece : Contains (computed_by execs piece) e = subst (λ (x : Piece). Contains (computed_by execs x) e) (ap (piece_at pieces) same ∙ at) h.1.1 in
            subst (λ x. Contains (computed ++ map (at_node node) found) (x, e)) (sym same) (contains-right computed (map (at_node node) found) (node, e) (pairs_contain node found e (chosen_whole names (computed_by execs piece) found e chosen h.1.0 in_piece))))
            (λ (apart : v ≢ node). contains-left computed (map (at_node node) found) (v, e) ((s.here v e).1 ((let lt = h.0 in omega (arith, lt, apart)), h.1)))
            (cases_eq v node),
      );
    }

-- all pieces
pub all_gathered : (p : Program) (f : FlowGraph) (node : ℕ) (computed : List (ℕ × Expr)) (candidates : List Expr) → length f.pieces ≤ node → IsGathered p.names p.execs f.pieces node computed → AreFirst (map (λ (at : ℕ × Expr). at.1) computed) candidates → AreCandidates p f candidates
all_gathered p f node computed candidates end s first =
    let occurring = map (λ (at : ℕ × Expr). at.1) computed in
    let are : AreCandidatesIn p.names (all_computed p.execs f) occurring = subst (λ (z : List Piece). AreCandidatesIn p.names (flat_map (computed_by p.execs) z) occurring) (take_all node f.pieces end) s.are in
    record {
      sound = λ k e is. chosen_sound p.names (all_computed p.execs f) occurring e are (first.sound k e is);
      whole = λ e is c. first.whole e (chosen_whole p.names (all_computed p.execs f) occurring e are is c);
      ordered = λ i j e d less is_e is_d. chosen_before p.names (all_computed p.execs f) occurring e d are (chosen_sound p.names (all_computed p.execs f) occurring d are (first.sound j d is_d)).0 (first.ordered i j e d less is_e is_d);
    }

pub marks_tell : (p : Program) (f : FlowGraph) (nodes node : ℕ) (computed : List (ℕ × Expr)) (candidates : List Expr) (rows : List (List ℕ)) → length f.pieces ≤ node → IsGathered p.names p.execs f.pieces node computed → IsNoted nodes computed candidates rows → (k v : ℕ) (e : Expr) → slice_get candidates k ≡ Some e → v < length f.pieces → (has_mark rows k v ≡ true) ↔ Computes p f e v
marks_tell p f nodes node computed candidates rows end s n k v e is less = (
  λ has. let h = (s.here v e).0 ((n.marks k v e is).0 has) in record { candidate = h.1.0; stands = h.1.1 },
  λ c. (n.marks k v e is).1 ((s.here v e).1 (omega (arith, less, end), (c.candidate, c.stands))),
)
