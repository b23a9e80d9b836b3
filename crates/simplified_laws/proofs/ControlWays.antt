-- Control can come to the successors of executables to which it can come.
use Rattle.std.proofs.Common.{◌≡◌, ℕ, zero, suc, ◌+◌, ◌<◌, true, List, [], ◌∷◌, ◌++◌, length, get_or, map, All, Some, ◌↔◌, refl, sym, ap, subst, ◌∙◌, ⊎_elim, arith}
use Rattle.std.specs.Prelude.{slice_get, slice_index}
use Rattle.std.proofs.lemmas.Option.{slice_get_cases, slice_get_within, get_or_from_slice_get}
use Rattle.list_laws.specs.Member.{Member}
use Rattle.list_laws.proofs.Members.{IsAt, at_of, Member-at, Member-left, Member-right, Member-cases, Member-map, Member-mapped}
use Rattle.closed_walks.specs.Graph.{Graph, IsGraph, edge_count, from, to}
use Rattle.closed_walks.specs.Reaching.{reaches}
use Rattle.closed_walks.specs.Walk.{Walk, Reach, no_edge}
use Rattle.f77_tree.specs.declared.programs.Exec.{Exec}
use Rattle.f77_tree.specs.Control.{successors, SuccessorsExist}
use Rattle.cfg_build.specs.Control.{fan, control, is_reached}
use Rattle.simplified_laws.proofs.LiveWays.{walk-snoc, avoids-snoc}

abbrev pub ReachingIsTold : Type 0
ReachingIsTold = (g : Graph) (u v : ℕ) → IsGraph g → u < g.nodes → (reaches g u v ≡ true) ↔ Reach g no_edge u v

abbrev heads_of : List Exec → List (List ℕ)
heads_of execs = map (λ exec. successors exec.kind) execs

heads-length : (execs : List Exec) → length (heads_of execs) ≡ length execs
heads-length [] = refl
heads-length (exec ∷ execs) = ap suc (heads-length execs)

heads-at : (execs : List Exec) (k : ℕ) (exec : Exec) → slice_get execs k ≡ Some exec → get_or (heads_of execs) k [] ≡ successors exec.kind
heads-at [] k exec is = absurd cc
heads-at (other ∷ execs) zero exec is = let same : other ≡ exec = cc in ap (λ (x : Exec). successors x.kind) same
heads-at (other ∷ execs) (suc k) exec is = heads-at execs k exec is

-- ---- edges by the nodes at which they begin

fan-has : (lists : List (List ℕ)) (first i s : ℕ) → i < length lists → Member (get_or lists i []) s → Member (fan first lists) (first + i, s)
fan-has [] first i s less m = absurd (omega (arith, less))
fan-has (heads ∷ rest) first zero s less m =
    let same : first ≡ first + 0 = omega arith in
    subst (λ n. Member (fan first (heads ∷ rest)) (n, s)) same (Member-left (map (λ head. (first, head)) heads) (fan (suc first) rest) (first, s) (Member-map (λ head. (first, head)) heads s m))
fan-has (heads ∷ rest) first (suc i) s less m =
    let same : suc first + i ≡ first + suc i = omega arith in
    subst (λ n. Member (fan first (heads ∷ rest)) (n, s)) same (Member-right (map (λ head. (first, head)) heads) (fan (suc first) rest) (suc first + i, s) (fan-has rest (suc first) i s (omega (arith, less)) m))

record IsInFan (first : ℕ) (lists : List (List ℕ)) (x : ℕ × ℕ) : Type 0 where
  list : ℕ
  exists : list < length lists
  begins : x.0 ≡ first + list
  ends : Member (get_or lists list []) x.1

fan-only : (lists : List (List ℕ)) (first : ℕ) (x : ℕ × ℕ) → Member (fan first lists) x → IsInFan first lists x
fan-only [] first x m = absurd m
fan-only (heads ∷ rest) first x m = ⊎_elim
    (λ (own : Member (map (λ head. (first, head)) heads) x).
    let r = Member-mapped (λ (head : ℕ). (first, head)) heads x own in
    record { list = 0; exists = omega arith; begins = ap (λ (y : ℕ × ℕ). y.0) (sym r.is) ∙ omega arith; ends = subst (λ (y : ℕ × ℕ). Member heads y.1) r.is r.among })
    (λ (later : Member (fan (suc first) rest) x).
    let r = fan-only rest (suc first) x later in
    record { list = suc r.list; exists = omega (arith, r.exists); begins = r.begins ∙ omega arith; ends = r.ends })
    (Member-cases (map (λ head. (first, head)) heads) (fan (suc first) rest) x m)

module _ (execs : List Exec) (exist : SuccessorsExist execs) where
  edge-in : (e : ℕ) → e < edge_count (control execs) → IsInFan 0 (heads_of execs) (get_or (control execs).edges e (0, 0))
  edge-in e less = fan-only (heads_of execs) 0 (get_or (control execs).edges e (0, 0)) (Member-at (control execs).edges e (0, 0) less)

  successor-below : (k s : ℕ) → k < length execs → Member (get_or (heads_of execs) k []) s → s < length execs
  successor-below k s less m =
      ⊎_elim
      (λ there.
      let exec : Exec = there.0 in
      let here : get_or execs k exec ≡ exec = get_or_from_slice_get execs k exec exec there.2 in
      let all = subst (λ (x : Exec). All (λ n. n < length execs) (successors x.kind)) here (exist k exec less) in
      let at : IsAt (successors exec.kind) s = at_of (successors exec.kind) s (subst (λ (xs : List ℕ). Member xs s) (heads-at execs k exec there.2) m) in
      subst (λ n. n < length execs) (at.is 0) (all at.place 0 at.exists))
      (λ past. absurd (omega (arith, less, past.0)))
      (slice_get_cases execs k).1

  control-sound : IsGraph (control execs)
  unfolding from to
  control-sound = record {
    begins = λ e less. let r = edge-in e less in let size = heads-length execs in omega (arith, r.begins, r.exists, size);
    ends = λ e less. let r = edge-in e less in let size = heads-length execs in successor-below r.list (get_or (control execs).edges e (0, 0)).1 (omega (arith, r.exists, size)) r.ends;
  }

  lead : (k : ℕ) (exec : Exec) (i : ℕ) → slice_get execs k ≡ Some exec → i < length (successors exec.kind) → IsAt (control execs).edges (k, slice_index (successors exec.kind) i)
  lead k exec i found less =
      let within = slice_get_within execs k exec found in
      let size = heads-length execs in
      let m = subst (λ (xs : List ℕ). Member xs (slice_index (successors exec.kind) i)) (sym (heads-at execs k exec found)) (Member-at (successors exec.kind) i 0 less) in
      let same : 0 + k ≡ k = omega arith in
      at_of (control execs).edges (k, slice_index (successors exec.kind) i) (subst (λ n. Member (control execs).edges (n, slice_index (successors exec.kind) i)) same (fan-has (heads_of execs) 0 k (slice_index (successors exec.kind) i) (omega (arith, within, size)) m))

  pub reached-first : ReachingIsTold → 0 < length execs → is_reached execs 0 ≡ true
  reached-first told some = (told (control execs) 0 0 control-sound some).1 (record { walk = []; leads = refl; avoids = tt })

  pub reached-next : ReachingIsTold → (k : ℕ) (exec : Exec) (i : ℕ) → slice_get execs k ≡ Some exec → i < length (successors exec.kind) → is_reached execs k ≡ true → is_reached execs (slice_index (successors exec.kind) i) ≡ true
  unfolding from to
  reached-next told k exec i found less reached =
      let within = slice_get_within execs k exec found in
      let some : 0 < length execs = omega (arith, within) in
      let s = slice_index (successors exec.kind) i in
      let by = (told (control execs) 0 k control-sound some).0 reached in
      let e = lead k exec i found less in
      let begins : from (control execs) e.place ≡ k = ap (λ (x : ℕ × ℕ). x.0) (e.is (0, 0)) in
      let leads : to (control execs) e.place ≡ s = ap (λ (x : ℕ × ℕ). x.1) (e.is (0, 0)) in
      (told (control execs) 0 s control-sound some).1 (record {
        walk = by.walk ++ e.place ∷ [];
        leads = subst (λ n. Walk (control execs) 0 (by.walk ++ e.place ∷ []) n) leads (walk-snoc (control execs) 0 k e.place by.walk by.leads e.exists begins);
        avoids = avoids-snoc no_edge by.walk e.place by.avoids refl;
      })
