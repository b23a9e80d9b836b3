-- The graph of control: its edges are the successors of executables.
use Rattle.std.proofs.Common.{◌≡◌, ℕ, zero, suc, ◌+◌, ◌<◌, true, List, [], ◌∷◌, length, get_or, map, All, slice_get, Some, refl, sym, ap, ◌∙◌, subst, zero-add, arith}
use Rattle.std.proofs.lemmas.List.{get_or_default}
use Rattle.closed_walks.specs.Graph.{IsGraph, edge_count, from, to}
use Rattle.f77_tree.specs.declared.programs.Exec.{Exec}
use Rattle.f77_tree.specs.Control.{successors, successors_in, LeadsTo, SuccessorsExist}
use Rattle.cfg_build.specs.Control.{fan, control, is_reached}
use Rattle.cfg_build.proofs.Fans.{places_before, get_or-fan, fan_below, IsInFan, cases_fan}
use Rattle.cfg_build.proofs.ReachedNodes.{IsTold, Reaches, IsEdge, stay, along_last}

abbrev pub heads_of : List Exec → List (List ℕ)
heads_of execs = map (λ exec. successors exec.kind) execs

pub length_heads : (execs : List Exec) → length (heads_of execs) ≡ length execs
length_heads [] = refl
length_heads (exec ∷ execs) = ap suc (length_heads execs)

pub heads_at : (execs : List Exec) (k : ℕ) → get_or (heads_of execs) k [] ≡ successors_in (slice_get execs k)
heads_at [] k = refl
heads_at (exec ∷ execs) zero = refl
heads_at (exec ∷ execs) (suc k) = heads_at execs k

-- what an edge of the graph of control is
pub record IsControlEdge (execs : List Exec) (e : ℕ) : Type 0 where
  pub exec : ℕ
  pub nth : ℕ
  pub exists : exec < length execs
  pub within : nth < length (successors_in (slice_get execs exec))
  pub begins : from (control execs) e ≡ exec
  pub ends : to (control execs) e ≡ get_or (successors_in (slice_get execs exec)) nth 0

pub control_edge : (execs : List Exec) (e : ℕ) → e < edge_count (control execs) → IsControlEdge execs e
unfolding from to
control_edge execs e edge =
    let lists : List (List ℕ) = heads_of execs in
    let r : IsInFan lists e = cases_fan 0 lists e edge in
    let same : length lists ≡ length execs = length_heads execs in
    let is : get_or (fan 0 lists) e (0, 0) ≡ (r.list, get_or (get_or lists r.list []) r.nth 0) =
    ap (λ n. get_or (fan 0 lists) n (0, 0)) r.at ∙ get_or-fan 0 lists r.list r.nth r.exists r.edge ∙ ap (λ n. (n, get_or (get_or lists r.list []) r.nth 0)) (zero-add r.list) in
    record {
      exec = r.list;
      nth = r.nth;
      exists = omega (arith, r.exists, same);
      within = subst (λ (xs : List ℕ). r.nth < length xs) (heads_at execs r.list) r.edge;
      begins = ap (λ (p : ℕ × ℕ). p.0) is;
      ends = ap (λ (p : ℕ × ℕ). p.1) is ∙ ap (λ xs. get_or xs r.nth 0) (heads_at execs r.list);
    }

pub control_leads : (execs : List Exec) (e : ℕ) → e < edge_count (control execs) → LeadsTo execs (from (control execs) e) (to (control execs) e)
control_leads execs e edge = grind (arith, control_edge execs e edge, get_or_default)

-- a successor is led to by an edge
pub edge_of_lead : (execs : List Exec) (k s : ℕ) → k < length execs → LeadsTo execs k s → IsEdge (control execs) k s
unfolding from to
edge_of_lead execs k s some leads =
    let lists : List (List ℕ) = heads_of execs in
    let same : length lists ≡ length execs = length_heads execs in
    let exists : k < length lists = omega (arith, some, same) in
    let edge : leads.0 < length (get_or lists k []) = subst (λ (xs : List ℕ). leads.0 < length xs) (sym (heads_at execs k)) leads.1 in
    let is : get_or (fan 0 lists) (places_before lists k + leads.0) (0, 0) ≡ (0 + k, get_or (get_or lists k []) leads.0 0) = get_or-fan 0 lists k leads.0 exists edge in
    record {
      number = places_before lists k + leads.0;
      exists = fan_below 0 lists k leads.0 exists edge;
      begins = ap (λ (p : ℕ × ℕ). p.0) is ∙ zero-add k;
      ends = ap (λ (p : ℕ × ℕ). p.1) is ∙ ap (λ xs. get_or xs leads.0 0) (heads_at execs k) ∙ get_or_default (successors_in (slice_get execs k)) leads.0 0 s leads.1 ∙ leads.2;
    }

pub exec_at : (execs : List Exec) (k : ℕ) → k < length execs → (exec : Exec) × (slice_get execs k ≡ Some exec)
exec_at [] k some = absurd (omega (arith, some))
exec_at (exec ∷ execs) zero some = (exec, refl)
exec_at (exec ∷ execs) (suc k) some = exec_at execs k (omega (arith, some))

pub exec_below : (execs : List Exec) (k : ℕ) (exec : Exec) → slice_get execs k ≡ Some exec → k < length execs
exec_below [] k exec found = absurd cc
exec_below (other ∷ execs) zero exec found = omega arith
exec_below (other ∷ execs) (suc k) exec found = let r : k < length execs = exec_below execs k exec found in omega (arith, r)

-- ---- successors exist

lead_on : (execs : List Exec) (n k s : ℕ) → All (λ exec. All (λ s. s < n) (successors exec.kind)) execs → LeadsTo execs k s → s < n
lead_on [] n k s all leads = absurd (omega (arith, leads.1))
lead_on (exec ∷ execs) n zero s all leads = subst (λ x. x < n) leads.2 (all 0 exec (omega arith) leads.0 s leads.1)
lead_on (exec ∷ execs) n (suc k) s all leads = lead_on execs n k s (λ i d below. all (suc i) d (omega (arith, below))) leads

module _ (execs : List Exec) (exist : SuccessorsExist execs) where
  pub lead_below : (k s : ℕ) → LeadsTo execs k s → s < length execs
  lead_below k s leads = lead_on execs (length execs) k s exist leads

  pub control_sound : IsGraph (control execs)
  control_sound = record {
    begins = λ e edge. let r : IsControlEdge execs e = control_edge execs e edge in subst (λ k. k < length execs) (sym r.begins) r.exists;
    ends = λ e edge. lead_below (from (control execs) e) (to (control execs) e) (control_leads execs e edge);
  }

  module _ (told : IsTold) (some : 0 < length execs) where
    pub reached_of : (k : ℕ) → is_reached execs k ≡ true → Reaches (control execs) 0 k
    reached_of k h = (told (control execs) 0 k control_sound some).0 h

    pub is_reached_of : (k : ℕ) → Reaches (control execs) 0 k → is_reached execs k ≡ true
    is_reached_of k h = (told (control execs) 0 k control_sound some).1 h

    pub reached_first : is_reached execs 0 ≡ true
    reached_first = is_reached_of 0 (stay (control execs) 0 0 refl)

    -- a successor of an executable that control comes to
    pub reached_next : (k s : ℕ) → k < length execs → is_reached execs k ≡ true → LeadsTo execs k s → is_reached execs s ≡ true
    reached_next k s node h leads = is_reached_of s (along_last (control execs) 0 k s (reached_of k h) (edge_of_lead execs k s node leads))
