-- What an item jumps to is one of its successors, or else the first executable; and it is what the item may go to.
use Rattle.std.proofs.Common.{◌≡◌, ℕ, zero, suc, ◌<◌, Bool, true, false, List, [], ◌∷◌, ◌++◌, Option, Some, None, ap, inl, inr, ⊎_elim, arith}
use Rattle.std.specs.Prelude.{if◌then◌else◌, slice_get, slice_index}
use Rattle.list_laws.specs.Member.{Member}
use Rattle.list_laws.proofs.Members.{Contains-from_Member, Member-cases, Member-left, Member-right}
use Rattle.f77_tree.specs.declared.programs.Exec.{Exec}
use Rattle.f77_tree.specs.declared.programs.ExecKind.{ExecKind}
use Rattle.f77_tree.specs.declared.programs.ExecKind.TheVariants.{Assign, Print, Pass, Test, Sign, Pick, DoStart, DoNext, End}
use Rattle.f77_tree.specs.Control.{LeadsTo, successors, successors_in}
use Rattle.cfg_build.specs.Passes.{kind_in}
use Rattle.simplified_forms.specs.Simplified.{is_next, jumps_by, last_jump, own_jumps, rest}

-- an element of a list, or 0 where there is none
index-member : (xs : List ℕ) (i s : ℕ) → 0 < s → slice_index xs i ≡ s → Member xs s
index-member [] i s some is = absurd (omega (arith, is, some))
index-member (x ∷ xs) zero s some is = inl is
index-member (x ∷ xs) (suc i) s some is = inr (index-member xs i s some is)

jump-member : (kind : ExecKind) (d : Option ℕ) (s : ℕ) → Member (own_jumps kind d) s → Member (successors kind) s
jump-member (Assign target value next) d s m = absurd m
jump-member (Print items next) d s m = absurd m
jump-member (Pass next) d s m = absurd m
jump-member (Test c a b) None s (inl same) = inl same
jump-member (Test c a b) None s (inr none) = absurd none
jump-member (Test c a b) (Some i) s m = absurd m
jump-member (Sign e a b c) None s m = m
jump-member (Sign e a b c) (Some i) s m = absurd m
jump-member (Pick e targets other) None s m = Member-left targets (other ∷ []) s m
jump-member (Pick e targets other) (Some i) s m = absurd m
jump-member (DoStart loop_no var first last step body exit) d s m = absurd m
jump-member (DoNext loop_no var body exit) d s m = absurd m
jump-member End d s m = absurd m

rest-member : (kind : ExecKind) (d : Option ℕ) (s : ℕ) → 0 < s → rest kind d ≡ Some s → Member (successors kind) s
rest-member (Assign target value next) d s some is = inl cc
rest-member (Print items next) d s some is = inl cc
rest-member (Pass next) d s some is = inl cc
rest-member (Test c a b) None s some is = inr (inl cc)
rest-member (Test c a b) (Some i) s some is = index-member (a ∷ b ∷ []) i s some cc
rest-member (Sign e a b c) None s some is = absurd cc
rest-member (Sign e a b c) (Some i) s some is = index-member (a ∷ b ∷ c ∷ []) i s some cc
rest-member (Pick e targets other) None s some is = Member-right targets (other ∷ []) s (inl cc)
rest-member (Pick e targets other) (Some i) s some is = index-member (targets ++ other ∷ []) i s some cc
rest-member (DoStart loop_no var first last step body exit) d s some is = absurd cc
rest-member (DoNext loop_no var body exit) d s some is = inr (inl cc)
rest-member End d s some is = absurd cc

left-if : (b : Bool) (x s : ℕ) → Member (if b then [] else x ∷ []) s → x ≡ s
left-if true x s m = absurd m
left-if false x s (inl same) = same
left-if false x s (inr m) = absurd m

-- the successor to which an item jumps at the end is the one that is left
pub left-rest : (is_item : ℕ → Bool) (k s : ℕ) (o : Option ℕ) → Member (last_jump is_item k o) s → o ≡ Some s
left-rest is_item k s None m = absurd m
left-rest is_item k s (Some x) m = ap Some (left-if (is_next is_item k x) x s m)

kind-leads : (is_item : ℕ → Bool) (k s : ℕ) (kind : ExecKind) (d : Option ℕ) → 0 < s → Member (jumps_by is_item k kind d) s → Member (successors kind) s
kind-leads is_item k s kind d some m = ⊎_elim
    (λ (own : Member (own_jumps kind d) s). jump-member kind d s own)
    (λ (left : Member (last_jump is_item k (rest kind d)) s). rest-member kind d s some (left-rest is_item k s (rest kind d) left))
    (Member-cases (own_jumps kind d) (last_jump is_item k (rest kind d)) s m)

ending-none : (is_item : ℕ → Bool) (k s : ℕ) (d : Option ℕ) → Member (jumps_by is_item k End d) s → ⊥
ending-none is_item k s d m = m

exec-leads : (is_item : ℕ → Bool) (k s : ℕ) (o : Option Exec) (d : Option ℕ) → 0 < s → Member (jumps_by is_item k (kind_in o) d) s → Member (successors_in o) s
exec-leads is_item k s None d some m = absurd (ending-none is_item k s d m)
exec-leads is_item k s (Some exec) d some m = kind-leads is_item k s exec.kind d some m

pub jump-leads : (is_item : ℕ → Bool) (execs : List Exec) (k s : ℕ) (d : Option ℕ) → 0 < s → Member (jumps_by is_item k (kind_in (slice_get execs k)) d) s → LeadsTo execs k s
jump-leads is_item execs k s d some m = Contains-from_Member (successors_in (slice_get execs k)) s (exec-leads is_item k s (slice_get execs k) d some m)
