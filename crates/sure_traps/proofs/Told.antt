-- The traps of executables, one after another.
use Rattle.std.proofs.Common.{◌≡◌, ℕ, suc, ◌+◌, ◌<◌, ◌≤◌, Bool, true, false, List, [], ◌∷◌, ◌++◌, length, get_or, drop, Option, Some, None, All, refl, ◌∙◌, drop-cons, append_assoc, arith}
use Rattle.std.specs.Prelude.{◌==◌, if◌then◌else◌, slice_get}
use Rattle.std.proofs.lemmas.List.{drop_all}
use Rattle.std.proofs.lemmas.List.Elements.{All-push}
use Rattle.std.specs.List.{list_any}
use Rattle.f77_tree.specs.declared.programs.Exec.{Exec}
use Rattle.f77_tree.specs.declared.programs.NameInfo.{NameInfo}
use Rattle.f77_tree.specs.declared.programs.Program.{Program}
use Rattle.sure_traps.specs.Causes.{cause_of}
use Rattle.sure_traps.specs.SureTraps.{IsSure, traps_among, traps_of, with_trap}
use Rattle.sure_traps.proofs.Stops.{sure}
use Rattle.sure_traps.specs.declared.causes.Cause.{Cause}
use Rattle.sure_traps.specs.declared.causes.SureTrap.{SureTrap}

-- an executable more
pub told_next : (names : List NameInfo) (told : List SureTrap) (execs : List Exec) (i : ℕ) (exec : Exec) → i < length execs → exec ≡ get_or execs i exec → traps_among names told (drop i execs) ≡ traps_among names (with_trap told exec.line (cause_of names exec.kind)) (drop (i + 1) execs)
told_next names told execs i exec lt is =
    let step : i + 1 ≡ suc i = omega arith in
    rw (drop-cons execs i exec lt, ← is, step) refl

-- nothing, where one of the line was told
pub with_told : (told : List SureTrap) (line : ℕ) (o : Option Cause) (cause : Cause) → o ≡ Some cause → list_any (λ t. t.line == line) told ≡ true → told ≡ with_trap told line o
with_told told line o cause is any = rw (is, any) refl

-- all
pub told_end : (names : List NameInfo) (told : List SureTrap) (execs : List Exec) (i : ℕ) → length execs ≤ i → traps_among names told (drop i execs) ≡ told
told_end names told execs i end = rw (drop_all i execs end) refl

-- ---- what is told is sure

at-length : {X : Type 0} (before rest : List X) (x : X) → slice_get (before ++ x ∷ rest) (length before) ≡ Some x
at-length [] rest x = refl
at-length (y ∷ before) rest x = at-length before rest x

module _ (p : Program) where
  with-sure : (told : List SureTrap) (before rest : List Exec) (exec : Exec) → before ++ exec ∷ rest ≡ p.execs → All (IsSure p) told → (c : Option Cause) → cause_of p.names exec.kind ≡ c → All (IsSure p) (with_trap told exec.line c)
  with-sure told before rest exec is all None none = all
  with-sure told before rest exec is all (Some cause) has = by_told (list_any (λ t. t.line == exec.line) told)
    where
      by_told : (b : Bool) → All (IsSure p) (if b then told else told ++ record { line = exec.line; cause = cause } ∷ [])
      by_told true = all
      by_told false = All-push (IsSure p) told (record { line = exec.line; cause = cause }) all (sure p (length before) exec (record { line = exec.line; cause = cause }) (rw (← is) (at-length before rest exec)) refl (rw has refl))

  among-sure : (told : List SureTrap) (before rest : List Exec) → before ++ rest ≡ p.execs → All (IsSure p) told → All (IsSure p) (traps_among p.names told rest)
  among-sure told before [] is all = all
  among-sure told before (exec ∷ rest) is all =
      among-sure (with_trap told exec.line (cause_of p.names exec.kind)) (before ++ exec ∷ []) rest (append_assoc before (exec ∷ []) rest ∙ is)
      (with-sure told before rest exec is all (cause_of p.names exec.kind) refl)

  pub told-sure : (traps : List SureTrap) → traps ≡ traps_of p → All (IsSure p) traps
  told-sure traps is = rw is (among-sure [] [] p.execs refl (λ k d lt. absurd (omega (arith, lt))))
