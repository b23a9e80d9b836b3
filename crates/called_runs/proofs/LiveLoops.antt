-- The ranges of DOs that a step enters and keeps.
use Rattle.std.proofs.Common.{◌≡◌, ℕ, ◌<◌, ◌≤◌, ◌⊎◌, inl, inr, List, Contains, Option, Some, None, slice_get, refl, sym, ap, subst, ◌∙◌, arith}
use Rattle.std.proofs.lemmas.Bool.{cases_lt}
use Rattle.f77_tree.specs.declared.programs.Exec.{Exec}
use Rattle.f77_tree.specs.declared.programs.ExecKind.{ExecKind}
use Rattle.f77_tree.specs.declared.programs.ExecKind.TheVariants.{DoStart, DoNext}
use Rattle.f77_tree.specs.Control.{successors, successors_in}
use Rattle.f77_tree.specs.Loops.{AreLoops, InRange, Loop, begun, begun_in, do_next, do_start, incremented_in}
use Rattle.f77_tree.specs.Touched.{SetsStep}

held-or-not : (execs : List Exec) (n k : ℕ) → InRange execs n k ⊎ (InRange execs n k → ⊥)
held-or-not execs n k = by (cases_lt (do_start execs n) k) (cases_lt (do_next execs n) k)
  where
    by : (do_start execs n < k) ⊎ (k ≤ do_start execs n) → (do_next execs n < k) ⊎ (k ≤ do_next execs n) → InRange execs n k ⊎ (InRange execs n k → ⊥)
    by (inl after) (inr up_to) = inl (record { after_start = after; up_to_next = up_to })
    by (inr before) other = inr (λ held. let after = held.after_start in omega (arith, after, before))
    by (inl after) (inl past) = inr (λ held. let up_to = held.up_to_next in omega (arith, up_to, past))

sets-it : (kind : ExecKind) (loop : Loop) (i : ℕ) → begun kind ≡ Some loop → loop.number ≡ i → SetsStep kind i
sets-it (DoStart n variable first last step body exit) loop i is number =
    let made : Loop = record { number = n; variable = variable; body = body; exit = exit } in
    let same : Some made ≡ Some loop = is in
    let equal : made ≡ loop = cc in
    ap (λ (l : Loop). l.number) equal ∙ number
sets-it _ loop i is number = let e : None ≡ Some loop = is in absurd cc

module _ (execs : List Exec) (count : ℕ) (loops : AreLoops execs count) where
  -- A range that holds the next executable held the one before, or is that of the DO that this one begins.
  pub entered-by : (position next i : ℕ) (e : Exec) → slice_get execs position ≡ Some e → Contains (successors e.kind) next → i < count → InRange execs i next → InRange execs i position ⊎ SetsStep e.kind i
  entered-by position next i e found leads less range = by (held-or-not execs i position)
    where
      by : InRange execs i position ⊎ (InRange execs i position → ⊥) → InRange execs i position ⊎ SetsStep e.kind i
      by (inl held) = inl held
      by (inr outside) =
          let loop = loops.each i less in
          let at_start = (loops.entered i less position next outside (subst (λ (o : Option Exec). Contains (successors_in o) next) (sym found) leads) range).0 in
          let begins : begun e.kind ≡ Some loop.loop = ap begun_in (sym found) ∙ ap (λ k. begun_in (slice_get execs k)) at_start ∙ loop.begins in
          inr (sets-it e.kind loop.loop i begins loop.number)

  -- the range of a DO holds its increment
  pub increment-held : (position i variable body exit : ℕ) (e : Exec) → slice_get execs position ≡ Some e → e.kind ≡ DoNext i variable body exit → InRange execs i position
  increment-held position i variable body exit e found is =
      let made : Loop = record { number = i; variable = variable; body = body; exit = exit } in
      let next : incremented_in (slice_get execs position) ≡ Some made = ap incremented_in found ∙ ap (λ kind. incremented_in (Some (record { line = e.line; kind = kind }))) is in
      let loop = loops.each i (loops.nexts position made next) in
      let here = loop.one_next position made next refl in
      let later = loop.later in
      record { after_start = omega (arith, here, later); up_to_next = omega (arith, here) }

-- no range holds the first executable
pub none-first : (execs : List Exec) (i : ℕ) → InRange execs i 0 → ⊥
none-first execs i held = let after = held.after_start in omega (arith, after)
