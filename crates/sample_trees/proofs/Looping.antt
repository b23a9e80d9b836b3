-- The looping program is well formed.
use Rattle.std.proofs.Common.{◌≡◌, ℕ, zero, suc, ◌<◌, ◌≤◌, pos, [], ◌∷◌, Bool, true, false, Option, Some, None, ◌⊎◌, inl, inr, refl, sym, ap, subst, arith}
use Rattle.std.specs.Prelude.{All, slice_get, ◌≤ℤ◌}
use Rattle.std.proofs.lemmas.Int.{ints}
use Rattle.f77_tree.specs.declared.declarations.Kind.TheVariants.{Integer}
use Rattle.f77_tree.specs.declared.programs.Exec.{Exec}
use Rattle.f77_tree.specs.declared.programs.ExecKind.{ExecKind}
use Rattle.f77_tree.specs.declared.programs.ExecKind.TheVariants.{End}
use Rattle.f77_tree.specs.Declarations.{IsNameInfo, NamesDiffer, IsIntegerScalar, IsMember}
use Rattle.f77_tree.specs.Kinds.{IsOfKind}
use Rattle.f77_tree.specs.Control.{LeadsTo, successors}
use Rattle.f77_tree.specs.Loops.{Loop, IsLoop, AreLoops, IsEnteredAtStart, InRange, begun_at, incremented_at}
use Rattle.f77_tree.specs.Places.{ArePlaces, Linked, IsLowest, BeginsAfter, end_of}
use Rattle.f77_tree.specs.Value.{place_of}
use Rattle.f77_tree.specs.InitialWords.{IsInitPart, IsInitValue, initial_word}
use Rattle.f77_tree.specs.WellFormed.{IsWellFormed, AreExecs, AreDeclarations, IsExecutable}
use Rattle.sample_trees.proofs.Lists.{each, none, below_one}
use Rattle.sample_trees.specs.Looping.{names, one, execs, item, given, inits, looping}
use Rattle.f77_tree.proofs.AllLemmas.{All-nil}

-- ---- executables

abbrev is_end : ExecKind → Bool
is_end End = true
is_end _ = false

abbrev is_end_in : Option Exec → Bool
is_end_in None = false
is_end_in (Some e) = is_end e.kind

abbrev kind_in : Option Exec → ExecKind
kind_in None = End
kind_in (Some e) = e.kind

no_end : (e : Exec) → false ≡ is_end e.kind → e.kind ≡ End → ⊥
no_end e is_not is =
    let ends : is_end e.kind ≡ true = ap is_end is in
    absurd cc

last : (k : ℕ) (e : Exec) → slice_get execs k ≡ Some e → (e.kind ≡ End → suc k ≡ 4) × (suc k ≡ 4 → e.kind ≡ End)
last zero e at = (λ is. absurd (no_end e (ap is_end_in at) is), λ is. absurd (omega (arith, is)))
last (suc zero) e at = (λ is. absurd (no_end e (ap is_end_in at) is), λ is. absurd (omega (arith, is)))
last (suc (suc zero)) e at = (λ is. absurd (no_end e (ap is_end_in at) is), λ is. absurd (omega (arith, is)))
last (suc (suc (suc zero))) e at = (λ is. refl, λ is. sym (ap kind_in at))
last (suc (suc (suc (suc k)))) e at = absurd cc

variable : IsIntegerScalar names 0
variable = record { known = omega arith; integer = refl; scalar = refl }

constant : IsOfKind names Integer one
constant = record { proper = record { least = omega (arith, ints); most = omega (arith, ints) }; of_kind = refl }

abbrev heading : Loop
heading = record { number = 0; variable = 0; body = 1; exit = 3 }

one_start : (k : ℕ) (other : Loop) → begun_at execs k ≡ Some other → other.number ≡ 0 → k ≡ 0
one_start zero other at is = refl
one_start (suc zero) other at is = absurd cc
one_start (suc (suc zero)) other at is = absurd cc
one_start (suc (suc (suc zero))) other at is = absurd cc
one_start (suc (suc (suc (suc k)))) other at is = absurd cc

one_next : (k : ℕ) (other : Loop) → incremented_at execs k ≡ Some other → other.number ≡ 0 → k ≡ 2
one_next zero other at is = absurd cc
one_next (suc zero) other at is = absurd cc
one_next (suc (suc zero)) other at is = refl
one_next (suc (suc (suc zero))) other at is = absurd cc
one_next (suc (suc (suc (suc k)))) other at is = absurd cc

abbrev number_in : Option Loop → ℕ
number_in None = 0
number_in (Some loop) = loop.number

starts : (k : ℕ) (loop : Loop) → begun_at execs k ≡ Some loop → loop.number < 1
starts zero loop at = let is : 0 ≡ loop.number = ap number_in at in omega (arith, is)
starts (suc zero) loop at = absurd cc
starts (suc (suc zero)) loop at = absurd cc
starts (suc (suc (suc zero))) loop at = absurd cc
starts (suc (suc (suc (suc k)))) loop at = absurd cc

nexts : (k : ℕ) (loop : Loop) → incremented_at execs k ≡ Some loop → loop.number < 1
nexts zero loop at = absurd cc
nexts (suc zero) loop at = absurd cc
nexts (suc (suc zero)) loop at = let is : 0 ≡ loop.number = ap number_in at in omega (arith, is)
nexts (suc (suc (suc zero))) loop at = absurd cc
nexts (suc (suc (suc (suc k)))) loop at = absurd cc

beyond : InRange execs 0 3 → ⊥
beyond r = let h : 3 ≤ 2 = r.up_to_next in omega (arith, h)

the_loop : IsLoop execs 0
the_loop = record {
  loop = heading;
  begins = refl;
  increments = refl;
  number = refl;
  later = omega arith;
  one_start = one_start;
  one_next = one_next;
  body = refl;
  exit = beyond;
}

from_start : (s : ℕ) → LeadsTo execs 0 s → InRange execs 0 s → (◌≡◌ {A = ℕ} 0 0) × (s ≡ 1)
from_start s (zero, below, at) r = (refl, sym at)
from_start s (suc zero, below, at) r = absurd (beyond (subst (λ k. InRange execs 0 k) (sym at) r))
from_start s (suc (suc j), below, at) r = absurd (omega (arith, below))

entered : IsEnteredAtStart execs 0
entered zero s outside leads r = from_start s leads r
entered (suc zero) s outside leads r = absurd (outside (record { after_start = omega arith; up_to_next = omega arith }))
entered (suc (suc zero)) s outside leads r = absurd (outside (record { after_start = omega arith; up_to_next = omega arith }))
entered (suc (suc (suc zero))) s outside leads r = absurd (none s leads)
entered (suc (suc (suc (suc k)))) s outside leads r = absurd (none s leads)

loops : AreLoops execs 1
loops = record {
  each = below_one (IsLoop execs) the_loop;
  starts = starts;
  nexts = nexts;
  rising = λ m n m_lt n_lt. absurd (omega (arith, m_lt, n_lt));
  entered = below_one (IsEnteredAtStart execs) entered;
  nested = λ m n m_lt n_lt. let same : m ≡ n = omega (arith, m_lt, n_lt) in inl (λ k r. subst (λ j. InRange execs j k) (sym same) r);
}

executables : AreExecs names execs 1
executables = record {
  end = record { some = omega arith; last = last };
  successors = each (λ e. All (λ s. s < 4) (successors e.kind)) execs
      (each (λ s. s < 4) (1 ∷ 3 ∷ []) (omega arith, (omega arith, tt)), (each (λ s. s < 4) (2 ∷ []) (omega arith, tt), (each (λ s. s < 4) (1 ∷ 3 ∷ []) (omega arith, (omega arith, tt)), (All-nil (λ s. s < 4), tt))));
  each = each (λ e. IsExecutable names e.kind) execs
      (record { variable = variable; integers = each (IsOfKind names Integer) (one ∷ one ∷ one ∷ []) (constant, (constant, (constant, tt))) }, (tt, (variable, (tt, tt))));
  loops_nest = loops;
  count = omega arith;
  target_count = omega arith;
}

-- ---- declarations

differ : NamesDiffer names
differ zero zero a b at_j at_k same = refl
differ zero (suc k) a b at_j at_k same = absurd cc
differ (suc j) k a b at_j at_k same = absurd cc

once : (k word : ℕ) → slice_get (0 ∷ []) k ≡ Some word → k ≡ 0
once zero word at = refl
once (suc k) word at = absurd cc

declarations : AreDeclarations names [] [] inits
declarations = record {
  table = each IsNameInfo names (record { symbolic = refl; dimensions = record { bounds = λ k d lt. absurd (omega (arith, lt)); dimensions = omega arith; elements = omega (arith, ints) } }, tt);
  differ = differ;
  common = λ k d lt. absurd (omega (arith, lt));
  common_once = λ j k x at_j at_k. absurd cc;
  equivalence = λ k d lt. absurd (omega (arith, lt));
  init = each (IsInitPart names) inits (
    record {
      some_items = omega arith;
      some_values = omega arith;
      members = each (IsMember names) (item ∷ []) (record { known = omega arith; element = inl refl }, tt);
      written = each IsInitValue (given ∷ []) (record { repeated = omega arith; constant = omega arith }, tt);
      kinds = refl;
    },
    tt,
  );
  given_once = λ j k word at_j at_k. omega (arith, once j word at_j, once k word at_k);
}

-- ---- places and initial words

places : ArePlaces names [] [] 1
places = record {
  equal = λ e at. absurd (none e at);
  blocks = λ a b x y in_a in_b linked. absurd (none x in_a);
  extended = λ x y first linked. absurd (let at = first.first in cc);
  within = below_one (λ x. end_of names x ≤ℤ pos 1) (omega (arith, ints));
  ordered = λ x y x_lt y_lt earlier. absurd (let same : x ≡ y = omega (arith, x_lt, y_lt) in omega (arith, earlier.before earlier.witness (subst (λ z. Linked [] earlier.witness z) same earlier.linked)));
  begins = below_one (λ y. IsLowest names [] y → (place_of names y ≡ 0) ⊎ BeginsAfter names [] y) (λ lowest. inl refl);
  ends = inr (record { name = 0; known = omega arith; meets = refl });
}

pub looping-well_formed : IsWellFormed looping
looping-well_formed = record {
  execs = executables;
  declarations = declarations;
  word_count = omega arith;
  initial_count = refl;
  places = places;
  initial = below_one (λ word. slice_get (pos 5 ∷ []) word ≡ Some (initial_word names inits word)) refl;
}
