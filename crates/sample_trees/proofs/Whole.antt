-- The whole program is well formed.
use Rattle.std.proofs.Common.{◌≡◌, ℕ, zero, suc, ◌<◌, ◌≤◌, ℤ, pos, List, [], ◌∷◌, Option, Some, None, inl, inr, refl, sym, ap, ◌∙◌, arith}
use Rattle.std.specs.Prelude.{All, slice_get, ◌==◌, Bool, true, false}
use Rattle.std.specs.List.{position_or_len}
use Rattle.std.proofs.lemmas.Int.{ints}
use Rattle.op_table.specs.declared.Op.TheVariants.{Add}
use Rattle.f77_tree.specs.declared.declarations.Kind.TheVariants.{Integer}
use Rattle.f77_tree.specs.declared.expressions.Expr.{Expr}
use Rattle.f77_tree.specs.declared.expressions.Expr.TheVariants.{Const, Read, Apply}
use Rattle.f77_tree.specs.declared.programs.Exec.{Exec}
use Rattle.f77_tree.specs.declared.programs.ExecKind.{ExecKind}
use Rattle.f77_tree.specs.declared.programs.ExecKind.TheVariants.{End}
use Rattle.f77_tree.specs.declared.programs.NameInfo.{NameInfo}
use Rattle.f77_tree.specs.Control.{successors}
use Rattle.f77_tree.specs.Declarations.{IsDim, IsNameInfo, NamesDiffer, IsMember, IsGroup, IsCommonName, IsCommonPart, index_of}
use Rattle.f77_tree.specs.InitialWords.{IsInitPart, IsInitValue, initial_word}
use Rattle.f77_tree.specs.Kinds.{IsConstant, IsProper, IsProperAccess, IsOfKind}
use Rattle.f77_tree.specs.Loops.{Loop, AreLoops, begun_at, incremented_at}
use Rattle.f77_tree.specs.WellFormed.{IsWellFormed, AreExecs, AreDeclarations, IsExecutable, IsProperItem}
use Rattle.f77_tree.proofs.AllLemmas.{All-nil}
use Rattle.f77_tree.proofs.KindLemmas.{element-IsProper, operation-IsProper}
use Rattle.sample_trees.specs.Whole.{names, decls, commons, member, group, groups, constant, inits, two, variable, element, element_j, text, items, execs, whole}
use Rattle.sample_trees.proofs.Lists.{each, below_four}
use Rattle.sample_trees.proofs.Storage.{the_places}

-- ---- expressions

j : IsProperAccess names (variable 1)
j = element-IsProper names (variable 1) (record { known = omega arith; as_many = refl; subscripts = All-nil (IsOfKind names Integer) })

number : (z : ℤ) → IsConstant z → IsOfKind names Integer (Const z)
number z is = record { proper = is; of_kind = refl }

-- an element of A whose subscript is an integer
at : (sub : Expr) → IsOfKind names Integer sub → IsProperAccess names (element sub)
at sub is = element-IsProper names (element sub) (record { known = omega arith; as_many = refl; subscripts = each (IsOfKind names Integer) (sub ∷ []) (is, tt) })

at_j : IsProperAccess names element_j
at_j = at (Read (variable 1)) (record { proper = j; of_kind = refl })

at_two : IsProperAccess names (element (Const (pos 2)))
at_two = at (Const (pos 2)) (number (pos 2) (record { least = omega (arith, ints); most = omega (arith, ints) }))

sum : IsProper names (Apply Add (Read element_j ∷ Const (pos 1) ∷ []))
sum = operation-IsProper names Add _ (record {
  written = refl;
  as_many = refl;
  operands = each (IsOfKind names Integer) (Read element_j ∷ Const (pos 1) ∷ []) (record { proper = at_j; of_kind = refl }, (number (pos 1) (record { least = omega (arith, ints); most = omega (arith, ints) }), tt));
})

-- ---- executables

abbrev is_end : ExecKind → Bool
is_end End = true
is_end _ = false

abbrev is_end_in : Option Exec → Bool
is_end_in None = false
is_end_in (Some e) = is_end e.kind

abbrev kind_in : Option Exec → ExecKind
kind_in None = End
kind_in (Some e) = e.kind

no_end : (e : Exec) → false ≡ is_end e.kind → e.kind ≡ End → ⊥
no_end e is_not is =
    let ends : is_end e.kind ≡ true = ap is_end is in
    absurd cc

last : (k : ℕ) (e : Exec) → slice_get execs k ≡ Some e → (e.kind ≡ End → suc k ≡ 4) × (suc k ≡ 4 → e.kind ≡ End)
last zero e at = (λ is. absurd (no_end e (ap is_end_in at) is), λ is. absurd (omega (arith, is)))
last (suc zero) e at = (λ is. absurd (no_end e (ap is_end_in at) is), λ is. absurd (omega (arith, is)))
last (suc (suc zero)) e at = (λ is. absurd (no_end e (ap is_end_in at) is), λ is. absurd (omega (arith, is)))
last (suc (suc (suc zero))) e at = (λ is. refl, λ is. sym (ap kind_in at))
last (suc (suc (suc (suc k)))) e at = absurd cc

no_start : (k : ℕ) (loop : Loop) → begun_at execs k ≡ Some loop → ⊥
no_start zero loop at = cc
no_start (suc zero) loop at = cc
no_start (suc (suc zero)) loop at = cc
no_start (suc (suc (suc zero))) loop at = cc
no_start (suc (suc (suc (suc k)))) loop at = cc

no_next : (k : ℕ) (loop : Loop) → incremented_at execs k ≡ Some loop → ⊥
no_next zero loop at = cc
no_next (suc zero) loop at = cc
no_next (suc (suc zero)) loop at = cc
no_next (suc (suc (suc zero))) loop at = cc
no_next (suc (suc (suc (suc k)))) loop at = cc

loops : AreLoops execs 0
loops = record {
  each = λ n lt. absurd (omega (arith, lt));
  starts = λ k loop at. absurd (no_start k loop at);
  nexts = λ k loop at. absurd (no_next k loop at);
  rising = λ m n m_lt n_lt. absurd (omega (arith, n_lt));
  entered = λ n lt. absurd (omega (arith, lt));
  nested = λ m n m_lt n_lt. absurd (omega (arith, n_lt));
}

one : (s : ℕ) → s < 4 → All (λ k. k < 4) (s ∷ [])
one s lt = each (λ k. k < 4) (s ∷ []) (lt, tt)

executables : AreExecs names execs 0
executables = record {
  end = record { some = omega arith; last = last };
  successors = each (λ e. All (λ s. s < 4) (successors e.kind)) execs (one 1 (omega arith), (one 2 (omega arith), (one 3 (omega arith), (All-nil (λ s. s < 4), tt))));
  each = each (λ e. IsExecutable names e.kind) execs (
    record { access = j; of_kind = inr refl },
    (
      record { access = at_j; of_kind = inl (record { proper = sum; of_kind = refl }) },
      (
        each (IsProperItem names) items (at_two, (record { some = omega arith; printable = each (λ c. (32 ≤ c) × (c ≤ 126)) text ((omega arith, omega arith), ((omega arith, omega arith), tt)) }, tt)),
        (tt, tt),
      ),
    ),
  );
  loops_nest = loops;
  count = omega arith;
  target_count = omega arith;
}

-- ---- declarations

abbrev name_in : Option NameInfo → List ℕ
name_in None = []
name_in (Some info) = info.name

found : (k : ℕ) (info : NameInfo) → slice_get names k ≡ Some info → index_of names info.name ≡ k
found zero info at = ap (λ o. index_of names (name_in o)) (sym at)
found (suc zero) info at = ap (λ o. index_of names (name_in o)) (sym at)
found (suc (suc zero)) info at = ap (λ o. index_of names (name_in o)) (sym at)
found (suc (suc (suc zero))) info at = ap (λ o. index_of names (name_in o)) (sym at)
found (suc (suc (suc (suc k)))) info at = absurd cc

differ : NamesDiffer names
differ j k a b at_j at_k same = sym (found j a at_j) ∙ ap (index_of names) same ∙ found k b at_k

abbrev number_in : Option ℕ → ℕ
number_in None = 0
number_in (Some n) = n

-- where a number stands among 1 and 2, and among 0, 2 and 3
common_found : (k x : ℕ) → slice_get (1 ∷ 2 ∷ []) k ≡ Some x → position_or_len (λ y. y == x) (1 ∷ 2 ∷ []) ≡ k
common_found zero x at = ap (λ o. position_or_len (λ y. y == number_in o) (1 ∷ 2 ∷ [])) (sym at)
common_found (suc zero) x at = ap (λ o. position_or_len (λ y. y == number_in o) (1 ∷ 2 ∷ [])) (sym at)
common_found (suc (suc k)) x at = absurd cc

given_found : (k x : ℕ) → slice_get (0 ∷ 2 ∷ 3 ∷ []) k ≡ Some x → position_or_len (λ y. y == x) (0 ∷ 2 ∷ 3 ∷ []) ≡ k
given_found zero x at = ap (λ o. position_or_len (λ y. y == number_in o) (0 ∷ 2 ∷ 3 ∷ [])) (sym at)
given_found (suc zero) x at = ap (λ o. position_or_len (λ y. y == number_in o) (0 ∷ 2 ∷ 3 ∷ [])) (sym at)
given_found (suc (suc zero)) x at = ap (λ o. position_or_len (λ y. y == number_in o) (0 ∷ 2 ∷ 3 ∷ [])) (sym at)
given_found (suc (suc (suc k))) x at = absurd cc

declarations : AreDeclarations names commons groups inits
declarations = record {
  table = each IsNameInfo names (
    record { symbolic = refl; dimensions = record { bounds = λ k d lt. absurd (omega (arith, lt)); dimensions = omega arith; elements = omega (arith, ints) } },
    (
      record { symbolic = refl; dimensions = record { bounds = λ k d lt. absurd (omega (arith, lt)); dimensions = omega arith; elements = omega (arith, ints) } },
      (
        record { symbolic = refl; dimensions = record { bounds = each IsDim (two ∷ []) (record { lower = omega arith; upper = omega arith; order = omega (arith, ints) }, tt); dimensions = omega arith; elements = omega (arith, ints) } },
        (record { symbolic = refl; dimensions = record { bounds = λ k d lt. absurd (omega (arith, lt)); dimensions = omega arith; elements = omega (arith, ints) } }, tt),
      ),
    ),
  );
  differ = differ;
  common = each (IsCommonPart names) commons (
    record {
      block_name = refl;
      some = omega arith;
      names_known = each (IsCommonName names) decls (record { known = omega arith; dimensions = inl refl }, (record { known = omega arith; dimensions = inr refl }, tt));
    },
    tt,
  );
  common_once = λ j k x at_j at_k. sym (common_found j x at_j) ∙ common_found k x at_k;
  equivalence = each (IsGroup names) groups (
    record {
      two = omega arith;
      members = each (IsMember names) group (record { known = omega arith; element = inl refl }, (record { known = omega arith; element = inr (omega (arith, ints), omega (arith, ints), tt) }, tt));
    },
    tt,
  );
  init = each (IsInitPart names) inits (
    record {
      some_items = omega arith;
      some_values = omega arith;
      members = each (IsMember names) (member 73 [] ∷ []) (record { known = omega arith; element = inl refl }, tt);
      written = each IsInitValue (constant 1 3 ∷ []) (record { repeated = omega arith; constant = omega arith }, tt);
      kinds = refl;
    },
    (
      record {
        some_items = omega arith;
        some_values = omega arith;
        members = each (IsMember names) (member 65 [] ∷ []) (record { known = omega arith; element = inl refl }, tt);
        written = each IsInitValue (constant 2 7 ∷ []) (record { repeated = omega arith; constant = omega arith }, tt);
        kinds = refl;
      },
      tt,
    ),
  );
  given_once = λ j k word at_j at_k. sym (given_found j word at_j) ∙ given_found k word at_k;
}

-- ---- the program

pub whole-well_formed : IsWellFormed whole
whole-well_formed = record {
  execs = executables;
  declarations = declarations;
  word_count = omega arith;
  initial_count = refl;
  places = the_places;
  initial = below_four (λ word. slice_get (pos 3 ∷ pos 0 ∷ pos 7 ∷ pos 7 ∷ []) word ≡ Some (initial_word names inits word)) refl refl refl refl;
}
