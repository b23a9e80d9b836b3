-- What is wrong with each faulty tree.
use Rattle.std.proofs.Common.{◌≡◌, ℕ, ◌<◌, pos, [], ◌∷◌, Option, Some, None, refl, sym, ap, arith}
use Rattle.std.specs.Prelude.{◌≤ℤ◌, ◌+ℤ◌, Bool, true, false}
use Rattle.std.proofs.lemmas.Int.{ints}
use Rattle.op_table.specs.declared.Op.TheVariants.{Add}
use Rattle.f77_tree.specs.declared.declarations.Kind.{Kind}
use Rattle.f77_tree.specs.declared.declarations.Kind.TheVariants.{Integer, Logical}
use Rattle.f77_tree.specs.declared.expressions.Expr.TheVariants.{Truth}
use Rattle.f77_tree.specs.declared.programs.ExecKind.TheVariants.{End}
use Rattle.f77_tree.specs.Control.{EndsWithEnd}
use Rattle.f77_tree.specs.InitialWords.{GivenOnce}
use Rattle.f77_tree.specs.Kinds.{IsProper}
use Rattle.f77_tree.specs.Loops.{Loop, AreLoops, IsLoop, IsEnteredAtStart}
use Rattle.f77_tree.specs.Places.{ArePlaces, Linked, itself, along, against}
use Rattle.f77_tree.specs.WellFormed.{IsProperItem, IsExecutable}
use Rattle.f77_tree.proofs.KindLemmas.{IsProper-operation}
use Rattle.sample_trees.specs.Faults.{names, exec, one, too_great, truth_added, printed_data, nowhere, two_ends, falling, two_variables, jumping, sharing, gift}

pub constant_too_great : IsProper names too_great → ⊥
constant_too_great is = let most = is.most in omega (arith, ints, most)

abbrev is_logical : Kind → Bool
is_logical Integer = false
is_logical Logical = true

different_kinds : Integer ≡ Logical → ⊥
different_kinds is = let h : false ≡ true = ap is_logical is in absurd cc

pub truth_as_operand : IsProper names truth_added → ⊥
truth_as_operand is = different_kinds (sym ((IsProper-operation names Add (Truth true ∷ one ∷ []) is).operands 0 one (omega arith)).of_kind)

pub data_in_print : IsProperItem names printed_data → ⊥
data_in_print is = is

pub pick_without_target : IsExecutable names nowhere → ⊥
pick_without_target is = let h : 0 < 0 = is.1 in omega (arith, h)

pub end_before_last : EndsWithEnd two_ends → ⊥
end_before_last is = let h : 1 ≡ 2 = (is.last 0 (exec End) refl).0 refl in omega (arith, h)

-- the DO 1 begins at the executable 0, and the DO 0 at the executable 2
pub numbers_fall : AreLoops falling 2 → ⊥
numbers_fall is = let h : 2 < 0 = is.rising 0 1 (omega arith) (omega arith) in omega (arith, h)

abbrev variable_in : Option Loop → ℕ
variable_in None = 0
variable_in (Some loop) = loop.variable

pub other_variable : IsLoop two_variables 0 → ⊥
other_variable is =
    let h : 0 ≡ is.loop.variable = ap variable_in is.begins in
    let b : 1 ≡ is.loop.variable = ap variable_in is.increments in
    omega (arith, h, b)

pub jump_into_range : IsEnteredAtStart jumping 0 → ⊥
jump_into_range is =
    let h : 0 ≡ 1 = (is 0 2 (λ r. let low : 1 < 0 = r.after_start in omega (arith, low)) (0, omega arith, refl) (record { after_start = omega arith; up_to_next = omega arith })).0 in
    omega (arith, h)

-- without equations a name is linked to itself alone
alone : (x y : ℕ) → Linked [] x y → x ≡ y
alone x y itself = refl
alone x y (along e at more) = absurd (omega (arith, at.1))
alone x y (against e at more) = absurd (omega (arith, at.1))

pub shared_word : (words : ℕ) → ArePlaces sharing [] [] words → ⊥
shared_word words is =
    let h : (pos 0 +ℤ pos 1) ≤ℤ pos 0 = is.ordered 0 1 (omega arith) (omega arith) (record { witness = 0; linked = itself; before = λ z linked. omega (arith, alone z 1 linked) }) in
    omega (arith, ints, h)

pub given_twice : GivenOnce names (gift ∷ gift ∷ []) → ⊥
given_twice is = let h : 0 ≡ 1 = is 0 1 0 refl refl in omega (arith, h)
