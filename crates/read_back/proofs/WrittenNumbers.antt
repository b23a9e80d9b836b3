-- Numbers of declarations as they are written: digits whose number is no more than the greatest constant.
use Rattle.std.proofs.Common.{◌≡◌, ℕ, ◌^◌, ◌<◌, ◌≤◌, ℤ, pos, nat_abs, ◌≤ℤ◌, Bool, true, false, List, [], ◌∷◌, ◌++◌, ◌||◌, nat_lt, map, refl, ap, ◌∙◌, arith, Some, None}
use Rattle.std.specs.Prelude.{flat_map, decimal, All, if◌then◌else◌}
use Rattle.std.specs.Ordering.{int_eq}
use Rattle.std.specs.List.{list_all}
use Rattle.std.proofs.lemmas.Bool.{and_from, le-ltb}
use Rattle.std.proofs.lemmas.Int.{ints}
use Rattle.f77_tree.specs.declared.declarations.Dim.{Dim}
use Rattle.f77_tree.specs.Declarations.{CanBeWritten, IsDim, AreWithin}
use Rattle.f77_tree.specs.Grammar.{number_of, greatest_constant}
use Rattle.f77_tree.specs.StatementGrammar.{SignedDigits, is_signed, is_great, are_great, dim_numbers, numbers_of}
use Rattle.f77_tree.proofs.AllLemmas.{All-nil, All-cons, All-first, All-rest}
use Rattle.f77_expr.proofs.PrintedNumbers.{is_number-decimal, number_of-decimal}
use Rattle.flat_programs.specs.Declarations.{signed, written_dim}

-- numbers of the grammar that are no greater than the greatest constant
abbrev pub AreFine : List SignedDigits → Type 0
AreFine [] = Unit {0}
AreFine (n ∷ ns) = (is_signed n ≡ true) × (is_great n.digits ≡ false) × AreFine ns

pub fine-append : (ms ns : List SignedDigits) → AreFine ms → AreFine ns → AreFine (ms ++ ns)
fine-append [] ns a b = b
fine-append (m ∷ ms) ns a b = (a.0, a.1, fine-append ms ns a.2 b)

pub fine_signed : (ns : List SignedDigits) → AreFine ns → list_all is_signed ns ≡ true
fine_signed [] h = refl
fine_signed (n ∷ ns) h = and_from (is_signed n) (list_all is_signed ns) h.0 (fine_signed ns h.2)

none_of : (a b : Bool) → a ≡ false → b ≡ false → (a || b) ≡ false
none_of true b h k = absurd cc
none_of false b h k = k

pub fine_small : (ns : List SignedDigits) → AreFine ns → are_great ns ≡ false
fine_small [] h = refl
fine_small (n ∷ ns) h = none_of (is_great n.digits) (are_great ns) h.1 (fine_small ns h.2)

-- ---- signed numbers

decimal_fine : (most n : ℕ) → n ≤ most → n < 2 ^ 64 → nat_lt most (number_of (decimal n)) ≡ false
decimal_fine most n le fits = ap (nat_lt most) (number_of-decimal n fits) ∙ le-ltb most n le

fits : (most n : ℕ) → n ≤ most → most < 2 ^ 64 → n < 2 ^ 64
fits most n le small = omega (arith, le, small)

pub small_fits : (n : ℕ) → n ≤ greatest_constant → n < 2 ^ 64
small_fits n le = fits greatest_constant n le (omega arith)

pub digits_fine : (n : ℕ) → n ≤ greatest_constant → is_great (decimal n) ≡ false
digits_fine n le = decimal_fine greatest_constant n le (small_fits n le)

pub signed_signed : (z : ℤ) → CanBeWritten z → is_signed (signed z) ≡ true
signed_signed z h = is_number-decimal (nat_abs z) (small_fits (nat_abs z) h)

pub signed_small : (z : ℤ) → CanBeWritten z → is_great (signed z).digits ≡ false
signed_small z h = digits_fine (nat_abs z) h

pub signed_fine : (zs : List ℤ) → All CanBeWritten zs → AreFine (map signed zs)
signed_fine [] h = tt
signed_fine (z ∷ zs) h =
    grind (arith, All-first CanBeWritten z zs h, signed_signed z, signed_small z, signed_fine zs (All-rest CanBeWritten z zs h), All-rest CanBeWritten z zs h)

-- ---- bounds

low_fine : (z : ℤ) (one : Bool) → CanBeWritten z → AreFine (numbers_of (if one then None else Some (signed z)))
low_fine z true h = tt
low_fine z false h = (signed_signed z h, signed_small z h, tt)

pub dims_fine : (dims : List Dim) → All IsDim dims → AreFine (flat_map dim_numbers (map written_dim dims))
dims_fine [] h = tt
dims_fine (d ∷ dims) h =
    grind (arith, All-first IsDim d dims h, fine-append, low_fine d.lo (int_eq d.lo (pos 1)), pos 1, signed_signed d.hi, signed_small d.hi, dims_fine dims (All-rest IsDim d dims h), All-rest IsDim d dims h)

-- ---- subscripts

between : (lo z hi : ℤ) (most : ℕ) → nat_abs lo ≤ most → nat_abs hi ≤ most → lo ≤ℤ z → z ≤ℤ hi → nat_abs z ≤ most
between lo h hi most a b below above = grind (arith, ints)

pub within_written : (dims : List Dim) (subs : List ℤ) → All IsDim dims → AreWithin dims subs → All CanBeWritten subs
within_written [] [] are within = All-nil CanBeWritten
within_written (dim ∷ dims) (sub ∷ subs) are within =
    grind (arith, All-first IsDim dim dims are, between dim.lo sub dim.hi greatest_constant, All-cons CanBeWritten sub subs, within_written dims subs (All-rest IsDim dim dims are) within.2, All-rest IsDim dim dims are)
within_written [] (sub ∷ subs) are within = absurd within
within_written (dim ∷ dims) [] are within = absurd within
