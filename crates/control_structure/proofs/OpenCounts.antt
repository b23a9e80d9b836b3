-- The counts of the open loops by their labels.
use Rattle.std.proofs.Common.{◌≡◌, ℕ, ◌+◌, ◌-◌, ◌<◌, ◌≤◌, Bool, true, false, ◌||◌, nat_lt, if◌then◌else◌, ◌==◌, List, [], ◌∷◌, ◌++◌, reverse, length, refl, sym, ap, inl, inr, subst, ◌∙◌, arith, get_or, set}
use Rattle.std.specs.List.{list_any}
use Rattle.std.proofs.lemmas.List.{get_or-set_same, get_or-set_other, get_or_past, get_or_read, reverse-append}
use Rattle.std.proofs.lemmas.Bool.{cases_eq}
use Rattle.control_structure.specs.declared.open_stack.Entry.{Entry}
use Rattle.layout_rules.specs.declared.nesting.Opened.TheVariants.{Loop, Block}
use Rattle.control_structure.specs.OpenStack.{ends_at, loops_at, AreCounted}
use Rattle.layout_rules.specs.Nesting.{is_loop_to}

-- 1 for a loop that ends at the label
abbrev one_if : Bool → ℕ
one_if b = if b then 1 else 0

one_if-le : (b : Bool) → one_if b ≤ 1
one_if-le true = omega arith
one_if-le false = omega arith

pub loops_at-le : (label : ℕ) (stack : List Entry) → loops_at label stack ≤ length stack
loops_at-le label [] = omega arith
loops_at-le label (e ∷ rest) = omega (arith, loops_at-le label rest, one_if-le (ends_at label e))

any-more : (b c : Bool) (n : ℕ) → nat_lt 0 n ≡ c → nat_lt 0 (one_if b + n) ≡ (b || c)
any-more true c n h = grind arith
any-more false c n h = grind arith

pub loops_at-any : (label : ℕ) (stack : List Entry) → nat_lt 0 (loops_at label stack) ≡ list_any (ends_at label) stack
loops_at-any label [] = refl
loops_at-any label (e ∷ rest) = any-more (ends_at label e) (list_any (ends_at label) rest) (loops_at label rest) (loops_at-any label rest)

pub AreCounted-none : AreCounted [] []
AreCounted-none label = refl

-- a table that is read alike counts alike
pub AreCounted-alike : (stack : List Entry) (loops new : List ℕ) → ((label : ℕ) → get_or new label 0 ≡ get_or loops label 0) → AreCounted stack loops → AreCounted stack new
AreCounted-alike stack loops new alike are label = alike label ∙ are label

-- ---- an entry more, and an entry less

at_loop : (e : Entry) (terminal : ℕ) → e.opened ≡ Loop terminal → (label : ℕ) → ends_at label e ≡ (terminal == label)
at_loop e terminal h label = ap (is_loop_to label) h

at_block : (e : Entry) (is_last : Bool) → e.opened ≡ Block is_last → (label : ℕ) → ends_at label e ≡ false
at_block e is_last h label = ap (is_loop_to label) h

same_one : (terminal : ℕ) → one_if (terminal == terminal) ≡ 1
same_one terminal = grind arith

other_none : (terminal label : ℕ) → (label ≡ terminal → ⊥) → one_if (terminal == label) ≡ 0
other_none terminal label h = grind arith

-- the loop on top is counted
pub top_within : (e : Entry) (stack : List Entry) (loops : List ℕ) (terminal : ℕ) → e.opened ≡ Loop terminal → AreCounted (e ∷ stack) loops → terminal < length loops
top_within e stack loops terminal h are =
    let past : length loops ≤ terminal → ⊥ = λ le. omega (arith, get_or_past loops terminal 0 le, are terminal, ap one_if (at_loop e terminal h terminal) ∙ same_one terminal) in
    omega (arith, past)

pub counted_top : (e : Entry) (stack : List Entry) (loops : List ℕ) (terminal v : ℕ) → v ≡ get_or loops terminal v → e.opened ≡ Loop terminal → AreCounted (e ∷ stack) loops → 1 ≤ v
counted_top e stack loops terminal v read h are =
    omega (arith, get_or_read loops terminal v (top_within e stack loops terminal h are) read 0, are terminal, ap one_if (at_loop e terminal h terminal) ∙ same_one terminal)

pub AreCounted-unloop : (e : Entry) (stack : List Entry) (loops : List ℕ) (terminal v : ℕ) → v ≡ get_or loops terminal v → e.opened ≡ Loop terminal → AreCounted (e ∷ stack) loops → AreCounted stack (set loops terminal (v - 1))
AreCounted-unloop e stack loops terminal v read h are label =
    let in_table : terminal < length loops = top_within e stack loops terminal h are in
    elim (cases_eq label terminal) as (λ _. get_or (set loops terminal (v - 1)) label 0 ≡ loops_at label stack) [
      | inl same ↦ subst (λ l. get_or (set loops terminal (v - 1)) l 0 ≡ loops_at l stack) (sym same) (get_or-set_same loops terminal (v - 1) 0 in_table
          ∙ (omega (arith, get_or_read loops terminal v in_table read 0, are terminal, ap one_if (at_loop e terminal h terminal) ∙ same_one terminal)))
      | inr other ↦ get_or-set_other loops terminal label (v - 1) 0 other
          ∙ (omega (arith, are label, ap one_if (at_loop e terminal h label) ∙ other_none terminal label other))
    ]

pub AreCounted-unblock : (e : Entry) (stack : List Entry) (loops : List ℕ) (is_last : Bool) → e.opened ≡ Block is_last → AreCounted (e ∷ stack) loops → AreCounted stack loops
AreCounted-unblock e stack loops is_last h are label = omega (arith, are label, ap one_if (at_block e is_last h label))

-- a count is no larger than the stack
pub count-le : (stack : List Entry) (loops : List ℕ) (terminal v : ℕ) → terminal < length loops → v ≡ get_or loops terminal v → AreCounted stack loops → v ≤ length stack
count-le stack loops terminal v in_table read are = omega (arith, get_or_read loops terminal v in_table read 0, are terminal, loops_at-le terminal stack)

pub count-any : (stack : List Entry) (loops : List ℕ) (terminal v : ℕ) → v ≡ get_or loops terminal 0 → AreCounted stack loops → nat_lt 0 v ≡ list_any (ends_at terminal) stack
count-any stack loops terminal v read are = ap (nat_lt 0) (read ∙ are terminal) ∙ loops_at-any terminal stack

pub AreCounted-popped : (entries rest : List Entry) (e : Entry) (loops : List ℕ) → entries ≡ rest ++ e ∷ [] → AreCounted (reverse entries) loops → AreCounted (e ∷ reverse rest) loops
AreCounted-popped entries rest e loops h are = subst (λ (stack : List Entry). AreCounted stack loops) (ap reverse h ∙ reverse-append rest (e ∷ [])) are
