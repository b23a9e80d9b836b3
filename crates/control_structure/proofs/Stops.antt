-- Where an arm stops that stands under so many blocks, place by place.
use Rattle.std.proofs.Common.{◌≡◌, ℕ, zero, suc, ◌+◌, ◌-◌, ◌≤◌, length, Bool, true, false, ◌&&◌, ◌||◌, if◌then◌else◌, ◌==◌, List, [], ◌∷◌, drop, slice_get, Some, None, refl, sym, ap, ◌∙◌, arith}
use Rattle.std.proofs.lemmas.Bool.{ne_eqb}
use Rattle.std.proofs.lemmas.List.{length-drop}
use Rattle.f77_tree.specs.declared.statements.Labelled.{Labelled}
use Rattle.layout_rules.specs.declared.nesting.Role.{Role}
use Rattle.layout_rules.specs.declared.nesting.Role.TheVariants.{BeginBlock, NextArm, LastArm, EndBlock}
use Rattle.layout_rules.specs.Roles.{role_of, begins_block, ends_block, turns_arm}
use Rattle.control_structure.specs.BlockEnds.{end_by}
use Rattle.layout_rules.specs.Jumps.{is_block_if, is_end_if, end_after}
use Rattle.layout_rules.specs.Labels.{is_arm}
use Rattle.layout_rules.proofs.RoleTests.{is_block_if-role, is_end_if-role, is_arm-role}

suc_more : (i : ℕ) → suc i + 1 ≡ suc (i + 1)
suc_more i = omega arith

pub drop_here : {X : Type 0} → (xs : List X) (i : ℕ) (x : X) → slice_get xs i ≡ Some x → drop i xs ≡ x ∷ drop (i + 1) xs
drop_here [] i x h = let e : None ≡ Some x = h in absurd cc
drop_here (y ∷ ys) zero x h = let e : y ≡ x = cc in ap (λ z. z ∷ ys) e
drop_here (y ∷ ys) (suc i) x h = drop_here ys i x h ∙ ap (λ n. x ∷ drop n (y ∷ ys)) (sym (suc_more i))

-- what ends under `inner` blocks at this place or after it
abbrev pub end_at : Bool → List Labelled → (place inner : ℕ) → ℕ
end_at arms stmts place inner = end_after arms inner (drop place stmts) place

pub end_at-step : (arms : Bool) (stmts : List Labelled) (i : ℕ) (s : Labelled) → slice_get stmts i ≡ Some s → (k : ℕ) → end_at arms stmts i k ≡ end_by arms (role_of s.stmt) i (end_at arms stmts (i + 1)) k
end_at-step arms stmts i s h k =
    let next = end_at arms stmts (i + 1) in
    ap (λ (xs : List Labelled). end_after arms k xs i) (drop_here stmts i s h)
    ∙ ap (λ (b : Bool). if b then next (k + 1) else if (k == 0) && (is_end_if s.stmt || (arms && is_arm s.stmt)) then i else if is_end_if s.stmt then next (k - 1) else next k) (is_block_if-role s.stmt)
    ∙ ap (λ (b : Bool). if begins_block (role_of s.stmt) then next (k + 1) else if (k == 0) && (b || (arms && is_arm s.stmt)) then i else if b then next (k - 1) else next k) (is_end_if-role s.stmt)
    ∙ ap (λ (b : Bool). if begins_block (role_of s.stmt) then next (k + 1) else if (k == 0) && (ends_block (role_of s.stmt) || (arms && b)) then i else if ends_block (role_of s.stmt) then next (k - 1) else next k) (is_arm-role s.stmt)

-- where the arm stops that stands under `inner` blocks at this place
abbrev pub stop_at : List Labelled → (place inner : ℕ) → ℕ
stop_at stmts place inner = end_at true stmts place inner

-- the same by the role of the statement, and by what holds at the next place
abbrev pub stop_by : Role → (place : ℕ) → (next : ℕ → ℕ) → ℕ → ℕ
stop_by role place next inner = end_by true role place next inner

pub stop_at-step : (stmts : List Labelled) (i : ℕ) (s : Labelled) → slice_get stmts i ≡ Some s → (k : ℕ) → stop_at stmts i k ≡ stop_by (role_of s.stmt) i (stop_at stmts (i + 1)) k
stop_at-step stmts i s h k = end_at-step true stmts i s h k

-- ---- by role

not_first : (k : ℕ) → ((k + 1) == 0) ≡ false
not_first k = ne_eqb (k + 1) 0 (λ h. absurd (omega (arith, h)))

pick : (b : Bool) (x y : ℕ) → (if b && false then x else y) ≡ y
pick true x y = refl
pick false x y = refl

-- a statement that no block begins or ends with
abbrev pub is_quiet : Role → Bool
is_quiet BeginBlock = false
is_quiet NextArm = false
is_quiet LastArm = false
is_quiet EndBlock = false
is_quiet _ = true

pub stop_by-quiet : (role : Role) (i : ℕ) (next : ℕ → ℕ) (k : ℕ) → is_quiet role ≡ true → stop_by role i next k ≡ next k
stop_by-quiet BeginBlock i next k h = let e : false ≡ true = h in absurd cc
stop_by-quiet NextArm i next k h = let e : false ≡ true = h in absurd cc
stop_by-quiet LastArm i next k h = let e : false ≡ true = h in absurd cc
stop_by-quiet EndBlock i next k h = let e : false ≡ true = h in absurd cc
stop_by-quiet _ i next k h = pick (k == 0) i (next k)

pub stop_by-arm : (role : Role) (i : ℕ) (next : ℕ → ℕ) (k : ℕ) → turns_arm role ≡ true → stop_by role i next (k + 1) ≡ next (k + 1)
stop_by-arm NextArm i next k h = ap (λ b. if b && true then i else next (k + 1)) (not_first k)
stop_by-arm LastArm i next k h = ap (λ b. if b && true then i else next (k + 1)) (not_first k)
stop_by-arm BeginBlock i next k h = let e : false ≡ true = h in absurd cc
stop_by-arm EndBlock i next k h = let e : false ≡ true = h in absurd cc
stop_by-arm _ i next k h = let e : false ≡ true = h in absurd cc

pub stop_by-end : (i : ℕ) (next : ℕ → ℕ) (k : ℕ) → stop_by EndBlock i next (k + 1) ≡ next k
stop_by-end i next k = ap (λ b. if b && true then i else next (k + 1 - 1)) (not_first k) ∙ ap next (omega arith)

-- ---- an end is no farther than the end of the statements

choice : (b : Bool) (x y n : ℕ) → x ≤ n → y ≤ n → (if b then x else y) ≤ n
choice true x y n a b = a
choice false x y n a b = b

pub end_after-le : (arms : Bool) (inner : ℕ) (stmts : List Labelled) (place : ℕ) → end_after arms inner stmts place ≤ place + length stmts
end_after-le arms inner [] place = omega arith
end_after-le arms inner (s ∷ rest) place =
    let deeper = end_after-le arms (inner + 1) rest (place + 1) in
    let higher = end_after-le arms (inner - 1) rest (place + 1) in
    let level = end_after-le arms inner rest (place + 1) in
    choice (is_block_if s.stmt) _ _ (place + suc (length rest)) (omega (arith, deeper)) (choice ((inner == 0) && (is_end_if s.stmt || (arms && is_arm s.stmt))) _ _ (place + suc (length rest)) (omega arith) (choice (is_end_if s.stmt) _ _ (place + suc (length rest)) (omega (arith, higher)) (omega (arith, level))))

pub end_at-le : (arms : Bool) (stmts : List Labelled) (place inner : ℕ) → place ≤ length stmts → end_at arms stmts place inner ≤ length stmts
end_at-le arms stmts place inner le = let h = end_after-le arms inner (drop place stmts) place in omega (arith, h, le, length-drop {A = Labelled} place stmts)
