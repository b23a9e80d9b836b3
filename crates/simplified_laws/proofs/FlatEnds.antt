-- The simplified form has END as its last statement and no other.
use Rattle.std.proofs.Common.{◌≡◌, ℕ, suc, ◌+◌, ◌-◌, ◌<◌, ◌↔◌, Bool, List, [], ◌∷◌, ◌++◌, length, map, Some, sym, ap, ◌∙◌, ⊎_elim, arith}
use Rattle.std.specs.Prelude.{slice_get}
use Rattle.f77_tree.specs.declared.programs.ExecKind.TheVariants.{End}
use Rattle.f77_tree.specs.declared.programs.Program.{Program}
use Rattle.f77_tree.specs.Control.{EndsWithEnd}
use Rattle.alias_classes.specs.Classes.{ClassTable}
use Rattle.cfg_build.specs.Parts.{line_in}
use Rattle.cfg_build.specs.Passes.{kind_in}
use Rattle.const_prop.specs.Table.{Knowns}
use Rattle.flat_programs.specs.declared.statements.Flat.{Flat}
use Rattle.flat_programs.specs.declared.statements.Flat.TheVariants.{Mark, Jump, Finish}
use Rattle.flat_programs.specs.declared.statements.FlatLine.{FlatLine}
use Rattle.simplified_forms.specs.Items.{kind_at}
use Rattle.simplified_forms.specs.Simplified.{decided, last_jump, left_of, mark_of, rest, words_at}
use Rattle.simplified_laws.proofs.FlatItems.{AreClosedItems, IsItsJump, IsItsMark, IsItsOwn, all, begins, jumps_of, left_over, mark_by, marked, number, origin, own_of, part, part-at, part-size, stmts, stmts-size, which, with_line}
use Rattle.simplified_laws.proofs.ListParts.{get-at, get-middle, size-more, stands-at}
use Rattle.simplified_laws.proofs.OwnStatements.{own-is}

module _ (p : Program) (c : ClassTable) (t : Knowns) (checked : Bool) (is_item : ℕ → Bool) (closed : AreClosedItems p t is_item) (ends : EndsWithEnd p.execs) where
  -- the last executable is END, and no other
  end-kind : (k : ℕ) → suc k ≡ length p.execs → kind_at p k ≡ End
  end-kind k last =
      let at = get-at p.execs k (omega (arith, last)) in
      ap kind_in at.1 ∙ (ends.last k at.0 at.1).1 last

  kind-end : (k : ℕ) → k < length p.execs → kind_at p k ≡ End → suc k ≡ length p.execs
  kind-end k below is =
      let at = get-at p.execs k below in
      (ends.last k at.0 at.1).0 (sym (ap kind_in at.1) ∙ is)

  -- ---- its statement

  module _ (k : ℕ) (last : suc k ≡ length p.execs) where
    abbrev first : List Flat
    first = mark_by p c t checked is_item (marked p c t checked is_item k)

    own-end : own_of p c t checked is_item k ≡ Finish ∷ []
    own-end = ap (λ kind. left_of p checked (words_at p c t checked is_item k) (mark_of p t is_item) kind (decided p t k)) (end-kind k last)

    left-end : left_over p c t checked is_item k ≡ []
    left-end = ap (λ kind. last_jump is_item k (rest kind (decided p t k))) (end-kind k last)

    end-size : length (part p c t checked is_item k) ≡ length first + 1
    end-size =
        let size = part-size p c t checked is_item k (closed.last k last) in
        let sum = stmts-size p c t checked is_item k in
        let own : length (own_of p c t checked is_item k) ≡ 1 = ap length own-end in
        let none : length (jumps_of p c t checked is_item k) ≡ 0 = ap (λ (xs : List ℕ). length (map (λ s. Jump (number p c t checked is_item s)) xs)) left-end in
        omega (arith, size, sum, own, none)

    abbrev end_place : ℕ
    end_place = begins p c t checked is_item k + length first

    end-last : suc end_place ≡ length (all p c t checked is_item)
    end-last =
        let more = size-more (part p c t checked is_item) k in
        let size = end-size in
        let same : k + 1 ≡ length p.execs = omega (arith, last) in
        let whole = ap (λ n. begins p c t checked is_item n) same in
        omega (arith, more, size, whole)

    end-stmt : slice_get (stmts p c t checked is_item k) (length first) ≡ Some Finish
    end-stmt =
        ap (λ (xs : List Flat). slice_get ((first ++ xs) ++ jumps_of p c t checked is_item k) (length first)) own-end
        ∙ get-middle first Finish (jumps_of p c t checked is_item k)

    end-there : slice_get (all p c t checked is_item) end_place ≡ Some (with_line (line_in (slice_get p.execs k)) Finish)
    end-there =
        let size = end-size in
        stands-at (part p c t checked is_item) (length p.execs) k (length first) (omega (arith, last)) (omega (arith, size))
        ∙ part-at p c t checked is_item k (length first) Finish (closed.last k last) end-stmt

    is-end : (place : ℕ) (l : FlatLine) → slice_get (all p c t checked is_item) place ≡ Some l → suc place ≡ length (all p c t checked is_item) → l.stmt ≡ Finish
    is-end place l is at_end =
        let here = end-last in
        let same : end_place ≡ place = omega (arith, here, at_end) in
        let both : Some (with_line (line_in (slice_get p.execs k)) Finish) ≡ Some l = sym end-there ∙ ap (slice_get (all p c t checked is_item)) same ∙ is in
        let one : with_line (line_in (slice_get p.execs k)) Finish ≡ l = cc in
        sym (ap (λ (x : FlatLine). x.stmt) one)

  -- ---- the laws

  abbrev last_exec : ℕ
  last_exec = length p.execs - 1

  is-last : suc last_exec ≡ length p.execs
  is-last = let some = ends.some in omega (arith, some)

  pub some-statement : 0 < length (all p c t checked is_item)
  some-statement = let e = end-last last_exec is-last in omega (arith, e)

  finish-last : (place : ℕ) (l : FlatLine) → slice_get (all p c t checked is_item) place ≡ Some l → l.stmt ≡ Finish → suc place ≡ length (all p c t checked is_item)
  finish-last place l is finish =
      let o = origin p c t checked is_item place l is in
      ⊎_elim
      (λ (m : IsItsMark p c t checked is_item o.exec o.index l.stmt). let no : Mark ≡ Finish = sym m.is ∙ finish in absurd cc)
      (⊎_elim
      (λ (own : IsItsOwn p c t checked is_item o.exec o.index l.stmt).
      let only = own-is p checked (words_at p c t checked is_item o.exec) (mark_of p t is_item) (kind_at p o.exec) (decided p t o.exec) own.index l.stmt own.is in
      let last = kind-end o.exec o.within (only.own.finishes finish) in
      let end = end-last o.exec last in
      let alone = only.first in
      let stands = o.stands in
      let index = own.stands in
      omega (arith, end, alone, stands, index))
      (λ (jump : IsItsJump p c t checked is_item o.exec o.index l.stmt). let no : Jump (number p c t checked is_item jump.target) ≡ Finish = sym jump.is ∙ finish in absurd cc))
      (which p c t checked is_item o.exec o.index l.stmt o.is)

  pub ends-flat : (place : ℕ) (l : FlatLine) → slice_get (all p c t checked is_item) place ≡ Some l → (l.stmt ≡ Finish) ↔ (suc place ≡ length (all p c t checked is_item))
  ends-flat place l is = (finish-last place l is, is-end last_exec is-last place l is)
