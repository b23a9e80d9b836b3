-- How steps of the simplified form that change nothing lead from the statements of an item to where other items begin.
use Rattle.std.proofs.Common.{◌≡◌, ℕ, ◌+◌, ◌<◌, ◌≤◌, ℤ, Bool, true, false, List, [], ◌∷◌, length, Some, refl, sym, ap, subst, ◌∙◌, ⊎_elim, inl, arith}
use Rattle.std.specs.Prelude.{if◌then◌else◌, slice_get}
use Rattle.std.proofs.lemmas.Bool.{cases_Bool}
use Rattle.list_laws.specs.Member.{Member}
use Rattle.list_laws.proofs.Members.{Member-left, Member-right}
use Rattle.f77_tree.specs.declared.programs.ExecKind.{ExecKind}
use Rattle.f77_tree.specs.declared.programs.ExecKind.TheVariants.{Pass}
use Rattle.f77_tree.specs.declared.programs.Program.{Program}
use Rattle.f77_tree.specs.Run.{State, Running}
use Rattle.alias_classes.specs.Classes.{ClassTable}
use Rattle.const_prop.specs.Table.{Knowns}
use Rattle.flat_programs.specs.declared.statements.Flat.TheVariants.{Mark, Jump}
use Rattle.flat_programs.specs.declared.statements.FlatLine.{FlatLine}
use Rattle.flat_programs.specs.Executables.{executables, first_of, following, leading, marked as executable_of, program_of, width}
use Rattle.flat_programs.specs.Marks.{is_end, mark_at as number_at}
use Rattle.simplified_laws.specs.InStep.{after_mark, entry}
use Rattle.simplified_forms.specs.Items.{kind_at}
use Rattle.simplified_forms.specs.Simplified.{decided, has_mark, is_next, jumps, last_jump, mark_of, own_jumps, rest}
use Rattle.simplified_laws.proofs.FlatItems.{all as form, begins, jumped-mark, left_over, AreClosedItems}
use Rattle.simplified_laws.proofs.ItemPlaces.{marks-stand}
use Rattle.simplified_laws.proofs.ItemStands.{begins-next, item_line, jump-at, jump_place, left-true, mark-at, next-item}
use Rattle.simplified_laws.proofs.Stepping.{comes-none, comes-pass, Comes}

-- the executables of statements stand where their statements begin
pub record AreInPlace (flat : List FlatLine) : Type 0 where
  pub first : (place : ℕ) (l : FlatLine) → slice_get flat place ≡ Some l → slice_get (executables flat) (first_of flat place) ≡ Some (record { line = l.line; kind = leading flat place l.stmt })
  pub second : (place : ℕ) (l : FlatLine) (kind : ExecKind) → slice_get flat place ≡ Some l → following flat place l.stmt ≡ Some kind → slice_get (executables flat) (first_of flat place + 1) ≡ Some (record { line = l.line; kind = kind })
  pub next : (place : ℕ) (l : FlatLine) → slice_get flat place ≡ Some l → first_of flat (place + 1) ≡ first_of flat place + width flat place l.stmt

module _ (p : Program) (c : ClassTable) (t : Knowns) (checked : Bool) (is_item : ℕ → Bool) (input : List ℤ) where
  abbrev pub new_form : Program
  new_form = program_of p (form p c t checked is_item)

  abbrev pub new_first : (place : ℕ) → ℕ
  new_first place = first_of (form p c t checked is_item) place

  -- at most one step leads from an executable to another
  pub record Leads (from to : ℕ) : Type 0 where
    pub extra : ℕ
    pub most : extra ≤ 1
    pub comes : (y : State) → y.mark ≡ Running → y.position ≡ from → Comes new_form input y to extra

  pub leads-at : (from to : ℕ) → from ≡ to → Leads from to
  leads-at from to same = record { extra = 0; most = omega arith; comes = λ y runs at. comes-none new_form input y to runs (at ∙ same) }

  -- no step is needed only where the executable is a later one
  pub record LeadsOn (from k s : ℕ) : Type 0 where
    pub leads : Leads from (entry p c t checked is_item s)
    pub later : leads.extra ≡ 0 → k < s

  module _ (place_of_execs : AreInPlace (form p c t checked is_item)) (kept : AreClosedItems p t is_item) where
    -- ---- what is jumped to has a mark

    mark-entry : (s : ℕ) → is_item s ≡ true → has_mark p t is_item s ≡ true → executable_of (form p c t checked is_item) (mark_of p t is_item s) ≡ entry p c t checked is_item s
    mark-entry s item has = ap new_first (marks-stand p c t checked is_item s (kept.within s item) has)

    -- a statement of an item that jumps leads to where its target begins
    pub jump-entry : (k s : ℕ) → is_item k ≡ true → Member (own_jumps (kind_at p k) (decided p t k)) s → executable_of (form p c t checked is_item) (mark_of p t is_item s) ≡ entry p c t checked is_item s
    jump-entry k s item member =
        let among = Member-left (own_jumps (kind_at p k) (decided p t k)) (left_over p c t checked is_item k) s member in
        mark-entry s (kept.jumps k s item among) (jumped-mark p c t checked is_item kept k s item among)

    -- ---- from what an item jumps to at its end

    left-next : (k s : ℕ) → rest (kind_at p k) (decided p t k) ≡ Some s → is_next is_item k s ≡ true → left_over p c t checked is_item k ≡ []
    left-next k s is next = ap (last_jump is_item k) is ∙ ap (λ b. if b then [] else s ∷ []) next

    left-jump : (k s : ℕ) → rest (kind_at p k) (decided p t k) ≡ Some s → is_next is_item k s ≡ false → left_over p c t checked is_item k ≡ s ∷ []
    left-jump k s is other = ap (last_jump is_item k) is ∙ ap (λ b. if b then [] else s ∷ []) other

    jump-leads : (k s : ℕ) → is_item k ≡ true → rest (kind_at p k) (decided p t k) ≡ Some s → is_next is_item k s ≡ false → LeadsOn (new_first (jump_place p c t checked is_item k)) k s
    jump-leads k s item is other =
        let left = left-jump k s is other in
        let within = kept.within k item in
        let at = jump-at p c t checked is_item k s within item left in
        let found = place_of_execs.first (jump_place p c t checked is_item k) (item_line p c t checked is_item k (Jump (mark_of p t is_item s))) at in
        let member : Member (jumps p t is_item k) s = Member-right (own_jumps (kind_at p k) (decided p t k)) (left_over p c t checked is_item k) s (subst (λ (xs : List ℕ). Member xs s) (sym left) (inl refl)) in
        let there = mark-entry s (kept.jumps k s item member) (jumped-mark p c t checked is_item kept k s item member) in
        record {
          leads = record {
            extra = 1;
            most = omega arith;
            comes = λ y runs at_it. comes-pass new_form input y _ (entry p c t checked is_item s) runs (ap (slice_get (executables (form p c t checked is_item))) at_it ∙ found) (ap Pass there);
          };
          later = λ none. absurd cc;
        }

    next-leads : (k s : ℕ) → is_item k ≡ true → rest (kind_at p k) (decided p t k) ≡ Some s → is_next is_item k s ≡ true → LeadsOn (new_first (jump_place p c t checked is_item k)) k s
    next-leads k s item is next =
        let left = left-next k s is next in
        let to = left-true (is_item s) _ next in
        let after = next-item p c t checked is_item k s (kept.within s to) item next in
        let size = begins-next p c t checked is_item k (kept.within k item) item in
        let none = ap length left in
        let same : jump_place p c t checked is_item k ≡ begins p c t checked is_item s = omega (arith, size, none, after.begins_there) in
        record { leads = leads-at (new_first (jump_place p c t checked is_item k)) (entry p c t checked is_item s) (ap new_first same); later = λ h. after.later }

    pub rest-leads : (k s : ℕ) → is_item k ≡ true → rest (kind_at p k) (decided p t k) ≡ Some s → LeadsOn (new_first (jump_place p c t checked is_item k)) k s
    rest-leads k s item is = ⊎_elim (next-leads k s item is) (jump-leads k s item is) (cases_Bool (is_next is_item k s))

    -- ---- marks

    -- where no increment follows, at most one step leads over the mark
    pub record Enters (k count : ℕ) : Type 0 where
      pub comes : (y : State) → y.mark ≡ Running → y.position ≡ entry p c t checked is_item k → Comes new_form input y (new_first (after_mark p c t checked is_item k)) count

    pub mark-enters : (k : ℕ) → is_item k ≡ true → has_mark p t is_item k ≡ true → is_end (form p c t checked is_item) (number_at (form p c t checked is_item) (begins p c t checked is_item k)) ≡ false → Enters k 1
    mark-enters k item has none =
        let F = form p c t checked is_item in
        let place = begins p c t checked is_item k in
        let within = kept.within k item in
        let at = mark-at p c t checked is_item k within item has in
        let found = place_of_execs.first place (item_line p c t checked is_item k Mark) at in
        let one : width F place Mark ≡ 1 = ap (λ b. if b then 2 else 1) none in
        let next = place_of_execs.next place (item_line p c t checked is_item k Mark) at in
        let after : after_mark p c t checked is_item k ≡ place + 1 = ap (λ b. place + (if b then 1 else 0)) has in
        let to : first_of F place + 1 ≡ new_first (after_mark p c t checked is_item k) = omega (arith, next, one) ∙ ap new_first (sym after) in
        record { comes = λ y runs at_it. comes-pass new_form input y _ (new_first (after_mark p c t checked is_item k)) runs (ap (slice_get (executables F)) at_it ∙ found) (ap Pass to) }

    pub unmarked-enters : (k : ℕ) → has_mark p t is_item k ≡ false → Enters k 0
    unmarked-enters k none =
        let after : begins p c t checked is_item k ≡ after_mark p c t checked is_item k = omega arith ∙ sym (ap (λ b. begins p c t checked is_item k + (if b then 1 else 0)) none) in
        record { comes = λ y runs at_it. comes-none new_form input y _ runs (at_it ∙ ap new_first after) }
