-- The first operations of a piece that need its lines, and what is known of lines when they are cleared.
use Rattle.std.proofs.Common.{◌≡◌, ◌<◌, ◌==◌, ⊎_elim, ℕ, Bool, true, false, if◌then◌else◌, List, length, map, get_or, Option, Some, None, slice_get, unwrap_or, option_map, refl, sym, ap, ◌∙◌, subst, arith}
use Rattle.std.specs.List.{list_any}
use Rattle.std.proofs.lemmas.Bool.{cases_Bool, false≢true}
use Rattle.std.proofs.lemmas.Option.{get_or_from_slice_get, slice_get-map, slice_get_within}
use Rattle.list_laws.specs.Member.{Member}
use Rattle.list_laws.proofs.Members.{Member-at, Member-filtered, Member-in_range}
use Rattle.net_board.specs.Nodes.{all_lines, graph_in, is_acting, kind_in, touched}
use Rattle.op_board.specs.OperationNets.{OperationNet, operation_count}
use Rattle.operation_tables.specs.declared.hops.Scratch.{Scratch}
use Rattle.operation_tables.specs.OperationRows.{EntryIs}
use Rattle.operation_tables.specs.PlanFacts.{PlanFacts}
use Rattle.operation_tables.specs.ScratchLines.{AreCounted, AreLinked, IsClean, before_at, first_at}
use Rattle.operation_tables.proofs.RowCounts.{any_filtered, entry_of, no_entry, none_needs, some_needs}

module _ (x : OperationNet) (facts : PlanFacts x) (piece : ℕ) (exists : piece < (graph_in x.net).nodes) where
  -- a touched line is one of the net, and the piece touches it
  touched_has : (place line : ℕ) → slice_get (touched x.net piece) place ≡ Some line → (line < x.net.routing.lines) × (x.net.touches piece line ≡ true)
  touched_has place line at =
      let inside = slice_get_within (touched x.net piece) place line at in
      let is : get_or (touched x.net piece) place 0 ≡ line = get_or_from_slice_get (touched x.net piece) place line 0 at in
      let m : Member (touched x.net piece) line = subst (Member (touched x.net piece)) is (Member-at (touched x.net piece) place 0 inside) in
      let h = Member-filtered (x.net.touches piece) (all_lines x.net) line m in
      let r = (Member-in_range 0 x.net.routing.lines line h.0).1 in
      (omega (arith, r), h.1)

  -- no operation needs a line that the piece doesn't touch
  not_needed : (line : ℕ) → x.net.touches piece line ≡ false → (i : ℕ) → i < operation_count x piece → x.needs piece i line ≡ false
  not_needed line untouched i inside = ⊎_elim
      (λ (h : x.needs piece i line ≡ true). absurd (false≢true (sym untouched ∙ facts.touched piece i line exists inside h)))
      (λ (h : x.needs piece i line ≡ false). h)
      (cases_Bool (x.needs piece i line))

  module _ (s : Scratch) (links : AreLinked x piece 0 s) where
    -- the entries are the first operations that need the touched lines
    pub entries_are : (lines entries : List ℕ) → lines ≡ touched x.net piece → entries ≡ map (λ (line : ℕ). unwrap_or (first_at s line) 0) lines → is_acting (kind_in x.net piece) ≡ true → (place line : ℕ) → slice_get (touched x.net piece) place ≡ Some line → EntryIs x piece line (slice_get entries place)
    entries_are lines entries same are acts place line at =
        let has = touched_has place line at in
        let entry = entry_of x piece line (first_at s line) (links.first line has.0) (λ none. facts.needed piece line exists acts has.1 (none_needs x piece line none)) in
        let found : slice_get entries place ≡ Some entry.0 =
        ap (λ (xs : List ℕ). slice_get xs place) are
        ∙ slice_get-map (λ (line : ℕ). unwrap_or (first_at s line) 0) lines place
        ∙ ap (λ (xs : List ℕ). option_map (λ (line : ℕ). unwrap_or (first_at s line) 0) (slice_get xs place)) same
        ∙ ap (option_map (λ (line : ℕ). unwrap_or (first_at s line) 0)) at
        ∙ ap (λ (o : Option ℕ). Some (unwrap_or o 0)) entry.1.0 in
        subst (EntryIs x piece line) (sym found) entry.1.1

    -- nothing is known of the lines once those that the piece touches are cleared
    pub clean_after : AreCounted x piece (operation_count x piece) s → (lines : List ℕ) → lines ≡ touched x.net piece → (new : Scratch) → length new.before.items ≡ length s.before.items → length new.first.items ≡ length s.first.items
        → ((line : ℕ) → before_at new line ≡ if list_any (λ (other : ℕ). other == line) lines then 0 else before_at s line)
        → ((line : ℕ) → first_at new line ≡ if list_any (λ (other : ℕ). other == line) lines then None else first_at s line)
        → IsClean x.net.routing.lines new
    clean_after counted lines same new counts firsts before first = record {
      all = record { before = counts ∙ counted.all.before; first = firsts ∙ links.all.first };
      before = λ line low. before_by line low (x.net.touches piece line) refl;
      first = λ line low. first_by line low (x.net.touches piece line) refl;
    }
      where
        told : (line : ℕ) → line < x.net.routing.lines → list_any (λ (other : ℕ). other == line) lines ≡ x.net.touches piece line
        told line low = ap (list_any (λ (other : ℕ). other == line)) same ∙ any_filtered (x.net.touches piece) x.net.routing.lines line low

        before_by : (line : ℕ) → line < x.net.routing.lines → (b : Bool) → x.net.touches piece line ≡ b → before_at new line ≡ 0
        before_by line low true touches = before line ∙ ap (λ b. if b then 0 else before_at s line) (told line low ∙ touches)
        before_by line low false untouched = before line ∙ ap (λ b. if b then 0 else before_at s line) (told line low ∙ untouched) ∙ counted.before line low ∙ some_needs x piece line (not_needed line untouched)

        first_by : (line : ℕ) → line < x.net.routing.lines → (b : Bool) → x.net.touches piece line ≡ b → first_at new line ≡ None
        first_by line low true touches = first line ∙ ap (λ b. if b then None else first_at s line) (told line low ∙ touches)
        first_by line low false untouched = first line ∙ ap (λ b. if b then None else first_at s line) (told line low ∙ untouched) ∙ no_entry x piece line (first_at s line) (links.first line low) (not_needed line untouched)
