-- The lines that stand on an edge and go past the piece at its end.
use Rattle.std.proofs.Common.{◌≡◌, ◌<◌, ℕ, true, false, ◌&&◌, not, List, Some, slice_get, sym, ap, ◌∙◌}
use Rattle.std.proofs.lemmas.Bool.{and_parts}
use Rattle.class_set.specs.ClassSet.{holds}
use Rattle.class_set.specs.declared.ClassSet.{ClassSet}
use Rattle.dep_routing.specs.Routing.{Routing, wire_at}
use Rattle.dep_routing.specs.Touch.{touches_in}
use Rattle.const_prop.proofs.Raising.{true_of_not}
use Rattle.const_prop.proofs.Rows.{touches-at}
use Rattle.std.proofs.lemmas.Bool.{and_from}

-- of the fresh lines those that stand on the edge, and of these those that the piece doesn't touch
pub record ArePast {W : ℕ} (r : Routing) (touch : List (ClassSet W)) (e node : ℕ) (fresh lines : ClassSet W) : Type 0 where
  pub wires : ClassSet W
  pub standing : ClassSet W
  pub touched : ClassSet W
  pub are_wires : (line : ℕ) → line < r.lines → holds wires line ≡ wire_at r line e
  pub within : (line : ℕ) → holds wires line ≡ true → line < r.lines
  pub stand : (line : ℕ) → holds standing line ≡ (holds fresh line && holds wires line)
  pub pass : (line : ℕ) → holds lines line ≡ (holds standing line && not (holds touched line))
  pub item : slice_get touch node ≡ Some touched

-- a line that stands on the edge, and that the piece doesn't touch
pub record IsPast {W : ℕ} (r : Routing) (touch : List (ClassSet W)) (e node line : ℕ) : Type 0 where
  pub inside : line < r.lines
  pub wire : wire_at r line e ≡ true
  pub untouched : touches_in touch node line ≡ false

module _ {W : ℕ} (r : Routing) (touch : List (ClassSet W)) (e node : ℕ) (fresh lines : ClassSet W) (a : ArePast r touch e node fresh lines) where
  pub past-parts : (line : ℕ) → holds lines line ≡ true → IsPast r touch e node line
  past-parts line is =
      let both = and_parts (holds a.standing line) (not (holds a.touched line)) (sym (a.pass line) ∙ is) in
      let stands = and_parts (holds fresh line) (holds a.wires line) (sym (a.stand line) ∙ both.0) in
      let inside = a.within line stands.1 in
      record {
        inside = inside;
        wire = sym (a.are_wires line inside) ∙ stands.1;
        untouched = touches-at touch node line a.touched a.item ∙ true_of_not (holds a.touched line) both.1;
      }

  pub past-all : (line : ℕ) → holds fresh line ≡ true → IsPast r touch e node line → holds lines line ≡ true
  past-all line is past =
      let stands : holds a.standing line ≡ true = a.stand line ∙ and_from (holds fresh line) (holds a.wires line) is (a.are_wires line past.inside ∙ past.wire) in
      a.pass line ∙ and_from (holds a.standing line) (not (holds a.touched line)) stands (ap not (sym (touches-at touch node line a.touched a.item) ∙ past.untouched))
