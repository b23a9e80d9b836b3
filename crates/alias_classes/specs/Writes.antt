-- The classes that executables write.
use Rattle.std.specs.Prelude.{◌≡◌, ℕ, ◌⊎◌}
use Rattle.f77_tree.specs.declared.programs.ExecKind.{ExecKind}
use Rattle.f77_tree.specs.declared.programs.ExecKind.TheVariants.{Assign, DoStart, DoNext}
use Rattle.f77_tree.specs.Value.{place_of}
use Rattle.alias_classes.specs.Classes.{ClassTable, class_of_word, class_of_loop}
use Rattle.alias_classes.specs.Needs.{Hits}

-- n is a class of words that an executable writes, or may write: an assignment each one that its target hits, a DO that of its
-- variable's word
abbrev pub ExecWrites : ClassTable → ExecKind → ℕ → Type 0
ExecWrites t (Assign target e next) n = Hits t target n
ExecWrites t (DoStart loop_no var first last step body exit) n = class_of_word t (place_of t.names var) ≡ n
ExecWrites t (DoNext loop_no var body exit) n = class_of_word t (place_of t.names var) ≡ n
ExecWrites t _ n = ⊥

-- n is such a class, or that of the count and the step of the DO that the executable begins or increments, which no word has
abbrev pub ExecWritesOrCounts : ClassTable → ExecKind → ℕ → Type 0
ExecWritesOrCounts t (DoStart loop_no var first last step body exit) n = ExecWrites t (DoStart loop_no var first last step body exit) n ⊎ (class_of_loop t loop_no ≡ n)
ExecWritesOrCounts t (DoNext loop_no var body exit) n = ExecWrites t (DoNext loop_no var body exit) n ⊎ (class_of_loop t loop_no ≡ n)
ExecWritesOrCounts t kind n = ExecWrites t kind n
