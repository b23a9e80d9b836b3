-- Refusals of the layout for what a program asks for: storage and operations.
use Rattle.layout_rules.specs.declared.layout_end.LayoutEnd.{LayoutEnd}
use Rattle.layout_rules.specs.declared.layout_end.LayoutEnd.TheVariants.{LayoutWrong, TooManyWords, TooManyOps}

-- storage contradicts itself or has too many words, or a statement asks too much
abbrev pub IsOfStorage : LayoutEnd → Type 0
IsOfStorage (LayoutWrong line) = Unit {0}
IsOfStorage (TooManyWords line) = Unit {0}
IsOfStorage (TooManyOps line) = Unit {0}
IsOfStorage _ = ⊥
