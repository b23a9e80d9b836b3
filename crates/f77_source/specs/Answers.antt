-- What reading a source answers.
use Rattle.std.specs.Prelude.{◌≡◌, Result, Ok, Err}
use Rattle.fixed_form.specs.declared.form_end.FormEnd.{FormEnd}
use Rattle.fixed_form.specs.declared.form_end.FormEnd.TheVariants as form
use Rattle.f77_parse.specs.declared.stmt_end.StmtEnd.{StmtEnd}
use Rattle.f77_parse.specs.declared.stmt_end.StmtEnd.TheVariants as stmt
use Rattle.layout_rules.specs.declared.layout_end.LayoutEnd.{LayoutEnd}
use Rattle.layout_rules.specs.declared.layout_end.LayoutEnd.TheVariants as layout
use Rattle.program_units.specs.declared.sub_end.SubEnd.{SubEnd}
use Rattle.program_units.specs.declared.sub_end.SubEnd.TheVariants as sub
use Rattle.f77_source.specs.Reading.{form_refusal, stmt_refusal, sub_refusal, layout_refusal}
use Rattle.f77_source.specs.declared.source_end.SourceEnd.{SourceEnd}
use Rattle.f77_source.specs.declared.source_end.SourceEnd.TheVariants.{Refused, NoMemory}
use Rattle.f77_source.specs.declared.source_end.Refusal.{Refusal}

-- the answer is what is read, or memory ended
abbrev pub IsReadAs : {A : Type 0} → Result A Refusal → Result A SourceEnd → Type 0
IsReadAs read (Ok a) = read ≡ Ok a
IsReadAs read (Err (Refused refusal)) = read ≡ Err refusal
IsReadAs read (Err NoMemory) = Unit {0}

-- what is answered where the lines, a statement, the layout or the units are refused
abbrev pub told_form : FormEnd → SourceEnd
told_form form.NoMemory = NoMemory
told_form end = Refused (form_refusal end)

abbrev pub told_stmt : StmtEnd → SourceEnd
told_stmt stmt.NoMemory = NoMemory
told_stmt end = Refused (stmt_refusal end)

abbrev pub told_layout : LayoutEnd → SourceEnd
told_layout layout.NoMemory = NoMemory
told_layout end = Refused (layout_refusal end)

abbrev pub told_sub : SubEnd → SourceEnd
told_sub sub.NoMemory = NoMemory
told_sub (sub.Layout end) = told_layout end
told_sub end = Refused (sub_refusal end)
