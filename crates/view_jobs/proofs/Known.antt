-- What is so of the text that was read is so of the text that is known.
use Rattle.std.proofs.Common.{◌≡◌, ℕ, Bool, false, List, Option, None, Some, Result, Ok, Err, IfOk, IfSome, inl, inr, ap, subst}
use Rattle.std.specs.Prelude.{Vec, string_bytes}
use Rattle.std.specs.declared.string.String.{String}
use Rattle.std.specs.declared.alloc.Global.{Global}
use Rattle.refusal_reports.specs.Refusals.{too_long}
use Rattle.view_commands.specs.Words.{Program}
use Rattle.view_jobs.specs.Files.{OfKnown, ReadsFile}
use Rattle.f77_lower.specs.declared.lowering.Lowered.{Lowered}
use Rattle.f77_source.specs.Reading.{reading}
use Rattle.view_jobs.specs.Given.{Given, IsLoweredTo, given_as, given_meant}
use Rattle.shown_lines.specs.Lines.{line_of}
use Rattle.shown_lines.specs.declared.places.Place.{Place}
use Rattle.view_jobs.specs.Lowered.{IsFileText, OfProgram, TellsPlace, place_report}
use Rattle.view_jobs.specs.Refused.{TellsFile, TellsProgram, TellsText}
use Rattle.view_jobs.specs.declared.given.FileText.TheVariants as file_text
use Rattle.view_jobs.specs.declared.given.Given as read_given
use Rattle.view_output.specs.Told.{Adds}
use Rattle.view_output.specs.declared.fault.Fault.{Fault}
use Rattle.view_output.specs.declared.fault.Fault.TheVariants as fault

-- what follows of a text that is known
of_both : {P Q : List ℕ → Type 0} (known : Option (List ℕ)) → OfKnown known P → ((text : List ℕ) → P text → Q text) → OfKnown known Q
of_both None of f = tt
of_both (Some text) of f = f text of

pub of_known : (known : Option (List ℕ)) (read : Vec ℕ Global) (P : List ℕ → Type 0) → IfSome known (λ text. ReadsFile text (Ok read)) → P read.items → OfKnown known P
of_known None read P is p = tt
of_known (Some text) read P is p = subst P is p

-- a file that is too long
pub long_known : (known : Option (List ℕ)) (is_wide : Bool) (name report : List ℕ) (e : Fault) → e ≡ fault.TooLong → IfSome known (λ text. ReadsFile text (Err e)) → report ≡ too_long name → OfKnown known (λ text. TellsFile is_wide name text (Some report))
long_known None is_wide name report e is long told = tt
long_known (Some text) is_wide name report e is long told = inl (subst (λ (f : Fault). ReadsFile text (Err f)) is long, ap Some told)

-- what follows from what holds of a result
pub if_ok : {T E : Type 0} {P Q : T → Type 0} (r : Result T E) → ((x : T) → P x → Q x) → IfOk r P → IfOk r Q
if_ok (Ok x) f h = f x h
if_ok (Err e) f h = tt

-- ---- the program of a file

-- a program that isn't everyday Fortran is as it is
pub plain_given : (is_wide : Bool) (source : List ℕ) (lowered : Option Lowered) → is_wide ≡ false → lowered ≡ None → IsLoweredTo is_wide source lowered
plain_given is_wide source lowered plain none = rw (plain, none) tt

-- what is told of the program of a source is told of the source
pub program_told : (is_wide : Bool) (name source : List ℕ) (given : read_given.Given) (report : Option (List ℕ)) → IsLoweredTo is_wide source given.lowered × (given.source.items ≡ source) → TellsProgram name (given_meant given) (reading (given_meant given).text false) report → TellsText is_wide name source report
program_told is_wide name source given report is told = inl (record { lowered = given.lowered; is = is.0; holds = subst (λ s. TellsProgram name (given_as s given.lowered) (reading (given_as s given.lowered).text false) report) is.1 told })

pub tells_place : (place : Place) (source line reason report : List ℕ) → line ≡ line_of source place.line → report ≡ place_report place line reason → TellsPlace place source report
tells_place place source line reason report line_is is = record { reason = reason; is = subst (λ l. report ≡ place_report place l reason) line_is is }

module _ (known : Option (List ℕ)) (p : Program) (Does : Given → Type 0) (told now faults faults_now : Option (List ℕ)) (status : ℕ) where
  -- what was done with the program that was read
  pub with_program : (given : read_given.Given) → OfKnown known (λ source. IsFileText p source (file_text.Program given)) → Does (given_meant given) → OfKnown known (λ source. OfProgram p source Does told now faults faults_now status)
  with_program given read does = of_both known read (λ source (is : IsFileText p source (file_text.Program given)). inl (record { lowered = given.lowered; is = is.0; holds = subst (λ s. Does (given_as s given.lowered)) is.1 does }))

  -- what can't be lowered, whose report is shown
  pub with_report : (report : String Global) (shown : List ℕ) → shown ≡ string_bytes report → OfKnown known (λ source. IsFileText p source (file_text.Refused report)) → Adds faults faults_now shown → status ≡ 2 → now ≡ told → OfKnown known (λ source. OfProgram p source Does told now faults faults_now status)
  with_report report shown is_shown read added is same =
      of_both known read (λ source (why : IsFileText p source (file_text.Refused report)). inr (record { wide = why.0; report = string_bytes report; is = why.1; added = subst (Adds faults faults_now) is_shown added; status_is = is }, same))
