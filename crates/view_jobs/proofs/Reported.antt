-- The reports of files, one after another.
use Rattle.std.proofs.Common.{◌≡◌, ℕ, ◌+◌, ◌<◌, List, [], ◌∷◌, ◌++◌, Option, None, Some, Bool, false, length, map, take, get_or, flat_map, refl, sym, ap, subst, ◌∙◌, append-nil, append_assoc}
use Rattle.std.specs.Prelude.{◌||◌, is_some}
use Rattle.std.specs.List.{list_any}
use Rattle.std.proofs.KnownBytes.{Appends-nil}
use Rattle.std.proofs.lemmas.List.{map-append, take_more}
use Rattle.view_jobs.specs.Files.{OfKnown}
use Rattle.view_jobs.specs.Refused.{AreReports, ReportsFile, ReportsFiles, TellsFile, report_text}
use Rattle.view_output.specs.Told.{Adds}
use Rattle.view_output.proofs.Pieces.{and_then}

-- one report more
more_reports : (is_wide : Bool) (known : List ℕ → Option (List ℕ)) (names : List (List ℕ)) (reports : List (Option (List ℕ))) (name : List ℕ) (report : Option (List ℕ)) → AreReports is_wide known names reports → OfKnown (known name) (λ text. TellsFile is_wide name text report) → AreReports is_wide known (names ++ name ∷ []) (reports ++ report ∷ [])
more_reports is_wide known [] [] name report are one = (one, tt)
more_reports is_wide known [] (r ∷ rs) name report are one = absurd are
more_reports is_wide known (n ∷ ns) [] name report are one = absurd are
more_reports is_wide known (n ∷ ns) (r ∷ rs) name report are one = (are.0, more_reports is_wide known ns rs name report are.1 one)

more_texts : (reports : List (Option (List ℕ))) (report : Option (List ℕ)) → flat_map report_text (reports ++ report ∷ []) ≡ flat_map report_text reports ++ report_text report
more_texts [] report = append-nil (report_text report)
more_texts (r ∷ rs) report = ap (λ t. report_text r ++ t) (more_texts rs report) ∙ sym (append_assoc (report_text r) (flat_map report_text rs) (report_text report))

more_found : (reports : List (Option (List ℕ))) (report : Option (List ℕ)) → list_any is_some (reports ++ report ∷ []) ≡ (list_any is_some reports || is_some report)
more_found [] None = refl
more_found [] (Some report) = refl
more_found (None ∷ rs) report = more_found rs report
more_found (Some r ∷ rs) report = refl

pub none_reported : (is_wide : Bool) (known : List ℕ → Option (List ℕ)) (told : Option (List ℕ)) → ReportsFiles is_wide known [] told told false
none_reported is_wide known told = record { reports = []; are = tt; added = record { known = Appends-nil told }; found_is = refl }

pub one_reported : {X : Type 0} (is_wide : Bool) (name_of : X → List ℕ) (known : List ℕ → Option (List ℕ)) (names : List X) (i : ℕ) (name : X) (a b c : Option (List ℕ)) (found more : Bool) → i < length names → name ≡ get_or names i name → ReportsFiles is_wide known (map name_of (take i names)) a b found → ReportsFile is_wide (known (name_of name)) (name_of name) b c more → ReportsFiles is_wide known (map name_of (take (i + 1) names)) a c (found || more)
one_reported is_wide name_of known names i name a b c found more inside is before one =
    let longer : map name_of (take (i + 1) names) ≡ map name_of (take i names) ++ name_of name ∷ [] =
    ap (map name_of) (take_more names i name inside) ∙ map-append name_of (take i names) (get_or names i name ∷ []) ∙ ap (λ n. map name_of (take i names) ++ name_of n ∷ []) (sym is) in
    record {
      reports = before.reports ++ one.report ∷ [];
      are = subst (λ ns. AreReports is_wide known ns (before.reports ++ one.report ∷ [])) (sym longer) (more_reports is_wide known (map name_of (take i names)) before.reports (name_of name) one.report before.are one.is);
      added = subst (Adds a c) (sym (more_texts before.reports one.report)) (and_then before.added one.added);
      found_is = ap (λ f. f || more) before.found_is ∙ ap (λ m. list_any is_some before.reports || m) one.found_is ∙ sym (more_found before.reports one.report);
    }
