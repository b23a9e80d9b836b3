-- What follows for the shared form of a flat program.
use Rattle.std.proofs.Common.{◌≡◌, ℕ, ◌+◌, ◌<◌, ◌≤◌, true, false, List, ◌++◌, length, take, Option, Some, None, refl, sym, ap, subst, ◌∙◌, arith}
use Rattle.std.proofs.lemmas.List.{length-take}
use Rattle.f77_tree.specs.declared.programs.ExecKind.{ExecKind}
use Rattle.f77_tree.specs.declared.programs.NameInfo.{NameInfo}
use Rattle.f77_tree.specs.declared.programs.Program.{Program}
use Rattle.f77_tree.specs.WellFormed.{IsExecutable, IsWellFormed}
use Rattle.alias_classes.specs.Classes.{ClassTable}
use Rattle.cfg_build.specs.Joined.{FlowGraph}
use Rattle.flat_programs.specs.declared.statements.FlatLine.{FlatLine}
use Rattle.flat_programs.specs.Executables.{program_of}
use Rattle.flat_programs.specs.FlatForm.{AreProper, AreStatementsOf, IsFlat}
use Rattle.flat_programs.specs.Text.{has_long_text, text as text_of}
use Rattle.redundancy.specs.Available.{Availability, IsAvailability}
use Rattle.shared_forms.specs.declared.ends.RewriteEnd.{RewriteEnd}
use Rattle.shared_forms.specs.declared.ends.RewriteEnd.TheVariants.{TooManyNames, TooManyStatements, LongText}
use Rattle.shared_forms.specs.Numbered.{number_of}
use Rattle.shared_forms.specs.Shared.{has_many_names, most_words, refusal, shared, shared_flat, with_temporaries, IsRefused, IsShared, IsSharedText, IsSharing}
use Rattle.regenerate.specs.SharedParts.{declared_alone}
use Rattle.simplified_forms.specs.Simplified.{has_many_statements, most_statements}
use Rattle.shared_forms.specs.Temporaries.{free_names}
use Rattle.shared_forms.proofs.NumberLemmas.{number_in-is}
use Rattle.shared_forms.proofs.ProperCandidates.{candidate-proper, place-number}
use Rattle.regenerate.proofs.Refusals.{enough-names, few-names, few-words, many-declared, many-lines, not-refused, refused-names, refused-statements, refused-text}
use Rattle.shared_forms.proofs.SharedProper.{FitTable, shared-proper}
use Rattle.shared_forms.proofs.SharedSpread.{shared-flat}

-- a front that is as long as it is told to be is no longer than all
front-most : (n : ℕ) (front all : List (List ℕ)) → length front ≡ n → front ≡ take n all → n ≤ length all
front-most n front all size is = let both = ap length is ∙ length-take n all in omega (arith, size, both)

-- there are names and words for all temporaries
pub enough : (q : Program) (a : Availability) (n : ℕ) (numbers : List ℕ) (front : List (List ℕ)) → length front ≡ n → front ≡ take n (free_names q.names) → numbers ≡ shared q a (number_of a) → n ≡ length numbers → q.words + length numbers ≤ most_words → has_many_names q a (number_of a) ≡ false
enough q a n numbers front size is are count words =
    let same = ap length are in
    let most = front-most n front (free_names q.names) size is in
    enough-names q a (omega (arith, same, most, count)) (omega (arith, same, words))

module _ (q : Program) (f : FlowGraph) (c : ClassTable) (a : Availability) (formed : IsWellFormed q) (is : IsAvailability q f c a) (flat : List FlatLine) (statements : AreStatementsOf q flat) where
  sharing : (end : Option RewriteEnd) → refusal q a (number_of a) flat ≡ end → IsSharing q a (number_of a) flat end
  sharing end ends =
      record {
        numbers = λ e k. (number_in-is a.candidates e k, place-number q f a.candidates formed.execs.each is.candidates e k);
        statements = statements;
        ends = ends;
      }

  refused : (end : RewriteEnd) → refusal q a (number_of a) flat ≡ Some end → IsRefused q a end
  refused end ends = record { number = number_of a; flat = flat; sharing = sharing (Some end) ends }

  -- ---- refused

  -- more words than there are
  pub refused-words : (numbers : List ℕ) → numbers ≡ shared q a (number_of a) → most_words < q.words + length numbers → IsRefused q a TooManyNames
  refused-words numbers are more = let same = ap length are in refused TooManyNames (refused-names q a flat (few-words q a (omega (arith, same, more))))

  -- more temporaries than free names
  pub refused-free : (n : ℕ) (numbers : List ℕ) → length (free_names q.names) < n → numbers ≡ shared q a (number_of a) → n ≡ length numbers → IsRefused q a TooManyNames
  refused-free n numbers more are count = let same = ap length are in refused TooManyNames (refused-names q a flat (few-names q a (omega (arith, same, count, more))))

  -- too many names for their declarations
  pub refused-declared : has_many_names q a (number_of a) ≡ false → most_statements < length q.names → IsRefused q a TooManyStatements
  refused-declared few more = refused TooManyStatements (refused-statements q a flat few (many-declared q a flat more))

  -- too many statements with temporaries
  pub refused-lines : has_many_names q a (number_of a) ≡ false → most_statements < length (shared_flat q a (number_of a) flat) → IsRefused q a TooManyStatements
  refused-lines few more = refused TooManyStatements (refused-statements q a flat few (many-lines q a flat more))

  module _ (longer : Program) (all : List FlatLine) (longer_is : longer ≡ declared_alone (with_temporaries q a (number_of a))) (all_is : all ≡ shared_flat q a (number_of a) flat) where
    many_same : has_many_statements (with_temporaries q a (number_of a)) (shared_flat q a (number_of a) flat) ≡ has_many_statements longer all
    many_same = ap (λ (p : Program). has_many_statements p (shared_flat q a (number_of a) flat)) (sym longer_is) ∙ ap (has_many_statements longer) (sym all_is)

    long_same : has_long_text (with_temporaries q a (number_of a)) (shared_flat q a (number_of a) flat) ≡ has_long_text longer all
    long_same = ap (λ (p : Program). has_long_text p (shared_flat q a (number_of a) flat)) (sym longer_is) ∙ ap (has_long_text longer) (sym all_is)

    -- too many statements with their declarations
    pub refused-all : has_many_names q a (number_of a) ≡ false → has_many_statements longer all ≡ true → IsRefused q a TooManyStatements
    refused-all few many = refused TooManyStatements (refused-statements q a flat few (many_same ∙ many))

    -- a statement that is too long
    pub refused-long : has_many_names q a (number_of a) ≡ false → has_many_statements longer all ≡ false → has_long_text longer all ≡ true → IsRefused q a LongText
    refused-long few short long = refused LongText (refused-text q a flat few (many_same ∙ short) (long_same ∙ long))

    -- ---- made

    pub made : (r : Program) → has_many_names q a (number_of a) ≡ false → has_many_statements longer all ≡ false → has_long_text longer all ≡ false → r ≡ program_of longer all → IsShared q a r
    made r few short fits program =
        record {
          number = number_of a;
          flat = flat;
          sharing = sharing None (not-refused q a flat few (many_same ∙ short) (long_same ∙ fits));
          is = program ∙ ap (λ (p : Program). program_of p all) longer_is ∙ ap (program_of (with_temporaries q a (number_of a))) all_is;
        }

    -- the text of these statements is that of the shared form
    pub made-text : has_many_names q a (number_of a) ≡ false → has_many_statements longer all ≡ false → has_long_text longer all ≡ false → (text : List ℕ) → text ≡ text_of longer all → IsSharedText q a text
    made-text few short fits text is =
        record {
          form = program_of longer all;
          shared = made (program_of longer all) few short fits refl;
          flat = all;
          statements = record { form = subst IsFlat (sym all_is) (shared-flat q a (number_of a) flat statements.form); execs = refl };
          is = is;
        }

    -- the statements with temporaries fit the longer table
    pub proper : ((more : List NameInfo) (kind : ExecKind) → IsExecutable q.names kind → IsExecutable (q.names ++ more) kind) → AreProper q.names flat → AreProper longer.names all
    proper keeps fits =
        let table : FitTable q a = record { candidates = λ k e at. (is.candidates.sound k e at).0; proper = candidate-proper q f a.candidates formed.execs.each is.candidates; longer = keeps } in
        let both : AreProper (with_temporaries q a (number_of a)).names (shared_flat q a (number_of a) flat) = shared-proper q a table flat fits in
        subst (λ (p : Program). AreProper p.names all) (sym longer_is) (subst (λ (xs : List FlatLine). AreProper (with_temporaries q a (number_of a)).names xs) (sym all_is) both)
