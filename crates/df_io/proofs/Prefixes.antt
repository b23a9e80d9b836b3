-- What was added before a fault, and counts of faults, over several calls.
use Rattle.std.proofs.Common.{ℕ, ◌+◌, List, ◌++◌, length, take, Option, sym, subst, arith, length-append}
use Rattle.std.proofs.Math.Seq.{take-append-add}
use Rattle.std.proofs.lemmas.List.{take-append-le}
use Rattle.std.proofs.KnownBytes.{Appends-trans}
use Rattle.std.specs.Io.KnownBytes.{Appends}
use Rattle.df_io.specs.Write.{AppendsPrefix}

-- all of some bytes, and then a prefix of others
pub AppendsPrefix-after : (a b c : Option (List ℕ)) (xs ys : List ℕ) → Appends a b xs → AppendsPrefix b c ys → AppendsPrefix a c (xs ++ ys)
AppendsPrefix-after a b c xs ys before prefix = record {
  count = length xs + prefix.count;
  within = omega (arith, length-append xs ys, prefix.within);
  added = subst (Appends a c) (sym (take-append-add xs ys prefix.count)) (Appends-trans a b c xs (take prefix.count ys) before prefix.added);
}

-- a prefix of some bytes is a prefix of those and more
pub AppendsPrefix-longer : (a b : Option (List ℕ)) (xs ys : List ℕ) → AppendsPrefix a b xs → AppendsPrefix a b (xs ++ ys)
AppendsPrefix-longer a b xs ys prefix = record {
  count = prefix.count;
  within = omega (arith, length-append xs ys, prefix.within);
  added = subst (Appends a b) (sym (take-append-le prefix.count xs ys prefix.within)) prefix.added;
}
