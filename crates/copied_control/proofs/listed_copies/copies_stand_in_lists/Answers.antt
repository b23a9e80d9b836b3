use Rattle.copied_control.proofs.StandingCopies.{main-stands, called-stands}
use Rattle.copied_control.proofs.listed_copies.copies_stand_in_lists.Goals as goal

pub returns : goal.returns
returns c = record { main = main-stands; called = called-stands }
