use Rattle.uc_outside.proofs.Taken.{room-after, fits-no_failure}
use Rattle.uc_outside.proofs.laws.law_room_holds.Goals as goal

pub returns : goal.returns
returns c = record {
  after = λ a b xs ys p h. room-after p h;
  holds = λ a b text h f. fits-no_failure h f;
}
