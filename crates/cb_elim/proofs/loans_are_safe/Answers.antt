use Rattle.std.proofs.Common.{refl}
use Rattle.cb_elim.proofs.Views.{store-still, argument-still, range-still, bits-still, decided-argument, choice-argument, value-of-pair}
use Rattle.cb_elim.proofs.Back.{keeps-nodes}
use Rattle.cb_elim.proofs.loans_are_safe.Goals as goal

pub returns : goal.returns
returns c = record {
  store = store-still;
  range = range-still;
  bits = bits-still;
  arguments = λ s t st g n a. argument-still s t st g n a;
  functions = λ s t st g fs n h d. decided-argument s st t g fs n h d;
  choices = λ s t st g f h k n each w is. choice-argument s st t g f h k n each w is;
  values = λ s n st h a b r. value-of-pair s st n h a b r;
  moments = λ s t g. keeps-nodes s s t refl g;
}
