use Rattle.cb_shape.proofs.Numbered.{shape-open, in-numbers, opens-in-order, covers, free}
use Rattle.cb_shape.proofs.shape_from_points.Goals as goal

pub returns : goal.returns
returns c = λ w es terms ps point. record {
  only_leaves = shape-open _;
  leaf_order = in-numbers w es terms ps point;
  open_order = opens-in-order w es terms ps point;
  covers = covers w es terms ps point;
  free = free w es terms ps point;
}
