use Rattle.cb_items.proofs.Additions.{fulls-law, values-law}
use Rattle.cb_items.proofs.values_stay.Goals as goal

pub returns : goal.returns
returns c = record { cells = values-law; fulls = fulls-law }
