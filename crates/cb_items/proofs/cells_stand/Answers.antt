use Rattle.cb_items.proofs.Additions.{built-law, frame-law, later-law, renamed-law}
use Rattle.cb_items.proofs.cells_stand.Goals as goal

pub returns : goal.returns
returns c = record { later = later-law; frames = frame-law; renamed = renamed-law; built = built-law }
