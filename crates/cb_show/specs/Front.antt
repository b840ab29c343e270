-- What a write that failed has written.
use Rattle.std.specs.Prelude.{Option}
use Rattle.cb_model.specs.Text.{Text, IsPrefix}
use Rattle.cb_model.specs.Outside.{Wrote}

-- a front of the text was written
pub record Front (before now : Option Text) (text : Text) : Type 0 where
  pub front : Text
  pub begins : IsPrefix front text
  pub wrote : Wrote before now front
