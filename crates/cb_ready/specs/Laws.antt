-- Laws of delays: each is the contract of a function that does nothing.
use Rattle.std.specs.Prelude.{◌≡◌, []}
use Rattle.cb_model.specs.Text.{Text}
use Rattle.cb_model.specs.Output.{Loaded, IsLoaded}
use Rattle.cb_sorts.specs.Source.{Source}
use Rattle.cb_sorts.specs.Asked.{Asked}
use Rattle.cb_sorts.specs.OverFile.{asked_program}
use Rattle.cb_ready.specs.Ready.{HasFewWords}

-- in the program of an accepted file, also with the names of a query, no name has more delay words than arguments
abbrev pub AcceptedHaveFewWords : Type 0
AcceptedHaveFewWords = (file : Text) (l : Loaded) (s : Source) (a : Asked) → IsLoaded file l → l.declared ≡ s.declared → HasFewWords (asked_program s a [])
