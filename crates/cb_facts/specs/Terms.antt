-- So many terms.
use Rattle.std.specs.Prelude.{Option, Some, None}
use Rattle.cb_model.specs.Grammar.{Form, Forms, Closed, Last, More}

-- the elements of a list without a tail
abbrev pub elements_in : Form → Option Forms
elements_in (Closed fs) = Some fs
elements_in _ = None

-- two terms
abbrev pub two_in : Forms → Option (Form × Form)
two_in (More f (More g Last)) = Some (f, g)
two_in _ = None

-- three terms
abbrev pub three_in : Forms → Option (Form × Form × Form)
three_in (More f (More g (More h Last))) = Some (f, g, h)
three_in _ = None

-- four terms
abbrev pub four_in : Forms → Option (Form × Form × Form × Form)
four_in (More f (More g (More h (More k Last)))) = Some (f, g, h, k)
four_in _ = None
