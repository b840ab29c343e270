use Rattle.std.proofs.Common.{refl}
use Rattle.cb_model.specs.Refusals.{file_too_long}
use Rattle.cb_accept.proofs.Accepting.{file-done, file-long}
use Rattle.cb_accept.proofs.load_file.Goals as goal

pub returns-in-Done-clause-loaded : goal.returns-in-Done-clause-loaded
returns-in-Done-clause-loaded g c = record { short = c.in-Done.ensures.length; told = file-done _ c.args.name.now c.load.new.into.items c.in-Done.ensures.bytes }

pub returns-in-Long-clause-refused : goal.returns-in-Long-clause-refused
returns-in-Long-clause-refused g c =
    (file_too_long, (file-long _ c.args.name.now c.load.new.into.items c.in-Long.ensures.bytes c.in-Long.ensures.length file_too_long refl, record { line = refl; number = refl }))
