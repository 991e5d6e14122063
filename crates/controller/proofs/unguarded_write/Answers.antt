-- `controller::unguarded_write` meets its contract: the record by value, as the one that is lent. Assumes nothing.
use mathlib.Core.Path.{◌∙◌}
use Rattle.controller.proofs.unguarded_write.Goals as goal

pub returns : goal.returns
returns c = c.give.ensures _ ∙ c.write-answer.ensures
