-- `replay::show` meets its contract: the line of what happened, and the controller as it was. Assumes nothing.
use Rattle.replay.proofs.PlayLaws.{line-end}
use Rattle.records.proofs.LineLaws.{length-line_of}
use Rattle.replay.proofs.show.Goals as goal

pub returns-clause-end_bound : goal.returns-clause-end_bound
returns-clause-end_bound c = line-end c.put_event.ensures (length-line_of _)
