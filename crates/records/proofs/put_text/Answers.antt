-- `records::put_text` copies the text over the part where it is to stand. Assumes nothing.
use Rattle.records.proofs.PrintLaws.{prints-part}
use Rattle.records.proofs.put_text.Goals as goal

pub returns : goal.returns
returns c = prints-part c.copy_from_slice.ensures.after c.requires
