-- The bench's example of document 01, computed: what is printed for its input, byte for byte. Assumes nothing.
use mathlib.Core.Path.{◌≡◌, refl}
use Rattle.phases.specs.Engines.{engine_at}
use Rattle.records.specs.Records.{decode_ram, engine_of, decode_later, decode}
use Rattle.records.specs.Lines.{decimal, hex8, line_of, sent_line, bad_line}
use Rattle.replay.specs.Replay.{record_of, replay}
use Rattle.cases.specs.Example.{example_in, example_out}
use Rattle.cases.proofs.Computing.{computing}

pub example : replay example_in ≡ example_out
unfolding computing engine_at decode_ram engine_of decode_later decode decimal hex8 line_of sent_line bad_line record_of replay
example = refl
