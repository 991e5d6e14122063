-- `records::decode_record`: the tests of the definition, in its order. Assumes nothing.
use mathlib.Core.Path.{sym}
use borrow.Author.Tests.{false-eqb}
use Rattle.std.proofs.Common.{rules}
use Rattle.records.specs.Records.{decode}
use Rattle.records.proofs.RecordLaws.{later-is}
use Rattle.records.proofs.decode_record.Goals as goal

pub returns-then-is_empty : goal.returns-then-is_empty
unfolding decode
returns-then-is_empty c = simp (c.if-first.false, sym c.is_empty.ensures, c.if-is_empty.true)

pub returns : goal.returns
returns c = rw (c.if-first.false, sym (later-is c.args.bs.now (false-eqb _ _ c.if-is_empty.ensures))) (search rules)
