-- `guard::release_any`: a quiet book needs no release. Assumes nothing.
use Rattle.std.proofs.Common.{sym, ◌∙◌}
use Rattle.book.proofs.QuietLaws.{release-quiet}
use Rattle.book.proofs.ReleaseLaws.{release-parts}
use Rattle.guard.proofs.release_any.Goals as goal

pub returns-then-not-is_quiet : goal.returns-then-not-is_quiet
returns-then-not-is_quiet c = λ k. sym (release-parts _ c.release_book.ensures)

pub returns-else-not-is_quiet : goal.returns-else-not-is_quiet
returns-else-not-is_quiet c = λ k. release-quiet _ (sym c.is_quiet.ensures ∙ c.if-not-is_quiet.false)
