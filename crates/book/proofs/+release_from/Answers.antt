-- `book::release_from` has fewer words in use at each call, and is one step and the release from where that goes. Assumes nothing.
use Rattle.std.proofs.Common.{◌∙◌}
use Rattle.book.proofs.ReleaseLaws.{released-on, released-over, released-falls}
use Rattle.book.proofs.+release_from.Goals as goal

pub release_from-requires : goal.release_from-requires
release_from-requires t c = (rw (← c.decreases) (released-falls _ _ _ _ c.in-Some.ensures), tt)

pub returns-in-None : goal.returns-in-None
returns-in-None t c = released-over _ _ _ _ c.in-None.ensures

pub returns-in-Some : goal.returns-in-Some
returns-in-Some t c = c.release_from.ensures ∙ released-on _ _ _ _ c.in-Some.ensures
