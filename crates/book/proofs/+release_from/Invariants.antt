-- `book::release_from` has fewer words in use at each call, and is one step and the release from where that goes. Assumes nothing.
use Rattle.words.specs.WordSet.{words_in_use}
use Rattle.book.proofs.+release_from.Given as goal

abbrev pub decreases-release_from : goal.decreases-release_from
decreases-release_from l = words_in_use l.used.now
