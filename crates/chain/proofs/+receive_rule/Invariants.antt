-- `chain::receive_rule` goes along the receive chain; the words not yet met fall at each call. Assumes nothing.
use Rattle.words.specs.WordSet.{view, free_count}
use Rattle.chain.proofs.+receive_rule.Given as goal

abbrev pub decreases-receive_rule : goal.decreases-receive_rule
decreases-receive_rule l = free_count (view l.met.now)
