-- `chain::start_rule` and `chain::middle_rule` call each other along the transmit chain; the words not yet met fall at each call.
use Rattle.words.specs.WordSet.{view, free_count}
use Rattle.chain.proofs.+middle_rule_start_rule.Given as goal

abbrev pub decreases-middle_rule : goal.decreases-middle_rule
decreases-middle_rule l = free_count (view l.met.now)

abbrev pub decreases-start_rule : goal.decreases-start_rule
decreases-start_rule l = free_count (view l.met.now)
