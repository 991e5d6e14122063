-- `chain::check_single`: the fault of the one descriptor is the chain's. Assumes nothing.
use Rattle.chain.proofs.HandLaws.{single_16}
use Rattle.chain.proofs.check_single.Goals as goal

pub verdict_at-requires : goal.verdict_at-requires
verdict_at-requires c = single_16 c.args.kinds.now _ _ c.args.used.now _ _ _ c.first_place.ensures c.fault_in_use-found.ensures
