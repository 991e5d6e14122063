-- `guard::check_used`: one descriptor by itself, or the words met begin with the words in use. Assumes nothing.
use Rattle.std.proofs.Common.{sym, ◌∙◌}
use Rattle.guard.proofs.ChainLaws.{number-single, number-chain}
use Rattle.guard.proofs.check_used.Goals as goal

pub check_single-requires : goal.check_single-requires
check_single-requires c = sym c.is_single.ensures ∙ c.if-is_single.true

pub returns-then-is_single : goal.returns-then-is_single
returns-then-is_single c = number-single _ _ _ _ _ c.check_single.ensures c.refusal.ensures

pub returns : goal.returns
returns c = number-chain _ _ _ _ _ c.copy_set.ensures c.check_chain.ensures c.refusal-2.ensures
