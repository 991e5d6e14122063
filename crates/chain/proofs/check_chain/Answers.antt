-- `chain::check_chain` takes the rules' number apart: its low byte is the number of a refusal, the place that the rules name is a word, and
-- with 16 the descriptor there has its length in order. Assumes nothing.
use native.Mathlib.Omega.{arith}
use Rattle.chain.proofs.HandLaws.{follow_number, follow_place, follow_measured, verdict_told}
use Rattle.chain.proofs.check_chain.Goals as goal

pub numbered-found-requires : goal.numbered-found-requires
numbered-found-requires c = follow_number _ _ _ _ _ _ _ c.follow-v.ensures c.fits-m c.ranges.at.fits

pub overflow_cast-v-2 : goal.overflow_cast-v-2
overflow_cast-v-2 c = omega (arith, follow_place _ _ _ _ _ _ _ c.follow-v.ensures c.fits-m c.ranges.at.fits)

pub verdict_at-requires : goal.verdict_at-requires
verdict_at-requires c = follow_measured _ _ _ _ _ _ _ c.follow-v.ensures c.fits-m c.ranges.at.fits _ c.numbered-found.ensures

pub returns : goal.returns
returns c = verdict_told _ _ _ _ _ _ _ c.follow-v.ensures _ c.numbered-found.ensures _ c.verdict_at.ensures
