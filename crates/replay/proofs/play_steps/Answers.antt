-- `replay::play_steps` meets its contract: one step behind another. Assumes nothing.
use native.Mathlib.Numerals.{add-one}
use native.Mathlib.Omega.{arith}
use Rattle.replay.proofs.PlayLaws.{goes_none, goes-more}
use Rattle.replay.proofs.play_steps.Goals as goal

pub loop-init : goal.loop-init
loop-init c = record { room = omega arith; made = goes_none c.args.e c.args.c _ _ _ }

pub loop-preserved : goal.loop-preserved
loop-preserved c = record {
  room = omega (arith, c.play_step-ran.ensures.end_bound);
  made = goes-more _ _ _ (add-one _) _ _ _ _ _ _ _ _ _ _ c.loop.invariant.made c.play_step-ran.ensures.goes;
}
