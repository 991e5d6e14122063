-- `player::replay_file` meets its contract: a fresh machine, and the first bytes read. Assumes nothing.
use Rattle.std.proofs.Common.{refl}
use Rattle.std.proofs.lemmas.Result.{IfOk-weaker}
use Rattle.layout.proofs.ChoiceLaws.{clash}
use Rattle.player.proofs.StreamLaws.{written}
use Rattle.player.proofs.replay_file.Goals as goal

pub returns-clause-written : goal.returns-clause-written
returns-clause-written g c =
    IfOk-weaker c.play_input.result _ _
    (λ r p. written _ _ _ _ _ _ _ _ r c.in_ok-w.ensures.read (c.in_ok-w.ensures.right (λ e. clash e refl)) p)
    c.play_input.ensures.on
