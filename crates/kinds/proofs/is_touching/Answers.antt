-- `kinds::is_touching`: a length of 0 is none, and the last words begin no descriptor. Assumes nothing.
use Rattle.std.proofs.Common.{sym, arith}
use Rattle.kinds.proofs.KindLaws.{touching-none, touches-past}
use Rattle.kinds.proofs.is_touching.Goals as goal
use Rattle.kinds.proofs.is_touching.Goals.{then-n-eq0-via-then-n-eq0, then-n-eq0-via-else-n-eq0+then-i-ge-LAST_WORD}

pub returns-then-n-eq0 : goal.returns-then-n-eq0
returns-then-n-eq0 c =
    elim c.then-n-eq0.branch [
      | then-n-eq0-via-then-n-eq0 w ↦ touching-none _ _ _ w.if-n-eq0.true
      | then-n-eq0-via-else-n-eq0+then-i-ge-LAST_WORD w ↦
          sym (touches-past _ _ _ _ c.told-m (omega arith) (omega (arith, w.if-i-ge-LAST_WORD.true)))
    ]
