-- `words::four_used` reads the four entries as one number: bytes that are all 1 are one number alone. Assumes nothing.
use Rattle.words.proofs.SetLaws.{used_at-number}
use native.Mathlib.Omega.{arith}
use Rattle.words.proofs.four_used.Goals as goal

pub returns : goal.returns
returns c = used_at-number _ _ _ (λ k. omega (arith, c.type_inv.s k)) c.read_word.ensures
