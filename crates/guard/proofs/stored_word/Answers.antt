-- `guard::stored_word`: in descriptor memory, a multiple of 4, not in use, and a quiet book; where one of these fails, no plain store.
-- Assumes nothing.
use Rattle.std.proofs.Common.{sym, ◌∙◌}
use Rattle.guard.proofs.JudgeLaws.{word-found, word-nowhere}
use Rattle.guard.proofs.GivesLaws.{store-here, store-nowhere, store-used, store-unquiet}
use Rattle.guard.proofs.stored_word.Goals as goal

pub returns-in_err-k : goal.returns-in_err-k
returns-in_err-k c = rw c.from_residual.ensures (store-nowhere _ _ _ _ (word-nowhere _ c.in_err-k.ensures))

pub is_used-requires : goal.is_used-requires
is_used-requires c = (word-found _ _ c.in_ok-k.ensures).3

pub returns-then-is_used : goal.returns-then-is_used
returns-then-is_used c =
    store-used _ _ _ _ _ (word-found _ _ c.in_ok-k.ensures).2 (sym c.is_used.ensures ∙ c.if-is_used.true)

pub returns-then-is_quiet : goal.returns-then-is_quiet
returns-then-is_quiet c =
    let f = word-found _ _ c.in_ok-k.ensures in
    (f.2, f.3, store-here _ _ _ _ _ f.0 f.2 f.1 (sym c.is_used.ensures ∙ c.if-is_used.false) (sym c.is_quiet.ensures ∙ c.if-is_quiet.true))

pub returns-else-is_quiet : goal.returns-else-is_quiet
returns-else-is_quiet c = store-unquiet _ _ _ _ (sym c.is_quiet.ensures ∙ c.if-is_quiet.false)
