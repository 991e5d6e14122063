-- `guard::judge_word`: a free word, 11, or an append. Assumes nothing.
use Rattle.std.proofs.Common.{sym, ◌∙◌}
use Rattle.guard.proofs.GivesLaws.{word-free, word-busy, word-zero, word-last}
use Rattle.guard.proofs.judge_word.Goals as goal
use Rattle.guard.proofs.judge_word.Goals.{then-word_of-ne0-via-then-word_of-ne0, then-word_of-ne0-via-else-word_of-ne0+then-v-eq0}

pub returns-then-not-is_used : goal.returns-then-not-is_used
returns-then-not-is_used c = word-free _ _ _ _ _ _ _ (sym c.is_used.ensures ∙ c.if-not-is_used.true) c.put_at.ensures

pub returns-then-word_of-ne0 : goal.returns-then-word_of-ne0
returns-then-word_of-ne0 c =
    let h = sym c.is_used.ensures ∙ c.if-not-is_used.false in
    elim c.then-word_of-ne0.branch [
      | then-word_of-ne0-via-then-word_of-ne0 w ↦ word-busy _ _ _ _ _ _ _ h (λ z. w.if-word_of-ne0.true (c.word_of.ensures ∙ z))
      | then-word_of-ne0-via-else-word_of-ne0+then-v-eq0 w ↦
          word-zero _ _ _ _ _ _ _ h (sym c.word_of.ensures ∙ w.if-word_of-ne0.false) w.if-v-eq0.true
    ]

pub returns : goal.returns
returns c = word-last _ _ _ _ _ _ _ (sym c.is_used.ensures ∙ c.if-not-is_used.false) (sym c.word_of.ensures ∙ c.if-word_of-ne0.false)
    c.if-v-eq0.false c.judge_last.ensures
