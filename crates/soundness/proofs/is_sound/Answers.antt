-- `soundness::is_sound` counts, then makes its tests in their order. Assumes nothing.
use mathlib.Core.Path.{sym, ◌∙◌}
use borrow.Author.Tests.{ne_eqb}
use Rattle.book.proofs.SoundLaws.{sound-flags}
use Rattle.soundness.proofs.BookLaws.{book-uneven, book-rest}
use borrow.Author.Rules.{rules}
use Rattle.soundness.proofs.is_sound.Goals as goal

pub returns-then-not-are_flags : goal.returns-then-not-are_flags
returns-then-not-are_flags c = sound-flags _ _ _ _ (sym c.are_flags.ensures ∙ c.if-not-are_flags.true)

pub returns-else-received-lengths : goal.returns-else-received-lengths
returns-else-received-lengths c = ne_eqb _ _ c.if-received-lengths.false ∙ book-uneven _ _ _ _
    (sym c.are_flags.ensures ∙ c.if-not-are_flags.false)
    (search rules)
    (search rules)
    c.count_words-words.ensures
    c.count_lengths-lengths.ensures.0
    c.clear_all.ensures
    c.walk_heads-received.ensures
    c.if-received-lengths.false

pub returns-then-received-lengths : goal.returns-then-received-lengths
returns-then-received-lengths c = book-rest _ _ _ _
    (sym c.are_flags.ensures ∙ c.if-not-are_flags.false)
    (search rules)
    (search rules)
    c.count_words-words.ensures
    c.count_lengths-lengths.ensures.0
    c.clear_all.ensures
    c.walk_heads-received.ensures
    c.if-received-lengths.true
    c.walk_heads.ensures
