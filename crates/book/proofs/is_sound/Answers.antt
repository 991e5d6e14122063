-- `book::is_sound` makes the four tests of soundness in their order. Assumes nothing.
use Rattle.std.proofs.Common.{sym, ◌∙◌}
use borrow.Author.Tests.{not-true, not-false}
use Rattle.book.proofs.SoundLaws.{same_list-is, sound-flags, sound-walk, sound-words, sound-lengths}
use Rattle.book.proofs.is_sound.Goals as goal

pub returns-then-not-are_flags : goal.returns-then-not-are_flags
returns-then-not-are_flags c = sound-flags _ _ _ _ (sym c.are_flags.ensures ∙ c.if-not-are_flags.true)

pub returns-then-not-walk_heads : goal.returns-then-not-walk_heads
returns-then-not-walk_heads c = sound-walk _ _ _ _
    (sym c.are_flags.ensures ∙ c.if-not-are_flags.false)
    c.clear_all.ensures
    c.walk_heads.ensures
    (c.if-not-walk_heads.true)

pub returns-then-ne : goal.returns-then-ne
returns-then-ne c = sound-words _ _ _ _
    (sym c.are_flags.ensures ∙ c.if-not-are_flags.false)
    c.clear_all.ensures
    c.walk_heads.ensures
    c.if-not-walk_heads.false
    (same_list-is c.walk_heads.new.met c.args.used.now)
    (not-true _ (sym c.ne.ensures ∙ c.if-ne.true))

pub returns : goal.returns
returns c = sound-lengths _ _ _ _
    (sym c.are_flags.ensures ∙ c.if-not-are_flags.false)
    c.clear_all.ensures
    c.walk_heads.ensures
    c.if-not-walk_heads.false
    (same_list-is c.walk_heads.new.met c.args.used.now)
    (not-false _ (sym c.ne.ensures ∙ c.if-ne.false))
    c.clear_all-2.ensures
    c.note_heads.ensures
    c.lengths_fit.ensures
