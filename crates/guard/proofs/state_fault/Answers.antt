-- `guard::state_fault`: 1, then 2. Assumes nothing.
use Rattle.std.proofs.Common.{ℕ, List, ap, ◌∙◌}
use Rattle.words.specs.Word.{word}
use Rattle.book.specs.World.{sound_book}
use Rattle.guard.proofs.GivesLaws.{parts-size, state-1, state-2, state-0}
use Rattle.guard.proofs.state_fault.Goals as goal

pub returns-then-not-is_fit : goal.returns-then-not-is_fit
returns-then-not-is_fit c = state-1 _ _ _ _ _ c.is_fit.ensures c.if-not-is_fit.true

pub unwrap-requires : goal.unwrap-requires
unwrap-requires c = c.as_array.ensures.variant.1 (parts-size _ _ c.is_fit.ensures c.if-not-is_fit.false)

pub returns-then-not-is_sound_book : goal.returns-then-not-is_sound_book
returns-then-not-is_sound_book c =
    let a = c.args in
    let e = rw c.unwrap.ensures at c.as_array.ensures.cases in
    state-2 _ _ _ _ _ c.is_fit.ensures c.if-not-is_fit.false
    (c.is_sound_book.ensures ∙ ap (λ (x : List ℕ). sound_book (word x) a.t.now a.used.now a.lens.now) e.same)
    c.if-not-is_sound_book.true

pub returns : goal.returns
returns c =
    let a = c.args in
    let e = rw c.unwrap.ensures at c.as_array.ensures.cases in
    state-0 _ _ _ _ _ c.is_fit.ensures c.if-not-is_fit.false
    (c.is_sound_book.ensures ∙ ap (λ (x : List ℕ). sound_book (word x) a.t.now a.used.now a.lens.now) e.same)
    c.if-not-is_sound_book.false
