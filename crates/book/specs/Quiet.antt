-- When the release finds nothing to do. Document 01, "The book and the release".
--     held w p        the queue with the head p keeps all its descriptors: it is empty, or p names one that is still the controller's
--     held_all w hs    each queue does
--     quiet w t       neither reset nor teardown is pending, and each queue is held
-- Law: proofs/QuietLaws.antt, `release-quiet`. Assumes nothing: these are definitions.
use Rattle.std.specs.Prelude.{ℕ, ◌+◌, Bool, true, false, not, List, [], ◌∷◌, eqb}
use Rattle.layout.specs.Choice.{pick, both}
use Rattle.layout.specs.Layout.{good_ptr, word_of}
use Rattle.descriptor.specs.Fields.{owner, td}
use Rattle.registers.specs.Table.{heads_of, reset_of, any_tearing}

-- "TD set at the head, the whole queue goes. .. OWNER set stops."
unfoldable pub held : (ℕ → ℕ) → ℕ → Bool
held w p = pick (eqb p 0) true (pick (good_ptr p) (pick (td (w (word_of p + 3))) false (owner (w (word_of p + 3)))) false)

abbrev pub held_all : (ℕ → ℕ) → List ℕ → Bool
held_all w [] = true
held_all w (h ∷ hs) = both (held w h) (held_all w hs)

unfoldable pub quiet : (ℕ → ℕ) → List ℕ → Bool
quiet w t = both (not (reset_of t)) (both (not (any_tearing t)) (held_all w (heads_of t)))
