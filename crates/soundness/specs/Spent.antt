-- Whether a book is sound, by counting. The words in use are counted first; each descriptor of each queue then takes four of them
-- away, and must be over words that are in use and not met before. The transmit queues go first: they leave four words for each
-- recorded length. Then the receive queues, whose descriptors must each have one, leave none. So the words met are exactly those in use,
-- and no length is recorded elsewhere. Law: `counted-sound` (proofs/CountedLaws.antt), the same answer as `sound`
-- (book/specs/Sound.antt), which follows document 01.
--     all_ones u              no entry is over 1
--     words_to_meet u          how many words are in use; lost where some entry is over 1
--     ask_words, ask_buffer    what is asked of the descriptor at word d: its words; on receive its recorded length too
--     ask_of side               which of the two a queue asks, by its side
--     lost                   what is left where a walk is not as it should be: no walk ends with a multiple of four left from there
--     spend_step, spent_from w ask s p left   the chain from p, four taken away for each descriptor: what is left, and the words met
--     spent_all               the same for each head in turn
--     transmit_heads, receive_heads   the heads of even number, and of odd number
--     transmit_left, receive_left     what the queues of a side leave
--     heads_at side, left_of side     the same for either side
--     counted_sound           the whole test
-- Assumes nothing: these are definitions.
use Rattle.std.specs.Prelude.{ℕ, ◌*◌, ◌-◌, Bool, true, List, [], ◌∷◌, get_or, eqb, leb}
use Rattle.layout.specs.Choice.{pick, both}
use Rattle.layout.specs.Run.{Next, go, stop, run}
use Rattle.layout.specs.Layout.{good_ptr, word_of, length_max}
use Rattle.layout.specs.declared.Side.{Side}
use Rattle.layout.specs.declared.Side.TheVariants.{Transmit, Receive}
use Rattle.words.specs.WordSet.{empty_set, free_at, used_at, add_four, words_in_use}

abbrev pub lost : ℕ
lost = 1

abbrev pub all_ones : List ℕ → Bool
all_ones [] = true
all_ones (x ∷ u) = both (leb x 1) (all_ones u)

unfoldable pub words_to_meet : List ℕ → ℕ
words_to_meet used = pick (all_ones used) (words_in_use used) lost

abbrev pub ask_words : List ℕ → List ℕ → ℕ → Bool
ask_words used met d = both (free_at met d) (used_at used d)

abbrev pub ask_length : List ℕ → ℕ → Bool
ask_length lens d = both (leb 1 (get_or lens d 0)) (leb (get_or lens d 0) length_max)

abbrev pub ask_buffer : List ℕ → List ℕ → List ℕ → ℕ → Bool
ask_buffer used lens met d = both (ask_words used met d) (ask_length lens d)

abbrev pub ask_of : Side → List ℕ → List ℕ → List ℕ → ℕ → Bool
ask_of Transmit used lens = ask_words used
ask_of Receive used lens = ask_buffer used lens

-- the words met, where the walk is, and how many are left
abbrev pub SSt : Type 0
SSt = List ℕ × ℕ × ℕ

abbrev pub SOut : Type 0
SOut = ℕ × List ℕ

unfoldable pub spend_step : (ℕ → ℕ) → (List ℕ → ℕ → Bool) → SSt → Next SSt SOut
spend_step w ask s =
    pick (eqb s.1 0) (stop (s.2, s.0))
    (pick (both (good_ptr s.1) (both (leb 4 s.2) (ask s.0 (word_of s.1))))
    (go (add_four s.0 (word_of s.1), w (word_of s.1), s.2 - 4))
    (stop (lost, s.0)))

unfoldable pub spent_from : (ℕ → ℕ) → (List ℕ → ℕ → Bool) → List ℕ → ℕ → ℕ → SOut
spent_from w ask s p left = run (spend_step w ask) (λ x. (x.2, x.0)) (λ x. x.2) (s, p, left)

abbrev pub spent_all : (ℕ → ℕ) → (List ℕ → ℕ → Bool) → List ℕ → List ℕ → ℕ → SOut
spent_all w ask [] s left = (left, s)
spent_all w ask (h ∷ hs) s left =
    let c = spent_from w ask s h left in
    spent_all w ask hs c.1 c.0

abbrev pub transmit_heads : List ℕ → List ℕ
transmit_heads [] = []
transmit_heads (t ∷ []) = t ∷ []
transmit_heads (t ∷ r ∷ hs) = t ∷ transmit_heads hs

abbrev pub receive_heads : List ℕ → List ℕ
receive_heads [] = []
receive_heads (t ∷ []) = []
receive_heads (t ∷ r ∷ hs) = r ∷ receive_heads hs

abbrev pub transmit_left : (ℕ → ℕ) → List ℕ → List ℕ → List ℕ → ℕ → SOut
transmit_left w heads used met left = spent_all w (ask_words used) (transmit_heads heads) met left

abbrev pub receive_left : (ℕ → ℕ) → List ℕ → List ℕ → List ℕ → List ℕ → ℕ → SOut
receive_left w heads used lens met left = spent_all w (ask_buffer used lens) (receive_heads heads) met left

abbrev pub heads_at : Side → List ℕ → List ℕ
heads_at Transmit hs = transmit_heads hs
heads_at Receive hs = receive_heads hs

-- the same for either side
abbrev pub left_of : Side → (ℕ → ℕ) → List ℕ → List ℕ → List ℕ → List ℕ → ℕ → SOut
left_of side w heads used lens met left = spent_all w (ask_of side used lens) (heads_at side heads) met left

unfoldable pub counted_sound : (ℕ → ℕ) → List ℕ → List ℕ → List ℕ → Bool
counted_sound w heads used lens =
    let t = transmit_left w heads used empty_set (words_to_meet used) in
    both (eqb t.0 (4 * words_in_use lens)) (eqb (receive_left w heads used lens t.1 t.0).0 0)
