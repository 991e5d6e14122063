-- The test of a whole book by counting, as its calls tell it: by `counted-sound` it gives the answer of `sound_book`. Assumes nothing.
--     book-uneven  the transmit queues leave another number than four for each recorded length: not sound
--     book-rest    that number: sound where the receive queues leave none
use Prim.Native.Nat.{ℕ, ◌*◌}
use mathlib.Core.Path.{◌≡◌, ap, ◌∙◌, sym}
use mathlib.Core.Bool.{Bool, true, false}
use mathlib.Core.List.{List}
use mathlib.Core.Logic.{◌≢◌}
use lib.ListN.{length}
use lib.Dec.{eqb}
use borrow.Author.Tests.{eq-eqb, ne_eqb}
use Rattle.layout.specs.Choice.{both}
use Rattle.layout.specs.Layout.{desc_words}
use Rattle.layout.proofs.ChoiceLaws.{no-left}
use Rattle.words.specs.WordSet.{empty_set, words_in_use}
use Rattle.registers.specs.Table.{heads_of, flags_fit}
use Rattle.book.specs.World.{sound_book}
use Rattle.soundness.specs.Spent.{SOut, words_to_meet, transmit_left, receive_left, counted_sound}
use Rattle.soundness.proofs.CountedLaws.{counted-sound}

module _ (w : ℕ → ℕ) (t used lens : List ℕ) (f : flags_fit t ≡ true) (lu : length used ≡ desc_words) (ll : length lens ≡ desc_words) where
  book-counted : counted_sound w (heads_of t) used lens ≡ sound_book w t used lens
  unfolding sound_book
  book-counted = counted-sound w (heads_of t) used lens lu ll ∙ simp f

  module _ {words lengths left : ℕ} {s v : List ℕ} (c : words ≡ words_to_meet used) (l : lengths ≡ words_in_use lens) (e : s ≡ empty_set)
      (m : (left, v) ≡ transmit_left w (heads_of t) used s words) where
    -- the test, once the transmit queues are walked
    abbrev from : ℕ → SOut → Bool
    from n r = both (eqb r.0 (4 * n)) (eqb (receive_left w (heads_of t) used lens r.1 r.0).0 0)

    left_is : (left, v) ≡ transmit_left w (heads_of t) used empty_set (words_to_meet used)
    left_is =
        m
        ∙ ap (λ (x : List ℕ). transmit_left w (heads_of t) used x words) e
        ∙ ap (λ (n : ℕ). transmit_left w (heads_of t) used empty_set n) c

    by_count : from lengths (left, v) ≡ sound_book w t used lens
    unfolding counted_sound
    by_count = ap (λ (n : ℕ). from n (left, v)) l ∙ ap (from (words_in_use lens)) left_is ∙ book-counted

    pub book-uneven : left ≢ 4 * lengths → false ≡ sound_book w t used lens
    book-uneven n = sym (no-left _ (ne_eqb left (4 * lengths) n)) ∙ by_count

    pub book-rest : {k : ℕ} {x : List ℕ} → left ≡ 4 * lengths → (k, x) ≡ receive_left w (heads_of t) used lens v left
        → eqb k 0 ≡ sound_book w t used lens
    book-rest z d =
        ap (λ (r : SOut). eqb r.0 0) d
        ∙ ap (λ (b : Bool). both b (eqb (receive_left w (heads_of t) used lens v left).0 0)) (sym (eq-eqb left (4 * lengths) z))
        ∙ by_count
