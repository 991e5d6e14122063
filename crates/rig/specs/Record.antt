-- The controller record as a caller in C lends it: five arrays, of which two are the record's own.
--     Parts, parts         the table, the stages, a row of words for each transmit engine, a row for each receive engine, the rest
--     sending_in, receiving_in w     the phase that a row holds: its tag, then its numbers
--     channels_in t r       the channels that the rows hold
--     controller_in p       the record that the parts hold
--     sending_words, receiving_words     a phase in a row: its tag, then its numbers, 0 for those that it does not use
--     burst_words           a burst in three words: 0 none, 1 read, 2 store; address; bytes
--     saved_in p k          the parts with the record k put in
-- A transmit row: tag, sop, word3, sum, at, left, next, eop. A receive row: tag, first, stored, left, at, room, here, next, overrun.
-- The rest: sent, received, undefined. The order of tests/PROBE.md.
-- Assumes nothing: these are definitions.
use Rattle.std.specs.Prelude.{ℕ, zero, suc, Bool, true, false, List, [], ◌∷◌, get_or, set, eqb}
use Rattle.layout.specs.Choice.{pick}
use Rattle.layout.specs.Layout.{channels}
use Rattle.phases.specs.declared.Sending.{Sending}
use Rattle.phases.specs.declared.Sending.TheVariants as S
use Rattle.phases.specs.declared.Receiving.{Receiving}
use Rattle.phases.specs.declared.Receiving.TheVariants as R
use Rattle.phases.specs.declared.Burst.{Burst}
use Rattle.phases.specs.declared.Burst.TheVariants.{Quiet, Read, Store}
use Rattle.controller.specs.declared.Channel.{Channel}
use Rattle.controller.specs.declared.Controller.{Controller}
use Rattle.controller.specs.Controller.{idle_channel, idle_channels}

pub record Parts : Type 0 where
  pub state : List ℕ
  pub stages : List ℕ
  pub tx : List (List ℕ)
  pub rx : List (List ℕ)
  pub rest : List ℕ

abbrev pub parts : List ℕ → List ℕ → List (List ℕ) → List (List ℕ) → List ℕ → Parts
parts s g t r n = record { state = s; stages = g; tx = t; rx = r; rest = n }

abbrev pub at : List ℕ → ℕ → ℕ
at w k = get_or w k 0

abbrev pub is_set : ℕ → Bool
is_set n = eqb n 1

abbrev pub flag_word_of : Bool → ℕ
flag_word_of true = 1
flag_word_of false = 0

-- ---- the record that the parts hold

unfoldable pub sending_by : ℕ → List ℕ → Sending
sending_by n w =
    pick (eqb n 0) S.Idle
    (pick (eqb n 1) S.New
    (pick (eqb n 2) (S.Within (record { sop = at w 1; word3 = at w 2; sum = at w 3 }))
    (pick (eqb n 3)
    (S.Moving (record {
      sop = at w 1;
      word3 = at w 2;
      sum = at w 3;
      at = at w 4;
      left = at w 5;
      next = at w 6;
      eop = is_set (at w 7);
    }))
    (pick (eqb n 4) (S.Ended (record { sop = at w 1; word3 = at w 2; sum = at w 3; next = at w 6; eop = is_set (at w 7) }))
    (pick (eqb n 5) (S.Marking (record { sop = at w 1; word3 = at w 2; next = at w 6 }))
    (pick (eqb n 6) (S.Owning (record { sop = at w 1; word3 = at w 2; next = at w 6 })) (S.Done (record { next = at w 6 }))))))))

unfoldable pub receiving_by : ℕ → List ℕ → Receiving
receiving_by n w =
    pick (eqb n 0) R.Idle
    (pick (eqb n 1) R.Wait
    (pick (eqb n 2) (R.Fetch (record { first = at w 1; stored = at w 2; left = at w 3 }))
    (pick (eqb n 3)
    (R.Moving (record { first = at w 1; stored = at w 2; left = at w 3; at = at w 4; room = at w 5; here = at w 6 }))
    (pick (eqb n 4) (R.Ended (record { first = at w 1; stored = at w 2; left = at w 3; room = at w 5; here = at w 6 }))
    (pick (eqb n 5)
    (R.Last (record { first = at w 1; stored = at w 2; here = at w 6; next = at w 7; overrun = is_set (at w 8) }))
    (pick (eqb n 6)
    (R.First (record { first = at w 1; stored = at w 2; here = at w 6; next = at w 7; overrun = is_set (at w 8) }))
    (R.Done (record { next = at w 7 }))))))))

abbrev pub sending_in : List ℕ → Sending
sending_in w = sending_by (at w 0) w

abbrev pub receiving_in : List ℕ → Receiving
receiving_in w = receiving_by (at w 0) w

abbrev pub channel_in : List ℕ → List ℕ → Channel
channel_in t r = record { tx = sending_in t; rx = receiving_in r }

-- the first n channels as the rows hold them, the others idle
abbrev pub channels_to : ℕ → List (List ℕ) → List (List ℕ) → List Channel
channels_to zero t r = idle_channels
channels_to (suc n) t r = set (channels_to n t r) n (channel_in (get_or t n []) (get_or r n []))

abbrev pub channels_in : List (List ℕ) → List (List ℕ) → List Channel
channels_in t r = channels_to channels t r

unfoldable pub controller_in : Parts → Controller
controller_in p = record {
  state = p.state;
  stages = p.stages;
  channels = channels_in p.tx p.rx;
  undefined = is_set (at p.rest 2);
  sent = at p.rest 0;
  received = at p.rest 1;
}

-- ---- a record put into the parts

abbrev pub sending_words : Sending → List ℕ
sending_words S.Idle = 0 ∷ 0 ∷ 0 ∷ 0 ∷ 0 ∷ 0 ∷ 0 ∷ 0 ∷ []
sending_words S.New = 1 ∷ 0 ∷ 0 ∷ 0 ∷ 0 ∷ 0 ∷ 0 ∷ 0 ∷ []
sending_words (S.Within p) = 2 ∷ p.sop ∷ p.word3 ∷ p.sum ∷ 0 ∷ 0 ∷ 0 ∷ 0 ∷ []
sending_words (S.Moving r) = 3 ∷ r.sop ∷ r.word3 ∷ r.sum ∷ r.at ∷ r.left ∷ r.next ∷ flag_word_of r.eop ∷ []
sending_words (S.Ended e) = 4 ∷ e.sop ∷ e.word3 ∷ e.sum ∷ 0 ∷ 0 ∷ e.next ∷ flag_word_of e.eop ∷ []
sending_words (S.Marking e) = 5 ∷ e.sop ∷ e.word3 ∷ 0 ∷ 0 ∷ 0 ∷ e.next ∷ 0 ∷ []
sending_words (S.Owning e) = 6 ∷ e.sop ∷ e.word3 ∷ 0 ∷ 0 ∷ 0 ∷ e.next ∷ 0 ∷ []
sending_words (S.Done e) = 7 ∷ 0 ∷ 0 ∷ 0 ∷ 0 ∷ 0 ∷ e.next ∷ 0 ∷ []

abbrev pub receiving_words : Receiving → List ℕ
receiving_words R.Idle = 0 ∷ 0 ∷ 0 ∷ 0 ∷ 0 ∷ 0 ∷ 0 ∷ 0 ∷ 0 ∷ []
receiving_words R.Wait = 1 ∷ 0 ∷ 0 ∷ 0 ∷ 0 ∷ 0 ∷ 0 ∷ 0 ∷ 0 ∷ []
receiving_words (R.Fetch f) = 2 ∷ f.first ∷ f.stored ∷ f.left ∷ 0 ∷ 0 ∷ 0 ∷ 0 ∷ 0 ∷ []
receiving_words (R.Moving s) = 3 ∷ s.first ∷ s.stored ∷ s.left ∷ s.at ∷ s.room ∷ s.here ∷ 0 ∷ 0 ∷ []
receiving_words (R.Ended e) = 4 ∷ e.first ∷ e.stored ∷ e.left ∷ 0 ∷ e.room ∷ e.here ∷ 0 ∷ 0 ∷ []
receiving_words (R.Last s) = 5 ∷ s.first ∷ s.stored ∷ 0 ∷ 0 ∷ 0 ∷ s.here ∷ s.next ∷ flag_word_of s.overrun ∷ []
receiving_words (R.First s) = 6 ∷ s.first ∷ s.stored ∷ 0 ∷ 0 ∷ 0 ∷ 0 ∷ s.next ∷ flag_word_of s.overrun ∷ []
receiving_words (R.Done e) = 7 ∷ 0 ∷ 0 ∷ 0 ∷ 0 ∷ 0 ∷ 0 ∷ e.next ∷ 0 ∷ []

abbrev pub burst_words : Burst → List ℕ
burst_words Quiet = 0 ∷ 0 ∷ 0 ∷ []
burst_words (Read a n) = 1 ∷ a ∷ n ∷ []
burst_words (Store a n) = 2 ∷ a ∷ n ∷ []

-- the first n rows as the channels want them, the others as they were
abbrev pub tx_to : ℕ → List Channel → List (List ℕ) → List (List ℕ)
tx_to zero x t = t
tx_to (suc n) x t = set (tx_to n x t) n (sending_words (get_or x n idle_channel).tx)

abbrev pub rx_to : ℕ → List Channel → List (List ℕ) → List (List ℕ)
rx_to zero x r = r
rx_to (suc n) x r = set (rx_to n x r) n (receiving_words (get_or x n idle_channel).rx)

unfoldable pub saved_in : Parts → Controller → Parts
saved_in p k = record {
  state = k.state;
  stages = k.stages;
  tx = tx_to channels k.channels p.tx;
  rx = rx_to channels k.channels p.rx;
  rest = k.sent ∷ k.received ∷ flag_word_of k.undefined ∷ [];
}
