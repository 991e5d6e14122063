-- What the rules and their leaf hand on, as steps of the judge. Assumes nothing.
--     fault_of_at                    a descriptor's fault, by its four words
--     unpacked-packed               a number and its place that were put into one number come out again
--     step-refused                  a number and a place that refuse end the judge's walk
--     judged_refused, judged_met     what the leaf hands on
--     hand_refused, hand_end, hand_start, hand_middle, hand_buffer   what a rule answers is what follows the hand that it was given
--     hand_less                     and that is over fewer words
--     leaves, hands                 these laws, for the check to try
--     follow_number, follow_place, follow_measured   the number and the place in what the rules answer; where the number is 16, the
--                                   descriptor there has its length in order
--     measured_words, buffer_room_words, said_barred   the descriptor there, by its four words, and the answer
--     verdict_told                  the answer from the rules' number
--     single_16, verdict_single     the answer from the one descriptor of a chain
use Prim.Native.Nat.{ℕ, ◌+◌, ◌*◌, ◌/◌, ◌%◌, ◌<◌, ◌^◌}
use mathlib.Core.Path.{◌≡◌, refl, ap, ◌∙◌, sym}
use mathlib.Core.Bool.{Bool, true, false}
use mathlib.Core.Logic.{◌≢◌}
use mathlib.Core.List.{List, []}
use native.Mathlib.Omega.{arith}
use lib.Dec.{eqb}
use borrow.Author.Tests.{eq-eqb, ne_eqb}
use Rattle.std.specs.Prelude.{Result, Ok, Err}
use Rattle.layout.specs.Choice.{pick}
use Rattle.layout.proofs.ChoiceLaws.{both_right}
use Rattle.layout.specs.Refusals.{refusal_number}
use Rattle.layout.specs.declared.refusals.Refusal.{Refusal}
use Rattle.layout.proofs.RefusalLaws.{refusal-some}
use Rattle.layout.specs.Run.{Next, go, stop, after}
use Rattle.layout.specs.Layout.{good_ptr, word_of}
use Rattle.layout.specs.declared.Side.{Side}
use Rattle.layout.specs.declared.Side.TheVariants.{Transmit, Receive}
use Rattle.words.specs.Word.{word}
use Rattle.words.specs.WordSet.{add_four, free_count}
use Rattle.words.proofs.WordLaws.{Bytes, word_lt}
use Rattle.blocks.specs.Room.{room_of}
use Rattle.blocks.specs.declared.Room.{Room}
use Rattle.descriptor.specs.Fields.{desc_at, eop, length_of, first_byte}
use Rattle.descriptor.specs.Rules.{side_at, length_fault, sop_at, sum_at, behind}
use Rattle.descriptor.specs.declared.Descriptor.{Descriptor}
use Rattle.descriptor.specs.declared.Place.{Place}
use Rattle.descriptor.specs.declared.Place.TheVariants.{Start, Middle, Buffer}
use Rattle.descriptor.proofs.RuleLaws.{behind-end, behind-inside}
use Rattle.chain.specs.Chain.{desc_fault, JSt, JOut, judge_step, chain_of, place_of, buffer_room, Said, said, verdict_of}
use Rattle.chain.specs.Hands.{unpacked, fault_of, fault_at, judged, IsNumber, Measured, single}
use Rattle.chain.proofs.ChainLaws.{fault_at-step, fault_at-16, judge_step-falls, chain-eq, chain-place}

pub fault_of_at : (kinds : List ℕ) (w : ℕ → ℕ) (pl : Place) (k : ℕ) (d : Descriptor) → d ≡ desc_at w k
    → fault_of kinds pl d ≡ desc_fault kinds w pl k
unfolding fault_of desc_fault desc_at
fault_of_at kinds w pl k d e = rw e refl

-- ---- a number and its place in one number

pub unpacked-packed : (n p : ℕ) (met : List ℕ) → n < 256 → unpacked (n + 256 * p) met ≡ (n, p, met)
unpacked-packed n p met h =
    let a : (n + 256 * p) % 256 ≡ n = omega arith in
    let b : (n + 256 * p) / 256 ≡ p = omega arith in
    rw (a, b) refl

pub step-refused : (kinds : List ℕ) (w : ℕ → ℕ) (pl : Place) (met : List ℕ) (p n : ℕ) → n ≡ fault_at kinds w pl met p → (v : ℕ) → n ≢ 0
    → n < 256 → v ≡ n + 256 * p
    → stop (unpacked v met) ≡ judge_step kinds w (pl, met, p)
step-refused kinds w pl met p n is v z h e =
    rw (e, unpacked-packed n p met h) (sym (fault_at-step kinds w pl met p ∙ rw (← is, ne_eqb n 0 z) refl))

-- ---- what the leaf hands on

module _ (kinds : List ℕ) (w : ℕ → ℕ) (pl : Place) (met : List ℕ) (p : ℕ) where
  pub judged_refused : (r : Refusal) → refusal_number r ≡ fault_at kinds w pl met p
      → judged pl p (Err r) met ≡ judge_step kinds w (pl, met, p)
  unfolding judged
  judged_refused r e = sym (fault_at-step kinds w pl met p ∙ rw (← e, ne_eqb (refusal_number r) 0 (refusal-some r)) refl)

  pub judged_met : (k : ℕ) (d : Descriptor) (l : List ℕ) → 0 ≡ fault_at kinds w pl met p → k ≡ word_of p → d ≡ desc_at w k
      → l ≡ add_four met k
      → judged pl p (Ok d) l ≡ judge_step kinds w (pl, met, p)
  unfolding judged desc_at
  judged_met k d l e at is marked = rw (is, marked, at) (sym (fault_at-step kinds w pl met p ∙ rw (← e) refl))

-- ---- what a rule answers

module _ (kinds : List ℕ) (w : ℕ → ℕ) (pl : Place) (met : List ℕ) (p : ℕ) (h : Result Descriptor Refusal) (l : List ℕ)
    (is : judged pl p h l ≡ judge_step kinds w (pl, met, p)) where
  -- the chain behind what was handed on
  abbrev rest : Result Descriptor Refusal → JOut
  rest g = after (judged pl p g l) (λ t. chain_of kinds w t.0 t.1 t.2)

  rest-eq : (g : Result Descriptor Refusal) → h ≡ g → rest g ≡ chain_of kinds w pl met p
  rest-eq g e =
      sym (chain-eq kinds w pl met p
      ∙ ap (λ (z : Next JSt JOut). after z (λ t. chain_of kinds w t.0 t.1 t.2)) (rw e at (sym is)))

  pub hand_refused : (r : Refusal) → h ≡ Err r → (v : ℕ) → v % 256 ≡ refusal_number r → v / 256 ≡ p
      → unpacked v l ≡ chain_of kinds w pl met p
  unfolding judged
  hand_refused r e v n at = rw (n, at) (rest-eq (Err r) e)

  module _ (d : Descriptor) (found : h ≡ Ok d) where
    pub hand_end : d.next ≡ 0 → (0, 0, l) ≡ chain_of kinds w pl met p
    unfolding judged
    hand_end z = rw (eq-eqb d.next 0 z) at (rest-eq (Ok d) found)

    module _ (on : d.next ≢ 0) where
      hand_go : (b : Place) (j : JOut) → behind pl d.word2 d.word3 ≡ b → j ≡ chain_of kinds w b l d.next
          → j ≡ chain_of kinds w pl met p
      unfolding judged
      hand_go b j e q = q ∙ rw e at (rw (ne_eqb d.next 0 on) at (rest-eq (Ok d) found))

      pub hand_start : side_at pl ≡ Transmit → eop d.word3 ≡ true → (j : JOut) → j ≡ chain_of kinds w Start l d.next
          → j ≡ chain_of kinds w pl met p
      hand_start s f j q = hand_go Start j (behind-end pl d.word2 d.word3 s f) q

      pub hand_middle : side_at pl ≡ Transmit → eop d.word3 ≡ false → (s n : ℕ) → s ≡ sop_at pl d.word3 → n ≡ sum_at pl d.word2
          → (j : JOut) → j ≡ chain_of kinds w (Middle s n) l d.next
          → j ≡ chain_of kinds w pl met p
      hand_middle t f s n es en j q = hand_go (Middle s n) j (behind-inside pl d.word2 d.word3 t f ∙ rw (es, en) refl) q

      pub hand_buffer : pl ≡ Buffer → (j : JOut) → j ≡ chain_of kinds w Buffer l d.next → j ≡ chain_of kinds w pl met p
      unfolding behind
      hand_buffer e j q = hand_go Buffer j (rw e refl) q

      goes : judge_step kinds w (pl, met, p) ≡ go (behind pl d.word2 d.word3, l, d.next)
      unfolding judged
      goes = sym is ∙ rw (found, ne_eqb d.next 0 on) refl

      pub hand_less : (t : ℕ) → free_count met ≡ t → free_count l < t
      hand_less t μ = rw (← μ) (judge_step-falls kinds w (pl, met, p) (behind pl d.word2 d.word3, l, d.next) goes)

-- ---- what is said of a chain

place_of-side : (side : Side) → side_at (place_of side) ≡ side
place_of-side Transmit = refl
place_of-side Receive = refl

module _ (kinds m : List ℕ) (side : Side) (met : List ℕ) (p v : ℕ) (l : List ℕ)
    (is : unpacked v l ≡ chain_of kinds (word m) (place_of side) met p) where
  module _ (fits : Bytes m) (h : p < 2 ^ 32) where
    follow_told : IsNumber (v % 256) × (v / 256 < 2 ^ 32) × (v % 256 ≡ 16 → Measured (word m) side (v / 256))
    follow_told =
        rw (← is) at (chain-place kinds (word m) (λ k. word_lt m k fits) side (place_of side) met p (place_of-side side) h)

    pub follow_number : IsNumber (v % 256)
    follow_number = follow_told.0

    pub follow_place : v / 256 < 2 ^ 32
    follow_place = follow_told.1

    pub follow_measured : (n : ℕ) → n ≡ v % 256 → n ≡ 16 → Measured (word m) side (v / 256)
    follow_measured n e z = follow_told.2 (sym e ∙ z)

  pub verdict_told : (n : ℕ) → n ≡ v % 256 → (r : Result Unit Said) → r ≡ said kinds (word m) side (n, v / 256, [])
      → (r, l) ≡ verdict_of side kinds (word m) met p
  unfolding verdict_of
  verdict_told n en r e = rw (← is, e, en) refl

-- a chain of one descriptor: its fault is the chain's
module _ (kinds : List ℕ) (w : ℕ → ℕ) (side : Side) (met : List ℕ) (p n : ℕ) (pl : Place) (at : pl ≡ place_of side)
    (is : n ≡ fault_at kinds w pl met p) where
  fault-is : n ≡ fault_at kinds w (place_of side) met p
  fault-is = rw (← at) is

  pub single_16 : n ≡ 16 → Measured w side p
  single_16 z = rw (place_of-side side) at (fault_at-16 kinds w (place_of side) met p (sym fault-is ∙ z))

  one-step : single w p ≡ true
      → chain_of kinds w (place_of side) met p ≡ pick {A = JOut} (eqb n 0) (0, 0, add_four met (word_of p)) (n, p, met)
  unfolding single
  one-step e =
      let z = both_right (good_ptr p) (eqb (w (word_of p)) 0) e in
      chain-eq kinds w (place_of side) met p
      ∙ rw (fault_at-step kinds w (place_of side) met p, ← fault-is, z) (by (eqb n 0))
    where
      by : (b : Bool)
          → after (pick {A = Next JSt JOut} b (stop (0, 0, add_four met (word_of p))) (stop (n, p, met)))
          (λ t. chain_of kinds w t.0 t.1 t.2)
          ≡ pick {A = JOut} b (0, 0, add_four met (word_of p)) (n, p, met)
      by true = refl
      by false = refl

  pub verdict_single : single w p ≡ true → (r : Result Unit Said) → r ≡ said kinds w side (n, p, []) → r ≡ (verdict_of side kinds w met p).0
  unfolding verdict_of
  verdict_single e r q = q ∙ sym (ap (λ (j : JOut). said kinds w side j) (one-step e) ∙ by (eqb n 0) refl)
    where
      by : (b : Bool) → eqb n 0 ≡ b
          → said kinds w side (pick {A = JOut} b (0, 0, add_four met (word_of p)) (n, p, met)) ≡ said kinds w side (n, p, [])
      by true z = rw z refl
      by false z = refl

-- the descriptor at the place of a 16, by its four words
module _ (kinds : List ℕ) (w : ℕ → ℕ) (side : Side) (p k : ℕ) (d : Descriptor) (at-k : k ≡ word_of p) (is : d ≡ desc_at w k) where
  pub measured_words : Measured w side p → length_fault side d.buffer d.word2 d.word3 ≡ 0
  unfolding desc_at
  measured_words m = rw (is, at-k) m.1

  pub buffer_room_words : room_of side kinds (first_byte side d.buffer d.word2 d.word3) (length_of side d.word2)
      ≡ buffer_room kinds w side (word_of p)
  unfolding desc_at buffer_room
  buffer_room_words = rw (is, at-k) refl

  -- and with it the answer
  pub said_barred : (room : Room) → room ≡ room_of side kinds (first_byte side d.buffer d.word2 d.word3) (length_of side d.word2)
      → Err (record { number = 16; place = p; room = room }) ≡ said kinds w side (16, p, [])
  said_barred room e = rw (e, buffer_room_words) refl

-- for the check to try: where the leaf hands on, and where a rule answers
pub ruleset leaves = (fault_of_at, judged_refused, judged_met)

pub ruleset hands = (hand_refused, hand_end, hand_start, hand_middle, hand_buffer, hand_less)
