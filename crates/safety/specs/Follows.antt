-- What follows from demand 3's invariant beside its statement, for one machine: each clause is a sentence of document 01 or of a caller.
--     refusals, Refuses n, Number n   the numbers that a judge may refuse with; n is one of them; or 0
--     Alike t c            the tables t and c say the same of registers and flags, which is all but heads and spare words
--     Agrees s c           the small state of the world s is alike the controller's table, and the controller is not undefined
--     Carried x t          the controller answers 0, and leaves the memory of the world t, and a table alike its small state
--     Handed o s           what the outcome o hands back, the machine s has: its small state is o's, and registers and flags there are the
--                          controller's; so the guard would see o's world again, to the last register and descriptor word
--     Untouched s o        descriptor memory, kinds and registers are those of s, and the book is what the release makes of it
--     Alone s t            t is s with nothing but its book released
--     is_owned kinds i      block i is Linux's
--     Follows s            the consequences, of one machine:
--       writes, changes      answers 1 and 2 never occur: a guard call answers 0, or 3 to 21
--       inner_write, inner_kind   release and judge alone, without the checks behind 1 and 2, give what the full call gives
--       refused_write, refused_kind   a refused guard call leaves memory, registers and kinds, and the book as the release makes it
--       handed_write, handed_kind   registers, flags and descriptor memory that a guard call hands back are those the controller then has
--       ownership            no operation changes whose a block is
--       zero_transmit, zero_receive   an HDP of 0 is an idle engine, on each channel
--       idle_transmit, idle_receive   and an idle engine has an empty queue, once the release has run
--       once                 the release is idempotent
--       sound, stays         the book is sound, and a guard call on it, as any operation, leaves a sound one
-- Proved: proofs/What.antt (`follows-always`), Refusals.antt, Allowed.antt. Assumes nothing: these are definitions.
use Rattle.std.specs.Prelude.{ℕ, ◌≤◌, ◌<◌, ◌≡◌, Bool, true, false, List, [], ◌∷◌, ◌≢◌, length, get_or, eqb}
use Rattle.layout.specs.Choice.{pick}
use Rattle.layout.specs.Layout.{channels, queues, queue_of}
use Rattle.layout.specs.declared.Side.TheVariants.{Transmit, Receive}
use Rattle.blocks.specs.Room.{permits}
use Rattle.registers.specs.Table.{state_words, bit_at, head_of, hdp_of, is_device}
use Rattle.book.specs.World.{World, sound_world, release}
use Rattle.guard.specs.Answers.{number_of, Outcome}
use Rattle.guard.specs.Judges.{judge}
use Rattle.guard.specs.Guard.{guest_write}
use Rattle.kinds.specs.Kinds.{judge_kind, kind_change}
use Rattle.phases.specs.declared.Sending.TheVariants as S
use Rattle.phases.specs.declared.Receiving.TheVariants as R
use Rattle.controller.specs.declared.Controller.{Controller}
use Rattle.controller.specs.Controller.{StepDone, tx_of, rx_of}
use Rattle.machine.specs.Machine.{Machine, Op, write, kind, apply, world_of}
use Rattle.safety.specs.Statement.{Legal}

-- ---- the numbers

-- "The lowest number that applies is given": those of a judge; 1 and 2 come before it, 22 to 24 are the model's
abbrev pub refusals : List ℕ
refusals = 3 ∷ 4 ∷ 5 ∷ 6 ∷ 7 ∷ 8 ∷ 9 ∷ 10 ∷ 11 ∷ 12 ∷ 13 ∷ 14 ∷ 15 ∷ 16 ∷ 17 ∷ 18 ∷ 19 ∷ 20 ∷ 21 ∷ []

abbrev pub is_in : ℕ → List ℕ → Bool
is_in n [] = false
is_in n (x ∷ xs) = pick (eqb n x) true (is_in n xs)

abbrev pub Refuses : ℕ → Type 0
Refuses n = is_in n refusals ≡ true

abbrev pub Number : ℕ → Type 0
Number n = is_in n (0 ∷ refusals) ≡ true

-- ---- guard and controller

pub record Alike (t c : List ℕ) : Type 0 where
  pub same : (k : ℕ) → queues ≤ k → k ≤ bit_at → get_or t k 0 ≡ get_or c k 0

pub record Agrees (s : World) (c : Controller) : Type 0 where
  pub alike : Alike s.state c.state
  pub here : length s.state ≡ state_words
  pub there : length c.state ≡ state_words
  pub defined : c.undefined ≡ false

pub record Carried (x : StepDone) (t : World) : Type 0 where
  pub number : x.number ≡ 0
  pub mem : x.mem ≡ t.mem
  pub alike : Alike t.state x.ctl.state

pub record Handed (o : Outcome) (s : Machine) : Type 0 where
  pub state : s.state ≡ o.world.state
  pub agrees : Agrees o.world s.ctl
  pub seen : world_of s ≡ o.world

-- ---- what a refusal leaves

-- only the release has happened: it changes nothing but the book, and in the small state no register
pub record Untouched (s : World) (o : Outcome) : Type 0 where
  pub mem : o.world.mem ≡ s.mem
  pub kinds : o.world.kinds ≡ s.kinds
  pub registers : (k : ℕ) → is_device k ≡ true → get_or o.world.state k 0 ≡ get_or s.state k 0
  pub state : o.world.state ≡ (release s).state
  pub used : o.world.used ≡ (release s).used
  pub lens : o.world.lens ≡ (release s).lens

pub record Alone (s t : Machine) : Type 0 where
  pub ctl : t.ctl ≡ s.ctl
  pub mem : t.mem ≡ s.mem
  pub kinds : t.kinds ≡ s.kinds
  pub state : t.state ≡ (release (world_of s)).state
  pub used : t.used ≡ (release (world_of s)).used
  pub lens : t.lens ≡ (release (world_of s)).lens

-- ---- all of them

-- "Kinds 1 to 4 are owned by Linux"
abbrev pub is_owned : List ℕ → ℕ → Bool
is_owned kinds i = permits Transmit (get_or kinds i 0)

pub record Follows (s : Machine) : Type 0 where
  pub writes : (a x : ℕ) → Number (number_of (apply (write a x) s).answer)
  pub changes : (b k : ℕ) → Number (number_of (apply (kind b k) s).answer)
  pub inner_write : (a x : ℕ) → judge a x (release (world_of s)) ≡ guest_write a x (world_of s)
  pub inner_kind : (b k : ℕ) → judge_kind b k (release (world_of s)) ≡ kind_change b k (world_of s)
  pub refused_write : (a x : ℕ) → number_of (apply (write a x) s).answer ≢ 0 → Alone s (apply (write a x) s).machine
  pub refused_kind : (b k : ℕ) → number_of (apply (kind b k) s).answer ≢ 0 → Alone s (apply (kind b k) s).machine
  pub handed_write : (a x : ℕ) → Legal (write a x) → Handed (guest_write a x (world_of s)) (apply (write a x) s).machine
  pub handed_kind : (b k : ℕ) → Handed (kind_change b k (world_of s)) (apply (kind b k) s).machine
  pub ownership : (o : Op) (i : ℕ) → is_owned (apply o s).machine.kinds i ≡ is_owned s.kinds i
  pub zero_transmit : (c : ℕ) → c < channels → hdp_of s.ctl.state (queue_of Transmit c) ≡ 0 → tx_of s.ctl c ≡ S.Idle
  pub zero_receive : (c : ℕ) → c < channels → hdp_of s.ctl.state (queue_of Receive c) ≡ 0 → rx_of s.ctl c ≡ R.Idle
  pub idle_transmit : (c : ℕ) → c < channels → tx_of s.ctl c ≡ S.Idle → head_of (release (world_of s)).state (queue_of Transmit c) ≡ 0
  pub idle_receive : (c : ℕ) → c < channels → rx_of s.ctl c ≡ R.Idle → head_of (release (world_of s)).state (queue_of Receive c) ≡ 0
  pub once : release (release (world_of s)) ≡ release (world_of s)
  pub sound : sound_world (world_of s) ≡ true
  pub stays : (o : Op) → Legal o → sound_world (world_of (apply o s).machine) ≡ true
