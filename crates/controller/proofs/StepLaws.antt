-- What holds of the channels, of the engines' steps on the record, and of a teardown's stage. Assumes nothing.
--     all-quiet                  what `all` asks of the channels
--     quiet-more, quiet-whole    the first channels are quiet, by one more; all of them
--     on-channel, off-channel    an engine of a channel that there is; of one that there is not
--     sent, taken                a channel's step, from what the engine's gave on the values in the record
--     tear-1, tear-2, tear-3     a teardown that moves, by its stage
use Prim.Native.Nat.{ℕ, zero, suc, ◌+◌, ◌<◌, ◌≤◌}
use mathlib.Core.Path.{◌≡◌, refl, ap, sym, ◌∙◌}
use mathlib.Core.Logic.{◌≢◌}
use mathlib.Core.Bool.{Bool, true, false, ◌&&◌}
use Rattle.std.specs.List.{list_all}
use mathlib.Core.List.{List, [], ◌∷◌}
use native.Mathlib.Nat.{not-suc-le-zero, le_of_suc-le-suc}
use native.Mathlib.Numerals.{add-one}
use lib.ListN.{length, get_or, take}
use lib.Seq.{take_all}
use lib.Dec.{eqb}
use borrow.Author.Tests.{ne_eqb, lt-ltb, le-ltb}
use Rattle.layout.specs.Choice.{pick, both}
use Rattle.layout.specs.Layout.{channels, queue_of}
use Rattle.layout.specs.declared.Side.TheVariants as Sides
use Rattle.phases.specs.declared.Step.{Step}
use Rattle.std.proofs.Common.{Option}
use Rattle.phases.specs.declared.Sending.{Sending}
use Rattle.phases.specs.declared.Receiving.{Receiving}
use Rattle.phases.specs.Transmit as T
use Rattle.phases.specs.Receive as U
use Rattle.registers.specs.Table.{hdp_of, cp_of, tearing_of}
use Rattle.controller.specs.declared.Channel.{Channel}
use Rattle.controller.specs.declared.Controller.{Controller}
use Rattle.controller.specs.Controller.{StepDone, idle_channel, tx_of, rx_of, stage_of, answer, held_back, quiet_engine, quiet_channel}
use Rattle.controller.specs.Controller.{all_quiet, on_channel, send_moved, take_moved, transmit_step, receive_step}
use Rattle.controller.specs.Controller.{tear_mark, tear_clear, tear_report, tear_step}

-- ---- every channel is quiet

pub all-quiet : (l : List Channel) → list_all quiet_channel l ≡ all_quiet l
all-quiet [] = refl
all-quiet (x ∷ l) = at (quiet_channel x) (all-quiet l)
  where
    at : (t : Bool) {a b : Bool} → a ≡ b → (t && a) ≡ both t b
    at true e = e
    at false e = refl

both_true : (b : Bool) → both b true ≡ b
both_true true = refl
both_true false = refl

quiet-suc : (l : List Channel) (i : ℕ) → i < length l
    → both (all_quiet (take i l)) (quiet_channel (get_or l i idle_channel)) ≡ all_quiet (take (suc i) l)
quiet-suc [] i h = absurd (not-suc-le-zero h)
quiet-suc (x ∷ l) zero h = sym (both_true (quiet_channel x))
quiet-suc (x ∷ l) (suc i) h = at (quiet_channel x) (quiet-suc l i (le_of_suc-le-suc h))
  where
    at : (t : Bool) → both (all_quiet (take i l)) (quiet_channel (get_or l i idle_channel)) ≡ all_quiet (take (suc i) l)
        → both (both t (all_quiet (take i l))) (quiet_channel (get_or l i idle_channel)) ≡ both t (all_quiet (take (suc i) l))
    at true e = e
    at false e = refl

pub quiet-more : (l : List Channel) (i : ℕ) {a b : Bool} → i < length l → a ≡ all_quiet (take i l)
    → b ≡ quiet_channel (get_or l i idle_channel)
    → both a b ≡ all_quiet (take (i + 1) l)
quiet-more l i h e f = rw (e, f, add-one i) (quiet-suc l i h)

pub quiet-whole : (l : List Channel) (i : ℕ) → length l ≤ i → all_quiet (take i l) ≡ all_quiet l
quiet-whole l i h = ap all_quiet (take_all i l h)

-- ---- the engines' steps

module _ (c : Controller) (m : List ℕ) (x : StepDone) {ch : ℕ} where
  pub on-channel : ch < channels → on_channel ch c m x ≡ x
  on-channel h = rw (lt-ltb _ _ h) refl

  pub off-channel : channels ≤ ch → on_channel ch c m x ≡ answer 0 c m
  off-channel h = rw (le-ltb _ _ h) refl

send_at : {h h₀ : Bool} {p p₀ k k₀ : ℕ} (m : List ℕ) (s : Sending) → h ≡ h₀ → p ≡ p₀ → k ≡ k₀
    → T.send_step h m s p k ≡ T.send_step h₀ m s p₀ k₀
send_at m s w y z = cc

take_at : {p p₀ k k₀ : ℕ} (m : List ℕ) (s : Receiving) → p ≡ p₀ → k ≡ k₀ → U.take_step m s p k ≡ U.take_step m s p₀ k₀
take_at m s y z = cc

-- a step depends on the values alone: what it gave on those of the record is the channel's step
module _ (ch : ℕ) (c : Controller) (m x : List ℕ) {q p k : ℕ} (there : ch < channels) where
  pub sent : {held : Bool} {r : Option (Step Sending)} → q ≡ queue_of Sides.Transmit ch → held ≡ held_back c q
      → p ≡ hdp_of c.state q → k ≡ cp_of c.state q
      → (r, x) ≡ T.send_step held m (tx_of c ch) p k → send_moved ch (r, x) c m ≡ on_channel ch c m (transmit_step ch c m)
  unfolding transmit_step
  sent e w f g s =
      let at = send_at m (tx_of c ch) (w ∙ ap (λ (n : ℕ). held_back c n) e)
      (f ∙ ap (λ (n : ℕ). hdp_of c.state n) e)
      (g ∙ ap (λ (n : ℕ). cp_of c.state n) e) in
      ap (λ (y : Option (Step Sending) × List ℕ). send_moved ch y c m) (s ∙ at) ∙ sym (on-channel c m (transmit_step ch c m) there)

  pub taken : {r : Option (Step Receiving)} → q ≡ queue_of Sides.Receive ch → p ≡ hdp_of c.state q → k ≡ cp_of c.state q
      → (r, x) ≡ U.take_step m (rx_of c ch) p k → take_moved ch (r, x) c m ≡ on_channel ch c m (receive_step ch c m)
  unfolding receive_step
  taken e f g s =
      let at = take_at m (rx_of c ch) (f ∙ ap (λ (n : ℕ). hdp_of c.state n) e) (g ∙ ap (λ (n : ℕ). cp_of c.state n) e) in
      ap (λ (y : Option (Step Receiving) × List ℕ). take_moved ch y c m) (s ∙ at) ∙ sym (on-channel c m (receive_step ch c m) there)

-- ---- the teardown's steps by stage

-- the choice of a stage, between any four outcomes
stage-1 : {a b : Bool} {n : ℕ} (x y z w : StepDone) → a ≡ true → b ≡ true → n ≡ 1
    → pick (both a b) (pick (eqb n 1) x (pick (eqb n 2) y z)) w ≡ x
stage-1 x y z w p q r = rw (p, q, r) refl

stage-2 : {a b : Bool} {n : ℕ} (x y z w : StepDone) → a ≡ true → b ≡ true → n ≡ 2
    → pick (both a b) (pick (eqb n 1) x (pick (eqb n 2) y z)) w ≡ y
stage-2 x y z w p q r = rw (p, q, r) refl

stage-3 : {a b : Bool} {n : ℕ} (x y z w : StepDone) → a ≡ true → b ≡ true → n ≢ 1 → n ≢ 2
    → pick (both a b) (pick (eqb n 1) x (pick (eqb n 2) y z)) w ≡ z
stage-3 x y z w p q r s = rw (p, q, ne_eqb _ _ r, ne_eqb _ _ s) refl

module _ (q : ℕ) (c : Controller) (m : List ℕ) (tearing : tearing_of c.state q ≡ true) (still : quiet_engine c q ≡ true) where
  pub tear-1 : stage_of c q ≡ 1 → tear_step q c m ≡ tear_mark q c m
  unfolding tear_step
  tear-1 e = stage-1 (tear_mark q c m) (answer 0 (tear_clear q c) m) (answer 0 (tear_report q c) m) (answer 0 c m) tearing still e

  pub tear-2 : stage_of c q ≡ 2 → tear_step q c m ≡ answer 0 (tear_clear q c) m
  unfolding tear_step
  tear-2 e = stage-2 (tear_mark q c m) (answer 0 (tear_clear q c) m) (answer 0 (tear_report q c) m) (answer 0 c m) tearing still e

  pub tear-3 : stage_of c q ≢ 1 → stage_of c q ≢ 2 → tear_step q c m ≡ answer 0 (tear_report q c) m
  unfolding tear_step
  tear-3 e f = stage-3 (tear_mark q c m) (answer 0 (tear_clear q c) m) (answer 0 (tear_report q c) m) (answer 0 c m) tearing still e f
