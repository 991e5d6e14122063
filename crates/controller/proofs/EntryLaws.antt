-- What the public entries come to, by the tests that they make. Assumes nothing.
--     entry-unfit, entry-undefined, entry-goes     memory of another size; a record that is undefined; neither
--     entered                                      so a step of an engine is that engine's move
--     frame-undefined, frame-empty, frame-long     a frame to a record that is undefined; one of no bytes; one over 2,047
--     frame-headless, frame-busy, frame-held       a frame where no buffer is, where the engine does not wait, where something is pending
--     frame-taken                                  a frame that is taken
--     write-odd, write_word, write-register        an unguarded write that reaches no word, descriptor memory, or a register
use Prim.Native.Nat.{ℕ, ◌-◌, ◌/◌, ◌%◌, ◌≤◌, ◌<◌}
use mathlib.Core.Path.{◌≡◌, refl, ap, sym, ◌∙◌}
use mathlib.Core.Logic.{◌≢◌}
use mathlib.Core.Bool.{Bool, true, false, not}
use mathlib.Core.List.{List}
use lib.Dec.{eqb, leb}
use lib.ListN.{length}
use borrow.Author.Tests.{eq-eqb, ne_eqb, le-leb, lt-leb}
use Rattle.layout.specs.Choice.{pick, both}
use Rattle.layout.specs.Layout.{desc_bytes, desc_first, length_max, in_descriptors, queue_of}
use Rattle.layout.specs.declared.Side.TheVariants.{Receive}
use Rattle.layout.specs.Class.{class_at}
use Rattle.words.specs.Word.{put}
use Rattle.registers.specs.Table.{hdp_of}
use Rattle.phases.specs.declared.Engine.{Engine}
use Rattle.phases.specs.declared.Receiving.TheVariants.{Fetch}
use Rattle.phases.specs.Quiet.{waits}
use Rattle.controller.specs.declared.Controller.{Controller}
use Rattle.controller.specs.Controller.{StepDone, Framed, answer, unless_undefined, rx_of, held_back, framed, set_rx, frame_of}
use Rattle.controller.specs.Controller.{move_of, step_of, register_write, unguarded_write}

module _ (c : Controller) (m : List ℕ) (x : StepDone) where
  pub entry-unfit : length m ≢ desc_bytes → unless_undefined c m x ≡ answer 1 c m
  entry-unfit h = rw (ne_eqb _ _ h) refl

  pub entry-undefined : length m ≡ desc_bytes → c.undefined ≡ true → unless_undefined c m x ≡ answer 22 c m
  entry-undefined h u = rw (eq-eqb _ _ h, u) refl

  pub entry-goes : length m ≡ desc_bytes → c.undefined ≡ false → unless_undefined c m x ≡ x
  entry-goes h u = rw (eq-eqb _ _ h, u) refl

-- an engine's step, on memory that is the same
pub entered : (c : Controller) {e e₀ : Engine} {m y : List ℕ} → y ≡ m → length m ≡ desc_bytes → c.undefined ≡ false → e ≡ e₀
    → move_of e₀ c y ≡ step_of e c m
unfolding step_of
entered c {e} {e₀} {m} h size live is =
    ap (λ (x : List ℕ). move_of e₀ c x) h ∙ sym (entry-goes c m (move_of e c m) size live ∙ ap (λ (x : Engine). move_of x c m) is)

-- ---- frames

-- the choice that a frame meets, between any four answers
all-five : {u a b d e f : Bool} (w x y z : Framed) → u ≡ false → a ≡ true → b ≡ true → d ≡ true → e ≡ true → f ≡ true
    → pick u w (pick (both a b) (pick (both d (both e f)) x y) z) ≡ x
all-five w x y z h₁ h₂ h₃ h₄ h₅ h₆ = rw (h₁, h₂, h₃, h₄, h₅, h₆) refl

not-no : {b : Bool} → b ≡ false → not b ≡ true
not-no e = rw e refl

not_yes : {b : Bool} → b ≡ true → not b ≡ false
not_yes e = rw e refl

-- the same choice where the first, the second, .. of the six is what fails
at_first : {u : Bool} (w r : Framed) → u ≡ true → pick u w r ≡ w
at_first w r h = rw h refl

at_second : {u a : Bool} (b : Bool) (w r z : Framed) → u ≡ false → a ≡ false → pick u w (pick (both a b) r z) ≡ z
at_second b w r z h₁ h₂ = rw (h₁, h₂) refl

at-third : {u a b : Bool} (w r z : Framed) → u ≡ false → a ≡ true → b ≡ false → pick u w (pick (both a b) r z) ≡ z
at-third w r z h₁ h₂ h₃ = rw (h₁, h₂, h₃) refl

at_last : {u a b d : Bool} (w x y z : Framed) → u ≡ false → a ≡ true → b ≡ true → d ≡ false → pick u w (pick (both a b) (pick d x y) z) ≡ y
at_last w x y z h₁ h₂ h₃ h₄ = rw (h₁, h₂, h₃, h₄) refl

no-first : {d : Bool} (e : Bool) → d ≡ false → both d e ≡ false
no-first e h = rw h refl

no_second : {d e : Bool} (f : Bool) → d ≡ true → e ≡ false → both d (both e f) ≡ false
no_second f h₁ h₂ = rw (h₁, h₂) refl

no_third : {d e f : Bool} → d ≡ true → e ≡ true → f ≡ false → both d (both e f) ≡ false
no_third h₁ h₂ h₃ = rw (h₁, h₂, h₃) refl

module _ (n : ℕ) (c : Controller) where
  abbrev taken : Framed
  taken = framed 0 (set_rx 0 (Fetch (record { first = hdp_of c.state (queue_of Receive 0); stored = 0; left = n })) c)

  abbrev unless-taken : Framed
  unless-taken = pick (both (not (eqb (hdp_of c.state (queue_of Receive 0)) 0))
      (both (waits (rx_of c 0)) (not (held_back c (queue_of Receive 0))))) taken (framed 24 c)

  pub frame-undefined : c.undefined ≡ true → frame_of n c ≡ framed 22 c
  unfolding frame_of
  frame-undefined u = at_first (framed 22 c) (pick (both (leb 1 n) (leb n length_max)) unless-taken (framed 23 c)) u

  pub frame-empty : c.undefined ≡ false → n < 1 → frame_of n c ≡ framed 23 c
  unfolding frame_of
  frame-empty u low = at_second (leb n length_max) (framed 22 c) unless-taken (framed 23 c) u (lt-leb _ _ low)

  pub frame-long : c.undefined ≡ false → 1 ≤ n → length_max < n → frame_of n c ≡ framed 23 c
  unfolding frame_of
  frame-long u low high = at-third (framed 22 c) unless-taken (framed 23 c) u (le-leb _ _ low) (lt-leb _ _ high)

  module _ (u : c.undefined ≡ false) (low : 1 ≤ n) (high : n ≤ length_max) where
    pub frame-headless : hdp_of c.state (queue_of Receive 0) ≡ 0 → frame_of n c ≡ framed 24 c
    unfolding frame_of
    frame-headless h =
        at_last (framed 22 c) taken (framed 24 c) (framed 23 c) u (le-leb _ _ low) (le-leb _ _ high)
        (no-first (both (waits (rx_of c 0)) (not (held_back c (queue_of Receive 0)))) (not_yes (eq-eqb _ _ h)))

    pub frame-busy : hdp_of c.state (queue_of Receive 0) ≢ 0 → waits (rx_of c 0) ≡ false → frame_of n c ≡ framed 24 c
    unfolding frame_of
    frame-busy h w =
        at_last (framed 22 c) taken (framed 24 c) (framed 23 c) u (le-leb _ _ low) (le-leb _ _ high)
        (no_second (not (held_back c (queue_of Receive 0))) (not-no (ne_eqb _ _ h)) w)

    pub frame-held : hdp_of c.state (queue_of Receive 0) ≢ 0 → waits (rx_of c 0) ≡ true → held_back c (queue_of Receive 0) ≡ true
        → frame_of n c ≡ framed 24 c
    unfolding frame_of
    frame-held h w e =
        at_last (framed 22 c) taken (framed 24 c) (framed 23 c) u (le-leb _ _ low) (le-leb _ _ high)
        (no_third (not-no (ne_eqb _ _ h)) w (not_yes e))

pub frame-taken : (n : ℕ) (c : Controller) → c.undefined ≡ false → 1 ≤ n → n ≤ length_max → hdp_of c.state (queue_of Receive 0) ≢ 0
    → waits (rx_of c 0) ≡ true → held_back c (queue_of Receive 0) ≡ false
    → frame_of n c ≡ framed 0 (set_rx 0 (Fetch (record { first = hdp_of c.state (queue_of Receive 0); stored = 0; left = n })) c)
unfolding frame_of
frame-taken n c u low high h w e =
    all-five (framed 22 c) _ (framed 24 c) (framed 23 c) u (le-leb _ _ low) (le-leb _ _ high) (not-no (ne_eqb _ _ h)) w (not-no e)

-- ---- unguarded writes

odd : {n : ℕ} (b : Bool) (x y z : StepDone) → n ≢ 0 → pick (eqb n 0) (pick b x y) z ≡ z
odd b x y z h = rw (ne_eqb _ _ h) refl

even : {n : ℕ} {b : Bool} (x y z : StepDone) → n ≡ 0 → b ≡ true → pick (eqb n 0) (pick b x y) z ≡ x
even x y z h e = rw (eq-eqb _ _ h, e) refl

other : {n : ℕ} {b : Bool} (x y z : StepDone) → n ≡ 0 → b ≡ false → pick (eqb n 0) (pick b x y) z ≡ y
other x y z h e = rw (eq-eqb _ _ h, e) refl

module _ (a v : ℕ) (c : Controller) (m : List ℕ) (size : length m ≡ desc_bytes) (live : c.undefined ≡ false) where
  abbrev stored : StepDone
  stored = answer 0 c (put m ((a - desc_first) / 4) v)

  abbrev judged : StepDone
  judged = register_write (class_at a) v c m

  pub write-odd : a % 4 ≢ 0 → unguarded_write a v c m ≡ answer 3 c m
  unfolding unguarded_write
  write-odd h = entry-goes c m (pick (eqb (a % 4) 0) (pick (in_descriptors a) stored judged) (answer 3 c m)) size live
      ∙ odd (in_descriptors a) stored judged (answer 3 c m) h

  pub write_word : a % 4 ≡ 0 → in_descriptors a ≡ true → unguarded_write a v c m ≡ stored
  unfolding unguarded_write
  write_word h e = entry-goes c m (pick (eqb (a % 4) 0) (pick (in_descriptors a) stored judged) (answer 3 c m)) size live
      ∙ even stored judged (answer 3 c m) h e

  pub write-register : a % 4 ≡ 0 → in_descriptors a ≡ false → unguarded_write a v c m ≡ judged
  unfolding unguarded_write
  write-register h e = entry-goes c m (pick (eqb (a % 4) 0) (pick (in_descriptors a) stored judged) (answer 3 c m)) size live
      ∙ other stored judged (answer 3 c m) h e
