-- `controller::Controller::take_frame` meets its contract: each test picks its case. Assumes nothing.
use Prim.Native.Nat.{ℕ, ◌≤◌}
use mathlib.Core.Path.{◌∙◌, sym, ap}
use mathlib.Core.Logic.{inl, inr}
use native.Mathlib.Omega.{arith}
use Rattle.layout.specs.Layout.{length_max}
use Rattle.registers.specs.Table.{hdp_of}
use Rattle.phases.specs.declared.Receiving.TheVariants.{Fetch}
use Rattle.controller.specs.Controller.{framed, held_back, set_rx}
use Rattle.controller.proofs.EntryLaws.{frame-undefined, frame-empty, frame-long, frame-headless, frame-busy, frame-held}
use Rattle.controller.proofs.EntryLaws.{frame-taken}
use Rattle.controller.proofs.Controller.take_frame.Goals as goal
use Rattle.controller.proofs.Controller.take_frame.Goals.{then-first-eq0-via-then-first-eq0}
use Rattle.controller.proofs.Controller.take_frame.Goals.{then-first-eq0-via-else-first-eq0+then-not-is_waiting}
use Rattle.controller.proofs.Controller.take_frame.Goals.{then-first-eq0-via-else-first-eq0+else-not-is_waiting+then-is_held}

pub returns-then-self : goal.returns-then-self
returns-then-self c = sym (frame-undefined c.args.n c.args.self.now c.if-self.true)

pub returns-then-n-lt1 : goal.returns-then-n-lt1
returns-then-n-lt1 c =
    let n = c.args.n in
    let k = c.args.self.now in
    elim c.then-n-lt1.either [
      | inl low ↦ sym (frame-empty n k c.if-self.false low)
      | inr long ↦ sym (frame-long n k c.if-self.false long.0 long.1)
    ]

pub returns-then-first-eq0 : goal.returns-then-first-eq0
returns-then-first-eq0 c =
    let n = c.args.n in
    let k = c.args.self.now in
    let first = c.hdp-first.ensures ∙ ap (λ (q : ℕ). hdp_of k.state q) c.queue_of-q.ensures.0 in
    let live = c.if-self.false in
    let low : 1 ≤ n = omega arith in
    let high : n ≤ length_max = omega arith in
    elim c.then-first-eq0.branch [
      | then-first-eq0-via-then-first-eq0 w ↦ sym (frame-headless n k live low high (sym first ∙ w.if-first-eq0.true))
      | then-first-eq0-via-else-first-eq0+then-not-is_waiting w ↦
          sym (frame-busy n k live low high (λ e. w.if-first-eq0.false (first ∙ e)) (sym w.is_waiting.ensures ∙ w.if-not-is_waiting.true))
      | then-first-eq0-via-else-first-eq0+else-not-is_waiting+then-is_held w ↦
          sym (frame-held n k live low high (λ e. w.if-first-eq0.false (first ∙ e))
          (sym w.is_waiting.ensures ∙ w.if-not-is_waiting.false)
          (sym (w.is_held.ensures ∙ ap (λ (q : ℕ). held_back k q) c.queue_of-q.ensures.0) ∙ w.if-is_held.true))
    ]

pub returns : goal.returns
returns c =
    let n = c.args.n in
    let k = c.args.self.now in
    let first = c.hdp-first.ensures ∙ ap (λ (q : ℕ). hdp_of k.state q) c.queue_of-q.ensures.0 in
    ap (λ (p : ℕ). framed 0 (set_rx 0 (Fetch (record { first = p; stored = 0; left = n })) k)) first
    ∙ sym (frame-taken n k c.if-self.false (omega arith) (omega arith)
    (λ e. c.if-first-eq0.false (first ∙ e))
    (sym c.is_waiting.ensures ∙ c.if-not-is_waiting.false)
    (sym (c.is_held.ensures ∙ ap (λ (q : ℕ). held_back k q) c.queue_of-q.ensures.0) ∙ c.if-is_held.false))
