-- What a call leaves, from what the controller's own promise says.
-- Assumes nothing.
--     stepped-of, written_of, came-of   a step, an unguarded write and a frame on the record that was read, once the outcome is saved
use Prim.Native.Nat.{ℕ}
use mathlib.Core.Path.{◌≡◌, ap, ◌∙◌}
use mathlib.Core.List.{List}
use Rattle.phases.specs.declared.Engine.{Engine}
use Rattle.controller.specs.declared.Controller.{Controller}
use Rattle.controller.specs.declared.Stepped.{Stepped}
use Rattle.controller.specs.declared.Arrived.{Arrived}
use Rattle.controller.specs.Controller.{StepDone, Framed, outcome, arrival, step_of, frame_of, unguarded_write}
use Rattle.rig.specs.Record.{Parts, burst_words}
use Rattle.rig.specs.Record.{controller_in, saved_in}
use Rattle.layout.specs.Refusals.{fault}
use Rattle.phases.specs.Engines.{engine_at}
use Rattle.rig.specs.Lent.{lent, lent_by, came, came_by}

module _ (p p' : Parts) where
  lent_of : (act : Controller → StepDone) (k : Controller) (s : Stepped) (n : ℕ) (b m : List ℕ) → k ≡ controller_in p → outcome s m ≡ act k
      → n ≡ fault s.answer
      → p' ≡ saved_in p s.ctl → b ≡ burst_words s.burst → lent n p' b m ≡ lent_by p (act (controller_in p))
  unfolding lent_by
  lent_of act k s n b m ek eo en ep eb =
      let first : lent n p' b m ≡ lent_by p (outcome s m) = λ i. lent (en i) (ep i) (eb i) m in
      first ∙ ap (λ (o : StepDone). lent_by p o) (eo ∙ ap act ek)

  pub stepped-of : (m : List ℕ) (q ch : ℕ) (e : Engine) (k : Controller) (s : Stepped) (n : ℕ) (b m' : List ℕ) → e ≡ engine_at q ch
      → k ≡ controller_in p
      → outcome s m' ≡ step_of e k m → n ≡ fault s.answer → p' ≡ saved_in p s.ctl → b ≡ burst_words s.burst
      → lent n p' b m' ≡ lent_by p (step_of (engine_at q ch) (controller_in p) m)
  stepped-of m q ch e k s n b m' ee ek eo en ep eb =
      lent_of (λ x. step_of (engine_at q ch) x m) k s n b m' ek (eo ∙ ap (λ (x : Engine). step_of x k m) ee) en ep eb

  pub written_of : (m : List ℕ) (a v : ℕ) (k : Controller) (s : Stepped) (n : ℕ) (b m' : List ℕ) → k ≡ controller_in p
      → outcome s m' ≡ unguarded_write a v k m
      → n ≡ fault s.answer → p' ≡ saved_in p s.ctl → b ≡ burst_words s.burst
      → lent n p' b m' ≡ lent_by p (unguarded_write a v (controller_in p) m)
  written_of m a v k s n b m' ek eo en ep eb = lent_of (λ x. unguarded_write a v x m) k s n b m' ek eo en ep eb

  pub came-of : (n : ℕ) (k : Controller) (a : Arrived) (r : ℕ) → k ≡ controller_in p → arrival a ≡ frame_of n k → p' ≡ saved_in p a.ctl
      → r ≡ fault a.answer → came r p' ≡ came_by p (frame_of n (controller_in p))
  unfolding came_by
  came-of n k a r ek ea ep er =
      let first : came r p' ≡ came_by p (arrival a) = λ i. came (er i) (ep i) in
      first ∙ ap (λ (o : Framed). came_by p o) (ea ∙ ap (λ (x : Controller). frame_of n x) ek)
