-- What happened in a frame and in a step, by its one event, whether or not a line is printed for it. Assumes nothing.
--     Happening                 the controller afterwards, and the event
--     Tells p h m k t u l       what happened: one event and the controller h, and the tables m k t u l
--     MovesOn f c m h m'        the same of a result of the controller alone, whatever kinds, small state, words in use and lengths
-- there are     frame-tells, step-tells   a frame, a step
use Rattle.std.proofs.Common.{◌≡◌, ℕ, List, [], ◌∷◌, ap, sym, ◌∙◌, refl}
use Rattle.guard.specs.Answers.{number_of}
use Rattle.phases.specs.declared.Burst.{Burst}
use Rattle.phases.specs.declared.Engine.{Engine}
use Rattle.controller.specs.declared.Controller.{Controller}
use Rattle.machine.specs.declared.After.{After}
use Rattle.machine.specs.Machine.{Machine, apply_frame, apply_step}
use Rattle.machine.specs.After.{machine_at, Moves as Carries}
use Rattle.records.specs.declared.Record.TheVariants.{Frame}
use Rattle.records.specs.declared.Event.{Event}
use Rattle.records.specs.declared.Event.TheVariants.{Framed, Moved}
use Rattle.replay.specs.Replay.{steps_of, record_of}

pub record Happening : Type 0 where
  pub ctl : Controller
  pub event : Event

pub record Tells (p : List Event × Machine) (h : Happening) (m k t u l : List ℕ) : Type 0 where
  pub event : p.0 ≡ h.event ∷ []
  pub ctl : h.ctl ≡ p.1.ctl
  pub mem : m ≡ p.1.mem
  pub kinds : k ≡ p.1.kinds
  pub state : t ≡ p.1.state
  pub used : u ≡ p.1.used
  pub lens : l ≡ p.1.lens

abbrev pub MovesOn : (Machine → List Event × Machine) → Controller → List ℕ → Happening → List ℕ → Type 0
MovesOn f c m h m' = (k t u l : List ℕ) → Tells (f (machine_at c m k t u l)) h m' k t u l

pub frame-tells : (n : ℕ) (c : Controller) (r : After) (i : ℕ) → ((m : List ℕ) → Carries (apply_frame n) c m r m) → i ≡ number_of
    r.answer
    → (m : List ℕ) → MovesOn (record_of (Frame n)) c m (record { ctl = r.ctl; event = Framed n i }) m
unfolding record_of
frame-tells n c r i f e m k t u l =
    let h = f m k t u l in
    record {
      event = ap (λ (z : ℕ). Framed n z ∷ []) (sym (e ∙ ap number_of h.answer));
      ctl = h.ctl;
      mem = h.mem;
      kinds = h.kinds;
      state = h.state;
      used = h.used;
      lens = h.lens;
    }

pub step-tells : (e : Engine) (c : Controller) (m : List ℕ) (r : After) (m1 : List ℕ) → Carries (apply_step e) c m r m1
    → MovesOn (steps_of e 1) c m (record { ctl = r.ctl; event = Moved r.burst }) m1
step-tells e c m r m1 f k t u l =
    let h = f k t u l in
    record {
      event = ap (λ (z : Burst). Moved z ∷ []) (sym h.burst);
      ctl = h.ctl;
      mem = h.mem;
      kinds = h.kinds;
      state = h.state;
      used = h.used;
      lens = h.lens;
    }
