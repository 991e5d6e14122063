-- A register by the range of its class number, in the form that the arms of `judge_class` cite. Assumes nothing.
--     class-ack, class-teardown, class-reset, class-zero   the judges; HDP is in GivesLaws
--     queue_of-side                                        which queue a teardown register names
--     class-passed, class-unoffered                        those that pass, those not offered
--     class_low, class-mid, class-past                     what is left is not guarded
use Rattle.std.proofs.Common.{◌≡◌, ℕ, zero, suc, ◌+◌, ◌-◌, ◌<◌, ◌≤◌, Bool, true, false, eqb, List, sym, refl, ap, ◌∙◌, arith}
use Rattle.layout.specs.Choice.{pick}
use Rattle.layout.specs.Layout.{queues, side_of, queue_of}
use Rattle.layout.specs.Class.{hdp_class, cp_class, teardown_class, reset_class, passed_class, unoffered_class, unguarded_class}
use Rattle.registers.specs.Table.{awaiting, set_tearing}
use Rattle.registers.specs.Rules.{ack_fault, ack_written, tear_queue, teardown_number, reset_number, reset_written, zero_fault}
use Rattle.registers.specs.Rules.{register_fault}
use Rattle.registers.specs.Rules.{written}
use Rattle.registers.proofs.RegisterLaws.{by_class-low, by_class-ack, by_class-mid, by_class-teardown, by_class-reset, by_class-zero}
use Rattle.registers.proofs.RegisterLaws.{by_class-passed, by_class-unoffered, by_class-unguarded}
use Rattle.guard.specs.declared.Effect.TheVariants.{Plain}
use Rattle.guard.specs.declared.Answer.{Answer}
use Rattle.guard.specs.declared.Answer.TheVariants.{Accepted, Refused}
use Rattle.guard.specs.Answers.{answer_to, world_at, Gives}
use Rattle.guard.specs.Judges.{judge_class}
use Rattle.guard.specs.Rulings.{ruled}
use Rattle.guard.proofs.GivesLaws.{class-ruled}

-- a teardown register's number past the first is the first queue of its side
pub queue_of-side : (k : ℕ) → k < 2 → queue_of (side_of k) 0 ≡ k
unfolding side_of
queue_of-side zero h = refl
queue_of-side (suc zero) h = refl
queue_of-side (suc (suc k)) h = absurd (omega arith)

-- a register whose write changes nothing
same-ruled : (t : List ℕ) (j : ℕ) → (answer_to Plain j, t) ≡ ruled j t t
unfolding answer_to ruled
same-ruled t j = at (eqb j 0)
  where
    at : (b : Bool) → ◌≡◌ {A = Answer × List ℕ} (pick b (Accepted Plain) (Refused j), t) (pick b (Accepted Plain, t) (Refused j, t))
    at true = refl
    at false = refl

module _ (m k t u l : List ℕ) (n v : ℕ) where
  abbrev Says : Answer → List ℕ → Type 0
  Says r t' = Gives (judge_class n v (world_at m k t u l)) r m k t' u l

  pub class-ack : cp_class ≤ n → n < cp_class + queues → {q : ℕ} → q ≡ n - cp_class → {r : Answer} {t' : List ℕ}
      → (r, t') ≡ ruled (ack_fault (awaiting t) v) (ack_written t q v) t → Says r t'
  unfolding register_fault written
  class-ack h g e o = class-ruled m k t u l n v (omega arith) (by_class-ack n _ _ _ _ _ _ _ _ h g)
      (by_class-ack n _ _ _ _ _ _ _ _ h g ∙ ap (λ (i : ℕ). ack_written t i v) (sym e)) o

  pub class-teardown : teardown_class ≤ n → n < reset_class → {q : ℕ} → q ≡ tear_queue (n - teardown_class) v → {r : Answer} {t' : List ℕ}
      → (r, t') ≡ ruled (teardown_number t q v) (set_tearing q t) t → Says r t'
  unfolding register_fault written
  class-teardown h g e o =
      class-ruled m k t u l n v (omega arith) (by_class-teardown n _ _ _ _ _ _ _ _ h g ∙ ap (λ (i : ℕ). teardown_number t i v) (sym e))
      (by_class-teardown n _ _ _ _ _ _ _ _ h g ∙ ap (λ (i : ℕ). set_tearing i t) (sym e)) o

  pub class-reset : n ≡ reset_class → {r : Answer} {t' : List ℕ} → (r, t') ≡ ruled (reset_number t v) (reset_written t) t → Says r t'
  unfolding register_fault written
  class-reset h o = class-ruled m k t u l n v (omega arith) (by_class-reset n _ _ _ _ _ _ _ _ h) (by_class-reset n _ _ _ _ _ _ _ _ h) o

  -- nothing is written
  told : (j : ℕ) → hdp_class + queues ≤ n → register_fault t n v ≡ j → written t n v ≡ t → {r : Answer} → r ≡ answer_to Plain j → Says r t
  told j h e f a = class-ruled m k t u l n v h e f (ap (λ (x : Answer). (x, t)) a ∙ same-ruled t j)

  pub class-zero : reset_class < n → n < passed_class → {r : Answer} → r ≡ answer_to Plain (zero_fault v) → Says r t
  unfolding register_fault written
  class-zero h g a = told (zero_fault v) (omega arith) (by_class-zero n _ _ _ _ _ _ _ _ h g) (by_class-zero n _ _ _ _ _ _ _ _ h g) a

  pub class-passed : passed_class ≤ n → n < unoffered_class → Says (Accepted Plain) t
  unfolding register_fault written answer_to
  class-passed h g = told 0 (omega arith) (by_class-passed n _ _ _ _ _ _ _ _ h g) (by_class-passed n _ _ _ _ _ _ _ _ h g) refl

  pub class-unoffered : unoffered_class ≤ n → n < unguarded_class → Says (Refused 5) t
  unfolding register_fault written answer_to
  class-unoffered h g = told 5 (omega arith) (by_class-unoffered n _ _ _ _ _ _ _ _ h g) (by_class-unoffered n _ _ _ _ _ _ _ _ h g) refl

  pub class_low : hdp_class + queues ≤ n → n < cp_class → Says (Refused 4) t
  unfolding register_fault written answer_to
  class_low h g = told 4 h (by_class-low n _ _ _ _ _ _ _ _ h g) (by_class-low n _ _ _ _ _ _ _ _ h g) refl

  pub class-mid : cp_class + queues ≤ n → n < teardown_class → Says (Refused 4) t
  unfolding register_fault written answer_to
  class-mid h g = told 4 (omega arith) (by_class-mid n _ _ _ _ _ _ _ _ h g) (by_class-mid n _ _ _ _ _ _ _ _ h g) refl

  pub class-past : unguarded_class ≤ n → Says (Refused 4) t
  unfolding register_fault written answer_to
  class-past h = told 4 (omega arith) (by_class-unguarded n _ _ _ _ _ _ _ _ h) (by_class-unguarded n _ _ _ _ _ _ _ _ h) refl
