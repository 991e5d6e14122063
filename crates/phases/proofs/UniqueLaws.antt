-- Any two outcomes that one promise allows are the same: a theorem for each public function. Assumes nothing.
--     step-transmit-unique, step-receive-unique               what is handed back, and the memory that is left
--     is-quiet-tx-unique, is-quiet-rx-unique, is-waiting-unique     the answer
use Rattle.std.proofs.Common.{Option}
use Prim.Native.Nat.{ℕ}
use mathlib.Core.Path.{◌≡◌, ap, ◌∙◌, sym}
use mathlib.Core.Bool.{Bool}
use mathlib.Core.List.{List}
use Rattle.phases.specs.declared.Sending.{Sending}
use Rattle.phases.specs.declared.Receiving.{Receiving}
use Rattle.phases.specs.declared.Step.{Step}
use Rattle.phases.specs.Transmit.{send_step}
use Rattle.phases.specs.Receive.{take_step}
use Rattle.phases.specs.Quiet.{quiet_tx, quiet_rx, waits}

both-same : {A B : Type 0} (o : A × B) (r s : A) (x y : B) → (r, x) ≡ o → (s, y) ≡ o → (r ≡ s) × (x ≡ y)
both-same {A} {B} o r s x y p q =
    let e = p ∙ sym q in
    (ap (λ (z : A × B). z.0) e, ap (λ (z : A × B). z.1) e)

pub step-transmit-unique : (held : Bool) (m : List ℕ) (p : Sending) (hdp cp : ℕ) (r s : Option (Step Sending)) (x y : List ℕ)
    → (r, x) ≡ send_step held m p hdp cp → (s, y) ≡ send_step held m p hdp cp → (r ≡ s) × (x ≡ y)
step-transmit-unique held m p hdp cp r s x y e f = both-same (send_step held m p hdp cp) r s x y e f

pub step-receive-unique : (m : List ℕ) (p : Receiving) (hdp cp : ℕ) (r s : Option (Step Receiving)) (x y : List ℕ)
    → (r, x) ≡ take_step m p hdp cp → (s, y) ≡ take_step m p hdp cp → (r ≡ s) × (x ≡ y)
step-receive-unique m p hdp cp r s x y e f = both-same (take_step m p hdp cp) r s x y e f

pub is-quiet-tx-unique : (p : Sending) (r s : Bool) → r ≡ quiet_tx p → s ≡ quiet_tx p → r ≡ s
is-quiet-tx-unique p r s e f = e ∙ sym f

pub is-quiet-rx-unique : (p : Receiving) (r s : Bool) → r ≡ quiet_rx p → s ≡ quiet_rx p → r ≡ s
is-quiet-rx-unique p r s e f = e ∙ sym f

pub is-waiting-unique : (p : Receiving) (r s : Bool) → r ≡ waits p → s ≡ waits p → r ≡ s
is-waiting-unique p r s e f = e ∙ sym f
