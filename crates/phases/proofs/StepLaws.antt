-- What holds of a step that gives no next phase. Assumes nothing.
--     send-unfit, take-unfit     an engine whose phase is unfit for its step has written nothing
use Rattle.std.proofs.Common.{◌≡◌, ℕ, Bool, true, false, List, Option, Some, None, ap, sym, arith}
use lib.Dec.{eqb, ltb}
use Rattle.layout.specs.Choice.{pick}
use Rattle.layout.specs.Layout.{good_ptr, length_max}
use Rattle.phases.specs.declared.Sending.{Sending}
use Rattle.phases.specs.declared.Sending.TheVariants as S
use Rattle.phases.specs.declared.Receiving.{Receiving}
use Rattle.phases.specs.declared.Receiving.TheVariants as R
use Rattle.phases.specs.declared.Step.{Step}
use Rattle.phases.specs.Transmit as T
use Rattle.phases.specs.Receive as U

-- what a step gives, and the memory that it leaves
abbrev After : Type 0 → Type 0
After P = Option (Step P) × List ℕ

none : {P A : Type 0} (s : Step P) → Some s ≡ None → A
none s e = let z : ◌≡◌ {A = ℕ} 0 1 = cc in absurd (omega arith)

went : {P : Type 0} (s : Step P) (m n x : List ℕ) → ◌≡◌ {A = After P} (Some s, n) (None, x) → x ≡ m
went s m n x e = none s (ap (λ (p : After _). p.0) e)

same : {P : Type 0} (o : Option (Step P)) (m x : List ℕ) → ◌≡◌ {A = After P} (o, m) (None, x) → x ≡ m
same o m x e = sym (ap (λ (p : After _). p.1) e)

-- a step that marks where its pointer is good
on-good : {P : Type 0} (b : Bool) (s : Step P) (m n x : List ℕ) → pick {A = After P} b (Some s, n) (None, m) ≡ (None, x) → x ≡ m
on-good true s m n x e = went s m n x e
on-good false s m n x e = same None m x e

send-eoq : (a b : Bool) (s : Step Sending) (m n x : List ℕ)
    → pick {A = After Sending} a (pick b (Some s, n) (None, m)) (Some s, m) ≡ (None, x) → x ≡ m
send-eoq true b s m n x e = on-good b s m n x e
send-eoq false b s m n x e = went s m m x e

take-mark : (a b : Bool) (s : Step Receiving) (m n x : List ℕ)
    → pick {A = After Receiving} a (None, m) (pick b (Some s, n) (None, m)) ≡ (None, x) → x ≡ m
take-mark true b s m n x e = same None m x e
take-mark false b s m n x e = on-good b s m n x e

pub send-unfit : (held : Bool) (m x : List ℕ) (s : Sending) (hdp cp : ℕ) → T.send_step held m s hdp cp ≡ (None, x) → x ≡ m
unfolding T.send_step T.mark_eoq T.clear_own
send-unfit held m x S.Idle hdp cp e = same _ m x e
send-unfit held m x S.New hdp cp e = same _ m x e
send-unfit held m x (S.Within p) hdp cp e = same _ m x e
send-unfit held m x (S.Moving r) hdp cp e = same _ m x e
send-unfit held m x (S.Ended f) hdp cp e = same _ m x e
send-unfit held m x (S.Marking f) hdp cp e = send-eoq (eqb f.next 0) (good_ptr hdp) _ m _ x e
send-unfit held m x (S.Owning f) hdp cp e = on-good (good_ptr f.sop) _ m _ x e
send-unfit held m x (S.Done f) hdp cp e = same _ m x e

pub take-unfit : (m x : List ℕ) (s : Receiving) (hdp cp : ℕ) → U.take_step m s hdp cp ≡ (None, x) → x ≡ m
unfolding U.take_step U.mark_last U.mark_first
take-unfit m x R.Idle hdp cp e = same _ m x e
take-unfit m x R.Wait hdp cp e = same _ m x e
take-unfit m x (R.Fetch f) hdp cp e = same _ m x e
take-unfit m x (R.Moving s) hdp cp e = same _ m x e
take-unfit m x (R.Ended f) hdp cp e = same _ m x e
take-unfit m x (R.Last s) hdp cp e = take-mark (ltb length_max s.here) (good_ptr hdp) _ m _ x e
take-unfit m x (R.First s) hdp cp e = take-mark (ltb length_max s.stored) (good_ptr s.first) _ m _ x e
take-unfit m x (R.Done f) hdp cp e = same _ m x e
