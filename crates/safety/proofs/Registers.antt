-- Accepted writes to registers other than a start: zeros while initialisation is awaited, the acknowledgement of CP, teardown,
-- reset, and those with no effect. Each takes a calm machine to a calm one, for any queue. Assumes nothing.
--     serves-idle             the clause of an idle engine looks at no register
--     rewritten t u s         the machine with the small state t and the controller's table u
--     Goes s u                what is asked of the controller's table u beside engines and queues
--     still-goes              the own table has it
--     zero-goes               "0 is accepted, stored and marks it": any marks and registers, as long as a marked HDP is 0
--     ack-goes                "a value equal to the CP sets it to 0"
--     tear-goes, reset-goes   "Teardown and reset become pending in book and model, reset also sets its bit"
--     written-fits            a register write keeps a table's size, its flags and its heads
--     calm-alike              what the rules read of the small state is the controller's
--     register-calm           a write without fault that starts no engine
use Prim.Native.Nat.{ℕ, zero, suc, ◌+◌, ◌-◌, ◌≤◌, ◌<◌}
use mathlib.Core.Path.{◌≡◌, refl, ap, ◌∙◌, sym}
use mathlib.Core.Bool.{Bool, true, false}
use mathlib.Core.List.{List}
use mathlib.Core.Logic.{◌≢◌}
use native.Mathlib.Omega.{arith}
use lib.ListN.{length, get_or}
use lib.Dec.{eqb, ltb}
use borrow.Author.Tests.{eqb-true, eqb-false, ltb-true, ltb-false, lt-ltb, not-false}
use Rattle.layout.specs.Bits.{bit, set_bit}
use Rattle.layout.specs.Layout.{queues, marks}
use Rattle.layout.specs.Class.{hdp_class}
use Rattle.layout.proofs.ChoiceLaws.{clash, pick-holds}
use Rattle.layout.proofs.BitLaws.{bit-set_bit-other}
use Rattle.registers.specs.Table.{state_words, marks_at, reset_at, bit_at, head_of, hdp_of, cp_of, marks_of, tearings_of, tearing_of}
use Rattle.registers.specs.Table.{awaiting}
use Rattle.registers.specs.Table.{any_tearing, reset_of, bit_of, set_hdp, set_cp, set_marks, set_mark, set_tearings, set_tearing, set_reset}
use Rattle.registers.specs.Table.{is_device, flags_fit}
use Rattle.registers.specs.Rules.{teardown_done, tear_queue, head_number, register_fault, head_written, ack_written, reset_written, written}
use Rattle.registers.proofs.TableLaws.{length-set_hdp, head_of-set_hdp, hdp_of-set_hdp-same, hdp_of-set_hdp-other, marks_of-set_hdp}
use Rattle.registers.proofs.TableLaws.{tearings_of-set_hdp, reset_of-set_hdp, bit_of-set_hdp, length-set_cp, head_of-set_cp, hdp_of-set_cp}
use Rattle.registers.proofs.TableLaws.{cp_of-set_cp-same, cp_of-set_cp-other, marks_of-set_cp, awaiting-set_cp, tearings_of-set_cp}
use Rattle.registers.proofs.TableLaws.{tearing_of-set_cp}
use Rattle.registers.proofs.TableLaws.{reset_of-set_cp, bit_of-set_cp, length-set_marks, head_of-set_marks, hdp_of-set_marks}
use Rattle.registers.proofs.TableLaws.{marks_of-set_marks}
use Rattle.registers.proofs.TableLaws.{tearings_of-set_marks, reset_of-set_marks, bit_of-set_marks, length-set_tearings}
use Rattle.registers.proofs.TableLaws.{head_of-set_tearings}
use Rattle.registers.proofs.TableLaws.{hdp_of-set_tearings, cp_of-set_tearings, marks_of-set_tearings, awaiting-set_tearings}
use Rattle.registers.proofs.TableLaws.{reset_of-set_tearings}
use Rattle.registers.proofs.TableLaws.{bit_of-set_tearings, tearing_of-set_tearing-same, tearing_of-set_tearing-other, length-set_reset}
use Rattle.registers.proofs.TableLaws.{head_of-set_reset, hdp_of-set_reset, marks_of-set_reset, awaiting-set_reset, reset_of-set_reset}
use Rattle.registers.proofs.TableLaws.{tearing_of-set_reset, length-set_reset_bit, head_of-set_reset_bit, hdp_of-set_reset_bit}
use Rattle.registers.proofs.TableLaws.{marks_of-set_reset_bit}
use Rattle.registers.proofs.TableLaws.{awaiting-set_reset_bit, tearing_of-set_reset_bit, reset_of-set_reset_bit, bit_of-set_reset_bit}
use Rattle.registers.proofs.TableLaws.{any_tearing-none, get_or-loaded, is_device-register, flags_fit-set_hdp, flags_fit-set_cp}
use Rattle.registers.proofs.TableLaws.{flags_fit-set_reset_bit, flags_fit-set_reset, flags_fit-set_mark, flags_fit-set_tearing}
use Rattle.registers.proofs.RegisterLaws.{head_written-zero, ack_written-zero, ack_written-same, ack_written-other, tear_queue-lt}
use Rattle.registers.proofs.RegisterLaws.{head_fault-zero, teardown_fault-none, reset_fault-none}
use Rattle.queue.proofs.NumberLaws.{each, queue_at}
use Rattle.queue.proofs.CallLaws.{by_class-holds, by_class-both}
use Rattle.phases.specs.declared.Sending.{Sending}
use Rattle.phases.specs.declared.Sending.TheVariants as S
use Rattle.phases.specs.declared.Receiving.{Receiving}
use Rattle.phases.specs.declared.Receiving.TheVariants as R
use Rattle.controller.specs.Controller.{stage_of, set_state, starts_engine}
use Rattle.machine.specs.Machine.{Machine}
use Rattle.safety.specs.Follows.{Alike}
use Rattle.safety.proofs.Inv.{TxInv, idle_tx, RxInv, idle_rx, Phase, sending, taking, phase_of, idle, Serves, post_of, common_of}
use Rattle.safety.proofs.Inv.{words_of, Table}
use Rattle.safety.proofs.Touch.{phase-channels, table_fits, fits-table}
use Rattle.safety.proofs.Calm.{Duty, Calm, Loaded}
use Rattle.safety.proofs.Allowed.{marks-alike, tearings-alike, reset-alike, written-alike}

-- ---- an idle engine

tx-idle : (K : List ℕ) (w : ℕ → ℕ) (L : List ℕ) (h n h' : ℕ) (ph : Sending) → idle_tx ph ≡ true → TxInv K w L h n ph → TxInv K w L h' n ph
tx-idle K w L h n h' S.Idle e t = t
tx-idle K w L h n h' S.New e t = clash e refl
tx-idle K w L h n h' (S.Within p) e t = clash e refl
tx-idle K w L h n h' (S.Moving r) e t = clash e refl
tx-idle K w L h n h' (S.Ended x) e t = clash e refl
tx-idle K w L h n h' (S.Marking c) e t = clash e refl
tx-idle K w L h n h' (S.Owning c) e t = clash e refl
tx-idle K w L h n h' (S.Done l) e t = clash e refl

rx-idle : (lens : List ℕ) (w : ℕ → ℕ) (L : List ℕ) (h n h' : ℕ) (ph : Receiving) → idle_rx ph ≡ true → RxInv lens w L h n ph
    → RxInv lens w L h' n ph
rx-idle lens w L h n h' R.Idle e t = t
rx-idle lens w L h n h' R.Wait e t = clash e refl
rx-idle lens w L h n h' (R.Fetch f) e t = clash e refl
rx-idle lens w L h n h' (R.Moving s) e t = clash e refl
rx-idle lens w L h n h' (R.Ended x) e t = clash e refl
rx-idle lens w L h n h' (R.Last s) e t = clash e refl
rx-idle lens w L h n h' (R.First s) e t = clash e refl
rx-idle lens w L h n h' (R.Done l) e t = clash e refl

serves-idle : (K lens : List ℕ) (w : ℕ → ℕ) (L : List ℕ) (h n h' : ℕ) (ph : Phase) → idle ph ≡ true → Serves K lens w L h n ph
    → Serves K lens w L h' n ph
serves-idle K lens w L h n h' (sending ph) e t = tx-idle K w L h n h' ph e t
serves-idle K lens w L h n h' (taking ph) e t = rx-idle lens w L h n h' ph e t

-- ---- what is asked of the controller's table

abbrev pub rewritten : List ℕ → List ℕ → Machine → Machine
rewritten t u s = record { ctl = set_state u s.ctl; mem = s.mem; kinds = s.kinds; state = t; used = s.used; lens = s.lens }

record Goes (s : Machine) (u : List ℕ) : Type 0 where
  bits : bit_of u ≡ reset_of u
  ready : reset_of u ≡ true → awaiting u ≡ false
  duty : (q : ℕ) → q < queues → Duty (common_of (rewritten u u s)) (post_of (rewritten u u s) q) (idle (phase_of s.ctl q))
  hdp : (q : ℕ) → q < queues → idle (phase_of s.ctl q) ≡ false → hdp_of u q ≡ hdp_of s.ctl.state q

module _ (s : Machine) (c : Calm s) where
  abbrev u : List ℕ
  u = s.ctl.state

  size : length u ≡ state_words
  size = c.sized.ctl.size

  duty-of : (q : ℕ) → q < queues → Duty (common_of (rewritten u u s)) (post_of (rewritten u u s) q) (idle (phase_of s.ctl q))
  duty-of q h =
      let d = c.duty q h in
      record { young = d.young; stage = d.stage; alone = d.alone; ready = d.ready; asleep = d.asleep; zeroed = d.zeroed }

  still-goes : Goes s u
  still-goes = record { bits = c.bits; ready = c.ready; duty = duty-of; hdp = λ q h e. refl }

  -- while a zero is awaited no teardown is pending and every engine is idle
  zero-goes : awaiting u ≡ true → (v : List ℕ) → tearings_of v ≡ tearings_of u → reset_of v ≡ reset_of u → bit_of v ≡ bit_of u
      → ((q : ℕ) → q < queues → bit q (marks_of v) ≡ true → hdp_of v q ≡ 0) → Goes s v
  zero-goes w v t r b z = record {
    bits = b ∙ c.bits ∙ sym r;
    ready = λ e. clash w (c.ready (sym r ∙ e));
    duty = λ q h. let d = c.duty q h in record {
      young = λ e. clash w (d.ready (sym (ap (bit q) t) ∙ e));
      stage = λ e. d.stage (sym (ap (bit q) t) ∙ e);
      alone = λ e. ap (bit q) t ∙ d.alone (sym r ∙ e);
      ready = λ e. clash w (d.ready (sym (ap (bit q) t) ∙ e));
      asleep = λ e. d.asleep w;
      zeroed = λ m e. z q h m;
    };
    hdp = λ q h e. clash ((c.duty q h).asleep w) e;
  }

  -- a mark that is set says that its HDP is 0
  marked-zero : awaiting u ≡ true → (q : ℕ) → q < queues → bit q (marks_of u) ≡ true → hdp_of u q ≡ 0
  marked-zero w q h m = let d = c.duty q h in d.zeroed m (d.asleep w)

  head-goes : (q x : ℕ) → q < queues → awaiting u ≡ true → x ≡ 0 → Goes s (set_mark q (set_hdp q x u))
  head-goes q x h w z =
      let t = set_hdp q x u in
      let m = set_bit q (marks_of t) in
      zero-goes w (set_marks m t) (tearings_of-set_marks t m ∙ tearings_of-set_hdp u q x h)
      (reset_of-set_marks t m ∙ reset_of-set_hdp u q x h)
      (bit_of-set_marks t m ∙ bit_of-set_hdp u q x h)
      (each (λ j. j < queues → bit j (marks_of (set_marks m t)) ≡ true → hdp_of (set_marks m t) j ≡ 0) q
      (λ k e. hdp_of-set_marks t m q k ∙ hdp_of-set_hdp-same u q x size k ∙ z)
      (λ j n k e. hdp_of-set_marks t m j k ∙ hdp_of-set_hdp-other u q x j n
      ∙ marked-zero w j k (sym
      (ap (bit j) (marks_of-set_marks t m (length-set_hdp u q x ∙ size)) ∙ bit-set_bit-other j q (marks_of t) n
      ∙ ap (bit j) (marks_of-set_hdp u q x h)) ∙ e)))

  cp-goes : (q x : ℕ) → q < queues → awaiting u ≡ true → Goes s (set_mark (queues + q) (set_cp q x u))
  cp-goes q x h w =
      let t = set_cp q x u in
      let m = set_bit (queues + q) (marks_of t) in
      zero-goes w (set_marks m t) (tearings_of-set_marks t m ∙ tearings_of-set_cp u q x h)
      (reset_of-set_marks t m ∙ reset_of-set_cp u q x h)
      (bit_of-set_marks t m ∙ bit_of-set_cp u q x h)
      (λ j k e. hdp_of-set_marks t m j k ∙ hdp_of-set_cp u q x j k
      ∙ marked-zero w j k (sym
      (ap (bit j) (marks_of-set_marks t m (length-set_cp u q x ∙ size)) ∙ bit-set_bit-other j (queues + q) (marks_of t) (λ n. omega arith)
      ∙ ap (bit j) (marks_of-set_cp u q x h)) ∙ e))

  acked-goes : (q : ℕ) → q < queues → Goes s (set_cp q 0 u)
  acked-goes q h = record {
    bits = bit_of-set_cp u q 0 h ∙ c.bits ∙ sym (reset_of-set_cp u q 0 h);
    ready = λ e. awaiting-set_cp u q 0 h ∙ c.ready (sym (reset_of-set_cp u q 0 h) ∙ e);
    duty = λ j k. let d = c.duty j k in record {
      young = each (λ j. j < queues → tearing_of (set_cp q 0 u) j ≡ true → cp_of (set_cp q 0 u) j ≢ teardown_done) q
          (λ k e z. omega (arith, z, cp_of-set_cp-same u q 0 size h))
          (λ j n k e z. (c.duty j k).young (sym (tearing_of-set_cp u q 0 j h) ∙ e) (sym (cp_of-set_cp-other u q 0 j n) ∙ z))
          j k;
      stage = λ e. d.stage (sym (tearing_of-set_cp u q 0 j h) ∙ e);
      alone = λ e. tearing_of-set_cp u q 0 j h ∙ d.alone (sym (reset_of-set_cp u q 0 h) ∙ e);
      ready = λ e. awaiting-set_cp u q 0 h ∙ d.ready (sym (tearing_of-set_cp u q 0 j h) ∙ e);
      asleep = λ e. d.asleep (sym (awaiting-set_cp u q 0 h) ∙ e);
      zeroed = λ m e. hdp_of-set_cp u q 0 j k ∙ d.zeroed (sym (ap (bit j) (marks_of-set_cp u q 0 h)) ∙ m) e;
    };
    hdp = λ j k e. hdp_of-set_cp u q 0 j k;
  }

  ack-goes : (q x : ℕ) → q < queues → Goes s (ack_written u q x)
  ack-goes q x h = at (awaiting u) refl
    where
      other : (b : Bool) → eqb x (cp_of u q) ≡ b → awaiting u ≡ false → Goes s (ack_written u q x)
      other true e w = rw (ack_written-same u q x w (eqb-true x (cp_of u q) e)) (acked-goes q h)
      other false e w = rw (ack_written-other u q x w (eqb-false x (cp_of u q) e)) still-goes

      at : (b : Bool) → awaiting u ≡ b → Goes s (ack_written u q x)
      at true w = rw (ack_written-zero u q x w) (cp-goes q x h w)
      at false w = other (eqb x (cp_of u q)) refl w

  tear-goes : (q : ℕ) → awaiting u ≡ false → reset_of u ≡ false → cp_of u q ≢ teardown_done → Goes s (set_tearing q u)
  tear-goes q w r n =
      let m = set_bit q (tearings_of u) in
      let t = set_tearings m u in
      record {
        bits = bit_of-set_tearings u m ∙ c.bits ∙ sym (reset_of-set_tearings u m);
        ready = λ e. clash (sym (reset_of-set_tearings u m) ∙ e) r;
        duty = λ j k. let d = c.duty j k in record {
          young = each (λ j. j < queues → tearing_of t j ≡ true → cp_of t j ≢ teardown_done) q
              (λ k e z. n (sym (cp_of-set_tearings u m q k) ∙ z))
              (λ j i k e z. (c.duty j k).young (sym (tearing_of-set_tearing-other u q size j i) ∙ e) (sym (cp_of-set_tearings u m j k) ∙ z))
              j k;
          stage = each (λ j. j < queues → tearing_of t j ≡ false → stage_of s.ctl j ≡ 1) q
              (λ k e. clash (tearing_of-set_tearing-same u q size) e)
              (λ j i k e. (c.duty j k).stage (sym (tearing_of-set_tearing-other u q size j i) ∙ e))
              j k;
          alone = λ e. clash (sym (reset_of-set_tearings u m) ∙ e) r;
          ready = λ e. awaiting-set_tearings u m ∙ w;
          asleep = λ e. d.asleep (sym (awaiting-set_tearings u m) ∙ e);
          zeroed = λ i e. hdp_of-set_tearings u m j k ∙ d.zeroed (sym (ap (bit j) (marks_of-set_tearings u m)) ∙ i) e;
        };
        hdp = λ j k e. hdp_of-set_tearings u m j k;
      }

  reset-goes : awaiting u ≡ false → any_tearing u ≡ false → Goes s (reset_written u)
  reset-goes w n =
      let t = set_reset 1 u in
      let waits = awaiting-set_reset_bit t 1 ∙ awaiting-set_reset u 1 in
      let none : (q : ℕ) → tearing_of (reset_written u) q ≡ false = λ q. tearing_of-set_reset_bit t 1 q ∙ tearing_of-set_reset u 1 q
      ∙ any_tearing-none u q n in
      let hdps : (q : ℕ) → q < queues → hdp_of (reset_written u) q ≡ hdp_of u q =
      λ q h. hdp_of-set_reset_bit t 1 q h ∙ hdp_of-set_reset u 1 q h in
      record {
        bits = bit_of-set_reset_bit t 1 (length-set_reset u 1 ∙ size) ∙ sym (reset_of-set_reset_bit t 1 ∙ reset_of-set_reset u 1 size);
        ready = λ e. waits ∙ w;
        duty = λ q h. let d = c.duty q h in record {
          young = λ e. clash e (none q);
          stage = λ e. d.stage (any_tearing-none u q n);
          alone = λ e. none q;
          ready = λ e. waits ∙ w;
          asleep = λ e. d.asleep (sym waits ∙ e);
          zeroed = λ m e. hdps q h ∙ d.zeroed (sym (ap (bit q) (marks_of-set_reset_bit t 1 ∙ marks_of-set_reset u 1)) ∙ m) e;
        };
        hdp = λ q h e. hdps q h;
      }

  -- by class; an HDP is zeroed here, and starts no engine
  register-goes : (n x : ℕ) → starts_engine s.ctl n ≡ false → register_fault u n x ≡ 0 → Goes s (written u n x)
  unfolding register_fault written
  register-goes n x o =
      by_class-both (λ (k : ℕ) (v : List ℕ). k ≡ 0 → Goes s v) n _ _ _ _ _ _ _ _ _ _ _ _ _ _ _ _ head (λ q h z. ack-goes q x h)
      (λ side h z. let f = teardown_fault-none (awaiting u) (reset_of u) (tearing_of u (tear_queue side x)) x
      (cp_of u (tear_queue side x)) z in
      tear-goes (tear_queue side x) f.0 f.1 f.4)
      (λ z. let f = reset_fault-none (awaiting u) (reset_of u) (any_tearing u) x z in reset-goes f.0 f.2)
      (λ z. still-goes) (λ z. still-goes) (λ z. still-goes) (λ z. still-goes)
    where
      head : n < hdp_class + queues → head_number u (n - hdp_class) x ≡ 0 → Goes s (head_written u (n - hdp_class) x)
      head h z =
          let w : awaiting u ≡ true = not-false (awaiting u) (rw (lt-ltb n (hdp_class + queues) h) at o) in
          rw (head_written-zero u (n - hdp_class) x w)
          (head-goes (n - hdp_class) x (omega arith) w
          (head_fault-zero (awaiting u) (reset_of u) (tearing_of u (n - hdp_class)) x (hdp_of u (n - hdp_class)) w z))

-- ---- a table after a write is a table, with the heads that it had

record Fits (t v : List ℕ) : Type 0 where
  size : length v ≡ state_words
  flags : flags_fit v ≡ true
  heads : (q : ℕ) → q < queues → head_of v q ≡ head_of t q

module _ {t v : List ℕ} (f : Fits t v) where
  fits-hdp : (q x : ℕ) → q < queues → Fits t (set_hdp q x v)
  fits-hdp q x h = record {
    size = length-set_hdp v q x ∙ f.size;
    flags = flags_fit-set_hdp v q x h ∙ f.flags;
    heads = λ j k. head_of-set_hdp v q x j k ∙ f.heads j k;
  }

  fits-cp : (q x : ℕ) → q < queues → Fits t (set_cp q x v)
  fits-cp q x h = record {
    size = length-set_cp v q x ∙ f.size;
    flags = flags_fit-set_cp v q x h ∙ f.flags;
    heads = λ j k. head_of-set_cp v q x j k ∙ f.heads j k;
  }

  fits-mark : (k : ℕ) → k < marks → Fits t (set_mark k v)
  fits-mark k h = record {
    size = length-set_marks v _ ∙ f.size;
    flags = flags_fit-set_mark v f.flags k h;
    heads = λ j l. head_of-set_marks v _ j l ∙ f.heads j l;
  }

  fits-tearing : (q : ℕ) → q < queues → Fits t (set_tearing q v)
  fits-tearing q h = record {
    size = length-set_tearings v _ ∙ f.size;
    flags = flags_fit-set_tearing v f.flags q h;
    heads = λ j l. head_of-set_tearings v _ j l ∙ f.heads j l;
  }

  fits-reset : Fits t (reset_written v)
  fits-reset = record {
    size = length-set_reset_bit (set_reset 1 v) 1 ∙ length-set_reset v 1 ∙ f.size;
    flags = flags_fit-set_reset_bit (set_reset 1 v) 1 ∙ flags_fit-set_reset v f.flags 1 (omega arith);
    heads = λ j l. head_of-set_reset_bit (set_reset 1 v) 1 j l ∙ head_of-set_reset v 1 j l ∙ f.heads j l;
  }

module _ (t : List ℕ) (table : Table t) (x : ℕ) where
  same : Fits t t
  same = record { size = table.size; flags = table_fits table; heads = λ q h. refl }

  head-fits : (q : ℕ) → q < queues → Fits t (head_written t q x)
  unfolding head_written
  head-fits q h = let f = fits-hdp same q x h in pick-holds (Fits t) (awaiting t) _ _ (fits-mark f q (omega arith)) f

  ack-fits : (q : ℕ) → q < queues → Fits t (ack_written t q x)
  unfolding ack_written
  ack-fits q h =
      pick-holds (Fits t) (awaiting t) _ _ (fits-mark (fits-cp same q x h) (queues + q) (omega arith))
      (pick-holds (Fits t) (eqb x (cp_of t q)) _ _ (fits-cp same q 0 h) same)

  written-fits : (n : ℕ) → Fits t (written t n x)
  unfolding written
  written-fits n =
      by_class-holds (Fits t) n _ _ _ _ _ _ _ _ (λ h. head-fits (n - hdp_class) (omega arith)) ack-fits
      (λ side h. fits-tearing same (tear_queue side x) (tear_queue-lt side x h)) (fits-reset same) same same same same

-- ---- all together

-- a flag is a word that is 0 or 1
flag_word : (x y : ℕ) → x ≤ 1 → y ≤ 1 → eqb x 1 ≡ eqb y 1 → x ≡ y
flag_word x y a b e = at (eqb y 1) e refl
  where
    at : (t : Bool) → eqb x 1 ≡ t → eqb y 1 ≡ t → x ≡ y
    at true p q = eqb-true x 1 p ∙ sym (eqb-true y 1 q)
    at false p q = let m = eqb-false x 1 p in let n = eqb-false y 1 q in omega arith

-- the registers of its small state are the controller's, and so are marks, teardowns and reset
pub calm-alike : (s : Machine) → Calm s → Loaded s → Alike s.state s.ctl.state
unfolding reset_of
calm-alike s c l = record { same = λ k h g. at k h g (ltb k marks_at) refl }
  where
    register : (k : ℕ) → k ≤ bit_at → is_device k ≡ true → get_or s.state k 0 ≡ get_or s.ctl.state k 0
    register k g d = ap (λ (t : List ℕ). get_or t k 0) (sym l)
        ∙ get_or-loaded s.ctl.state s.state k (omega (arith, c.sized.book.size)) ∙ rw d refl

    past : (i : ℕ) → marks_at + i ≤ bit_at → get_or s.state (marks_at + i) 0 ≡ get_or s.ctl.state (marks_at + i) 0
    past zero g = c.marks
    past (suc zero) g = c.tearings
    past (suc (suc zero)) g =
        flag_word (get_or s.state reset_at 0) (get_or s.ctl.state reset_at 0) c.sized.book.reset c.sized.ctl.reset c.resets
    past (suc (suc (suc zero))) g = register bit_at g refl
    past (suc (suc (suc (suc i)))) g = absurd (omega arith)

    at : (k : ℕ) → queues ≤ k → k ≤ bit_at → (b : Bool) → ltb k marks_at ≡ b → get_or s.state k 0 ≡ get_or s.ctl.state k 0
    at k h g true e = register k g (is_device-register k h (ltb-true k marks_at e))
    at k h g false e =
        let m = ltb-false k marks_at e in
        let z : marks_at + (k - marks_at) ≡ k = omega arith in
        rw z at (past (k - marks_at) (omega arith))

pub register-calm : (s : Machine) → Calm s → Loaded s → (n x : ℕ) → starts_engine s.ctl n ≡ false → register_fault s.ctl.state n x ≡ 0
    → Calm (rewritten (written s.state n x) (written s.ctl.state n x) s)
register-calm s c l n x o z =
    let g = register-goes s c n x o z in
    let b = written-fits s.state c.sized.book x n in
    let k = written-fits s.ctl.state c.sized.ctl x n in
    let a = written-alike (calm-alike s c l) c.sized.book.size c.sized.ctl.size x n in
    let phases = phase-channels s.ctl (set_state (written s.ctl.state n x) s.ctl) refl in
    record {
      qs = c.qs;
      sized = record {
        book = fits-table b.size b.flags;
        ctl = fits-table k.size k.flags;
        stages = c.sized.stages;
        channels = c.sized.channels;
      };
      defined = c.defined;
      held = record {
        fit = c.held.fit;
        kinds = c.held.kinds;
        many = c.held.many;
        heads = λ q h. b.heads q h ∙ c.held.heads q h;
        linked = c.held.linked;
        sole = c.held.sole;
        recorded = c.held.recorded;
      };
      marks = marks-alike a;
      tearings = tearings-alike a;
      resets = reset-alike a;
      bits = g.bits;
      ready = g.ready;
      duty = λ q h. let d = g.duty q h in
          rw (phases q) (record
          { young = d.young; stage = d.stage; alone = d.alone; ready = d.ready; asleep = d.asleep; zeroed = d.zeroed });
      engine = λ q h. rw (phases q) (served q h (idle (phase_of s.ctl q)) refl (g.hdp q h));
      room = c.room;
    }
  where
    served : (q : ℕ) → q < queues → (b : Bool) → idle (phase_of s.ctl q) ≡ b
        → (idle (phase_of s.ctl q) ≡ false → hdp_of (written s.ctl.state n x) q ≡ hdp_of s.ctl.state q)
        → Serves s.kinds s.lens (words_of s) (queue_at c.qs q) (hdp_of (written s.ctl.state n x) q) (stage_of s.ctl q)
        (phase_of s.ctl q)
    served q h true e f =
        serves-idle s.kinds s.lens (words_of s) (queue_at c.qs q) (post_of s q).hdp (post_of s q).stage
        (hdp_of (written s.ctl.state n x) q) (phase_of s.ctl q) e (c.engine q h)
    served q h false e f = rw (f e) (c.engine q h)
