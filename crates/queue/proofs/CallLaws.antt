-- A guard call on any fit world with a sound book leaves a fit world with a sound book, whatever stands in descriptor memory, in the
-- registers and in the flags, and whatever the guest writes. Assumes nothing.
--     Held s                   a world that is fit and sound, with its queues at hand
--     held_of, of-held         as it is computed, and back
--     release-held             the release
--     store-held, rewrite-held, start-held, append-held   each change that a judge may make
--     by_class-both, by_class-holds   what holds for each queue number and each side, and of all else, holds of a choice by class
--     Keeps t u, written_keeps   a table that has the heads of another, and flags; what a register write leaves is one
--     judge-held, judge-kind-held   the judges, by their cases
--     guest-write-sound, kind-change-sound, calls-sound   whole calls, and calls one after another
--     write_again, kind-again  so the functions for sound books may be called again on what they leave
--     fresh-sound              a book of empty queues is sound
use Prim.Native.Nat.{ℕ, ◌+◌, ◌-◌, ◌/◌, ◌%◌, ◌≤◌, ◌<◌}
use mathlib.Core.Path.{◌≡◌, refl, ◌∙◌}
use mathlib.Core.Bool.{Bool, true, false, not}
use mathlib.Core.List.{List, [], ◌∷◌}
use native.Mathlib.Omega.{arith}
use lib.ListN.{length, get_or, replicate}
use lib.Seq.{length-take-le}
use lib.Dec.{eqb, leb, ltb}
use borrow.Author.Tests.{eq-eqb, eqb-true, ltb-true, leb-true}
use Rattle.std.specs.Prelude.{Option, Some, None}
use Rattle.layout.specs.Choice.{pick, both}
use Rattle.layout.specs.Layout.{desc_first, desc_bytes, in_descriptors, queues, side_of}
use Rattle.layout.specs.Class.{class_at, hdp_class, cp_class, teardown_class, reset_class, passed_class, unoffered_class, unguarded_class}
use Rattle.layout.proofs.ChoiceLaws.{yes_of, by-pick, both_left, both_right}
use Rattle.words.specs.Word.{word, put}
use Rattle.words.specs.WordSet.{empty_set, has}
use Rattle.words.proofs.WordLaws.{length-put}
use Rattle.blocks.specs.Kinds.{fit_kinds}
use Rattle.blocks.proofs.KindLaws.{set-keeps-fit_kinds}
use Rattle.registers.specs.Table.{state_words, head_of, cp_of, awaiting, heads_of, flags_fit, set_head, set_hdp, set_cp, set_tearing}
use Rattle.registers.specs.Table.{set_reset}
use Rattle.registers.specs.Table.{loaded}
use Rattle.registers.specs.Rules.{by_class, tear_queue, head_number, register_fault, head_written, ack_written, reset_written, written}
use Rattle.registers.proofs.TableLaws.{get_or-heads_of, length-set_head, heads_of-set_head, flags_fit-set_head, length-set_hdp}
use Rattle.registers.proofs.TableLaws.{heads_of-set_hdp}
use Rattle.registers.proofs.TableLaws.{flags_fit-set_hdp, length-set_cp, heads_of-set_cp, flags_fit-set_cp, length-set_marks}
use Rattle.registers.proofs.TableLaws.{heads_of-set_marks}
use Rattle.registers.proofs.TableLaws.{flags_fit-set_mark, length-set_tearings, heads_of-set_tearings, flags_fit-set_tearing}
use Rattle.registers.proofs.TableLaws.{length-set_reset}
use Rattle.registers.proofs.TableLaws.{heads_of-set_reset, flags_fit-set_reset, length-set_reset_bit, heads_of-set_reset_bit}
use Rattle.registers.proofs.TableLaws.{flags_fit-set_reset_bit}
use Rattle.registers.proofs.TableLaws.{length-loaded, heads_of-loaded, flags_fit-loaded}
use Rattle.registers.proofs.RegisterLaws.{tear_queue-lt}
use Rattle.book.specs.HandOver.{taken_from}
use Rattle.book.specs.Release.{released_all, release_mode, with_heads}
use Rattle.book.specs.World.{World, set_mem, set_state, set_uses, fit_parts, unfit, sound_book, sound_world, release}
use Rattle.guard.specs.declared.Answer.{Answer}
use Rattle.guard.specs.Answers.{Outcome, refuse, world_at, Gives}
use Rattle.guard.specs.Judges.{judge_chain, started, judge_head, judge_register, is_last, tail_in, judge_append, at_tail, judge_last}
use Rattle.guard.specs.Judges.{judge_word}
use Rattle.guard.specs.Judges.{judge_class, judge}
use Rattle.guard.specs.Guard.{admitted, guest_write}
use Rattle.kinds.specs.Kinds.{kind_number, judge_kind, kind_change}
use Rattle.queue.specs.Calls.{FitSound, LeavesSound, Call, write, kind, read, called, called_all}
use Rattle.queue.proofs.SoleLaws.{sole-empty}
use Rattle.queue.proofs.RecordLaws.{recorded-empty}
use Rattle.queue.proofs.SoundLaws.{sound-queues, sound-yes}
use Rattle.queue.proofs.LastLaws.{tail-yes}
use Rattle.queue.proofs.ChangeLaws.{Booked, released-booked, store-booked, start-booked, append-booked}
use Rattle.queue.proofs.NumberLaws.{get_or-same, linked-each}
use Rattle.queue.proofs.StateLaws.{heads_of-with_heads, heads-flags, settles, release-parts}

pub record Held (s : World) : Type 0 where
  pub size : length s.mem ≡ desc_bytes
  pub kinds : fit_kinds s.kinds ≡ true
  pub state : length s.state ≡ state_words
  pub flags : flags_fit s.state ≡ true
  pub booked : Booked (word s.mem) (heads_of s.state) (s.used, s.lens)

pub held_of : (s : World) → FitSound s → Held s
unfolding unfit fit_parts sound_world sound_book
held_of s f =
    let b = yes_of refl f.fit in
    record {
      size = eqb-true (length s.mem) desc_bytes (both_left (eqb (length s.mem) desc_bytes) (fit_kinds s.kinds) b);
      kinds = both_right (eqb (length s.mem) desc_bytes) (fit_kinds s.kinds) b;
      state = f.size;
      flags = both_left (flags_fit s.state) _ f.sound;
      booked = sound-queues (word s.mem) (heads_of s.state) s.used s.lens (both_right (flags_fit s.state) _ f.sound);
    }

pub of-held : (s : World) → Held s → FitSound s
unfolding unfit fit_parts sound_world sound_book
of-held s h =
    let b = h.booked in
    record {
      fit = simp (eq-eqb (length s.mem) desc_bytes h.size, h.kinds);
      sound = rw (h.flags, b.heads) (sound-yes (word s.mem) b.qs s.used s.lens b.linked b.sole b.recorded);
      size = h.state;
    }

-- ---- a world with another table: the same heads, and flags

pub record Keeps (t u : List ℕ) : Type 0 where
  pub size : length u ≡ length t
  pub heads : heads_of u ≡ heads_of t
  pub flags : flags_fit u ≡ true

pub rewrite-held : (s : World) → Held s → (t : List ℕ) → Keeps s.state t → Held (set_state t s)
rewrite-held s h t k =
    record { size = h.size; kinds = h.kinds; state = k.size ∙ h.state; flags = k.flags; booked = rw k.heads h.booked }

-- ---- the release

pub release-held : (s : World) → Held s → Held (release s)
release-held s h =
    let t = s.state in
    let all = released_all (word s.mem) (release_mode t) (heads_of t) (s.used, s.lens) in
    let r = released-booked (word s.mem) (release_mode t) (heads_of t) (s.used, s.lens) h.booked in
    let z = settles all.0 t r.1 h.state h.flags in
    rw (release-parts s all.0 all.1 refl)
    (record {
      size = h.size;
      kinds = h.kinds;
      state = z.size;
      flags = z.fit;
      booked = rw (heads-flags (with_heads all.0 t), heads_of-with_heads all.0 t r.1) r.0;
    })

-- ---- what a judge may change

module _ (s : World) (h : Held s) where
  store-held : (k v : ℕ) → has s.used k ≡ false → Held (set_mem (put s.mem k v) s)
  store-held k v f = record {
    size = length-put s.mem k v ∙ h.size;
    kinds = h.kinds;
    state = h.state;
    flags = h.flags;
    booked = store-booked s.mem k v (heads_of s.state) (s.used, s.lens) f h.booked;
  }

  -- there are that many heads
  many : length (heads_of s.state) ≡ queues
  many = length-take-le queues s.state (omega (arith, h.state))

  start-held : (q p : ℕ) → q < queues → head_of s.state q ≡ 0 → (judge_chain (side_of q) p s).0 ≡ 0 → Held (started q p s)
  start-held q p l e z =
      let t = s.state in
      let u = set_head q p t in
      record {
        size = h.size;
        kinds = h.kinds;
        state = length-set_hdp u q p ∙ length-set_head t q p ∙ h.state;
        flags = flags_fit-set_hdp u q p l ∙ flags_fit-set_head t q p l ∙ h.flags;
        booked =
            rw (heads_of-set_hdp u q p, heads_of-set_head t q p l)
            (start-booked s.kinds s.mem (heads_of t) (s.used, s.lens) q p (omega (arith, many)) h.booked z
            (get_or-heads_of t q l ∙ e));
      }

  -- the world that an append leaves
  abbrev longer : ℕ → ℕ → ℕ → World
  longer q k p = set_mem (put s.mem k p) (set_uses (taken_from (word s.mem) (side_of q) (s.used, s.lens) p) s)

  append-held : (q k p : ℕ) → (q < length (heads_of s.state)) × (is_last (word s.mem) (get_or (heads_of s.state) q 0) k ≡ true)
      → (judge_chain (side_of q) p s).0 ≡ 0 → Held (longer q k p)
  append-held q k p e z = record {
    size = length-put s.mem k p ∙ h.size;
    kinds = h.kinds;
    state = h.state;
    flags = h.flags;
    booked = append-booked s.kinds s.mem (heads_of s.state) (s.used, s.lens) q p e.0 h.booked z k h.size e.1;
  }

-- ---- what a register write leaves

-- what is related for each queue number and each side is related for every class; of an HDP only where the class is one
pub by_class-both : {A B : Type 0} (R : A → B → Type 0) (n : ℕ) (a b c : ℕ → A) (d e f g h : A) (a' b' c' : ℕ → B) (d' e' f' g' h' : B)
    → (n < hdp_class + queues → R (a (n - hdp_class)) (a' (n - hdp_class))) → ((q : ℕ) → q < queues → R (b q) (b' q))
    → ((x : ℕ) → x < 2 → R (c x) (c' x)) → R d d'
    → R e e' → R f f' → R g g' → R h h' → R (by_class n a b c d e f g h) (by_class n a' b' c' d' e' f' g' h')
unfolding by_class
by_class-both {A = A} {B = B} R n a b c d e f g h a' b' c' d' e' f' g' h' pa pb pc pd pe pf pg ph =
    by (ltb n (hdp_class + queues)) _ _ _ _ (λ z. pa (ltb-true n (hdp_class + queues) z))
    (by (both (leb cp_class n) (ltb n (cp_class + queues))) _ _ _ _
    (λ z. let l = ltb-true n (cp_class + queues) (both_right (leb cp_class n) _ z) in pb (n - cp_class) (omega arith))
    (by (both (leb teardown_class n) (ltb n reset_class)) _ _ _ _
    (λ z. let l = ltb-true n reset_class (both_right (leb teardown_class n) _ z) in pc (n - teardown_class) (omega arith))
    (by (eqb n reset_class) _ _ _ _ (λ z. pd)
    (by (both (ltb reset_class n) (ltb n passed_class)) _ _ _ _ (λ z. pe)
    (by (both (leb passed_class n) (ltb n unoffered_class)) _ _ _ _ (λ z. pf)
    (by (both (leb unoffered_class n) (ltb n unguarded_class)) _ _ _ _ (λ z. pg) ph))))))
  where
    by : (t : Bool) (x y : A) (x' y' : B) → (t ≡ true → R x x') → R y y' → R (pick t x y) (pick t x' y')
    by true x y x' y' p q = p refl
    by false x y x' y' p q = q

pub by_class-holds : {A : Type 0} (P : A → Type 0) (n : ℕ) (a b c : ℕ → A) (d e f g h : A)
    → (n < hdp_class + queues → P (a (n - hdp_class))) → ((q : ℕ) → q < queues → P (b q)) → ((x : ℕ) → x < 2 → P (c x)) → P d
    → P e → P f → P g → P h → P (by_class n a b c d e f g h)
by_class-holds {A = A} P n a b c d e f g h = by_class-both (λ (x y : A). P x) n a b c d e f g h a b c d e f g h

module _ (t : List ℕ) (f : flags_fit t ≡ true) where
  itself : Keeps t t
  itself = record { size = refl; heads = refl; flags = f }

  head-keeps : (v q : ℕ) → q < queues → Keeps t (head_written t q v)
  unfolding head_written
  head-keeps v q l =
      let u = set_hdp q v t in
      let k : Keeps t u = record { size = length-set_hdp t q v; heads = heads_of-set_hdp t q v; flags = flags_fit-set_hdp t q v l ∙ f } in
      by-pick (Keeps t) (awaiting t) _ _
      (λ e. record {
        size = length-set_marks u _ ∙ k.size;
        heads = heads_of-set_marks u _ ∙ k.heads;
        flags = flags_fit-set_mark u k.flags q (omega arith);
      })
      (λ e. k)

  ack-keeps : (v q : ℕ) → q < queues → Keeps t (ack_written t q v)
  unfolding ack_written
  ack-keeps v q l =
      let k : (x : ℕ) → Keeps t (set_cp q x t) =
      λ x. record { size = length-set_cp t q x; heads = heads_of-set_cp t q x; flags = flags_fit-set_cp t q x l ∙ f } in
      let u = set_cp q v t in
      by-pick (Keeps t) (awaiting t) _ _
      (λ e. record {
        size = length-set_marks u _ ∙ (k v).size;
        heads = heads_of-set_marks u _ ∙ (k v).heads;
        flags = flags_fit-set_mark u (k v).flags (queues + q) (omega arith);
      })
      (λ e. by-pick (Keeps t) (eqb v (cp_of t q)) _ _ (λ d. k 0) (λ d. itself))

  reset-keeps : Keeps t (reset_written t)
  reset-keeps =
      let u = set_reset 1 t in
      record {
        size = length-set_reset_bit u 1 ∙ length-set_reset t 1;
        heads = heads_of-set_reset_bit u 1 ∙ heads_of-set_reset t 1;
        flags = flags_fit-set_reset_bit u 1 ∙ flags_fit-set_reset t f 1 (omega arith);
      }

  tear-keeps : (q : ℕ) → q < queues → Keeps t (set_tearing q t)
  tear-keeps q l = record { size = length-set_tearings t _; heads = heads_of-set_tearings t _; flags = flags_fit-set_tearing t f q l }

  pub written_keeps : (n v : ℕ) → Keeps t (written t n v)
  unfolding written
  written_keeps n v =
      by_class-holds (Keeps t) n _ _ _ _ _ _ _ _ (λ h. head-keeps v (n - hdp_class) (omega arith)) (ack-keeps v)
      (λ side l. tear-keeps (tear_queue side v) (tear_queue-lt side v l)) reset-keeps itself itself itself itself

-- ---- the judges, by their cases

abbrev Leaves : Outcome → Type 0
Leaves o = Held o.world

module _ (s : World) (h : Held s) where
  -- a rule that gives a number: 0, or a refusal that changes nothing
  by-rule : (k : ℕ) (x : Outcome) → (k ≡ 0 → Leaves x) → Leaves (pick (eqb k 0) x (refuse k s))
  by-rule k x f = by-pick Leaves (eqb k 0) x (refuse k s) (λ e. f (eqb-true k 0 e)) (λ e. h)

  head-held : (q v : ℕ) → q < queues → Leaves (judge_head q v s)
  unfolding judge_head
  head-held q v l =
      by-rule (head_number s.state q v) _
      (λ e. by-pick Leaves (awaiting s.state) _ _ (λ f. rewrite-held s h _ (head-keeps s.state h.flags v q l))
      (λ f. by-pick Leaves (eqb (head_of s.state q) 0) _ _
      (λ g. by-rule (judge_chain (side_of q) v s).0 _ (start-held s h q v l (eqb-true (head_of s.state q) 0 g)))
      (λ g. h)))

  register-held : (c v : ℕ) → Leaves (judge_register c v s)
  unfolding judge_register
  register-held c v = by-rule (register_fault s.state c v) _ (λ e. rewrite-held s h _ (written_keeps s.state h.flags c v))

  judge-append-held : (q k v : ℕ) → (q < length (heads_of s.state)) × (is_last (word s.mem) (get_or (heads_of s.state) q 0) k ≡ true)
      → Leaves (judge_append q k v s)
  unfolding judge_append
  judge-append-held q k v e = by-rule (judge_chain (side_of q) v s).0 _ (append-held s h q k v e)

  last-held : (k v : ℕ) → Leaves (judge_last k v s)
  unfolding judge_last
  last-held k v = at (tail_in (word s.mem) k 0 (heads_of s.state)) refl
    where
      at : (t : Option ℕ) → tail_in (word s.mem) k 0 (heads_of s.state) ≡ t → Leaves (at_tail t (λ q. judge_append q k v s) (refuse 11 s))
      at None e = h
      at (Some q) e = judge-append-held q k v (tail-yes (word s.mem) k (heads_of s.state) q e)

  word_held : (k v : ℕ) → Leaves (judge_word k v s)
  unfolding judge_word
  word_held k v =
      by-pick Leaves (has s.used k) _ _
      (λ e. by-pick Leaves (both (eqb (word s.mem k) 0) (not (eqb v 0))) _ _ (λ f. last-held k v) (λ f. h))
      (store-held s h k v)

  class-held : (c v : ℕ) → Leaves (judge_class c v s)
  unfolding judge_class
  class-held c v =
      by-pick Leaves (ltb c (hdp_class + queues)) _ _
      (λ e. let l = ltb-true c (hdp_class + queues) e in head-held (c - hdp_class) v (omega arith))
      (λ e. register-held c v)

  pub judge-held : (a v : ℕ) → Held (judge a v s).world
  unfolding judge
  judge-held a v =
      by-pick Leaves (eqb (a % 4) 0) _ _
      (λ e. by-pick Leaves (in_descriptors a) _ _ (λ f. word_held ((a - desc_first) / 4) v) (λ f. class-held (class_at a) v))
      (λ e. h)

-- a new kind is at most 4: "19 new kind not 1..4"
kind-bound : (b k : ℕ) (w : ℕ → ℕ) (lens kinds : List ℕ) → kind_number b k w lens kinds ≡ 0 → k ≤ 4
unfolding kind_number
kind-bound b k w lens kinds e = leb-true k 4 (at (ltb b (length kinds)) (leb 1 k) (leb k 4) _ e)
  where
    at : (t1 t2 t3 : Bool) (x : ℕ) → pick t1 (pick (both t2 t3) x 19) 18 ≡ 0 → t3 ≡ true
    at t1 t2 true x z = refl
    at true true false x z = absurd (omega arith)
    at true false false x z = absurd (omega arith)
    at false t2 false x z = absurd (omega arith)

pub judge-kind-held : (b k : ℕ) (s : World) → Held s → Held (judge_kind b k s).world
unfolding judge_kind
judge-kind-held b k s h =
    let n = kind_number b k (word s.mem) s.lens s.kinds in
    by-pick Leaves (eqb n 0) _ _
    (λ e. record {
      size = h.size;
      kinds = set-keeps-fit_kinds s.kinds b k (kind-bound b k (word s.mem) s.lens s.kinds (eqb-true n 0 e)) h.kinds;
      state = h.state;
      flags = h.flags;
      booked = h.booked;
    })
    (λ e. h)

-- ---- whole calls

admitted-held : (s : World) (act : World → Outcome) → ((t : World) → Held t → Leaves (act t)) → Held s → Leaves (admitted s act)
unfolding admitted
admitted-held s act f h =
    by-pick Leaves (unfit s) _ _ (λ e. h) (λ e. by-pick Leaves (sound_world s) _ _ (λ d. f (release s) (release-held s h)) (λ d. h))

pub guest-write-sound : (a v : ℕ) → LeavesSound (λ s. (guest_write a v s).world)
unfolding guest_write
guest-write-sound a v s f = of-held _ (admitted-held s (λ t. judge a v t) (λ t h. judge-held t h a v) (held_of s f))

pub kind-change-sound : (b k : ℕ) → LeavesSound (λ s. (kind_change b k s).world)
unfolding kind_change
kind-change-sound b k s f = of-held _ (admitted-held s (λ t. judge_kind b k t) (judge-kind-held b k) (held_of s f))

-- the registers are no part of it
read-sound : (c : List ℕ) → LeavesSound (called (read c))
read-sound c s f =
    let h = held_of s f in
    let t = s.state in
    of-held _ (rewrite-held s h (loaded c t)
    (record { size = length-loaded c t; heads = heads_of-loaded c t; flags = flags_fit-loaded c t ∙ h.flags }))

pub calls-sound : (cs : List Call) → LeavesSound (called_all cs)
calls-sound [] s f = f
calls-sound (write a v ∷ cs) s f = calls-sound cs _ (guest-write-sound a v s f)
calls-sound (kind b k ∷ cs) s f = calls-sound cs _ (kind-change-sound b k s f)
calls-sound (read c ∷ cs) s f = calls-sound cs _ (read-sound c s f)

-- ---- what the functions leave: what `guest_write_sound` and `kind_change_sound` require holds again, with any registers

given-sound : {o : Outcome} {r : Answer} {m k t u l : List ℕ} → Gives o r m k t u l → FitSound o.world → FitSound (world_at m k t u l)
given-sound g f = rw (g.mem, g.kinds, g.state, g.used, g.lens) f

pub write_again : {r : Answer} {m k t u l : List ℕ} (a v : ℕ) (s : World) → FitSound s → Gives (guest_write a v s) r m k t u l
    → (c : List ℕ) → FitSound (world_at m k (loaded c t) u l)
write_again a v s f g c = read-sound c _ (given-sound g (guest-write-sound a v s f))

pub kind-again : {r : Answer} {m k t u l : List ℕ} (b n : ℕ) (s : World) → FitSound s → Gives (kind_change b n s) r m k t u l
    → (c : List ℕ) → FitSound (world_at m k (loaded c t) u l)
kind-again b n s f g c = read-sound c _ (given-sound g (kind-change-sound b n s f))

-- ---- there are such worlds: empty queues, whatever descriptor memory, registers and flags hold

pub fresh-sound : (m kinds t : List ℕ) → length m ≡ desc_bytes → fit_kinds kinds ≡ true → length t ≡ state_words → flags_fit t ≡ true
    → heads_of t ≡ replicate queues 0 → FitSound (world_at m kinds t empty_set empty_set)
fresh-sound m kinds t l k n f e =
    of-held _
    (record {
      size = l;
      kinds = k;
      state = n;
      flags = f;
      booked = record {
        qs = replicate queues [];
        heads = e;
        linked = linked-each (word m) (replicate queues []) (λ j. rw (get_or-same {A = List ℕ} queues j []) tt);
        sole =
            sole-empty;
        recorded = recorded-empty;
      };
    })
