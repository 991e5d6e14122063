-- The judges by their ways: what a function finds and leaves is what the definition says of the whole world. Assumes nothing.
--     start-refused, start-taken    the chain of a start: refused, or taken
--     head-refused, head-zeroed, head-busy, head-start   HDP of a queue
--     class-head, class-ruled       a register: HDP, or one that its fault and what is written decide
--     last-nobody, last-append      which queue an append is to, and what becomes of it
--     word-free, word-busy, word-zero, word-last   a word of descriptor memory
--     judge-3, address_word, address-class         which of them an address asks for
--     released-gives                after the release
--     admitted-refused, -passed, -sound   1 or 2, or what the call itself does
--     write-refused, write-gives, write-sound   a whole guest write
--     store_word, store-sound       a store to a free word, where there is nothing to release
--     store-here, store-nowhere, store-used, store-unquiet   a word that is one, and three cases that are none
--     state-1, state-2, state-0     1 and 2 as the functions find them
use Rattle.std.proofs.Common.{◌≡◌, ℕ, ◌+◌, ◌-◌, ◌/◌, ◌%◌, ◌<◌, ◌≤◌, Bool, true, false, not, eqb, ltb, ◌≢◌, List, Some, None, length, sym}
use Rattle.std.proofs.Common.{refl, ap, ◌∙◌}
use Rattle.std.proofs.Common.{arith, le-ltb, lt-ltb, eq-eqb, ne_eqb, eqb-true}
use borrow.Author.Tests.{not-true, not-false}
use Rattle.layout.specs.Choice.{pick, both}
use Rattle.layout.specs.Layout.{desc_first, desc_bytes, in_descriptors, queues, side_of, channel_of}
use Rattle.layout.specs.Class.{class_at, hdp_class}
use Rattle.layout.specs.declared.Side.{Side}
use Rattle.layout.proofs.ChoiceLaws.{clash, both_left, both_right}
use Rattle.words.specs.Word.{word, put}
use Rattle.words.specs.WordSet.{has}
use Rattle.blocks.specs.Kinds.{fit_kinds}
use Rattle.registers.specs.Table.{head_of, awaiting, set_head, set_hdp, heads_of}
use Rattle.registers.specs.Rules.{head_number, register_fault, head_written, written}
use Rattle.chain.specs.Chain.{place_of, chain_of}
use Rattle.book.specs.HandOver.{Uses}
use Rattle.book.specs.Quiet.{quiet}
use Rattle.book.specs.World.{World, set_mem, set_state, set_uses, fit_parts, sound_book, unfit, sound_world, release}
use Rattle.guard.specs.declared.Effect.{Effect}
use Rattle.guard.specs.declared.Effect.TheVariants.{Plain, Started, Appended}
use Rattle.guard.specs.declared.Answer.{Answer}
use Rattle.guard.specs.declared.Answer.TheVariants.{Accepted, Refused}
use Rattle.guard.specs.Answers.{Outcome, accept, refuse, answer_to, world_at, Gives}
use Rattle.guard.specs.Judges.{judge_start, judge_head, judge_register, tail_in, judge_append, judge_last, judge_word, judge_class}
use Rattle.guard.specs.Judges.{judge}
use Rattle.guard.specs.Guard.{state_fault, admitted, guest_write}
use Rattle.book.proofs.QuietLaws.{release-quiet}
use Rattle.guard.specs.Rulings.{handed_over, appended, ruled, free_word, plain_store}

-- a choice by a number that was found
number-yes : {A : Type 0} (n : ℕ) (x y : A) → n ≡ 0 → pick (eqb n 0) x y ≡ x
number-yes n x y e = rw (eq-eqb n 0 e) refl

number-no : {A : Type 0} (n : ℕ) (x y : A) → n ≢ 0 → pick (eqb n 0) x y ≡ y
number-no n x y e = rw (ne_eqb n 0 e) refl

pick_true : {A : Type 0} (b : Bool) (x y : A) → b ≡ true → pick b x y ≡ x
pick_true b x y e = rw e refl

pick-false : {A : Type 0} (b : Bool) (x y : A) → b ≡ false → pick b x y ≡ y
pick-false b x y e = rw e refl

-- a register judge that found a fault, and one that wrote
pub ruled-refused : {n f : ℕ} (t t₁ : List ℕ) → n ≡ f → n ≢ 0 → (Refused n, t) ≡ ruled f t₁ t
unfolding ruled
ruled-refused {n} t t₁ e h = rw (← e) (sym (number-no n _ _ h))

pub ruled-wrote : {f : ℕ} (t : List ℕ) {t₁ t₂ : List ℕ} → 0 ≡ f → t₂ ≡ t₁ → (Accepted Plain, t₂) ≡ ruled f t₁ t
unfolding ruled
ruled-wrote t e w = rw (← e, w) refl

pub answer-refused : {n : ℕ} (e : Effect) → n ≢ 0 → Refused n ≡ answer_to e n
unfolding answer_to
answer-refused {n} e h = sym (number-no n _ _ h)

pub answer-accepted : {n : ℕ} (e : Effect) → n ≡ 0 → Accepted e ≡ answer_to e n
unfolding answer_to
answer-accepted {n} e h = sym (number-yes n _ _ h)

-- an outcome that is another
pub gives_as : {o p : Outcome} {r : Answer} {m k t u l : List ℕ} → o ≡ p → Gives p r m k t u l → Gives o r m k t u l
gives_as e g = record {
  answer = g.answer ∙ ap (λ (x : Outcome). x.answer) (sym e);
  mem = g.mem ∙ ap (λ (x : Outcome). x.world.mem) (sym e);
  kinds = g.kinds ∙ ap (λ (x : Outcome). x.world.kinds) (sym e);
  state = g.state ∙ ap (λ (x : Outcome). x.world.state) (sym e);
  used = g.used ∙ ap (λ (x : Outcome). x.world.used) (sym e);
  lens = g.lens ∙ ap (λ (x : Outcome). x.world.lens) (sym e);
}

-- what a store to a free word tells
pub store_word : (w : ℕ → ℕ) (t u : List ℕ) (a : ℕ) → plain_store a w t u ≡ true
    → (a % 4 ≡ 0) × (in_descriptors a ≡ true) × (has u ((a - desc_first) / 4) ≡ false) × (quiet w t ≡ true)
unfolding free_word
store_word w t u a p =
    let f = both_left (free_word a u) (quiet w t) p in
    let g = both_right (in_descriptors a) _ f in
    let free = not-true _ (both_right (eqb (a % 4) 0) _ g) in
    (eqb-true (a % 4) 0 (both_left _ _ g), both_left (in_descriptors a) _ f, free, both_right (free_word a u) (quiet w t) p)

-- and a word that is one
pub store-here : (w : ℕ → ℕ) (t u : List ℕ) (a k : ℕ) → in_descriptors a ≡ true → k ≡ (a - desc_first) / 4 → a % 4 ≡ 0 → has u k ≡ false
    → quiet w t ≡ true
    → plain_store a w t u ≡ true
unfolding free_word
store-here w t u a k i e h n q =
    let free : has u ((a - desc_first) / 4) ≡ false = ap (has u) (sym e) ∙ n in
    simp (i, eq-eqb (a % 4) 0 h, free, q)

-- and three cases that are none: no word there, a word in use, and something to release
pub store-nowhere : (w : ℕ → ℕ) (t u : List ℕ) (a : ℕ) → both (in_descriptors a) (eqb (a % 4) 0) ≡ false → plain_store a w t u ≡ false
unfolding free_word
store-nowhere w t u a e = at (in_descriptors a) (eqb (a % 4) 0) _ e
  where
    at : (b c d : Bool) → both b c ≡ false → both (both b (both c d)) (quiet w t) ≡ false
    at true true d f = clash refl f
    at true false d f = refl
    at false c d f = refl

pub store-used : (w : ℕ → ℕ) (t u : List ℕ) (a k : ℕ) → k ≡ (a - desc_first) / 4 → has u k ≡ true → plain_store a w t u ≡ false
unfolding free_word
store-used w t u a k e h =
    let used : has u ((a - desc_first) / 4) ≡ true = ap (has u) (sym e) ∙ h in
    rw used (at (in_descriptors a) (eqb (a % 4) 0))
  where
    at : (b c : Bool) → both (both b (both c false)) (quiet w t) ≡ false
    at true true = refl
    at true false = refl
    at false c = refl

pub store-unquiet : (w : ℕ → ℕ) (t u : List ℕ) (a : ℕ) → quiet w t ≡ false → plain_store a w t u ≡ false
store-unquiet w t u a q = rw q (at (free_word a u))
  where
    at : (b : Bool) → both b false ≡ false
    at true = refl
    at false = refl

module _ (m k t u l : List ℕ) where
  abbrev here : World
  here = world_at m k t u l

  pub refused-gives : (n : ℕ) → Gives (refuse n here) (Refused n) m k t u l
  refused-gives n = record { answer = refl; mem = refl; kinds = refl; state = refl; used = refl; lens = refl }

  -- ---- a start

  module _ (q p : ℕ) {side : Side} {x : Uses} (s : side ≡ side_of q) {n : ℕ} (o : (n, x) ≡ handed_over side k (word m) (u, l) p) where
    handed : (n, x) ≡ handed_over (side_of q) k (word m) (u, l) p
    handed = o ∙ ap (λ (y : Side). handed_over y k (word m) (u, l) p) s

    start-refused-at : (b : Bool) (j : ℕ) (y : Uses) → (n, x) ≡ pick {A = ℕ × Uses} b (0, y) (j, (u, l)) → n ≢ 0 → (a : Outcome)
        → Gives (pick b a (refuse j here)) (Refused n) m k t x.0 x.1
    start-refused-at true j y e h a = absurd (h (ap (λ (z : ℕ × Uses). z.0) e))
    start-refused-at false j y e h a = record {
      answer = ap (λ (z : ℕ × Uses). Refused z.0) e;
      mem = refl;
      kinds = refl;
      state = refl;
      used = ap (λ (z : ℕ × Uses). z.1.0) e;
      lens = ap (λ (z : ℕ × Uses). z.1.1) e;
    }

    pub start-refused : n ≢ 0 → Gives (judge_start q p here) (Refused n) m k t x.0 x.1
    unfolding handed_over
    start-refused h = start-refused-at (eqb (chain_of k (word m) (place_of (side_of q)) u p).0 0) _ _ handed h _

    start-taken-at : (b : Bool) (j : ℕ) (y : Uses) → eqb j 0 ≡ b → (n, x) ≡ pick {A = ℕ × Uses} b (0, y) (j, (u, l)) → n ≡ 0
        → (e : Effect) (t' : List ℕ)
        → Gives (pick b (accept e (set_state t' (set_uses y here))) (refuse j here)) (Accepted e) m k t' x.0 x.1
    start-taken-at true j y i e h f t' = record {
      answer = refl;
      mem = refl;
      kinds = refl;
      state = refl;
      used = ap (λ (z : ℕ × Uses). z.1.0) e;
      lens = ap (λ (z : ℕ × Uses). z.1.1) e;
    }
    start-taken-at false j y i e h f t' = clash (eq-eqb j 0 (sym (ap (λ (z : ℕ × Uses). z.0) e) ∙ h)) i

    pub start-taken : n ≡ 0 → {c : ℕ} → c ≡ channel_of q
        → Gives (judge_start q p here) (Accepted (Started side c)) m k (set_hdp q p (set_head q p t)) x.0 x.1
    unfolding handed_over
    start-taken h {c} e =
        let g = start-taken-at (eqb (chain_of k (word m) (place_of (side_of q)) u p).0 0) _ _ refl handed h
        (Started (side_of q) (channel_of q)) (set_hdp q p (set_head q p t)) in
        record { answer = rw (s, e) refl ∙ g.answer; mem = g.mem; kinds = g.kinds; state = g.state; used = g.used; lens = g.lens }

  -- ---- HDP

  module _ (q v : ℕ) where
    pub head-refused : {n : ℕ} → n ≡ head_number t q v → n ≢ 0 → Gives (judge_head q v here) (Refused n) m k t u l
    unfolding judge_head
    head-refused {n} e h = gives_as (rw (← e) (number-no n _ _ h)) (refused-gives n)

    module _ (e : 0 ≡ head_number t q v) {a : Bool} (f : a ≡ awaiting t) where
      pub head-zeroed : a ≡ true → {t' : List ℕ} → t' ≡ head_written t q v → Gives (judge_head q v here) (Accepted Plain) m k t' u l
      unfolding judge_head
      head-zeroed i w =
          gives_as (rw (← e, ← f) (pick_true a _ _ i))
          (record { answer = refl; mem = refl; kinds = refl; state = w; used = refl; lens = refl })

      pub head-busy : a ≡ false → head_of t q ≢ 0 → Gives (judge_head q v here) (Refused 10) m k t u l
      unfolding judge_head
      head-busy i g = gives_as (rw (← e, ← f) (pick-false a _ _ i ∙ number-no (head_of t q) _ _ g)) (refused-gives 10)

      pub head-start : a ≡ false → head_of t q ≡ 0 → {r : Answer} {t' u' l' : List ℕ} → Gives (judge_start q v here) r m k t' u' l'
          → Gives (judge_head q v here) r m k t' u' l'
      unfolding judge_head
      head-start i g c = gives_as (rw (← e, ← f) (pick-false a _ _ i ∙ number-yes (head_of t q) _ _ g)) c

  -- ---- any register

  pub class-head : (n v : ℕ) {q : ℕ} → n < hdp_class + queues → q ≡ n - hdp_class → {r : Answer} {t' u' l' : List ℕ}
      → Gives (judge_head q v here) r m k t' u' l'
      → Gives (judge_class n v here) r m k t' u' l'
  unfolding judge_class
  class-head n v h e g =
      gives_as (pick_true (ltb n (hdp_class + queues)) _ _ (lt-ltb n (hdp_class + queues) h) ∙ ap
      (λ (i : ℕ). judge_head i v here) (sym e)) g

  ruled-at : (b : Bool) (j : ℕ) (t₁ : List ℕ) {r : Answer} {t' : List ℕ}
      → (r, t') ≡ pick {A = Answer × List ℕ} b (Accepted Plain, t₁) (Refused j, t)
      → Gives (pick b (accept Plain (set_state t₁ here)) (refuse j here)) r m k t' u l
  ruled-at true j t₁ e =
      record {
        answer = ap (λ (z : Answer × List ℕ). z.0) e;
        mem = refl;
        kinds = refl;
        state = ap (λ (z : Answer × List ℕ). z.1) e;
        used = refl;
        lens = refl;
      }
  ruled-at false j t₁ e =
      record {
        answer = ap (λ (z : Answer × List ℕ). z.0) e;
        mem = refl;
        kinds = refl;
        state = ap (λ (z : Answer × List ℕ). z.1) e;
        used = refl;
        lens = refl;
      }

  pub class-ruled : (n v : ℕ) → hdp_class + queues ≤ n → {j : ℕ} {t₁ : List ℕ} → register_fault t n v ≡ j → written t n v ≡ t₁
      → {r : Answer} {t' : List ℕ} → (r, t') ≡ ruled j t₁ t → Gives (judge_class n v here) r m k t' u l
  unfolding judge_class judge_register ruled
  class-ruled n v h {j} {t₁} e f o =
      gives_as (pick-false (ltb n (hdp_class + queues)) _ _ (le-ltb n (hdp_class + queues) h) ∙ rw (e, f) refl) (ruled-at (eqb j 0) j t₁ o)

  -- ---- an append

  pub last-nobody : (i v : ℕ) → None ≡ tail_in (word m) i 0 (heads_of t)
      → Gives (judge_last i v here) (Refused 11) m k t u l
  unfolding judge_last
  last-nobody i v e = gives_as (rw (← e) refl) (refused-gives 11)

  append_at : (b : Bool) (j i v : ℕ) (y : Uses) (f : Effect) {n : ℕ} {x : Uses} {m' : List ℕ} {a : Answer} → eqb j 0 ≡ b
      → (n, x, m') ≡ pick {A = ℕ × Uses × List ℕ} b (0, y, put m i v) (j, (u, l), m) → a ≡ answer_to f n
      → Gives (pick b (accept f (set_mem (put m i v) (set_uses y here))) (refuse j here)) a m' k t x.0 x.1
  unfolding answer_to
  append_at true j i v y f d e g = record {
    answer = g ∙ ap (λ (z : ℕ × Uses × List ℕ). answer_to f z.0) e;
    mem = ap (λ (z : ℕ × Uses × List ℕ). z.2) e;
    kinds = refl;
    state = refl;
    used = ap (λ (z : ℕ × Uses × List ℕ). z.1.0) e;
    lens = ap (λ (z : ℕ × Uses × List ℕ). z.1.1) e;
  }
  append_at false j i v y f d e g = record {
    answer = g ∙ ap (λ (z : ℕ × Uses × List ℕ). answer_to f z.0) e ∙ rw d refl;
    mem = ap (λ (z : ℕ × Uses × List ℕ). z.2) e;
    kinds = refl;
    state = refl;
    used = ap (λ (z : ℕ × Uses × List ℕ). z.1.0) e;
    lens = ap (λ (z : ℕ × Uses × List ℕ). z.1.1) e;
  }

  pub last-append : (i v : ℕ) (q : ℕ) → Some q ≡ tail_in (word m) i 0 (heads_of t) → {side : Side} → side ≡ side_of q
      → {c : ℕ} → c ≡ channel_of q
      → {n : ℕ} {x : Uses} {m' : List ℕ} → (n, x, m') ≡ appended side k i m (u, l) v → {a : Answer} → a ≡ answer_to (Appended side c) n
      → Gives (judge_last i v here) a m' k t x.0 x.1
  unfolding judge_last judge_append appended
  last-append i v q e {side} s {c} h o g =
      gives_as (rw (← e) refl)
      (append_at (eqb (chain_of k (word m) (place_of (side_of q)) u v).0 0) _ i v _ (Appended (side_of q) (channel_of q)) refl
      (o ∙ ap (λ (y : Side). appended y k i m (u, l) v) s) (g ∙ rw (s, h) refl))

  -- ---- a word

  module _ (i v : ℕ) where
    pub word-free : has u i ≡ false → {m' : List ℕ} → m' ≡ put m i v → Gives (judge_word i v here) (Accepted Plain) m' k t u l
    unfolding judge_word
    word-free h e = gives_as (pick-false (has u i) _ _ h)
        (record { answer = refl; mem = e; kinds = refl; state = refl; used = refl; lens = refl })

    module _ (h : has u i ≡ true) where
      pub word-busy : word m i ≢ 0 → Gives (judge_word i v here) (Refused 11) m k t u l
      unfolding judge_word
      word-busy n = gives_as (rw (h, ne_eqb (word m i) 0 n) refl) (refused-gives 11)

      pub word-zero : word m i ≡ 0 → v ≡ 0 → Gives (judge_word i v here) (Refused 11) m k t u l
      unfolding judge_word
      word-zero e f = gives_as (rw (h, eq-eqb (word m i) 0 e, eq-eqb v 0 f) refl) (refused-gives 11)

      pub word-last : word m i ≡ 0 → v ≢ 0 → {r : Answer} {m' t' u' l' : List ℕ} → Gives (judge_last i v here) r m' k t' u' l'
          → Gives (judge_word i v here) r m' k t' u' l'
      unfolding judge_word
      word-last e f g = gives_as (rw (h, eq-eqb (word m i) 0 e, ne_eqb v 0 f) refl) g

  -- ---- an address

  module _ (a v : ℕ) where
    pub judge-3 : a % 4 ≢ 0 → Gives (judge a v here) (Refused 3) m k t u l
    unfolding judge
    judge-3 h = gives_as (number-no (a % 4) _ _ h) (refused-gives 3)

    module _ (h : a % 4 ≡ 0) {b : Bool} (e : b ≡ in_descriptors a) {r : Answer} {m' t' u' l' : List ℕ} where
      pub address-class : b ≡ false → {c : ℕ} → c ≡ class_at a → Gives (judge_class c v here) r m' k t' u' l'
          → Gives (judge a v here) r m' k t' u' l'
      unfolding judge
      address-class f d g = gives_as (number-yes (a % 4) _ _ h ∙ rw (← e, f, ← d) refl) g

      pub address_word : b ≡ true → {i : ℕ} → i ≡ (a - desc_first) / 4 → Gives (judge_word i v here) r m' k t' u' l'
          → Gives (judge a v here) r m' k t' u' l'
      unfolding judge
      address_word f d g = gives_as (number-yes (a % 4) _ _ h ∙ rw (← e, f, ← d) refl) g

  -- ---- the release, 1 and 2

  pub released-gives : (a v : ℕ) {t₁ u₁ l₁ : List ℕ} → release here ≡ world_at m k t₁ u₁ l₁ → {r : Answer} {m' t' u' l' : List ℕ}
      → Gives (judge a v (world_at m k t₁ u₁ l₁)) r m' k t' u' l' → Gives (judge a v (release here)) r m' k t' u' l'
  released-gives a v e g = gives_as (ap (λ (s : World). judge a v s) e) g

  refused-at : (f g : Bool) (n : ℕ) (o : Outcome) → n ≡ pick f (pick g 0 2) 1 → n ≢ 0
      → Gives (pick (not f) (refuse 1 here) (pick g o (refuse 2 here))) (Refused n) m k t u l
  refused-at true true n o e h = absurd (h e)
  refused-at true false n o e h = rw e (refused-gives 2)
  refused-at false g n o e h = rw e (refused-gives 1)

  passed-at : (f g : Bool) (o : Outcome) → ◌≡◌ {A = ℕ} 0 (pick f (pick g 0 2) 1)
      → pick (not f) (refuse 1 here) (pick g o (refuse 2 here)) ≡ o
  passed-at true true o e = refl
  passed-at true false o e = absurd (omega arith)
  passed-at false g o e = absurd (omega arith)

  module _ (act : World → Outcome) where
    pub admitted-refused : {n : ℕ} → n ≡ state_fault m k t u l → n ≢ 0 → Gives (admitted here act) (Refused n) m k t u l
    unfolding admitted state_fault unfit sound_world
    admitted-refused {n} e h = refused-at (fit_parts m k) (sound_book (word m) t u l) n (act (release here)) e h

    pub admitted-passed : 0 ≡ state_fault m k t u l → admitted here act ≡ act (release here)
    unfolding admitted state_fault unfit sound_world
    admitted-passed e = passed-at (fit_parts m k) (sound_book (word m) t u l) (act (release here)) e

  pub admitted-sound : (act : World → Outcome) → unfit here ≡ false → sound_world here ≡ true → admitted here act ≡ act (release here)
  unfolding admitted
  admitted-sound act f s = rw (f, s) refl

  pub fit-size : unfit here ≡ false → length m ≡ desc_bytes
  unfolding unfit fit_parts
  fit-size f = eqb-true (length m) desc_bytes (both_left _ _ (not-false _ f))

  pub zero-size : 0 ≡ state_fault m k t u l → length m ≡ desc_bytes
  unfolding state_fault fit_parts
  zero-size e = at (eqb (length m) desc_bytes) (fit_kinds k) refl e
    where
      at : (b c : Bool) → eqb (length m) desc_bytes ≡ b → ◌≡◌ {A = ℕ} 0 (pick (both b c) (pick (sound_book (word m) t u l) 0 2) 1)
          → length m ≡ desc_bytes
      at true c x y = eqb-true (length m) desc_bytes x
      at false c x y = absurd (omega arith)

  pub write-refused : (a v : ℕ) {n : ℕ} → n ≡ state_fault m k t u l → n ≢ 0 → Gives (guest_write a v here) (Refused n) m k t u l
  unfolding guest_write
  write-refused a v e h = admitted-refused (λ s. judge a v s) e h

  pub write-gives : (a v : ℕ) → 0 ≡ state_fault m k t u l → {r : Answer} {m' t' u' l' : List ℕ}
      → Gives (judge a v (release here)) r m' k t' u' l'
      → Gives (guest_write a v here) r m' k t' u' l'
  unfolding guest_write
  write-gives a v e g = gives_as (admitted-passed (λ s. judge a v s) e) g

  pub write-sound : (a v : ℕ) → unfit here ≡ false → sound_world here ≡ true → {r : Answer} {m' t' u' l' : List ℕ}
      → Gives (judge a v (release here)) r m' k t' u' l'
      → Gives (guest_write a v here) r m' k t' u' l'
  unfolding guest_write
  write-sound a v f s g = gives_as (admitted-sound (λ x. judge a v x) f s) g

  -- ---- a store and nothing else

  pub store-sound : (a v : ℕ) → unfit here ≡ false → sound_world here ≡ true → {i : ℕ} → i ≡ (a - desc_first) / 4
      → plain_store a (word m) t u ≡ true
      → {m' : List ℕ} → m' ≡ put m i v → Gives (guest_write a v here) (Accepted Plain) m' k t u l
  store-sound a v f s {i} e h p =
      let w = store_word (word m) t u a h in
      let free : has u i ≡ false = ap (has u) e ∙ w.2 in
      write-sound a v f s
      (released-gives a v (release-quiet here w.3)
      (address_word a v w.0 refl w.1 e (word-free i v free p)))

  -- ---- 1 and 2, as the functions find them

  module _ {f : Bool} (e : f ≡ fit_parts m k) where
    pub state-1 : f ≡ false → 1 ≡ state_fault m k t u l
    unfolding state_fault
    state-1 h = rw (← e, h) refl

    module _ (h : f ≡ true) {g : Bool} (d : g ≡ sound_book (word m) t u l) where
      pub state-2 : g ≡ false → 2 ≡ state_fault m k t u l
      unfolding state_fault
      state-2 i = rw (← e, h, ← d, i) refl

      pub state-0 : g ≡ true → 0 ≡ state_fault m k t u l
      unfolding state_fault
      state-0 i = rw (← e, h, ← d, i) refl

pub parts-size : (m k : List ℕ) {f : Bool} → f ≡ fit_parts m k → f ≡ true → length m ≡ desc_bytes
unfolding fit_parts
parts-size m k e h = eqb-true (length m) desc_bytes (both_left _ _ (sym e ∙ h))

-- ---- descriptor memory by another name
module _ (m k t u l : List ℕ) (a v : ℕ) {m₁ : List ℕ} {r : Answer} {m' k' t' u' l' : List ℕ} (e : m₁ ≡ m) where
  pub write-same : Gives (guest_write a v (world_at m₁ k t u l)) r m' k' t' u' l'
      → Gives (guest_write a v (world_at m k t u l)) r m' k' t' u' l'
  write-same g = rw (← e) g

  pub released-same : Gives (judge a v (release (world_at m₁ k t u l))) r m' k' t' u' l'
      → Gives (judge a v (release (world_at m k t u l))) r m' k' t' u' l'
  released-same g = rw (← e) g
