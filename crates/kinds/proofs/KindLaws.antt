-- A kind change, from its parts. Assumes nothing.
--     received-front                the last word left out
--     received-any                  whether a receive buffer touches a block, recorded length by recorded length
--     reception-found               one that touches it settles the question
--     touches_none, touches-past    no length is recorded here; the last word begins no descriptor
--     kind-18 .. kind-0             each number
--     kind-gives                    the change of one block on a released world
--     change-refused, change-gives  a whole kind change
use Prim.Native.Nat.{ℕ, zero, suc, ◌+◌, ◌*◌, ◌≤◌, ◌<◌}
use mathlib.Core.Path.{◌≡◌, refl, ap, ◌∙◌, sym}
use mathlib.Core.Bool.{Bool, true, false}
use mathlib.Core.List.{List, [], ◌∷◌}
use mathlib.Core.Logic.{◌≢◌}
use native.Mathlib.Omega.{arith}
use lib.ListN.{take, drop, length, get_or, set, get_or-eq_default}
use lib.Dec.{eqb, leb, ltb}
use borrow.Author.Tests.{eq-eqb, ne_eqb, le-ltb, lt-ltb, le-leb, lt-leb}
use Rattle.std.proofs.Common.{◌||◌}
use Rattle.std.specs.List.{list_any, enumerate_from}
use Rattle.layout.specs.Choice.{pick, both}
use Rattle.layout.specs.Layout.{desc_bytes, desc_words, ram_first, block_bytes}
use Rattle.words.specs.Word.{word_at, word}
use Rattle.blocks.specs.Room.{touches}
use Rattle.book.specs.World.{World, set_kinds, unfit, sound_world, release}
use Rattle.guard.specs.declared.Effect.TheVariants.{Plain}
use Rattle.guard.specs.declared.Answer.{Answer}
use Rattle.guard.specs.declared.Answer.TheVariants.{Accepted, Refused}
use Rattle.guard.specs.Answers.{accept, refuse, answer_to, world_at, Gives}
use Rattle.guard.specs.Guard.{state_fault}
use Rattle.guard.proofs.GivesLaws.{gives_as, admitted-refused, admitted-passed, admitted-sound}
use Rattle.kinds.specs.Kinds.{received, in_reception, kind_number, judge_kind, kind_change}
use Rattle.kinds.specs.Parts.{kind_outcome}

-- ---- receive buffers
pub received-any : (w : ℕ → ℕ) (b k : ℕ) (l : List ℕ)
    → list_any (λ (p : ℕ × ℕ). touches b (w (p.0 + 1)) p.1) (enumerate_from k l) ≡ received w k l b
received-any w b k [] = refl
received-any w b k (x ∷ l) = at (touches b (w (k + 1)) x) (received-any w b (k + 1) l)
  where
    at : (t : Bool) {x y : Bool} → x ≡ y → (t || x) ≡ pick t true y
    at true e = refl
    at false e = e

-- the last word of them may be left out where it begins no descriptor
pub received-front : (w : ℕ → ℕ) (b k j : ℕ) (l : List ℕ) → length l ≡ suc j → touches b (w (k + j + 1)) (get_or l j 0) ≡ false
    → received w k (take j l) b ≡ received w k l b
received-front w b k zero [] e h = absurd (omega arith)
received-front w b k zero (x ∷ []) e h =
    let i : k + 0 + 1 ≡ k + 1 = omega arith in
    let g : touches b (w (k + 1)) x ≡ false = ap (λ (n : ℕ). touches b (w n) x) (sym i) ∙ h in
    rw g refl
received-front w b k zero (x ∷ y ∷ l) e h = absurd (omega arith)
received-front w b k (suc j) [] e h = absurd (omega arith)
received-front w b k (suc j) (x ∷ l) e h =
    let i : k + suc j + 1 ≡ k + 1 + j + 1 = omega arith in
    let g : touches b (w (k + 1 + j + 1)) (get_or l j 0) ≡ false = ap (λ (n : ℕ). touches b (w n) (get_or l j 0)) (sym i) ∙ h in
    ap (λ (r : Bool). pick (touches b (w (k + 1)) x) true r) (received-front w b (k + 1) j l (omega arith) g)

received-next : (w : ℕ → ℕ) (b i j : ℕ) (l : List ℕ) → i < length l
    → received w j (drop i l) b ≡ pick (touches b (w (j + 1)) (get_or l i 0)) true (received w (j + 1) (drop (suc i) l) b)
received-next w b i j [] h = absurd (omega arith)
received-next w b zero j (x ∷ l) h = refl
received-next w b (suc i) j (x ∷ l) h = received-next w b i j l (omega arith)

pub reception-found : (w : ℕ → ℕ) (b i : ℕ) (l : List ℕ) → i < length l → touches b (w (i + 1)) (get_or l i 0) ≡ true
    → received w i (drop i l) b ≡ true
reception-found w b i l h e = received-next w b i i l h ∙ rw e refl

pub touches_none : (b lo : ℕ) → touches b lo 0 ≡ false
unfolding touches
touches_none b lo = refl

no_both : (x y z : Bool) → z ≡ false → both x (both y z) ≡ false
no_both true true z q = q
no_both true false z q = refl
no_both false y z q = refl

touches-low : (b lo n : ℕ) → lo + n ≤ ram_first → touches b lo n ≡ false
unfolding touches
touches-low b lo n h =
    no_both (ltb 0 n) (ltb lo (ram_first + block_bytes * (b + 1))) (ltb (ram_first + block_bytes * b) (lo + n))
    (le-ltb (ram_first + block_bytes * b) (lo + n) (omega arith))

-- past descriptor memory there is no word: a buffer there would begin at 0, below RAM
word-past : (m : List ℕ) (i : ℕ) → length m ≡ desc_bytes → desc_words ≤ i → word m i ≡ 0
unfolding word word_at
word-past m i e h =
    let z0 : get_or m (4 * i) 0 ≡ 0 = get_or-eq_default m 0 (omega arith) in
    let z1 : get_or m (4 * i + 1) 0 ≡ 0 = get_or-eq_default m 0 (omega arith) in
    let z2 : get_or m (4 * i + 2) 0 ≡ 0 = get_or-eq_default m 0 (omega arith) in
    let z3 : get_or m (4 * i + 3) 0 ≡ 0 = get_or-eq_default m 0 (omega arith) in
    omega (arith, z0, z1, z2, z3)

pub touches-past : (b n i : ℕ) (m : List ℕ) → length m ≡ desc_bytes → n < 65536 → desc_words ≤ i + 1 → touches b (word m (i + 1)) n ≡ false
touches-past b n i m e h g =
    touches-low b (word m (i + 1)) n (omega (arith, word-past m (i + 1) e (omega arith)))

pub touching-none : (b lo n : ℕ) → n ≡ 0 → false ≡ touches b lo n
touching-none b lo n e = sym (rw e (touches_none b lo))

pub touching-is : (b lo lo' n : ℕ) (r : Bool) → r ≡ touches b lo n → lo ≡ lo' → r ≡ touches b lo' n
touching-is b lo lo' n r e f = rw (← f) e

-- ---- the numbers
module _ (b k : ℕ) (w : ℕ → ℕ) (lens kinds : List ℕ) where
  pub kind-18 : length kinds ≤ b → 18 ≡ kind_number b k w lens kinds
  unfolding kind_number
  kind-18 h = rw (le-ltb b (length kinds) h) refl

  module _ (i : b < length kinds) where
    pub kind-low : k < 1 → 19 ≡ kind_number b k w lens kinds
    unfolding kind_number
    kind-low h = rw (lt-ltb b (length kinds) i, lt-leb 1 k h) refl

    pub kind-high : 1 ≤ k → 4 < k → 19 ≡ kind_number b k w lens kinds
    unfolding kind_number
    kind-high g h = rw (lt-ltb b (length kinds) i, le-leb 1 k g, lt-leb k 4 h) refl

    module _ (g : 1 ≤ k) (h : k ≤ 4) where
      pub kind-20 : get_or kinds b 0 ≡ 0 → 20 ≡ kind_number b k w lens kinds
      unfolding kind_number
      kind-20 e = rw (lt-ltb b (length kinds) i, le-leb 1 k g, le-leb k 4 h, eq-eqb (get_or kinds b 0) 0 e) refl

      module _ (n : get_or kinds b 0 ≢ 0) where
        pub kind-one : k ≡ 1 → 0 ≡ kind_number b k w lens kinds
        unfolding kind_number
        kind-one e = rw (lt-ltb b (length kinds) i, le-leb 1 k g, le-leb k 4 h, ne_eqb (get_or kinds b 0) 0 n, eq-eqb k 1 e) refl

        pub kind-21 : k ≢ 1 → in_reception w lens b ≡ true → 21 ≡ kind_number b k w lens kinds
        unfolding kind_number
        kind-21 e f = rw (lt-ltb b (length kinds) i, le-leb 1 k g, le-leb k 4 h, ne_eqb (get_or kinds b 0) 0 n, ne_eqb k 1 e, f) refl

        pub kind-free : k ≢ 1 → in_reception w lens b ≡ false → 0 ≡ kind_number b k w lens kinds
        unfolding kind_number
        kind-free e f = rw (lt-ltb b (length kinds) i, le-leb 1 k g, le-leb k 4 h, ne_eqb (get_or kinds b 0) 0 n, ne_eqb k 1 e, f) refl

  -- a change without fault names a block and a kind
  bounds-at : (t1 t2 t3 : Bool) (x : ℕ) → pick t1 (pick (both t2 t3) x 19) 18 ≡ 0 → (t1 ≡ true) × (t2 ≡ true) × (t3 ≡ true)
  bounds-at true true true x e = (refl, refl, refl)
  bounds-at true true false x e = absurd (omega arith)
  bounds-at true false t3 x e = absurd (omega arith)
  bounds-at false t2 t3 x e = absurd (omega arith)

  pub kind-tests : kind_number b k w lens kinds ≡ 0 → (ltb b (length kinds) ≡ true) × (leb 1 k ≡ true) × (leb k 4 ≡ true)
  unfolding kind_number
  kind-tests e = bounds-at (ltb b (length kinds)) (leb 1 k) (leb k 4) _ e

  pub kind-refused : (n : ℕ) → n ≡ kind_number b k w lens kinds → n ≢ 0 → (n, kinds) ≡ kind_outcome b k w lens kinds
  unfolding kind_outcome
  kind-refused n e h = rw (← e, ne_eqb n 0 h) refl

  pub kind-changed : 0 ≡ kind_number b k w lens kinds → (0, set kinds b k) ≡ kind_outcome b k w lens kinds
  unfolding kind_outcome
  kind-changed e = rw (← e) refl

answer-refused : (n : ℕ) → eqb n 0 ≡ false → answer_to Plain n ≡ Refused n
unfolding answer_to
answer-refused n e = rw e refl

answer-accepted : answer_to Plain 0 ≡ Accepted Plain
unfolding answer_to
answer-accepted = refl

module _ (m k t u l : List ℕ) where
  abbrev here : World
  here = world_at m k t u l

  changed-at : (i v : ℕ) (b : Bool) (n : ℕ) → eqb n 0 ≡ b → {x : ℕ × List ℕ} → x ≡ pick {A = ℕ × List ℕ} b (0, set k i v) (n, k)
      → {a : Answer} → a ≡ answer_to Plain x.0
      → Gives (pick b (accept Plain (set_kinds (set k i v) here)) (refuse n here)) a m x.1 t u l
  changed-at i v true n e g h = record {
    answer = h ∙ ap (λ (y : ℕ × List ℕ). answer_to Plain y.0) g ∙ answer-accepted;
    mem = refl;
    kinds = ap (λ (y : ℕ × List ℕ). y.1) g;
    state = refl;
    used = refl;
    lens = refl;
  }
  changed-at i v false n e g h = record {
    answer = h ∙ ap (λ (y : ℕ × List ℕ). answer_to Plain y.0) g ∙ answer-refused n e;
    mem = refl;
    kinds = ap (λ (y : ℕ × List ℕ). y.1) g;
    state = refl;
    used = refl;
    lens = refl;
  }

  pub kind-gives : (i v : ℕ) {x : ℕ × List ℕ} → x ≡ kind_outcome i v (word m) l k → {a : Answer} → a ≡ answer_to Plain x.0
      → Gives (judge_kind i v here) a m x.1 t u l
  unfolding judge_kind kind_outcome
  kind-gives i v e f = changed-at i v (eqb (kind_number i v (word m) l k) 0) (kind_number i v (word m) l k) refl e f

  module _ (i v : ℕ) where
    pub kind-released : {t₁ u₁ l₁ : List ℕ} → release here ≡ world_at m k t₁ u₁ l₁ → {r : Answer} {k' t' u' l' : List ℕ}
        → Gives (judge_kind i v (world_at m k t₁ u₁ l₁)) r m k' t' u' l' → Gives (judge_kind i v (release here)) r m k' t' u' l'
    kind-released e g = gives_as (ap (λ (s : World). judge_kind i v s) e) g

    pub change-refused : {n : ℕ} → n ≡ state_fault m k t u l → n ≢ 0 → Gives (kind_change i v here) (Refused n) m k t u l
    unfolding kind_change
    change-refused e h = admitted-refused m k t u l (λ s. judge_kind i v s) e h

    pub change-gives : 0 ≡ state_fault m k t u l → {r : Answer} {k' t' u' l' : List ℕ}
        → Gives (judge_kind i v (release here)) r m k' t' u' l'
        → Gives (kind_change i v here) r m k' t' u' l'
    unfolding kind_change
    change-gives e g = gives_as (admitted-passed m k t u l (λ s. judge_kind i v s) e) g

    pub change-sound : unfit here ≡ false → sound_world here ≡ true → {r : Answer} {k' t' u' l' : List ℕ}
        → Gives (judge_kind i v (release here)) r m k' t' u' l' → Gives (kind_change i v here) r m k' t' u' l'
    unfolding kind_change
    change-sound f s g = gives_as (admitted-sound m k t u l (λ x. judge_kind i v x) f s) g

-- ---- descriptor memory by another name
module _ (m k t u l : List ℕ) (b v : ℕ) {m₁ : List ℕ} {r : Answer} {k' t' u' l' : List ℕ} (e : m₁ ≡ m) where
  pub judge-same : Gives (judge_kind b v (release (world_at m₁ k t u l))) r m₁ k' t' u' l'
      → Gives (judge_kind b v (release (world_at m k t u l))) r m k' t' u' l'
  judge-same g = rw (← e) g
