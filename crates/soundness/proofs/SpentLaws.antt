-- A walk that takes four away for each descriptor: where it ends as it should it has gone along a list. Assumes nothing.
--     Asked ask s ds            each passes `ask` with the words met as they then are
--     asked-left, asked-right, asked-join, add-append   the same in parts, and the words met
--     spent-yes                 along a list the walk takes four for each
--     Spent, spent-list         and a walk is lost, or has gone along a list
--     all-lost                  what is lost stays so, head by head
--     Taken, spent-queues       head by head: lost, or there are queues, four taken for each descriptor
--     queues-spent              and conversely: along queues so many are taken
use Prim.Native.Nat.{ℕ, zero, suc, ◌+◌, ◌*◌, ◌-◌, ◌≤◌, ◌<◌}
use mathlib.Core.Path.{◌≡◌, refl, ap, ap₂, ◌∙◌, sym}
use mathlib.Core.Bool.{Bool, true, false}
use mathlib.Core.List.{List, [], ◌∷◌, ◌++◌}
use mathlib.Core.Logic.{◌⊎◌, inl, inr}
use native.Mathlib.Omega.{arith}
use lib.ListN.{length, length-append}
use lib.Dec.{eqb, leb}
use borrow.Author.Tests.{ne_eqb, eqb-true, le-leb, leb-true}
use Rattle.layout.specs.Choice.{pick, both}
use Rattle.layout.specs.Run.{go, stop, after}
use Rattle.layout.specs.Layout.{good_ptr, word_of, addr}
use Rattle.layout.proofs.ChoiceLaws.{both_left, both_right}
use Rattle.layout.proofs.PointerLaws.{good_ptr-is, good_ptr-addr, word_of-addr}
use Rattle.words.specs.WordSet.{add_four}
use Rattle.soundness.specs.Spent.{SSt, SOut, lost, spend_step, spent_from, spent_all}
use Rattle.queue.proofs.Queue.{start, Linked, LinkedAll, flat, starts, add_all}
use Rattle.soundness.proofs.StepLaws.{spent-eq}

abbrev pub Asked : (List ℕ → ℕ → Bool) → List ℕ → List ℕ → Type 0
Asked ask s [] = Unit
Asked ask s (d ∷ ds) = (ask s d ≡ true) × Asked ask (add_four s d) ds

add-append : (s xs ys : List ℕ) → add_all s (xs ++ ys) ≡ add_all (add_all s xs) ys
add-append s [] ys = refl
add-append s (x ∷ xs) ys = add-append (add_four s x) xs ys

module _ (ask : List ℕ → ℕ → Bool) where
  pub asked-left : (s xs ys : List ℕ) → Asked ask s (xs ++ ys) → Asked ask s xs
  asked-left s [] ys a = tt
  asked-left s (x ∷ xs) ys a = (a.0, asked-left (add_four s x) xs ys a.1)

  pub asked-right : (s xs ys : List ℕ) → Asked ask s (xs ++ ys) → Asked ask (add_all s xs) ys
  asked-right s [] ys a = a
  asked-right s (x ∷ xs) ys a = asked-right (add_four s x) xs ys a.1

  pub asked-join : (s xs ys : List ℕ) → Asked ask s xs → Asked ask (add_all s xs) ys → Asked ask s (xs ++ ys)
  asked-join s [] ys a b = b
  asked-join s (x ∷ xs) ys a b = (a.0, asked-join (add_four s x) xs ys a.1 b)

-- ---- one chain

module _ (w : ℕ → ℕ) (ask : List ℕ → ℕ → Bool) where
  pub spent-yes : (s ds : List ℕ) (left : ℕ) → Linked w ds → Asked ask s ds
      → spent_from w ask s (start ds) (4 * length ds + left) ≡ (left, add_all s ds)
  unfolding spend_step
  spent-yes s [] left l a = let e : 4 * 0 + left ≡ left = omega arith in rw e (spent-eq w ask s 0 left)
  spent-yes s (d ∷ ds) left l a =
      let n : 4 * suc (length ds) + left - 4 ≡ 4 * length ds + left = omega arith in
      spent-eq w ask s (addr d) (4 * suc (length ds) + left)
      ∙ simp (
        ne_eqb (addr d) 0 (λ z. omega (arith, z)),
        good_ptr-addr d l.0,
        word_of-addr d,
        le-leb 4 (4 * suc (length ds) + left) (omega arith),
        a.0,
        l.1,
        n,
      )
      (spent-yes (add_four s d) ds left l.2 a.1)

  pub record Spent (s : List ℕ) (p left : ℕ) (out : SOut) : Type 0 where
    pub ds : List ℕ
    pub begins : p ≡ start ds
    pub linked : Linked w ds
    pub asked : Asked ask s ds
    pub many : left ≡ 4 * length ds + out.0
    pub words : out.1 ≡ add_all s ds

  found : (n : ℕ) (s : List ℕ) (p left : ℕ) → left < n
      → ((spent_from w ask s p left).0 ≡ lost) ⊎ Spent s p left (spent_from w ask s p left)
  unfolding spend_step
  found zero s p left l = absurd (omega arith)
  found (suc n) s p left l =
      rw (spent-eq w ask s p left) (by (eqb p 0) (both (good_ptr p) (both (leb 4 left) (ask s d))) refl refl (λ t q m. found n t q m))
    where
      d : ℕ
      d = word_of p

      by : (z a : Bool) → eqb p 0 ≡ z → both (good_ptr p) (both (leb 4 left) (ask s d)) ≡ a
          → ((t : List ℕ) (q m : ℕ) → m < n → ((spent_from w ask t q m).0 ≡ lost) ⊎ Spent t q m (spent_from w ask t q m))
          → let out = after {S = SSt} {R = SOut} (pick z (stop (left, s)) (pick a (go (add_four s d, w d, left - 4)) (stop (lost, s))))
          (λ t. spent_from w ask t.0 t.1 t.2) in (out.0 ≡ lost) ⊎ Spent s p left out
      by true a z g ih = inr (record { ds = []; begins = eqb-true p 0 z; linked = tt; asked = tt; many = omega arith; words = refl })
      by false false z g ih = inl refl
      by false true z g ih = more (ih (add_four s d) (w d) (left - 4) (omega (arith, h)))
        where
          h : 4 ≤ left
          h = leb-true 4 left (both_left _ _ (both_right (good_ptr p) _ g))

          more : {out : SOut} → (out.0 ≡ lost) ⊎ Spent (add_four s d) (w d) (left - 4) out → (out.0 ≡ lost) ⊎ Spent s p left out
          more (inl e) = inl e
          more (inr r) =
              let i = good_ptr-is p (both_left (good_ptr p) _ g) in
              inr (record {
                ds = d ∷ r.ds;
                begins = i.0;
                linked = (i.1, r.begins, r.linked);
                asked = (both_right (leb 4 left) _ (both_right (good_ptr p) _ g), r.asked);
                many = omega (arith, h, r.many);
                words = r.words;
              })

  pub spent-list : (s : List ℕ) (p left : ℕ) → ((spent_from w ask s p left).0 ≡ lost) ⊎ Spent s p left (spent_from w ask s p left)
  spent-list s p left = found (suc left) s p left (omega arith)

  -- ---- each head in turn

  from-lost : (s : List ℕ) (p : ℕ) → (spent_from w ask s p lost).0 ≡ lost
  unfolding spend_step
  from-lost s p = rw (spent-eq w ask s p lost) (by (eqb p 0) (good_ptr p))
    where
      by : (z a : Bool) → (after {S = SSt} {R = SOut}
          (pick z (stop (lost, s))
          (pick (both a (both (leb 4 lost) (ask s (word_of p)))) (go (add_four s (word_of p), w (word_of p), lost - 4)) (stop (lost, s))))
          (λ t. spent_from w ask t.0 t.1 t.2)).0 ≡ lost
      by true a = refl
      by false true = refl
      by false false = refl

  pub all-lost : (hs s : List ℕ) (left : ℕ) → left ≡ lost → (spent_all w ask hs s left).0 ≡ lost
  all-lost [] s left e = e
  all-lost (h ∷ hs) s left e = all-lost hs _ _ (rw e (from-lost s h))

  pub record Taken (hs s : List ℕ) (left : ℕ) (out : SOut) : Type 0 where
    pub qs : List (List ℕ)
    pub heads : hs ≡ starts qs
    pub linked : LinkedAll w qs
    pub asked : Asked ask s (flat qs)
    pub many : left ≡ 4 * length (flat qs) + out.0
    pub words : out.1 ≡ add_all s (flat qs)

  pub spent-queues : (hs s : List ℕ) (left : ℕ)
      → ((spent_all w ask hs s left).0 ≡ lost) ⊎ Taken hs s left (spent_all w ask hs s left)
  spent-queues [] s left = inr (record { qs = []; heads = refl; linked = tt; asked = tt; many = omega arith; words = refl })
  spent-queues (h ∷ hs) s left =
      let c = spent_from w ask s h left in
      by (spent-list s h left) (λ l. all-lost hs c.1 c.0 l) (spent-queues hs c.1 c.0)
    where
      by : {c out : SOut} → (c.0 ≡ lost) ⊎ Spent s h left c → (c.0 ≡ lost → out.0 ≡ lost)
          → (out.0 ≡ lost) ⊎ Taken hs c.1 c.0 out → (out.0 ≡ lost) ⊎ Taken (h ∷ hs) s left out
      by (inl l) f t = inl (f l)
      by (inr r) f (inl l) = inl l
      by (inr r) f (inr t) = inr (record {
        qs = r.ds ∷ t.qs;
        heads = ap₂ (λ (a : ℕ) (b : List ℕ). a ∷ b) r.begins t.heads;
        linked = (r.linked, t.linked);
        asked = asked-join ask s r.ds (flat t.qs) r.asked (rw r.words at t.asked);
        many = omega (arith, r.many, t.many, length-append r.ds (flat t.qs));
        words = t.words ∙ ap (λ (x : List ℕ). add_all x (flat t.qs)) r.words ∙ sym (add-append s r.ds (flat t.qs));
      })

  pub queues-spent : (qs : List (List ℕ)) (s : List ℕ) (left : ℕ) → LinkedAll w qs → Asked ask s (flat qs)
      → spent_all w ask (starts qs) s (4 * length (flat qs) + left) ≡ (left, add_all s (flat qs))
  queues-spent [] s left l a = let n : 4 * 0 + left ≡ left = omega arith in rw n refl
  queues-spent (q ∷ qs) s left l a =
      let n : 4 * length (q ++ flat qs) + left ≡ 4 * length q + (4 * length (flat qs) + left) = omega (arith, length-append q (flat qs)) in
      ap (λ (c : SOut). spent_all w ask (starts qs) c.1 c.0)
      (rw n (spent-yes s q (4 * length (flat qs) + left) l.0 (asked-left ask s q (flat qs) a)))
      ∙ queues-spent qs (add_all s q) left l.1 (asked-right ask s q (flat qs) a)
      ∙ ap (λ (x : List ℕ). (left, x)) (sym (add-append s q (flat qs)))
