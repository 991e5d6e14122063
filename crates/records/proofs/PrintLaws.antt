-- Texts stored in a buffer one behind the other. Assumes nothing.
--     prints-then              a text, and another where it ended, are the two together
--     prints-unique            any two outcomes are one
--     prints-at                a place is known by its number, however it is said
--     length-prints            the buffer keeps its length
--     take-prints              what the buffer begins with, up to where the text ended
--     prints-part              a text copied over the part where it is to stand
use Prim.Native.Nat.{ℕ, suc, ◌+◌, ◌-◌, ◌≤◌}
use mathlib.Core.Path.{◌≡◌, refl, ap, ◌∙◌, sym}
use mathlib.Core.List.{List, [], ◌∷◌, ◌++◌}
use native.Mathlib.Nat.{add-zero, add-suc, suc-add, add_assoc}
use native.Mathlib.Omega.{arith}
use lib.ListN.{length, set, take, drop, length-append}
use lib.Seq.{sets, length-sets, sets-eq, take_at, length-take-le}
use borrow.Rule.Slice.PartMut.{put_mid}
use Rattle.std.proofs.Common.{append_assoc}
use Rattle.std.proofs.lemmas.List.{drop-drop}
use Rattle.records.specs.Lines.{Prints}

-- one place further on, either way
further : (i n : ℕ) → i + suc n ≡ suc i + n
further i n = add-suc i n ∙ sym (suc-add i n)

sets-append : (l : List ℕ) (i : ℕ) (vs ws : List ℕ) → sets (sets l i vs) (i + length vs) ws ≡ sets l i (vs ++ ws)
sets-append l i [] ws = ap (λ (k : ℕ). sets l k ws) (add-zero i)
sets-append l i (v ∷ vs) ws =
    ap (λ (k : ℕ). sets (sets (set l i v) (suc i) vs) k ws) (further i (length vs)) ∙ sets-append (set l i v) (suc i) vs ws

-- a text copied over the part where it is to stand
pub prints-part : {x y t : List ℕ} {i : ℕ} → y ≡ t → i + length t ≤ length x
    → Prints x i t (put_mid i (i + length t - i) x y) (i + length t)
prints-part {x} {y} {t} {i} e h =
    let n : i + length t - i ≡ length t = omega arith in
    record {
      ends = refl;
      bytes =
          ap (λ (s : List ℕ). put_mid i (i + length t - i) x s) e
          ∙ ap (λ (k : ℕ). take i x ++ (t ++ drop k (drop i x))) n
          ∙ ap (λ (s : List ℕ). take i x ++ (t ++ s)) (drop-drop (length t) i x)
          ∙ sym (append_assoc (take i x) t (drop (i + length t) x))
          ∙ sym (sets-eq t x i h);
    }

pub prints-then : {x y z : List ℕ} {i j k : ℕ} {l m : List ℕ} → Prints x i l y j → Prints y j m z k → Prints x i (l ++ m) z k
prints-then {x} {y} {z} {i} {j} {k} {l} {m} p q = record {
  ends = q.ends ∙ ap (λ (a : ℕ). a + length m) p.ends ∙ add_assoc i (length l) (length m) ∙ ap (λ (a : ℕ). i + a) (sym
      (length-append l m));
  bytes = q.bytes ∙ ap (λ (b : List ℕ). sets b j m) p.bytes ∙ ap (λ (a : ℕ). sets (sets x i l) a m) p.ends ∙ sets-append x i l m;
}

pub prints-unique : {x y z : List ℕ} {i j k : ℕ} {l : List ℕ} → Prints x i l y j → Prints x i l z k → (j ≡ k) × (y ≡ z)
prints-unique p q = (p.ends ∙ sym q.ends, p.bytes ∙ sym q.bytes)

pub prints-at : {x y : List ℕ} {i k j : ℕ} {l : List ℕ} → i ≡ k → Prints x i l y j → Prints x k l y j
prints-at e p = rw e at p

pub length-prints : {x y : List ℕ} {i j : ℕ} {l : List ℕ} → Prints x i l y j → length y ≡ length x
length-prints {x} {y} {i} {j} {l} p = ap length p.bytes ∙ length-sets x i l

pub take-prints : {x y : List ℕ} {i j : ℕ} {l : List ℕ} → Prints x i l y j → j ≤ length x → take j y ≡ take i x ++ l
take-prints {x} {y} {i} {j} {l} p h =
    let e = p.ends in
    let g : i + length l ≤ length x = omega arith in
    let n : length (take i x ++ l) ≡ j = length-append (take i x) l ∙ ap (λ (a : ℕ). a + length l) (length-take-le i x (omega arith))
    ∙ sym e in
    ap (λ (b : List ℕ). take j b) (p.bytes ∙ sets-eq l x i g) ∙ take_at (take i x ++ l) (drop (i + length l) x) j n
