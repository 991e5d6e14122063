-- What a window holds: where it is moved, filled and passed over. Assumes nothing.
--     window-part          the bytes of a window, as a part that is lent
--     length-window        how many they are
--     window-pass          those behind the first n of them
--     refilled-read        one that was moved to the front and read into
--     taken-more           the bytes in front of a buffer, with those that were read behind them
--     read-is, got-is      what was read, as the part of the window that is new
--     kept-read            one that was moved to the front, where the read failed
use Prim.Native.Nat.{ℕ, zero, suc, ◌+◌, ◌-◌, ◌≤◌, ◌<◌}
use mathlib.Core.Path.{◌≡◌, refl, ap, ◌∙◌, sym}
use mathlib.Core.Bool.{Bool, true, false}
use mathlib.Core.Logic.{◌⊎◌, inl, inr}
use mathlib.Core.List.{List, [], ◌∷◌, ◌++◌}
use native.Mathlib.Nat.{zero-add}
use native.Mathlib.Omega.{arith}
use lib.ListN.{length, take, drop, length-drop}
use lib.Seq.{paste, take-paste, length-paste, take-nil, length-take-le}
use lib.Seq.{length-slice, drop-drop, take-append-add, take-append-le}
use lib.Dec.{ltb}
use borrow.Author.Tests.{ltb-true, ltb-false, lt-ltb, le-ltb}
use Rattle.layout.specs.Choice.{pick}
use Rattle.layout.proofs.ChoiceLaws.{clash}
use Rattle.std.proofs.Common.{le_refl, drop_at}
use Rattle.std.proofs.lemmas.Slice.{take-put_mid_below}
use borrow.Rule.Slice.PartMut.{mid_of, post_of, put_mid, same_len_mid, mid_len}
use Rattle.window.specs.declared.Window.{Window}
use Rattle.window.specs.Window.{window_of, Inside, lacks, Refilled, Kept, Passed}

-- room is left behind a bytes, or in what is behind them
ltb-shift : (t : Bool) (a g n : ℕ) → a ≤ n → ltb g (n - a) ≡ t → ltb g (n - a) ≡ ltb (a + g) n
ltb-shift true a g n h e = e ∙ sym (lt-ltb (a + g) n (omega (arith, ltb-true g (n - a) e, h)))
ltb-shift false a g n h e = e ∙ sym (le-ltb (a + g) n (omega (arith, ltb-false g (n - a) e, h)))

slice-part : (f t : ℕ) (l : List ℕ) → drop f (take t l) ≡ take (t - f) (drop f l)
slice-part zero t l = let e : t - 0 ≡ t = omega arith in ap (λ (n : ℕ). take n l) (sym e)
slice-part (suc f) zero l = let e : 0 - suc f ≡ 0 = omega arith in ap (λ (n : ℕ). take n (drop (suc f) l)) (sym e)
slice-part (suc f) (suc t) [] = sym (take-nil (suc t - suc f))
slice-part (suc f) (suc t) (x ∷ l) =
    let e : suc t - suc f ≡ t - f = omega arith in
    slice-part f t l ∙ ap (λ (n : ℕ). take n (drop f l)) (sym e)

-- ---- the bytes of a window

pub window-part : (w : Window) (x : List ℕ) → take (w.len - w.from) (drop w.from x) ≡ window_of w x
window-part w x = sym (slice-part w.from w.len x)

pub length-window : (w : Window) (x : List ℕ) → Inside w x → length (window_of w x) ≡ w.len - w.from
length-window w x h = length-slice w.from w.len x h.within

pub window-pass : (w r : Window) (n : ℕ) (x : List ℕ) → Passed w n r → window_of r x ≡ drop n (window_of w x)
window-pass w r n x p =
    ap (λ (k : ℕ). drop r.from (take k x)) p.len
    ∙ ap (λ (k : ℕ). drop k (take w.len x)) p.from
    ∙ sym (drop-drop n w.from (take w.len x))

-- ---- filled

pub taken-more : (x ys : List ℕ) (a k n : ℕ) → a ≤ length x → n ≤ length ys → take (a + n) (put_mid a k x ys) ≡ take a x ++ take n ys
taken-more x ys a k n h g =
    let p = take a x in
    let q = ys ++ post_of a k x in
    ap (λ (i : ℕ). take (i + n) (p ++ q)) (sym (length-take-le a x h))
    ∙ take-append-add p q n
    ∙ ap (λ (l : List ℕ). p ++ l) (take-append-le n ys (post_of a k x) g)

pub got-is : {wanted : ℕ} {w : Window} {x : List ℕ} {r : Window} {y : List ℕ} (g : Refilled wanted w x r y) → Inside w x
    → drop (w.len - w.from) (window_of r y) ≡ g.got
got-is {wanted} {w} {x} g h =
    ap (λ (l : List ℕ). drop (w.len - w.from) l) g.bytes ∙ drop_at (window_of w x) g.got (w.len - w.from) (length-window w x h)

-- moved to the front as x1, and read into behind the bytes that were left: ys stands there, and the first of them were read
module _ (wanted : ℕ) (w : Window) (x x1 ys : List ℕ) (got : ℕ) (h : Inside w x) (g : wanted ≤ length x)
    (e : x1 ≡ paste x 0 (drop w.from x) (w.len - w.from)) (k : got ≤ length ys)
    (s : length ys ≡ length (mid_of (w.len - w.from) (length x1 - (w.len - w.from)) x1)) where
  abbrev left_over : ℕ
  left_over = w.len - w.from

  abbrev read_into : List ℕ
  read_into = put_mid left_over (length x1 - left_over) x1 ys

  abbrev filled : Bool → Window
  filled t = record { from = 0; len = left_over + got; ended = t }

  length_moved : length x1 ≡ length x
  length_moved =
      let a : 0 + left_over ≤ length x = omega (arith, h.within) in
      let b : left_over ≤ length (drop w.from x) = simp length-drop (omega (arith, h.within)) in
      ap length e ∙ length-paste x 0 (drop w.from x) left_over a b

  front-is : take left_over x1 ≡ window_of w x
  front-is =
      let b : left_over ≤ length (drop w.from x) = simp length-drop (omega (arith, h.within)) in
      ap (λ (l : List ℕ). take left_over l) e
      ∙ ap (λ (n : ℕ). take n (paste x 0 (drop w.from x) left_over)) (sym (zero-add left_over))
      ∙ take-paste x 0 (drop w.from x) left_over (omega arith) b
      ∙ window-part w x

  read-bytes : take (left_over + got) read_into ≡ window_of w x ++ take got ys
  read-bytes =
      taken-more x1 ys left_over (length x1 - left_over) got (omega (arith, length_moved, h.within)) k
      ∙ ap (λ (l : List ℕ). l ++ take got ys) front-is

  pub read-is : (t : Bool) → drop left_over (window_of (filled t) read_into) ≡ take got ys
  read-is t =
      ap (λ (l : List ℕ). drop left_over l) read-bytes ∙ drop_at (window_of w x) (take got ys) left_over (length-window w x h)

  length-read_into : length read_into ≡ length x
  length-read_into = same_len_mid left_over (length x1 - left_over) x1 ys s ∙ length_moved

  length_part : length ys ≡ length x1 - left_over
  length_part = s ∙ mid_len left_over (length x1) x1 (omega arith)

  inside-at : (t : Bool) → Inside (filled t) read_into
  inside-at t = record { order = omega arith; within = omega (arith, length-read_into, length_part, length_moved, h.within, h.order, k) }

  enough-at : (t : Bool) → ltb got (length x1 - left_over) ≡ t → (wanted ≤ length (window_of (filled t) read_into)) ⊎ (t ≡ true)
  enough-at true f = inr refl
  enough-at false f =
      inl (omega (
        arith,
        length-window (filled false) read_into (inside-at false),
        ltb-false got
            (length x1 - left_over) f,
        length_moved,
        g,
      ))

  ends_is : w.len - w.from < wanted → w.ended ≡ false
      → ltb got (length x1 - left_over) ≡ pick (lacks wanted w) (ltb (left_over + length (take got ys)) (length x)) w.ended
  ends_is f n =
      let yes : lacks wanted w ≡ true = rw (lt-ltb (w.len - w.from) wanted f, n) in
      let a : left_over ≤ length x = omega (arith, h.within) in
      ap (λ (i : ℕ). ltb got (i - left_over)) length_moved
      ∙ ltb-shift (ltb got (length x - left_over)) left_over got (length x) a refl
      ∙ ap (λ (i : ℕ). ltb (left_over + i) (length x)) (sym (length-take-le got ys k))
      ∙ ap (λ (b : Bool). pick b (ltb (left_over + length (take got ys)) (length x)) w.ended) (sym yes)

  pub refilled-read : (t : Bool) → t ≡ ltb got (length x1 - left_over) → w.len - w.from < wanted → w.ended ≡ false
      → Refilled wanted w x (filled t) read_into
  refilled-read t f less n = record {
    got = take got ys;
    bytes = read-bytes;
    inside = inside-at t;
    enough = enough-at t (sym f);
    stays = λ y. clash y n;
    ends = f ∙ ends_is less n;
  }

  pub kept-read : w.len - w.from < wanted → w.ended ≡ false → Kept wanted w x read_into
  kept-read less n = record {
    lacking = rw (lt-ltb (w.len - w.from) wanted less, n) refl;
    bytes = take-put_mid_below left_over (length x1 - left_over) x1 ys left_over (le_refl left_over)
        (omega (arith, length_moved, h.within)) ∙ front-is;
    size = length-read_into;
  }
