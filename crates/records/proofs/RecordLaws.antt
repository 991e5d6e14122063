-- How the definitions of a first and of a later record go, by what is asked in turn. Assumes nothing.
--     ram-cut, ram-short    mark and N are cut; the kinds are cut
--     ram-rest              the kinds are cut, as what stands behind mark and N tells it
--     ram-whole             all N kinds are there: it is a record exactly where there are some and each fits
--     ram-over              N is over the limit
--     first-ram, first-bad  a first record is an `RM` record, or none
--     later-write, later-kind, later-frame, later-steps, later-bad   another record goes by its mark
--     later-is              where bytes are left, a later record is asked for
use Prim.Native.Nat.{ℕ, ◌+◌, ◌-◌, ◌≤◌, ◌<◌}
use mathlib.Core.Path.{◌≡◌, refl, ap, ◌∙◌, sym}
use mathlib.Core.Bool.{Bool, true, false}
use mathlib.Core.List.{List}
use native.Mathlib.Omega.{arith}
use lib.ListN.{length, get_or, take, drop, length-take, length-drop}
use lib.Seq.{take_all}
use lib.Dec.{eqb, leb}
use borrow.Author.Tests.{eq-eqb, eqb-true, ne_eqb, le-leb, lt-leb, leb-true, leb-false}
use Rattle.std.proofs.lemmas.List.{get_or_past}
use Rattle.std.proofs.lemmas.Slice.{between_from_start}
use Rattle.std.proofs.Common.{slice_range, Ok, Some}
use Rattle.layout.specs.Choice.{pick, both}
use Rattle.layout.specs.Layout.{blocks_max}
use Rattle.layout.proofs.ChoiceLaws.{pick_same, clash}
use Rattle.blocks.specs.Kinds.{all_kinds, fit_kinds}
use Rattle.records.specs.declared.Record.TheVariants.{Ram}
use Rattle.records.specs.Records.{Decoded, bad, ram_max, u16_at, has_mark, decode_ram}
use Rattle.records.specs.Records.{decode_write, decode_kind, decode_frame, decode_steps, decode_later, decode}

pub ram-cut : (bs : List ℕ) → length bs < 4 → decode_ram bs ≡ bad
unfolding decode_ram
ram-cut bs h = rw (lt-leb 4 (length bs) h)

pub ram-short : (bs : List ℕ) (n : ℕ) → n ≡ u16_at bs 2 → length bs < 4 + n → bad ≡ decode_ram bs
unfolding decode_ram
ram-short bs n e h = rw (lt-leb (4 + u16_at bs 2) (length bs) (rw e at h), pick_same, pick_same)

pub ram-rest : (bs : List ℕ) (n : ℕ) → n ≡ u16_at bs 2 → length (take (length bs - 4) (drop 4 bs)) < n → bad ≡ decode_ram bs
ram-rest bs n e h = ram-short bs n e (omega (arith, length-take (length bs - 4) (drop 4 bs), length-drop 4 bs))

-- three tests in a row, asked as one, where N is within both limits
three : (a b d c t : Bool) (x y : Decoded) → b ≡ true → d ≡ true → both a (both d c) ≡ t → pick (both a b) (pick c x y) y ≡ pick t x y
three true true true c t x y p q e = ap (λ (s : Bool). pick s x y) e
three true true false c t x y p q e = clash q refl
three true false d c t x y p q e = clash p refl
three false b d c t x y p q e = ap (λ (s : Bool). pick s x y) e

-- what an `RM` record may have, a kind table may have
ram-within : (n : ℕ) → n ≤ ram_max → n ≤ blocks_max
ram-within n h = omega arith

ram-fits : (bs : List ℕ) (t : Bool) → u16_at bs 2 ≤ ram_max → 4 + u16_at bs 2 ≤ length bs → fit_kinds (take (u16_at bs 2) (drop 4 bs)) ≡ t
    → decode_ram bs ≡ pick t (Ok (Some (Ram (u16_at bs 2), 4 + u16_at bs 2))) bad
unfolding decode_ram fit_kinds
ram-fits bs t g h f =
    let n = u16_at bs 2 in
    let part = take n (drop 4 bs) in
    let len : length part ≡ n = simp (length-take, length-drop) (omega arith) in
    let few = le-leb n ram_max g in
    let fewer = le-leb n blocks_max (ram-within n g) in
    rw (le-leb 4 (length bs) (omega arith), le-leb (4 + n) (length bs) h)
    (three (leb 1 n) (leb n ram_max) (leb n blocks_max) (all_kinds part) t (Ok (Some (Ram n, 4 + n))) bad few fewer (rw len at f))

-- what stands behind mark and N
abbrev behind : List ℕ → List ℕ
behind bs = take (length bs - 4) (drop 4 bs)

behind-is : (bs : List ℕ) → behind bs ≡ drop 4 bs
behind-is bs = take_all (length bs - 4) (drop 4 bs) (simp length-drop (omega arith))

-- with N as it was read, and the kinds as the part that was lent
pub ram-whole : (bs ks : List ℕ) (n : ℕ) (t : Bool) → n ≡ u16_at bs 2 → n ≤ ram_max → 4 ≤ length bs → n ≤ length (behind bs)
    → ks ≡ slice_range (behind bs) 0 n → fit_kinds ks ≡ t → pick t (Ok (Some (Ram n, 4 + n))) bad ≡ decode_ram bs
ram-whole bs ks n t e g h k p f =
    let long : 4 + n ≤ length bs = omega (arith, ap length (behind-is bs), length-drop 4 bs) in
    let part : ks ≡ take n (drop 4 bs) = p ∙ between_from_start (behind bs) n ∙ ap (λ (l : List ℕ). take n l) (behind-is bs) in
    rw e (sym (ram-fits bs t (rw e at g) (rw e at long) (rw (part, e) at f)))

both-no : (a b : Bool) → b ≡ false → both a b ≡ false
both-no true b e = e
both-no false b e = refl

pub ram-over : (bs : List ℕ) (n : ℕ) → n ≡ u16_at bs 2 → ram_max < n → bad ≡ decode_ram bs
unfolding decode_ram
ram-over bs n e h =
    let f = both-no (leb 1 (u16_at bs 2)) (leb (u16_at bs 2) ram_max) (lt-leb (u16_at bs 2) ram_max (rw e at h)) in
    rw (f, pick_same)

-- ---- marks

module _ (bs : List ℕ) where
  marked : (a b : ℕ) → get_or bs 0 0 ≡ a → get_or bs 1 0 ≡ b → has_mark a b bs ≡ true
  marked a b e f = simp (eq-eqb _ _ e, eq-eqb _ _ f)

  unmarked-at : (a b : ℕ) (t : Bool) → eqb (get_or bs 0 0) a ≡ t → (get_or bs 0 0 ≡ a → get_or bs 1 0 ≡ b → ⊥) → has_mark a b bs ≡ false
  unmarked-at a b true e f = simp (e, ne_eqb _ _ (f (eqb-true _ _ e)))
  unmarked-at a b false e f = simp e

  unmarked : (a b : ℕ) → (get_or bs 0 0 ≡ a → get_or bs 1 0 ≡ b → ⊥) → has_mark a b bs ≡ false
  unmarked a b f = unmarked-at a b (eqb (get_or bs 0 0) a) refl f

  first-bad-at : (t : Bool) → leb 2 (length bs) ≡ t → (2 ≤ length bs → get_or bs 0 0 ≡ 82 → get_or bs 1 0 ≡ 77 → ⊥)
      → bad ≡ pick t (pick (has_mark 82 77 bs) (decode_ram bs) bad) bad
  first-bad-at true e f = simp (unmarked 82 77 (f (leb-true 2 _ e)))
  first-bad-at false e f = refl

  pub first-bad : (2 ≤ length bs → get_or bs 0 0 ≡ 82 → get_or bs 1 0 ≡ 77 → ⊥) → bad ≡ decode true bs
  unfolding decode
  first-bad f = first-bad-at (leb 2 (length bs)) refl f

  pub first-ram : 2 ≤ length bs → get_or bs 0 0 ≡ 82 → get_or bs 1 0 ≡ 77 → decode_ram bs ≡ decode true bs
  unfolding decode
  first-ram h e f = simp (le-leb 2 _ h, marked 82 77 e f)

  pub later-write : get_or bs 0 0 ≡ 71 → get_or bs 1 0 ≡ 87 → decode_write bs ≡ decode_later bs
  unfolding decode_later
  later-write e f = simp (marked 71 87 e f)

  pub later-kind : get_or bs 0 0 ≡ 75 → get_or bs 1 0 ≡ 67 → decode_kind bs ≡ decode_later bs
  unfolding decode_later
  later-kind e f = simp (unmarked 71 87 (λ g h. omega arith), marked 75 67 e f)

  pub later-frame : get_or bs 0 0 ≡ 70 → get_or bs 1 0 ≡ 82 → decode_frame bs ≡ decode_later bs
  unfolding decode_later
  later-frame e f = simp (unmarked 71 87 (λ g h. omega arith), unmarked 75 67 (λ g h. omega arith), marked 70 82 e f)

  pub later-steps : get_or bs 0 0 ≡ 83 → get_or bs 1 0 ≡ 84 → decode_steps bs ≡ decode_later bs
  unfolding decode_later
  later-steps e f = simp (
    unmarked 71 87 (λ g h. omega arith),
    unmarked 75 67 (λ g h. omega arith),
    unmarked 70 82 (λ g h. omega arith),
    marked 83 84 e f,
  )

  pub later-bad : (get_or bs 0 0 ≡ 71 → get_or bs 1 0 ≡ 87 → ⊥) → (get_or bs 0 0 ≡ 75 → get_or bs 1 0 ≡ 67 → ⊥)
      → (get_or bs 0 0 ≡ 70 → get_or bs 1 0 ≡ 82 → ⊥) → (get_or bs 0 0 ≡ 83 → get_or bs 1 0 ≡ 84 → ⊥) → bad ≡ decode_later bs
  unfolding decode_later
  later-bad p q r s = simp (unmarked 71 87 p, unmarked 75 67 q, unmarked 70 82 r, unmarked 83 84 s)

  -- less than a mark
  pub later-short : length bs < 2 → bad ≡ decode_later bs
  later-short h = let e = get_or_past bs 1 0 (omega arith) in
      later-bad (λ g f. omega arith) (λ g f. omega arith) (λ g f. omega arith) (λ g f. omega arith)

  later-is-at : (t : Bool) → leb 2 (length bs) ≡ t → decode_later bs ≡ pick t (decode_later bs) bad
  later-is-at true e = refl
  later-is-at false e = sym (later-short (leb-false 2 _ e))

  pub later-is : (length bs ≡ 0 → ⊥) → decode_later bs ≡ decode false bs
  unfolding decode
  later-is h = simp (ne_eqb _ _ h) (later-is-at (leb 2 (length bs)) refl)
