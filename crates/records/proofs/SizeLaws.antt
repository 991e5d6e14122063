-- What the size of a record tells, and how much of the input decides it. Assumes nothing.
--     Sized bs d         if d is a record, it has at least 4 bytes, and bs has them all
--     decode-sized       what bs begins with is Sized
--     same_found         a record and its size are told by what was decoded
--     decode-append, decode-take   record_max bytes of the input decide what it begins with
use Prim.Native.Nat.{ℕ, ◌+◌, ◌≤◌, ◌<◌}
use mathlib.Core.Path.{◌≡◌, refl, ap, ◌∙◌, sym}
use mathlib.Core.Bool.{Bool, true, false}
use mathlib.Core.List.{List, ◌++◌}
use native.Mathlib.Omega.{arith}
use lib.ListN.{length, get_or, take, drop, length-append, length-drop, take-append-drop, get_or-append}
use lib.Seq.{length-take-le, take_all, take-append-le, drop-append-le}
use lib.Dec.{eqb, leb}
use borrow.Author.Tests.{le-leb, leb-true, leb-false, ne_eqb}
use Rattle.std.proofs.Common.{Ok, None, Some}
use Rattle.layout.specs.Choice.{pick, both}
use Rattle.layout.proofs.ChoiceLaws.{both_right}
use Rattle.blocks.specs.Kinds.{all_kinds}
use Rattle.records.specs.declared.Record.{Record}
use Rattle.records.specs.declared.Record.TheVariants.{Ram}
use Rattle.records.specs.Records.{Decoded, bad, u16_at, has_mark, needs, ram_max, record_max, engine_max, decode_ram, decode_later, decode}

-- ---- size

abbrev pub Sized : List ℕ → Decoded → Type 0
Sized bs d = (r : Record) (n : ℕ) → d ≡ Ok (Some (r, n)) → (4 ≤ n) × (n ≤ length bs)

-- a record and its size are told by what was decoded
pub same_found : {p q : Record × ℕ} → ◌≡◌ {A = Decoded} (Ok (Some p)) (Ok (Some q)) → p ≡ q
same_found e = cc

module _ (bs : List ℕ) where
  sized-bad : Sized bs bad
  sized-bad r n e = let z : ◌≡◌ {A = ℕ} 0 1 = cc in absurd (omega arith)

  sized-end : Sized bs (Ok None)
  sized-end r n e = let z : ◌≡◌ {A = ℕ} 0 1 = cc in absurd (omega arith)

  sized-good : (s : Record) (m : ℕ) → 4 ≤ m → m ≤ length bs → Sized bs (Ok (Some (s, m)))
  sized-good s m h g r n e = let z : m ≡ n = ap (λ (p : Record × ℕ). p.1) (same_found e) in (omega arith, omega arith)

  sized-pick : (t : Bool) (x y : Decoded) → Sized bs x → Sized bs y → Sized bs (pick t x y)
  sized-pick true x y p q = p
  sized-pick false x y p q = q

  needs-at : (t : Bool) (k : ℕ) (d : Decoded) → leb k (length bs) ≡ t → (k ≤ length bs → Sized bs d) → Sized bs (pick t d bad)
  needs-at true k d e p = p (leb-true k (length bs) e)
  needs-at false k d e p = sized-bad

  sized-needs : (k : ℕ) (d : Decoded) → (k ≤ length bs → Sized bs d) → Sized bs (needs k bs d)
  sized-needs k d p = needs-at (leb k (length bs)) k d refl p

  ram-sized : Sized bs (decode_ram bs)
  unfolding decode_ram
  ram-sized =
      let n = u16_at bs 2 in
      let kinds = all_kinds (take n (drop 4 bs)) in
      sized-needs 4 _
      (λ h. sized-pick (both (leb 1 n) (leb n ram_max)) _ bad
      (sized-needs (4 + n) _ (λ g. sized-pick kinds _ bad (sized-good (Ram n) (4 + n) (omega arith) g) sized-bad))
      sized-bad)

  later-sized : Sized bs (decode_later bs)
  unfolding decode_later
  later-sized =
      sized-pick (has_mark 71 87 bs) _ _ (sized-needs 10 _ (λ h. sized-good _ 10 (omega arith) h))
      (sized-pick (has_mark 75 67 bs) _ _ (sized-needs 5 _ (λ h. sized-good _ 5 (omega arith) h))
      (sized-pick (has_mark 70 82 bs) _ _ (sized-needs 4 _ (λ h. sized-good _ 4 (omega arith) h))
      (sized-pick (has_mark 83 84 bs) _ _
      (sized-needs 4 _ (λ h. sized-pick (both (leb (get_or bs 2 0) engine_max) (leb 1 (get_or bs 3 0))) _ _
      (sized-good _ 4 (omega arith) h) sized-bad)) sized-bad)))

  pub decode-sized : (first : Bool) → Sized bs (decode first bs)
  unfolding decode
  decode-sized true = sized-needs 2 _ (λ h. sized-pick (has_mark 82 77 bs) _ _ ram-sized sized-bad)
  decode-sized false = sized-pick (eqb (length bs) 0) _ _ sized-end (sized-needs 2 _ (λ h. later-sized))

-- ---- so many bytes decide

abbrev ram_of : List ℕ → ℕ → Decoded
ram_of bs n =
    needs 4 bs
    (pick (both (leb 1 n) (leb n ram_max))
    (needs (4 + n) bs (pick (all_kinds (take n (drop 4 bs))) (Ok (Some (Ram n, 4 + n))) bad))
    bad)

module _ (x d : List ℕ) (h : record_max ≤ length x) where
  enough : (k : ℕ) → k ≤ record_max → (leb k (length (x ++ d)) ≡ true) × (leb k (length x) ≡ true)
  enough k g = (le-leb k (length (x ++ d)) (simp length-append (omega arith)), le-leb k (length x) (omega arith))

  part : (n : ℕ) → n ≤ ram_max → take n (drop 4 (x ++ d)) ≡ take n (drop 4 x)
  part n g =
      ap (λ (l : List ℕ). take n l) (drop-append-le 4 x d (omega arith))
      ∙ take-append-le n (drop 4 x) d (simp length-drop (omega arith))

  ram-at : (n : ℕ) (t : Bool) → both (leb 1 n) (leb n ram_max) ≡ t
      → pick t (needs (4 + n) (x ++ d) (pick (all_kinds (take n (drop 4 (x ++ d)))) (Ok (Some (Ram n, 4 + n))) bad)) bad
      ≡ pick t (needs (4 + n) x (pick (all_kinds (take n (drop 4 x))) (Ok (Some (Ram n, 4 + n))) bad)) bad
  ram-at n false e = refl
  ram-at n true e =
      let g = leb-true n ram_max (both_right (leb 1 n) (leb n ram_max) e) in
      let f = enough (4 + n) (omega arith) in
      rw (f.0, f.1, part n g)

  ram-append : decode_ram (x ++ d) ≡ decode_ram x
  unfolding decode_ram
  ram-append =
      let h2 : 2 < length x = omega arith in
      let h3 : 3 < length x = omega arith in
      let n : u16_at (x ++ d) 2 ≡ u16_at x 2 = simp get_or-append in
      let f = enough 4 (omega arith) in
      ap (λ (k : ℕ). ram_of (x ++ d) k) n ∙ simp (f.0, f.1)
      (ram-at (u16_at x 2) (both (leb 1 (u16_at x 2)) (leb (u16_at x 2) ram_max)) refl)

  later-append : decode_later (x ++ d) ≡ decode_later x
  unfolding decode_later
  later-append =
      let h0 : 0 < length x = omega arith in
      let h1 : 1 < length x = omega arith in
      let h2 : 2 < length x = omega arith in
      let h3 : 3 < length x = omega arith in
      let h4 : 4 < length x = omega arith in
      let h5 : 5 < length x = omega arith in
      let h6 : 6 < length x = omega arith in
      let h7 : 7 < length x = omega arith in
      let h8 : 8 < length x = omega arith in
      let h9 : 9 < length x = omega arith in
      let f4 = enough 4 (omega arith) in
      let f5 = enough 5 (omega arith) in
      let f10 = enough 10 (omega arith) in
      simp (get_or-append, f4.0, f4.1, f5.0, f5.1, f10.0, f10.1)

  pub decode-append : (first : Bool) → decode first (x ++ d) ≡ decode first x
  unfolding decode
  decode-append true =
      let h0 : 0 < length x = omega arith in
      let h1 : 1 < length x = omega arith in
      let f = enough 2 (omega arith) in
      simp (get_or-append, f.0, f.1, ram-append)
  decode-append false =
      let f = enough 2 (omega arith) in
      let p : eqb (length (x ++ d)) 0 ≡ false = ne_eqb (length (x ++ d)) 0 (λ e. omega (arith, length-append x d)) in
      let q : eqb (length x) 0 ≡ false = ne_eqb (length x) 0 (λ e. omega arith) in
      simp (p, q, f.0, f.1, later-append)

decode-take-at : (first t : Bool) (k : ℕ) (l : List ℕ) → leb k (length l) ≡ t → record_max ≤ k → decode first (take k l) ≡ decode first l
decode-take-at first true k l e h =
    let g = leb-true k (length l) e in
    let n : length (take k l) ≡ k = length-take-le k l g in
    sym (decode-append (take k l) (drop k l) (omega arith) first) ∙ ap (λ (m : List ℕ). decode first m) (take-append-drop k l)
decode-take-at first false k l e h =
    let g = leb-false k (length l) e in
    ap (λ (m : List ℕ). decode first m) (take_all k l (omega arith))

pub decode-take : (first : Bool) (k : ℕ) (l : List ℕ) → record_max ≤ k → decode first (take k l) ≡ decode first l
decode-take first k l h = decode-take-at first (leb k (length l)) k l refl h
