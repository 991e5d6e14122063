-- The loading of the registers: the HDPs and the CPs are copied in one piece, the reset bit by itself. Assumes nothing.
--     piece, copied      the table after the first, and after both
--     registers-loaded   it is what `loaded` says, word by word
--     next_word          one word loaded, and then the rest, is what loading from it on leaves
use Rattle.std.proofs.Common.{◌≡◌, ℕ, zero, suc, ◌+◌, ◌-◌, ◌<◌, ◌≤◌, ◌≢◌, Bool, true, false, List, [], ◌∷◌, ◌++◌, length, take, drop}
use Rattle.std.proofs.Common.{get_or, set, arith, rules, refl, ap, sym, ◌∙◌}
use Rattle.std.proofs.lemmas.List.{ext_get_or, places, get_or-set_same, get_or-set_other}
use borrow.Author.Tests.{le-leb, ltb-true, ltb-false, eqb-true, eqb-false}
use borrow.Rule.Slice.PartMut.{put_mid, mid_of}
use lib.Dec.{eqb, ltb}
use Rattle.layout.specs.Choice.{pick}
use Rattle.registers.specs.Table.{state_words, hdp_at, marks_at, bit_at, is_device, loaded_from, loaded}
use Rattle.registers.proofs.TableLaws.{length-loaded, get_or-loaded, is_device-head, is_device-register}

-- the HDPs and the CPs are p, the rest is t's
abbrev pub piece : List ℕ → List ℕ → List ℕ
piece t p = put_mid (hdp_at 0) (marks_at - hdp_at 0) t p

abbrev pub copied : List ℕ → List ℕ → List ℕ → List ℕ
copied c t p = set (piece t p) bit_at (get_or c bit_at 0)

module _ (c t p : List ℕ) (l : length t ≡ state_words) (m : length c ≡ state_words)
    (e : p ≡ mid_of (hdp_at 0) (marks_at - hdp_at 0) c) where
  piece-length : length (piece t p) ≡ length t
  piece-length = rw e (search (rules, places))

  copied-length : length (copied c t p) ≡ length t
  copied-length = rw e (search (rules, places))

  below : (k : ℕ) → k < hdp_at 0 → get_or (piece t p) k 0 ≡ get_or t k 0
  below k h = rw e (search (rules, places))

  within : (k : ℕ) → hdp_at 0 ≤ k → k < marks_at → get_or (piece t p) k 0 ≡ get_or c k 0
  within k h g = rw e (search (rules, places))

  above : (k : ℕ) → marks_at ≤ k → get_or (piece t p) k 0 ≡ get_or t k 0
  above k h = rw e (search (rules, places))

  word-copied : (k : ℕ) → k < state_words → get_or (copied c t p) k 0 ≡ pick (is_device k) (get_or c k 0) (get_or t k 0)
  word-copied k h = at (ltb k (hdp_at 0)) (ltb k marks_at) (eqb k bit_at) refl refl refl
    where
      told : (b : Bool) → is_device k ≡ b → get_or (copied c t p) k 0 ≡ pick b (get_or c k 0) (get_or t k 0)
          → get_or (copied c t p) k 0 ≡ pick (is_device k) (get_or c k 0) (get_or t k 0)
      told b d w = rw d w

      other : k ≢ bit_at → get_or (copied c t p) k 0 ≡ get_or (piece t p) k 0
      other n = get_or-set_other (piece t p) bit_at k _ 0 n

      at : (x y z : Bool) → ltb k (hdp_at 0) ≡ x → ltb k marks_at ≡ y → eqb k bit_at ≡ z
          → get_or (copied c t p) k 0 ≡ pick (is_device k) (get_or c k 0) (get_or t k 0)
      at true y z a b d =
          let g : k < hdp_at 0 = ltb-true k (hdp_at 0) a in
          told false (is_device-head k g) (other (λ e. omega arith) ∙ below k g)
      at false true z a b d =
          let f : hdp_at 0 ≤ k = ltb-false k (hdp_at 0) a in
          let g : k < marks_at = ltb-true k marks_at b in
          told true (is_device-register k f g) (other (λ e. omega arith) ∙ within k f g)
      at false false true a b d =
          let f : hdp_at 0 ≤ k = ltb-false k (hdp_at 0) a in
          let g : k ≡ bit_at = eqb-true k bit_at d in
          told true (simp (le-leb (hdp_at 0) k f, b, d)) (rw g (get_or-set_same (piece t p) bit_at _ 0 (omega (arith, l, piece-length))))
      at false false false a b d =
          let f : hdp_at 0 ≤ k = ltb-false k (hdp_at 0) a in
          told false (simp (le-leb (hdp_at 0) k f, b, d)) (other (eqb-false k bit_at d) ∙ above k (ltb-false k marks_at b))

pub registers-loaded : (c t p : List ℕ) → length t ≡ state_words → length c ≡ state_words
    → p ≡ mid_of (hdp_at 0) (marks_at - hdp_at 0) c → copied c t p ≡ loaded c t
registers-loaded c t p l m e =
    let n : length (copied c t p) ≡ length t = copied-length c t p l m e in
    ext_get_or 0 (copied c t p) (loaded c t) (n ∙ sym (length-loaded c t)) (λ k h.
    let g : k < length t = omega (arith, n, h) in
    word-copied c t p l m e k (omega (arith, l)) ∙ sym (get_or-loaded c t k g))

-- one word more: word i, at place k of the list
next_word : (i k : ℕ) (c t : List ℕ) → let u = set t k (pick (is_device i) (get_or c i 0) (get_or t k 0)) in
    take (suc k) u ++ loaded_from (i + 1) c (drop (suc k) u) ≡ take k t ++ loaded_from i c (drop k t)
next_word i zero c [] = refl
next_word i zero c (x ∷ t) = refl
next_word i (suc k) c [] = refl
next_word i (suc k) c (x ∷ t) = ap (λ (r : List ℕ). x ∷ r) (next_word i k c t)
