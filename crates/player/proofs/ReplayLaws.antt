-- `replay` one record at a time, and what that does to what was read and flushed. Assumes nothing.
--     fuel                     bytes enough to count the records: any number over their length gives the same lines
--     from_end, from-bad, from-good     what is printed for what stands next
--     decode-more              a window that decides, decides whatever may come
--     lines-refill, lines-flush, lines_end, lines-bad, lines-good   how each part of a turn keeps `Lines`
use Prim.Native.Nat.{ℕ, zero, suc, ◌+◌, ◌<◌}
use mathlib.Core.Path.{◌≡◌, refl, ap, ◌∙◌, sym}
use mathlib.Core.Bool.{Bool, true, false}
use mathlib.Core.Logic.{inl, inr}
use mathlib.Core.List.{List, [], ◌++◌, append_assoc, append-nil}
use native.Mathlib.Omega.{arith}
use lib.ListN.{length, take, drop, length-drop}
use lib.Seq.{drop-append-le}
use lib.Dec.{leb}
use Rattle.std.proofs.Common.{Ok, Err, None, Some}
use Rattle.layout.specs.Choice.{pick}
use Rattle.machine.specs.Machine.{Machine}
use Rattle.records.specs.declared.Record.{Record}
use Rattle.records.specs.Records.{Decoded, bad, decode}
use Rattle.records.specs.Lines.{lines_of, sent_line, bad_line}
use Rattle.records.proofs.SizeLaws.{decode-sized, decode-append}
use Rattle.replay.specs.Replay.{record_of, replay_at, replay_for, replay}
use Rattle.player.specs.Stands.{replay_from, MayCome, Enough, Lines}
use Rattle.player.specs.Turns.{gathered_max, kept_at, flushed}

-- ---- how many records may be counted

fuel-at : (o : ℕ) (s : Machine) (bs : List ℕ) (f g : ℕ → Machine → List ℕ → List ℕ) (d : Decoded)
    → ((r : Record) (n : ℕ) → d ≡ Ok (Some (r, n)) → f (o + n) (record_of r s).1 (drop n bs) ≡ g (o + n) (record_of r s).1 (drop n bs))
    → replay_at o s bs f d ≡ replay_at o s bs g d
fuel-at o s bs f g (Ok None) h = refl
fuel-at o s bs f g (Err e) h = refl
fuel-at o s bs f g (Ok (Some (r, n))) h = ap (λ (l : List ℕ). lines_of (record_of r s).0 ++ l) (h r n refl)

pub fuel : (k j o : ℕ) (s : Machine) (bs : List ℕ) → length bs < k → length bs < j → replay_for k o s bs ≡ replay_for j o s bs
fuel zero j o s bs h g = absurd (omega arith)
fuel (suc k) zero o s bs h g = absurd (omega arith)
fuel (suc k) (suc j) o s bs h g =
    fuel-at o s bs (λ p t cs. replay_for k p t cs) (λ p t cs. replay_for j p t cs) (decode false bs)
    (λ r n e.
    let z = decode-sized bs false r n e in
    let a : length (drop n bs) < k = simp length-drop (omega (arith, z)) in
    let b : length (drop n bs) < j = simp length-drop (omega (arith, z)) in
    fuel k j (o + n) (record_of r s).1 (drop n bs) a b)

-- ---- what stands next

module _ (o : ℕ) (s : Machine) (bs : List ℕ) where
  by : (d : Decoded) → decode false bs ≡ d → replay_from o s bs ≡ replay_at o s bs (λ p t cs. replay_for (length bs) p t cs) d
  by d e = ap (λ (x : Decoded). replay_at o s bs (λ p t cs. replay_for (length bs) p t cs) x) e

  pub from_end : decode false bs ≡ Ok None → replay_from o s bs ≡ sent_line s.ctl.sent s.ctl.received
  from_end e = by (Ok None) e

  pub from-bad : decode false bs ≡ bad → replay_from o s bs ≡ bad_line o
  from-bad e = by bad e

  pub from-good : (r : Record) (n : ℕ) → decode false bs ≡ Ok (Some (r, n))
      → replay_from o s bs ≡ lines_of (record_of r s).0 ++ replay_from (o + n) (record_of r s).1 (drop n bs)
  from-good r n e =
      let z = decode-sized bs false r n e in
      let a : length (drop n bs) < length bs = simp length-drop (omega (arith, z)) in
      by (Ok (Some (r, n))) e
      ∙ ap (λ (l : List ℕ). lines_of (record_of r s).0 ++ l)
      (fuel (length bs) (suc (length (drop n bs))) (o + n) (record_of r s).1 (drop n bs) a (omega arith))

pub decode-more : (first : Bool) (w : List ℕ) (ended : Bool) (more : List ℕ) → Enough w ended → MayCome ended more
    → decode first (w ++ more) ≡ decode first w
decode-more first w ended more (inl h) m = decode-append w more h first
decode-more first w ended more (inr e) m = ap (λ (l : List ℕ). decode first (w ++ l)) (m e) ∙ ap (λ (l : List ℕ). decode first l)
    (append-nil w)

-- ---- the parts of a turn

module _ (read wrote g : List ℕ) (o : ℕ) (s : Machine) (w : List ℕ) where
  pub lines-refill : (e0 e1 : Bool) (got : List ℕ) → (e0 ≡ true → (got ≡ []) × (e1 ≡ true)) → Lines read wrote g o s w e0
      → Lines (read ++ got) wrote g o s (w ++ got) e1
  lines-refill e0 e1 got st f more m =
      ap replay (append_assoc read got more)
      ∙ f (got ++ more) (λ t. ap (λ (l : List ℕ). l ++ more) (st t).0 ∙ m (st t).1)
      ∙ ap (λ (l : List ℕ). wrote ++ (g ++ replay_from o s l)) (sym (append_assoc w got more))

  module _ (ended : Bool) (h : Enough w ended) (f : Lines read wrote g o s w ended) where
    pub lines_end : decode false w ≡ Ok None → (more : List ℕ) → MayCome ended more
        → replay (read ++ more) ≡ wrote ++ (g ++ sent_line s.ctl.sent s.ctl.received)
    lines_end e more m =
        f more m ∙ ap (λ (l : List ℕ). wrote ++ (g ++ l)) (from_end o s (w ++ more) (decode-more false w ended more h m ∙ e))

    pub lines-bad : decode false w ≡ bad → (more : List ℕ) → MayCome ended more → replay (read ++ more) ≡ wrote ++ (g ++ bad_line o)
    lines-bad e more m =
        f more m ∙ ap (λ (l : List ℕ). wrote ++ (g ++ l)) (from-bad o s (w ++ more) (decode-more false w ended more h m ∙ e))

    pub lines-good : (r : Record) (n : ℕ) → decode false w ≡ Ok (Some (r, n))
        → Lines read wrote (g ++ lines_of (record_of r s).0) (o + n) (record_of r s).1 (drop n w) ended
    lines-good r n e more m =
        let z = decode-sized w false r n e in
        let p = record_of r s in
        f more m
        ∙ ap (λ (l : List ℕ). wrote ++ (g ++ l)) (from-good o s (w ++ more) r n (decode-more false w ended more h m ∙ e))
        ∙ ap (λ (l : List ℕ). wrote ++ (g ++ (lines_of p.0 ++ replay_from (o + n) p.1 l))) (drop-append-le n w more z.1)
        ∙ ap (λ (l : List ℕ). wrote ++ l) (sym (append_assoc g (lines_of p.0) (replay_from (o + n) p.1 (drop n w ++ more))))

flush-at : (t : Bool) (wrote rest y : List ℕ) (at : ℕ)
    → wrote ++ (take at y ++ rest) ≡ (wrote ++ pick t [] (take at y)) ++ (take (pick t at 0) y ++ rest)
flush-at true wrote rest y at = ap (λ (l : List ℕ). l ++ (take at y ++ rest)) (sym (append-nil wrote))
flush-at false wrote rest y at = sym (append_assoc wrote (take at y) rest)

pub lines-flush : (read wrote y : List ℕ) (at o : ℕ) (s : Machine) (w : List ℕ) (ended : Bool) → Lines read wrote (take at y) o s w ended
    → Lines read (wrote ++ flushed at y) (take (kept_at at) y) o s w ended
lines-flush read wrote y at o s w ended f more m = f more m ∙ flush-at (leb at gathered_max) wrote (replay_from o s (w ++ more)) y at
