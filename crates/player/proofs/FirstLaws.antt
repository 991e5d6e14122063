-- The first record: its kinds, and a fresh machine with them. Assumes nothing.
--     first-kinds                N as it is decoded from the part that was lent
--     ram-is, first-count        what is handed on of a first record
--     First, first-of, first-room   a first record has few enough kinds, and all of them are there
--     none-of                  there is none
--     first-none, first-lines  what is printed where there is none, and where there is one
--     kinds-lent               the kinds as they are lent
--     printed-bad, printed-all   the whole input
use Prim.Native.Nat.{ℕ, suc, ◌+◌, ◌-◌, ◌≤◌, ◌<◌}
use mathlib.Core.Path.{◌≡◌, refl, ap, ◌∙◌, sym, subst}
use mathlib.Core.Bool.{Bool, true, false}
use mathlib.Core.List.{List, [], ◌++◌, append-nil}
use native.Mathlib.Nat.{zero-add}
use native.Mathlib.Omega.{arith}
use lib.ListN.{length, take, drop, length-drop, length-append}
use lib.Seq.{length-take-le, paste, take-paste, drop-drop, take-take, take-append-le, drop-append-le}
use lib.Dec.{leb}
use borrow.Author.Tests.{leb-true}
use Rattle.std.proofs.Common.{Ok, Err, None, Some}
use Rattle.layout.specs.Choice.{pick, both}
use Rattle.layout.proofs.ChoiceLaws.{both_left, both_right}
use Rattle.blocks.specs.Kinds.{all_kinds}
use Rattle.controller.specs.declared.Controller.{Controller}
use Rattle.controller.specs.Controller.{fresh_controller}
use Rattle.machine.specs.Machine.{Machine, fresh_machine}
use Rattle.machine.specs.After.{machine_at}
use Rattle.records.specs.declared.Record.{Record}
use Rattle.records.specs.declared.Record.TheVariants.{Ram, Write, Kind, Frame, Steps}
use Rattle.records.specs.Records.{Decoded, bad, u16_at, has_mark, ram_max, decode_ram, decode}
use Rattle.records.specs.Lines.{bad_line}
use Rattle.records.proofs.SizeLaws.{same_found}
use Rattle.replay.specs.Replay.{replay_for, replay_first, replay}
use Rattle.window.specs.declared.Window.{Window}
use Rattle.window.specs.Window.{window_of, Inside, Passed}
use Rattle.window.proofs.WindowLaws.{window-part, length-window, window-pass}
use Rattle.player.specs.declared.Run.{Run}
use Rattle.player.specs.declared.Last.{Last}
use Rattle.player.specs.Stands.{replay_from, MayCome, Enough, Lines, Stands, Holds}
use Rattle.player.specs.Turns.{kinds_of, kinds_in, Fresh, Ended, Printed}
use Rattle.player.proofs.StandLaws.{Ends}
use Rattle.player.proofs.ReplayLaws.{fuel, decode-more}

-- ---- what is decoded

pub first-kinds : (w : Window) (x : List ℕ) (d : Decoded) → d ≡ decode true (take (w.len - w.from) (drop w.from x))
    → kinds_in d ≡ kinds_in (decode true (window_of w x))
first-kinds w x d e = ap (λ (z : Decoded). kinds_in z) (e ∙ ap (λ (l : List ℕ). decode true l) (window-part w x))

module _ (bs : List ℕ) where
  abbrev RamFits : Decoded → Type 0
  RamFits d =
      (r : Record) (s : ℕ) → d ≡ Ok (Some (r, s)) → (n : ℕ) → r ≡ Ram n
      → ((1 ≤ n) × (n ≤ ram_max)) × ((s ≡ 4 + n) × (4 + n ≤ length bs))

  ram-when : (t : Bool) (d : Decoded) → (t ≡ true → RamFits d) → RamFits (pick t d bad)
  ram-when true d f = f refl
  ram-when false d f = λ r s e n g. let z : ◌≡◌ {A = ℕ} 0 1 = cc in absurd (omega arith)

  ram-good : (k : ℕ) → 1 ≤ k → k ≤ ram_max → 4 + k ≤ length bs → RamFits (Ok (Some (Ram k, 4 + k)))
  ram-good k a b c r s e n g =
      let p = same_found e in
      let z : Ram k ≡ Ram n = ap (λ (q : Record × ℕ). q.0) p ∙ g in
      let y : k ≡ n = cc in
      let v : 4 + k ≡ s = ap (λ (q : Record × ℕ). q.1) p in
      ((omega arith, omega arith), (omega arith, omega arith))

  ram-at : RamFits (decode_ram bs)
  unfolding decode_ram
  ram-at =
      let l = length bs in
      let n = u16_at bs 2 in
      ram-when (leb 4 l) _ (λ _. ram-when (both (leb 1 n) (leb n ram_max)) _ (λ e. ram-when (leb (4 + n) l) _ (λ f.
      ram-when (all_kinds (take n (drop 4 bs))) _ (λ _.
      ram-good n (leb-true 1 n (both_left (leb 1 n) (leb n ram_max) e)) (leb-true n ram_max (both_right (leb 1 n) (leb n ram_max) e))
      (leb-true (4 + n) l f)))))

  pub ram-fits : RamFits (decode true bs)
  unfolding decode
  ram-fits = ram-when (leb 2 (length bs)) _ (λ _. ram-when (has_mark 82 77 bs) _ (λ _. ram-at))

pub ram-is : (bs : List ℕ) {d : Decoded} {r : Record} {n s : ℕ} → d ≡ decode true bs → d ≡ Ok (Some (r, s)) → r ≡ Ram n
    → (1 ≤ n) × ((s ≡ 4 + n) × (s ≤ length bs))
ram-is bs {d} {r} {n} {s} a b e = let z = ram-fits bs r s (sym a ∙ b) n e in (z.0.0, (z.1.0, omega (arith, z.1.0, z.1.1)))

-- N is the number of the bytes behind the head
pub first-count : (bs : List ℕ) {d : Decoded} {r : Record} {n s : ℕ} → d ≡ decode true bs → d ≡ Ok (Some (r, s)) → r ≡ Ram n
    → kinds_in (decode true bs) ≡ Some (length (take (s - 4) (drop 4 bs)))
first-count bs {d} {r} {n} {s} a b e =
    let z = ram-is bs a b e in
    let k : length (take (s - 4) (drop 4 bs)) ≡ s - 4 =
    length-take-le (s - 4) (drop 4 bs) (simp length-drop (omega (arith, z.1.1))) in
    let m : n ≡ length (take (s - 4) (drop 4 bs)) = omega (arith, k, z.1.0) in
    ap (λ (x : Decoded). kinds_in x) (sym a ∙ b) ∙ ap (λ (x : Record). kinds_of x) e ∙ ap (λ (x : ℕ). Some x) m

record-kinds : (r : Record) (n : ℕ) → kinds_of r ≡ Some n → r ≡ Ram n
record-kinds (Ram k) n e = let z : k ≡ n = cc in ap Ram z
record-kinds (Write a v) n e = absurd (let z : ◌≡◌ {A = ℕ} 0 1 = cc in omega arith)
record-kinds (Kind b k) n e = absurd (let z : ◌≡◌ {A = ℕ} 0 1 = cc in omega arith)
record-kinds (Frame k) n e = absurd (let z : ◌≡◌ {A = ℕ} 0 1 = cc in omega arith)
record-kinds (Steps g k) n e = absurd (let z : ◌≡◌ {A = ℕ} 0 1 = cc in omega arith)

first_some : (bs : List ℕ) (d : Decoded) (n : ℕ) → d ≡ decode true bs → kinds_in d ≡ Some n
    → (d ≡ Ok (Some (Ram n, 4 + n))) × ((n ≤ ram_max) × (4 + n ≤ length bs))
first_some bs (Ok None) n e f = absurd (let z : ◌≡◌ {A = ℕ} 0 1 = cc in omega arith)
first_some bs (Err g) n e f = absurd (let z : ◌≡◌ {A = ℕ} 0 1 = cc in omega arith)
first_some bs (Ok (Some (r, s))) n e f =
    let g = record-kinds r n f in
    let z = ram-fits bs r s (sym e) n g in
    (ap (λ (v : Record). Ok (Some (v, s))) g ∙ ap (λ (v : ℕ). Ok (Some (Ram n, v))) z.1.0, (z.0.1, z.1.1))

pub record First (bs : List ℕ) (n : ℕ) : Type 0 where
  pub is : decode true bs ≡ Ok (Some (Ram n, 4 + n))
  pub few : n ≤ ram_max
  pub room : 4 + n ≤ length bs

-- of the bytes that were lent
pub first-of : {ls bs : List ℕ} {n : ℕ} → ls ≡ bs → kinds_in (decode true ls) ≡ Some n → First bs n
first-of {ls} {bs} {n} e f =
    let z = first_some bs (decode true bs) n refl (ap (λ (l : List ℕ). kinds_in (decode true l)) (sym e) ∙ f) in
    record { is = z.0; few = z.1.0; room = z.1.1 }

pub none-of : {ls bs : List ℕ} → ls ≡ bs → kinds_in (decode true ls) ≡ None → kinds_in (decode true bs) ≡ None
none-of e f = ap (λ (l : List ℕ). kinds_in (decode true l)) (sym e) ∙ f

pub first-room : (w : Window) (x : List ℕ) (n : ℕ) → Inside w x → 4 + n ≤ length (window_of w x) → w.from + (4 + n) ≤ w.len
first-room w x n h g = omega (arith, g, length-window w x h, h.order)

none-at : (cs : List ℕ) (d : Decoded) → kinds_in d ≡ None → replay_first cs d ≡ bad_line 0
none-at cs (Ok None) f = refl
none-at cs (Err e) f = refl
none-at cs (Ok (Some (Ram n, s))) f = absurd (let z : ◌≡◌ {A = ℕ} 0 1 = cc in omega arith)
none-at cs (Ok (Some (Write a v, s))) f = refl
none-at cs (Ok (Some (Kind b k, s))) f = refl
none-at cs (Ok (Some (Frame n, s))) f = refl
none-at cs (Ok (Some (Steps g k, s))) f = refl

-- ---- what is printed

module _ (bs : List ℕ) (ended : Bool) (h : Enough bs ended) (more : List ℕ) (may : MayCome ended more) where
  pub first-none : kinds_in (decode true bs) ≡ None → replay (bs ++ more) ≡ bad_line 0
  unfolding replay
  first-none f =
      ap (λ (d : Decoded). replay_first (bs ++ more) d) (decode-more true bs ended more h may)
      ∙ none-at (bs ++ more) (decode true bs) f

  pub first-lines : (n : ℕ) → decode true bs ≡ Ok (Some (Ram n, 4 + n)) → 4 + n ≤ length bs
      → replay (bs ++ more) ≡ replay_from (4 + n) (fresh_machine (take n (drop 4 bs))) (drop (4 + n) bs ++ more)
  unfolding replay
  first-lines n e g =
      let all = bs ++ more in
      let k = suc (length all) in
      let rest = drop (4 + n) bs ++ more in
      let kinds : take n (drop 4 all) ≡ take n (drop 4 bs) =
      ap (λ (l : List ℕ). take n l) (drop-append-le 4 bs more (omega arith))
      ∙ take-append-le n (drop 4 bs) more (simp length-drop (omega arith)) in
      let long : length rest < k = simp (length-append, length-drop) (omega arith) in
      ap (λ (d : Decoded). replay_first all d) (decode-more true bs ended more h may ∙ e)
      ∙ ap (λ (l : List ℕ). replay_for k (4 + n) (fresh_machine l) (drop (4 + n) all)) kinds
      ∙ ap (λ (l : List ℕ). replay_for k (4 + n) (fresh_machine (take n (drop 4 bs))) l) (drop-append-le (4 + n) bs more g)
      ∙ fuel k (suc (length rest)) (4 + n) (fresh_machine (take n (drop 4 bs))) rest long (omega arith)

abbrev pub printed-bad : (w : Window) (x y y' : List ℕ) (end : ℕ) → Enough (window_of w x) w.ended
    → kinds_in (decode true (window_of w x)) ≡ None → Ends y 0 (bad_line 0) y' end
    → Printed (window_of w x) (record { end = end; ended = w.ended }) y'
printed-bad w x y y' end h e z =
    let bs = window_of w x in
    record {
      got = [];
      put = [];
      room = z.room;
      whole = λ _ more may.
          ap (λ (l : List ℕ). replay (l ++ more)) (append-nil bs) ∙ first-none bs w.ended h more may e ∙ sym z.bytes;
    }

-- ---- a fresh machine with the first record's kinds

-- the kinds as they are lent: the first n of the table
pub kinds-lent : (w : Window) (x old new : List ℕ) (n : ℕ) → Inside w x → 4 + n ≤ length (window_of w x) → n ≤ length old
    → new ≡ paste old 0 (drop (w.from + 4) x) n → take (n - 0) (drop 0 new) ≡ take n (drop 4 (window_of w x))
kinds-lent w x old new n h g f e =
    let from = w.from + 4 in
    let v : Window = record { from = from; len = w.len; ended = w.ended } in
    let k : n - 0 ≡ n = omega arith in
    let long : w.from + 4 + n ≤ w.len = omega (arith, g, length-window w x h, h.order) in
    let l : n ≤ length (drop from x) = simp length-drop (omega (arith, long, h.within)) in
    ap (λ (i : ℕ). take i new) k
    ∙ ap (λ (c : List ℕ). take n c) e
    ∙ ap (λ (i : ℕ). take i (paste old 0 (drop from x) n)) (sym (zero-add n))
    ∙ take-paste old 0 (drop from x) n (omega arith) l
    ∙ sym (take-take n (w.len - from) (drop from x) (omega (arith, long)))
    ∙ ap (λ (c : List ℕ). take n c) (window-part v x)
    ∙ ap (λ (c : List ℕ). take n c) (sym (drop-drop 4 w.from (take w.len x)))

-- the run behind the first record
pub record Begun (w : Window) (n : ℕ) (r : Run) : Type 0 where
  pub ctl : r.ctl ≡ fresh_controller
  pub at : r.at ≡ 0
  pub window : Passed w (4 + n) r.window
  pub offset : r.offset ≡ 4 + n

pub begun-holds : (w : Window) (n : ℕ) (s : Run) (x y : List ℕ) → Inside w x → w.from + (4 + n) ≤ w.len → Begun w n s → Holds s x y
begun-holds w n s x y h g b = record {
  inside = record { order = omega (arith, b.window.from, b.window.len, g); within = omega (arith, b.window.len, h.within) };
  room = omega (arith, b.at);
}

fresh-is : (c : Controller) (m k t u l ks : List ℕ) → c ≡ fresh_controller → k ≡ ks → Fresh m t u l → machine_at c m k t u l
    ≡ fresh_machine ks
unfolding fresh_machine
fresh-is c m k t u l ks e f g = λ i. machine_at (e i) (g.mem i) (f i) (g.state i) (g.used i) (g.lens i)

module _ (w : Window) (x : List ℕ) (h : Enough (window_of w x) w.ended) (n : ℕ)
    (d : decode true (window_of w x) ≡ Ok (Some (Ram n, 4 + n))) (g : 4 + n ≤ length (window_of w x)) (s : Run) (b : Begun w n s)
    (m k t u l y : List ℕ) (fresh : Fresh m t u l) (kinds : k ≡ take n (drop 4 (window_of w x))) where
  pub begun-stands : Stands (window_of w x) [] s m k t u l x y
  begun-stands =
      let bs = window_of w x in
      let rest = drop (4 + n) bs in
      let ks = take n (drop 4 bs) in
      let j : window_of s.window x ≡ rest = window-pass w s.window (4 + n) x b.window in
      let is = fresh-is s.ctl m k t u l ks b.ctl kinds fresh in
      let long : s.offset + (length bs - (4 + n)) ≡ length bs = omega (arith, b.offset, g) in
      let k1 : Lines bs [] [] (4 + n) (fresh_machine ks) rest w.ended = λ more may. first-lines bs w.ended h more may n d g in
      let k2 = subst (λ (z : Machine). Lines bs [] [] (4 + n) z rest w.ended) (sym is) k1 in
      let k3 = subst (λ (z : ℕ). Lines bs [] [] z (machine_at s.ctl m k t u l) rest w.ended) (sym b.offset) k2 in
      let k4 = subst (λ (z : List ℕ). Lines bs [] [] s.offset (machine_at s.ctl m k t u l) z w.ended) (sym j) k3 in
      let k5 = subst (λ (z : Bool). Lines bs [] [] s.offset (machine_at s.ctl m k t u l) (window_of s.window x) z)
      (sym b.window.ended) k4 in
      record {
        place = ap (λ (z : List ℕ). s.offset + length z) j ∙ ap (λ (z : ℕ). s.offset + z) (length-drop (4 + n) bs) ∙ long;
        lines = subst (λ (z : ℕ). Lines bs [] (take z y) s.offset (machine_at s.ctl m k t u l) (window_of s.window x)
            s.window.ended) (sym b.at) k5;
      }

  abbrev pub printed-all : (e : Last) (y1 : List ℕ) → Ended s m k t u l x y e y1 → Printed (window_of w x) e y1
  printed-all e y1 a = record {
    got = a.got;
    put = a.put;
    room = a.room;
    whole = λ few. a.over (window_of w x) [] few begun-stands;
  }
