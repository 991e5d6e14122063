-- Where a run stands behind each part of a turn. Assumes nothing.
--     Ends, line-room, line-ends   a line that was printed, and those gathered before it
--     decoded-fits, next_fits   what is decoded lies within the window, told of the window or of the part that was lent
--     Went, acted-end, acted-bad, acted-good   what was decoded is played
--     turned                   one turn whole
--     reached-none, reached-more, ended-more, no-end, reached-going, ended-none   turns one after another, until the run is over, or
--                              none is left
use Prim.Native.Nat.{ℕ, ◌+◌, ◌-◌, ◌≤◌, ◌<◌, min}
use mathlib.Core.Path.{◌≡◌, refl, ap, ◌∙◌, sym, subst}
use mathlib.Core.Bool.{Bool, true, false}
use mathlib.Core.List.{List, [], ◌++◌, append_assoc, append-nil}
use native.Mathlib.Omega.{arith}
use lib.ListN.{length, take, drop, length-drop, length-append}
use Rattle.std.proofs.Common.{Ok, Err, Option, None, Some, ControlFlow, Continue, Break}
use Rattle.layout.proofs.ChoiceLaws.{clash}
use Rattle.controller.specs.declared.Controller.{Controller}
use Rattle.machine.specs.Machine.{Machine}
use Rattle.machine.specs.After.{machine_at}
use Rattle.records.specs.declared.Record.{Record}
use Rattle.records.specs.Records.{Decoded, bad, record_max, decode}
use Rattle.records.specs.Lines.{line_max, lines_of, sent_line, bad_line, Prints}
use Rattle.records.proofs.SizeLaws.{decode-sized}
use Rattle.records.proofs.PrintLaws.{length-prints, take-prints}
use Rattle.replay.specs.declared.Played.{Played}
use Rattle.replay.specs.Replay.{record_of, replay}
use Rattle.replay.specs.Plays.{Plays}
use Rattle.window.specs.declared.Window.{Window}
use Rattle.window.specs.Window.{window_of, Inside, Refilled, Passed}
use Rattle.window.proofs.WindowLaws.{window-part, length-window, window-pass}
use Rattle.player.specs.declared.Run.{Run}
use Rattle.player.specs.declared.Last.{Last}
use Rattle.player.specs.Stands.{MayCome, Enough, Lines, Over, Stands, Holds, offset_end, run_at}
use Rattle.player.specs.Turns.{kept_at, flushed, size_of, Acted, Turned, Reached, Ended}
use Rattle.player.proofs.ReplayLaws.{lines-refill, lines-flush, lines_end, lines-bad, lines-good}

-- the line stands behind those gathered
pub record Ends (y : List ℕ) (at : ℕ) (line y' : List ℕ) (end : ℕ) : Type 0 where
  pub room : end ≤ length y'
  pub bytes : take end y' ≡ take at y ++ line

pub line-room : {x y : List ℕ} {i j : ℕ} {l : List ℕ} → Prints x i l y j → length l ≤ line_max → i + line_max ≤ length x → j ≤ length y
line-room p h k = omega (arith, p.ends, length-prints p, h, k)

pub line-ends : {x y : List ℕ} {i j : ℕ} {l : List ℕ} → Prints x i l y j → length l ≤ line_max → i + line_max ≤ length x → Ends x i l y j
line-ends {x} {y} {i} {j} {l} p h k =
    let e : j ≤ length x = omega (arith, p.ends, h, k) in
    record { room = line-room p h k; bytes = take-prints p e }

size-decoded : (bs : List ℕ) (d : Decoded) → d ≡ decode false bs → size_of d ≤ length bs
size-decoded bs (Ok None) e = omega arith
size-decoded bs (Ok (Some (r, n))) e = (decode-sized bs false r n (sym e)).1
size-decoded bs (Err f) e = omega arith

pub decoded-fits : (w : Window) (x : List ℕ) (d : Decoded) → Inside w x → d ≡ decode false (window_of w x)
    → w.from + size_of d ≤ w.len
decoded-fits w x d h e = omega (arith, h.order, length-window w x h, size-decoded (window_of w x) d e)

-- of the part that was lent
pub next_fits : (w : Window) (x : List ℕ) (d : Decoded) → Inside w x → d ≡ decode false (take (w.len - w.from) (drop w.from x))
    → (d ≡ decode false (window_of w x)) × (w.from + size_of d ≤ w.len)
next_fits w x d h e =
    let f : d ≡ decode false (window_of w x) = e ∙ ap (λ (l : List ℕ). decode false l) (window-part w x) in
    (f, decoded-fits w x d h f)

pub good-fits : (w : Window) {d : Decoded} {r : Record} {n : ℕ} → d ≡ Ok (Some (r, n)) → w.from + size_of d ≤ w.len → w.from + n ≤ w.len
good-fits w e h = subst (λ (k : ℕ). w.from + k ≤ w.len) (ap size_of e) h

pub decoded-is : {d : Decoded} {o p : Option (Record × ℕ)} → d ≡ Ok o → o ≡ p → d ≡ Ok p
decoded-is e f = e ∙ ap (λ (o : Option (Record × ℕ)). Ok o) f

-- ---- what was decoded

-- the run behind a record
pub record Went (p : Played) (w : Window) (n o : ℕ) (r : Run) : Type 0 where
  pub ctl : r.ctl ≡ p.ctl
  pub at : r.at ≡ p.end
  pub window : Passed w n r.window
  pub offset : r.offset ≡ min (o + n) (offset_end - 1)

module _ (d : Decoded) (w : Window) (c : Controller) (at o : ℕ) (m k t u l y : List ℕ) where
  abbrev before : Machine
  before = machine_at c m k t u l

  acted-stop : (line y' : List ℕ) (end : ℕ) → Ends y at line y' end
      → ((read wrote x : List ℕ) → Enough (window_of w x) w.ended → d ≡ decode false (window_of w x)
      → Lines read wrote (take at y) o before (window_of w x) w.ended → (more : List ℕ) → MayCome w.ended more
      → replay (read ++ more) ≡ wrote ++ (take at y ++ line))
      → Acted d w c at o m k t u l y (Break (record { end = end; ended = w.ended })) m k t u l y'
  acted-stop line y' end z g = record {
    holds = λ x i. z.room;
    ended = refl;
    stands = λ read wrote x n i q h f. (
      λ more may. g read wrote x h q f.lines more may ∙ ap (λ (b : List ℕ). wrote ++ b) (sym z.bytes),
      λ r e. let v : ◌≡◌ {A = ℕ} 0 1 = cc in absurd (omega arith),
    );
  }

  pub acted-end : (y' : List ℕ) (end : ℕ) → d ≡ Ok None → Ends y at (sent_line c.sent c.received) y' end
      → Acted d w c at o m k t u l y (Break (record { end = end; ended = w.ended })) m k t u l y'
  acted-end y' end e z =
      acted-stop (sent_line c.sent c.received) y' end z
      (λ read wrote x h q g. lines_end read wrote (take at y) o before (window_of w x) w.ended h g (sym q ∙ e))

  pub acted-bad : (y' : List ℕ) (end : ℕ) → d ≡ bad → Ends y at (bad_line o) y' end
      → Acted d w c at o m k t u l y (Break (record { end = end; ended = w.ended })) m k t u l y'
  acted-bad y' end e z =
      acted-stop (bad_line o) y' end z
      (λ read wrote x h q g. lines-bad read wrote (take at y) o before (window_of w x) w.ended h g (sym q ∙ e))

  module _ (v : Record) (n : ℕ) (e : d ≡ Ok (Some (v, n))) (p : Played) (m' k' t' u' l' y' : List ℕ) (r : Run)
      (b : Plays (record_of v (machine_at c m k t u l)) p m' k' t' u' l' y at y') (a : Went p w n o r) (room : p.end ≤ length y) where
    after_is : (record_of v before).1 ≡ machine_at r.ctl m' k' t' u' l'
    after_is = sym (λ i. machine_at ((a.ctl ∙ b.ctl) i) (b.mem i) (b.kinds i) (b.state i) (b.used i) (b.lens i))

    gathered-is : take at y ++ lines_of (record_of v before).0 ≡ take r.at y'
    gathered-is = sym (ap (λ (i : ℕ). take i y') a.at ∙ take-prints b.text room)

    good-inside : w.from + n ≤ w.len → (x : List ℕ) → Inside w x → Inside r.window x
    good-inside h x i = record {
      order = omega (arith, a.window.from, a.window.len, h);
      within = omega (arith, a.window.len, i.within);
    }

    good-offset : (read wrote x : List ℕ) → length read < offset_end → n ≤ length (window_of w x)
        → Stands read wrote (run_at c at w o) m k t u l x y → o + n ≡ r.offset
    good-offset read wrote x h g f = omega (arith, a.offset, f.place, h, g)

    good-stands : (read wrote x : List ℕ) → length read < offset_end → d ≡ decode false (window_of w x) → Enough (window_of w x) w.ended
        → Stands read wrote (run_at c at w o) m k t u l x y → Stands read wrote r m' k' t' u' l' x y' × (o < r.offset)
    good-stands read wrote x h q g f =
        let bs = window_of w x in
        let q' : decode false bs ≡ Ok (Some (v, n)) = sym q ∙ e in
        let z = decode-sized bs false v n q' in
        let i = good-offset read wrote x h z.1 f in
        let place : o + length bs ≡ length read = f.place in
        let rest : r.offset + (length bs - n) ≡ length read = omega (arith, i, place, z.1) in
        let j : window_of r.window x ≡ drop n bs = window-pass w r.window n x a.window in
        let s = record_of v before in
        let k1 = lines-good read wrote (take at y) o before bs w.ended g f.lines v n q' in
        let k2 = subst (λ (b : List ℕ). Lines read wrote b (o + n) s.1 (drop n bs) w.ended) gathered-is k1 in
        let k3 = subst (λ (b : Machine). Lines read wrote (take r.at y') (o + n) b (drop n bs) w.ended) after_is k2 in
        let k4 = subst (λ (b : ℕ). Lines read wrote (take r.at y') b (machine_at r.ctl m' k' t' u' l') (drop n bs) w.ended) i k3 in
        let k5 = subst (λ (b : List ℕ). Lines read wrote (take r.at y') r.offset (machine_at r.ctl m' k' t' u' l') b w.ended)
        (sym j) k4 in (
          record {
            place = ap (λ (b : List ℕ). r.offset + length b) j ∙ ap (λ (b : ℕ). r.offset + b) (length-drop n bs) ∙ rest;
            lines = subst (λ (b : Bool). Lines read wrote (take r.at y') r.offset (machine_at r.ctl m' k' t' u' l')
                (window_of r.window x) b) (sym a.window.ended) k5;
          },
          omega (arith, i, z.0),
        )

    pub acted-good : w.from + size_of d ≤ w.len → Acted d w c at o m k t u l y (Continue r) m' k' t' u' l' y'
    acted-good h = record {
      holds = λ x i. record { inside = good-inside (good-fits w e h) x i; room = omega (arith, a.at, room, length-prints b.text) };
      ended = a.window.ended;
      stands = λ read wrote x n i q g f.
          let z = good-stands read wrote x n q g f in
          (z.0, λ p f. subst (λ (v : Run). o < v.offset) (let f' : r ≡ p = cc in f') z.1);
    }

-- ---- one turn

module _ (s : Run) (m k t u l x y : List ℕ) (w : Window) (x' : List ℕ) (g : Refilled record_max s.window x w x') where
  pub turn-middle : (at : ℕ) → at ≡ kept_at s.at → (read wrote : List ℕ) → Stands read wrote s m k t u l x y
      → Stands (read ++ g.got) (wrote ++ flushed s.at y) (run_at s.ctl at w s.offset) m k t u l x' y
  turn-middle at e read wrote f =
      let o = s.offset in
      let b = machine_at s.ctl m k t u l in
      let v = window_of s.window x in
      let all = read ++ g.got in
      let k1 = lines-refill read wrote (take s.at y) o b v s.window.ended w.ended g.got g.stays f.lines in
      let k2 = lines-flush all wrote y s.at o b (v ++ g.got) w.ended k1 in
      let k3 = subst (λ (z : List ℕ). Lines all (wrote ++ flushed s.at y) (take (kept_at s.at) y) o b z w.ended) (sym g.bytes) k2 in
      let long : o + (length v + length g.got) ≡ length read + length g.got = omega (arith, f.place) in
      record {
        place =
            ap (λ (z : List ℕ). o + length z) g.bytes
            ∙ ap (λ (z : ℕ). o + z) (length-append v g.got)
            ∙ long
            ∙ sym (length-append read g.got);
        lines = subst (λ (z : ℕ). Lines all (wrote ++ flushed s.at y) (take z y) o b (window_of w x') w.ended) (sym e) k3;
      }

  abbrev pub turned : (at : ℕ) (d : Decoded) (r : ControlFlow Last Run) (m' k' t' u' l' y' : List ℕ) → at ≡ kept_at s.at
      → d ≡ decode false (window_of w x')
      → Acted d w s.ctl at s.offset m k t u l y r m' k' t' u' l' y' → Turned s m k t u l x y r m' k' t' u' l' x' y'
  turned at d r m' k' t' u' l' y' e q a = record {
    window = w;
    filled = g;
    ended = a.ended;
    holds = a.holds x' g.inside;
    stands = λ read wrote n f.
        a.stands (read ++ g.got) (wrote ++ flushed s.at y) x' n g.inside q g.enough (turn-middle at e read wrote f);
  }

-- ---- turns one after another

pub le_of : {a b c : ℕ} → a ≤ b → c ≡ b → a ≤ c
le_of h e = omega (arith, h, e)

module _ (s : Run) (m k t u l x y : List ℕ) where
  abbrev pub reached-none : (turns : ℕ) → offset_end ≤ turns + s.offset → Reached turns s m k t u l x y s m k t u l x y
  reached-none turns h = record {
    got = [];
    put = [];
    stands = λ read wrote n f. (
      subst (λ (a : List ℕ). Stands a (wrote ++ []) s m k t u l x y) (sym (append-nil read))
          (subst (λ (b : List ℕ). Stands read b s m k t u l x y) (sym (append-nil wrote)) f),
      h,
    );
  }

  module _ (turns : ℕ) (r : Run) (m1 k1 t1 u1 l1 x1 y1 : List ℕ) (a : Reached turns s m k t u l x y r m1 k1 t1 u1 l1 x1 y1) where
    abbrev pub reached-more : (left : ℕ) (q : Run) (m2 k2 t2 u2 l2 x2 y2 : List ℕ) → left + 1 ≡ turns
        → Turned r m1 k1 t1 u1 l1 x1 y1 (Continue q) m2 k2 t2 u2 l2 x2 y2 → Reached left s m k t u l x y q m2 k2 t2 u2 l2 x2 y2
    reached-more left q m2 k2 t2 u2 l2 x2 y2 is b =
        let g1 = a.got in
        let g2 = b.filled.got in
        let p2 = flushed r.at y1 in
        record {
          got = g1 ++ g2;
          put = a.put ++ p2;
          stands = λ read wrote n f.
              let e : (read ++ g1) ++ g2 ≡ read ++ (g1 ++ g2) = append_assoc read g1 g2 in
              let n2 : length ((read ++ g1) ++ g2) < offset_end = subst (λ (z : List ℕ). length z < offset_end) (sym e) n in
              let n1 : length (read ++ g1) < offset_end = omega (arith, n2, length-append (read ++ g1) g2) in
              let v = a.stands read wrote n1 f in
              let w = b.stands (read ++ g1) (wrote ++ a.put) n2 v.0 in (
                subst (λ (z : List ℕ). Stands z (wrote ++ (a.put ++ p2)) q m2 k2 t2 u2 l2 x2 y2) e
                    (subst (λ (z : List ℕ). Stands ((read ++ g1) ++ g2) z q m2 k2 t2 u2 l2 x2 y2) (append_assoc wrote a.put p2)
                    w.0),
                let less = w.1 q refl in omega (arith, is, v.1, less),
              );
        }

    -- the turn that ended the run
    abbrev pub ended-more : (e : Last) (m2 k2 t2 u2 l2 x2 y2 : List ℕ)
        → Turned r m1 k1 t1 u1 l1 x1 y1 (Break e) m2 k2 t2 u2 l2 x2 y2 → Ended s m k t u l x y e y2
    ended-more e m2 k2 t2 u2 l2 x2 y2 b =
        let g1 = a.got in
        let g2 = b.filled.got in
        let p2 = flushed r.at y1 in
        record {
          got = g1 ++ g2;
          put = a.put ++ p2;
          room = b.holds;
          over = λ read wrote n f.
              let i : (read ++ g1) ++ g2 ≡ read ++ (g1 ++ g2) = append_assoc read g1 g2 in
              let n2 : length ((read ++ g1) ++ g2) < offset_end = subst (λ (z : List ℕ). length z < offset_end) (sym i) n in
              let n1 : length (read ++ g1) < offset_end = omega (arith, n2, length-append (read ++ g1) g2) in
              let v = a.stands read wrote n1 f in
              let w = b.stands (read ++ g1) (wrote ++ a.put) n2 v.0 in
              subst (λ (z : List ℕ). Over z (wrote ++ (a.put ++ p2)) e y2) i
              (subst (λ (z : List ℕ). Over ((read ++ g1) ++ g2) z e y2) (append_assoc wrote a.put p2) w.0);
        }

-- no turn is left: each record has a byte, so as many bytes were read as there are offsets
pub no-end : (s : Run) (m k t u l x y : List ℕ) (r : Run) (m1 k1 t1 u1 l1 x1 y1 : List ℕ) (turns : ℕ)
    (a : Reached turns s m k t u l x y r m1 k1 t1 u1 l1 x1 y1) → turns ≤ 0
    → (read wrote : List ℕ) → length (read ++ a.got) < offset_end → Stands read wrote s m k t u l x y → 1 ≤ 0
no-end s m k t u l x y r m1 k1 t1 u1 l1 x1 y1 turns a h read wrote n f =
    let v = a.stands read wrote n f in
    omega (arith, v.0.place, v.1, n, h)

-- none that goes on is reached with no turn left: fewer bytes were read than there are turns
not_going : (t : Bool) (o n : ℕ) → (t ≡ true → offset_end ≤ 0 + o) → o + n < offset_end → t ≡ false
not_going true o n f h = absurd (omega (arith, f refl, h))
not_going false o n f h = refl

pub reached-going : (s : Run) (m k t u l x y : List ℕ) (r : Run) (m1 k1 t1 u1 l1 x1 y1 : List ℕ)
    (a : Reached 0 s m k t u l x y r m1 k1 t1 u1 l1 x1 y1)
    → (read wrote : List ℕ) → length (read ++ a.got) < offset_end → Stands read wrote s m k t u l x y → ⊥
reached-going s m k t u l x y r m1 k1 t1 u1 l1 x1 y1 a read wrote n f =
    let v = a.stands read wrote n f in
    clash refl (not_going true r.offset (length (window_of r.window x1)) (λ e. v.1) (omega (arith, v.0.place, n)))

abbrev pub ended-none : (s : Run) (m k t u l x y : List ℕ) (r : Run) (m1 k1 t1 u1 l1 x1 y1 : List ℕ) (turns : ℕ)
    (a : Reached turns s m k t u l x y r m1 k1 t1 u1 l1 x1 y1) → turns ≤ 0 → Holds r x1 y1
    → Ended s m k t u l x y (record { end = r.at; ended = r.window.ended }) y1
ended-none s m k t u l x y r m1 k1 t1 u1 l1 x1 y1 turns a h hold = record {
  got = a.got;
  put = a.put;
  room = hold.room;
  over = λ read wrote n f. absurd (omega (arith, no-end s m k t u l x y r m1 k1 t1 u1 l1 x1 y1 turns a h read wrote n f));
}
