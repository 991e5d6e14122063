-- What the promises settle. Assumes nothing.
--     turned-unique     two turns that read the same bytes: what was handed to the write, is gathered and is still to come is the same
--     printed-replay    all that was handed to the write is `replay` of all that was read
--     printed-unique    two runs that read the same bytes hand the same bytes to the write
-- A turn's promise does not settle how many records it takes: the lines are the same for any number.
use Prim.Native.Nat.{ℕ, ◌<◌}
use mathlib.Core.Path.{◌≡◌, refl, ap, ◌∙◌, sym, subst}
use mathlib.Core.List.{List, [], ◌++◌, append-nil}
use lib.ListN.{length, take}
use Rattle.std.proofs.Common.{ControlFlow, Continue, Break}
use Rattle.machine.specs.After.{machine_at}
use Rattle.replay.specs.Replay.{replay}
use Rattle.window.specs.Window.{window_of}
use Rattle.player.specs.declared.Run.{Run}
use Rattle.player.specs.declared.Last.{Last}
use Rattle.player.specs.Stands.{replay_from, MayCome, Stands, StandsOn, ended_on, offset_end}
use Rattle.player.specs.Turns.{flushed, Turned, Printed}

-- what a run has printed and will print, where `more` is read yet
abbrev lines_at : List ℕ → ControlFlow Last Run → List ℕ → List ℕ → List ℕ → List ℕ → List ℕ → List ℕ → List ℕ → List ℕ → List ℕ
lines_at wrote (Continue r) m k t u l x y more =
    wrote ++ (take r.at y ++ replay_from r.offset (machine_at r.ctl m k t u l) (window_of r.window x ++ more))
lines_at wrote (Break e) m k t u l x y more = wrote ++ take e.end y

-- which is `replay` of all bytes read
lines-replay : (read wrote : List ℕ) (r : ControlFlow Last Run) (m k t u l x y : List ℕ) → StandsOn read wrote r m k t u l x y
    → (more : List ℕ) → MayCome (ended_on r) more → replay (read ++ more) ≡ lines_at wrote r m k t u l x y more
lines-replay read wrote (Continue r) m k t u l x y h more may = h.lines more may
lines-replay read wrote (Break e) m k t u l x y h more may = h more may

pub turned-unique : (s : Run) (m k t u l x y : List ℕ) (r : ControlFlow Last Run) (m1 k1 t1 u1 l1 x1 y1 : List ℕ)
    (q : ControlFlow Last Run) (m2 k2 t2 u2 l2 x2 y2 : List ℕ)
    (a : Turned s m k t u l x y r m1 k1 t1 u1 l1 x1 y1) (b : Turned s m k t u l x y q m2 k2 t2 u2 l2 x2 y2) → a.filled.got
    ≡ b.filled.got
    → (read wrote : List ℕ) → length (read ++ a.filled.got) < offset_end → Stands read wrote s m k t u l x y
    → (more : List ℕ) → MayCome (ended_on r) more → MayCome (ended_on q) more
    → lines_at (wrote ++ flushed s.at y) r m1 k1 t1 u1 l1 x1 y1 more ≡ lines_at (wrote ++ flushed s.at y) q m2 k2 t2 u2 l2 x2 y2 more
turned-unique s m k t u l x y r m1 k1 t1 u1 l1 x1 y1 q m2 k2 t2 u2 l2 x2 y2 a b e read wrote n f more p v =
    let n2 = subst (λ (g : List ℕ). length (read ++ g) < offset_end) e n in
    sym (lines-replay (read ++ a.filled.got) (wrote ++ flushed s.at y) r m1 k1 t1 u1 l1 x1 y1 (a.stands read wrote n f).0 more p)
    ∙ ap (λ (g : List ℕ). replay ((read ++ g) ++ more)) e
    ∙ lines-replay (read ++ b.filled.got) (wrote ++ flushed s.at y) q m2 k2 t2 u2 l2 x2 y2 (b.stands read wrote n2 f).0 more v

pub printed-replay : (first : List ℕ) (r : Last) (y : List ℕ) (a : Printed first r y) → length (first ++ a.got) < offset_end
    → a.put ++ take r.end y ≡ replay (first ++ a.got)
printed-replay first r y a n = sym (a.whole n [] (λ _. refl)) ∙ ap replay (append-nil (first ++ a.got))

pub printed-unique : (first : List ℕ) (r q : Last) (y z : List ℕ) (a : Printed first r y) (b : Printed first q z) → a.got ≡ b.got
    → length (first ++ a.got) < offset_end → a.put ++ take r.end y ≡ b.put ++ take q.end z
printed-unique first r q y z a b e n =
    let n2 = subst (λ (g : List ℕ). length (first ++ g) < offset_end) e n in
    printed-replay first r y a n ∙ ap (λ (g : List ℕ). replay (first ++ g)) e ∙ sym (printed-replay first q z b n2)
