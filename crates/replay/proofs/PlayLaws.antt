-- The parts put together: what an operation left, and the line that was printed for it. Assumes nothing.
--     write-plays, kind-plays, frame-plays, step-goes   what happened in one operation, and its line
--     made_none, goes_none, goes-more   none are made where all are left; no step; one more behind those made
--     ram-plays, steps-plays      a `Ram` record, a `Steps` record
--     steps-goes                  a `Steps` record, whatever kinds, small state, words in use and lengths
--     record-plays                the record that was met
--     line-end                    how far a line reaches
use Prim.Native.Nat.{ℕ, zero, suc, ◌+◌, ◌-◌, ◌≤◌}
use mathlib.Core.Path.{◌≡◌, refl, ap, ◌∙◌, sym, subst}
use mathlib.Core.List.{List, [], ◌∷◌, ◌++◌}
use native.Mathlib.Nat.{add-zero}
use native.Mathlib.Omega.{arith}
use lib.ListN.{length}
use Rattle.std.proofs.Common.{append_assoc, append-nil}
use Rattle.guard.specs.Answers.{number_of}
use Rattle.phases.specs.declared.Burst.{Burst}
use Rattle.phases.specs.declared.Engine.{Engine}
use Rattle.controller.specs.declared.Controller.{Controller}
use Rattle.machine.specs.declared.After.{After}
use Rattle.machine.specs.Machine.{Machine, Happened, step, apply, apply_write, apply_kind, apply_frame, apply_step}
use Rattle.machine.specs.After.{machine_at, Leaves, Moves as Carries}
use Rattle.records.specs.declared.Record.{Record}
use Rattle.records.specs.declared.Record.TheVariants.{Ram, Write, Kind, Frame, Steps}
use Rattle.records.specs.declared.Event.{Event}
use Rattle.records.specs.declared.Event.TheVariants.{Wrote, Changed, Framed, Moved}
use Rattle.records.specs.Lines.{line_of, lines_of, line_max, Prints}
use Rattle.records.proofs.PrintLaws.{prints-then}
use Rattle.replay.specs.declared.Played.{Played}
use Rattle.replay.specs.Replay.{steps_of, record_of}
use Rattle.replay.specs.Plays.{Plays, Goes}

-- ---- lines
lines-append : (es fs : List Event) → lines_of (es ++ fs) ≡ lines_of es ++ lines_of fs
lines-append [] fs = refl
lines-append (e ∷ es) fs =
    ap (λ (l : List ℕ). line_of e ++ l) (lines-append es fs) ∙ sym (append_assoc (line_of e) (lines_of es) (lines_of fs))

one_line : (e : Event) {x y : List ℕ} {i j : ℕ} → Prints x i (line_of e) y j → Prints x i (lines_of (e ∷ [])) y j
one_line e {x} {y} {i} {j} p = subst (λ (l : List ℕ). Prints x i l y j) (sym (append-nil (line_of e))) p

pub line-end : {x y : List ℕ} {i j : ℕ} {l : List ℕ} → Prints x i l y j → length l ≤ line_max → j ≤ i + line_max
line-end p h = omega (arith, p.ends, h)

-- ---- what happened in one operation, and its line
module _ {w : After} {m k t u l : List ℕ} {r : Played} {x : List ℕ} {at : ℕ} {y : List ℕ} (e : r.ctl ≡ w.ctl) where
  told : (h : Happened) (v v' : Event) → Leaves h w m k t u l → v ≡ v' → Prints x at (line_of v) y r.end
      → Plays (v' ∷ [], h.machine) r m k t u l x at y
  told h v v' p q s = record {
    ctl = e ∙ p.ctl;
    mem = p.mem;
    kinds = p.kinds;
    state = p.state;
    used = p.used;
    lens = p.lens;
    text = subst (λ (z : Event). Prints x at (lines_of (z ∷ [])) y r.end) q (one_line v s);
  }

  module _ (s : Machine) {n : ℕ} (i : n ≡ number_of w.answer) where
    pub write-plays : (a v : ℕ) → Leaves (apply_write a v s) w m k t u l → Prints x at (line_of (Wrote a n)) y r.end
        → Plays (record_of (Write a v) s) r m k t u l x at y
    unfolding record_of
    write-plays a v p q = told _ _ _ p (ap (λ (z : ℕ). Wrote a z) (i ∙ ap number_of p.answer)) q

    pub kind-plays : (d v : ℕ) → Leaves (apply_kind d v s) w m k t u l → Prints x at (line_of (Changed d n)) y r.end
        → Plays (record_of (Kind d v) s) r m k t u l x at y
    unfolding record_of
    kind-plays d v p q = told _ _ _ p (ap (λ (z : ℕ). Changed d z) (i ∙ ap number_of p.answer)) q

    pub frame-plays : (b : ℕ) → Leaves (apply_frame b s) w m k t u l → Prints x at (line_of (Framed b n)) y r.end
        → Plays (record_of (Frame b) s) r m k t u l x at y
    unfolding record_of
    frame-plays b p q = told _ _ _ p (ap (λ (z : ℕ). Framed b z) (i ∙ ap number_of p.answer)) q

pub step-goes : (e : Engine) (c : Controller) (m : List ℕ) (w : After) (m1 : List ℕ) (r : Played) (x : List ℕ) (at : ℕ) (y : List ℕ)
    → r.ctl ≡ w.ctl → Carries (apply_step e) c m w m1 → Prints x at (line_of (Moved w.burst)) y r.end
    → Goes (steps_of e 1) c m r m1 x at y
step-goes e c m w m1 r x at y f g q k t u l =
    let p = g k t u l in told f _ _ _ p (ap (λ (z : Burst). Moved z) p.burst) q

-- ---- steps one after another
pub made_none : (n : ℕ) → n - n ≡ 0
made_none n = omega arith

pub goes_none : (e : Engine) (c : Controller) (m x : List ℕ) (at : ℕ) → Goes (steps_of e 0) c m (record { ctl = c; end = at }) m x at x
goes_none e c m x at k t u l = record {
  ctl = refl;
  mem = refl;
  kinds = refl;
  state = refl;
  used = refl;
  lens = refl;
  text = record { ends = sym (add-zero at); bytes = refl };
}

steps-more : (e : Engine) (k : ℕ) (s : Machine)
    → steps_of e (suc k) s ≡ ((steps_of e k s).0 ++ (steps_of e 1 (steps_of e k s).1).0, (steps_of e 1 (steps_of e k s).1).1)
steps-more e zero s = refl
steps-more e (suc k) s =
    let x = apply (step e) s in
    ap (λ (v : List Event × Machine). (Moved x.burst ∷ v.0, v.1)) (steps-more e k x.machine)

module _ (p : List Event × Machine) (r : Played) (m k t u l x : List ℕ) (at : ℕ) (y : List ℕ) (g : Plays p r m k t u l x at y) where
  machine-is : machine_at r.ctl m k t u l ≡ p.1
  machine-is = λ i. machine_at (g.ctl i) (g.mem i) (g.kinds i) (g.state i) (g.used i) (g.lens i)

  plays-then : (q : List Event × Machine) (r2 : Played) (m2 z : List ℕ) → Plays q r2 m2 k t u l y r.end z
      → Plays (p.0 ++ q.0, q.1) r2 m2 k t u l x at z
  plays-then q r2 m2 z h = record {
    ctl = h.ctl;
    mem = h.mem;
    kinds = h.kinds;
    state = h.state;
    used = h.used;
    lens = h.lens;
    text = rw (lines-append p.0 q.0) (prints-then g.text h.text);
  }

pub goes-more : (e : Engine) (n j : ℕ) → j ≡ suc n → (c : Controller) (m : List ℕ) (r : Played) (m1 x : List ℕ) (at : ℕ) (y : List ℕ)
    (r2 : Played) (m2 z : List ℕ)
    → Goes (steps_of e n) c m r m1 x at y → Goes (steps_of e 1) r.ctl m1 r2 m2 y r.end z → Goes (steps_of e j) c m r2 m2 x at z
goes-more e n j h c m r m1 x at y r2 m2 z g f k t u l =
    let s = machine_at c m k t u l in
    let one = g k t u l in
    let is = machine-is (steps_of e n s) r m1 k t u l x at y one in
    let two = subst (λ (v : Machine). Plays (steps_of e 1 v) r2 m2 k t u l y r.end z) is (f k t u l) in
    subst (λ (v : List Event × Machine). Plays v r2 m2 k t u l x at z)
    (sym (ap (λ (i : ℕ). steps_of e i s) h ∙ steps-more e n s))
    (plays-then (steps_of e n s) r m1 k t u l x at y one (steps_of e 1 (steps_of e n s).1) r2 m2 z two)

-- ---- one record
pub ram-plays : (n : ℕ) (c : Controller) (m k t u l x : List ℕ) (at : ℕ)
    → Plays (record_of (Ram n) (machine_at c m k t u l)) (record { ctl = c; end = at }) m k t u l x at x
unfolding record_of
ram-plays n c m k t u l x at = record {
  ctl = refl;
  mem = refl;
  kinds = refl;
  state = refl;
  used = refl;
  lens = refl;
  text = record { ends = sym (add-zero at); bytes = refl };
}

pub steps-plays : (e : Engine) (n : ℕ) (s : Machine) {r : Played} {m k t u l x : List ℕ} {at : ℕ} {y : List ℕ}
    → Plays (steps_of e n s) r m k t u l x at y → Plays (record_of (Steps e n) s) r m k t u l x at y
unfolding record_of
steps-plays e n s p = p

pub steps-goes : (e : Engine) (n : ℕ) (c : Controller) (m : List ℕ) (r : Played) (m1 x : List ℕ) (at : ℕ) (y : List ℕ)
    → Goes (steps_of e n) c m r m1 x at y → Goes (record_of (Steps e n)) c m r m1 x at y
unfolding record_of
steps-goes e n c m r m1 x at y f k t u l = f k t u l

pub record-plays : (v w : Record) → v ≡ w → (s : Machine) (r : Played) (m k t u l x : List ℕ) (at : ℕ) (y : List ℕ)
    → Plays (record_of w s) r m k t u l x at y → Plays (record_of v s) r m k t u l x at y
record-plays v w e s r m k t u l x at y p = subst (λ (z : Record). Plays (record_of z s) r m k t u l x at y) (sym e) p
