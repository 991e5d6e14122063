-- What the reader lost and what the writer got, through the parts of a run. Assumes nothing.
--     both_ok                  two promises of one answer
--     turns-on-none, turns-on-more, turns-on-last, turns-on-all   turns one after another
--     printed-on-all           the whole input, behind its first record
--     written                  what the writer got in all is `replay` of what the reader had
use Prim.Native.Nat.{ℕ, ◌+◌, ◌≤◌, ◌<◌}
use mathlib.Core.Path.{◌≡◌, refl, ap, ◌∙◌, sym, subst}
use mathlib.Core.Bool.{Bool, true, false}
use mathlib.Core.List.{List, [], ◌++◌, append_assoc, append-nil}
use native.Mathlib.Omega.{arith}
use lib.ListN.{length, take, drop, length-append}
use Rattle.std.specs.Prelude.{Option, Some, None, IfSome, IfOk}
use Rattle.std.proofs.Common.{Result, Ok, Err, Continue, Break}
use Rattle.std.specs.Io.KnownBytes.{Consumes, Appends}
use Rattle.std.proofs.KnownBytes.{Consumes-nil, Consumes-trans, Appends-nil, Appends-trans}
use Rattle.layout.specs.Choice.{pick}
use Rattle.records.specs.declared.Record.TheVariants.{Ram}
use Rattle.records.specs.Records.{decode}
use Rattle.replay.specs.Replay.{replay}
use Rattle.window.specs.declared.Window.{Window}
use Rattle.window.specs.Window.{window_of, EndsRight}
use Rattle.player.specs.declared.Run.{Run}
use Rattle.player.specs.declared.Last.{Last}
use Rattle.player.specs.Stands.{Enough, Holds, offset_end}
use Rattle.player.specs.Turns.{Fresh, flushed}
use Rattle.player.specs.Streams.{TurnedOn, ReachedOn, EndedOn, PrintedOn}
use Rattle.player.proofs.StandLaws.{reached-none, reached-more, ended-more, no-end, ended-none}
use Rattle.player.proofs.FirstLaws.{Begun, begun-stands, printed-all}

pub both_ok : {T E : Type 0} (r : Result T E) (P Q R : T → Type 0) → ((x : T) → P x → Q x → R x) → IfOk r P → IfOk r Q → IfOk r R
both_ok (Ok x) P Q R f p q = f x p q
both_ok (Err e) P Q R f p q = tt

-- ---- turns one after another

module _ (left held : Option (List ℕ)) (s : Run) (m k t u l x y : List ℕ) where
  pub turns-on-none : (turns : ℕ) → offset_end ≤ turns + s.offset
      → ReachedOn left left held held turns s m k t u l x y s m k t u l x y
  turns-on-none turns h = record {
    reached = reached-none s m k t u l x y turns h;
    read = Consumes-nil left;
    right = λ e. e;
    wrote = Appends-nil held;
  }

  module _ (left1 held1 : Option (List ℕ)) (turns : ℕ) (r : Run) (m1 k1 t1 u1 l1 x1 y1 : List ℕ)
      (a : ReachedOn left left1 held held1 turns s m k t u l x y r m1 k1 t1 u1 l1 x1 y1) (left2 held2 : Option (List ℕ)) where
    pub turns-on-more : (some : ℕ) (q : Run) (m2 k2 t2 u2 l2 x2 y2 : List ℕ) → some + 1 ≡ turns
        → TurnedOn left1 left2 held1 held2 r m1 k1 t1 u1 l1 x1 y1 (Continue q) m2 k2 t2 u2 l2 x2 y2
        → ReachedOn left left2 held held2 some s m k t u l x y q m2 k2 t2 u2 l2 x2 y2
    turns-on-more some q m2 k2 t2 u2 l2 x2 y2 is b = record {
      reached = reached-more s m k t u l x y turns r m1 k1 t1 u1 l1 x1 y1 a.reached some q m2 k2 t2 u2 l2 x2 y2 is b.turned;
      read = Consumes-trans left left1 left2 a.reached.got b.turned.filled.got a.read b.read;
      right = λ e. b.right (a.right e);
      wrote = Appends-trans held held1 held2 a.reached.put (flushed r.at y1) a.wrote
          (subst (λ (z : List ℕ). Appends held1 held2 z) (append-nil (flushed r.at y1)) b.wrote);
    }

    pub turns-on-last : (e : Last) (m2 k2 t2 u2 l2 x2 y2 : List ℕ)
        → TurnedOn left1 left2 held1 held2 r m1 k1 t1 u1 l1 x1 y1 (Break e) m2 k2 t2 u2 l2 x2 y2
        → EndedOn left left2 held held2 s m k t u l x y e y2
    turns-on-last e m2 k2 t2 u2 l2 x2 y2 b = record {
      ended = ended-more s m k t u l x y turns r m1 k1 t1 u1 l1 x1 y1 a.reached e m2 k2 t2 u2 l2 x2 y2 b.turned;
      read = Consumes-trans left left1 left2 a.reached.got b.turned.filled.got a.read b.read;
      right = λ e. b.right (a.right e);
      last = true;
      wrote = subst (λ (z : List ℕ). Appends held held2 z) (sym (append_assoc a.reached.put (flushed r.at y1) (take e.end y2)))
          (Appends-trans held held1 held2 a.reached.put (flushed r.at y1 ++ take e.end y2) a.wrote b.wrote);
      over = λ read wrote n f. refl;
    }

  -- no turn is left
  pub turns-on-all : (left1 held1 : Option (List ℕ)) (turns : ℕ) (r : Run) (m1 k1 t1 u1 l1 x1 y1 : List ℕ)
      → ReachedOn left left1 held held1 turns s m k t u l x y r m1 k1 t1 u1 l1 x1 y1 → turns ≤ 0 → Holds r x1 y1
      → EndedOn left left1 held held1 s m k t u l x y (record { end = r.at; ended = r.window.ended }) y1
  turns-on-all left1 held1 turns r m1 k1 t1 u1 l1 x1 y1 a h hold = record {
    ended = ended-none s m k t u l x y r m1 k1 t1 u1 l1 x1 y1 turns a.reached h hold;
    read = a.read;
    right = a.right;
    last = false;
    wrote = subst (λ (z : List ℕ). Appends held held1 z) (sym (append-nil a.reached.put)) a.wrote;
    over = λ read wrote n f. absurd (omega (arith, no-end s m k t u l x y r m1 k1 t1 u1 l1 x1 y1 turns a.reached h read wrote n f));
  }

-- ---- the whole input

module _ (w : Window) (x : List ℕ) (h : Enough (window_of w x) w.ended) (n : ℕ)
    (d : decode true (window_of w x) ≡ Ok (Some (Ram n, 4 + n))) (g : 4 + n ≤ length (window_of w x)) (s : Run) (b : Begun w n s)
    (m k t u l y : List ℕ) (fresh : Fresh m t u l) (kinds : k ≡ take n (drop 4 (window_of w x))) where
  pub printed-on-all : (left left1 held held1 : Option (List ℕ)) (e : Last) (y1 : List ℕ)
      → EndedOn left left1 held held1 s m k t u l x y e y1 → PrintedOn left left1 held held1 w.ended (window_of w x) e y1
  printed-on-all left left1 held held1 e y1 a = record {
    printed = printed-all w x h n d g s b m k t u l y fresh kinds e y1 a.ended;
    read = a.read;
    right = λ z. a.right (λ e. z (sym b.window.ended ∙ e));
    wrote = λ few.
        let over = a.over (window_of w x) [] few (begun-stands w x h n d g s b m k t u l y fresh kinds) in
        subst (λ (z : Bool). Appends held held1 (a.ended.put ++ pick z (take e.end y1) [])) over a.wrote;
  }

-- the reader had bs, and has `rest` left: `first` was read, and then what is printed behind it
written-at : (left1 held held1 : Option (List ℕ)) (ended : Bool) (first bs rest y : List ℕ) (r : Last)
    (p : PrintedOn left1 (Some rest) held held1 ended first r y) → EndsRight ended left1 → bs ≡ (first ++ p.printed.got) ++ rest
    → length bs < offset_end → Appends held held1 (replay bs)
written-at left1 held held1 ended first bs rest y r p h e few =
    let read = first ++ p.printed.got in
    let n : length read < offset_end = omega (arith, few, ap length e, length-append read rest) in
    let whole : replay bs ≡ p.printed.put ++ take r.end y = ap replay e ∙ p.printed.whole n rest (p.right h) in
    subst (λ (z : List ℕ). Appends held held1 z) (sym whole) (p.wrote n)

pub written : (left left1 left2 held held1 : Option (List ℕ)) (ended : Bool) (first y : List ℕ) (r : Last)
    → Consumes left left1 first → EndsRight ended left1 → PrintedOn left1 left2 held held1 ended first r y
    → IfSome left (λ bs. length bs < offset_end → Appends held held1 (replay bs))
written None left1 left2 held held1 ended first y r c h p = tt
written (Some bs) left1 None held held1 ended first y r c h p =
    absurd (Consumes-trans (Some bs) left1 None first p.printed.got c p.read)
written (Some bs) left1 (Some rest) held held1 ended first y r c h p =
    written-at left1 held held1 ended first bs rest y r p h
    (Consumes-trans (Some bs) left1 (Some rest) first p.printed.got c p.read)
