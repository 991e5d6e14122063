-- A guest's store into descriptor memory, over a machine whose book has just been released: a word not in use, or an append to the
-- last descriptor of any queue. Assumes nothing.
--     restored m u s           the machine with other memory, words in use and lengths
--     store-calm               a word that is not in use is stored
--     judged-todo, judged-room a chain that was judged is still to be fetched, in blocks that permit it
--     longer, taken-sole, taken-recorded, taken-lengths   the queues with such a chain behind one of them, and what the hand-over makes of
--                                                         it
--     append-calm              it is appended to the last descriptor of a queue
--     append-last              where the guard takes it for the last
use Prim.Native.Nat.{ℕ, ◌+◌, ◌<◌, ◌^◌}
use mathlib.Core.Path.{◌≡◌, ap, ◌∙◌, sym}
use mathlib.Core.Bool.{true, false}
use mathlib.Core.List.{List, [], ◌∷◌, ◌++◌, append_assoc}
use mathlib.Core.Logic.{◌≢◌}
use native.Mathlib.Omega.{arith}
use lib.ListN.{length, get_or, set, length-set}
use Rattle.layout.specs.Layout.{queues, side_of, channel_of}
use Rattle.layout.specs.declared.Side.{Side}
use Rattle.layout.specs.declared.Side.TheVariants.{Transmit, Receive}
use Rattle.words.specs.Word.{word, put}
use Rattle.words.specs.WordSet.{has}
use Rattle.registers.specs.Table.{head_of}
use Rattle.chain.specs.Chain.{place_of}
use Rattle.book.specs.HandOver.{Uses, recorded_length, taken_from}
use Rattle.guard.specs.Judges.{judge_chain, is_last}
use Rattle.queue.proofs.Queue.{start, All, Linked, Sole, Recorded, flat, receiving}
use Rattle.queue.proofs.LinkLaws.{all_join, all_map, linked-same}
use Rattle.queue.proofs.SoleLaws.{count-append, sole-perm, sole-apart}
use Rattle.queue.proofs.StoreLaws.{Same, Same3, sames-three, same-nexts}
use Rattle.queue.proofs.RecordLaws.{None, apart_none}
use Rattle.queue.proofs.FreshLaws.{side-place}
use Rattle.queue.proofs.JudgedLaws.{Judged, judged-list, Taken, judged-taken}
use Rattle.queue.proofs.LastLaws.{last-yes}
use Rattle.queue.proofs.GrowLaws.{store-free, Appended, appended}
use Rattle.queue.proofs.RoomyLaws.{room-recorded}
use Rattle.queue.proofs.NumberLaws.{part-all, each, queue_at, without, count_at, sole-at, part_of}
use Rattle.queue.proofs.SetLaws.{queue-set-same, queue-set-other, sole-set, recorded-set}
use Rattle.machine.specs.Machine.{Machine}
use Rattle.safety.proofs.Inv.{phase_of, Serves, Todo, RoomIn, post_of, words_of}
use Rattle.safety.proofs.Frame.{SameLength, lengths-same}
use Rattle.safety.proofs.Grow.{start-more}
use Rattle.safety.proofs.Marks.{put-fits}
use Rattle.safety.proofs.Serve.{serves-new, room-new, todo-new, serves_more}
use Rattle.safety.proofs.Calm.{Calm, book_of}

abbrev pub restored : List ℕ → Uses → Machine → Machine
restored m u s = record { ctl = s.ctl; mem = m; kinds = s.kinds; state = s.state; used = u.0; lens = u.1 }

-- ---- a word that is not in use

pub store-calm : (s : Machine) → Calm s → (k x : ℕ) → x < 2 ^ 32 → has s.used k ≡ false
    → Calm (restored (put s.mem k x) (s.used, s.lens) s)
store-calm s c k x b f = record {
  qs = c.qs;
  sized = record { book = c.sized.book; ctl = c.sized.ctl; stages = c.sized.stages; channels = c.sized.channels };
  defined = c.defined;
  held = record {
    fit = put-fits s.mem k x b c.held.fit;
    kinds = c.held.kinds;
    many = c.held.many;
    heads = c.held.heads;
    linked = λ q. linked-same (words_of s) v (queue_at c.qs q) (same-nexts (words_of s) v (queue_at c.qs q) (same q)) (c.held.linked q);
    sole = c.held.sole;
    recorded = c.held.recorded;
  };
  marks = c.marks;
  tearings = c.tearings;
  resets = c.resets;
  bits = c.bits;
  ready = c.ready;
  duty = c.duty;
  engine = λ q l. serves-new s.kinds s.lens s.lens (words_of s) v (queue_at c.qs q) (three q)
      (lengths-same s.lens (queue_at c.qs q)) (post_of s q).hdp (post_of s q).stage (phase_of s.ctl q) (c.engine q l);
  room = λ q l. room-new s.kinds s.lens s.lens (words_of s) v (queue_at c.qs q) (three q)
      (lengths-same s.lens (queue_at c.qs q)) (side_of q) (c.room q l);
}
  where
    v : ℕ → ℕ
    v = word (put s.mem k x)

    same : (q : ℕ) → All (Same (words_of s) (word (put s.mem k x))) (queue_at c.qs q)
    same q = part-all (Same (words_of s) (word (put s.mem k x))) q c.qs (store-free s.mem k x (flat c.qs) c.held.sole f)

    three : (q : ℕ) → All (Same3 (words_of s) (word (put s.mem k x))) (queue_at c.qs q)
    three q = sames-three (words_of s) (word (put s.mem k x)) (queue_at c.qs q) (same q)

-- ---- a chain that was judged

pub judged-todo : (side : Side) (K : List ℕ) (w : ℕ → ℕ) (met : List ℕ) (p : ℕ) (out lens : List ℕ)
    (j : Judged K w (place_of side) met p out)
    → All (λ d. get_or lens d 0 ≡ recorded_length side (w (d + 2))) j.ds → Todo side K lens w j.ds
judged-todo Transmit K w met p out lens j l = record { fresh = j.fresh; room = j.roomy }
judged-todo Receive K w met p out lens j l = record { fresh = j.fresh; long = all_map _ _ (λ d e. sym e) j.ds l }

pub judged-room : (side : Side) (K : List ℕ) (w : ℕ → ℕ) (met : List ℕ) (p : ℕ) (out lens : List ℕ)
    (j : Judged K w (place_of side) met p out)
    → All (λ d. get_or lens d 0 ≡ recorded_length side (w (d + 2))) j.ds → RoomIn side K lens w j.ds
judged-room Transmit K w met p out lens j l = tt
judged-room Receive K w met p out lens j l = room-recorded K lens w j.ds j.roomy l

room-join : (side : Side) (K lens : List ℕ) (w : ℕ → ℕ) (L es : List ℕ) → RoomIn side K lens w L → RoomIn side K lens w es
    → RoomIn side K lens w (L ++ es)
room-join Transmit K lens w L es a b = tt
room-join Receive K lens w L es a b = all_join _ L es a b

-- the queues with es behind the one of number q
abbrev pub longer : ℕ → List ℕ → List (List ℕ) → List (List ℕ)
longer q es qs = set qs q (queue_at qs q ++ es)

-- p is where the chain begins
module _ (s : Machine) (c : Calm s) (q : ℕ) (l : q < queues) (p : ℕ) (out : List ℕ)
    (j : Judged s.kinds (words_of s) (place_of (side_of q)) s.used p out) where
  abbrev w : ℕ → ℕ
  w = words_of s

  abbrev qs : List (List ℕ)
  qs = c.qs

  abbrev pub handed : Uses
  handed = taken_from (words_of s) (side_of q) (s.used, s.lens) p

  taken : Taken w (side_of q) (s.used, s.lens) handed qs j.ds
  taken = rw (side-place (side_of q)) at
      (judged-taken s.kinds w (place_of (side_of q)) (s.used, s.lens) p out qs j c.held.sole c.held.recorded)

  there : q < length qs
  there = omega (arith, c.held.many)

  pub taken-sole : Sole handed.0 (flat (longer q j.ds c.qs))
  taken-sole = sole-set qs q j.ds there taken.sole

  pub taken-recorded : Recorded handed.1 (receiving (longer q j.ds c.qs))
  taken-recorded = recorded-set qs q j.ds there taken.recorded

  pub taken-many : length (longer q j.ds c.qs) ≡ queues
  taken-many = length-set qs q _ ∙ c.held.many

  pub queue-here : queue_at (longer q j.ds c.qs) q ≡ queue_at c.qs q ++ j.ds
  queue-here = queue-set-same qs q _ there

  pub taken-lengths : (i : ℕ) → All (SameLength s.lens handed.1) (queue_at c.qs i)
  taken-lengths i =
      part-all (SameLength s.lens handed.1) i qs
      (all_map (λ d. None d j.ds) _ taken.others (flat qs) (apart_none j.ds (flat qs) (sole-apart taken.sole)))

  pub taken-todo : Todo (side_of q) s.kinds handed.1 (words_of s) j.ds
  taken-todo = judged-todo (side_of q) s.kinds w s.used p out handed.1 j taken.lengths

  pub taken-room : RoomIn (side_of q) s.kinds handed.1 (words_of s) j.ds
  taken-room = judged-room (side_of q) s.kinds w s.used p out handed.1 j taken.lengths

  -- ---- an append to the queue's last descriptor, at word k

  module _ (cs : List ℕ) (k : ℕ) (last : queue_at c.qs q ≡ cs ++ k ∷ []) where
    abbrev v : ℕ → ℕ
    v = word (put s.mem k p)

    abbrev new : List (List ℕ)
    new = longer q j.ds qs

    -- the words of the chain, of the queue and of all others
    apart : Sole handed.0 (j.ds ++ ((cs ++ k ∷ []) ++ flat (without q qs)))
    apart = rw (← last) (sole-perm (λ i. let a = count_at q qs i in let b = count-append (queue_at qs q) (flat (without q qs)) i in
        simp count-append (omega arith)) taken.sole)

    grows : Appended w v cs k j.ds (flat (without q qs))
    grows = rw j.begins
        (appended s.mem cs k j.ds (flat (without q qs)) c.held.fit.size (rw last at (c.held.linked q)) j.linked
        (sole-apart apart))

    -- the other queues, and this one
    others : (i : ℕ) → i ≢ q → All (Same w v) (queue_at qs i)
    others i n = part_of (Same w v) q i qs n grows.others

    old : (i : ℕ) → All (Same3 w v) (queue_at qs i)
    old i = each (λ i. All (Same3 w v) (queue_at qs i)) q (rw last grows.old) (λ i n. sames-three w v (queue_at qs i) (others i n)) i

    not-nil : queue_at qs q ≢ []
    not-nil e = no cs (sym last ∙ e)
      where
        no : (xs : List ℕ) → xs ++ k ∷ [] ≡ [] → ⊥
        no [] z = let y : ◌≡◌ {A = ℕ} 0 1 = cc in omega arith
        no (x ∷ xs) z = let y : ◌≡◌ {A = ℕ} 0 1 = cc in omega arith

    three : All (Same3 w v) j.ds
    three = sames-three w v j.ds grows.new

    all-lengths : All (SameLength handed.1 handed.1) j.ds
    all-lengths = lengths-same handed.1 j.ds

    served : (i : ℕ) → i < queues
        → Serves s.kinds handed.1 v (queue_at qs i) (post_of s i).hdp (post_of s i).stage (phase_of s.ctl i)
    served i h = serves-new s.kinds s.lens handed.1 w v (queue_at qs i) (old i) (taken-lengths i) (post_of s i).hdp
        (post_of s i).stage (phase_of s.ctl i) (c.engine i h)

    roomy : (i : ℕ) → i < queues → RoomIn (side_of i) s.kinds handed.1 v (queue_at qs i)
    roomy i h = room-new s.kinds s.lens handed.1 w v (queue_at qs i) (old i) (taken-lengths i) (side_of i) (c.room i h)

    pub append-calm : p < 2 ^ 32 → Calm (restored (put s.mem k p) handed s)
    append-calm small = record {
      qs = new;
      sized = record { book = c.sized.book; ctl = c.sized.ctl; stages = c.sized.stages; channels = c.sized.channels };
      defined = c.defined;
      held = record {
        fit = put-fits s.mem k p small c.held.fit;
        kinds = c.held.kinds;
        many = taken-many;
        heads = each (λ i. i < queues → head_of s.state i ≡ start (queue_at new i)) q
            (λ h. c.held.heads q h ∙ sym (ap start queue-here ∙ start-more (queue_at qs q) j.ds not-nil))
            (λ i n h. c.held.heads i h ∙ sym (ap start (queue-set-other qs q _ i n)));
        linked = each (λ i. Linked v (queue_at new i)) q
            (rw (queue-here, last, append_assoc cs (k ∷ []) j.ds) grows.linked)
            (λ i n. rw (queue-set-other qs q (queue_at qs q ++ j.ds) i n)
            (linked-same w v (queue_at qs i) (same-nexts w v (queue_at qs i) (others i n)) (c.held.linked i)));
        sole = taken-sole;
        recorded = taken-recorded;
      };
      marks = c.marks;
      tearings = c.tearings;
      resets = c.resets;
      bits = c.bits;
      ready = c.ready;
      duty = c.duty;
      engine = each (λ i. i < queues
          → Serves s.kinds handed.1 v (queue_at new i) (post_of s i).hdp (post_of s i).stage (phase_of s.ctl i)) q
          (λ h. rw queue-here
          (serves_more (side_of q) s.ctl (channel_of q) s.kinds handed.1 v (queue_at qs q) j.ds (post_of s q).hdp
          (post_of s q).stage not-nil
          (todo-new s.kinds handed.1 handed.1 w v j.ds three all-lengths (side_of q) taken-todo) (served q h)))
          (λ i n h. rw (queue-set-other qs q (queue_at qs q ++ j.ds) i n) (served i h));
      room = each (λ i. i < queues → RoomIn (side_of i) s.kinds handed.1 v (queue_at new i)) q
          (λ h. rw queue-here
          (room-join (side_of q) s.kinds handed.1 v (queue_at qs q) j.ds (roomy q h)
          (room-new s.kinds handed.1 handed.1 w v j.ds three all-lengths (side_of q) taken-room)))
          (λ i n h. rw (queue-set-other qs q (queue_at qs q ++ j.ds) i n) (roomy i h));
    }

-- the guard found word k to be word 0 of the queue's last descriptor, and no fault in the chain
pub append-last : (s : Machine) (c : Calm s) (q : ℕ) → q < queues → (k p : ℕ) → p < 2 ^ 32
    → is_last (words_of s) (head_of s.state q) k ≡ true
    → (judge_chain (side_of q) p (book_of s)).0 ≡ 0
    → Calm (restored (put s.mem k p) (taken_from (words_of s) (side_of q) (s.used, s.lens) p) s)
append-last s c q l k p small e z =
    at (last-yes (words_of s) (queue_at c.qs q) (flat (without q c.qs)) k (c.held.linked q) (sole-at q c.qs c.held.sole)
    (rw (c.held.heads q l) at e))
  where
    at : (cs : List ℕ) × (queue_at c.qs q ≡ cs ++ k ∷ [])
        → Calm (restored (put s.mem k p) (taken_from (words_of s) (side_of q) (s.used, s.lens) p) s)
    at x = append-calm s c q l p _ (judged-list s.kinds (words_of s) (place_of (side_of q)) s.used p z) x.0 k x.1 small
