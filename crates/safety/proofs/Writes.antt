-- A guest's write that the guard accepts, over a machine whose book has just been released: what the judge leaves and what the
-- controller makes of it, together. Here the words of descriptor memory; registers follow in RegisterWrites. Assumes nothing.
--     Fair s x                 what is asked of a whole write's result
--     Passes a v s o           it is so where the outcome o is acceptance
--     passes-refuse, passes-accept, passes-pick, passes-fault   along the judges' choices
--     fair-refused             and where it is refusal, nothing has changed
--     word-passes              a word of descriptor memory
use Prim.Native.Nat.{ℕ, ◌-◌, ◌/◌, ◌%◌, ◌<◌, ◌^◌}
use mathlib.Core.Path.{◌≡◌, refl, ap, ◌∙◌}
use mathlib.Core.Bool.{Bool, true, false, not}
use mathlib.Core.List.{List}
use mathlib.Core.Logic.{◌≢◌}
use native.Mathlib.Omega.{arith}
use lib.ListN.{length, get_or, length-take}
use lib.Dec.{eqb}
use borrow.Author.Tests.{eq-eqb, ne_eqb}
use Rattle.std.specs.Prelude.{Option, Some, None}
use Rattle.layout.specs.Choice.{pick, both}
use Rattle.layout.specs.Layout.{desc_first, in_descriptors, queues, side_of, channel_of}
use Rattle.words.specs.Word.{put}
use Rattle.words.specs.WordSet.{has}
use Rattle.words.proofs.WordLaws.{length-put, put-put-same}
use Rattle.registers.specs.Table.{heads_of}
use Rattle.registers.proofs.TableLaws.{get_or-heads_of}
use Rattle.book.specs.HandOver.{taken_from}
use Rattle.book.specs.World.{World, set_mem, set_uses}
use Rattle.queue.proofs.LastLaws.{tail-yes}
use Rattle.guard.specs.declared.Effect.{Effect}
use Rattle.guard.specs.declared.Effect.TheVariants.{Plain, Appended}
use Rattle.guard.specs.Answers.{Outcome, number_of, accept, refuse}
use Rattle.guard.specs.Judges.{judge_chain, is_last, tail_in, judge_append, at_tail, judge_last, judge_word}
use Rattle.controller.specs.Controller.{StepDone, answer, unguarded_write}
use Rattle.machine.specs.Machine.{Machine, Happened, with_world, with_ctl, carried_out}
use Rattle.safety.specs.Statement.{InPlace}
use Rattle.safety.proofs.Inv.{words_of, Inv}
use Rattle.safety.proofs.Calm.{Calm, book_of, calm-inv}
use Rattle.safety.proofs.Refusals.{Refusal, refuses-not}
use Rattle.safety.proofs.Allowed.{write-memory, fault-holds}
use Rattle.safety.proofs.Stores.{store-calm, append-last}

pub record Fair (s : Machine) (x : Happened) : Type 0 where
  pub inv : Inv x.machine
  pub answered : number_of x.answer ≢ 22
  pub in_place : InPlace s.kinds x.burst

abbrev pub Passes : ℕ → ℕ → Machine → Outcome → Type 0
Passes a v s o = number_of o.answer ≡ 0 → Fair s (carried_out a v o s)

-- ---- along the judges' choices

module _ (a v : ℕ) (s : Machine) where
  pub passes-refuse : (n : ℕ) (t : World) → n ≢ 0 → Passes a v s (refuse n t)
  passes-refuse n t h e = absurd (h e)

  pub passes-pick : (b : Bool) (x y : Outcome) → (b ≡ true → Passes a v s x) → (b ≡ false → Passes a v s y) → Passes a v s (pick b x y)
  passes-pick true x y f g = f refl
  passes-pick false x y f g = g refl

  -- a rule that gives a number
  pub passes-fault : (n : ℕ) (x : Outcome) (t : World) → (n ≡ 0 → Passes a v s x) → Passes a v s (pick (eqb n 0) x (refuse n t))
  passes-fault n x t f = fault-holds (Passes a v s) n x (refuse n t) f (λ h. passes-refuse n t h)

  -- x is what the controller makes of it
  pub passes-accept : (e : Effect) (t : World) (x : StepDone) → unguarded_write a v s.ctl t.mem ≡ x → x.number ≡ 0
      → Inv (with_ctl x.ctl x.mem (with_world t s)) → Passes a v s (accept e t)
  passes-accept e t x q z i n = rw (q, eq-eqb x.number 0 z) (record { inv = i; answered = omega arith; in_place = tt })

pub fair-refused : (a v : ℕ) (s : Machine) → Calm s → (o : Outcome) → Refusal (book_of s) o → Fair s (carried_out a v o s)
fair-refused a v s c o r =
    rw (r.is, ne_eqb r.number 0 (refuses-not r.number 0 r.told refl))
    (record { inv = calm-inv s c; answered = refuses-not r.number 22 r.told refl; in_place = tt })

-- ---- a word of descriptor memory

module _ (a v : ℕ) (small : v < 2 ^ 32) (s : Machine) (c : Calm s) (whole : eqb (a % 4) 0 ≡ true) (there : in_descriptors a ≡ true) where
  -- the word at that address
  abbrev k : ℕ
  k = (a - desc_first) / 4

  -- the controller stores the same word once more
  stored-twice : unguarded_write a v s.ctl (put s.mem k v) ≡ answer 0 s.ctl (put s.mem k v)
  stored-twice =
      write-memory a v s.ctl (put s.mem k v) (length-put s.mem k v ∙ c.held.fit.size) c.defined whole there
      ∙ ap (λ (m : List ℕ). answer 0 s.ctl m) (put-put-same s.mem k v v)

  append-passes : (q : ℕ) → q < length (heads_of s.state) → is_last (words_of s) (get_or (heads_of s.state) q 0) k ≡ true
      → Passes a v s (judge_append q k v (book_of s))
  unfolding judge_append
  append-passes q h e =
      let l : q < queues = omega (arith, length-take queues s.state) in
      passes-fault a v s (judge_chain (side_of q) v (book_of s)).0 _ _
      (λ z. passes-accept a v s (Appended (side_of q) (channel_of q))
      (set_mem (put s.mem k v) (set_uses (taken_from (words_of s) (side_of q) (s.used, s.lens) v) (book_of s)))
      (answer 0 s.ctl (put s.mem k v)) stored-twice refl
      (calm-inv _ (append-last s c q l k v small (rw (get_or-heads_of s.state q l) at e) z)))

  -- word 0 of the last descriptor of some queue, or of none
  last-passes : Passes a v s (judge_last k v (book_of s))
  unfolding judge_last
  last-passes = at (tail_in (words_of s) k 0 (heads_of s.state)) refl
    where
      at : (t : Option ℕ) → tail_in (words_of s) k 0 (heads_of s.state) ≡ t
          → Passes a v s (at_tail t (λ q. judge_append q k v (book_of s)) (refuse 11 (book_of s)))
      at None e = passes-refuse a v s 11 (book_of s) (omega arith)
      at (Some q) e = let f = tail-yes (words_of s) k (heads_of s.state) q e in append-passes q f.0 f.1

  pub word-passes : Passes a v s (judge_word k v (book_of s))
  unfolding judge_word
  word-passes =
      passes-pick a v s (has s.used k) _ _
      (λ e. passes-pick a v s (both (eqb (words_of s k) 0) (not (eqb v 0))) _ _ (λ f. last-passes)
      (λ f. passes-refuse a v s 11 (book_of s) (omega arith)))
      (λ e. passes-accept a v s Plain (set_mem (put s.mem k v) (book_of s)) (answer 0 s.ctl (put s.mem k v)) stored-twice refl
      (calm-inv _ (store-calm s c k v small e)))
