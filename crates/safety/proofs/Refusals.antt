-- What a guard call that is refused leaves, whatever the world: "After 1, 2 .. nothing changes; .. after any other refusal of a
-- guard call only the release below has happened". What is said of it is in specs/Follows.antt. Assumes nothing.
--     refuses-not           a number that is not among them
--     Refusal s o           o refuses with such a number and leaves the world s as it is
--     Verdict s o           o refuses so, or accepts
--     judge-verdict, kind-verdict     every judge gives a verdict
--     release-kinds         the release touches no kind
--     refused-write, refused-kind     a refused call leaves the released world: for every world, after any number but 1 and 2
--     unchanged-write, unchanged-kind and after 1 and 2 nothing has changed at all
use Prim.Native.Nat.{ℕ, zero, suc, ◌+◌, ◌-◌, ◌/◌, ◌%◌, ◌≤◌}
use mathlib.Core.Path.{◌≡◌, refl, ap, ◌∙◌, sym}
use mathlib.Core.Bool.{Bool, true, false, not}
use mathlib.Core.List.{List, [], ◌∷◌}
use mathlib.Core.Logic.{◌⊎◌, inl, inr, ◌≢◌}
use native.Mathlib.Omega.{arith}
use lib.ListN.{length, get_or}
use lib.Dec.{eqb, ltb, leb}
use borrow.Author.Tests.{ltb-true, ltb-false}
use Rattle.std.specs.Prelude.{Option, Some, None}
use Rattle.layout.specs.Choice.{pick, both, or_else}
use Rattle.layout.specs.Run.{Next, go, stop, after, run_for, run}
use Rattle.layout.specs.Layout.{desc_first, address_end, good_ptr, word_of, in_descriptors, channels, queues, side_of}
use Rattle.layout.specs.Class.{class_at, hdp_class}
use Rattle.layout.specs.declared.Side.{Side}
use Rattle.layout.proofs.ChoiceLaws.{clash, pick-holds}
use Rattle.words.specs.Word.{word}
use Rattle.words.specs.WordSet.{has, free_at, free_count}
use Rattle.blocks.specs.Room.{room_of, is_free}
use Rattle.descriptor.specs.Fields.{sop, eop, owner, eoq, td, packet_length, length_of, first_byte}
use Rattle.descriptor.specs.Rules.{side_at, offset_bad, flags_fault, end_flags_fault, length_fault, end_fault, sum_at, sum_fault, behind}
use Rattle.descriptor.specs.Rules.{ends_at}
use Rattle.descriptor.specs.Rules.{next_fault}
use Rattle.descriptor.specs.declared.Place.{Place}
use Rattle.descriptor.specs.declared.Place.TheVariants.{Start, Middle, Buffer}
use Rattle.registers.specs.Table.{head_of, awaiting, heads_of, is_device}
use Rattle.registers.specs.Rules.{teardown_done, zeroing_fault, head_fault, ack_fault, teardown_fault, reset_fault, zero_fault, head_number}
use Rattle.registers.specs.Rules.{register_fault}
use Rattle.registers.proofs.TableLaws.{is_device-head}
use Rattle.chain.specs.Chain.{JSt, JOut, place_of, block_fault, desc_fault, judge_step, chain_of}
use Rattle.book.specs.declared.Mode.{Mode}
use Rattle.book.specs.HandOver.{Uses}
use Rattle.book.specs.Release.{released_from, released_all, release_mode, with_heads}
use Rattle.book.specs.World.{World, unfit, sound_world, release}
use Rattle.queue.proofs.StateLaws.{with_heads-other, flags-other, release-parts}
use Rattle.queue.proofs.CallLaws.{by_class-holds}
use Rattle.guard.specs.declared.Answer.TheVariants.{Accepted}
use Rattle.guard.specs.declared.Effect.{Effect}
use Rattle.guard.specs.Answers.{number_of, Outcome, accept, refuse}
use Rattle.guard.specs.Judges.{judge_chain, judge_start, judge_head, judge_register, tail_in, judge_append, at_tail, judge_last, judge_word}
use Rattle.guard.specs.Judges.{judge_class, judge}
use Rattle.guard.specs.Guard.{admitted, guest_write}
use Rattle.kinds.specs.Kinds.{in_reception, kind_number, judge_kind, kind_change}
use Rattle.safety.specs.Follows.{refusals, is_in, Refuses, Number, Untouched}

-- ---- the numbers

pub refuses-not : (n k : ℕ) → Refuses n → is_in k refusals ≡ false → n ≢ k
refuses-not n k r e z = clash r (ap (λ (x : ℕ). is_in x refusals) z ∙ e)

pub number-not : (n k : ℕ) → Number n → is_in k (0 ∷ refusals) ≡ false → n ≢ k
number-not n k r e z = clash r (ap (λ (x : ℕ). is_in x (0 ∷ refusals)) z ∙ e)

none : Number 0
none = refl

pick-number : (t : Bool) (x y : ℕ) → Number x → Number y → Number (pick t x y)
pick-number t x y p q = pick-holds Number t x y p q

or_else-number : (x y : ℕ) → Number x → Number y → Number (or_else x y)
or_else-number x y p q = pick-number (eqb x 0) y x q p

zeroing-number : (v : ℕ) → Number (zeroing_fault v)
zeroing-number v = pick-number (eqb v 0) 0 6 none refl

head_fault-number : (a r t : Bool) (h v : ℕ) → Number (head_fault a r t h v)
unfolding head_fault
head_fault-number a r t h v =
    pick-number a _ _ (zeroing-number v)
    (pick-number r _ _ refl
    (pick-number t _ _ refl
    (pick-number (eqb v 0) _ _ refl (pick-number (eqb h 0) _ _ none refl))))

ack_fault-number : (a : Bool) (v : ℕ) → Number (ack_fault a v)
unfolding ack_fault
ack_fault-number a v = pick-number a _ _ (zeroing-number v) none

teardown_fault-number : (a r t : Bool) (c v : ℕ) → Number (teardown_fault a r t c v)
unfolding teardown_fault
teardown_fault-number a r t c v =
    pick-number a _ _ refl
    (pick-number r _ _ refl
    (pick-number t _ _ refl
    (pick-number (ltb v channels) _ _ (pick-number (eqb c teardown_done) _ _ refl none) refl)))

reset_fault-number : (a r t : Bool) (v : ℕ) → Number (reset_fault a r t v)
unfolding reset_fault
reset_fault-number a r t v =
    pick-number a _ _ refl (pick-number r _ _ refl (pick-number t _ _ refl (pick-number (eqb v 1) _ _ none refl)))

zero_fault-number : (v : ℕ) → Number (zero_fault v)
unfolding zero_fault
zero_fault-number v = pick-number (eqb v 0) _ _ none refl

register_fault-number : (t : List ℕ) (n v : ℕ) → Number (register_fault t n v)
unfolding register_fault
register_fault-number t n v =
    by_class-holds Number n _ _ _ _ _ _ _ _ (λ h. head_fault-number _ _ _ _ v) (λ q h. ack_fault-number _ v)
    (λ x h. teardown_fault-number _ _ _ _ v) (reset_fault-number _ _ _ v) (zero_fault-number v) none refl refl

-- ---- a chain: 12 to 17

end_flags-number : (x3 : ℕ) → Number (end_flags_fault x3)
end_flags-number x3 = pick-number (eoq x3) _ _ refl (pick-number (td x3) _ _ refl none)

flags_fault-number : (pl : Place) (x3 : ℕ) → Number (flags_fault pl x3)
unfolding flags_fault
flags_fault-number Start x3 =
    pick-number (sop x3) _ _ (pick-number (owner x3) _ _ (end_flags-number x3) refl) refl
flags_fault-number (Middle s n) x3 = pick-number (sop x3) _ _ refl (end_flags-number x3)
flags_fault-number Buffer x3 =
    pick-number (owner x3) _ _
    (pick-number (sop x3) _ _ refl (pick-number (eop x3) _ _ refl (end_flags-number x3)))
    refl

length_fault-number : (side : Side) (x1 x2 x3 : ℕ) → Number (length_fault side x1 x2 x3)
unfolding length_fault
length_fault-number side x1 x2 x3 =
    pick-number (eqb (length_of side x2) 0) _ _ refl
    (pick-number (offset_bad side x2) _ _ refl
    (pick-number (ltb address_end (first_byte side x1 x2 x3 + length_of side x2)) _ _ refl none))

block_fault-number : (kinds : List ℕ) (side : Side) (x1 x2 x3 : ℕ) → Number (block_fault kinds side x1 x2 x3)
unfolding block_fault
block_fault-number kinds side x1 x2 x3 =
    pick-number (is_free (room_of side kinds (first_byte side x1 x2 x3) (length_of side x2))) _ _ none refl

end_fault-number : (s n : ℕ) → Number (end_fault s n)
unfolding end_fault
end_fault-number s n = pick-number (eqb n (packet_length s)) _ _ none refl

sum_fault-number : (pl : Place) (x2 x3 : ℕ) → Number (sum_fault pl x2 x3)
unfolding sum_fault
sum_fault-number Start x2 x3 = pick-number (eop x3) _ _ (end_fault-number x3 (sum_at Start x2)) none
sum_fault-number (Middle s n) x2 x3 = pick-number (eop x3) _ _ (end_fault-number s (sum_at (Middle s n) x2)) none
sum_fault-number Buffer x2 x3 = none

ends_at-number : (pl : Place) → Number (ends_at pl)
ends_at-number Start = none
ends_at-number (Middle s n) = refl
ends_at-number Buffer = none

next_fault-number : (pl : Place) (x0 : ℕ) → Number (next_fault pl x0)
unfolding next_fault
next_fault-number pl x0 = pick-number (eqb x0 0) _ _ (ends_at-number pl) none

desc_fault-number : (kinds : List ℕ) (w : ℕ → ℕ) (pl : Place) (d : ℕ) → Number (desc_fault kinds w pl d)
unfolding desc_fault
desc_fault-number kinds w pl d =
    or_else-number (flags_fault pl (w (d + 3))) _ (flags_fault-number pl (w (d + 3)))
    (or_else-number (length_fault (side_at pl) (w (d + 1)) (w (d + 2)) (w (d + 3))) _
    (length_fault-number (side_at pl) (w (d + 1)) (w (d + 2)) (w (d + 3)))
    (or_else-number (block_fault kinds (side_at pl) (w (d + 1)) (w (d + 2)) (w (d + 3))) _
    (block_fault-number kinds (side_at pl) (w (d + 1)) (w (d + 2)) (w (d + 3)))
    (or_else-number (sum_fault pl (w (d + 2)) (w (d + 3))) _ (sum_fault-number pl (w (d + 2)) (w (d + 3)))
    (next_fault-number (behind pl (w (d + 2)) (w (d + 3))) (w d)))))

-- what holds of every answer that a step stops with holds of the walk's
abbrev Stops : {S R : Type 0} → (R → Type 0) → Next S R → Type 0
Stops P (go t) = Unit
Stops P (stop r) = P r

module _ {S R : Type 0} (step : S → Next S R) (out : S → R) (P : R → Type 0) (outs : (s : S) → P (out s)) (stops : (s : S)
    → Stops P (step s)) where
  run_for-holds : (n : ℕ) (s : S) → P (run_for step out n s)
  run_for-holds zero s = outs s
  run_for-holds (suc n) s = at (step s) (stops s) (λ t. run_for-holds n t)
    where
      at : (x : Next S R) → Stops P x → ((t : S) → P (run_for step out n t)) → P (after x (λ t. run_for step out n t))
      at (go t) p g = g t
      at (stop r) p g = p

  run_holds : (μ : S → ℕ) (s : S) → P (run step out μ s)
  unfolding run
  run_holds μ s = run_for-holds (suc (μ s)) s

abbrev Numbered : JOut → Type 0
Numbered r = Number r.0

judge_step-number : (kinds : List ℕ) (w : ℕ → ℕ) (s : JSt) → Stops {S = JSt} Numbered (judge_step kinds w s)
unfolding judge_step
judge_step-number kinds w s =
    stops (good_ptr s.2) _ _
    (stops (free_at s.1 (word_of s.2)) _ _
    (stops (eqb (desc_fault kinds w s.0 (word_of s.2)) 0) _ _
    (stops (eqb (w (word_of s.2)) 0) _ _ none tt)
    (desc_fault-number kinds w s.0 (word_of s.2)))
    refl)
    refl
  where
    stops : (t : Bool) (x y : Next JSt JOut) → Stops Numbered x → Stops Numbered y → Stops Numbered (pick t x y)
    stops t x y p q = pick-holds (Stops Numbered) t x y p q

chain_of-number : (kinds : List ℕ) (w : ℕ → ℕ) (pl : Place) (met : List ℕ) (p : ℕ) → Number (chain_of kinds w pl met p).0
unfolding chain_of
chain_of-number kinds w pl met p =
    run_holds (judge_step kinds w) (λ t. (0, 0, t.1)) Numbered (λ t. none) (judge_step-number kinds w) (λ t. free_count t.1) (pl, met, p)

-- ---- a verdict

-- a refusal: its number, and the world as it is
pub record Refusal (s : World) (o : Outcome) : Type 0 where
  pub number : ℕ
  pub told : Refuses number
  pub is : o ≡ refuse number s

pub record Acceptance (o : Outcome) : Type 0 where
  pub effect : Effect
  pub is : o.answer ≡ Accepted effect

abbrev pub Verdict : World → Outcome → Type 0
Verdict s o = Refusal s o ⊎ Acceptance o

refused : (s : World) (n : ℕ) → Refuses n → Verdict s (refuse n s)
refused s n p = inl (record { number = n; told = p; is = refl })

accepted : (s : World) (e : Effect) (t : World) → Verdict s (accept e t)
accepted s e t = inr (record { effect = e; is = refl })

verdict-pick : (s : World) (t : Bool) (x y : Outcome) → Verdict s x → Verdict s y → Verdict s (pick t x y)
verdict-pick s t x y p q = pick-holds (Verdict s) t x y p q

-- a fault that is 0 lets the write pass
verdict-fault : (s : World) (n : ℕ) (x : Outcome) → Number n → Verdict s x → Verdict s (pick (eqb n 0) x (refuse n s))
verdict-fault s n x k v = at (eqb n 0) k
  where
    at : (t : Bool) → pick t true (is_in n refusals) ≡ true → Verdict s (pick t x (refuse n s))
    at true e = v
    at false e = inl (record { number = n; told = e; is = refl })

start-verdict : (q p : ℕ) (s : World) → Verdict s (judge_start q p s)
start-verdict q p s =
    verdict-fault s (judge_chain (side_of q) p s).0 _ (chain_of-number s.kinds (word s.mem) (place_of (side_of q)) s.used p)
    (accepted s _ _)

head-verdict : (q v : ℕ) (s : World) → Verdict s (judge_head q v s)
unfolding judge_head
head-verdict q v s =
    verdict-fault s (head_number s.state q v) _ (head_fault-number _ _ _ _ v)
    (verdict-pick s (awaiting s.state) _ _ (accepted s _ _)
    (verdict-pick s (eqb (head_of s.state q) 0) _ _ (start-verdict q v s) (refused s 10 refl)))

register-verdict : (n v : ℕ) (s : World) → Verdict s (judge_register n v s)
unfolding judge_register
register-verdict n v s = verdict-fault s (register_fault s.state n v) _ (register_fault-number s.state n v) (accepted s _ _)

append-verdict : (q k p : ℕ) (s : World) → Verdict s (judge_append q k p s)
unfolding judge_append
append-verdict q k p s =
    verdict-fault s (judge_chain (side_of q) p s).0 _ (chain_of-number s.kinds (word s.mem) (place_of (side_of q)) s.used p)
    (accepted s _ _)

last-verdict : (k v : ℕ) (s : World) → Verdict s (judge_last k v s)
unfolding judge_last
last-verdict k v s = at (tail_in (word s.mem) k 0 (heads_of s.state))
  where
    at : (t : Option ℕ) → Verdict s (at_tail t (λ q. judge_append q k v s) (refuse 11 s))
    at None = refused s 11 refl
    at (Some q) = append-verdict q k v s

word-verdict : (k v : ℕ) (s : World) → Verdict s (judge_word k v s)
unfolding judge_word
word-verdict k v s =
    verdict-pick s (has s.used k) _ _
    (verdict-pick s (both (eqb (word s.mem k) 0) (not (eqb v 0))) _ _ (last-verdict k v s) (refused s 11 refl))
    (accepted s _ _)

class-verdict : (n v : ℕ) (s : World) → Verdict s (judge_class n v s)
unfolding judge_class
class-verdict n v s = verdict-pick s (ltb n (hdp_class + queues)) _ _ (head-verdict (n - hdp_class) v s) (register-verdict n v s)

pub judge-verdict : (a v : ℕ) (s : World) → Verdict s (judge a v s)
unfolding judge
judge-verdict a v s =
    verdict-pick s (eqb (a % 4) 0) _ _
    (verdict-pick s (in_descriptors a) _ _ (word-verdict ((a - desc_first) / 4) v s) (class-verdict (class_at a) v s))
    (refused s 3 refl)

kind_number-number : (b k : ℕ) (w : ℕ → ℕ) (lens kinds : List ℕ) → Number (kind_number b k w lens kinds)
unfolding kind_number
kind_number-number b k w lens kinds =
    pick-number (ltb b (length kinds)) _ _
    (pick-number (both (leb 1 k) (leb k 4)) _ _
    (pick-number (eqb (get_or kinds b 0) 0) _ _ refl (pick-number (both (not (eqb k 1)) (in_reception w lens b)) _ _ refl refl))
    refl)
    refl

pub kind-verdict : (b k : ℕ) (s : World) → Verdict s (judge_kind b k s)
unfolding judge_kind
kind-verdict b k s =
    let w = word s.mem in
    verdict-fault s (kind_number b k w s.lens s.kinds) _ (kind_number-number b k w s.lens s.kinds) (accepted s _ _)

-- ---- a whole call

pub release-kinds : (s : World) → (release s).kinds ≡ s.kinds
unfolding release
release-kinds s = refl

-- as many heads are left as there were
length-heads : (w : ℕ → ℕ) (mode : Mode) (hs : List ℕ) (u : Uses) → length (released_all w mode hs u).0 ≡ length hs
unfolding released_all
length-heads w mode [] u = refl
length-heads w mode (h ∷ hs) u = ap suc (length-heads w mode hs (released_from w u h mode).1)

release-registers : (s : World) (k : ℕ) → is_device k ≡ true → get_or (release s).state k 0 ≡ get_or s.state k 0
release-registers s k d =
    let w = word s.mem in
    let r = released_all w (release_mode s.state) (heads_of s.state) (s.used, s.lens) in
    ap (λ (t : World). get_or t.state k 0) (release-parts s r.0 r.1 refl)
    ∙ flags-other (with_heads r.0 s.state) k (λ e. clash d (ap is_device e)) (λ e. clash d (ap is_device e))
    (λ e. clash d (ap is_device e))
    ∙ with_heads-other r.0 s.state (length-heads w (release_mode s.state) (heads_of s.state) (s.used, s.lens)) k
    (past (ltb k queues) refl)
  where
    past : (b : Bool) → ltb k queues ≡ b → queues ≤ k
    past true e = clash d (is_device-head k (ltb-true k queues e))
    past false e = ltb-false k queues e

release-untouched : (s : World) (o : Outcome) → o.world ≡ release s → Untouched s o
unfolding release
release-untouched s o e = record {
  mem = ap (λ (t : World). t.mem) e;
  kinds = ap (λ (t : World). t.kinds) e;
  registers = λ k d. ap (λ (t : World). get_or t.state k 0) e ∙ release-registers s k d;
  state = ap (λ (t : World). t.state) e;
  used = ap (λ (t : World). t.used) e;
  lens = ap (λ (t : World). t.lens) e;
}

-- what a call leaves, by its answer's number: n is that number
abbrev Leaves : World → Outcome → Type 0
Leaves s o =
    ((number_of o.answer ≡ 1 → o ≡ refuse 1 s) × (number_of o.answer ≡ 2 → o ≡ refuse 2 s))
    × (number_of o.answer ≢ 0 → number_of o.answer ≢ 1 → number_of o.answer ≢ 2 → (Untouched s o) × Refuses (number_of o.answer))

admitted-leaves : (s : World) (act : World → Outcome) → ((t : World) → Verdict t (act t)) → Leaves s (admitted s act)
unfolding admitted
admitted-leaves s act verdict =
    pick-holds (Leaves s) (unfit s) _ _
    (((λ e. refl), (λ e. absurd (omega arith))), (λ a b c. absurd (b refl)))
    (pick-holds (Leaves s) (sound_world s) _ _ (judged (act (release s)) (verdict (release s)))
    (((λ e. absurd (omega arith)), (λ e. refl)), (λ a b c. absurd (c refl))))
  where
    judged : (o : Outcome) → Verdict (release s) o → Leaves s o
    judged o (inl r) =
        let n : number_of o.answer ≡ r.number = ap (λ (x : Outcome). number_of x.answer) r.is in (
          (
            (λ e. absurd (refuses-not r.number 1 r.told refl (sym n ∙ e))),
            (λ e. absurd (refuses-not r.number 2 r.told refl (sym n ∙ e))),
          ),
          (λ a b c. (release-untouched s o (ap (λ (x : Outcome). x.world) r.is), rw n r.told)),
        )
    judged o (inr x) =
        let n : number_of o.answer ≡ 0 = ap number_of x.is in
        (((λ e. absurd (omega (arith, e, n))), (λ e. absurd (omega (arith, e, n)))), (λ a b c. absurd (a n)))

write-leaves : (a v : ℕ) (s : World) → Leaves s (guest_write a v s)
unfolding guest_write
write-leaves a v s = admitted-leaves s (λ t. judge a v t) (judge-verdict a v)

kind-leaves : (b k : ℕ) (s : World) → Leaves s (kind_change b k s)
unfolding kind_change
kind-leaves b k s = admitted-leaves s (λ t. judge_kind b k t) (kind-verdict b k)

-- "after any other refusal of a guard call only the release below has happened"
pub refused-write : (a v : ℕ) (s : World) → number_of (guest_write a v s).answer ≢ 0 → number_of (guest_write a v s).answer ≢ 1
    → number_of (guest_write a v s).answer ≢ 2 → Untouched s (guest_write a v s)
refused-write a v s p q r = ((write-leaves a v s).1 p q r).0

pub refused-kind : (b k : ℕ) (s : World) → number_of (kind_change b k s).answer ≢ 0 → number_of (kind_change b k s).answer ≢ 1
    → number_of (kind_change b k s).answer ≢ 2 → Untouched s (kind_change b k s)
refused-kind b k s p q r = ((kind-leaves b k s).1 p q r).0

-- "After 1, 2 .. nothing changes"
pub unchanged-write : (a v : ℕ) (s : World) → (number_of (guest_write a v s).answer ≡ 1) ⊎ (number_of (guest_write a v s).answer ≡ 2)
    → (guest_write a v s).world ≡ s
unchanged-write a v s (inl e) = ap (λ (o : Outcome). o.world) ((write-leaves a v s).0.0 e)
unchanged-write a v s (inr e) = ap (λ (o : Outcome). o.world) ((write-leaves a v s).0.1 e)

pub unchanged-kind : (b k : ℕ) (s : World) → (number_of (kind_change b k s).answer ≡ 1) ⊎ (number_of (kind_change b k s).answer ≡ 2)
    → (kind_change b k s).world ≡ s
unchanged-kind b k s (inl e) = ap (λ (o : Outcome). o.world) ((kind-leaves b k s).0.0 e)
unchanged-kind b k s (inr e) = ap (λ (o : Outcome). o.world) ((kind-leaves b k s).0.1 e)
