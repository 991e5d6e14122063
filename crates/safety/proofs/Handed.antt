-- What a guard call hands back, the machine then has:
-- registers, flags and descriptor memory, whether the call accepts or refuses. Assumes nothing.
--     device-bounds          which words can be the device's registers
--     loaded-alike           registers of a table that is alike are those that stand there already
--     world-handed           a machine made of the outcome's world, and of a controller that is alike
--     carried-is, refused-is the machine after an accepted write, and after a refused one
--     handed-write, handed-kind   a guest write, a kind change
use Prim.Native.Nat.{ℕ, ◌≤◌, ◌<◌, ◌^◌}
use mathlib.Core.Path.{◌≡◌, refl, ap, ◌∙◌, sym, subst}
use mathlib.Core.Bool.{Bool, true, false}
use mathlib.Core.List.{List}
use mathlib.Core.Logic.{inl, inr, ◌≢◌}
use native.Mathlib.Omega.{arith}
use lib.ListN.{length, get_or}
use lib.Seq.{ext_get_or}
use lib.Dec.{eqb, ltb}
use borrow.Author.Tests.{eq-eqb, ne_eqb, le-leb, le-ltb, ltb-true, ltb-false}
use Rattle.layout.specs.Choice.{pick}
use Rattle.layout.specs.Layout.{queues}
use Rattle.layout.proofs.ChoiceLaws.{clash, pick-holds}
use Rattle.registers.specs.Table.{hdp_at, marks_at, bit_at, is_device, loaded}
use Rattle.registers.proofs.TableLaws.{is_device-head, get_or-loaded, length-loaded}
use Rattle.book.specs.World.{World, set_mem, set_state, release}
use Rattle.guard.specs.Answers.{Outcome, number_of}
use Rattle.guard.specs.Judges.{judge}
use Rattle.guard.specs.Guard.{admitted, guest_write}
use Rattle.kinds.specs.Kinds.{kind_number, judge_kind, kind_change}
use Rattle.words.specs.Word.{word}
use Rattle.controller.specs.declared.Controller.{Controller}
use Rattle.controller.specs.Controller.{StepDone, unguarded_write}
use Rattle.machine.specs.Machine.{Machine, write, kind, apply, world_of, with_world, with_ctl, carried_out, apply_write, apply_kind}
use Rattle.safety.specs.Follows.{Alike, Carried, Handed}
use Rattle.safety.proofs.Inv.{Inv}
use Rattle.safety.proofs.Calm.{release-calm}
use Rattle.safety.proofs.Refusals.{Verdict, judge-verdict, refuses-not}
use Rattle.safety.proofs.Allowed.{allowed}
use Rattle.safety.proofs.Numbers.{admitted-acts, agrees}
use Rattle.safety.proofs.Always.{write_kept, kind-kept}

-- ---- the registers that stand there

device-past : (k : ℕ) → bit_at < k → is_device k ≡ false
device-past k h = simp (le-leb (hdp_at 0) k (omega arith), le-ltb k marks_at (omega arith), ne_eqb k bit_at (λ e. omega arith))

device-bounds : (k : ℕ) → is_device k ≡ true → (queues ≤ k) × (k ≤ bit_at)
device-bounds k d = (low (ltb k queues) refl, high (ltb bit_at k) refl)
  where
    low : (b : Bool) → ltb k queues ≡ b → queues ≤ k
    low true e = clash d (is_device-head k (ltb-true k queues e))
    low false e = ltb-false k queues e

    high : (b : Bool) → ltb bit_at k ≡ b → k ≤ bit_at
    high true e = clash d (device-past k (ltb-true bit_at k e))
    high false e = ltb-false bit_at k e

loaded-alike : (t c : List ℕ) → Alike t c → loaded c t ≡ t
loaded-alike t c a =
    ext_get_or 0 (loaded c t) t (length-loaded c t)
    (λ k h. let l : k < length t = omega (arith, length-loaded c t) in get_or-loaded c t k l ∙ at k (is_device k) refl)
  where
    at : (k : ℕ) (b : Bool) → is_device k ≡ b → pick b (get_or c k 0) (get_or t k 0) ≡ get_or t k 0
    at k true d = let b = device-bounds k d in sym (a.same k b.0 b.1)
    at k false d = refl

-- ---- a machine made of the outcome's world

world-handed : (c : Controller) (m : List ℕ) (o : Outcome) (s : Machine) → Inv (with_ctl c m (with_world o.world s)) → m ≡ o.world.mem
    → Alike o.world.state c.state → Handed o (with_ctl c m (with_world o.world s))
world-handed c m o s i e a = record {
  state = refl;
  agrees = record { alike = a; here = i.sized.book.size; there = i.sized.ctl.size; defined = i.defined };
  seen = ap (λ (t : List ℕ). set_state t (set_mem m o.world)) (loaded-alike o.world.state c.state a)
      ∙ ap (λ (x : List ℕ). set_mem x o.world) e;
}

module _ (a x : ℕ) (o : Outcome) (s : Machine) where
  -- what the controller makes of it
  abbrev made : StepDone
  made = unguarded_write a x s.ctl o.world.mem

  carried-is : number_of o.answer ≡ 0 → made.number ≡ 0
      → (carried_out a x o s).machine ≡ with_ctl made.ctl made.mem (with_world o.world s)
  carried-is z n = rw (eq-eqb (number_of o.answer) 0 z, eq-eqb made.number 0 n) refl

  refused-is : number_of o.answer ≢ 0 → (carried_out a x o s).machine ≡ with_world o.world s
  refused-is n = rw (ne_eqb (number_of o.answer) 0 n) refl

  accepted-handed : Inv (carried_out a x o s).machine → number_of o.answer ≡ 0 → Carried made o.world
      → Handed o (carried_out a x o s).machine
  accepted-handed i z c =
      let e = carried-is z c.number in
      subst (Handed o) (sym e) (world-handed _ _ o s (subst Inv e i) c.mem c.alike)

  refused-handed : Inv (carried_out a x o s).machine → number_of o.answer ≢ 0 → Alike o.world.state s.ctl.state
      → Handed o (carried_out a x o s).machine
  refused-handed i n k =
      let e = refused-is n in
      subst (Handed o) (sym e) (world-handed s.ctl o.world.mem o s (subst Inv e i) refl k)

-- ---- the two guard calls

pub handed-write : (a x : ℕ) → x < 2 ^ 32 → (s : Machine) → Inv s → Handed (guest_write a x (world_of s)) (apply (write a x) s).machine
unfolding apply_write guest_write
handed-write a x b s i =
    subst (λ (o : Outcome). Handed o (carried_out a x o s).machine) (sym acts) (at (judge a x t) refl (judge-verdict a x t) after)
  where
    t : World
    t = release (world_of s)

    acts : admitted (world_of s) (λ y. judge a x y) ≡ judge a x t
    acts = admitted-acts s i (λ y. judge a x y)

    after : Inv (carried_out a x (judge a x t) s).machine
    after = subst (λ (o : Outcome). Inv (carried_out a x o s).machine) acts (write_kept a x b s i).inv

    at : (o : Outcome) → o ≡ judge a x t → Verdict t o → Inv (carried_out a x o s).machine → Handed o (carried_out a x o s).machine
    at o e (inl r) j =
        let n : number_of o.answer ≡ r.number = ap (λ (y : Outcome). number_of y.answer) r.is in
        refused-handed a x o s j (λ z. refuses-not r.number 0 r.told refl (sym n ∙ z))
        (subst (λ (y : Outcome). Alike y.world.state s.ctl.state) (sym r.is) (agrees s i).alike)
    at o e (inr y) j =
        let z : number_of o.answer ≡ 0 = ap number_of y.is in
        accepted-handed a x o s j z
        (subst (λ (w : Outcome). Carried (unguarded_write a x s.ctl w.world.mem) w.world) (sym e)
        (allowed a x t s.ctl (agrees s i) (release-calm s i).held.fit.size (ap (λ (w : Outcome). number_of w.answer) (sym e) ∙ z)))

-- a kind change leaves the small state as it is
judge_kind-state : (b k : ℕ) (s : World) → (judge_kind b k s).world.state ≡ s.state
unfolding judge_kind
judge_kind-state b k s =
    let n = kind_number b k (word s.mem) s.lens s.kinds in
    pick-holds (λ (o : Outcome). o.world.state ≡ s.state) (eqb n 0) _ _ refl refl

pub handed-kind : (b k : ℕ) (s : Machine) → Inv s → Handed (kind_change b k (world_of s)) (apply (kind b k) s).machine
unfolding apply_kind kind_change
handed-kind b k s i =
    subst (λ (o : Outcome). Handed o (with_world o.world s)) (sym acts)
    (world-handed s.ctl (judge_kind b k t).world.mem (judge_kind b k t) s after refl
    (subst (λ (y : List ℕ). Alike y s.ctl.state) (sym (judge_kind-state b k t)) (agrees s i).alike))
  where
    t : World
    t = release (world_of s)

    acts : admitted (world_of s) (λ y. judge_kind b k y) ≡ judge_kind b k t
    acts = admitted-acts s i (λ y. judge_kind b k y)

    after : Inv (with_world (judge_kind b k t).world s)
    after = subst (λ (o : Outcome). Inv (with_world o.world s)) acts (kind-kept b k s i).inv
