-- A chain that is judged 0, and its hand-over: for both sides at once. Assumes nothing.
--     Passed, fault-passed     a descriptor without fault: its own rules, its room, its next
--     Judged, judged-list      the number 0 gives a list of descriptors: linked, over free words, fresh, with room
--     taken-list               the hand-over takes exactly these
--     Taken, list-taken, judged-taken      then the words in use and the recorded lengths are those of the queues and of these
use Prim.Native.Nat.{ℕ, zero, suc, ◌+◌, ◌<◌}
use mathlib.Core.Path.{◌≡◌, refl, ap, ◌∙◌, sym}
use mathlib.Core.Bool.{Bool, true, false}
use mathlib.Core.List.{List, [], ◌∷◌, ◌++◌}
use mathlib.Core.Logic.{◌≢◌}
use native.Mathlib.Omega.{arith}
use lib.ListN.{get_or}
use lib.Dec.{eqb}
use borrow.Author.Tests.{eqb-true, eqb-false}
use Rattle.layout.specs.Choice.{pick}
use Rattle.layout.specs.Run.{go, stop, after}
use Rattle.layout.specs.Layout.{good_ptr, word_of, addr}
use Rattle.layout.specs.declared.Side.{Side}
use Rattle.layout.proofs.ChoiceLaws.{want, or_else-zero}
use Rattle.layout.proofs.PointerLaws.{good_ptr-is, good_ptr-addr, word_of-addr, good_ptr-zero}
use Rattle.words.specs.WordSet.{free_at, add_four, free_count}
use Rattle.words.proofs.SetLaws.{free_count-falls}
use Rattle.blocks.specs.Room.{room_of, is_free}
use Rattle.blocks.specs.declared.Room.{Room}
use Rattle.blocks.specs.declared.Room.TheVariants.{Free, Barred, Outside}
use Rattle.descriptor.specs.Fields.{length_of, first_byte}
use Rattle.descriptor.specs.Rules.{side_at, flags_fault, length_fault, sum_fault, ends_at, next_fault}
use Rattle.descriptor.specs.declared.Place.{Place}
use Rattle.chain.specs.Chain.{block_fault, desc_fault, JSt, JOut, judge_step, chain_of}
use Rattle.book.specs.HandOver.{Uses, recorded_length, take_one, hand_over_step, taken_from}
use Rattle.book.proofs.HandOverLaws.{taken-eq}
use Rattle.chain.proofs.ChainLaws.{chain-eq}
use Rattle.descriptor.proofs.RuleLaws.{side_at-behind, own_fault-pass}
use Rattle.queue.proofs.Queue.{start, All, Linked, Sole, Recorded, flat, receiving, Unmet, add_all, take_all, own_at, behind_at, Fresh}
use Rattle.queue.proofs.Queue.{RoomAt, Roomy}
use Rattle.queue.proofs.LinkLaws.{linked-small}
use Rattle.queue.proofs.SoleLaws.{sole-apart, apart-left}
use Rattle.queue.proofs.RecordLaws.{None, apart-receiving-behind, gain, take_words, sole-add-all, take-other, take-there}
use Rattle.queue.proofs.RecordLaws.{recorded-take}
use Rattle.queue.proofs.FreshLaws.{fresh-fits}

-- ---- one descriptor without fault

room-free : (r : Room) → is_free r ≡ true → r ≡ Free
room-free Free e = refl
room-free (Barred b) e = let z : ◌≡◌ {A = ℕ} 0 1 = cc in absurd (omega arith)
room-free Outside e = let z : ◌≡◌ {A = ℕ} 0 1 = cc in absurd (omega arith)

pub record Passed (kinds : List ℕ) (w : ℕ → ℕ) (pl : Place) (d : ℕ) : Type 0 where
  pub own : own_at w pl d ≡ 0
  pub room : RoomAt kinds (side_at pl) w d
  pub next : next_fault (behind_at w pl d) (w d) ≡ 0

pub fault-passed : (kinds : List ℕ) (w : ℕ → ℕ) (pl : Place) (d : ℕ) → desc_fault kinds w pl d ≡ 0 → Passed kinds w pl d
unfolding desc_fault block_fault
fault-passed kinds w pl d e =
    let a = or_else-zero (flags_fault pl (w (d + 3))) _ e in
    let b = or_else-zero (length_fault (side_at pl) (w (d + 1)) (w (d + 2)) (w (d + 3))) _ a.1 in
    let c = or_else-zero (block_fault kinds (side_at pl) (w (d + 1)) (w (d + 2)) (w (d + 3))) _ b.1 in
    let f = or_else-zero (sum_fault pl (w (d + 2)) (w (d + 3))) _ c.1 in
    record {
      own = own_fault-pass pl (w (d + 1)) (w (d + 2)) (w (d + 3)) a.0 b.0 f.0;
      room = room-free _ (want 15
          (is_free (room_of (side_at pl) kinds (first_byte (side_at pl) (w (d + 1)) (w (d + 2)) (w (d + 3)))
          (length_of (side_at pl) (w (d + 2))))) 0 c.0).0;
      next = f.1;
    }

-- a chain that ends here does not end inside a packet
next-ends : (pl : Place) (x0 : ℕ) → x0 ≡ 0 → next_fault pl x0 ≡ 0 → ends_at pl ≡ 0
unfolding next_fault
next-ends pl x0 z e = rw z at e

-- ---- judged 0

pub record Judged (kinds : List ℕ) (w : ℕ → ℕ) (pl : Place) (met : List ℕ) (p : ℕ) (out : List ℕ) : Type 0 where
  pub ds : List ℕ
  pub begins : p ≡ start ds
  pub some : p ≢ 0
  pub linked : Linked w ds
  pub unmet : Unmet met ds
  pub words : out ≡ add_all met ds
  pub fresh : Fresh w pl ds
  pub roomy : Roomy kinds (side_at pl) w ds

found : (n : ℕ) (kinds : List ℕ) (w : ℕ → ℕ) (pl : Place) (met : List ℕ) (p at : ℕ) (out : List ℕ) → free_count met < n
    → chain_of kinds w pl met p ≡ (0, at, out) → Judged kinds w pl met p out
unfolding judge_step
found zero kinds w pl met p at out l e = absurd (omega arith)
found (suc n) kinds w pl met p at out l e =
    by (good_ptr p) (free_at met d) (eqb (desc_fault kinds w pl d) 0) (eqb (w d) 0) refl refl refl refl
    (sym (chain-eq kinds w pl met p) ∙ e)
    (λ q x r. found n kinds w q x r at out)
  where
    d : ℕ
    d = word_of p

    num : {x : JOut} → x ≡ (0, at, out) → x.0 ≡ 0
    num e = ap (λ (t : JOut). t.0) e

    by : (a b c z : Bool) → good_ptr p ≡ a → free_at met d ≡ b → eqb (desc_fault kinds w pl d) 0 ≡ c → eqb (w d) 0 ≡ z
        → after {S = JSt} {R = JOut}
        (pick a (pick b (pick c (pick z (stop (0, 0, add_four met d)) (go (behind_at w pl d, add_four met d, w d)))
        (stop (desc_fault kinds w pl d, p, met))) (stop (13, p, met))) (stop (12, p, met))) (λ t. chain_of kinds w t.0 t.1 t.2)
        ≡ (0, at, out)
        → ((q : Place) (x : List ℕ) (r : ℕ) → free_count x < n → chain_of kinds w q x r ≡ (0, at, out) → Judged kinds w q x r out)
        → Judged kinds w pl met p out
    by false b c z g f k o h ih = absurd (omega (arith, num h))
    by true false c z g f k o h ih = absurd (omega (arith, num h))
    by true true false z g f k o h ih = absurd (eqb-false _ _ k (num h))
    by true true true true g f k o h ih =
        let i = good_ptr-is p g in
        let q = fault-passed kinds w pl d (eqb-true _ _ k) in
        record {
          ds = d ∷ [];
          begins = i.0;
          some = λ y. omega (arith, i.0, y);
          linked = (i.1, eqb-true _ _ o, tt);
          unmet = (f, tt);
          words = sym (ap (λ (t : JOut). t.2) h);
          fresh = (q.own, next-ends (behind_at w pl d) (w d) (eqb-true _ _ o) q.next);
          roomy = (q.room, tt);
        }
    by true true true false g f k o h ih =
        let i = good_ptr-is p g in
        let q = fault-passed kinds w pl d (eqb-true _ _ k) in
        let r = ih (behind_at w pl d) (add_four met d) (w d) (omega (arith, free_count-falls met d f)) h in
        record {
          ds = d ∷ r.ds;
          begins = i.0;
          some = λ y. omega (arith, i.0, y);
          linked = (i.1, r.begins, r.linked);
          unmet = (f, r.unmet);
          words = r.words;
          fresh = (q.own, r.fresh);
          roomy = (q.room, rw (side_at-behind pl (w (d + 2)) (w (d + 3))) at r.roomy);
        }

pub judged-list : (kinds : List ℕ) (w : ℕ → ℕ) (pl : Place) (met : List ℕ) (p : ℕ) → (chain_of kinds w pl met p).0 ≡ 0
    → Judged kinds w pl met p (chain_of kinds w pl met p).2
judged-list kinds w pl met p e =
    found (suc (free_count met)) kinds w pl met p (chain_of kinds w pl met p).1 (chain_of kinds w pl met p).2 (omega arith)
    (ap (λ (n : ℕ). (n, (chain_of kinds w pl met p).1, (chain_of kinds w pl met p).2)) e)

-- ---- the hand-over

take-words1 : (side : Side) (x2 : ℕ) (u : Uses) (d : ℕ) → (take_one side x2 u d).0 ≡ add_four u.0 d
unfolding take_one
take-words1 side x2 u d = refl

pub taken-list : (w : ℕ → ℕ) (side : Side) (u : Uses) (ds : List ℕ) → Linked w ds → Unmet u.0 ds
    → taken_from w side u (start ds) ≡ take_all w side u ds
unfolding hand_over_step
taken-list w side u [] l f = taken-eq w side u 0 ∙ rw good_ptr-zero refl
taken-list w side u (d ∷ ds) l f =
    taken-eq w side u (addr d)
    ∙ simp (good_ptr-addr d l.0, word_of-addr d, f.0, l.1)
    (taken-list w side (take_one side (w (d + 2)) u d) ds l.2 (rw (take-words1 side (w (d + 2)) u d) f.1))

-- qs are the queues before, ds what is taken
pub record Taken (w : ℕ → ℕ) (side : Side) (u out : Uses) (qs : List (List ℕ)) (ds : List ℕ) : Type 0 where
  pub words : out.0 ≡ add_all u.0 ds
  pub sole : Sole out.0 (ds ++ flat qs)
  pub recorded : Recorded out.1 (gain side ds (receiving qs))
  pub lengths : All (λ d. get_or out.1 d 0 ≡ recorded_length side (w (d + 2))) ds
  pub others : (k : ℕ) → None k ds → get_or out.1 k 0 ≡ get_or u.1 k 0

pub list-taken : (w : ℕ → ℕ) (pl : Place) (u : Uses) (qs : List (List ℕ)) (ds : List ℕ) → Linked w ds → Unmet u.0 ds → Fresh w pl ds
    → Sole u.0 (flat qs) → Recorded u.1 (receiving qs) → Taken w (side_at pl) u (taken_from w (side_at pl) u (start ds)) qs ds
list-taken w pl u qs ds l f g s r =
    let t = sole-add-all u.0 ds (flat qs) f s in
    let a = sole-apart {ds = ds ++ flat qs} t in
    let b = linked-small w ds l in
    rw (taken-list w (side_at pl) u ds l f)
    (record {
      words = take_words w (side_at pl) u ds;
      sole = rw (take_words w (side_at pl) u ds) t;
      recorded = recorded-take w (side_at pl) u ds (receiving qs) b (apart-receiving-behind ds qs a) (fresh-fits w pl ds g) r;
      lengths = take-there w (side_at pl) u ds r.size b (apart-left ds (flat qs) a);
      others = take-other w (side_at pl) u ds;
    })

pub judged-taken : (kinds : List ℕ) (w : ℕ → ℕ) (pl : Place) (u : Uses) (p : ℕ) (out : List ℕ) (qs : List (List ℕ))
    (j : Judged kinds w pl u.0 p out)
    → Sole u.0 (flat qs) → Recorded u.1 (receiving qs) → Taken w (side_at pl) u (taken_from w (side_at pl) u p) qs j.ds
judged-taken kinds w pl u p out qs j s r =
    rw j.begins (list-taken w pl u qs j.ds j.linked j.unmet j.fresh s r)
