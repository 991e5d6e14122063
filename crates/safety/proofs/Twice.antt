-- The release once more, and the checks before it. Assumes nothing.
--     release-twice        "Every guard call .. first releases": once is enough, for every world that is sound
--     never-unfit, never-unsound   where the invariant holds, answers 1 and 2 never occur
use Prim.Native.Nat.{ℕ}
use mathlib.Core.Path.{◌≡◌, ap, ◌∙◌, sym}
use mathlib.Core.Bool.{true, false}
use mathlib.Core.List.{List, [], append-nil}
use lib.ListN.{length, take-append-drop}
use borrow.Author.Tests.{eq-eqb}
use Rattle.layout.specs.Layout.{desc_bytes, queues}
use Rattle.layout.proofs.ChoiceLaws.{both_left, both_right}
use Rattle.words.specs.Word.{word}
use Rattle.registers.specs.Table.{heads_of, flags_fit}
use Rattle.registers.proofs.TableLaws.{bounds-flags_fit, flags_fit-loaded}
use Rattle.book.specs.declared.Mode.{Mode}
use Rattle.book.specs.Release.{release_mode, released_flags, with_heads}
use Rattle.book.specs.World.{World, set_state, set_uses, fit_parts, unfit, sound_book, sound_world, release}
use Rattle.queue.proofs.Queue.{flat, starts, kept_all, gone_all, drop_all}
use Rattle.queue.proofs.ReleasedLaws.{released-queues, released-again}
use Rattle.queue.proofs.SoundLaws.{Queues, sound-yes, sound-queues}
use Rattle.queue.proofs.SetLaws.{length-kept, length-starts}
use Rattle.queue.proofs.StateLaws.{heads_of-with_heads, heads-flags, over-flags, flags-twice, fit-with_heads, release-parts}
use Rattle.machine.specs.Machine.{Machine, world_of}
use Rattle.safety.proofs.Inv.{words_of, Inv}
use Rattle.safety.proofs.Calm.{heads-seen, all-linked}

-- ---- once is enough

pub release-twice : (s : World) → sound_world s ≡ true → release (release s) ≡ release s
unfolding sound_world sound_book
release-twice s e =
    at (both_left (flags_fit s.state) _ e)
    (sound-queues (word s.mem) (heads_of s.state) s.used s.lens (both_right (flags_fit s.state) _ e))
  where
    w : ℕ → ℕ
    w = word s.mem

    n : Mode
    n = release_mode s.state

    at : flags_fit s.state ≡ true → Queues w (heads_of s.state) s.used s.lens → release (release s) ≡ release s
    at fit q =
        let ks = kept_all w n q.qs in
        let u = drop_all (s.used, s.lens) (gone_all w n q.qs) in
        let x = with_heads (starts ks) s.state in
        let t = released_flags x in
        let one : release s ≡ set_state t (set_uses u s) =
        release-parts s (starts ks) u
        (rw q.heads (released-queues w n q.qs [] (s.used, s.lens) q.linked (rw (append-nil (flat q.qs)) q.sole))) in
        let many : length (starts ks) ≡ length (heads_of s.state) = length-starts ks ∙ length-kept w n q.qs
        ∙ sym (length-starts q.qs) ∙ ap length (sym q.heads) in
        let heads : heads_of t ≡ starts ks = heads-flags x ∙ heads_of-with_heads (starts ks) s.state many in
        let same : with_heads (starts ks) t ≡ t = ap (λ (h : List ℕ). with_heads h t) (sym heads) ∙ take-append-drop queues t in
        let again : release (set_state t (set_uses u s)) ≡ set_state (released_flags (with_heads (starts ks) t)) (set_uses u s) =
        release-parts (set_state t (set_uses u s)) (starts ks) u
        (rw (over-flags x, heads) (released-again w n q.qs (s.used, s.lens) q.linked q.sole)) in
        let two : release (set_state t (set_uses u s)) ≡ set_state t (set_uses u s) =
        again ∙ ap (λ (y : List ℕ). set_state y (set_uses u s))
        (ap released_flags same ∙ flags-twice x (fit-with_heads (starts ks) s.state many ∙ fit)) in
        ap release one ∙ two ∙ sym one

-- ---- answers 1 and 2

pub never-unfit : (s : Machine) → Inv s → unfit (world_of s) ≡ false
unfolding unfit fit_parts
never-unfit s i = simp (eq-eqb (length s.mem) desc_bytes i.held.fit.size, i.held.kinds)

pub never-unsound : (s : Machine) → Inv s → sound_world (world_of s) ≡ true
unfolding sound_world sound_book
never-unsound s i =
    let b = i.sized.book in
    rw (flags_fit-loaded s.ctl.state s.state, bounds-flags_fit s.state b.marks b.tearings b.reset, heads-seen s i)
    (sound-yes (words_of s) i.qs s.used s.lens (all-linked s i) i.held.sole i.held.recorded)
