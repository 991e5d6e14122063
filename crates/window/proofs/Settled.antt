-- What the promises settle: any two outcomes that one promise allows are the same, where the same bytes were read. Assumes nothing.
--     refilled-unique    two windows filled with the same bytes hold the same, and say the same of the input's end
--     passed-unique      two windows behind the same bytes are the same
-- What the buffer holds outside the window is not settled: nothing reads it.
use Prim.Native.Nat.{ℕ, ◌+◌, ◌-◌}
use mathlib.Core.Path.{◌≡◌, ap, ◌∙◌, sym}
use mathlib.Core.List.{List, ◌++◌}
use lib.ListN.{length}
use lib.Dec.{ltb}
use Rattle.layout.specs.Choice.{pick}
use Rattle.window.specs.declared.Window.{Window}
use Rattle.window.specs.Window.{window_of, lacks, Refilled, Passed}

pub refilled-unique : {wanted : ℕ} {w : Window} {x : List ℕ} {r s : Window} {y z : List ℕ} (a : Refilled wanted w x r y)
    (b : Refilled wanted w x s z)
    → a.got ≡ b.got → (window_of r y ≡ window_of s z) × (r.ended ≡ s.ended)
refilled-unique {wanted} {w} {x} a b e = (
  a.bytes ∙ ap (λ (g : List ℕ). window_of w x ++ g) e ∙ sym b.bytes,
  a.ends ∙ ap (λ (g : List ℕ). pick (lacks wanted w) (ltb (w.len - w.from + length g) (length x)) w.ended) e ∙ sym b.ends,
)

pub passed-unique : {w : Window} {n : ℕ} {r s : Window} → Passed w n r → Passed w n s → r ≡ s
passed-unique a b = λ i. record {
  from = (a.from ∙ sym b.from) i;
  len = (a.len ∙ sym b.len) i;
  ended = (a.ended ∙ sym
      b.ended) i;
}
