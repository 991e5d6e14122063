-- `marks::mark_at` lends the sixteen bytes; what is marked there is marked in the whole. Assumes nothing.
use Rattle.std.proofs.Common.{◌≡◌, ℕ, ◌+◌, ◌-◌, ◌*◌, ◌≤◌, List, length, arith, ap, ◌∙◌}
use borrow.Rule.Slice.PartMut.{put_mid}
use Rattle.words.proofs.PartLaws.{desc-word, desc-put}
use Rattle.marks.proofs.mark_at.Goals as goal

pub returns : goal.returns
returns g c = let a = c.args in
    let m = a.m.now in
    let at = a.d.word in
    let k : 4 * at + 16 - 4 * at ≡ 16 = omega arith in
    let fits : 4 * at + 16 ≤ length m = omega (arith, c.told-m, a.d.inside) in
    let read = desc-word at a.i m fits c.requires.0 in
    let e = rw k at c.mark_part.ensures in
    let w = e.0 in
    (w, rw read at e.1, rw k (ap (λ (l : List ℕ). put_mid (4 * at) 16 m l) e.2 ∙ desc-put at a.i m fits c.requires.0 w))
