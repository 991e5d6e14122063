-- `blocks::kinds_fit`: what is left to ask, with the highest kind so far, is the same at every turn. Assumes nothing.
use Rattle.std.proofs.Common.{ℕ, ◌+◌, ◌<◌, ◌≡◌, true, refl, ◌∙◌, sym, ap, arith, length, drop, leb, le-leb, eqb-true}
use Rattle.std.proofs.lemmas.Bool.{lt-leb, eqb-false}
use Rattle.layout.specs.Choice.{both}
use Rattle.layout.specs.Layout.{blocks_max}
use Rattle.layout.proofs.ChoiceLaws.{ord_max-is}
use Rattle.blocks.specs.Kinds.{all_kinds, fit_kinds}
use Rattle.blocks.proofs.KindLaws.{scan-next, scan-end}
use Rattle.blocks.proofs.kinds_fit.Goals.{then-is_empty-via-then-is_empty, then-is_empty-via-else-is_empty+then-kinds-gt-BLOCKS_MAX}
use Rattle.blocks.proofs.kinds_fit.Goals as goal

pub returns-then-is_empty : goal.returns-then-is_empty
unfolding fit_kinds
returns-then-is_empty c =
    let n = length c.args.kinds.now in
    elim c.then-is_empty.branch [
      | then-is_empty-via-then-is_empty w ↦
          let none : n ≡ 0 = eqb-true n 0 (sym c.is_empty.ensures ∙ w.if-is_empty.true) in
          simp (lt-leb 1 n (omega arith))
      | then-is_empty-via-else-is_empty+then-kinds-gt-BLOCKS_MAX w ↦
          let many : blocks_max < n = w.if-kinds-gt-BLOCKS_MAX.true in
          simp (le-leb 1 n (omega arith), lt-leb n blocks_max many)
    ]

pub loop-i-init : goal.loop-i-init
loop-i-init c = refl

pub loop-i-preserved : goal.loop-i-preserved
loop-i-preserved c =
    let l = c.loop-i in
    let xs = c.args.kinds.now in
    ap (λ (m : ℕ). both (leb m 4) (all_kinds (drop (l.i + 1) xs))) (c.max-top.ensures ∙ ord_max-is _ _)
    ∙ scan-next xs l.top l.i c.loop-i-test.true
    ∙ l.invariant

pub returns : goal.returns
unfolding fit_kinds
returns c =
    let l = c.loop-i in
    let xs = c.args.kinds.now in
    let some : leb 1 (length xs) ≡ true = le-leb 1 _ (omega (arith, eqb-false _ _ (sym c.is_empty.ensures ∙ c.if-is_empty.false))) in
    simp (some, le-leb (length xs) blocks_max c.if-kinds-gt-BLOCKS_MAX.false)
    (sym (scan-end xs l.top l.i c.loop-i-test.false) ∙ l.invariant)
