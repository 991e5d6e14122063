-- `records::hex8`: the digits still to store, in front of those stored, are the eight of a. Assumes nothing.
use Prim.Native.Nat.{ℕ}
use mathlib.Core.Path.{◌≡◌, refl, ap, ◌∙◌, sym}
use mathlib.Core.List.{◌++◌}
use native.Mathlib.Omega.{arith}
use lib.ListN.{drop, length-set}
use Rattle.std.proofs.Common.{append-nil}
use Rattle.records.specs.Lines.{hex_for, hex8}
use Rattle.records.proofs.LineLaws.{hex-before}
use Rattle.records.proofs.hex8.Goals as goal

pub loop-k-init : goal.loop-k-init
unfolding hex8
loop-k-init c = record { stored = append-nil _; eight = refl }

pub loop-k-preserved : goal.loop-k-preserved
loop-k-preserved c = let l = c.loop-k in record {
  stored = hex-before l.digits l.k l.m _ c.loop-k-test.true (omega arith) c.hex_digit.ensures ∙ l.invariant.stored;
  eight = simp length-set l.invariant.eight;
}

pub returns : goal.returns
returns c = let l = c.loop-k in
    let none : l.k ≡ 0 = omega arith in
    sym (ap (λ (k : ℕ). hex_for k l.m ++ drop k l.digits) none) ∙ l.invariant.stored
