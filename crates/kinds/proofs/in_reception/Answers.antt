-- `kinds::in_reception`: any of the recorded lengths, each with the number of its word. Assumes nothing.
use Rattle.std.proofs.Common.{rules, ℕ, ◌+◌, ◌∙◌, ap, take, arith}
use Rattle.std.specs.Slice.Iter.{iter_rest}
use Rattle.std.proofs.lemmas.Iterator.{YieldsList-from_slice}
use Rattle.std.proofs.lemmas.Iterator.Consumers.{YieldsList-from_enumerate}
use Rattle.std.proofs.lemmas.Iterator.Search.{any_from_yields_List}
use Rattle.words.specs.Word.{word}
use Rattle.blocks.specs.Room.{touches}
use Rattle.kinds.specs.Kinds.{in_reception}
use Rattle.kinds.proofs.KindLaws.{received-any, received-front, touches-past}
use Rattle.kinds.proofs.in_reception.Goals as goal

pub returns : goal.returns
unfolding in_reception
returns c =
    let w = word c.args.m.now in
    let b = c.args.b in
    let l = c.args.lens.now in
    any_from_yields_List (λ (p : ℕ × ℕ). touches b (w (p.0 + 1)) p.1) _ _ _ c.any.ensures.ran
    (YieldsList-from_enumerate
    (YieldsList-from_slice (take 2047 l) (ap iter_rest c.enumerate.ensures.source ∙ c.iter.ensures.rest)) c.enumerate.ensures.count)
    (λ x r q k. search rules)
    ∙ received-any w b 0 (take 2047 l)
    ∙ received-front w b 0 2047 l c.told-lens (touches-past b _ 2047 _ c.told-m (c.fits-lens 2047) (omega arith))
