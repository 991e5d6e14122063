-- `controller::Controller::write` meets its contract: memory, mark and address pick the case. Assumes nothing.
use Prim.Native.Nat.{ℕ, ◌-◌, ◌/◌}
use mathlib.Core.Path.{◌∙◌, sym, ap}
use mathlib.Core.List.{List}
use native.Mathlib.Omega.{arith}
use Rattle.layout.specs.Layout.{desc_first}
use Rattle.layout.specs.Class.{class_at}
use Rattle.layout.proofs.PointerLaws.{in_descriptors-bounds}
use Rattle.words.specs.Word.{put}
use Rattle.controller.specs.Controller.{answer, register_write, unguarded_write}
use Rattle.controller.proofs.EntryLaws.{entry-unfit, entry-undefined, write-odd, write_word, write-register}
use Rattle.controller.proofs.Controller.write.Goals as goal

pub returns-in_default : goal.returns-in_default
unfolding unguarded_write
returns-in_default c = sym (entry-unfit c.args.self.now c.args.m.now _ c.in_default.ensures.cases)

pub returns-then-self : goal.returns-then-self
unfolding unguarded_write
returns-then-self c =
    let a = c.args in
    let whole = c.in-Some.ensures.cases in
    ap (λ (x : List ℕ). answer 22 a.self.now x) whole.same ∙ sym (entry-undefined a.self.now a.m.now _ whole.long c.if-self.true)

pub returns-then-a-ne0 : goal.returns-then-a-ne0
returns-then-a-ne0 c =
    let a = c.args in
    let whole = c.in-Some.ensures.cases in
    ap (λ (x : List ℕ). answer 3 a.self.now x) whole.same
    ∙ sym (write-odd a.a a.v a.self.now a.m.now whole.long c.if-self.false c.if-a-ne0.true)

pub overflow_sub-a : goal.overflow_sub-a
overflow_sub-a c = (in_descriptors-bounds c.args.a (sym c.is_descriptor.ensures ∙ c.if-is_descriptor.true)).0

pub put_at-requires : goal.put_at-requires
put_at-requires c = omega (arith, in_descriptors-bounds c.args.a (sym c.is_descriptor.ensures ∙ c.if-is_descriptor.true))

pub returns-then-is_descriptor : goal.returns-then-is_descriptor
returns-then-is_descriptor c =
    let a = c.args in
    let whole = c.in-Some.ensures.cases in
    ap (λ (x : List ℕ). answer 0 a.self.now x)
    (c.put_at.ensures ∙ ap (λ (x : List ℕ). put x ((a.a - desc_first) / 4) a.v) whole.same)
    ∙ sym (write_word a.a a.v a.self.now a.m.now whole.long c.if-self.false c.if-a-ne0.false
    (sym c.is_descriptor.ensures ∙ c.if-is_descriptor.true))

pub returns : goal.returns
returns c =
    let a = c.args in
    let k = a.self.now in
    let whole = c.in-Some.ensures.cases in
    c.write_class.ensures _
    ∙ ap (λ (n : ℕ). register_write n a.v k c.in-Some.m.now) c.class_at.ensures
    ∙ ap (λ (x : List ℕ). register_write (class_at a.a) a.v k x) whole.same
    ∙ sym (write-register a.a a.v k a.m.now whole.long c.if-self.false c.if-a-ne0.false
    (sym c.is_descriptor.ensures ∙ c.if-is_descriptor.false))
