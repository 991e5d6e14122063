-- `window::Window::refill` meets its contract: kept as it is, or moved to the front and read into. Assumes nothing.
use Rattle.std.proofs.Common.{ℕ, length, true, ap, sym, subst, nat_lt, arith}
use Rattle.std.specs.Io.KnownBytes.{Consumes}
use Rattle.std.proofs.lemmas.Result.{err_from_is_err_and}
use borrow.Rule.Slice.PartMut.{mid_len}
use Rattle.window.proofs.WindowLaws.{refilled-read, read-is, kept-read}
use Rattle.window.proofs.Window.refill.Goals as goal

pub returns-in_err-got-clause-failed : goal.returns-in_err-got-clause-failed
returns-in_err-got-clause-failed g c =
    let a = c.args in
    let p = err_from_is_err_and c.from_residual.result c.from_residual.ensures.1 in
    rw p.1 (kept-read a.wanted a.self a.buf.now c.copy_within.new.self c.read_full.new.buf 0 c.requires.1 c.requires.0
    c.copy_within.ensures.after (omega arith) c.read_full.auto.buf c.if-wanted-left.false c.if-self.false)

pub returns-clause-filled : goal.returns-clause-filled
returns-clause-filled g c =
    let a = c.args in
    refilled-read a.wanted a.self a.buf.now c.copy_within.new.self c.read_full.new.buf c.in_ok-got.got c.requires.1 c.requires.0
    c.copy_within.ensures.after c.in_ok-got.ensures.count c.read_full.auto.buf _
    (ap (λ (n : ℕ). nat_lt c.in_ok-got.got n) (mid_len _ (length c.copy_within.new.self) _
    (omega arith))) c.if-wanted-left.false c.if-self.false

pub returns-clause-read : goal.returns-clause-read
returns-clause-read g c =
    let a = c.args in
    let e = read-is a.wanted a.self a.buf.now c.copy_within.new.self c.read_full.new.buf c.in_ok-got.got c.requires.1 c.requires.0
    c.copy_within.ensures.after c.in_ok-got.ensures.count c.read_full.auto.buf true in
    subst (Consumes _ _) (sym e) c.in_ok-got.ensures.bytes
