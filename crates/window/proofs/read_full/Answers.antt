-- `window::read_full`: what was read lies behind what lay there. Assumes nothing.
use Rattle.std.proofs.Common.{rules, sym, subst}
use Rattle.std.specs.Io.KnownBytes.{Consumes}
use Rattle.std.proofs.KnownBytes.{Consumes-trans}
use Rattle.window.proofs.WindowLaws.{taken-more}
use Rattle.window.proofs.read_full.Goals as goal

pub loop-done-preserved : goal.loop-done-preserved
loop-done-preserved g c =
    let l = c.loop-done in
    let inv = l.invariant in
    let both = taken-more l.buf c.read.new.buf l.done _ c.in_ok-n.n inv.0 c.in_ok-n.ensures.bound.0 in (
      search rules,
      search rules,
      subst (Consumes _ _) (sym both) (Consumes-trans _ _ _ _ _ inv.2 c.in_ok-n.ensures.bytes.0),
    )
