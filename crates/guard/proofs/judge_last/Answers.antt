-- `guard::judge_last`: the queue by its number, then the chain. Assumes nothing.
use Rattle.std.proofs.Common.{sym, refl, arith}
use Rattle.std.proofs.lemmas.Result.{err_from_is_err_and}
use Rattle.layout.specs.Layout.{queues}
use Rattle.words.specs.Word.{word}
use Rattle.guard.proofs.JudgeLaws.{tail-bound}
use Rattle.layout.proofs.RefusalLaws.{refusal-some}
use Rattle.guard.proofs.GivesLaws.{last-nobody, last-append, answer-refused, answer-accepted}
use Rattle.guard.proofs.judge_last.Goals as goal

pub returns-in_default : goal.returns-in_default
returns-in_default c = last-nobody _ _ _ _ _ _ _ c.in_default.ensures

pub overflow_cast-result : goal.overflow_cast-result
overflow_cast-result c = let a = c.args in
    record { fits = omega (arith, tail-bound (word a.m.now) a.k queues a.t.now _ (sym c.in-Some.ensures)) }

pub returns-in_err-judge_append : goal.returns-in_err-judge_append
returns-in_err-judge_append c =
    let p = err_from_is_err_and c.from_residual.result c.from_residual.ensures.1 in
    rw (p.1, p.2) (last-append _ _ _ _ _ _ _ _ c.in-Some.ensures c.side_of-s.ensures refl c.in_err-judge_append.ensures
    (answer-refused _ (refusal-some _)))

pub returns : goal.returns
returns c = last-append _ _ _ _ _ _ _ _ c.in-Some.ensures c.side_of-s.ensures refl c.in_ok-judge_append.ensures (answer-accepted _ refl)
