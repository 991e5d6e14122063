-- `book::lengths_fit` asks each pair of entries. Assumes nothing.
use Rattle.std.proofs.Common.{◌≡◌, true, ◌∙◌, refl, rules}
use Rattle.std.proofs.lemmas.Iterator.{YieldsList-from_slice, YieldsList-from_zip, zips}
use Rattle.std.proofs.lemmas.Fn.{fold_over, fronts}
use Rattle.std.specs.Prelude.{fold}
use Rattle.std.specs.List.{zip}
use Rattle.book.proofs.SoundLaws.{fit_on, fit-next, lengths_fit-zip}
use Rattle.book.proofs.lengths_fit.Goals as goal

pub returns : goal.returns
returns c =
    let xs = c.args.firsts.now in
    let ys = c.args.lens.now in
    fold_over (zips fronts fronts) (λ p. (p.0.now, p.1.now)) _ (λ l b. b ≡ fold fit_on true l) _
    (λ l a x b f h k. (fit-next l (x.0.now, x.1.now) h (search rules), search rules))
    c.zip.result (zip xs ys) true c.fold.result
    (YieldsList-from_zip (YieldsList-from_slice xs (search rules)) (YieldsList-from_slice ys (search rules))).runs refl c.fold.ensures.ran
    ∙ lengths_fit-zip xs ys (search rules)
