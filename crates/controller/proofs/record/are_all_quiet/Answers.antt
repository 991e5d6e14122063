-- `controller::record::are_all_quiet` meets its contract: every channel was asked. Assumes nothing.
use mathlib.Core.Path.{◌∙◌}
use Rattle.std.proofs.Common.{rules, tests}
use Rattle.std.proofs.lemmas.Iterator.{YieldsList-from_slice}
use Rattle.std.proofs.lemmas.Iterator.Search.{all_from_yields_List}
use Rattle.controller.specs.Controller.{quiet_channel}
use Rattle.controller.proofs.StepLaws.{all-quiet}
use Rattle.controller.proofs.record.are_all_quiet.Goals as goal

pub returns : goal.returns
returns c =
    let xs = c.args.all.now in
    all_from_yields_List quiet_channel _ _ _ c.all.ensures.ran (YieldsList-from_slice xs cc) (λ x b q k. search (rules, tests))
    ∙ all-quiet xs
