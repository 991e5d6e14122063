-- `layout::class_of` gives the class that the rule gives: the rule is computed over all 160 entries at once. Assumes nothing.
use Rattle.std.proofs.Common.{ap, ◌∙◌, zero-add, rules}
use Rattle.layout.specs.Class.{class_of, rule_of}
use Rattle.layout.proofs.TableLaws.{get_d_tabulate}
use Rattle.layout.proofs.class_of.Goals as goal

pub returns : goal.returns
unfolding class_of rule_of
returns c = get_d_tabulate class_of 160 0 c.args.k (search rules) ∙ ap class_of (zero-add c.args.k)
