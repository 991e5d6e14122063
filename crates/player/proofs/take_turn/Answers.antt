-- `player::take_turn` meets its contract: window, lines and record, each by its own function. Assumes nothing.
use Rattle.std.proofs.Common.{rules, sym, ◌∙◌, subst, ap}
use Rattle.std.specs.Io.KnownBytes.{Consumes}
use Rattle.std.proofs.KnownBytes.{Appends-trans}
use Rattle.std.proofs.lemmas.Result.{IfOk-weaker}
use Rattle.window.proofs.WindowLaws.{got-is}
use Rattle.records.specs.Records.{decode}
use Rattle.player.proofs.StandLaws.{turned, decoded-fits}
use Rattle.player.proofs.StreamLaws.{both_ok}
use Rattle.player.proofs.take_turn.Goals as goal

pub act-requires : goal.act-requires
act-requires g c = (
  decoded-fits c.in_ok-window.window c.refill.new.buf c.decode_record-d.result c.in_ok-window.ensures.filled.inside
      (c.decode_record-d.ensures ∙ ap (decode _) c.bytes.ensures),
  search rules,
  c.requires.1,
)

pub returns-clause-on : goal.returns-clause-on
returns-clause-on g c =
    let f = c.in_ok-window.ensures.filled in
    both_ok c.act.result _ _ _
    (λ r a b. record {
      turned = turned c.args.s _ _ _ _ _ _ _ _ _ f _ _ r _ _ _ _ _ _ c.in_ok-at.ensures.kept
          (c.decode_record-d.ensures ∙ ap (decode _) c.bytes.ensures) a;
      read = subst (Consumes _ _) (got-is f c.requires.2.inside) c.in_ok-window.ensures.read;
      right = λ h e. c.in_ok-window.ensures.right h (sym a.ended ∙ e);
      wrote = Appends-trans _ _ _ _ _ c.in_ok-at.ensures.wrote b;
    })
    c.act.ensures.acted c.act.ensures.wrote

pub returns-clause-turned : goal.returns-clause-turned
returns-clause-turned g c = IfOk-weaker c.act.result _ _ (λ r a. a.turned) (returns-clause-on g c)
