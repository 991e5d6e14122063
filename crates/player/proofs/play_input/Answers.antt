-- `player::play_input` meets its contract: the first record's kinds and a fresh machine, then the rest of the input. Assumes nothing.
use Rattle.std.proofs.Common.{ℕ, List, length, take, drop, ◌∙◌, sym, refl, ap, arith}
use Rattle.std.proofs.KnownBytes.{Consumes-nil}
use Rattle.std.proofs.lemmas.Result.{IfOk-weaker}
use lib.Seq.{length-take-le}
use Rattle.records.proofs.LineLaws.{length-bad_line}
use Rattle.player.proofs.FirstLaws.{first-of, none-of, first-room, begun-holds, printed-bad}
use Rattle.player.proofs.StandLaws.{line-room, line-ends, le_of}
use Rattle.player.proofs.StreamLaws.{printed-on-all}
use Rattle.player.proofs.play_input.Goals as goal

pub slice_bounds-write_all-end : goal.slice_bounds-write_all-end
slice_bounds-write_all-end g c = line-room c.put_bad-end.ensures (length-bad_line _) (omega arith)

pub slice_bounds-write_all-end-in_default : goal.slice_bounds-write_all-end-in_default
slice_bounds-write_all-end-in_default g c =
    sym (length-take-le _ _ (line-room c.put_bad-end.ensures (length-bad_line _) (omega arith)))

pub returns-in_default-clause-printed : goal.returns-in_default-clause-printed
returns-in_default-clause-printed g c =
    printed-bad c.args.w c.args.input.now _ _ _ c.requires.4 (none-of c.bytes.ensures c.in_default.ensures.count)
    (line-ends c.put_bad-end.ensures (length-bad_line _) (omega arith))

pub returns-in_default-clause-on : goal.returns-in_default-clause-on
unfolding returns-in_default-clause-printed
returns-in_default-clause-on g c = record {
  printed = returns-in_default-clause-printed g c;
  read = Consumes-nil _;
  right = λ h. h;
  wrote = λ _. c.in_ok-write_all.ensures.bytes;
}

pub slice_bounds-kinds-end : goal.slice_bounds-kinds-end
slice_bounds-kinds-end g c = le_of (first-of c.bytes.ensures c.in-Some.ensures.count).few c.requires.2

pub slice_bounds-kinds-end-2 : goal.slice_bounds-kinds-end-2
slice_bounds-kinds-end-2 g c =
    sym (length-take-le _ _ (le_of (first-of c.bytes.ensures c.in-Some.ensures.count).few c.requires.2))

pub copy_kinds-requires : goal.copy_kinds-requires
copy_kinds-requires g c =
    length-take-le _ _ (le_of (first-of c.bytes.ensures c.in-Some.ensures.count).few c.requires.2)

pub pass-requires : goal.pass-requires
pass-requires g c =
    first-room c.args.w c.args.input.now _ c.requires.3 (first-of c.bytes.ensures c.in-Some.ensures.count).room

pub replay_rest-requires : goal.replay_rest-requires
replay_rest-requires g c = (
  c.requires.0,
  c.requires.1,
  begun-holds c.args.w _ _ _ _ c.requires.3 (first-room c.args.w _ _ c.requires.3 (first-of c.bytes.ensures c.in-Some.ensures.count).room)
      (record { ctl = c.fresh.ensures; at = refl; window = c.pass.ensures; offset = refl }),
  omega arith,
)

pub returns-clause-on : goal.returns-clause-on
returns-clause-on g c =
    let n = length c.in-Some.listed.now in
    let f = first-of c.bytes.ensures c.in-Some.ensures.count in
    let k = c.copy_kinds.ensures ∙ c.in-Some.ensures.kinds ∙ ap (λ (l : List ℕ). take n (drop 4 l)) c.bytes.ensures in
    IfOk-weaker c.replay_rest.result _ _
    (λ e a. printed-on-all c.args.w c.args.input.now c.requires.4 n f.is f.room _
    (record { ctl = c.fresh.ensures; at = refl; window = c.pass.ensures; offset = refl }) _ _ _ _ _ _
    c.requires.5 k _ _ _ _ e _ a) c.replay_rest.ensures.on

pub returns-clause-printed : goal.returns-clause-printed
returns-clause-printed g c = IfOk-weaker c.replay_rest.result _ _ (λ e a. a.printed) (returns-clause-on g c)
