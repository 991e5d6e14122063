-- What the promises settle: any two outcomes that one promise allows are the same. Assumes nothing.
--     plays-unique     two results of one record: controller, tables and the buffer with its lines are the same
-- `put_totals` promises `Prints`: prints-unique, records/proofs/PrintLaws.antt.
use Prim.Native.Nat.{ℕ}
use mathlib.Core.Path.{◌≡◌, ◌∙◌, sym}
use mathlib.Core.List.{List}
use Rattle.machine.specs.Machine.{Machine}
use Rattle.records.specs.declared.Event.{Event}
use Rattle.records.proofs.PrintLaws.{prints-unique}
use Rattle.replay.specs.declared.Played.{Played}
use Rattle.replay.specs.Plays.{Plays}

pub record Same (r r' : Played) (m m' k k' t t' u u' l l' y y' : List ℕ) : Type 0 where
  pub ctl : r.ctl ≡ r'.ctl
  pub end : r.end ≡ r'.end
  pub mem : m ≡ m'
  pub kinds : k ≡ k'
  pub state : t ≡ t'
  pub used : u ≡ u'
  pub lens : l ≡ l'
  pub text : y ≡ y'

pub plays-unique : {p : List Event × Machine} {r r' : Played} {m m' k k' t t' u u' l l' x y y' : List ℕ} {at : ℕ}
    → Plays p r m k t u l x at y
    → Plays p r' m' k' t' u' l' x at y' → Same r r' m m' k k' t t' u u' l l' y y'
plays-unique a b =
    let same = prints-unique a.text b.text in
    record {
      ctl = a.ctl ∙ sym b.ctl;
      end = same.0;
      mem = a.mem ∙ sym b.mem;
      kinds = a.kinds ∙ sym b.kinds;
      state = a.state ∙ sym b.state;
      used = a.used ∙ sym b.used;
      lens = a.lens ∙ sym b.lens;
      text = same.1;
    }
