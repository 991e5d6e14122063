-- An acknowledgement, told by its address alone. Assumes nothing.
--     cp-class       the class of a CP
--     address-ack    a write to it is judged by its queue
--     ack-sound      and that is all where there is nothing to release
use Rattle.std.proofs.Common.{◌≡◌, ℕ, ◌+◌, ◌<◌, true, false, List, sym, refl, ap, ◌∙◌, zero-add, arith, lt-ltb}
use Rattle.layout.specs.Layout.{desc_first, in_descriptors, queues}
use Rattle.layout.specs.Class.{cp_class, rule_of, class_of, class_at}
use Rattle.layout.proofs.TableLaws.{get_d_tabulate}
use Rattle.words.specs.Word.{word}
use Rattle.registers.specs.Table.{awaiting}
use Rattle.registers.specs.Rules.{ack_fault, ack_written}
use Rattle.book.specs.Quiet.{quiet}
use Rattle.book.specs.World.{unfit, sound_world}
use Rattle.book.proofs.QuietLaws.{release-quiet}
use Rattle.guard.specs.declared.Answer.{Answer}
use Rattle.guard.specs.Answers.{world_at, Gives}
use Rattle.guard.specs.Judges.{judge}
use Rattle.guard.specs.Guard.{guest_write}
use Rattle.guard.specs.Rulings.{ruled, cp_address}
use Rattle.guard.proofs.GivesLaws.{address-class, released-gives, write-sound}
use Rattle.guard.proofs.ClassLaws.{class-ack}

cp-class : (q : ℕ) → q < queues → class_at (cp_address q) ≡ cp_class + q
unfolding class_at class_of rule_of
cp-class q h =
    sym (get_d_tabulate (λ (i : ℕ). class_at (cp_address i)) queues 0 q h ∙ ap (λ (i : ℕ). class_at (cp_address i)) (zero-add q))
    ∙ (get_d_tabulate (λ (i : ℕ). cp_class + i) queues 0 q h ∙ ap (λ (i : ℕ). cp_class + i) (zero-add q))

cp-outside : (q : ℕ) → q < queues → in_descriptors (cp_address q) ≡ false
unfolding in_descriptors
cp-outside q h = rw (lt-ltb (cp_address q) desc_first (omega arith)) refl

address-ack : (m k t u l : List ℕ) (a v q : ℕ) → q < queues → a ≡ cp_address q → {r : Answer} {t' : List ℕ}
    → (r, t') ≡ ruled (ack_fault (awaiting t) v) (ack_written t q v) t → Gives (judge a v (world_at m k t u l)) r m k t' u l
address-ack m k t u l a v q h e o =
    address-class m k t u l a v (omega arith) refl (ap in_descriptors e ∙ cp-outside q h) (sym (ap class_at e ∙ cp-class q h))
    (class-ack m k t u l (cp_class + q) v (omega arith) (omega arith) (omega arith) o)

-- where there is nothing to release, that is all
pub ack-sound : (m k t u l : List ℕ) (a v q : ℕ) → unfit (world_at m k t u l) ≡ false → sound_world (world_at m k t u l) ≡ true → q < queues
    → (a ≡ cp_address q) × (quiet (word m) t ≡ true) → {r : Answer} {t' : List ℕ}
    → (r, t') ≡ ruled (ack_fault (awaiting t) v) (ack_written t q v) t → Gives (guest_write a v (world_at m k t u l)) r m k t' u l
ack-sound m k t u l a v q f s h e o =
    write-sound m k t u l a v f s
    (released-gives m k t u l a v (release-quiet (world_at m k t u l) e.1) (address-ack m k t u l a v q h e.0 o))
