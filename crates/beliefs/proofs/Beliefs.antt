-- Four beliefs about the controller that are false, each refuted by operations from a fresh start. Every fact is computed, over
-- a full 8,192-byte memory and through whole guard calls. What is refuted is in specs/Beliefs.antt. Assumes nothing.
--     no-empty-queue-idle      an empty queue does not mean an idle controller
--     no-length-now            the length now in word 2 does not say what may still be stored
--     no-append-always-sent    an append that is accepted is not always sent
--     no-old-teardown-code     a CP of 0xFFFFFFFC does not mean that this teardown is done
use mathlib.Core.Path.{refl}
use Rattle.cases.specs.Scene.{ready}
use Rattle.beliefs.specs.Beliefs.{number_for, released_early, EmptyQueue, shrunk, LengthNow, latched_zero, left_behind, LateAppend}
use Rattle.beliefs.specs.Beliefs.{code_left, tearing, OldCode}
use Rattle.cases.proofs.Computing.{computing}

pub no-empty-queue-idle : EmptyQueue
unfolding computing ready number_for released_early
no-empty-queue-idle = record { empty = refl; free = refl; rewritten = refl; busy = refl; standing = refl; refused = refl; accepted = refl }

pub no-length-now : LengthNow
unfolding computing ready number_for shrunk
no-length-now = record { now = refl; recorded = refl; missed = refl; met = refl; refused = refl; accepted = refl }

pub no-append-always-sent : LateAppend
unfolding computing ready number_for latched_zero left_behind
no-append-always-sent = record { appended = refl; idle = refl; hdp = refl; sent = refl; unsent = refl; held = refl; freed = refl }

pub no-old-teardown-code : OldCode
unfolding computing ready number_for code_left tearing
no-old-teardown-code =
    record {
      code = refl;
      busy = refl;
      standing = refl;
      believed = refl;
      refused = refl;
      acknowledged = refl;
      pending_book = refl;
      pending_model = refl;
      done = refl;
    }
