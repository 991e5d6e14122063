-- The starred cases of document 01, "Both sides of each line", proved together by computing over a full 8,192-byte memory.
-- The table is in specs/Starred.antt. Assumes nothing.
use mathlib.Core.Path.{refl}
use Rattle.cases.specs.Scene.{ready, answered}
use Rattle.cases.specs.Starred.{rx_one, tx_one, tx_two, rx_chain, sending, hdp_after, Starred}
use Rattle.cases.proofs.Computing.{computing}

pub starred : Starred
unfolding computing ready answered rx_one tx_one tx_two rx_chain sending hdp_after
starred = record {
  hdp-4A103FF0-0 = refl;
  hdp-4A103FF4-12 = refl;
  rx-80001FFF-1-0 = refl;
  rx-80001FFF-2-16 = refl;
  tx-80001FFF-2-0 = refl;
  tx-80003FFF-2-16 = refl;
  tx-FFFFFFFF-2-15 = refl;
  tx-FFFFFFFF-1-16 = refl;
  rx-word2-800-15 = refl;
  rx-word2-8000001-0 = refl;
  chain-200C-13 = refl;
  chain-2010-0 = refl;
  tx-60-40-100-0 = refl;
  tx-60-40-101-17 = refl;
  nine-steps = refl;
  not_eight = refl;
  sent-100 = refl;
  example-write-5 = refl;
  example-kind-0 = refl;
}
