-- A queue as the list of its descriptors. Document 01 speaks of chains, queues and words in use; these are the relations in
-- which what it says of them is proved. A descriptor is the number of its first word, 0 to 2044; w gives words by number.
--     start ds             where a queue begins: 0, or its first descriptor's address
--     All P ds             P of each
--     Linked w ds          each word 0 leads to the next, the last is 0
--     Off, Apart, Outside  two descriptors share no word; all of a list do not; a word is no word of a descriptor
--     within d k, count ds k   word k is one of d's; how many of ds have word k
--     Sole u ds            the words in use are exactly those of ds, none twice
--     Recorded lens rx     recorded lengths: 1 to 2,047 at the descriptors of rx, 0 elsewhere
--     flat, starts, receiving, LinkedAll   several queues: all descriptors, the heads, those of the receive queues, links
--     kept w mode ds, gone w mode ds   what the release leaves of a queue, and what goes
--     kept_all, gone_all     of each queue what is left, and of all of them what goes
--     Unmet met ds, add_all met ds   each is over free words when its turn comes; the words with all of theirs
--     drop_all u ds, take_all w side u ds   words in use and lengths without ds, and with them
--     own_at, behind_at      the rules of one descriptor at a place, and the place behind it
--     Fresh w pl ds        still to be fetched from a place on: no fault, and the end is not inside a packet
--     Roomy kinds side w ds   every block that a buffer touches permits it
-- No promise and no statement speaks of them. Laws: the files beside this one. Assumes nothing: these are definitions.
use Prim.Native.Nat.{ℕ, ◌+◌, ◌≤◌, ◌<◌}
use mathlib.Core.Path.{◌≡◌}
use mathlib.Core.Logic.{◌⊎◌, ◌≢◌}
use mathlib.Core.Bool.{Bool, true}
use mathlib.Core.List.{List, [], ◌∷◌, ◌++◌}
use lib.ListN.{length, get_or}
use lib.Dec.{leb, ltb}
use Rattle.std.specs.Prelude.{None, Some}
use Rattle.layout.specs.Choice.{pick, both}
use Rattle.layout.specs.Layout.{desc_words, length_max, addr}
use Rattle.layout.specs.declared.Side.{Side}
use Rattle.words.specs.WordSet.{free_at, add_four}
use Rattle.blocks.specs.Room.{room_of}
use Rattle.blocks.specs.declared.Room.TheVariants.{Free}
use Rattle.descriptor.specs.Fields.{length_of, first_byte}
use Rattle.descriptor.specs.Rules.{own_fault, behind, ends_at}
use Rattle.descriptor.specs.declared.Place.{Place}
use Rattle.book.specs.declared.Mode.{Mode}
use Rattle.book.specs.HandOver.{Uses, take_one, drop_one}
use Rattle.book.specs.Release.{Plan, plan}

-- ---- lists of descriptors

abbrev pub start : List ℕ → ℕ
start [] = 0
start (d ∷ ds) = addr d

abbrev pub All : (ℕ → Type 0) → List ℕ → Type 0
All P [] = Unit
All P (d ∷ ds) = P d × All P ds

-- a chain that ends at 0 over good pointers: where it begins is `start`
abbrev pub Linked : (ℕ → ℕ) → List ℕ → Type 0
Linked w [] = Unit
Linked w (d ∷ ds) = (d ≤ 2044) × (w d ≡ start ds) × Linked w ds

-- ---- whose words are whose

abbrev pub Off : ℕ → ℕ → Type 0
Off d e = (d + 4 ≤ e) ⊎ (e + 4 ≤ d)

abbrev pub Apart : List ℕ → Type 0
Apart [] = Unit
Apart (d ∷ ds) = All (Off d) ds × Apart ds

abbrev pub Outside : ℕ → ℕ → Type 0
Outside k d = (k < d) ⊎ (d + 4 ≤ k)

unfoldable pub within : ℕ → ℕ → Bool
within d k = both (leb d k) (ltb k (d + 4))

abbrev pub count : List ℕ → ℕ → ℕ
count [] k = 0
count (d ∷ ds) k = pick (within d k) 1 0 + count ds k

-- "no word is met twice, the words met are exactly those in use"; by counting, so that the order never matters
pub record Sole (u ds : List ℕ) : Type 0 where
  pub size : length u ≡ desc_words
  pub used : (k : ℕ) → get_or u k 0 ≡ count ds k
  pub once : (k : ℕ) → count ds k ≤ 1

-- "recorded lengths are 1..2,047 for the receive queue's descriptors and 0 elsewhere"
pub record Recorded (lens rx : List ℕ) : Type 0 where
  pub size : length lens ≡ desc_words
  pub there : All (λ d. (1 ≤ get_or lens d 0) × (get_or lens d 0 ≤ length_max)) rx
  pub elsewhere : (k : ℕ) → All (λ d. k ≢ d) rx → get_or lens k 0 ≡ 0

-- ---- several queues, by number; those of odd number receive

abbrev pub flat : List (List ℕ) → List ℕ
flat [] = []
flat (q ∷ qs) = q ++ flat qs

abbrev pub starts : List (List ℕ) → List ℕ
starts [] = []
starts (q ∷ qs) = start q ∷ starts qs

abbrev pub receiving : List (List ℕ) → List ℕ
receiving [] = []
receiving (t ∷ []) = []
receiving (t ∷ r ∷ qs) = r ++ receiving qs

abbrev pub LinkedAll : (ℕ → ℕ) → List (List ℕ) → Type 0
LinkedAll w [] = Unit
LinkedAll w (q ∷ qs) = Linked w q × LinkedAll w qs

-- ---- the release over the list: the plan is the one that the release over pointers follows

abbrev pub carry : {A : Type 0} → Plan → A → (Mode → A) → A
carry None x f = x
carry (Some mode) x f = f mode

abbrev pub kept : (ℕ → ℕ) → Mode → List ℕ → List ℕ
kept w mode [] = []
kept w mode (d ∷ ds) = carry (plan mode (w (d + 3))) (d ∷ ds) (λ m. kept w m ds)

abbrev pub gone : (ℕ → ℕ) → Mode → List ℕ → List ℕ
gone w mode [] = []
gone w mode (d ∷ ds) = carry (plan mode (w (d + 3))) [] (λ m. d ∷ gone w m ds)

abbrev pub kept_all : (ℕ → ℕ) → Mode → List (List ℕ) → List (List ℕ)
kept_all w mode [] = []
kept_all w mode (q ∷ qs) = kept w mode q ∷ kept_all w mode qs

abbrev pub gone_all : (ℕ → ℕ) → Mode → List (List ℕ) → List ℕ
gone_all w mode [] = []
gone_all w mode (q ∷ qs) = gone w mode q ++ gone_all w mode qs

-- ---- words taken and dropped, descriptor by descriptor

abbrev pub Unmet : List ℕ → List ℕ → Type 0
Unmet met [] = Unit
Unmet met (d ∷ ds) = (free_at met d ≡ true) × Unmet (add_four met d) ds

abbrev pub add_all : List ℕ → List ℕ → List ℕ
add_all met [] = met
add_all met (d ∷ ds) = add_all (add_four met d) ds

abbrev pub drop_all : Uses → List ℕ → Uses
drop_all u [] = u
drop_all u (d ∷ ds) = drop_all (drop_one u d) ds

abbrev pub take_all : (ℕ → ℕ) → Side → Uses → List ℕ → Uses
take_all w side u [] = u
take_all w side u (d ∷ ds) = take_all w side (take_one side (w (d + 2)) u d) ds

-- ---- what is still to be fetched

abbrev pub own_at : (ℕ → ℕ) → Place → ℕ → ℕ
own_at w pl d = own_fault pl (w (d + 1)) (w (d + 2)) (w (d + 3))

abbrev pub behind_at : (ℕ → ℕ) → Place → ℕ → Place
behind_at w pl d = behind pl (w (d + 2)) (w (d + 3))

-- the chain check's own rules, but for the blocks and the chain's end: so an append never disturbs a descriptor's freshness
abbrev pub Fresh : (ℕ → ℕ) → Place → List ℕ → Type 0
Fresh w pl [] = ends_at pl ≡ 0
Fresh w pl (d ∷ ds) = (own_at w pl d ≡ 0) × Fresh w (behind_at w pl d) ds

-- the blocks need no place: a descriptor's offset counts where its own SOP is set
abbrev pub RoomAt : List ℕ → Side → (ℕ → ℕ) → ℕ → Type 0
RoomAt kinds side w d = room_of side kinds (first_byte side (w (d + 1)) (w (d + 2)) (w (d + 3))) (length_of side (w (d + 2))) ≡ Free

abbrev pub Roomy : List ℕ → Side → (ℕ → ℕ) → List ℕ → Type 0
Roomy kinds side w ds = All (RoomAt kinds side w) ds
