-- A window over an input: the bytes that were read and are not yet taken. Document 01, "The bench": "Standard input holds records".
--     window_of w x              the bytes of the window w of the buffer x
--     Inside w x                the window lies in the buffer
--     lacks wanted w            the window is to be read into
--     Refilled wanted w x r y   w of the buffer x became r of the buffer y: its bytes are kept, `got` stands behind them
--     Kept wanted w x y         w of the buffer x was to be read into and the read failed: its bytes stand in front of the buffer y
--     EndsRight ended left      where the input is said to have ended, the reader has no byte left, of those that it says that it has
--     Passed w n r              r is w without its first n bytes
-- Laws: proofs/WindowLaws.antt. Assumes nothing: these are definitions.
use Rattle.std.specs.Prelude.{ℕ, ◌+◌, ◌-◌, ◌≤◌, ◌≡◌, Bool, true, not, ◌⊎◌, List, [], ◌++◌, length, take, drop, ltb, Option}
use Rattle.std.specs.Io.KnownBytes.{IsAtEnd}
use Rattle.layout.specs.Choice.{pick, both}
use Rattle.window.specs.declared.Window.{Window}

abbrev pub window_of : Window → List ℕ → List ℕ
window_of w x = drop w.from (take w.len x)

pub record Inside (w : Window) (x : List ℕ) : Type 0 where
  pub order : w.from ≤ w.len
  pub within : w.len ≤ length x

-- the window has fewer bytes than are wanted, and the input has not ended: then it is read into
abbrev pub lacks : ℕ → Window → Bool
lacks wanted w = both (ltb (w.len - w.from) wanted) (not w.ended)

-- what was read is `got`: nothing, where the input had ended; where bytes are lacking, it has ended now exactly where the read left room
-- in the buffer, and else it says what it said
pub record Refilled (wanted : ℕ) (w : Window) (x : List ℕ) (r : Window) (y : List ℕ) : Type 0 where
  pub got : List ℕ
  pub bytes : window_of r y ≡ window_of w x ++ got
  pub inside : Inside r y
  pub enough : (wanted ≤ length (window_of r y)) ⊎ (r.ended ≡ true)
  pub stays : w.ended ≡ true → (got ≡ []) × (r.ended ≡ true)
  pub ends : r.ended ≡ pick (lacks wanted w) (ltb (w.len - w.from + length got) (length x)) w.ended

pub record Kept (wanted : ℕ) (w : Window) (x y : List ℕ) : Type 0 where
  pub lacking : lacks wanted w ≡ true
  pub bytes : take (w.len - w.from) y ≡ window_of w x
  pub size : length y ≡ length x

abbrev pub EndsRight : Bool → Option (List ℕ) → Type 0
EndsRight ended left = ended ≡ true → IsAtEnd left

pub record Passed (w : Window) (n : ℕ) (r : Window) : Type 0 where
  pub from : r.from ≡ w.from + n
  pub len : r.len ≡ w.len
  pub ended : r.ended ≡ w.ended
