-- The line that is printed for what happened (`Event`, src/lib.rt). Document 01, "The bench": "It prints `W` address answer; `K` block
-- answer; `F` length answer; for a burst `R` or `S`, address, bytes". "Addresses are 8 hex capitals, all other numbers decimal."
--     blank, newline    as bytes
--     digits_max, hex_digits   the most digits of a decimal number, and the digits of an address
--     decimal n, hex8 a the digits, as bytes
--     line_of e          the line, with its newline; a step without a burst prints nothing
--     sent_line, bad_line the last line
--     line_max           room enough for any line
--     Prints x i l y j  the buffer x becomes y: l stands there from i on and ends at j, and nothing else changed
-- Laws: proofs/LineLaws.antt, proofs/PrintLaws.antt. Assumes nothing: these are definitions.
use Rattle.std.specs.Prelude.{ℕ, zero, suc, ◌+◌, ◌/◌, ◌%◌, ◌≡◌, List, [], ◌∷◌, ◌++◌, length, ltb}
use Rattle.std.proofs.lemmas.List.Edits.{sets}
use Rattle.layout.specs.Choice.{pick}
use Rattle.phases.specs.declared.Burst.TheVariants.{Quiet, Read, Store}
use Rattle.records.specs.declared.Event.{Event}
use Rattle.records.specs.declared.Event.TheVariants.{Wrote, Changed, Framed, Moved}

-- at most k digits, the last of them at the end
abbrev pub digits_for : ℕ → ℕ → List ℕ
digits_for zero n = []
digits_for (suc k) n =
    let more = digits_for k (n / 10) ++ ((48 + n % 10) ∷ []) in pick (ltb n 10) ((48 + n) ∷ []) more

-- a number of 64 bits has at most 20 digits
abbrev pub digits_max : ℕ
digits_max = 20

unfoldable pub decimal : ℕ → List ℕ
decimal n = digits_for digits_max n

abbrev pub hex_digit : ℕ → ℕ
hex_digit d = pick (ltb d 10) (48 + d) (55 + d)

-- exactly k digits, the last of them at the end
abbrev pub hex_for : ℕ → ℕ → List ℕ
hex_for zero a = []
hex_for (suc k) a = hex_for k (a / 16) ++ (hex_digit (a % 16) ∷ [])

-- "Addresses are 8 hex capitals"
abbrev pub hex_digits : ℕ
hex_digits = 8

unfoldable pub hex8 : ℕ → List ℕ
hex8 a = hex_for hex_digits a

abbrev pub blank : ℕ
blank = 32

abbrev pub newline : ℕ
newline = 10

-- a blank, a number, a newline
abbrev pub tail_with : ℕ → List ℕ
tail_with n = (blank ∷ []) ++ (decimal n ++ (newline ∷ []))

-- a letter, a blank, a first part, and the tail
abbrev pub line_with : ℕ → List ℕ → ℕ → List ℕ
line_with letter part n = (letter ∷ blank ∷ []) ++ (part ++ tail_with n)

unfoldable pub line_of : Event → List ℕ
line_of (Wrote a n) = line_with 87 (hex8 a) n
line_of (Changed b n) = line_with 75 (decimal b) n
line_of (Framed l n) = line_with 70 (decimal l) n
line_of (Moved Quiet) = []
line_of (Moved (Read a n)) = line_with 82 (hex8 a) n
line_of (Moved (Store a n)) = line_with 83 (hex8 a) n

abbrev pub lines_of : List Event → List ℕ
lines_of [] = []
lines_of (e ∷ es) = line_of e ++ lines_of es

-- "last `sent` a `received` b"
unfoldable pub sent_line : ℕ → ℕ → List ℕ
sent_line a b =
    (115 ∷ 101 ∷ 110 ∷ 116 ∷ 32 ∷ [])
    ++ (decimal a
    ++ ((32 ∷ 114 ∷ 101 ∷ 99 ∷ 101 ∷ 105 ∷ 118 ∷ 101 ∷ 100 ∷ 32 ∷ []) ++ (decimal b ++ (newline ∷ []))))

-- "prints `bad record` and its offset in place of the `sent` line"
unfoldable pub bad_line : ℕ → List ℕ
bad_line offset = (98 ∷ 97 ∷ 100 ∷ 32 ∷ 114 ∷ 101 ∷ 99 ∷ 111 ∷ 114 ∷ 100 ∷ 32 ∷ []) ++ (decimal offset ++ (newline ∷ []))

-- no line has more bytes than this
abbrev pub line_max : ℕ
line_max = 64

-- `line` is stored in the buffer `before` from position `at` on, and ends at `end`
pub record Prints (before : List ℕ) (at : ℕ) (line : List ℕ) (after : List ℕ) (end : ℕ) : Type 0 where
  pub ends : end ≡ at + length line
  pub bytes : after ≡ sets before at line
