-- Numbers as text: one to thirteen decimal digits, with no zero in front, save 0 itself.
use Rattle.std.specs.Prelude.{ℕ, suc, ◌+◌, ◌-◌, ◌*◌, ◌^◌, ◌<◌, if◌then◌else◌, ◌&&◌, List, [], ◌∷◌, Ok, Err, Result, ◌==◌, nat_lt}
use Rattle.std.specs.Char.{is_ascii_digit}

-- the most digits that a number can have
abbrev pub most_digits : ℕ
most_digits = 13

-- the numbers with no more digits than that; `decimal` of std writes them
abbrev pub Writable : ℕ → Type 0
Writable n = n < 10 ^ most_digits

-- the number that a text goes on to write, after k digits that write n; or the place, from 1, of the byte at which it goes wrong
abbrev pub read_on : ℕ → ℕ → List ℕ → Result ℕ ℕ
read_on n k [] = Ok n
read_on n k (c ∷ cs) = if is_ascii_digit c && nat_lt k most_digits then read_on (n * 10 + (c - 48)) (suc k) cs else Err (suc k)

-- behind a 0 in front nothing may follow
abbrev pub read_zero : List ℕ → Result ℕ ℕ
read_zero [] = Ok 0
read_zero (c ∷ cs) = Err 2

-- the number that a text writes, or the place of the byte at which it goes wrong; a text without bytes goes wrong at its first
abbrev pub read_number : List ℕ → Result ℕ ℕ
read_number [] = Err 1
read_number (c ∷ cs) = if c == 48 then read_zero cs else read_on 0 0 (c ∷ cs)
