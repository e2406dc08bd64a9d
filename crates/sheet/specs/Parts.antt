-- Bytes cut into parts: a sheet into lines at each byte 10, a line into fields at each tab.
use Rattle.std.specs.Prelude.{ℕ, zero, suc, ◌+◌, if◌then◌else◌, List, [], ◌∷◌, ◌==◌}

-- the byte that parts the fields of a line
abbrev pub tab : ℕ
tab = 9

-- the byte that ends a line
abbrev pub newline : ℕ
newline = 10

-- one byte more in front of the first part
abbrev pub lengthened : ℕ → List (List ℕ) → List (List ℕ)
lengthened c [] = []
lengthened c (p ∷ ps) = (c ∷ p) ∷ ps

-- what stands before, between and behind the bytes s: always one part more than there are such bytes.
-- `join_with_byte s` of std puts them together again
abbrev pub parted : ℕ → List ℕ → List (List ℕ)
parted s [] = [] ∷ []
parted s (c ∷ cs) = if c == s then [] ∷ parted s cs else lengthened c (parted s cs)

-- how many lines have their byte 10
abbrev pub ends : List ℕ → ℕ
ends [] = 0
ends (c ∷ cs) = (if c == newline then 1 else 0) + ends cs

-- the first k of these lines, each with its byte 10; all bytes where there are fewer
abbrev pub first_lines : ℕ → List ℕ → List ℕ
first_lines zero bytes = []
first_lines (suc k) [] = []
first_lines (suc k) (c ∷ cs) = c ∷ first_lines (if c == newline then k else suc k) cs
