-- A ringing sheet: what it says, the bytes that say it, and when it is well made.
use Rattle.std.specs.Prelude.{◌≡◌, ℕ, suc, ◌+◌, ◌≤◌, true, List, [], ◌∷◌, ◌++◌, map, length, decimal}
use Rattle.std.specs.List.{join_with_byte, flat_map, AllByRecursion}
use Rattle.limits.specs.Strokes.{longest, never_falls}
use Rattle.sheet.specs.Numbers.{Writable}
use Rattle.sheet.specs.Parts.{tab, newline}
use Rattle.sheet.specs.declared.ask.Wish.{Wish}
use Rattle.sheet.specs.declared.ask.Wish.TheVariants.{Request, Take, Gap}
use Rattle.sheet.specs.declared.ask.Ask.{Ask}

-- the entry of a bell: the bursts and periods of two stairs, and the distances of a table
pub record Entry : Type 0 where
  pub burst₁ : ℕ
  pub period₁ : ℕ
  pub burst₂ : ℕ
  pub period₂ : ℕ
  pub distances : List ℕ

-- a sheet: the entries of its bells, from bell 0 on, and then its calls
pub record Sheet : Type 0 where
  pub entries : List Entry
  pub asks : List Ask

-- the kind of a line: the entry of a bell, or a call
pub data Kind : Type 0 where
  bell : Kind
  call : Wish → Kind

-- the one byte that tells it: B for a bell; Q, T or G for a request, a take or a gap
abbrev pub letter : Kind → ℕ
letter bell = 66
letter (call Request) = 81
letter (call Take) = 84
letter (call Gap) = 71

-- the fields of bell n's line
abbrev pub entry_fields : ℕ → Entry → List (List ℕ)
entry_fields n e = (letter bell ∷ []) ∷ decimal n ∷ decimal e.burst₁ ∷ decimal e.period₁ ∷ decimal e.burst₂ ∷ decimal e.period₂ ∷ map decimal e.distances

-- the fields of a call's line
abbrev pub ask_fields : Ask → List (List ℕ)
ask_fields a = (letter (call a.wish) ∷ []) ∷ decimal a.bell ∷ decimal a.tick ∷ []

-- the lines of the entries, by their fields, from bell n on
abbrev pub entry_lines : ℕ → List Entry → List (List (List ℕ))
entry_lines n [] = []
entry_lines n (e ∷ es) = entry_fields n e ∷ entry_lines (suc n) es

-- a line as it is written: a tab between its fields, and a byte 10 at its end
abbrev pub line : List (List ℕ) → List ℕ
line fields = join_with_byte tab fields ++ (newline ∷ [])

-- a sheet as it is written
abbrev pub sheet_text : Sheet → List ℕ
sheet_text s = flat_map line (entry_lines 0 s.entries ++ map ask_fields s.asks)

-- one for a request, none for another call
abbrev pub one_request : Wish → ℕ
one_request Request = 1
one_request Take = 0
one_request Gap = 0

-- how many of the calls are requests
abbrev pub requests : List Ask → ℕ
requests [] = 0
requests (a ∷ asks) = one_request a.wish + requests asks

-- how many bells have an entry: those from 0 to 7
abbrev pub all_bells : ℕ
all_bells = 8

-- the most distances that an entry can have
abbrev pub most_distances : ℕ
most_distances = 16

-- the most requests that a sheet can have, whatever they are answered
abbrev pub most_requests : ℕ
most_requests = 1024

-- the most bytes that a sheet can have
abbrev pub most_bytes : ℕ
most_bytes = 16384

-- the bursts and periods that a stair can have
abbrev pub StairNumbers : ℕ → ℕ → Type 0
StairNumbers n p = (1 ≤ n) × (n ≤ 255) × (1 ≤ p) × (p ≤ longest)

-- an entry whose two stairs and whose table can be made
pub record Hangable (e : Entry) : Type 0 where
  pub stair₁ : StairNumbers e.burst₁ e.period₁
  pub stair₂ : StairNumbers e.burst₂ e.period₂
  pub few : length e.distances ≤ most_distances
  pub rising : never_falls e.distances ≡ true
  pub small : AllByRecursion (λ d. d ≤ longest) e.distances

-- a call whose numbers can be written; there may be no such bell, and no such tick
abbrev pub BothWritable : Ask → Type 0
BothWritable a = Writable a.bell × Writable a.tick

-- a sheet that keeps to all its bounds
pub record WellMade (s : Sheet) : Type 0 where
  pub eight : length s.entries ≡ all_bells
  pub hangable : AllByRecursion Hangable s.entries
  pub writable : AllByRecursion BothWritable s.asks
  pub few : requests s.asks ≤ most_requests
  pub short : length (sheet_text s) ≤ most_bytes
