-- The check of a sheet, in the order of its checks: what its bytes say, or the first fault in them.
use Rattle.std.specs.Prelude.{ℕ, suc, ◌+◌, ◌-◌, Bool, true, if◌then◌else◌, ◌&&◌, List, [], ◌∷◌, length, drop, Some, None, Ok, Err, Option, ◌==◌, nat_le, nat_lt, slice_index_or}
use Rattle.limits.specs.Strokes.{longest}
use Rattle.sheet.specs.Numbers.{read_number}
use Rattle.sheet.specs.Parts.{tab, newline, parted}
use Rattle.sheet.specs.Sheet.{Entry, Sheet, Kind, bell, call, letter, one_request, all_bells, most_requests, most_bytes, most_distances}
use Rattle.sheet.specs.Faults.{at, no_number, Checked, ◌>>=◌, must}
use Rattle.sheet.specs.declared.ask.Wish.{Wish}
use Rattle.sheet.specs.declared.ask.Wish.TheVariants.{Request, Take, Gap}
use Rattle.sheet.specs.declared.ask.Ask.{Ask}

-- field i of line k is a number
abbrev pub number_at : ℕ → ℕ → List ℕ → Checked ℕ
number_at k i text = elim (read_number text) [ Ok n ↦ Ok n | Err b ↦ Err (no_number k i b) ]

-- and then one from low to high, or there is fault x
abbrev pub range_at : ℕ → ℕ → ℕ → ℕ → ℕ → List ℕ → Checked ℕ
range_at k i x low high text = do
  n ← number_at k i text
  _ ← must (nat_le low n && nat_le n high) (at k i x)
  Ok n

-- the fields of line k from field i on are distances: none below low, none below the one before it
abbrev pub distances_at : ℕ → ℕ → ℕ → List (List ℕ) → Checked (List ℕ)
distances_at k i low [] = Ok []
distances_at k i low (text ∷ texts) = do
  d ← range_at k i 3 low longest text
  ds ← distances_at k (suc i) d texts
  Ok (d ∷ ds)

-- field i of a line, from 1
abbrev pub field_at : ℕ → List (List ℕ) → List ℕ
field_at i fields = slice_index_or fields (i - 1) []

-- the kind that a field tells: it has to be just one of the four letters
abbrev pub kind_of : List ℕ → Option Kind
kind_of [] = None
kind_of (c ∷ []) = if c == letter bell then Some bell else if c == letter (call Request) then Some (call Request) else if c == letter (call Take) then Some (call Take) else if c == letter (call Gap) then Some (call Gap) else None
kind_of (c ∷ d ∷ cs) = None

-- what a line adds to the sheet
pub data Row : Type 0 where
  of_bell : Entry → Row
  of_call : Ask → Row

-- line k of a bell: six fields and its distances; among the first eight lines; for the next bell; then its numbers, field by field
abbrev pub bell_row : ℕ → List (List ℕ) → Checked Row
bell_row k fields = do
  _ ← must (nat_le 6 (length fields) && nat_le (length fields) (6 + most_distances)) (at k 0 4)
  _ ← must (nat_le k all_bells) (at k 1 15)
  _ ← range_at k 2 15 (k - 1) (k - 1) (field_at 2 fields)
  n₁ ← range_at k 3 3 1 255 (field_at 3 fields)
  p₁ ← range_at k 4 3 1 longest (field_at 4 fields)
  n₂ ← range_at k 5 3 1 255 (field_at 5 fields)
  p₂ ← range_at k 6 3 1 longest (field_at 6 fields)
  ds ← distances_at k 7 0 (drop 6 fields)
  Ok (of_bell (record { burst₁ = n₁; period₁ = p₁; burst₂ = n₂; period₂ = p₂; distances = ds }))

-- whether there is room for the call after q requests
abbrev pub room : Wish → ℕ → Bool
room Request q = nat_lt q most_requests
room Take q = true
room Gap q = true

-- line k of a call, after q requests: three fields; behind the first eight lines; with room for it; then its numbers, whatever they are
abbrev pub call_row : ℕ → ℕ → Wish → List (List ℕ) → Checked Row
call_row k q w fields = do
  _ ← must (length fields == 3) (at k 0 4)
  _ ← must (nat_lt all_bells k) (at k 1 15)
  _ ← must (room w q) (at k 1 12)
  n ← number_at k 2 (field_at 2 fields)
  t ← number_at k 3 (field_at 3 fields)
  Ok (of_call (record { wish = w; bell = n; tick = t }))

-- line k, after q requests: its kind comes before all else
abbrev pub row_of : ℕ → ℕ → List (List ℕ) → Option Kind → Checked Row
row_of k q fields None = Err (at k 1 4)
row_of k q fields (Some bell) = bell_row k fields
row_of k q fields (Some (call w)) = call_row k q w fields

-- and its first field tells the kind
abbrev pub row : ℕ → ℕ → List (List ℕ) → Checked Row
row k q fields = row_of k q fields (kind_of (field_at 1 fields))

-- how many requests a line adds
abbrev pub requests_in : Row → ℕ
requests_in (of_bell e) = 0
requests_in (of_call a) = one_request a.wish

-- a sheet with one line more in front
abbrev pub with_row : Row → Sheet → Sheet
with_row (of_bell e) s = record { entries = e ∷ s.entries; asks = s.asks }
with_row (of_call a) s = record { entries = s.entries; asks = a ∷ s.asks }

-- the sheet from line k on, after q requests. What stands behind the last byte 10 has to be nothing, or it is a line without its byte 10;
-- and by then each bell has to have had its line. There is always a part, so the first clause is never needed
abbrev pub check_from : ℕ → ℕ → List (List ℕ) → Checked Sheet
check_from k q [] = Err (at k 0 4)
check_from k q (part ∷ []) = do
  _ ← must (length part == 0) (at k 0 4)
  _ ← must (nat_lt all_bells k) (at k 0 15)
  Ok (record { entries = []; asks = [] })
check_from k q (part ∷ next ∷ parts) = do
  r ← row k q (parted tab part)
  s ← check_from (suc k) (q + requests_in r) (next ∷ parts)
  Ok (with_row r s)

-- the whole sheet: its length comes before all else
abbrev pub check : List ℕ → Checked Sheet
check bytes = do
  _ ← must (nat_le (length bytes) most_bytes) (at 1 0 6)
  check_from 1 0 (parted newline bytes)
