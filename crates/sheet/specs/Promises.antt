-- What is promised of numbers, of the check and its faults, and of what is hung, run and audited.
use Rattle.std.specs.Prelude.{◌≡◌, ℕ, ◌+◌, ◌-◌, ◌<◌, ◌≤◌, ◌⊎◌, ◌↔◌, List, ◌++◌, map, length, take as first, Some, None, Ok, Err, decimal, MatchOption, slice_index}
use Rattle.limits.specs.Limits.{stair}
use Rattle.limits.specs.Making.{stair_made, distance_taken}
use Rattle.rules.specs.Rules.{Meaning, Order}
use Rattle.records.specs.Audits.{audit, Takes, Refuses}
use Rattle.frames.specs.Bells.{fresh, Answer, Fresh, Ruled, leaves}
use Rattle.frames.specs.Runs.{dialogue, handed, due_ticks, Governed}
use Rattle.sheet.specs.Numbers.{most_digits, Writable, read_number}
use Rattle.sheet.specs.Parts.{ends, first_lines}
use Rattle.sheet.specs.Sheet.{Entry, Sheet, sheet_text, most_bytes, Hangable, WellMade}
use Rattle.sheet.specs.Faults.{Fault, at}
use Rattle.sheet.specs.Check.{Row, row, check}
use Rattle.sheet.specs.Listing.{hung, call_of, answers_to, rung}
use Rattle.sheet.specs.declared.ask.Ask.{Ask}

-- a text reads as a number exactly if it is that number as it is written, and the number has no more than thirteen digits
abbrev pub NumbersReadBack : Type 0
NumbersReadBack = (text : List ℕ) (n : ℕ) → read_number text ≡ Ok n ↔ ((text ≡ decimal n) × Writable n)

-- byte b of a text is the first at which no number can go on
pub record GoesWrong (text : List ℕ) (b : ℕ) : Type 0 where
  pub place : (1 ≤ b) × (b ≤ most_digits + 1)
  -- the bytes before it are a number, if there are any
  pub before : (b ≡ 1) ⊎ ((n : ℕ) × (read_number (first (b - 1) text) ≡ Ok n))
  -- with it they begin none, whatever follows
  pub after : b ≤ length text → (rest : List ℕ) → read_number (first b text ++ rest) ≡ Err b
  -- only an empty text goes wrong behind its end
  pub empty : length text < b → (length text ≡ 0) × (b ≡ 1)

abbrev pub WrongByteIsFirst : Type 0
WrongByteIsFirst = (text : List ℕ) (b : ℕ) → read_number text ≡ Err b → GoesWrong text b

-- the check finds a sheet exactly if the bytes are that sheet as it is written, and it is well made; so no bytes have two readings
abbrev pub AcceptsWhatIsWritten : Type 0
AcceptsWhatIsWritten = (bytes : List ℕ) (s : Sheet) → check bytes ≡ Ok s ↔ ((bytes ≡ sheet_text s) × WellMade s)

-- an entry that can be hung is one whose limits can be made: neither its stairs nor any of its distances, one after another, is refused
abbrev pub LimitsCanBeMade : Type 0
LimitsCanBeMade = (e : Entry) → Hangable e → (stair_made e.burst₁ e.period₁ ≡ Ok (stair e.burst₁ e.period₁)) × (stair_made e.burst₂ e.period₂ ≡ Ok (stair e.burst₂ e.period₂)) × ((i : ℕ) → i < length e.distances → distance_taken (first i e.distances) (slice_index e.distances i) ≡ Ok tt)

-- bytes that are too many are refused as such, whatever they say
abbrev pub TooLongComesFirst : Type 0
TooLongComesFirst = (bytes : List ℕ) → most_bytes < length bytes → check bytes ≡ Err (at 1 0 6)

-- the line of a fault is the first that is wrong
pub record FirstFault (bytes : List ℕ) (f : Fault) : Type 0 where
  -- the lines before it begin a sheet that the check accepts
  pub before : (s : Sheet) × (rest : List ℕ) × (check (first_lines (f.line - 1) bytes ++ rest) ≡ Ok s)
  -- whatever follows it, the fault stays, so no sheet that begins like this is accepted
  pub after : (rest : List ℕ) → f.line ≤ ends bytes → length (first_lines f.line bytes ++ rest) ≤ most_bytes → check (first_lines f.line bytes ++ rest) ≡ Err f
  -- a line that has no byte 10, or that is missing, comes behind all that have one, and is at fault as a whole
  pub last : ends bytes < f.line → (f.line ≡ ends bytes + 1) × (f.field ≡ 0)

abbrev pub FaultyLineIsFirst : Type 0
FaultyLineIsFirst = (bytes : List ℕ) (f : Fault) → length bytes ≤ most_bytes → check bytes ≡ Err f → FirstFault bytes f

-- of the fields of a line from the second on, the field of a fault is the first that is wrong
pub record FirstField (k q : ℕ) (fields : List (List ℕ)) (f : Fault) : Type 0 where
  -- the fields before it begin a right line with as many fields
  pub before : (others : List (List ℕ)) × (r : Row) × (length others ≡ length fields) × (first (f.field - 1) others ≡ first (f.field - 1) fields) × (row k q others ≡ Ok r)
  -- whatever the fields behind it say, the fault stays
  pub after : (others : List (List ℕ)) → length others ≡ length fields → first f.field others ≡ first f.field fields → row k q others ≡ Err f

-- in line k, after q requests
abbrev pub FaultyFieldIsFirst : Type 0
FaultyFieldIsFirst = (k q : ℕ) (fields : List (List ℕ)) (f : Fault) → row k q fields ≡ Err f → 2 ≤ f.field → FirstField k q fields f

-- the bells of a sheet that is accepted are fresh, and their rules keep the laws that a run needs
abbrev pub BellsAreRuled : Type 0
BellsAreRuled = (bytes : List ℕ) (s : Sheet) → check bytes ≡ Ok s → Fresh (hung s.entries) × Ruled (hung s.entries)

-- so its calls are a governed run: the due ticks are the earliest, no stroke is lost, and all else that a run owes
abbrev pub CallsAreGoverned : Type 0
CallsAreGoverned = (bytes : List ℕ) (s : Sheet) → check bytes ≡ Ok s → Governed (hung s.entries) (map call_of s.asks) (answers_to s) (leaves (hung s.entries) (map call_of s.asks))

-- an audit answers none if the rule can be struck at all the ticks, and else the place of the first at which it can not
abbrev pub AuditsTellTheFirst : Type 0
AuditsTellTheFirst = (m : Meaning) → Order m → (ts : List ℕ) → MatchOption (audit m 1 ts) (Takes m ts) (Refuses m ts)

-- the strokes that are audited are those that the bell handed out in the run
abbrev pub StrokesAreThoseHandedOut : Type 0
StrokesAreThoseHandedOut = (n : ℕ) (asks : List Ask) (rs : List Answer) → rung n asks rs ≡ due_ticks (handed (dialogue n (map call_of asks) rs))

-- on a sheet that is accepted they always pass the audit on the bell's rule as hung
abbrev pub StrokesPassTheAudit : Type 0
StrokesPassTheAudit = (bytes : List ℕ) (s : Sheet) → check bytes ≡ Ok s → (n : ℕ) (m : Meaning) → hung s.entries n ≡ Some (fresh m) → audit m 1 (rung n s.asks (answers_to s)) ≡ None
