-- Worked sheets, in one statement: what is written for each.
use Rattle.std.specs.Prelude.{◌≡◌, ℕ, zero, suc, if◌then◌else◌, List, [], ◌++◌, map, replicate, codes, ◌==◌}
use Prim.Native.String.{String}
use Rattle.sheet.specs.Parts.{tab, newline}
use Rattle.sheet.specs.Listing.{listing}

-- bytes as they are shown here: a blank stands for a tab, a slash for the end of a line
abbrev pub typed : ℕ → ℕ
typed c = if c == 32 then tab else if c == 47 then newline else c

-- the bytes that a text shows
abbrev pub bytes : String → List ℕ
bytes text = map typed (codes text)

-- what is written for the first is what the second shows
abbrev pub Gives : List ℕ → String → Type 0
Gives sheet text = listing sheet ≡ bytes text

-- bells 1 to 7, each with two stairs and no table
abbrev pub others : List ℕ
others = bytes "B 1 2 100 3 400/B 2 2 100 3 400/B 3 2 100 3 400/B 4 2 100 3 400/B 5 2 100 3 400/B 6 2 100 3 400/B 7 2 100 3 400/"

-- all eight bells like that
abbrev pub bells : List ℕ
bells = bytes "B 0 2 100 3 400/" ++ others

-- a text k times
abbrev pub times : ℕ → List ℕ → List ℕ
times zero text = []
times (suc k) text = text ++ times k text

pub record WorkedSheets : Type 0 where
  -- requests, takes and gaps at one bell, and a call for a bell that there is not
  pub worked : Gives (bells ++ bytes "Q 0 0/Q 0 0/Q 0 0/Q 0 50/T 0 60/Q 0 40/G 0 60/T 0 60/T 0 60/Q 8 60/") "Q 0 0 0/Q 0 0 0/Q 0 0 100/Q 0 50 400/T 0 60 0/Q 0 40 !11/G 0 60 60/T 0 60 0/T 0 60 -/Q 8 60 !1/A 0 3 -/A 1 - -/A 2 - -/A 3 - -/A 4 - -/A 5 - -/A 6 - -/A 7 - -/"
  -- bell 0 with a table; a stroke is told by its due tick
  pub tabled : Gives (bytes "B 0 1 1 5 1 10 30/" ++ others ++ bytes "Q 0 0/Q 0 0/Q 0 5/T 0 5/T 0 9/T 0 10/G 0 25/Q 1 3/T 1 3/T 1 5/T 0 30/T 0 31/") "Q 0 0 0/Q 0 0 10/Q 0 5 30/T 0 5 0/T 0 9 -/T 0 10 10/G 0 25 15/Q 1 3 3/T 1 3 3/T 1 5 -/T 0 30 30/T 0 31 -/A 0 2 -/A 1 - -/A 2 - -/A 3 - -/A 4 - -/A 5 - -/A 6 - -/A 7 - -/"
  -- a call's numbers are judged when it runs, and a tick past the last one counts in the audit
  pub past : Gives (bells ++ bytes "Q 9999999999999 0/Q 0 1000000000001/G 0 5/T 0 5/") "Q 9999999999999 0 !1/Q 0 1000000000001 !2/G 0 5 -/T 0 5 -/A 0 1 -/A 1 - -/A 2 - -/A 3 - -/A 4 - -/A 5 - -/A 6 - -/A 7 - -/"
  -- the last tick, and none is left behind it
  pub last : Gives (bytes "B 0 1 1000000000 1 1/" ++ others ++ bytes "Q 0 1000000000000/Q 0 1000000000000/") "Q 0 1000000000000 1000000000000/Q 0 1000000000000 !13/A 0 2 -/A 1 - -/A 2 - -/A 3 - -/A 4 - -/A 5 - -/A 6 - -/A 7 - -/"
  -- a bell where as many strokes wait as can
  pub full : listing (bytes "B 0 255 1 255 1/" ++ others ++ times 33 (bytes "Q 0 0/")) ≡ times 32 (bytes "Q 0 0 0/") ++ bytes "Q 0 0 !12/A 0 - -/A 1 - -/A 2 - -/A 3 - -/A 4 - -/A 5 - -/A 6 - -/A 7 - -/"
  -- the largest numbers of an entry, and as many distances as it can have
  pub largest : Gives (bytes "B 0 255 1000000000 1 1 0 1 2 3 4 5 6 7 8 9 10 11 12 13 14 1000000000/" ++ others) "A 0 - -/A 1 - -/A 2 - -/A 3 - -/A 4 - -/A 5 - -/A 6 - -/A 7 - -/"
  -- the line as a whole: no line at all, the sheet over before eight bells, a line without its end, too few fields or too many
  pub empty : Gives [] "E 1 0 15 0/"
  pub over : Gives (bytes "B 0 2 100 3 400/B 1 2 100 3 400/B 2 2 100 3 400/B 3 2 100 3 400/B 4 2 100 3 400/B 5 2 100 3 400/B 6 2 100 3 400/") "E 8 0 15 0/"
  pub cut : Gives (bells ++ bytes "X") "E 9 0 4 0/"
  pub no_fields : Gives (bytes "B/") "E 1 0 4 0/"
  pub few_numbers : Gives (bytes "B 0 2 100 3/") "E 1 0 4 0/"
  pub few_fields : Gives (bells ++ bytes "Q 0/") "E 9 0 4 0/"
  pub few_first : Gives (bytes "Q 0/") "E 1 0 4 0/"
  pub many_fields : Gives (bytes "B 0 2 100 3 400 1 1 1 1 1 1 1 1 1 1 1 1 1 1 1 1 1/") "E 1 0 4 0/"
  pub few_ninth : Gives (bells ++ bytes "B 8/") "E 9 0 4 0/"
  -- its kind, and its place
  pub blank : Gives (bytes "/") "E 1 1 4 0/"
  pub kind : Gives (bytes "BB 0 2 100 3 400/") "E 1 1 4 0/"
  pub early : Gives (bytes "Q 0 0/") "E 1 1 15 0/"
  pub ninth : Gives (bells ++ bytes "B 8 2 100 3 400/") "E 9 1 15 0/"
  -- its numbers: an empty one, a zero in front, a letter, a fourteenth digit
  pub no_number : Gives (bytes "B 0  100 3 400/") "E 1 3 5 1/"
  pub zero_first : Gives (bytes "B 0 02 100 3 400/") "E 1 3 5 2/"
  pub letter : Gives (bells ++ bytes "Q 0 12x/") "E 9 3 5 3/"
  pub long_number : Gives (bytes "B 0 2 12345678901234 3 400/") "E 1 4 5 14/"
  -- their ranges: a bell that is not the next, a burst, a period, a distance that falls
  pub next_bell : Gives (bytes "B 1 2 100 3 400/") "E 1 2 15 0/"
  pub same_bell : Gives (bytes "B 0 2 100 3 400/B 0 2 100 3 400/") "E 2 2 15 0/"
  pub burst : Gives (bytes "B 0 256 100 3 400/") "E 1 3 3 0/"
  pub no_burst : Gives (bytes "B 0 2 100 0 400/") "E 1 5 3 0/"
  pub period : Gives (bytes "B 0 2 1000000001 3 400/") "E 1 4 3 0/"
  pub no_period : Gives (bytes "B 0 2 100 3 0/") "E 1 6 3 0/"
  pub distance : Gives (bytes "B 0 2 100 3 400 1000000001/") "E 1 7 3 0/"
  pub falling : Gives (bytes "B 0 2 100 3 400 30 10/") "E 1 8 3 0/"
  -- of several faults the first: of a field that is no number, and of two fields
  pub no_number_first : Gives (bytes "B 0 300x 100 3 400/") "E 1 3 5 4/"
  pub first : Gives (bytes "B 0 0 0x 3 400/X/") "E 1 3 3 0/"
  -- one request too many, a sheet that is too long, and one that is just not
  pub many_requests : Gives (bells ++ times 1024 (bytes "Q 8 0/") ++ bytes "Q x 0/") "E 1033 1 12 0/"
  pub too_long : Gives (replicate 16385 newline) "E 1 0 6 0/"
  pub long_enough : Gives (replicate 16384 newline) "E 1 1 4 0/"
