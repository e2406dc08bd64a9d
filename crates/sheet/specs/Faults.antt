-- The faults of a sheet, and the steps of a check: each finds something, or ends the check with a fault.
use Rattle.std.specs.Prelude.{ℕ, Bool, true, false, Ok, Err, Result}

-- a fault: its line, from 1; its field, from 1, or 0 for the line as a whole; its number; and the byte, from 1, at which a number goes wrong, else 0
pub record Fault : Type 0 where
  pub line : ℕ
  pub field : ℕ
  pub number : ℕ
  pub byte : ℕ

-- fault x in field i of line k. The numbers: 3 is out of range; 4 an unknown kind, a wrong number of fields or a line without its byte 10;
-- 6 a sheet that is too long; 12 one request too many; 15 a line or a bell out of place
abbrev pub at : ℕ → ℕ → ℕ → Fault
at k i x = record { line = k; field = i; number = x; byte = 0 }

-- fault 5, no number, in field i of line k, which goes wrong at byte b
abbrev pub no_number : ℕ → ℕ → ℕ → Fault
no_number k i b = record { line = k; field = i; number = 5; byte = b }

-- what a step of the check finds, or the fault that ends the check
abbrev pub Checked : Type 0 → Type 0
Checked A = Result A Fault

-- one step, and the next where it found something
infixl 20 ◌>>=◌
abbrev pub ◌>>=◌ : {A B : Type 0} → Checked A → (A → Checked B) → Checked B
Ok a >>= next = next a
Err e >>= next = Err e

-- a condition, and the fault where it fails
abbrev pub must : Bool → Fault → Checked (Unit {0})
must true e = Ok tt
must false e = Err e
