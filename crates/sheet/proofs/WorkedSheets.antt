-- Each worked sheet by computation.
use Rattle.std.proofs.Common.{refl}
use Rattle.std.specs.Fmt.{digits}
use Rattle.sheet.specs.Examples.{WorkedSheets}

pub worked_sheets : WorkedSheets
unfolding digits
worked_sheets = record {
  worked = refl;
  tabled = refl;
  past = refl;
  last = refl;
  full = refl;
  largest = refl;
  empty = refl;
  over = refl;
  cut = refl;
  no_fields = refl;
  few_numbers = refl;
  few_fields = refl;
  few_first = refl;
  many_fields = refl;
  few_ninth = refl;
  blank = refl;
  kind = refl;
  early = refl;
  ninth = refl;
  no_number = refl;
  zero_first = refl;
  letter = refl;
  long_number = refl;
  next_bell = refl;
  same_bell = refl;
  burst = refl;
  no_burst = refl;
  period = refl;
  no_period = refl;
  distance = refl;
  falling = refl;
  no_number_first = refl;
  first = refl;
  many_requests = refl;
  too_long = refl;
  long_enough = refl;
}
