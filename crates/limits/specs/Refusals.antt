-- The number of each refusal, and answers with it.
use Rattle.std.specs.Prelude.{ℕ, List, Ok, Err, codes, Result}
use Rattle.limits.specs.declared.refusal.Refusal.{Refusal}
use Rattle.limits.specs.declared.refusal.Refusal.TheVariants.{NoBell, PastLastTick, OutOfRange, BeforeClock, Full, NoTick, NotAllowed}

abbrev pub number : Refusal → ℕ
number NoBell = 1
number PastLastTick = 2
number OutOfRange = 3
number BeforeClock = 11
number Full = 12
number NoTick = 13
number NotAllowed = 14

-- and its words, as they are printed
abbrev pub words : Refusal → List ℕ
words NoBell = codes "there is no such bell"
words PastLastTick = codes "the tick is past the last one"
words OutOfRange = codes "a number is out of range"
words BeforeClock = codes "the tick is before the bell's clock"
words Full = codes "there is no more room"
words NoTick = codes "no tick up to the last one suits"
words NotAllowed = codes "the rule blocks the stroke"

-- an answer, with what it holds told by f, and a refusal by its number
abbrev pub told_by : {T U : Type 0} → (T → U) → Result T Refusal → Result U ℕ
told_by f (Ok x) = Ok (f x)
told_by f (Err e) = Err (number e)

abbrev pub told : {T : Type 0} → Result T Refusal → Result T ℕ
told r = told_by (λ x. x) r
