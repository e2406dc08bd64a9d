-- The due tick that a bell last handed out is that of the last stroke handed out, and its clock has passed it.
use Rattle.std.proofs.Common.{◌≡◌, ℕ, ◌≤◌, List, [], ◌∷◌, ◌++◌, Some, None, Ok, Option, unwrap_or, refl, arith}
use Rattle.std.proofs.lemmas.Bool.Decides.{nat_tests}
use Rattle.frames.specs.Bells.{Bell, answer_of, left_of}
use Rattle.frames.specs.Runs.{handing, handed, last_due, ReachesBack}
use Rattle.frames.specs.declared.grant.Grant.{Grant}
use Rattle.frames.specs.declared.call.Action.{Action}
use Rattle.frames.specs.declared.call.Action.TheVariants.{Gap}
use Rattle.frames.specs.declared.call.Reply.TheVariants.{Since}
use Rattle.frames.proofs.OneBell.{ran, kept}

last-append : (before : Option ℕ) (ss rs : List Grant) → last_due before (ss ++ rs) ≡ last_due (last_due before ss) rs
last-append before [] rs = refl
last-append before (s ∷ ss) rs = last-append (Some s.due) ss rs

-- a bell that last handed out this due tick, at or before its clock
abbrev pub Dated : Option Bell → Option ℕ → Type 0
Dated None due = Unit {0}
Dated (Some b) due = (b.handed ≡ due) × (unwrap_or b.handed 0 ≤ b.clock)

step_dated : (o : Option Bell) (x : Action) (due : Option ℕ) → Dated o due → Dated (left_of o x) (last_due due (handing (answer_of o x)))
step_dated o x due h = grind (arith, nat_tests)

pub dated_run : (o : Option Bell) (xs : List Action) (due : Option ℕ) → Dated o due → Dated (kept o xs) (last_due due (handed (ran o xs)))
dated_run o [] due h = h
dated_run o (x ∷ xs) due h =
    rw (last-append due (handing (answer_of o x)) (handed (ran (left_of o x) xs)))
    (dated_run (left_of o x) xs (last_due due (handing (answer_of o x))) (step_dated o x due h))

-- so a gap reaches back to it
pub reaches_back : (o : Option Bell) (t : ℕ) (due g : Option ℕ) → Dated o due → answer_of o (Gap t) ≡ Ok (Since g) → ReachesBack t due g
reaches_back o t due g d h = grind (arith, nat_tests)
