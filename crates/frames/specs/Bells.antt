-- A bell's state, the four calls on a frame of bells, and what each answers and leaves.
use Rattle.std.specs.Prelude.{◌≡◌, ℕ, ◌-◌, ◌/◌, ◌%◌, if◌then◌else◌, List, [], ◌∷◌, ◌++◌, length, Some, None, Ok, Err, Option, Result, ◌==◌, nat_le, nat_lt}
use Rattle.limits.specs.Strokes.{last_tick}
use Rattle.rules.specs.Rules.{Meaning, Order, Early, struck, earliest}
use Rattle.frames.specs.declared.grant.Grant.{Grant}
use Rattle.frames.specs.declared.call.Action.{Action}
use Rattle.frames.specs.declared.call.Action.TheVariants.{Request, Take, Gap, Waiting}
use Rattle.frames.specs.declared.call.Call.{Call}
use Rattle.frames.specs.declared.call.Reply.{Reply}
use Rattle.frames.specs.declared.call.Reply.TheVariants.{Due, Taken, Since, Waits}

-- a bell: what its rule means, its clock, the strokes that wait, and the due tick last handed out
pub record Bell : Type 0 where
  pub rule : Meaning
  pub clock : ℕ
  pub waiting : List Grant
  pub handed : Option ℕ

-- a bell as it is hung: its rule may have been struck before
abbrev pub fresh : Meaning → Bell
fresh m = record { rule = m; clock = 0; waiting = []; handed = None }

-- the most strokes that wait at one bell
abbrev pub most_waiting : ℕ
most_waiting = 32

-- an answer: a reply, or the number of a refusal
abbrev pub Answer : Type 0
Answer = Result Reply ℕ

-- an answer, and the bell that is left
abbrev pub Outcome : Type 0
Outcome = Answer × Bell

-- a tick that a call brings, with the bell's clock: past the last tick it is refused by 2, before the clock by 11
abbrev pub timely : ℕ → ℕ → Result (Unit {0}) ℕ
timely clock t = if nat_lt last_tick t then Err 2 else if nat_lt t clock then Err 11 else Ok tt

-- where it is refused, that is the answer, and the bell stays as it was
abbrev pub outcome_unless_refused : Result (Unit {0}) ℕ → Bell → Outcome → Outcome
outcome_unless_refused (Ok _) b o = o
outcome_unless_refused (Err k) b o = (Err k, b)

abbrev pub in_time : Bell → ℕ → Outcome → Outcome
in_time b t o = outcome_unless_refused (timely b.clock t) b o

-- a request at t that finds no tick is refused by 13; else it is due at the tick found, and the stroke joins the end of those that wait
abbrev pub granted_at : Bell → ℕ → Option ℕ → Outcome
granted_at b t None = (Err 13, b)
granted_at b t (Some d) = (Ok (Due d), record { rule = struck d b.rule; clock = t; waiting = b.waiting ++ (record { asked = t; due = d } ∷ []); handed = b.handed })

-- where as many strokes wait as can, it is refused by 12
abbrev pub requested : Bell → ℕ → Outcome
requested b t = in_time b t (if nat_le most_waiting (length b.waiting) then (Err 12, b) else granted_at b t (earliest b.rule t))

-- the first of them, if there is one
abbrev pub oldest : List Grant → Option Grant
oldest [] = None
oldest (s ∷ ss) = Some s

-- a take at t hands out the oldest stroke that waits, if it is due by then
abbrev pub handed_at : Bell → ℕ → List Grant → Outcome
handed_at b t [] = (Ok (Taken None), record { rule = b.rule; clock = t; waiting = []; handed = b.handed })
handed_at b t (s ∷ ss) = if nat_le s.due t
    then (Ok (Taken (Some s)), record { rule = b.rule; clock = t; waiting = ss; handed = Some s.due })
    else (Ok (Taken None), record { rule = b.rule; clock = t; waiting = s ∷ ss; handed = b.handed })

-- the ticks from the due tick last handed out to t
abbrev pub gap_since : ℕ → Option ℕ → Option ℕ
gap_since t None = None
gap_since t (Some d) = Some (t - d)

abbrev pub outcome : Bell → Action → Outcome
outcome b (Request t) = requested b t
outcome b (Take t) = in_time b t (handed_at b t b.waiting)
outcome b (Gap t) = in_time b t (Ok (Since (gap_since t b.handed)), b)
outcome b Waiting = (Ok (Waits (length b.waiting)), b)

-- a frame: for each number no bell, or one bell's state
abbrev pub Bells : Type 0
Bells = ℕ → Option Bell

-- on a number without a bell every call is refused by 1
abbrev pub answer_of : Option Bell → Action → Answer
answer_of None x = Err 1
answer_of (Some b) x = (outcome b x).0

abbrev pub left_of : Option Bell → Action → Option Bell
left_of None x = None
left_of (Some b) x = Some (outcome b x).1

-- what bell n of a frame answers, and the frame that is left: no other bell changes
abbrev pub answered : Bells → ℕ → Action → Answer
answered f n x = answer_of (f n) x

abbrev pub left : Bells → ℕ → Action → Bells
left f n x k = if k == n then left_of (f k) x else f k

-- the same of a list of calls
abbrev pub answers : Bells → List Call → List Answer
answers f [] = []
answers f (c ∷ cs) = answered f c.bell c.action ∷ answers (left f c.bell c.action) cs

abbrev pub leaves : Bells → List Call → Bells
leaves f [] = f
leaves f (c ∷ cs) = leaves (left f c.bell c.action) cs

-- a line is a frame with bell 0 alone
abbrev pub alone : Bell → Bells
alone b n = if n == 0 then Some b else None

-- two frames side by side: an even number is a bell of the left one, an odd number of the right one
abbrev pub beside : Bells → Bells → Bells
beside l r n = if n % 2 == 0 then l (n / 2) else r ((n - 1) / 2)

-- something holds of every bell of a frame
abbrev pub Every : (Bell → Type 0) → Bells → Type 0
Every P f = (n : ℕ) (b : Bell) → f n ≡ Some b → P b

-- each is as it was hung
abbrev pub Fresh : Bells → Type 0
Fresh = Every (λ b. b ≡ fresh b.rule)

-- the rule of each keeps the first two laws
abbrev pub Ruled : Bells → Type 0
Ruled = Every (λ b. Order b.rule × Early b.rule)
