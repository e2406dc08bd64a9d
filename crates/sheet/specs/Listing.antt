-- The listing of a sheet, which is what is written for it: a line for each call and an audit of each bell, or one line for its fault.
use Rattle.std.specs.Prelude.{ℕ, zero, suc, List, [], ◌∷◌, ◌++◌, map, Some, None, Ok, Err, codes, decimal, Option}
use Rattle.std.specs.List.{flat_map}
use Rattle.limits.specs.Limits.{Limit, stair, table}
use Rattle.rules.specs.Rules.{Meaning, pile}
use Rattle.records.specs.Audits.{ticks_of, audit}
use Rattle.records.specs.declared.request.Request.{Request as RequestRecord}
use Rattle.records.specs.declared.stroke.Stroke.{Stroke as StrokeRecord}
use Rattle.frames.specs.Bells.{Bells, fresh, Answer, answers}
use Rattle.frames.specs.Runs.{handing}
use Rattle.frames.specs.declared.grant.Grant.{Grant}
use Rattle.frames.specs.declared.call.Action.{Action}
use Rattle.frames.specs.declared.call.Action.TheVariants.{Request as request, Take as take, Gap as gap}
use Rattle.frames.specs.declared.call.Call.{Call}
use Rattle.frames.specs.declared.call.Reply.TheVariants.{Due, Taken, Since, Waits}
use Rattle.sheet.specs.Sheet.{Entry, Sheet, ask_fields, line}
use Rattle.sheet.specs.Faults.{Fault, Checked}
use Rattle.sheet.specs.Check.{check}
use Rattle.sheet.specs.declared.ask.Wish.{Wish}
use Rattle.sheet.specs.declared.ask.Wish.TheVariants.{Request, Take, Gap}
use Rattle.sheet.specs.declared.ask.Ask.{Ask}

-- the limits of an entry, the one that is laid last in front: the first stair is laid first, then the second stair, then the table
abbrev pub limits_of : Entry → List Limit
limits_of e = table e.distances ∷ stair e.burst₂ e.period₂ ∷ stair e.burst₁ e.period₁ ∷ []

-- the rule of an entry's bell as it is hung
abbrev pub rule_of : Entry → Meaning
rule_of e = pile (limits_of e)

-- the frame: a bell for each entry, from bell 0 on, each as it is hung
abbrev pub hung : List Entry → Bells
hung [] n = None
hung (e ∷ es) zero = Some (fresh (rule_of e))
hung (e ∷ es) (suc n) = hung es n

-- what a call of the sheet asks of a bell
abbrev pub action_of : Wish → ℕ → Action
action_of Request t = request t
action_of Take t = take t
action_of Gap t = gap t

-- a call of the sheet as a call on the frame
abbrev pub call_of : Ask → Call
call_of a = record { bell = a.bell; action = action_of a.wish a.tick }

-- what the sheet's calls are answered, one after another, on its bells as they are hung
abbrev pub answers_to : Sheet → List Answer
answers_to s = answers (hung s.entries) (map call_of s.asks)

-- a tick as it is written, or `-` for none
abbrev pub tick_text : Option ℕ → List ℕ
tick_text None = codes "-"
tick_text (Some t) = decimal t

-- an answer as it is written: `!` and its number for a refusal, and of a stroke that was handed out its due tick
abbrev pub answer_text : Answer → List ℕ
answer_text (Err x) = codes "!" ++ decimal x
answer_text (Ok (Due d)) = decimal d
answer_text (Ok (Taken None)) = tick_text None
answer_text (Ok (Taken (Some s))) = tick_text (Some s.due)
answer_text (Ok (Since g)) = tick_text g
answer_text (Ok (Waits n)) = decimal n

-- the lines of the calls: the call's own fields, and its answer
abbrev pub call_lines : List Ask → List Answer → List (List (List ℕ))
call_lines [] rs = []
call_lines (a ∷ asks) [] = []
call_lines (a ∷ asks) (r ∷ rs) = (ask_fields a ++ (answer_text r ∷ [])) ∷ call_lines asks rs

-- the records of the requests, granted or not
abbrev pub request_records : List Ask → List RequestRecord
request_records [] = []
request_records (a ∷ asks) = elim a.wish [ Request ↦ record { bell = a.bell; tick = a.tick } ∷ request_records asks | Take ↦ request_records asks | Gap ↦ request_records asks ]

-- the record of a stroke of bell n
abbrev pub stroke_record : ℕ → Grant → StrokeRecord
stroke_record n s = record { bell = n; asked = s.asked; due = s.due }

-- the records of the strokes that were handed out
abbrev pub stroke_records : List Ask → List Answer → List StrokeRecord
stroke_records [] rs = []
stroke_records (a ∷ asks) [] = []
stroke_records (a ∷ asks) (r ∷ rs) = map (stroke_record a.bell) (handing r) ++ stroke_records asks rs

-- the ticks that bell n was asked for
abbrev pub asked : ℕ → List Ask → List ℕ
asked n asks = ticks_of (λ r. r.bell) (λ r. r.tick) n (request_records asks)

-- the due ticks of the strokes that it handed out
abbrev pub rung : ℕ → List Ask → List Answer → List ℕ
rung n asks rs = ticks_of (λ r. r.bell) (λ r. r.due) n (stroke_records asks rs)

-- the lines of the audits, from bell n on: the audit of its requests and that of its strokes, each on its rule as hung
abbrev pub audit_lines : ℕ → List Entry → List Ask → List Answer → List (List (List ℕ))
audit_lines n [] asks rs = []
audit_lines n (e ∷ es) asks rs = (codes "A" ∷ decimal n ∷ tick_text (audit (rule_of e) 1 (asked n asks)) ∷ tick_text (audit (rule_of e) 1 (rung n asks rs)) ∷ []) ∷ audit_lines (suc n) es asks rs

-- all lines of a sheet whose calls were answered so
abbrev pub sheet_lines : Sheet → List Answer → List (List (List ℕ))
sheet_lines s rs = call_lines s.asks rs ++ audit_lines 0 s.entries s.asks rs

-- the one line of a fault
abbrev pub fault_fields : Fault → List (List ℕ)
fault_fields f = codes "E" ∷ decimal f.line ∷ decimal f.field ∷ decimal f.number ∷ decimal f.byte ∷ []

-- what is written once a sheet is checked
abbrev pub listed : Checked Sheet → List ℕ
listed (Err f) = line (fault_fields f)
listed (Ok s) = flat_map line (sheet_lines s (answers_to s))

-- what is written for a sheet's bytes
abbrev pub listing : List ℕ → List ℕ
listing bytes = listed (check bytes)
