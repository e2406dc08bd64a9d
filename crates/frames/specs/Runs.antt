-- What holds of every list of calls on a fresh frame.
use Rattle.std.specs.Prelude.{◌≡◌, ℕ, ◌+◌, IsTrue, if◌then◌else◌, ◌⊎◌, List, [], ◌∷◌, ◌++◌, length, map, Contains, take as first, Some, None, Ok, Option, ◌==◌}
use Rattle.limits.specs.Strokes.{NoLater}
use Rattle.limits.specs.Limits.{Limit}
use Rattle.rules.specs.Rules.{Meaning, pile}
use Rattle.frames.specs.Bells.{Bell, Bells, fresh, Answer, answered, answers, leaves}
use Rattle.frames.specs.declared.grant.Grant.{Grant}
use Rattle.frames.specs.declared.call.Action.{Action}
use Rattle.frames.specs.declared.call.Action.TheVariants.{Request, Gap, Waiting}
use Rattle.frames.specs.declared.call.Call.{Call}
use Rattle.frames.specs.declared.call.Reply.TheVariants.{Due, Taken, Since, Waits}

-- what bell n was asked, and what it answered
abbrev pub dialogue : ℕ → List Call → List Answer → List (Action × Answer)
dialogue n [] rs = []
dialogue n (c ∷ cs) [] = []
dialogue n (c ∷ cs) (r ∷ rs) = if n == c.bell then (c.action, r) ∷ dialogue n cs rs else dialogue n cs rs

-- the same after k calls
abbrev pub so_far : ℕ → ℕ → List Call → List Answer → List (Action × Answer)
so_far k n cs rs = dialogue n (first k cs) (first k rs)

-- the stroke that one call was granted, and the stroke that it was handed
abbrev pub grant : Action → Answer → List Grant
grant (Request t) (Ok (Due d)) = record { asked = t; due = d } ∷ []
grant _ _ = []

abbrev pub handing : Answer → List Grant
handing (Ok (Taken (Some s))) = s ∷ []
handing _ = []

-- the strokes that the bell granted, and those that it handed out, in order
abbrev pub granted : List (Action × Answer) → List Grant
granted [] = []
granted (p ∷ ps) = grant p.0 p.1 ++ granted ps

abbrev pub handed : List (Action × Answer) → List Grant
handed [] = []
handed (p ∷ ps) = handing p.1 ++ handed ps

abbrev pub asked_ticks : List Grant → List ℕ
asked_ticks ss = map (λ (s : Grant). s.asked) ss

abbrev pub due_ticks : List Grant → List ℕ
due_ticks ss = map (λ (s : Grant). s.due) ss

-- a timing: one number for each stroke asked for, none before it was asked, and the rule as hung allows them all
abbrev pub Timing : Meaning → List ℕ → List ℕ → Type 0
Timing hung asked ts = NoLater asked ts × IsTrue (hung.allows ts)

-- the due ticks are a timing, and every other timing has each stroke at the same tick or later
pub record Earliest (hung : Meaning) (asked due : List ℕ) : Type 0 where
  pub timing : Timing hung asked due
  pub least : (ts : List ℕ) → Timing hung asked ts → NoLater due ts

-- each limit of either list is in the other, by its numbers
abbrev pub SameLimits : List Limit → List Limit → Type 0
SameLimits xs ys = ((x : Limit) → Contains xs x → Contains ys x) × ((x : Limit) → Contains ys x → Contains xs x)

-- the second frame has at each number what the first has, or a pile of the same limits in the place of an unstruck pile
abbrev pub Exchanged : Option Bell → Option Bell → Type 0
Exchanged x y = (x ≡ y) ⊎ ((xs : List Limit) × (ys : List Limit) × SameLimits xs ys × (x ≡ Some (fresh (pile xs))) × (y ≡ Some (fresh (pile ys))))

abbrev pub Rehung : Bells → Bells → Type 0
Rehung f g = (n : ℕ) → Exchanged (f n) (g n)

-- for every number, with a bell or without, the same calls that name it, in the same order
abbrev pub asked_of : ℕ → List Call → List Action
asked_of n [] = []
asked_of n (c ∷ cs) = if n == c.bell then c.action ∷ asked_of n cs else asked_of n cs

abbrev pub Rearranged : List Call → List Call → Type 0
Rearranged cs ds = (n : ℕ) → asked_of n cs ≡ asked_of n ds

-- the strokes that wait
abbrev pub held : Option Bell → List Grant
held None = []
held (Some b) = b.waiting

-- the due tick of the last of some strokes, or the one before them
abbrev pub last_due : Option ℕ → List Grant → Option ℕ
last_due before [] = before
last_due before (s ∷ ss) = last_due (Some s.due) ss

-- a gap at t, whole: it reaches back to the due tick last handed out, and there is none where nothing was handed out
abbrev pub ReachesBack : ℕ → Option ℕ → Option ℕ → Type 0
ReachesBack t None None = Unit {0}
ReachesBack t (Some d) (Some g) = d + g ≡ t
ReachesBack t _ _ = ⊥

-- a run: the frame, the calls, their answers, and the frame that is left. A step is the number k of calls done
pub record Governed (f : Bells) (cs : List Call) (rs : List Answer) (g : Bells) : Type 0 where
  -- each call gets its answer, and the frame is left as the calls leave it
  pub answering : rs ≡ answers f cs
  pub leaving : g ≡ leaves f cs
  -- at every step, of all timings of a bell's granted requests that its rule allowed when hung, the due ticks are the earliest
  pub soonest : (k n : ℕ) (b : Bell) → f n ≡ Some b → Earliest b.rule (asked_ticks (granted (so_far k n cs rs))) (due_ticks (granted (so_far k n cs rs)))
  -- at every step the granted strokes are those handed out, and then those that wait, in order: none is lost, changed or overtaken
  pub queued : (k n : ℕ) → granted (so_far k n cs rs) ≡ handed (so_far k n cs rs) ++ held (leaves f (first k cs) n)
  -- so granted requests are as many as strokes handed out and what a call for those that wait would answer
  pub balanced : (k n w : ℕ) → answered (leaves f (first k cs)) n Waiting ≡ Ok (Waits w) → length (granted (so_far k n cs rs)) ≡ length (handed (so_far k n cs rs)) + w
  -- at every step a gap reaches back to the last stroke handed out, however long ago that was
  pub unclipped : (k n t : ℕ) (g : Option ℕ) → answered (leaves f (first k cs)) n (Gap t) ≡ Ok (Since g) → ReachesBack t (last_due None (handed (so_far k n cs rs))) g
  -- the order of the limits in a pile, and repeats, change no answer
  pub rehung : (f' : Bells) → Rehung f f' → answers f' cs ≡ rs
  -- no rearrangement that keeps each bell's own order changes what a call answers, or what a bell holds at the end
  pub rearranged : (ds : List Call) → Rearranged cs ds → (n : ℕ) → (dialogue n ds (answers f ds) ≡ dialogue n cs rs) × (leaves f ds n ≡ g n)
