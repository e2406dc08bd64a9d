-- The strokes that a bell hands out: those that the stroke records tell, and they pass the audit on its rule as hung.
use Rattle.std.proofs.Common.{◌≡◌, ℕ, suc, ◌≤◌, true, false, cond, eqb, List, [], ◌∷◌, ◌++◌, map, length, take as first, drop, Some, None, Ok, Err, Option, sym, refl, ap, ◌∙◌, subst, arith, MatchOption}
use Rattle.std.specs.List.{AllByRecursion}
use Rattle.std.proofs.ByRecursion.{All-append, All-take}
use Rattle.std.proofs.lemmas.List.{take_all, take_at, take-append-drop}
use Rattle.std.proofs.lemmas.Bool.Decides.{nat_tests}
use Rattle.limits.specs.Strokes.{last_tick}
use Rattle.rules.specs.Rules.{Meaning, Order, Least, earliest}
use Rattle.rules.proofs.Least.{earliest_is}
use Rattle.records.specs.Audits.{audit, Takes, Refuses}
use Rattle.records.proofs.Audits.{audit_first}
use Rattle.frames.specs.Bells.{Bell, Bells, Answer, answer_of, outcome, left, answers, leaves}
use Rattle.frames.specs.Runs.{dialogue, grant, granted, handed, held, due_ticks, Governed}
use Rattle.frames.specs.declared.grant.Grant.{Grant}
use Rattle.frames.specs.declared.call.Action.{Action}
use Rattle.frames.specs.declared.call.Action.TheVariants.{Request, Take, Gap, Waiting}
use Rattle.frames.specs.declared.call.Call.{Call}
use Rattle.frames.specs.declared.call.Reply.TheVariants.{Due, Taken, Since, Waits}
use Rattle.sheet.specs.Listing.{call_of, rung}
use Rattle.sheet.specs.declared.ask.Ask.{Ask}

pub rung_handed : (n : ℕ) (asks : List Ask) (rs : List Answer) → rung n asks rs ≡ due_ticks (handed (dialogue n (map call_of asks) rs))
rung_handed n [] rs = refl
rung_handed n (a ∷ asks) [] = refl
rung_handed n (a ∷ asks) (r ∷ rs) = let rest = rung_handed n asks rs in grind (arith, nat_tests)

-- no stroke is granted past the last tick
abbrev InTime : ℕ → Type 0
InTime t = t ≤ last_tick

due_in_time : (b : Bell) (t d : ℕ) → (outcome b (Request t)).0 ≡ Ok (Due d) → d ≤ last_tick
due_in_time b t d e =
    let found : earliest b.rule t ≡ Some d = grind arith in
    let l : Least b.rule t (Some d) = rw found at (earliest_is b.rule t) in
    l.1

request_in_time : (b : Bell) (t : ℕ) (r : Answer) → (outcome b (Request t)).0 ≡ r → AllByRecursion InTime (due_ticks (grant (Request t) r))
request_in_time b t (Ok (Due d)) e = (due_in_time b t d e, tt)
request_in_time b t (Ok (Taken s)) e = tt
request_in_time b t (Ok (Since g)) e = tt
request_in_time b t (Ok (Waits k)) e = tt
request_in_time b t (Err k) e = tt

grant_in_time : (o : Option Bell) (x : Action) → AllByRecursion InTime (due_ticks (grant x (answer_of o x)))
grant_in_time None (Request t) = tt
grant_in_time (Some b) (Request t) = request_in_time b t (outcome b (Request t)).0 refl
grant_in_time o (Take t) = tt
grant_in_time o (Gap t) = tt
grant_in_time o Waiting = tt

due-append : (ss rs : List Grant) → due_ticks (ss ++ rs) ≡ due_ticks ss ++ due_ticks rs
due-append [] rs = refl
due-append (s ∷ ss) rs = ap (λ (ts : List ℕ). s.due ∷ ts) (due-append ss rs)

granted_in_time : (f : Bells) (n : ℕ) (cs : List Call) → AllByRecursion InTime (due_ticks (granted (dialogue n cs (answers f cs))))
granted_in_time f n [] = tt
granted_in_time f n (c ∷ cs) =
    let x = c.action in
    let r = answer_of (f c.bell) x in
    let ps = dialogue n cs (answers (left f c.bell x) cs) in
    let rest = granted_in_time (left f c.bell x) n cs in
    elim (eqb n c.bell) as (λ t. AllByRecursion InTime (due_ticks (granted (cond t ((x, r) ∷ ps) ps)))) [
      | true ↦ rw (due-append (grant x r) (granted ps)) (All-append InTime (due_ticks (grant x r)) (due_ticks (granted ps)) (grant_in_time (f c.bell) x) rest)
      | false ↦ rest
    ]

-- so the rule as hung takes all strokes that are handed out
takes_front : (m : Meaning) (ts us : List ℕ) → Order m → Takes m (ts ++ us) → Takes m ts
takes_front m ts us order h = (order.beginning ts us h.0, subst (AllByRecursion InTime) (take_at ts us (length ts) refl) (All-take InTime (length ts) (ts ++ us) h.1))

answers_length : (f : Bells) (cs : List Call) → length (answers f cs) ≡ length cs
answers_length f [] = refl
answers_length f (c ∷ cs) = ap suc (answers_length (left f c.bell c.action) cs)

handed_taken : (f : Bells) (cs : List Call) (n : ℕ) (b : Bell) → f n ≡ Some b → Order b.rule → Governed f cs (answers f cs) (leaves f cs) → Takes b.rule (due_ticks (handed (dialogue n cs (answers f cs))))
handed_taken f cs n b e order g =
    let rs = answers f cs in
    let long = answers_length f cs in
    let all : first (length cs) cs ≡ cs = take_all (length cs) cs (omega arith) in
    let each : first (length cs) rs ≡ rs = take_all (length cs) rs (omega arith) in
    let own = handed (dialogue n cs rs) in
    let waits = held (leaves f cs n) in
    let even : granted (dialogue n cs rs) ≡ own ++ waits = rw (all, each) at (g.queued (length cs) n) in
    let takes : Takes b.rule (due_ticks (granted (dialogue n cs rs))) = (rw (all, each) at (g.soonest (length cs) n b e).timing.1, granted_in_time f n cs) in
    takes_front b.rule (due_ticks own) (due_ticks waits) order (subst (Takes b.rule) (ap due_ticks even ∙ due-append own waits) takes)

-- and what it takes passes
pub taken_passes : (m : Meaning) (ts : List ℕ) → Order m → Takes m ts → audit m 1 ts ≡ None
taken_passes m ts order h = go (audit m 1 ts) (audit_first m ts order.empty)
  where
    go : (r : Option ℕ) → MatchOption r (Takes m ts) (Refuses m ts) → r ≡ None
    go None g = refl
    go (Some k) g = absurd (g.there (takes_front m (first k ts) (drop k ts) order (subst (Takes m) (sym (take-append-drop k ts)) h)))

pub handed_passes : (f : Bells) (asks : List Ask) (n : ℕ) (b : Bell) → f n ≡ Some b → Order b.rule → Governed f (map call_of asks) (answers f (map call_of asks)) (leaves f (map call_of asks)) → audit b.rule 1 (rung n asks (answers f (map call_of asks))) ≡ None
handed_passes f asks n b e order g =
    let cs = map call_of asks in
    taken_passes b.rule (rung n asks (answers f cs)) order (subst (Takes b.rule) (sym (rung_handed n asks (answers f cs))) (handed_taken f cs n b e order g))
