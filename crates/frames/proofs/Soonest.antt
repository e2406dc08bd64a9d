-- A bell's granted strokes are always the soonest.
use Rattle.std.proofs.Common.{◌≡◌, ℕ, ◌<◌, ◌≤◌, true, false, List, [], ◌∷◌, ◌++◌, Some, Ok, sym, refl, ap, ◌∙◌, append_assoc, append-nil, arith}
use Rattle.std.proofs.lemmas.List.{map_push}
use Rattle.limits.specs.Strokes.{NoLater}
use Rattle.rules.specs.Rules.{Meaning, Order, Early, earliest, struck}
use Rattle.frames.specs.Bells.{Bell, Answer, Outcome, outcome}
use Rattle.frames.specs.Runs.{grant, granted, asked_ticks, due_ticks, Earliest}
use Rattle.frames.specs.declared.grant.Grant.{Grant}
use Rattle.frames.specs.declared.call.Action.{Action}
use Rattle.frames.specs.declared.call.Action.TheVariants.{Request}
use Rattle.frames.specs.declared.call.Reply.TheVariants.{Due}
use Rattle.frames.proofs.OneBell.{ran}
use Rattle.rules.proofs.Least.{earliest_is}

no_later_push : (ts us : List ℕ) (a v : ℕ) → NoLater ts us → a ≤ v → NoLater (ts ++ (a ∷ [])) (us ++ (v ∷ []))
no_later_push [] [] a v h l = (l, tt)
no_later_push [] (u ∷ us) a v h l = elim h [ ]
no_later_push (t ∷ ts) [] a v h l = elim h [ ]
no_later_push (t ∷ ts) (u ∷ us) a v h l = (h.0, no_later_push ts us a v h.1 l)

-- a list that matches one with a last stroke has a last stroke too
record Pushed (ts : List ℕ) (a : ℕ) (us : List ℕ) : Type 0 where
  pub front : List ℕ
  pub end : ℕ
  pub is : us ≡ front ++ (end ∷ [])
  pub fronts : NoLater ts front
  pub ends : a ≤ end

no_later_parts : (ts : List ℕ) (a : ℕ) (us : List ℕ) → NoLater (ts ++ (a ∷ [])) us → Pushed ts a us
no_later_parts [] a [] h = elim h [ ]
no_later_parts [] a (u ∷ []) h = record { front = []; end = u; is = refl; fronts = tt; ends = h.0 }
no_later_parts [] a (u ∷ v ∷ us) h = elim h.1 [ ]
no_later_parts (t ∷ ts) a [] h = elim h [ ]
no_later_parts (t ∷ ts) a (u ∷ us) h =
    let p = no_later_parts ts a us h.1 in
    record { front = u ∷ p.front; end = p.end; is = ap (λ (r : List ℕ). u ∷ r) p.is; fronts = (h.0, p.fronts); ends = p.ends }

abbrev pub Soon : Meaning → List Grant → Type 0
Soon hung ss = Earliest hung (asked_ticks ss) (due_ticks ss)

-- the granted strokes are the soonest, and the bell's rule was struck at each of them
record Good (hung : Meaning) (ss : List Grant) (b : Bell) : Type 0 where
  pub rules : (us : List ℕ) → b.rule.allows us ≡ hung.allows (due_ticks ss ++ us)
  pub soon : Soon hung ss

module _ (hung : Meaning) (order : Order hung) (early : Early hung) where
  -- one more stroke, at the least tick from a on that the rule so far allows
  one_more : (ss : List Grant) (s : Grant) → Soon hung ss → s.asked ≤ s.due → hung.allows (due_ticks ss ++ (s.due ∷ [])) ≡ true → ((u : ℕ) → s.asked ≤ u → u < s.due → hung.allows (due_ticks ss ++ (u ∷ [])) ≡ false) → Soon hung (ss ++ (s ∷ []))
  one_more ss s h l ok none = record {
    timing = rw (map_push, map_push) (no_later_push (asked_ticks ss) (due_ticks ss) s.asked s.due h.timing.0 l, ok);
    least = λ ts t. rw map_push (go ts (no_later_parts (asked_ticks ss) s.asked ts (rw map_push at t.0)) t.1);
  }
    where
      last : (front : List ℕ) (v : ℕ) → NoLater (asked_ticks ss) front → s.asked ≤ v → hung.allows (front ++ (v ∷ [])) ≡ true → NoLater (due_ticks ss ++ (s.due ∷ [])) (front ++ (v ∷ []))
      last front v m a k =
          let fs = h.least front (m, order.beginning front (v ∷ []) k) in
          no_later_push (due_ticks ss) front s.due v fs
          (grind (arith, none v a, early (due_ticks ss) front v fs h.timing.1 k))

      go : (ts : List ℕ) → Pushed (asked_ticks ss) s.asked ts → hung.allows ts ≡ true → NoLater (due_ticks ss ++ (s.due ∷ [])) ts
      go ts p k = rw p.is (last p.front p.end p.fronts p.ends (rw p.is at k))

  -- what one call leaves
  abbrev After : List Grant → Action → Outcome → Type 0
  After ss x o = Good hung (ss ++ grant x o.0) o.1

  -- an answer that is no grant leaves the strokes as they were
  same_after : (ss : List Grant) (x : Action) (o : Outcome) (b : Bell) → grant x o.0 ≡ [] → o.1.rule ≡ b.rule → Good hung ss b → After ss x o
  same_after ss x o b none same h =
      rw (none, append-nil) (record { rules = λ us. ap (λ (m : Meaning). m.allows us) same ∙ h.rules us; soon = h.soon })

  one_granted : (ss : List Grant) (b c : Bell) (a d : ℕ) → Good hung ss b → earliest b.rule a ≡ Some d → c.rule ≡ struck d b.rule → Good hung (ss ++ (record { asked = a; due = d } ∷ [])) c
  one_granted ss b c a d h e s =
      let l = rw e at (earliest_is b.rule a) in
      record {
        rules = λ us. ap (λ (m : Meaning). m.allows us) s ∙ h.rules (d ∷ us) ∙ ap hung.allows (rw (map_push, append_assoc));
        soon = one_more ss (record { asked = a; due = d }) h.soon l.0 (sym (h.rules (d ∷ [])) ∙ l.2) (λ u m n. sym (h.rules (u ∷ [])) ∙ l.3 u m n);
      }

  after_request : (ss : List Grant) (b : Bell) (a : ℕ) (r : Answer) → (outcome b (Request a)).0 ≡ r → Good hung ss b → After ss (Request a) (outcome b (Request a))
  after_request ss b a (Ok (Due d)) e h = rw e (one_granted ss b (outcome b (Request a)).1 a d h (grind arith) (grind arith))
  after_request ss b a _ e h = same_after ss (Request a) (outcome b (Request a)) b (grind arith) (grind arith) h

  after : (ss : List Grant) (b : Bell) (x : Action) → Good hung ss b → After ss x (outcome b x)
  after ss b (Request a) h = after_request ss b a (outcome b (Request a)).0 refl h
  after ss b x h = same_after ss x (outcome b x) b (grind arith) (grind arith) h

  soonest_from : (ss : List Grant) (b : Bell) (xs : List Action) → Good hung ss b → Soon hung (ss ++ granted (ran (Some b) xs))
  soonest_from ss b [] h = rw append-nil h.soon
  soonest_from ss b (x ∷ xs) h =
      rw (← append_assoc ss (grant x (outcome b x).0) (granted (ran (Some (outcome b x).1) xs))) (soonest_from (ss ++ grant x (outcome b x).0) (outcome b x).1 xs (after ss b x h))

  none_granted : Soon hung []
  none_granted = record { timing = (tt, order.empty); least = λ ts t. t.0 }

  pub soonest_run : (b : Bell) → b.rule ≡ hung → (xs : List Action) → Soon hung (granted (ran (Some b) xs))
  soonest_run b e xs = soonest_from [] b xs (record { rules = λ us. ap (λ (m : Meaning). m.allows us) e; soon = none_granted })
