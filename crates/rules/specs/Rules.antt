-- What a rule means, what it answers, the laws that every rule keeps, and the rules that limits make.
use Rattle.std.specs.Prelude.{◌≡◌, ℕ, zero, suc, ◌+◌, ◌-◌, ◌<◌, ◌≤◌, Bool, true, false, ◌&&◌, List, [], ◌∷◌, ◌++◌, Some, None, Option, MatchOption}
use Rattle.limits.specs.Strokes.{last_tick, rises_from, never_falls, NoLater}
use Rattle.limits.specs.Limits.{Limit, keeps}

-- what there is to know about a rule: when it was last struck, if ever, and which lists of further strokes it lets through
pub record Meaning : Type 0 where
  pub last : Option ℕ
  pub allows : List ℕ → Bool

-- whether one stroke may follow
abbrev pub may : Meaning → ℕ → Bool
may m t = m.allows (t ∷ [])

-- after an accepted stroke at t a list is allowed if t and then the list was allowed before
abbrev pub struck : ℕ → Meaning → Meaning
struck t m = record { last = Some t; allows = λ ts. m.allows (t ∷ ts) }

-- r is the least tick at or after t that may be struck, or none if none from t to the last tick may
abbrev pub Least : Meaning → ℕ → Option ℕ → Type 0
Least m t r = MatchOption r ((u : ℕ) → t ≤ u → u ≤ last_tick → may m u ≡ false) (λ d. (t ≤ d) × (d ≤ last_tick) × (may m d ≡ true) × ((u : ℕ) → t ≤ u → u < d → may m u ≡ false))

-- the first of the k numbers from t on that passes the test
abbrev pub first_passing : (ℕ → Bool) → ℕ → ℕ → Option ℕ
first_passing ok t zero = None
first_passing ok t (suc k) = elim (ok t) [ true ↦ Some t | false ↦ first_passing ok (suc t) k ]

-- that tick
abbrev pub earliest : Meaning → ℕ → Option ℕ
earliest m t = first_passing (may m) t (suc last_tick - t)

-- what is let through never falls; the empty list is, and with a list its first few strokes are
pub record Order (m : Meaning) : Type 0 where
  pub rising : (ts : List ℕ) → m.allows ts ≡ true → never_falls ts ≡ true
  pub empty : m.allows [] ≡ true
  pub beginning : (ts us : List ℕ) → m.allows (ts ++ us) ≡ true → m.allows ts ≡ true

-- strokes that came earlier bar nothing that the later ones would have left open
abbrev pub Early : Meaning → Type 0
Early m = (ts us : List ℕ) (v : ℕ) → NoLater ts us → m.allows ts ≡ true → m.allows (us ++ (v ∷ [])) ≡ true → m.allows (ts ++ (v ∷ [])) ≡ true

-- a last stroke may come later
abbrev pub Late : Meaning → Type 0
Late m = (ts : List ℕ) (u v : ℕ) → u ≤ v → m.allows (ts ++ (u ∷ [])) ≡ true → m.allows (ts ++ (v ∷ [])) ≡ true

-- no rule bars the next stroke for longer than its reach
pub record Reach (m : Meaning) (reach : ℕ) : Type 0 where
  pub unstruck : m.last ≡ None → (t : ℕ) → may m t ≡ true
  pub again : (u : ℕ) → m.last ≡ Some u → may m (u + reach) ≡ true
  pub next : (ts : List ℕ) (u : ℕ) → m.allows (ts ++ (u ∷ [])) ≡ true → m.allows (ts ++ (u ∷ (u + reach) ∷ [])) ≡ true

-- the open rule asks only that time does not run backwards, from its last stroke on
abbrev pub rises_after : Option ℕ → List ℕ → Bool
rises_after None ts = never_falls ts
rises_after (Some u) ts = rises_from u ts

abbrev pub open_rule : Option ℕ → Meaning
open_rule last = record { last = last; allows = rises_after last }

-- a limit as it is laid on a rule
abbrev pub laid : Limit → Meaning → Meaning
laid x m = record { last = m.last; allows = λ ts. m.allows ts && keeps x ts }

-- limits laid one on another, the last of the list first, on an open rule that was never struck
abbrev pub pile : List Limit → Meaning
pile [] = open_rule None
pile (x ∷ xs) = laid x (pile xs)
