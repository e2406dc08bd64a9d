-- The audit of a list of ticks on a rule.
use Rattle.std.specs.Prelude.{◌≡◌, ℕ, suc, ◌-◌, ◌≤◌, true, if◌then◌else◌, List, [], ◌∷◌, length, take, Some, None, Option, MatchOption, ◌==◌}
use Rattle.std.specs.List.{AllByRecursion}
use Rattle.limits.specs.Strokes.{last_tick}
use Rattle.rules.specs.Rules.{Meaning, struck}
use Rattle.rules.specs.Calls.{can_strike}

-- the ticks of the records that tell the bell, in their order
abbrev pub ticks_of : {T : Type 0} → (T → ℕ) → (T → ℕ) → ℕ → List T → List ℕ
ticks_of bell tick b [] = []
ticks_of bell tick b (x ∷ xs) = if bell x == b then tick x ∷ ticks_of bell tick b xs else ticks_of bell tick b xs

-- the place, counted from k, of the first tick that can not be struck, after those before it were; or none
abbrev pub audit : Meaning → ℕ → List ℕ → Option ℕ
audit m k [] = None
audit m k (t ∷ ts) = if can_strike m t then audit (struck t m) (suc k) ts else Some k

-- the rule struck by the ticks before that one
abbrev pub audited : Meaning → List ℕ → Meaning
audited m [] = m
audited m (t ∷ ts) = if can_strike m t then audited (struck t m) ts else m

-- the rule can be struck at all these ticks, in their order
abbrev pub Takes : Meaning → List ℕ → Type 0
Takes m ts = (m.allows ts ≡ true) × AllByRecursion (λ t. t ≤ last_tick) ts

-- the k-th tick is the first at which it can not
pub record Refuses (m : Meaning) (ts : List ℕ) (k : ℕ) : Type 0 where
  pub place : (1 ≤ k) × (k ≤ length ts)
  pub before : Takes m (take (k - 1) ts)
  pub there : Takes m (take k ts) → ⊥

-- what an audit answers and leaves: the place of the first tick refused, or none, and the rule struck by those before it
pub record Audited (m : Meaning) (ts : List ℕ) (answer : Option ℕ) (left : Meaning) : Type 0 where
  pub place : answer ≡ audit m 1 ts
  pub first : MatchOption answer (Takes m ts) (Refuses m ts)
  pub struck_before : left ≡ audited m ts
