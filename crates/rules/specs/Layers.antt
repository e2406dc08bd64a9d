-- Limits as a rule keeps them, stroke by stroke: what each remembers, and its test of the next strokes.
use Rattle.std.specs.Prelude.{◌≡◌, ℕ, ◌+◌, ◌-◌, ◌*◌, max, Bool, true, false, ◌&&◌, List, [], ◌∷◌, ◌++◌, Some, None, Option, MatchOption, ◌==◌, nat_le, if◌then◌else◌}
use Rattle.limits.specs.Limits.{Limit, stair, table, largest}
use Rattle.rules.specs.Rules.{Meaning, struck}
use Rattle.rules.specs.Calls.{can_strike}

-- the later of two ticks, either of which may be missing
abbrev pub later : Option ℕ → Option ℕ → Option ℕ
later None y = y
later (Some u) None = Some u
later (Some u) (Some v) = Some (max u v)

-- a limit laid on a rule: what both allow, and the later of their last strokes
abbrev pub layered : Meaning → Meaning → Meaning
layered own m = record { last = later own.last m.last; allows = λ ts. m.allows ts && own.allows ts }

-- what a limit alone keeps of the law of order: the rule below sees to it that lists never fall
pub record Begins (own : Meaning) : Type 0 where
  pub empty : own.allows [] ≡ true
  pub beginning : (ts us : List ℕ) → own.allows (ts ++ us) ≡ true → own.allows ts ≡ true

-- a limit after a stroke at t, or none if it can not be struck there: laid on any rule that was struck at t, it is the whole struck at t
abbrev pub Next : {T : Type 0} → (T → Meaning) → (T → ℕ) → T → ℕ → Option T → Type 0
Next own span s t r = MatchOption r (can_strike (own s) t ≡ false) (λ next. (can_strike (own s) t ≡ true) × ((m : Meaning) → layered (own next) (struck t m) ≡ struck t (layered (own s) m)) × (span next ≡ span s))

-- a stair of burst n and period p remembers the tick w at which its burst is whole again, 0 at first
abbrev pub afford : ℕ → ℕ → ℕ → List ℕ → Bool
afford n p w [] = true
afford n p w (t ∷ ts) = nat_le (w + p) (t + n * p) && afford n p (max t w + p) ts

-- its own last stroke, as far as that number tells: none if the burst was never touched, else the least tick that it can have had
abbrev pub stair_last : ℕ → ℕ → ℕ → Option ℕ
stair_last n p w = if w == 0 then None else Some (w - n * p)

abbrev pub stair_own : ℕ → ℕ → ℕ → Meaning
stair_own n p w = record { last = stair_last n p w; allows = afford n p w }

-- a table remembers its strokes, the newest first: each lies its given distance before t, as far as the given distances go
abbrev pub spaced : List ℕ → List ℕ → ℕ → Bool
spaced [] past t = true
spaced (d ∷ ds) [] t = true
spaced (d ∷ ds) (x ∷ xs) t = nat_le (x + d) t && spaced ds xs t

abbrev pub keep_apart : List ℕ → List ℕ → List ℕ → Bool
keep_apart given past [] = true
keep_apart given past (t ∷ ts) = spaced given past t && keep_apart given (t ∷ past) ts

-- its own last stroke: the latest that it remembers
abbrev pub table_last : List ℕ → Option ℕ
table_last [] = None
table_last (x ∷ xs) = Some (largest (x ∷ xs))

abbrev pub table_own : List ℕ → List ℕ → Meaning
table_own given past = record { last = table_last past; allows = keep_apart given past }

-- how long a limit can bar the next stroke: a stair for its period, a table for its largest distance
abbrev pub longest_bar : Limit → ℕ
longest_bar (stair n p) = p
longest_bar (table given) = largest given
