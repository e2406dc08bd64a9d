-- How late a stroke can be due.
use Rattle.std.specs.Prelude.{◌≡◌, ℕ, ◌+◌, ◌≤◌, max, MatchOption}
use Rattle.rules.specs.Rules.{Meaning}

-- asked for at t, of a rule with its last stroke at u: due no later than t or u + reach, whichever is later; of an unstruck rule, at t
abbrev pub WithinReach : Meaning → ℕ → ℕ → ℕ → Type 0
WithinReach m reach t due = MatchOption m.last (due ≡ t) (λ u. due ≤ max t (u + reach))
