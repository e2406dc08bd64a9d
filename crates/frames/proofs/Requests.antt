-- How late a granted request can be due.
use Rattle.std.proofs.Common.{◌≡◌, ℕ, ◌+◌, ◌≤◌, max, true, [], Some, None, Option, refl, arith, MatchOption}
use Rattle.rules.specs.Rules.{Meaning, Late, Reach, Least, may}
use Rattle.frames.specs.Reaches.{WithinReach}

module _ {m : Meaning} {reach : ℕ} (late : Late m) (r : Reach m reach) (t d : ℕ) (least : Least m t (Some d)) where
  -- it comes no later than any tick from t on that may be struck
  no_later : (v : ℕ) → t ≤ v → may m v ≡ true → d ≤ v
  no_later v from ok = grind (arith, least.3 v from)

  within : (o : Option ℕ) → m.last ≡ o → MatchOption o (d ≡ t) (λ u. d ≤ max t (u + reach))
  within None last = let here = no_later t (omega arith) (r.unstruck last t) in grind (arith, least.0)
  within (Some u) last = no_later (max t (u + reach)) (omega arith) (late [] (u + reach) (max t (u + reach)) (omega arith) (r.again u last))

  pub within_reach : WithinReach m reach t d
  within_reach = within m.last refl
