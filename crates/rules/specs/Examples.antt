-- Worked examples of the definitions, in one statement.
use Rattle.std.specs.Prelude.{◌≡◌, ℕ, true, false, [], ◌∷◌, replicate, Ok}
use Rattle.limits.specs.Limits.{stair, table, KeepsStair}
use Rattle.rules.specs.Rules.{Meaning, pile, may, struck}
use Rattle.rules.specs.Bursts.{dues}
use Rattle.limits.specs.Jitter.{jittered}

-- the stair (2, 100) on the table 50
abbrev pub stair_on_table : Meaning
stair_on_table = pile (stair 2 100 ∷ table (50 ∷ []) ∷ [])

pub record WorkedExamples : Type 0 where
  -- the stairs (1, 1), (3, 4) and (5, 8) together: nine strokes asked for at 0
  pub three_stairs : dues (pile (stair 1 1 ∷ stair 3 4 ∷ stair 5 8 ∷ [])) (replicate 9 0) ≡ 0 ∷ 1 ∷ 2 ∷ 4 ∷ 8 ∷ 12 ∷ 16 ∷ 24 ∷ 32 ∷ []
  -- the table 10, 30: five strokes asked for at 0
  pub two_distances : dues (pile (table (10 ∷ 30 ∷ []) ∷ [])) (replicate 5 0) ≡ 0 ∷ 10 ∷ 30 ∷ 40 ∷ 60 ∷ []
  -- the stair (1, 10): a window from 0 to 10 has room for a second stroke, one from 0 to 9 has not
  pub tenth : KeepsStair 1 10 (0 ∷ 10 ∷ [])
  pub not_ninth : KeepsStair 1 10 (0 ∷ 9 ∷ []) → ⊥
  -- the stair (2, 100), struck at 0 and 0
  pub burst_refused : may (struck 0 (struck 0 (pile (stair 2 100 ∷ [])))) 99 ≡ false
  pub burst_taken : may (struck 0 (struck 0 (pile (stair 2 100 ∷ [])))) 100 ≡ true
  -- one stroke a minute, struck at 0
  pub minute_refused : may (struck 0 (pile (stair 1 60000 ∷ []))) 59999 ≡ false
  pub minute_taken : may (struck 0 (pile (stair 1 60000 ∷ []))) 60000 ≡ true
  -- the stair (2, 100) with the table 50: the stroke that the table refuses is not charged to the stair
  pub both_first : may stair_on_table 0 ≡ true
  pub both_refused : may (struck 0 stair_on_table) 10 ≡ false
  pub both_second : may (struck 0 stair_on_table) 50 ≡ true
  pub both_third : may (struck 50 (struck 0 stair_on_table)) 100 ≡ true
  -- period 100, jitter 300 and distance 20
  pub jitter : jittered 100 300 20 ≡ Ok (stair 4 100, stair 1 20)
  -- no stroke at all keeps any stair
  pub none_keeps : (n p : ℕ) → KeepsStair n p []
