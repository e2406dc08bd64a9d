-- The laws of a table alone.
use Rattle.std.specs.Prelude.{◌≡◌, ℕ, ◌+◌, ◌≤◌, true, List, [], ◌∷◌, ◌++◌, length, Some, None, refl}
use Rattle.std.proofs.Common.{arith}
use Rattle.std.proofs.lemmas.Bool.Decides.{nat_tests}
use Rattle.limits.specs.Strokes.{NoLater}
use Rattle.limits.specs.Limits.{largest}
use Rattle.rules.specs.Layers.{spaced, keep_apart, table_last, table_own, Begins}
use Rattle.rules.specs.Rules.{Early, Late, Reach}

spaced_none : (ds : List ℕ) (t : ℕ) → spaced ds [] t ≡ true
spaced_none [] t = refl
spaced_none (d ∷ ds) t = refl

-- an earlier past and a later stroke
spaced_mono : (ds xs ys : List ℕ) (t u : ℕ) → NoLater xs ys → t ≤ u → spaced ds ys t ≡ true → spaced ds xs u ≡ true
spaced_mono [] xs ys t u nl tu h = refl
spaced_mono (d ∷ ds) [] ys t u nl tu h = refl
spaced_mono (d ∷ ds) (x ∷ xs) [] t u nl tu h = absurd nl
spaced_mono (d ∷ ds) (x ∷ xs) (y ∷ ys) t u nl tu h = let more = spaced_mono ds xs ys t u nl.1 tu in grind (arith, nat_tests)

no_later_refl : (xs : List ℕ) → NoLater xs xs
no_later_refl [] = tt
no_later_refl (x ∷ xs) = (omega arith, no_later_refl xs)

-- past strokes that are no later than u leave open what lies the largest distance after u
spaced_all : (ds xs : List ℕ) (u s : ℕ) → largest ds ≤ s → largest xs ≤ u → spaced ds xs (u + s) ≡ true
spaced_all [] xs u s ls lx = refl
spaced_all (d ∷ ds) [] u s ls lx = refl
spaced_all (d ∷ ds) (x ∷ xs) u s ls lx = let more = spaced_all ds xs u s (omega arith) (omega arith) in grind (arith, nat_tests)

-- so do those that left u open, one place further back
spaced_next : (gs ds xs : List ℕ) (u s : ℕ) → length ds ≤ length gs → largest ds ≤ s → spaced gs xs u ≡ true → spaced ds xs (u + s) ≡ true
spaced_next gs [] xs u s long ls h = refl
spaced_next gs (d ∷ ds) [] u s long ls h = refl
spaced_next [] (d ∷ ds) (x ∷ xs) u s long ls h = absurd (omega arith)
spaced_next (g ∷ gs) (d ∷ ds) (x ∷ xs) u s long ls h = let more = spaced_next gs ds xs u s (omega arith) (omega arith) in grind (arith, nat_tests)

spaced_again : (given past : List ℕ) (u : ℕ) → spaced given past u ≡ true → spaced given (u ∷ past) (u + largest given) ≡ true
spaced_again [] past u h = refl
spaced_again (d ∷ ds) past u h = let more = spaced_next (d ∷ ds) ds past u (largest (d ∷ ds)) (omega arith) (omega arith) h in grind (arith, nat_tests)

beginning : (given past ts us : List ℕ) → keep_apart given past (ts ++ us) ≡ true → keep_apart given past ts ≡ true
beginning given past [] us h = refl
beginning given past (t ∷ ts) us h = let rest = beginning given (t ∷ past) ts us in grind arith

early : (given past past' ts us : List ℕ) (v : ℕ) → NoLater past past' → NoLater ts us → keep_apart given past ts ≡ true → keep_apart given past' (us ++ (v ∷ [])) ≡ true → keep_apart given past (ts ++ (v ∷ [])) ≡ true
early given past past' [] [] v nlp nl h k = let last = spaced_mono given past past' v v nlp (omega arith) in grind arith
early given past past' [] (u ∷ us) v nlp nl h k = absurd nl
early given past past' (t ∷ ts) [] v nlp nl h k = absurd nl
early given past past' (t ∷ ts) (u ∷ us) v nlp nl h k = let rest = early given (t ∷ past) (u ∷ past') ts us v (nl.0, nlp) nl.1 in grind arith

late : (given past ts : List ℕ) (u v : ℕ) → u ≤ v → keep_apart given past (ts ++ (u ∷ [])) ≡ true → keep_apart given past (ts ++ (v ∷ [])) ≡ true
late given past [] u v uv h = let last = spaced_mono given past past u v (no_later_refl past) uv in grind arith
late given past (t ∷ ts) u v uv h = let rest = late given (t ∷ past) ts u v uv in grind arith

next : (given past ts : List ℕ) (u : ℕ) → keep_apart given past (ts ++ (u ∷ [])) ≡ true → keep_apart given past (ts ++ (u ∷ (u + largest given) ∷ [])) ≡ true
next given past [] u h = let last = spaced_again given past u in grind arith
next given past (t ∷ ts) u h = let rest = next given (t ∷ past) ts u in grind arith

unstruck : (given past : List ℕ) → table_last past ≡ None → (t : ℕ) → keep_apart given past (t ∷ []) ≡ true
unstruck given [] e t = let free = spaced_none given t in grind arith
unstruck given (x ∷ xs) e t = absurd (let z : ◌≡◌ {A = ℕ} 0 1 = cc in omega arith)

again : (given past : List ℕ) (u : ℕ) → table_last past ≡ Some u → keep_apart given past ((u + largest given) ∷ []) ≡ true
again given [] u e = absurd (let z : ◌≡◌ {A = ℕ} 0 1 = cc in omega arith)
again given (x ∷ xs) u e =
    let top : largest (x ∷ xs) ≡ u = cc in
    let free = spaced_all given (x ∷ xs) u (largest given) (omega arith) (omega arith) in
    grind arith

module _ (given past : List ℕ) where
  pub table_begins : Begins (table_own given past)
  table_begins = record { empty = refl; beginning = beginning given past }

  pub table_early : Early (table_own given past)
  table_early ts us v = early given past past ts us v (no_later_refl past)

  pub table_late : Late (table_own given past)
  table_late = late given past

  pub table_reach : Reach (table_own given past) (largest given)
  table_reach = record { unstruck = unstruck given past; again = again given past; next = next given past }
