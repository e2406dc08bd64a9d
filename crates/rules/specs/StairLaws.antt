-- The laws of a stair alone.
use Rattle.std.specs.Prelude.{◌≡◌, ℕ, ◌+◌, ◌*◌, ◌≤◌, max, true, List, [], ◌∷◌, ◌++◌, refl}
use Rattle.std.proofs.Common.{mul-le-mul_right, arith}
use Rattle.std.proofs.lemmas.Bool.Decides.{nat_tests}
use Rattle.limits.specs.Strokes.{NoLater}
use Rattle.rules.specs.Layers.{afford, stair_own, Begins}
use Rattle.rules.specs.Rules.{Early, Late, Reach}

beginning : (n p w : ℕ) (ts us : List ℕ) → afford n p w (ts ++ us) ≡ true → afford n p w ts ≡ true
beginning n p w [] us h = refl
beginning n p w (t ∷ ts) us h = let rest = beginning n p (max t w + p) ts us in grind arith

early : (n p w w' : ℕ) (ts us : List ℕ) (v : ℕ) → w ≤ w' → NoLater ts us → afford n p w ts ≡ true → afford n p w' (us ++ (v ∷ [])) ≡ true → afford n p w (ts ++ (v ∷ [])) ≡ true
early n p w w' [] [] v ww nl h k = grind (arith, nat_tests)
early n p w w' [] (u ∷ us) v ww nl h k = absurd nl
early n p w w' (t ∷ ts) [] v ww nl h k = absurd nl
early n p w w' (t ∷ ts) (u ∷ us) v ww nl h k = let rest = early n p (max t w + p) (max u w' + p) ts us v in grind (arith, nat_tests)

late : (n p w : ℕ) (ts : List ℕ) (u v : ℕ) → u ≤ v → afford n p w (ts ++ (u ∷ [])) ≡ true → afford n p w (ts ++ (v ∷ [])) ≡ true
late n p w [] u v uv h = grind (arith, nat_tests)
late n p w (t ∷ ts) u v uv h = let rest = late n p (max t w + p) ts u v uv in grind (arith, nat_tests)

next : (n p w : ℕ) (ts : List ℕ) (u : ℕ) → 1 ≤ n → afford n p w (ts ++ (u ∷ [])) ≡ true → afford n p w (ts ++ (u ∷ (u + p) ∷ [])) ≡ true
next n p w [] u hn h = let m : 1 * p ≤ n * p = mul-le-mul_right p hn in grind (arith, nat_tests)
next n p w (t ∷ ts) u hn h = let rest = next n p (max t w + p) ts u hn in grind (arith, nat_tests)

module _ (n p w : ℕ) where
  pub stair_begins : Begins (stair_own n p w)
  stair_begins = record { empty = refl; beginning = beginning n p w }

  pub stair_early : Early (stair_own n p w)
  stair_early ts us v = early n p w w ts us v (omega arith)

  pub stair_late : Late (stair_own n p w)
  stair_late = late n p w

  pub stair_reach : 1 ≤ n → Reach (stair_own n p w) p
  stair_reach hn =
      let k : 1 * p ≤ n * p = mul-le-mul_right p hn in
      record {
        unstruck = λ e t. grind (arith, nat_tests);
        again = λ u e. grind (arith, nat_tests);
        next = λ ts u. next n p w ts u hn;
      }
