-- The worked examples, by computation.
use Rattle.std.proofs.Common.{[], ◌∷◌, refl, arith, lit≤}
use Rattle.std.proofs.lemmas.Bool.Decides.{not_from_Decides}
use Rattle.limits.specs.Limits.{keeps_stair}
use Rattle.rules.specs.Examples.{WorkedExamples}
use Rattle.rules.proofs.Stairs.{decides_stair}

pub worked_examples : WorkedExamples
worked_examples = record {
  three_stairs = refl;
  two_distances = refl;
  tenth = (decides_stair 1 10 (0 ∷ 10 ∷ []) (lit≤ tt)).0 refl;
  not_ninth = not_from_Decides (keeps_stair 1 10 (0 ∷ 9 ∷ [])) (decides_stair 1 10 (0 ∷ 9 ∷ []) (lit≤ tt)) refl;
  burst_refused = refl;
  burst_taken = refl;
  minute_refused = refl;
  minute_taken = refl;
  both_first = refl;
  both_refused = refl;
  both_second = refl;
  both_third = refl;
  jitter = refl;
  none_keeps = λ n p. (refl, λ a b ab. omega arith);
}
