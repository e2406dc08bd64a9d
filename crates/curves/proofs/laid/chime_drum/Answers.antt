use Rattle.std.proofs.Common.{◌≡◌, ℕ, Ok, Result, ap, ◌∙◌}
use Rattle.limits.specs.Limits.{Limit, stair}
use Rattle.limits.specs.Values.{stair_of, jitter_of}
use Rattle.rules.specs.Rules.{Meaning}
use Rattle.rules.proofs.Laying.{laid_same}
use Rattle.curves.proofs.laid.chime_drum.Goals as goal

pub returns : goal.returns
returns c =
    let stairs : jitter_of c.in_ok-order.order ≡ (stair 4 100, stair 1 20) = let e = c.in_ok-order.ensures in cc in
    let first : stair_of c.first.result ≡ stair 4 100 = c.first.ensures ∙ ap (λ (p : Limit × Limit). p.0) stairs in
    let second : stair_of c.second.result ≡ stair 1 20 = c.second.ensures ∙ ap (λ (p : Limit × Limit). p.1) stairs in
    let one = laid_same _ _ _ _ _ c.new-first.ensures.laid first c.new-2.ensures in
    ap {B = Result Meaning ℕ} Ok (laid_same _ _ _ _ _ c.new-3.ensures.laid second one)
