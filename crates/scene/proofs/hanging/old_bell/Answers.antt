use Rattle.std.proofs.Common.{◌≡◌, ℕ, Ok, Result, ap, ◌∙◌}
use Rattle.limits.specs.Limits.{stair}
use Rattle.limits.specs.Values.{stair_of}
use Rattle.rules.specs.Rules.{struck}
use Rattle.rules.proofs.Laying.{laid_same}
use Rattle.frames.specs.Bells.{Bell, fresh}
use Rattle.scene.proofs.hanging.old_bell.Goals as goal

pub returns : goal.returns
returns c =
    let first : stair_of c.in_ok-new.field-0 ≡ stair 1 2000 = let e = c.in_ok-new.ensures in cc in
    let second : stair_of c.in_ok-new-2.field-0 ≡ stair 2 3000 = let e = c.in_ok-new-2.ensures in cc in
    let below = laid_same _ _ _ _ _ c.new-below.ensures.laid first c.new-2.ensures in
    let rung = c.in_ok-strike.ensures.left ∙ ap (struck 500) below in
    let rule = laid_same _ _ _ _ _ c.new-4.ensures.laid second rung in
    ap {B = Result Bell ℕ} Ok (c.new-5.ensures.bell ∙ ap fresh rule)
