use Rattle.std.proofs.Common.{◌≡◌, ℕ, Ok, Result, ap, ◌∙◌}
use Rattle.limits.specs.Limits.{stair}
use Rattle.limits.specs.Values.{stair_of}
use Rattle.rules.proofs.Laying.{laid_same}
use Rattle.frames.specs.Bells.{Bell, fresh}
use Rattle.scene.proofs.hanging.great_bell.Goals as goal

pub returns : goal.returns
returns c =
    let minute : stair_of c.in_ok-new.field-0 ≡ stair 2 60000 = let e = c.in_ok-new.ensures in cc in
    let rule = laid_same _ _ _ _ _ c.new-3.ensures.laid minute c.new-2.ensures in
    ap {B = Result Bell ℕ} Ok (c.new-4.ensures.bell ∙ ap fresh rule)
