use Rattle.std.proofs.Common.{◌≡◌, ℕ, Ok, Result, ap, ◌∙◌}
use Rattle.frames.specs.Bells.{Bells, alone, beside}
use Rattle.scene.specs.Hung.{chime_line, great_line, old_line, chime_bell, great_bell, old_bell}
use Rattle.scene.proofs.hanging.hang.Goals as goal

pub returns : goal.returns
returns c =
    let great : great_line c.in_ok-great.great ≡ great_bell = let e = c.in_ok-great.ensures in cc in
    let small : chime_line c.in_ok-small.small ≡ chime_bell = let e = c.in_ok-small.ensures in cc in
    let old : old_line c.in_ok-old.old ≡ old_bell = let e = c.in_ok-old.ensures in cc in
    let right = c.new.ensures.bells ∙ (λ i. beside (alone (small i)) (alone (old i))) in
    ap {B = Result Bells ℕ} Ok (c.new-2.ensures.bells ∙ (λ i. beside (alone (great i)) (right i)))
