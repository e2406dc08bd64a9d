-- Lines and frames side by side, bell by bell.
use Rattle.std.specs.Prelude.{◌≡◌, ◌-◌, ◌/◌, ◌%◌, true, false, if◌then◌else◌, Some, ◌==◌}
use Rattle.std.proofs.Common.{subst, arith}
use Rattle.frames.specs.Bells.{Bell, Bells, Every, alone, beside}

module _ (P : Bell → Type 0) where
  pub every_alone : (b : Bell) → P b → Every P (alone b)
  every_alone b h n c e = let same : b ≡ c = grind arith in subst P same h

  pub every_beside : (l r : Bells) → Every P l → Every P r → Every P (beside l r)
  every_beside l r hl hr n b =
      elim (n % 2 == 0) as (λ even. (if even then l (n / 2) else r ((n - 1) / 2)) ≡ Some b → P b) [
        | true ↦ hl (n / 2) b
        | false ↦ hr ((n - 1) / 2) b
      ]
