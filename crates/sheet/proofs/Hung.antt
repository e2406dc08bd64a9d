-- The bells of entries that can be hung: each is fresh, and its rule keeps the laws of order and of early strokes.
use Rattle.std.proofs.Common.{◌≡◌, zero, suc, List, [], ◌∷◌, refl, subst}
use Rattle.std.specs.List.{AllByRecursion}
use Rattle.frames.specs.Bells.{Bell, Every, Fresh, Ruled, fresh}
use Rattle.sheet.specs.Sheet.{Entry, Hangable}
use Rattle.sheet.specs.Listing.{limits_of, rule_of, hung}
use Rattle.sheet.proofs.PileLaws.{Laws, pile_laws}

rule_laws : (e : Entry) → Hangable e → Laws (rule_of e)
rule_laws e h = pile_laws (limits_of e) (tt, ((h.stair₂.0, h.stair₂.2), ((h.stair₁.0, h.stair₁.2), tt)))

hung_every : (P : Bell → Type 0) → ((e : Entry) → Hangable e → P (fresh (rule_of e))) → (es : List Entry) → AllByRecursion Hangable es → Every P (hung es)
hung_every P own [] h n b e = cc
hung_every P own (x ∷ es) h zero b e = let is : fresh (rule_of x) ≡ b = cc in subst P is (own x h.0)
hung_every P own (x ∷ es) h (suc n) b e = hung_every P own es h.1 n b e

pub hung_fresh : (es : List Entry) → AllByRecursion Hangable es → Fresh (hung es)
hung_fresh = hung_every (λ b. b ≡ fresh b.rule) (λ _ _. refl)

pub hung_ruled : (es : List Entry) → AllByRecursion Hangable es → Ruled (hung es)
hung_ruled = hung_every (λ b. Laws b.rule) rule_laws
