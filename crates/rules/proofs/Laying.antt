-- What a rule with a limit laid on it is, and what it allows.
use Rattle.std.proofs.Common.{◌≡◌, ℕ, true, List, Decides, ap, ◌∙◌}
use Rattle.std.proofs.lemmas.Bool.Decides.{Decides-at, Decides-and}
use Rattle.limits.specs.Limits.{Limit, keeps, Keeps}
use Rattle.rules.specs.Rules.{Meaning, laid}

-- exactly what the rule below allows and the limit keeps
pub laid_exactly : (x : Limit) (m l : Meaning) → l ≡ laid x m → ((ts : List ℕ) → Decides (keeps x ts) (Keeps x ts)) → (ts : List ℕ) → Decides (l.allows ts) ((m.allows ts ≡ true) × Keeps x ts)
laid_exactly x m l e d ts = Decides-at (l.allows ts) ((laid x m).allows ts) (ap (λ (k : Meaning). k.allows ts) e) (Decides-and (m.allows ts) (keeps x ts) ((λ h. h), (λ h. h)) (d ts))

-- the same limit laid on the same rule
pub laid_same : (x y : Limit) (l m n : Meaning) → l ≡ laid x m → x ≡ y → m ≡ n → l ≡ laid y n
laid_same x y l m n e xy mn = e ∙ ap (λ (z : Limit). laid z m) xy ∙ ap (laid y) mn
