-- Equal meanings.
use Rattle.std.proofs.Common.{◌≡◌, ℕ, Bool, true, false, ◌&&◌, List, refl}
use Rattle.rules.specs.Rules.{Meaning}

pub same_meaning : (m n : Meaning) → m.last ≡ n.last → ((ts : List ℕ) → m.allows ts ≡ n.allows ts) → m ≡ n
same_meaning m n p q = λ i. record { last = p i; allows = λ ts. q ts i }

pub same_and : (b x y : Bool) → (b ≡ true → x ≡ y) → (b && x) ≡ (b && y)
same_and false x y h = refl
same_and true x y h = h refl
