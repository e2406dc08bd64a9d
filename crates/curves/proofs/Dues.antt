-- The due ticks under a rule that is known by its meaning.
use Rattle.std.proofs.Common.{◌≡◌, ℕ, List, Ok, Result, ap, ◌∙◌}
use Rattle.rules.specs.Rules.{Meaning}
use Rattle.curves.specs.Dues.{dues_answer}

pub dues_under : (m n : Meaning) (count : ℕ) (answer : Result (List ℕ) ℕ) → ◌≡◌ {A = Result Meaning ℕ} (Ok m) (Ok n) → answer ≡ dues_answer m 0 count → answer ≡ dues_answer n 0 count
dues_under m n count answer e h = let same : m ≡ n = cc in h ∙ ap (λ (k : Meaning). dues_answer k 0 count) same
