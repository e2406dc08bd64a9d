-- The earliest tick of a rule is the least that may be struck, and what that is where a layer bars all ticks before some number.
use Rattle.std.proofs.Common.{◌≡◌, ℕ, zero, suc, ◌+◌, ◌-◌, ◌<◌, ◌≤◌, max, Bool, true, false, leb, Some, None, Option, refl, ap, inl, inr, arith, MatchOption}
use Rattle.std.proofs.lemmas.Bool.{both_ways, cases_order}
use Rattle.std.proofs.lemmas.Bool.Decides.{nat_tests}
use Rattle.limits.specs.Strokes.{last_tick}
use Rattle.rules.specs.Rules.{Meaning, may, Least, first_passing, earliest}
use Rattle.rules.specs.Layers.{layered}

-- the first of the k numbers from t on that passes, or none of them does
abbrev First : (ℕ → Bool) → ℕ → ℕ → Option ℕ → Type 0
First ok t k r = MatchOption r ((u : ℕ) → t ≤ u → u < t + k → ok u ≡ false) (λ d. (t ≤ d) × (d < t + k) × (ok d ≡ true) × ((u : ℕ) → t ≤ u → u < d → ok u ≡ false))

-- one number more in front
later : (ok : ℕ → Bool) (t k : ℕ) (r : Option ℕ) → ok t ≡ false → First ok (suc t) k r → First ok t (suc k) r
later ok t k None e h = λ u l m. grind arith
later ok t k (Some d) e h = grind arith

found : (ok : ℕ → Bool) (t k : ℕ) (r : Option ℕ) (e : Bool) → ok t ≡ e → First ok (suc t) k r → First ok t (suc k) (elim e [ true ↦ Some t | false ↦ r ])
found ok t k r true p h = (omega arith, omega arith, p, λ u l m. absurd (omega arith))
found ok t k r false p h = later ok t k r p h

first_passing_is : (ok : ℕ → Bool) (t k : ℕ) → First ok t k (first_passing ok t k)
first_passing_is ok t zero = λ u l m. absurd (omega arith)
first_passing_is ok t (suc k) = found ok t k (first_passing ok (suc t) k) (ok t) refl (first_passing_is ok (suc t) k)

to_least : (m : Meaning) (t : ℕ) (r : Option ℕ) → First (may m) t (suc last_tick - t) r → Least m t r
to_least m t r h = grind arith

pub earliest_is : (m : Meaning) (t : ℕ) → Least m t (earliest m t)
earliest_is m t = to_least m t (earliest m t) (first_passing_is (may m) t (suc last_tick - t))

-- there is but one
only : (m : Meaning) (t : ℕ) (r s : Option ℕ) → Least m t r → Least m t s → r ≡ s
only m t None None h k = refl
only m t None (Some e) h k = absurd (both_ways (may m e) (h e k.0 k.1) k.2)
only m t (Some d) None h k = absurd (both_ways (may m d) (k d h.0 h.1) h.2)
only m t (Some d) (Some e) h k =
    elim (cases_order d e) [
      | inl same ↦ ap {B = Option ℕ} Some same
      | inr (inl less) ↦ absurd (both_ways (may m d) (k.3 d h.0 less) h.2)
      | inr (inr more) ↦ absurd (both_ways (may m e) (h.3 e k.0 more) k.2)
    ]

pub least_earliest : (m : Meaning) (t : ℕ) (r : Option ℕ) → Least m t r → earliest m t ≡ r
least_earliest m t r h = only m t (earliest m t) r (earliest_is m t) h

-- a limit that bars just the numbers before x, on a rule
barred : (x t : ℕ) (own m : Meaning) (r : Option ℕ) → ((u : ℕ) → may own u ≡ leb x u) → Least m (max t x) r → Least (layered own m) t r
barred x t own m None b h = λ u tu ul. let e = b u in let f = λ (xu : x ≤ u). h u (omega arith) ul in grind (arith, nat_tests)
barred x t own m (Some d) b h = (
  omega arith,
  h.1,
  (let e = b d in let f = h.2 in let g : x ≤ d = omega arith in grind (arith, nat_tests)),
  λ u tu ud. let e = b u in let f = λ (xu : x ≤ u). h.3 u (omega arith) ud in grind (arith, nat_tests),
)

pub earliest_barred : (x t : ℕ) (own m : Meaning) → ((u : ℕ) → may own u ≡ leb x u) → earliest (layered own m) t ≡ earliest m (max t x)
earliest_barred x t own m b = least_earliest (layered own m) t (earliest m (max t x)) (barred x t own m (earliest m (max t x)) b (earliest_is m (max t x)))

-- past the last tick there is none
pub earliest_past : (m : Meaning) (t : ℕ) → last_tick < t → earliest m t ≡ None
earliest_past m t h = least_earliest m t None (λ u tu ul. absurd (omega arith))

-- where nothing but the numbers before x is barred, it is the tick asked for, or x
pub earliest_open : (x t : ℕ) (m : Meaning) → ((u : ℕ) → may m u ≡ leb x u) → max t x ≤ last_tick → earliest m t ≡ Some (max t x)
earliest_open x t m b l = least_earliest m t (Some (max t x)) (
  omega arith,
  l,
  (let e = b (max t x) in grind (arith, nat_tests)),
  λ u tu ud. let e = b u in grind (arith, nat_tests),
)

-- or none, if x lies past the last tick
pub earliest_shut : (x t : ℕ) (m : Meaning) → ((u : ℕ) → may m u ≡ leb x u) → last_tick < max t x → t ≤ last_tick → earliest m t ≡ None
earliest_shut x t m b l tl = least_earliest m t None (λ u tu ul. let e = b u in grind (arith, nat_tests))
