-- The distances of a table: the given ones, and past those the largest sums.
use Rattle.std.proofs.Common.{◌≡◌, ℕ, zero, suc, ◌+◌, ◌-◌, ◌<◌, ◌≤◌, List, [], ◌∷◌, reverse, length, get_or, sym, refl, ap, ◌∙◌, ⊎_elim, arith}
use lib.ListN.{length-reverse}
use Rattle.std.proofs.lemmas.List.{get_or_past, get_or-reverse, reverse-reverse}
use Rattle.std.proofs.lemmas.Bool.{cases_lt}
use Rattle.limits.specs.Limits.{largest_sum, extended, distance, Distances}

pub length-extended : (given : List ℕ) (k : ℕ) → length (extended given k) ≡ length given + k
length-extended given zero = let e = length-reverse given in omega arith
length-extended given (suc k) = let e = length-extended given k in omega arith

pub distance_given : (given : List ℕ) (k : ℕ) → k < length given → distance given (suc k) ≡ get_or given k 0
distance_given given k h =
    let e₁ : suc k - length given ≡ 0 = omega arith in
    let e₂ : suc k - 1 ≡ k = omega arith in
    rw (e₁, e₂, reverse-reverse)

pub distance_more : (given : List ℕ) (k : ℕ) → distance given (length given + suc k) ≡ largest_sum given (extended given k)
distance_more given k =
    let e₁ : length given + suc k - length given ≡ suc k = omega arith in
    let n = length-extended given (suc k) in
    let e₂ : length (extended given (suc k)) - 1 - (length given + suc k - 1) ≡ 0 = omega arith in
    rw e₁ (get_or-reverse (extended given (suc k)) (length given + suc k - 1) 0 (omega arith) ∙ ap (λ (x : ℕ). get_or (extended given (suc k)) x 0) e₂)

pub extended_at : (given : List ℕ) (k w : ℕ) → w < length given + k → get_or (extended given k) w 0 ≡ distance given (length given + k - w)
extended_at given zero w h =
    let e : suc (length given - 1 - w) ≡ length given + 0 - w = omega arith in
    get_or-reverse given w 0 (omega arith) ∙ sym (distance_given given (length given - 1 - w) (omega arith)) ∙ ap (distance given) e
extended_at given (suc k) zero h =
    let e : length given + suc k ≡ length given + suc k - 0 = omega arith in
    sym (distance_more given k) ∙ ap (distance given) e
extended_at given (suc k) (suc w) h =
    let e : length given + k - w ≡ length given + suc k - suc w = omega arith in
    extended_at given k w (omega arith) ∙ ap (distance given) e

-- the largest sum is one of the sums, and no other is larger
sum_upper : (xs ds : List ℕ) (w : ℕ) → w < length xs → w < length ds → get_or xs w 0 + get_or ds w 0 ≤ largest_sum xs ds
sum_upper [] ds w p q = absurd (omega arith)
sum_upper (x ∷ xs) [] w p q = absurd (omega arith)
sum_upper (x ∷ xs) (d ∷ ds) zero p q = omega arith
sum_upper (x ∷ xs) (d ∷ ds) (suc w) p q = let rest = sum_upper xs ds w (omega arith) (omega arith) in omega arith

abbrev Summed : List ℕ → List ℕ → Type 0
Summed xs ds = (w : ℕ) × (w < length xs) × (w < length ds) × (largest_sum xs ds ≡ get_or xs w 0 + get_or ds w 0)

summed_more : (x d : ℕ) (xs ds : List ℕ) → Summed xs ds → Summed (x ∷ xs) (d ∷ ds)
summed_more x d xs ds s =
    let e = s.3 in
    ⊎_elim
    (λ (less : x + d < largest_sum xs ds). (suc s.0, omega (arith, s.1), omega (arith, s.2), omega arith))
    (λ (more : largest_sum xs ds ≤ x + d). (0, omega arith, omega arith, omega arith))
    (cases_lt (x + d) (largest_sum xs ds))

sum_one : (xs ds : List ℕ) → 1 ≤ length xs → 1 ≤ length ds → Summed xs ds
sum_one [] ds p q = absurd (omega arith)
sum_one (x ∷ xs) [] p q = absurd (omega arith)
sum_one (x ∷ []) (d ∷ ds) p q = (0, omega arith, omega arith, omega arith)
sum_one (x ∷ y ∷ xs) (d ∷ []) p q = (0, omega arith, omega arith, omega arith)
sum_one (x ∷ y ∷ xs) (d ∷ e ∷ ds) p q = summed_more x d (y ∷ xs) (e ∷ ds) (sum_one (y ∷ xs) (e ∷ ds) (omega arith) (omega arith))

-- so a distance past the given ones is the largest sum of a given and a shorter one
further : (given : List ℕ) (n : ℕ) → length given < n → distance given n ≡ largest_sum given (extended given (n - length given - 1))
further given n l =
    let e : length given + suc (n - length given - 1) ≡ n = omega arith in
    ap (distance given) (sym e) ∙ distance_more given (n - length given - 1)

given_at : (given : List ℕ) (n : ℕ) → 1 ≤ n → n ≤ length given → distance given n ≡ get_or given (n - 1) 0
given_at given n one l = let e : suc (n - 1) ≡ n = omega arith in ap (distance given) (sym e) ∙ distance_given given (n - 1) (omega arith)

shorter_at : (given : List ℕ) (n w : ℕ) → length given < n → w < length given → get_or (extended given (n - length given - 1)) w 0 ≡ distance given (n - suc w)
shorter_at given n w l lw =
    let e : length given + (n - length given - 1) - w ≡ n - suc w = omega arith in
    extended_at given (n - length given - 1) w (omega arith) ∙ ap (distance given) e

pub distances : (given : List ℕ) → Distances given (distance given)
distances given = record {
  near = given_at given;
  no_larger = λ n w l one lw.
      let m = length-extended given (n - length given - 1) in
      let top = sum_upper given (extended given (n - length given - 1)) (w - 1) (omega arith) (omega arith) in
      let a = given_at given w one lw in
      let b = shorter_at given n (w - 1) l (omega arith) in
      let c : n - suc (w - 1) ≡ n - w = omega arith in
      let b' = b ∙ ap (distance given) c in
      rw (further given n l, a) (omega arith);
  as_large = λ n l some.
      let m = length-extended given (n - length given - 1) in
      let s = sum_one given (extended given (n - length given - 1)) some (omega arith) in
      let a = given_at given (suc s.0) (omega arith) (omega (arith, s.1)) in
      let z : suc s.0 - 1 ≡ s.0 = omega arith in
      let a' = a ∙ ap (λ (k : ℕ). get_or given k 0) z in
      let b = shorter_at given n s.0 l s.1 in
      let e = further given n l ∙ s.3 in
      (suc s.0, omega arith, omega (arith, s.1), omega arith);
  none = nothing given;
}
  where
    nothing : (given : List ℕ) (n : ℕ) → length given ≡ 0 → distance given n ≡ 0
    nothing [] n e = all (n - 0) (n - 1)
      where
        zeros : (k j : ℕ) → get_or (extended [] k) j 0 ≡ 0
        zeros zero j = refl
        zeros (suc k) zero = refl
        zeros (suc k) (suc j) = zeros k j

        all : (k j : ℕ) → get_or (reverse (extended [] k)) j 0 ≡ 0
        all k j =
            ⊎_elim
            (λ (inside : j < length (extended [] k)). get_or-reverse (extended [] k) j 0 inside ∙ zeros k (length (extended [] k) - 1 - j))
            (λ (past : length (extended [] k) ≤ j). get_or_past (reverse (extended [] k)) j 0 (let r = length-reverse (extended [] k) in omega arith))
            (cases_lt j (length (extended [] k)))
    nothing (x ∷ given) n e = absurd (omega arith)
