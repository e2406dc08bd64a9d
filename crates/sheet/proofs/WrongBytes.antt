-- The byte at which a number goes wrong is the first.
use Rattle.std.proofs.Common.{◌≡◌, ℕ, zero, suc, ◌+◌, ◌-◌, ◌*◌, ◌<◌, ◌≤◌, Bool, true, false, ◌&&◌, eqb, ltb, ◌⊎◌, List, [], ◌∷◌, ◌++◌, length, take as first, Ok, Err, sym, refl, subst, inl, inr, arith}
use Rattle.std.specs.Char.{is_ascii_digit}
use Rattle.std.proofs.lemmas.Bool.{and_parts, ltb-true}
use Rattle.sheet.specs.Numbers.{read_on, read_number}
use Rattle.sheet.specs.Promises.{GoesWrong}

-- after k digits, i more are right
record Stops (n k : ℕ) (cs : List ℕ) (b : ℕ) : Type 0 where
  right : ℕ
  is : b ≡ suc (k + right)
  within : right < length cs
  few : k + right ≤ 13
  before : (m : ℕ) × (read_on n k (first right cs) ≡ Ok m)
  after : (rest : List ℕ) → read_on n k (first (suc right) cs ++ rest) ≡ Err b

abbrev more : ℕ → ℕ → ℕ
more n c = n * 10 + (c - 48)

stops_later : (n k c : ℕ) (cs : List ℕ) (b : ℕ) → (is_ascii_digit c && ltb k 13) ≡ true → Stops (more n c) (suc k) cs b → Stops n k (c ∷ cs) b
stops_later n k c cs b e s =
    let is = s.is in
    let within = s.within in
    let few = s.few in
    record {
      right = suc s.right;
      is = omega arith;
      within = omega arith;
      few = omega arith;
      before = (s.before.0, cc s.before.1);
      after = λ rest. cc (s.after rest);
    }

stops_here : (n k c : ℕ) (cs : List ℕ) → k ≤ 13 → (is_ascii_digit c && ltb k 13) ≡ false → Stops n k (c ∷ cs) (suc k)
stops_here n k c cs h e = record { right = 0; is = omega arith; within = omega arith; few = omega arith; before = (n, refl); after = λ rest. cc }

stops : (n k : ℕ) (cs : List ℕ) (b : ℕ) → k ≤ 13 → read_on n k cs ≡ Err b → Stops n k cs b
stops n k [] b h e = cc
stops n k (c ∷ cs) b h e = go (is_ascii_digit c && ltb k 13) refl (stops (more n c) (suc k) cs b)
  where
    go : (t : Bool) → (is_ascii_digit c && ltb k 13) ≡ t → (suc k ≤ 13 → read_on (more n c) (suc k) cs ≡ Err b → Stops (more n c) (suc k) cs b) → Stops n k (c ∷ cs) b
    go true t rest = stops_later n k c cs b t (rest (ltb-true k 13 (and_parts (is_ascii_digit c) (ltb k 13) t).1) (cc))
    go false t rest = let s : suc k ≡ b = cc in subst (λ (x : ℕ). Stops n k (c ∷ cs) x) s (stops_here n k c cs h t)

wrong_digits : (c : ℕ) (cs : List ℕ) (b : ℕ) → eqb c 48 ≡ false → Stops 0 0 (c ∷ cs) b → GoesWrong (c ∷ cs) b
wrong_digits c cs b e s =
    let is = s.is in
    let within = s.within in
    let few = s.few in
    let next : suc s.right ≡ b = omega arith in
    record {
      place = (omega arith, omega arith);
      before = before s.right (omega arith) s.before;
      after = λ l rest. subst (λ (x : ℕ). read_number (first x (c ∷ cs) ++ rest) ≡ Err b) next (cc (s.after rest));
      empty = λ l. absurd (omega arith);
    }
  where
    before : (r : ℕ) → b ≡ suc r → (m : ℕ) × (read_on 0 0 (first r (c ∷ cs)) ≡ Ok m) → (b ≡ 1) ⊎ ((n : ℕ) × (read_number (first (b - 1) (c ∷ cs)) ≡ Ok n))
    before zero i h = inl i
    before (suc r) i h =
        let back : suc r ≡ b - 1 = omega arith in
        inr (h.0, subst (λ (x : ℕ). read_number (first x (c ∷ cs)) ≡ Ok h.0) back (cc h.1))

wrong_zero : (c : ℕ) (cs : List ℕ) (b : ℕ) → eqb c 48 ≡ true → read_number (c ∷ cs) ≡ Err b → GoesWrong (c ∷ cs) b
wrong_zero c [] b e h = cc
wrong_zero c (d ∷ cs) b e h =
    let two : b ≡ 2 = cc in
    subst (GoesWrong (c ∷ d ∷ cs)) (sym two) (record {
      place = (omega arith, omega arith);
      before = inr (0, cc);
      after = λ l rest. cc;
      empty = λ l. absurd (omega arith);
    })

pub goes_wrong : (text : List ℕ) (b : ℕ) → read_number text ≡ Err b → GoesWrong text b
goes_wrong [] b h =
    let one : b ≡ 1 = cc in
    record { place = (omega arith, omega arith); before = inl one; after = λ l rest. absurd (omega arith); empty = λ l. (refl, one) }
goes_wrong (c ∷ cs) b h = go (eqb c 48) refl
  where
    go : (t : Bool) → eqb c 48 ≡ t → GoesWrong (c ∷ cs) b
    go true e = wrong_zero c cs b e h
    go false e = wrong_digits c cs b e (stops 0 0 (c ∷ cs) b (omega arith) (cc))
